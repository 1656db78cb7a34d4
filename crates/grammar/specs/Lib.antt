-- The text of a formula (a rule in a problem's text), from its tokens to a tree and its cells. In reading order:
pub mod Limits
pub mod Grammar
pub mod Parse
pub mod PlanParse
pub mod Names
pub mod Answer
