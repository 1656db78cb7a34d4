-- The syntax of formulas below their grammar: tokens, what plan words stand for, trees and their cells. In reading order:
pub mod Kinds
pub mod Lex
pub mod Cells
pub mod Writer
pub mod Plans
pub mod Tree
