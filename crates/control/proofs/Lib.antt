pub mod DialogueLaws
pub mod Theorems
