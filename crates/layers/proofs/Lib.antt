pub mod FoldingSearch
pub mod Growth
pub mod Settling
