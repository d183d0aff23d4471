pub mod Candidates
pub mod Closed
pub mod Least
pub mod Sets
pub mod Widening
