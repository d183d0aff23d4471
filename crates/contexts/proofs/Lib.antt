pub mod Coding
pub mod Failing
pub mod Writing
