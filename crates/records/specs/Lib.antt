pub mod Fields
pub mod Kinds
pub mod Questions
pub mod Reading
pub mod Refusals
pub mod Trips
pub mod Writing
