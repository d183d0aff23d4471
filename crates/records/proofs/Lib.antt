pub mod Bytes
pub mod Places
pub mod Questions
pub mod Trips
