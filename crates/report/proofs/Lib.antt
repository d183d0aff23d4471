pub mod Adding
pub mod Bounding
pub mod Opening
pub mod Registering
pub mod Telling
