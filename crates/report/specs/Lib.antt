pub mod Candidates
pub mod Drafts
pub mod Files
pub mod Lines
pub mod Registers
