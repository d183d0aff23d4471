pub mod Small
pub mod Tables
