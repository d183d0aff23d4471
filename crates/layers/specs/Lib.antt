pub mod Foldings
pub mod Held
pub mod Laws
pub mod Layers
pub mod Picking
pub mod Soundness
