pub mod Lanes
pub mod Colours
pub mod Stands
pub mod Placing
pub mod Scenes
pub mod Laws
