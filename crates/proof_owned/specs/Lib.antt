pub mod Beneath
pub mod Owned
pub mod Laws
pub mod Singles
pub mod Window
