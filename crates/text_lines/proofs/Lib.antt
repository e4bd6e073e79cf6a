pub mod Numbers
pub mod FirstLine
pub mod Following
pub mod Parts
pub mod Lacking
pub mod Again
pub mod Whole
