-- What to cite from above: what a call is told, asks and does, wherever it stands (Wherever).
pub mod Anew
pub mod Going
pub mod Rooting
pub mod Wherever
