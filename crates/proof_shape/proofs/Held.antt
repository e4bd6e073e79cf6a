-- What operations made and nobody else can come to read yet.
pub mod Fresh
pub mod Lines
pub mod Build
pub mod Chain
pub mod Entries
pub mod Repair
pub mod Free
pub mod At
pub mod Commits
