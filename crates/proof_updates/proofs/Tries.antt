-- Each step repairs a main node or updates a key in it, and so leads contents on.
pub mod Repairing
pub mod Does
pub mod EachOperation
pub mod Updates
pub mod Facts
pub mod OfLists
pub mod OfRuns
pub mod Commits
