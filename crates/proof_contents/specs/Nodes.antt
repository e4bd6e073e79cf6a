-- Single nodes: what is found in them, and what changes of one are.
pub mod Branches
pub mod Looking
pub mod Lists
pub mod Changing
pub mod Chains
