-- What others left undecided, as a weight that falls: each of it is paid once.
pub mod Offers
pub mod NonePending
pub mod Flat
pub mod FineSums
pub mod FailedOwners
pub mod FineWeight
pub mod FineSteps
pub mod FinePays
pub mod FineOwners
pub mod Fine
