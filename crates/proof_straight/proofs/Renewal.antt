-- A call that renews a branch on its way.
pub mod Renewing
pub mod RenewalNoted
pub mod RenewedCall
pub mod Transplants
pub mod Renews
pub mod NewEntries
pub mod Passing
