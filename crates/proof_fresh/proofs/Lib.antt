-- What to cite from above: `fresh_below` (Below) after a list of steps; `has_at` (At) from where what is private has its references, on each line at each time of a
-- run; `others_leave` (Untouched) that it stays as it is in the steps of others; `publishing` (Publishing) who swaps a main node in. Of a step that does (OnlyOffers):
-- `publish_known` that it makes known but what is private, and `swap_refs` the same of whatever leads on through slots.
pub mod From
pub mod Untouched
pub mod Lines
pub mod Build
pub mod Repair
pub mod At
pub mod Below
pub mod Publishing
pub mod SwappedIn
pub mod OnlyOffers
