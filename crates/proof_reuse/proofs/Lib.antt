-- What to cite from above: `publish_followed` (SwapIns) that a swap-in makes followed but what is private, `followed_known` that what is followed is known;
-- `public_then_on` (Committed) that what another node was committed over, or has failed (`has_failed`), is private to nobody;
-- `since_along`, `begun_later` (BegunSince) that who ran nothing then runs only what has begun since; `unknown_after_grace` (Unknown);
-- `left_for_good` (LeftForGood) that who has left a SWAP's node is never on it again;
-- `state_then` (InLists) that the state after some of the steps is the one of that time.
pub mod SwapIns
pub mod Committed
pub mod Own
pub mod Unlinked
pub mod BegunSince
pub mod Offered
pub mod Unknown
pub mod OnePlace
pub mod InLists
pub mod LeftForGood
pub mod SwappedOut
