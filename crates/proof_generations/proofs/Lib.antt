-- What to cite from above.
--
-- Running operations over a step: `comes` (Handles.Running) says where the operation at a place comes from, `place_of_actor` which place an actor has,
-- `one_at` that there is one; `ran_or_began` (Handles.Operations) the same with its line and mark. `has_handles_at` says that its handle stays open;
-- `one_of_id` (Handles.Ids) that an id is one operation's.
--
-- Offers: `step_kind` (Offers.Swaps) parts root swaps from all other steps; StandsBy and `own_numbers` (Offers.Standing) say whose a standing offer is,
-- `carried_stands` (Offers.Marks) that what is carried out stands, `same_offer` (Offers.Same) that it is the very same one. Which offer a line is to settle:
-- Lines.Offers; where it has it from: `abort_after`, `completes_after` (Lines.Completes).
--
-- Roots: `ordered_at` (Roots.Along) gives IsOrdered, all invariants of offers, handles and roots, at each time of a run; `root_kept`, `safe_kept`, `fresh_of`
-- (Roots.Kept) that a generation stays under a root, `no_close_at` and `open_root` (Roots.Open) that a root was open while it was asked for.
--
-- Generations along paths: `indirection_is` (Lines.ReaderKnows), `swaps_in_own_generation` (Falling.OwnSwaps), `given_for_ever` (Falling.Final); `known`,
-- `words` and `protocol_of` (Falling.KnownRoots) are those of proof_commits with closings; `no_main_before` (Falling.NoRef): what is no indirection has no
-- main node.
pub mod Handles
pub mod Lines
pub mod Offers
pub mod Counter
pub mod Roots
pub mod Falling
