-- What to cite from above.
--
-- The theorem: `legal_by_facts` (Views.Explained), from the record of facts in specs/Facts; `changes` (Views.EachStep) parts the steps by what they change.
--
-- History: `books_at` (History.AllBooks) ties running operations and events; `events_grow` (History.Growing) that events are added alone, `placed_begun`
-- (History.HaveBegun) that who has a place has begun. Places: Among (of history) is to be in a list of places, `place_says` and `apart_at`
-- (Places.Origins) say what a place tells, `among_rising` (Places.Sorting) that sorting loses none.
--
-- Offers: `offers_at` (Offers.Standing), `honest` (Offers.Honest). Root swaps: `swap_so` (Openings.Opens), `swaps_bring` (Openings.Brings), `handles_show`
-- (Openings.Shown), `no_late_commit` (Openings.NoLateCommit), `logical_in_use` and `roots_swapped_as_expected` (Openings.RootsFollow); `roots_are_one`
-- (Openings.RootOf) that a generation has one root.
--
-- Phases: `run_since` (Phases.Since) is what is known of an operation since its try began, `run_behind` (Phases.Behind) past its place;
-- `own_updates_enter` (Phases.OwnUpdates), `refused_unplaced` (Phases.Placed), `still_placed` (Phases.Closers), `rooted_at_moments` and `read_only_stays`
-- (Phases.Standing).
pub mod Places
pub mod Views
pub mod History
pub mod Offers
pub mod Openings
pub mod Phases
