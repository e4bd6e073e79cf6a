-- What an action makes of the offers in the table of root words, and of marks.
use Rattle.std.specs.Prelude.{◌≡◌, ◌==◌, ◌&&◌, ℕ, Bool, true, false, List, Option, Some, None, option_map, refl, slice_index_or, slice_set, if◌then◌else◌}
use Rattle.running.specs.Vocabulary.{Action, Descriptor, Plain, if_changed, State, word_at, is_carried_out, is_plain, stands_in, carried_by, Table, acted_table, carried_out_in, with_word_in}
use Rattle.running.specs.Vocabulary.{word_in}
use Rattle.running.specs.Beneath.machine_model.specs.declared.actions.Action.TheVariants as act
use Rattle.running.specs.Carried.{carried_of, carried_offer}

-- ---- marks

-- an offer takes away the mark of the actor who makes it
abbrev pub unmarked : List Bool → ℕ → Action → List Bool
unmarked marks actor (act.Offer offer) = slice_set marks actor false
unmarked marks actor action = marks

-- whoever offered last on the handle is marked where the offer is carried out
abbrev pub marked_at : List Bool → ℕ → Option Descriptor → List Bool
marked_at marks offerer None = marks
marked_at marks offerer (Some offer) = slice_set marks offerer true

abbrev pub carried_or : Option Descriptor → Option Descriptor → Option Descriptor
carried_or before None = before
carried_or before (Some offer) = Some offer

-- what the action makes of them, and of the offer of which no note was taken
pub record MarksBy (before : Table) (handle actor : ℕ) (action : Action) (after : Table) : Type 0 where
  pub marks : after.marks ≡ marked_at (unmarked before.marks actor action) (slice_index_or before.offerers handle 0) (carried_offer (word_in before handle) action)
  pub carried : after.carried ≡ carried_or before.carried (carried_offer (word_in before handle) action)

completes : (table : Table) (handle actor : ℕ) (offer : Descriptor) (b c : Bool) →
    let after = if_changed b (if c then carried_out_in table handle offer else with_word_in table handle (Plain offer.root)) table in
    (after.marks ≡ marked_at table.marks (slice_index_or table.offerers handle 0) (if b && c then Some offer else None)) ×
    (after.carried ≡ carried_or table.carried (if b && c then Some offer else None))
completes table handle actor offer true true = (refl, refl)
completes table handle actor offer true false = (refl, refl)
completes table handle actor offer false c = (refl, refl)

either : (b : Bool) (s t : Table) → s.marks ≡ t.marks → s.carried ≡ t.carried → ((if_changed b s t).marks ≡ t.marks) × ((if_changed b s t).carried ≡ t.carried)
either true s t marks carried = (marks, carried)
either false s t marks carried = (refl, refl)

pub marks_by : (table : Table) (handle actor : ℕ) (action : Action) → MarksBy table handle actor action (acted_table table handle actor action)
marks_by table handle actor (act.Abort offer) =
    let left = either (stands_in (word_in table handle) offer) (with_word_in table handle (Plain offer.root)) table refl refl in
    record { marks = left.0; carried = left.1 }
marks_by table handle actor (act.Offer offer) =
    let left = either (is_plain (word_in table handle) offer.root) _ (record table { marks = slice_set table.marks actor false }) refl refl in
    record { marks = left.0; carried = left.1 }
marks_by table handle actor (act.Complete offer main) =
    let left = completes table handle actor offer (stands_in (word_in table handle) offer) (main == offer.expected) in
    record { marks = left.0; carried = left.1 }
marks_by table handle actor action = record { marks = refl; carried = refl }

-- ---- what is told

chosen : (state : State) (offer : Descriptor) (b : Bool) →
    (if b then Some (carried_of state.heap offer) else None) ≡ option_map (carried_of state.heap) (if b then Some offer else None)
chosen state offer true = refl
chosen state offer false = refl

-- of the offer that is carried out its root's generation and its operation are told
pub carried_told : (state : State) (handle : ℕ) (action : Action) →
    carried_by state handle action ≡ option_map (carried_of state.heap) (carried_offer (word_at state handle) action)
carried_told state handle (act.Complete offer main) = chosen state offer (is_carried_out (word_at state handle) offer main)
carried_told state handle action = refl
