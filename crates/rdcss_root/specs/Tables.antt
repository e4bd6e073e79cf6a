-- The table of root words, and what the actions on root words make of it.
use Rattle.std.specs.Prelude.{◌≡◌, ℕ, ◌+◌, ◌==◌, Bool, true, false, List, replicate, slice_index_or, slice_set, Option, Some, None, if◌then◌else◌}
use Rattle.rdcss_root.specs.Vocabulary.{Ref, Root, RootWord, Plain, Offer, Descriptor, Action, State, handle_limit, word_of, rewritten, stands_in, is_plain, acted, if_changed, opened_root}
use Rattle.rdcss_root.specs.Beneath.machine_model.specs.declared.actions.Action.TheVariants as act

pub record Table : Type 0 where
  -- each handle number, if it is open
  pub roots : List (Option Root)
  -- by handle, the actor who offered last in its root word
  pub offerers : List ℕ
  -- by actor, whether the last offer was carried out
  pub marks : List Bool
  -- the offer that was carried out last, until it is taken note of
  pub carried : Option Descriptor

-- no handle is open
abbrev pub new_table : ℕ → Table
new_table actors = record { roots = replicate handle_limit None; offerers = replicate handle_limit 0; marks = replicate (actors + 1) false; carried = None }

-- the open handle of this number
abbrev pub root_in : Table → ℕ → Option Root
root_in table handle = slice_index_or table.roots handle None

-- the root word of a handle
abbrev pub word_in : Table → ℕ → RootWord
word_in table handle = word_of (root_in table handle)

-- the table in which this number names this, or nothing
abbrev pub with_root_in : Table → ℕ → Option Root → Table
with_root_in table handle root = record table { roots = slice_set table.roots handle root }

-- the table in which the open handle's root word is this one
abbrev pub with_word_in : Table → ℕ → RootWord → Table
with_word_in table handle word = with_root_in table handle (rewritten word (root_in table handle))

-- ---- what actions make of the table

-- an offer that still stands is taken back
abbrev pub aborted_in : Table → ℕ → Descriptor → Table
aborted_in table handle offer = if_changed (stands_in (word_in table handle) offer) (with_word_in table handle (Plain offer.root)) table

-- the actor's offer comes to stand where its root still does; its mark is taken away
abbrev pub offered_in : Table → ℕ → ℕ → Descriptor → Table
offered_in table handle actor offer =
    let unmarked = record table { marks = slice_set table.marks actor false } in
    if_changed (is_plain (word_in table handle) offer.root) (record (with_word_in unmarked handle (Offer offer)) { offerers = slice_set table.offerers handle actor }) unmarked

abbrev pub opened_in : Table → Descriptor → Option ℕ → Table
opened_in table offer None = table
opened_in table offer (Some handle) = with_root_in table handle (Some (opened_root offer offer.second))

-- the new root stands, the handle is open, and the actor who offered is marked
abbrev pub carried_out_in : Table → ℕ → Descriptor → Table
carried_out_in table handle offer =
    record (opened_in (with_word_in table handle (Plain offer.successor)) offer offer.opens) {
      marks = slice_set table.marks (slice_index_or table.offerers handle 0) true;
      carried = Some offer;
    }

-- an offer that still stands is carried out where this is its expected main node, else it is taken back
abbrev pub completed_in : Table → ℕ → Descriptor → Ref → Table
completed_in table handle offer main =
    if_changed (stands_in (word_in table handle) offer)
    (if main == offer.expected then carried_out_in table handle offer else with_word_in table handle (Plain offer.root)) table

-- the table after an action of this actor on this handle
abbrev pub acted_table : Table → ℕ → ℕ → Action → Table
acted_table table handle actor (act.Abort offer) = aborted_in table handle offer
acted_table table handle actor (act.Offer offer) = offered_in table handle actor offer
acted_table table handle actor (act.Complete offer main) = completed_in table handle offer main
acted_table table handle actor action = table

-- a law: the machine's root words after an action are those of the table
abbrev pub ActsOnTable : Type 0
ActsOnTable = (state : State) → (table : Table) → (handle actor : ℕ) → (action : Action) → table.roots ≡ state.roots →
    (acted state handle action).roots ≡ (acted_table table handle actor action).roots
