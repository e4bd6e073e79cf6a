-- At rest each operation that has begun has ended.
use Rattle.std.specs.Prelude.{◌≡◌, ℕ, zero, suc, ◌⊎◌, false, List, [], ◌∷◌, Option, Some, None, is_some, slice_get}
use Rattle.std.specs.List.{list_any}
use Rattle.std.proofs.Common.{refl, ap, inl, inr}
use Rattle.std.proofs.lemmas.Option.{none-some, same_Some}
use Rattle.std.proofs.lemmas.Bool.{cases_eq}
use Rattle.proof_linearizable.specs.Beneath.history.specs.declared.events.Event.{Event}
use Rattle.proof_linearizable.specs.Beneath.history.specs.declared.events.Event.TheVariants.{Begin, End}
use Rattle.proof_linearizable.specs.Beneath.history.specs.declared.replies.Reply.{Reply}
use Rattle.proof_linearizable.specs.Beneath.history.specs.Histories.{HasBegun, HasEnded}
use Rattle.proof_linearizable.specs.Beneath.machine_model.specs.declared.operations.Operation.{Operation}
use Rattle.proof_linearizable.specs.Beneath.machine_model.specs.States.{State}
use Rattle.proof_linearizable.specs.Beneath.machine_model.specs.Machine.{is_busy}
use Rattle.proof_linearizable.specs.Beneath.proof_order.specs.Facts.{Runs}
use Rattle.proof_linearizable.specs.Beneath.proof_order.proofs.History.Books.{Books}
use Rattle.proof_linearizable.specs.Beneath.history.proofs.Among.{Among}
use Rattle.proof_linearizable.specs.Beneath.proof_order.proofs.Places.Elements.{among_get_or}
use Rattle.proof_linearizable.specs.Beneath.machine_model.specs.Records.{Record}

-- an end of the operation stands in the history, or none
abbrev Decided : List Event → ℕ → Type 0
Decided history id = ((answer : Reply) × HasEnded history id answer) ⊎ ((answer : Reply) → ¬ HasEnded history id answer)

decided_by : (event : Event) (history : List Event) (id : ℕ) → ((answer : Reply) × (event ≡ End id answer)) ⊎ ((answer : Reply) → ¬ (event ≡ End id answer)) →
    Decided history id → Decided (event ∷ history) id
decided_by event history id (inl (answer, here)) rest = inl (answer, (0, ap Some here))
decided_by event history id (inr other) (inl (answer, (place, at))) = inl (answer, (suc place, at))
decided_by event history id (inr other) (inr none) = inr (λ answer ended. by answer ended.0 ended.1)
  where
    by : (answer : Reply) (place : ℕ) → slice_get (event ∷ history) place ≡ Some (End id answer) → ⊥
    by answer zero e = other answer (same_Some event (End id answer) e)
    by answer (suc place) e = none answer (place, e)

is_end_of : (event : Event) (id : ℕ) → ((answer : Reply) × (event ≡ End id answer)) ⊎ ((answer : Reply) → ¬ (event ≡ End id answer))
is_end_of (Begin other actor call opens) id = inr (λ answer e. cc e)
is_end_of (End other answer) id = elim (cases_eq other id) [ inl same ↦ inl (answer, ap (λ x. End x answer) same) | inr apart ↦ inr (λ reply e. apart (cc e)) ]

decided : (history : List Event) (id : ℕ) → Decided history id
decided [] id = inr (λ answer ended. none-some (End id answer) ended.1)
decided (event ∷ history) id = decided_by event history id (is_end_of event id) (decided history id)

-- nobody runs
none_runs : (state : State) → is_busy state ≡ false → (k : ℕ) (operation : Operation) → Runs state k operation → ⊥
none_runs state rest k operation runs = by state.actors (among_get_or state.actors k operation runs) rest
  where
    by : (actors : List (Option Operation)) → Among (Some operation) actors → list_any is_some actors ≡ false → ⊥
    by [] a e = a
    by (None ∷ more) (inl is) e = cc is
    by (None ∷ more) (inr a) e = by more a e
    by (Some other ∷ more) a e = cc e

pub all_ended : (state : State) (past : Record) → Books state past → is_busy state ≡ false → (id : ℕ) → HasBegun past.events id → (answer : Reply) × HasEnded past.events id answer
all_ended state past books rest id (place, told, at) = elim (decided past.events id) [
  | inl ended ↦ ended
  | inr none ↦
      let (k, operation, own, runs, same) = books.running id told.actor ((place, told, at, refl), none) in
      absurd (none_runs state rest k operation runs)
]
