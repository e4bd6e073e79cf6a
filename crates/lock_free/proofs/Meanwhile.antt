-- While an operation runs, its actor begins no other one, and it doesn't end.
use Rattle.std.proofs.Common.{◌≡◌, ◌<◌, ◌+◌, ℕ, zero, suc, All, List, [], ◌∷◌, ◌++◌, length, take, get_or, Option, Some, slice_get, refl, sym, subst, arith}
use Rattle.std.proofs.lemmas.Option.{slice_get_within, slice_get-get_or}
use Rattle.history.specs.declared.calls.Call.{Call}
use Rattle.history.specs.declared.events.Event.{Event}
use Rattle.history.specs.declared.events.Event.TheVariants.{Begin, End}
use Rattle.history.specs.declared.replies.Reply.{Reply}
use Rattle.history.specs.Histories.{BeginsAt, EndsAt, MayFollow, IsWellFormed}
use Rattle.history.proofs.Places.{at_front, at_push, at_take, in_take}
use Rattle.lock_free.specs.Answering.{IsOfOthers}

at_behind : (xs ys : List Event) (k place : ℕ) (y : Event) → place ≡ length xs + k → slice_get ys k ≡ Some y → slice_get (xs ++ ys) place ≡ Some y
at_behind [] ys k place y is at = let same : k ≡ place = omega (arith, is) in subst (λ n. slice_get ys n ≡ Some y) same at
at_behind (x ∷ xs) ys k zero y is at = absurd (omega (arith, is))
at_behind (x ∷ xs) ys k (suc place) y is at = at_behind xs ys k place y (omega (arith, is)) at

module _ (actor id : ℕ) (call : Call) (opens : Option ℕ) (answer : Reply) (earlier meanwhile : List Event) where
  abbrev front : List Event
  front = earlier ++ Begin id actor call opens ∷ meanwhile

  abbrev history : List Event
  history = front ++ End id answer ∷ []

  module _ (well : IsWellFormed history) where
    begins : BeginsAt history (length earlier + 0) id (record { actor = actor; call = call; opens = opens })
    begins = at_front front (End id answer ∷ []) (length earlier + 0) _ (at_behind earlier (Begin id actor call opens ∷ meanwhile) 0 (length earlier + 0) (Begin id actor call opens) refl refl)

    may_end : MayFollow (take (length front) history) (End id answer)
    may_end = well (length front) (End id answer) (at_push front (End id answer) (length front) refl)

    unended : (place : ℕ) (reply : Reply) → place < length front → EndsAt history place id reply → ⊥
    unended place reply low at = may_end.1.1 reply (place, in_take history (length front) place _ low at)

    others_by : (k : ℕ) (e : Event) → length earlier + suc k < length front → slice_get history (length earlier + suc k) ≡ Some e → IsOfOthers actor id e
    others_by k (Begin other owner its_call its_opens) low at = λ same.
        (well (length earlier + suc k) (Begin other owner its_call its_opens) at).2 id (
          (
            length earlier + 0,
            record { actor = actor; call = call; opens = opens },
            in_take history (length earlier + suc k) (length earlier + 0) _ (omega arith) begins,
            sym same,
          ),
          λ reply ended. (let x = at_take history (length earlier + suc k) ended.0 _ ended.1 in unended ended.0 reply (omega (arith, x.0, low)) x.1),
        )
    others_by k (End other reply) low at = λ same. unended (length earlier + suc k) reply low (subst (λ n. slice_get history (length earlier + suc k) ≡ Some (End n reply)) same at)

    pub only_others : All (IsOfOthers actor id) meanwhile
    only_others k d low =
        let at = at_behind earlier (Begin id actor call opens ∷ meanwhile) (suc k) (length earlier + suc k) (get_or meanwhile k d) refl (slice_get-get_or meanwhile k d low) in
        others_by k (get_or meanwhile k d) (slice_get_within front (length earlier + suc k) _ at) (at_front front (End id answer ∷ []) (length earlier + suc k) _ at)
