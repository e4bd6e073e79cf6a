-- What is followed is live, but not the other way round: who met an offer has its expected main node at hand, and doesn't follow it.
use lib.Count.{ones, ones_in}
use Rattle.std.proofs.Common.{◌≡◌, ℕ, zero, suc, ◌&&◌, Bool, true, false, List, [], ◌∷◌, ◌++◌, Contains, Option, Some, None, refl, sym, ◌∙◌, subst, arith, inl, inr}
use Rattle.std.proofs.lemmas.Bool.{and_parts, false≢true}
use Rattle.std.proofs.lemmas.List.Elements.{Contains-append_cases}
use Rattle.std.proofs.lemmas.Option.{none-some, same_Some}
use Rattle.proof_followed.specs.Beneath.slot_arena.specs.Refs.{ref_to}
use Rattle.proof_followed.specs.Beneath.slot_arena.specs.declared.refs.Ref.{Ref}
use Rattle.proof_followed.specs.Beneath.slot_arena.specs.Heaps.{stored, node_at, prev_at, with_main, with_prev, taken, freed, refs_of_slot}
use Rattle.proof_followed.specs.Beneath.slot_arena.specs.Counts.{count_of}
use Rattle.proof_followed.specs.Beneath.machine_model.specs.declared.operations.Operation.{Operation}
use Rattle.proof_followed.specs.Beneath.machine_model.specs.declared.roots.Root.{Root}
use Rattle.proof_followed.specs.Beneath.machine_model.specs.declared.roots.RootWord.{RootWord}
use Rattle.proof_followed.specs.Beneath.machine_model.specs.declared.roots.RootWord.TheVariants.{Plain, Offer}
use Rattle.proof_followed.specs.Beneath.machine_model.specs.Counting.{refs_of_root, refs_of_word}
use Rattle.proof_followed.specs.Beneath.machine_model.specs.Machine.{run, run_from, next, taken_below, least_from}
use Rattle.proof_followed.specs.Beneath.machine_model.specs.States.{State, first_state, operation_of, root_at, root_of}
use Rattle.proof_followed.specs.Beneath.proof_memory.proofs.Safety.States.{IsSafe}
use Rattle.proof_garbage.specs.Live as live
use Rattle.proof_garbage.specs.Live.{IsKnown, refs_of_claims}
use Rattle.proof_garbage.proofs.Claims.{refs_held}
use Rattle.proof_garbage.proofs.Known.{line_known, privates_known}
use Rattle.proof_garbage.proofs.PutBack.{every, among, every_one, every_at, among_from, among_them, limits, before, since, first_main, held_live}
use Rattle.proof_followed.specs.Followed.{IsFollowed, IsFollowedByAny, from_root, from_operation, from_slot, followed_by, followed_claims}
use Rattle.proof_followed.specs.Laws.{LiveIsFollowed}
use Rattle.proof_followed.proofs.Asked.{followed_of}

root_named : (word : RootWord) → Contains (refs_of_word word) (root_of word)
root_named (Plain r) = (0, omega arith, refl)
root_named (Offer offer) = (0, omega arith, refl)

module _ (state : State) (I : IsSafe state) (P : ℕ → Type 0) where
  pub followed_known : {r : Ref} → IsFollowed state P r → IsKnown state P r
  followed_known (from_root handle root r e is) =
      live.from_root handle r (subst (λ o. Contains (refs_of_root o) r) (sym e) (subst (Contains (refs_of_word root.word)) is (root_named root.word)))
  followed_known (from_operation actor operation r e p c) = elim (Contains-append_cases (refs_of_claims (followed_claims state operation)) operation.private r c) [
    | inl a ↦
        refs_held (IsKnown state P) state.heap (followed_claims state operation)
        (followed_of (IsKnown state P) state.heap state.limits.hash operation.call operation.access operation.line (line_known state I P actor operation e p)) r a
    | inr b ↦ privates_known state I P actor operation e p r b
  ]
  followed_known (from_slot q r k c) = live.from_slot q r (followed_known k) c

-- ---- the run in which an offer puts back a main node

root_is : List Ref → Option Root → Bool
root_is rs None = true
root_is rs (Some root) = among rs (root_of root.word)

hand_is : State → List Ref → Option Operation → Bool
hand_is state rs None = true
hand_is state rs (Some operation) = every (among rs) (followed_by state operation)

-- what is followed is among these
covers : State → List Ref → Bool
covers state rs = every (root_is rs) state.roots && (every (hand_is state rs) state.actors && every (λ q. every (among rs) (refs_of_slot (stored state.heap q))) rs)

module _ (state : State) (rs : List Ref) (e : covers state rs ≡ true) where
  roots_in : every (root_is rs) state.roots ≡ true
  unfolding covers
  roots_in = (and_parts (every (root_is rs) state.roots) _ e).0

  hands_in : every (hand_is state rs) state.actors ≡ true
  unfolding covers
  hands_in = (and_parts (every (hand_is state rs) state.actors) _ (and_parts (every (root_is rs) state.roots) _ e).1).0

  slots_in : every (λ q. every (among rs) (refs_of_slot (stored state.heap q))) rs ≡ true
  unfolding covers
  slots_in = (and_parts (every (hand_is state rs) state.actors) _ (and_parts (every (root_is rs) state.roots) _ e).1).1

  root_by : (o : Option Root) (root : Root) → o ≡ Some root → root_is rs o ≡ true → among rs (root_of root.word) ≡ true
  unfolding root_is
  root_by None root is h = absurd (none-some root is)
  root_by (Some found) root is h = subst (λ (x : Root). among rs (root_of x.word) ≡ true) (same_Some _ _ is) h

  hand_by : (o : Option Operation) (operation : Operation) → o ≡ Some operation → hand_is state rs o ≡ true → every (among rs) (followed_by state operation) ≡ true
  unfolding hand_is
  hand_by None operation is h = absurd (none-some operation is)
  hand_by (Some found) operation is h = subst (λ (x : Operation). every (among rs) (followed_by state x) ≡ true) (same_Some _ _ is) h

  covered : {r : Ref} → IsFollowedByAny state r → Contains rs r
  unfolding root_is hand_is
  covered (from_root handle root r is word) =
      subst (Contains rs) word (among_them rs (root_of root.word) (root_by (root_at state handle) root is (every_at (root_is rs) state.roots roots_in refl handle)))
  covered (from_operation zero operation r is p c) = absurd (none-some operation is)
  covered (from_operation (suc k) operation r is p c) =
      among_them rs r (every_one (among rs) (followed_by state operation) (hand_by (operation_of state (suc k)) operation is (every_at (hand_is state rs) state.actors hands_in refl k)) r c)
  covered (from_slot q r followed c) =
      among_them rs r (every_one (among rs) (refs_of_slot (stored state.heap q)) (every_one (λ x. every (among rs) (refs_of_slot (stored state.heap x))) rs slots_in q (covered followed)) r c)

abbrev followed_refs : List Ref
followed_refs = ref_to 7 6 ∷ ref_to 8 7 ∷ ref_to 2 1 ∷ ref_to 4 3 ∷ ref_to 3 2 ∷ []

is_covered : covers (run limits (before ++ since)) followed_refs ≡ true
unfolding covers root_is hand_is every among taken_below least_from run_from next first_state stored node_at prev_at with_main with_prev taken freed count_of ones ones_in
is_covered = refl

not_among : among followed_refs first_main ≡ false
unfolding among
not_among = refl

pub live_unfollowed : LiveIsFollowed → ⊥
live_unfollowed law =
    false≢true
    (sym not_among
    ∙ among_from followed_refs first_main
    (covered (run limits (before ++ since)) followed_refs is_covered (law limits (before ++ since) first_main (omega arith, omega arith, omega arith) held_live)))
