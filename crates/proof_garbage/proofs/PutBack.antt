-- A run in which an offer puts back a main node that no root reached. `limits`, `before` and `since` are cited from above.
use lib.Count.{ones, ones_in}
use Rattle.std.specs.Prelude.{replicate}
use Rattle.std.proofs.Common.{◌≡◌, ℕ, zero, suc, ◌≤◌, ◌==◌, ◌&&◌, ◌||◌, Bool, true, false, nat_le, List, [], ◌∷◌, ◌++◌, Contains, get_or, Option, Some, None, is_some, eq-eqb, refl, sym, ap, ◌∙◌}
use Rattle.std.proofs.Common.{subst, arith, eqb-true, leb-true, inl, inr}
use Rattle.std.proofs.lemmas.Bool.{and_parts, or_cases, false≢true}
use Rattle.std.proofs.lemmas.Option.{none-some, same_Some}
use Rattle.std.proofs.lemmas.List.Elements.{Contains-append_right}
use Rattle.proof_garbage.specs.Beneath.ctrie_base.specs.declared.hashes.HashKind.TheVariants.{Low}
use Rattle.proof_garbage.specs.Beneath.history.specs.declared.calls.Call.TheVariants as call
use Rattle.proof_garbage.specs.Beneath.slot_arena.specs.Refs.{ref_to}
use Rattle.proof_garbage.specs.Beneath.slot_arena.specs.declared.refs.Ref.{Ref}
use Rattle.proof_garbage.specs.Beneath.slot_arena.specs.declared.nodes.Slot.{Slot}
use Rattle.proof_garbage.specs.Beneath.slot_arena.specs.Heaps.{stored, node_at, prev_at, with_main, with_prev, taken, freed, refs_of_slot}
use Rattle.proof_garbage.specs.Beneath.slot_arena.specs.Counts.{count_of}
use Rattle.proof_garbage.specs.Beneath.machine_model.specs.declared.operations.Operation.{Operation}
use Rattle.proof_garbage.specs.Beneath.machine_model.specs.declared.steps.Bounds.{Bounds}
use Rattle.proof_garbage.specs.Beneath.machine_model.specs.declared.steps.Step.{Step}
use Rattle.proof_garbage.specs.Beneath.machine_model.specs.declared.steps.Step.TheVariants as step
use Rattle.proof_garbage.specs.Beneath.machine_model.specs.Contents.{IsReached}
use Rattle.proof_garbage.specs.Beneath.machine_model.specs.Contents as contents
use Rattle.proof_garbage.specs.Beneath.machine_model.specs.Counting.{refs_of_root}
use Rattle.proof_garbage.specs.Beneath.machine_model.specs.States.{State, first_state, root_at, operation_of}
use Rattle.proof_garbage.specs.Beneath.machine_model.specs.Machine.{run, run_from, next, taken_below, least_from}
use Rattle.proof_garbage.specs.Beneath.machine_model.specs.Grown.{standing}
use Rattle.proof_garbage.specs.Beneath.machine_model.specs.Runs.{taking}
use Rattle.proof_garbage.specs.Beneath.proof_memory.specs.Laws.{IsInUse}
use Rattle.proof_garbage.specs.Live.{at_hand, IsLive, from_operation}
use Rattle.proof_garbage.specs.Grace.{HaveEnded, DeadAfterGraceAlone}
use Rattle.proof_garbage.proofs.Claims.{none_in}

unfoldable pub every : {X : Type 0} → (X → Bool) → List X → Bool
every p [] = true
every p (x ∷ xs) = p x && every p xs

unfoldable pub among : List Ref → Ref → Bool
among [] r = false
among (x ∷ xs) r = (x == r) || among xs r

pub every_one : {X : Type 0} (p : X → Bool) (xs : List X) → every p xs ≡ true → (x : X) → Contains xs x → p x ≡ true
unfolding every
every_one p [] e x (i, within, at_i) = absurd (omega arith)
every_one p (y ∷ xs) e x (zero, within, at_i) = subst (λ z. p z ≡ true) at_i (and_parts (p y) (every p xs) e).0
every_one p (y ∷ xs) e x (suc i, within, at_i) = every_one p xs (and_parts (p y) (every p xs) e).1 x (i, omega arith, at_i)

pub among_them : (xs : List Ref) (r : Ref) → among xs r ≡ true → Contains xs r
unfolding among
among_them [] r e = absurd (false≢true e)
among_them (x ∷ xs) r e = elim (or_cases (x == r) (among xs r) e) [
  | inl a ↦ (0, omega arith, eqb-true x r a)
  | inr b ↦ Contains-append_right (x ∷ []) xs r (among_them xs r b)
]

-- at a place in a list, or past its end
pub every_at : {X : Type 0} (p : Option X → Bool) (xs : List (Option X)) → every p xs ≡ true → p None ≡ true → (k : ℕ) → p (get_or xs k None) ≡ true
unfolding every
every_at p [] e n k = n
every_at p (x ∷ xs) e n zero = (and_parts (p x) (every p xs) e).0
every_at p (x ∷ xs) e n (suc k) = every_at p xs (and_parts (p x) (every p xs) e).1 n k

-- the references to which roots lead are among these
covers : State → List Ref → Bool
covers state rs = every (λ root. every (among rs) (refs_of_root root)) state.roots && every (λ q. every (among rs) (refs_of_slot (stored state.heap q))) rs

covered : (state : State) (rs : List Ref) → covers state rs ≡ true → {r : Ref} → IsReached state r → Contains rs r
unfolding covers every
covered state rs e (contents.from_root handle r c) =
    among_them rs r (every_one (among rs) (refs_of_root (root_at state handle))
    (every_at (λ root. every (among rs) (refs_of_root root)) state.roots (and_parts _ (every (λ q. every (among rs) (refs_of_slot (stored state.heap q))) rs) e).0 refl handle) r c)
covered state rs e (contents.from_slot q r reached c) =
    among_them rs r (every_one (among rs) (refs_of_slot (stored state.heap q))
    (every_one (λ q. every (among rs) (refs_of_slot (stored state.heap q))) rs (and_parts (every (λ root. every (among rs) (refs_of_root root)) state.roots) _ e).1 q (covered state rs e reached)) r c)

-- it has this id or a later one, if it runs
abbrev is_later : ℕ → Option Operation → Bool
is_later id None = true
is_later id (Some operation) = nat_le id operation.id

-- it has the reference at hand
abbrev has_at_hand : State → Option Operation → Ref → Bool
has_at_hand state None r = false
has_at_hand state (Some operation) r = among (at_hand state operation) r

abbrev pub limits : Bounds
limits = record { slots = 16; actors = 3; hash = Low; steps = 100 }

-- a snapshot reads the root's main node; a put replaces it
abbrev pub before : List Step
before = taking 1 (call.Snapshot 0) 3 ++ taking 2 (call.Put 0 5 50) 12

-- the snapshot offers over it; a get meets the offer; the snapshot takes it back, offers anew, and ends
abbrev pub since : List Step
since = replicate 3 (step.Go 1) ++ taking 3 (call.Get 0 5) 1 ++ replicate 13 (step.Go 1)

abbrev pub first_main : Ref
first_main = ref_to 1 0

abbrev reached_refs : List Ref
reached_refs = ref_to 2 1 ∷ ref_to 4 3 ∷ ref_to 3 2 ∷ []

-- ---- computed

is_covered : covers (run limits before) reached_refs ≡ true
unfolding covers every among taken_below least_from run_from next first_state stored node_at prev_at with_main with_prev taken freed count_of ones ones_in
is_covered = refl

is_used : is_some (standing (run limits before).heap first_main) ≡ true
unfolding taken_below least_from run_from next first_state stored node_at prev_at with_main with_prev taken freed count_of ones ones_in
is_used = refl

not_among : among reached_refs first_main ≡ false
unfolding among
not_among = refl

have_begun : (run limits before).begun ≡ 2
unfolding taken_below least_from run_from next first_state stored node_at prev_at with_main with_prev taken freed count_of ones ones_in
have_begun = refl

all_later : every (is_later 2) (run limits (before ++ since)).actors ≡ true
unfolding every taken_below least_from run_from next first_state stored node_at prev_at with_main with_prev taken freed count_of ones ones_in
all_later = refl

still_held : has_at_hand (run limits (before ++ since)) (operation_of (run limits (before ++ since)) 3) first_main ≡ true
unfolding among taken_below least_from run_from next first_state stored node_at prev_at with_main with_prev taken freed count_of ones ones_in
still_held = refl

-- ---- so

used_by : (o : Option Slot) → standing (run limits before).heap first_main ≡ o → is_some o ≡ true → IsInUse (run limits before).heap first_main
used_by None e h = absurd (false≢true h)
used_by (Some slot) e h = (slot, e)

pub among_from : (xs : List Ref) (r : Ref) → Contains xs r → among xs r ≡ true
unfolding among
among_from [] r c = none_in r c
among_from (x ∷ xs) r (zero, within, at_i) = ap (λ b. b || among xs r) (eq-eqb x r at_i)
among_from (x ∷ xs) r (suc i, within, at_i) = or_right (x == r) (among xs r) (among_from xs r (i, omega arith, at_i))
  where
    or_right : (a b : Bool) → b ≡ true → (a || b) ≡ true
    or_right true b e = refl
    or_right false b e = e

later_by : (id : ℕ) (o : Option Operation) (operation : Operation) → o ≡ Some operation → is_later id o ≡ true → id ≤ operation.id
later_by id None operation e h = absurd (none-some operation e)
later_by id (Some found) operation e h = subst (λ (x : Operation). id ≤ x.id) (same_Some _ _ e) (leb-true id found.id h)

have_ended : HaveEnded (run limits before) (run limits (before ++ since))
have_ended zero operation e = absurd (none-some operation e)
have_ended (suc k) operation e =
    subst (λ n. n ≤ operation.id) (sym have_begun)
    (later_by 2 (operation_of (run limits (before ++ since)) (suc k)) operation e (every_at (is_later 2) (run limits (before ++ since)).actors all_later refl k))

live_by : (state : State) (o : Option Operation) (r : Ref) → operation_of state 3 ≡ o → has_at_hand state o r ≡ true → IsLive state r
live_by state None r e h = absurd (false≢true h)
live_by state (Some operation) r e h = from_operation 3 operation r e tt (among_them (at_hand state operation) r h)

-- the get has it at hand at the end
pub held_live : IsLive (run limits (before ++ since)) first_main
held_live = live_by (run limits (before ++ since)) (operation_of (run limits (before ++ since)) 3) first_main refl still_held

pub not_dead_alone : DeadAfterGraceAlone → ⊥
not_dead_alone law =
    law limits before since first_main (omega arith, omega arith, omega arith)
    (used_by (standing (run limits before).heap first_main) refl is_used)
    (λ reached. false≢true (sym not_among ∙ among_from reached_refs first_main (covered (run limits before) reached_refs is_covered reached)))
    have_ended held_live
