-- The laws of main nodes, for every list of steps.
use Rattle.std.proofs.Common.{◌≡◌, ℕ, suc, ◌+◌, ◌<◌, ◌⊎◌, List, Some, refl, sym, ◌∙◌, ap, subst, add-one, arith}
use Rattle.proof_commits.specs.Vocabulary.{Ref, prev_at, generation_at, logical_main, Operation, Bounds, Step, State, operation_of, closed_at, record_of, AreBounds, states_of, records_of}
use Rattle.proof_commits.specs.Vocabulary.{last_of}
use Rattle.proof_commits.specs.Beneath.slot_arena.specs.declared.nodes.Prev.TheVariants as over
use Rattle.proof_commits.specs.Beneath.machine_model.specs.declared.reading.SwapLine.TheVariants as swap
use Rattle.proof_commits.specs.Beneath.machine_model.proofs.Times.{run_ends}
use Rattle.proof_commits.specs.Runs.{HasIndirection}
use Rattle.proof_commits.specs.Laws.{IsInSwap, PendingHasOwner, PrevChange, PrevWordsChange, DecidedForGood}
use Rattle.proof_commits.specs.Laws.{CommitsMain, MainsChangeByCommits, ReplacedForGood, MomentIsFirst, GivenForGood, CheckedIsDecided, ChangesLate, LateStoodBefore}
use Rattle.proof_commits.specs.Laws.{LateOnce, TombsStay}
use Rattle.proof_memory.specs.Laws.{IsInUse}
use Rattle.proof_commits.specs.Beneath.machine_model.proofs.Recorded.{record_ends}
use Rattle.proof_commits.proofs.Course.OfLists.{known_from, RootsOfRuns, known_of, OwnedIn, states, owned_at, prev_changes, decided_for_good_at, main_changes}
use Rattle.proof_commits.proofs.Course.OfLists.{replaced_at, tomb_at, moment_over, moment_of_given, read_behind, Changes, for_good_at, late_stood_at, late_once_at, checked_at}

pub pending_has_owner : PendingHasOwner
pending_has_owner limits steps ok =
    subst (λ s. OwnedIn s) (run_ends limits steps) (owned_at limits ok steps (known_from limits steps ok) (last_of limits steps) (omega arith))

-- a step leads from its number to the next one
abbrev Next : (State → State → Type 0) → (ℕ → State) → ℕ → Type 0
Next P states n = P (states n) (states (n + 1))

next_state : (P : State → State → Type 0) (states : ℕ → State) (n : ℕ) → P (states n) (states (suc n)) → Next P states n
next_state P states n h = subst (λ k. P (states n) (states k)) (sym (add-one n)) h

pub prev_words_change : PrevWordsChange
prev_words_change limits steps ok n h main =
    next_state (λ (a b : State). IsInUse a.heap main → IsInUse b.heap main → PrevChange a b main) (states_of limits steps) n
    (prev_changes limits ok steps (known_from limits steps ok) n h main)

pub decided_for_good : DecidedForGood
decided_for_good limits steps ok = decided_for_good_at limits ok steps (known_from limits steps ok)

pub mains_change_by_commits : MainsChangeByCommits
mains_change_by_commits limits steps ok n h i =
    next_state (λ a b. HasIndirection a i → HasIndirection b i → (logical_main b.heap i ≡ logical_main a.heap i) ⊎ CommitsMain a b i) (states_of limits steps) n
    (main_changes limits ok steps (known_from limits steps ok) n h i)

pub law_replaced_for_good : ReplacedForGood
law_replaced_for_good limits steps ok = replaced_at limits ok steps (known_from limits steps ok)

pub moment_is_first : MomentIsFirst
moment_is_first limits steps ok n h i m g =
    let k = known_from limits steps ok in
    moment_over limits ok steps k n h i m _ _ (moment_of_given limits ok steps k refl n h i m g)
    (subst (λ j. HasIndirection (states_of limits steps (suc n)) j) g.of (read_behind limits ok steps k n h g.actor g.operation g.runs g.read g.reads))

-- what is closed at the end of the steps
closed_last : (limits : Bounds) (steps : List Step) (n c : ℕ) (i : Ref) → closed_at (record_of limits steps) (generation_at (states_of limits steps n).heap i) ≡ Some c →
    closed_at (records_of limits steps (last_of limits steps)) (generation_at (states_of limits steps n).heap i) ≡ Some c
closed_last limits steps n c i is = ap (λ r. closed_at r (generation_at (states_of limits steps n).heap i)) (record_ends limits steps) ∙ is

pub law_given_for_good : RootsOfRuns → GivenForGood
law_given_for_good roots limits steps ok n h i m g closed is before has k after within still =
    let kn = known_of roots limits steps ok in
    for_good_at limits ok steps kn (λ g. refl) n h i m _ _ (moment_of_given limits ok steps kn refl n h i m g) closed has (closed_last limits steps n closed i is) before k after within still

-- a late change is one
late_changes : (limits : Bounds) (steps : List Step) (closed n : ℕ) (i : Ref) → ChangesLate limits steps closed n i → Changes (states_of limits steps) n i
late_changes limits steps closed n i x =
    let after = subst (λ k. HasIndirection (states_of limits steps k) i × (logical_main (states_of limits steps k).heap i ≡ logical_main (states_of limits steps n).heap i → ⊥)) (add-one n)
    (x.after, x.changes) in
    record { has = x.before; still = after.0; other = after.1 }

pub late_stood_before : RootsOfRuns → LateStoodBefore
late_stood_before roots limits steps ok closed n i x =
    late_stood_at limits ok steps (known_of roots limits steps ok) (λ g. refl) closed n x.late x.taken i (late_changes limits steps closed n i x) (closed_last limits steps n closed i x.closing)

-- by which is first
once_by : RootsOfRuns → (limits : Bounds) (steps : List Step) → AreBounds limits → (closed n k : ℕ) (i : Ref) → ChangesLate limits steps closed n i → ChangesLate limits steps closed k i → n < k → ⊥
once_by roots limits steps ok closed n k i x y before =
    late_once_at limits ok steps (known_of roots limits steps ok) (λ g. refl) closed n k x.late before y.taken i (late_changes limits steps closed n i x) (late_changes limits steps closed k i y)
    (closed_last limits steps n closed i x.closing)

in_order : (n k : ℕ) → (n < k → ⊥) → (k < n → ⊥) → n ≡ k
in_order n k a b = omega arith

pub late_once : RootsOfRuns → LateOnce
late_once roots limits steps ok closed n k i x y =
    in_order n k (once_by roots limits steps ok closed n k i x y) (once_by roots limits steps ok closed k n i y x)

pub checked_is_decided : CheckedIsDecided
checked_is_decided limits steps ok =
    subst (λ (s : State). (actor : ℕ) (operation : Operation) (i a f q : Ref) → operation_of s actor ≡ Some operation → IsInSwap operation i a f swap.Check → IsInUse s.heap f →
    prev_at s.heap f ≡ over.Pending q → ⊥) (run_ends limits steps)
    (checked_at limits ok steps (known_from limits steps ok) (last_of limits steps) (omega arith))

pub tombs_stay : TombsStay
tombs_stay limits steps ok = tomb_at limits ok steps (known_from limits steps ok)
