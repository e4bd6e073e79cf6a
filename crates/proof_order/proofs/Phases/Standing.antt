-- What stands on the handle of a running operation: on a writable one the root of its generation, or that until it was closed; on a read-only one one root alone.
use Rattle.std.proofs.Common.{◌≡◌, ℕ, suc, ◌<◌, ◌≤◌, false, ◌⊎◌, inl, inr, Some, refl, sym, ap, ◌∙◌, subst, arith}
use Rattle.std.proofs.lemmas.Option.{none-some, same_Some}
use Rattle.proof_order.specs.Vocabulary.{Writable, ReadOnly, generation_at, Operation, Root, Plain, Offer, Bounds, Outcome, Step, handle_of, is_close, State, root_at, root_of, word_of, word_at}
use Rattle.proof_order.specs.Vocabulary.{action_of, Moves, turns, noted_turn, IsRun, Turn, moment_at, Record, noted, told_in}
use Rattle.proof_order.specs.Beneath.proof_memory.proofs.Safety.AtEachTime.{safe_at}
use Rattle.proof_order.specs.Beneath.proof_memory.proofs.Safety.States.{IsSafe}
use Rattle.proof_generations.proofs.Handles.Footings.{RootFrom, stood, swapped, newly}
use Rattle.proof_generations.proofs.Offers.Marks.{carried_stands}
use Rattle.proof_generations.proofs.Offers.Standing.{own_numbers}
use Rattle.proof_generations.proofs.Handles.Operations.{has_handles_at}
use Rattle.proof_generations.proofs.Roots.Rooted as roots
use Rattle.proof_generations.proofs.Roots.Along.{IsOrdered, ordered_at, read_only_plain}
use Rattle.proof_generations.proofs.Roots.Kept.{root_kept}
use Rattle.proof_generations.proofs.Offers.Swaps.{StepKind, quiet, swaps, step_kind}
use Rattle.proof_order.specs.Beneath.proof_commits.proofs.Course.Finals.{from_time}
use Rattle.proof_order.specs.Facts.{Runs, IsRooted, standing, standing_of}
use Rattle.proof_order.specs.Times.{Since, RootedSince, RootedAtMoments, ReadOnlyStands}
use Rattle.proof_order.proofs.Phases.Since.{run_since}

-- ---- writable handles

from_or_behind : (at u : ℕ) → at ≤ u → (u ≡ at) ⊎ (at < u)
from_or_behind at u h = grind arith

pub rooted_since : {limits : Bounds} {states : ℕ → State} {last : ℕ} (r : IsRun limits states last) → RootedSince states r.records last
rooted_since {limits} {states} {last} r t k operation generation le runs writable its u from within = elim (from_or_behind its.at u from) [
  | inl same ↦ inl (ap (λ v. standing (states v) (handle_of operation.call)) same ∙ its.stood ∙ ap (λ a. Some (a, generation)) writable)
  | inr behind ↦
      let (was, at_k, same, of_it) = its.runs u behind within in
      subst (λ c. IsRooted states r.records u (handle_of c) generation) (sym same.call)
      (roots.rooted_at r u (omega arith) k was generation at_k (ap is_close (sym same.call) ∙ its.no_close) (sym same.access ∙ writable) of_it)
]

-- now, and behind its moment
pub rooted_at : {limits : Bounds} {states : ℕ → State} {last : ℕ} (r : IsRun limits states last) → (t k : ℕ) (operation : Operation) (generation : ℕ) → t ≤ last → Runs (states t) k operation →
    operation.access ≡ Writable → operation.generation ≡ Some generation → IsRooted states r.records t (handle_of operation.call) generation
rooted_at {limits} {states} {last} r t k operation generation le runs writable of_it =
    let its = (run_since r t k operation le runs).tries generation of_it in
    rooted_since r t k operation generation le runs writable its t (omega (arith, its.past)) (omega arith)

pub rooted_at_moments : {limits : Bounds} {states : ℕ → State} {last : ℕ} (r : IsRun limits states last) → RootedAtMoments states r.records last
rooted_at_moments {limits} {states} {last} r t k operation generation le runs writable of_it given =
    let its = (run_since r t k operation le runs).tries generation of_it in
    let within = its.reads.moment given in
    rooted_since r t k operation generation le runs writable its (suc (moment_at (r.records t) (suc k)).moment) (omega (arith, within.behind)) (omega (arith, within.past))

-- ---- read-only handles

module _ (state : State) (past now : Record) (S : IsSafe state) (I : IsOrdered state past) (s : Step) (o : Outcome) (after : State) (m : Moves state s o after)
    (notes : now ≡ noted past state.steps (told_in state s)) (handle : ℕ) (root : Root)
    (is : root_at state handle ≡ Some root) (read_only : root.access ≡ ReadOnly) where
  -- the root that stood there, with its generation
  abbrev pub IsItsRoot : Root → Type 0
  IsItsRoot now = generation_at after.heap (root_of now.word) ≡ generation_at state.heap (root_of root.word)

  kept_root : (now was : Root) → root_at state handle ≡ Some was → root_of now.word ≡ root_of was.word → IsItsRoot now
  kept_root now was found word =
      let one = same_Some _ _ (sym found ∙ is) in
      ap (generation_at after.heap) (word ∙ ap (λ (x : Root). root_of x.word) one) ∙ root_kept state S s o after m handle root is

  stands_by : (kind : StepKind state past s after now) (found_root : Root) → root_at after handle ≡ Some found_root → IsItsRoot found_root
  stands_by (quiet closings roots) now found = let (was, at_it, access, word) = roots handle now found in kept_root now was at_it word
  stands_by (swaps actor mover offer go moves c closings roots) now found = by (roots handle now found)
    where
      by : RootFrom state (handle_of mover.call) (action_of state mover) handle now → IsItsRoot now
      by (stood was at_it access word other) = kept_root now was at_it word
      by (swapped was other d here at_it it) =
          let plain = read_only_plain state past S I handle root is read_only in
          let offered = carried_stands state I.offers actor mover other moves d in
          absurd (clash (root_of root.word) other (sym plain ∙ sym (ap word_of is) ∙ ap (word_at state) here ∙ offered))
        where
          clash : (r : _) (x : _) → Plain r ≡ Offer x → ⊥
          clash r x e = cc e
      by (newly other n d opens at_it it) =
          let b = I.offers.offers (handle_of mover.call) other (carried_stands state I.offers actor mover other moves d) in
          let mine = own_numbers b.owner other (I.offers.own b.k b.owner b.runs) b.completes in
          absurd (none-some root (sym (I.handles.unopened b.k n b.owner b.runs b.unmarked (sym mine.number ∙ opens)) ∙ ap (root_at state) (sym at_it) ∙ is))

  pub read_only_stays : (now : Root) → root_at after handle ≡ Some now → IsItsRoot now
  read_only_stays = stands_by (step_kind state I.offers past now s o after m notes)

module _ {limits : Bounds} {states : ℕ → State} {last : ℕ} (r : IsRun limits states last) (t k : ℕ) (operation : Operation) (le : t ≤ last) (read_only : operation.access ≡ ReadOnly)
    (no_close : is_close operation.call ≡ false) (since : Since states r.records t k operation) where
  -- the handle is open and read-only
  Opened : ℕ → Type 0
  Opened u = (root : Root) × (root_at (states u) (handle_of operation.call) ≡ Some root) × (root.access ≡ ReadOnly)

  opened : (u : ℕ) → since.at < u → u ≤ t → Opened u
  unfolding Opened
  opened u behind within =
      let (was, at_k, same) = since.runs u behind within in
      let (root, is, access) = (has_handles_at r u (omega arith)).1.on_open k was at_k (ap is_close (sym same.call) ∙ no_close) in
      (root, ap (λ c. root_at (states u) (handle_of c)) same.call ∙ is, access ∙ sym same.access ∙ read_only)

  standing_of_opened : (u : ℕ) → (root : Root) → root_at (states u) (handle_of operation.call) ≡ Some root → root.access ≡ ReadOnly →
      standing (states u) (handle_of operation.call) ≡ Some (ReadOnly, generation_at (states u).heap (root_of root.word))
  standing_of_opened u root is access = ap (standing_of (states u).heap) is ∙ ap (λ a. Some (a, generation_at (states u).heap (root_of root.word))) access

  stays_by : (u : ℕ) → u < last → Turn (states u) (states (suc u)) → Opened u → Opened (suc u) → standing (states (suc u)) (handle_of operation.call) ≡ standing (states u) (handle_of operation.call)
  unfolding Opened
  stays_by u lt turn (root, is, access) (now, found, read) = by (r.turn u lt) (r.recorded u lt)
    where
      by : (turn : Turn (states u) (states (suc u))) → r.records (suc u) ≡ noted_turn turn (r.records u) →
          standing (states (suc u)) (handle_of operation.call) ≡ standing (states u) (handle_of operation.call)
      by (turns s o m) notes =
          let its = read_only_stays (states u) (r.records u) (r.records (suc u)) (safe_at r u (omega arith))
          (ordered_at r u (omega arith)) s o (states (suc u)) m notes (handle_of operation.call) root is access now found in
          standing_of_opened (suc u) now found read ∙ ap (λ g. Some (ReadOnly, g)) its ∙ sym (standing_of_opened u root is access)

  pub one_root : (generation : ℕ) × ((u : ℕ) → since.at < u → u ≤ t → standing (states u) (handle_of operation.call) ≡ Some (ReadOnly, generation))
  unfolding Opened
  one_root =
      let (root, is, access) = opened t since.past (omega arith) in (
        generation_at (states t).heap (root_of root.word),
        λ u behind within.
            from_time (λ v. standing (states u) (handle_of operation.call) ≡ standing (states v) (handle_of operation.call)) u t refl
            (λ v from before so_far. so_far ∙ sym (stays_by v (omega arith) (r.turn v (omega arith)) (opened v (omega arith) (omega arith)) (opened (suc v) (omega arith) (omega arith))))
            t within (omega arith) ∙ standing_of_opened t root is access,
      )

pub read_only_stands : {limits : Bounds} {states : ℕ → State} {last : ℕ} (r : IsRun limits states last) → ReadOnlyStands states r.records last
read_only_stands {limits} {states} {last} r t k operation le runs read_only no_close since = one_root r t k operation le read_only no_close since
