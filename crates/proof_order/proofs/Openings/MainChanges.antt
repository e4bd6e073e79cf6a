-- A main node changes by the commit of an operation that stands in a SWAP there; so none does in a generation that no handle has had, and that isn't closed.
use Rattle.std.proofs.Common.{◌≡◌, ℕ, suc, ◌<◌, ◌≤◌, true, false, ◌⊎◌, inl, inr, Some, ap, ◌∙◌, arith}
use Rattle.proof_order.specs.Vocabulary.{Ref, generation_of, Purpose, Operation, Swap, Bounds, handle_of, State, operation_of, node_under, main_before, IsRun, is_end}
use Rattle.proof_order.specs.Beneath.machine_model.specs.declared.lines.Line.TheVariants as line
use Rattle.proof_order.specs.Beneath.proof_commits.proofs.Words.Stood.{none≢pending, stands_now}
use Rattle.proof_order.specs.Beneath.proof_commits.proofs.Known.Owners.{IsSound}
use Rattle.proof_order.specs.Beneath.proof_commits.proofs.Known.Sounds.{sound_at}
use Rattle.proof_order.specs.Beneath.proof_commits.proofs.Course.Mains.{MainStep, MainStays, MainChanges, main_step}
use Rattle.proof_order.specs.Beneath.proof_commits.proofs.Lines.Swap.{runs_deciding}
use Rattle.proof_order.specs.Beneath.proof_commits.proofs.Words.Along.{protocol}
use Rattle.proof_generations.proofs.Handles.Running.{place_of_actor}
use Rattle.proof_generations.proofs.Roots.Open.{no_close_at}
use Rattle.proof_generations.proofs.Roots.Own.{IsUnused}
use Rattle.proof_generations.proofs.Roots.Rooted.{rooted_at}
use Rattle.proof_generations.proofs.Falling.OwnSwaps.{swaps_in_own_generation}
use Rattle.proof_order.proofs.Openings.CompleteTimes.{w}
use Rattle.proof_order.specs.Beneath.proof_memory.specs.Wants.{is_indirection}
use Rattle.proof_generations.proofs.Falling.FreshRoots.{not_rooted}
use Rattle.proof_order.specs.Beneath.proof_commits.proofs.Known.Acts.{known_run}

-- an operation stands in a SWAP into this indirection
pub record SwapsInto (state : State) (i : Ref) : Type 0 where
  pub actor : ℕ
  pub operation : Operation
  pub runs : operation_of state actor ≡ Some operation
  pub why : Purpose
  pub at : Swap
  pub stands : operation.line ≡ line.Swap why at
  pub into : at.indirection ≡ i

module _ {limits : Bounds} {states : ℕ → State} {last : ℕ} (run : IsRun limits states last) where
  sound : (t : ℕ) → t ≤ last → IsSound (w run) t
  sound t within = sound_at (protocol limits states last (known_run run)) t within

  changes_by : (t : ℕ) → t < last → (i : Ref) → is_indirection (node_under states t i) ≡ true → MainStep (w run) t i →
      (main_before states (suc t) i ≡ main_before states t i) ⊎ SwapsInto (states t) i
  changes_by t within i l (MainStays e) = inl e
  changes_by t within i l (MainChanges c) =
      let s = sound t (omega arith) in
      let o = s.owned c.fresh c.replaced c.commits.was in
      let same : o.link ≡ i = s.words.one_word c.fresh o.link i (λ none. none≢pending none c.commits.was) (stands_now o.is_link o.stands) (stands_now l c.stands) in
      let r = runs_deciding (operation_of (states t) o.actor) o.link c.replaced c.fresh o.line o.stage in
      inr (record { actor = o.actor; operation = r.operation; runs = r.is; why = r.swaps.0; at = _; stands = r.swaps.1; into = same })

  -- who changes a main node swapped into that indirection
  pub main_changes : (t : ℕ) → t < last → (i : Ref) → is_indirection (node_under states t i) ≡ true → (main_before states (suc t) i ≡ main_before states t i) ⊎ SwapsInto (states t) i
  main_changes t within i l = changes_by t within i l (main_step (protocol limits states last (known_run run)) t within i l)

  -- nobody swaps in a generation that is on no handle and isn't closed
  no_swap : (t : ℕ) → t < last → (i : Ref) → IsUnused (states t) (run.records t) (generation_of (node_under states last i)) → SwapsInto (states t) i → ⊥
  no_swap t within i unused s =
      let (writable, its) = swaps_in_own_generation run t (omega arith) s.actor s.operation s.runs s.why s.at s.stands in
      let (k, place, at_k) = place_of_actor (states t) s.actor s.operation s.runs in
      let going : is_end s.operation.line ≡ false = ap is_end s.stands in
      not_rooted states run.records t (handle_of s.operation.call) (generation_of (node_under states last i)) unused
      (rooted_at run t (omega arith) k s.operation (generation_of (node_under states last i)) at_k
      (no_close_at run t (omega arith) k s.operation at_k going) writable
      (its ∙ ap (λ r. Some (generation_of (node_under states last r))) s.into))

  -- so its main nodes stay
  pub unused_stays : (t : ℕ) → t < last → (i : Ref) → is_indirection (node_under states t i) ≡ true → IsUnused (states t) (run.records t) (generation_of (node_under states last i)) →
      main_before states (suc t) i ≡ main_before states t i
  unused_stays t within i l unused = elim (main_changes t within i l) [
    | inl same ↦ same
    | inr s ↦ absurd (no_swap t within i unused s)
  ]
