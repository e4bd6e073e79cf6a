-- An operation swaps into indirections of its own generation alone, on a writable handle.
use Rattle.std.proofs.Common.{◌≡◌, ℕ, ◌≤◌, Some, refl, sym, ap, ◌∙◌, subst}
use Rattle.proof_generations.specs.Vocabulary.{Access, Writable, ReadOnly, Purpose, Operation, Swap, Bounds, State, operation_of, IsRun, moment_at, Moment}
use Rattle.proof_generations.specs.Beneath.machine_model.specs.declared.lines.Line.TheVariants as line
use Rattle.proof_generations.proofs.Handles.Running.{place_of_actor}
use Rattle.proof_generations.specs.Falling.{SwapsInOwnGeneration}
use Rattle.proof_generations.proofs.Lines.Knows.{Knows, IsInner}
use Rattle.proof_generations.proofs.Lines.Reader.{KnowsReader}
use Rattle.proof_generations.proofs.Falling.Runs.{gen_of, IsOwn, FitsBelow, FallsBelow, LateBelow, Ends, Shut, LateEnd, KnowsGenerations}
use Rattle.proof_generations.proofs.Falling.Along.{all_falls}

module _ {limits : Bounds} {states : ℕ → State} {last : ℕ} (run : IsRun limits states last) where
  -- what an operation knows of its line
  pub knows_at : (t : ℕ) → t ≤ last → (actor : ℕ) (operation : Operation) → operation_of (states t) actor ≡ Some operation →
      KnowsGenerations states run.records last t (moment_at (run.records t) actor) operation
  knows_at t within actor operation is =
      let (k, place, runs) = place_of_actor (states t) actor operation is in
      subst (λ j. KnowsGenerations states run.records last t (moment_at (run.records t) j) operation) (sym place) ((all_falls run t within).lines k operation runs)

  swaps_by : (t : ℕ) (x : Moment) (operation : Operation) (why : Purpose) (s : Swap) → operation.line ≡ line.Swap why s → KnowsGenerations states run.records last t x operation →
      (access : Access) → operation.access ≡ access →
      (operation.access ≡ Writable) × (operation.generation ≡ Some (gen_of states last s.indirection))
  swaps_by t x operation why s at knows Writable w =
      let (g, begun, known) = knows.0 w (subst IsInner (sym at) tt) in
      let own : gen_of states last s.indirection ≡ g =
      (subst (Knows (IsOwn states last g) (FitsBelow states run.records last t g) (FallsBelow states run.records last t g) (LateBelow states run.records last t x g)) at known).0 in
      (w, begun ∙ ap (λ x. Some x) (sym own))
  swaps_by t x operation why s at knows ReadOnly w =
      absurd (subst (KnowsReader (Ends states run.records last t) (Shut states run.records last t) (LateEnd states run.records last t x)) at (knows.1 w))

  pub swaps_in_own_generation : SwapsInOwnGeneration states last
  swaps_in_own_generation t within actor operation is why s at = swaps_by t (moment_at (run.records t) actor) operation why s at (knows_at t within actor operation is) operation.access refl
