-- An indirection that BUILD or RENEW makes has the generation of its operation's root, which some handle's root had.
use Rattle.std.proofs.Common.{◌≡◌, ℕ, suc, false, List, Some, unwrap_or, refl, sym, ap, subst, ◌∙◌, arith}
use Rattle.proof_claims.specs.Beneath.history.specs.declared.calls.Access.{Access}
use Rattle.proof_claims.specs.Beneath.history.specs.declared.calls.Access.TheVariants.{ReadOnly, Writable}
use Rattle.proof_claims.specs.Beneath.slot_arena.specs.declared.nodes.Node.TheVariants.{Indirection}
use Rattle.proof_claims.specs.Beneath.slot_arena.specs.declared.refs.Ref.{Ref}
use Rattle.proof_claims.specs.Beneath.machine_model.specs.declared.actions.Action.TheVariants as act
use Rattle.proof_claims.specs.Beneath.machine_model.specs.declared.building.BuildLine.TheVariants as build
use Rattle.proof_claims.specs.Beneath.machine_model.specs.declared.copying.CopyLine.{CopyLine}
use Rattle.proof_claims.specs.Beneath.machine_model.specs.declared.lines.Line.{Line}
use Rattle.proof_claims.specs.Beneath.machine_model.specs.declared.lines.Line.TheVariants as line
use Rattle.proof_claims.specs.Beneath.machine_model.specs.declared.operations.Operation.{Operation}
use Rattle.proof_claims.specs.Beneath.machine_model.specs.declared.repairs.RenewLine.TheVariants as renew
use Rattle.proof_claims.specs.Beneath.machine_model.specs.declared.steps.Bounds.{Bounds}
use Rattle.proof_claims.specs.Beneath.machine_model.specs.declared.steps.Step.{Step}
use Rattle.proof_claims.specs.Beneath.machine_model.specs.Calls.{handle_of}
use Rattle.proof_claims.specs.Beneath.machine_model.specs.Copying.{copy_action}
use Rattle.proof_claims.specs.Beneath.machine_model.specs.Machine.{AreBounds, run}
use Rattle.proof_claims.specs.Beneath.machine_model.specs.Operations.{action_of, line_action}
use Rattle.proof_claims.specs.Beneath.machine_model.specs.Paths.{start_of}
use Rattle.proof_claims.specs.Beneath.machine_model.specs.Records.{moment_at}
use Rattle.proof_claims.specs.Beneath.machine_model.specs.States.{Runs, State, operation_of}
use Rattle.proof_claims.specs.Beneath.machine_model.specs.Times.{IsRun, last_of, states_of}
use Rattle.proof_claims.specs.Beneath.machine_model.proofs.Fates.{place_of_actor}
use Rattle.proof_claims.specs.Beneath.machine_model.proofs.Times.{run_ends, run_is}
use Rattle.proof_claims.specs.Beneath.proof_generations.proofs.Falling.Along.{all_falls}
use Rattle.proof_claims.specs.Beneath.proof_generations.proofs.Falling.Opened.{opened_rooted}
use Rattle.proof_claims.specs.Beneath.proof_generations.proofs.Falling.Runs.{Ends, KnowsGenerations, LateEnd, Shut}
use Rattle.proof_claims.specs.Beneath.proof_generations.proofs.Lines.Knows.{IsInner}
use Rattle.proof_claims.specs.Beneath.proof_generations.proofs.Lines.Reader.{KnowsReader}
use Rattle.proof_claims.specs.Beneath.proof_generations.proofs.Roots.Open.{no_close_at}
use Rattle.proof_claims.specs.Beneath.proof_generations.proofs.Roots.Rooted.{rooted_at}
use Rattle.proof_claims.specs.Beneath.proof_generations.specs.Falling.{WasOpened}
use Rattle.proof_claims.specs.Beneath.proof_memory.proofs.Safety.AtEachTime.{safe_along}
use Rattle.proof_claims.specs.Beneath.proof_memory.proofs.Safety.AtTimes.{line_finds}
use Rattle.proof_claims.specs.Beneath.proof_memory.specs.Laws.{IsInUse, is_end}
use Rattle.proof_claims.specs.Beneath.proof_memory.specs.Making.{made_node}
use Rattle.proof_claims.specs.Beneath.proof_owned.proofs.Makers.{LinkBy, link_by}

-- a copy makes its roots otherwise
copy_not : (l : CopyLine) (h : ℕ) (word : Ref) → copy_action l ≡ act.Make (Indirection h word) → ⊥
copy_not l h word e = grind arith

module _ (limits : Bounds) (ok : AreBounds limits) (xs : List Step) (actor : ℕ) (operation : Operation) (runs : operation_of (run limits xs) actor ≡ Some operation) (h : ℕ) (word : Ref)
    (acts : action_of (run limits xs) operation ≡ act.Make (Indirection h word)) where
  abbrev state : State
  state = run limits xs

  abbrev states : ℕ → State
  states = states_of limits xs

  abbrev last : ℕ
  last = last_of limits xs

  abbrev is_run : IsRun limits states last
  is_run = run_is limits xs ok

  place : (k : ℕ) × (actor ≡ suc k) × Runs state k operation
  place = place_of_actor state actor operation runs

  then : Runs (states last) place.0 operation
  then = ap (λ (s : State). operation_of s (suc place.0)) (run_ends limits xs) ∙ place.2

  -- an operation on a writable handle whose root has the generation
  module _ (inner : IsInner operation.line) (is_start : start_of operation ≡ h) (not_end : is_end operation.line ≡ false)
      (no_reader : (Ends Shut : Ref → Type 0) (Late : _ → Type 0) → KnowsReader Ends Shut Late operation.line → ⊥) where
    rooted : WasOpened states last h
    rooted = by operation.access refl ((all_falls is_run last (omega arith)).lines place.0 operation then)
      where
        by : (a : Access) → operation.access ≡ a → KnowsGenerations states is_run.records last last (moment_at (is_run.records last) (suc place.0)) operation → WasOpened states last h
        by Writable e know =
            let (g, begun, rest) = know.0 e inner in
            subst (λ x. WasOpened states last x) (sym (ap (λ o. unwrap_or o 0) begun) ∙ is_start)
            (opened_rooted states is_run.records last (handle_of operation.call) g
            (rooted_at is_run last (omega arith) place.0 operation g then (no_close_at is_run last (omega arith) place.0 operation then not_end) e begun))
        by ReadOnly e know = absurd (no_reader (Ends states is_run.records last last) (Shut states is_run.records last last)
            (LateEnd states is_run.records last last (moment_at (is_run.records last) (suc place.0))) (know.1 e))

  by_line : (l : Line) → operation.line ≡ l → LinkBy state operation (IsInUse state.heap) l h word → WasOpened states last h
  by_line (line.Build (build.Link path main position below depth)) on made =
      let both : act.Make (Indirection (start_of operation) below) ≡ act.Make (Indirection h word) = sym (ap (line_action state operation) on) ∙ acts in
      let nodes : Indirection (start_of operation) below ≡ Indirection h word = cc both in
      rooted (subst IsInner (sym on) tt) (cc nodes) (ap is_end on) (λ E S L k. subst (KnowsReader E S L) on k)
  by_line (line.Renew (renew.Link path main done child)) on (own, e) = rooted (subst IsInner (sym on) tt) own (ap is_end on) (λ E S L k. subst (KnowsReader E S L) on k)
  by_line (line.Copy l) on made = absurd (copy_not l h word (sym (ap (line_action state operation) on) ∙ acts))
  by_line (line.Build (build.Single path main s former)) on made = absurd made
  by_line (line.Build (build.Pair path main position single depth)) on made = absurd made
  by_line (line.Build (build.Rung path main position below depth)) on made = absurd made
  by_line (line.Build (build.Main path main c former)) on made = absurd made
  by_line (line.Renew (renew.Entry path main done)) on made = absurd made
  by_line (line.Renew (renew.Read path main done r)) on made = absurd made
  by_line (line.Renew (renew.Branch path main done)) on made = absurd made
  by_line (line.Root l) on made = absurd made
  by_line (line.Key l) on made = absurd made
  by_line (line.Swap why s) on made = absurd made
  by_line (line.Clean l) on made = absurd made
  by_line (line.Climb l) on made = absurd made
  by_line (line.Walk l) on made = absurd made
  by_line (line.End answer) on made = absurd made
  by_line line.Impossible on made = absurd made

  pub link_opened : WasOpened (states_of limits xs) (last_of limits xs) h
  link_opened =
      by_line operation.line refl
      (link_by state operation (IsInUse state.heap) operation.line (line_finds state (safe_along limits ok xs) actor operation runs) h word (ap (made_node state) acts))
