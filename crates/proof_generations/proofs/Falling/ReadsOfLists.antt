-- For every list of steps: what is read of closed generations stays. And what repairs are given stands, in the form in which the laws of contents take it.
use Rattle.std.proofs.Common.{◌≡◌, ℕ, ◌<◌, List, Some, refl, sym, ap, ◌∙◌, subst, arith, slice_get, suc}
use Rattle.proof_generations.specs.Vocabulary.{Ref, generation_at, Operation, Read, Bounds, Step, State, operation_of, read_of, AreBounds, taken_steps, IsRun, states_of, last_of, records_of}
use Rattle.proof_generations.specs.Vocabulary.{closed_at, moment_at, IsNoSwap, HasIndirection}
use Rattle.proof_generations.specs.Beneath.machine_model.proofs.Times.{run_is}
use Rattle.proof_commits.proofs.Course.AlongLists.{law_given_for_good}
use Rattle.proof_commits.proofs.Lines.Swap.{reads_stage}
use Rattle.proof_generations.specs.Falling.{ReadsClosed}
use Rattle.proof_generations.specs.Laws.Falling.{ReadForGood}
use Rattle.proof_generations.proofs.Falling.KnownRoots.{roots_of_runs}
use Rattle.proof_generations.proofs.Falling.Nodes.{used_generation}
use Rattle.proof_generations.proofs.Falling.Opened.{closed_until}
use Rattle.proof_generations.proofs.Falling.ReadsGive.{late_after, reads_goes}
use Rattle.proof_generations.proofs.Falling.Runs.{gen_of}
use Rattle.proof_generations.proofs.Falling.Final.{closed_before_read}
use Rattle.proof_generations.specs.Beneath.machine_model.proofs.Alike.{go_actor, not_denied}
use Rattle.proof_generations.specs.Beneath.machine_model.proofs.Notes.{noted_going}
use Rattle.proof_generations.specs.Beneath.machine_model.proofs.Numbered.{step_leads, step_noted}
use Rattle.proof_generations.specs.Beneath.machine_model.proofs.Recorded.{record_ends}
use Rattle.proof_generations.specs.Beneath.machine_model.specs.declared.steps.Step.TheVariants as step

-- ---- for lists of steps

module _ (limits : Bounds) (steps : List Step) (ok : AreBounds limits) (n : ℕ) (within : n < last_of limits steps) where
  abbrev states : ℕ → State
  states = states_of limits steps

  abbrev last : ℕ
  last = last_of limits steps

  abbrev is_run : IsRun limits states last
  is_run = run_is limits steps ok

  -- closed before what the READ counts from
  late_of : (actor : ℕ) (operation : Operation) (r : Read) → slice_get (taken_steps limits steps) n ≡ Some (step.Go actor) → operation_of (states n) actor ≡ Some operation →
      IsNoSwap operation.line → read_of operation.line ≡ Some r →
      ReadsClosed operation (gen_of states last r.indirection) → (c : ℕ) × (closed_at (is_run.records last) (gen_of states last r.indirection) ≡ Some c)
      × (c < (moment_at (is_run.records (suc n)) actor).read_at)
  late_of actor operation r at runs no_swap reads closed =
      let stage = reads_stage operation.line r no_swap reads in
      let moves = step_leads limits steps n (step.Go actor) at in
      let goes = reads_goes is_run n within actor operation runs r stage in
      let noted = step_noted limits steps n (step.Go actor) at ∙ noted_going (states n) (is_run.records n) actor operation _ runs refl goes in
      let (c, before, is, since) = closed_before_read is_run n (omega arith) actor operation r runs reads closed in (
        c,
        closed_until is_run n last (omega arith) (omega arith) _ c is,
        late_after is_run n within actor operation runs r stage noted (go_actor (states n) actor (not_denied moves.1)) c before since,
      )

  generation_so : (i : Ref) → HasIndirection (states_of limits steps n) i → gen_of states last i ≡ generation_at (states_of limits steps n).heap i
  generation_so i has = used_generation is_run n (omega arith) i has.0

pub read_for_good : ReadForGood
read_for_good limits steps ok n h i m given has closed k after within still =
    let gen = generation_so limits steps ok n h i has in
    let same : gen_of (states_of limits steps) (last_of limits steps) given.read.indirection ≡ generation_at (states_of limits steps n).heap i =
    ap (gen_of (states_of limits steps) (last_of limits steps)) given.of ∙ gen in
    let (c, is, late) =
    late_of limits steps ok n h given.actor given.operation given.read given.step given.runs given.no_swap given.reads
    (subst (ReadsClosed given.operation) (sym same) closed) in
    law_given_for_good roots_of_runs limits steps ok n h i m given c
    (ap (λ past. closed_at past (generation_at (states_of limits steps n).heap i)) (sym (record_ends limits steps))
    ∙ ap (closed_at (records_of limits steps (last_of limits steps))) (sym same) ∙ is)
    late has k after within still
