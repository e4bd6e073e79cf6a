-- What a READ of an operation gives stood in the word of what it reads; and where a generation was closed before the READ, it was so before what it counts from.
use Rattle.std.proofs.Common.{◌≡◌, ℕ, suc, ◌<◌, ◌⊎◌, inl, inr, Some, sym, ap, ◌∙◌, subst, arith, true}
use Rattle.std.proofs.lemmas.Option.{same_Some}
use Rattle.proof_generations.specs.Vocabulary.{Ref, Operation, Gives, Read, ReadLine, Bounds, Outcome, handle_of, State, word_at, operation_of, read_after, read_step, read_action, action_of, gone}
use Rattle.proof_generations.specs.Vocabulary.{settled, Ends, Moves, GoesOn, IsRun, read_at_after, noted_progress, moment_at, progress_of, counts_from, is_actor, Moment, Reads, ReadTurn, Given}
use Rattle.proof_generations.specs.Vocabulary.{counts_at, stage_of, stage_of_actor}
use Rattle.proof_generations.specs.Beneath.machine_model.specs.declared.reading.ReadLine.TheVariants as read
use Rattle.proof_generations.specs.Beneath.machine_model.specs.declared.steps.Step.TheVariants as step
use Rattle.proof_generations.specs.Beneath.machine_model.specs.Moves.{Goes}
use Rattle.proof_generations.specs.Beneath.machine_model.proofs.Times.{steps_at}
use Rattle.proof_commits.proofs.Words.Stood.{Stood}
use Rattle.proof_commits.proofs.Known.Sounds.{sound_at}
use Rattle.proof_commits.proofs.Lines.Reads.{on_stage, read_counts}
use Rattle.proof_commits.proofs.Words.Along.{reading_turn}
use Rattle.proof_commits.proofs.Course.OfLists.{given_read}
use Rattle.proof_generations.proofs.Falling.KnownRoots.{words, known, protocol_of}
use Rattle.proof_generations.specs.Beneath.machine_model.proofs.Alike.{alike, moment_goes}

-- the state after a step of an operation that goes on
pub gone_is : (before : State) (actor : ℕ) (o : Outcome) (after : State) → Moves before (step.Go actor) o after → (operation : Operation) → operation_of before actor ≡ Some operation →
    GoesOn (action_of before operation) → after ≡ settled before (gone before actor operation)
gone_is before actor o after (Goes {operation = x} d is a g) operation runs goes = ap (λ y. settled before (gone before actor y)) (same_Some _ _ (sym is ∙ runs))
gone_is before actor o after (Ends {operation = x} {answer} d is a) operation runs goes =
    absurd (subst GoesOn (ap (action_of before) (same_Some _ _ (sym runs ∙ is)) ∙ a) goes)

-- what was before the READ began is before what it counts from
pub counts_late : (l : ReadLine) (c t before : ℕ) → c < t → (l ≡ read.Main) ⊎ (c < before) → c < counts_at l t before
counts_late read.Main c t before lt since = lt
counts_late (read.Restore m p) c t before lt since = lt
counts_late (read.Prev m) c t before lt (inr late) = late
counts_late (read.Prev m) c t before lt (inl e) = let wrong : ⊥ = cc e in absurd wrong
counts_late (read.AskRoot m p) c t before lt (inr late) = late
counts_late (read.AskRoot m p) c t before lt (inl e) = let wrong : ⊥ = cc e in absurd wrong
counts_late (read.Abort m p offer) c t before lt (inr late) = late
counts_late (read.Abort m p offer) c t before lt (inl e) = let wrong : ⊥ = cc e in absurd wrong
counts_late (read.Decide m p told) c t before lt (inr late) = late
counts_late (read.Decide m p told) c t before lt (inl e) = let wrong : ⊥ = cc e in absurd wrong

module _ {limits : Bounds} {states : ℕ → State} {last : ℕ} (run : IsRun limits states last) (t : ℕ) (lt : t < last) (actor : ℕ) (operation : Operation)
    (is : operation_of (states t) actor ≡ Some operation) (r : Read) (stage : stage_of operation.line ≡ Reads r.indirection r.line) where
  -- its action is the READ's
  pub reads_action : action_of (states t) operation ≡ read_action r.indirection r.line
  reads_action = (on_stage (states t) operation (λ i m. Unit {0}) (Unit {0}) operation.line r.indirection r.line stage).0

  read_goes : (i : Ref) (l : ReadLine) → GoesOn (read_action i l)
  read_goes i read.Main = tt
  read_goes i (read.Prev m) = tt
  read_goes i (read.AskRoot m p) = tt
  read_goes i (read.Abort m p offer) = tt
  read_goes i (read.Decide m p told) = tt
  read_goes i (read.Restore m p) = tt

  pub reads_goes : GoesOn (action_of (states t) operation)
  reads_goes = subst GoesOn (sym reads_action) (read_goes r.indirection r.line)

-- and what is noted of it
module _ {limits : Bounds} {states : ℕ → State} {last : ℕ} (run : IsRun limits states last) (t : ℕ) (lt : t < last) (actor : ℕ) (operation : Operation)
    (is : operation_of (states t) actor ≡ Some operation) (r : Read) (stage : stage_of operation.line ≡ Reads r.indirection r.line)
    (noted : run.records (suc t) ≡ noted_progress (run.records t) (states t).steps actor (progress_of (states t) operation)) where
  -- the time from which it counts
  pub counted_at : is_actor (states t) actor ≡ true → (moment_at (run.records (suc t)) actor).read_at ≡ counts_at r.line t (moment_at (run.records t) actor).read_at
  counted_at own =
      ap (λ past. (moment_at past actor).read_at) noted
      ∙ ap (λ (x : Moment). x.read_at) (moment_goes (states t) (run.records t) actor operation (alike run t (omega arith)) own)
      ∙ ap (λ a. read_at_after (states t).steps (counts_from a) (moment_at (run.records t) actor).read_at) (reads_action run t lt actor operation is r stage)
      ∙ ap (λ n. read_at_after n (counts_from (read_action r.indirection r.line)) (moment_at (run.records t) actor).read_at) (steps_at run t (omega arith))
      ∙ read_counts r.indirection r.line t (moment_at (run.records t) actor).read_at

  pub late_after : is_actor (states t) actor ≡ true → (c : ℕ) → c < t → (r.line ≡ read.Main) ⊎ (c < (moment_at (run.records t) actor).read_at) →
      c < (moment_at (run.records (suc t)) actor).read_at
  late_after own c before since = omega (arith, counted_at own, counts_late r.line c t (moment_at (run.records t) actor).read_at before since)

  -- what it gives stood in the word
  pub given_stands : (o : Outcome) → Moves (states t) (step.Go actor) o (states (suc t)) → (m : Ref) → read_step (states t) operation r ≡ Gives m →
      Stood (words states run.records last) (suc t) r.indirection m
  given_stands o moves m gives =
      let turn = reading_turn limits states last (known run) t lt actor operation o moves is noted r.indirection r.line stage in
      let out = given_read r.indirection (read_after (states t).heap operation.access (word_at (states t) (handle_of operation.call)) r.indirection r.line) m gives in
      let given : Given (words states run.records last) (suc t) actor r.indirection m =
      record { at = t; past = omega arith; line = r.line; stage = ap stage_of_actor is ∙ stage; gives = subst (λ x. ReadTurn (words states run.records last) t r.indirection r.line x) out turn } in
      ((sound_at (protocol_of run) (suc t) lt).given actor r.indirection m given).stood
