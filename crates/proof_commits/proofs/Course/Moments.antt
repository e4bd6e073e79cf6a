-- What a READ of an operation gives, and that the operation's fields tell from when on it was the logical main node.
use Rattle.std.proofs.Common.{◌≡◌, ℕ, suc, ◌<◌, max, ◌==◌, Option, Some, None, option_map, find, refl, sym, ◌∙◌, ap, subst, arith}
use Rattle.proof_commits.specs.Vocabulary.{Access, Writable, Ref, Heap, Commit, Operation, After, Gives, ReadLine, RootWord, Bounds, Outcome, handle_of, State, word_at, operation_of, Verdict}
use Rattle.proof_commits.specs.Vocabulary.{Commits, Fails, Overtaken, verdict, read_action, read_after, after_decide, committed_by, committed_so, at_indirection, Moment, Record, commit_step}
use Rattle.proof_commits.specs.Vocabulary.{commits_after, moment_after, moment_at, moment_given, noted_progress, read_at_after, step_of_commit, committed_in, counts_from, given_by, given_in}
use Rattle.proof_commits.specs.Vocabulary.{progress_of}
use Rattle.proof_commits.specs.Beneath.machine_model.specs.declared.reading.ReadLine.TheVariants as read
use Rattle.proof_commits.specs.Beneath.machine_model.specs.declared.steps.Step.TheVariants as step
use Rattle.proof_commits.specs.Beneath.machine_model.specs.Moves as Machine
use Rattle.proof_commits.specs.Beneath.machine_model.proofs.Times.{steps_at}
use Rattle.proof_commits.specs.Protocol.{Words, Reads, Given, CommitsNode, ReadTurn, ReadsMain, FindsDecided, FindsFailed, FindsPending, DecidesAtOnce, Asks, FindsOffer, Aborts}
use Rattle.proof_commits.specs.Protocol.{Commits as CommitsTurn, Fails as FailsTurn, Overtaken as OvertakenTurn, Restores, FindsAnother, counts_at, Protocol}
use Rattle.proof_commits.proofs.Course.Finals.{first_commit, commits_at}
use Rattle.proof_commits.proofs.Course.Readings.{gives_moment}
use Rattle.proof_commits.specs.Moments.{later_of, IsMoment}
use Rattle.proof_commits.specs.Stages.{stage_of, stage_of_actor}
use Rattle.proof_commits.proofs.Known.Given.{Known}
use Rattle.proof_commits.specs.Words.{words_of, commit_of}
use Rattle.proof_commits.proofs.Known.StepsAt.{commit_here, commit_kept}
use Rattle.proof_commits.proofs.Lines.Reads.{ReadsSo, on_stage, read_counts}
use Rattle.proof_commits.proofs.Words.Along.{reading_turn, protocol}

-- ---- the moment of the definition

-- the step of a commit, where none is 0
step_or_zero : (r : ℕ) (x : Option Commit) → max r (step_of_commit x) ≡ later_of r (option_map (λ (c : Commit). c.step) x)
step_or_zero r None = omega arith
step_or_zero r (Some c) = refl

-- a READ commits what it gives, if anything
commits_given : (heap : Heap) (access : Access) (word : RootWord) (i : Ref) (l : ReadLine) (m : Ref) → read_after heap access word i l ≡ Gives m → (x : Ref) →
    committed_by heap i l ≡ Some x → x ≡ m
commits_given heap access word i (read.Decide main p told) m e x c = by_verdict (verdict heap i main p told) e c
  where
    by_verdict : (v : Verdict) → after_decide main v ≡ Gives m → committed_so main v ≡ Some x → x ≡ m
    by_verdict Commits e c = cc
    by_verdict Fails e c = let wrong : ⊥ = cc in absurd wrong
    by_verdict (Overtaken licensed) e c = let wrong : ⊥ = cc in absurd wrong
commits_given heap access word i read.Main m e x c = let wrong : ⊥ = cc in absurd wrong
commits_given heap access word i (read.Prev main) m e x c = let wrong : ⊥ = cc in absurd wrong
commits_given heap access word i (read.AskRoot main p) m e x c = let wrong : ⊥ = cc in absurd wrong
commits_given heap access word i (read.Abort main p offer) m e x c = let wrong : ⊥ = cc in absurd wrong
commits_given heap access word i (read.Restore main p) m e x c = let wrong : ⊥ = cc in absurd wrong

-- the step of the commit of what is given, now or before, is what is kept after the step
kept_step : (past now : Record) (step : ℕ) (m : Ref) (r : ℕ) (committed : Option Ref) → ((x : Ref) → committed ≡ Some x → x ≡ m) →
    now.commits ≡ commits_after past step committed → (committed ≡ Some m → commit_of past m ≡ None) → max r (commit_step past step m committed) ≡ later_of r (commit_of now m)
kept_step past now step m r None own e first = step_or_zero r (find (λ (c : Commit). c.main == m) past.commits) ∙ ap (later_of r) (sym (commit_kept past now m e))
kept_step past now step m r (Some x) own e first =
    let same : x ≡ m = own x refl in
    let committed : now.commits ≡ commits_after past step (Some m) = e ∙ ap (λ y. commits_after past step (Some y)) same in
    sym (ap (later_of r) (commit_here past now step m committed (first (ap (λ (y : Ref). Some y) same))))

-- where a READ commits what it gives
read_commits : (heap : Heap) (w : Words) (t : ℕ) (i : Ref) (l : ReadLine) (out : After ReadLine Ref) → ReadTurn w t i l out → (m : Ref) → out ≡ Gives m →
    committed_by heap i l ≡ Some m → (q : Ref) × CommitsNode w t m q
read_commits heap w t i l out (ReadsMain e k) m is c = let wrong : ⊥ = cc in absurd wrong
read_commits heap w t i l out (FindsDecided e n) m is c = let wrong : ⊥ = cc in absurd wrong
read_commits heap w t i l out (FindsFailed e n) m is c = let wrong : ⊥ = cc in absurd wrong
read_commits heap w t i l out (FindsPending e n) m is c = let wrong : ⊥ = cc in absurd wrong
read_commits heap w t i l out (DecidesAtOnce e n) m is c = let wrong : ⊥ = cc in absurd wrong
read_commits heap w t i l out (Asks g e early) m is c = let wrong : ⊥ = cc in absurd wrong
read_commits heap w t i l out (FindsOffer offer e) m is c = let wrong : ⊥ = cc in absurd wrong
read_commits heap w t i l out (Aborts e) m is c = let wrong : ⊥ = cc in absurd wrong
read_commits heap w t i l out (CommitsTurn {m = x} {p} licence e) m is c =
    let same : x ≡ m = cc in
    (p, subst (λ y. CommitsNode w t y p) same e)
read_commits heap w t i l out (FailsTurn e) m is c = let wrong : ⊥ = cc in absurd wrong
read_commits heap w t i l out (OvertakenTurn next e n which) m is c = let wrong : ⊥ = cc in absurd wrong
read_commits heap w t i l out (Restores e) m is c = let wrong : ⊥ = cc in absurd wrong
read_commits heap w t i l out (FindsAnother e) m is c = let wrong : ⊥ = cc in absurd wrong

-- ---- a step of an operation's own READ

module _ (limits : Bounds) (states : ℕ → State) (last : ℕ) (known : Known limits states last) (t : ℕ) (h : t < last) (actor : ℕ) (operation : Operation) (o : Outcome)
    (moves : Machine.Moves (states t) (step.Go actor) o (states (suc t))) (is : operation_of (states t) actor ≡ Some operation)
    (noted : known.run.records (suc t) ≡ noted_progress (known.run.records t) (states t).steps actor (progress_of (states t) operation)) (i : Ref) (x : ReadLine)
    (stage : stage_of operation.line ≡ Reads i x) where
  abbrev w : Words
  w = words_of states known.run.records last known.closing

  abbrev out : After ReadLine Ref
  out = read_after (states t).heap operation.access (word_at (states t) (handle_of operation.call)) i x

  so : ReadsSo (states t) operation (λ j m. Given w t actor j m) (operation.access ≡ Writable) operation.line (Reads i x)
  so = on_stage (states t) operation (λ j m. Given w t actor j m) (operation.access ≡ Writable) operation.line i x stage

  -- what was known of the operation's READs, and what is
  abbrev was : Moment
  was = moment_at (known.run.records t) actor

  abbrev pub found : Moment
  found = moment_after (known.run.records t) (states t).steps (progress_of (states t) operation) was

  read_commits_after : (known.run.records (suc t)).commits ≡ commits_after (known.run.records t) (states t).steps (committed_by (states t).heap i x)
  read_commits_after =
      ap (λ (r : Record). r.commits) noted ∙ ap (λ r. commits_after (known.run.records t) (states t).steps (committed_in (states t) r)) so.1

  -- it is a turn of the protocol
  turn : ReadTurn w t i x out
  turn = reading_turn limits states last known t h actor operation o moves is noted i x stage

  gives_turn : (m : Ref) → out ≡ Gives m → ReadTurn w t i x (Gives m)
  gives_turn m gives = subst (λ y. ReadTurn w t i x y) gives turn

  -- whence it counts is what is known afterwards
  pub counted : found.read_at ≡ counts_at x t (w.from t actor)
  counted =
      ap (λ a. read_at_after (states t).steps (counts_from a) was.read_at) so.0
      ∙ ap (λ n. read_at_after n (counts_from (read_action i x)) was.read_at) (steps_at known.run t (omega arith)) ∙ read_counts i x t was.read_at

  moment_is : (m : Ref) → out ≡ Gives m → found.moment ≡ max found.read_at (commit_step (known.run.records t) (states t).steps m (committed_by (states t).heap i x))
  moment_is m gives =
      let given : Option Ref → Option Ref → ℕ = λ r c. moment_given (known.run.records t) (states t).steps found.read_at was.moment r c in
      ap (λ r. given (given_in (states t) operation r) (committed_in (states t) r)) so.1
      ∙ ap (λ y. given (given_by (at_indirection i y)) (committed_by (states t).heap i x)) gives

  uncommitted : (m : Ref) → out ≡ Gives m → committed_by (states t).heap i x ≡ Some m → commit_of (known.run.records t) m ≡ None
  uncommitted m gives c =
      let p : Protocol = protocol limits states last known in
      let committed = read_commits (states t).heap w t i x out turn m gives c in
      first_commit p t (omega arith) (commits_at p t (omega arith)) m committed.0 committed.1

  -- so the moment is told
  pub moment_noted : (m : Ref) → out ≡ Gives m → IsMoment w i m found.read_at found.moment t
  moment_noted m gives =
      let p : Protocol = protocol limits states last known in
      let r = counts_at x t (w.from t actor) in
      let mu : found.moment ≡ later_of r (w.commit (suc t) m) =
      moment_is m gives
      ∙ kept_step (known.run.records t) (known.run.records (suc t)) (states t).steps m found.read_at (committed_by (states t).heap i x)
      (λ y c. commits_given (states t).heap operation.access (word_at (states t) (handle_of operation.call)) i x m gives y c) read_commits_after (uncommitted m gives)
      ∙ ap (λ n. later_of n (w.commit (suc t) m)) counted in
      subst (λ n. IsMoment w i m n found.moment t) (sym counted)
      (subst (λ n. IsMoment w i m r n t) (sym mu) (gives_moment p t h actor i m x (ap stage_of_actor is ∙ stage) (gives_turn m gives)))
