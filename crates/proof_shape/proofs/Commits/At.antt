-- Each step leaves all main nodes and commits nothing, or it commits one fresh node, whose owner knows what it made.
use Rattle.proof_shape.specs.Vocabulary.{GivesUp, Access, Writable, ReadOnly, Ref, Purpose, Operation, ReadLine, Swap, Reply, Bounds, Outcome, Step, State, operation_of, action_of, run as run_steps}
use Rattle.proof_shape.specs.Vocabulary.{node_under, Begins, Ends, Sweeps, Moves, GoesOn, IsRun, committed_now, told_in, Record, commits_after, noted, CommitsNode, Protocol, KnowsLine, KnowsRepair}
use Rattle.std.proofs.Common.{◌≡◌, ℕ, suc, ◌<◌, ◌≤◌, List, Option, Some, None, refl, sym, ◌∙◌, ap, subst, arith}
use Rattle.proof_shape.specs.Beneath.machine_model.specs.declared.actions.Action.TheVariants as act
use Rattle.proof_shape.specs.Beneath.machine_model.specs.declared.lines.Line.TheVariants as line
use Rattle.proof_shape.specs.Beneath.machine_model.specs.declared.lines.Purpose.TheVariants as purpose
use Rattle.proof_shape.specs.Beneath.machine_model.specs.declared.reading.SwapLine.TheVariants as swap
use Rattle.proof_shape.specs.Beneath.proof_commits.proofs.Known.Owners.{Owner}
use Rattle.proof_shape.specs.Beneath.proof_commits.proofs.Lines.Swap.{RunsSwap}
use Rattle.proof_shape.specs.Beneath.machine_model.specs.declared.steps.Step.TheVariants as step
use Rattle.proof_shape.specs.Beneath.machine_model.proofs.EachOperation.{of_running}
use Rattle.proof_shape.specs.Beneath.machine_model.specs.Moves.{Goes}
use Rattle.proof_shape.specs.Beneath.machine_model.proofs.Readers.{IsReaders, ReadsIfReadOnly, each_reads}
use Rattle.proof_shape.specs.Beneath.proof_commits.proofs.Course.Changers.{changers_known}
use Rattle.proof_shape.specs.Beneath.machine_model.proofs.Notes.{noted_ending, noted_going}
use Rattle.proof_shape.specs.Beneath.proof_commits.proofs.Words.Along.{protocol}
use Rattle.proof_shape.specs.Lines.Given.{GaveBelow, Was}
use Rattle.proof_shape.specs.Lines.Climbing.{KnowsClimbing}
use Rattle.proof_shape.specs.Lines.Knowing.{known_with, first_main, IsPlaced}
use Rattle.proof_shape.specs.Lines.Commits.{Firsts, made_with, KnowsFresh, OwnCommit, begins, goes, sweeps, MainStep, stays, changes, CommitsAt, gives_up}
use Rattle.proof_shape.proofs.Runs.EachAt.{GoesAt}
use Rattle.proof_shape.proofs.Runs.RunOf.{run_of}
use Rattle.proof_shape.proofs.Lines.Places.{places_at}
use Rattle.proof_shape.proofs.Lines.Knows.{knows_at}
use Rattle.proof_shape.proofs.Lines.RepairsAt.{repairs_at}
use Rattle.proof_shape.proofs.Lines.ClimbsAt.{climbs_at}
use Rattle.proof_shape.proofs.Commits.MainsStay.{quiet_stays}
use Rattle.proof_shape.proofs.Commits.Deciders.{DecidesNode, decides_node}
use Rattle.proof_shape.proofs.Commits.Owners.{over_another, owner_then, runs_then, alone_then, commits_then, main_before_then, main_after_then, others_then}
use Rattle.proof_shape.proofs.Commits.Entered.{enters_owner}
use Rattle.proof_shape.specs.Beneath.proof_commits.proofs.Known.Acts.{known_run}

module _ {limits : Bounds} {states : ℕ → State} {last : ℕ} (run : IsRun limits states last) where
  abbrev p : Protocol
  p = protocol limits states last (known_run run)

  -- who swaps does so on a writable handle
  pub swaps_writable : (t : ℕ) → t ≤ last → (actor : ℕ) (operation : Operation) → operation_of (states t) actor ≡ Some operation → (why : Purpose) (s : Swap) → operation.line ≡ line.Swap why s →
      operation.access ≡ Writable
  swaps_writable t h actor operation is why s e = by_access operation.access refl
    where
      after : (steps : List Step) × (states t ≡ run_steps limits steps)
      after = run_of run t h

      reads : ReadsIfReadOnly operation
      reads =
          of_running (λ state operation. ReadsIfReadOnly operation) (run_steps limits after.0) (each_reads limits after.0) actor operation
          (ap (λ (x : State). operation_of x actor) (sym after.1) ∙ is)

      by_access : (a : Access) → operation.access ≡ a → operation.access ≡ Writable
      by_access Writable a = a
      by_access ReadOnly a = absurd (subst IsReaders e (reads a).1)

  -- what is known of a fresh node just before the step that commits it
  abbrev pub FreshKnown : Firsts → Type 0
  FreshKnown firsts =
      (t : ℕ) → t < last → (actor : ℕ) (owner : Operation) (why : Purpose) (i a f : Ref) (l : ReadLine) (start : ℕ) → operation_of (states t) actor ≡ Some owner →
      owner.line ≡ line.Swap why (record { indirection = i; replaced = a; fresh = f; line = swap.Deciding l }) → owner.generation ≡ Some start →
      CommitsNode (protocol limits states last (known_run run)).words t f a → KnowsFresh limits states run.records last firsts t actor start owner a f why

  module _ (firsts : Firsts) (fresh_known : FreshKnown firsts) (t : ℕ) (h : t < last) where
    -- where a node is committed
    committed : (s : Step) (actor : ℕ) (operation : Operation) → s ≡ step.Go actor → GoesAt states run.records t actor operation → (x : Ref) → committed_now (states t) operation ≡ Some x →
        OwnCommit limits states run.records last firsts t s
    committed s actor operation is_go go x now = record {
      indirection = owner.link;
      replaced = d.previous;
      fresh = x;
      before = main_before_then run t h actor operation go x d;
      after = main_after_then run t h actor operation go x d;
      differ = over_another run t h actor operation go x d;
      others = others_then run t h actor operation go x d;
      taker = actor;
      takes = is_go;
      decider = operation;
      decides = go.runs;
      commits = now;
      actor = owner.actor;
      owner = runs.operation;
      runs = runs.is;
      writable = swaps_writable t (omega arith) owner.actor runs.operation runs.is runs.swaps.0 _ runs.swaps.1;
      start = placed.0.0;
      generation = placed.0.1;
      why = runs.swaps.0;
      deciding = owner.line;
      swaps = runs.swaps.1;
      alone = alone_then run t h actor operation go x d;
      placed = placed.1;
      knows = fresh_known t h owner.actor runs.operation runs.swaps.0 owner.link d.previous x owner.line placed.0.0 runs.is runs.swaps.1 placed.0.1
          (commits_then run t h actor operation go x d);
      enters = enters_owner (run.records t) runs.operation t x runs.swaps.0
          (changers_known limits states last (known_run run) t (omega arith) owner.actor runs.operation runs.is
          (record { why = runs.swaps.0; indirection = owner.link; replaced = d.previous; fresh = x; at = owner.line; is = runs.swaps.1 }));
    }
      where
        d : DecidesNode (states t) operation x
        d = decides_node (states t) operation x now

        owner : Owner p.words t x d.previous
        owner = owner_then run t h actor operation go x d

        runs : RunsSwap (operation_of (states t) owner.actor) owner.link d.previous x (swap.Deciding owner.line)
        runs = runs_then run t h actor operation go x d

        placed : IsPlaced runs.operation.generation (line.Swap runs.swaps.0 (record { indirection = owner.link; replaced = d.previous; fresh = x; line = swap.Deciding owner.line }))
        placed = subst (λ l. IsPlaced runs.operation.generation l) runs.swaps.1 (places_at run t (omega arith) owner.actor runs.operation runs.is)

    goes_by : (actor : ℕ) (operation : Operation) → GoesAt states run.records t actor operation → (now : Option Ref) → committed_now (states t) operation ≡ now →
        MainStep limits states run.records last firsts t (step.Go actor)
    goes_by actor operation go None e =
        stays (goes actor operation go.runs e)
        (quiet_stays run t h (ap (λ (x : Record). x.commits) go.noted ∙ ap (commits_after (run.records t) (states t).steps) e))
    goes_by actor operation go (Some x) e = changes (committed (step.Go actor) actor operation refl go x e)

    -- an end commits nothing
    ends_none : (operation : Operation) (answer : Reply) → action_of (states t) operation ≡ act.End answer → (now : Option Ref) →
        committed_now (states t) operation ≡ now → committed_now (states t) operation ≡ None
    ends_none operation answer a None e = e
    ends_none operation answer a (Some x) e = let d = decides_node (states t) operation x e in absurd (ends_not answer d.indirection x d.previous d.told (sym a ∙ d.action))
      where
        ends_not : (answer : Reply) (i m q : Ref) (told : Option ℕ) → act.End answer ≡ act.Decide i m q told → ⊥
        ends_not answer i m q told e = cc

    by_move : (s : Step) (o : Outcome) (after : State) → Moves (states t) s o after → after ≡ states (suc t) → run.records (suc t) ≡ noted (run.records t) (states t).steps (told_in (states t) s) →
        MainStep limits states run.records last firsts t s
    by_move s o after (Begins {actor} {call} {number} d) e notes = stays (begins actor call number) (quiet_stays run t h (ap (λ (x : Record). x.commits) notes))
    by_move s o after (Goes {actor} {operation} {action} d is a g) e notes =
        goes_by actor operation (record {
          o = o;
          moves = subst (λ x. Moves (states t) (step.Go actor) o x) e (Goes d is a g);
          runs = is;
          goes = subst GoesOn (sym a) g;
          after = sym e;
          noted = notes ∙ noted_going (states t) (run.records t) actor operation action is a g;
        })
        (committed_now (states t) operation) refl
    by_move s o after (Ends {actor} {operation} {answer} d is a) e notes =
        stays (goes actor operation is (ends_none operation answer a (committed_now (states t) operation) refl))
        (quiet_stays run t h (ap (λ (x : Record). x.commits) (notes ∙ noted_ending (states t) (run.records t) actor operation answer is a)))
    by_move s o after (GivesUp {actor} d is a) e notes = stays (gives_up actor) (quiet_stays run t h (ap (λ (x : Record). x.commits) notes))
    by_move s o after (Sweeps spent) e notes = stays sweeps (quiet_stays run t h (ap (λ (x : Record). x.commits) notes))

  pub commits_by : (firsts : Firsts) → FreshKnown firsts → CommitsAt limits states run.records last firsts
  commits_by firsts fresh_known t h s o m notes = by_move firsts fresh_known t h s o (states (suc t)) m refl notes

  -- ---- with the main nodes with which indirections were made

  made_known : FreshKnown (made_with states last)
  made_known t h actor owner (purpose.Update path former) i a f l start runs e begun commits =
      subst (λ x. KnowsLine (known_with limits states last (first_main states last)) owner.call x) e (knows_at run t (omega arith) actor owner runs)
  made_known t h actor owner (purpose.Renew path) i a f l start runs e begun commits =
      subst (λ x. KnowsRepair (node_under states last) (first_main states last) (GaveBelow states run.records last t actor owner.id start) start x) e
      (repairs_at run t (omega arith) actor owner runs start begun)
  made_known t h actor owner purpose.Clean i a f l start runs e begun commits =
      subst (λ x. KnowsRepair (node_under states last) (first_main states last) (GaveBelow states run.records last t actor owner.id start) start x) e
      (repairs_at run t (omega arith) actor owner runs start begun)
  made_known t h actor owner (purpose.Climb c) i a f l start runs e begun commits =
      subst (λ x. KnowsClimbing (known_with limits states last (first_main states last)) (Was states last t) owner.call x) e (climbs_at run t (omega arith) actor owner runs)

  pub commits_at : CommitsAt limits states run.records last (made_with states last)
  commits_at = commits_by (made_with states last) made_known
