-- What an operation answers that has no place is right.
use Rattle.std.proofs.Common.{Option, ◌≡◌, ◌≢◌, ℕ, suc, ◌<◌, ◌≤◌, ◌^◌, Bool, true, false, true≢false, ◌∷◌, inl, None, refl, sym, ap, subst, ◌∙◌, arith, [], Some}
use Rattle.std.proofs.lemmas.Option.{none-some}
use Rattle.proof_updates.specs.Vocabulary.{Access, Writable, ReadOnly, Call, Close, Entries, Count, Reply, Ref, on_time, Line, Operation, Bounds, Outcome, Step, key_of, is_close, needs_read_only}
use Rattle.proof_updates.specs.Vocabulary.{State, first_line, begin_denial, Moves, begun_operation, turns, noted_turn, IsRun, Turn, is_placed, Record, noted, moment_at, told_in, Moment, given_up}
use Rattle.proof_updates.specs.Vocabulary.{gave_up, Trie, content, trie_of, Replied, on_writable, on_read_only, Since, IsWithin, has_read, Notes}
use Rattle.proof_updates.specs.Beneath.history.specs.declared.replies.Reply.TheVariants as reply
use Rattle.proof_updates.specs.Beneath.machine_model.specs.declared.lines.Purpose.TheVariants as purpose
use Rattle.proof_updates.specs.Beneath.machine_model.specs.declared.lines.Line.TheVariants as line
use Rattle.proof_updates.specs.Beneath.machine_model.specs.declared.steps.Step.TheVariants as step
use Rattle.proof_updates.specs.Beneath.proof_contents.specs.Steps.{IsTrie}
use Rattle.proof_order.specs.Facts.{Runs}
use Rattle.proof_updates.specs.Beneath.history.proofs.Among.{among_right}
use Rattle.proof_updates.specs.Beneath.proof_generations.proofs.Handles.Running.{place_of_actor}
use Rattle.proof_order.proofs.Phases.Steps.{is_placed_so}
use Rattle.proof_order.proofs.Phases.Since.{run_since}
use Rattle.proof_order.proofs.Phases.Standing.{rooted_at_moments, read_only_stands}
use Rattle.proof_order.proofs.Phases.Closers.{still_placed}
use Rattle.proof_updates.specs.Updates.{RepliesRight}
use Rattle.proof_updates.proofs.Answers.Each.{RightAt, WalksAt, IsAnswering, answering_goes}
use Rattle.proof_updates.proofs.Placed.Behind.{EndsSo, refused, has_place, is_right, Behind, later_behind, behind_given_up}
use Rattle.proof_updates.proofs.Tries.EachOperation.{each_operation}
use Rattle.proof_updates.proofs.Answers.ReaderRoots.{stood_before}
use Rattle.proof_updates.proofs.Placed.Swap.{none_next}
use Rattle.proof_updates.specs.Beneath.proof_commits.proofs.Lines.Reads.{only_end}
use Rattle.proof_updates.proofs.Answers.Given.{moment_of}
use Rattle.proof_order.proofs.Phases.LineTimes.{answered_unless}

-- ---- a begin

-- a call that walks reads a read-only handle
begun_reads : (state : State) (actor : ℕ) (call : Call) (number : Option ℕ) → begin_denial state actor call number ≡ None → needs_read_only call ≡ true →
    (begun_operation state call number).access ≡ ReadOnly
begun_reads state actor call number d e = grind arith

-- a close has its place at once
close_places : (state : State) (past : Record) (actor : ℕ) (call : Call) (number : Option ℕ) → is_close call ≡ true →
    is_placed (noted past state.steps (told_in state (step.Begin actor call number))) state.begun ≡ true
close_places state past actor (Close handle) number e =
    is_placed_so (noted past state.steps (told_in state (step.Begin actor (Close handle) number))) (on_time state.steps false state.begun)
    (among_right past.places (on_time state.steps false state.begun ∷ []) _ (inl refl)) state.begun refl
close_places state past actor call number e = absurd (true≢false (sym e))

module _ (limits : Bounds) (states : ℕ → State) (last : ℕ) (depth path : Ref → ℕ) (run : IsRun limits states last) (ok : IsTrie (trie_of limits states last depth path))
    (fits : (t : ℕ) → t ≤ last → (k : ℕ) (operation : Operation) → Runs (states t) k operation → key_of operation.call < 2 ^ 64) where
  abbrev trie : Trie
  trie = trie_of limits states last depth path

  answering_begins : (t k : ℕ) → t < last → (call : Call) (number : Option ℕ) (o : Outcome) → Moves (states t) (step.Begin (suc k) call number) o (states (suc t)) →
      begin_denial (states t) (suc k) call number ≡ None → Notes states run.records t (step.Begin (suc k) call number) →
      IsAnswering states run.records trie (suc t) k (begun_operation (states t) call number)
  answering_begins t k lt call number o m d notes = record {
    closes = λ e. subst (λ (q : Record). is_placed q (states t).begun ≡ true) (sym notes) (close_places (states t) (run.records t) (suc k) call number e);
    behind = λ e. first_behind call e (begun_reads (states t) (suc k) call number d);
    its = λ e read_only g none h stands. absurd (none-some g none);
  }
    where
      first_behind : (x : Call) → is_close x ≡ false → (needs_read_only x ≡ true → (begun_operation (states t) call number).access ≡ ReadOnly) →
          Behind states run.records (suc t) (states t).begun (RightAt states trie (suc t) (begun_operation (states t) call number).access None (moment_at (run.records (suc t)) (suc k)).moment call)
          (WalksAt states trie (suc t) (begun_operation (states t) call number).access x) (first_line x)
      first_behind (Entries h) e reads = (reads refl, refl, λ g stands. tt)
      first_behind (Count h) e reads = (reads refl, refl, λ g stands. tt)
      first_behind (Close h) e reads = absurd (true≢false e)
      first_behind call e reads = tt

  -- ---- while others move

  module _ (t k : ℕ) (lt : t < last) (operation : Operation) (runs : Runs (states t) k operation) (s : Step) (o : Outcome) (m : Moves (states t) s o (states (suc t)))
      (notes : Notes states run.records t s) (same : moment_at (run.records (suc t)) (suc k) ≡ moment_at (run.records t) (suc k))
      (before : IsAnswering states run.records (trie_of limits states last depth path) t k operation) where
    keeps_place : is_placed (run.records t) operation.id ≡ true → is_placed (run.records (suc t)) operation.id ≡ true
    keeps_place is = subst (λ q. is_placed q operation.id ≡ true) (sym notes) (still_placed (states t) (run.records t) s o (states (suc t)) m operation.id is)

    module _ (no_close : is_close operation.call ≡ false) where
      right_later : (answer : Reply) → RightAt states trie t operation.access operation.generation (moment_of run t k).moment operation.call answer →
          RightAt states trie (suc t) operation.access operation.generation (moment_of run t k).moment operation.call answer
      right_later answer = by_access operation.access refl
        where
          by_access : (a : Access) → operation.access ≡ a → RightAt states trie t a operation.generation (moment_of run t k).moment operation.call answer →
              RightAt states trie (suc t) a operation.generation (moment_of run t k).moment operation.call answer
          by_access Writable is h = h
          by_access ReadOnly is h = λ g e. h g (stood_before run t k lt operation runs no_close is g e)

      line_later : (l : Line) → operation.line ≡ l →
          Behind states run.records t operation.id (RightAt states trie t operation.access operation.generation (moment_of run t k).moment operation.call)
          (WalksAt states trie t operation.access operation.call) l →
          Behind states run.records (suc t) operation.id (RightAt states trie (suc t) operation.access operation.generation (moment_of run t k).moment operation.call)
          (WalksAt states trie (suc t) operation.access operation.call) l
      line_later (line.Swap (purpose.Update path former) x) e h = none_next run t k lt operation runs s o m notes path former x e h
      line_later (line.Swap (purpose.Renew path) x) e h = tt
      line_later (line.Swap purpose.Clean x) e h = tt
      line_later (line.Swap (purpose.Climb c) x) e h = keeps_place h
      line_later (line.Climb l) e h = keeps_place h
      line_later (line.End answer) e h =
          later_behind run.records t (suc t) operation.id (RightAt states trie t operation.access operation.generation (moment_of run t k).moment operation.call)
          (RightAt states trie (suc t) operation.access operation.generation (moment_of run t k).moment operation.call) keeps_place right_later answer h
      line_later (line.Walk l) e (read_only, walks, knows) = (read_only, walks, λ g e'. knows g (stood_before run t k lt operation runs no_close read_only g e'))
      line_later (line.Root l) e h = tt
      line_later (line.Key l) e h = tt
      line_later (line.Build l) e h = tt
      line_later (line.Renew l) e h = tt
      line_later (line.Clean l) e h = tt
      line_later (line.Copy l) e h = tt
      line_later line.Impossible e h = tt

    answering_rests : IsAnswering states run.records (trie_of limits states last depth path) (suc t) k operation
    answering_rests = record {
      closes = λ e. keeps_place (before.closes e);
      behind = λ e.
          subst (λ (n : Moment). Behind states run.records (suc t) operation.id (RightAt states trie (suc t) operation.access operation.generation n.moment operation.call)
          (WalksAt states trie (suc t) operation.access operation.call) operation.line) (sym same) (line_later e operation.line refl (before.behind e));
      its = λ e read_only g generation h stands. before.its e read_only g generation h (stood_before run t k lt operation runs e read_only h stands);
    }

  -- ---- where one gives up

  answering_gave_up : (t k : ℕ) → t < last → (operation : Operation) (answer : Reply) → Runs (states t) k operation → given_up operation.call operation.line ≡ Some answer →
      (o : Outcome) → Moves (states t) (step.GiveUp (suc k)) o (states (suc t)) → run.records (suc t) ≡ run.records t → IsAnswering states run.records trie t k operation →
      IsAnswering states run.records trie (suc t) k (gave_up operation answer)
  answering_gave_up t k lt operation answer runs may o m same before = record {
    closes = λ e. still operation.id (before.closes e);
    behind = λ e. ends (behind_given_up states run.records t operation.id _ _ (WalksAt states trie t operation.access operation.call) operation.call operation.line answer may (before.behind e));
    its = λ e read_only g generation h stands. before.its e read_only g generation h (stood_before run t k lt operation runs e read_only h stands);
  }
    where
      still : (id : ℕ) → is_placed (run.records t) id ≡ true → is_placed (run.records (suc t)) id ≡ true
      still id is = subst (λ (q : Record). is_placed q id ≡ true) (sym same) is

      ends : {Right : Reply → Type 0} → EndsSo run.records t operation.id Right answer → EndsSo run.records (suc t) operation.id Right answer
      ends (refused is) = refused is
      ends (has_place is) = has_place (still operation.id is)
      ends (is_right h) = is_right h

  -- ---- along the run

  rests : (t k : ℕ) → t < last → (operation : Operation) → Runs (states t) k operation → moment_at (run.records (suc t)) (suc k) ≡ moment_at (run.records t) (suc k) →
      IsAnswering states run.records trie t k operation → IsAnswering states run.records trie (suc t) k operation
  rests t k lt operation runs same before = by_turn (run.turn t lt) (run.recorded t lt)
    where
      by_turn : (turn : Turn (states t) (states (suc t))) → run.records (suc t) ≡ noted_turn turn (run.records t) → IsAnswering states run.records trie (suc t) k operation
      by_turn (turns s o m) notes = answering_rests t k lt operation runs s o m notes same before

  pub answering_at : (t : ℕ) → t ≤ last → (k : ℕ) (operation : Operation) → Runs (states t) k operation → IsAnswering states run.records (trie_of limits states last depth path) t k operation
  answering_at =
      each_operation run (λ t k operation. IsAnswering states run.records trie t k operation)
      (λ t k operation b h. record { closes = h.closes; behind = h.behind; its = h.its }) answering_begins answering_gave_up rests
      (λ t k lt operation own h. answering_goes limits states last depth path run ok fits t k lt operation own h)

  -- ---- the end

  module _ (t k : ℕ) (lt : t < last) (operation : Operation) (runs : Runs (states t) k operation) (answer : Reply) (e : operation.line ≡ line.End answer) where
    within : t ≤ last
    within = omega arith

    since : Since states run.records t k operation
    since = run_since run t k operation within runs

    replied : is_close operation.call ≡ false → answer ≢ reply.NoSlots →
        RightAt states trie t operation.access operation.generation (moment_of run t k).moment operation.call answer →
        Replied limits states run.records last (content trie) operation (moment_of run t k).moment answer
    replied no_close other h = by_access operation.access refl h
      where
        has : has_read operation.line ≡ true
        has = ap has_read e ∙ answered_unless answer other

        moment : IsWithin run.records since.at t (moment_of run t k).moment
        moment = (since.reads no_close).moment has

        by_access : (a : Access) → operation.access ≡ a → RightAt states trie t a operation.generation (moment_of run t k).moment operation.call answer →
            Replied limits states run.records last (content trie) operation (moment_of run t k).moment answer
        by_access Writable is (g, generation, right) =
            on_writable g is generation (rooted_at_moments run t k operation g within runs is generation has) moment.closes_none right
        by_access ReadOnly is right =
            let stands = read_only_stands run t k operation within runs is no_close since in
            on_read_only stands.0 is (stands.1 (suc (moment_of run t k).moment) (omega (arith, moment.behind)) (omega (arith, moment.past)))
            (right stands.0 (stands.1 t since.past (omega arith)))

    no_close_unplaced : is_placed (run.records t) operation.id ≡ false → is_close operation.call ≡ false
    no_close_unplaced unplaced = by_test (is_close operation.call) refl
      where
        by_test : (b : Bool) → is_close operation.call ≡ b → is_close operation.call ≡ false
        by_test false is = is
        by_test true is = absurd (true≢false (sym ((answering_at t within k operation runs).closes is) ∙ unplaced))

    right_reply : answer ≢ reply.NoSlots → is_placed (run.records t) operation.id ≡ false →
        Replied limits states run.records last (content trie) operation (moment_of run t k).moment answer
    right_reply other unplaced =
        by_ending
        (subst (λ l. Behind states run.records t operation.id (RightAt states trie t operation.access operation.generation (moment_of run t k).moment operation.call)
        (WalksAt states trie t operation.access operation.call) l) e
        ((answering_at t within k operation runs).behind (no_close_unplaced unplaced)))
      where
        by_ending : EndsSo run.records t operation.id (RightAt states trie t operation.access operation.generation (moment_of run t k).moment operation.call) answer →
            Replied limits states run.records last (content trie) operation (moment_of run t k).moment answer
        by_ending (refused is) = absurd (other is)
        by_ending (has_place is) = absurd (true≢false (sym is ∙ unplaced))
        by_ending (is_right h) = replied (no_close_unplaced unplaced) other h

  pub replies_right : RepliesRight limits states run.records last (trie_of limits states last depth path)
  replies_right t actor operation answer o lt m notes is does other unplaced =
      let place = place_of_actor (states t) actor operation is in
      subst (λ j. Replied limits states run.records last (content trie) operation (moment_at (run.records t) j).moment answer) (sym place.1)
      (right_reply t place.0 lt operation place.2 answer (only_end (states t) operation operation.line answer does) other unplaced)
