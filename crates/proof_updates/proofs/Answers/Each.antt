-- What a running operation may be about to answer, at each time: own steps.
use Rattle.std.proofs.Common.{◌≡◌, ℕ, suc, ◌<◌, ◌≤◌, ◌^◌, true, false, true≢false, List, Option, Some, None, refl, sym, ap, subst, ◌∙◌, arith}
use Rattle.std.proofs.lemmas.Option.{same_Some}
use Rattle.proof_updates.specs.Vocabulary.{Access, Writable, ReadOnly, Call, Reply, Ref, generation_at, KeyLine, WalkLine, Line, Operation, After, Gives, Read, RootLine, Swap, Purpose, Bounds}
use Rattle.proof_updates.specs.Vocabulary.{key_of, handle_of, is_close, needs_read_only, State, root_of, word_of, word_at, read_step, root_after, key_after_read, key_after, walk_after, line_action}
use Rattle.proof_updates.specs.Vocabulary.{line_after, generation_from, generation_after, given_root, read_of, operation_after, GoesOn, IsRun, node_under, is_placed, Record, moment_at, is_end, Trie}
use Rattle.proof_updates.specs.Vocabulary.{trie_of, KnowsLine, IsGet, known_with, first_main}
use Rattle.proof_updates.specs.Beneath.machine_model.specs.declared.finding.KeyLine.TheVariants as key
use Rattle.proof_updates.specs.Beneath.machine_model.specs.declared.lines.Line.TheVariants as line
use Rattle.proof_updates.specs.Beneath.machine_model.specs.declared.reading.After.TheVariants.{Goes}
use Rattle.proof_updates.specs.Beneath.machine_model.specs.declared.lines.Purpose.TheVariants as purpose
use Rattle.proof_updates.specs.Beneath.machine_model.specs.declared.steps.Step.TheVariants as step
use Rattle.proof_updates.specs.Beneath.proof_contents.specs.Steps.{IsTrie}
use Rattle.proof_updates.specs.Beneath.proof_contents.proofs.Lines.Key.Ends.{EndsRight}
use Rattle.proof_updates.specs.Beneath.proof_generations.proofs.Roots.Open.{no_close_at}
use Rattle.proof_updates.specs.Beneath.proof_generations.proofs.Roots.Rooted.{root_given}
use Rattle.proof_order.specs.Facts.{Runs, standing}
use Rattle.proof_shape.specs.Lines.Knowing.{IsPlaced}
use Rattle.proof_shape.proofs.Lines.Leads.{is_walking, walk_leads}
use Rattle.proof_shape.proofs.Lines.Placed.{is_keyed}
use Rattle.proof_shape.proofs.Lines.Knows.{knows_at}
use Rattle.proof_shape.proofs.Lines.Places.{FitsCall, settled_at, places_at}
use Rattle.proof_shape.proofs.Runs.Seen.{keyed_get, fits_at}
use Rattle.proof_updates.proofs.Placed.Behind.{is_right, Behind, IfEnds, is_still, plain_behind, climbing_behind, still_behind, root_plain, build_plain, renew_plain, clean_plain}
use Rattle.proof_updates.proofs.Placed.Behind.{key_still, climb_climbs}
use Rattle.proof_updates.proofs.Placed.Copy.{copy_behind}
use Rattle.proof_updates.proofs.Tries.EachOperation.{OwnStep, own_notes}
use Rattle.proof_updates.proofs.Routes.Each.{has_route}
use Rattle.proof_updates.proofs.Answers.Key.{AnswersSo, keyed_so, key_right}
use Rattle.proof_updates.proofs.Answers.ReaderRoots.{StandsOn, stands_on, stood_before}
use Rattle.proof_updates.proofs.Routes.Known.{LineRoute}
use Rattle.proof_updates.proofs.Placed.Swap.{swap_behind}
use Rattle.proof_updates.proofs.Answers.Walk.{goes_at, Walks as Walks', walk_right}
use Rattle.proof_updates.proofs.Answers.WalkSteps.{below, KnowsWalk}
use Rattle.proof_updates.proofs.Answers.Given.{moment_of, quiet_moment}
use Rattle.proof_updates.proofs.Placed.Placing.{still}

-- ---- what is right, and what a walk knows, by the fields of an operation

abbrev pub RightAt : (ℕ → State) → Trie → ℕ → Access → Option ℕ → ℕ → Call → Reply → Type 0
RightAt states trie t Writable generation mu call answer = (g : ℕ) × (generation ≡ Some g) × AnswersSo trie Writable g mu call answer
RightAt states trie t ReadOnly generation mu call answer = (g : ℕ) → standing (states t) (handle_of call) ≡ Some (ReadOnly, g) → AnswersSo trie ReadOnly g mu call answer

abbrev pub WalksAt : (ℕ → State) → Trie → ℕ → Access → Call → WalkLine → Type 0
WalksAt states trie t access call l =
    (access ≡ ReadOnly) × (needs_read_only call ≡ true) × ((g : ℕ) → standing (states t) (handle_of call) ≡ Some (ReadOnly, g) → KnowsWalk trie (below trie (trie.root g)) l)

-- of a running operation
pub record IsAnswering (states : ℕ → State) (records : ℕ → Record) (trie : Trie) (t k : ℕ) (operation : Operation) : Type 0 where
  -- a close has its place
  pub closes : is_close operation.call ≡ true → is_placed (records t) operation.id ≡ true
  pub behind : is_close operation.call ≡ false →
      Behind states records t operation.id (RightAt states trie t operation.access operation.generation (moment_at (records t) (suc k)).moment operation.call)
      (WalksAt states trie t operation.access operation.call) operation.line
  -- its generation is that of the root of its read-only handle
  pub its : is_close operation.call ≡ false → operation.access ≡ ReadOnly → (g : ℕ) → operation.generation ≡ Some g → (h : ℕ) →
      standing (states t) (handle_of operation.call) ≡ Some (ReadOnly, h) → h ≡ g

module _ (limits : Bounds) (states : ℕ → State) (last : ℕ) (depth path : Ref → ℕ) (run : IsRun limits states last) (ok : IsTrie (trie_of limits states last depth path))
    (fits : (t : ℕ) → t ≤ last → (k : ℕ) (operation : Operation) → Runs (states t) k operation → key_of operation.call < 2 ^ 64) where
  abbrev trie : Trie
  trie = trie_of limits states last depth path

  module _ (t k : ℕ) (lt : t < last) (operation : Operation) (own : OwnStep states run.records t k operation)
      (before : IsAnswering states run.records (trie_of limits states last depth path) t k operation) where
    abbrev state : State
    state = states t

    abbrev next : Operation
    next = operation_after state operation

    abbrev Right : Reply → Type 0
    Right answer = RightAt states trie (suc t) operation.access next.generation (moment_of run (suc t) k).moment operation.call answer

    abbrev Walks : WalkLine → Type 0
    Walks l = WalksAt states trie (suc t) operation.access operation.call l

    abbrev On : Line → Type 0
    On l = Behind states run.records (suc t) operation.id Right Walks l

    -- what has its place keeps it
    keeps_place : is_placed (run.records t) operation.id ≡ true → is_placed (run.records (suc t)) operation.id ≡ true
    keeps_place is = still run t (step.Go (suc k)) own.outcome own.moves (own_notes states run.records t k operation own) operation.id is

    going : is_end operation.line ≡ false
    going = by_line operation.line own.goes
      where
        by_line : (l : Line) → GoesOn (line_action state operation l) → is_end l ≡ false
        by_line (line.End answer) g = absurd g
        by_line (line.Root l) g = refl
        by_line (line.Key l) g = refl
        by_line (line.Build l) g = refl
        by_line (line.Swap why s) g = refl
        by_line (line.Renew l) g = refl
        by_line (line.Clean l) g = refl
        by_line (line.Climb l) g = refl
        by_line (line.Copy l) g = refl
        by_line (line.Walk l) g = refl
        by_line line.Impossible g = refl

    no_close : is_close operation.call ≡ false
    no_close = no_close_at run t (omega arith) k operation own.runs going

    stood : operation.access ≡ ReadOnly → (g : ℕ) → standing (states (suc t)) (handle_of operation.call) ≡ Some (ReadOnly, g) → standing state (handle_of operation.call) ≡ Some (ReadOnly, g)
    stood read_only g e = stood_before run t k lt operation own.runs no_close read_only g e

    -- ---- KEY

    module _ (l : KeyLine) (e : operation.line ≡ line.Key l) where
      begun : (g : ℕ) × (operation.generation ≡ Some g)
      begun = subst (λ x. IsPlaced operation.generation x) e (places_at run t (omega arith) (suc k) operation own.runs)

      keyed : is_keyed operation.call ≡ true
      keyed = subst (λ x. FitsCall operation.call x) e (settled_at run t (omega arith) (suc k) operation own.runs).fits

      gets : operation.access ≡ ReadOnly → IsGet operation.call
      gets a = keyed_get operation.call keyed (fits_at run t (omega arith) (suc k) operation own.runs a)

      ends : EndsRight state operation (node_under states last) (first_main states last)
          (λ answer. AnswersSo trie operation.access (begun.0) (moment_of run t k).moment operation.call answer) (key_after state operation l)
      ends =
          key_right limits states last depth path run ok t lt (suc k) operation (goes_at states run.records t k operation own) begun.0 (keyed_so operation.call keyed)
          (fits t (omega arith) k operation own.runs) gets l e
          (subst (λ x. LineRoute trie operation.access begun.0 (key_of operation.call) t (moment_of run t k).read_at (moment_of run t k).moment x) e
          (has_route limits states last depth path run ok t (omega arith) k operation own.runs begun.0 begun.1))
          (subst (λ x. KnowsLine (known_with limits states last (first_main states last)) operation.call x) e (knows_at run t (omega arith) (suc k) operation own.runs))

      generation_is : generation_after state operation ≡ Some begun.0
      generation_is = ap (generation_from state operation) e ∙ begun.1

      right_so : (moment_of run t k).moment ≡ (moment_of run (suc t) k).moment → (answer : Reply) →
          AnswersSo trie operation.access begun.0 (moment_of run t k).moment operation.call answer → Right answer
      right_so moment answer h = by_access operation.access refl h
        where
          by_access : (a : Access) → operation.access ≡ a → AnswersSo trie a begun.0 (moment_of run t k).moment operation.call answer →
              RightAt states trie (suc t) a next.generation (moment_of run (suc t) k).moment operation.call answer
          by_access Writable is h = (begun.0, generation_is, subst (λ mu. AnswersSo trie Writable begun.0 mu operation.call answer) moment h)
          by_access ReadOnly is h = λ g e'.
              subst (λ x. AnswersSo trie ReadOnly x (moment_of run (suc t) k).moment operation.call answer) (sym (before.its no_close is begun.0 begun.1 g (stood is g e'))) h

      if_ends : (moment_of run t k).moment ≡ (moment_of run (suc t) k).moment → (x : Line) → is_still x ≡ true →
          EndsRight state operation (node_under states last) (first_main states last) (λ answer. AnswersSo trie operation.access begun.0
          (moment_of run t k).moment operation.call answer) x →
          IfEnds states run.records (suc t) operation.id Right Walks x
      if_ends moment (line.End answer) still h = right_so moment answer h
      if_ends moment (line.Root x) still h = tt
      if_ends moment (line.Key x) still h = tt
      if_ends moment (line.Build x) still h = tt
      if_ends moment (line.Swap why x) still h = tt
      if_ends moment (line.Renew x) still h = tt
      if_ends moment (line.Clean x) still h = tt
      if_ends moment (line.Climb x) still h = tt
      if_ends moment (line.Copy x) still h = tt
      if_ends moment (line.Walk x) still h = tt
      if_ends moment line.Impossible still h = tt

      same_moment : read_of (line.Key l) ≡ None → (moment_of run t k).moment ≡ (moment_of run (suc t) k).moment
      same_moment none = quiet_moment run t k lt operation own (ap read_of e ∙ none)

      -- where it doesn't read
      quiet_on : read_of (line.Key l) ≡ None → On (key_after state operation l)
      quiet_on none = still_behind states run.records (suc t) operation.id Right Walks _ (key_still state operation l)
          (if_ends (same_moment none) (key_after state operation l) (key_still state operation l) ends)

    read_on : (path : List Ref) (after : After Read Ref) → On (key_after_read path after)
    read_on path (Goes r) = tt
    read_on path (Gives main) = tt

    key_on : (l : KeyLine) → operation.line ≡ line.Key l → On (key_after state operation l)
    key_on (key.Read p r) e = read_on p (read_step state operation r)
    key_on (key.Main p main) e = quiet_on (key.Main p main) e refl
    key_on (key.Entry p main position) e = quiet_on (key.Entry p main position) e refl
    key_on (key.Listed p main position) e = quiet_on (key.Listed p main position) e refl
    key_on (key.Sibling p main position former) e = quiet_on (key.Sibling p main position former) e refl

    -- ---- WALK

    walk_on : (l : WalkLine) → operation.line ≡ line.Walk l → WalksAt states trie t operation.access operation.call l → On (walk_after state operation l)
    walk_on l e (read_only, walks, knows) = by_line (walk_after state operation l) (walk_leads state operation l).3 each
      where
        each : (g : ℕ) (stands : standing state (handle_of operation.call) ≡ Some (ReadOnly, g)) →
            Walks' limits states last depth path run ok t k lt operation own read_only walks g (moment_of run (suc t) k).moment stands (walk_after state operation l)
        each g stands = walk_right limits states last depth path run ok t k lt operation own read_only walks g (moment_of run (suc t) k).moment stands l e (knows g stands)

        by_line : (x : Line) → is_walking x ≡ true →
            ((g : ℕ) (stands : standing state (handle_of operation.call) ≡ Some (ReadOnly, g)) →
            Walks' limits states last depth path run ok t k lt operation own read_only walks g (moment_of run (suc t) k).moment stands x) → On x
        by_line (line.Walk x) w h = (read_only, walks, λ g e'. h g (stood read_only g e'))
        by_line (line.End answer) w h =
            is_right (subst (λ a. RightAt states trie (suc t) a next.generation (moment_of run (suc t) k).moment operation.call answer) (sym read_only)
            (λ g e'. h g (stood read_only g e')))
        by_line line.Impossible w h = tt
        by_line (line.Root x) w h = tt
        by_line (line.Key x) w h = tt
        by_line (line.Build x) w h = tt
        by_line (line.Swap why x) w h = absurd (true≢false (sym w))
        by_line (line.Renew x) w h = tt
        by_line (line.Clean x) w h = tt
        by_line (line.Climb x) w h = absurd (true≢false (sym w))
        by_line (line.Copy x) w h = tt

    -- ---- all lines

    line_on : (l : Line) → operation.line ≡ l →
        Behind states run.records t operation.id (RightAt states trie t operation.access operation.generation (moment_of run t k).moment operation.call)
        (WalksAt states trie t operation.access operation.call) l → On (line_after state operation l)
    line_on (line.Root l) e h = plain_behind states run.records (suc t) operation.id Right Walks _ (root_plain state operation l)
    line_on (line.Key l) e h = key_on l e
    line_on (line.Build l) e h = plain_behind states run.records (suc t) operation.id Right Walks _ (build_plain state operation l)
    line_on (line.Swap why x) e h = swap_behind run t k lt operation own Right Walks why x e (swap_before why x h)
      where
        swap_before : (why : Purpose) (x : Swap) →
            Behind states run.records t operation.id (RightAt states trie t operation.access operation.generation (moment_of run t k).moment operation.call)
            (WalksAt states trie t operation.access operation.call) (line.Swap why x) →
            Behind states run.records t operation.id Right Walks (line.Swap why x)
        swap_before (purpose.Update path former) x h = h
        swap_before (purpose.Renew path) x h = h
        swap_before purpose.Clean x h = h
        swap_before (purpose.Climb c) x h = h
    line_on (line.Renew l) e h = plain_behind states run.records (suc t) operation.id Right Walks _ (renew_plain state operation l)
    line_on (line.Clean l) e h = plain_behind states run.records (suc t) operation.id Right Walks _ (clean_plain state operation l)
    line_on (line.Climb l) e h = climbing_behind states run.records (suc t) operation.id Right Walks _ (climb_climbs state operation l) (keeps_place h)
    line_on (line.Copy l) e h = copy_behind run t k lt operation own Right Walks l e
    line_on (line.Walk l) e h = walk_on l e h
    line_on (line.End answer) e h = absurd (true≢false (sym (ap is_end e) ∙ going))
    line_on line.Impossible e h = tt

    -- ---- its generation

    root_its : (l : RootLine) → operation.line ≡ line.Root l → operation.access ≡ ReadOnly → (g : ℕ) (after : After RootLine Ref) →
        root_after state.heap operation.access (word_at state (handle_of operation.call)) l ≡ after → given_root state after operation.generation ≡ Some g → (h : ℕ) →
        standing state (handle_of operation.call) ≡ Some (ReadOnly, h) → h ≡ g
    root_its l e read_only g (Goes x) is begun h stands = before.its no_close read_only g begun h stands
    root_its l e read_only g (Gives r) is begun h stands =
        let on : StandsOn state (handle_of operation.call) ReadOnly h = stands_on state (handle_of operation.call) ReadOnly h stands in
        sym on.its ∙ ap (λ w. generation_at state.heap (root_of w)) (sym (ap word_of on.is_open) ∙ root_given state operation l r is) ∙ same_Some _ _ begun

    its_by : (l : Line) → operation.line ≡ l → operation.access ≡ ReadOnly → (g : ℕ) → generation_from state operation l ≡ Some g → (h : ℕ) →
        standing state (handle_of operation.call) ≡ Some (ReadOnly, h) → h ≡ g
    its_by (line.Root l) e read_only g begun h stands = root_its l e read_only g (root_after state.heap operation.access (word_at state (handle_of operation.call)) l) refl begun h stands
    its_by l e read_only g begun h stands = before.its no_close read_only g begun h stands

    pub answering_goes : IsAnswering states run.records (trie_of limits states last depth path) (suc t) k (operation_after state operation)
    answering_goes = record {
      closes = λ e. keeps_place (before.closes e);
      behind = λ e. line_on operation.line refl (before.behind e);
      its = λ e read_only g begun h stands. its_by operation.line refl read_only g begun h (stood read_only h stands);
    }
