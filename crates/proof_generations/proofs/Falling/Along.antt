-- At each time of a run generations fall below what stood in a word, each operation knows of its line what it has to, and fresh roots are alone with their generation.
use Rattle.std.proofs.Common.{◌≡◌, ℕ, zero, suc, ◌<◌, ◌≤◌, Bool, true, false, Option, Some, None, is_some, inl, inr, get_or, refl, sym, ap, ◌∙◌, subst, arith, []}
use Rattle.std.specs.List.{All}
use Rattle.std.proofs.lemmas.Bool.{true≢false}
use Rattle.std.proofs.lemmas.Option.{none-some}
use Rattle.std.proofs.lemmas.List.Elements.{All-nil}
use Rattle.proof_generations.specs.Vocabulary.{Access, Writable, ReadOnly, next_ref, action_of, generation_from, GoesOn, ref_to, slot_of, Ref, Indirection, Slot, taken, stored, entries_of}
use Rattle.proof_generations.specs.Vocabulary.{empty_branch, Line, Operation, Bounds, Outcome, Step, State, first_state, first_heap, empty_heap, operation_after, Moves, turns, noted_turn, IsRun}
use Rattle.proof_generations.specs.Vocabulary.{Turn, standing, grown, node_under, Record, noted, moment_at, noted_progress, told_in, progress_of, made_node}
use Rattle.proof_generations.specs.Beneath.machine_model.specs.declared.actions.Action.TheVariants as act
use Rattle.proof_generations.specs.Beneath.machine_model.specs.declared.steps.Step.TheVariants as step
use Rattle.proof_generations.proofs.Lines.OwnKnows.{inner_generation}
use Rattle.proof_generations.proofs.Falling.NewLinks.{makes_inner, reader_makes, made_root}
use Rattle.proof_generations.proofs.Falling.Runs.{Ends, Shut, LateEnd}
use Rattle.proof_generations.specs.Beneath.machine_model.specs.declared.lines.Line.TheVariants as line
use Rattle.proof_generations.specs.Beneath.machine_model.proofs.Actors.{mark_only, marks_in}
use Rattle.proof_generations.specs.Beneath.machine_model.proofs.Found.{none_found}
use Rattle.proof_generations.specs.Beneath.machine_model.proofs.Times.{along_run}
use Rattle.proof_generations.specs.Beneath.proof_memory.proofs.Claims.Uses.{entries_same}
use Rattle.proof_commits.proofs.Known.Sounds.{sound_at}
use Rattle.proof_commits.proofs.Words.Stood.{Stood}
use Rattle.proof_generations.proofs.Counter.Drawn.{taken_list}
use Rattle.proof_generations.proofs.Handles.Operations.{ran_or_began}
use Rattle.proof_generations.proofs.Offers.Marks.{unmarked_before}
use Rattle.proof_generations.proofs.Roots.Along.{ordered_at}
use Rattle.proof_generations.proofs.Roots.Kept.{fresh_in, fresh_from, FreshFrom, had, new}
use Rattle.proof_generations.proofs.Handles.Running.{Comes, began, rested, went, comes, one_at, gave}
use Rattle.proof_generations.specs.Running.{Runs}
use Rattle.proof_generations.proofs.Roots.Own.{first_none}
use Rattle.proof_generations.proofs.Falling.KnownRoots.{words, protocol_of}
use Rattle.proof_generations.proofs.Falling.Nodes.{made_same}
use Rattle.proof_generations.proofs.Falling.Runs.{gen_of, NotNewer, FitsBelow, MainsFall, AllKnow, FreshFall, FreshFalls}
use Rattle.proof_generations.proofs.Lines.Knows.{IsInner}
use Rattle.proof_generations.proofs.Falling.MainsNext.{mains_next}
use Rattle.proof_generations.proofs.Falling.LinesNext.{lines_next}
use Rattle.proof_generations.proofs.Falling.FreshRoots.{fresh_still, fresh_new}
use Rattle.proof_generations.specs.Beneath.machine_model.proofs.Grown.{standing_parts}
use Rattle.proof_generations.specs.Beneath.machine_model.proofs.Notes.{noted_going}

-- all that is known at a time
pub record AllFalls (states : ℕ → State) (records : ℕ → Record) (last t : ℕ) : Type 0 where
  pub mains : MainsFall states records last t
  pub lines : AllKnow states records last t
  pub fresh : FreshFall states records last t

-- ---- at first

first_entries : (slots k : ℕ) (slot : Slot) → get_or (first_heap slots).slots k None ≡ Some slot → entries_of slot.node ≡ []
unfolding taken
first_entries slots k slot e =
    elim (taken_list (taken (empty_heap slots) empty_branch) (Indirection 0 (ref_to 1 0)) (taken (empty_heap slots) empty_branch).free k slot e) [
      | inl root ↦ ap entries_of root
      | inr before ↦ elim (taken_list (empty_heap slots) empty_branch (empty_heap slots).free k slot before) [
        | inl branch ↦ ap entries_of branch
        | inr none ↦ absurd (none_found slots k slot none)
      ]
    ]

standing_entries : (slots : ℕ) (r : Ref) (slot : Slot) → standing (first_heap slots) r ≡ Some slot → entries_of slot.node ≡ []
unfolding stored
standing_entries slots r slot e = first_entries slots (slot_of r) slot ((standing_parts (first_heap slots) r slot e).0)

module _ {limits : Bounds} {states : ℕ → State} {last : ℕ} (run : IsRun limits states last) where
  made_entries : (m : Ref) (o : Option Slot) → grown states zero m ≡ o → is_some o ≡ true → entries_of (node_under states last m) ≡ []
  unfolding grown first_state
  made_entries m None e made = absurd (true≢false (sym made))
  made_entries m (Some slot) e made =
      entries_same slot.node (node_under states last m) (made_same run zero (omega arith) m slot e)
      ∙ standing_entries limits.slots m slot (ap (λ (s : State). standing s.heap m) (sym run.first) ∙ e)

  no_entries : (i m : Ref) → Stood (words states run.records last) zero i m → entries_of (node_under states last m) ≡ []
  no_entries i m stood = made_entries m (grown states zero m) refl ((sound_at (protocol_of run) zero (omega arith)).words.made i m stood)

  none_runs : (k : ℕ) (operation : Operation) → Runs (states zero) k operation → ⊥
  unfolding first_state
  none_runs k operation runs = none_found limits.actors k operation (ap (λ (s : State). get_or s.actors k None) (sym run.first) ∙ runs)

  nothing_below : (P : Ref → Type 0) (i m : Ref) → Stood (words states run.records last) zero i m → All P (entries_of (node_under states last m))
  nothing_below P i m stood = subst (All P) (sym (no_entries i m stood)) (All-nil P)

  all_at_first : AllFalls states run.records last zero
  all_at_first = record {
    mains = record {
      older = λ i m stood. nothing_below (NotNewer states last (gen_of states last i)) i m stood;
      falls = λ i m stood was. nothing_below (FitsBelow states run.records last zero (gen_of states last i)) i m stood;
    };
    lines = λ k operation runs. absurd (none_runs k operation runs);
    fresh = λ k operation x r runs. absurd (none_runs k operation runs);
  }

  -- ---- by a step

  fresh_inner : (l : Line) (x : Bool) (r : Ref) → fresh_in x l ≡ Some r → IsInner l
  fresh_inner (line.Copy l) x r e = tt
  fresh_inner l x r e = absurd (none-some r e)

  module _ (t : ℕ) (lt : t < last) (all : AllFalls states run.records last t) (mains : MainsFall states run.records last (suc t)) (s : Step) (o : Outcome) (m : Moves (states t) s o (states (suc t)))
      (notes : run.records (suc t) ≡ noted (run.records t) (states t).steps (told_in (states t) s)) where
    -- an operation that isn't marked after its step wasn't before it
    unmarked_then : (k : ℕ) (found was : Operation) → Comes (states t) s k found → s ≡ step.Go (suc k) → Runs (states t) k was → found.is_marked ≡ false → was.is_marked ≡ false
    unmarked_then k found was c go at_was e =
        let O = ordered_at run t (omega arith) in
        elim (ran_or_began (states t) O.offers O.handles s k found c) [
          | inl ran ↦ ap (λ (x : Operation). x.is_marked) (one_at (states t) k was ran.was at_was ran.at_k) ∙ ran.unmarked e
          | inr fresh ↦ (let wrong : step.Go (suc k) ≡ step.Begin (suc k) fresh.0 fresh.1 = sym go ∙ fresh.2 in let no : ⊥ = cc wrong in absurd no)
        ]

    -- below the root that a line makes falls what stands below the operation's
    root_falls : (k : ℕ) (was : Operation) (x : Bool) (r main : Ref) (runs : Runs (states t) k was) → GoesOn (action_of (states t) was) →
        (go : s ≡ step.Go (suc k)) → action_of (states t) was ≡ act.MakeRoot main → next_ref (states t).heap ≡ Some r →
        (access : Access) → was.access ≡ access → (found : Operation) → found.generation ≡ generation_from (states t) was was.line → FreshFalls states run.records last (suc t) found r
    root_falls k was x r main runs g go makes_it takes Writable w found same =
        let made = ap (made_node (states t)) makes_it in
        let inner = makes_inner (states t) was was.line (Indirection (states t).generations main) made in
        let (start, begun, known) = (all.lines k was runs).0 w inner in
        let below = made_root run t lt k was runs start begun known main makes_it in
        let goes_noted : run.records (suc t) ≡ noted_progress (run.records t) (states t).steps (suc k) (progress_of (states t) was) =
        notes ∙ ap (λ q. noted (run.records t) (states t).steps (told_in (states t) q)) go ∙ noted_going (states t) (run.records t) (suc k) was _ runs refl g in
        fresh_new run t lt all.lines k was r main runs o (subst (λ x. Moves (states t) x o (states (suc t))) go m) g mains makes_it takes goes_noted start begun below found
        (same ∙ inner_generation (states t) was was.line inner)
    root_falls k was x r main runs g go makes_it takes ReadOnly w found same =
        absurd (reader_makes (Ends states run.records last t) (Shut states run.records last t) (LateEnd states run.records last t (moment_at (run.records t) (suc k)))
        (states t) was was.line (Indirection (states t).generations main) ((all.lines k was runs).1 w)
        (ap (made_node (states t)) makes_it))

    went_falls : (k : ℕ) (was found : Operation) (x : Bool) (r : Ref) → (runs : Runs (states t) k was) → GoesOn (action_of (states t) was) → s ≡ step.Go (suc k) → was.is_marked ≡ false →
        found.generation ≡ generation_from (states t) was was.line → FreshFrom (states t) was was.line x r → FreshFalls states run.records last (suc t) found r
    went_falls k was found x r runs g go unmarked same (had e) =
        fresh_still run t lt all.lines k was x r runs unmarked e (all.fresh k was x r runs unmarked e) found
        (same ∙ inner_generation (states t) was was.line (fresh_inner was.line x r e))
    went_falls k was found x r runs g go unmarked same (new main makes_it takes side) = root_falls k was x r main runs g go makes_it takes was.access refl found same

    fresh_by : (k : ℕ) (found : Operation) (x : Bool) (r : Ref) → Comes (states t) s k found → found.is_marked ≡ false → fresh_in x found.line ≡ Some r →
        FreshFalls states run.records last (suc t) found r
    fresh_by k found x r (began call number is d it) unmarked e = absurd (first_none call x r (ap (λ (y : Operation). fresh_in x y.line) (sym it) ∙ e))
    fresh_by k found x r (rested was runs it other_step) unmarked e =
        let same = it ∙ mark_only (marks_in (states t) s) was in
        let open_then = unmarked_before (marks_in (states t) s) was (ap (λ (y : Operation). y.is_marked) (sym it) ∙ unmarked) in
        let has = ap (λ (y : Operation). fresh_in x y.line) (sym same) ∙ e in
        fresh_still run t lt all.lines k was x r runs open_then has (all.fresh k was x r runs open_then has) found (ap (λ (y : Operation). y.generation) same)
    fresh_by k found x r (went was is runs g it) unmarked e =
        let same = it ∙ mark_only (marks_in (states t) s) (operation_after (states t) was) in
        went_falls k was found x r runs g is (unmarked_then k found was (went was is runs g it) is runs unmarked) (ap (λ (y : Operation). y.generation) same)
        (fresh_from (states t) was was.line x r (ap (λ (y : Operation). fresh_in x y.line) (sym same) ∙ e))
    fresh_by k found x r (gave was answer is runs may it) unmarked e = absurd (none-some r (ap (λ (y : Operation). fresh_in x y.line) (sym it) ∙ e))

    all_next : AllFalls states run.records last (suc t)
    all_next = record {
      mains = mains;
      lines = lines_next run t lt all.lines mains s o m notes;
      fresh = λ k found x r runs. fresh_by k found x r (comes (states t) s o (states (suc t)) m k found runs);
    }

  all_turn : (t : ℕ) → t < last → (turn : Turn (states t) (states (suc t))) → run.records (suc t) ≡ noted_turn turn (run.records t) → AllFalls states run.records last t →
      AllFalls states run.records last (suc t)
  all_turn t lt (turns s o m) notes all = all_next t lt all (mains_next run t lt all.lines all.mains all.fresh) s o m notes

  -- at each time
  pub all_falls : (t : ℕ) → t ≤ last → AllFalls states run.records last t
  all_falls = along_run run (λ t. AllFalls states run.records last t) all_at_first (λ t lt turn all. all_turn t lt (run.turn t lt) (run.recorded t lt) all)
