-- An indirection that a step makes is of the generation of the operation that makes it, or a new root; what stands below it may stand below the operation's generation.
use Rattle.std.proofs.Common.{◌≡◌, ℕ, suc, ◌<◌, ◌⊎◌, true, false, Option, Some, None, inl, inr, refl, sym, ap, ◌∙◌, subst, arith}
use Rattle.std.proofs.lemmas.Bool.{true≢false}
use Rattle.std.proofs.lemmas.Option.{none-some}
use Rattle.proof_generations.specs.Vocabulary.{Access, Writable, ReadOnly, Ref, Node, Indirection, Slot, node_of, main_of, next_ref, Line, Operation, Read, Bounds, State, action_of, line_action}
use Rattle.proof_generations.specs.Vocabulary.{IsRun, grown, main_word, moment_at, IsInUse, made_node}
use Rattle.proof_generations.specs.Beneath.machine_model.specs.declared.actions.Action.TheVariants as act
use Rattle.proof_generations.specs.Beneath.machine_model.specs.declared.lines.Line.TheVariants as line
use Rattle.proof_generations.specs.Beneath.proof_memory.proofs.Safety.AtEachTime.{safe_at}
use Rattle.proof_generations.specs.Beneath.proof_memory.proofs.Safety.AtTimes.{line_finds}
use Rattle.proof_generations.specs.Beneath.proof_memory.proofs.Heap.Moves.{word_move, grown_stays}
use Rattle.proof_generations.proofs.Counter.Drawn.{Made, new_is_made}
use Rattle.proof_generations.proofs.Handles.Running.{place_of_actor}
use Rattle.proof_generations.specs.Running.{Runs}
use Rattle.proof_generations.proofs.Falling.KnownRoots.{words}
use Rattle.proof_generations.proofs.Falling.Nodes.{link_made as link_stands, told_generation}
use Rattle.proof_generations.proofs.Lines.Knows.{Knows, IsInner}
use Rattle.proof_generations.proofs.Lines.Made.{IsNewLink, node_made, link_made}
use Rattle.proof_generations.proofs.Lines.Reader.{KnowsReader}
use Rattle.proof_generations.proofs.Falling.Runs.{gen_of, IsOwn, FitsBelow, FallsBelow, LateBelow, Ends, Shut, LateEnd, AllKnow, KnowsGenerations, own_fits, entries_fit, single_fits}
use Rattle.proof_generations.specs.Beneath.proof_memory.specs.Wants.{is_indirection}
use Rattle.proof_commits.proofs.Words.OfRuns.{link_kept}
use Rattle.proof_generations.proofs.Counter.Made.{root_makes, key_makes, walk_makes}
use Rattle.proof_generations.proofs.Lines.ReaderKnows.{indirection_is}

-- ---- which lines make nodes

pub makes_inner : (state : State) (operation : Operation) (l : Line) (n : Node) → made_node state (line_action state operation l) ≡ Some n → IsInner l
makes_inner state operation (line.Root l) n e = absurd (root_makes state operation l n e)
makes_inner state operation (line.Walk l) n e = absurd (walk_makes state operation l n e)
makes_inner state operation (line.End answer) n e = absurd (none-some n e)
makes_inner state operation line.Impossible n e = absurd (none-some n e)
makes_inner state operation l n e = tt

pub reader_makes : (Ends Shut : Ref → Type 0) (Late : Read → Type 0) (state : State) (operation : Operation) (l : Line) (n : Node) → KnowsReader Ends Shut Late l →
    made_node state (line_action state operation l) ≡ Some n → ⊥
reader_makes Ends Shut Late state operation (line.Root l) n k e = root_makes state operation l n e
reader_makes Ends Shut Late state operation (line.Key l) n k e = key_makes state operation l n e
reader_makes Ends Shut Late state operation (line.Walk l) n k e = walk_makes state operation l n e
reader_makes Ends Shut Late state operation (line.End answer) n k e = none-some n e
reader_makes Ends Shut Late state operation line.Impossible n k e = none-some n e
reader_makes Ends Shut Late state operation (line.Build l) n k e = k
reader_makes Ends Shut Late state operation (line.Swap why s) n k e = k
reader_makes Ends Shut Late state operation (line.Renew l) n k e = k
reader_makes Ends Shut Late state operation (line.Clean l) n k e = k
reader_makes Ends Shut Late state operation (line.Climb l) n k e = k
reader_makes Ends Shut Late state operation (line.Copy l) n k e = k

module _ {limits : Bounds} {states : ℕ → State} {last : ℕ} (run : IsRun limits states last) (t : ℕ) (lt : t < last) (know : AllKnow states run.records last t) where
  -- an indirection that step t makes
  pub record NewLink (n : Ref) : Type 0 where
    pub k : ℕ
    pub operation : Operation
    pub runs : Runs (states t) k operation
    pub writable : operation.access ≡ Writable
    pub inner : IsInner operation.line
    pub g : ℕ
    pub begun : operation.generation ≡ Some g
    pub takes : next_ref (states t).heap ≡ Some n
    pub falls : FallsBelow states run.records last t g (main_word states (suc t) n)
    pub kind : (gen_of states last n ≡ g) ⊎ (gen_of states last n ≡ (states t).generations)

  module _ (n : Ref) (slot : Slot) (here : grown states (suc t) n ≡ Some slot) (m : Made (states t) n slot) (h : ℕ) (word : Ref) (is : m.node ≡ Indirection h word) where
    generation_is : (g : ℕ) (w : Ref) → m.node ≡ Indirection g w → gen_of states last n ≡ g
    generation_is g w e = told_generation states last g n (link_stands run (suc t) lt n slot here g w (m.its_node ∙ e))

    -- over this main node
    link_over : (k : ℕ) → Runs (states t) k m.operation → m.operation.access ≡ Writable → (g : ℕ) → m.operation.generation ≡ Some g → (generation : ℕ) (below : Ref) →
        m.node ≡ Indirection generation below → FallsBelow states run.records last t g below → (gen_of states last n ≡ g) ⊎ (gen_of states last n ≡ (states t).generations) → NewLink n
    link_over k runs w g begun generation below is falls kind = record {
      k = k;
      operation = m.operation;
      runs = runs;
      writable = w;
      inner = makes_inner (states t) m.operation m.operation.line m.node m.makes_it;
      g = g;
      begun = begun;
      takes = m.takes;
      falls = subst (FallsBelow states run.records last t g) (sym (ap (λ o. main_of (node_of o)) here ∙ ap main_of (m.its_node ∙ is))) falls;
      kind = kind;
    }

    -- by what the line makes
    new_by : (k : ℕ) → Runs (states t) k m.operation → m.operation.access ≡ Writable → (g : ℕ) → (begun : m.operation.generation ≡ Some g) →
        IsNewLink (states t) m.operation g begun (IsOwn states last g) (FitsBelow states run.records last t g) (FallsBelow states run.records last t g)
        (LateBelow states run.records last t (moment_at (run.records t) (suc k)) g) (IsInUse (states t).heap)
        (own_fits states run.records last t g) (single_fits run t lt t g) (entries_fit run t lt t g) m.operation.line m.node →
        NewLink n
    new_by k runs w g begun (inl (below, is_own, falls)) = link_over k runs w g begun _ below is_own falls (inl (generation_is g below is_own))
    new_by k runs w g begun (inr (action, (main, is_root, falls))) = link_over k runs w g begun _ main is_root falls (inr (generation_is (states t).generations main is_root))

    new_from : (k : ℕ) → Runs (states t) k m.operation → (access : Access) → m.operation.access ≡ access →
        KnowsGenerations states run.records last t (moment_at (run.records t) (suc k)) m.operation → NewLink n
    new_from k runs Writable w knows =
        let (g, begun, known) = knows.0 w (makes_inner (states t) m.operation m.operation.line m.node m.makes_it) in
        new_by k runs w g begun
        (link_made (states t) m.operation g begun (IsOwn states last g) (FitsBelow states run.records last t g) (FallsBelow states run.records last t g)
        (LateBelow states run.records last t (moment_at (run.records t) (suc k)) g) (IsInUse (states t).heap)
        (own_fits states run.records last t g) (single_fits run t lt t g) (entries_fit run t lt t g) m.operation.line m.node h word is m.makes_it
        (node_made (states t) m.operation g begun (IsOwn states last g) (FitsBelow states run.records last t g) (FallsBelow states run.records last t g)
        (LateBelow states run.records last t (moment_at (run.records t) (suc k)) g) (IsInUse (states t).heap)
        (own_fits states run.records last t g) (single_fits run t lt t g) (entries_fit run t lt t g) m.operation.line known
        (line_finds (states t) (safe_at run t (omega arith)) m.actor m.operation m.runs) m.node m.makes_it))
    new_from k runs ReadOnly w knows =
        absurd (reader_makes (Ends states run.records last t) (Shut states run.records last t) (LateEnd states run.records last t (moment_at (run.records t) (suc k)))
        (states t) m.operation m.operation.line m.node (knows.1 w) m.makes_it)

  made_by : (n : Ref) (slot : Slot) → grown states (suc t) n ≡ Some slot → is_indirection slot.node ≡ true → Made (states t) n slot → NewLink n
  made_by n slot here l m =
      let (k, place, runs) = place_of_actor (states t) m.actor m.operation m.runs in
      let (h, word, is) = indirection_is m.node (ap is_indirection (sym m.its_node) ∙ l) in
      new_from n slot here m h word is k runs m.operation.access refl (know k m.operation runs)

  link_by : (n : Ref) (before after : Option Slot) → grown states t n ≡ before → grown states (suc t) n ≡ after → is_indirection (node_of before) ≡ false →
      is_indirection (node_of after) ≡ true → NewLink n
  link_by n before None at_t at_next was is = absurd (true≢false (sym is))
  link_by n None (Some slot) at_t at_next was is =
      made_by n slot at_next is (new_is_made (states t) (grown states t) (grown states (suc t)) (word_move run t lt) n slot at_t at_next)
  link_by n (Some old) (Some slot) at_t at_next was is =
      let (now, found, ((m, e), birth)) = grown_stays run t (suc t) (omega arith) lt n old at_t in
      let same : is_indirection (node_of (Some slot)) ≡ is_indirection old.node = ap (λ o. is_indirection (node_of o)) (sym at_next ∙ found) ∙ ap is_indirection e ∙ link_kept m old.node in
      absurd (true≢false (sym is ∙ same ∙ was))

  pub new_link : (n : Ref) → (words states run.records last).link t n ≡ false → (words states run.records last).link (suc t) n ≡ true → NewLink n
  new_link n was is = link_by n (grown states t n) (grown states (suc t) n) refl refl was is

module _ {limits : Bounds} {states : ℕ → State} {last : ℕ} (run : IsRun limits states last) (t : ℕ) (lt : t < last) where
  -- ---- a root that is made

  module _ (k : ℕ) (operation : Operation) (runs : Runs (states t) k operation) (g : ℕ) (begun : operation.generation ≡ Some g)
      (known : Knows (IsOwn states last g) (FitsBelow states run.records last t g) (FallsBelow states run.records last t g)
      (LateBelow states run.records last t (moment_at (run.records t) (suc k)) g) operation.line)
      (main : Ref) (makes_it : action_of (states t) operation ≡ act.MakeRoot main) where
    abbrev root_node : Node
    root_node = Indirection (states t).generations main

    root_below : IsNewLink (states t) operation g begun (IsOwn states last g) (FitsBelow states run.records last t g) (FallsBelow states run.records last t g)
        (LateBelow states run.records last t (moment_at (run.records t) (suc k)) g) (IsInUse (states t).heap)
        (own_fits states run.records last t g) (single_fits run t lt t g) (entries_fit run t lt t g) operation.line root_node →
        FallsBelow states run.records last t g main
    root_below (inl (word, is, falls)) =
        let same : main ≡ word = cc is in
        subst (FallsBelow states run.records last t g) (sym same) falls
    root_below (inr (action, (word, is, falls))) =
        let same : main ≡ word = cc is in
        subst (FallsBelow states run.records last t g) (sym same) falls

    -- what stands below it may stand below the operation's generation
    pub made_root : FallsBelow states run.records last t g main
    made_root =
        root_below
        (link_made (states t) operation g begun (IsOwn states last g) (FitsBelow states run.records last t g) (FallsBelow states run.records last t g)
        (LateBelow states run.records last t (moment_at (run.records t) (suc k)) g) (IsInUse (states t).heap)
        (own_fits states run.records last t g) (single_fits run t lt t g) (entries_fit run t lt t g) operation.line root_node
        (states t).generations main refl (ap (made_node (states t)) makes_it)
        (node_made (states t) operation g begun (IsOwn states last g) (FitsBelow states run.records last t g) (FallsBelow states run.records last t g)
        (LateBelow states run.records last t (moment_at (run.records t) (suc k)) g) (IsInUse (states t).heap)
        (own_fits states run.records last t g) (single_fits run t lt t g) (entries_fit run t lt t g) operation.line known
        (line_finds (states t) (safe_at run t (omega arith)) (suc k) operation runs) root_node (ap (made_node (states t)) makes_it)))
