-- The laws, from what holds along runs.
use Rattle.std.proofs.Common.{◌≡◌, ℕ, ◌≤◌, ◌⊎◌, true, List, Contains, Some, inl, inr, sym, ap, ◌∙◌, subst, arith}
use Rattle.std.specs.List.{All}
use Rattle.std.proofs.lemmas.List.Elements.{All-contains, All-weaker, All-nil}
use Rattle.proof_generations.specs.Vocabulary.{Heap, generation_of, Writable, Purpose, Operation, Swap, operation_of, Ref, Node, Indirection, Branch, Single, Tomb, List as Listed, Prev, node_at}
use Rattle.proof_generations.specs.Vocabulary.{main_at, main_of, prev_at, generation_at, entries_of, logical, Bounds, Step, State, AreBounds, run, IsRun, states_of, last_of, records_of, node_under}
use Rattle.proof_generations.specs.Vocabulary.{closed_at, Record, AnEntry, ASingle, line_wants, IsInUse, AllHold, node_wants, prev_wants}
use Rattle.proof_generations.specs.Beneath.proof_memory.specs.Wants.{is_indirection}
use Rattle.proof_generations.specs.Beneath.proof_memory.proofs.Safety.AtTimes.{line_finds, node_found, main_found}
use Rattle.proof_generations.specs.Beneath.proof_memory.proofs.Claims.Uses.{Meets}
use Rattle.proof_commits.proofs.Words.Stood.{Stood, stands_now}
use Rattle.proof_generations.specs.Falling.{WasOpened, MayStandBelow, IsIndirectionOf}
use Rattle.proof_generations.specs.Laws.Falling.{SwapsAreOwn}
use Rattle.proof_generations.proofs.Lines.Knows.{one_of}
use Rattle.proof_generations.proofs.Falling.KnownRoots.{known}
use Rattle.proof_generations.proofs.Falling.Nodes.{used_entries, used_generation, link_used}
use Rattle.proof_generations.proofs.Falling.Runs.{gen_of, NotNewer, FitsBelow, MainsFall}
use Rattle.proof_generations.proofs.Falling.Along.{all_falls}
use Rattle.proof_generations.proofs.Falling.Generations.{main_stood}
use Rattle.proof_generations.proofs.Falling.OwnSwaps.{swaps_in_own_generation}
use Rattle.proof_generations.specs.Beneath.slot_arena.specs.declared.nodes.Prev.TheVariants as prev
use Rattle.proof_generations.specs.Beneath.machine_model.specs.declared.lines.Line.TheVariants as line
use Rattle.proof_generations.specs.Beneath.machine_model.proofs.Times.{run_is, run_ends}
use Rattle.proof_generations.specs.Beneath.proof_memory.proofs.Safety.AtEachTime.{safe_at}
use Rattle.proof_generations.specs.Beneath.proof_memory.proofs.Claims.Uses.{safe_of, all_of, first_hold, last_hold}
use Rattle.proof_generations.specs.Beneath.proof_memory.proofs.Safety.States.{IsSafe}
use Rattle.proof_generations.specs.Laws.Falling.{FallBelow, IsBelow, IsOpened, HasMain}
use Rattle.proof_generations.proofs.Falling.KnownRoots.{words}
use Rattle.proof_generations.proofs.Lines.ReaderKnows.{indirection_is}
use Rattle.proof_generations.specs.Beneath.machine_model.proofs.Grown.{prev_standing, node_standing}
use Rattle.proof_commits.proofs.Known.MainsInUse.{logical_standing}
use Rattle.proof_generations.specs.Beneath.machine_model.proofs.Recorded.{record_ends}

-- ---- what is in use

-- the entries of a main node in use
entries_used : (S : Ref → Type 0) (heap : Heap) (n : Node) → AllHold S heap (node_wants n) → All S (entries_of n)
entries_used S heap (Indirection h word) w = All-nil S
entries_used S heap (Branch bitmap entries) w = All-weaker (Meets S heap AnEntry) S (λ r m. m.0) entries.items (all_of w.0)
entries_used S heap (Single key value) w = All-nil S
entries_used S heap (Tomb single) w = one_of S single (safe_of w.0)
entries_used S heap (Listed singles) w = All-weaker (Meets S heap ASingle) S (λ r m. m.0) singles.items (all_of w.0)

module _ (state : State) (I : IsSafe state) where
  abbrev S : Ref → Type 0
  S = IsInUse state.heap

  node_claims : (r : Ref) → S r → AllHold S state.heap (node_wants (node_at state.heap r))
  node_claims r (slot, found) =
      subst (λ n. AllHold S state.heap (node_wants n)) (sym (node_standing state.heap r slot found)) (first_hold S state.heap (node_wants slot.node) (prev_wants slot.prev) (I.nodes r slot found).0)

  prev_claims : (r : Ref) → S r → AllHold S state.heap (prev_wants (prev_at state.heap r))
  prev_claims r (slot, found) =
      subst (λ v. AllHold S state.heap (prev_wants v)) (sym (prev_standing state.heap r slot found)) (last_hold S state.heap (node_wants slot.node) (prev_wants slot.prev) (I.nodes r slot found).0)

  main_used : (i : Ref) → S i → is_indirection (node_at state.heap i) ≡ true → S (main_at state.heap i)
  main_used i used l =
      let (h, word, is) = indirection_is (node_at state.heap i) l in
      subst S (sym (ap main_of is)) (safe_of (subst (λ n. AllHold S state.heap (node_wants n)) is (node_claims i used)).0)

  logical_by : (m : Ref) → S m → (v : Prev) → AllHold S state.heap (prev_wants v) → S (logical m v)
  logical_by m used prev.None w = used
  logical_by m used (prev.Pending p) w = safe_of w.0
  logical_by m used (prev.Failed p) w = safe_of w.0

  has_main_used : (i m : Ref) → S i → is_indirection (node_at state.heap i) ≡ true → HasMain state i m → S m
  has_main_used i m used l (inl counts) =
      let main = main_used i used l in
      subst S counts (logical_by (main_at state.heap i) main (prev_at state.heap (main_at state.heap i)) (prev_claims (main_at state.heap i) main))
  has_main_used i m used l (inr word) = subst S word (main_used i used l)

-- ---- along a run

module _ {limits : Bounds} {states : ℕ → State} {last : ℕ} (run : IsRun limits states last) where
  abbrev U : Ref → Type 0
  U = IsInUse (states last).heap

  within : last ≤ last
  within = omega arith

  main_stands : (i m : Ref) → U i → is_indirection (node_at (states last).heap i) ≡ true → HasMain (states last) i m → Stood (words states run.records last) last i m
  main_stands i m used l has = by has
    where
      link : (words states run.records last).link last i ≡ true
      link = let (h, word, is) = indirection_is (node_at (states last).heap i) l in ap is_indirection (sym (node_found states last i used) ∙ is)

      by : HasMain (states last) i m → Stood (words states run.records last) last i m
      by (inl counts) =
          subst (Stood (words states run.records last) last i) (sym (logical_standing limits states last (known run) last within i used.0 used.1 link) ∙ counts)
          (main_stood run last within i link)
      by (inr word) = stands_now link (sym (main_found states last i used) ∙ word)

  -- an indirection below another one
  record Below (i child : Ref) : Type 0 where
    main : Ref
    stood : Stood (words states run.records last) last i main
    among : Contains (entries_of (node_under states last main)) child
    link : IsIndirectionOf states last (generation_at (states last).heap child) child
    its : gen_of states last i ≡ generation_at (states last).heap i

  below_so : (i child : Ref) → U i → U child → (m : Ref) → U m → is_indirection (node_at (states last).heap i) ≡ true → HasMain (states last) i m →
      Contains (entries_of (node_at (states last).heap m)) child → is_indirection (node_at (states last).heap child) ≡ true → Below i child
  below_so i child used used_child m used_main l has among link = record {
    main = m;
    stood = main_stands i m used l has;
    among = subst (λ es. Contains es child) (sym (used_entries run last within m used_main)) among;
    link = let (h, word, is) = indirection_is (node_at (states last).heap child) link in
        subst (λ g. IsIndirectionOf states last g child) (sym (ap generation_of is)) (link_used run last within child used_child h word is);
    its = used_generation run last within i used;
  }

  falls_so : (i child : Ref) → Below i child →
      (generation_at (states last).heap child ≤ generation_at (states last).heap i)
      × (WasOpened states last (generation_at (states last).heap i) →
      (generation_at (states last).heap child ≡ generation_at (states last).heap i) ⊎ ((c : ℕ) × (closed_at (run.records last) (generation_at (states last).heap child) ≡ Some c)))
  falls_so i child b = (
    omega (arith, All-contains (NotNewer states last (gen_of states last i)) (entries_of (node_under states last b.main)) child (mains.older i b.main b.stood) b.among _ b.link, b.its),
    λ opened. by (subst (λ g. FitsBelow states run.records last last g child) b.its
        (All-contains (FitsBelow states run.records last last (gen_of states last i)) (entries_of (node_under states last b.main)) child
        (mains.falls i b.main b.stood (subst (λ g. WasOpened states last g) (sym b.its) opened)) b.among) _ b.link),
  )
    where
      mains : MainsFall states run.records last last
      mains = (all_falls run last within).mains

      by : MayStandBelow run.records last (generation_at (states last).heap i) (generation_at (states last).heap child) →
          (generation_at (states last).heap child ≡ generation_at (states last).heap i) ⊎ ((c : ℕ) × (closed_at (run.records last) (generation_at (states last).heap child) ≡ Some c))
      by (inl same) = inl same
      by (inr (less, (c, before, closed))) = inr (c, closed)

-- ---- the laws

module _ (limits : Bounds) (steps : List Step) (ok : AreBounds limits) where
  abbrev states : ℕ → State
  states = states_of limits steps

  abbrev last : ℕ
  last = last_of limits steps

  abbrev is_run : IsRun limits states last
  is_run = run_is limits steps ok

  opened_so : (g : ℕ) → IsOpened limits steps g → WasOpened states last g
  opened_so g opened = opened

  FallsIn : State → Record → Type 0
  FallsIn state past =
      (i child : Ref) → IsBelow state i child →
      (generation_at state.heap child ≤ generation_at state.heap i)
      × (IsOpened limits steps (generation_at state.heap i) →
      (generation_at state.heap child ≡ generation_at state.heap i) ⊎ ((c : ℕ) × (closed_at past (generation_at state.heap child) ≡ Some c)))

  falls_at_end : FallsIn (states last) (is_run.records last)
  unfolding FallsIn
  falls_at_end i child b =
      let I = safe_at is_run last (omega arith) in
      let used = b.has.0 in
      let main = has_main_used (states last) I i b.main used b.has.1 b.is_main in
      let used_child =
      All-contains (IsInUse (states last).heap) (entries_of (node_at (states last).heap b.main)) child (entries_used (IsInUse (states last).heap) (states last).heap (node_at (states last).heap b.main)
      (node_claims (states last) I b.main main)) b.among in
      let falls = falls_so is_run i child (below_so is_run i child used used_child b.main main b.has.1 b.is_main b.among b.link) in
      (falls.0, λ opened. falls.1 (opened_so (generation_at (states last).heap i) opened))

pub fall_below : FallBelow
unfolding FallsIn
fall_below limits steps ok =
    subst (λ past. FallsIn limits steps ok (run limits steps) past) (record_ends limits steps)
    (subst (λ state. FallsIn limits steps ok state (records_of limits steps (last_of limits steps))) (run_ends limits steps) (falls_at_end limits steps ok))

pub swaps_are_own : SwapsAreOwn
swaps_are_own limits steps ok =
    subst (λ (state : State). (actor : ℕ) (operation : Operation) → operation_of state actor ≡ Some operation → (why : Purpose) (s : Swap) →
    operation.line ≡ line.Swap why s → (operation.access ≡ Writable) × (operation.generation ≡ Some (generation_at state.heap s.indirection))) (run_ends limits steps)
    (λ actor operation is why s at. at_end actor operation is why s at)
  where
    run : IsRun limits (states_of limits steps) (last_of limits steps)
    run = run_is limits steps ok

    at_end : (actor : ℕ) (operation : Operation) → operation_of (states_of limits steps (last_of limits steps)) actor ≡ Some operation → (why : Purpose) (s : Swap) → operation.line ≡ line.Swap why s →
        (operation.access ≡ Writable) × (operation.generation ≡ Some (generation_at (states_of limits steps (last_of limits steps)).heap s.indirection))
    at_end actor operation is why s at =
        let own = swaps_in_own_generation run (last_of limits steps) (omega arith) actor operation is why s at in
        let wants =
        line_finds (states_of limits steps (last_of limits steps)) (safe_at run (last_of limits steps) (omega arith)) actor operation is in
        let used = subst (λ l. AllHold (IsInUse (states_of limits steps (last_of limits steps)).heap) (states_of limits steps (last_of limits steps)).heap
        (line_wants (states_of limits steps (last_of limits steps)).limits.hash operation.call operation.access l)) at wants in
        (own.0, own.1 ∙ ap (λ g. Some g) (used_generation run (last_of limits steps) (omega arith) s.indirection (safe_of used.0)))
