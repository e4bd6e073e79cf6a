-- Levels in every reachable state: each step keeps them, where the level of what it makes is that of the line.
use Rattle.std.proofs.Common.{◌≡◌, ℕ, suc, ◌+◌, ◌<◌, ◌≤◌, ◌==◌, Bool, true, false, is_some, [], map, All, get_or, Option, Some, None, refl, sym, ap, ◌∙◌, subst, ◌⊎◌, inl, inr, arith}
use Rattle.std.proofs.lemmas.Bool.{cases_eq, or_cases, false≢true}
use Rattle.std.proofs.lemmas.Option.{none-some, same_Some}
use Rattle.std.proofs.lemmas.List.Elements.{All-head}
use Rattle.proof_memory.specs.Vocabulary.{Call, Close, Entries, birth_of, Ref, Node, Indirection, Branch, Single, Tomb, List as Listed, Slot, Heap, node_at, prev_at, main_at, with_main, with_prev}
use Rattle.proof_memory.specs.Vocabulary.{with_main_word, main_changed, prev_changed, next_ref, refs_of_option, Action, Operation, Root, Outcome, Step, handle_of, State, root_at, word_of}
use Rattle.proof_memory.specs.Vocabulary.{operation_of, action_of, first_line, operation_after, gone, acted, decided, if_changed, Verdict, Commits, Fails, Overtaken, verdict, settled, pin_of, ripe}
use Rattle.proof_memory.specs.Vocabulary.{Begins, Ends, Sweeps, GivesUp, Moves, GoesOn, begun_operation, standing}
use Rattle.proof_memory.specs.Beneath.slot_arena.specs.declared.nodes.Prev.TheVariants as prev
use Rattle.machine_model.specs.declared.actions.Action.TheVariants as act
use Rattle.machine_model.specs.declared.steps.Step.TheVariants as step
use Rattle.machine_model.proofs.HeapMoves.{aborted_heap, offered_heap, completed_heap, begin_heap}
use Rattle.machine_model.proofs.InUse.{InUse}
use Rattle.machine_model.proofs.Slots.{ripe_in_use}
use Rattle.machine_model.specs.Moves.{Goes}
use Rattle.machine_model.proofs.Actors.{IsOf, is_of, mark_one, mark_only, marks_in, marks_by, of_others, of_itself, of_begin, of_end, of_giving_up}
use Rattle.proof_memory.specs.Wants.{is_formed, AllHold, node_wants, prev_wants}
use Rattle.proof_memory.specs.Laws.{IsInUse}
use Rattle.proof_memory.proofs.Claims.Uses.{first_hold, last_hold}
use Rattle.proof_memory.proofs.Claims.Nodes.{Heaped}
use Rattle.proof_memory.proofs.Heap.Under.{fresh_slot, taken_all, main_births}
use Rattle.proof_memory.proofs.Safety.EachStep.{at_place}
use Rattle.proof_memory.proofs.Safety.Base.{goes_no_end}
use Rattle.proof_memory.specs.Making.{made_node}
use Rattle.proof_memory.proofs.Heap.RootWords.{PutsRight, AllWords, put_words, begin_words}
use Rattle.proof_memory.proofs.Safety.States.{IsSafe, stood_or_made, stands_in_use}
use Rattle.proof_memory.proofs.Safety.Steps.{of_actor, gone_effect, made_heap}
use Rattle.proof_memory.proofs.Safety.AtTimes.{line_finds}
use Rattle.proof_memory.proofs.Heap.Moves.{WordMove, keeps, makes, publishes, restores, commits, fails, standing_move, sweep_goes}
use Rattle.proof_memory.specs.Levels.{InsideLevel, KindLevel, NodeLevel, PrevLevel, WordLevel, LineLevel, ActionLevel, made_level}
use Rattle.proof_memory.proofs.Levels.Next.{line_level_acts, line_level_next}
use Rattle.proof_memory.proofs.Heap.Effects.{births_prev}
use Rattle.machine_model.proofs.Grown.{node_standing, prev_standing}

pub record HasLevels (lv : Ref → ℕ) (state : State) : Type 0 where
  pub nodes : (r : Ref) (slot : Slot) → standing state.heap r ≡ Some slot → NodeLevel lv r slot.node × PrevLevel lv r slot.prev
  pub words : AllWords (WordLevel lv) state
  pub lines : (k : ℕ) (operation : Operation) → get_or state.actors k None ≡ Some operation → LineLevel lv operation.line

-- what an operation makes is given the level of its line
abbrev pub GivesLevel : (Ref → ℕ) → State → Step → Type 0
GivesLevel lv state s =
    (actor : ℕ) (operation : Operation) (node : Node) (made : Ref) → s ≡ step.Go actor → operation_of state actor ≡ Some operation → made_node state (action_of state operation) ≡ Some node →
    next_ref state.heap ≡ Some made → lv made ≡ made_level operation.line

-- ---- slots that change

module _ (lv : Ref → ℕ) where
  abbrev pub SlotLevel : Ref → Slot → Type 0
  SlotLevel r slot = NodeLevel lv r slot.node × PrevLevel lv r slot.prev

  main_level : (r m : Ref) (node : Node) → NodeLevel lv r node → lv m ≡ lv r → NodeLevel lv r (with_main_word m node)
  main_level r m (Indirection generation main) n e = (e, n.1)
  main_level r m (Branch bitmap entries) n e = n
  main_level r m (Single key value) n e = n
  main_level r m (Tomb single) n e = n
  main_level r m (Listed singles) n e = n

  made_slot : (r : Ref) (level : ℕ) (node : Node) → lv r ≡ level → InsideLevel lv level node × KindLevel lv level node → NodeLevel lv r node
  made_slot r level node e n = subst (λ l. InsideLevel lv l node × KindLevel lv l node) (sym e) n

  -- the node of an action
  made_of : (state : State) (level : ℕ) (action : Action) (node : Node) → made_node state action ≡ Some node → ActionLevel lv level action → InsideLevel lv level node × KindLevel lv level node
  made_of state level (act.Make other) node is n = subst (λ x. InsideLevel lv level x × KindLevel lv level x) (same_Some _ _ is) n
  made_of state level (act.MakeRoot main) node is n = subst (λ x. InsideLevel lv level x × KindLevel lv level x) (same_Some _ _ is) n
  made_of state level action node is n = absurd (none-some node is)

  module _ (state : State) (f g : Ref → Option Slot) (old : (r : Ref) (slot : Slot) → f r ≡ Some slot → SlotLevel r slot)
      (acts : (actor : ℕ) (operation : Operation) → operation_of state actor ≡ Some operation → ActionLevel lv (made_level operation.line) (action_of state operation))
      (fresh : (node : Node) (made : Ref) → next_ref state.heap ≡ Some made → f made ≡ None → g made ≡ Some (fresh_slot state.heap node) → NodeLevel lv made node) where
    here : (r q : Ref) (slot found : Slot) → r ≡ q → g q ≡ Some found → g r ≡ Some slot → SlotLevel q found → SlotLevel r slot
    here r q slot found same at_q h n = subst (λ x. SlotLevel x slot) (sym same) (subst (SlotLevel q) (same_Some _ _ (sym at_q ∙ ap g (sym same) ∙ h)) n)

    slots_after : WordMove state f g → (r : Ref) (slot : Slot) → g r ≡ Some slot → SlotLevel r slot
    slots_after (keeps k) r slot h = old r slot (sym (k r) ∙ h)
    slots_after (makes actor operation node made is a e none new others) r slot h = elim (cases_eq r made) [
      | inl s ↦ here r made slot (fresh_slot state.heap node) s new h (fresh node made e none new, tt)
      | inr other ↦ old r slot (sym (others r other) ∙ h)
    ]
    slots_after (publishes actor operation i replaced fresh was new takes differ f_i m f_fresh g_i g_fresh others) r slot h =
        let level = subst (ActionLevel lv (made_level operation.line)) takes.1 (acts actor operation takes.0) in
        elim (cases_eq r i) [
          | inl s ↦ here r i slot (main_changed fresh was) s g_i h (main_level i fresh was.node ((old i was f_i).0) level.1, (old i was f_i).1)
          | inr other ↦ elim (cases_eq r fresh) [
            | inl s ↦ here r fresh slot (prev_changed (prev.Pending replaced) new) s g_fresh h ((old fresh new f_fresh).0, (level.0 ∙ sym level.1, level.2))
            | inr another ↦ old r slot (sym (others r other another) ∙ h)
          ]
        ]
    slots_after (restores actor operation i main previous was takes f_i m g_i others) r slot h =
        let level = subst (ActionLevel lv (made_level operation.line)) takes.1 (acts actor operation takes.0) in
        elim (cases_eq r i) [
          | inl s ↦ here r i slot (main_changed previous was) s g_i h (main_level i previous was.node ((old i was f_i).0) level, (old i was f_i).1)
          | inr other ↦ old r slot (sym (others r other) ∙ h)
        ]
    slots_after (commits actor operation i main previous told was takes v f_main g_main others) r slot h = elim (cases_eq r main) [
      | inl s ↦ here r main slot (prev_changed prev.None was) s g_main h ((old main was f_main).0, tt)
      | inr other ↦ old r slot (sym (others r other) ∙ h)
    ]
    slots_after (fails actor operation i main previous told was takes v f_main g_main others) r slot h =
        let level = subst (ActionLevel lv (made_level operation.line)) takes.1 (acts actor operation takes.0) in
        elim (cases_eq r main) [
          | inl s ↦ here r main slot (prev_changed (prev.Failed previous) was) s g_main h ((old main was f_main).0, (level.1 ∙ sym level.0, level.2))
          | inr other ↦ old r slot (sym (others r other) ∙ h)
        ]

  -- ---- words

  puts_level : (level : ℕ) (action : Action) → ActionLevel lv level action → PutsRight (WordLevel lv) action
  puts_level level (act.Abort offer) o = o.0
  puts_level level (act.Offer offer) o = o
  puts_level level (act.Complete offer main) o = (o.0, o.2, seconds offer.second o.3)
    where
      seconds : (second : Option Ref) → All (λ r. lv r ≡ 1) (refs_of_option second) → (r : Ref) → second ≡ Some r → lv r ≡ 1
      seconds None all r e = absurd (none-some r e)
      seconds (Some s) all r e = subst (λ x. lv x ≡ 1) (same_Some _ _ e) (All-head (λ x. lv x ≡ 1) s [] all)
  puts_level level action o = tt

  first_level : (call : Call) → LineLevel lv (first_line call)
  first_level (Close h) = tt
  first_level (Entries h) = tt
  first_level call = tt

-- ---- births

if_births : (b : Bool) (changed same : Heap) → changed.births ≡ same.births → (if_changed b changed same).births ≡ same.births
if_births true changed same e = e
if_births false changed same e = refl

decided_births : (heap : Heap) (main previous : Ref) (v : Verdict) → (decided heap main previous v).births ≡ heap.births
decided_births heap main previous Commits = births_prev heap main prev.None
decided_births heap main previous Fails = births_prev heap main (prev.Failed previous)
decided_births heap main previous (Overtaken licensed) = refl

-- an action that makes no node draws no birth
pub births_same : (state : State) (handle : ℕ) (action : Action) → made_node state action ≡ None → (acted state handle action).heap.births ≡ state.heap.births
births_same state handle (act.Abort offer) e = ap (λ (heap : Heap). heap.births) (aborted_heap state handle offer)
births_same state handle (act.Offer offer) e = ap (λ (heap : Heap). heap.births) (offered_heap state handle offer)
births_same state handle (act.Complete offer main) e = ap (λ (heap : Heap). heap.births) (completed_heap state handle offer main)
births_same state handle (act.Publish i replaced fresh) e =
    if_births (main_at state.heap i == replaced) (with_prev (with_main state.heap i fresh) fresh (prev.Pending replaced)) state.heap
    (births_prev (with_main state.heap i fresh) fresh (prev.Pending replaced) ∙ main_births state.heap i fresh)
births_same state handle (act.Restore i main previous) e = if_births (main_at state.heap i == main) (with_main state.heap i previous) state.heap (main_births state.heap i previous)
births_same state handle (act.Decide i main previous told) e = decided_births state.heap main previous (verdict state.heap i main previous told)
births_same state handle (act.Make node) e = absurd (none-some node (sym e))
births_same state handle (act.MakeRoot main) e = absurd (none-some _ (sym e))
births_same state handle action e = refl

-- ---- each step

pub heaped_in_use : (state : State) → IsSafe state → Heaped (IsInUse state.heap) state.heap
heaped_in_use state I = record {
  inside = λ r u. subst (λ node. AllHold (IsInUse state.heap) state.heap (node_wants node)) (sym (node_standing state.heap r u.0 u.1))
      (first_hold (IsInUse state.heap) state.heap (node_wants u.0.node) (prev_wants u.0.prev) ((I.nodes r u.0 u.1).0));
  formed = λ r u. ap is_formed (node_standing state.heap r u.0 u.1) ∙ (I.nodes r u.0 u.1).1;
  before = λ r u. subst (λ p. AllHold (IsInUse state.heap) state.heap (prev_wants p)) (sym (prev_standing state.heap r u.0 u.1))
      (last_hold (IsInUse state.heap) state.heap (node_wants u.0.node) (prev_wants u.0.prev) ((I.nodes r u.0 u.1).0));
}

module _ (lv : Ref → ℕ) (state : State) (I : IsSafe state) (h : HasLevels lv state) where
  pub level_under : (r : Ref) → IsInUse state.heap r → NodeLevel lv r (node_at state.heap r) × PrevLevel lv r (prev_at state.heap r)
  level_under r u =
      (subst (NodeLevel lv r) (sym (node_standing state.heap r u.0 u.1)) ((h.nodes r u.0 u.1).0), subst (PrevLevel lv r) (sym (prev_standing state.heap r u.0 u.1)) ((h.nodes r u.0 u.1).1))

  acts_level : (actor : ℕ) (operation : Operation) → operation_of state actor ≡ Some operation → ActionLevel lv (made_level operation.line) (action_of state operation)
  acts_level actor operation e =
      let (k, level) = of_actor state (λ k operation. LineLevel lv operation.line) (h.lines) actor operation e in
      line_level_acts lv state operation (IsInUse state.heap) (heaped_in_use state I) level_under operation.line (line_finds state I actor operation e) level

  word_by : (o : Option Root) (handle : ℕ) → root_at state handle ≡ o → is_some o ≡ true → WordLevel lv (word_of o)
  word_by None handle e s = absurd (false≢true s)
  word_by (Some root) handle e s = h.words handle root e

  -- what is in use is older than what is made
  older : (r made : Ref) → IsInUse state.heap r → next_ref state.heap ≡ Some made → birth_of r < birth_of made
  older r made (slot, found) e =
      by_births (I.births r slot found) ((taken_all state.limits.slots state.heap (I.sound.heap) (Indirection 0 0) made e).3)
    where
      by_births : birth_of r ≤ state.heap.births → birth_of made ≡ state.heap.births + 1 → birth_of r < birth_of made
      by_births a b = omega arith

  words_after : (s : Step) (o : Outcome) (after : State) → Moves state s o after → AllWords (WordLevel lv) after
  words_after s o after (Begins {actor} {call} {number} d) = begin_words (WordLevel lv) state call (h.words)
  words_after s o after (Goes {actor} {operation} d is a g) =
      put_words (WordLevel lv) _ (handle_of operation.call) (action_of state operation) (h.words)
      (puts_level lv (made_level operation.line) (action_of state operation) (acts_level actor operation is))
  words_after s o after (Ends d is a) = h.words
  words_after s o after (GivesUp d is a) = h.words
  words_after s o after (Sweeps spent) = h.words

  -- ---- what is made

  abbrev FreshLevel : State → Type 0
  FreshLevel after =
      (node : Node) (made : Ref) → next_ref state.heap ≡ Some made → standing state.heap made ≡ None → standing after.heap made ≡ Some (fresh_slot state.heap node) → NodeLevel lv made node

  -- where what stands only goes nothing is made
  nothing_made : (after : State) → ((r : Ref) → (standing after.heap r ≡ standing state.heap r) ⊎ (standing after.heap r ≡ None)) → FreshLevel after
  nothing_made after goes node made e none new = elim (goes made) [
    | inl same ↦ absurd (none-some _ (sym none ∙ sym same ∙ new))
    | inr gone ↦ absurd (none-some _ (sym gone ∙ new))
  ]

  gone_made : (actor : ℕ) (operation : Operation) (k : ℕ) → operation_of state actor ≡ Some operation → get_or state.actors k None ≡ Some operation → GivesLevel lv state (step.Go actor) →
      (o : Option Node) → made_node state (action_of state operation) ≡ o → FreshLevel (settled state (gone state actor operation))
  gone_made actor operation k is found gives (Some other) a node made e none new =
      let stood = ap (λ heap. standing heap made) (made_heap _ (handle_of operation.call) (action_of state operation) other made a e)
      ∙ (taken_all state.limits.slots state.heap (I.sound.heap) other made e).0 in
      let same : other ≡ node = ap (λ (x : Slot). x.node) (same_Some _ _ (sym stood ∙ new)) in
      subst (NodeLevel lv made) same
      (made_slot lv made (made_level operation.line) other (gives actor operation other made refl is a e)
      (made_of lv state (made_level operation.line) (action_of state operation) other a (acts_level actor operation is)))
  gone_made actor operation k is found gives None a node made e none new =
      elim (stood_or_made _ _ _ _ _ _ (gone_effect state I actor k operation found) made (fresh_slot state.heap node) new) [
        | inl stood ↦ absurd (none-some stood.0 (sym none ∙ stood.1))
        | inr born ↦ absurd (no_birth (births_same _ (handle_of operation.call) (action_of state operation) a) born.1)
      ]
    where
      no_birth : (settled state (gone state actor operation)).heap.births ≡ state.heap.births → (settled state (gone state actor operation)).heap.births ≡ state.heap.births + 1 → ⊥
      no_birth x y = omega arith

  fresh_after : (s : Step) (o : Outcome) (after : State) → Moves state s o after → GivesLevel lv state s → FreshLevel after
  fresh_after s o after (Begins {actor} {call} {number} d) gives =
      nothing_made after (λ r. inl (ap (λ heap. standing heap r) (begin_heap state actor call (begun_operation state call number))))
  fresh_after s o after (Goes {actor} {operation} d is a g) gives =
      let (k, found) = of_actor state (λ k operation. get_or state.actors k None ≡ Some operation) (λ k operation e. e) actor operation is in
      gone_made actor operation k is found gives (made_node state (action_of state operation)) refl
  fresh_after s o after (Ends d is a) gives = nothing_made after (λ r. inl refl)
  fresh_after s o after (GivesUp d is a) gives = nothing_made after (λ r. inl refl)
  fresh_after s o after (Sweeps spent) gives =
      nothing_made after (sweep_goes state I (map pin_of state.actors) (ripe state.epoch state.limbo)
      (λ q due. stands_in_use state.heap q (ripe_in_use (InUse state.heap) state.epoch state.limbo (I.sound.limbo) q due)))

  nodes_after : (s : Step) (o : Outcome) (after : State) → Moves state s o after → GivesLevel lv state s → (r : Ref) (slot : Slot) → standing after.heap r ≡ Some slot → SlotLevel lv r slot
  nodes_after s o after m gives r slot e = by_move (standing_move state I s o after m)
    where
      by_move : WordMove state (standing state.heap) (standing after.heap) ⊎ ((r : Ref) → (standing after.heap r ≡ standing state.heap r) ⊎ (standing after.heap r ≡ None)) → SlotLevel lv r slot
      by_move (inl w) = slots_after lv state (standing state.heap) (standing after.heap) (h.nodes) acts_level (fresh_after s o after m gives) w r slot e
      by_move (inr goes) = elim (goes r) [ inl same ↦ h.nodes r slot (sym same ∙ e) | inr none ↦ absurd (none-some slot (sym none ∙ e)) ]

  -- ---- lines

  marked_level : (m : Option ℕ) (operation : Operation) → LineLevel lv operation.line → LineLevel lv (mark_one m operation).line
  marked_level m operation l = subst (λ (x : Operation). LineLevel lv x.line) (sym (mark_only m operation)) l

  lines_after : (s : Step) (o : Outcome) (after : State) → Moves state s o after → GivesLevel lv state s → (k : ℕ) → Dec (IsOf (suc k) s) → (found : Operation) →
      get_or after.actors k None ≡ Some found →
      LineLevel lv found.line
  lines_after s o after m gives k (no other) found at_k =
      let (was, at_was, same) = of_others state s o after m k other found at_k in
      subst (λ (x : Operation). LineLevel lv x.line) (sym same) (marked_level (marks_in state s) was (h.lines k was at_was))
  lines_after s o after (Begins {actor} {call} {number} d) gives k (yes own) found at_k =
      subst (λ (x : Operation). LineLevel lv x.line) (sym (of_begin state actor call (begun_operation state call number) k own found at_k)) (first_level lv call)
  lines_after s o after (Goes {actor} {operation} d is a g) gives k (yes own) found at_k =
      let at_was = at_place state actor k operation own is in
      let goes_on : GoesOn (action_of state operation) = rw a g in
      let is_open : is_some (root_at state (handle_of operation.call)) ≡ true =
      elim (or_cases _ _ (I.handles k operation at_was)) [ inl ends ↦ absurd (goes_no_end state operation operation.line goes_on ends) | inr opened ↦ opened ] in
      subst (λ (x : Operation). LineLevel lv x.line) (sym (of_itself state actor operation k own found at_k))
      (marked_level (marks_by state (Some operation)) (operation_after state operation)
      (line_level_next lv state operation (IsInUse state.heap) (heaped_in_use state I) level_under
      (word_by (root_at state (handle_of operation.call)) (handle_of operation.call) refl is_open) older operation.line
      (line_finds state I actor operation is) (h.lines k operation at_was) (λ node made m e. gives actor operation node made refl is m e)))
  lines_after s o after (Ends {actor} d is a) gives k (yes own) found at_k = absurd (of_end state actor k own found at_k)
  lines_after s o after (GivesUp {actor} {operation} {answer} d is a) gives k (yes own) found at_k =
      subst (λ (x : Operation). LineLevel lv x.line) (of_giving_up state actor operation answer k own found at_k) tt
  lines_after s o after (Sweeps spent) gives k (yes own) found at_k = absurd own

  pub levels_after : (s : Step) (o : Outcome) (after : State) → Moves state s o after → GivesLevel lv state s → HasLevels lv after
  levels_after s o after m gives = record {
    nodes = nodes_after s o after m gives;
    words = words_after s o after m;
    lines = λ k. lines_after s o after m gives k (is_of (suc k) s);
  }
