-- At each time no branch below the root is empty or has one single alone.
use Rattle.std.proofs.Common.{◌≡◌, ℕ, zero, suc, ◌<◌, ◌≤◌, true, Option, Some, None, refl, sym, ap, subst, ◌∙◌, arith}
use Rattle.std.proofs.lemmas.Option.{none-some, same_Some}
use Rattle.proof_shape.specs.Vocabulary.{hash_of, Ref, Node, Indirection, Branch, Single, Tomb, List as Listed, Slot, node_at, next_ref, with_main_word, Action, Operation, Line, Bounds, Step}
use Rattle.proof_shape.specs.Vocabulary.{handle_of, key_of, State, first_state, operation_of, start_of, read_step, action_of, line_action, line_after, IsRun, grown, standing, or_before}
use Rattle.proof_shape.specs.Vocabulary.{AllHold, line_wants, IsInUse, made_node, made_level, KnowsLine}
use Rattle.proof_shape.specs.Beneath.machine_model.specs.declared.actions.Action.TheVariants as act
use Rattle.proof_shape.specs.Beneath.machine_model.specs.declared.finding.KeyLine.TheVariants as key
use Rattle.proof_shape.specs.Beneath.machine_model.specs.declared.repairs.RenewLine.TheVariants as renew
use Rattle.proof_shape.specs.Beneath.machine_model.specs.declared.lines.Line.TheVariants as line
use Rattle.proof_shape.specs.Beneath.proof_memory.specs.Wants.{is_indirection}
use Rattle.proof_shape.specs.Beneath.proof_memory.proofs.Claims.Uses.{safe_of}
use Rattle.proof_shape.specs.Beneath.proof_memory.proofs.Claims.Nodes.{entry_met}
use Rattle.proof_shape.specs.Beneath.proof_memory.proofs.Claims.Named.{main_claim, past_place}
use Rattle.proof_shape.specs.Beneath.proof_memory.proofs.Heap.Under.{fresh_slot, taken_all}
use Rattle.proof_shape.specs.Beneath.proof_memory.proofs.Safety.Steps.{made_heap}
use Rattle.proof_shape.specs.Beneath.proof_memory.proofs.Safety.AtEachTime.{safe_at}
use Rattle.proof_shape.specs.Beneath.proof_memory.proofs.Safety.AtTimes.{line_at, limits_at}
use Rattle.proof_shape.specs.Beneath.proof_memory.proofs.Safety.First.{first_stands}
use Rattle.proof_shape.specs.Beneath.proof_memory.proofs.Heap.Moves.{grown_stays}
use Rattle.proof_shape.specs.Beneath.proof_memory.proofs.Levels.States.{heaped_in_use}
use Rattle.proof_shape.specs.Lines.Knowing.{OfEachAt, first_main}
use Rattle.proof_shape.proofs.Lines.Knows.{knows_at}
use Rattle.proof_shape.proofs.Runs.EachAt.{GoesAt, each_at}
use Rattle.proof_shape.specs.Sites.Lines.{Sites, sites_of, bare, LineSite}
use Rattle.proof_shape.specs.Sites.At.{TakesSteps, StepsFit}
use Rattle.proof_shape.proofs.Sites.Given.{gives_level, branch_old}
use Rattle.proof_shape.proofs.Shaped.Places.{bare_link}
use Rattle.proof_shape.proofs.Sites.Runs.{are_bare}
use Rattle.proof_shape.proofs.Sites.At.{lines_have_sites}
use Rattle.proof_shape.proofs.Sites.Born.{IsBorn, born}
use Rattle.proof_shape.proofs.Lines.Leads.{root_leads, swap_leads, build_leads, clean_leads, climb_leads, copy_leads, walk_leads, key_read_leads, key_main_leads}
use Rattle.proof_shape.proofs.Full.Lines.{FullLine, free_full, first_full, entry_full, listed_full, sibling_full, renew_entry_full, renew_read_full, link_full, branch_full}
use Rattle.proof_shape.specs.Beneath.machine_model.proofs.Edges.Key.{key_edge}
use Rattle.proof_shape.specs.Beneath.machine_model.proofs.Edges.Repairs.{renew_edge}
use Rattle.proof_shape.proofs.Full.Made.{FullNode, ActionFull}
use Rattle.proof_shape.proofs.Full.Acts.{acts_full}
use Rattle.proof_shape.specs.Beneath.machine_model.proofs.Grown.{node_standing, grown_in_use}

module _ {limits : Bounds} {states : ℕ → State} (steps : ℕ → Step) {last : ℕ} (run : IsRun limits states last) (takes : TakesSteps states steps last) where
  abbrev s : Sites
  s = sites_of states steps last

  abbrev S : ℕ → Ref → Type 0
  S t = IsInUse (states t).heap

  same : (t : ℕ) → t ≤ last → (r : Ref) → S t r → bare (s.node r) ≡ bare (node_at (states t).heap r)
  same t h r (slot, found) = are_bare steps run takes t h r slot found ∙ ap bare (sym (node_standing (states t).heap r slot found))

  abbrev Wants : ℕ → Operation → Line → Type 0
  Wants t operation l = AllHold (S t) (states t).heap (line_wants limits.hash operation.call operation.access l)

  -- a link that was made is an indirection
  link_made : (t : ℕ) (h : t < last) (actor : ℕ) (operation : Operation) → GoesAt states run.records t actor operation → (g : ℕ) (child : Ref) →
      action_of (states t) operation ≡ act.Make (Indirection g child) →
      (made : Ref) → next_ref (states t).heap ≡ Some made → is_indirection (s.node made) ≡ true
  link_made t h actor operation go g child a made e =
      let I = safe_at run t (omega arith) in
      let n : made_node (states t) (action_of (states t) operation) ≡ Some (Indirection g child) = ap (made_node (states t)) a in
      let stood = ap (λ (x : State). standing x.heap made) go.after ∙ ap (λ heap. standing heap made)
      (made_heap _ (handle_of operation.call) (action_of (states t) operation) (Indirection g child) made n e)
      ∙ (taken_all (states t).limits.slots (states t).heap (I.sound.heap) (Indirection g child) made e).0 in
      sym (bare_link (s.node made)) ∙ ap is_indirection (are_bare steps run takes (suc t) h made (fresh_slot (states t).heap (Indirection g child)) stood)

  line_next : (t : ℕ) (h : t < last) (actor : ℕ) (operation : Operation) → GoesAt states run.records t actor operation → (l : Line) →
      action_of (states t) operation ≡ line_action (states t) operation l → Wants t operation l →
      FullLine s l → FullLine s (line_after (states t) operation l)
  line_next t h actor operation go (line.Key (key.Entry path main position)) a w f =
      entry_full s (states t) operation (S t) (same t (omega arith)) path main position _ (key_edge (states t) operation (key.Entry path main position)) (safe_of (main_claim w))
  line_next t h actor operation go (line.Key (key.Listed path main position)) a w f =
      listed_full s (states t) operation (S t) (same t (omega arith)) path main position _ (key_edge (states t) operation (key.Listed path main position)) (safe_of (main_claim w))
  line_next t h actor operation go (line.Key (key.Sibling path main position former)) a w f =
      sibling_full s (states t) operation (S t) (same t (omega arith)) path main position former _ (key_edge (states t) operation (key.Sibling path main position former)) (safe_of (main_claim w))
      (entry_met (S t) (states t).heap (heaped_in_use (states t) (safe_at run t (omega arith))) (main_claim w) (past_place w).0).0
  line_next t h actor operation go (line.Key (key.Read path r)) a w f = free_full s _ (key_read_leads (states t) operation path r).2
  line_next t h actor operation go (line.Key (key.Main path main)) a w f = free_full s _ (key_main_leads (states t) operation path main (node_at (states t).heap main)).2
  line_next t h actor operation go (line.Renew (renew.Entry path main done)) a w f =
      renew_entry_full s (states t) operation (S t) (same t (omega arith)) path main done _ (renew_edge (states t) operation (renew.Entry path main done)) (safe_of (main_claim w)) f
  line_next t h actor operation go (line.Renew (renew.Read path main done r)) a w f =
      renew_read_full s (states t) operation (S t) (same t (omega arith)) path main done (read_step (states t) operation r) f
  line_next t h actor operation go (line.Renew (renew.Link path main done child)) a w f =
      link_full s (states t) operation (S t) (same t (omega arith)) path main done f (λ made e. link_made t h actor operation go (start_of operation) child a made e) (next_ref (states t).heap) refl
  line_next t h actor operation go (line.Renew (renew.Branch path main done)) a w f = branch_full s (states t) operation (S t) (same t (omega arith)) path main (next_ref (states t).heap)
  line_next t h actor operation go (line.Root l) a w f = free_full s _ (root_leads (states t) operation l).1
  line_next t h actor operation go (line.Build l) a w f = free_full s _ (build_leads (states t) operation l).2
  line_next t h actor operation go (line.Swap why x) a w f = free_full s _ (swap_leads (states t) operation why x).1
  line_next t h actor operation go (line.Clean l) a w f = free_full s _ (clean_leads (states t) operation l).2
  line_next t h actor operation go (line.Climb l) a w f = free_full s _ (climb_leads (states t) operation l).1
  line_next t h actor operation go (line.Copy l) a w f = free_full s _ (copy_leads (states t) operation l).1
  line_next t h actor operation go (line.Walk l) a w f = free_full s _ (walk_leads (states t) operation l).1
  line_next t h actor operation go (line.End answer) a w f = tt
  line_next t h actor operation go line.Impossible a w f = tt

  full_lines : OfEachAt states last (λ t actor operation. FullLine s operation.line)
  full_lines =
      each_at (λ t actor operation. FullLine s operation.line) (λ t actor operation f. f) run (λ t h actor call number d. first_full s call)
      (λ t h actor operation go f. line_next t h actor operation go operation.line refl (line_at run t (omega arith) actor operation go.runs) f)
      (λ t h actor operation answer is may f. tt) (λ t h actor operation is f. f)

  -- ---- what is made

  main_full : (level : ℕ) (m : Ref) (n : Node) → FullNode s level n → FullNode s level (with_main_word m n)
  main_full level m (Indirection g w) f = tt
  main_full level m (Branch b es) f = f
  main_full level m (Single k v) f = tt
  main_full level m (Tomb t) f = tt
  main_full level m (Listed ss) f = tt

  made_full : (level : ℕ) (state : State) (action : Action) (node : Node) → made_node state action ≡ Some node → ActionFull s level action → FullNode s level node
  made_full level state (act.Make other) node is f = subst (FullNode s level) (same_Some _ _ is) f
  made_full level state (act.MakeRoot main) node is f = subst (FullNode s level) (same_Some _ _ is) tt
  made_full level state action node is f = absurd (none-some node is)

  module _ (keys : StepsFit steps last) where
    acts_at : (t : ℕ) → t ≤ last → ((r : Ref) (slot : Slot) → grown states t r ≡ Some slot → FullNode s (s.level r) slot.node) →
        (actor : ℕ) (operation : Operation) → operation_of (states t) actor ≡ Some operation →
        ActionFull s (made_level operation.line) (action_of (states t) operation)
    acts_at t h old actor operation is =
        let hash : limits.hash ≡ (states t).limits.hash = ap (λ (l : Bounds). l.hash) (sym (limits_at run t h)) in
        let site = lines_have_sites steps run takes keys t h actor operation is in
        acts_full s (states t) operation (S t) (same t h) (first_main states last)
        (λ r u. subst (FullNode s (s.level r)) (sym (node_standing (states t).heap r u.0 u.1)) (old r u.0 (grown_in_use states t r u.0 u.1))) operation.line
        (subst (λ k. AllHold (S t) (states t).heap (line_wants k operation.call operation.access operation.line)) hash (line_at run t h actor operation is)) site.0
        (subst (λ k. LineSite k s (hash_of k (key_of operation.call)) operation.line) hash site.1)
        (subst (λ k. KnowsLine (record { kind = k; node = s.node; first = first_main states last }) operation.call operation.line) hash (knows_at run t h actor operation is))
        (full_lines t h actor operation is)

    first_there : (r : Ref) (slot : Slot) → standing (first_state limits).heap r ≡ Some slot → FullNode s (s.level r) slot.node
    unfolding first_state
    first_there =
        first_stands (λ r slot. FullNode s (s.level r) slot.node) limits.slots run.limits_ok.0 (λ birth. tt)
        (λ birth deep. let root = branch_old steps run takes in absurd (omega (arith, root, deep)))

    pub full_grown : (t : ℕ) → t ≤ last → (r : Ref) (slot : Slot) → grown states t r ≡ Some slot → FullNode s (s.level r) slot.node
    unfolding grown
    full_grown zero h r slot found = first_there r slot (ap (λ (x : State). standing x.heap r) (sym run.first) ∙ found)
    full_grown (suc t) h r slot found = by_before (λ q slot e. full_grown t (omega arith) q slot e) (grown states t r) refl
      where
        by_before : ((q : Ref) (slot : Slot) → grown states t q ≡ Some slot → FullNode s (s.level q) slot.node) → (o : Option Slot) → grown states t r ≡ o → FullNode s (s.level r) slot.node
        by_before old (Some was) e =
            let (now, found_now, kept) = grown_stays run t (suc t) (omega arith) h r was e in
            subst (FullNode s (s.level r)) (sym kept.0.1 ∙ ap (λ (x : Slot). x.node) (same_Some _ _ (sym found_now ∙ found))) (main_full (s.level r) kept.0.0 was.node (old r was e))
        by_before old None e = by_birth (born (states t) (safe_at run t (omega arith)) (steps t) (takes t h).0 (states (suc t)) (takes t h).1 r slot none now)
          where
            none : standing (states t).heap r ≡ None
            none = by_slot (standing (states t).heap r) refl
              where
                by_slot : (o : Option Slot) → standing (states t).heap r ≡ o → standing (states t).heap r ≡ None
                by_slot None at = at
                by_slot (Some was) at = absurd (none-some was (sym e ∙ grown_in_use states t r was at))

            now : standing (states (suc t)).heap r ≡ Some slot
            now = by_slot (standing (states (suc t)).heap r) refl found
              where
                by_slot : (o : Option Slot) → standing (states (suc t)).heap r ≡ o → or_before o (grown states t r) ≡ Some slot → standing (states (suc t)).heap r ≡ Some slot
                by_slot None at same = absurd (none-some slot (sym e ∙ same))
                by_slot (Some x) at same = at ∙ same

            by_birth : IsBorn (states t) (steps t) r slot → FullNode s (s.level r) slot.node
            by_birth b =
                let level = gives_level steps run takes t h b.actor b.operation b.node r b.step_is b.runs b.makes_it b.next in
                subst (λ (x : Slot). FullNode s (s.level r) x.node) (sym b.slot_is)
                (subst (λ l. FullNode s l b.node) (sym level)
                (made_full (made_level b.operation.line) (states t) (action_of (states t) b.operation) b.node b.makes_it (acts_at t (omega arith) old b.actor b.operation b.runs)))
