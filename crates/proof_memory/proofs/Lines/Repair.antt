-- RENEW, CLEAN and CLIMB: what their lines want gives what the lines after them do, where a step makes no node.
use Rattle.std.proofs.Common.{◌≡◌, nat_lt, nat_eq, List, ◌∷◌, ◌++◌, length, refl, []}
use Rattle.std.proofs.lemmas.Bool.{and_parts, cond_both}
use Rattle.proof_memory.specs.Vocabulary.{Ref, Node, Indirection, Branch, Single, Tomb, node_at, entries_of, generation_at, has_flag, Operation, After, Gives, Read, RootLine, Climb, Line, State}
use Rattle.proof_memory.specs.Vocabulary.{above, is_below_root, flag_in, is_start, next_entry, renew_after_entry, renew_after_read, clean_next, clean_after_read, clean_after_main, clean_after_entry}
use Rattle.proof_memory.specs.Vocabulary.{after_child, clean_after_tomb, climbing, higher, climb_after_read, holds_it, climb_after_main, climb_after_root}
use Rattle.std.specs.Cmp.Lexicographic.{pointwise}
use Rattle.machine_model.specs.declared.reading.After.TheVariants.{Goes}
use Rattle.proof_memory.specs.Wants.{Wanted, AnIndirection, ABranch, AnEntry, ASingle, WithEntry, WithFlag, Is, Each, So, Holds, is, so, AllHold, node_wants, line_wants, climb_carries}
use Rattle.proof_memory.proofs.Claims.Uses.{safe_of, is_also, from_meets}
use Rattle.proof_memory.proofs.Claims.Nodes.{Heaped, single_entry, entry_met}
use Rattle.proof_memory.proofs.Claims.Named.{single_claim}
use Rattle.proof_memory.proofs.Lines.Read.{step_wants, after_root_wants}
use Rattle.proof_memory.proofs.Lines.Shared.{this, current_is, above_each, above_long, pushed_each, none_each, at_most}
use Rattle.proof_memory.proofs.Lines.Key.{renew_next_wants}

module _ (state : State) (operation : Operation) (S : Ref → Type 0) (H : Heaped S state.heap) where
  abbrev Wants : Line → Type 0
  Wants l = AllHold S state.heap (line_wants state.limits.hash operation.call operation.access l)

  abbrev At : Ref → Wanted → Type 0
  At r wanted = Holds S state.heap (Is r wanted)

  abbrev AllAre : List Ref → Wanted → Type 0
  AllAre rs wanted = Holds S state.heap (Each rs wanted)

  abbrev IsPath : List Ref → Type 0
  IsPath path = Holds S state.heap (Each path AnIndirection) × Holds S state.heap (So (nat_lt 0 (length path)))

  -- ---- RENEW

  pub renew_entry_next : (path : List Ref) (main : Ref) (done : List Ref) (entry : Ref) (node : Node) → node_at state.heap entry ≡ node → IsPath path →
      At main ABranch → AllAre done AnEntry → At main (WithEntry (length done)) → S entry → Wants (renew_after_entry state operation path main done entry node)
  renew_entry_next path main done entry (Indirection generation word) e p m d w s =
      cond_both (is_start operation generation) _ _ Wants
      (λ own. renew_next_wants state operation S H path main (done ++ entry ∷ []) p m
      (pushed_each S state.heap done entry d (this S state.heap AnEntry (Indirection generation word) s e refl)))
      (λ other. (p.0, (p.1, (m, (d, (w, (this S state.heap AnIndirection (Indirection generation word) s e refl, tt)))))))
  renew_entry_next path main done entry (Single k v) e p m d w s =
      renew_next_wants state operation S H path main (done ++ entry ∷ []) p m (pushed_each S state.heap done entry d (this S state.heap AnEntry (Single k v) s e refl))
  renew_entry_next path main done entry node e p m d w s = tt

  pub renew_read_next : (path : List Ref) (main : Ref) (done : List Ref) (a : After Read Ref) → IsPath path → At main ABranch → AllAre done AnEntry →
      At main (WithEntry (length done)) → AllHold S state.heap (step_wants a) → Wants (renew_after_read path main done a)
  renew_read_next path main done (Goes r) p m d w h = (p.0, (p.1, (m, (d, (w, h)))))
  renew_read_next path main done (Gives child) p m d w h = (p.0, (p.1, (m, (d, (w, h)))))

  -- ---- CLEAN

  clean_next_wants : (path : List Ref) (main : Ref) (done : List Ref) → IsPath path → At main ABranch → AllAre done AnEntry → Wants (clean_next state path main done)
  clean_next_wants path main done p m d =
      cond_both (nat_lt (length done) (length (entries_of (node_at state.heap main)))) _ _ Wants (λ e. (p.0, (p.1, (m, (d, (is (safe_of m) e, tt))))))
      (λ e. cond_both (pointwise nat_eq done (entries_of (node_at state.heap main))) _ _ Wants (λ same. tt)
      (λ other. (p.0, (p.1, (m, (d, (is (safe_of m) (at_most (length done) (length (entries_of (node_at state.heap main))) e), tt)))))))

  pub clean_read_next : (path : List Ref) (a : After Read Ref) → IsPath path → AllHold S state.heap (step_wants a) → Wants (clean_after_read path a)
  clean_read_next path (Goes r) p h = (p.0, (p.1, h))
  clean_read_next path (Gives main) p h = (p.0, (p.1, h))

  pub clean_main_next : (path : List Ref) (main : Ref) (node : Node) → node_at state.heap main ≡ node → IsPath path → S main → Wants (clean_after_main state path main node)
  clean_main_next path main (Branch bitmap entries) e p s = clean_next_wants path main [] p (this S state.heap ABranch (Branch bitmap entries) s e refl) (none_each S state.heap)
  clean_main_next path main node e p s = tt

  pub clean_entry_next : (path : List Ref) (main : Ref) (done : List Ref) (entry : Ref) (node : Node) → node_at state.heap entry ≡ node → IsPath path →
      At main ABranch → AllAre done AnEntry → At main (WithEntry (length done)) → S entry → Wants (clean_after_entry state path main done entry node)
  clean_entry_next path main done entry (Indirection generation word) e p m d w s =
      (p.0, (p.1, (m, (d, (w, (this S state.heap AnIndirection (Indirection generation word) s e refl, tt))))))
  clean_entry_next path main done entry (Single k v) e p m d w s =
      clean_next_wants path main (done ++ entry ∷ []) p m (pushed_each S state.heap done entry d (this S state.heap AnEntry (Single k v) s e refl))
  clean_entry_next path main done entry node e p m d w s = tt

  pub child_next : (path : List Ref) (main : Ref) (done : List Ref) (a : After Read Ref) → IsPath path → At main ABranch → AllAre done AnEntry →
      At main (WithEntry (length done)) → AllHold S state.heap (step_wants a) → Wants (after_child path main done a)
  child_next path main done (Goes r) p m d w h = (p.0, (p.1, (m, (d, (w, h)))))
  child_next path main done (Gives child) p m d w h = (p.0, (p.1, (m, (d, (w, h)))))

  -- the entry is kept
  kept_next : (path : List Ref) (main : Ref) (done : List Ref) → IsPath path → At main ABranch → AllAre done AnEntry → At main (WithEntry (length done)) →
      Wants (clean_next state path main (done ++ next_entry state main done ∷ []))
  kept_next path main done p m d w =
      clean_next_wants path main (done ++ next_entry state main done ∷ []) p m
      (pushed_each S state.heap done (next_entry state main done) d (from_meets (next_entry state main done) (entry_met S state.heap H m w)))

  pub clean_tomb_next : (path : List Ref) (main : Ref) (done : List Ref) (node : Node) → AllHold S state.heap (node_wants node) → IsPath path →
      At main ABranch → AllAre done AnEntry → At main (WithEntry (length done)) → Wants (clean_after_tomb state path main done node)
  clean_tomb_next path main done (Tomb single) n p m d w =
      clean_next_wants path main (done ++ single ∷ []) p m (pushed_each S state.heap done single d (is_also AnEntry single_entry n.0))
  clean_tomb_next path main done node n p m d w = kept_next path main done p m d w

  -- ---- CLIMB

  pub climbing_wants : (c : Climb) → AllAre c.path AnIndirection → At c.single ASingle → Wants (climbing operation c)
  climbing_wants c p s =
      cond_both (is_below_root c.path) _ _ Wants
      (λ below. (p, (so below, (s, (current_is S state.heap (above c.path) (above_each S state.heap c.path p) (above_long c.path below), tt))))) (λ root. tt)

  pub higher_wants : (c : Climb) (single : Ref) → AllAre c.path AnIndirection → At single ASingle → Wants (climbing operation (higher c single))
  higher_wants c single p s = climbing_wants (higher c single) (above_each S state.heap c.path p) s

  pub climb_read_next : (c : Climb) (a : After Read Ref) → AllHold S state.heap (climb_carries c) → AllHold S state.heap (step_wants a) → Wants (climb_after_read c a)
  climb_read_next c (Goes r) p h = (p.0, (p.1.0, (single_claim p, h)))
  climb_read_next c (Gives main) p h = (p.0, (p.1.0, (single_claim p, h)))

  pub climb_main_next : (c : Climb) (main : Ref) (node : Node) → node_at state.heap main ≡ node → AllHold S state.heap (node_wants node) →
      AllHold S state.heap (climb_carries c) → S main → Wants (climb_after_main state operation c main node)
  climb_main_next c main (Tomb single) e n p s = higher_wants c single p.0 n.0
  climb_main_next c main (Branch bitmap entries) e n p s =
      cond_both (holds_it state operation c main bitmap entries.items) _ _ Wants
      (λ it. (
        p.0,
        (
          p.1.0,
          (
            single_claim p,
            (
              this S state.heap ABranch (Branch bitmap entries) s e refl,
              (this S state.heap (WithFlag (flag_in state operation (above c.path))) (Branch bitmap entries) s e (and_parts (has_flag bitmap (flag_in state operation (above c.path))) _ it).0, tt),
            ),
          ),
        ),
      ))
      (λ other. tt)
  climb_main_next c main node e n p s = tt

  pub climb_root_next : (c : Climb) (a : After RootLine Ref) → AllHold S state.heap (climb_carries c) → AllHold S state.heap (after_root_wants a) → Wants (climb_after_root state operation c a)
  climb_root_next c (Goes l) p h = (p.0, (p.1.0, (single_claim p, h)))
  climb_root_next c (Gives r) p h = cond_both (is_start operation (generation_at state.heap r)) _ _ Wants (λ own. climbing_wants c p.0 (single_claim p)) (λ other. tt)
