-- At rest, with limbo empty, the slots in use are exactly the reachable ones: on the way up levels fall, and on one level from main nodes to their indirection.
use Rattle.std.proofs.Common.{◌≡◌, ℕ, ◌+◌, ◌-◌, ◌*◌, ◌<◌, ◌≤◌, ◌==◌, Bool, true, false, [], Contains, refl, sym, ap, ◌∙◌, subst, inl, inr, ne_eqb, arith}
use Rattle.std.proofs.lemmas.Bool.{false≢true, eqb-false}
use Rattle.std.proofs.lemmas.List.Elements.{All-contains, Contains-append_cases}
use Rattle.proof_memory.specs.Vocabulary.{birth_of, Ref, Node, Indirection, Branch, Single, Tomb, List as Listed, Prev, node_at, refs_of_node, refs_of_prev, State, IsReached, is_busy}
use Rattle.proof_memory.specs.Beneath.slot_arena.specs.declared.nodes.Prev.TheVariants as prev
use Rattle.proof_memory.specs.Wants.{AMain, ASingle, is_indirection, is_main_node, Is, Holds, AllHold, node_wants, prev_wants}
use Rattle.proof_memory.specs.Laws.{IsInUse}
use Rattle.proof_memory.proofs.Claims.Uses.{Meets, safe_of, meets_of, all_of, from_meets, first_hold, last_hold}
use Rattle.proof_memory.proofs.Safety.States.{IsSafe}
use Rattle.proof_memory.proofs.Limbo.Exact.{HasZeros}
use Rattle.proof_memory.proofs.Safety.Standing.{none_contained}
use Rattle.proof_memory.specs.Levels.{EntryLevel, NodeLevel, PrevLevel}
use Rattle.proof_memory.proofs.Levels.States.{HasLevels}
use Rattle.proof_memory.proofs.Limbo.Ranks.{IsMeasured, in_use_reached}
use Rattle.machine_model.proofs.Grown.{node_standing}
use Rattle.machine_model.proofs.Basics.{only_one}
use Rattle.proof_memory.proofs.Levels.Paths.{single_level_by}

-- on one level an indirection comes first, and then its main nodes, the youngest first
abbrev step_down : Bool → ℕ → ℕ
step_down true n = 0
step_down false n = n

module _ (state : State) (I : IsSafe state) (lv : Ref → ℕ) (h : HasLevels lv state) where
  -- no birth in use is greater
  abbrev top : ℕ
  top = state.heap.births + 1

  abbrev down : Ref → ℕ
  down r = step_down (is_indirection (node_at state.heap r)) (1 + (top - birth_of r))

  abbrev measure : Ref → ℕ
  measure r = lv r * (top + 2) + down r

  abbrev leaf : Ref → Bool
  leaf r = lv r == 0

  level_at : (r : Ref) → IsInUse state.heap r → NodeLevel lv r (node_at state.heap r)
  level_at r (slot, found) = subst (NodeLevel lv r) (sym (node_standing state.heap r slot found)) ((h.nodes r slot found).0)

  single_zero : (r : Ref) → Holds (IsInUse state.heap) state.heap (Is r ASingle) → lv r ≡ 0
  single_zero r c = single_level_by lv r (node_at state.heap r) (meets_of c) (level_at r (safe_of c))

  main_by : (r : Ref) (node : Node) → is_main_node node ≡ true → NodeLevel lv r node → 1 ≤ lv r
  main_by r (Branch bitmap entries) e n = n.1
  main_by r (Tomb single) e n = n.1
  main_by r (Listed singles) e n = n.1
  main_by r node e n = absurd (false≢true e)

  main_above : (r : Ref) → Holds (IsInUse state.heap) state.heap (Is r AMain) → 1 ≤ lv r
  main_above r c = main_by r (node_at state.heap r) (meets_of c) (level_at r (safe_of c))

  no_indirection : (node : Node) → is_main_node node ≡ true → is_indirection node ≡ false
  no_indirection (Indirection generation main) e = absurd (false≢true e)
  no_indirection (Branch bitmap entries) e = refl
  no_indirection (Single key value) e = refl
  no_indirection (Tomb single) e = refl
  no_indirection (Listed singles) e = refl

  main_down : (r : Ref) → Holds (IsInUse state.heap) state.heap (Is r AMain) → down r ≡ 1 + (top - birth_of r)
  main_down r c = ap (λ b. step_down b (1 + (top - birth_of r))) (no_indirection (node_at state.heap r) (meets_of c))

  down_low : (b : Bool) (r : Ref) → step_down b (1 + (top - birth_of r)) < top + 2
  down_low true r = omega arith
  down_low false r = omega arith

  -- in a node
  node_inner : (q r : Ref) (node : Node) → Contains (refs_of_node node) r → NodeLevel lv q node → 1 ≤ lv q
  node_inner q r (Indirection generation main) c n = n.1
  node_inner q r (Branch bitmap entries) c n = n.1
  node_inner q r (Single key value) c n = none_contained r c
  node_inner q r (Tomb single) c n = n.1
  node_inner q r (Listed singles) c n = n.1

  node_falls : (q r : Ref) (node : Node) → node_at state.heap q ≡ node → Contains (refs_of_node node) r → NodeLevel lv q node →
      AllHold (IsInUse state.heap) state.heap (node_wants node) → (lv r ≡ 0 → ⊥) →
      measure q < measure r
  node_falls q r (Indirection generation main) e c n w inner =
      let same = only_one main r c in
      let here : down q ≡ 0 = ap (λ node. step_down (is_indirection node) (1 + (top - birth_of q))) e in
      below (ap (λ l. l * (top + 2)) (sym n.0 ∙ ap lv same)) here (subst (λ x. down x ≡ 1 + (top - birth_of x)) same (main_down main w.0))
    where
      below : lv q * (top + 2) ≡ lv r * (top + 2) → down q ≡ 0 → down r ≡ 1 + (top - birth_of r) → measure q < measure r
      below a b c = omega arith
  node_falls q r (Branch bitmap entries) e c n w inner = elim (All-contains (EntryLevel lv (lv q)) entries.items r n.0 c) [
    | inl none ↦ absurd (inner none)
    | inr deeper ↦ below (ap (λ l. l * (top + 2)) deeper) (down_low (is_indirection (node_at state.heap q)) q)
  ]
    where
      below : lv r * (top + 2) ≡ (lv q + 1) * (top + 2) → down q < top + 2 → measure q < measure r
      below a b = omega arith
  node_falls q r (Single key value) e c n w inner = none_contained r c
  node_falls q r (Tomb single) e c n w inner = absurd (inner (ap lv (sym (only_one single r c)) ∙ single_zero single w.0))
  node_falls q r (Listed singles) e c n w inner =
      absurd (inner (single_zero r (from_meets r (All-contains (Meets (IsInUse state.heap) state.heap ASingle) singles.items r (all_of w.0) c))))

  -- in a prev word
  old_falls : (q p : Ref) → IsInUse state.heap q → Holds (IsInUse state.heap) state.heap (Is p AMain) → lv p ≡ lv q → birth_of p < birth_of q → measure q < measure p
  old_falls q p (slot, found) m level old =
      by_kind (is_indirection (node_at state.heap q)) refl (ap (λ l. l * (top + 2)) level) (main_down p m) (I.births q slot found)
    where
      by_kind : (b : Bool) → is_indirection (node_at state.heap q) ≡ b → lv p * (top + 2) ≡ lv q * (top + 2) → down p ≡ 1 + (top - birth_of p) → birth_of q ≤ state.heap.births → measure q < measure p
      by_kind true e a d births = lower (ap (λ b. step_down b (1 + (top - birth_of q))) e)
        where
          lower : down q ≡ 0 → measure q < measure p
          lower x = omega arith
      by_kind false e a d births = younger (ap (λ b. step_down b (1 + (top - birth_of q))) e)
        where
          younger : down q ≡ 1 + (top - birth_of q) → measure q < measure p
          younger x = omega arith

  prev_falls : (q r : Ref) (p : Prev) → IsInUse state.heap q → Contains (refs_of_prev p) r → PrevLevel lv q p → AllHold (IsInUse state.heap) state.heap (prev_wants p) → measure q < measure r
  prev_falls q r prev.None u c n w = none_contained r c
  prev_falls q r (prev.Pending p) u c n w = subst (λ x. measure q < measure x) (only_one p r c) (old_falls q p u w.0 n.0 n.1)
  prev_falls q r (prev.Failed p) u c n w = subst (λ x. measure q < measure x) (only_one p r c) (old_falls q p u w.0 n.0 n.1)

  prev_inner : (q r : Ref) (p : Prev) → Contains (refs_of_prev p) r → PrevLevel lv q p → AllHold (IsInUse state.heap) state.heap (prev_wants p) → 1 ≤ lv q
  prev_inner q r prev.None c n w = none_contained r c
  prev_inner q r (prev.Pending p) c n w = subst (λ l. 1 ≤ l) n.0 (main_above p w.0)
  prev_inner q r (prev.Failed p) c n w = subst (λ l. 1 ≤ l) n.0 (main_above p w.0)

  measured : IsMeasured state leaf measure
  measured = record {
    inner = λ q r slot e c. above_zero q (elim (Contains-append_cases (refs_of_node slot.node) (refs_of_prev slot.prev) r c) [
      | inl inside ↦ node_inner q r slot.node inside ((h.nodes q slot e).0)
      | inr before ↦ prev_inner q r slot.prev before ((h.nodes q slot e).1) (last_hold (IsInUse state.heap) state.heap (node_wants slot.node) (prev_wants slot.prev) ((I.nodes q slot e).0))
    ]);
    falls = λ q r slot e c inner. elim (Contains-append_cases (refs_of_node slot.node) (refs_of_prev slot.prev) r c) [
      | inl inside ↦ node_falls q r slot.node (node_standing state.heap q slot e) inside ((h.nodes q slot e).0)
          (first_hold (IsInUse state.heap) state.heap (node_wants slot.node) (prev_wants slot.prev) ((I.nodes q slot e).0)) (eqb-false (lv r) 0 inner)
      | inr before ↦ prev_falls q r slot.prev (slot, e) before ((h.nodes q slot e).1) (last_hold (IsInUse state.heap) state.heap (node_wants slot.node) (prev_wants slot.prev) ((I.nodes q slot e).0))
    ];
  }
    where
      above_zero : (q : Ref) → 1 ≤ lv q → leaf q ≡ false
      above_zero q low = ne_eqb (lv q) 0 (λ e. omega arith)

  -- then each slot in use is reached
  pub all_reached : HasZeros state → state.limbo ≡ [] → is_busy state ≡ false → (r : Ref) → IsInUse state.heap r → IsReached state r
  all_reached zeros empty rest = in_use_reached state I zeros empty rest leaf measure measured
