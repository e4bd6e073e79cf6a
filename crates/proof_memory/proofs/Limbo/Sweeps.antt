-- A step of the sweep leaves the contents of all open handles, the history and the order alone.
use Rattle.std.proofs.Common.{◌≡◌, ℕ, zero, suc, List, [], ◌∷◌, ◌++◌, flat_map, All, get_or, map, Some, None, Ok, Err, is_some, refl, sym, ap, ◌∙◌, subst, ◌⊎◌, inl, inr, arith}
use Rattle.std.proofs.lemmas.Option.{none-some}
use Rattle.std.proofs.lemmas.List.Elements.{All-head, All-tail, All-weaker}
use Rattle.proof_memory.specs.Vocabulary.{Ref, Node, Indirection, Branch, Single, Tomb, List as Listed, Prev, Heap, node_at, prev_at, main_at, main_of, entries_of, logical, logical_main, ripe, Root}
use Rattle.proof_memory.specs.Vocabulary.{RootWord, Plain, Offer, Outcome, State, root_at, word_at, word_of, root_of, by_key, pairs_at, pairs_below, most_levels, content_at, Answer, next}
use Rattle.proof_memory.specs.Vocabulary.{next_state, state_after, pin_of, Sweeps, Moves, MovesIfTaken, standing}
use Rattle.proof_memory.specs.Beneath.slot_arena.specs.declared.nodes.Prev.TheVariants as prev
use Rattle.machine_model.specs.declared.steps.Step.TheVariants as step
use Rattle.machine_model.proofs.InUse.{InUse}
use Rattle.machine_model.proofs.Moves.{moves}
use Rattle.machine_model.proofs.Slots.{ripe_in_use}
use Rattle.proof_memory.specs.Wants.{AnEntry, AllHold, node_wants, prev_wants, word_wants}
use Rattle.proof_memory.specs.Laws.{IsInUse}
use Rattle.proof_memory.proofs.Claims.Uses.{Meets, safe_of}
use Rattle.proof_memory.proofs.Claims.Nodes.{Heaped, all_in}
use Rattle.proof_memory.proofs.Safety.Guards.{Safe}
use Rattle.proof_memory.proofs.Safety.States.{IsSafe, heaped, open_word, stands_in_use}
use Rattle.proof_memory.proofs.Safety.Steps.{step_carries}
use Rattle.proof_memory.proofs.Heap.Moves.{sweep_goes}
use Rattle.machine_model.proofs.Grown.{node_standing, prev_standing}

-- two functions that agree on a list
flat_map_same : {X : Type 0} (f g : Ref → List X) (rs : List Ref) → All (λ r. f r ≡ g r) rs → flat_map f rs ≡ flat_map g rs
flat_map_same f g [] all = refl
flat_map_same f g (r ∷ rs) all =
    ap (λ l. l ++ flat_map f rs) (All-head (λ q. f q ≡ g q) r rs all) ∙ ap (λ l. g r ++ l) (flat_map_same f g rs (All-tail (λ q. f q ≡ g q) r rs all))

-- ---- two heaps in which the same stands under all that is safe

module _ (S : Ref → Type 0) (heap after : Heap) (used : (r : Ref) → S r → IsInUse heap r) (same : (r : Ref) → S r → standing after r ≡ standing heap r) (H : Heaped S heap) where
  same_node_at : (r : Ref) → S r → node_at after r ≡ node_at heap r
  same_node_at r s = let (slot, found) = used r s in node_standing after r slot (same r s ∙ found) ∙ sym (node_standing heap r slot found)

  same_prev_at : (r : Ref) → S r → prev_at after r ≡ prev_at heap r
  same_prev_at r s = let (slot, found) = used r s in prev_standing after r slot (same r s ∙ found) ∙ sym (prev_standing heap r slot found)

  logical_safe : (m : Ref) (p : Prev) → S m → AllHold S heap (prev_wants p) → S (logical m p)
  logical_safe m prev.None s h = s
  logical_safe m (prev.Pending p) s h = safe_of h.0
  logical_safe m (prev.Failed p) s h = safe_of h.0

  -- below an indirection
  below_same : (f g : Ref → List (ℕ × ℕ)) → ((r : Ref) → S r → f r ≡ g r) → (r : Ref) → S (main_at heap r) → main_at after r ≡ main_at heap r →
      flat_map f (entries_of (node_at after (logical_main after r))) ≡ flat_map g (entries_of (node_at heap (logical_main heap r)))
  below_same f g agree r m e =
      let here = logical_safe (main_at heap r) (prev_at heap (main_at heap r)) m (H.before (main_at heap r) m) in
      let logical_same = ap (λ x. logical x (prev_at after x)) e ∙ ap (logical (main_at heap r)) (same_prev_at (main_at heap r) m) in
      ap (λ x. flat_map f (entries_of (node_at after x))) logical_same ∙ ap (λ n. flat_map f (entries_of n)) (same_node_at (logical_main heap r) here)
      ∙ flat_map_same f g (entries_of (node_at heap (logical_main heap r)))
      (All-weaker (Meets S heap AnEntry) (λ q. f q ≡ g q) (λ q h. agree q h.0) (entries_of (node_at heap (logical_main heap r)))
      (all_in S heap (node_at heap (logical_main heap r)) (H.inside (logical_main heap r) here)))

  pairs_by : (f g : Ref → List (ℕ × ℕ)) → ((r : Ref) → S r → f r ≡ g r) → (r : Ref) → (node : Node) → node_at heap r ≡ node → node_at after r ≡ node → AllHold S heap (node_wants node) →
      pairs_at f after r node ≡ pairs_at g heap r node
  pairs_by f g agree r (Indirection generation main) e e' h =
      let its : main_at heap r ≡ main = ap main_of e in
      below_same f g agree r (subst S (sym its) (safe_of h.0)) (ap main_of e' ∙ sym its)
  pairs_by f g agree r (Branch bitmap entries) e e' h = refl
  pairs_by f g agree r (Single key value) e e' h = refl
  pairs_by f g agree r (Tomb single) e e' h = refl
  pairs_by f g agree r (Listed singles) e e' h = refl

  pub pairs_same : (levels : ℕ) (r : Ref) → S r → pairs_below levels after r ≡ pairs_below levels heap r
  unfolding pairs_below
  pairs_same zero r s = refl
  pairs_same (suc levels) r s =
      ap (pairs_at (pairs_below levels after) after r) (same_node_at r s)
      ∙ pairs_by (pairs_below levels after) (pairs_below levels heap) (pairs_same levels) r (node_at heap r) refl (same_node_at r s) (H.inside r s)

-- ---- a step of the sweep

root_safe : (S : Ref → Type 0) (heap : Heap) (word : RootWord) → AllHold S heap (word_wants word) → S (root_of word)
root_safe S heap (Plain r) h = safe_of h.0
root_safe S heap (Offer offer) h = safe_of h.0

-- what it leaves
abbrev Leaves : State → State → Type 0
Leaves state after =
    (handle : ℕ) (root : Root) → root_at state handle ≡ Some root → (root_at after handle ≡ Some root) × (content_at after handle ≡ content_at state handle)

module _ (state : State) (I : IsSafe state) (after : State) (o : Outcome) (m : Moves state step.Sweep o after)
    (goes : (r : Ref) → (standing after.heap r ≡ standing state.heap r) ⊎ (standing after.heap r ≡ None)) (roots : after.roots ≡ state.roots) where
  abbrev S : Ref → Type 0
  S = Safe state state.epoch

  same_safe : (r : Ref) → S r → standing after.heap r ≡ standing state.heap r
  same_safe r s =
      let (slot, found) = (step_carries state I step.Sweep o after m state.epoch (omega arith) (omega arith) r s).0.used in
      elim (goes r) [ inl same ↦ same | inr none ↦ absurd (none-some slot (sym none ∙ found)) ]

  content_same : (handle : ℕ) (root : Root) → root_at state handle ≡ Some root → content_at after handle ≡ content_at state handle
  content_same handle root e =
      let word = ap (λ rs. word_of (get_or rs handle None)) roots in
      let here = root_safe S state.heap (word_at state handle) (open_word state I state.epoch handle (ap is_some e)) in
      ap (λ w. by_key (pairs_below most_levels after.heap (root_of w))) word
      ∙ ap by_key (pairs_same S state.heap after.heap (λ r s. s.used) same_safe (heaped state I state.epoch) most_levels (root_of (word_at state handle)) here)

sweep_move : (state : State) → IsSafe state → (o : Outcome) (after : State) → Moves state step.Sweep o after → Leaves state after
sweep_move state I o after (Sweeps spent) =
    let goes = sweep_goes state I (map pin_of state.actors) (ripe state.epoch state.limbo)
    (λ q due. stands_in_use state.heap q (ripe_in_use (InUse state.heap) state.epoch state.limbo (I.sound.limbo) q due)) in
    λ handle root e. (e, content_same state I after o (Sweeps spent) goes refl handle root e)

by_answer : (state : State) → IsSafe state → (answer : Answer) → MovesIfTaken state step.Sweep answer → Leaves state (state_after state answer)
by_answer state I (Ok done) m = sweep_move state I done.0 done.1 m
by_answer state I (Err why) m = λ handle root e. (e, refl)

pub sweep_leaves : (state : State) → IsSafe state → Leaves state (next_state state step.Sweep)
sweep_leaves state I = by_answer state I (next state step.Sweep) (moves state step.Sweep)
