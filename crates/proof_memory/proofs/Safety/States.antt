-- Memory is safe: what is taken for a node of a kind is one, after every step. One invariant for nodes, root words, lines and private lists.
use Rattle.std.proofs.Common.{◌≡◌, ℕ, ◌+◌, ◌≤◌, true, nat_le, is_some, List, [], ◌∷◌, ◌++◌, All, Contains, get_or, Option, Some, None, refl, sym, ap, ◌∙◌, subst}
use Rattle.std.proofs.Common.{◌⊎◌, inl, inr, leb-true, arith}
use Rattle.std.proofs.lemmas.Bool.{cases_eq, false≢true}
use Rattle.std.proofs.lemmas.Option.{none-some, same_Some, cond_some}
use Rattle.std.proofs.lemmas.List.Elements.{All-head, Contains-append_left, Contains-append_right, Contains-get_or}
use Rattle.proof_memory.specs.Vocabulary.{slot_of, birth_of, Ref, Node, Indirection, Branch, Single, Tomb, List as Listed, Prev, Slot, Zeroed, Heap, stored, node_at, with_main_word, main_changed}
use Rattle.proof_memory.specs.Vocabulary.{prev_changed, heap_refs, refs_of_node, refs_of_prev, refs_of_slot, refs_of_option, limbo_after, ripe, Operation, Root, RootWord, Plain, Offer, State}
use Rattle.proof_memory.specs.Vocabulary.{root_at, word_of, word_at, outside, refs_of_word, standing}
use Rattle.proof_memory.specs.Beneath.slot_arena.specs.declared.nodes.Prev.TheVariants as prev
use Rattle.machine_model.proofs.InUse.{InUse}
use Rattle.machine_model.proofs.Slots.{IsSound}
use Rattle.proof_memory.specs.Wants.{AMain, is_formed, Claim, Is, So, Holds, AllHold, node_wants, prev_wants, word_wants, line_wants}
use Rattle.proof_memory.specs.Laws.{SameNode, IsInUse}
use Rattle.proof_memory.proofs.Claims.Uses.{fact_of, safer, both_hold, first_hold, last_hold, Carries}
use Rattle.proof_memory.proofs.Claims.Nodes.{Heaped}
use Rattle.proof_memory.proofs.Claims.Named.{third_claim, past_third}
use Rattle.proof_memory.proofs.Heap.Under.{standing_from}
use Rattle.proof_memory.proofs.Safety.Guards.{Guarded, Safe, AllZero, guarded_after, guarded_if_counted, counted_in_slot, counted_in_root, counted_in_private}
use Rattle.proof_memory.proofs.Heap.Effects.{Effect, Keeps, Makes, Publishes, Restores, Decides, Frees, stays}
use Rattle.proof_memory.proofs.Safety.Base.{IsRecent, HasHandle, Fits}
use Rattle.proof_memory.proofs.Safety.Started.{KnowsRoot}
use Rattle.machine_model.proofs.Grown.{node_standing, prev_standing}
use Rattle.proof_memory.specs.Beneath.slot_arena.proofs.Live.{slot_of_ref, birth_of_ref}

pub record IsSafe (state : State) : Type 0 where
  pub sound : IsSound state.limits.slots state
  -- no slot in use has a birth that is still to be drawn
  pub births : (r : Ref) (slot : Slot) → standing state.heap r ≡ Some slot → birth_of r ≤ state.heap.births
  pub zeros : AllZero state
  pub recent : (k : ℕ) (operation : Operation) → get_or state.actors k None ≡ Some operation → IsRecent state k operation
  pub handles : (k : ℕ) (operation : Operation) → get_or state.actors k None ≡ Some operation → HasHandle state operation
  pub fits : (k : ℕ) (operation : Operation) → get_or state.actors k None ≡ Some operation → Fits operation
  pub known : (k : ℕ) (operation : Operation) → get_or state.actors k None ≡ Some operation → KnowsRoot operation
  pub nodes : (r : Ref) (slot : Slot) → standing state.heap r ≡ Some slot →
      AllHold (IsInUse state.heap) state.heap (node_wants slot.node ++ prev_wants slot.prev) × (is_formed slot.node ≡ true)
  pub words : (handle : ℕ) (root : Root) → root_at state handle ≡ Some root → AllHold (IsInUse state.heap) state.heap (word_wants root.word)
  pub lines : (k : ℕ) (operation : Operation) → get_or state.actors k None ≡ Some operation →
      AllHold (Safe state operation.epoch) state.heap (line_wants state.limits.hash operation.call operation.access operation.line)
  pub privates : (k : ℕ) (operation : Operation) → get_or state.actors k None ≡ Some operation → All (IsInUse state.heap) operation.private

-- ---- by another measure of safety

module _ (S T : Ref → Type 0) (heap : Heap) where
  node_safer : (node : Node) → ((r : Ref) → Contains (refs_of_node node) r → S r → T r) → AllHold S heap (node_wants node) → AllHold T heap (node_wants node)
  node_safer (Indirection generation main) f h = (safer S T heap (Is main AMain) tt f h.0, tt)
  node_safer (Branch bitmap entries) f h = (safer S T heap _ tt f h.0, tt)
  node_safer (Single key value) f h = tt
  node_safer (Tomb single) f h = (safer S T heap _ tt f h.0, tt)
  node_safer (Listed singles) f h = (safer S T heap _ tt f h.0, tt)

  prev_safer : (p : Prev) → ((r : Ref) → Contains (refs_of_prev p) r → S r → T r) → AllHold S heap (prev_wants p) → AllHold T heap (prev_wants p)
  prev_safer prev.None f h = tt
  prev_safer (prev.Pending p) f h = (safer S T heap _ tt f h.0, tt)
  prev_safer (prev.Failed p) f h = (safer S T heap _ tt f h.0, tt)

  word_safer : (word : RootWord) → ((r : Ref) → Contains (refs_of_word word) r → S r → T r) → AllHold S heap (word_wants word) → AllHold T heap (word_wants word)
  word_safer (Plain r) f h = (safer S T heap _ tt f h.0, tt)
  word_safer (Offer offer) f h =
      let seconds = refs_of_option offer.second in (
        safer S T heap _ tt (λ r c. f r (Contains-append_left (offer.root ∷ []) (offer.expected ∷ offer.successor ∷ seconds) r c)) h.0,
        (
          safer S T heap _ tt
              (λ r c. f r (Contains-append_right (offer.root ∷ []) (offer.expected ∷ offer.successor ∷ seconds) r (Contains-append_left (offer.expected ∷ []) (offer.successor ∷ seconds) r c))) h.1.0,
          (
            safer S T heap _ tt (λ r c. f r (Contains-append_right (offer.root ∷ offer.expected ∷ []) (offer.successor ∷ seconds) r (Contains-append_left (offer.successor ∷ []) seconds r c)))
                (third_claim h),
            (safer S T heap _ tt (λ r c. f r (Contains-append_right (offer.root ∷ offer.expected ∷ offer.successor ∷ []) seconds r c)) (past_third h).0, tt),
          ),
        ),
      )

-- ---- what is found in a safe state is safe, whatever the epoch

module _ (state : State) (I : IsSafe state) (epoch : ℕ) where
  safe_counted : (r : Ref) → Contains (heap_refs state.heap ++ outside state) r → IsInUse state.heap r → Safe state epoch r
  safe_counted r c u = record { used = u; guarded = guarded_if_counted state (I.zeros) epoch r c }

  in_slot : (q r : Ref) (slot : Slot) → standing state.heap q ≡ Some slot → Contains (refs_of_slot (Some slot)) r → IsInUse state.heap r → Safe state epoch r
  in_slot q r slot e c u = safe_counted r (counted_in_slot state q r slot e c) u

  pub node_in : (q : Ref) (slot : Slot) → standing state.heap q ≡ Some slot → AllHold (Safe state epoch) state.heap (node_wants slot.node)
  node_in q slot e =
      node_safer (IsInUse state.heap) (Safe state epoch) state.heap slot.node (λ r c u. in_slot q r slot e (Contains-append_left (refs_of_node slot.node) (refs_of_prev slot.prev) r c) u)
      (first_hold (IsInUse state.heap) state.heap (node_wants slot.node) (prev_wants slot.prev) ((I.nodes q slot e).0))

  pub prev_in : (q : Ref) (slot : Slot) → standing state.heap q ≡ Some slot → AllHold (Safe state epoch) state.heap (prev_wants slot.prev)
  prev_in q slot e =
      prev_safer (IsInUse state.heap) (Safe state epoch) state.heap slot.prev (λ r c u. in_slot q r slot e (Contains-append_right (refs_of_node slot.node) (refs_of_prev slot.prev) r c) u)
      (last_hold (IsInUse state.heap) state.heap (node_wants slot.node) (prev_wants slot.prev) ((I.nodes q slot e).0))

  pub heaped : Heaped (Safe state epoch) state.heap
  heaped = record {
    inside = λ r s. subst (λ node. AllHold (Safe state epoch) state.heap (node_wants node)) (sym (node_standing state.heap r s.used.0 s.used.1)) (node_in r s.used.0 s.used.1);
    formed = λ r s. ap is_formed (node_standing state.heap r s.used.0 s.used.1) ∙ (I.nodes r s.used.0 s.used.1).1;
    before = λ r s. subst (λ p. AllHold (Safe state epoch) state.heap (prev_wants p)) (sym (prev_standing state.heap r s.used.0 s.used.1)) (prev_in r s.used.0 s.used.1);
  }

  pub word_in : (handle : ℕ) (root : Root) → root_at state handle ≡ Some root → AllHold (Safe state epoch) state.heap (word_wants root.word)
  word_in handle root e =
      word_safer (IsInUse state.heap) (Safe state epoch) state.heap root.word (λ r c u. safe_counted r (counted_in_root state handle r root e c) u) (I.words handle root e)

  word_by : (handle : ℕ) (o : Option Root) → root_at state handle ≡ o → is_some o ≡ true → AllHold (Safe state epoch) state.heap (word_wants (word_of o))
  word_by handle None e h = absurd (false≢true h)
  word_by handle (Some root) e h = word_in handle root e

  -- the root word of an open handle
  pub open_word : (handle : ℕ) → is_some (root_at state handle) ≡ true → AllHold (Safe state epoch) state.heap (word_wants (word_at state handle))
  open_word handle h = word_by handle (root_at state handle) refl h

  pub in_private : (k : ℕ) (operation : Operation) → get_or state.actors k None ≡ Some operation → All (Safe state epoch) operation.private
  in_private k operation e i d within =
      safe_counted (get_or operation.private i d)
      (counted_in_private state k (get_or operation.private i d) operation e (Contains-get_or operation.private i d within)) (I.privates k operation e i d within)

-- ---- what a step carries over

-- what is ripe became zero two epochs ago
ripe_old : (limbo : List Zeroed) (now epoch : ℕ) (r : Ref) → ripe now limbo ≡ Some r → Guarded limbo epoch r → now ≤ epoch + 1 → ⊥
ripe_old [] now epoch r e g h = none-some r e
ripe_old (z ∷ limbo) now epoch r e g h =
    let (old, at) = cond_some (nat_le (z.epoch + 2) now) z.at r e in
    let le : z.epoch + 2 ≤ now = leb-true (z.epoch + 2) now old in
    let ge : epoch ≤ z.epoch = All-head (λ z. z.at ≡ r → epoch ≤ z.epoch) z limbo g at in
    omega arith

-- a reference into a list of slots stands
pub stands_in_use : (heap : Heap) (r : Ref) → InUse heap r → IsInUse heap r
unfolding stored
stands_in_use heap r (k, slot, at_k, e) =
    let its_slot : slot_of r ≡ k = ap slot_of e ∙ slot_of_ref slot.birth (0 + k) ∙ zero_add k in
    let its_birth : birth_of r ≡ slot.birth = ap birth_of e ∙ birth_of_ref slot.birth (0 + k) in
    (slot, standing_from heap r slot (ap (λ i. get_or heap.slots i None) its_slot ∙ at_k) (sym its_birth))
  where
    zero_add : (k : ℕ) → 0 + k ≡ k
    zero_add k = omega arith

module _ (state after : State) (epoch : ℕ) (low : epoch ≤ state.epoch) (high : state.epoch ≤ epoch + 1) (grows : state.epoch ≤ after.epoch)
    (limbo : after.limbo ≡ limbo_after after.heap (outside after) after.epoch state.limbo)
    (due : Option Ref) (is_ripe : (r : Ref) → due ≡ Some r → ripe state.epoch state.limbo ≡ Some r)
    (C : List Claim → Type 0) (effect : Effect C (standing state.heap) (standing after.heap) state.heap.births after.heap.births due) where
  guard_kept : (r : Ref) → Guarded state.limbo epoch r → Guarded after.limbo epoch r
  guard_kept r g = subst (λ l. Guarded l epoch r) (sym limbo) (guarded_after after.heap (outside after) after.epoch epoch state.limbo r (omega arith) g)

  -- what is safe stays so, with its node
  pub carries : Carries (Safe state epoch) state.heap (Safe after epoch) after.heap
  carries r s =
      let (was, found) = s.used in
      let (now, found_now, same) = stays C (standing state.heap) (standing after.heap) state.heap.births after.heap.births due effect r was found
      (λ is_due. ripe_old state.limbo state.epoch epoch r (is_ripe r is_due) (s.guarded) high) in (
        record { used = (now, found_now); guarded = guard_kept r (s.guarded) },
        subst (λ n. SameNode n (node_at after.heap r)) (sym (node_standing state.heap r was found))
            (subst (λ n. SameNode was.node n) (sym (node_standing after.heap r now found_now)) same.0),
      )

  -- what is made is safe
  pub made_safe : (sound : IsSound state.limits.slots state) (made : Ref) (slot : Slot) → standing state.heap made ≡ None →
      standing after.heap made ≡ Some slot → Safe after epoch made
  made_safe sound made slot none found =
      record { used = (slot, found); guarded = guard_kept made (λ k d within same. absurd (none_stands (get_or state.limbo k d).at same (sound.limbo k d within))) }
    where
      none_stands : (r : Ref) → r ≡ made → InUse state.heap r → ⊥
      none_stands r same u =
          let (was, stood) = stands_in_use state.heap r u in
          none-some was (sym none ∙ ap (standing state.heap) (sym same) ∙ stood)

-- safe is in use
pub used_of : (state : State) (epoch : ℕ) (r : Ref) → Safe state epoch r → IsInUse state.heap r
used_of state epoch r s = s.used

-- ---- nodes after a step

main_formed : (m : Ref) (node : Node) → is_formed (with_main_word m node) ≡ is_formed node
main_formed m (Indirection generation main) = refl
main_formed m (Branch bitmap entries) = refl
main_formed m (Single key value) = refl
main_formed m (Tomb single) = refl
main_formed m (Listed singles) = refl

-- a slot's claims
abbrev pub SlotHolds : (Ref → Type 0) → Heap → Slot → Type 0
SlotHolds S heap slot = AllHold S heap (node_wants slot.node ++ prev_wants slot.prev) × (is_formed slot.node ≡ true)

module _ (S : Ref → Type 0) (heap : Heap) where
  main_written : (m : Ref) (node : Node) → AllHold S heap (node_wants node) → Holds S heap (Is m AMain) → AllHold S heap (node_wants (with_main_word m node))
  main_written m (Indirection generation main) h w = (w, tt)
  main_written m (Branch bitmap entries) h w = h
  main_written m (Single key value) h w = h
  main_written m (Tomb single) h w = h
  main_written m (Listed singles) h w = h

  main_slot : (m : Ref) (slot : Slot) → SlotHolds S heap slot → Holds S heap (Is m AMain) → SlotHolds S heap (main_changed m slot)
  main_slot m slot h w = (
    both_hold S heap (node_wants (with_main_word m slot.node)) (prev_wants slot.prev) (main_written m slot.node (first_hold S heap (node_wants slot.node) (prev_wants slot.prev) h.0) w)
        (last_hold S heap (node_wants slot.node) (prev_wants slot.prev) h.0),
    main_formed m slot.node ∙ h.1,
  )

  prev_slot : (p : Prev) (slot : Slot) → SlotHolds S heap slot → AllHold S heap (prev_wants p) → SlotHolds S heap (prev_changed p slot)
  prev_slot p slot h w = (both_hold S heap (node_wants slot.node) (prev_wants p) (first_hold S heap (node_wants slot.node) (prev_wants slot.prev) h.0) w, h.1)

  fresh_slot_holds : (slot : Slot) → AllHold S heap (So (is_formed slot.node) ∷ node_wants slot.node) → slot.prev ≡ prev.None → SlotHolds S heap slot
  fresh_slot_holds slot h e = (both_hold S heap (node_wants slot.node) (prev_wants slot.prev) h.1 (subst (λ p. AllHold S heap (prev_wants p)) (sym e) tt), fact_of h.0)

  pub slots_after : (f g : Ref → Option Slot) (b c : ℕ) (due : Option Ref) → Effect (AllHold S heap) f g b c due → ((r : Ref) (slot : Slot) → f r ≡ Some slot → SlotHolds S heap slot) →
      (r : Ref) (slot : Slot) → g r ≡ Some slot → SlotHolds S heap slot
  slots_after f g b c due (Keeps e k) old r slot h = old r slot (sym (k r) ∙ h)
  slots_after f g b c due (Makes made new e e' w p none at_made others) old r slot h =
      elim (cases_eq r made) [
        | inl s ↦ subst (SlotHolds S heap) (same_Some _ _ (sym at_made ∙ ap g (sym s) ∙ h)) (fresh_slot_holds new w p)
        | inr other ↦ old r slot (sym (others r other) ∙ h)
      ]
  slots_after f g b c due (Publishes i replaced fresh at_i at_fresh e w differ f_i m f_fresh g_i g_fresh others) old r slot h =
      elim (cases_eq r i) [
        | inl s ↦ subst (SlotHolds S heap) (same_Some _ _ (sym g_i ∙ ap g (sym s) ∙ h)) (main_slot fresh at_i (old i at_i f_i) (third_claim w))
        | inr other ↦ elim (cases_eq r fresh) [
          | inl s ↦ subst (SlotHolds S heap) (same_Some _ _ (sym g_fresh ∙ ap g (sym s) ∙ h)) (prev_slot (prev.Pending replaced) at_fresh (old fresh at_fresh f_fresh) (w.1.0, tt))
          | inr another ↦ old r slot (sym (others r other another) ∙ h)
        ]
      ]
  slots_after f g b c due (Restores i main previous at_i e w f_i m g_i others) old r slot h =
      elim (cases_eq r i) [
        | inl s ↦ subst (SlotHolds S heap) (same_Some _ _ (sym g_i ∙ ap g (sym s) ∙ h)) (main_slot previous at_i (old i at_i f_i) (third_claim w))
        | inr other ↦ old r slot (sym (others r other) ∙ h)
      ]
  slots_after f g b c due (Decides main p at_main e w f_main g_main others) old r slot h =
      elim (cases_eq r main) [
        | inl s ↦ subst (SlotHolds S heap) (same_Some _ _ (sym g_main ∙ ap g (sym s) ∙ h)) (prev_slot p at_main (old main at_main f_main) w.1)
        | inr other ↦ old r slot (sym (others r other) ∙ h)
      ]
  slots_after f g b c due (Frees q e is_due none others) old r slot h =
      elim (cases_eq r q) [
        | inl s ↦ absurd (none-some slot (sym none ∙ ap g (sym s) ∙ h))
        | inr other ↦ old r slot (sym (others r other) ∙ h)
      ]

-- ---- births after a step

pub births_grow : (C : List Claim → Type 0) (f g : Ref → Option Slot) (b c : ℕ) (due : Option Ref) → Effect C f g b c due → b ≤ c
births_grow C f g b c due (Keeps e k) = omega arith
births_grow C f g b c due (Makes made new e e' w p none at_made others) = omega arith
births_grow C f g b c due (Publishes i replaced fresh at_i at_fresh e w differ f_i m f_fresh g_i g_fresh others) = omega arith
births_grow C f g b c due (Restores i main previous at_i e w f_i m g_i others) = omega arith
births_grow C f g b c due (Decides main p at_main e w f_main g_main others) = omega arith
births_grow C f g b c due (Frees q e is_due none others) = omega arith

-- what stands stood before, or was made
pub stood_or_made : (C : List Claim → Type 0) (f g : Ref → Option Slot) (b c : ℕ) (due : Option Ref) → Effect C f g b c due → (r : Ref) (slot : Slot) → g r ≡ Some slot →
    ((was : Slot) × (f r ≡ Some was)) ⊎ ((birth_of r ≡ b + 1) × (c ≡ b + 1) × (f r ≡ None))
stood_or_made C f g b c due (Keeps e k) r slot h = inl (slot, sym (k r) ∙ h)
stood_or_made C f g b c due (Makes made new e e' w p none at_made others) r slot h =
    elim (cases_eq r made) [ inl s ↦ inr (ap birth_of s ∙ e, e', ap f s ∙ none) | inr other ↦ inl (slot, sym (others r other) ∙ h) ]
stood_or_made C f g b c due (Publishes i replaced fresh at_i at_fresh e w differ f_i m f_fresh g_i g_fresh others) r slot h =
    elim (cases_eq r i) [
      | inl s ↦ inl (at_i, ap f s ∙ f_i)
      | inr other ↦ elim (cases_eq r fresh) [ inl s ↦ inl (at_fresh, ap f s ∙ f_fresh) | inr another ↦ inl (slot, sym (others r other another) ∙ h) ]
    ]
stood_or_made C f g b c due (Restores i main previous at_i e w f_i m g_i others) r slot h =
    elim (cases_eq r i) [ inl s ↦ inl (at_i, ap f s ∙ f_i) | inr other ↦ inl (slot, sym (others r other) ∙ h) ]
stood_or_made C f g b c due (Decides main p at_main e w f_main g_main others) r slot h =
    elim (cases_eq r main) [ inl s ↦ inl (at_main, ap f s ∙ f_main) | inr other ↦ inl (slot, sym (others r other) ∙ h) ]
stood_or_made C f g b c due (Frees q e is_due none others) r slot h =
    elim (cases_eq r q) [ inl s ↦ absurd (none-some slot (sym none ∙ ap g (sym s) ∙ h)) | inr other ↦ inl (slot, sym (others r other) ∙ h) ]

pub births_after : (C : List Claim → Type 0) (f g : Ref → Option Slot) (b c : ℕ) (due : Option Ref) → Effect C f g b c due → ((r : Ref) (slot : Slot) → f r ≡ Some slot → birth_of r ≤ b) →
    (r : Ref) (slot : Slot) → g r ≡ Some slot → birth_of r ≤ c
births_after C f g b c due effect old r slot h =
    elim (stood_or_made C f g b c due effect r slot h) [
      | inl stood ↦ bounded (births_grow C f g b c due effect) (old r stood.0 stood.1)
      | inr made ↦ made_bounded made.0 made.1
    ]
  where
    bounded : b ≤ c → birth_of r ≤ b → birth_of r ≤ c
    bounded x y = omega arith

    made_bounded : birth_of r ≡ b + 1 → c ≡ b + 1 → birth_of r ≤ c
    made_bounded x y = omega arith
