-- What a step does to what stands under references, and that all but what is freed stays, with its node but for the main word.
use Rattle.std.proofs.Common.{◌≡◌, ℕ, ◌+◌, ◌==◌, Bool, true, false, List, [], ◌∷◌, Option, Some, None, refl, sym, ap, ◌∙◌, subst, inl, inr, eqb-true}
use Rattle.std.proofs.lemmas.Bool.{cases_eq, false≢true}
use Rattle.std.proofs.lemmas.Option.{none-some, same_Some}
use Rattle.proof_memory.specs.Vocabulary.{birth_of, Ref, Node, Indirection, Branch, Single, Tomb, List as Listed, Prev, Slot, Heap, node_at, main_at, main_of, with_main, with_prev, with_main_word}
use Rattle.proof_memory.specs.Vocabulary.{main_changed, prev_changed, taken, freed, next_ref, Action, State, Verdict, Commits, Fails, Overtaken, acted, decided, new_root_taken, if_changed, standing}
use Rattle.proof_memory.specs.Beneath.slot_arena.specs.declared.nodes.Prev.TheVariants as prev
use Rattle.machine_model.specs.declared.actions.Action.TheVariants as act
use Rattle.machine_model.proofs.Slots.{AddsUp}
use Rattle.machine_model.proofs.HeapMoves.{aborted_heap, offered_heap, completed_heap}
use Rattle.proof_memory.specs.Wants.{AnIndirection, AMain, meets, is_formed, Claim, Is, So, Holds, so, AllHold, node_wants, prev_wants, action_wants}
use Rattle.proof_memory.specs.Laws.{SameNode, IsInUse}
use Rattle.proof_memory.proofs.Claims.Uses.{same_node, safe_of, meets_of}
use Rattle.proof_memory.proofs.Claims.Named.{third_claim}
use Rattle.proof_memory.proofs.Heap.Under.{main_here, main_other, prev_here, prev_other, freed_here, freed_other, fresh_slot, taken_all, none_taken, births_taken, main_births}
use Rattle.machine_model.proofs.Grown.{node_standing}

-- the effects of a step: under which references what stands changes. What is written is claimed by C; b and c are how many births were drawn before and
-- after; due is what may be freed.
pub data Effect (C : List Claim → Type 0) (f g : Ref → Option Slot) (b c : ℕ) (due : Option Ref) : Type 0 where
  Keeps : c ≡ b → ((r : Ref) → g r ≡ f r) → Effect C f g b c due
  Makes : (made : Ref) (slot : Slot) → birth_of made ≡ b + 1 → c ≡ b + 1 → C (So (is_formed slot.node) ∷ node_wants slot.node) → slot.prev ≡ prev.None → f made ≡ None → g made ≡ Some slot →
      ((r : Ref) → (r ≡ made → ⊥) → g r ≡ f r) → Effect C f g b c due
  Publishes : (i replaced fresh : Ref) (was new : Slot) → c ≡ b → C (Is i AnIndirection ∷ Is replaced AMain ∷ Is fresh AMain ∷ []) → (i ≡ fresh → ⊥) → f i ≡ Some was → main_of was.node ≡ replaced →
      f fresh ≡ Some new → g i ≡ Some (main_changed fresh was) → g fresh ≡ Some (prev_changed (prev.Pending replaced) new) →
      ((r : Ref) → (r ≡ i → ⊥) → (r ≡ fresh → ⊥) → g r ≡ f r) → Effect C f g b c due
  Restores : (i main previous : Ref) (was : Slot) → c ≡ b → C (Is i AnIndirection ∷ Is main AMain ∷ Is previous AMain ∷ []) → f i ≡ Some was → main_of was.node ≡ main →
      g i ≡ Some (main_changed previous was) → ((r : Ref) → (r ≡ i → ⊥) → g r ≡ f r) → Effect C f g b c due
  Decides : (main : Ref) (p : Prev) (was : Slot) → c ≡ b → C (Is main AMain ∷ prev_wants p) → f main ≡ Some was →
      g main ≡ Some (prev_changed p was) → ((r : Ref) → (r ≡ main → ⊥) → g r ≡ f r) → Effect C f g b c due
  Frees : (q : Ref) → c ≡ b → due ≡ Some q → g q ≡ None → ((r : Ref) → (r ≡ q → ⊥) → g r ≡ f r) → Effect C f g b c due

-- ---- the effect of an action

pub births_prev : (after : Heap) (r : Ref) (p : Prev) → (with_prev after r p).births ≡ after.births
unfolding with_prev
births_prev after r p = refl

module _ (S : Ref → Type 0) (heap : Heap) (due : Option Ref) (used : (r : Ref) → S r → IsInUse heap r) where
  abbrev pub Does : Heap → Type 0
  Does after = Effect (AllHold S heap) (standing heap) (standing after) heap.births after.births due

  -- nothing changes
  pub same : Does heap
  same = Keeps refl (λ r. refl)

  pub same_as : (after : Heap) → after ≡ heap → Does after
  same_as after e = subst Does (sym e) same

  -- an indirection is no main node
  pub apart : {i fresh : Ref} → Holds S heap (Is i AnIndirection) → Holds S heap (Is fresh AMain) → i ≡ fresh → ⊥
  apart {i} {fresh} h m e = by_node (node_at heap fresh) (subst (λ r. meets AnIndirection (node_at heap r) ≡ true) e (meets_of h)) (meets_of m)
    where
      by_node : (node : Node) → meets AnIndirection node ≡ true → meets AMain node ≡ true → ⊥
      by_node (Indirection generation main) a b = false≢true b
      by_node node a b = false≢true a

  -- where the main word is read
  pub main_is : (r : Ref) (slot : Slot) → standing heap r ≡ Some slot → main_of slot.node ≡ main_at heap r
  main_is r slot e = ap main_of (sym (node_standing heap r slot e))

  births_freed : (r : Ref) → (freed heap r).births ≡ heap.births
  unfolding freed
  births_freed r = refl

  restores : (i main previous : Ref) → main_at heap i ≡ main → AllHold S heap (action_wants (act.Restore i main previous)) → Does (with_main heap i previous)
  restores i main previous e h =
      let (was, found) = used i (safe_of h.0) in
      Restores i main previous was (main_births heap i previous) h found (main_is i was found ∙ e) (main_here heap i previous was found) (main_other heap i previous was found)

  decides : (main : Ref) (p : Prev) → AllHold S heap (Is main AMain ∷ prev_wants p) → Does (with_prev heap main p)
  decides main p h =
      let (was, found) = used main (safe_of h.0) in
      Decides main p was (births_prev heap main p) h found (prev_here heap main p was found) (prev_other heap main p was found)

  publishes : (i replaced fresh : Ref) → main_at heap i ≡ replaced → AllHold S heap (action_wants (act.Publish i replaced fresh)) →
      Does (with_prev (with_main heap i fresh) fresh (prev.Pending replaced))
  publishes i replaced fresh e h =
      let (was, found) = used i (safe_of h.0) in
      let (new, found_fresh) = used fresh (safe_of (third_claim h)) in
      let other : fresh ≡ i → ⊥ = λ same. apart h.0 (third_claim h) (sym same) in
      let between = with_main heap i fresh in
      let fresh_between = main_other heap i fresh was found fresh other ∙ found_fresh in
      Publishes i replaced fresh was new (births_prev between fresh (prev.Pending replaced) ∙ main_births heap i fresh) h (apart h.0 (third_claim h)) found (main_is i was found ∙ e) found_fresh
      (prev_other between fresh (prev.Pending replaced) new fresh_between i (apart h.0 (third_claim h)) ∙ main_here heap i fresh was found)
      (prev_here between fresh (prev.Pending replaced) new fresh_between)
      (λ r a b. prev_other between fresh (prev.Pending replaced) new fresh_between r b ∙ main_other heap i fresh was found r a)

  pub frees : (q : Ref) → due ≡ Some q → IsInUse heap q → Does (freed heap q)
  frees q e (was, found) = Frees q (births_freed q) e (freed_here heap q was found) (freed_other heap q was found)

  -- ---- by what is tested

  module _ (slots : ℕ) (sound : AddsUp slots heap) where
    takes_by : (node : Node) → AllHold S heap (action_wants (act.Make node)) → (o : Option Ref) → next_ref heap ≡ o → Does (taken heap node)
    takes_by node h None e = same_as (taken heap node) (none_taken heap node e)
    takes_by node h (Some made) e =
        let (here, before, others, birth) = taken_all slots heap sound node made e in
        Makes made (fresh_slot heap node) birth (births_taken heap node made e) h refl before here others

    pub takes : (node : Node) → AllHold S heap (action_wants (act.Make node)) → Does (taken heap node)
    takes node h = takes_by node h (next_ref heap) refl

    published_by : (i replaced fresh : Ref) (b : Bool) → (main_at heap i == replaced) ≡ b → AllHold S heap (action_wants (act.Publish i replaced fresh)) →
        Does (if_changed b (with_prev (with_main heap i fresh) fresh (prev.Pending replaced)) heap)
    published_by i replaced fresh true e h = publishes i replaced fresh (eqb-true _ _ e) h
    published_by i replaced fresh false e h = same

    restored_by : (i main previous : Ref) (b : Bool) → (main_at heap i == main) ≡ b → AllHold S heap (action_wants (act.Restore i main previous)) →
        Does (if_changed b (with_main heap i previous) heap)
    restored_by i main previous true e h = restores i main previous (eqb-true _ _ e) h
    restored_by i main previous false e h = same

    decided_by : (i main previous : Ref) (told : Option ℕ) (v : Verdict) → AllHold S heap (action_wants (act.Decide i main previous told)) → Does (decided heap main previous v)
    decided_by i main previous told Commits h = decides main prev.None (h.1.0, tt)
    decided_by i main previous told Fails h = decides main (prev.Failed previous) (h.1.0, (third_claim h, tt))
    decided_by i main previous told (Overtaken licensed) h = same

-- the effect of an action of a state
module _ (S : Ref → Type 0) (state : State) (due : Option Ref) (used : (r : Ref) → S r → IsInUse state.heap r)
    (slots : ℕ) (sound : AddsUp slots state.heap) where
  root_taken_by : (main : Ref) (o : Option Ref) → AllHold S state.heap (action_wants (act.MakeRoot main)) → Does S state.heap due used (new_root_taken state main o).heap
  root_taken_by main None h = same S state.heap due used
  root_taken_by main (Some made) h = takes S state.heap due used slots sound (Indirection state.generations main) (so refl, h)

  pub acted_effect : (handle : ℕ) (action : Action) → AllHold S state.heap (action_wants action) → Does S state.heap due used (acted state handle action).heap
  acted_effect handle (act.Abort offer) h = same_as S state.heap due used _ (aborted_heap state handle offer)
  acted_effect handle (act.Offer offer) h = same_as S state.heap due used _ (offered_heap state handle offer)
  acted_effect handle (act.Complete offer main) h = same_as S state.heap due used _ (completed_heap state handle offer main)
  acted_effect handle (act.Publish i replaced fresh) h = published_by S state.heap due used slots sound i replaced fresh _ refl h
  acted_effect handle (act.Restore i main previous) h = restored_by S state.heap due used slots sound i main previous _ refl h
  acted_effect handle (act.Decide i main previous told) h = decided_by S state.heap due used slots sound i main previous told _ h
  acted_effect handle (act.Make node) h = takes S state.heap due used slots sound node h
  acted_effect handle (act.MakeRoot main) h = root_taken_by main (next_ref state.heap) h
  acted_effect handle action h = same S state.heap due used

-- ---- what stays

-- the slot has the same node but for the main word
abbrev pub SameSlot : Slot → Slot → Type 0
SameSlot before after = SameNode before.node after.node × (after.birth ≡ before.birth)

pub same_slot : (slot : Slot) → SameSlot slot slot
same_slot slot = (same_node slot.node, refl)

-- twice another main word is another main word
nodes_joined : (a b : Ref) (node : Node) → with_main_word b (with_main_word a node) ≡ with_main_word b node
nodes_joined a b (Indirection generation main) = refl
nodes_joined a b (Branch bitmap entries) = refl
nodes_joined a b (Single key value) = refl
nodes_joined a b (Tomb single) = refl
nodes_joined a b (Listed singles) = refl

pub slots_joined : (first second third : Slot) → SameSlot first second → SameSlot second third → SameSlot first third
slots_joined first second third ((a, e), b) ((c, f), d) = ((c, f ∙ ap (with_main_word c) e ∙ nodes_joined a c first.node), d ∙ b)

-- what stood and isn't freed stands, with its node
pub stays : (C : List Claim → Type 0) (f g : Ref → Option Slot) (b c : ℕ) (due : Option Ref) → Effect C f g b c due → (r : Ref) (was : Slot) → f r ≡ Some was → (due ≡ Some r → ⊥) →
    (now : Slot) × (g r ≡ Some now) × SameSlot was now
stays C f g b c due (Keeps e k) r was h d = (was, k r ∙ h, same_slot was)
stays C f g b c due (Makes made slot e e' w p none at_made others) r was h d =
    elim (cases_eq r made) [
      | inl s ↦ absurd (none-some was (sym none ∙ ap f (sym s) ∙ h))
      | inr other ↦ (was, others r other ∙ h, same_slot was)
    ]
stays C f g b c due (Publishes i replaced fresh at_i at_fresh e w differ f_i m f_fresh g_i g_fresh others) r was h d =
    elim (cases_eq r i) [
      | inl s ↦ (main_changed fresh was, subst (λ x. g r ≡ Some (main_changed fresh x)) (same_Some _ _ (sym f_i ∙ ap f (sym s) ∙ h)) (ap g s ∙ g_i), ((fresh, refl), refl))
      | inr other ↦ elim (cases_eq r fresh) [
        | inl s ↦ (
          prev_changed (prev.Pending replaced) was,
          subst (λ x. g r ≡ Some (prev_changed (prev.Pending replaced) x)) (same_Some _ _ (sym f_fresh ∙ ap f (sym s) ∙ h)) (ap g s ∙ g_fresh),
          (same_node was.node, refl),
        )
        | inr another ↦ (was, others r other another ∙ h, same_slot was)
      ]
    ]
stays C f g b c due (Restores i main previous at_i e w f_i m g_i others) r was h d =
    elim (cases_eq r i) [
      | inl s ↦ (main_changed previous was, subst (λ x. g r ≡ Some (main_changed previous x)) (same_Some _ _ (sym f_i ∙ ap f (sym s) ∙ h)) (ap g s ∙ g_i), ((previous, refl), refl))
      | inr other ↦ (was, others r other ∙ h, same_slot was)
    ]
stays C f g b c due (Decides main p at_main e w f_main g_main others) r was h d =
    elim (cases_eq r main) [
      | inl s ↦ (prev_changed p was, subst (λ x. g r ≡ Some (prev_changed p x)) (same_Some _ _ (sym f_main ∙ ap f (sym s) ∙ h)) (ap g s ∙ g_main), (same_node was.node, refl))
      | inr other ↦ (was, others r other ∙ h, same_slot was)
    ]
stays C f g b c due (Frees q e is_due none others) r was h d =
    elim (cases_eq r q) [
      | inl s ↦ absurd (d (is_due ∙ ap Some (sym s)))
      | inr other ↦ (was, others r other ∙ h, same_slot was)
    ]
