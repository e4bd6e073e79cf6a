-- An indirection's prev word is never written.
use Rattle.std.proofs.Common.{◌≡◌, ℕ, true, List, Option, Some, refl, sym, ap, ◌∙◌, subst, inl, inr}
use Rattle.std.proofs.lemmas.Bool.{cases_eq, false≢true}
use Rattle.std.proofs.lemmas.Option.{none-some, same_Some}
use Rattle.proof_followed.specs.Beneath.slot_arena.specs.declared.refs.Ref.{Ref}
use Rattle.proof_followed.specs.Beneath.slot_arena.specs.declared.nodes.Node.{Node}
use Rattle.proof_followed.specs.Beneath.slot_arena.specs.declared.nodes.Node.TheVariants.{Indirection, Branch, Single, Tomb, List as Listed}
use Rattle.proof_followed.specs.Beneath.slot_arena.specs.declared.nodes.Prev.TheVariants as prev
use Rattle.proof_followed.specs.Beneath.slot_arena.specs.declared.nodes.Slot.{Slot}
use Rattle.proof_followed.specs.Beneath.slot_arena.specs.Heaps.{Heap, node_at, main_changed, with_main_word}
use Rattle.proof_followed.specs.Beneath.slot_arena.specs.Arenas.{is_indirection}
use Rattle.proof_followed.specs.Beneath.machine_model.specs.declared.steps.Bounds.{Bounds}
use Rattle.proof_followed.specs.Beneath.machine_model.specs.declared.steps.Step.{Step}
use Rattle.proof_followed.specs.Beneath.machine_model.specs.Grown.{standing}
use Rattle.proof_followed.specs.Beneath.machine_model.specs.Machine.{AreBounds, run}
use Rattle.proof_followed.specs.Beneath.machine_model.specs.States.{first_state}
use Rattle.proof_followed.specs.Beneath.machine_model.proofs.Along.{along}
use Rattle.proof_followed.specs.Beneath.machine_model.proofs.Grown.{node_standing}
use Rattle.proof_followed.specs.Beneath.proof_memory.specs.Wants.{AMain, meets, AllHold}
use Rattle.proof_followed.specs.Beneath.proof_memory.proofs.Claims.Nodes.{main_plain}
use Rattle.proof_followed.specs.Beneath.proof_memory.proofs.Claims.Uses.{meets_of}
use Rattle.proof_followed.specs.Beneath.proof_memory.proofs.Heap.Effects.{Effect, Keeps, Makes, Publishes, Restores, Decides, Frees}
use Rattle.proof_followed.specs.Beneath.proof_memory.proofs.Safety.AtEachTime.{safe_along}
use Rattle.proof_followed.specs.Beneath.proof_memory.proofs.Safety.First.{first_stands}
use Rattle.proof_followed.specs.Beneath.proof_memory.proofs.Safety.Steps.{step_effect}

-- an indirection with no prev word
abbrev IsPlain : Slot → Type 0
IsPlain slot = is_indirection slot.node ≡ true → slot.prev ≡ prev.None

abbrev ArePlain : (Ref → Option Slot) → Type 0
ArePlain f = (r : Ref) (slot : Slot) → f r ≡ Some slot → IsPlain slot

same_kind : (m : Ref) (node : Node) → is_indirection (with_main_word m node) ≡ is_indirection node
same_kind m (Indirection generation main) = refl
same_kind m (Branch bitmap entries) = refl
same_kind m (Single key value) = refl
same_kind m (Tomb single) = refl
same_kind m (Listed singles) = refl

module _ (S : Ref → Type 0) (heap : Heap) (g : Ref → Option Slot) (b c : ℕ) (due : Option Ref) (plain : ArePlain (standing heap)) where
  main_written : (m : Ref) (slot : Slot) → IsPlain slot → IsPlain (main_changed m slot)
  main_written m slot p e = p (sym (same_kind m slot.node) ∙ e)

  -- what has a prev word is a main node
  no_link : (r : Ref) (slot : Slot) → standing heap r ≡ Some slot → meets AMain (node_at heap r) ≡ true → is_indirection slot.node ≡ true → ⊥
  no_link r slot stands main link = false≢true (sym (main_plain slot.node (subst (λ n. meets AMain n ≡ true) (node_standing heap r slot stands) main)) ∙ link)

  plain_by : Effect (AllHold S heap) (standing heap) g b c due → ArePlain g
  plain_by (Keeps e k) r slot h = plain r slot (sym (k r) ∙ h)
  plain_by (Makes made new e e' w p none at_made others) r slot h = elim (cases_eq r made) [
    | inl s ↦ subst IsPlain (same_Some _ _ (sym at_made ∙ ap g (sym s) ∙ h)) (λ link. p)
    | inr other ↦ plain r slot (sym (others r other) ∙ h)
  ]
  plain_by (Publishes i replaced fresh at_i at_fresh e w differ f_i m f_fresh g_i g_fresh others) r slot h = elim (cases_eq r i) [
    | inl s ↦ subst IsPlain (same_Some _ _ (sym g_i ∙ ap g (sym s) ∙ h)) (main_written fresh at_i (plain i at_i f_i))
    | inr other ↦ elim (cases_eq r fresh) [
      | inl s ↦ subst IsPlain (same_Some _ _ (sym g_fresh ∙ ap g (sym s) ∙ h)) (λ link. absurd (no_link fresh at_fresh f_fresh (meets_of w.1.1.0) link))
      | inr another ↦ plain r slot (sym (others r other another) ∙ h)
    ]
  ]
  plain_by (Restores i main previous at_i e w f_i m g_i others) r slot h = elim (cases_eq r i) [
    | inl s ↦ subst IsPlain (same_Some _ _ (sym g_i ∙ ap g (sym s) ∙ h)) (main_written previous at_i (plain i at_i f_i))
    | inr other ↦ plain r slot (sym (others r other) ∙ h)
  ]
  plain_by (Decides main p at_main e w f_main g_main others) r slot h = elim (cases_eq r main) [
    | inl s ↦ subst IsPlain (same_Some _ _ (sym g_main ∙ ap g (sym s) ∙ h)) (λ link. absurd (no_link main at_main f_main (meets_of w.0) link))
    | inr other ↦ plain r slot (sym (others r other) ∙ h)
  ]
  plain_by (Frees q e is_due none others) r slot h = elim (cases_eq r q) [
    | inl s ↦ absurd (none-some slot (sym none ∙ ap g (sym s) ∙ h))
    | inr other ↦ plain r slot (sym (others r other) ∙ h)
  ]

plain_at_first : (limits : Bounds) → AreBounds limits → ArePlain (standing (first_state limits).heap)
unfolding first_state
plain_at_first limits ok r slot stands = first_stands (λ r slot. IsPlain slot) limits.slots ok.0 (λ birth link. refl) (λ birth link. refl) r slot stands

pub links_plain : (limits : Bounds) → AreBounds limits → (steps : List Step) (r : Ref) (slot : Slot) → standing (run limits steps).heap r ≡ Some slot → is_indirection slot.node ≡ true →
    slot.prev ≡ prev.None
links_plain limits ok =
    along limits (λ state. ArePlain (standing state.heap)) (plain_at_first limits ok)
    (λ steps s o after m plain.
    plain_by _ (run limits steps).heap (standing after.heap) _ _ _ plain ((step_effect (run limits steps) (safe_along limits ok steps) s o after m).3))
