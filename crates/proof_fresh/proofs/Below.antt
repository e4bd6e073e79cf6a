-- Where a fresh main node is about to be swapped in, all below it is below the one that it is to replace, or private.
use Rattle.std.proofs.Common.{◌≡◌, ℕ, ◌⊎◌, List, set, Contains, Option, Some, None, inl, inr, refl, sym, ap, ◌∙◌, subst, arith}
use Rattle.std.proofs.lemmas.List.Elements.{Contains-append_cases, Contains-get_or}
use Rattle.proof_fresh.specs.Vocabulary.{Ref, Slot, Heap, no_ref, entries_of, node_of, prev_of, Purpose, Climb, Operation, Bounds, State, Step, AreBounds, run}
use Rattle.proof_fresh.specs.Vocabulary.{operation_of, current, grown, node_under, prev_word, IsRun}
use Rattle.proof_fresh.specs.Beneath.slot_arena.specs.Heaps.{stored, prev_at, refs_of_node, refs_of_prev, refs_of_slot}
use Rattle.proof_fresh.specs.Beneath.slot_arena.specs.declared.nodes.Prev.TheVariants as over
use Rattle.proof_fresh.specs.Beneath.machine_model.specs.Swapping.{swapping}
use Rattle.proof_fresh.specs.Beneath.machine_model.specs.declared.lines.Line.TheVariants as line
use Rattle.proof_fresh.specs.Beneath.machine_model.specs.declared.lines.Purpose.TheVariants as purpose
use Rattle.proof_fresh.specs.Beneath.machine_model.proofs.Grown.{standing_parts, grown_in_use, prev_grown}
use Rattle.proof_fresh.specs.Beneath.machine_model.proofs.Times.{run_is, run_ends}
use Rattle.proof_fresh.specs.Beneath.proof_memory.specs.Laws.{IsInUse}
use Rattle.proof_fresh.specs.Beneath.proof_memory.specs.Wants.{AllHold, line_wants}
use Rattle.proof_fresh.specs.Beneath.proof_memory.proofs.Claims.Uses.{safe_of}
use Rattle.proof_fresh.specs.Beneath.proof_memory.proofs.Lines.Next.{contracted_no_link}
use Rattle.proof_fresh.specs.Beneath.proof_memory.proofs.Safety.AtEachTime.{safe_at}
use Rattle.proof_fresh.specs.Beneath.proof_memory.proofs.Safety.AtTimes.{line_at}
use Rattle.proof_fresh.specs.Beneath.proof_memory.proofs.Safety.Standing.{in_private_list}
use Rattle.proof_shape.specs.Lines.Given.{Was}
use Rattle.proof_shape.specs.Lines.Knowing.{known_with, first_main}
use Rattle.proof_shape.specs.Lines.Climbing.{IsClimbed, KnowsClimbing}
use Rattle.proof_shape.proofs.Runs.Entries.{no_entry, one_entry, of_set, contracted_entries}
use Rattle.proof_shape.proofs.Lines.Climb.{position_within}
use Rattle.proof_shape.proofs.Lines.ClimbsAt.{climbs_at}
use Rattle.proof_garbage.specs.Live.{IsBelow, itself, below}
use Rattle.proof_garbage.proofs.Swaps.{IsAlone}
use Rattle.proof_garbage.proofs.GivenUp.{claim, fresh_private, fresh_alone}
use Rattle.proof_garbage.proofs.Fresh.{fresh_decided}
use Rattle.proof_fresh.proofs.From.{entry_below, single_below, tomb_counts, from_below}
use Rattle.proof_fresh.proofs.Lines.{LineHas, FreshHas, AllFrom, named_entry}
use Rattle.proof_fresh.proofs.At.{has_at}

module _ {limits : Bounds} {states : ℕ → State} {last : ℕ} (r : IsRun limits states last) (actor : ℕ) (operation : Operation) (runs : operation_of (states last) actor ≡ Some operation)
    (why : Purpose) (i a f : Ref) (on : operation.line ≡ line.Swap why (swapping i a f)) (alone : IsAlone why operation.private f) (decided : prev_at (states last).heap f ≡ over.None) where
  abbrev heap : Heap
  heap = (states last).heap

  abbrev From : Ref → Type 0
  From x = IsBelow (states last).heap a x ⊎ Contains operation.private x

  used : IsInUse heap a
  used = safe_of (subst (λ l. AllHold (IsInUse heap) heap (line_wants limits.hash operation.call operation.access l)) on (line_at r last (omega arith) actor operation runs)).1.0

  private_slot : (y : Ref) → Contains operation.private y → stored heap y ≡ grown states last y
  private_slot y c =
      let (slot, stands) = in_private_list (states last) (safe_at r last (omega arith)) actor operation y runs c in
      (standing_parts heap y slot stands).0 ∙ sym (grown_in_use states last y slot stands)

  decided_word : (y : Ref) → Contains operation.private y → prev_at heap y ≡ over.None → prev_word states last y ≡ over.None
  decided_word y c none =
      let (slot, stands) = in_private_list (states last) (safe_at r last (omega arith)) actor operation y runs c in
      sym (prev_grown states last y slot stands) ∙ none

  -- ---- a CLIMB's

  climbed : (c : Climb) → why ≡ purpose.Climb c → IsClimbed (known_with limits states last (first_main states last)) (Was states last last) operation.call c a f
  climbed c is =
      subst (λ l. KnowsClimbing (known_with limits states last (first_main states last)) (Was states last last) operation.call l) (on ∙ ap (λ w. line.Swap w (swapping i a f)) is)
      (climbs_at r last (omega arith) actor operation runs)

  climb_names : (c : Climb) → IsClimbed (known_with limits states last (first_main states last)) (Was states last last) operation.call c a f → (x : Ref) →
      Contains (refs_of_node (node_under states last f)) x → IsBelow heap a x
  climb_names c k x names =
      by_cases
      (of_set k.parent.entries.items k.parent.position c.single x
      (contracted_entries k.may_entomb k.parent.bitmap (set k.parent.entries.items k.parent.position c.single) x
      (named_entry _ (contracted_no_link k.may_entomb k.parent.bitmap (set k.parent.entries.items k.parent.position c.single)) x (subst (λ n. Contains (refs_of_node n) x) k.made names))))
    where
      an_entry : (e : Ref) → Contains k.parent.entries.items e → Contains (entries_of (node_under states last a)) e
      an_entry e c = subst (λ n. Contains (entries_of n) e) (sym k.parent.branch.is) c

      its_entry : Contains (entries_of (node_under states last a)) (current c.path)
      its_entry =
          an_entry (current c.path)
          (subst (Contains k.parent.entries.items) k.parent.holds
          (Contains-get_or k.parent.entries.items k.parent.position no_ref
          (position_within r (current c.path) k.tombed.generation k.tombed.word k.tombed.link k.parent.position k.parent.entries.items k.parent.holds)))

      by_cases : Contains k.parent.entries.items x ⊎ (x ≡ c.single) → IsBelow heap a x
      by_cases (inl entry) = entry_below r a used x (an_entry x entry)
      by_cases (inr same) =
          subst (IsBelow heap a) (sym same)
          (single_below r a used (current c.path) k.tombed.generation k.tombed.word k.tombed.tomb c.single its_entry k.tombed.link
          (tomb_counts r k.tombed.was.0 (current c.path) k.tombed.tomb c.single k.tombed.was.1 k.tombed.is k.tombed.was.2) k.tombed.is)

  climb_slot : (c : Climb) → why ≡ purpose.Climb c → (y x : Ref) → Contains operation.private y → Contains (refs_of_slot (grown states last y)) x → IsBelow heap a x
  climb_slot c is y x own names =
      let same : y ≡ f = one_entry f y (subst (λ xs. Contains xs y) (subst (λ w. IsAlone w operation.private f) is alone) own) in
      by_slot (grown states last y) refl (λ n. climb_names c (climbed c is) x (subst (λ q. Contains (refs_of_node (node_under states last q)) x) same n))
      (decided_word y own (subst (λ q. prev_at heap q ≡ over.None) (sym same) decided)) names
    where
      by_slot : (o : Option Slot) → grown states last y ≡ o → (Contains (refs_of_node (node_under states last y)) x → IsBelow heap a x) → prev_word states last y ≡ over.None →
          Contains (refs_of_slot o) x → IsBelow heap a x
      by_slot None e node prev names = absurd (no_entry x names)
      by_slot (Some slot) e node prev names =
          elim (Contains-append_cases (refs_of_node slot.node) (refs_of_prev slot.prev) x names) [
            | inl in_node ↦ node (subst (λ o. Contains (refs_of_node (node_of o)) x) (sym e) in_node)
            | inr in_prev ↦ absurd (no_entry x (subst (λ v. Contains (refs_of_prev v) x) (sym (ap prev_of e) ∙ prev) in_prev))
          ]

  -- ---- all others, and what follows

  from_all : AllFrom r last actor operation.id operation.generation operation.private a → (y x : Ref) → Contains operation.private y → Contains (refs_of_slot (grown states last y)) x → From x
  from_all all y x own names = elim (all y x own names) [
    | inl c ↦ inr c
    | inr from ↦ inl (from_below r a used last actor operation.id operation.generation x (omega arith) from)
  ]

  slot_by : (w : Purpose) → why ≡ w → FreshHas r last actor operation.id operation.generation operation.private w a → (y x : Ref) → Contains operation.private y →
      Contains (refs_of_slot (grown states last y)) x → From x
  slot_by (purpose.Climb c) is has y x own names = inl (climb_slot c is y x own names)
  slot_by (purpose.Update path former) is has y x own names = from_all has y x own names
  slot_by (purpose.Renew path) is has y x own names = from_all has y x own names
  slot_by purpose.Clean is has y x own names = from_all has y x own names

  has : FreshHas r last actor operation.id operation.generation operation.private why a
  has = subst (λ l. LineHas r last actor operation.id operation.generation operation.private l) on (has_at r last (omega arith) actor operation runs)

  pub below_fresh : Contains operation.private f → {x : Ref} → IsBelow (states last).heap f x → IsBelow (states last).heap a x ⊎ Contains operation.private x
  below_fresh own itself = inr own
  below_fresh own (below x y b names) = elim (below_fresh own b) [
    | inl under ↦ inl (below x y under names)
    | inr private ↦ slot_by why refl has x y private (subst (λ o. Contains (refs_of_slot o) y) (private_slot x private) names)
  ]

-- after a list of steps
pub fresh_below : (limits : Bounds) (steps : List Step) → AreBounds limits → (actor : ℕ) (operation : Operation) (why : Purpose) (i a f x : Ref) →
    operation_of (run limits steps) actor ≡ Some operation → operation.line ≡ line.Swap why (swapping i a f) → IsBelow (run limits steps).heap f x →
    IsBelow (run limits steps).heap a x ⊎ Contains operation.private x
fresh_below limits steps ok actor operation why i a f x runs on b =
    let ends = run_ends limits steps in
    let used = (claim limits steps ok actor operation runs i a f why on).0 in
    subst (λ (s : State). IsBelow s.heap a x ⊎ Contains operation.private x) ends
    (below_fresh (run_is limits steps ok) actor operation (ap (λ (s : State). operation_of s actor) ends ∙ runs) why i a f on (fresh_alone limits steps ok actor operation runs i a f why on)
    (subst (λ (s : State). prev_at s.heap f ≡ over.None) (sym ends) (fresh_decided limits steps ok actor operation i a f why runs on used))
    (fresh_private limits steps ok actor operation runs i a f why on) (subst (λ (s : State). IsBelow s.heap f x) (sym ends) b))
