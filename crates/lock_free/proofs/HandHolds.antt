-- What a seat's operation has at hand stands, is no other operation's own, and wasn't retired long before the seat pinned itself.
use Rattle.history.specs.declared.calls.Call.{Call}
use Rattle.std.proofs.Common.{◌≡◌, ◌+◌, ◌≤◌, inl, inr, ℕ, Bool, Contains, Some, None, get_or, refl, sym, ap, subst, ◌∙◌}
use Rattle.std.proofs.lemmas.List.Elements.{Contains-append_left}
use mathlib.Core.Option.{some}
use lib.ListN.{get_elem?}
use Rattle.atomic_table.specs.Table as Table
use Rattle.machine_model.specs.Beneath.slot_arena.specs.declared.nodes.Node.{Node}
use Rattle.machine_model.specs.Beneath.slot_arena.specs.declared.nodes.Node.TheVariants.{Indirection, Branch, Single, Tomb, List as Listed}
use Rattle.machine_model.specs.Beneath.slot_arena.specs.declared.nodes.Slot.{Slot}
use Rattle.proof_memory.specs.Laws.{SameNode}
use Rattle.machine_model.specs.Beneath.slot_arena.specs.declared.refs.Ref.{Ref}
use Rattle.machine_model.specs.Beneath.slot_arena.specs.Heaps.{entries_of, refs_of_node, refs_of_prev, refs_of_slot, stored}
use Rattle.machine_model.specs.Beneath.slot_arena.specs.Refs.{slot_of}
use Rattle.machine_model.specs.declared.operations.Operation.{Operation}
use Rattle.machine_model.specs.Operations.{action_of}
use Rattle.machine_model.specs.States.{operation_of}
use Rattle.lock_free.specs.declared.rules.Pinned.{Pinned}
use Rattle.lock_free.specs.declared.rules.Retired.{Retired}
use Rattle.lock_free.specs.declared.rules.View.{View}
use Rattle.lock_free.specs.declared.accounts.Account.{Account}
use Rattle.lock_free.specs.declared.sizes.Sizes.{Sizes}
use Rattle.lock_free.specs.Accounts.{place_of, running, state_of}
use Rattle.lock_free.specs.Counting.{IsInSlot}
use Rattle.lock_free.specs.Holdings.{IsHere, count_of}
use Rattle.lock_free.specs.Live.{at_hand, from_operation, from_slot, IsKnown, IsLive}
use Rattle.lock_free.specs.Loading.{Holds, now}
use Rattle.lock_free.specs.Nodes.{class_of}
use Rattle.lock_free.specs.Places.{count_word}
use Rattle.lock_free.specs.Rules.{AreRetired, IsKept}
use Rattle.lock_free.proofs.Asked.{nodes_stay}
use Rattle.lock_free.proofs.GivenBack.{node_is}
use Rattle.lock_free.proofs.Led.{early_led, led_here, led_own, led_pinned, led_lives}
use Rattle.lock_free.proofs.LastingNodes.{entry_named, hand_by, same_entries, same_hash}
use Rattle.lock_free.proofs.Moments.{same_place, seat, waited_so}

pub class_stays : (before after : Node) → SameNode before after → class_of after ≡ class_of before
class_stays (Indirection generation main) after same = ap class_of same.1
class_stays (Branch bitmap entries) after same = ap class_of same.1
class_stays (Single key value) after same = ap class_of same.1
class_stays (Tomb single) after same = ap class_of same.1
class_stays (Listed singles) after same = ap class_of same.1

-- what is an entry of a main node is known where that one is
entry_known : (sizes : Sizes) (account : Account) (P : ℕ → Type 0) (main r : Ref) (slot : Slot) → IsKnown (state_of sizes account) P main →
    get_or (state_of sizes account).heap.slots (slot_of main) None ≡ Some slot → Contains (entries_of slot.node) r → IsKnown (state_of sizes account) P r
unfolding stored
entry_known sizes account P main r slot known is c =
    from_slot main r known (subst (λ o. Contains (refs_of_slot o) r) (sym is) (Contains-append_left (refs_of_node slot.node) (refs_of_prev slot.prev) r (entry_named slot.node r c)))

module _ (v : View) (s : Table.State Call View) (kept : IsKept v.sizes s) (id : ℕ) (at : get_elem? s.views id ≡ some v) (k : Ref) where
  -- the word of its count, by the class and the slot that the seat knows
  pub slot_word : (class name : ℕ) → IsInSlot v k class name → count_of v.sizes kept.account k ≡ count_word v.sizes class name
  slot_word class name h =
      let later = nodes_stay v.sizes v.actor v.account kept.account (seat v s kept id at).waited kept.bounds (slot_of k) h.slot h.used in
      ap (λ n. count_word v.sizes (class_of n) (place_of kept.account k)) (node_is (state_of v.sizes kept.account) k later.0 later.1)
      ∙ ap (λ c. count_word v.sizes c (place_of kept.account k)) (class_stays h.slot.node later.0.node later.2 ∙ h.class_is)
      ∙ ap (count_word v.sizes class) (same_place v s kept id at (slot_of k) h.slot h.used ∙ h.place)

  module _ (holds : Holds v k) where
    abbrev here : (mark : Bool) × running v.sizes kept.account v.actor (record holds.0 { is_marked = mark })
        × (action_of (state_of v.sizes kept.account) (record holds.0 { is_marked = mark }) ≡ action_of (now v) holds.0)
    here = (waited_so v s kept id at).stays holds.0 holds.1

    abbrev o : Operation
    o = record holds.0 { is_marked = here.0 }

    -- the seat's own operation leads there
    hand_known : IsKnown (state_of v.sizes kept.account) (λ n. n ≡ o.id) k
    hand_known = elim holds.2 [
      | inl c ↦ hand_reached k c
      | inr e ↦
          (let later = nodes_stay v.sizes v.actor v.account kept.account (seat v s kept id at).waited kept.bounds (slot_of e.0) e.1 e.3 in
          entry_known v.sizes kept.account (λ n. n ≡ o.id) e.0 k later.0 (hand_reached e.0 e.2) later.1
          (subst (λ xs. Contains xs k) (sym (same_entries e.1.node later.0.node later.2)) e.4))
    ]
      where
        hand_reached : (r : Ref) → Contains (at_hand (now v) holds.0) r → IsKnown (state_of v.sizes kept.account) (λ n. n ≡ o.id) r
        hand_reached r c = from_operation v.actor o r here.1 refl (subst (λ h. Contains (hand_by h holds.0) r) (same_hash v.sizes v.account kept.account) c)

    pub hand_lives : IsLive (state_of v.sizes kept.account) k
    hand_lives = led_lives v s kept id at o here.1 k hand_known

    pub hand_here : IsHere v.sizes kept.account kept.stands k
    hand_here = led_here v s kept id at o here.1 k hand_known

    pub hand_own : (a : ℕ) (operation : Operation) → operation_of (state_of v.sizes kept.account) a ≡ Some operation → Contains operation.private k → a ≡ v.actor
    hand_own = led_own v s kept id at o here.1 k hand_known

    pub hand_pinned : (p : Pinned) × (v.pin ≡ Some p)
    hand_pinned = led_pinned v s kept id at o here.1

    pub early_hand : AreRetired v.sizes s.words s.views → (i : ℕ) (u : View) → get_elem? s.views i ≡ some u → (x : Retired) → Contains u.retired x → x.number ≡ slot_of k → (p : Pinned) →
        v.pin ≡ Some p →
        p.since ≤ x.stamp + 1
    early_hand = early_led v s kept id at o here.1 k hand_known
