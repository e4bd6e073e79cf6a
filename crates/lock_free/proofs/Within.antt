-- The words of nodes that a seat knows are the table's.
use Rattle.std.proofs.Common.{◌≡◌, ◌+◌, ◌*◌, ◌/◌, ◌<◌, ◌≤◌, ℕ, zero, suc, inl, inr, Bool, true, false, length, refl, sym, subst, arith, nat_le, if◌then◌else◌}
use Rattle.std.proofs.lemmas.Bool.{true≢false, leb-true}
use Rattle.machine_model.specs.Beneath.slot_arena.specs.declared.refs.Ref.{Ref}
use Rattle.machine_model.specs.Beneath.slot_arena.specs.declared.nodes.Node.{Node}
use Rattle.machine_model.specs.Beneath.slot_arena.specs.declared.nodes.Node.TheVariants.{Indirection, Branch, Single, Tomb, List as Listed}
use Rattle.machine_model.specs.Beneath.slot_arena.specs.declared.nodes.Slot.{Slot}
use Rattle.machine_model.specs.Beneath.slot_arena.specs.Heaps.{entries_of}
use Rattle.machine_model.specs.Beneath.slot_arena.specs.Refs.{slot_of}
use Rattle.proof_memory.specs.Wants.{is_branch_or_list}
use Rattle.lock_free.specs.declared.rules.View.{View}
use Rattle.lock_free.specs.Accounts.{place_of}
use Rattle.lock_free.specs.Live.{from_operation, IsLive}
use Rattle.lock_free.specs.Loading.{now, IsSound, IsUsed, Holds, HasPosition}
use Rattle.lock_free.specs.Nodes.{class_of}
use Rattle.lock_free.specs.Places.{words_in, class_for}
use Rattle.lock_free.proofs.Asked.{live_in_use}
use Rattle.lock_free.proofs.Framing.{class_small, node_end}
use Rattle.lock_free.proofs.LastingNodes.{entry_lives}

pub two_words : (class : ℕ) → class < 3 → 2 ≤ words_in class
two_words zero h = omega arith
two_words (suc zero) h = omega arith
two_words (suc (suc zero)) h = omega arith
two_words (suc (suc (suc class))) h = absurd (omega (arith, h))

-- what the operation holds is live
pub held_lives : (v : View) (r : Ref) → Holds v r → IsLive (now v) r
held_lives v r (o, runs, inl c) = from_operation v.actor o r runs tt c
held_lives v r (o, runs, inr (main, slot, c, is, e)) = entry_lives v.sizes v.account main r slot (from_operation v.actor o main runs tt c) is e

module _ (words : ℕ) (v : View) (sound : IsSound words v) where
  pub used_inside : (r : Ref) (slot : Slot) → IsUsed v r slot → 2 * place_of v.account r + words_in (class_of slot.node) ≤ words
  used_inside r slot is =
      let h = node_end v.sizes slot.node (place_of v.account r) (sound.inside (slot_of r) slot is) in
      subst (λ n. 2 * place_of v.account r + words_in (class_of slot.node) ≤ n) (sym sound.size) h

  pub both_inside : (r : Ref) (name : ℕ) → IsLive (now v) r → place_of v.account r ≡ name → (2 * name < words) × (2 * name + 1 < words)
  both_inside r name live place =
      let is = live_in_use v.sizes v.account sound.bounds r live in
      let h = used_inside r is.0 is.1 in
      let two = two_words (class_of is.0.node) (class_small is.0.node) in
      (omega (arith, h, two, place), omega (arith, h, two, place))

  room : (n position : ℕ) → position < n → position < 32 → 1 + position / 2 < words_in (class_for n)
  room n position low small = by (nat_le n 2) (nat_le n 12) (λ e. leb-true n 2 e) (λ e. leb-true n 12 e)
    where
      by : (two twelve : Bool) → (two ≡ true → n ≤ 2) → (twelve ≡ true → n ≤ 12) → 1 + position / 2 < words_in (if two then 0 else (if twelve then 1 else 2))
      by true twelve few some = let most = few refl in omega (arith, low, most)
      by false true few some = let most = some refl in omega (arith, low, most)
      by false false few some = omega (arith, small)

  pub entries_room : (node : Node) (position : ℕ) → is_branch_or_list node ≡ true → position < length (entries_of node) → position < 32 → 1 + position / 2 < words_in (class_of node)
  entries_room (Branch bitmap entries) position is low small = room (length entries.items) position low small
  entries_room (Listed singles) position is low small = room (length singles.items) position low small
  entries_room (Indirection generation main) position is low small = absurd (true≢false (sym is))
  entries_room (Single key value) position is low small = absurd (true≢false (sym is))
  entries_room (Tomb single) position is low small = absurd (true≢false (sym is))

  pub pair_inside : (name position : ℕ) → HasPosition v name position → 2 * name + 1 + position / 2 < words
  pair_inside name position (r, slot, holds, is, kind, low, small, place) =
      let h = used_inside r slot is in
      let fits = entries_room slot.node position kind low small in
      omega (arith, h, fits, place)
