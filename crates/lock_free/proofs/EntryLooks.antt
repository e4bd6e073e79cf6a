-- What an operation sees of an entry of a main node that it holds.
use Rattle.std.proofs.Common.{◌≡◌, ◌^◌, ◌<◌, ℕ, true, Contains, get_or, length, Some, refl, sym, ap, subst, ◌∙◌, arith}
use Rattle.std.proofs.lemmas.List.Elements.{Contains-get_or}
use Rattle.std.proofs.lemmas.Option.{slice_get-get_or}
use Rattle.trie_words.specs.Codes.{entry_of}
use Rattle.trie_words.specs.declared.entries.Entry.{Entry}
use Rattle.trie_words.specs.declared.entries.Pair.{Pair}
use Rattle.trie_words.proofs.Parts.{entry_back}
use Rattle.machine_model.specs.Beneath.slot_arena.specs.declared.refs.Ref.{Ref}
use Rattle.machine_model.specs.Beneath.slot_arena.specs.declared.nodes.Slot.{Slot}
use Rattle.machine_model.specs.Beneath.slot_arena.specs.Heaps.{no_ref, node_at, entries_of}
use Rattle.machine_model.specs.Beneath.slot_arena.specs.Refs.{slot_of}
use Rattle.proof_memory.specs.Wants.{is_main_node, is_branch_or_list}
use Rattle.proof_memory.proofs.Claims.Nodes.{both_main}
use Rattle.lock_free.specs.declared.rules.View.{View}
use Rattle.lock_free.specs.Accounts.{place_of}
use Rattle.lock_free.specs.Entries.{HasStayed, entry_in, IsEntryIn, HoldsEntry, HasSeenEntry}
use Rattle.lock_free.specs.Live.{IsLive}
use Rattle.lock_free.specs.Loading.{now, seen, IsUsed, IsSound, HasSeenPair}
use Rattle.lock_free.specs.Nodes.{class_of, half_in, is_single}
use Rattle.lock_free.specs.Passing.{Later}
use Rattle.lock_free.proofs.Asked.{live_in_use}
use Rattle.lock_free.proofs.Comings.{saw_runs}
use Rattle.lock_free.proofs.Framing.{class_small, node_end}
use Rattle.lock_free.proofs.GivenBack.{node_is}
use Rattle.lock_free.proofs.Holding.{held_then}
use Rattle.lock_free.proofs.Laters.{main_kind, saw_later, waited_later}
use Rattle.lock_free.proofs.LastingNodes.{entry_lives}
use Rattle.lock_free.proofs.Verdicts.{main_same}
use Rattle.lock_free.proofs.Within.{two_words}

-- a node's slot is below 2^27
pub slot_small : (n : ℕ) (v : View) → IsSound n v → (r : Ref) (slot : Slot) → IsUsed v r slot → place_of v.account r < 2 ^ 27
slot_small n v sound r slot used =
    let inside = node_end v.sizes slot.node (place_of v.account r) (sound.inside (slot_of r) slot used) in
    let two = two_words (class_of slot.node) (class_small slot.node) in
    let range = sound.range in
    omega (arith, inside, two, range)

-- a main node stays what it is
pub main_stays : (v w : View) (l : Later v w) (main : Ref) (slot : Slot) → IsUsed v main slot → is_main_node slot.node ≡ true → (later : Slot) × IsUsed w main later × (later.node ≡ slot.node)
main_stays v w l main slot used is =
    let y = l.nodes main slot used in (y.0, y.1, main_same slot.node y.0.node y.2 (main_kind slot.node y.0.node y.2 is))

pub node_stays : (v w : View) (l : Later v w) (main : Ref) (slot : Slot) → IsUsed v main slot → is_main_node slot.node ≡ true → node_at (now w).heap main ≡ node_at (now v).heap main
node_stays v w l main slot used is = let y = main_stays v w l main slot used is in node_is (now w) main y.0 y.1 ∙ y.2 ∙ sym (node_is (now v) main slot used)

-- its entry at a position inside is in use, where it is live
module _ (v : View) (n : ℕ) (sound : IsSound n v) (main : Ref) (slot : Slot) (used : IsUsed v main slot) (lives : IsLive (now v) main) (position : ℕ) (inside : position < length
    (entries_of slot.node)) where
  pub entry_is : get_or (entries_of slot.node) position no_ref ≡ entry_in v main position
  entry_is = ap (λ x. get_or (entries_of x) position no_ref) (sym (node_is (now v) main slot used))

  pub entry_inside : Contains (entries_of slot.node) (entry_in v main position)
  entry_inside = subst (λ e. Contains (entries_of slot.node) e) entry_is (Contains-get_or (entries_of slot.node) position no_ref inside)

  pub entry_used : (other : Slot) × IsUsed v (entry_in v main position) other
  entry_used = live_in_use v.sizes v.account sound.bounds (entry_in v main position) (entry_lives v.sizes v.account main (entry_in v main position) slot lives used entry_inside)

module _ (n : ℕ) (before after : View) (sound : IsSound n before) (name position : ℕ) (pair : Pair) (g : HasSeenPair before name position pair after) where
  stayed : HasStayed before after
  stayed = record { later = saw_later n before sound after g.0; comes = saw_runs before after g.0 }

  pub sees : (entry : Entry) → entry ≡ entry_of (half_in pair position) → HasSeenEntry before name position entry after
  sees entry is = (stayed, λ main h placed. its_entry main h placed)
    where
      its_entry : (main : Ref) → HoldsEntry before main position → place_of before.account main ≡ name → IsEntryIn after main position entry.slot entry.is_single
      its_entry main h placed =
          let u = seen before g.0.account in
          let sound_u = g.0.waited.sound in
          let there = main_stays before u (waited_later n before sound g.0.account g.0.waited) main h.slot h.used (both_main h.slot.node h.kind) in
          let kind = subst (λ x. is_branch_or_list x ≡ true) (sym there.2) h.kind in
          let inside = subst (λ x. position < length (entries_of x)) (sym there.2) h.inside in
          let lives = held_then before g.0.account g.0.waited main h.holds in
          let e = entry_in u main position in
          let used_e = entry_used u _ sound_u main there.0 there.1 lives position inside in
          let says = g.1 main h.holds placed there.0 position e there.1 kind refl
          (slice_get-get_or (entries_of there.0.node) position no_ref inside ∙ ap Some (entry_is u _ sound_u main there.0 there.1 lives position inside)) in
          let said : Entry = record { slot = place_of g.0.account e; own = says.own; is_single = is_single (node_at (now u).heap e) } in
          let entry_so : entry ≡ said = is ∙ ap entry_of says.code ∙ entry_back said (slot_small _ u sound_u e used_e.0 used_e.1) in
          subst (λ x. IsEntryIn x main position entry.slot entry.is_single) (sym g.0.after_is)
          (record { placed = (used_e, ap (λ (x : Entry). x.slot) (sym entry_so)); kind = ap (λ (x : Entry). x.is_single) (sym entry_so) })
