-- The entries of a branch or a list that stood in a slot, one after the other.
use Rattle.std.proofs.Common.{◌≡◌, ◌+◌, ◌*◌, ◌/◌, ◌<◌, ◌++◌, ℕ, true, List, [], ◌∷◌, Some, get_or, length, length-append, map, slice_get, take, take_all, refl, sym, ap}
use Rattle.std.proofs.Common.{subst, ◌∙◌, arith}
use Rattle.std.proofs.lemmas.List.{map-append, take_more}
use Rattle.std.proofs.lemmas.Option.{slice_get-get_or}
use Rattle.trie_words.specs.Codes.{entry_of}
use Rattle.trie_words.specs.declared.entries.Entry.{Entry}
use Rattle.machine_model.specs.Beneath.slot_arena.specs.declared.nodes.Slot.{Slot}
use Rattle.machine_model.specs.Beneath.slot_arena.specs.declared.refs.Ref.{Ref}
use Rattle.machine_model.specs.Beneath.slot_arena.specs.Heaps.{entries_of}
use Rattle.proof_memory.specs.Wants.{is_branch_or_list}
use Rattle.lock_free.specs.declared.rules.View.{View}
use Rattle.lock_free.specs.Freeing.{HasSeenDraft}
use Rattle.lock_free.specs.LeftNodes.{HasSeenHalf, HasSeenHalves, LeavesMany, LeavesNode, LeavesPosition}
use Rattle.lock_free.specs.Loading.{IsSound}
use Rattle.lock_free.specs.Nodes.{entry_word, half_of}
use Rattle.lock_free.specs.SeenEntries.{AreEntriesTo, entry_to, unowned}
use Rattle.lock_free.proofs.LeftNames.{its_room, left_entries}
use Rattle.lock_free.proofs.Within.{entries_room}

module _ (v : View) (name : ℕ) where
  -- the word of an entry is the table's
  pub entry_inside : (n : ℕ) → IsSound n v → (position : ℕ) → LeavesPosition v name position → 2 * name + 1 + position / 2 < n
  entry_inside n sound position (node, slot, left, kind, low) =
      let room = its_room n v sound name node slot left in
      let few = (left_entries v name slot.node kind left.words).0 in
      let fits = entries_room n v sound slot.node position kind low (omega (arith, low, few)) in
      omega (arith, room, fits)

  -- its half has the entry
  pub half_seen : (position word : ℕ) → HasSeenDraft v (entry_word name position) word → HasSeenHalf v name position (half_of word position)
  half_seen position word seen node slot e left kind at_e =
      let there = (left_entries v name slot.node kind left.words).1 position e at_e in ap (λ m. unowned (entry_of (half_of m position))) (seen there.0 there.1) ∙ there.2

  -- ---- those that were seen so far

  abbrev pub SeenSome : ℕ → List Entry → Type 0
  SeenSome count entries =
      (node : Ref) (slot : Slot) → LeavesNode v name node slot → is_branch_or_list slot.node ≡ true → count ≡ length (entries_of slot.node) →
      AreEntriesTo v entries (take (length entries) (entries_of slot.node))

  pub seen_none : (count : ℕ) → SeenSome count []
  seen_none count node slot left kind is = refl

  pub seen_more : (count : ℕ) (entries : List Entry) (entry : Entry) → SeenSome count entries → length entries < count →
      ((node : Ref) (slot : Slot) (e : Ref) → LeavesNode v name node slot → is_branch_or_list slot.node ≡ true → slice_get (entries_of slot.node) (length entries) ≡ Some e →
      unowned entry ≡ entry_to v e) →
      SeenSome count (entries ++ entry ∷ [])
  seen_more count entries entry s low is node slot left kind count_is =
      let e = get_or (entries_of slot.node) (length entries) 0 in
      let within : length entries < length (entries_of slot.node) = subst (λ k. length entries < k) count_is low in
      map-append unowned entries (entry ∷ []) ∙ ap (λ xs. xs ++ unowned entry ∷ []) (s node slot left kind count_is)
      ∙ ap (λ x. map (entry_to v) (take (length entries) (entries_of slot.node)) ++ x ∷ []) (is node slot e left kind (slice_get-get_or (entries_of slot.node) (length entries) 0 within))
      ∙ sym (map-append (entry_to v) (take (length entries) (entries_of slot.node)) (e ∷ []))
      ∙ ap (map (entry_to v)) (sym (take_more (entries_of slot.node) (length entries) 0 within) ∙ ap (λ k. take k (entries_of slot.node)) (sym (length-append entries (entry ∷ []))))

  pub seen_all : (count : ℕ) (entries : List Entry) → SeenSome count entries → length entries ≡ count → HasSeenHalves v name count entries
  seen_all count entries s all node slot left kind is =
      s node slot left kind is ∙ ap (λ rs. map (entry_to v) rs) (take_all (length entries) (entries_of slot.node) (omega (arith, all, is)))

  pub next_left : (count position : ℕ) → LeavesMany v name count → position < count → LeavesPosition v name position
  next_left count position (node, slot, left, kind, is, few) low = (node, slot, left, kind, subst (λ k. position < k) is low)
