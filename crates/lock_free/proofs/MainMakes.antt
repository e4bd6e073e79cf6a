-- A main node is written in the last free slot of its class: its entries, and its header last.
use Rattle.std.proofs.Common.{◌≡◌, ◌<◌, ◌≤◌, ◌*◌, ◌+◌, ◌/◌, ◌%◌, ◌^◌, ◌==◌, ◌≢◌, ℕ, Bool, true, false, List, []}
use Rattle.std.proofs.Common.{Option, Some, None, refl, sym, ap, subst, ◌∙◌, length, Contains, get_or, arith, nat_le, take, take_all, if◌then◌else◌}
use Rattle.std.proofs.lemmas.Bool.{leb-true, eqb-true, eqb-false}
use Rattle.std.proofs.lemmas.List.{length-map}
use Rattle.std.proofs.lemmas.List.Elements.{All-get_or, All-from_get_or}
use Rattle.std.proofs.lemmas.Option.{none-some, same_Some, slice_get-map, slice_get_within, slice_get-get_or}
use Rattle.std.specs.Prelude.{slice_get, option_map}
use Rattle.trie_words.specs.Codes.{entry_code, pair_code, header_code, bit, IsEntry, IsHeader, IsPrevious}
use Rattle.trie_words.specs.declared.entries.Entry.{Entry}
use Rattle.trie_words.specs.declared.headers.Previous.{Previous}
use Rattle.trie_words.specs.declared.headers.Shape.{Shape}
use Rattle.trie_words.specs.declared.headers.Shape.TheVariants as shape
use Rattle.trie_words.specs.declared.names.Name.{Name}
use Rattle.trie_words.proofs.Parts.{pair_back}
use Rattle.machine_model.specs.Beneath.slot_arena.specs.declared.refs.Ref.{Ref}
use Rattle.machine_model.specs.Beneath.slot_arena.specs.declared.nodes.Node.{Node}
use Rattle.machine_model.specs.Beneath.slot_arena.specs.declared.nodes.Node.TheVariants.{Indirection, Branch, Single, Tomb, List as Listed}
use Rattle.machine_model.specs.Beneath.slot_arena.specs.declared.nodes.Slot.{Slot}
use Rattle.machine_model.specs.Beneath.slot_arena.specs.Heaps.{entries_from, refs_of_node, entries_of}
use Rattle.machine_model.specs.declared.actions.Action.TheVariants as act
use Rattle.lock_free.specs.declared.reclaiming.Kind.TheVariants as kinds
use Rattle.lock_free.specs.Reclaiming.{kind_of_node}
use Rattle.lock_free.specs.declared.rules.View.{View}
use Rattle.lock_free.specs.Loading.{now, IsAt, IsSound, IsUsed}
use Rattle.lock_free.specs.Making.{over_of, Drafted, DraftsHeader, DraftsNode, IsOverBy, shape_with}
use Rattle.lock_free.specs.Nodes.{class_of, half_in, half_of, AreEntries}
use Rattle.lock_free.specs.Passing.{IsPlaced}
use Rattle.lock_free.specs.Places.{class_for, words_in}
use Rattle.lock_free.specs.SeenEntries.{entry_to, unowned, AreEntriesTo, AreFit, half_for, half_at, HasWritten, IsAtBranch, IsAtList, IsAtMain, IsOver, IsOwnSlot, written_of}
use Rattle.lock_free.specs.Stocks.{HasSlot}
use Rattle.lock_free.specs.Owning.{MayOwn}
use Rattle.lock_free.specs.Storing.{IsAtMake}
use Rattle.lock_free.proofs.Asked.{live_in_use, made_names_live, over_lives}
use Rattle.lock_free.proofs.EntryLooks.{slot_small}
use Rattle.lock_free.proofs.Made.{got_in}
use Rattle.lock_free.proofs.OwnMakes.{moved, free_there, ready}

-- ---- classes

by_size : (P : ℕ → Type 0) (n : ℕ) → (n ≤ 2 → P 0) → (n ≤ 12 → P 1) → P 2 → P (class_for n)
by_size P n small medium wide = by (nat_le n 2) (nat_le n 12) refl refl
  where
    by : (a b : Bool) → nat_le n 2 ≡ a → nat_le n 12 ≡ b → P (if a then 0 else (if b then 1 else 2))
    by true b e f = small (leb-true n 2 e)
    by false true e f = medium (leb-true n 12 f)
    by false false e f = wide

pub small_class : (n : ℕ) → class_for n < 3
small_class n = by_size (λ c. c < 3) n (λ h. omega arith) (λ h. omega arith) (omega arith)

room : (n : ℕ) → n ≤ 32 → n + 2 ≤ 2 * words_in (class_for n)
room n few = by_size (λ c. n + 2 ≤ 2 * words_in c) n (λ h. omega (arith, h)) (λ h. omega (arith, h)) (omega (arith, few))

some_words : (name n : ℕ) → 2 * name < 2 * name + words_in (class_for n)
some_words name n = by_size (λ c. 2 * name < 2 * name + words_in c) n (λ h. omega arith) (λ h. omega arith) (omega arith)

-- ---- halves

half_small : (entry : Entry) → IsEntry entry → entry_code entry < 2 ^ 32
half_small entry small = by entry.own entry.is_single
  where
    by : (a b : Bool) → entry.slot + 2 ^ 27 * bit a + 2 ^ 28 * bit b < 2 ^ 32
    by true true = omega (arith, small)
    by true false = omega (arith, small)
    by false true = omega (arith, small)
    by false false = omega (arith, small)

halves_small : (entries : List Entry) → AreFit entries → (k : ℕ) → half_at entries k < 2 ^ 32
halves_small entries fit k = by (slice_get entries k) refl
  where
    by : (o : Option Entry) → slice_get entries k ≡ o → half_for o < 2 ^ 32
    by None e = omega arith
    by (Some entry) e = half_small entry (subst IsEntry (same_Some _ entry (sym (slice_get-get_or entries k entry (slice_get_within entries k entry e)) ∙ e))
        (All-get_or IsEntry entries k entry (slice_get_within entries k entry e) fit))

-- the half that is read back at a position
half_back : (entries : List Entry) → AreFit entries → (k : ℕ) →
    half_of (pair_code (record { low = half_at entries (2 * (k / 2)); high = half_at entries (2 * (k / 2) + 1) })) k ≡ half_at entries k
half_back entries fit k =
    ap (λ p. half_in p k) (pair_back (record { low = half_at entries (2 * (k / 2)); high = half_at entries (2 * (k / 2) + 1) })
    (halves_small entries fit (2 * (k / 2)), halves_small entries fit (2 * (k / 2) + 1)))
    ∙ by (k % 2 == 0) refl
  where
    by : (b : Bool) → (k % 2 == 0) ≡ b → half_in (record { low = half_at entries (2 * (k / 2)); high = half_at entries (2 * (k / 2) + 1) }) k ≡ half_at entries k
    by true e =
        let even = eqb-true (k % 2) 0 e in
        ap (λ (b : Bool). if b then half_at entries (2 * (k / 2)) else half_at entries (2 * (k / 2) + 1)) e ∙ ap (half_at entries) (omega (arith, even))
    by false e =
        let odd : k % 2 ≢ 0 = eqb-false (k % 2) 0 e in
        ap (λ (b : Bool). if b then half_at entries (2 * (k / 2)) else half_at entries (2 * (k / 2) + 1)) e ∙ ap (half_at entries) (omega (arith, odd))

-- ---- entries to nodes

module _ (v : View) (entries : List Entry) (refs : List Ref) (to : AreEntriesTo v entries refs) where
  pub same_length : length entries ≡ length refs
  same_length = sym (length-map entries unowned) ∙ ap length to ∙ length-map refs (entry_to v)

  -- the entry to the node at a position
  pub entry_there : (k : ℕ) (r : Ref) → slice_get refs k ≡ Some r → (entry : Entry) × (slice_get entries k ≡ Some entry) × (unowned entry ≡ entry_to v r)
  entry_there k r at =
      let inside : k < length entries = subst (λ m. k < m) (sym same_length) (slice_get_within refs k r at) in
      let some = slice_get-get_or entries k (entry_to v r) inside in
      let e = get_or entries k (entry_to v r) in (
        e,
        some,
        same_Some (unowned e) (entry_to v r) (ap (option_map unowned) (sym some) ∙ sym (slice_get-map unowned entries k) ∙ ap (λ xs. slice_get xs k) to ∙ slice_get-map (entry_to v) refs k
            ∙ ap (option_map (entry_to v)) at),
      )

  -- and the node at the position of an entry
  pub node_there : (k : ℕ) (entry : Entry) → slice_get entries k ≡ Some entry → (r : Ref) × (slice_get refs k ≡ Some r) × (unowned entry ≡ entry_to v r)
  node_there k entry at =
      let inside : k < length refs = subst (λ m. k < m) same_length (slice_get_within entries k entry at) in
      let some = slice_get-get_or refs k 0 inside in
      let x = entry_there k (get_or refs k 0) some in
      (get_or refs k 0, some, ap unowned (same_Some entry x.0 (sym at ∙ x.1)) ∙ x.2)

  pub all_fit : (n : ℕ) → IsSound n v → ((r : Ref) → Contains refs r → (slot : Slot) × IsUsed v r slot) → AreFit entries
  all_fit n sound used = All-from_get_or IsEntry entries (record { slot = 0; own = false; is_single = false }) fits
    where
      fits : (i : ℕ) → i < length entries → IsEntry (get_or entries i (record { slot = 0; own = false; is_single = false }))
      fits i low =
          let x = node_there i (get_or entries i (record { slot = 0; own = false; is_single = false })) (slice_get-get_or entries i (record { slot = 0; own = false; is_single = false }) low) in
          let u = used x.0 (got_in refs i x.0 x.1) in
          subst (λ k. k < 2 ^ 27) (sym (ap (λ (e : Entry). e.slot) x.2)) (slot_small n v sound x.0 u.0 u.1)

-- ---- a main node

written_named : (node : Node) (r : Ref) → Contains (written_of node) r → Contains (refs_of_node node) r
written_named (Indirection generation main) r c = absurd (omega (arith, c.1))
written_named (Branch bitmap entries) r c = c
written_named (Single key value) r c = c
written_named (Tomb single) r c = absurd (omega (arith, c.1))
written_named (Listed singles) r c = c

module _ (n : ℕ) (before : View) (sound : IsSound n before) (what : Shape) (entries : List Entry) (m : IsAtMain before what entries) (says : Previous) (over : IsOver before says) where
  abbrev p : IsAt before (act.Make m.node)
  p = m.making

  names_used : (r : Ref) → Contains (refs_of_node m.node) r → (slot : Slot) × IsUsed before r slot
  names_used r c = live_in_use before.sizes before.account sound.bounds r (made_names_live before.sizes before.account sound.bounds before.actor p.operation p.runs m.node p.acts r c)

  pub entries_fit : AreFit entries
  entries_fit = all_fit before entries (written_of m.node) m.entries_to n sound (λ r c. names_used r (written_named m.node r c))

  -- its class
  pub class_is : class_for (length entries) ≡ class_of m.node
  class_is = ap class_for (same_length before entries (written_of m.node) m.entries_to) ∙ by m.node m.is_shape
    where
      by : (node : Node) → shape_with before.account m.own node ≡ Some what → class_for (length (written_of node)) ≡ class_of node
      by (Branch bitmap es) is = refl
      by (Tomb single) is = refl
      by (Listed singles) is = refl
      by node is = absurd (none-some what is)

  -- its kind
  pub kind_is : kinds.Main ≡ kind_of_node m.node
  kind_is = by m.node m.is_shape
    where
      by : (node : Node) → shape_with before.account m.own node ≡ Some what → kinds.Main ≡ kind_of_node node
      by (Branch bitmap es) is = refl
      by (Tomb single) is = refl
      by (Listed singles) is = refl
      by node is = absurd (none-some what is)

  pub few_entries : length (entries_of m.node) ≤ 32
  few_entries = by m.node m.is_shape (subst (λ k. k ≤ 32) (same_length before entries (written_of m.node) m.entries_to) m.few)
    where
      by : (node : Node) → shape_with before.account m.own node ≡ Some what → length (written_of node) ≤ 32 → length (entries_of node) ≤ 32
      by (Branch bitmap es) is few = few
      by (Tomb single) is few = omega arith
      by (Listed singles) is few = few
      by node is few = absurd (none-some what is)

  -- its header
  over_is : IsOverBy before.account (over_of p.operation.line) says
  over_is = over p.operation (p.operation.is_marked, p.runs)

  previous_fits : IsPrevious says
  previous_fits = by (over_of p.operation.line) refl over_is
    where
      by : (o : Option (Ref × Ref)) → over_of p.operation.line ≡ o → IsOverBy before.account o says → IsPrevious says
      by None e is = subst IsPrevious (sym is) tt
      by (Some x) e (own, owns, is) =
          let u = live_in_use before.sizes before.account sound.bounds x.1 (over_lives before.sizes before.account sound.bounds before.actor p.operation p.runs x.0 x.1 e) in
          subst IsPrevious (sym is) (slot_small n before sound x.1 u.0 u.1)

  pub header_fits : IsHeader (record { previous = says; shape = what })
  header_fits = (previous_fits, m.fits)

  module _ (name : ℕ) (mid : View) (slot : HasSlot before (class_for (length entries)) name mid) where
    pub own_slot : IsOwnSlot mid name (length entries)
    own_slot = (
      class_for (length entries),
      free_there before (class_for (length entries)) name mid slot mid refl (small_class (length entries)),
      room (length entries) m.few,
    )

    module _ (d : View) (w : HasWritten mid name entries (length entries) d) (value : ℕ) (is : value ≡ header_code (record { previous = says; shape = what })) where
      abbrev has : ℕ → ℕ → Type 0
      has = Drafted d.drafts (2 * name) value

      the_header : DraftsHeader before.account (over_of p.operation.line) m.own m.node value
      the_header = record { previous = says; is_previous = over_is; shape = what; is_shape = m.is_shape; code = is }

      the_entries : AreEntries before.account (now before).heap has name (written_of m.node)
      the_entries k r at =
          let x = entry_there before entries (written_of m.node) m.entries_to k r at in
          let inside = slice_get_within entries k x.0 x.1 in (
            pair_code (record { low = half_at entries (2 * (k / 2)); high = half_at entries (2 * (k / 2) + 1) }),
            ((λ e. absurd (omega (arith, e))), λ e. w.words (k / 2) (omega (arith, inside)) (omega (arith, inside))),
            record {
              own = x.0.own;
              code = half_back entries entries_fit k ∙ ap half_for x.1 ∙ ap (λ (e : Entry). entry_code (record e { own = x.0.own })) x.2;
            },
          )

      the_node : DraftsNode before.account (now before).heap (over_of p.operation.line) has name m.own m.node
      the_node = by m.node m.is_shape the_header the_entries
        where
          by : (node : Node) → shape_with before.account m.own node ≡ Some what → DraftsHeader before.account (over_of p.operation.line) m.own node value →
              AreEntries before.account (now before).heap has name (written_of node) → DraftsNode before.account (now before).heap (over_of p.operation.line) has name m.own node
          by (Branch bitmap es) e h all = ((value, ((λ e. refl), (λ e. absurd (e refl))), h), all)
          by (Tomb single) e h all = (value, ((λ e. refl), (λ e. absurd (e refl))), h)
          by (Listed singles) e h all = ((value, ((λ e. refl), (λ e. absurd (e refl))), h), all)
          by node e h all = absurd (none-some what e)

      pub main_ready : IsAtMake d (2 * name) value
      main_ready =
          ready before (class_for (length entries)) name mid slot d w.is m.node p class_is (2 * name) value m.own few_entries (omega arith) (some_words name (length entries))
          (subst (λ (x : View). DraftsNode x.account (now x).heap (over_of p.operation.line) has name m.own m.node)
          (sym (moved before (class_for (length entries)) name mid slot d w.is)) the_node) (owns_by m.node m.is_shape)
        where
          owns_by : (node : Node) → shape_with before.account m.own node ≡ Some what → MayOwn p.operation.line node m.own
          owns_by (Indirection generation main) e = absurd (none-some what e)
          owns_by node e = tt

-- ---- branches, lists and tombs

module _ (v : View) (entries : List Entry) (few : length entries ≤ 32) where
  all_kept : (refs : List Ref) → AreEntriesTo v entries refs → take 32 refs ≡ refs
  all_kept refs to = take_all 32 refs (subst (λ k. k ≤ 32) (same_length v entries refs to) few)

  pub branch_at : (bitmap : ℕ) → bitmap < 2 ^ 32 → IsAtBranch v bitmap entries → IsAtMain v (shape.Branch bitmap) entries
  branch_at bitmap small (refs, p, to) = record {
    node = Branch bitmap (entries_from refs);
    making = p;
    own = true;
    is_shape = refl;
    fits = small;
    few = few;
    entries_to = subst (AreEntriesTo v entries) (sym (all_kept refs to)) to;
  }

  pub list_at : IsAtList v entries → IsAtMain v (shape.List (length entries)) entries
  list_at (refs, p, to) = record {
    node = Listed (entries_from refs);
    making = p;
    own = true;
    is_shape = ap (λ rs. Some (shape.List (length rs))) (all_kept refs to) ∙ ap (λ k. Some (shape.List k)) (sym (same_length v entries refs to));
    fits = omega (arith, few);
    few = few;
    entries_to = subst (AreEntriesTo v entries) (sym (all_kept refs to)) to;
  }

pub tomb_at : (n : ℕ) (v : View) → IsSound n v → (r : Ref) (single : Name) → IsAt v (act.Make (Tomb r)) → IsPlaced v r single.slot →
    IsAtMain v (shape.Tomb (record { slot = single.slot; own = single.own; is_single = true })) []
tomb_at n v sound r single p placed = record {
  node = Tomb r;
  making = p;
  own = single.own;
  is_shape = ap (λ k. Some (shape.Tomb (record { slot = k; own = single.own; is_single = true }))) placed.1;
  fits = subst (λ k. k < 2 ^ 27) placed.1 (slot_small n v sound r placed.0.0 placed.0.1);
  few = omega arith;
  entries_to = refl;
}
