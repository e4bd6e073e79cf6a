-- What the words of the slot of a node in use say of it: what it is, and what it names.
use Rattle.history.specs.declared.calls.Call.{Call}
use Rattle.std.proofs.Common.{◌≡◌, ◌*◌, ◌^◌, ◌<◌, ◌≤◌, ◌++◌, ℕ, true, List, [], Contains, Some, None, get_or, length, slice_get, slice_index, nat_lt, nat_le}
use Rattle.std.proofs.Common.{count_ones, refl, sym, ap, subst, ◌∙◌, arith, ltb-true}
use Rattle.std.proofs.lemmas.Bool.{and_parts, true≢false}
use Rattle.std.proofs.lemmas.List.Elements.{All-contains}
use Rattle.atomic_table.specs.Table as Table
use Rattle.trie_words.specs.Codes.{entry_of, header_of, link_of, IsPrevious, IsShape}
use Rattle.trie_words.specs.declared.entries.Entry.{Entry}
use Rattle.trie_words.specs.declared.headers.Header.{Header}
use Rattle.trie_words.specs.declared.headers.Previous.{Previous}
use Rattle.trie_words.specs.declared.headers.Shape.{Shape}
use Rattle.trie_words.specs.declared.links.Link.{Link}
use Rattle.trie_words.proofs.Parts.{entry_back, header_back, link_back}
use Rattle.machine_model.specs.Beneath.slot_arena.specs.declared.nodes.Node.{Node}
use Rattle.machine_model.specs.Beneath.slot_arena.specs.declared.nodes.Node.TheVariants.{Indirection, Branch, Single, Tomb, List as Listed}
use Rattle.machine_model.specs.Beneath.slot_arena.specs.declared.nodes.Prev.{Prev}
use Rattle.machine_model.specs.Beneath.slot_arena.specs.declared.nodes.Slot.{Slot}
use Rattle.machine_model.specs.Beneath.slot_arena.specs.declared.refs.Ref.{Ref}
use Rattle.machine_model.specs.Beneath.slot_arena.specs.Heaps.{entries_of, node_at, refs_of_node}
use Rattle.machine_model.specs.Beneath.slot_arena.specs.Refs.{slot_of}
use Rattle.machine_model.specs.States.{State}
use Rattle.proof_memory.specs.Laws.{IsInUse}
use Rattle.proof_memory.specs.Wants.{AllHold, is_entry, is_formed, node_wants, prev_wants}
use Rattle.proof_memory.proofs.Claims.Uses.{all_of, first_hold, last_hold, meets_of, safe_of}
use Rattle.proof_memory.proofs.Safety.AtEachTime.{safe_along}
use Rattle.lock_free.specs.declared.accounts.Account.{Account}
use Rattle.lock_free.specs.declared.rules.View.{View}
use Rattle.lock_free.specs.declared.sizes.Sizes.{Sizes}
use Rattle.lock_free.specs.Accounts.{bounds_for, place_of, state_of}
use Rattle.lock_free.specs.LeftNodes.{LeavesEntry, LeavesShape, LeavesWords, MayBeNamed}
use Rattle.lock_free.specs.Nodes.{class_of, entry_word, half_of, is_single, AreEntries, InTable, SaysHeader, SaysPrevious, SaysShape, StandsAs, decided, ahead, pending, failed, of_branch}
use Rattle.lock_free.specs.Nodes.{of_tomb, of_list}
use Rattle.lock_free.specs.Rules.{IsKept}
use Rattle.lock_free.specs.SeenEntries.{unowned}
use Rattle.lock_free.specs.LeftNodes.{NamesShape, a_branch, a_list, a_tomb}
use Rattle.lock_free.proofs.Asked.{is_well_formed}
use Rattle.lock_free.proofs.Decoding.{ahead_lives}
use Rattle.lock_free.proofs.Framing.{class_small, entry_inside, first_inside, got_within, node_end}
use Rattle.lock_free.proofs.Geometry.{IsWordOf}
use Rattle.lock_free.proofs.Made.{got_in}
use Rattle.lock_free.proofs.OneStep.Found.{live_used, slot_at}
use Rattle.lock_free.proofs.Pools.{first_there, one_there}
use Rattle.lock_free.proofs.Within.{two_words}

pub single_entry : (node : Node) → is_single node ≡ true → is_entry node ≡ true
single_entry (Single key value) is = refl
single_entry (Indirection generation main) is = absurd (true≢false (sym is))
single_entry (Branch bitmap entries) is = absurd (true≢false (sym is))
single_entry (Tomb single) is = absurd (true≢false (sym is))
single_entry (Listed singles) is = absurd (true≢false (sym is))

module _ (v : View) (s : Table.State Call View) (kept : IsKept v.sizes s) where
  abbrev sizes : Sizes
  sizes = v.sizes

  abbrev account : Account
  account = kept.account

  abbrev state : State
  state = state_of sizes account

  small_place : (r : Ref) → IsInUse state.heap r → place_of account r < 2 ^ 27
  small_place r used =
      let h = node_end sizes used.0.node (place_of account r) (kept.nodes.inside (slot_of r) used.0 (slot_at state.heap r used.0 used.1)) in
      let two = two_words (class_of used.0.node) (class_small used.0.node) in
      let range = kept.range.within in
      omega (arith, h, two, range)

  module _ (k : Ref) (used : IsInUse state.heap k) (stood : kept.stands (slot_of k) ≡ true) where
    abbrev slot : Slot
    slot = used.0

    abbrev name : ℕ
    name = place_of account k

    stored_there : get_or state.heap.slots (slot_of k) None ≡ Some slot
    stored_there = slot_at state.heap k used.0 used.1

    wants : AllHold (IsInUse state.heap) state.heap (node_wants slot.node ++ prev_wants slot.prev)
    wants = ((safe_along (bounds_for sizes account.steps) kept.bounds account.steps).nodes k used.0 used.1).0

    -- ---- what it names is in use, and what it should be

    names_by : (node : Node) → AllHold (IsInUse state.heap) state.heap (node_wants node) → (r : Ref) → Contains (refs_of_node node) r → IsInUse state.heap r × MayBeNamed node (node_at state.heap r)
    names_by (Indirection generation main) all r c =
        let same = one_there main r c in
        (subst (IsInUse state.heap) (sym same) (safe_of all.0), subst (λ q. MayBeNamed (Indirection generation main) (node_at state.heap q)) (sym same) (meets_of all.0))
    names_by (Branch bitmap entries) all r c = All-contains (λ q. IsInUse state.heap q × (is_entry (node_at state.heap q) ≡ true)) entries.items r (all_of all.0) c
    names_by (Single key value) all r c = absurd (omega (arith, c.1))
    names_by (Tomb single) all r c =
        let same = one_there single r c in
        (subst (IsInUse state.heap) (sym same) (safe_of all.0), subst (λ q. MayBeNamed (Tomb single) (node_at state.heap q)) (sym same) (meets_of all.0))
    names_by (Listed singles) all r c =
        let h = All-contains (λ q. IsInUse state.heap q × (is_single (node_at state.heap q) ≡ true)) singles.items r (all_of all.0) c in (h.0, single_entry (node_at state.heap r) h.1)

    pub left_names : (r : Ref) → Contains (refs_of_node slot.node) r → IsInUse state.heap r × MayBeNamed slot.node (node_at state.heap r)
    left_names = names_by slot.node (first_hold (IsInUse state.heap) state.heap (node_wants slot.node) (prev_wants slot.prev) wants)

    -- ---- its header

    previous_fits : (p : Prev) (says : Previous) → AllHold (IsInUse state.heap) state.heap (prev_wants p) → SaysPrevious account state (slot_of k) p says → IsPrevious says
    previous_fits p says all (decided none) = tt
    previous_fits p says all (ahead i a f own h its owned) = small_place a (live_used sizes account kept.bounds a (ahead_lives v s kept i a f h))
    previous_fits p says all (pending q own over) = small_place q (safe_of all.0)
    previous_fits p says all (failed q own over) = small_place q (safe_of all.0)

    shape_fits : (node : Node) (says : Shape) → node ≡ slot.node → SaysShape account (slot_of k) node says → IsShape says
    shape_fits node says same (of_branch bitmap entries) =
        ltb-true bitmap (2 ^ 32) (and_parts (nat_lt bitmap (2 ^ 32)) (nat_le (count_ones bitmap) (length entries.items))
        (ap is_formed same ∙ is_well_formed sizes account kept.bounds (slot_of k) slot stored_there)).0
    shape_fits node says same (of_tomb single own owned) = small_place single (left_names single (subst (λ n. Contains (refs_of_node n) single) same (first_there single []))).0
    shape_fits node says same (of_list singles) =
        let few = subst (λ n. length (entries_of n) ≤ 32) (sym same) (kept.nodes.small (slot_of k) slot (stood, stored_there)) in omega (arith, few)

    pub header_back_there : (found : ℕ) (h : SaysHeader kept.account (state_of v.sizes kept.account) (slot_of k) used.0 found) → header_of found ≡ record { previous = h.previous; shape = h.shape }
    header_back_there found h =
        ap header_of h.code
        ∙ header_back (record { previous = h.previous; shape = h.shape }) (
          previous_fits slot.prev h.previous (last_hold (IsInUse state.heap) state.heap (node_wants slot.node) (prev_wants slot.prev) wants) h.is_previous,
          shape_fits slot.node h.shape refl h.is_shape,
        )

    -- ---- its words, which some seat knows

    module _ (w : View) (has : (i : ℕ) → IsWordOf (class_of slot.node) name i → Contains w.drafts (i, slice_index s.words i)) where
      abbrev pub knowing_it : View
      knowing_it = record w { account = kept.account; sizes = v.sizes }

      shape_by : (node : Node) (says : Shape) → SaysShape account (slot_of k) node says → NamesShape knowing_it node says
      shape_by node says (of_branch bitmap entries) = a_branch bitmap entries
      shape_by node says (of_tomb single own owned) = a_tomb single own
      shape_by node says (of_list singles) = a_list singles

      left_shape : IsWordOf (class_of slot.node) name (2 * name) → (word : ℕ) → slice_index s.words (2 * name) ≡ word → SaysHeader account state (slot_of k) slot word →
          LeavesShape knowing_it name slot.node
      left_shape its word is h = (
        slice_index s.words (2 * name),
        has (2 * name) its,
        subst (λ (x : Header). NamesShape knowing_it slot.node x.shape) (sym (ap header_of is ∙ header_back_there word h)) (shape_by slot.node h.shape h.is_shape),
      )

      left_entry : (entries : List Ref) → AreEntries account state.heap (InTable s.words) name entries → (position : ℕ) (e : Ref) → slice_get entries position ≡ Some e → IsInUse state.heap e →
          IsWordOf (class_of slot.node) name (entry_word name position) → LeavesEntry knowing_it name position e
      left_entry entries h position e at_e e_used its =
          let (word, is, says) = h position e at_e in
          let said : Entry = record { slot = place_of account e; own = says.own; is_single = is_single (node_at state.heap e) } in (
            slice_index s.words (entry_word name position),
            has (entry_word name position) its,
            ap (λ n. unowned (entry_of (half_of n position))) is ∙ ap (λ n. unowned (entry_of n)) says.code
                ∙ ap unowned (entry_back said (small_place e e_used)),
          )

      words_by : (node : Node) → node ≡ slot.node → StandsAs account state (InTable s.words) name (slot_of k) slot node → LeavesWords knowing_it name node
      words_by (Indirection generation main) same h =
          let link : Link = record { generation = generation; main = record { slot = place_of account main; own = h.1.0 } } in
          let main_used = (left_names main (subst (λ n. Contains (refs_of_node n) main) same (first_there main []))).0 in (
            slice_index s.words (2 * name),
            has (2 * name) (subst (λ n. IsWordOf (class_of n) name (2 * name)) same (first_inside 0 name)),
            ap (λ n. (link_of n).main.slot) h.1.2 ∙ ap (λ (l : Link). l.main.slot) (link_back link (h.0, small_place main main_used)),
          )
      words_by (Single key value) same h = tt
      words_by (Branch bitmap entries) same h = (
        subst (LeavesShape knowing_it name) (sym same)
            (left_shape (subst (λ n. IsWordOf (class_of n) name (2 * name)) same (first_inside (length entries.items) name)) h.0.0 h.0.1 h.0.2),
        (
          few,
          λ position e at_e. left_entry entries.items h.1 position e at_e
              (left_names e (subst (λ n. Contains (refs_of_node n) e) same (got_in entries.items position e at_e))).0
              (subst (λ n. IsWordOf (class_of n) name (entry_word name position)) same (entry_inside (length entries.items) name position few (got_within entries.items position e at_e))),
        ),
      )
        where
          few : length entries.items ≤ 32
          few = subst (λ n. length (entries_of n) ≤ 32) (sym same) (kept.nodes.small (slot_of k) slot (stood, stored_there))
      words_by (Tomb single) same h =
          subst (LeavesShape knowing_it name) (sym same) (left_shape (subst (λ n. IsWordOf (class_of n) name (2 * name)) same (first_inside 0 name)) h.0 h.1 h.2)
      words_by (Listed singles) same h = (
        subst (LeavesShape knowing_it name) (sym same)
            (left_shape (subst (λ n. IsWordOf (class_of n) name (2 * name)) same (first_inside (length singles.items) name)) h.0.0 h.0.1 h.0.2),
        (
          few,
          λ position e at_e. left_entry singles.items h.1 position e at_e
              (left_names e (subst (λ n. Contains (refs_of_node n) e) same (got_in singles.items position e at_e))).0
              (subst (λ n. IsWordOf (class_of n) name (entry_word name position)) same (entry_inside (length singles.items) name position few (got_within singles.items position e at_e))),
        ),
      )
        where
          few : length singles.items ≤ 32
          few = subst (λ n. length (entries_of n) ≤ 32) (sym same) (kept.nodes.small (slot_of k) slot (stood, stored_there))

      pub left_words : LeavesWords knowing_it name slot.node
      left_words = words_by slot.node refl (kept.nodes.written (slot_of k) slot (stood, stored_there))
