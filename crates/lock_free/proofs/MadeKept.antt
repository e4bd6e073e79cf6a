-- The last store to a free slot of a seat makes the node that is written there, and the exchange of the count of generations makes the root of a copy that is.
use Rattle.history.specs.declared.calls.Call.{Call}
use Rattle.std.proofs.Common.{length-set, ◌≡◌, ◌≢◌, ◌+◌, ◌*◌, ℕ, ◌<◌, ◌≤◌, inl, inr, Bool, List, [], ◌∷◌, ◌++◌, length, set, slice_index, Option, Some, sym, ap, subst, ◌∙◌, arith}
use Rattle.std.proofs.lemmas.Bool.{cases_eq}
use Rattle.std.proofs.lemmas.List.{get_or-set_same}
use mathlib.Core.Option.{some}
use lib.ListN.{get_elem?}
use Rattle.atomic_table.specs.Table as Table
use Rattle.machine_model.specs.Beneath.slot_arena.specs.declared.refs.Ref.{Ref}
use Rattle.machine_model.specs.Beneath.slot_arena.specs.declared.nodes.Node.{Node}
use Rattle.machine_model.specs.Beneath.slot_arena.specs.declared.nodes.Node.TheVariants.{Indirection, Branch, Single, Tomb, List as Listed}
use Rattle.machine_model.specs.Beneath.slot_arena.specs.Heaps.{Heap, entries_of}
use Rattle.machine_model.specs.declared.operations.Operation.{Operation}
use Rattle.machine_model.specs.States.{operation_of}
use Rattle.lock_free.specs.declared.accounts.Account.{Account}
use Rattle.lock_free.specs.declared.rules.View.{View}
use Rattle.lock_free.specs.declared.sizes.Sizes.{Sizes}
use Rattle.lock_free.specs.Accounts.{state_of}
use Rattle.lock_free.specs.Nodes.{Has, InTable, class_of}
use Rattle.lock_free.specs.Making.{over_of, Drafted, AreDrafted, DraftsNode, made_at, Makes, made_by}
use Rattle.lock_free.specs.Places.{slots_in, first_slot_word, generation_word, taken_word, pin_word, root_word, IsTaken}
use Rattle.lock_free.specs.Rules.{NodesStand, RootsStand, IsSpare, IsKept, pool_of}
use Rattle.lock_free.specs.Owning.{MayOwn}
use Rattle.lock_free.proofs.Assembling.{AllStand, all_stand}
use Rattle.lock_free.proofs.Framing.{else_word, no_slot, nodes_below, roots_below, other_word, low_word, taken_over, all_over, class_small}
use Rattle.lock_free.proofs.Geometry.{IsWordOf, slots_apart, inside, root_below}
use Rattle.lock_free.proofs.Made.{stands_too}
use Rattle.lock_free.proofs.MadeAll.{all_then, nodes_then, roots_then}
use Rattle.lock_free.proofs.CellsStay.{before_cells, beside_cell, word_loosens_none}
use Rattle.lock_free.proofs.MadeSeats.{its_spare, made_kept}
use Rattle.lock_free.specs.Counts.{references_in, IsCount}
use Rattle.lock_free.proofs.CountWords.{count_above, slot_apart}
use Rattle.lock_free.proofs.HeldStep.{slot_beside}
use Rattle.lock_free.proofs.MadeSeats.{Takes}

-- what is written in the words that are meant is written in those that are there
drafts_in : (account : Account) (heap : Heap) (over : Option (Ref × Ref)) (has there : Has) (name : ℕ) (own : Bool) (node : Node) → ((j w : ℕ) → has j w → there j w) →
    DraftsNode account heap over has name own node →
    DraftsNode account heap over there name own node
drafts_in account heap over has there name own (Indirection generation main) f h = (h.0, f (2 * name) _ h.1)
drafts_in account heap over has there name own (Single key value) f h = (f (2 * name) key h.0, f (2 * name + 1) value h.1)
drafts_in account heap over has there name own (Branch bitmap entries) f h = ((h.0.0, f (2 * name) h.0.0 h.0.1, h.0.2), λ position e at. (let x = h.1 position e at in (x.0, f _ x.0 x.1, x.2)))
drafts_in account heap over has there name own (Tomb single) f h = (h.0, f (2 * name) h.0 h.1, h.2)
drafts_in account heap over has there name own (Listed singles) f h = ((h.0.0, f (2 * name) h.0.0 h.0.1, h.0.2), λ position e at. (let x = h.1 position e at in (x.0, f _ x.0 x.1, x.2)))

module _ (sizes : Sizes) (s : Table.State Call View) (kept : IsKept sizes s) (id : ℕ) (v : View) (at : get_elem? s.views id ≡ some v) (operation : Operation)
    (runs : operation_of (state_of sizes kept.account) v.actor ≡ Some operation) (name : ℕ) (own : Bool) (node : Node) (rest : List ℕ) (pool : pool_of v.pool (class_of node) ≡ rest ++ name ∷ [])
    (small : length (entries_of node) ≤ 32)
    -- who is to open a handle writes an offer, and no node of an offer's size
    (unopened : (handle : ℕ) → v.opens ≡ Some handle → class_of node ≢ 1) where
  abbrev all : AllStand sizes kept.account kept.stands s.words
  all = all_stand sizes s kept

  -- ---- by a store

  module _ (makes : Makes sizes kept.account (made_at v.actor name own node kept.account) v.actor operation node 0) (last value : ℕ) (inside_it : IsWordOf (class_of node) name last)
      (drafted : DraftsNode kept.account (state_of sizes kept.account).heap (over_of operation.line) (Drafted v.drafts last value) name own node)
      (owns : MayOwn operation.line node own) where
    is_spare : IsTaken sizes s.words (class_of node) name × IsSpare sizes kept.account kept.stands name
    is_spare = its_spare sizes s kept id v at operation runs name own node 0 makes rest pool

    abbrev pub words_then : List ℕ
    words_then = set s.words last value

    stored_all : AllStand sizes kept.account kept.stands words_then
    stored_all = all_over sizes kept.account kept.stands s.words all (class_of node) name (class_small node) is_spare.0 is_spare.1 last inside_it value

    else_same : (j : ℕ) → j ≢ last → slice_index words_then j ≡ slice_index s.words j
    else_same = other_word sizes kept.account kept.stands s.words all (class_of node) name (class_small node) is_spare.0 is_spare.1 last inside_it value

    low : (j : ℕ) → j < first_slot_word sizes → slice_index words_then j ≡ slice_index s.words j
    low = low_word sizes kept.account kept.stands s.words all (class_of node) name (class_small node) is_spare.0 is_spare.1 last inside_it value

    there : (j w : ℕ) → Drafted v.drafts last value j w → InTable words_then j w
    there j w h = elim (cases_eq j last) [
      | inl same ↦ ap (λ n. slice_index words_then n) same ∙ get_or-set_same s.words last value 0
          (subst (λ n. last < n) (sym kept.size) (inside sizes s.words kept.taken (class_of node) name last (class_small node) is_spare.0 inside_it)) ∙ sym (h.0 same)
      | inr other ↦ else_same j other ∙ ((kept.seats id v at).drafts (j, w) (h.1 other)).0
    ]

    still : (b n : ℕ) → b < 3 → IsTaken sizes s.words b n → IsTaken sizes words_then b n
    still = taken_over sizes kept.account kept.stands s.words all (class_of node) name (class_small node) is_spare.0 is_spare.1 last inside_it value

    in_words : DraftsNode kept.account (state_of sizes kept.account).heap (over_of operation.line) (InTable words_then) name own node
    in_words = drafts_in kept.account (state_of sizes kept.account).heap (over_of operation.line) (Drafted v.drafts last value) (InTable words_then) name own node there drafted

    taken_then : IsTaken sizes words_then (class_of node) name
    taken_then = still (class_of node) name (class_small node) is_spare.0

    pub all_made : AllStand sizes (made_at v.actor name own node kept.account) (stands_too (length kept.account.names) kept.stands) words_then
    all_made =
        all_then sizes kept.account v.actor operation name own node 0 makes kept.stands words_then stored_all taken_then is_spare.1 small in_words owns words_then stored_all.size stored_all.taken
        (let before = stored_all.generations in let no_more = makes.generations in omega (arith, before, no_more))
        (nodes_then sizes kept.account v.actor operation name own node 0 makes kept.stands words_then stored_all taken_then is_spare.1 small in_words owns)
        (roots_then sizes kept.account v.actor operation name own node 0 makes kept.stands words_then stored_all taken_then is_spare.1 small in_words owns)

    slot_same : (b other : ℕ) → b < 3 → other ≢ name → IsTaken sizes s.words b other → (j : ℕ) → IsWordOf b other j → slice_index words_then j ≡ slice_index s.words j
    slot_same b other small_b differs taken j its =
        else_same j (λ same. differs (slots_apart sizes s.words kept.taken b (class_of node) other name last small_b (class_small node) taken is_spare.0
        (subst (λ n. IsWordOf b other n) same its) inside_it).1)

    -- the rule holds
    pub make_kept : Takes sizes s kept id v at operation runs name own node 0 makes rest pool →
        IsKept sizes (record { words = words_then; homes = s.homes; views = set s.views id (made_by v (class_of node) name rest own node kept.account) })
    make_kept evidence =
        made_kept sizes s kept id v at operation runs name own node 0 makes rest pool words_then all_made (λ a most. low (pin_word a) (omega (arith, most)))
        (λ handle below. (let where_it_is = root_below handle below in low (root_word handle) (omega (arith, where_it_is.1)))) still slot_same unopened evidence
        (slot_beside sizes s kept (class_of node) name (class_small node) is_spare.0 last inside_it value)
        (beside_cell sizes s.words last value (before_cells sizes s.words kept.taken (class_of node) name last (class_small node) is_spare.0 inside_it))
        (word_loosens_none sizes s.words last value (slot_apart sizes s.words kept.taken (class_of node) name last (class_small node) is_spare.0 inside_it).1)

  -- ---- by the exchange of the count of generations

  module _ (makes : Makes sizes kept.account (made_at v.actor name own node kept.account) v.actor operation node 1)
      (drafted : DraftsNode kept.account (state_of sizes kept.account).heap (over_of operation.line) (AreDrafted v.drafts) name own node) (owns : MayOwn operation.line node own) where
    root_spare : IsTaken sizes s.words (class_of node) name × IsSpare sizes kept.account kept.stands name
    root_spare = its_spare sizes s kept id v at operation runs name own node 1 makes rest pool

    abbrev pub given_out : ℕ
    given_out = slice_index s.words generation_word

    abbrev pub root_words : List ℕ
    root_words = set s.words generation_word (given_out + 1)

    beside : (j : ℕ) → j ≢ generation_word → slice_index root_words j ≡ slice_index s.words j
    beside = else_word kept.account s.words generation_word (given_out + 1)

    root_drafted : DraftsNode kept.account (state_of sizes kept.account).heap (over_of operation.line) (InTable s.words) name own node
    root_drafted =
        drafts_in kept.account (state_of sizes kept.account).heap (over_of operation.line) (AreDrafted v.drafts) (InTable s.words) name own node
        (λ j w c. ((kept.seats id v at).drafts (j, w) c).0) drafted

    root_nodes : NodesStand sizes (made_at v.actor name own node kept.account) (stands_too (length kept.account.names) kept.stands) s.words
    root_nodes = nodes_then sizes kept.account v.actor operation name own node 1 makes kept.stands s.words all root_spare.0 root_spare.1 small root_drafted owns

    root_roots : RootsStand sizes (made_at v.actor name own node kept.account) s.words
    root_roots = roots_then sizes kept.account v.actor operation name own node 1 makes kept.stands s.words all root_spare.0 root_spare.1 small root_drafted owns

    before_slots : generation_word < first_slot_word sizes
    before_slots = omega arith

    root_taken : (b n : ℕ) → b < 3 → IsTaken sizes s.words b n → IsTaken sizes root_words b n
    root_taken b n low h = record { number = h.number; few = subst (λ m. h.number < m) (sym (beside (taken_word b) (λ e. absurd (omega (arith, e))))) h.few; first = h.first }

    pub root_made : AllStand sizes (made_at v.actor name own node kept.account) (stands_too (length kept.account.names) kept.stands) root_words
    root_made =
        all_then sizes kept.account v.actor operation name own node 1 makes kept.stands s.words all root_spare.0 root_spare.1 small root_drafted owns root_words
        (length-set s.words generation_word (given_out + 1) ∙ kept.size)
        (λ c low. subst (λ n. n ≤ slots_in sizes c) (sym (beside (taken_word c) (λ e. absurd (omega (arith, e))))) (kept.taken c low))
        (let size = kept.size in let same = get_or-set_same s.words generation_word (given_out + 1) 0 (omega (arith, size)) in let before = kept.generations in let one = makes.generations in omega
        (arith, same, before, one))
        (nodes_below sizes (made_at v.actor name own node kept.account) (stands_too (length kept.account.names) kept.stands) s.words kept.taken root_nodes root_roots generation_word before_slots
        (given_out + 1) root_taken)
        (roots_below sizes (made_at v.actor name own node kept.account) (stands_too (length kept.account.names) kept.stands) s.words kept.taken root_nodes root_roots generation_word before_slots
        (given_out + 1) root_taken
        (λ handle low e. (let where_it_is = root_below handle low in absurd (omega (arith, e, where_it_is.0)))))

    -- the rule holds
    pub make_root_kept : Takes sizes s kept id v at operation runs name own node 1 makes rest pool →
        IsKept sizes (record { words = root_words; homes = s.homes; views = set s.views id (made_by v (class_of node) name rest own node kept.account) })
    make_root_kept evidence =
        made_kept sizes s kept id v at operation runs name own node 1 makes rest pool root_words root_made (λ a most. beside (pin_word a) (λ e. absurd (omega (arith, e))))
        (λ handle below. (let where_it_is = root_below handle below in beside (root_word handle) (λ e. absurd (omega (arith, e, where_it_is.0))))) root_taken
        (λ b other low differs taken j its. beside j (no_slot sizes kept.account kept.stands s.words kept.taken kept.nodes kept.roots generation_word before_slots
        (given_out + 1) root_taken b other low taken j its)) unopened evidence
        (λ c is. ap references_in (beside c (not_count c is))) (beside_cell sizes s.words generation_word (given_out + 1) (omega arith))
        (word_loosens_none sizes s.words generation_word (given_out + 1) not_count)
      where
        not_count : (c : ℕ) → IsCount sizes c → c ≢ generation_word
        not_count c is same = let far = count_above sizes c is in omega (arith, far, same)
