-- A fresh main node is swapped in: the indirection's word names it, its header says already that it is pending, and all else stands as it did.
use Rattle.std.proofs.Common.{◌≡◌, ◌≢◌, ℕ, inl, inr, Bool, true, List, get_or, None, refl, sym, ap, subst, ◌∙◌}
use Rattle.std.proofs.lemmas.Bool.{cases_eq, true≢false}
use Rattle.std.proofs.lemmas.Option.{same_Some}
use Rattle.machine_model.specs.Beneath.slot_arena.specs.declared.refs.Ref.{Ref}
use Rattle.machine_model.specs.Beneath.slot_arena.specs.declared.nodes.Node.{Node}
use Rattle.machine_model.specs.Beneath.slot_arena.specs.declared.nodes.Node.TheVariants.{Indirection, Branch, Single, Tomb, List as Listed}
use Rattle.machine_model.specs.Beneath.slot_arena.specs.declared.nodes.Prev.{Prev}
use Rattle.machine_model.specs.Beneath.slot_arena.specs.declared.nodes.Prev.TheVariants as prev
use Rattle.machine_model.specs.Beneath.slot_arena.specs.declared.nodes.Slot.{Slot}
use Rattle.machine_model.specs.Beneath.slot_arena.specs.Refs.{slot_of}
use Rattle.machine_model.specs.Beneath.slot_arena.specs.Heaps.{node_at, stored, node_of, main_of, main_at}
use Rattle.machine_model.specs.declared.operations.Operation.{Operation}
use Rattle.machine_model.specs.States.{State}
use Rattle.proof_memory.specs.Wants.{is_main_node}
use Rattle.trie_words.specs.Codes.{entry_code}
use Rattle.trie_words.specs.declared.headers.Previous.{Previous}
use Rattle.trie_words.specs.declared.headers.Previous.TheVariants as previous
use Rattle.trie_words.specs.declared.headers.Shape.{Shape}
use Rattle.lock_free.specs.declared.accounts.Account.{Account}
use Rattle.lock_free.specs.declared.sizes.Sizes.{Sizes}
use Rattle.lock_free.specs.Accounts.{state_of, place_of, OwnIs, later}
use Rattle.lock_free.specs.Nodes.{Has, StandsAs, AreEntries, IsEntryOf, is_single, half_of, IsOver, SaysPrevious, decided, ahead, pending, failed, SaysShape, of_branch, of_tomb, of_list}
use Rattle.lock_free.specs.Nodes.{SaysHeader}
use Rattle.lock_free.specs.Publishing.{swapped_in, over, Publishes}
use Rattle.lock_free.proofs.Made.{is_pending, is_failed}

module _ (sizes : Sizes) (account : Account) (actor : ℕ) (operation : Operation) (i a f : Ref) (publishes : Publishes sizes account (swapped_in actor i f account) actor operation i a f) where
  abbrev pub after : Account
  after = swapped_in actor i f account

  abbrev now : State
  now = state_of sizes account

  abbrev next : State
  next = state_of sizes after

  owns : (j m : ℕ) (b : Bool) → OwnIs account.owned j m b → OwnIs after.owned j m b
  owns j m b h = later _ account.owned j m b h

  -- the indirection is no main node, so it isn't the fresh one
  pub differ : slot_of i ≢ slot_of f
  differ same =
      let both : publishes.link ≡ publishes.fresh = same_Some publishes.link publishes.fresh (sym publishes.link_is ∙ ap (λ n. get_or now.heap.slots n None) same ∙ publishes.fresh_is) in
      true≢false (sym publishes.fresh_main ∙ ap (λ (x : Slot). is_main_node x.node) (sym both) ∙ ap is_main_node publishes.link_node)

  -- ---- what nodes are

  single_kept : (r : Ref) → is_single (node_at next.heap r) ≡ is_single (node_at now.heap r)
  unfolding node_at stored
  single_kept r = elim (cases_eq (slot_of r) (slot_of i)) [
    | inl at_link ↦
        ap (λ n. is_single (node_of (get_or next.heap.slots n None))) at_link ∙ ap (λ x. is_single (node_of x)) publishes.link_then ∙ sym (ap is_single publishes.link_node)
        ∙ sym (ap (λ x. is_single (node_of x)) publishes.link_is) ∙ sym (ap (λ n. is_single (node_of (get_or now.heap.slots n None))) at_link)
    | inr other ↦ elim (cases_eq (slot_of r) (slot_of f)) [
      | inl at_fresh ↦
          ap (λ n. is_single (node_of (get_or next.heap.slots n None))) at_fresh ∙ ap (λ x. is_single (node_of x)) publishes.fresh_then
          ∙ sym (ap (λ x. is_single (node_of x)) publishes.fresh_is) ∙ sym (ap (λ n. is_single (node_of (get_or now.heap.slots n None))) at_fresh)
      | inr another ↦ ap (λ x. is_single (node_of x)) (publishes.nodes (slot_of r) other another)
    ]
  ]

  -- the main word of another indirection
  main_else : (j : Ref) → slot_of j ≢ slot_of i → main_at next.heap j ≡ main_at now.heap j
  unfolding node_at stored
  main_else j other = elim (cases_eq (slot_of j) (slot_of f)) [
    | inl at_fresh ↦
        ap (λ n. main_of (node_of (get_or next.heap.slots n None))) at_fresh ∙ ap (λ x. main_of (node_of x)) publishes.fresh_then
        ∙ sym (ap (λ x. main_of (node_of x)) publishes.fresh_is) ∙ sym (ap (λ n. main_of (node_of (get_or now.heap.slots n None))) at_fresh)
    | inr another ↦ ap (λ x. main_of (node_of x)) (publishes.nodes (slot_of j) other another)
  ]

  main_here : (j : Ref) → slot_of j ≡ slot_of i → main_at next.heap j ≡ f
  unfolding node_at stored
  main_here j same = ap (λ n. main_of (node_of (get_or next.heap.slots n None))) same ∙ ap (λ x. main_of (node_of x)) publishes.link_then

  -- ---- what words say

  entry_kept : (e : Ref) (half : ℕ) → IsEntryOf account now.heap e half → IsEntryOf after next.heap e half
  entry_kept e half h = record { own = h.own; code = h.code ∙ ap (λ b. entry_code (record { slot = place_of account e; own = h.own; is_single = b })) (sym (single_kept e)) }

  entries_kept : (has : Has) (p : ℕ) (entries : List Ref) → AreEntries account now.heap has p entries → AreEntries after next.heap has p entries
  entries_kept has p entries h position e at = let x = h position e at in (x.0, x.1, entry_kept e (half_of x.0 position) x.2)

  shape_kept : (k : ℕ) (n : Node) (says : Shape) → SaysShape account k n says → SaysShape after k n says
  shape_kept k n says (of_branch bitmap entries) = of_branch bitmap entries
  shape_kept k n says (of_tomb single b is) = of_tomb single b (owns k (slot_of single) b is)
  shape_kept k n says (of_list singles) = of_list singles

  over_kept : (k : ℕ) (q : Ref) (b : Bool) → k ≢ slot_of f → IsOver account now k q b → IsOver after next k q b
  over_kept k q b other h j e = elim (cases_eq (slot_of j) (slot_of i)) [
    | inl here ↦ absurd (other (sym e ∙ ap slot_of (main_here j here)))
    | inr else_where ↦ owns (slot_of j) (slot_of q) b (h j (ap slot_of (sym (main_else j else_where)) ∙ e))
  ]

  previous_kept : (k : ℕ) (p : Prev) (says : Previous) → k ≢ slot_of f → SaysPrevious account now k p says → SaysPrevious after next k p says
  previous_kept k p says other (decided none) = decided (λ j b g h its. none j b g (publishes.no_more j b g h).0 its)
  previous_kept k p says other (ahead j b g own h its is) = ahead j b g own (publishes.still j b g h (λ same. other (sym its ∙ same))) its (owns (slot_of j) (slot_of b) own is)
  previous_kept k p says other (pending q own h) = pending q own (over_kept k q own other h)
  previous_kept k p says other (failed q own h) = failed q own (over_kept k q own other h)

  header_kept : (k : ℕ) (slot : Slot) (word : ℕ) → k ≢ slot_of f → SaysHeader account now k slot word → SaysHeader after next k slot word
  header_kept k slot word other h = record {
    previous = h.previous;
    is_previous = previous_kept k slot.prev h.previous other h.is_previous;
    shape = h.shape;
    is_shape = shape_kept k slot.node h.shape h.is_shape;
    code = h.code;
  }

  pub else_stands : (has : Has) (p k : ℕ) (slot : Slot) (n : Node) → k ≢ slot_of f → StandsAs account now has p k slot n → StandsAs after next has p k slot n
  else_stands has p k slot (Indirection generation main) other h = (h.0, (h.1.0, owns k (slot_of main) h.1.0 h.1.1, h.1.2))
  else_stands has p k slot (Single key value) other h = h
  else_stands has p k slot (Branch bitmap entries) other h = ((h.0.0, h.0.1, header_kept k slot h.0.0 other h.0.2), entries_kept has p entries.items h.1)
  else_stands has p k slot (Tomb single) other h = (h.0, h.1, header_kept k slot h.0 other h.2)
  else_stands has p k slot (Listed singles) other h = ((h.0.0, h.0.1, header_kept k slot h.0.0 other h.0.2), entries_kept has p singles.items h.1)

  -- the fresh node's header says already that it is pending
  fresh_previous : (p : Prev) (says : Previous) → p ≡ prev.None → SaysPrevious account now (slot_of f) p says → SaysPrevious after next (slot_of f) (prev.Pending a) says
  fresh_previous p says is (decided none) = absurd (none i a f publishes.was_ahead refl)
  fresh_previous p says is (ahead j b g own h its owned) =
      let alone = publishes.alone j b g h its in
      subst (λ r. SaysPrevious after next (slot_of f) (prev.Pending a) (previous.Pending (record { slot = place_of account r; own = own }))) (sym alone.1)
      (pending a own (λ l e. elim (cases_eq (slot_of l) (slot_of i)) [
        | inl here ↦ subst (λ n. OwnIs after.owned n (slot_of a) own) (alone.0 ∙ sym here) (subst (λ r. OwnIs after.owned (slot_of j) (slot_of r) own) alone.1 (owns (slot_of j) (slot_of b) own owned))
        | inr else_where ↦ absurd (publishes.nowhere l else_where (ap slot_of (sym (main_else l else_where)) ∙ e))
      ]))
  fresh_previous p says is (pending q own h) = absurd (is_pending q is)
  fresh_previous p says is (failed q own h) = absurd (is_failed q is)

  fresh_header : (word : ℕ) → SaysHeader account now (slot_of f) publishes.fresh word → SaysHeader after next (slot_of f) (over publishes.fresh a) word
  fresh_header word h = record {
    previous = h.previous;
    is_previous = fresh_previous publishes.fresh.prev h.previous publishes.fresh_prev h.is_previous;
    shape = h.shape;
    is_shape = shape_kept (slot_of f) publishes.fresh.node h.shape h.is_shape;
    code = h.code;
  }

  pub fresh_stands : (has : Has) (p : ℕ) (n : Node) → is_main_node n ≡ true → StandsAs account now has p (slot_of f) publishes.fresh n → StandsAs after next has p (slot_of f)
      (over publishes.fresh a) n
  fresh_stands has p (Indirection generation main) m h = absurd (true≢false (sym m))
  fresh_stands has p (Single key value) m h = absurd (true≢false (sym m))
  fresh_stands has p (Branch bitmap entries) m h = ((h.0.0, h.0.1, fresh_header h.0.0 h.0.2), entries_kept has p entries.items h.1)
  fresh_stands has p (Tomb single) m h = (h.0, h.1, fresh_header h.0 h.2)
  fresh_stands has p (Listed singles) m h = ((h.0.0, h.0.1, fresh_header h.0.0 h.0.2), entries_kept has p singles.items h.1)
