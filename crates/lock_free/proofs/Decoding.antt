-- What stands in a word comes back from it.
use Rattle.history.specs.declared.calls.Call.{Call}
use Rattle.std.proofs.Common.{◌≡◌, ◌^◌, ◌<◌, ◌≤◌, ℕ, Bool, true, [], ◌∷◌, Contains, get_or, length, nat_lt, nat_le, count_ones, Some, None, refl, sym, ap, subst, ◌∙◌, arith, ltb-true}
use Rattle.std.proofs.lemmas.Bool.{and_parts}
use Rattle.std.proofs.lemmas.List.Elements.{Contains-get_or, Contains-append_left, Contains-append_right}
use Rattle.atomic_table.specs.Table as Table
use Rattle.trie_words.specs.Codes.{IsLink, link_code, link_of, IsPrevious, IsShape, IsHeader, header_of}
use Rattle.trie_words.specs.declared.headers.Header.{Header}
use Rattle.trie_words.specs.declared.headers.Previous.{Previous}
use Rattle.trie_words.specs.declared.headers.Shape.{Shape}
use Rattle.trie_words.specs.declared.links.Link.{Link}
use Rattle.trie_words.proofs.Parts.{header_back, link_back}
use Rattle.machine_model.specs.Beneath.slot_arena.specs.declared.refs.Ref.{Ref}
use Rattle.machine_model.specs.Beneath.slot_arena.specs.declared.nodes.Node.{Node}
use Rattle.machine_model.specs.Beneath.slot_arena.specs.declared.nodes.Node.TheVariants.{Indirection}
use Rattle.machine_model.specs.Beneath.slot_arena.specs.declared.nodes.Prev.{Prev}
use Rattle.machine_model.specs.Beneath.slot_arena.specs.declared.nodes.Prev.TheVariants as prev
use Rattle.machine_model.specs.Beneath.slot_arena.specs.declared.nodes.Slot.{Slot}
use Rattle.machine_model.specs.Beneath.slot_arena.specs.Heaps.{stored, refs_of_node, refs_of_prev, refs_of_slot, entries_of}
use Rattle.machine_model.specs.Beneath.slot_arena.specs.Refs.{slot_of}
use Rattle.machine_model.specs.States.{State}
use Rattle.machine_model.specs.declared.lines.Line.{Line}
use Rattle.machine_model.specs.declared.lines.Line.TheVariants as line
use Rattle.machine_model.specs.Swapping.{swapping}
use Rattle.proof_memory.specs.Wants.{is_main_node, is_formed}
use Rattle.lock_free.specs.declared.accounts.Account.{Account}
use Rattle.lock_free.specs.declared.rules.View.{View}
use Rattle.lock_free.specs.Accounts.{state_of, place_of, OwnIs}
use Rattle.lock_free.specs.Live.{line_claims, refs_of_claims, from_slot, from_operation, IsLive}
use Rattle.lock_free.specs.Loading.{HasHeader, HasLink}
use Rattle.lock_free.specs.Nodes.{class_of, IsAhead, SaysPrevious, decided, ahead, pending, failed, SaysShape, of_branch, of_tomb, of_list, SaysHeader}
use Rattle.lock_free.specs.Rules.{IsKept}
use Rattle.lock_free.proofs.Asked.{live_in_use, is_well_formed}
use Rattle.lock_free.proofs.Framing.{class_small, node_end}
use Rattle.lock_free.proofs.Within.{two_words}

module _ (v : View) (s : Table.State Call View) (kept : IsKept v.sizes s) where
  abbrev there : Account
  there = kept.account

  abbrev state : State
  state = state_of v.sizes there

  pub place_small : (r : Ref) → IsLive state r → place_of there r < 2 ^ 27
  place_small r live =
      let is = live_in_use v.sizes there kept.bounds r live in
      let h = node_end v.sizes is.0.node (place_of there r) (kept.nodes.inside (slot_of r) is.0 is.1) in
      let two = two_words (class_of is.0.node) (class_small is.0.node) in
      let range = kept.range.within in
      omega (arith, h, two, range)

  -- ---- what stands in a live node is live

  pub node_lives : (r q : Ref) (slot : Slot) → IsLive state r → get_or state.heap.slots (slot_of r) None ≡ Some slot → Contains (refs_of_slot (Some slot)) q → IsLive state q
  unfolding stored
  node_lives r q slot live is c = from_slot r q live (subst (λ o. Contains (refs_of_slot o) q) (sym is) c)

  pub ahead_lives : (i a f : Ref) → IsAhead state i a f → IsLive state a
  ahead_lives i a f h =
      from_operation h.actor h.operation a h.runs tt
      (Contains-append_left (refs_of_claims (line_claims state h.operation)) h.operation.private a
      (subst (λ (l : Line). Contains (refs_of_claims (line_claims state (record h.operation { line = l }))) a) (sym h.on)
      (Contains-get_or (refs_of_claims (line_claims state (record h.operation { line = line.Swap h.why (swapping i a f) }))) 1 a (omega arith))))

  module _ (r : Ref) (slot : Slot) (live : IsLive state r) (is : get_or state.heap.slots (slot_of r) None ≡ Some slot) where
    prev_small : (p : Prev) (q : Ref) → p ≡ slot.prev → Contains (refs_of_prev p) q → place_of there q < 2 ^ 27
    prev_small p q same c = place_small q (node_lives r q slot live is (Contains-append_right (refs_of_node slot.node) (refs_of_prev slot.prev) q (subst (λ x. Contains (refs_of_prev x) q) same c)))

    previous_fits : (p : Prev) (says : Previous) → p ≡ slot.prev → SaysPrevious there state (slot_of r) p says → IsPrevious says
    previous_fits p says same (decided none) = tt
    previous_fits p says same (ahead i a f own h its owned) = place_small a (ahead_lives i a f h)
    previous_fits p says same (pending q own over) = prev_small (prev.Pending q) q same (Contains-get_or (q ∷ []) 0 q (omega arith))
    previous_fits p says same (failed q own over) = prev_small (prev.Failed q) q same (Contains-get_or (q ∷ []) 0 q (omega arith))

    shape_fits : (n : Node) (says : Shape) → n ≡ slot.node → SaysShape there (slot_of r) n says → IsShape says
    shape_fits n says same (of_branch bitmap entries) =
        ltb-true bitmap (2 ^ 32) (and_parts (nat_lt bitmap (2 ^ 32)) (nat_le (count_ones bitmap) (length entries.items))
        (ap is_formed same ∙ is_well_formed v.sizes there kept.bounds (slot_of r) slot is)).0
    shape_fits n says same (of_tomb single own owned) =
        place_small single (node_lives r single slot live is (Contains-append_left (refs_of_node slot.node) (refs_of_prev slot.prev) single
        (subst (λ x. Contains (refs_of_node x) single) same (Contains-get_or (single ∷ []) 0 single (omega arith)))))
    shape_fits n says same (of_list singles) =
        let few = subst (λ x. length (entries_of x) ≤ 32) (sym same) (kept.nodes.small (slot_of r) slot (kept.nodes.live r live, is)) in omega (arith, few)

    -- the header comes back
    pub header_found : (found : ℕ) → is_main_node slot.node ≡ true → SaysHeader there state (slot_of r) slot found → HasHeader there state r (header_of found)
    header_found found main h =
        let header : Header = record { previous = h.previous; shape = h.shape } in
        let fits : IsHeader header = (previous_fits slot.prev h.previous refl h.is_previous, shape_fits slot.node h.shape refl h.is_shape) in
        subst (λ x. HasHeader there state r x) (sym (ap header_of h.code ∙ header_back header fits))
        (record {
          slot = slot;
          stores = is;
          is_main = main;
          is_previous = h.is_previous;
          is_shape = h.is_shape;
          fits = fits;
          used = λ q c. live_in_use v.sizes there kept.bounds q
              (node_lives r q slot live is c);
        })

    -- and so does the link
    pub link_found : (found generation : ℕ) (main : Ref) (own : Bool) → slot.node ≡ Indirection generation main → generation < 2 ^ 36 → OwnIs there.owned (slot_of r) (slot_of main) own →
        found ≡ link_code (record { generation = generation; main = record { slot = place_of there main; own = own } }) → HasLink there state r (link_of found)
    link_found found generation main own node small owned code =
        let link : Link = record { generation = generation; main = record { slot = place_of there main; own = own } } in
        let named : Contains (refs_of_node slot.node) main = subst (λ x. Contains (refs_of_node x) main) (sym node) (Contains-get_or (main ∷ []) 0 main (omega arith)) in
        let main_lives : IsLive state main = node_lives r main slot live is (Contains-append_left (refs_of_node slot.node) (refs_of_prev slot.prev) main named) in
        let fits : IsLink link = (small, place_small main main_lives) in
        subst (λ x. HasLink there state r x) (sym (ap link_of code ∙ link_back link fits))
        (record { slot = slot; stores = is; main = main; is_link = node; place = refl; is_own = owned; fits = fits; used = live_in_use v.sizes there kept.bounds main main_lives })
