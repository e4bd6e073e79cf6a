-- What stands under the new entries of a branch that is renewed.
use Rattle.std.proofs.Common.{◌≡◌, ℕ, zero, suc, ◌+◌, ◌*◌, ◌<◌, ◌≤◌, Bool, true, false, cond, List, [], ◌∷◌, ◌++◌, length, get_or, Some, refl, sym, ap, ◌∙◌, subst, arith}
use Rattle.std.proofs.Math.Seq.{get_or-append_seam}
use Rattle.std.proofs.lemmas.Bool.{false≢true}
use Rattle.std.proofs.lemmas.List.{get_or_append_left, length-append}
use Rattle.proof_straight.specs.Vocabulary.{Node, Indirection, Slot, Ref, Heap, generation_at, main_at, no_ref, stored, slot_of, State}
use Rattle.proof_straight.specs.Drafts.{next_made}
use Rattle.proof_straight.specs.Renewals.{Renewal, is_old, renewal_slots, renewal_steps, renewed_entries, renewed_entry}
use Rattle.proof_straight.proofs.Change.Builds.{IsDraft, has_made}
use Rattle.proof_straight.proofs.Change.Slots.{made_slot, takes}

-- this node stands there, in a slot where nothing stood before the call
pub record IsNew (state : State) (heap : Heap) (node : Node) (r : Ref) : Type 0 where
  pub slot : Slot
  pub stands : stored heap r ≡ Some slot
  pub node_is : slot.node ≡ node
  pub apart : (q : Ref) (was : Slot) → stored state.heap q ≡ Some was → slot_of q ≡ slot_of r → ⊥

module _ (state : State) (root : Ref) where
  -- one entry is renewed, or kept
  record Next (start next : Renewal) (slots : ℕ) : Type 0 where
    is : IsDraft state next.draft
    fewer : length start.draft.heap.free ≡ slots + length next.draft.heap.free
    stays : (r : Ref) (slot : Slot) → stored start.draft.heap r ≡ Some slot → stored next.draft.heap r ≡ Some slot
    last : Ref
    entries : next.entries ≡ start.entries ++ last ∷ []

  abbrev link_to : Ref → Node
  link_to entry = Indirection (generation_at state.heap root) (main_at state.heap entry)

  next_by : (entry : Ref) (old : Bool) (start : Renewal) → IsDraft state start.draft → cond old 1 0 ≤ length start.draft.heap.free →
      Next start (renewed_entry state root entry old start) (cond old 1 0)
  next_by entry true start h enough =
      let t = takes start.draft.heap (link_to entry) h.empty enough in
      record { is = (has_made state start.draft (link_to entry) h enough).is; fewer = omega (arith, t.fewer); stays = t.others; last = next_made start.draft.heap; entries = refl }
  next_by entry false start h enough = record { is = h; fewer = omega arith; stays = λ r slot at. at; last = entry; entries = refl }

  -- an old one is renewed
  new_last : (entry : Ref) (old : Bool) (start : Renewal) (h : IsDraft state start.draft) (enough : cond old 1 0 ≤ length start.draft.heap.free) → old ≡ true →
      IsNew state (renewed_entry state root entry old start).draft.heap (link_to entry) (next_by entry old start h enough).last
  unfolding next_by
  new_last entry true start h enough e =
      let t = takes start.draft.heap (link_to entry) h.empty enough in
      record { slot = made_slot start.draft.heap (link_to entry); stands = t.here; node_is = refl; apart = λ q was at. t.apart q was (h.stays q was at) }
  new_last entry false start h enough e = absurd (false≢true e)

  -- all of them are
  pub record Done (start done : Renewal) (many : ℕ) : Type 0 where
    pub is : IsDraft state done.draft
    pub stays : (r : Ref) (slot : Slot) → stored start.draft.heap r ≡ Some slot → stored done.draft.heap r ≡ Some slot
    pub size : length done.entries ≡ length start.entries + many
    pub kept : (i : ℕ) → i < length start.entries → get_or done.entries i no_ref ≡ get_or start.entries i no_ref

  pub done_all : (rest : List Ref) (start : Renewal) → IsDraft state start.draft → renewal_slots state root rest ≤ length start.draft.heap.free →
      Done start (renewed_entries state root rest start) (length rest)
  unfolding renewed_entries renewal_slots
  done_all [] start h enough = record { is = h; stays = λ r slot at. at; size = omega arith; kept = λ i less. refl }
  done_all (entry ∷ rest) start h enough =
      let old = is_old state root entry in
      let n = next_by entry old start h (omega (arith, enough)) in
      let d = done_all rest (renewed_entry state root entry old start) n.is (omega (arith, enough, n.fewer)) in
      record {
        is = d.is;
        stays = λ r slot at. d.stays r slot (n.stays r slot at);
        size = omega (arith, d.size, ap length n.entries, length-append start.entries (n.last ∷ []));
        kept = λ i less.
            d.kept i (omega (arith, less, ap length n.entries, length-append start.entries (n.last ∷ []))) ∙ ap (λ l. get_or l i no_ref) n.entries
            ∙ get_or_append_left start.entries (n.last ∷ []) no_ref i less;
      }

  -- so an indirection of the root's generation stands in the place of an old entry
  pub renewed_link : (rest : List Ref) (start : Renewal) (i k : ℕ) → IsDraft state start.draft → renewal_slots state root rest ≤ length start.draft.heap.free → i < length rest →
      k ≡ length start.entries + i → is_old state root (get_or rest i no_ref) ≡ true →
      IsNew state (renewed_entries state root rest start).draft.heap (link_to (get_or rest i no_ref)) (get_or (renewed_entries state root rest start).entries k no_ref)
  unfolding renewed_entries renewal_slots
  renewed_link [] start i k h enough within at old = absurd (omega (arith, within))
  renewed_link (entry ∷ rest) start zero k h enough within at old =
      let o = is_old state root entry in
      let n = next_by entry o start h (omega (arith, enough)) in
      let d = done_all rest (renewed_entry state root entry o start) n.is (omega (arith, enough, n.fewer)) in
      let new = new_last entry o start h (omega (arith, enough)) old in
      let size = length-append start.entries (n.last ∷ []) in
      let place : k ≡ length start.entries = omega (arith, at) in
      let found =
      d.kept k (omega (arith, at, ap length n.entries, size)) ∙ ap (λ l. get_or l k no_ref) n.entries ∙ ap (λ j. get_or (start.entries ++ n.last ∷ []) j no_ref) place
      ∙ get_or-append_seam start.entries n.last [] no_ref in
      subst (IsNew state (renewed_entries state root rest (renewed_entry state root entry o start)).draft.heap (link_to entry)) (sym found)
      (record { slot = new.slot; stands = d.stays n.last new.slot new.stands; node_is = new.node_is; apart = new.apart })
  renewed_link (entry ∷ rest) start (suc i) k h enough within at old =
      let o = is_old state root entry in
      let n = next_by entry o start h (omega (arith, enough)) in
      renewed_link rest (renewed_entry state root entry o start) i k n.is (omega (arith, enough, n.fewer)) (omega (arith, within))
      (omega (arith, at, ap length n.entries, length-append start.entries (n.last ∷ []))) old

  -- ---- how many are made

  one_private : (entry : Ref) (old : Bool) (start : Renewal) → length (renewed_entry state root entry old start).draft.private ≡ length start.draft.private + cond old 1 0
  one_private entry true start = length-append start.draft.private (next_made start.draft.heap ∷ [])
  one_private entry false start = omega arith

  pub all_private : (rest : List Ref) (start : Renewal) → length (renewed_entries state root rest start).draft.private ≡ length start.draft.private + renewal_slots state root rest
  unfolding renewed_entries renewal_slots
  all_private [] start = omega arith
  all_private (entry ∷ rest) start =
      omega (arith, all_private rest (renewed_entry state root entry (is_old state root entry) start), one_private entry (is_old state root entry) start)

  four_or_one : (old : Bool) → cond old 4 1 ≡ 1 + 3 * cond old 1 0
  four_or_one true = refl
  four_or_one false = refl

  pub steps_by_slots : (rest : List Ref) → renewal_steps state root rest ≡ length rest + 3 * renewal_slots state root rest
  unfolding renewal_steps renewal_slots
  steps_by_slots [] = refl
  steps_by_slots (entry ∷ rest) = omega (arith, steps_by_slots rest, four_or_one (is_old state root entry))

  at_most_one : (old : Bool) → cond old 1 0 ≤ 1
  at_most_one true = omega arith
  at_most_one false = omega arith

  pub slots_most : (rest : List Ref) → renewal_slots state root rest ≤ length rest
  unfolding renewal_slots
  slots_most [] = omega arith
  slots_most (entry ∷ rest) = omega (arith, slots_most rest, at_most_one (is_old state root entry))
