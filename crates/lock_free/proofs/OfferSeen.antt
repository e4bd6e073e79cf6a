-- Loads of what an offer offers.
use Rattle.std.proofs.Common.{◌≡◌, ◌+◌, ◌*◌, ◌<◌, ◌^◌, ◌∷◌, [], inl, inr, ℕ, Contains, slice_index, get_or, Option, Some, None, sym, subst, ap, ◌∙◌, arith}
use Rattle.std.proofs.lemmas.Bool.{cases_eq}
use Rattle.std.proofs.lemmas.List.Elements.{Contains-get_or, Contains-append_right}
use Rattle.trie_words.specs.Codes.{pair_of, IsPair}
use Rattle.trie_words.specs.declared.entries.Pair.{Pair}
use Rattle.trie_words.proofs.Parts.{pair_back}
use Rattle.machine_model.specs.Beneath.slot_arena.specs.declared.refs.Ref.{Ref}
use Rattle.machine_model.specs.Beneath.slot_arena.specs.declared.nodes.Slot.{Slot}
use Rattle.machine_model.specs.Beneath.slot_arena.specs.Heaps.{refs_of_option}
use Rattle.machine_model.specs.Beneath.slot_arena.specs.Refs.{slot_of}
use Rattle.machine_model.specs.States.{State, root_at, word_of}
use Rattle.proof_memory.specs.Laws.{IsInUse}
use Rattle.proof_waiting.specs.Beneath.proof_slots.proofs.Unswept.Kept.{one_ref}
use Rattle.lock_free.specs.declared.accounts.Account.{Account}
use Rattle.lock_free.specs.declared.accounts.Known.{Known}
use Rattle.lock_free.specs.declared.rules.View.{View}
use Rattle.lock_free.specs.Accounts.{state_of, place_of}
use Rattle.lock_free.specs.Fates.{IsUnsettled}
use Rattle.lock_free.specs.HandleWords.{HasOffer}
use Rattle.lock_free.specs.Live.{IsLive, from_root}
use Rattle.lock_free.specs.Loading.{Moment, Holds, IsSound, HasSeen}
use Rattle.lock_free.specs.Making.{refs_of_offer}
use Rattle.lock_free.specs.Nodes.{class_of}
use Rattle.lock_free.specs.Roots.{IsWritten, fate, second_of, undecided}
use Rattle.lock_free.specs.RootWords.{SaysNews, SaysOlds, HasSeenNews, HasSeenOlds}
use Rattle.lock_free.proofs.AbortStep.{known_there}
use Rattle.lock_free.proofs.Framing.{class_small, node_end}
use Rattle.lock_free.proofs.Looking.{saw}
use Rattle.lock_free.proofs.Moments.{held_there, its_place}
use Rattle.lock_free.proofs.OneStep.Found.{live_used, slot_at}
use Rattle.lock_free.proofs.OneStep.Offers.{offer_in, stood_used}
use Rattle.lock_free.proofs.Stood.{stands_there}
use Rattle.lock_free.proofs.Within.{two_words}
use Rattle.lock_free.specs.Parting.{IsMet}
use Rattle.lock_free.proofs.PartingStay.{standing_stood}

-- its words are the table's
pub offer_inside : (words : ℕ) (v : View) → IsSound words v → (handle slot : ℕ) → HasOffer v.sizes v.account v.pin handle slot → (2 * slot < words) × (2 * slot + 1 < words) × (2 * slot + 2 < words)
offer_inside words v sound handle slot h =
    let size = sound.size in let inside = h.inside in (omega (arith, size, inside), omega (arith, size, inside), omega (arith, size, inside))

module _ (before : View) (word found : ℕ) (m : Moment before word found) (k : Known) (c : IsMet before.account before.pin k) where
  abbrev there : Account
  there = m.kept.account

  abbrev state : State
  state = state_of before.sizes there

  here : Contains there.offers k
  here = known_there before m.table m.kept m.id m.at k c

  written : IsWritten there m.table.words k
  written = m.kept.roots.offers k here

  -- what it names is in use
  in_use : (r : Ref) → Contains (refs_of_offer k.offer) r → IsInUse state.heap r
  in_use r in_it = stood_used before.sizes there m.kept.bounds m.kept.quiet k.offer (standing_stood before.sizes there m.table.words m.kept.roots k here) r in_it

  used : (r : Ref) → Contains (refs_of_offer k.offer) r → (slot : Slot) × (get_or state.heap.slots (slot_of r) None ≡ Some slot)
  used r in_it = let u = in_use r in_it in (u.0, slot_at state.heap r u.0 u.1)

  small : (r : Ref) → Contains (refs_of_offer k.offer) r → place_of there r < 2 ^ 32
  small r in_it =
      let u = used r in_it in
      let inside = node_end before.sizes u.0.node (place_of there r) (m.kept.nodes.inside (slot_of r) u.0 u.1) in
      let two = two_words (class_of u.0.node) (class_small u.0.node) in
      let range = m.kept.range.within in
      omega (arith, inside, two, range)

  root_in : Contains (refs_of_offer k.offer) k.offer.root
  root_in = Contains-get_or (refs_of_offer k.offer) 0 k.offer.root (omega arith)

  expected_in : Contains (refs_of_offer k.offer) k.offer.expected
  expected_in = Contains-get_or (refs_of_offer k.offer) 1 k.offer.root (omega arith)

  successor_in : Contains (refs_of_offer k.offer) k.offer.successor
  successor_in = Contains-get_or (refs_of_offer k.offer) 2 k.offer.root (omega arith)

  seconds_in : (r : Ref) → Contains (refs_of_option k.offer.second) r → Contains (refs_of_offer k.offer) r
  seconds_in r d = Contains-append_right (k.offer.root ∷ k.offer.expected ∷ k.offer.successor ∷ []) (refs_of_option k.offer.second) r d

  second_small : (o : Option Ref) → ((r : Ref) → Contains (refs_of_option o) r → Contains (refs_of_offer k.offer) r) → second_of there o < 2 ^ 32
  second_small None in_it = omega arith
  second_small (Some r) in_it = small r (in_it r (Contains-get_or (r ∷ []) 0 r (omega arith)))

  -- ---- the old root and its main node

  module _ (its_word : word ≡ 2 * k.slot + 1) where
    abbrev olds : Pair
    olds = record { low = place_of there k.offer.root; high = place_of there k.offer.expected }

    olds_found : pair_of found ≡ olds
    olds_found =
        let fits : IsPair olds = (small k.offer.root root_in, small k.offer.expected expected_in) in
        ap pair_of (sym m.finds ∙ ap (slice_index m.table.words) its_word ∙ written.olds) ∙ pair_back olds fits

    -- while the offer isn't settled the expected one is live
    undecided_there : IsUnsettled before.sizes there k → fate m.table.words k ≡ undecided
    undecided_there none = elim (cases_eq (fate m.table.words k) undecided) [
      | inl is ↦ is
      | inr decided ↦ absurd (none (fate m.table.words k) ((m.kept.roots.fates k here).told decided))
    ]

    expected_lives : IsUnsettled before.sizes there k → IsLive state k.offer.expected
    expected_lives none =
        from_root k.handle k.offer.expected
        (offer_in (root_at state k.handle) k.offer (ap word_of (stands_there before.sizes m.table m.kept k here (undecided_there none))) k.offer.expected expected_in)

    -- so of what the operation holds only that one is in its slot
    only_it : IsUnsettled before.sizes there k → (r : Ref) → Holds before r → place_of before.account r ≡ place_of there k.offer.expected → r ≡ k.offer.expected
    only_it none r holds same =
        let h = held_there before m.table m.kept m.id m.at r holds in
        let e = used k.offer.expected expected_in in
        let stands = m.kept.nodes.live r h.lives in
        let stands_too = m.kept.nodes.live k.offer.expected (expected_lives none) in
        let place = its_place before m.table m.kept m.id m.at r h ∙ same in
        one_ref state.heap r k.offer.expected (live_used before.sizes there m.kept.bounds r h.lives) (in_use k.offer.expected expected_in)
        (m.kept.nodes.apart (slot_of r) (slot_of k.offer.expected) h.slot e.0 (stands, h.used) (stands_too, e.1) place)

    pub olds_said : SaysOlds before there k (pair_of found)
    olds_said = record {
      root = (used k.offer.root root_in, sym (ap (λ (p : Pair). p.low) olds_found));
      expected = ap (λ (p : Pair). p.high) olds_found;
      only = λ none r holds e. only_it none r holds (e ∙ ap (λ (p : Pair). p.high) olds_found);
    }

  -- ---- the new root

  module _ (its_word : word ≡ 2 * k.slot + 2) where
    abbrev news : Pair
    news = record { low = place_of there k.offer.successor; high = second_of there k.offer.second }

    news_found : pair_of found ≡ news
    news_found =
        let fits : IsPair news = (small k.offer.successor successor_in, second_small k.offer.second seconds_in) in
        ap pair_of (sym m.finds ∙ ap (slice_index m.table.words) its_word ∙ written.news) ∙ pair_back news fits

    pub news_said : SaysNews before there k (pair_of found)
    news_said = record {
      successor = (used k.offer.successor successor_in, sym (ap (λ (p : Pair). p.low) news_found));
      second = λ r e. (
        used r (seconds_in r (subst (λ o. Contains (refs_of_option o) r) (sym e) (Contains-get_or (r ∷ []) 0 r (omega arith)))),
        ap (second_of there) (sym e) ∙ sym (ap (λ (p : Pair). p.high) news_found),
      );
      alone = λ e. ap (λ (p : Pair). p.high) news_found ∙ ap (second_of there) e;
    }

-- what the seat is told
pub olds_told : (before : View) (name found : ℕ) (after : View) → HasSeen before (2 * name + 1) found after → HasSeenOlds before name (pair_of found) after
olds_told before name found after (m, is) = (
  saw before name (2 * name + 1) found after (m, is),
  λ k c in_it. olds_said before (2 * name + 1) found m k c (ap (λ n. 2 * n + 1) (sym in_it)),
)

pub news_told : (before : View) (name found : ℕ) (after : View) → HasSeen before (2 * name + 2) found after → HasSeenNews before name (pair_of found) after
news_told before name found after (m, is) = (
  saw before name (2 * name + 2) found after (m, is),
  λ k c in_it. news_said before (2 * name + 2) found m k c (ap (λ n. 2 * n + 2) (sym in_it)),
)
