-- Limbo after a settling is the definition's.
use Rattle.std.proofs.Common.{◌≡◌, ℕ, suc, ◌+◌, ◌-◌, ◌<◌, ◌≤◌, ◌==◌, ◌&&◌, not, nat_lt, Bool, true, false, cond, List, [], ◌∷◌}
use Rattle.std.proofs.Common.{◌++◌, length, filter, All, Some, sym, ap, ◌∙◌, subst, inl, inr, arith}
use Rattle.std.specs.List.Sorted.{IsPermutation}
use Rattle.std.proofs.lemmas.List.Sorted.{IsPermutation-refl, sum_by-IsPermutation}
use Rattle.std.proofs.lemmas.Bool.{ltb-false, and_parts, not-true}
use Rattle.std.proofs.lemmas.Bool.{cases_lt}
use Rattle.std.proofs.lemmas.List.{append_assoc, append-nil, length-append, map-append}
use Rattle.std.proofs.lemmas.List.Elements.{All-weaker, filter-append}
use Rattle.slot_arena.specs.declared.refs.Ref.{Ref}
use Rattle.slot_arena.specs.Refs.{slot_of}
use Rattle.slot_arena.specs.Heaps.{Heap, in_use}
use Rattle.slot_arena.specs.Times.{times}
use Rattle.slot_arena.specs.Tallies.{naming}
use Rattle.slot_arena.specs.Arenas.{Contents, IsLive, AreLive, waiting}
use Rattle.slot_arena.proofs.Times.{bit, times-append}
use Rattle.slot_arena.proofs.Namings.{naming-append}
use Rattle.slot_arena.proofs.Live.{one_live, live_within}
use Rattle.slot_arena.proofs.Reading.{live_seen}
use Rattle.slot_arena.proofs.Waiting.{zero_waits, waits_zero, waits_live}
use Rattle.epochs.specs.declared.limbo.Zeroed.{Zeroed}
use Rattle.epochs.specs.Limbo.{is_zero, is_in, is_in_use, newly_zero, by_birth, limbo_after}
use Rattle.epochs.specs.Rings.{Bags, all_of}
use Rattle.epochs.specs.Memories.{Lists, limbo_of, zeroed_at, staying}
use Rattle.epochs.specs.Settling.{IsSifted}
use Rattle.epochs.proofs.Filters.{times-le-naming}
use Rattle.epochs.proofs.Sifting.{Sifting, sifting_begun, sifting_ended, waiting_same, member_live, in_oldest, in_middle, in_present}
use Rattle.epochs.proofs.Listing.{all_members}
use Rattle.epochs.proofs.Rising.{IsSortedRefs, rising_sorted, rising_same, rising_by_birth, times-by_birth, filter_in, filter_there, filter_le}
use Rattle.epochs.proofs.InUse.{in_use_once, in_use_live, live_in_use}
use Rattle.epochs.proofs.Staying.{in_limbo, bag_stays, length_zeroed}
use Rattle.epochs.proofs.Naming.{named_member, naming_filter, naming_once}

length_filter_step : (p : Ref → Bool) (r : Ref) (rs : List Ref) (b : Bool) → length (filter p rs) ≤ length rs → length (cond b (r ∷ filter p rs) (filter p rs)) ≤ suc (length rs)
length_filter_step p r rs true less = omega arith
length_filter_step p r rs false less = omega arith

length_filter : (p : Ref → Bool) (rs : List Ref) → length (filter p rs) ≤ length rs
length_filter p [] = omega arith
length_filter p (r ∷ rs) = length_filter_step p r rs (p r) (length_filter p rs)

module _
    (arena : Contents) (bags now : Bags) (fresh sorted : List Ref) (lists : Lists arena bags) (sifted : IsSifted arena bags now fresh)
    (permuted : IsPermutation fresh sorted) (rises : IsSortedRefs sorted)
  where
    times_sorted : (r : Ref) → times r sorted ≡ times r fresh
    times_sorted r = sum_by-IsPermutation (λ q. bit (q == r)) fresh sorted permuted

    naming_sorted : (k : ℕ) → naming k sorted ≡ naming k fresh
    naming_sorted k = sum_by-IsPermutation (λ q. bit (slot_of q == k)) fresh sorted permuted

    sorted_once : (r : Ref) → times r sorted ≤ 1
    sorted_once r = omega (arith, times_sorted r, sifted.once_each r)

    -- a live reference that isn't in the bags has its slot in none
    unlisted : (r : Ref) → IsLive arena.heap r → times r (all_of bags) ≡ 0 → naming (slot_of r) (all_of bags) ≡ 0
    unlisted r has none = elim (cases_lt 0 (naming (slot_of r) (all_of bags))) [
      | inl some ↦
          let found = named_member (slot_of r) (all_of bags) some in
          let one = one_live arena.heap.slots found.0 r (live_seen arena.heap found.0 (member_live arena bags lists found.0 found.1)) (live_seen arena.heap r has) found.2 in
          absurd (omega (arith, found.1, ap (λ q. times q (all_of bags)) one))
      | inr free ↦ omega arith
    ]

    fresh_live : (r : Ref) → 0 < times r fresh → IsLive arena.heap r
    fresh_live r some = waits_live arena r (sifted.are_fresh r some).0

    one_fresh : (q r : Ref) → 0 < times q fresh → 0 < times r fresh → slot_of q ≡ slot_of r → q ≡ r
    one_fresh q r h h' same = one_live arena.heap.slots q r (live_seen arena.heap q (fresh_live q h)) (live_seen arena.heap r (fresh_live r h')) same

    -- bags lose slots alone
    naming_now : (k : ℕ) → naming k (all_of now) ≤ naming k (all_of bags)
    naming_now k =
        let p : Ref → Bool = λ r. is_zero arena.heap arena.outside r in
        omega (
          arith,
          naming-append k (now.oldest ++ now.middle) now.present,
          naming-append k now.oldest now.middle,
          naming-append k (bags.oldest ++ bags.middle) bags.present,
          naming-append k bags.oldest bags.middle,
          ap (naming k) sifted.oldest,
          ap (naming k) sifted.middle,
          ap (naming k) sifted.present,
          naming_filter k p bags.oldest,
          naming_filter k p bags.middle,
          naming_filter k p bags.present,
        )

    -- no slot stands in both, or twice
    pub single : (k : ℕ) → naming k (all_of now) + naming k sorted ≤ 1
    single k = elim (cases_lt 0 (naming k fresh)) [
      | inl some ↦
          let found = named_member k fresh some in
          let none = (sifted.are_fresh found.0 found.1).1 in
          omega (arith, naming_sorted k, naming_now k, naming_once k fresh sifted.once_each one_fresh, ap (λ j. naming j (all_of bags)) found.2)
      | inr none ↦ omega (arith, naming_sorted k, naming_now k, lists.single k)
    ]

    pub within : All (λ r. slot_of r < now.size) sorted
    within = All-weaker (λ r. 0 < times r sorted) (λ r. slot_of r < now.size)
        (λ r some. let bound = live_within arena.heap.slots r (live_seen arena.heap r (fresh_live r (omega (arith, times_sorted r)))) in omega (arith, sifted.size, lists.sizes))
        sorted (all_members sorted)

    -- the new ones are the definition's
    pub news : (epoch : ℕ) → newly_zero arena.heap arena.outside (limbo_of epoch bags) ≡ sorted
    news epoch =
        let p : Ref → Bool = λ r. is_zero arena.heap arena.outside r && not (is_in (limbo_of epoch bags) r) in
        rising_same (by_birth (filter p (in_use arena.heap))) sorted
        (rising_by_birth (filter p (in_use arena.heap)) (λ r. omega (arith, filter_le p r (in_use arena.heap), in_use_once arena.heap r)))
        (rising_sorted sorted rises sorted_once)
        (λ r some.
        let found = filter_in p r (in_use arena.heap) (omega (arith, some, times-by_birth r (filter p (in_use arena.heap)))) in
        let has = in_use_live arena.heap r found.0 in
        let tests = and_parts (is_zero arena.heap arena.outside r) (not (is_in (limbo_of epoch bags) r)) found.1 in
        let none : times r (all_of bags) ≡ 0 = not_below (times r (all_of bags)) (sym (in_limbo epoch bags r) ∙ not-true (is_in (limbo_of epoch bags) r) tests.1) in
        omega (arith, times_sorted r, sifted.all_fresh r (zero_waits arena r has tests.0, unlisted r has none)))
        (λ r some.
        let is = sifted.are_fresh r (omega (arith, times_sorted r)) in
        let has = waits_live arena r is.0 in
        let none : times r (all_of bags) ≡ 0 = omega (arith, is.1, times-le-naming r (all_of bags)) in
        let passed : p r ≡ true =
        ap (λ b. b && not (is_in (limbo_of epoch bags) r)) (waits_zero arena (slot_of r) r is.0) ∙ ap not (in_limbo epoch bags r ∙ ap (nat_lt 0) none) in
        omega (arith, times-by_birth r (filter p (in_use arena.heap)), filter_there p r (in_use arena.heap) passed (live_in_use arena.heap r has)))
      where
        not_below : (n : ℕ) → nat_lt 0 n ≡ false → n ≡ 0
        not_below n e = let le = ltb-false 0 n e in omega arith

    members_live : (rs : List Ref) → All (λ r. 0 < times r (all_of bags)) rs → All (IsLive arena.heap) rs
    members_live rs all = All-weaker (λ r. 0 < times r (all_of bags)) (IsLive arena.heap) (member_live arena bags lists) rs all

    -- what stays is what is unreferred
    pub stayed : (epoch : ℕ) → staying arena.heap arena.outside (limbo_of epoch bags) ≡ zeroed_at (epoch - 2) now.oldest ++ zeroed_at (epoch - 1) now.middle ++ zeroed_at epoch now.present
    stayed epoch =
        let p : Zeroed → Bool = λ z. is_in_use arena.heap z.at && is_zero arena.heap arena.outside z.at in
        filter-append p (zeroed_at (epoch - 2) bags.oldest ++ zeroed_at (epoch - 1) bags.middle) (zeroed_at epoch bags.present)
        ∙ ap (λ l. l ++ filter p (zeroed_at epoch bags.present)) (filter-append p (zeroed_at (epoch - 2) bags.oldest) (zeroed_at (epoch - 1) bags.middle))
        ∙ ap (λ l. l ++ filter p (zeroed_at (epoch - 1) bags.middle) ++ filter p (zeroed_at epoch bags.present))
        (bag_stays arena.heap arena.outside (epoch - 2) bags.oldest (members_live bags.oldest (in_oldest arena bags lists)) ∙ ap (zeroed_at (epoch - 2)) (sym sifted.oldest))
        ∙ ap (λ l. zeroed_at (epoch - 2) now.oldest ++ l ++ filter p (zeroed_at epoch bags.present))
        (bag_stays arena.heap arena.outside (epoch - 1) bags.middle (members_live bags.middle (in_middle arena bags lists)) ∙ ap (zeroed_at (epoch - 1)) (sym sifted.middle))
        ∙ ap (λ l. zeroed_at (epoch - 2) now.oldest ++ zeroed_at (epoch - 1) now.middle ++ l)
        (bag_stays arena.heap arena.outside epoch bags.present (members_live bags.present (in_present arena bags lists)) ∙ ap (zeroed_at epoch) (sym sifted.present))

    -- limbo is the definition's
    pub settled : (epoch : ℕ) → limbo_of epoch (record { oldest = now.oldest; middle = now.middle; present = now.present ++ sorted; size = now.size }) ≡ limbo_after arena.heap arena.outside
        epoch (limbo_of epoch bags)
    settled epoch =
        ap (λ l. zeroed_at (epoch - 2) now.oldest ++ zeroed_at (epoch - 1) now.middle ++ l) (map-append (λ r. record { at = r; epoch = epoch }) now.present sorted)
        ∙ sym (append_assoc (zeroed_at (epoch - 2) now.oldest ++ zeroed_at (epoch - 1) now.middle) (zeroed_at epoch now.present) (zeroed_at epoch sorted))
        ∙ ap (λ l. l ++ zeroed_at epoch sorted) (sym (stayed epoch))
        ∙ ap (λ l. staying arena.heap arena.outside (limbo_of epoch bags) ++ zeroed_at epoch l) (sym (news epoch))

    -- the bags with the new ones
    abbrev pub after_settling : Bags
    after_settling = record { oldest = now.oldest; middle = now.middle; present = now.present ++ sorted; size = now.size }

    all_now : all_of now ≡ filter (λ r. is_zero arena.heap arena.outside r) (all_of bags)
    all_now =
        let p : Ref → Bool = λ r. is_zero arena.heap arena.outside r in
        ap (λ (l : List Ref). l ++ now.middle ++ now.present) sifted.oldest ∙ ap (λ (l : List Ref). filter p bags.oldest ++ l ++ now.present) sifted.middle
        ∙ ap (λ (l : List Ref). filter p bags.oldest ++ filter p bags.middle ++ l) sifted.present
        ∙ sym (filter-append p (bags.oldest ++ bags.middle) bags.present ∙ ap (λ l. l ++ filter p bags.present) (filter-append p bags.oldest bags.middle))

    all_after : (r : Ref) → times r (all_of after_settling) ≡ times r (all_of now) + times r sorted
    all_after r = ap (times r) (sym (append_assoc (now.oldest ++ now.middle) now.present sorted)) ∙ times-append r (all_of now) sorted

    naming_after : (k : ℕ) → naming k (all_of after_settling) ≡ naming k (all_of now) + naming k sorted
    naming_after k = ap (naming k) (sym (append_assoc (now.oldest ++ now.middle) now.present sorted)) ∙ naming-append k (all_of now) sorted

    -- a member of either waits
    waits_there : (r : Ref) → 0 < times r (all_of after_settling) → waiting arena (slot_of r) ≡ Some r
    waits_there r some = elim (cases_lt 0 (times r sorted)) [
      | inl new ↦ (sifted.are_fresh r (omega (arith, times_sorted r))).0
      | inr none ↦
          let found = filter_in (λ q. is_zero arena.heap arena.outside q) r (all_of bags) (subst (λ l. 0 < times r l) all_now (omega (arith, some, all_after r))) in
          zero_waits arena r (member_live arena bags lists r found.0) found.1
    ]

    -- what waits is a member of one
    there_waits : (r : Ref) → waiting arena (slot_of r) ≡ Some r → 0 < times r (all_of after_settling)
    there_waits r is = elim (cases_lt 0 (times r (all_of bags))) [
      | inl some ↦
          let stays_in = subst (λ l. 0 < times r l) (sym all_now) (filter_there (λ q. is_zero arena.heap arena.outside q) r (all_of bags) (waits_zero arena (slot_of r) r is) some) in
          omega (arith, all_after r)
      | inr none ↦
          omega (arith, all_after r, times_sorted r, sifted.all_fresh r (is, unlisted r (waits_live arena r is) (omega arith)))
    ]

    pub settled_lists : (after : Contents) → after.heap ≡ arena.heap → after.outside ≡ arena.outside → Lists after after_settling
    settled_lists after heap outside = record {
      sizes = sifted.size ∙ lists.sizes ∙ sym (ap (λ (h : Heap). length h.slots) heap);
      live = subst (λ (h : Heap). AreLive h (all_of after_settling)) (sym heap)
          (All-weaker (λ r. 0 < times r (all_of after_settling)) (IsLive arena.heap) (λ r some. waits_live arena r (waits_there r some)) (all_of after_settling) (all_members (all_of after_settling)));
      single = λ k. omega (arith, naming_after k, single k);
      waits = λ r some none. waiting_same after arena (slot_of r) heap outside ∙ waits_there r some;
      listed = λ r is none. there_waits r (sym (waiting_same after arena (slot_of r) heap outside) ∙ is);
    }

    -- and as many as both
    pub length_settled : (epoch : ℕ) → (length (staying arena.heap arena.outside (limbo_of epoch bags)) ≡ length (all_of now))
        × (length (newly_zero arena.heap arena.outside (limbo_of epoch bags)) ≡ length sorted)
    length_settled epoch = (
      ap length (stayed epoch)
          ∙ omega (
            arith,
            length-append (zeroed_at (epoch - 2) now.oldest ++ zeroed_at (epoch - 1) now.middle) (zeroed_at epoch now.present),
            length-append (zeroed_at (epoch - 2) now.oldest) (zeroed_at (epoch - 1) now.middle),
            length-append (now.oldest ++ now.middle) now.present,
            length-append now.oldest now.middle,
            length_zeroed (epoch - 2) now.oldest,
            length_zeroed (epoch - 1) now.middle,
            length_zeroed epoch now.present,
          ),
      ap length (news epoch),
    )

    -- a bag's emptiness
    pub still_empty : (0 < length now.oldest → 0 < length bags.oldest) × (0 < length now.middle → 0 < length bags.middle)
    still_empty =
        let p : Ref → Bool = λ r. is_zero arena.heap arena.outside r in
        ((λ some. omega (arith, ap length sifted.oldest, length_filter p bags.oldest)), (λ some. omega (arith, ap length sifted.middle, length_filter p bags.middle)))

    pub no_more : length (all_of now) ≤ length (all_of bags)
    no_more = omega (arith, ap length all_now, length_filter (λ r. is_zero arena.heap arena.outside r) (all_of bags))

-- where nothing is noted, all is settled
module _ (arena : Contents) (bags : Bags) (lists : Lists arena bags) (none : arena.noted ≡ []) (epoch : ℕ) where
  nothing_new : IsSifted arena bags bags []
  nothing_new = sifting_ended arena bags lists bags [] (subst (λ ns. Sifting arena bags ns bags []) none (sifting_begun arena bags lists))

  rises : IsSortedRefs []
  rises = λ k d low within. absurd (omega arith)

  pub settled_already : limbo_of epoch bags ≡ limbo_after arena.heap arena.outside epoch (limbo_of epoch bags)
  settled_already =
      ap (λ rs. zeroed_at (epoch - 2) bags.oldest ++ zeroed_at (epoch - 1) bags.middle ++ zeroed_at epoch rs) (sym (append-nil bags.present))
      ∙ settled arena bags bags [] [] lists nothing_new (IsPermutation-refl []) rises epoch

  pub stays_already : length (staying arena.heap arena.outside (limbo_of epoch bags)) ≡ length (all_of bags)
  stays_already = (length_settled arena bags bags [] [] lists nothing_new (IsPermutation-refl []) rises epoch).0
