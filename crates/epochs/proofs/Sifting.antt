-- The notes are looked at one by one.
use Rattle.std.proofs.Common.{◌≡◌, ℕ, ◌+◌, ◌<◌, ◌≤◌, ◌==◌, ◌||◌, ◌&&◌, not, Bool, true, false, cond, nat_lt, List, [], ◌∷◌, ◌++◌, length, filter}
use Rattle.std.proofs.Common.{All, Option, Some, None, IfSome, refl, sym, ap, ◌∙◌, subst, inl, inr, arith, eq-eqb, eqb-true}
use Rattle.std.proofs.lemmas.Bool.{eqb-false, lt-ltb, ne_eqb}
use Rattle.std.proofs.lemmas.Bool.{cases_eq, cases_lt}
use Rattle.std.proofs.lemmas.Option.{none-some, same_Some}
use Rattle.std.proofs.lemmas.List.{length_push}
use Rattle.std.proofs.lemmas.List.Elements.{All-head, All-tail, All-cons}
use Rattle.slot_arena.specs.declared.refs.Ref.{Ref}
use Rattle.slot_arena.specs.Refs.{slot_of}
use Rattle.slot_arena.specs.Times.{times, other_slots}
use Rattle.slot_arena.specs.Tallies.{naming}
use Rattle.slot_arena.specs.Arenas.{Contents, IsLive, AreLive, waiting}
use Rattle.slot_arena.proofs.Times.{once, once_same, once_other, times-cons, times-append, times_push}
use Rattle.slot_arena.proofs.Namings.{naming-append}
use Rattle.slot_arena.proofs.Live.{one_live}
use Rattle.slot_arena.proofs.Reading.{live_seen}
use Rattle.slot_arena.proofs.Waiting.{zero_waits, waits_zero}
use Rattle.epochs.specs.Limbo.{is_zero}
use Rattle.epochs.specs.Rings.{Bags, all_of}
use Rattle.epochs.specs.Memories.{Lists}
use Rattle.epochs.specs.Settling.{IsFresh, bags_after, fresh_after, IsSifted}
use Rattle.epochs.proofs.Filters.{times-le-naming, filter_same, filter_all, others_filter, naming_kept}

module _ (arena : Contents) (bags : Bags) where
  -- what stays in the bags while these are noted
  abbrev pub stays : List ℕ → Ref → Bool
  stays noted r = nat_lt 0 (times (slot_of r) noted) || is_zero arena.heap arena.outside r

  pub record Sifting (noted : List ℕ) (now : Bags) (fresh : List Ref) : Type 0 where
    pub less : (k : ℕ) → times k noted ≤ times k arena.noted
    pub oldest : now.oldest ≡ filter (stays noted) bags.oldest
    pub middle : now.middle ≡ filter (stays noted) bags.middle
    pub present : now.present ≡ filter (stays noted) bags.present
    pub size : now.size ≡ bags.size
    pub are_fresh : (r : Ref) → 0 < times r fresh → IsFresh arena bags r × (times (slot_of r) noted ≡ 0)
    pub all_fresh : (r : Ref) → IsFresh arena bags r → 0 < times (slot_of r) arena.noted → times (slot_of r) noted ≡ 0 → 0 < times r fresh
    pub once_each : (r : Ref) → times r fresh ≤ 1

stays_noted : (arena : Contents) (bags : Bags) (noted : List ℕ) (r : Ref) → 0 < times (slot_of r) noted → stays arena bags noted r ≡ true
stays_noted arena bags noted r some = ap (λ b. b || is_zero arena.heap arena.outside r) (lt-ltb 0 (times (slot_of r) noted) some)

stays_zero : (arena : Contents) (bags : Bags) (noted : List ℕ) (r : Ref) → times (slot_of r) noted ≡ 0 → stays arena bags noted r ≡ is_zero arena.heap arena.outside r
stays_zero arena bags noted r none = ap (λ n. nat_lt 0 n || is_zero arena.heap arena.outside r) none

module _ (arena : Contents) (bags : Bags) (lists : Lists arena bags) where
  -- the bags hold live references
  part : (rs : List Ref) → ((r : Ref) → times r rs ≤ times r (all_of bags)) → All (λ r. 0 < times r (all_of bags)) rs
  part [] less = λ k d h. absurd (omega arith)
  part (r ∷ rs) less = All-cons (λ q. 0 < times q (all_of bags)) r rs (omega (arith, less r, times-cons r r rs, once_same r)) (part rs (λ q. omega (arith, less q, times-cons q r rs)))

  pub in_oldest : All (λ r. 0 < times r (all_of bags)) bags.oldest
  in_oldest = part bags.oldest (λ r. omega (arith, times-append r (bags.oldest ++ bags.middle) bags.present, times-append r bags.oldest bags.middle))

  pub in_middle : All (λ r. 0 < times r (all_of bags)) bags.middle
  in_middle = part bags.middle (λ r. omega (arith, times-append r (bags.oldest ++ bags.middle) bags.present, times-append r bags.oldest bags.middle))

  pub in_present : All (λ r. 0 < times r (all_of bags)) bags.present
  in_present = part bags.present (λ r. omega (arith, times-append r (bags.oldest ++ bags.middle) bags.present, times-append r bags.oldest bags.middle))

  -- a member is live
  pub member_live : (r : Ref) → 0 < times r (all_of bags) → IsLive arena.heap r
  member_live r some = found_live (all_of bags) lists.live some
    where
      found_live : (rs : List Ref) → AreLive arena.heap rs → 0 < times r rs → IsLive arena.heap r
      found_live [] all h = absurd (omega arith)
      found_live (q ∷ rs) all h = elim (cases_eq q r) [
        | inl same ↦ subst (IsLive arena.heap) same (All-head (IsLive arena.heap) q rs all)
        | inr other ↦ found_live rs (All-tail (IsLive arena.heap) q rs all) (omega (arith, times-cons r q rs, once_other r q (λ e. other (sym e))))
      ]

  -- at first all stay
  all_stay : (rs : List Ref) → All (λ r. 0 < times r (all_of bags)) rs → rs ≡ filter (stays arena bags arena.noted) rs
  all_stay rs all = sym (filter_all (λ r. 0 < times r (all_of bags)) (stays arena bags arena.noted) (λ r some. elim (cases_lt 0 (times (slot_of r) arena.noted)) [
    | inl noted ↦ stays_noted arena bags arena.noted r noted
    | inr free ↦ let none : times (slot_of r) arena.noted ≡ 0 = omega arith in stays_zero arena bags arena.noted r none ∙ waits_zero arena (slot_of r) r (lists.waits r some none)
  ]) rs all)

  pub sifting_begun : Sifting arena bags arena.noted bags []
  sifting_begun = record {
    less = λ k. omega arith;
    oldest = all_stay bags.oldest in_oldest;
    middle = all_stay bags.middle in_middle;
    present = all_stay bags.present in_present;
    size = refl;
    are_fresh = λ r some. absurd (omega arith);
    all_fresh = λ r is some none. absurd (omega arith);
    once_each = λ r. omega arith;
  }

  -- at last those stay that are unreferred
  pub sifting_ended : (now : Bags) (fresh : List Ref) → Sifting arena bags [] now fresh → IsSifted arena bags now fresh
  sifting_ended now fresh s = record {
    oldest = s.oldest;
    middle = s.middle;
    present = s.present;
    size = s.size;
    are_fresh = λ r some. (s.are_fresh r some).0;
    all_fresh = λ r is. elim (cases_lt 0 (times (slot_of r) arena.noted)) [
      | inl noted ↦ s.all_fresh r is noted refl
      | inr free ↦ let there = lists.listed r is.0 (omega arith) in absurd (omega (arith, is.1, times-le-naming r (all_of bags)))
    ];
    once_each = s.once_each;
  }

  module _ (rest : List ℕ) (k : ℕ) (now : Bags) (fresh : List Ref) (s : Sifting arena bags (rest ++ k ∷ []) now fresh) (once_only : times k rest ≡ 0) where
    here : 0 < times k (rest ++ k ∷ [])
    here = omega (arith, times_push k k rest, once_same k)

    there : (j : ℕ) → (j ≡ k → ⊥) → times j (rest ++ k ∷ []) ≡ times j rest
    there j other = omega (arith, times_push j k rest, once_other j k other)

    -- the slot stands in the bags as often as at first
    naming_bag : (rs : List Ref) → naming k (filter (stays arena bags (rest ++ k ∷ [])) rs) ≡ naming k rs
    naming_bag rs = naming_kept k (stays arena bags (rest ++ k ∷ [])) (λ r same. stays_noted arena bags (rest ++ k ∷ []) r (subst (λ j. 0 < times j (rest ++ k ∷ [])) (sym same) here)) rs

    pub naming_now : naming k (all_of now) ≡ naming k (all_of bags)
    naming_now =
        omega (
          arith,
          naming-append k (now.oldest ++ now.middle) now.present,
          naming-append k now.oldest now.middle,
          naming-append k (bags.oldest ++ bags.middle) bags.present,
          naming-append k bags.oldest bags.middle,
          ap (naming k) s.oldest,
          ap (naming k) s.middle,
          ap (naming k) s.present,
          naming_bag bags.oldest,
          naming_bag bags.middle,
          naming_bag bags.present,
        )

    less_now : (j : ℕ) → times j rest ≤ times j arena.noted
    less_now j = omega (arith, s.less j, times_push j k rest)

    -- nothing waits in the slot: its reference leaves
    leaves : waiting arena k ≡ None → (r : Ref) → 0 < times r (all_of bags) → (not (slot_of r == k) && stays arena bags (rest ++ k ∷ []) r) ≡ stays arena bags rest r
    leaves none r some = elim (cases_eq (slot_of r) k) [
      | inl same ↦ ap (λ b. not b && stays arena bags (rest ++ k ∷ []) r) (eq-eqb (slot_of r) k same)
          ∙ sym (stays_zero arena bags rest r (ap (λ j. times j rest) same ∙ once_only) ∙ unwaited (is_zero arena.heap arena.outside r) refl same)
      | inr other ↦ ap (λ b. not b && stays arena bags (rest ++ k ∷ []) r) (ne_eqb (slot_of r) k other) ∙ ap (λ n. nat_lt 0 n || is_zero arena.heap arena.outside r) (there (slot_of r) other)
    ]
      where
        unwaited : (b : Bool) → is_zero arena.heap arena.outside r ≡ b → slot_of r ≡ k → b ≡ false
        unwaited true e same = absurd (none-some r (sym (ap (waiting arena) same ∙ none) ∙ zero_waits arena r (member_live r some) e))
        unwaited false e same = refl

    -- something waits there: its reference stays
    remains : (at : Ref) → waiting arena k ≡ Some at → slot_of at ≡ k → IsLive arena.heap at → (r : Ref) → 0 < times r (all_of bags) → stays arena bags (rest ++ k ∷ []) r ≡ stays arena bags rest r
    remains at is slot has r some = elim (cases_eq (slot_of r) k) [
      | inl same ↦
          let one : r ≡ at = one_live arena.heap.slots r at (live_seen arena.heap r (member_live r some)) (live_seen arena.heap at has) (same ∙ sym slot) in
          stays_noted arena bags (rest ++ k ∷ []) r (subst (λ j. 0 < times j (rest ++ k ∷ [])) (sym same) here)
          ∙ sym (stays_zero arena bags rest r (ap (λ j. times j rest) same ∙ once_only) ∙ ap (is_zero arena.heap arena.outside) one ∙ waits_zero arena k at is)
      | inr other ↦ ap (λ n. nat_lt 0 n || is_zero arena.heap arena.outside r) (there (slot_of r) other)
    ]

    pub sifted_none : waiting arena k ≡ None → Sifting arena bags rest (bags_after None k now) fresh
    sifted_none none = record {
      less = less_now;
      oldest = ap (other_slots k) s.oldest ∙ others_filter (λ r. 0 < times r (all_of bags)) k (stays arena bags (rest ++ k ∷ [])) (stays arena bags rest) (leaves none) bags.oldest in_oldest;
      middle = ap (other_slots k) s.middle ∙ others_filter (λ r. 0 < times r (all_of bags)) k (stays arena bags (rest ++ k ∷ [])) (stays arena bags rest) (leaves none) bags.middle in_middle;
      present = ap (other_slots k) s.present ∙ others_filter (λ r. 0 < times r (all_of bags)) k (stays arena bags (rest ++ k ∷ [])) (stays arena bags rest) (leaves none) bags.present in_present;
      size = s.size;
      are_fresh = λ r some. let was = s.are_fresh r some in (was.0, omega (arith, was.1, times_push (slot_of r) k rest));
      all_fresh = λ r is noted free. s.all_fresh r is noted (there (slot_of r) (λ same. none-some r (sym (ap (waiting arena) same ∙ none) ∙ is.0)) ∙ free);
      once_each = s.once_each;
    }

    module _ (at : Ref) (is : waiting arena k ≡ Some at) (slot : slot_of at ≡ k) (has : IsLive arena.heap at) where
      bag_same : (rs qs : List Ref) → qs ≡ filter (stays arena bags (rest ++ k ∷ [])) rs → All (λ r. 0 < times r (all_of bags)) rs → qs ≡ filter (stays arena bags rest) rs
      bag_same rs qs e all = e ∙ filter_same (λ r. 0 < times r (all_of bags)) (stays arena bags (rest ++ k ∷ [])) (stays arena bags rest) (remains at is slot has) rs all

      -- it isn't listed yet
      not_yet : times at fresh ≡ 0
      not_yet = elim (cases_lt 0 (times at fresh)) [
        | inl some ↦ absurd (omega (arith, (s.are_fresh at some).1, ap (λ j. times j (rest ++ k ∷ [])) slot, here))
        | inr none ↦ omega arith
      ]

      sifted_new : naming k (all_of bags) ≡ 0 → Sifting arena bags rest now (fresh ++ at ∷ [])
      sifted_new apart = record {
        less = less_now;
        oldest = bag_same bags.oldest now.oldest s.oldest in_oldest;
        middle = bag_same bags.middle now.middle s.middle in_middle;
        present = bag_same bags.present now.present s.present in_present;
        size = s.size;
        are_fresh = λ r some. elim (cases_eq r at) [
          | inl same ↦ (
            (
              ap (λ q. waiting arena (slot_of q)) same ∙ ap (waiting arena) slot ∙ is ∙ ap Some (sym same),
              ap (λ q. naming (slot_of q) (all_of bags)) same
                  ∙ ap (λ j. naming j (all_of bags)) slot ∙ apart,
            ),
            ap (λ q. times (slot_of q) rest) same ∙ ap (λ j. times j rest) slot ∙ once_only,
          )
          | inr other ↦ let was = s.are_fresh r (omega (arith, some, times_push r at fresh, once_other r at other)) in (was.0, omega (arith, was.1, times_push (slot_of r) k rest))
        ];
        all_fresh = λ r new noted free. elim (cases_eq (slot_of r) k) [
          | inl same ↦ let one : r ≡ at = same_Some r at (sym new.0 ∙ ap (waiting arena) same ∙ is) in omega (arith, times_push r at fresh, ap (once r) (sym one), once_same r)
          | inr other ↦ omega (arith, times_push r at fresh, s.all_fresh r new noted (there (slot_of r) other ∙ free))
        ];
        once_each = λ r. elim (cases_eq r at) [
          | inl same ↦ omega (arith, times_push r at fresh, ap (λ q. times q fresh) same, not_yet, ap (once r) (sym same), once_same r)
          | inr other ↦ omega (arith, times_push r at fresh, once_other r at other, s.once_each r)
        ];
      }

      sifted_old : 0 < naming k (all_of bags) → Sifting arena bags rest now fresh
      sifted_old listed = record {
        less = less_now;
        oldest = bag_same bags.oldest now.oldest s.oldest in_oldest;
        middle = bag_same bags.middle now.middle s.middle in_middle;
        present = bag_same bags.present now.present s.present in_present;
        size = s.size;
        are_fresh = λ r some. let was = s.are_fresh r some in (was.0, omega (arith, was.1, times_push (slot_of r) k rest));
        all_fresh = λ r new noted free. elim (cases_eq (slot_of r) k) [
          | inl same ↦ absurd (omega (arith, new.1, ap (λ j. naming j (all_of bags)) same))
          | inr other ↦ s.all_fresh r new noted (there (slot_of r) other ∙ free)
        ];
        once_each = s.once_each;
      }

      by_listed : (n : ℕ) (b : Bool) → naming k (all_of now) ≡ n → (n == 0) ≡ b → Sifting arena bags rest now (cond b (fresh ++ at ∷ []) fresh)
      by_listed n true e f = sifted_new (omega (arith, naming_now, eqb-true n 0 f))
      by_listed n false e f = sifted_old (let other = eqb-false n 0 f in omega (arith, naming_now, pos-of n other))
        where
          pos-of : (m : ℕ) → (m ≡ 0 → ⊥) → 0 < m
          pos-of m h = omega arith

      pub sifted_some : Sifting arena bags rest (bags_after (Some at) k now) (fresh_after (Some at) (naming k (all_of now)) fresh)
      sifted_some = by_listed (naming k (all_of now)) (naming k (all_of now) == 0) refl refl

    -- one slot was looked at
    pub sifted_one : (w : Option Ref) → waiting arena k ≡ w → IfSome w (λ r. (slot_of r ≡ k) × IsLive arena.heap r)
        → Sifting arena bags rest (bags_after w k now) (fresh_after w (naming k (all_of now)) fresh)
    sifted_one None is found = sifted_none is
    sifted_one (Some at) is found = sifted_some at is found.0 found.1

-- what waits is a matter of the heap and of what is held
pub waiting_same : (a b : Contents) (k : ℕ) → a.heap ≡ b.heap → a.outside ≡ b.outside → waiting a k ≡ waiting b k
waiting_same a b k heap outside =
    ap (λ h. waiting (record { heap = h; outside = a.outside; noted = a.noted; ticks = a.ticks }) k) heap
    ∙ ap (λ o. waiting (record { heap = b.heap; outside = o; noted = a.noted; ticks = a.ticks }) k) outside

pub length-fresh_after : (w : Option Ref) (listed : ℕ) (fresh : List Ref) → length (fresh_after w listed fresh) ≤ length fresh + 1
length-fresh_after None listed fresh = omega arith
length-fresh_after (Some r) listed fresh = by_test (listed == 0)
  where
    by_test : (b : Bool) → length (cond b (fresh ++ r ∷ []) fresh) ≤ length fresh + 1
    by_test true = omega (arith, length_push fresh r)
    by_test false = omega arith
