-- A seat takes a slot, and writes in one: accesses that are no step.
use Rattle.history.specs.declared.calls.Call.{Call}
use Rattle.std.proofs.Common.{◌≡◌, ◌≢◌, ◌+◌, ◌*◌, ◌/◌, ◌<◌, ◌≤◌, ◌⊎◌, ◌==◌, ℕ, zero, suc, inl, inr, Contains, set, slice_index, refl, sym, ap, subst, ◌∙◌, arith}
use Rattle.std.proofs.lemmas.Bool.{cases_eq}
use mathlib.Core.Option.{some, none}
use lib.ListN.{get_elem?}
use prog.Atomic.{either}
use Rattle.atomic_table.specs.Table.{Me, Allows, step}
use Rattle.atomic_table.specs.Table as Table
use Rattle.atomic_table.proofs.Lists.{set_again}
use Rattle.lock_free.proofs.EpochStays.{rest_of}
use Rattle.lock_free.specs.declared.rules.View.{View}
use Rattle.lock_free.specs.declared.sizes.Sizes.{Sizes}
use Rattle.lock_free.specs.Loading.{IsSound}
use Rattle.lock_free.specs.Places.{stride, words_in, words_of, part_of, slots_in, taken_word}
use Rattle.lock_free.specs.Shadows.{IsShadowed}
use Rattle.lock_free.specs.Rules.{pool_of, IsKept}
use Rattle.lock_free.specs.Storing.{IsOwnWord, drafted, has_drafted, with_free, has_taken}
use Rattle.lock_free.proofs.CountWords.{before_apart}
use Rattle.lock_free.proofs.Geometry.{slot_end}
use Rattle.lock_free.proofs.Drafting.{draft_kept}
use Rattle.lock_free.proofs.Exchanged.{words_hit, words_miss}
use Rattle.lock_free.proofs.Moments.{allowed, own_apart}
use Rattle.lock_free.proofs.Pools.{was_free}
use Rattle.lock_free.proofs.Taking.{take_kept, same_class}

-- ---- a word is written

pub draft_allowed : (sizes : Sizes) (size id : ℕ) (me : Me Call View) (some_seats : 1 ≤ me.0.sizes.seats) (word value : ℕ) → IsOwnWord me.0 word → Allows (IsShadowed sizes) size id me word
    (λ n. value)
    (λ n. has_drafted (step size word value 0 none) me value)
draft_allowed sizes size id me some_seats word value (class, name, free, low, high) =
    allowed sizes size id me word (λ n. value) (λ n. has_drafted (step size word value 0 none) me value)
    some_seats (λ s kept at. inl (own_apart me.0 s kept id at class name free word low high))
    (λ s kept at. (drafted me.0 word value, draft_kept me.0.sizes s kept id me.0 at class name free word (record { low = low; high = high }) value, refl))
    (λ s kept at. refl)

pub drafted_sound : (words : ℕ) (v : View) (word value : ℕ) → IsSound words v → IsSound words (drafted v word value)
drafted_sound words v word value h = record { size = h.size; range = h.range; bounds = h.bounds; keys = h.keys; counted = h.counted; inside = h.inside; free = h.free }

pub own_word_inside : (words : ℕ) (v : View) (word : ℕ) → IsSound words v → IsOwnWord v word → word < words
own_word_inside words v word h (class, name, free, low, high) = let end = h.free class name free in let size = h.size in omega (arith, end, size, high)

-- ---- a slot is taken

-- each number has its slot
slot_at : (sizes : Sizes) (class count : ℕ) → class < 3 → (name : ℕ) × (2 * name ≡ part_of sizes class + stride class * count)
slot_at sizes zero count low = ((part_of sizes 0 + 2 * count) / 2, omega arith)
slot_at sizes (suc zero) count low = ((part_of sizes 1 + 8 * count) / 2, omega arith)
slot_at sizes (suc (suc zero)) count low = ((part_of sizes 2 + 24 * count) / 2, omega arith)
slot_at sizes (suc (suc (suc class))) count low = absurd (omega (arith, low))

same_slot : (a b n : ℕ) → 2 * a ≡ n → 2 * b ≡ n → a ≡ b
same_slot a b n p q = omega (arith, p, q)

module _ (sizes : Sizes) (size id : ℕ) (me : Me Call View) (class : ℕ) (small : class < 3) (count : ℕ) (few : count < slots_in me.0.sizes class) where
  abbrev v : View
  v = me.0

  abbrev word : ℕ
  word = taken_word class

  module _ (s : Table.State Call View) (kept : IsKept v.sizes s) (at : get_elem? s.views id ≡ some v) where
    abbrev Taken : Type 0
    Taken = (w : View) × (rest_of w ≡ rest_of v) × IsKept v.sizes (record {
      words = set s.words word (either (slice_index s.words word == count) (count + 1) (slice_index s.words word));
      homes = s.homes;
      views = set s.views id w;
    })
        × has_taken (step size word count (count + 1) none) me (slice_index s.words word) (w, me.1)

    took : slice_index s.words word ≡ count → Taken
    took e =
        let slot = slot_at v.sizes class (slice_index s.words word) small in
        let w = with_free v class slot.0 in
        let kept_then = take_kept v.sizes s kept id v at class small (subst (λ n. n < slots_in v.sizes class) (sym e) few) slot.0 slot.1 in (
          w,
          refl,
          subst (λ ws. IsKept v.sizes (record { words = ws; homes = s.homes; views = set s.views id w }))
              (ap (λ n. set s.words word (n + 1)) e ∙ words_hit v s kept id at word count (count + 1) e word refl) kept_then,
          (
            (λ e c name low same is.
                (let one = same_class class c same in
                ap (λ n. (with_free v class n, me.1)) (same_slot slot.0 name (part_of v.sizes class + stride class * slice_index s.words word) slot.1
                (is ∙ ap (λ n. part_of v.sizes n + stride n * slice_index s.words word) (sym one)))
                ∙ ap (λ n. (with_free v n name, me.1)) one)),
            λ other. absurd (other e),
          ),
        )

    lost : slice_index s.words word ≢ count → Taken
    lost differs = (
      v,
      refl,
      subst (λ ws. IsKept v.sizes (record { words = ws; homes = s.homes; views = set s.views id v })) (words_miss v s kept id at word count (count + 1) differs)
          (subst (λ vs. IsKept v.sizes (record { words = s.words; homes = s.homes; views = vs })) (sym (set_again s.views id v at)) kept),
      ((λ e. absurd (differs e)), λ other. refl),
    )

    taken_or_lost : Taken
    taken_or_lost = elim (cases_eq (slice_index s.words word) count) [
      | inl e ↦ took e
      | inr differs ↦ lost differs
    ]

  pub take_allowed : 1 ≤ me.0.sizes.seats → Allows (IsShadowed sizes) size id me word (λ n. either (n == count) (count + 1) n) (has_taken (step size word count (count + 1) none) me)
  take_allowed some_seats =
      allowed sizes size id me word (λ n. either (n == count) (count + 1) n) (has_taken (step size word count (count + 1) none) me) some_seats
      (λ s kept at. inl (before_apart v.sizes word (omega arith) (omega (arith, small))))
      (λ s kept at. (let x = taken_or_lost s kept at in (x.0, x.2, x.3))) (λ s kept at. (taken_or_lost s kept at).1)

pub taken_sound : (words : ℕ) (v : View) (class count name : ℕ) → class < 3 → count < slots_in v.sizes class → 2 * name ≡ part_of v.sizes class + stride class * count → IsSound words v →
    IsSound words (with_free v class name)
taken_sound words v class count name small few is h =
    record {
      size = h.size;
      range = h.range;
      bounds = h.bounds;
      keys = h.keys;
      counted = h.counted;
      inside = h.inside;
      free = λ b n f. free_then b n f.0
          (was_free v.pool class name small b n f.0 f.1);
    }
  where
    free_then : (b n : ℕ) → b < 3 → Contains (pool_of v.pool b) n ⊎ ((b ≡ class) × (name ≡ n)) → 2 * n + words_in b ≤ words_of v.sizes
    free_then b n low (inl old) = h.free b n (low, old)
    free_then b n low (inr new) =
        subst (λ c. 2 * n + words_in c ≤ words_of v.sizes) (sym new.0)
        (subst (λ m. 2 * m + words_in class ≤ words_of v.sizes) new.1 (slot_end v.sizes class name small (record { number = count; few = few; first = is })))
