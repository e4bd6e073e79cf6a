-- A slot that was never handed out becomes free for a seat: the exchange of the count of its class.
use Rattle.history.specs.declared.calls.Call.{Call}
use Rattle.std.proofs.Common.{◌≡◌, ◌≢◌, ◌+◌, ◌*◌, ◌⊎◌, ◌++◌, ◌∷◌, [], ℕ, zero, suc, ◌<◌, ◌≤◌, inl, inr, List, set, slice_index, refl, sym, subst, ◌∙◌, arith, length-set}
use Rattle.std.proofs.lemmas.Bool.{cases_eq}
use Rattle.std.proofs.lemmas.List.{get_or-set_same}
use mathlib.Core.Option.{some}
use lib.ListN.{get_elem?}
use Rattle.atomic_table.specs.Table as Table
use Rattle.machine_model.specs.States.{handle_limit}
use Rattle.lock_free.specs.declared.rules.View.{View}
use Rattle.lock_free.specs.declared.sizes.Sizes.{Sizes}
use Rattle.lock_free.specs.Accounts.{state_of}
use Rattle.lock_free.specs.Making.{with_slot}
use Rattle.lock_free.specs.Nodes.{class_of}
use Rattle.lock_free.specs.Places.{stride, slots_in, part_of, first_slot_word, taken_word, generation_word, pin_word, root_word, IsTaken, HaveTaken}
use Rattle.lock_free.specs.Rules.{IsClosing, SaysClosing, IsFree, IsSpare, AreDrafts, IsSeat, IsKept, pool_of}
use Rattle.lock_free.proofs.Meanings.{no_tries}
use Rattle.lock_free.proofs.Assembling.{AllStand, closing_stays, numbers_stay, assembled}
use Rattle.lock_free.proofs.CellsStay.{aside_small, beside_cell, cells_stay, word_loosens_none}
use Rattle.lock_free.proofs.Framing.{else_word, class_small, has_words, no_slot, nodes_below, roots_below}
use Rattle.lock_free.proofs.Geometry.{IsWordOf, slots_apart, root_below}
use Rattle.lock_free.proofs.Pools.{free_still, was_free, once_with, parted_same}
use Rattle.lock_free.proofs.PlainStay.{plain_elsewhere}
use Rattle.lock_free.proofs.Seats.{ran_so, numbers_so, Stays, other_kept, own_still}
use Rattle.lock_free.proofs.HeldStill.{held_words}
use Rattle.lock_free.proofs.CountWords.{before_apart}
use Rattle.lock_free.proofs.PartingStay.{knows_still, names_same}

pub same_class : (b c : ℕ) → taken_word b ≡ taken_word c → b ≡ c
same_class b c e = omega (arith, e)

module _ (sizes : Sizes) (s : Table.State Call View) (kept : IsKept sizes s) (id : ℕ) (v : View) (at : get_elem? s.views id ≡ some v) (class : ℕ) (small : class < 3)
    (few : slice_index s.words (taken_word class) < slots_in sizes class) (name : ℕ) (first : 2 * name ≡ part_of sizes class + stride class * slice_index s.words (taken_word class)) where
  abbrev pub number : ℕ
  number = slice_index s.words (taken_word class)

  abbrev pub words_then : List ℕ
  words_then = set s.words (taken_word class) (number + 1)

  abbrev pub view_then : View
  view_then = record v { pool = with_slot v.pool class name }

  seat : IsSeat sizes kept.account kept.stands s.words v
  seat = kept.seats id v at

  before_slots : taken_word class < first_slot_word sizes
  before_slots = omega (arith, small)

  same : (j : ℕ) → j ≢ taken_word class → slice_index words_then j ≡ slice_index s.words j
  same = else_word kept.account s.words (taken_word class) (number + 1)

  counts : slice_index words_then (taken_word class) ≡ number + 1
  counts = get_or-set_same s.words (taken_word class) (number + 1) 0 (let size = kept.size in omega (arith, before_slots, size))

  root_same : (handle : ℕ) → handle < handle_limit → slice_index words_then (root_word handle) ≡ slice_index s.words (root_word handle)
  root_same handle low = let where_it_is = root_below handle low in same (root_word handle) (λ e. absurd (omega (arith, e, where_it_is.0, small)))

  pin_same : (a : ℕ) → slice_index words_then (pin_word a) ≡ slice_index s.words (pin_word a)
  pin_same a = same (pin_word a) (λ e. absurd (omega (arith, e, small)))

  more : (b : ℕ) → slice_index s.words (taken_word b) ≤ slice_index words_then (taken_word b)
  more b = elim (cases_eq b class) [
    | inl is ↦ subst (λ n. slice_index s.words (taken_word n) ≤ slice_index words_then (taken_word n)) (sym is) (omega (arith, counts))
    | inr differs ↦ (let e = same (taken_word b) (λ x. differs (same_class b class x)) in omega (arith, e))
  ]

  taken_then : (b n : ℕ) → b < 3 → IsTaken sizes s.words b n → IsTaken sizes words_then b n
  taken_then b n low h = record { number = h.number; few = (let y = more b in omega (arith, h.few, y)); first = h.first }

  have_then : HaveTaken sizes words_then
  have_then b low = elim (cases_eq b class) [
    | inl is ↦ subst (λ n. slice_index words_then (taken_word n) ≤ slots_in sizes n) (sym is) (omega (arith, counts, few))
    | inr differs ↦ subst (λ n. n ≤ slots_in sizes b) (sym (same (taken_word b) (λ x. differs (same_class b class x)))) (kept.taken b low)
  ]

  new_taken : IsTaken sizes words_then class name
  new_taken = record { number = number; few = omega (arith, counts); first = first }

  -- no slot that was handed out before is it
  numbers : (c n m : ℕ) → c < 3 → 2 * name ≡ part_of sizes c + stride c * n → 2 * name ≡ part_of sizes c + stride c * m → n ≡ m
  numbers zero n m low a b = omega (arith, a, b)
  numbers (suc zero) n m low a b = omega (arith, a, b)
  numbers (suc (suc zero)) n m low a b = omega (arith, a, b)
  numbers (suc (suc (suc c))) n m low a b = absurd (omega (arith, low))

  not_taken : (b : ℕ) → b < 3 → IsTaken sizes s.words b name → ⊥
  not_taken b low h =
      let some = has_words b low in
      let some_too = has_words class small in
      let both = slots_apart sizes words_then have_then b class name name (2 * name) low small (taken_then b name low h) new_taken (record { low = omega arith; high = omega (arith, some) })
      (record { low = omega arith; high = omega (arith, some_too) }) in
      let of_class : IsTaken sizes s.words class name = subst (λ c. IsTaken sizes s.words c name) both.0 h in
      let is = numbers class of_class.number number small of_class.first first in absurd (omega (arith, of_class.few, is))

  new_spare : IsSpare sizes kept.account kept.stands name
  new_spare = (
    λ k slot h e. not_taken (class_of slot.node) (class_small slot.node) (subst (λ n. IsTaken sizes s.words (class_of slot.node) n) e (kept.nodes.within k slot h)),
    λ k c e. not_taken 1 (omega arith) (subst (λ n. IsTaken sizes s.words 1 n) e (kept.roots.blocks k c)),
  )

  -- ---- what stands

  all_then : AllStand sizes kept.account kept.stands words_then
  all_then = record {
    bounds = kept.bounds;
    keys = kept.keys;
    quiet = kept.quiet;
    counted = kept.counted;
    size = length-set s.words (taken_word class) (number + 1) ∙ kept.size;
    taken = have_then;
    generations = same generation_word (λ e. absurd (omega (arith, e))) ∙ kept.generations;
    nodes = nodes_below sizes kept.account kept.stands s.words kept.taken kept.nodes kept.roots (taken_word class) before_slots (number + 1) taken_then;
    roots = roots_below sizes kept.account kept.stands s.words kept.taken kept.nodes kept.roots (taken_word class) before_slots (number + 1) taken_then
        (λ handle low e. (let where_it_is = root_below handle low in absurd (omega (arith, e, where_it_is.0, small))));
  }

  -- ---- seats

  slot_words : (b other : ℕ) → b < 3 → IsTaken sizes s.words b other → (j : ℕ) → IsWordOf b other j → slice_index words_then j ≡ slice_index s.words j
  slot_words b other low h j its = same j (no_slot sizes kept.account kept.stands s.words kept.taken kept.nodes kept.roots (taken_word class) before_slots (number + 1) taken_then b other low h j its)

  stays : Stays sizes s kept id v at kept.account kept.stands words_then
  stays = record {
    waits = λ actor before differs h. h;
    still = λ x h. h.still;
    others = λ a apart. ran_so (state_of sizes kept.account) (state_of sizes kept.account) a refl;
    pins = λ a some most apart. pin_same a;
    named = λ other w e apart handle slot o x. root_same handle x.low;
    numbers = λ other w e apart. numbers_so sizes s kept kept.account words_then (no_tries kept.account.offers (state_of sizes kept.account)) refl root_same other w e;
    still_open = λ other w at_w handle inside e. e;
    taken = taken_then;
    spare = λ other w b n e apart free. (let x = (kept.seats other w e).spare b n free in (x.1, slot_words b n free.0 x.0));
    plain = plain_elsewhere sizes kept.account s.words words_then root_same;
    offering = knows_still kept.account.offered kept.account.offers kept.account.parted s.words words_then
        (names_same kept.account.offers s.words words_then root_same);
  }

  own_spare : (b other : ℕ) → IsFree view_then b other → IsTaken sizes words_then b other × IsSpare sizes kept.account kept.stands other
  own_spare b other free = elim (was_free v.pool class name small b other free.0 free.1) [
    | inl old ↦ (let x = seat.spare b other (free.0, old) in (taken_then b other free.0 x.0, x.1))
    | inr new ↦ (
      subst (λ n. IsTaken sizes words_then b n) new.1 (subst (λ c. IsTaken sizes words_then c name) (sym new.0) new_taken),
      subst
          (λ n. IsSpare sizes kept.account kept.stands n) new.1 new_spare,
    )
  ]

  drafted : (d : ℕ × ℕ) → AreDrafts s.words v d → AreDrafts words_then view_then d
  drafted d h =
      let slot = h.1 in
      let x = seat.spare slot.0 slot.1 slot.2 in (
        slot_words slot.0 slot.1 slot.2.0 x.0 d.0 (record { low = slot.3; high = slot.4 }) ∙ h.0,
        (slot.0, slot.1, (slot.2.0, free_still v.pool class name small slot.0 slot.1 slot.2.0 slot.2.1), slot.3, slot.4),
      )

  own_then : IsSeat sizes kept.account kept.stands words_then view_then
  own_then =
      own_still sizes s kept id v at words_then stays (numbers_so sizes s kept kept.account words_then (no_tries kept.account.offers (state_of sizes kept.account)) refl root_same id v at)
      (pin_same v.actor) view_then.pool v.drafts own_spare
      (once_with v.pool class name small seat.once (λ c. not_taken class small (seat.spare class name (small, c)).0)) (λ d c. drafted d (seat.drafts d c))
      (λ handle slot y. (root_same handle y.low, free_still v.pool class name small 1 slot y.free.0 y.free.1))
      (parted_same v.pool class (pool_of v.pool class ++ name ∷ []))

  free_then : (b other : ℕ) → IsFree view_then b other → IsFree v b other ⊎ ((n : ℕ) (w : View) (c : ℕ) → get_elem? s.views n ≡ some w → (n ≡ id → ⊥) → IsFree w c other → ⊥)
  free_then b other free = elim (was_free v.pool class name small b other free.0 free.1) [
    | inl old ↦ inl (free.0, old)
    | inr new ↦ inr (λ n w c e apart f. not_taken c f.0 (subst (λ m. IsTaken sizes s.words c m) (sym new.1) ((kept.seats n w e).spare c other f).0))
  ]

  closings_then : (handle who : ℕ) → handle < handle_limit → SaysClosing (slice_index words_then (root_word handle)) who → IsClosing (set s.views id view_then) handle who
  closings_then handle who low says =
      closing_stays sizes s kept id v at view_then refl refl (λ h e. (e, refl)) refl (λ c. c) handle who (kept.closings handle who low (subst (λ n. SaysClosing n who) (root_same handle low) says))

  -- the rule holds
  pub take_kept : IsKept sizes (record { words = words_then; homes = s.homes; views = set s.views id view_then })
  take_kept =
      assembled sizes s kept id v at view_then refl refl kept.account kept.stands words_then all_then closings_then own_then (other_kept sizes s kept id v at kept.account kept.stands words_then stays)
      free_then
      (numbers_stay sizes s kept id v at view_then refl refl kept.account words_then (no_tries kept.account.offers (state_of sizes kept.account)) (λ slot none. none) root_same refl
      (λ slot handle e free. (free.0, free_still v.pool class name small 1 slot free.0 free.1)))
      (held_words sizes s kept id v at view_then refl refl refl (taken_word class) (number + 1)
      (before_apart sizes (taken_word class) (omega arith) (omega (arith, small))).1)
      (cells_stay sizes s kept id v at view_then kept.account kept.stands words_then (beside_cell sizes s.words (taken_word class) (number + 1) (omega (arith, small)))
      (word_loosens_none sizes s.words (taken_word class) (number + 1) (before_apart sizes (taken_word class) (omega arith) (omega (arith, small))).1)
      (λ c n low was spare no. (taken_then c n low was, spare)) (λ c n b it was spare f. elim (was_free v.pool class name small b n f.0 f.1) [
        | inl old ↦ (f.0, old)
        | inr new ↦ absurd (not_taken c (aside_small sizes s.words c n it) (subst (IsTaken sizes s.words c) (sym new.1) was))
      ]))
