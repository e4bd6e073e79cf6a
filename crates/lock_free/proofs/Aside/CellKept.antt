-- A cell's word changes, and what is free for the seat whose access that is: the rule holds still.
use Rattle.history.specs.declared.calls.Call.{Call}
use Rattle.std.proofs.Common.{◌≡◌, ◌≢◌, ◌<◌, ◌⊎◌, ℕ, inl, inr, List, [], ◌∷◌, ◌++◌, Contains, Some, set, slice_index, refl, sym, ap, subst, ◌∙◌, arith}
use Rattle.std.proofs.lemmas.Bool.{cases_eq}
use Rattle.std.proofs.lemmas.List.{get_or-set_other, get_or-set_same}
use mathlib.Core.Option.{some}
use lib.ListN.{get_elem?}
use Rattle.atomic_table.specs.Table as Table
use Rattle.atomic_table.proofs.Lists.{at_set}
use Rattle.lock_free.specs.declared.rules.Pool.{Pool}
use Rattle.lock_free.specs.declared.rules.View.{View}
use Rattle.lock_free.specs.declared.sizes.Sizes.{Sizes}
use Rattle.lock_free.specs.Cells.{pool_of, AreCells, IsAside, IsCell, IsFree, Stores}
use Rattle.lock_free.specs.CellWords.{having_put}
use Rattle.lock_free.specs.Links.{link_in}
use Rattle.lock_free.specs.Places.{cell_word, words_of, IsSlot, IsTaken}
use Rattle.lock_free.specs.Rules.{AreDrafts, IsKept, IsSeat, IsSpare, Once}
use Rattle.lock_free.specs.Storing.{with_free}
use Rattle.lock_free.proofs.CellsStay.{aside_small, before_cells, count_before, word_loosens_none, NoneLoosened}
use Rattle.lock_free.proofs.CountKept.{own_before, taken_then}
use Rattle.lock_free.proofs.CountWords.{slot_taken, Apart, IsBesideSlots}
use Rattle.lock_free.proofs.HeldStill.{held_words}
use Rattle.lock_free.proofs.Pools.{free_still, once_with, was_free as was_free_with, parted_same}
use Rattle.lock_free.proofs.Aside.PoolKept.{free_before, its_own, not_free, pool_kept, was_free}
use Rattle.lock_free.proofs.Spending as spending

-- two cells have two words
pub one_cell : (sizes : Sizes) (b m c n : ℕ) → IsCell b m → IsCell c n → cell_word sizes b m ≡ cell_word sizes c n → (b ≡ c) × (m ≡ n)
one_cell sizes b m c n x y same = (omega (arith, x.1, y.1, same), omega (arith, x.1, y.1, same))

-- which are no count's, nor the epoch's
pub cell_apart : (sizes : Sizes) (class number : ℕ) → Apart sizes (cell_word sizes class number)
cell_apart sizes class number = (omega arith, λ c is same. (let low = count_before sizes c is in omega (arith, low, same)))

module _ (sizes : Sizes) (s : Table.State Call View) (kept : IsKept sizes s) (id : ℕ) (v : View) (at : get_elem? s.views id ≡ some v) (class number : ℕ) (cell : IsCell class number) (x : ℕ) where
  abbrev word : ℕ
  word = cell_word sizes class number

  abbrev words_then : List ℕ
  words_then = set s.words word x

  no_slots : IsBesideSlots sizes s.words word
  no_slots = record {
    far = omega arith;
    beside = λ b n j low taken its same. (let before = before_cells sizes s.words kept.taken b n j low taken its in absurd (omega (arith, before, same)));
  }

  seat : IsSeat sizes kept.account kept.stands s.words v
  seat = kept.seats id v at

  inside : word < words_of sizes
  inside = omega (arith, cell.0, cell.1)

  is_now : slice_index words_then word ≡ x
  is_now = get_or-set_same s.words word x 0 (let size = kept.size in let low = inside in omega (arith, size, low))

  -- what stands in the cells then: what is put into this one, or what stood in another
  stored_then : (b m n : ℕ) → Stores sizes words_then b m n → ((b ≡ class) × (m ≡ number) × (link_in x ≡ n)) ⊎ (Stores sizes s.words b m n × (cell_word sizes b m ≢ word))
  stored_then b m n h = elim (cases_eq (cell_word sizes b m) word) [
    | inl same ↦ (let one = one_cell sizes b m class number h.0 cell same in inl (one.0, one.1, ap link_in (sym is_now ∙ ap (slice_index words_then) (sym same)) ∙ h.1))
    | inr differs ↦ inr ((h.0, ap link_in (sym (get_or-set_other s.words word (cell_word sizes b m) x 0 differs)) ∙ h.1, h.2), differs)
  ]

  -- and what is loose then was so
  loose_before : NoneLoosened sizes s.words words_then
  loose_before = word_loosens_none sizes s.words word x (cell_apart sizes class number).1

  module _ (pool : Pool) (drafts : List (ℕ × ℕ)) where
    abbrev later : View
    later = record v { pool = pool; drafts = drafts }

    cell_kept : ((b n : ℕ) → IsFree later b n → IsTaken sizes s.words b n × IsSpare sizes kept.account kept.stands n) → ((b : ℕ) → b < 3 → Once (pool_of pool b)) →
        ((d : ℕ × ℕ) → Contains drafts d → AreDrafts words_then later d) → ((slot handle : ℕ) → v.opens ≡ Some handle → IsFree v 1 slot → IsFree later 1 slot) →
        ((b n : ℕ) → IsFree later b n → IsFree v b n ⊎ ((other : ℕ) (w : View) (c : ℕ) → get_elem? s.views other ≡ some w → (other ≡ id → ⊥) → IsFree w c n → ⊥)) →
        AreCells sizes (IsSpare sizes kept.account kept.stands) words_then (set s.views id later) → pool.parted ≡ v.pool.parted →
        IsKept sizes (record { words = words_then; homes = s.homes; views = set s.views id later })
    cell_kept spare once written keeps free cells parted =
        pool_kept sizes s kept id v at word no_slots x pool drafts spare once written keeps free cells parted
        (held_words sizes s kept id v at later refl refl refl word x (cell_apart sizes class number).1)

-- ---- the last slot of the class is put there

module _ (sizes : Sizes) (s : Table.State Call View) (kept : IsKept sizes s) (id : ℕ) (v : View) (at : get_elem? s.views id ≡ some v) (class number : ℕ) (cell : IsCell class number)
    (rest : List ℕ) (name : ℕ) (pool : pool_of v.pool class ≡ rest ++ name ∷ []) (x : ℕ) (names : link_in x ≡ name) (unopened : (handle : ℕ) → v.opens ≡ Some handle → ⊥) where
  abbrev put_words : List ℕ
  put_words = set s.words (cell_word sizes class number) x

  abbrev putting : View
  putting = having_put v class rest

  lost : (b other : ℕ) → IsFree putting b other → IsFree v b other
  lost b other f = (was_free sizes s kept id v at class cell.0 rest name pool b other f).0

  own : IsFree v class name
  own = its_own sizes s kept id v at class cell.0 rest name pool

  cells_put : AreCells sizes (IsSpare sizes kept.account kept.stands) put_words (set s.views id putting)
  cells_put = record {
    spare = λ b n h. elim (aside_then b n h) [
      | inl new ↦
          subst (λ k. IsTaken sizes put_words b k × IsSpare sizes kept.account kept.stands k) new.1
          (subst (λ c. IsTaken sizes put_words c name × IsSpare sizes kept.account kept.stands name) (sym new.0) its_now)
      | inr old ↦ (let y = kept.cells.spare b n old in (still b n (aside_small sizes s.words b n old) y.0, y.1))
    ];
    nobodys = λ b n h k w c e f. elim (aside_then b n h) [
      | inl new ↦ not_free sizes s kept id v at class cell.0 rest name pool k w c e (subst (IsFree w c) (sym new.1) f)
      | inr old ↦ (let u = free_before sizes s kept id v at class cell.0 rest name pool k w c n e f in kept.cells.nobodys b n old u.0 u.1 c u.2 u.3)
    ];
    once = λ b c m n k g h. elim (stored_then sizes s kept id v at class number cell x b m k g) [
      | inl new ↦ elim (stored_then sizes s kept id v at class number cell x c n k h) [
        | inl too ↦ (new.0 ∙ sym too.0, new.1 ∙ sym too.1)
        | inr old ↦ absurd (none_its c k (inl (n, old.0)) (sym names ∙ new.2))
      ]
      | inr old ↦ elim (stored_then sizes s kept id v at class number cell x c n k h) [
        | inl new ↦ absurd (none_its b k (inl (m, old.0)) (sym names ∙ new.2))
        | inr too ↦ kept.cells.once b c m n k old.0 too.0
      ]
    ];
    apart = λ b c m n g h. (let l = loose_before sizes s kept id v at class number cell x c n h in elim (stored_then sizes s kept id v at class number cell x b m n g) [
      | inl new ↦ none_its c n (inr l) (sym names ∙ new.2)
      | inr old ↦ kept.cells.apart b c m n old.0 l
    ]);
  }
    where
      still : (b n : ℕ) → b < 3 → IsTaken sizes s.words b n → IsTaken sizes put_words b n
      still = taken_then sizes s kept id v at (cell_word sizes class number) (no_slots sizes s kept id v at class number cell x) x

      its_now : IsTaken sizes put_words class name × IsSpare sizes kept.account kept.stands name
      its_now = let y = (kept.seats id v at).spare class name own in (still class name cell.0 y.0, y.1)

      aside_then : (b n : ℕ) → IsAside sizes put_words b n → ((b ≡ class) × (name ≡ n)) ⊎ IsAside sizes s.words b n
      aside_then b n (inl (m, h)) = elim (stored_then sizes s kept id v at class number cell x b m n h) [
        | inl new ↦ inl (new.0, sym names ∙ new.2)
        | inr old ↦ inr (inl (m, old.0))
      ]
      aside_then b n (inr l) = inr (inr (loose_before sizes s kept id v at class number cell x b n l))

      none_its : (b n : ℕ) → IsAside sizes s.words b n → name ≡ n → ⊥
      none_its b n aside is = kept.cells.nobodys b n aside id v class at (subst (IsFree v class) is own)

  pub put_kept : IsKept sizes (record { words = put_words; homes = s.homes; views = set s.views id putting })
  put_kept =
      cell_kept sizes s kept id v at class number cell x putting.pool [] (λ b n f. (kept.seats id v at).spare b n (lost b n f))
      (spending.once_then sizes s kept id v at class cell.0 name rest pool) (λ d c. absurd (omega (arith, c.1))) (λ slot handle o f. absurd (unopened handle o))
      (λ b n f. inl (lost b n f)) cells_put (parted_same v.pool class rest)

-- ---- what stands there is fetched

module _ (sizes : Sizes) (s : Table.State Call View) (kept : IsKept sizes s) (id : ℕ) (v : View) (at : get_elem? s.views id ≡ some v) (class number : ℕ) (cell : IsCell class number)
    (name : ℕ) (is : link_in (slice_index s.words (cell_word sizes class number)) ≡ name) (some_name : name ≢ 0) where
  abbrev fetched_words : List ℕ
  fetched_words = set s.words (cell_word sizes class number) 0

  abbrev fetching : View
  fetching = with_free v class name

  its : Stores sizes s.words class number name
  its = (cell, is, some_name)

  its_spare : IsTaken sizes s.words class name × IsSpare sizes kept.account kept.stands name
  its_spare = kept.cells.spare class name (inl (number, its))

  pub fetched_slot : IsSlot sizes class name
  fetched_slot = slot_taken sizes s.words kept.taken class name cell.0 its_spare.0

  -- what stands in cells then stood in others
  stored_before : (b m n : ℕ) → Stores sizes fetched_words b m n → Stores sizes s.words b m n × (cell_word sizes b m ≢ cell_word sizes class number)
  stored_before b m n h = elim (stored_then sizes s kept id v at class number cell 0 b m n h) [
    | inl new ↦ absurd (h.2 (sym new.2))
    | inr old ↦ old
  ]

  not_fetching : (b m n c : ℕ) → Stores sizes s.words b m n → cell_word sizes b m ≢ cell_word sizes class number → IsFree fetching c n → ⊥
  not_fetching b m n c h apart f = elim (was_free_with v.pool class name cell.0 c n f.0 f.1) [
    | inl old ↦ kept.cells.nobodys b n (inl (m, h)) id v c at (f.0, old)
    | inr new ↦
        (let one = kept.cells.once b class m number n h (subst (Stores sizes s.words class number) new.1 its) in
        apart (ap (λ k. cell_word sizes k m) one.0 ∙ ap (cell_word sizes class) one.1))
  ]

  cells_fetched : AreCells sizes (IsSpare sizes kept.account kept.stands) fetched_words (set s.views id fetching)
  cells_fetched = record {
    spare = λ b n h. (let old = aside_before b n h in let y = kept.cells.spare b n old in (still b n (aside_small sizes s.words b n old) y.0, y.1));
    nobodys = λ b n h k w c e f. elim (at_set s.views id k fetching w e) [
      | inl p ↦ not_aside b n c h (subst (λ (y : View). IsFree y c n) (sym p.1) f)
      | inr p ↦ kept.cells.nobodys b n (aside_before b n h) k w c p.1 f
    ];
    once = λ b c m n k g h. kept.cells.once b c m n k (stored_before b m k g).0 (stored_before c n k h).0;
    apart = λ b c m n g h. kept.cells.apart b c m n (stored_before b m n g).0 (loose_before sizes s kept id v at class number cell 0 c n h);
  }
    where
      still : (b n : ℕ) → b < 3 → IsTaken sizes s.words b n → IsTaken sizes fetched_words b n
      still = taken_then sizes s kept id v at (cell_word sizes class number) (no_slots sizes s kept id v at class number cell 0) 0

      aside_before : (b n : ℕ) → IsAside sizes fetched_words b n → IsAside sizes s.words b n
      aside_before b n (inl (m, h)) = inl (m, (stored_before b m n h).0)
      aside_before b n (inr l) = inr (loose_before sizes s kept id v at class number cell 0 b n l)

      not_aside : (b n c : ℕ) → IsAside sizes fetched_words b n → IsFree fetching c n → ⊥
      not_aside b n c (inl (m, h)) f = let old = stored_before b m n h in not_fetching b m n c old.0 old.1 f
      not_aside b n c (inr l) f =
          let old = loose_before sizes s kept id v at class number cell 0 b n l in
          elim (was_free_with v.pool class name cell.0 c n f.0 f.1) [
            | inl free ↦ kept.cells.nobodys b n (inr old) id v c at (f.0, free)
            | inr new ↦ kept.cells.apart class b number n (subst (Stores sizes s.words class number) new.1 its) old
          ]

  spare_now : (b n : ℕ) → IsFree fetching b n → IsTaken sizes s.words b n × IsSpare sizes kept.account kept.stands n
  spare_now b n f = elim (was_free_with v.pool class name cell.0 b n f.0 f.1) [
    | inl old ↦ (kept.seats id v at).spare b n (f.0, old)
    | inr new ↦
        subst (λ k. IsTaken sizes s.words b k × IsSpare sizes kept.account kept.stands k) new.1
        (subst (λ c. IsTaken sizes s.words c name × IsSpare sizes kept.account kept.stands name) (sym new.0) its_spare)
  ]

  free_still_there : (b n : ℕ) → IsFree v b n → IsFree fetching b n
  free_still_there b n f = (f.0, free_still v.pool class name cell.0 b n f.0 f.1)

  written_now : (d : ℕ × ℕ) → Contains v.drafts d → AreDrafts fetched_words fetching d
  written_now d c =
      let h = (own_before sizes s kept id v at (cell_word sizes class number) (no_slots sizes s kept id v at class number cell 0) 0).drafts d c in
      (h.0, (h.1.0, h.1.1, free_still_there h.1.0 h.1.1 h.1.2, h.1.3, h.1.4))

  pub fetch_kept : IsKept sizes (record { words = fetched_words; homes = s.homes; views = set s.views id fetching })
  fetch_kept =
      cell_kept sizes s kept id v at class number cell 0 fetching.pool v.drafts spare_now
      (once_with v.pool class name cell.0 (kept.seats id v at).once (λ c. kept.cells.nobodys class name (inl (number, its)) id v class at (cell.0, c))) written_now
      (λ slot handle o f. free_still_there 1 slot f)
      (λ b n f. elim (was_free_with v.pool class name cell.0 b n f.0 f.1) [
        | inl old ↦ inl (f.0, old)
        | inr new ↦ inr (λ other w c e apart g. kept.cells.nobodys class name (inl (number, its)) other w c e (subst (IsFree w c) (sym new.1) g))
      ]) cells_fetched (parted_same v.pool class (pool_of v.pool class ++ name ∷ []))
