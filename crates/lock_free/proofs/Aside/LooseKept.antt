-- A slot that was free for a seat is loose, or one that was loose is free for the seat that takes it up: the rule holds still.
use Rattle.history.specs.declared.calls.Call.{Call}
use Rattle.std.proofs.Common.{◌≡◌, ◌≢◌, ◌<◌, ◌≤◌, ◌⊎◌, ℕ, inl, inr, List, [], ◌∷◌, ◌++◌, Contains, Some, set, slice_index, length, refl, sym, ap, subst, ◌∙◌, arith}
use Rattle.std.proofs.lemmas.Bool.{cases_eq}
use Rattle.std.proofs.lemmas.List.{get_or-set_other, get_or-set_same}
use mathlib.Core.Option.{some}
use lib.ListN.{get_elem?}
use Rattle.atomic_table.specs.Table as Table
use Rattle.atomic_table.proofs.Lists.{at_set}
use Rattle.lock_free.specs.declared.rules.View.{View}
use Rattle.lock_free.specs.declared.sizes.Sizes.{Sizes}
use Rattle.lock_free.specs.Cells.{loose_link, pool_of, AreCells, IsAside, IsFree, IsLoose, Stores}
use Rattle.lock_free.specs.CellWords.{having_put}
use Rattle.lock_free.specs.Counts.{references, references_in, IsCount}
use Rattle.lock_free.specs.Links.{link_in}
use Rattle.lock_free.specs.Places.{count_word, IsSlot, IsTaken}
use Rattle.lock_free.specs.Rules.{AreDrafts, IsKept, IsSpare}
use Rattle.lock_free.specs.Storing.{with_free}
use Rattle.lock_free.proofs.Aside.PoolKept.{free_before, its_own, not_free, pool_kept, was_free}
use Rattle.lock_free.proofs.CellsStay.{aside_small, beside_cell, count_before}
use Rattle.lock_free.proofs.CountKept.{own_before, taken_then}
use Rattle.lock_free.proofs.CountWords.{count_beside_slots, count_inside, count_once, one_class, IsBesideSlots}
use Rattle.lock_free.proofs.HeldStill.{held_then}
use Rattle.lock_free.proofs.Pools.{free_still, once_with, parted_same, pool_else, was_free as was_free_with}
use Rattle.lock_free.proofs.Spending as spending

module _ (sizes : Sizes) (s : Table.State Call View) (kept : IsKept sizes s) (id : ℕ) (v : View) (at : get_elem? s.views id ≡ some v) (class : ℕ) (small : class < 3) (name : ℕ)
    (slot : IsSlot sizes class name) (x : ℕ) (counts : references_in x ≡ references s.words (count_word sizes class name)) where
  abbrev word : ℕ
  word = count_word sizes class name

  abbrev words_then : List ℕ
  words_then = set s.words word x

  is_count : IsCount sizes word
  is_count = record { class = class; small = small; name = name; slot = slot; is = refl }

  no_slots : IsBesideSlots sizes s.words word
  no_slots = count_beside_slots sizes s.words kept.taken word is_count

  pub inside : word < length s.words
  inside = subst (λ n. word < n) (sym kept.size) (count_inside sizes word is_count)

  is_now : slice_index words_then word ≡ x
  is_now = get_or-set_same s.words word x 0 inside

  same_references : (c : ℕ) → references words_then c ≡ references s.words c
  same_references c = elim (cases_eq c word) [
    | inl same ↦ subst (λ n. references words_then n ≡ references s.words n) (sym same) (ap references_in is_now ∙ counts)
    | inr differs ↦ ap references_in (get_or-set_other s.words word c x 0 differs)
  ]

  still : (b n : ℕ) → b < 3 → IsTaken sizes s.words b n → IsTaken sizes words_then b n
  still = taken_then sizes s kept id v at word no_slots x

  -- what stands in cells stood there
  stored : (b m n : ℕ) → Stores sizes words_then b m n → Stores sizes s.words b m n
  stored b m n h = (h.0, ap link_in (sym (beside_cell sizes s.words word x (count_before sizes word is_count) b m h.0)) ∙ h.1, h.2)

  -- what is loose is this slot, or another one that was
  loose_then : (b n : ℕ) → IsLoose sizes words_then b n → ((b ≡ class) × (n ≡ name) × (loose_link ≤ link_in x)) ⊎ (IsLoose sizes s.words b n × (n ≢ name))
  loose_then b n h = elim (cases_eq (count_word sizes b n) word) [
    | inl same ↦
        let one = count_once sizes b n class name h.0 small h.1 slot same in
        inl (one.0, one.1, subst (λ k. loose_link ≤ link_in k) (ap (slice_index words_then) same ∙ is_now) h.2)
    | inr differs ↦
        inr (
          (h.0, h.1, subst (λ k. loose_link ≤ link_in k) (get_or-set_other s.words word (count_word sizes b n) x 0 differs) h.2),
          λ e. differs (ap (λ c. count_word sizes c n) (one_class sizes b class n h.0 small h.1 (subst (IsSlot sizes class) (sym e) slot)) ∙ ap (count_word sizes class) e),
        )
  ]

  -- ---- it is the last one of its class that was free for the seat

  module _ (rest : List ℕ) (pool : pool_of v.pool class ≡ rest ++ name ∷ []) (unopened : (handle : ℕ) → v.opens ≡ Some handle → class ≢ 1) where
    abbrev pub putting : View
    putting = having_put v class rest

    lost : (b other : ℕ) → IsFree putting b other → IsFree v b other
    lost b other f = (was_free sizes s kept id v at class small rest name pool b other f).0

    own : IsFree v class name
    own = its_own sizes s kept id v at class small rest name pool

    aside_then : (b n : ℕ) → IsAside sizes words_then b n → ((b ≡ class) × (n ≡ name)) ⊎ IsAside sizes s.words b n
    aside_then b n (inl (m, h)) = inr (inl (m, stored b m n h))
    aside_then b n (inr h) = elim (loose_then b n h) [
      | inl new ↦ inl (new.0, new.1)
      | inr old ↦ inr (inr old.0)
    ]

    none_its : (b n : ℕ) → IsAside sizes s.words b n → n ≡ name → ⊥
    none_its b n aside is = kept.cells.nobodys b n aside id v class at (subst (IsFree v class) (sym is) own)

    its_now : IsTaken sizes words_then class name × IsSpare sizes kept.account kept.stands name
    its_now = let y = (kept.seats id v at).spare class name own in (still class name small y.0, y.1)

    cells_loosened : AreCells sizes (IsSpare sizes kept.account kept.stands) words_then (set s.views id putting)
    cells_loosened = record {
      spare = λ b n h. elim (aside_then b n h) [
        | inl new ↦
            subst (λ k. IsTaken sizes words_then b k × IsSpare sizes kept.account kept.stands k) (sym new.1)
            (subst (λ c. IsTaken sizes words_then c name × IsSpare sizes kept.account kept.stands name) (sym new.0) its_now)
        | inr old ↦ (let y = kept.cells.spare b n old in (still b n (aside_small sizes s.words b n old) y.0, y.1))
      ];
      nobodys = λ b n h k w c e f. elim (aside_then b n h) [
        | inl new ↦ not_free sizes s kept id v at class small rest name pool k w c e (subst (IsFree w c) new.1 f)
        | inr old ↦ (let u = free_before sizes s kept id v at class small rest name pool k w c n e f in kept.cells.nobodys b n old u.0 u.1 c u.2 u.3)
      ];
      once = λ b c m n k g h. kept.cells.once b c m n k (stored b m k g) (stored c n k h);
      apart = λ b c m n g h. elim (loose_then c n h) [
        | inl new ↦ none_its b n (inl (m, stored b m n g)) new.1
        | inr old ↦ kept.cells.apart b c m n (stored b m n g) old.0
      ];
    }

    pub loosen_kept : IsKept sizes (record { words = words_then; homes = s.homes; views = set s.views id putting })
    loosen_kept =
        pool_kept sizes s kept id v at word no_slots x putting.pool [] (λ b n f. (kept.seats id v at).spare b n (lost b n f))
        (spending.once_then sizes s kept id v at class small name rest pool) (λ d c. absurd (omega (arith, c.1)))
        (λ slot_1 handle o f. (f.0, subst (λ xs. Contains xs slot_1) (sym (pool_else v.pool class 1 rest small f.0 (λ e. unopened handle o (sym e)))) f.1)) (λ b n f. inl (lost b n f)) cells_loosened
        (parted_same v.pool class rest) (held_then sizes s kept id v at putting refl refl refl words_then (λ c is. same_references c))

  -- ---- it was loose, and isn't

  module _ (was : loose_link ≤ link_in (slice_index s.words word)) (now : loose_link ≤ link_in x → ⊥) where
    abbrev pub taking : View
    taking = with_free v class name

    its : IsAside sizes s.words class name
    its = inr (small, slot, was)

    its_spare : IsTaken sizes s.words class name × IsSpare sizes kept.account kept.stands name
    its_spare = kept.cells.spare class name its

    loose_before : (b n : ℕ) → IsLoose sizes words_then b n → IsLoose sizes s.words b n × (n ≢ name)
    loose_before b n h = elim (loose_then b n h) [
      | inl new ↦ absurd (now new.2)
      | inr old ↦ old
    ]

    aside_before : (b n : ℕ) → IsAside sizes words_then b n → IsAside sizes s.words b n × (n ≢ name)
    aside_before b n (inl (m, h)) = let old = stored b m n h in (inl (m, old), λ e. kept.cells.apart b class m n old (subst (IsLoose sizes s.words class) (sym e) (small, slot, was)))
    aside_before b n (inr h) = let old = loose_before b n h in (inr old.0, old.1)

    not_taken : (b n c : ℕ) → IsAside sizes words_then b n → IsFree taking c n → ⊥
    not_taken b n c h f = let old = aside_before b n h in elim (was_free_with v.pool class name small c n f.0 f.1) [
      | inl free ↦ kept.cells.nobodys b n old.0 id v c at (f.0, free)
      | inr new ↦ old.1 (sym new.1)
    ]

    cells_taken : AreCells sizes (IsSpare sizes kept.account kept.stands) words_then (set s.views id taking)
    cells_taken = record {
      spare = λ b n h. (let old = (aside_before b n h).0 in let y = kept.cells.spare b n old in (still b n (aside_small sizes s.words b n old) y.0, y.1));
      nobodys = λ b n h k w c e f. elim (at_set s.views id k taking w e) [
        | inl p ↦ not_taken b n c h (subst (λ (y : View). IsFree y c n) (sym p.1) f)
        | inr p ↦ kept.cells.nobodys b n (aside_before b n h).0 k w c p.1 f
      ];
      once = λ b c m n k g h. kept.cells.once b c m n k (stored b m k g) (stored c n k h);
      apart = λ b c m n g h. kept.cells.apart b c m n (stored b m n g) (loose_before c n h).0;
    }

    spare_now : (b n : ℕ) → IsFree taking b n → IsTaken sizes s.words b n × IsSpare sizes kept.account kept.stands n
    spare_now b n f = elim (was_free_with v.pool class name small b n f.0 f.1) [
      | inl old ↦ (kept.seats id v at).spare b n (f.0, old)
      | inr new ↦
          subst (λ k. IsTaken sizes s.words b k × IsSpare sizes kept.account kept.stands k) new.1
          (subst (λ c. IsTaken sizes s.words c name × IsSpare sizes kept.account kept.stands name) (sym new.0) its_spare)
    ]

    free_still_there : (b n : ℕ) → IsFree v b n → IsFree taking b n
    free_still_there b n f = (f.0, free_still v.pool class name small b n f.0 f.1)

    written_now : (d : ℕ × ℕ) → Contains v.drafts d → AreDrafts words_then taking d
    written_now d c =
        let h = (own_before sizes s kept id v at word no_slots x).drafts d c in
        (h.0, (h.1.0, h.1.1, free_still_there h.1.0 h.1.1 h.1.2, h.1.3, h.1.4))

    pub take_up_kept : IsKept sizes (record { words = words_then; homes = s.homes; views = set s.views id taking })
    take_up_kept =
        pool_kept sizes s kept id v at word no_slots x taking.pool v.drafts spare_now
        (once_with v.pool class name small (kept.seats id v at).once (λ c. kept.cells.nobodys class name its id v class at (small, c))) written_now
        (λ slot_1 handle o f. free_still_there 1 slot_1 f)
        (λ b n f. elim (was_free_with v.pool class name small b n f.0 f.1) [
          | inl old ↦ inl (f.0, old)
          | inr new ↦ inr (λ other w c e apart g. kept.cells.nobodys class name its other w c e (subst (IsFree w c) (sym new.1) g))
        ]) cells_taken (parted_same v.pool class (pool_of v.pool class ++ name ∷ [])) (held_then sizes s kept id v at taking refl refl refl words_then (λ c is. same_references c))
