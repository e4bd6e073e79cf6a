-- A slot is put into a cell, or fetched from one: accesses that are no step.
use Rattle.history.specs.declared.calls.Call.{Call}
use Rattle.std.proofs.Common.{◌≡◌, ◌≢◌, ◌+◌, ◌*◌, ◌<◌, ◌≤◌, ◌⊎◌, ◌==◌, ◌++◌, ◌∷◌, ℕ, inl, inr, List, [], Contains, None, set, slice_index, refl, sym, ap, subst, ◌∙◌, arith}
use Rattle.std.proofs.lemmas.Bool.{cases_eq}
use Rattle.std.proofs.lemmas.List.{same_from_push}
use Rattle.std.proofs.lemmas.List.Elements.{Contains-append_left}
use Rattle.std.proofs.lemmas.Option.{none-some}
use mathlib.Core.Option.{some, none}
use lib.ListN.{get_elem?}
use prog.Atomic.{either}
use Rattle.atomic_table.specs.Table.{Me, Allows, step}
use Rattle.atomic_table.specs.Table as Table
use Rattle.atomic_table.proofs.Lists.{set_again}
use Rattle.lock_free.specs.declared.rules.View.{View}
use Rattle.lock_free.specs.declared.sizes.Sizes.{Sizes}
use Rattle.lock_free.specs.Cells.{pool_of, IsCell, IsFree}
use Rattle.lock_free.specs.CellWords.{has_fetched, has_put, having_put}
use Rattle.lock_free.specs.Links.{link_in}
use Rattle.lock_free.specs.Loading.{IsSound}
use Rattle.lock_free.specs.Making.{with_slots}
use Rattle.lock_free.specs.Places.{cell_word, words_in, words_of, IsSlot}
use Rattle.lock_free.specs.Rules.{IsKept}
use Rattle.lock_free.specs.Shadows.{IsShadowed}
use Rattle.lock_free.specs.Storing.{with_free}
use Rattle.lock_free.proofs.Aside.CellKept.{cell_apart, fetch_kept, fetched_slot, one_cell, put_kept}
use Rattle.lock_free.proofs.EpochStays.{rest_of}
use Rattle.lock_free.proofs.Exchanged.{words_hit, words_miss}
use Rattle.lock_free.proofs.Geometry.{slot_end}
use Rattle.lock_free.proofs.Moments.{allowed}
use Rattle.lock_free.proofs.Pools.{pool_else, pool_same, was_free}

pub cell_inside : (n : ℕ) (v : View) → IsSound n v → (class number : ℕ) → IsCell class number → cell_word v.sizes class number < n
cell_inside n v sound class number cell = let size = sound.size in omega (arith, size, cell.0, cell.1)

module _ (sizes : Sizes) (size id : ℕ) (me : Me Call View) (class number : ℕ) (cell : IsCell class number) (old new : ℕ) where
  abbrev v : View
  v = me.0

  abbrev word : ℕ
  word = cell_word v.sizes class number

  -- what the exchange leaves, by what is told of it
  module _ (then : ℕ → Me Call View → Type 0) (s : Table.State Call View) (kept : IsKept v.sizes s) (at : get_elem? s.views id ≡ some v) where
    abbrev Exchanged : Type 0
    Exchanged = (w : View) × (rest_of w ≡ rest_of v) × IsKept v.sizes (record {
      words = set s.words word (either (slice_index s.words word == old) new (slice_index s.words word));
      homes = s.homes;
      views = set s.views id w;
    })
        × then (slice_index s.words word) (w, me.1)

    -- it finds what it was to replace, or nothing changes
    hit : (w : View) → rest_of w ≡ rest_of v → IsKept v.sizes (record { words = set s.words word new; homes = s.homes; views = set s.views id w }) → slice_index s.words word ≡ old →
        then (slice_index s.words word) (w, me.1) → Exchanged
    hit w same kept_then e told = (
      w,
      same,
      subst (λ ws. IsKept v.sizes (record { words = ws; homes = s.homes; views = set s.views id w })) (words_hit v s kept id at word old new e word refl) kept_then,
      told,
    )

    missed : slice_index s.words word ≢ old → then (slice_index s.words word) (v, me.1) → Exchanged
    missed differs told = (
      v,
      refl,
      subst (λ ws. IsKept v.sizes (record { words = ws; homes = s.homes; views = set s.views id v })) (words_miss v s kept id at word old new differs)
          (subst (λ vs. IsKept v.sizes (record { words = s.words; homes = s.homes; views = vs })) (sym (set_again s.views id v at)) kept),
      told,
    )

  exchange_allowed : 1 ≤ v.sizes.seats → (then : ℕ → Me Call View → Type 0) → ((s : Table.State Call View) (kept : IsKept v.sizes s) (at : get_elem? s.views id ≡ some v) → Exchanged then s kept at) →
      Allows (IsShadowed sizes) size id me word (λ n. either (n == old) new n) then
  exchange_allowed some_seats then each =
      allowed sizes size id me word (λ n. either (n == old) new n) then some_seats (λ s kept at. inl (cell_apart v.sizes class number)) (λ s kept at. (let x = each s kept at in (x.0, x.2, x.3)))
      (λ s kept at. (each s kept at).1)

-- ---- the last slot of the class is put there

module _ (sizes : Sizes) (size id : ℕ) (me : Me Call View) (class number : ℕ) (cell : IsCell class number) (rest : List ℕ) (name : ℕ) (pool : pool_of me.0.pool class ≡ rest ++ name ∷ [])
    (unopened : me.0.opens ≡ None) (x : ℕ) (names : link_in x ≡ name) where
  abbrev puts : ℕ → Me Call View → Type 0
  puts = has_put (step size (cell_word me.0.sizes class number) 0 x none) me

  put_each : (s : Table.State Call View) (kept : IsKept me.0.sizes s) (at : get_elem? s.views id ≡ some me.0) → Exchanged sizes size id me class number cell 0 x puts s kept at
  put_each s kept at = elim (cases_eq (slice_index s.words (cell_word me.0.sizes class number)) 0) [
    | inl e ↦ hit sizes size id me class number cell 0 x puts s kept at (having_put me.0 class rest) refl
        (put_kept me.0.sizes s kept id me.0 at class number cell rest name pool x names (λ handle o. none-some handle (sym unopened ∙ o))) e
        ((λ found c n ns low same is. told c n ns low same is), (λ differs. absurd (differs e)))
    | inr differs ↦ missed sizes size id me class number cell 0 x puts s kept at differs ((λ found. absurd (differs found)), (λ other. refl))
  ]
    where
      told : (c n : ℕ) (ns : List ℕ) → IsCell c n → cell_word me.0.sizes class number ≡ cell_word me.0.sizes c n → pool_of me.0.pool c ≡ ns ++ link_in x ∷ [] →
          ◌≡◌ {A = Me Call View} (having_put me.0 class rest, me.1) (having_put me.0 c ns, me.1)
      told c n ns low same is =
          let one = (one_cell me.0.sizes class number c n cell low same).0 in
          let lists = same_from_push rest ns name (link_in x) (sym pool ∙ ap (pool_of me.0.pool) one ∙ is) in
          ap {B = Me Call View} (λ k. (having_put me.0 k rest, me.1)) one ∙ ap {B = Me Call View} (λ ks. (having_put me.0 c ks, me.1)) lists.0

  pub put_allowed : 1 ≤ me.0.sizes.seats → Allows (IsShadowed sizes) size id me (cell_word me.0.sizes class number) (λ n. either (n == 0) x n) puts
  put_allowed some_seats = exchange_allowed sizes size id me class number cell 0 x some_seats puts put_each

-- what is free for the seat then was so before
pub left_free : (v : View) (class : ℕ) (rest : List ℕ) (name : ℕ) → class < 3 → pool_of v.pool class ≡ rest ++ name ∷ [] → (b other : ℕ) → IsFree (having_put v class rest) b other → IsFree v b other
left_free v class rest name low pool b other f = elim (cases_eq b class) [
  | inl same ↦ (
    f.0,
    subst (λ xs. Contains xs other) (sym (ap (pool_of v.pool) same ∙ pool))
        (Contains-append_left rest (name ∷ []) other (subst (λ xs. Contains xs other) (ap (pool_of (with_slots v.pool class rest)) same ∙ pool_same v.pool class rest low) f.1)),
  )
  | inr differs ↦ (f.0, subst (λ xs. Contains xs other) (pool_else v.pool class b rest low f.0 differs) f.1)
]

pub put_sound : (n : ℕ) (v : View) (class : ℕ) (rest : List ℕ) (name : ℕ) → class < 3 → pool_of v.pool class ≡ rest ++ name ∷ [] → IsSound n v → IsSound n (having_put v class rest)
put_sound n v class rest name low pool h = record {
  size = h.size;
  range = h.range;
  bounds = h.bounds;
  keys = h.keys;
  counted = h.counted;
  inside = h.inside;
  free = λ b other f. h.free b other (left_free v class rest name low pool b other f);
}

-- ---- what stands there is fetched

module _ (sizes : Sizes) (size id : ℕ) (me : Me Call View) (class number : ℕ) (cell : IsCell class number) (found : ℕ) (some_name : link_in found ≢ 0) where
  abbrev name : ℕ
  name = link_in found

  abbrev fetches : ℕ → Me Call View → Type 0
  fetches = has_fetched (step size (cell_word me.0.sizes class number) found 0 none) me

  fetch_each : (s : Table.State Call View) (kept : IsKept me.0.sizes s) (at : get_elem? s.views id ≡ some me.0) → Exchanged sizes size id me class number cell found 0 fetches s kept at
  fetch_each s kept at = elim (cases_eq (slice_index s.words (cell_word me.0.sizes class number)) found) [
    | inl e ↦ hit sizes size id me class number cell found 0 fetches s kept at (with_free me.0 class name) refl
        (fetch_kept me.0.sizes s kept id me.0 at class number cell name (ap link_in e) some_name) e
        ((λ hit c n low same. told c n low same e), (λ differs. absurd (differs e)))
    | inr differs ↦ missed sizes size id me class number cell found 0 fetches s kept at differs ((λ hit. absurd (differs hit)), (λ other. refl))
  ]
    where
      told : (c n : ℕ) → IsCell c n → cell_word me.0.sizes class number ≡ cell_word me.0.sizes c n → slice_index s.words (cell_word me.0.sizes class number) ≡ found →
          IsSlot me.0.sizes c (link_in (slice_index s.words (cell_word me.0.sizes class number)))
          × (◌≡◌ {A = Me Call View} (with_free me.0 class name, me.1) (with_free me.0 c (link_in (slice_index s.words (cell_word me.0.sizes class number))), me.1))
      told c n low same e =
          let one = (one_cell me.0.sizes class number c n cell low same).0 in (
            subst (IsSlot me.0.sizes c) (sym (ap link_in e)) (subst (λ k. IsSlot me.0.sizes k name) one (fetched_slot me.0.sizes s kept id me.0 at class number cell name (ap link_in e) some_name)),
            ap {B = Me Call View} (λ k. (with_free me.0 k name, me.1)) one ∙ ap {B = Me Call View} (λ k. (with_free me.0 c k, me.1)) (sym (ap link_in e)),
          )

  pub fetch_allowed : 1 ≤ me.0.sizes.seats → Allows (IsShadowed sizes) size id me (cell_word me.0.sizes class number) (λ n. either (n == found) 0 n) fetches
  fetch_allowed some_seats = exchange_allowed sizes size id me class number cell found 0 some_seats fetches fetch_each

pub fetch_sound : (n : ℕ) (v : View) (class name : ℕ) → class < 3 → IsSlot v.sizes class name → IsSound n v → IsSound n (with_free v class name)
fetch_sound n v class name low is h = record {
  size = h.size;
  range = h.range;
  bounds = h.bounds;
  keys = h.keys;
  counted = h.counted;
  inside = h.inside;
  free = λ b other f. by b other f.0 (was_free v.pool class name low b other f.0 f.1);
}
  where
    by : (b other : ℕ) → b < 3 → Contains (pool_of v.pool b) other ⊎ ((b ≡ class) × (name ≡ other)) → 2 * other + words_in b ≤ words_of v.sizes
    by b other small (inl old) = h.free b other (small, old)
    by b other small (inr new) =
        subst (λ c. 2 * other + words_in c ≤ words_of v.sizes) (sym new.0) (subst (λ k. 2 * k + words_in class ≤ words_of v.sizes) new.1 (slot_end v.sizes class name low is))
