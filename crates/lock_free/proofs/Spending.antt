-- A seat uses the last slot of a class that is free for it.
use Rattle.history.specs.declared.calls.Call.{Call}
use Rattle.std.proofs.Common.{◌≡◌, ◌≢◌, ◌*◌, ℕ, ◌<◌, inl, inr, List, [], ◌∷◌, ◌++◌, Contains, sym, ap, subst, ◌∙◌, arith}
use Rattle.std.proofs.lemmas.Bool.{cases_eq}
use Rattle.std.proofs.lemmas.List.Elements.{Contains-append_left, Contains-append_right, Contains-get_or, Contains-push_cases}
use mathlib.Core.Option.{some}
use lib.ListN.{get_elem?}
use Rattle.atomic_table.specs.Table as Table
use Rattle.lock_free.specs.declared.rules.Pool.{Pool}
use Rattle.lock_free.specs.declared.rules.View.{View}
use Rattle.lock_free.specs.declared.sizes.Sizes.{Sizes}
use Rattle.lock_free.specs.Making.{with_slots}
use Rattle.lock_free.specs.Places.{IsTaken}
use Rattle.lock_free.specs.Rules.{IsFree, IsSpare, IsSeat, IsKept, Once, pool_of}
use Rattle.lock_free.proofs.Framing.{has_words}
use Rattle.lock_free.proofs.Geometry.{slots_apart}
use Rattle.lock_free.proofs.Pools.{once_rest, pool_same, pool_else}

module _ (sizes : Sizes) (s : Table.State Call View) (kept : IsKept sizes s) (id : ℕ) (v : View) (at : get_elem? s.views id ≡ some v) (class : ℕ) (small : class < 3) (name : ℕ) (rest : List ℕ)
    (pool : pool_of v.pool class ≡ rest ++ name ∷ []) where
  abbrev pub pool_then : Pool
  pool_then = with_slots v.pool class rest

  seat : IsSeat sizes kept.account kept.stands s.words v
  seat = kept.seats id v at

  pub its_own : IsFree v class name
  its_own = (small, subst (λ xs. Contains xs name) (sym pool) (Contains-append_right rest (name ∷ []) name (Contains-get_or (name ∷ []) 0 name (omega arith))))

  pub its_spare : IsTaken sizes s.words class name × IsSpare sizes kept.account kept.stands name
  its_spare = seat.spare class name its_own

  -- what is free for the seat then was free before, and is another slot
  pub was_free : (b other : ℕ) → b < 3 → Contains (pool_of pool_then b) other → IsFree v b other × (other ≢ name)
  was_free b other low c = elim (cases_eq b class) [
    | inl same ↦
        (let inside_rest : Contains rest other = subst (λ xs. Contains xs other) (ap (λ n. pool_of pool_then n) same ∙ pool_same v.pool class rest small) c in
        let alone = once_rest rest name (subst Once pool (seat.once class small)) in (
          (low, subst (λ xs. Contains xs other) (sym (ap (λ n. pool_of v.pool n) same ∙ pool)) (Contains-append_left rest (name ∷ []) other inside_rest)),
          λ is. alone.1 (subst (λ n. Contains rest n) is inside_rest),
        ))
    | inr differs ↦
        (let before : IsFree v b other = (low, subst (λ xs. Contains xs other) (pool_else v.pool class b rest small low differs) c) in (
          before,
          λ is. differs
              (slots_apart sizes s.words kept.taken b class other name (2 * name) low small (seat.spare b other before).0 its_spare.0
              (record { low = omega (arith, is); high = (let some = has_words b low in omega (arith, is, some)) })
              (record { low = omega arith; high = (let some = has_words class small in omega (arith, some)) })).0,
        ))
  ]

  pub once_then : (b : ℕ) → b < 3 → Once (pool_of pool_then b)
  once_then b small_b = elim (cases_eq b class) [
    | inl same ↦ subst Once (sym (ap (λ n. pool_of pool_then n) same ∙ pool_same v.pool class rest small)) (once_rest rest name (subst Once pool (seat.once class small))).0
    | inr differs ↦ subst Once (sym (pool_else v.pool class b rest small small_b differs)) (seat.once b small_b)
  ]

  -- a slot of another class, or another slot of this one, is free still
  pub still_free : (b other : ℕ) → other ≢ name → IsFree v b other → Contains (pool_of pool_then b) other
  still_free b other differs f = elim (cases_eq b class) [
    | inl same ↦
        subst (λ xs. Contains xs other) (sym (ap (λ n. pool_of pool_then n) same ∙ pool_same v.pool class rest small))
        (kept_in rest (subst (λ xs. Contains xs other) (ap (λ n. pool_of v.pool n) same ∙ pool) f.1))
    | inr apart ↦ subst (λ xs. Contains xs other) (sym (pool_else v.pool class b rest small f.0 apart)) f.1
  ]
    where
      kept_in : (xs : List ℕ) → Contains (xs ++ name ∷ []) other → Contains xs other
      kept_in xs c = elim (Contains-push_cases xs name other c) [
        | inl old ↦ old
        | inr new ↦ absurd (differs (sym new))
      ]
