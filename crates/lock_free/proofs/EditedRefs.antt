-- What a changed list of entries has is the new one, or was there before.
use Rattle.std.proofs.Common.{◌≡◌, ◌⊎◌, ◌+◌, ◌<◌, ◌≤◌, ◌==◌, ◌∷◌, [], inl, inr, ℕ, List, Contains, cond, length, length-set, ap, arith}
use Rattle.std.specs.Prelude.{insert, remove, slice_set}
use Rattle.std.proofs.lemmas.Bool.{cases_lt}
use Rattle.std.proofs.lemmas.List.{get_or-set_same}
use Rattle.std.proofs.lemmas.List.Edits.{get_or-insert_at, length-insert}
use Rattle.std.proofs.lemmas.List.Sums.{sum_by-cons, sum_by-insert, sum_by-remove, sum_by-set}
use Rattle.machine_model.specs.Beneath.slot_arena.specs.declared.refs.Ref.{Ref}
use Rattle.machine_model.specs.declared.building.Change.{Change}
use Rattle.machine_model.specs.declared.building.Change.TheVariants as change
use Rattle.lock_free.specs.declared.changing.Edit.{Edit}
use Rattle.lock_free.specs.declared.changing.Edit.TheVariants as edit
use Rattle.lock_free.specs.declared.rules.View.{View}
use Rattle.lock_free.specs.Changing.{brought, CanEdit, IsChange}
use Rattle.lock_free.specs.Counts.{how_often}
use Rattle.lock_free.specs.OwesAt.{made_for_change}
use Rattle.lock_free.specs.Raising.{all_but}
use Rattle.lock_free.proofs.ClaimsThere.{has_often, often_has}
use Rattle.lock_free.proofs.MainChanges.{refs_edited}

module _ (k : Ref) where
  abbrev is : ℕ → ℕ
  is m = cond (m == k) 1 0

  one : (x : Ref) → how_often k (x ∷ []) ≡ is x
  one x = let all = sum_by-cons is x [] in omega (arith, all)

  -- one that was put in is left out
  put_in : (refs : List Ref) (place : ℕ) (x : Ref) → place ≤ length refs →
      (how_often k (remove (insert refs place x) place) ≡ how_often k refs) × (how_often k (insert refs place x) ≡ how_often k (remove (insert refs place x) place) + is x)
  put_in refs place x low =
      let more = sum_by-insert is refs place x in
      let long = length-insert refs place x low in
      let less = sum_by-remove is (insert refs place x) place 0 (omega (arith, long, low)) in
      let there = ap is (get_or-insert_at refs place x 0 low) in
      (omega (arith, more, less, there), omega (arith, less, there))

  -- one that came to the place of another
  put_over : (refs : List Ref) (place : ℕ) (x : Ref) → place < length refs →
      (how_often k (remove (slice_set refs place x) place) ≤ how_often k refs) × (how_often k (slice_set refs place x) ≡ how_often k (remove (slice_set refs place x) place) + is x)
  put_over refs place x low =
      let more = sum_by-set is refs place x 0 low in
      let long = length-set refs place x in
      let less = sum_by-remove is (slice_set refs place x) place 0 (omega (arith, long, low)) in
      let there = ap is (get_or-set_same refs place x 0 low) in
      (omega (arith, more, less, there), omega (arith, less, there))

  taken_out : (refs : List Ref) (place : ℕ) → place < length refs → how_often k (remove refs place) ≤ how_often k refs
  taken_out refs place low = let less = sum_by-remove is refs place 0 low in omega (arith, less)

  module _ (v : View) (refs : List Ref) (place : ℕ) where
    abbrev Splits : Edit → Change → Type 0
    Splits e c =
        (how_often k (all_but (brought place e) (refs_edited refs place c)) ≤ how_often k refs)
        × (how_often k (refs_edited refs place c) ≤ how_often k (all_but (brought place e) (refs_edited refs place c)) + how_often k (made_for_change c))

    splits : (e : Edit) (c : Change) → IsChange v e c → CanEdit refs place e → Splits e c
    splits (edit.Insert entry) (change.Insert single) same (low, room) =
        let (rest, all) = put_in refs place single low in let new = one single in (omega (arith, rest), omega (arith, all, new))
    splits (edit.Update position entry) (change.Update at other) (same, to) low =
        let (rest, all) = put_over refs position other low in
        let new = one other in
        let here = ap (λ p. how_often k (slice_set refs p other)) same in
        let left = ap (λ p. how_often k (remove (slice_set refs p other) position)) same in
        (omega (arith, rest, left), omega (arith, all, new, here, left))
    splits (edit.Remove position) (change.Remove at) same low =
        let rest = taken_out refs position low in let here = ap (λ p. how_often k (remove refs p)) same in (omega (arith, rest, here), omega arith)
    splits (edit.Entomb name) (change.Entomb single) same can = (omega arith, omega arith)
    splits (edit.Insert entry) c same can = absurd same
    splits (edit.Update position entry) c same can = absurd same
    splits (edit.Remove position) c same can = absurd same
    splits (edit.Entomb name) c same can = absurd same

    -- it is the new one, or another
    pub new_or_other : (e : Edit) (c : Change) → IsChange v e c → CanEdit refs place e → Contains (refs_edited refs place c) k →
        Contains (made_for_change c) k ⊎ Contains (all_but (brought place e) (refs_edited refs place c)) k
    new_or_other e c same can has =
        let some = has_often k (refs_edited refs place c) has in
        let all = (splits e c same can).1 in
        elim (cases_lt 0 (how_often k (made_for_change c))) [
          | inl new ↦ inl (often_has k (made_for_change c) (omega (arith, new)))
          | inr none ↦ inr (often_has k (all_but (brought place e) (refs_edited refs place c)) (omega (arith, some, all, none)))
        ]

    -- which was there before
    pub other_before : (e : Edit) (c : Change) → IsChange v e c → CanEdit refs place e → Contains (all_but (brought place e) (refs_edited refs place c)) k → Contains refs k
    other_before e c same can has =
        let some = has_often k (all_but (brought place e) (refs_edited refs place c)) has in
        let most = (splits e c same can).0 in
        often_has k refs (omega (arith, some, most))
