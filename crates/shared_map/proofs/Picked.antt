-- What one shard after another has found.
use Rattle.std.proofs.Common.{◌≡◌, ℕ, suc, List, [], ◌∷◌, ◌++◌, Option, Some, None, Ok, refl, sym, ap, ap₂, subst, ◌∙◌}
use Rattle.std.specs.FinMap as maps
use Rattle.shared_map.specs.Vocabulary.{HandleState}
use Rattle.ctrie_map.specs.Maps.{MapState, handles_of}
use Rattle.ctrie_map.specs.Reading.{IsOneOf, ReadsOf, read_of}
use Rattle.shared_map.specs.declared.picking.Picking.{Picking}
use Rattle.shared_map.specs.Picking.{IsFoundWith, IsPicked, Picks}
use Rattle.shared_map.specs.Turning.{map_shown}
use Rattle.shared_map.specs.Visits.{VisitedEach}
use Rattle.shared_map.proofs.TurnAll.{empty_pairs, pairs_shown, value_shown}

-- ---- one shard

found_read : (o : Option HandleState) (found : Option (ℕ × ℕ)) → ReadsOf (read_of (λ m. m) o) IsOneOf (Ok found) → IsOneOf (map_shown o) found
found_read None found (m, read, one) = cc
found_read (Some shown) found (m, read, one) =
    let same : shown.pairs ≡ m = cc in subst (λ m. IsOneOf m found) (sym same) one

pub found_here : (o : Option HandleState) (before found : Option (ℕ × ℕ)) → before ≡ None → ReadsOf (read_of (λ m. m) o) IsOneOf (Ok found) →
    IsFoundWith (map_shown o) before found
found_here o before found none read = subst (λ b. IsFoundWith (map_shown o) b found) (sym none) (found_read o found read)

-- ---- all shards

abbrev IsPickedWith : ℕ → List MapState → Option (ℕ × ℕ) → Option (ℕ × ℕ) → Type 0
IsPickedWith h ss (Some pair) found = found ≡ Some pair
IsPickedWith h ss None found = IsPicked h ss found

picked_of_none : (h : ℕ) (found : Option (ℕ × ℕ)) → IsPickedWith h [] found found
picked_of_none h None = refl
picked_of_none h (Some pair) = refl

module _ (h : ℕ) (s : MapState) (ss : List MapState) where
  picked_later : (found : Option (ℕ × ℕ)) → map_shown (maps.get (handles_of s) h) ≡ maps.empty → IsPicked h ss found → IsPicked h (s ∷ ss) found
  picked_later None empty none =
      ap₂ (λ ps qs. ps ++ qs) (sym (pairs_shown (maps.get (handles_of s) h)) ∙ ap maps.entries empty ∙ empty_pairs) none
  picked_later (Some pair) empty (i, t, at, has) = (suc i, t, at, has)

  picked_more : (was between found : Option (ℕ × ℕ)) → IsFoundWith (map_shown (maps.get (handles_of s) h)) was between → IsPickedWith h ss between found →
      IsPickedWith h (s ∷ ss) was found
  picked_more (Some pair) between found stays rest = subst (λ b. IsPickedWith h ss b found) stays rest
  picked_more None (Some pair) found here rest =
      subst (IsPicked h (s ∷ ss)) (sym rest) (0, s, refl, sym (value_shown pair.0 (maps.get (handles_of s) h)) ∙ here)
  picked_more None None found here rest = picked_later found here rest

picked_by : (before after : Picking) (ss ts : List MapState) → VisitedEach Picks before ss after ts → (ts ≡ ss) × IsPickedWith before.handle ss before.found after.found
picked_by before after [] [] each =
    (refl, subst (λ (v : Picking). IsPickedWith before.handle [] before.found v.found) (sym each) (picked_of_none before.handle before.found))
picked_by before after [] (t ∷ ts) each = absurd each
picked_by before after (s ∷ ss) [] each = absurd each
picked_by before after (s ∷ ss) (t ∷ ts) (between, did, each) =
    let (same, rest) = picked_by between after ss ts each in (
      ap₂ (λ x xs. x ∷ xs) did.0 same,
      picked_more before.handle s ss before.found between.found after.found did.2 (subst (λ h. IsPickedWith h ss between.found after.found) did.1 rest),
    )

pub picked : (h : ℕ) (after : Picking) (ss ts : List MapState) → VisitedEach Picks (record { handle = h; found = None }) ss after ts → (ts ≡ ss) × IsPicked h ss after.found
picked h after ss ts each = picked_by (record { handle = h; found = None }) after ss ts each
