-- The least pairs of all shards are among the least of each.
use Rattle.std.proofs.Common.{◌≡◌, ℕ, zero, suc, Bool, cond, List, [], ◌∷◌, ◌++◌, take, Option, Some, None}
use Rattle.std.proofs.Common.{refl, sym, ap, ◌∙◌, arith}
use Rattle.std.specs.FinMap as maps
use Rattle.std.specs.List.{filter}
use Rattle.std.proofs.lemmas.List.{take-take}
use Rattle.std.proofs.lemmas.List.Elements.{filter-append}
use Rattle.std.proofs.lemmas.List.Sums.{sum_by-append}
use Rattle.ctrie_base.proofs.Sorting.{Rises, same_rising, sorted_alike, sorted_rises}
use Rattle.shared_map.specs.Vocabulary.{HandleMap, HandleState, by_key, comes_before}
use Rattle.shared_map.specs.Beneath.proof_core.proofs.Filtered.{filter_sorted}
use Rattle.shared_map.specs.Beneath.proof_core.proofs.Firsts.{take_sorted}
use Rattle.shared_map.specs.Beneath.machine_core.proofs.Selected.{by_alike}
use Rattle.shared_map.specs.Beneath.machine_core.proofs.Sorting.{pairs_order}
use Rattle.shared_map.specs.Beneath.proof_core.specs.Reading.{is_after, next_of}
use Rattle.shared_map.specs.Beneath.proof_contents.proofs.Pairs.Lists.{Pairs}
use Rattle.shared_map.specs.declared.listing.Listed.TheVariants.{Next}
use Rattle.shared_map.specs.Listing.{pairs_listed}
use Rattle.shared_map.specs.Uniting.{pairs_at, pairs_of}
use Rattle.shared_map.proofs.Finding.{entries_by_key}

-- ---- what rises

rises_take : {A : Type 0} (before : A → A → Bool) (n : ℕ) (xs : List A) → Rises before xs → Rises before (take n xs)
rises_take before zero [] up = tt
rises_take before zero (x ∷ xs) up = tt
rises_take before (suc n) [] up = tt
rises_take before (suc zero) (x ∷ []) up = tt
rises_take before (suc zero) (x ∷ y ∷ xs) up = tt
rises_take before (suc (suc n)) (x ∷ []) up = tt
rises_take before (suc (suc n)) (x ∷ y ∷ xs) up = (up.0, rises_take before (suc n) (y ∷ xs) up.1)

-- what rises is sorted already
rising_sorted : (xs : Pairs) → Rises comes_before xs → by_key xs ≡ xs
rising_sorted xs up = same_rising comes_before pairs_order (by_key xs) xs (sorted_rises comes_before pairs_order xs) up (sorted_alike comes_before pairs_order xs)

-- so are the first ones of what is sorted
least_again : (n : ℕ) (xs : Pairs) → take n (by_key (take n (by_key xs))) ≡ take n (by_key (by_key xs))
least_again n xs =
    let up = sorted_rises comes_before pairs_order xs in
    ap (take n) (rising_sorted (take n (by_key xs)) (rises_take comes_before n (by_key xs) up))
    ∙ take-take n n (by_key xs) (omega arith) ∙ ap (take n) (sym (rising_sorted (by_key xs) up))

pairs_sorted : (o : Option HandleState) → by_key (pairs_of o) ≡ pairs_of o
pairs_sorted None = refl
pairs_sorted (Some shown) = entries_by_key shown.pairs

swapped : (xs ys : Pairs) → by_key (xs ++ ys) ≡ by_key (ys ++ xs)
swapped xs ys =
    by_alike (xs ++ ys) (ys ++ xs) (λ t.
    let n : ℕ × ℕ → ℕ = λ x. cond (t x) 1 0 in
    omega (arith, sum_by-append n xs ys, sum_by-append n ys xs))

-- ---- parts

module _ (cursor : Option ℕ) (room : ℕ) where
  abbrev wanted : Pairs → Pairs
  wanted ps = filter (λ (p : ℕ × ℕ). is_after cursor p.0) ps

  wanted_sorted : (ps : Pairs) → by_key (wanted ps) ≡ wanted (by_key ps)
  wanted_sorted ps = filter_sorted comes_before pairs_order (λ (p : ℕ × ℕ). is_after cursor p.0) ps

  -- of sorted pairs the next ones count alone
  next_counts : (ps : Pairs) → by_key ps ≡ ps → take room (by_key (next_of cursor room ps)) ≡ take room (by_key (wanted ps))
  next_counts ps sorted =
      let is : wanted ps ≡ by_key (wanted ps) = sym (wanted_sorted ps ∙ ap wanted sorted) in
      ap (λ xs. take room (by_key (take room xs))) is ∙ least_again room (wanted ps) ∙ ap (λ xs. take room (by_key xs)) (sym is)

  next_before : (ps rest : Pairs) → by_key ps ≡ ps → take room (by_key (next_of cursor room ps ++ rest)) ≡ take room (by_key (wanted ps ++ rest))
  next_before ps rest sorted =
      ap (take room) (swapped (next_of cursor room ps) rest)
      ∙ take_sorted comes_before room rest (next_of cursor room ps) (wanted ps) (next_counts ps sorted)
      ∙ ap (take room) (swapped rest (wanted ps))

  least_wanted : (h : ℕ) (ws : List HandleMap) → take room (by_key (pairs_listed (Next cursor room) h ws)) ≡ take room (by_key (wanted (pairs_at h ws)))
  least_wanted h [] = refl
  least_wanted h (w ∷ ws) =
      take_sorted comes_before room (next_of cursor room (pairs_of (maps.get w h))) (pairs_listed (Next cursor room) h ws) (wanted (pairs_at h ws)) (least_wanted h ws)
      ∙ next_before (pairs_of (maps.get w h)) (wanted (pairs_at h ws)) (pairs_sorted (maps.get w h))
      ∙ ap (λ xs. take room (by_key xs)) (sym (filter-append (λ (p : ℕ × ℕ). is_after cursor p.0) (pairs_of (maps.get w h)) (pairs_at h ws)))

  -- the least of what comes next in each is what comes next in all
  pub least_of_all : (h : ℕ) (ws : List HandleMap) → take room (by_key (pairs_listed (Next cursor room) h ws)) ≡ next_of cursor room (by_key (pairs_at h ws))
  least_of_all h ws = least_wanted h ws ∙ ap (take room) (wanted_sorted (pairs_at h ws))
