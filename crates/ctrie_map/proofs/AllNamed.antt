-- Where all numbers have names.
use Rattle.std.proofs.Common.{◌≡◌, ℕ, suc, ◌<◌, ◌≤◌, List, [], ◌∷◌, length, Option, Some, None, IsSome, IfNone, is_some, cond, get_or, refl, inl, inr, arith, ◌∙◌}
use Rattle.std.specs.List.{count_by}
use Rattle.std.proofs.lemmas.Bool.{cases_lt}
use Rattle.std.proofs.lemmas.List.Sums.{sum_by-cons}
use Rattle.ctrie_map.specs.declared.names.Name.{Name}

counted_by : (o : Option Name) (names : List (Option Name)) → IsSome o → count_by is_some names ≡ length names → count_by is_some (o ∷ names) ≡ length (o ∷ names)
counted_by None names some e = cc some
counted_by (Some name) names some e = omega (arith, e, sum_by-cons (λ o. cond (is_some o) 1 0) (Some name) names)

-- then they are counted
all_counted : (names : List (Option Name)) → ((k : ℕ) → k < length names → IsSome (get_or names k None)) → count_by is_some names ≡ length names
all_counted [] all = refl
all_counted (o ∷ names) all = counted_by o names (all 0 (omega arith)) (all_counted names (λ k lt. all (suc k) (omega (arith, lt))))

module _ (names : List (Option Name)) (behind : ℕ) (size : length names ≡ 256) where
  abbrev AllFrom : ℕ → ℕ → Type 0
  AllFrom from below = (number : ℕ) → from ≤ number → number < below → IsSome (get_or names number None)

  none_by : AllFrom behind 256 → AllFrom 0 behind → count_by is_some names ≡ 256
  none_by later first = all_counted names (λ k lt. elim (cases_lt k behind) [
    | inl low ↦ first k (omega arith) low
    | inr high ↦ later k high (omega (arith, lt, size))
  ]) ∙ size

  -- and none is free from one on, nor below it
  pub none_free : (free lower : Option ℕ) → free ≡ None → IfNone free (AllFrom behind 256) → IfNone lower (AllFrom 0 behind) → IfNone lower (count_by is_some names ≡ 256)
  none_free None None is later first = none_by later first
  none_free None (Some number) is later first = tt
  none_free (Some number) lower is later first = cc is
