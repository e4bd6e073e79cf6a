-- What it comes to that any one key is taken out.
use Rattle.std.specs.Prelude.{◌≡◌, ℕ, Bool, true, false, cond, Option, Some, None, Ok}
use Rattle.std.specs.Cmp.{nat_cmp_total}
use Rattle.std.specs.FinMap as map
use Rattle.std.specs.FinMap.{same_map, nat_cmp-IsAntisymmetric}
use Rattle.std.specs.Ordering.{eq_by_cmp, nat_cmp}
use Rattle.std.specs.Option.{unwrap_or}
use Rattle.std.proofs.Common.{refl, sym, ap, subst, ◌∙◌}
use Rattle.ctrie_map.specs.Vocabulary.{Writable, naming, KeyMap}
use Rattle.ctrie_map.specs.Changes.{Changes}
use Rattle.ctrie_map.specs.Maps.{Becomes, MapState, handles_of}
use Rattle.ctrie_map.specs.Reading.{IsOneOf, Reads, read_of, reading, without}
use Rattle.ctrie_map.proofs.Lookups.{same_told}

abbrev no_value : Option ℕ
no_value = None

-- where there is no key, none is taken out
remove_none : (key : ℕ) → map.remove {X = ℕ} {R = nat_cmp} map.empty key ≡ map.empty
remove_none key =
    same_map nat_cmp_total nat_cmp-IsAntisymmetric (map.remove map.empty key) map.empty
    (λ q. map.get-remove nat_cmp_total map.empty key q ∙ ap (λ o. cond (eq_by_cmp nat_cmp q key) None o) (map.get-empty nat_cmp q) ∙ by_test (eq_by_cmp nat_cmp q key) ∙ sym (map.get-empty nat_cmp q))
  where
    by_test : (b : Bool) → cond b no_value no_value ≡ no_value
    by_test true = refl
    by_test false = refl

removed_is : (m : KeyMap) (first : Option (ℕ × ℕ)) (other : ℕ × ℕ) → IsOneOf m first → map.remove m (unwrap_or first other).0 ≡ without first m
removed_is m None other none = ap (λ (n : KeyMap). map.remove n other.0) none ∙ remove_none other.0 ∙ sym none
removed_is m (Some pair) other one = refl

-- whichever key is asked for where there is none
pub popped : (before after : MapState) (h : ℕ) (first : Option (ℕ × ℕ)) (other : ℕ × ℕ) (told : Option ℕ) → Reads before h IsOneOf (Ok first) →
    Changes before h (λ m. told ≡ map.get m (unwrap_or first other).0) (λ m. map.remove m (unwrap_or first other).0) after →
    Changes before h (λ m. IsOneOf m first) (without first) after
popped before after h first other told (n, read, one) (m, at, value, becomes) =
    let same = same_told (reading before h (λ s. s)) n m read (ap (read_of (λ s. s)) at) in
    let here : IsOneOf m first = subst (λ k. IsOneOf k first) same one in
    (m, at, here, subst (λ k. Becomes before (naming (handles_of before) h Writable k) after) (removed_is m first other here) becomes)
