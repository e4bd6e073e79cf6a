-- Lists seen through a function.
use Rattle.std.proofs.Common.{◌≡◌, ℕ, zero, suc, ◌||◌, Bool, List, [], ◌∷◌, set, get_or, map, Option, Some, None, refl, ap, ◌∙◌}
use Rattle.std.specs.Prelude.{option_and_then, slice_get}
use Rattle.std.specs.List.{list_any}

pub any_mapped : {X Y : Type 0} (p : Y → Bool) (f : X → Y) (xs : List X) → list_any p (map f xs) ≡ list_any (λ x. p (f x)) xs
any_mapped p f [] = refl
any_mapped p f (x ∷ xs) = ap (λ b. p (f x) || b) (any_mapped p f xs)

-- what stands at an index, if each element is seen as one or none
pub found_mapped : {X Y : Type 0} (f : X → Option Y) (xs : List X) (n : ℕ) → get_or (map f xs) n None ≡ option_and_then f (slice_get xs n)
found_mapped f [] n = refl
found_mapped f (x ∷ xs) zero = refl
found_mapped f (x ∷ xs) (suc n) = found_mapped f xs n

-- each element is seen alike
pub map_alike : {X Y : Type 0} (f g : X → Y) (xs : List X) → ((i : ℕ) (x : X) → slice_get xs i ≡ Some x → g x ≡ f x) → map g xs ≡ map f xs
map_alike f g [] same = refl
map_alike f g (x ∷ xs) same =
    ap (λ y. y ∷ map g xs) (same zero x refl) ∙ ap (λ ys. f x ∷ ys) (map_alike f g xs (λ i y e. same (suc i) y e))

-- one gave way to another, and each other is seen as before
pub map_replaced : {X Y : Type 0} (f g : X → Y) (xs : List X) (n : ℕ) (x : X) → ((i : ℕ) (y : X) → (i ≡ n → ⊥) → slice_get xs i ≡ Some y → g y ≡ f y) →
    map g (set xs n x) ≡ set (map f xs) n (g x)
map_replaced f g [] n x same = refl
map_replaced f g (y ∷ xs) zero x same = ap (λ ys. g x ∷ ys) (map_alike f g xs (λ i z e. same (suc i) z (λ h. absurd (cc)) e))
map_replaced f g (y ∷ xs) (suc n) x same =
    ap (λ z. z ∷ map g (set xs n x)) (same zero y (λ h. absurd (cc)) refl)
    ∙ ap (λ ys. f y ∷ ys) (map_replaced f g xs n x (λ i z other e. same (suc i) z (λ h. other (same_suc i n h)) e))
  where
    same_suc : (i n : ℕ) → suc i ≡ suc n → i ≡ n
    same_suc i n e = cc
