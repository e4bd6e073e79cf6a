-- What stays in limbo, by the bags.
use Rattle.std.proofs.Common.{◌≡◌, ℕ, ◌-◌, ◌==◌, ◌&&◌, ◌||◌, nat_lt, Bool, true, false, cond, List, [], ◌∷◌, ◌++◌, length, filter, All, refl, sym, ap, ◌∙◌, arith}
use Rattle.std.specs.List.{list_any}
use Rattle.std.proofs.lemmas.Bool.{lt-ltb}
use Rattle.std.proofs.lemmas.List.{length-append, length-map}
use Rattle.std.proofs.lemmas.List.Elements.{All-head, All-tail}
use Rattle.std.proofs.lemmas.List.Folds.{list_any-append}
use Rattle.slot_arena.specs.declared.refs.Ref.{Ref}
use Rattle.slot_arena.specs.Heaps.{Heap, in_use}
use Rattle.slot_arena.specs.Times.{times}
use Rattle.slot_arena.specs.Arenas.{IsLive}
use Rattle.slot_arena.proofs.Times.{bit, once, times-cons}
use Rattle.epochs.specs.declared.limbo.Zeroed.{Zeroed}
use Rattle.epochs.specs.Limbo.{is_zero, is_in, is_in_use}
use Rattle.epochs.specs.Rings.{Bags, all_of}
use Rattle.epochs.specs.Memories.{limbo_of, zeroed_at}
use Rattle.epochs.proofs.InUse.{live_in_use}

-- ---- tests on lists

any_step : (r q : Ref) (rs : List Ref) (b : Bool) → (q == r) ≡ b → list_any (λ p. p == r) rs ≡ nat_lt 0 (times r rs) → (b || list_any (λ p. p == r) rs) ≡ nat_lt 0 (times r (q ∷ rs))
any_step r q rs true e rest = let one : once r q ≡ 1 = ap bit e in sym (lt-ltb 0 (times r (q ∷ rs)) (omega (arith, times-cons r q rs)))
any_step r q rs false e rest = let one : once r q ≡ 0 = ap bit e in let same : times r (q ∷ rs) ≡ times r rs = omega (arith, times-cons r q rs) in rest ∙ ap (nat_lt 0) (sym same)

pub any_times : (r : Ref) (rs : List Ref) → list_any (λ p. p == r) rs ≡ nat_lt 0 (times r rs)
any_times r [] = refl
any_times r (q ∷ rs) = any_step r q rs (q == r) refl (any_times r rs)

any_zeroed : (r : Ref) (epoch : ℕ) (rs : List Ref) → list_any (λ z. z.at == r) (zeroed_at epoch rs) ≡ list_any (λ p. p == r) rs
any_zeroed r epoch [] = refl
any_zeroed r epoch (q ∷ rs) = ap (λ b. (q == r) || b) (any_zeroed r epoch rs)

-- what stands in limbo stands in the bags
pub in_limbo : (epoch : ℕ) (bags : Bags) (r : Ref) → is_in (limbo_of epoch bags) r ≡ nat_lt 0 (times r (all_of bags))
in_limbo epoch bags r =
    let test : Zeroed → Bool = λ z. z.at == r in
    list_any-append test (zeroed_at (epoch - 2) bags.oldest ++ zeroed_at (epoch - 1) bags.middle) (zeroed_at epoch bags.present)
    ∙ ap (λ b. b || list_any test (zeroed_at epoch bags.present)) (list_any-append test (zeroed_at (epoch - 2) bags.oldest) (zeroed_at (epoch - 1) bags.middle))
    ∙ ap (λ b. (b || list_any test (zeroed_at (epoch - 1) bags.middle)) || list_any test (zeroed_at epoch bags.present)) (any_zeroed r (epoch - 2) bags.oldest)
    ∙ ap (λ b. (list_any (λ p. p == r) bags.oldest || b) || list_any test (zeroed_at epoch bags.present)) (any_zeroed r (epoch - 1) bags.middle)
    ∙ ap (λ b. (list_any (λ p. p == r) bags.oldest || list_any (λ p. p == r) bags.middle) || b) (any_zeroed r epoch bags.present)
    ∙ ap (λ b. b || list_any (λ p. p == r) bags.present) (sym (list_any-append (λ p. p == r) bags.oldest bags.middle))
    ∙ sym (list_any-append (λ p. p == r) (bags.oldest ++ bags.middle) bags.present) ∙ any_times r (all_of bags)

-- ---- what stays

stay_step : (heap : Heap) (outside : List Ref) (epoch : ℕ) (r : Ref) (rs : List Ref) (b : Bool) → is_in_use heap r ≡ true → is_zero heap outside r ≡ b →
    filter (λ z. is_in_use heap z.at && is_zero heap outside z.at) (zeroed_at epoch rs) ≡ zeroed_at epoch (filter (λ q. is_zero heap outside q) rs) →
    filter (λ z. is_in_use heap z.at && is_zero heap outside z.at) (zeroed_at epoch (r ∷ rs)) ≡ zeroed_at epoch (filter (λ q. is_zero heap outside q) (r ∷ rs))
stay_step heap outside epoch r rs b used e rest =
    ap (λ t. cond (t && is_zero heap outside r) ((record { at = r; epoch = epoch }) ∷ filter (λ z. is_in_use heap z.at && is_zero heap outside z.at) (zeroed_at epoch rs))
    (filter (λ z. is_in_use heap z.at && is_zero heap outside z.at) (zeroed_at epoch rs))) used
    ∙ by_test (is_zero heap outside r)
  where
    by_test : (t : Bool) → cond t ((record { at = r; epoch = epoch }) ∷ filter (λ z. is_in_use heap z.at && is_zero heap outside z.at) (zeroed_at epoch rs))
        (filter (λ z. is_in_use heap z.at && is_zero heap outside z.at) (zeroed_at epoch rs))
        ≡ zeroed_at epoch (cond t (r ∷ filter (λ q. is_zero heap outside q) rs) (filter (λ q. is_zero heap outside q) rs))
    by_test true = ap (λ l. (record { at = r; epoch = epoch }) ∷ l) rest
    by_test false = rest

pub bag_stays : (heap : Heap) (outside : List Ref) (epoch : ℕ) (rs : List Ref) → All (IsLive heap) rs →
    filter (λ z. is_in_use heap z.at && is_zero heap outside z.at) (zeroed_at epoch rs) ≡ zeroed_at epoch (filter (λ q. is_zero heap outside q) rs)
bag_stays heap outside epoch [] all = refl
bag_stays heap outside epoch (r ∷ rs) all =
    stay_step heap outside epoch r rs (is_zero heap outside r) (any_times r (in_use heap) ∙ lt-ltb 0 (times r (in_use heap)) (live_in_use heap r (All-head (IsLive heap) r rs all))) refl
    (bag_stays heap outside epoch rs (All-tail (IsLive heap) r rs all))

-- ---- lengths

pub length_zeroed : (epoch : ℕ) (rs : List Ref) → length (zeroed_at epoch rs) ≡ length rs
length_zeroed epoch rs = length-map rs (λ r. record { at = r; epoch = epoch })

-- limbo has as many slots as the bags
pub length-limbo_of : (epoch : ℕ) (bags : Bags) → length (limbo_of epoch bags) ≡ length (all_of bags)
length-limbo_of epoch bags =
    omega (
      arith,
      length-append (zeroed_at (epoch - 2) bags.oldest ++ zeroed_at (epoch - 1) bags.middle) (zeroed_at epoch bags.present),
      length-append (zeroed_at (epoch - 2) bags.oldest) (zeroed_at (epoch - 1) bags.middle),
      length-append (bags.oldest ++ bags.middle) bags.present,
      length-append bags.oldest bags.middle,
      length_zeroed (epoch - 2) bags.oldest,
      length_zeroed (epoch - 1) bags.middle,
      length_zeroed epoch bags.present,
    )
