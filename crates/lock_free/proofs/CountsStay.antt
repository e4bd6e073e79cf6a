-- What the rule says of counts stays where each grows as what seats hold.
use Rattle.std.proofs.Common.{◌≡◌, ◌≢◌, ◌+◌, ◌<◌, ◌==◌, inl, inr, Bool, true, false, ℕ, zero, suc, List, [], ◌∷◌, Contains, length, get_or, set, if◌then◌else◌}
use Rattle.std.proofs.Common.{refl, sym, ap, subst, ◌∙◌, arith, eqb-true, eq-eqb}
use Rattle.std.proofs.lemmas.Bool.{ne_eqb, true≢false}
use Rattle.std.proofs.lemmas.List.Elements.{Contains-append_cases}
use Rattle.std.proofs.lemmas.List.Sums.{sum_by-cons, sum_by-set}
use mathlib.Core.Bool.{cond}
use mathlib.Core.Option.{some, some-injective, some-ne-none}
use lib.ListN.{get_elem?}
use Rattle.lock_free.specs.declared.rules.View.{View}
use Rattle.lock_free.proofs.Idle.{empty_has}
use Rattle.lock_free.specs.Counts.{how_often, owed_on, without_one}

-- ---- what seats hold

pub found_at : {A : Type 0} (xs : List A) (n : ℕ) (x d : A) → get_elem? xs n ≡ some x → (n < length xs) × (get_or xs n d ≡ x)
found_at [] n x d e = absurd (some-ne-none x (sym e))
found_at (y ∷ ys) zero x d e = (omega arith, some-injective y x e)
found_at (y ∷ ys) (suc n) x d e = let h = found_at ys n x d e in (omega (arith, h.0), h.1)

abbrev owed_in : ℕ → View → ℕ
owed_in c v = how_often c v.owed

pub owed_set : (c : ℕ) (views : List View) (id : ℕ) (v : View) → get_elem? views id ≡ some v → (w : View) → owed_on c (set views id w) + how_often c v.owed ≡ owed_on c views + how_often c w.owed
owed_set c views id v at w =
    let h = found_at views id v v at in
    subst (λ x. owed_on c (set views id w) + owed_in c x ≡ owed_on c views + owed_in c w) h.1 (sum_by-set (owed_in c) views id w v h.0)

pub often_first : (c : ℕ) (xs : List ℕ) → how_often c (c ∷ xs) ≡ how_often c xs + 1
often_first c xs =
    let more = sum_by-cons (λ n. cond (n == c) 1 0) c xs in let one = ap {B = ℕ} (λ b. cond b 1 0) (eq-eqb c c refl) in omega (arith, more, one)

pub often_other : (c n : ℕ) (xs : List ℕ) → n ≢ c → how_often c (n ∷ xs) ≡ how_often c xs
often_other c n xs differs =
    let more = sum_by-cons (λ m. cond (m == c) 1 0) n xs in let none = ap {B = ℕ} (λ b. cond b 1 0) (ne_eqb n c differs) in omega (arith, more, none)

pub often_none : (k : ℕ) (xs : List ℕ) → (Contains xs k → ⊥) → how_often k xs ≡ 0
often_none k [] none = refl
often_none k (x ∷ xs) none =
    let first = often_other k x xs (λ same. none (0, omega arith, same)) in
    let rest = often_none k xs (λ c. none (suc c.0, (let low = c.1 in omega (arith, low)), c.2)) in omega (arith, first, rest)

-- ---- one less

less_by : (c n : ℕ) (xs : List ℕ) (first : Bool) → (n == c) ≡ first → (first ≡ false → how_often c (without_one c xs) + 1 ≡ how_often c xs) →
    how_often c (if first then xs else n ∷ without_one c xs) + 1 ≡ how_often c (n ∷ xs)
less_by c n xs true is rest = subst (λ m. how_often c xs + 1 ≡ how_often c (m ∷ xs)) (sym (eqb-true n c is)) (sym (often_first c xs))
less_by c n xs false is rest =
    let differs : n ≢ c = λ e. true≢false (sym (eq-eqb n c e) ∙ is) in
    let less = often_other c n (without_one c xs) differs in
    let all = often_other c n xs differs in
    let others = rest refl in omega (arith, less, all, others)

pub often_less : (c : ℕ) (xs : List ℕ) → Contains xs c → how_often c (without_one c xs) + 1 ≡ how_often c xs
often_less c [] has = absurd (empty_has c has)
often_less c (n ∷ xs) has =
    less_by c n xs (n == c) refl
    (λ is. often_less c xs (elim (Contains-append_cases (n ∷ []) xs c has) [ inl first ↦ absurd (true≢false (sym (eq-eqb n c (only n c first)) ∙ is)) | inr rest ↦ rest ]))
  where
    only : (x r : ℕ) → Contains (x ∷ []) r → x ≡ r
    only x r (i, within, at_i) = let zero_is : i ≡ 0 = omega arith in subst (λ k. get_or (x ∷ []) k r ≡ r) zero_is at_i

same_by : (c k n : ℕ) (xs : List ℕ) → k ≢ c → (first : Bool) → (n == k) ≡ first → how_often c (without_one k xs) ≡ how_often c xs →
    how_often c (if first then xs else n ∷ without_one k xs) ≡ how_often c (n ∷ xs)
same_by c k n xs differs true is rest = sym (often_other c n xs (λ e. differs (sym (eqb-true n k is) ∙ e)))
same_by c k n xs differs false is rest =
    let less = sum_by-cons (λ m. cond (m == c) 1 0) n (without_one k xs) in let all = sum_by-cons (λ m. cond (m == c) 1 0) n xs in omega (arith, less, all, rest)

pub often_same : (c k : ℕ) (xs : List ℕ) → k ≢ c → how_often c (without_one k xs) ≡ how_often c xs
often_same c k [] differs = refl
often_same c k (n ∷ xs) differs = same_by c k n xs differs (n == k) refl (often_same c k xs differs)
