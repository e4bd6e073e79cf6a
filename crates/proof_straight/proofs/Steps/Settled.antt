-- Limbo that is up to date stays as it is, where neither the heap nor what is held from outside changes.
use Rattle.std.proofs.Common.{◌≡◌, ℕ, ◌==◌, ◌&&◌, ◌||◌, Bool, true, false, not, cond, nat_lt, List, [], ◌∷◌, ◌++◌, map, filter, All, refl, sym, ap, ◌∙◌, eqb-true, eq-eqb}
use Rattle.std.specs.List.{list_any}
use Rattle.std.proofs.lemmas.Bool.{or_left, or_right, and_from, and_parts, false≢true}
use Rattle.std.proofs.lemmas.List.{append-nil}
use Rattle.std.proofs.lemmas.List.Elements.{All-nil, All-cons, All-head, All-tail, All-append, All-map, All-weaker, All-filter, filter_passes}
use Rattle.std.proofs.lemmas.List.Folds.{list_any-append}
use Rattle.std.proofs.lemmas.Map.Views.{any-filter_same}
use Rattle.proof_straight.specs.Beneath.ctrie_base.proofs.Sorting.{sorted_all}
use Rattle.proof_straight.specs.Vocabulary.{Ref, Heap, in_use, Zeroed, is_zero, is_in, is_in_use, by_birth, newly_zero, limbo_after}
use Rattle.proof_straight.specs.Beneath.epochs.specs.Limbo.{put_in}

-- a filter that each passes keeps all
filter_all : {X : Type 0} (p : X → Bool) (xs : List X) → All (λ x. p x ≡ true) xs → filter p xs ≡ xs
filter_all p [] all = refl
filter_all p (x ∷ xs) all =
    ap (λ b. cond b (x ∷ filter p xs) (filter p xs)) (All-head (λ y. p y ≡ true) x xs all) ∙ ap (λ l. x ∷ l) (filter_all p xs (All-tail (λ y. p y ≡ true) x xs all))

-- one that none passes keeps nothing
filter_none : {X : Type 0} (p : X → Bool) (xs : List X) → All (λ x. p x ≡ false) xs → filter p xs ≡ []
filter_none p [] all = refl
filter_none p (x ∷ xs) all =
    ap (λ b. cond b (x ∷ filter p xs) (filter p xs)) (All-head (λ y. p y ≡ false) x xs all) ∙ filter_none p xs (All-tail (λ y. p y ≡ false) x xs all)

-- ---- membership by test

abbrev has : Ref → List Ref → Bool
has r rs = list_any (λ q. q == r) rs

swapped_or : (a b c : Bool) → (b || (a || c)) ≡ (a || (b || c))
swapped_or true true c = refl
swapped_or true false c = refl
swapped_or false b c = refl

put_by_test : (r x q : Ref) (xs : List Ref) (b : Bool) → has r (put_in x xs) ≡ (x == r || has r xs) → has r (cond b (x ∷ q ∷ xs) (q ∷ put_in x xs)) ≡ (x == r || (q == r || has r xs))
put_by_test r x q xs true h = refl
put_by_test r x q xs false h = ap (λ b. q == r || b) h ∙ swapped_or (x == r) (q == r) (has r xs)

has_put : (r x : Ref) (xs : List Ref) → has r (put_in x xs) ≡ (x == r || has r xs)
has_put r x [] = refl
has_put r x (q ∷ xs) = put_by_test r x q xs (nat_lt x q) (has_put r x xs)

has_sorted : (r : Ref) (xs : List Ref) → has r (by_birth xs) ≡ has r xs
has_sorted r [] = refl
has_sorted r (x ∷ xs) = has_put r x (by_birth xs) ∙ ap (λ b. x == r || b) (has_sorted r xs)

in_new : (r now : ℕ) (rs : List Ref) → is_in (map (λ q. record { at = q; epoch = now }) rs) r ≡ has r rs
in_new r now [] = refl
in_new r now (q ∷ rs) = ap (λ b. q == r || b) (in_new r now rs)

all_have : (xs : List Ref) → All (λ r. has r xs ≡ true) xs
all_have [] = All-nil _
all_have (x ∷ xs) =
    All-cons (λ r. has r (x ∷ xs) ≡ true) x xs (or_left _ _ (eq-eqb x x refl)) (All-weaker (λ r. has r xs ≡ true) (λ r. has r (x ∷ xs) ≡ true) (λ r h. or_right _ _ h) xs (all_have xs))

module _ (heap : Heap) (held : List Ref) (now : ℕ) (limbo : List Zeroed) where
  abbrev stays : Ref → Bool
  stays r = is_in_use heap r && is_zero heap held r

  abbrev enters : Ref → Bool
  enters r = is_zero heap held r && not (is_in limbo r)

  in_after_by : (used zero there : Bool) → ((used && zero) && there || (zero && not there) && used) ≡ (used && zero)
  in_after_by true true true = refl
  in_after_by true true false = refl
  in_after_by true false there = refl
  in_after_by false true true = refl
  in_after_by false true false = refl
  in_after_by false false there = refl

  -- what stands in limbo afterwards
  in_after : (r : Ref) → is_in (limbo_after heap held now limbo) r ≡ stays r
  in_after r =
      list_any-append (λ z. z.at == r) (filter (λ z. stays z.at) limbo) _
      ∙ ap (λ b. b || is_in (map (λ q. record { at = q; epoch = now }) (newly_zero heap held limbo)) r)
      (any-filter_same (λ z. z.at == r) (λ z. stays z.at) (stays r) (λ z e. ap stays (eqb-true z.at r e)) limbo)
      ∙ ap (λ b. stays r && is_in limbo r || b)
      (in_new r now (newly_zero heap held limbo) ∙ has_sorted r (filter enters (in_use heap)) ∙ any-filter_same (λ q. q == r) enters (enters r) (λ q e. ap enters (eqb-true q r e)) (in_use heap))
      ∙ in_after_by (is_in_use heap r) (is_zero heap held r) (is_in limbo r)

  -- each of these counts nothing and is in use
  abbrev Stays : Ref → Type 0
  Stays r = stays r ≡ true

  all_entering : All Stays (filter enters (in_use heap))
  all_entering =
      let used = All-filter enters (λ r. has r (in_use heap) ≡ true) (in_use heap) (all_have (in_use heap)) in
      λ k d within. and_from _ _ (used k d within) ((and_parts _ _ (filter_passes enters (in_use heap) k d within)).0)

  all_after : All (λ z. Stays z.at) (limbo_after heap held now limbo)
  all_after =
      All-append (λ z. Stays z.at) _ _ (filter_passes (λ z. stays z.at) limbo)
      (All-map (λ z. Stays z.at) (λ r. record { at = r; epoch = now }) (newly_zero heap held limbo) (sorted_all Stays nat_lt _ all_entering))

  none_enters_by : (used zero there : Bool) → used ≡ true → there ≡ (used && zero) → (zero && not there) ≡ false
  none_enters_by true true true u e = refl
  none_enters_by true true false u e = sym e
  none_enters_by true false there u e = refl
  none_enters_by false zero there u e = absurd (false≢true u)

  none_enters : newly_zero heap held (limbo_after heap held now limbo) ≡ []
  none_enters =
      ap by_birth (filter_none (λ r. is_zero heap held r && not (is_in (limbo_after heap held now limbo) r)) (in_use heap)
      (All-weaker (λ r. has r (in_use heap) ≡ true) _ (λ r used. none_enters_by (is_in_use heap r) (is_zero heap held r) _ used (in_after r)) (in_use heap) (all_have (in_use heap))))

  -- brought up to date twice it is as after the first time
  pub settled_once : limbo_after heap held now (limbo_after heap held now limbo) ≡ limbo_after heap held now limbo
  settled_once =
      ap (λ rs. filter (λ z. stays z.at) (limbo_after heap held now limbo) ++ map (λ r. record { at = r; epoch = now }) rs) none_enters
      ∙ append-nil _ ∙ filter_all (λ z. stays z.at) (limbo_after heap held now limbo) all_after
