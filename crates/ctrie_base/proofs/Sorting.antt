-- What is sorted is the only rising list of the same items.
use Rattle.std.specs.Prelude.{◌≡◌, ℕ, suc, ◌+◌, ◌<◌, Bool, true, false, cond, List, [], ◌∷◌, length, count_by, All, refl}
use Rattle.std.proofs.Common.{arith, ap, sym, subst, ◌∙◌, get_or}
use Rattle.std.proofs.lemmas.List.Elements.{All-nil, All-cons, All-head, All-tail}
use Rattle.std.proofs.lemmas.List.Sums.{sum_by-cons}
use Rattle.std.proofs.lemmas.List.Sorted.{sum_by-IsPermutation}
use Rattle.std.specs.List.Sorted.{IsSortedBy, IsPermutation}
use Rattle.ctrie_base.specs.Sorting.{put_by, sorted_by}

-- two lists have the same items, each as often
abbrev pub Alike : {A : Type 0} → List A → List A → Type 0
Alike {A = A} xs ys = (t : A → Bool) → count_by t xs ≡ count_by t ys

pub permuted_alike : {A : Type 0} (xs ys : List A) → IsPermutation xs ys → Alike ys xs
permuted_alike xs ys moved t = sum_by-IsPermutation (λ x. cond (t x) 1 0) xs ys moved

-- how many pass a test, with one more in front
pub count_more : {A : Type 0} (t : A → Bool) (x : A) (xs : List A) → count_by t (x ∷ xs) ≡ cond (t x) 1 0 + count_by t xs
count_more t x xs = sum_by-cons (λ y. cond (t y) 1 0) x xs

-- what holds of each item holds of each when they are sorted
put_all_by : {A : Type 0} (P : A → Type 0) (before : A → A → Bool) (x y : A) (ys : List A) → P x → All P (y ∷ ys) → All P (put_by before x ys) → (b : Bool) →
    All P (cond b (x ∷ y ∷ ys) (y ∷ put_by before x ys))
put_all_by P before x y ys h all rest true = All-cons P x (y ∷ ys) h all
put_all_by P before x y ys h all rest false = All-cons P y (put_by before x ys) (All-head P y ys all) rest

put_all : {A : Type 0} (P : A → Type 0) (before : A → A → Bool) (x : A) (ys : List A) → P x → All P ys → All P (put_by before x ys)
put_all P before x [] h all = All-cons P x [] h (All-nil P)
put_all P before x (y ∷ ys) h all = put_all_by P before x y ys h all (put_all P before x ys h (All-tail P y ys all)) (before x y)

pub sorted_all : {A : Type 0} (P : A → Type 0) (before : A → A → Bool) (xs : List A) → All P xs → All P (sorted_by before xs)
sorted_all P before [] all = all
sorted_all P before (x ∷ xs) all = put_all P before x (sorted_by before xs) (All-head P x xs all) (sorted_all P before xs (All-tail P x xs all))

-- one item is before another, or that before it, or they are the same
pub record IsOrder {A : Type 0} (before : A → A → Bool) : Type 0 where
  pub not_both : (x y : A) → before x y ≡ true → before y x ≡ false
  pub not_through : (x y z : A) → before x y ≡ false → before y z ≡ false → before x z ≡ false
  pub not_itself : (x : A) → before x x ≡ false
  pub neither : (x y : A) → before x y ≡ false → before y x ≡ false → x ≡ y

-- none is before the one in front of it
abbrev pub Rises : {A : Type 0} → (A → A → Bool) → List A → Type 0
Rises before [] = Unit {0}
Rises before (x ∷ []) = Unit {0}
Rises before (x ∷ y ∷ xs) = (before y x ≡ false) × Rises before (y ∷ xs)

module _ {A : Type 0} (before : A → A → Bool) (order : IsOrder before) where
  pub rest_rises : (x : A) (xs : List A) → Rises before (x ∷ xs) → Rises before xs
  rest_rises x [] h = tt
  rest_rises x (y ∷ xs) h = h.1

  -- ---- what is sorted rises

  behind_by : (x y z : A) (zs : List A) (t : Bool) → before x z ≡ t → before x y ≡ false → Rises before (y ∷ z ∷ zs) →
      (before x z ≡ false → Rises before (z ∷ put_by before x zs)) → Rises before (y ∷ cond t (x ∷ z ∷ zs) (z ∷ put_by before x zs))
  behind_by x y z zs true e h up later = (h, (order.not_both x z e, up.1))
  behind_by x y z zs false e h up later = (up.0, later e)

  behind_rises : (x y : A) (ys : List A) → before x y ≡ false → Rises before (y ∷ ys) → Rises before (y ∷ put_by before x ys)
  behind_rises x y [] h up = (h, tt)
  behind_rises x y (z ∷ zs) h up = behind_by x y z zs (before x z) refl h up (λ e. behind_rises x z zs e up.1)

  front_by : (x y : A) (ys : List A) (t : Bool) → before x y ≡ t → Rises before (y ∷ ys) → Rises before (cond t (x ∷ y ∷ ys) (y ∷ put_by before x ys))
  front_by x y ys true e up = (order.not_both x y e, up)
  front_by x y ys false e up = behind_rises x y ys e up

  put_rises : (x : A) (ys : List A) → Rises before ys → Rises before (put_by before x ys)
  put_rises x [] up = tt
  put_rises x (y ∷ ys) up = front_by x y ys (before x y) refl up

  pub sorted_rises : (xs : List A) → Rises before (sorted_by before xs)
  sorted_rises [] = tt
  sorted_rises (x ∷ xs) = put_rises x (sorted_by before xs) (sorted_rises xs)

  -- ---- it has the same items

  put_counts_by : (t : A → Bool) (x y : A) (ys : List A) (b : Bool) → count_by t (put_by before x ys) ≡ count_by t (x ∷ ys) →
      count_by t (cond b (x ∷ y ∷ ys) (y ∷ put_by before x ys)) ≡ count_by t (x ∷ y ∷ ys)
  put_counts_by t x y ys true h = refl
  put_counts_by t x y ys false h = omega (arith, h, count_more t y (put_by before x ys), count_more t x ys, count_more t x (y ∷ ys), count_more t y ys)

  put_counts : (t : A → Bool) (x : A) (ys : List A) → count_by t (put_by before x ys) ≡ count_by t (x ∷ ys)
  put_counts t x [] = refl
  put_counts t x (y ∷ ys) = put_counts_by t x y ys (before x y) (put_counts t x ys)

  pub sorted_alike : (xs : List A) → Alike (sorted_by before xs) xs
  sorted_alike [] t = refl
  sorted_alike (x ∷ xs) t = omega (arith, put_counts t x (sorted_by before xs), count_more t x (sorted_by before xs), count_more t x xs, sorted_alike xs t)

  -- ---- two rising lists with the same items are the same

  -- none of a rising list is before what its first isn't before
  none_before : (z x : A) (xs : List A) → before x z ≡ false → Rises before (x ∷ xs) → count_by (λ y. before y z) (x ∷ xs) ≡ 0
  none_before z x [] h up = count_more (λ y. before y z) x [] ∙ ap (λ b. cond b 1 0 + 0) h
  none_before z x (y ∷ xs) h up =
      count_more (λ w. before w z) x (y ∷ xs)
      ∙ ap (λ b. cond b 1 0 + count_by (λ w. before w z) (y ∷ xs)) h
      ∙ (let later = none_before z y xs (order.not_through y x z up.0 h) up.1 in omega (arith, later))

  first_by : (x y : A) (xs : List A) (b : Bool) → before x y ≡ b → count_by (λ w. before w y) (x ∷ xs) ≡ 0 → b ≡ false
  first_by x y xs false e none = refl
  first_by x y xs true e none =
      let one : count_by (λ w. before w y) (x ∷ xs) ≡ cond true 1 0 + count_by (λ w. before w y) xs =
      count_more (λ w. before w y) x xs ∙ ap (λ b. cond b 1 0 + count_by (λ w. before w y) xs) e in
      absurd (omega (arith, one, none))

  -- the first of a list isn't before the first of a rising one with the same items
  not_first : (x y : A) (xs ys : List A) → Rises before (y ∷ ys) → Alike (x ∷ xs) (y ∷ ys) → before x y ≡ false
  not_first x y xs ys up alike =
      first_by x y xs (before x y) refl (alike (λ w. before w y) ∙ none_before y y ys (order.not_itself y) up)

  pub same_rising : (xs ys : List A) → Rises before xs → Rises before ys → Alike xs ys → xs ≡ ys
  same_rising [] [] up other alike = refl
  same_rising [] (y ∷ ys) up other alike = absurd (omega (arith, alike (λ w. true), count_more (λ w. true) y ys))
  same_rising (x ∷ xs) [] up other alike = absurd (omega (arith, alike (λ w. true), count_more (λ w. true) x xs))
  same_rising (x ∷ xs) (y ∷ ys) up other alike =
      let first : x ≡ y = order.neither x y (not_first x y xs ys other alike) (not_first y x ys xs up (λ t. sym (alike t))) in
      let rest : xs ≡ ys =
      same_rising xs ys (rest_rises x xs up) (rest_rises y ys other)
      (λ t. omega (arith, alike t, count_more t x xs, count_more t y ys, ap {B = ℕ} (λ w. cond (t w) 1 0) first)) in
      rw (first, rest) refl

  -- what is sorted depends only on which items there are
  pub sorted_same : (xs ys : List A) → Alike xs ys → sorted_by before xs ≡ sorted_by before ys
  sorted_same xs ys alike =
      same_rising (sorted_by before xs) (sorted_by before ys) (sorted_rises xs) (sorted_rises ys) (λ t. sorted_alike xs t ∙ alike t ∙ sym (sorted_alike ys t))

-- what the sort of std made of a list is sorted, where its test is the same
next_rises : {A : Type 0} (before : A → A → Bool) (xs : List A) → ((k : ℕ) (d : A) → suc k < length xs → before (get_or xs (suc k) d) (get_or xs k d) ≡ false) → Rises before xs
next_rises before [] h = tt
next_rises before (x ∷ []) h = tt
next_rises before (x ∷ y ∷ xs) h = (h 0 x (omega arith), next_rises before (y ∷ xs) (λ k d less. h (suc k) d (omega (arith, less))))

pub std_rises : {A : Type 0} (before test : A → A → Bool) → ((x y : A) → test x y ≡ before x y) → (xs : List A) → IsSortedBy test xs → Rises before xs
std_rises before test same xs sorted =
    next_rises before xs (λ k d less.
    let next : k + 1 ≡ suc k = omega arith in
    sym (same (get_or xs (suc k) d) (get_or xs k d))
    ∙ subst (λ (m : ℕ). test (get_or xs m d) (get_or xs k d) ≡ false) next (sorted k d (omega arith) (omega (arith, less))))

pub std_sorted : {A : Type 0} (before test : A → A → Bool) (order : IsOrder before) → ((x y : A) → test x y ≡ before x y) → (xs ys : List A) →
    IsPermutation xs ys → IsSortedBy test ys → ys ≡ sorted_by before xs
std_sorted before test order same xs ys moved sorted =
    same_rising before order ys (sorted_by before xs) (std_rises before test same ys sorted) (sorted_rises before order xs)
    (λ t. permuted_alike xs ys moved t ∙ sym (sorted_alike before order xs t))
