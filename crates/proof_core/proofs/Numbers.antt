-- What is kept of handle numbers answers what the definition counts and searches.
use Rattle.std.proofs.Common.{◌≡◌, ℕ, zero, suc, ◌+◌, ◌<◌, ◌≤◌, ◌||◌, Bool, true, false, cond, nat_lt, List, [], ◌∷◌, length, get_or, inl, inr, refl, sym, ap, ◌∙◌, arith, add-one}
use Rattle.std.specs.List.{count_by, list_any}
use Rattle.std.proofs.lemmas.Bool.{cases_lt, true≢false}
use Rattle.std.proofs.lemmas.List.{get_or_past}
use Rattle.std.proofs.lemmas.List.Sums.{sum_by-cons}
use Rattle.handle_table.specs.Numbers.{IsLeastFree, Numbers, how_many, running_on}
use Rattle.proof_core.specs.Vocabulary.{handles_taken, is_taken, least_free, least_from, names, runs_on, taken_below, State}
use Rattle.proof_core.specs.Numbering.{KnowsNumbers}
use Rattle.proof_core.specs.Beneath.machine_model.proofs.Numbers.{few_below}

-- ---- counting

taken_more : (state : State) (n : ℕ) → taken_below state (n + 1) ≡ taken_below state n + cond (is_taken state n) 1 0
unfolding taken_below
taken_more state n = rw add-one refl

none_taken : (state : State) → taken_below state 0 ≡ 0
unfolding taken_below
none_taken state = refl

counted_from : (state : State) (taken : List Bool) (n : ℕ) → ((i : ℕ) → i < length taken → get_or taken i false ≡ is_taken state (n + i)) →
    taken_below state (n + length taken) ≡ taken_below state n + how_many taken
counted_from state [] n same = omega (arith, ap (taken_below state) (let none : n + 0 ≡ n = omega arith in none))
counted_from state (b ∷ taken) n same =
    let here : b ≡ is_taken state n = same 0 (omega arith) ∙ ap (is_taken state) (let none : n + 0 ≡ n = omega arith in none) in
    let behind = counted_from state taken (n + 1)
    (λ i lt. same (suc i) (omega (arith, lt)) ∙ ap (is_taken state) (let next : n + suc i ≡ n + 1 + i = omega arith in next)) in
    let whole : taken_below state (n + length (b ∷ taken)) ≡ taken_below state (n + 1 + length taken) = ap (taken_below state) (omega arith) in
    omega (arith, whole, behind, taken_more state n, sum_by-cons (λ (x : Bool). cond x 1 0) b taken, ap {B = ℕ} (λ x. cond x 1 0) here)

pub taken_counted : (numbers : Numbers) (state : State) → KnowsNumbers numbers state → how_many numbers.taken ≡ handles_taken state
taken_counted numbers state h =
    let counted = counted_from state numbers.taken 0
    (λ i lt. h.taken i (omega (arith, lt, h.many.0)) ∙ ap (is_taken state) (let same : i ≡ 0 + i = omega arith in same)) in
    let whole : taken_below state (0 + length numbers.taken) ≡ taken_below state 256 = ap (taken_below state) (omega (arith, h.many.0)) in
    omega (arith, counted, whole, none_taken state)

-- there are no more than there are numbers
pub few_taken : (state : State) → handles_taken state ≤ 256
few_taken state = few_below state 256

-- ---- the least

least_at : (state : State) (left n least : ℕ) → n + left ≡ 256 → n ≤ least → least ≤ 256 → ((i : ℕ) → i < least → i < 256 → is_taken state i ≡ true) →
    (least < 256 → is_taken state least ≡ false) → least_from state left n ≡ least
unfolding least_from
least_at state zero n least whole low high below free = omega (arith, whole, low, high)
least_at state (suc left) n least whole low high below free = elim (cases_lt n least) [
  | inl less ↦
      ap (λ b. cond b (least_from state left (n + 1)) n) (below n less (omega (arith, whole)))
      ∙ least_at state left (n + 1) least (omega (arith, whole)) (omega (arith, less)) high below free
  | inr past ↦
      let same : n ≡ least = omega (arith, low, past) in
      ap (λ b. cond b (least_from state left (n + 1)) n) (ap (is_taken state) same ∙ free (omega (arith, whole, same))) ∙ same
]

pub least_known : (numbers : Numbers) (state : State) (least : ℕ) → KnowsNumbers numbers state → IsLeastFree numbers least → least ≡ least_free state
least_known numbers state least h is =
    sym (least_at state 256 0 least (omega arith) (omega arith) high (λ i lt within. sym (h.taken i within) ∙ is.below i lt) (λ within. sym (h.taken least within) ∙ is.free))
  where
    high : least ≤ 256
    high = elim (cases_lt 256 least) [
      | inl more ↦ absurd (true≢false (sym (is.below 256 more) ∙ get_or_past numbers.taken 256 false (omega (arith, h.many.0))))
      | inr most ↦ most
    ]

-- ---- who runs

any_counted : {X : Type 0} (p : X → Bool) (xs : List X) → nat_lt 0 (count_by p xs) ≡ list_any p xs
any_counted p [] = refl
any_counted p (x ∷ xs) = ap (nat_lt 0) (sum_by-cons (λ y. cond (p y) 1 0) x xs) ∙ by (p x) (any_counted p xs)
  where
    more : (n : ℕ) → nat_lt 0 (1 + n) ≡ true
    more n = grind arith

    same : (n : ℕ) → nat_lt 0 (0 + n) ≡ nat_lt 0 n
    same n = ap (nat_lt 0) (let none : 0 + n ≡ n = omega arith in none)

    by : (b : Bool) → nat_lt 0 (count_by p xs) ≡ list_any p xs → nat_lt 0 (cond b 1 0 + count_by p xs) ≡ (b || list_any p xs)
    by true behind = more (count_by p xs)
    by false behind = same (count_by p xs) ∙ behind

pub runs_counted : (numbers : Numbers) (state : State) (handle : ℕ) → KnowsNumbers numbers state → nat_lt 0 (running_on numbers handle) ≡ runs_on state handle
runs_counted numbers state handle h = ap (nat_lt 0) (h.running handle) ∙ any_counted (names handle) state.actors
