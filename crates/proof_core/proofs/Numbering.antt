-- What is known of handle numbers stays known: in a begin, in the end of an operation, and in its other steps.
use Rattle.std.proofs.Common.{◌≡◌, ℕ, zero, suc, ◌+◌, ◌-◌, ◌<◌, ◌==◌, ◌||◌, Bool, true, false, cond, is_some, List, [], ◌∷◌, map, set, get_or, length, Option, Some, None}
use Rattle.std.proofs.Common.{refl, sym, ap, subst, ◌∙◌, arith}
use Rattle.std.specs.List.{count_by, list_any}
use Rattle.std.proofs.lemmas.List.Sums.{sum_by-cons, sum_by-set}
use Rattle.std.proofs.lemmas.Option.{none-some}
use Rattle.handle_table.specs.Numbers.{Numbers}
use Rattle.proof_core.specs.Vocabulary.{Operation, gone, marked, operation_after, go_denial, is_taken, names, GoesOn, action_of, State, operation_of, root_at, IsOfRun}
use Rattle.proof_core.specs.Beneath.machine_model.proofs.Actors.{after_marks, gone_actors, marks_by}
use Rattle.proof_core.specs.Beneath.machine_model.proofs.Found.{found_within}
use Rattle.proof_operations.proofs.Numbers.{numbers_stay, reserves}
use Rattle.proof_core.specs.Numbering.{KnowsNumbers}

-- ---- lists of operations

-- one in the place of none adds what it is worth
pub count_put : (handle : ℕ) (xs : List (Option Operation)) (i : ℕ) (found : Option Operation) → i < length xs →
    count_by (names handle) (set xs i found) + cond (names handle (get_or xs i None)) 1 0 ≡ count_by (names handle) xs + cond (names handle found) 1 0
count_put handle xs i found within = sum_by-set (λ (o : Option Operation). cond (names handle o) 1 0) xs i found None within

count_mapped : {X : Type 0} (p : X → Bool) (f : X → X) → ((x : X) → p (f x) ≡ p x) → (xs : List X) → count_by p (map f xs) ≡ count_by p xs
count_mapped p f same [] = refl
count_mapped p f same (x ∷ xs) =
    sum_by-cons (λ y. cond (p y) 1 0) (f x) (map f xs) ∙ omega (arith, ap {B = ℕ} (λ b. cond b 1 0) (same x), count_mapped p f same xs) ∙ sym (sum_by-cons (λ y. cond (p y) 1 0) x xs)

pub or_swap : (a b c : Bool) → (a || (b || c)) ≡ (b || (a || c))
or_swap true true c = refl
or_swap true false c = refl
or_swap false b c = refl

-- the one at a place, or any other
pub any_at : {X : Type 0} (p : Option X → Bool) → p None ≡ false → (xs : List (Option X)) (i : ℕ) (found : Option X) → i < length xs →
    list_any p (set xs i found) ≡ (p found || list_any p (set xs i None))
any_at p none [] i found within = absurd (omega (arith, within))
any_at p none (x ∷ xs) zero found within = ap (λ b. p found || (b || list_any p xs)) (sym none)
any_at p none (x ∷ xs) (suc i) found within =
    ap (λ b. p x || b) (any_at p none xs i found (omega (arith, within))) ∙ or_swap (p x) (p found) (list_any p (set xs i None))

-- ---- nothing changes

pub known_over : (numbers : Numbers) (before after : State) → ((handle : ℕ) → handle < 256 → is_taken after handle ≡ is_taken before handle) →
    ((handle : ℕ) → count_by (names handle) after.actors ≡ count_by (names handle) before.actors) → KnowsNumbers numbers before → KnowsNumbers numbers after
known_over numbers before after taken running h = record {
  many = h.many;
  taken = λ handle within. h.taken handle within ∙ sym (taken handle within);
  running = λ handle. h.running handle ∙ sym (running handle);
}

pub known_same : (numbers : Numbers) (before after : State) → after.roots ≡ before.roots → after.actors ≡ before.actors → KnowsNumbers numbers before → KnowsNumbers numbers after
known_same numbers before after roots actors =
    known_over numbers before after
    (λ handle within. ap (λ rs. is_some (get_or rs handle None) || list_any (reserves handle) after.actors) roots
    ∙ ap (λ os. is_some (root_at before handle) || list_any (reserves handle) os) actors)
    (λ handle. ap (count_by (names handle)) actors)

-- ---- a step of an operation that isn't its end

marked_names : (handle id : ℕ) (found : Option Operation) → names handle (marked id found) ≡ names handle found
marked_names handle id None = refl
marked_names handle id (Some operation) = by (operation.id == id)
  where
    by : (b : Bool) → names handle (Some (cond b (record operation { is_marked = true }) operation)) ≡ names handle (Some operation)
    by true = refl
    by false = refl

marks_names : (handle : ℕ) (m : Option ℕ) (xs : List (Option Operation)) → count_by (names handle) (after_marks m xs) ≡ count_by (names handle) xs
marks_names handle None xs = refl
marks_names handle (Some id) xs = count_mapped (names handle) (marked id) (marked_names handle id) xs

gone_names : (state : State) (actor : ℕ) (operation : Operation) → operation_of state actor ≡ Some operation → (handle : ℕ) →
    count_by (names handle) (gone state actor operation).actors ≡ count_by (names handle) state.actors
gone_names state zero operation is handle = absurd (none-some operation is)
gone_names state (suc k) operation is handle =
    let place : suc k - 1 ≡ k = omega arith in
    ap (count_by (names handle)) (gone_actors state (suc k) operation) ∙ marks_names handle (marks_by state (Some operation)) (set state.actors (suc k - 1) (Some (operation_after state operation)))
    ∙ ap (λ i. count_by (names handle) (set state.actors i (Some (operation_after state operation)))) place
    ∙ (let put = count_put handle state.actors k (Some (operation_after state operation)) (found_within state.actors k operation is) in
    omega (arith, put, ap {B = ℕ} (λ o. cond (names handle o) 1 0) is))

pub known_gone : (numbers : Numbers) (state : State) (actor : ℕ) (operation : Operation) → IsOfRun state → go_denial state actor ≡ None → operation_of state actor ≡ Some operation →
    GoesOn (action_of state operation) → KnowsNumbers numbers state → KnowsNumbers numbers (gone state actor operation)
known_gone numbers state actor operation h d is g =
    known_over numbers state (gone state actor operation)
    (subst (λ (s : State). go_denial s actor ≡ None → operation_of s actor ≡ Some operation → GoesOn (action_of s operation) → (handle : ℕ) → handle < 256 →
    is_taken (gone s actor operation) handle ≡ is_taken s handle) (sym h.is)
    (λ d' is' g'. numbers_stay state.limits h.steps actor operation h.limits d' is' g') d is g)
    (gone_names state actor operation is)
