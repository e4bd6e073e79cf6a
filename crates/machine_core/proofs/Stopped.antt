-- An operation's giving up is denied as the definition says. No program asks for it; what is said of each step is said of this one too.
use Rattle.std.proofs.Common.{option_and_then, true≢false, ◌≡◌, ◌⊎◌, ℕ, inl, inr, true, false, not, [], ◌∷◌, Option, Some, None, Err, refl, sym, ap, ◌∙◌, Bool, is_some}
use Rattle.std.proofs.lemmas.Bool.{false≢true}
use Rattle.std.proofs.lemmas.Option.{none-some, same_Some}
use Rattle.machine_core.specs.Vocabulary.{Refusal, Reply, Operation, State, operation_of, given_up, next, give_up_denial, give_up_unless, give_up_on, give_up_by, answer_given_up}
use Rattle.machine_core.specs.Vocabulary.{first_reason, is_actor, is_running, is_spent, is_taken_step}
use Rattle.ctrie_base.specs.declared.refusals.Refusal.TheVariants as refuse
use Rattle.machine_model.specs.declared.steps.Step.TheVariants as step

-- the reasons of a step that goes on, and one more
abbrev three : Bool → Bool → Bool → Option Refusal
three a b c = first_reason ((a, refuse.NoActor) ∷ (b, refuse.Idle) ∷ (c, refuse.Spent) ∷ [])

abbrev four : Bool → Bool → Bool → Bool → Option Refusal
four a b c d = first_reason ((a, refuse.NoActor) ∷ (b, refuse.Idle) ∷ (c, refuse.Spent) ∷ (d, refuse.Busy) ∷ [])

last_of_four : (a b c d : Bool) (why : Refusal) → four a b c d ≡ Some why → (three a b c ≡ Some why) ⊎ ((three a b c ≡ None) × (d ≡ true) × (refuse.Busy ≡ why))
last_of_four true b c d why e = inl e
last_of_four false true c d why e = inl e
last_of_four false false true d why e = inl e
last_of_four false false false true why e = inr (refl, refl, same_Some refuse.Busy why e)
last_of_four false false false false why e = absurd (none-some why e)

none_of_four : (a b c d : Bool) → four a b c d ≡ None → (three a b c ≡ None) × (d ≡ false)
none_of_four true b c d e = absurd (none-some _ (sym e))
none_of_four false true c d e = absurd (none-some _ (sym e))
none_of_four false false true d e = absurd (none-some _ (sym e))
none_of_four false false false true e = absurd (none-some _ (sym e))
none_of_four false false false false e = (refl, refl)

-- ---- denied

without_answer : (answer : Option Reply) → not (is_some answer) ≡ true → answer ≡ None
without_answer None e = refl
without_answer (Some answer) e = absurd (false≢true e)

busy_by : (state : State) (actor : ℕ) (o : Option Operation) → operation_of state actor ≡ o → is_some o ≡ true → answer_given_up state actor ≡ None → give_up_on state actor o ≡ Err refuse.Busy
busy_by state actor None is some e = absurd (false≢true some)
busy_by state actor (Some operation) is some e =
    let none : given_up operation.call operation.line ≡ None = sym (ap (λ o. option_and_then (λ (x : Operation). given_up x.call x.line) o) is) ∙ e in
    ap (λ a. give_up_by state actor operation a) none

runs_then : (a b c : Bool) → three a (not b) c ≡ None → b ≡ true
runs_then true b c e = absurd (none-some _ (sym e))
runs_then false true c e = refl
runs_then false false c e = absurd (none-some _ (sym e))

pub giving_up_denied : (state : State) (actor : ℕ) (why : Refusal) → give_up_denial state actor ≡ Some why → next state (step.GiveUp actor) ≡ Err why
unfolding next
giving_up_denied state actor why e =
    elim (last_of_four (not (is_actor state actor)) (not (is_running state actor)) (is_spent state) (not (is_some (answer_given_up state actor))) why e) [
      | inl going ↦ ap (λ d. give_up_unless state actor d) going
      | inr (none, without, same) ↦ ap (λ d. give_up_unless state actor d) none
          ∙ busy_by state actor (operation_of state actor) refl (runs_then (not (is_actor state actor)) (is_running state actor) (is_spent state) none)
          (without_answer (answer_given_up state actor) without)
          ∙ ap Err same
    ]

-- ---- taken

with_answer : (answer : Option Reply) → not (is_some answer) ≡ false → (reply : Reply) × (answer ≡ Some reply)
with_answer None e = absurd (true≢false e)
with_answer (Some answer) e = (answer, refl)

taken_by : (state : State) (actor : ℕ) (reply : Reply) (o : Option Operation) → operation_of state actor ≡ o → answer_given_up state actor ≡ Some reply →
    is_taken_step (give_up_on state actor o) ≡ true
taken_by state actor reply None is e = absurd (none-some reply (sym (ap (λ o. option_and_then (λ (x : Operation). given_up x.call x.line) o) is) ∙ e))
taken_by state actor reply (Some operation) is e =
    let some : given_up operation.call operation.line ≡ Some reply = sym (ap (λ o. option_and_then (λ (x : Operation). given_up x.call x.line) o) is) ∙ e in
    ap (λ a. is_taken_step (give_up_by state actor operation a)) some

pub giving_up_taken : (state : State) (actor : ℕ) → give_up_denial state actor ≡ None → is_taken_step (next state (step.GiveUp actor)) ≡ true
unfolding next
giving_up_taken state actor e =
    let (none, answers) = none_of_four (not (is_actor state actor)) (not (is_running state actor)) (is_spent state) (not (is_some (answer_given_up state actor))) e in
    let (reply, is) = with_answer (answer_given_up state actor) answers in
    ap (λ d. is_taken_step (give_up_unless state actor d)) none ∙ taken_by state actor reply (operation_of state actor) refl is
