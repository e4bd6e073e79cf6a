-- Steps of an operation, one after the other.
use Rattle.std.specs.Prelude.{◌≡◌, ◌<◌, ◌≤◌, ◌+◌, ◌-◌, ℕ, zero, suc, List, [], ◌∷◌, ◌++◌, Option, Some, None, Result, Ok, Err}
use Rattle.std.proofs.Common.{refl, sym, ap, subst, append-nil, append_assoc, arith, zero-add, ◌∙◌}
use Rattle.proof_runs.specs.Vocabulary.{Refusal, Reply, Step, Go, Outcome, Answer, next, denial_of, go_limit}
use Rattle.proof_runs.specs.Beneath.ctrie_base.specs.declared.refusals.Refusal.TheVariants as refuse
use Rattle.proof_runs.specs.Beneath.machine_model.specs.declared.steps.Outcome.TheVariants as outcome
use Rattle.proof_runs.specs.Machines.{Taken, state_of, with_step, Applied}
use Rattle.proof_runs.specs.Callers.{Going, after_outcome, after_go, going_on, Replies, Resumes}

-- what goes on after this outcome leads on
onwards : (k actor : ℕ) (n : ℕ) (from machine : Taken) (o : Outcome) →
    ((b : Taken) → going_on n actor b ≡ (Ok None, machine) → going_on (n + k) actor b ≡ going_on k actor machine) →
    after_outcome (going_on n actor) from o ≡ (Ok None, machine) → after_outcome (going_on (n + k) actor) from o ≡ going_on k actor machine
onwards k actor n from machine (outcome.Ended id answer) more e = grind (arith, e)
onwards k actor n from machine (outcome.Began id) more e = more from e
onwards k actor n from machine (outcome.Went kind) more e = more from e
onwards k actor n from machine (outcome.Swept done) more e = more from e

after_answer : (k actor : ℕ) (n : ℕ) (from machine : Taken) (answer : Answer) →
    ((b : Taken) → going_on n actor b ≡ (Ok None, machine) → going_on (n + k) actor b ≡ going_on k actor machine) →
    after_go (going_on n actor) from actor answer ≡ (Ok None, machine) → after_go (going_on (n + k) actor) from actor answer ≡ going_on k actor machine
after_answer k actor n from machine (Ok done) more e = onwards k actor n (with_step from (Go actor)) machine done.0 more e
after_answer k actor n from machine (Err refusal) more e = grind (arith, e)

-- steps that didn't end the operation, and steps behind them
pub going-append : (n k actor : ℕ) (from machine : Taken) → going_on n actor from ≡ (Ok None, machine) → going_on (n + k) actor from ≡ going_on k actor machine
unfolding going_on
going-append zero k actor from machine e = rw (zero-add k) (ap (λ m. going_on k actor m) (ap (λ g. g.1) e))
going-append (suc n) k actor from machine e =
    let e' : suc n + k ≡ suc (n + k) = omega arith in
    rw e' (after_answer k actor n from machine (next (state_of from) (Go actor)) (λ b f. going-append n k actor b machine f) e)

-- one step more than those before, of which this is the answer
last_answer : (actor : ℕ) (from machine : Taken) (i rest : ℕ) (answer : Answer) → going_on i actor from ≡ (Ok None, machine) →
    next (state_of machine) (Go actor) ≡ answer → going_on (i + suc rest) actor from ≡ after_go (going_on rest actor) machine actor answer
unfolding going_on
last_answer actor from machine i rest answer so e = going-append i (suc rest) actor from machine so ∙ rw e refl

-- the rest of the steps, where one is left at least
left : (i : ℕ) → i < go_limit → i + suc (go_limit - (i + 1)) ≡ go_limit
left i within = omega (arith, within)

-- the operation ends
pub ends : (i actor id : ℕ) (answer : Reply) (from machine after : Taken) → i < go_limit → going_on i actor from ≡ (Ok None, machine) →
    Applied (Ok (outcome.Ended id answer)) machine (Go actor) after → going_on go_limit actor from ≡ (Ok (Some answer), after)
ends i actor id answer from machine after within so step =
    subst (λ n. going_on n actor from ≡ (Ok (Some answer), after)) (left i within)
    (last_answer actor from machine i (go_limit - (i + 1)) (Ok (outcome.Ended id answer, state_of after)) so step.1 ∙ ap (λ m. (Ok (Some answer), m)) (sym step.0))

-- and its reply is told
pub replies : (i actor : ℕ) (answer : Reply) (told : Option Reply) (from machine after : Taken) → i < go_limit → going_on i actor from ≡ (Ok None, machine) →
    told ≡ Some answer → Replies (Ok told) machine actor after → going_on go_limit actor from ≡ (Ok (Some answer), after)
replies i actor answer told from machine after within so is step =
    let (id, ended) = subst (λ (x : Option Reply). Replies (Ok x) machine actor after) is step in
    ends i actor id answer from machine after within so ended

-- a step is refused
pub stops : (i actor : ℕ) (refusal : Refusal) (from machine after : Taken) → i < go_limit → going_on i actor from ≡ (Ok None, machine) →
    Applied (Err refusal) machine (Go actor) after → Resumes (Err refusal) from actor after
stops i actor refuse.Memory from machine after within so step =
    (i, within, so ∙ ap (λ m. (Ok None, m)) (sym step.0), subst (λ m. denial_of (state_of m) (Go actor) ≡ None) (sym step.0) step.1)
stops i actor refusal from machine after within so step =
    subst (λ n. going_on n actor from ≡ (Err refusal, after)) (left i within)
    (last_answer actor from machine i (go_limit - (i + 1)) (Err refusal) so step.1 ∙ ap (λ m. (Err refusal, m)) (sym step.0))

-- the operation goes on
pub goes : (i actor : ℕ) (o : Outcome) (from machine after : Taken) → going_on i actor from ≡ (Ok None, machine) →
    Applied (Ok o) machine (Go actor) after → ((id : ℕ) (answer : Reply) → o ≡ outcome.Ended id answer → ⊥) → going_on (i + 1) actor from ≡ (Ok None, after)
unfolding going_on
goes i actor (outcome.Ended id answer) from machine after so step other = absurd (other id answer refl)
goes i actor (outcome.Began id) from machine after so step other =
    last_answer actor from machine i zero (Ok (outcome.Began id, state_of after)) so step.1 ∙ ap (λ m. (Ok None, m)) (sym step.0)
goes i actor (outcome.Went kind) from machine after so step other =
    last_answer actor from machine i zero (Ok (outcome.Went kind, state_of after)) so step.1 ∙ ap (λ m. (Ok None, m)) (sym step.0)
goes i actor (outcome.Swept done) from machine after so step other =
    last_answer actor from machine i zero (Ok (outcome.Swept done, state_of after)) so step.1 ∙ ap (λ m. (Ok None, m)) (sym step.0)

-- and tells no reply
pub stays : (i actor : ℕ) (told : Option Reply) (from machine after : Taken) → going_on i actor from ≡ (Ok None, machine) →
    Replies (Ok told) machine actor after → ((answer : Reply) → told ≡ Some answer → ⊥) → going_on (i + 1) actor from ≡ (Ok None, after)
stays i actor (Some answer) from machine after so replies other = absurd (other answer refl)
stays i actor None from machine after so (o, no_end, step) other = goes i actor o from machine after so step no_end

-- so many steps didn't end it
pub reached : (i actor : ℕ) (from machine : Taken) → go_limit ≤ i → i ≤ go_limit → going_on i actor from ≡ (Ok None, machine) →
    going_on go_limit actor from ≡ (Ok None, machine)
reached i actor from machine low high so = subst (λ n. going_on n actor from ≡ (Ok None, machine)) (omega (arith, low, high)) so

-- ---- what has been taken

-- the machine behind it has more steps
pub record HasMore (before after : Taken) : Type 0 where
  pub more : List Step
  pub steps : after.steps ≡ before.steps ++ more
  pub limits : after.limits ≡ before.limits

same_more : (machine after : Taken) → machine ≡ after → HasMore machine after
same_more machine after is = record { more = []; steps = ap (λ (m : Taken). m.steps) (sym is) ∙ sym (append-nil machine.steps); limits = ap (λ (m : Taken). m.limits) (sym is) }

one_more : (actor : ℕ) (machine after : Taken) → HasMore (with_step machine (Go actor)) after → HasMore machine after
one_more actor machine after h = record { more = Go actor ∷ h.more; steps = h.steps ∙ append_assoc machine.steps (Go actor ∷ []) h.more; limits = h.limits }

more_by : (n actor : ℕ) (machine after : Taken) (result : Result (Option Reply) Refusal) → ((m : Taken) → going_on n actor m ≡ (result, after) → HasMore m after) → (answer : Answer) →
    after_go (going_on n actor) machine actor answer ≡ (result, after) → HasMore machine after
more_by n actor machine after result rest (Err why) e = same_more machine after (ap (λ (g : Going). g.1) e)
more_by n actor machine after result rest (Ok (outcome.Ended id said, state)) e = one_more actor machine after (same_more (with_step machine (Go actor)) after (ap (λ (g : Going). g.1) e))
more_by n actor machine after result rest (Ok (outcome.Began id, state)) e = one_more actor machine after (rest (with_step machine (Go actor)) e)
more_by n actor machine after result rest (Ok (outcome.Went kind, state)) e = one_more actor machine after (rest (with_step machine (Go actor)) e)
more_by n actor machine after result rest (Ok (outcome.Swept done, state)) e = one_more actor machine after (rest (with_step machine (Go actor)) e)

pub has_more : (n actor : ℕ) (machine after : Taken) (result : Result (Option Reply) Refusal) → going_on n actor machine ≡ (result, after) → HasMore machine after
unfolding going_on
has_more zero actor machine after result e = same_more machine after (ap (λ (g : Going). g.1) e)
has_more (suc n) actor machine after result e = more_by n actor machine after result (λ m f. has_more n actor m after result f) (next (state_of machine) (Go actor)) e
