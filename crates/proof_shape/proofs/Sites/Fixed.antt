-- More steps leave the sites of what is in use.
use Rattle.std.proofs.Common.{◌≡◌, ℕ, zero, suc, ◌<◌, ◌≤◌, Bool, true, false, cond, List, ◌∷◌, ◌++◌, All, length, slice_index_or, Option, Some, None, refl, ap, ap₂, ◌∙◌, arith, []}
use Rattle.std.proofs.lemmas.List.{get_or_append_left, length-append}
use Rattle.std.proofs.lemmas.List.Elements.{All-nil, All-cons, All-head, All-tail}
use Rattle.proof_shape.specs.Vocabulary.{Ref, Line, Operation, Bounds, Step, State, first_state, operation_of, next_entry, run, run_from, next, next_state, is_number, is_taken_step, taken_from}
use Rattle.proof_shape.specs.Vocabulary.{taken_steps, states_from, states_of, last_of, grown, standing, FitsKey, KeysFit, made_now, level_now}
use Rattle.proof_shape.specs.Beneath.machine_model.specs.declared.lines.Line.TheVariants as line
use Rattle.proof_shape.specs.Beneath.machine_model.specs.declared.repairs.RenewLine.TheVariants as renew
use Rattle.proof_shape.specs.Beneath.machine_model.specs.declared.steps.Step.TheVariants as step
use Rattle.proof_shape.specs.Beneath.machine_model.proofs.Times.{run_is, run_ends, states_from-zero}
use Rattle.proof_shape.specs.Sites.Nodes.{path_to, depth_at, leads_by, leads_of, leads_now, level_until, path_until, steps_of}
use Rattle.proof_shape.specs.Sites.At.{StepsFit}
use Rattle.proof_shape.specs.Laws.{SitesAreFixed}
use Rattle.proof_shape.proofs.Sites.Stepped.{takes_steps}
use Rattle.proof_shape.proofs.Sites.Given.{level_stays, path_stays}
use Rattle.proof_shape.specs.Beneath.machine_model.proofs.Grown.{grown_in_use}

-- ---- more steps go on from where those before end

pub states_from-append : (state : State) (xs ys : List Step) (t : ℕ) → t ≤ length xs → states_from state (xs ++ ys) t ≡ states_from state xs t
unfolding states_from
states_from-append state [] ys t h = let none : t ≡ zero = omega (arith, h) in ap (states_from state ys) none ∙ states_from-zero state ys
states_from-append state (x ∷ xs) ys zero h = refl
states_from-append state (x ∷ xs) ys (suc t) h = states_from-append (next_state state x) xs ys t (omega arith)

pub taken-append : (state : State) (xs ys : List Step) → taken_from state (xs ++ ys) ≡ taken_from state xs ++ taken_from (run_from state xs) ys
unfolding taken_from run_from
taken-append state [] ys = refl
taken-append state (x ∷ xs) ys = by_test (is_taken_step (next state x)) (taken-append (next_state state x) xs ys)
  where
    by_test : (b : Bool) → taken_from (next_state state x) (xs ++ ys) ≡ taken_from (next_state state x) xs ++ taken_from (run_from (next_state state x) xs) ys →
        cond b (x ∷ taken_from (next_state state x) (xs ++ ys)) (taken_from (next_state state x) (xs ++ ys))
        ≡ cond b (x ∷ taken_from (next_state state x) xs) (taken_from (next_state state x) xs) ++ taken_from (run_from (next_state state x) xs) ys
    by_test true e = ap (λ zs. x ∷ zs) e
    by_test false e = e

pub states_of-append : (limits : Bounds) (xs ys : List Step) (t : ℕ) → t ≤ last_of limits xs → states_of limits (xs ++ ys) t ≡ states_of limits xs t
states_of-append limits xs ys t h =
    ap (λ l. states_from (first_state limits) l t) (taken-append (first_state limits) xs ys)
    ∙ states_from-append (first_state limits) (taken_steps limits xs) (taken_from (run limits xs) ys) t h

-- ---- where a line leads goes by older nodes alone

leads_by_same : (state : State) (operation : Operation) (f g : Ref → ℕ) → ((q : Ref) → f q ≡ g q) → (l : Line) → leads_by state operation f l ≡ leads_by state operation g l
leads_by_same state operation f g same (line.Renew (renew.Link path main done child)) = same (next_entry state main done)
leads_by_same state operation f g same (line.Renew (renew.Entry path main done)) = refl
leads_by_same state operation f g same (line.Renew (renew.Read path main done r)) = refl
leads_by_same state operation f g same (line.Renew (renew.Branch path main done)) = refl
leads_by_same state operation f g same l = refl

leads_of_same : (state : State) (f g : Ref → ℕ) → ((q : Ref) → f q ≡ g q) → (o : Option Operation) → leads_of state f o ≡ leads_of state g o
leads_of_same state f g same None = refl
leads_of_same state f g same (Some operation) = leads_by_same state operation f g same operation.line

leads_same : (state : State) (f g : Ref → ℕ) → ((q : Ref) → f q ≡ g q) → (x : Step) → leads_now state f x ≡ leads_now state g x
leads_same state f g same (step.Go actor) = leads_of_same state f g same (operation_of state actor)
leads_same state f g same (step.Begin actor call number) = refl
leads_same state f g same step.Sweep = refl
leads_same state f g same (step.GiveUp actor) = refl

-- ---- sites go by the states and steps before alone

module _ (a b : ℕ → State) (s u : ℕ → Step) where
  abbrev Alike : ℕ → Type 0
  Alike last = ((t : ℕ) → t < last → a t ≡ b t) × ((t : ℕ) → t < last → s t ≡ u t)

  level_same : (t : ℕ) → Alike t → (r : Ref) → level_until a s t r ≡ level_until b u t r
  unfolding level_until
  level_same zero same r = refl
  level_same (suc t) same r =
      ap₂ (λ state step_. cond (is_number r (made_now state step_)) (level_now state step_) (level_until a s t r)) (same.0 t (omega arith)) (same.1 t (omega arith))
      ∙ ap (cond (is_number r (made_now (b t) (u t))) (level_now (b t) (u t))) (level_same t ((λ v h. same.0 v (omega (arith, h))), (λ v h. same.1 v (omega (arith, h)))) r)

  path_same : (t : ℕ) → Alike t → (r : Ref) → path_until a s t r ≡ path_until b u t r
  unfolding path_until
  path_same zero same r = refl
  path_same (suc t) same r =
      ap₂ (λ state step_. cond (is_number r (made_now state step_)) (path_to (leads_now state (path_until a s t) step_) (depth_at (level_now state step_)))
      (path_until a s t r)) (same.0 t (omega arith)) (same.1 t (omega arith))
      ∙ ap₂ (λ p q. cond (is_number r (made_now (b t) (u t))) (path_to p (depth_at (level_now (b t) (u t)))) q)
      (leads_same (b t) (path_until a s t) (path_until b u t) (path_same t ((λ v h. same.0 v (omega (arith, h))), (λ v h. same.1 v (omega (arith, h))))) (u t))
      (path_same t ((λ v h. same.0 v (omega (arith, h))), (λ v h. same.1 v (omega (arith, h)))) r)

-- ---- keys

taken_fit : (state : State) (steps : List Step) → All FitsKey steps → All FitsKey (taken_from state steps)
unfolding taken_from
taken_fit state [] fit = All-nil FitsKey
taken_fit state (s ∷ steps) fit = by_test (is_taken_step (next state s)) (taken_fit (next_state state s) steps (All-tail FitsKey s steps fit))
  where
    by_test : (b : Bool) → All FitsKey (taken_from (next_state state s) steps) → All FitsKey (cond b (s ∷ taken_from (next_state state s) steps) (taken_from (next_state state s) steps))
    by_test true rest = All-cons FitsKey s (taken_from (next_state state s) steps) (All-head FitsKey s steps fit) rest
    by_test false rest = rest

pub keys_fit : (limits : Bounds) (steps : List Step) → KeysFit steps → StepsFit (steps_of limits steps) (last_of limits steps)
keys_fit limits steps fit t h = taken_fit (first_state limits) steps fit t step.Sweep h

-- ---- the law

pub sites_are_fixed : SitesAreFixed
sites_are_fixed limits steps more r ok (slot, found) = (
  level_stays (steps_of limits all) (run_is limits all ok) (takes_steps limits all) (last_of limits steps)
      (last_of limits all) longer (omega arith) r slot made
      ∙ level_same (states_of limits all) (states_of limits steps) (steps_of limits all) (steps_of limits steps) (last_of limits steps) alike r,
  path_stays (steps_of limits all) (run_is limits all ok) (takes_steps limits all) (last_of limits steps)
      (last_of limits all) longer (omega arith) r slot made
      ∙ path_same (states_of limits all) (states_of limits steps) (steps_of limits all) (steps_of limits steps) (last_of limits steps) alike r,
)
  where
    all : List Step
    all = steps ++ more

    parts : taken_steps limits (steps ++ more) ≡ taken_steps limits steps ++ taken_from (run limits steps) more
    parts = taken-append (first_state limits) steps more

    longer : last_of limits steps ≤ last_of limits (steps ++ more)
    longer = omega (arith, ap length parts, length-append (taken_steps limits steps) (taken_from (run limits steps) more))

    states_same : (t : ℕ) → t ≤ last_of limits steps → states_of limits (steps ++ more) t ≡ states_of limits steps t
    states_same t h = ap (λ xs. states_from (first_state limits) xs t) parts ∙ states_from-append (first_state limits) (taken_steps limits steps) (taken_from (run limits steps) more) t h

    steps_same : (t : ℕ) → t < last_of limits steps → steps_of limits (steps ++ more) t ≡ steps_of limits steps t
    steps_same t h = ap (λ xs. slice_index_or xs t step.Sweep) parts ∙ get_or_append_left (taken_steps limits steps) (taken_from (run limits steps) more) step.Sweep t h

    alike : Alike (states_of limits (steps ++ more)) (states_of limits steps) (steps_of limits (steps ++ more)) (steps_of limits steps) (last_of limits steps)
    alike = ((λ t h. states_same t (omega (arith, h))), steps_same)

    made : grown (states_of limits (steps ++ more)) (last_of limits steps) r ≡ Some slot
    made =
        grown_in_use (states_of limits (steps ++ more)) (last_of limits steps) r slot
        (ap (λ (state : State). standing state.heap r) (states_same (last_of limits steps) (omega arith) ∙ run_ends limits steps) ∙ found)
