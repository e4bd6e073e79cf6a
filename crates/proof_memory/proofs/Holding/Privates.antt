-- No reference stands twice in a private list.
use Rattle.std.proofs.Common.{◌≡◌, ℕ, zero, suc, ◌≤◌, List, [], ◌∷◌, ◌++◌, Contains, Option, Some, None, refl, sym, ap, subst, inl, inr, arith, append-nil, ◌∙◌}
use Rattle.std.proofs.lemmas.Bool.{cases_eq}
use Rattle.proof_memory.specs.Vocabulary.{Ref, next_ref, times, Action, Operation, Bounds, Step, operation_of, action_of, private_after, with_made, operation_after, AreBounds, run}
use Rattle.proof_memory.specs.Beneath.slot_arena.proofs.Times.{times-cons, times_push, once, once_same, once_other}
use Rattle.machine_model.specs.declared.actions.Action.TheVariants as act
use Rattle.machine_model.proofs.Actors.{mark_only, marks_by, marks_in}
use Rattle.machine_model.proofs.EachOperation.{OfEach, of_running, of_each_along}
use Rattle.proof_memory.specs.Holding.{PrivatesOnce}
use Rattle.proof_memory.proofs.Heap.Later.{drawn_once}
use Rattle.proof_memory.proofs.Safety.AtEachTime.{safe_along}
use Rattle.proof_memory.proofs.Safety.Standing.{in_private_list}

-- no reference stands twice
abbrev Once : List Ref → Type 0
Once rs = (r : Ref) → times r rs ≤ 1

-- what doesn't stand in a list stands there no time
not_there : (r : Ref) (rs : List Ref) → (Contains rs r → ⊥) → times r rs ≡ 0
not_there r [] none = refl
not_there r (q ∷ rs) none =
    times-cons r q rs
    ∙ omega (arith, not_there r rs (λ c. none (suc c.0, omega (arith, c.1), c.2)), once_other r q (λ same. none (zero, omega arith, sym same)))

-- one more that doesn't stand there yet
once_more : (rs : List Ref) (made : Ref) → Once rs → (Contains rs made → ⊥) → Once (rs ++ made ∷ [])
once_more rs made h none r = elim (cases_eq r made) [
  | inl same ↦ omega (arith, times_push r made rs, ap (once r) (sym same), once_same r, ap (λ q. times q rs) same, not_there made rs none)
  | inr other ↦ omega (arith, times_push r made rs, once_other r made other, h r)
]

module _ (limits : Bounds) (ok : AreBounds limits) where
  -- a slot that is made is new
  is_new : (steps : List Step) (actor : ℕ) (operation : Operation) (made : Ref) → operation_of (run limits steps) actor ≡ Some operation →
      next_ref (run limits steps).heap ≡ Some made → Contains operation.private made → ⊥
  is_new steps actor operation made is next c =
      drawn_once limits ok steps [] made (subst (λ xs. next_ref (run limits xs).heap ≡ Some made) (sym (append-nil steps)) next)
      (in_private_list (run limits steps) (safe_along limits ok steps) actor operation made is c)

  made_once : (private : List Ref) (next : Option Ref) → Once private → ((made : Ref) → next ≡ Some made → Contains private made → ⊥) → Once (with_made private next)
  made_once private None h new = λ r. omega arith
  made_once private (Some made) h new = once_more private made h (new made refl)

  gone_once : (steps : List Step) (actor : ℕ) (operation : Operation) (action : Action) → operation_of (run limits steps) actor ≡ Some operation → Once operation.private →
      Once (private_after (run limits steps) operation.private action)
  gone_once steps actor operation (act.Make node) is h = made_once operation.private _ h (λ made. is_new steps actor operation made is)
  gone_once steps actor operation (act.MakeRoot main) is h = made_once operation.private _ h (λ made. is_new steps actor operation made is)
  gone_once steps actor operation (act.Publish indirection replaced fresh) is h = λ r. omega arith
  gone_once steps actor operation (act.Offer offer) is h = λ r. omega arith
  gone_once steps actor operation action is h = h

  each_once : (steps : List Step) → OfEach (λ state operation. Once operation.private) (run limits steps)
  each_once =
      of_each_along limits (λ state operation. Once operation.private) (λ steps actor call number d r. omega arith)
      (λ steps actor operation is g h. rw (mark_only (marks_by (run limits steps) (Some operation)) (operation_after (run limits steps) operation))
      (gone_once steps actor operation (action_of (run limits steps) operation) is h))
      (λ steps actor operation answer is a h r. omega arith)
      (λ steps s o after m k other operation found h. rw (mark_only (marks_in (run limits steps) s) operation) h)

pub privates_once : PrivatesOnce
privates_once limits steps actor operation r ok is =
    of_running (λ state operation. Once operation.private) (run limits steps) (each_once limits ok steps) actor operation is r
