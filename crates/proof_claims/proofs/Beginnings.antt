-- Each time of a list of steps is the last one of a beginning of it.
use Rattle.std.proofs.Common.{◌≡◌, ◌≤◌, ◌+◌, ◌++◌, inl, inr, ℕ, Bool, true, false, List, [], ◌∷◌, length, length-append, cond, refl, sym, ap, ◌∙◌, append_assoc, append-nil, arith}
use Rattle.std.proofs.lemmas.Bool.{cases_lt}
use Rattle.proof_claims.specs.Beneath.machine_model.specs.declared.steps.Bounds.{Bounds}
use Rattle.proof_claims.specs.Beneath.machine_model.specs.declared.steps.Step.{Step}
use Rattle.proof_claims.specs.Beneath.machine_model.specs.Machine.{is_taken_step, next, run, taken_from, taken_steps}
use Rattle.proof_claims.specs.Beneath.machine_model.specs.States.{first_state}
use Rattle.proof_claims.specs.Beneath.machine_model.specs.Times.{last_of}
use Rattle.proof_claims.specs.Beneath.machine_model.proofs.Along.{by_last}
use Rattle.proof_claims.specs.Beneath.proof_shape.proofs.Sites.Fixed.{taken-append}

-- these steps come first, and this is their last time
pub record IsBeginning (limits : Bounds) (xs : List Step) (t : ℕ) : Type 0 where
  pub before : List Step
  pub since : List Step
  pub goes_on : xs ≡ before ++ since
  pub last : last_of limits before ≡ t

at_most_one : (limits : Bounds) (xs : List Step) (s : Step) → length (taken_from (run limits xs) (s ∷ [])) ≤ 1
unfolding taken_from
at_most_one limits xs s = by (is_taken_step (next (run limits xs) s))
  where
    by : (b : Bool) → length (cond b (s ∷ []) []) ≤ 1
    by true = omega arith
    by false = omega arith

one_more_at_most : (limits : Bounds) (xs : List Step) (s : Step) → last_of limits (xs ++ s ∷ []) ≤ last_of limits xs + 1
one_more_at_most limits xs s =
    omega (arith, ap length (taken-append (first_state limits) xs (s ∷ [])), length-append (taken_steps limits xs) (taken_from (run limits xs) (s ∷ [])), at_most_one limits xs s)

none_taken : (limits : Bounds) → last_of limits [] ≡ 0
unfolding taken_from
none_taken limits = refl

pub beginning : (limits : Bounds) (xs : List Step) (t : ℕ) → t ≤ last_of limits xs → IsBeginning limits xs t
beginning limits =
    by_last (λ xs. (t : ℕ) → t ≤ last_of limits xs → IsBeginning limits xs t)
    (λ t h. record { before = []; since = []; goes_on = refl; last = omega (arith, h, none_taken limits) })
    (λ xs s so_far t h. elim (cases_lt (last_of limits xs) t) [
      | inl above ↦ record { before = xs ++ s ∷ []; since = []; goes_on = sym (append-nil (xs ++ s ∷ [])); last = omega (arith, h, above, one_more_at_most limits xs s) }
      | inr below ↦
          let b = so_far t below in
          record { before = b.before; since = b.since ++ s ∷ []; goes_on = ap (λ ys. ys ++ s ∷ []) b.goes_on ∙ append_assoc b.before b.since (s ∷ []); last = b.last }
    ])
