-- Which step committed another main node in the place of one, and that only one did.
use Rattle.std.proofs.Common.{◌≡◌, ◌⊎◌, inl, inr, ◌<◌, ℕ, suc, List, [], ◌∷◌, ◌++◌, Ok, arith, refl, sym, ap, subst, ◌∙◌}
use Rattle.proof_claims.specs.Beneath.slot_arena.specs.declared.refs.Ref.{Ref}
use Rattle.proof_claims.specs.Beneath.slot_arena.specs.Heaps.{logical_main}
use Rattle.proof_claims.specs.Beneath.machine_model.specs.declared.steps.Bounds.{Bounds}
use Rattle.proof_claims.specs.Beneath.machine_model.specs.declared.steps.Outcome.{Outcome}
use Rattle.proof_claims.specs.Beneath.machine_model.specs.declared.steps.Step.{Step}
use Rattle.proof_claims.specs.Beneath.machine_model.specs.Machine.{AreBounds, next, run}
use Rattle.proof_claims.specs.Beneath.machine_model.specs.States.{State}
use Rattle.proof_claims.specs.Beneath.machine_model.specs.Times.{last_of, states_of}
use Rattle.proof_claims.specs.Beneath.proof_commits.proofs.Course.AlongLists.{law_replaced_for_good}
use Rattle.proof_claims.specs.Beneath.proof_commits.specs.Runs.{HasIndirection}
use Rattle.proof_claims.specs.Beneath.proof_followed.proofs.LastStep as one_more
use Rattle.proof_claims.specs.Beneath.proof_owned.specs.Laws.{IsReplaced}
use Rattle.proof_claims.specs.Beneath.proof_reuse.proofs.InLists.{time_within}
use Rattle.proof_claims.specs.Beneath.proof_reuse.specs.Laws.{IsReplacedBy}
use Rattle.proof_claims.specs.Beneath.proof_shape.proofs.Sites.Fixed.{states_of-append}

-- it is found so in a longer list
pub replaced_by_later : (limits : Bounds) (before since : List Step) (i m f : Ref) → IsReplacedBy limits before i m f → IsReplacedBy limits (before ++ since) i m f
replaced_by_later limits before since i m f r =
    let within = r.within in
    let first = states_of-append limits before since r.at (omega (arith, within)) in
    let second = states_of-append limits before since (suc r.at) (omega (arith, within)) in
    let all = time_within limits (before ++ since) before since refl in
    record {
      at = r.at;
      within = omega (arith, within, all);
      had = subst (λ (s : State). HasIndirection s i) (sym first) r.had;
      has = subst (λ (s : State). HasIndirection s i) (sym second) r.has;
      was = ap (λ (s : State). logical_main s.heap i) first ∙ r.was;
      is = ap (λ (s : State). logical_main s.heap i) second ∙ r.is;
      apart = r.apart;
    }

pub replaced_of : (limits : Bounds) (steps : List Step) (i m f : Ref) → IsReplacedBy limits steps i m f → IsReplaced limits steps i m
replaced_of limits steps i m f r =
    let within = r.within in
    record {
      before = r.at;
      after = suc r.at;
      order = omega arith;
      within = omega (arith, within);
      had = r.had;
      has = r.has;
      was = r.was;
      is = λ e. r.apart (sym e ∙ r.is);
    }

-- by the step that is taken last
pub replaced_now : (limits : Bounds) → AreBounds limits → (xs : List Step) (s : Step) (o : Outcome) → next (run limits xs) s ≡ Ok (o, run limits (xs ++ s ∷ [])) → (i m f : Ref) →
    HasIndirection (run limits xs) i → HasIndirection (run limits (xs ++ s ∷ [])) i → logical_main (run limits xs).heap i ≡ m → logical_main (run limits (xs ++ s ∷ [])).heap i ≡ f → (m ≡ f → ⊥) →
    IsReplacedBy limits (xs ++ s ∷ []) i m f
replaced_now limits ok xs s o taken i m f had has was is apart =
    let last = one_more.last_is limits ok xs s o (run limits (xs ++ s ∷ [])) taken in
    let before_is = one_more.before_is limits ok xs s o (run limits (xs ++ s ∷ [])) taken in
    let after_is = one_more.after_is limits ok xs s o (run limits (xs ++ s ∷ [])) taken in
    record {
      at = last_of limits xs;
      within = omega (arith, last);
      had = subst (λ (z : State). HasIndirection z i) (sym before_is) had;
      has = subst (λ (z : State). HasIndirection z i) (sym after_is) has;
      was = ap (λ (z : State). logical_main z.heap i) before_is ∙ was;
      is = ap (λ (z : State). logical_main z.heap i) after_is ∙ is;
      apart = apart;
    }

-- ---- once

module _ (limits : Bounds) (ok : AreBounds limits) (steps : List Step) (i m : Ref) where
  -- it doesn't count there again
  not_later : (f g : Ref) (a : IsReplacedBy limits steps i m f) (b : IsReplacedBy limits steps i m g) → a.at < b.at → ⊥
  not_later f g a b less =
      let within = b.within in
      law_replaced_for_good limits steps ok a.at (suc a.at) b.at (omega arith) (omega (arith, less)) (omega (arith, within)) i a.had a.has b.had (λ e. a.apart (sym a.was ∙ sym e ∙ a.is))
      (b.was ∙ sym a.was)

  order : (n k : ℕ) → (n < k) ⊎ ((k < n) ⊎ (n ≡ k))
  order n k = grind arith

  pub one_replaces : (f g : Ref) → IsReplacedBy limits steps i m f → IsReplacedBy limits steps i m g → f ≡ g
  one_replaces f g a b = elim (order a.at b.at) [
    | inl less ↦ absurd (not_later f g a b less)
    | inr other ↦ elim other [
      | inl more ↦ absurd (not_later g f b a more)
      | inr same ↦ sym a.is ∙ ap (λ t. logical_main (states_of limits steps (suc t)).heap i) same ∙ b.is
    ]
  ]
