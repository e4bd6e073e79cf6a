-- What is taken of a main node that is an indirection's own: no step brings it elsewhere as its maker's own, and it stood nowhere else at first.
use Rattle.std.proofs.Common.{◌≡◌, ℕ, suc, ◌<◌, ◌≤◌, true, false, sym, ◌∙◌, subst, arith}
use Rattle.std.proofs.lemmas.Option.{same_Some}
use Rattle.proof_owned.specs.Beneath.slot_arena.specs.declared.refs.Ref.{Ref}
use Rattle.proof_owned.specs.Beneath.machine_model.specs.declared.steps.Bounds.{Bounds}
use Rattle.proof_owned.specs.Beneath.machine_model.specs.States.{State}
use Rattle.proof_owned.specs.Beneath.machine_model.specs.Grown.{node_under}
use Rattle.proof_owned.specs.Beneath.machine_model.specs.Times.{IsRun}
use Rattle.proof_owned.specs.Beneath.proof_memory.specs.Wants.{is_indirection}
use Rattle.proof_owned.specs.Beneath.proof_commits.proofs.Words.Stood.{Stood, stood_still, stands_now}
use Rattle.proof_owned.specs.Beneath.proof_generations.proofs.Falling.KnownRoots.{words, protocol_of}
use Rattle.proof_owned.specs.Beneath.proof_generations.proofs.Falling.NewLinks.{new_link}
use Rattle.proof_owned.specs.Beneath.proof_generations.proofs.Falling.Along.{all_falls}
use Rattle.proof_owned.specs.Owned.{IsOwn, swapped, built, first}
use Rattle.proof_owned.proofs.AtFirst.{one_at_first}
use Rattle.proof_owned.proofs.Brought.{How, publishes, builds, IsBrought, one_bringing, not_at_first, private_then}

module _ {limits : Bounds} {states : ℕ → State} {last : ℕ} (run : IsRun limits states last) where
  -- a step makes one indirection
  one_link : (u : ℕ) → u < last → (x y : Ref) → (words states run.records last).link u x ≡ false → (words states run.records last).link (suc u) x ≡ true →
      (words states run.records last).link u y ≡ false → (words states run.records last).link (suc u) y ≡ true → x ≡ y
  one_link u lt x y a b c d =
      let know = (all_falls run u (omega (arith, lt))).lines in
      same_Some _ _ (sym (new_link run u lt know x a b).takes ∙ (new_link run u lt know y c d).takes)

  pub record IsTheirs (i m : Ref) : Type 0 where
    pub stood : Stood (words states run.records last) last i m
    pub not_elsewhere : (t : ℕ) → t < last → (j : Ref) → (j ≡ i → ⊥) → (k : ℕ) → Stood (words states run.records last) (suc t) j m → How (words states run.records last) t k j m → ⊥
    pub not_first : (j : Ref) → (j ≡ i → ⊥) → Stood (words states run.records last) 0 j m → ⊥

  pub by_brought : (i m : Ref) → IsBrought (words states run.records last) last i m → IsTheirs i m
  by_brought i m own = record {
    stood = stood_still (omega (arith, own.before)) own.stood;
    not_elsewhere = λ t lt j other k stood how.
        other (sym (one_bringing (protocol_of run) last i j m (omega arith) one_link own (record { at = t; before = lt; actor = k; stood = stood; how = how })));
    not_first = λ j other stood. not_at_first (protocol_of run) last i j m (omega arith) own stood;
  }

  at_zero : (a : ℕ) → a ≤ 0 → a ≡ 0
  at_zero a h = omega arith

  pub theirs : (i m : Ref) → IsOwn states last i m → IsTheirs i m
  theirs i m (swapped u k a lt stage link is) = by_brought i m (record { at = u; before = lt; actor = k; stood = stands_now link is; how = publishes a stage })
  theirs i m (built u k lt stage was link is) = by_brought i m (record { at = u; before = lt; actor = k; stood = stands_now link is; how = builds stage was link })
  theirs i m (first link is) =
      let there : Stood (words states run.records last) 0 i m = stands_now link is in
      record {
        stood = stood_still (omega arith) there;
        not_elsewhere = λ t lt j other k stood how. (private_then (protocol_of run) t k j m (omega (arith, lt)) how).apart i (stood_still (omega arith) there);
        not_first = λ j other stood.
            other (one_at_first run j i (subst (λ u. is_indirection (node_under states u j) ≡ true) (at_zero stood.at stood.past) stood.link) link);
      }
