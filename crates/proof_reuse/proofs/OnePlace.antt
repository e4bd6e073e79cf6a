-- One main node takes the place of an indirection's own, once.
use Rattle.std.proofs.Common.{◌≡◌, ◌⊎◌, ◌<◌, ◌≤◌, inl, inr, ℕ, suc, List, sym, ap, subst, ◌∙◌, arith}
use Rattle.std.proofs.lemmas.Bool.{cases_eq}
use Rattle.proof_reuse.specs.Beneath.slot_arena.specs.declared.refs.Ref.{Ref}
use Rattle.proof_reuse.specs.Beneath.slot_arena.specs.Heaps.{logical_main}
use Rattle.proof_reuse.specs.Beneath.machine_model.specs.declared.steps.Bounds.{Bounds}
use Rattle.proof_reuse.specs.Beneath.machine_model.specs.declared.steps.Step.{Step}
use Rattle.proof_reuse.specs.Beneath.machine_model.specs.Machine.{AreBounds}
use Rattle.proof_reuse.specs.Beneath.machine_model.specs.States.{State}
use Rattle.proof_reuse.specs.Beneath.machine_model.specs.Times.{IsRun, states_of, last_of}
use Rattle.proof_reuse.specs.Beneath.machine_model.proofs.Times.{run_is}
use Rattle.proof_reuse.specs.Beneath.proof_commits.specs.Protocol.{Protocol, logical_at}
use Rattle.proof_reuse.specs.Beneath.proof_commits.proofs.Course.Mains.{replaced_for_good}
use Rattle.proof_reuse.specs.Beneath.proof_commits.proofs.Words.Stood.{stands_now}
use Rattle.proof_reuse.specs.Beneath.proof_generations.proofs.Falling.KnownRoots.{protocol_of}
use Rattle.proof_owned.specs.Owned.{IsOwn, swapped, built, first}
use Rattle.proof_owned.proofs.Brought.{publishes, builds}
use Rattle.proof_owned.proofs.MainsInUse.{link_at, logical_is}
use Rattle.proof_owned.proofs.Theirs.{IsTheirs, theirs}
use Rattle.proof_reuse.specs.Laws.{IsReplacedBy}

module _ {limits : Bounds} {states : ℕ → State} {last : ℕ} (run : IsRun limits states last) where
  -- it is one indirection's
  elsewhere : (i j m : Ref) → IsTheirs run i m → (j ≡ i → ⊥) → IsOwn states last j m → ⊥
  elsewhere i j m its apart (swapped u k a lt stage link is) = its.not_elsewhere u lt j apart k (stands_now link is) (publishes a stage)
  elsewhere i j m its apart (built u k lt stage was link is) = its.not_elsewhere u lt j apart k (stands_now link is) (builds stage was link)
  elsewhere i j m its apart (first link is) = its.not_first j apart (stands_now link is)

  pub one_owner : (i j m : Ref) → IsOwn states last i m → IsOwn states last j m → i ≡ j
  one_owner i j m own other = elim (cases_eq j i) [ inl same ↦ sym same | inr apart ↦ absurd (elsewhere i j m (theirs run i m own) apart other) ]

module _ (limits : Bounds) (steps : List Step) (ok : AreBounds limits) where
  abbrev states : ℕ → State
  states = states_of limits steps

  abbrev last : ℕ
  last = last_of limits steps

  abbrev is_run : IsRun limits states last
  is_run = run_is limits steps ok

  abbrev p : Protocol
  p = protocol_of is_run

  module _ (i m f : Ref) (r : IsReplacedBy limits steps i m f) where
    was : logical_at p.words r.at i ≡ m
    was = sym (logical_is is_run r.at (omega (arith, r.within)) i r.had) ∙ r.was

    gone : logical_at p.words (suc r.at) i ≡ m → ⊥
    gone e = r.apart (sym e ∙ sym (logical_is is_run (suc r.at) (omega (arith, r.within)) i r.has) ∙ r.is)

    -- it doesn't count again
    never : (t : ℕ) → r.at < t → t ≤ last → logical_at p.words t i ≡ m → ⊥
    never t more within = replaced_for_good p i m r.at (suc r.at) t (omega arith) (omega (arith, more)) within (link_at is_run r.at i r.had) was gone

  order : (n k : ℕ) → (n < k) ⊎ ((k < n) ⊎ (n ≡ k))
  order n k = grind arith

  one_then : (i m f g : Ref) (a : IsReplacedBy limits steps i m f) (b : IsReplacedBy limits steps i m g) → f ≡ g
  one_then i m f g a b = elim (order a.at b.at) [
    | inl less ↦ absurd (never i m f a b.at less (omega (arith, b.within)) (was i m g b))
    | inr other ↦ elim other [
      | inl more ↦ absurd (never i m g b a.at more (omega (arith, a.within)) (was i m f a))
      | inr same ↦ sym a.is ∙ ap (λ t. logical_main (states (suc t)).heap i) same ∙ b.is
    ]
  ]

  pub one_takes_its_place : (i j m f g : Ref) → IsOwn states last i m → IsOwn states last j m → IsReplacedBy limits steps i m f → IsReplacedBy limits steps j m g → (i ≡ j) × (f ≡ g)
  one_takes_its_place i j m f g own other a b =
      let same = one_owner is_run i j m own other in
      (same, one_then j m f g (subst (λ x. IsReplacedBy limits steps x m f) same a) b)
