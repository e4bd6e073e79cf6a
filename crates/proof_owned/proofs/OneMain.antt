-- While the generation of an indirection is open, or once its own main node is replaced there, that node stands in no other indirection whose generation was opened.
use Rattle.std.proofs.Common.{◌≡◌, ℕ, suc, ◌<◌, ◌≤◌, refl, ◌∙◌, subst}
use Rattle.proof_owned.specs.Beneath.slot_arena.specs.declared.refs.Ref.{Ref}
use Rattle.proof_owned.specs.Beneath.machine_model.specs.declared.roots.Descriptor.{Descriptor}
use Rattle.proof_owned.specs.Beneath.machine_model.specs.declared.steps.Bounds.{Bounds}
use Rattle.proof_owned.specs.Beneath.machine_model.specs.States.{State}
use Rattle.proof_owned.specs.Beneath.machine_model.specs.Times.{IsRun}
use Rattle.proof_owned.specs.Beneath.proof_commits.proofs.Words.Stood.{Stood}
use Rattle.proof_owned.specs.Beneath.proof_contents.specs.Runs.{counting_main}
use Rattle.proof_owned.specs.Beneath.proof_generations.specs.Falling.{WasOpened, WasClosed}
use Rattle.proof_owned.specs.Beneath.proof_generations.proofs.Falling.KnownRoots.{words}
use Rattle.proof_owned.specs.Beneath.proof_generations.proofs.Falling.Runs.{gen_of}
use Rattle.proof_order.specs.Openings.{IsSwap}
use Rattle.proof_owned.proofs.Brought.{How}
use Rattle.proof_owned.proofs.Theirs.{IsTheirs}
use Rattle.proof_owned.proofs.Unopened.{IsRenewing, ComeInAlone, unopened_at}

module _ {limits : Bounds} {states : ℕ → State} {last : ℕ} (run : IsRun limits states last) (i m : Ref) (own : IsTheirs run i m) where
  elsewhere : (t : ℕ) → t < last → (k : ℕ) (j x : Ref) → (j ≡ i → ⊥) → x ≡ m → Stood (words states run.records last) (suc t) j x → How (words states run.records last) t k j x → ⊥
  elsewhere t lt k j x other same stood how =
      own.not_elsewhere t lt j other k (subst (λ y. Stood (words states run.records last) (suc t) j y) same stood) (subst (λ y. How (words states run.records last) t k j y) same how)

  -- it comes in alone, if nobody shares it
  pub own_alone : ((t : ℕ) → t < last → IsRenewing run t i m → ⊥) →
      ((t handle : ℕ) (offer : Descriptor) → IsSwap states run.records last t handle offer → offer.root ≡ i → counting_main states last last i ≡ m →
      WasClosed run.records last (gen_of states last i) → ⊥) → ComeInAlone run i (λ x. x ≡ m)
  own_alone not_renewed not_copied = record {
    not_first = λ j x other same stood. own.not_first j other (subst (λ y. Stood (words states run.records last) 0 j y) same stood);
    not_brought = λ t lt so_far k j x other same stood how. elsewhere t lt k j x other same stood how;
    not_cleared = λ j x other same c. elsewhere c.brought.at c.brought.before c.brought.actor j x other same c.brought.stood c.brought.how;
    not_renewed = λ t lt so_far x same r. not_renewed t lt (subst (IsRenewing run t i) same r);
    not_copied = λ t handle offer swap root same keeps closed. not_copied t handle offer swap root (keeps ∙ same) closed;
  }

  -- as where it isn't final once the generation is closed
  module _ (final : counting_main states last last i ≡ m → WasClosed run.records last (gen_of states last i) → ⊥) where
    is_alone : ComeInAlone run i (λ x. x ≡ m)
    is_alone = own_alone (λ t lt r. final r.keeps r.closed) (λ t handle offer swap root keeps closed. final keeps closed)

    pub own_unopened : (t : ℕ) → t ≤ last → (j : Ref) → (j ≡ i → ⊥) → Stood (words states run.records last) t j m → WasOpened states t (gen_of states last j) → ⊥
    own_unopened t within j other stood was = unopened_at run i (λ x. x ≡ m) is_alone t within j m other refl stood was
