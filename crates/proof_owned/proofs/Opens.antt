-- What a step opens was opened before, or is a fresh root of an offer that this step carries out.
use Rattle.std.proofs.Common.{◌≡◌, ℕ, suc, ◌<◌, Bool, true, false, inl, inr, Option, Some, None, refl, sym, ap, ◌∙◌, subst, arith}
use Rattle.std.proofs.lemmas.Bool.{cases_eq}
use Rattle.proof_owned.specs.Beneath.slot_arena.specs.declared.refs.Ref.{Ref}
use Rattle.proof_owned.specs.Beneath.slot_arena.specs.Heaps.{generation_of}
use Rattle.proof_owned.specs.Beneath.machine_model.specs.declared.roots.Descriptor.{Descriptor}
use Rattle.proof_owned.specs.Beneath.machine_model.specs.declared.roots.Root.{Root}
use Rattle.proof_owned.specs.Beneath.machine_model.specs.declared.roots.RootWord.TheVariants.{Offer}
use Rattle.proof_owned.specs.Beneath.machine_model.specs.declared.steps.Bounds.{Bounds}
use Rattle.proof_owned.specs.Beneath.machine_model.specs.declared.steps.Outcome.{Outcome}
use Rattle.proof_owned.specs.Beneath.machine_model.specs.declared.steps.Step.{Step}
use Rattle.proof_owned.specs.Beneath.machine_model.specs.Calls.{handle_of}
use Rattle.proof_owned.specs.Beneath.machine_model.specs.States.{State, root_at, root_of, word_of}
use Rattle.proof_owned.specs.Beneath.machine_model.specs.Operations.{action_of}
use Rattle.proof_owned.specs.Beneath.machine_model.specs.Acting.{opened_root}
use Rattle.proof_owned.specs.Beneath.machine_model.specs.Moves.{Moves}
use Rattle.proof_owned.specs.Beneath.machine_model.specs.Times.{IsRun, Turn, turns, noted_turn}
use Rattle.proof_owned.specs.Beneath.machine_model.specs.Grown.{node_under}
use Rattle.proof_owned.specs.Beneath.machine_model.specs.Records.{noted}
use Rattle.proof_owned.specs.Beneath.machine_model.specs.Tellings.{told_in}
use Rattle.proof_owned.specs.Beneath.proof_generations.proofs.Handles.Footings.{RootFrom, stood, swapped, newly, one_carried}
use Rattle.proof_owned.specs.Beneath.proof_generations.proofs.Offers.Marks.{carried_stands}
use Rattle.proof_owned.specs.Beneath.proof_generations.proofs.Roots.Own.{gen}
use Rattle.proof_owned.specs.Beneath.proof_generations.proofs.Roots.Along.{IsOrdered, ordered_at}
use Rattle.proof_owned.specs.Beneath.proof_generations.proofs.Roots.Kept.{fresh_of}
use Rattle.proof_owned.specs.Beneath.proof_generations.proofs.Offers.Swaps.{StepKind, quiet, swaps, step_kind}
use Rattle.proof_owned.specs.Beneath.proof_generations.proofs.Falling.Opened.{standing_generation}
use Rattle.proof_owned.specs.Beneath.proof_generations.specs.Falling.{WasOpened}
use Rattle.proof_order.specs.Openings.{IsSwap}

module _ {limits : Bounds} {states : ℕ → State} {last : ℕ} (run : IsRun limits states last) where
  pub data OpensSo (t : ℕ) (g : ℕ) : Type 0 where
    before : WasOpened states t g → OpensSo t g
    opens : (handle : ℕ) (offer : Descriptor) → IsSwap states run.records last t handle offer → (x : Bool) (r : Ref) → fresh_of x offer ≡ Some r →
        generation_of (node_under states last r) ≡ g → OpensSo t g

  offer_root : (o : Option Root) (offer : Descriptor) → word_of o ≡ Offer offer → (root : Root) × (o ≡ Some root) × (root_of root.word ≡ offer.root)
  offer_root None offer e = let wrong : ⊥ = cc e in absurd wrong
  offer_root (Some root) offer e = (root, refl, ap root_of e)

  -- a handle's root after a step stood on a handle before, or is brought so
  pub data RootSo (t : ℕ) (r : Ref) : Type 0 where
    stood_before : (handle : ℕ) (root : Root) → root_at (states t) handle ≡ Some root → root_of root.word ≡ r → RootSo t r
    brought : (handle : ℕ) (offer : Descriptor) → IsSwap states run.records last t handle offer → (x : Bool) → fresh_of x offer ≡ Some r → RootSo t r

  module _ (t : ℕ) (h : t < last) (s : Step) (o : Outcome) (m : Moves (states t) s o (states (suc t)))
      (notes : run.records (suc t) ≡ noted (run.records t) (states t).steps (told_in (states t) s)) where
    abbrev I : IsOrdered (states t) (run.records t)
    I = ordered_at run t (omega arith)

    root_by : StepKind (states t) (run.records t) s (states (suc t)) (run.records (suc t)) → (handle : ℕ) (now : Root) → root_at (states (suc t)) handle ≡ Some now → RootSo t (root_of now.word)
    root_by (quiet closings roots) handle now e = let (root, was, access, word) = roots handle now e in stood_before handle root was (sym word)
    root_by (swaps actor mover offer go is c closings roots) handle now e = by (roots handle now e)
      where
        swap : IsSwap states run.records last t (handle_of mover.call) offer
        swap = record {
          taken = h;
          step = s;
          outcome = o;
          moves = m;
          notes = notes;
          carries = (actor, mover, c.main, go, is, c.is_it, refl, c.carried);
        }

        fresh : (x : Bool) (r : Ref) → fresh_of x offer ≡ Some r → root_of now.word ≡ r → RootSo t (root_of now.word)
        fresh x r f word = brought (handle_of mover.call) offer swap x (f ∙ ap (λ q. Some q) (sym word))

        new_handle : (second : Option Ref) → offer.second ≡ second → now ≡ opened_root offer second → RootSo t (root_of now.word)
        new_handle None none it =
            let old = offer_root (root_at (states t) (handle_of mover.call)) offer (carried_stands (states t) I.offers actor mover offer is c) in
            stood_before (handle_of mover.call) old.0 old.1 (old.2 ∙ sym (ap (λ (x : Root). root_of x.word) it))
        new_handle (Some q) some it = fresh false q some (ap (λ (x : Root). root_of x.word) it)

        by : RootFrom (states t) (handle_of mover.call) (action_of (states t) mover) handle now → RootSo t (root_of now.word)
        by (stood root was access word free) = stood_before handle root was (sym word)
        by (swapped root other d at_it was it) =
            let same = one_carried (states t) (handle_of mover.call) (action_of (states t) mover) offer other c d in
            fresh true offer.successor refl (ap (λ (x : Root). root_of x.word) it ∙ ap (λ (x : Descriptor). x.successor) same)
        by (newly other n d number at_it it) =
            let same = one_carried (states t) (handle_of mover.call) (action_of (states t) mover) offer other c d in
            new_handle offer.second refl (it ∙ ap (λ (x : Descriptor). opened_root x x.second) same)

    by_kind : (handle : ℕ) (now : Root) → root_at (states (suc t)) handle ≡ Some now → RootSo t (root_of now.word)
    by_kind handle now e = root_by (step_kind (states t) I.offers (run.records t) (run.records (suc t)) s o (states (suc t)) m notes) handle now e

  root_turn : (t : ℕ) → t < last → (turn : Turn (states t) (states (suc t))) → run.records (suc t) ≡ noted_turn turn (run.records t) → (handle : ℕ) (now : Root) →
      root_at (states (suc t)) handle ≡ Some now → RootSo t (root_of now.word)
  root_turn t h (turns s o m) notes handle now e = by_kind t h s o m notes handle now e

  pub root_so : (t : ℕ) → t < last → (handle : ℕ) (now : Root) → root_at (states (suc t)) handle ≡ Some now → RootSo t (root_of now.word)
  root_so t h handle now e = root_turn t h (run.turn t h) (run.recorded t h) handle now e

  opens_by : (t : ℕ) → t < last → (g : ℕ) (r : Ref) → generation_of (node_under states last r) ≡ g → RootSo t r → OpensSo t g
  opens_by t h g r its (stood_before handle root e same) =
      before (t, omega arith, (handle, root, e, sym (standing_generation run t (omega arith) handle root e) ∙ ap (λ q. generation_of (node_under states last q)) same ∙ its))
  opens_by t h g r its (brought handle offer swap x f) = opens handle offer swap x r f its

  pub opens_so : (t : ℕ) → t < last → (g : ℕ) → WasOpened states (suc t) g → OpensSo t g
  opens_so t h g (u, le, (handle, root, e, its)) = elim (cases_eq u (suc t)) [
    | inl same ↦
        let now = subst (λ v. root_at (states v) handle ≡ Some root) same e in
        opens_by t h g (root_of root.word) (standing_generation run (suc t) h handle root now ∙ subst (λ v. gen (states v) root ≡ g) same its) (root_so t h handle root now)
    | inr other ↦ before (u, omega arith, (handle, root, e, its))
  ]
