-- The root that an offer has replaced stands on no writable handle any more, and no offer that stands is to bring it.
use Rattle.std.proofs.Common.{◌≡◌, ℕ, Bool, true, false, Some, refl, sym, ap, ◌∙◌, arith}
use Rattle.std.proofs.lemmas.Option.{none-some}
use Rattle.proof_claims.specs.Beneath.slot_arena.specs.declared.refs.Ref.{Ref}
use Rattle.proof_claims.specs.Beneath.slot_arena.specs.Heaps.{generation_at, generation_of}
use Rattle.proof_claims.specs.Beneath.history.specs.declared.calls.Access.TheVariants.{Writable}
use Rattle.proof_claims.specs.Beneath.machine_model.specs.declared.operations.Operation.{Operation}
use Rattle.proof_claims.specs.Beneath.machine_model.specs.declared.roots.Descriptor.{Descriptor}
use Rattle.proof_claims.specs.Beneath.machine_model.specs.declared.roots.Root.{Root}
use Rattle.proof_claims.specs.Beneath.machine_model.specs.declared.roots.RootWord.TheVariants.{Offer}
use Rattle.proof_claims.specs.Beneath.machine_model.specs.declared.steps.Bounds.{Bounds}
use Rattle.proof_claims.specs.Beneath.machine_model.specs.Grown.{node_under}
use Rattle.proof_claims.specs.Beneath.machine_model.specs.Records.{closed_at}
use Rattle.proof_claims.specs.Beneath.machine_model.specs.States.{State, root_at, root_of, word_of}
use Rattle.proof_claims.specs.Beneath.machine_model.specs.Times.{IsRun}
use Rattle.proof_claims.specs.Beneath.proof_memory.proofs.Safety.AtTimes.{generation_found}
use Rattle.proof_claims.specs.Beneath.proof_generations.specs.Running.{Runs}
use Rattle.proof_claims.specs.Beneath.proof_generations.proofs.Falling.Counted.{fresh_used}
use Rattle.proof_claims.specs.Beneath.proof_generations.proofs.Roots.Along.{ordered_at}
use Rattle.proof_claims.specs.Beneath.proof_generations.proofs.Roots.Kept.{fresh_in}
use Rattle.proof_claims.specs.Beneath.proof_generations.proofs.Roots.Own.{its_fresh}
use Rattle.proof_claims.specs.Beneath.proof_order.proofs.Openings.NeverStood.{new_at}
use Rattle.proof_claims.specs.Beneath.proof_order.proofs.Openings.RootOf.{roots_are_one}
use Rattle.proof_claims.specs.Beneath.proof_order.proofs.Openings.SwapState.{closed_for_ever, old_stands}
use Rattle.proof_claims.proofs.Marked.{WasSwapped}

module _ {limits : Bounds} {states : ℕ → State} {last : ℕ} (run : IsRun limits states last) (offer : Descriptor) (swapped : WasSwapped run last offer) where
  abbrev closed : ℕ
  closed = generation_at (states swapped.at).heap offer.root

  -- it keeps its generation
  pub keeps : generation_of (node_under states last offer.root) ≡ closed
  keeps =
      let before = swapped.before in
      (roots_are_one run swapped.at swapped.handle offer.root closed (omega arith) (old_stands run swapped.at swapped.handle offer swapped.swap)).1

  pub no_root : (handle : ℕ) (root : Root) → root_at (states last) handle ≡ Some root → root.access ≡ Writable → root_of root.word ≡ offer.root → ⊥
  no_root handle root e writable same =
      let g = generation_at (states last).heap (root_of root.word) in
      let now = (roots_are_one run last handle offer.root g (omega arith) (record { root = root; is_open = e; is = same; its = ap (generation_at (states last).heap) (sym same) })).1 in
      none-some swapped.at
      (sym ((ordered_at run last (omega arith)).roots.unclosed handle root e writable) ∙ ap (closed_at (run.records last)) (sym now ∙ keeps)
      ∙ closed_for_ever run swapped.at swapped.handle offer swapped.swap last swapped.before (omega arith))

  -- no fresh root of an operation whose offer isn't carried out yet is the old one
  pub no_fresh : (k : ℕ) (operation : Operation) (x : Bool) (q : Ref) → Runs (states last) k operation → operation.is_marked ≡ false → fresh_in x operation.line ≡ Some q → q ≡ offer.root → ⊥
  no_fresh k operation x q runs unmarked e same =
      let new = new_at run last (omega arith) k operation x q runs unmarked e in
      let old = old_stands run swapped.at swapped.handle offer swapped.swap in
      let before = swapped.before in
      new.never swapped.at swapped.handle old.root (omega arith) old.is_open (ap (generation_at (states swapped.at).heap) old.is ∙ sym keeps
      ∙ ap (λ r. generation_of (node_under states last r)) (sym same) ∙ sym (generation_found states last q (fresh_used run last (omega arith) k operation x q runs e)))

  pub no_successor : (handle : ℕ) (root : Root) (other : Descriptor) → root_at (states last) handle ≡ Some root → root.word ≡ Offer other → other.successor ≡ offer.root → ⊥
  no_successor handle root other e word same =
      let by = (ordered_at run last (omega arith)).offers.offers handle other (ap word_of e ∙ word) in
      no_fresh by.k by.owner true other.successor by.runs by.unmarked (its_fresh by.owner.line other true other.successor by.completes refl) same
