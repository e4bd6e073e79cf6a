-- An offer that is carried out stands in the word of a writable handle over its root, and the roots that it brings are fresh.
use Rattle.std.proofs.Common.{◌≡◌, ℕ, suc, ◌<◌, Bool, true, false, Option, Some, None, refl, sym, ap, ◌∙◌, arith}
use Rattle.std.proofs.lemmas.Option.{none-some, same_Some}
use Rattle.proof_order.specs.Vocabulary.{Access, Writable, Ref, generation_at, Operation, Descriptor, Root, Offer, Bounds, Step, handle_of, State, root_at, root_of, word_of, word_at, operation_of}
use Rattle.proof_order.specs.Vocabulary.{action_of, is_carried_out, turns, IsRun, Turn, Record}
use Rattle.proof_order.specs.Beneath.machine_model.specs.declared.actions.Action.TheVariants as act
use Rattle.proof_order.specs.Beneath.machine_model.specs.declared.steps.Step.TheVariants as step
use Rattle.proof_order.specs.Beneath.proof_memory.proofs.Safety.States.{IsSafe}
use Rattle.proof_order.specs.Beneath.proof_memory.proofs.Safety.AtEachTime.{safe_at}
use Rattle.proof_generations.proofs.Handles.Footings as Footings
use Rattle.proof_generations.proofs.Offers.Marks.{carried_stands}
use Rattle.proof_generations.proofs.Roots.Own.{IsUnused, gen}
use Rattle.proof_generations.proofs.Roots.Kept.{fresh_of, root_kept}
use Rattle.proof_generations.proofs.Roots.Along.{IsOrdered, ordered_at, offer_writable, offered_unused, offered_apart}
use Rattle.proof_order.specs.Facts.{CarriesOut, On, IsFresh, standing_of}
use Rattle.proof_order.specs.Openings.{IsSwap}
use Rattle.proof_order.specs.Beneath.machine_model.proofs.Basics.{not_offer}

-- what carries an offer out, told apart
pub record Carried (state : State) (s : Step) (handle : ℕ) (offer : Descriptor) : Type 0 where
  pub actor : ℕ
  pub mover : Operation
  pub main : Ref
  pub go : s ≡ step.Go actor
  pub moves : operation_of state actor ≡ Some mover
  pub completes : action_of state mover ≡ act.Complete offer main
  pub on : handle_of mover.call ≡ handle
  pub carried : is_carried_out (word_at state handle) offer main ≡ true

pub carried_of : (state : State) (s : Step) (handle : ℕ) (offer : Descriptor) → CarriesOut state s handle offer → Carried state s handle offer
carried_of state s handle offer c = record { actor = c.0; mover = c.1; main = c.2; go = c.3; moves = c.4; completes = c.5; on = c.6; carried = c.7 }

-- an open handle whose word has an offer
pub record IsOffered (state : State) (handle : ℕ) (offer : Descriptor) : Type 0 where
  pub root : Root
  pub is_open : root_at state handle ≡ Some root
  pub word : root.word ≡ Offer offer
  pub writable : root.access ≡ Writable

pub offered_root : (state : State) (past : Record) → IsSafe state → IsOrdered state past → (handle : ℕ) (offer : Descriptor) → word_at state handle ≡ Offer offer → IsOffered state handle offer
offered_root state past S I handle offer e = by (root_at state handle) refl e
  where
    by : (o : Option Root) → root_at state handle ≡ o → word_of o ≡ Offer offer → IsOffered state handle offer
    by None is w = absurd (not_offer _ offer w)
    by (Some root) is w = record { root = root; is_open = is; word = w; writable = offer_writable state past S I handle root offer is w }

-- what no handle's root has is fresh
pub fresh_unused : (state : State) (past : Record) (g : ℕ) → IsUnused state past g → IsFresh state past g
fresh_unused state past g u = (u.unclosed, λ handle access e. by handle access (root_at state handle) refl e)
  where
    gens : (p q : Access × ℕ) → Some p ≡ Some q → p.1 ≡ q.1
    gens p q e = ap (λ (x : Access × ℕ). x.1) (same_Some p q e)

    by : (handle : ℕ) (access : Access) (o : Option Root) → root_at state handle ≡ o → standing_of state.heap o ≡ Some (access, g) → ⊥
    by handle access None is e = none-some _ e
    by handle access (Some root) is e = u.alone handle root is (gens (root.access, gen state root) (access, g) e)

module _ {limits : Bounds} {states : ℕ → State} {last : ℕ} (r : IsRun limits states last) (t handle : ℕ) (offer : Descriptor) (swap : IsSwap states r.records last t handle offer) where
  pub safe : IsSafe (states t)
  safe = safe_at r t (omega (arith, swap.taken))

  pub ordered : IsOrdered (states t) (r.records t)
  ordered = ordered_at r t (omega (arith, swap.taken))

  pub mover : Carried (states t) swap.step handle offer
  mover = carried_of (states t) swap.step handle offer swap.carries

  -- it is just what the laws of generations call so
  pub carries : Footings.ActionCarriesOut (states t) (handle_of mover.mover.call) (action_of (states t) mover.mover) offer
  carries = record { main = mover.main; is_it = mover.completes; carried = ap (λ h. is_carried_out (word_at (states t) h) offer mover.main) mover.on ∙ mover.carried }

  pub word : word_at (states t) handle ≡ Offer offer
  word = ap (word_at (states t)) (sym mover.on) ∙ carried_stands (states t) ordered.offers mover.actor mover.mover offer mover.moves carries

  pub root : IsOffered (states t) handle offer
  root = offered_root (states t) (r.records t) safe ordered handle offer word

  -- the handle is writable, and its root is the offer's
  pub swap_stands : On states t handle (generation_at (states t).heap offer.root)
  swap_stands =
      ap (standing_of (states t).heap) root.is_open ∙ ap (λ a. Some (a, generation_at (states t).heap (root_of root.root.word))) root.writable
      ∙ ap (λ w. Some (Writable, generation_at (states t).heap (root_of w))) root.word

  pub unused : (x : Bool) (q : Ref) → fresh_of x offer ≡ Some q → IsUnused (states t) (r.records t) (generation_at (states t).heap q)
  unused x q e = offered_unused (states t) (r.records t) ordered handle offer word x q e

  -- the generations that it brings are fresh, and differ
  pub swap_is_fresh : IsFresh (states t) (r.records t) (generation_at (states t).heap offer.successor)
  swap_is_fresh = fresh_unused (states t) (r.records t) _ (unused true offer.successor refl)

  pub second_is_fresh : (second : Ref) → offer.second ≡ Some second → IsFresh (states t) (r.records t) (generation_at (states t).heap second)
  second_is_fresh second e = fresh_unused (states t) (r.records t) _ (unused false second e)

  pub second_differs : (second : Ref) → offer.second ≡ Some second → generation_at (states t).heap second ≡ generation_at (states t).heap offer.successor → ⊥
  second_differs second e = offered_apart (states t) (r.records t) ordered handle offer word second e

-- a step leaves the generation of a handle's root as it is
pub keeps_generation : {limits : Bounds} {states : ℕ → State} {last : ℕ} (r : IsRun limits states last) → (t handle : ℕ) (root : Root) → t < last → root_at (states t) handle ≡ Some root →
    generation_at (states (suc t)).heap (root_of root.word) ≡ generation_at (states t).heap (root_of root.word)
keeps_generation {limits} {states} {last} r t handle root within e = by (r.turn t within)
  where
    by : Turn (states t) (states (suc t)) → generation_at (states (suc t)).heap (root_of root.word) ≡ generation_at (states t).heap (root_of root.word)
    by (turns s o m) = root_kept (states t) (safe_at r t (omega arith)) s o (states (suc t)) m handle root e
