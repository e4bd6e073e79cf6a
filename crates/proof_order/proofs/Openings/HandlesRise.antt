-- A handle's generations rise: a root that comes to stand in a writable handle's word is newer than all that the number had before.
use Rattle.std.proofs.Common.{◌≡◌, ℕ, zero, suc, ◌<◌, ◌≤◌, true, false, ◌⊎◌, inl, inr, Option, Some, None, refl, sym, ap, ◌∙◌, arith}
use Rattle.std.proofs.lemmas.Bool.{cases_eq}
use Rattle.std.proofs.lemmas.Option.{same_Some}
use Rattle.proof_order.specs.Vocabulary.{Writable, ReadOnly, Ref, generation_at, Operation, Descriptor, Root, Bounds, Outcome, Step, handle_of, State, root_at, root_of, operation_of, action_of}
use Rattle.proof_order.specs.Vocabulary.{opened_root, Moves, turns, noted_turn, IsRun, Turn}
use Rattle.proof_order.specs.Beneath.proof_memory.proofs.Safety.AtEachTime.{safe_at}
use Rattle.proof_order.specs.Beneath.proof_memory.proofs.Safety.States.{IsSafe}
use Rattle.proof_generations.proofs.Offers.Standing.{StandsBy, own_numbers, completes_it}
use Rattle.proof_generations.proofs.Handles.Footings.{ActionCarriesOut, RootFrom, stood, swapped, newly, one_carried}
use Rattle.proof_generations.proofs.Roots.Own.{gen, its_fresh, brought_kept}
use Rattle.proof_generations.proofs.Roots.Kept.{fresh_of, root_kept}
use Rattle.proof_generations.proofs.Roots.Along.{IsOrdered, ordered_at}
use Rattle.proof_generations.proofs.Offers.Swaps.{StepKind, quiet, swaps, step_kind, Kept}
use Rattle.proof_order.specs.Openings.{IsRootOf}
use Rattle.proof_order.specs.Laws.Openings.{HandlesRiseIn}
use Rattle.proof_order.proofs.Openings.Carried.{IsOffered}
use Rattle.proof_order.proofs.Openings.Copy.{copied}
use Rattle.proof_order.proofs.Openings.NeverStood.{IsNew, new_at}
use Rattle.proof_order.proofs.Openings.OneRoot.{stands, old}
use Rattle.proof_order.proofs.Openings.RootOf.{roots_are_one}

read_only : (second : Option Ref) (offer : Descriptor) → second ≡ None → (opened_root offer second).access ≡ Writable → ⊥
read_only second offer e w = let both : ReadOnly ≡ Writable = ap (λ x. (opened_root offer x).access) (sym e) ∙ w in cc both

module _ {limits : Bounds} {states : ℕ → State} {last : ℕ} (run : IsRun limits states last) where
  safe : (t : ℕ) → t ≤ last → IsSafe (states t)
  safe t within = safe_at run t within

  ordered : (t : ℕ) → t ≤ last → IsOrdered (states t) (run.records t)
  ordered t within = ordered_at run t within

  -- the same root has the same generation at all times
  same_generation : (u t handle other : ℕ) (a b : Root) → u ≤ last → t ≤ last → root_at (states u) handle ≡ Some a → root_at (states t) other ≡ Some b → root_of a.word ≡ root_of b.word →
      gen (states u) a ≡ gen (states t) b
  same_generation u t handle other a b le within at_u at_t same =
      let first : IsRootOf states u handle (root_of b.word) (gen (states u) a) = record { root = a; is_open = at_u; is = same; its = ap (generation_at (states u).heap) (sym same) } in
      let second : IsRootOf states t other (root_of b.word) (gen (states t) b) = record { root = b; is_open = at_t; is = refl; its = refl } in
      sym (roots_are_one run u handle (root_of b.word) (gen (states u) a) le first).1
      ∙ (roots_are_one run t other (root_of b.word) (gen (states t) b) within second).1

  abbrev Rises : ℕ → ℕ → ℕ → Root → Root → Type 0
  Rises u t handle a b = (root_of b.word ≡ root_of a.word) ⊎ (gen (states u) a < gen (states t) b)

  abbrev AllRise : ℕ → Type 0
  AllRise t = (u handle : ℕ) (a b : Root) → u ≤ t → root_at (states u) handle ≡ Some a → root_at (states t) handle ≡ Some b → b.access ≡ Writable → Rises u t handle a b

  module _ (t : ℕ) (within : t < last) (so_far : AllRise t) (s : Step) (o : Outcome) (m : Moves (states t) s o (states (suc t))) (u handle : ℕ) (a now : Root) (le : u ≤ t)
      (at_u : root_at (states u) handle ≡ Some a) (at_now : root_at (states (suc t)) handle ≡ Some now) (writable : now.access ≡ Writable) where
    -- where the step leaves the root
    by_kept : Kept (states t) handle now → Rises u (suc t) handle a now
    by_kept (root, at_t, access, word) = elim (so_far u handle a root le at_u at_t (sym access ∙ writable)) [
      | inl same ↦ inl (word ∙ same)
      | inr less ↦ inr (omega (arith, less, root_kept (states t) (safe t (omega arith)) s o (states (suc t)) m handle root at_t, ap (generation_at (states (suc t)).heap) word))
    ]

    -- where it is brought
    module _ (actor : ℕ) (mover : Operation) (offer : Descriptor) (is : operation_of (states t) actor ≡ Some mover)
        (c : ActionCarriesOut (states t) (handle_of mover.call) (action_of (states t) mover) offer) where
      by : StandsBy (states t) (handle_of mover.call) offer
      by = stands (states t) (run.records t) (safe t (omega arith)) (ordered t (omega arith)) s o (states (suc t)) m actor mover offer is c

      before : IsOffered (states t) (handle_of mover.call) offer
      before = old (states t) (run.records t) (safe t (omega arith)) (ordered t (omega arith)) s o (states (suc t)) m actor mover offer is c

      is_new : (x : _) (q : Ref) → fresh_of x offer ≡ Some q → IsNew run t by.owner q
      is_new x q e = new_at run t (omega arith) by.k by.owner x q by.runs by.unmarked (its_fresh by.owner.line offer x q by.completes e)

      kept : (x : _) (q : Ref) → fresh_of x offer ≡ Some q → generation_at (states (suc t)).heap q ≡ generation_at (states t).heap q
      kept x q e = brought_kept (states t) (safe t (omega arith)) s o (states (suc t)) m (handle_of mover.call) offer by x q e

      copied_is : (copied by.owner.line).0 ≡ offer.root
      copied_is = let (d, at_line, its) = completes_it by.owner.line offer by.completes in ap (λ l. (copied l).0) at_line ∙ ap (λ (o : Descriptor). o.root) its

      -- over the old root of its handle
      over_old : handle ≡ handle_of mover.call → gen (states u) a < generation_at (states t).heap offer.successor
      over_old here =
          let old_is : gen (states t) before.root ≡ generation_at (states t).heap offer.root = ap (λ w. generation_at (states t).heap (root_of w)) before.word in
          let newer : generation_at (states t).heap offer.root < generation_at (states t).heap offer.successor =
          omega (arith, (is_new true offer.successor refl).newer, ap (generation_at (states t).heap) copied_is) in
          by_old old_is newer (so_far u handle a before.root le at_u (ap (root_at (states t)) here ∙ before.is_open) before.writable)
        where
          by_old : gen (states t) before.root ≡ generation_at (states t).heap offer.root → generation_at (states t).heap offer.root < generation_at (states t).heap offer.successor →
              Rises u t handle a before.root → gen (states u) a < generation_at (states t).heap offer.successor
          by_old old_is newer (inl same) =
              omega (arith, same_generation u t handle (handle_of mover.call) a before.root (omega arith) (omega arith) at_u before.is_open (sym same), old_is, newer)
          by_old old_is newer (inr less) = omega (arith, less, old_is, newer)

      by_second : (second : Option Ref) → offer.second ≡ second → offer.opens ≡ Some handle → now ≡ opened_root offer second → Rises u (suc t) handle a now
      by_second None e opens it = absurd (read_only None offer refl (ap (λ (x : Root). x.access) (sym it) ∙ writable))
      by_second (Some q) e opens it =
          let mine = own_numbers by.owner offer ((ordered t (omega arith)).offers.own by.k by.owner by.runs) by.completes in
          inr (omega (arith, (is_new false q e).above u handle a le (sym mine.number ∙ opens) at_u, kept false q e, ap (gen (states (suc t))) it))

      by_from : RootFrom (states t) (handle_of mover.call) (action_of (states t) mover) handle now → Rises u (suc t) handle a now
      by_from (stood root e access word free) = by_kept (root, e, access, word)
      by_from (swapped root other d here e it) =
          inr (omega (
            arith,
            over_old here,
            kept true offer.successor refl,
            ap (gen (states (suc t))) it,
            ap (λ (x : Descriptor). generation_at (states (suc t)).heap x.successor) (one_carried (states t) (handle_of mover.call) (action_of (states t) mover) offer other c d),
          ))
      by_from (newly other n d its at_it it) =
          by_second offer.second refl (ap (λ (x : Descriptor). x.opens) (sym (one_carried (states t) (handle_of mover.call) (action_of (states t) mover) offer other c d)) ∙ its
          ∙ ap Some (sym at_it))
          (it ∙ ap (λ (x : Descriptor). opened_root x x.second) (one_carried (states t) (handle_of mover.call) (action_of (states t) mover) offer other c d))

    rise_next : StepKind (states t) (run.records t) s (states (suc t)) (run.records (suc t)) → Rises u (suc t) handle a now
    rise_next (quiet closings roots) = by_kept (roots handle now at_now)
    rise_next (swaps actor mover offer go is c closings roots) = by_from actor mover offer is c (roots handle now at_now)

  same_root : (t handle : ℕ) (a b : Root) → root_at (states t) handle ≡ Some a → root_at (states t) handle ≡ Some b → root_of b.word ≡ root_of a.word
  same_root t handle a b at_a at_b = ap (λ (x : Root). root_of x.word) (same_Some b a (sym at_b ∙ at_a))

  rise_at : (t : ℕ) → t ≤ last → AllRise t
  rise_at zero within u handle a b le at_u at_t w = let now : u ≡ zero = omega arith in inl (same_root zero handle a b (ap (λ v. root_at (states v) handle) (sym now) ∙ at_u) at_t)
  rise_at (suc t) within u handle a b le at_u at_t w = elim (cases_eq u (suc t)) [
    | inl now ↦ inl (same_root (suc t) handle a b (ap (λ v. root_at (states v) handle) (sym now) ∙ at_u) at_t)
    | inr earlier ↦ by_turn (omega arith) (rise_at t (omega arith)) (run.turn t within) (run.recorded t within)
  ]
    where
      by_turn : u ≤ t → AllRise t → (turn : Turn (states t) (states (suc t))) → run.records (suc t) ≡ noted_turn turn (run.records t) → Rises u (suc t) handle a b
      by_turn below so_far (turns s o m) notes = rise_next t within so_far s o m u handle a b below at_u at_t w
          (step_kind (states t) (ordered t (omega arith)).offers (run.records t) (run.records (suc t)) s o (states (suc t)) m notes)

  pub handles_rise : HandlesRiseIn states last
  handles_rise n k le within handle before after at_n at_k w = rise_at k within n handle before after le at_n at_k w
