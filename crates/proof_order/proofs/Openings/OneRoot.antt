-- Of each generation there is one root: whatever handle has a root of it, at whatever time, it is the same one.
use Rattle.std.proofs.Common.{◌≡◌, ℕ, zero, suc, ◌<◌, ◌≤◌, Bool, true, false, ◌⊎◌, inl, inr, Option, Some, None, get_or, set, replicate, refl, sym, ap, ◌∙◌, subst, arith}
use Rattle.std.proofs.lemmas.Bool.{cases_eq}
use Rattle.std.proofs.lemmas.Option.{same_Some}
use Rattle.proof_order.specs.Vocabulary.{Writable, ref_to, Ref, generation_at, Operation, Descriptor, Root, Plain, Offer, Bounds, Outcome, Step, handle_of, State, first_state, handle_limit, root_at}
use Rattle.proof_order.specs.Vocabulary.{root_of, word_at, operation_of, action_of, opened_root, Moves, IsRun, Record}
use Rattle.proof_order.specs.Beneath.machine_model.proofs.Found.{found_here, found_elsewhere, none_found}
use Rattle.proof_order.specs.Beneath.proof_memory.proofs.Safety.AtEachTime.{safe_at}
use Rattle.proof_order.specs.Beneath.proof_memory.proofs.Safety.States.{IsSafe}
use Rattle.proof_generations.proofs.Offers.Standing.{StandsBy}
use Rattle.proof_generations.proofs.Handles.Footings.{ActionCarriesOut, RootFrom, stood, swapped, newly, one_carried}
use Rattle.proof_generations.proofs.Offers.Marks.{carried_stands}
use Rattle.proof_generations.proofs.Roots.Own.{gen, its_fresh, to_offer, brought_kept}
use Rattle.proof_generations.proofs.Roots.Kept.{fresh_of, root_kept}
use Rattle.proof_generations.proofs.Roots.Along.{IsOrdered, ordered_at}
use Rattle.proof_generations.proofs.Offers.Swaps.{StepKind, quiet, swaps, step_kind, Kept}
use Rattle.proof_order.specs.Openings.{IsRootOf}
use Rattle.proof_order.proofs.Openings.AlongMoves.{along_moves}
use Rattle.proof_order.proofs.Openings.Carried.{IsOffered, offered_root}
use Rattle.proof_order.proofs.Openings.NeverStood.{new_at}

-- ---- what a swap brings

module _ (state : State) (past : Record) (S : IsSafe state) (I : IsOrdered state past) (s : Step) (o : Outcome) (after : State) (m : Moves state s o after) (actor : ℕ) (mover : Operation)
    (offer : Descriptor) (is : operation_of state actor ≡ Some mover) (c : ActionCarriesOut state (handle_of mover.call) (action_of state mover) offer) where
  word_is : word_at state (handle_of mover.call) ≡ Offer offer
  word_is = carried_stands state I.offers actor mover offer is c

  pub stands : StandsBy state (handle_of mover.call) offer
  stands = I.offers.offers (handle_of mover.call) offer word_is

  pub old : IsOffered state (handle_of mover.call) offer
  old = offered_root state past S I (handle_of mover.call) offer word_is

  -- a root behind the swap stood before, or is brought
  pub data Behind (r : Ref) (g : ℕ) : Type 0 where
    from_before : (handle : ℕ) (root : Root) → root_at state handle ≡ Some root → root_of root.word ≡ r → gen state root ≡ g → Behind r g
    brought : (x : Bool) → fresh_of x offer ≡ Some r → generation_at state.heap r ≡ g → Behind r g

  behind_opened : (second : Option Ref) → offer.second ≡ second → (r : Ref) (g : ℕ) → root_of (opened_root offer second).word ≡ r → generation_at after.heap r ≡ g → Behind r g
  behind_opened None e r g is its =
      let word = ap root_of old.word in
      from_before (handle_of mover.call) old.root old.is_open (word ∙ is)
      (sym (root_kept state S s o after m (handle_of mover.call) old.root old.is_open) ∙ ap (generation_at after.heap) (word ∙ is) ∙ its)
  behind_opened (Some q) e r g is its = brought false (e ∙ ap Some is) (sym (brought_kept state S s o after m (handle_of mover.call) offer stands false r (e ∙ ap Some is)) ∙ its)

  pub behind_swap : (handle : ℕ) (now : Root) → RootFrom state (handle_of mover.call) (action_of state mover) handle now → Behind (root_of now.word) (gen after now)
  behind_swap handle now (stood root e access word free) =
      from_before handle root e (sym word) (sym (root_kept state S s o after m handle root e) ∙ ap (generation_at after.heap) (sym word))
  behind_swap handle now (swapped root other d at_it e it) =
      let same = one_carried state (handle_of mover.call) (action_of state mover) offer other c d in
      let is : Some offer.successor ≡ Some (root_of now.word) = ap (λ (x : Descriptor). Some x.successor) (sym same) ∙ ap (λ (x : Root). Some (root_of x.word)) (sym it) in
      brought true is (sym (brought_kept state S s o after m (handle_of mover.call) offer stands true (root_of now.word) is))
  behind_swap handle now (newly other n d its at_it it) =
      let same = one_carried state (handle_of mover.call) (action_of state mover) offer other c d in
      behind_opened offer.second refl (root_of now.word) (gen after now)
      (ap (λ (x : Descriptor). root_of (opened_root x x.second).word) (sym same) ∙ ap (λ (x : Root). root_of x.word) (sym it)) refl

-- ---- at first

started : (limits : Bounds) (handle : ℕ) (root : Root) → root_at (first_state limits) handle ≡ Some root → root.word ≡ Plain (ref_to 2 1)
unfolding first_state
started limits handle root e = elim (cases_eq handle 0) [
  | inl same ↦
      ap (λ (r : Root). r.word)
      (sym (same_Some _ _ (found_here {X = Root} (replicate handle_limit None) 0 first root (subst (λ h. get_or (set (replicate handle_limit None) 0 first) h None ≡ Some root) same e))))
  | inr other ↦ absurd (none_found {X = Root} handle_limit handle root (sym (found_elsewhere {X = Root} (replicate handle_limit None) 0 handle first other) ∙ e))
]
  where
    first : Option Root
    first = Some (record { access = Writable; word = Plain (ref_to 2 1) })

-- ---- along a run

module _ {limits : Bounds} {states : ℕ → State} {last : ℕ} (run : IsRun limits states last) where
  -- a handle had this root of this generation by this time
  abbrev pub HasRoot : ℕ → Ref → ℕ → Type 0
  HasRoot t r g = (u handle : ℕ) × (u ≤ t) × IsRootOf states u handle r g

  abbrev AreOne : ℕ → Type 0
  AreOne t = (r q : Ref) (g : ℕ) → HasRoot t r g → HasRoot t q g → r ≡ q

  safe : (t : ℕ) → t ≤ last → IsSafe (states t)
  safe t within = safe_at run t within

  ordered : (t : ℕ) → t ≤ last → IsOrdered (states t) (run.records t)
  ordered t within = ordered_at run t within

  here : (t handle : ℕ) (root : Root) (r : Ref) (g : ℕ) → root_at (states t) handle ≡ Some root → root_of root.word ≡ r → gen (states t) root ≡ g → HasRoot t r g
  here t handle root r g e is its = (t, handle, omega arith, record { root = root; is_open = e; is = is; its = ap (generation_at (states t).heap) (sym is) ∙ its })

  -- by what the step does
  module _ (t : ℕ) (within : t < last) (one : AreOne t) (s : Step) (o : Outcome) (m : Moves (states t) s o (states (suc t))) where
    -- what had its root by the step after, had it before, or has it just then
    split : (r : Ref) (g : ℕ) → HasRoot (suc t) r g → HasRoot t r g ⊎ ((handle : ℕ) × IsRootOf states (suc t) handle r g)
    split r g (u, handle, le, is) = elim (cases_eq u (suc t)) [
      | inl now ↦ inr (handle, subst (λ v. IsRootOf states v handle r g) now is)
      | inr before ↦ inl (u, handle, omega arith, is)
    ]

    -- nothing new
    quiet_one : ((handle : ℕ) (now : Root) → root_at (states (suc t)) handle ≡ Some now → Kept (states t) handle now) → AreOne (suc t)
    quiet_one roots r q g a b = one r q g (before r g a) (before q g b)
      where
        before : (r : Ref) (g : ℕ) → HasRoot (suc t) r g → HasRoot t r g
        before r g h = elim (split r g h) [
          | inl was ↦ was
          | inr (handle, now) ↦
              let (root, e, access, word) = roots handle now.root now.is_open in
              here t handle root r g e (sym word ∙ now.is)
              (sym (root_kept (states t) (safe t (omega arith)) s o (states (suc t)) m handle root e) ∙ ap (generation_at (states (suc t)).heap) (sym word ∙ now.is) ∙ now.its)
        ]

    module _ (actor : ℕ) (mover : Operation) (offer : Descriptor) (is : operation_of (states t) actor ≡ Some mover)
        (c : ActionCarriesOut (states t) (handle_of mover.call) (action_of (states t) mover) offer)
        (roots : (handle : ℕ) (now : Root) → root_at (states (suc t)) handle ≡ Some now → RootFrom (states t) (handle_of mover.call) (action_of (states t) mover) handle now) where
      abbrev B : Ref → ℕ → Type 0
      B r g = HasRoot t r g ⊎ ((x : Bool) × (fresh_of x offer ≡ Some r) × (generation_at (states t).heap r ≡ g))

      as_behind : (r : Ref) (g : ℕ) → Behind (states t) (run.records t) (safe t (omega arith)) (ordered t (omega arith)) s o (states (suc t)) m actor mover offer is c r g → B r g
      as_behind r g (from_before handle root e word its) = inl (here t handle root r g e word its)
      as_behind r g (brought x e its) = inr (x, e, its)

      behind : (r : Ref) (g : ℕ) → HasRoot (suc t) r g → B r g
      behind r g h = elim (split r g h) [
        | inl was ↦ inl was
        | inr (handle, now) ↦
            as_behind r g (subst (λ x. Behind (states t) (run.records t) (safe t (omega arith)) (ordered t (omega arith)) s o (states (suc t)) m actor mover offer is c r x)
            (ap (generation_at (states (suc t)).heap) now.is ∙ now.its)
            (subst (λ x. Behind (states t) (run.records t) (safe t (omega arith)) (ordered t (omega arith)) s o (states (suc t)) m actor mover offer is c x (gen (states (suc t)) now.root)) now.is
            (behind_swap (states t) (run.records t) (safe t (omega arith)) (ordered t (omega arith)) s o (states (suc t)) m actor mover offer is c handle now.root
            (roots handle now.root now.is_open))))
      ]

      by : StandsBy (states t) (handle_of mover.call) offer
      by = stands (states t) (run.records t) (safe t (omega arith)) (ordered t (omega arith)) s o (states (suc t)) m actor mover offer is c

      -- what is brought never stood
      never : (x : Bool) (r q : Ref) (g : ℕ) → fresh_of x offer ≡ Some r → generation_at (states t).heap r ≡ g → HasRoot t q g → ⊥
      never x r q g e its (u, handle, le, was) =
          (new_at run t (omega arith) by.k by.owner x r by.runs by.unmarked (its_fresh by.owner.line offer x r by.completes e)).never u handle was.root le was.is_open
          (ap (generation_at (states u).heap) was.is ∙ was.its ∙ sym its)

      both_brought : (x y : Bool) (r q : Ref) → fresh_of x offer ≡ Some r → fresh_of y offer ≡ Some q → generation_at (states t).heap r ≡ generation_at (states t).heap q → r ≡ q
      both_brought x y r q e f same =
          let side = ((ordered t (omega arith)).roots.fresh_apart by.k by.k x y r q (to_offer by x r e) (to_offer by y q f) same).1 in
          same_Some _ _ (sym e ∙ ap (λ z. fresh_of z offer) side ∙ f)

      one_by : (r q : Ref) (g : ℕ) → B r g → B q g → r ≡ q
      one_by r q g (inl a) (inl b) = one r q g a b
      one_by r q g (inl a) (inr (y, f, its)) = absurd (never y q r g f its a)
      one_by r q g (inr (x, e, its)) (inl b) = absurd (never x r q g e its b)
      one_by r q g (inr (x, e, its)) (inr (y, f, its')) = both_brought x y r q e f (its ∙ sym its')

      swapped_one : AreOne (suc t)
      swapped_one r q g a b = one_by r q g (behind r g a) (behind q g b)

    one_next : StepKind (states t) (run.records t) s (states (suc t)) (run.records (suc t)) → AreOne (suc t)
    one_next (quiet closings roots) = quiet_one roots
    one_next (swaps actor mover offer go is c closings roots) = swapped_one actor mover offer is c roots

  one_at_first : AreOne zero
  one_at_first r q g (u, handle, le, a) (v, other, le', b) =
      let at_u : u ≡ zero = omega arith in
      let at_v : v ≡ zero = omega arith in
      let first = subst (λ w. IsRootOf states w handle r g) at_u a in
      let second = subst (λ w. IsRootOf states w other q g) at_v b in
      first_root handle first ∙ sym (first_root other second)
    where
      first_root : {r : Ref} {g : ℕ} (handle : ℕ) → IsRootOf states zero handle r g → r ≡ ref_to 2 1
      first_root handle a = sym a.is ∙ ap root_of (started limits handle a.root (subst (λ (q : State). root_at q handle ≡ Some a.root) run.first a.is_open))

  pub one_at : (t : ℕ) → t ≤ last → AreOne t
  one_at =
      along_moves run AreOne (λ none. one_at_first)
      (λ t within one s o m notes. one_next t within one s o m (step_kind (states t) (ordered t (omega arith)).offers (run.records t) (run.records (suc t)) s o (states (suc t)) m notes))
