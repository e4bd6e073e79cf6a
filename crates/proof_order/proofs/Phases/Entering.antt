-- Whose places a step adds to the order.
use Rattle.std.proofs.Common.{◌≡◌, ℕ, Bool, true, false, cond, ◌⊎◌, inl, inr, List, [], ◌∷◌, ◌++◌, Option, Some, refl, subst}
use Rattle.proof_order.specs.Vocabulary.{Close, Reply, Place, on_time, Ref, Line, Operation, Swap, Descriptor, Step, State, operation_of, action_of, place_of, is_placed, entered_at_end, Record}
use Rattle.proof_order.specs.Vocabulary.{changer_of, moment_at, entrant_of, Entrant}
use Rattle.proof_order.specs.Beneath.history.specs.declared.replies.Reply.TheVariants as reply
use Rattle.proof_order.specs.Beneath.machine_model.specs.declared.actions.Action.TheVariants as act
use Rattle.proof_order.specs.Beneath.machine_model.specs.declared.lines.Line.TheVariants as line
use Rattle.proof_order.specs.Beneath.machine_model.specs.declared.lines.Purpose.TheVariants as purpose
use Rattle.proof_order.specs.Beneath.machine_model.specs.declared.steps.Step.TheVariants as step
use Rattle.proof_order.specs.Facts.{Runs, committed_by_step, entered_by_step, CarriesOut}
use Rattle.proof_order.specs.Beneath.history.proofs.Among.{Among, among_either}
use Rattle.proof_order.proofs.Views.EachStep.{Changes, quiet, ends, closes, swaps}

-- ---- own changes

-- the operation swaps this main node in, for a change of its key
pub record SwapsIn (l : Line) (main : Ref) : Type 0 where
  pub path : List Ref
  pub former : Option ℕ
  pub its : Swap
  pub at : l ≡ line.Swap (purpose.Update path former) its
  pub fresh : its.fresh ≡ main

-- the step commits this operation's own change
pub record Owns (state : State) (past : Record) (s : Step) (p : Place) : Type 0 where
  pub main : Ref
  pub commits : committed_by_step state s ≡ Some main
  pub k : ℕ
  pub owner : Operation
  pub runs : Runs state k owner
  pub swaps : SwapsIn owner.line main
  pub changer : changer_of past main ≡ Some (entrant_of owner)
  pub is_it : p ≡ place_of past (entrant_of owner) state.steps false

-- ---- each step

-- how a place comes into the order
pub data Enters (state : State) (past : Record) (s : Step) (p : Place) : Type 0 where
  commits : Owns state past s p → Enters state past s p
  at_end : (actor : ℕ) (operation : Operation) (answer : Reply) → s ≡ step.Go actor → operation_of state actor ≡ Some operation → action_of state operation ≡ act.End answer →
      is_placed past operation.id ≡ false → (answer ≡ reply.NoSlots → ⊥) → p ≡ place_of past (entrant_of operation) (moment_at past actor).moment true → Enters state past s p
  at_close : (actor handle : ℕ) (number : Option ℕ) → s ≡ step.Begin actor (Close handle) number → p ≡ on_time state.steps false state.begun → Enters state past s p
  carried : (handle : ℕ) (offer : Descriptor) → CarriesOut state s handle offer → p ≡ on_time state.steps false offer.operation → Enters state past s p

only : (p q : Place) → Among p (q ∷ []) → p ≡ q
only p q (inl e) = e
only p q (inr none) = absurd none

ended_place : (past : Record) (e : Entrant) (moment : ℕ) (answer : Reply) (p : Place) → Among p (entered_at_end past e moment answer) →
    (is_placed past e.id ≡ false) × (answer ≡ reply.NoSlots → ⊥) × (p ≡ place_of past e moment true)
ended_place past e moment reply.NoSlots p a = absurd a
ended_place past e moment answer p a = by (is_placed past e.id) refl a
  where
    by : (b : Bool) → is_placed past e.id ≡ b → Among p (cond b [] (place_of past e moment true ∷ [])) →
        (is_placed past e.id ≡ false) × (answer ≡ reply.NoSlots → ⊥) × (p ≡ place_of past e moment true)
    by true is none = absurd none
    by false is a = (is, (λ e. let wrong : ⊥ = cc e in wrong), only p _ a)

either : (xs ys : List Place) (after : List Place) (p : Place) → after ≡ xs ++ ys → Among p after → Among p xs ⊎ Among p ys
either xs ys after p e a = among_either xs ys p (subst (Among p) e a)

-- a place behind a step stood before it, or comes into the order with it
pub entering : (state : State) (past : Record) (s : Step) (after : State) (now : Record) → Changes state past s after now →
    ((p : Place) → Among p (entered_by_step past state s) → Owns state past s p) → (p : Place) → Among p now.places → Among p past.places ⊎ Enters state past s p
entering state past s after now (quiet places closings roots) owns p a = elim (either past.places (entered_by_step past state s) now.places p places a) [
  | inl old ↦ inl old
  | inr new ↦ inr (commits (owns p new))
]
entering state past s after now (ends actor operation answer go is does none places closings roots) owns p a =
    elim (either past.places (entered_at_end past (entrant_of operation) (moment_at past actor).moment answer) now.places p places a) [
      | inl old ↦ inl old
      | inr new ↦
          let (unplaced, other, its) = ended_place past (entrant_of operation) (moment_at past actor).moment answer p new in
          inr (at_end actor operation answer go is does unplaced other its)
    ]
entering state past s after now (closes actor handle number root go is none places closings gone others) owns p a = elim (either past.places _ now.places p places a) [
  | inl old ↦ inl old
  | inr new ↦ inr (at_close actor handle number go (only p _ new))
]
entering state past s after now (swaps handle offer carries none places closings roots heap) owns p a = elim (either past.places _ now.places p places a) [
  | inl old ↦ inl old
  | inr new ↦ inr (carried handle offer carries (only p _ new))
]
