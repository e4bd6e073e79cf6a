-- Which generations stand on which handles, along a run: what each step leaves, and what a swap makes of it.
use Rattle.std.proofs.Common.{◌≡◌, ℕ, suc, ◌<◌, List, set, get_or, length, Option, Some, None, refl, sym, ap, ◌∙◌, length-set, arith, subst}
use Rattle.std.proofs.lemmas.List.{get_or-set_same}
use Rattle.std.proofs.lemmas.Option.{none-some}
use Rattle.proof_order.specs.Vocabulary.{Access, Writable, Ref, Heap, generation_at, Root, RootWord, Plain, Descriptor, Bounds, Outcome, Step, State, root_at, root_of, rewritten, opened_root, Moves}
use Rattle.proof_order.specs.Vocabulary.{turns, noted_turn, IsRun, Turn, KeyMap, Record, noted, told_in}
use Rattle.proof_order.specs.Beneath.machine_model.proofs.Found.{found_within, found_elsewhere}
use Rattle.proof_order.specs.Facts.{standing_of, standing, Facts}
use Rattle.proof_order.proofs.Views.Changes.{footing_of, footing, roots_swapped}
use Rattle.proof_order.proofs.Offers.Standing.{offers_at}
use Rattle.proof_order.proofs.Offers.Honest.{honest}
use Rattle.proof_order.proofs.Views.EachStep.{HonestIn, Changes, changes}

-- ---- standing, by the root

of_footing : Heap → Option (Access × Ref) → Option (Access × ℕ)
of_footing heap None = None
of_footing heap (Some (access, root)) = Some (access, generation_at heap root)

standing_by : (heap : Heap) (o : Option Root) → standing_of heap o ≡ of_footing heap (footing_of o)
unfolding of_footing
standing_by heap None = refl
standing_by heap (Some root) = refl

-- where the root stays, and its generation, the standing stays
same_standing : (heap later : Heap) (before after : Option Root) → footing_of after ≡ footing_of before →
    ((root : Root) → before ≡ Some root → generation_at later (root_of root.word) ≡ generation_at heap (root_of root.word)) → standing_of later after ≡ standing_of heap before
unfolding of_footing
same_standing heap later None after e keeps = standing_by later after ∙ ap (of_footing later) e
same_standing heap later (Some root) after e keeps = standing_by later after ∙ ap (of_footing later) e ∙ ap (λ g. Some (root.access, g)) (keeps root refl)

-- ---- after a swap

-- on its handle the new root stands
swapped_here : (roots : List (Option Root)) (handle : ℕ) (root : Root) (word : RootWord) → get_or roots handle None ≡ Some root →
    get_or (set roots handle (rewritten word (get_or roots handle None))) handle None ≡ Some (record root { word = word })
swapped_here roots handle root word is = get_or-set_same roots handle _ None (found_within roots handle root is) ∙ ap (rewritten word) is

module _ (state after : State) (handle : ℕ) (offer : Descriptor) (root : Root) (is : root_at state handle ≡ Some root) (writable : root.access ≡ Writable) where
  pub here_none : after.roots ≡ roots_swapped state handle offer None → after.heap ≡ state.heap → standing after handle ≡ Some (Writable, generation_at state.heap offer.successor)
  here_none e h =
      ap (λ roots. standing_of after.heap (get_or roots handle None)) e ∙ ap (standing_of after.heap) (swapped_here state.roots handle root (Plain offer.successor) is)
      ∙ ap (λ a. Some (a, generation_at after.heap offer.successor)) writable ∙ ap (λ q. Some (Writable, generation_at q offer.successor)) h

  apart_from : (n : ℕ) → root_at state n ≡ None → handle ≡ n → ⊥
  apart_from n free same = none-some root (sym free ∙ ap (root_at state) (sym same) ∙ is)

  pub here_some : (n : ℕ) → root_at state n ≡ None → after.roots ≡ roots_swapped state handle offer (Some n) → after.heap ≡ state.heap →
      standing after handle ≡ Some (Writable, generation_at state.heap offer.successor)
  here_some n free e h =
      ap (λ roots. standing_of after.heap (get_or roots handle None)) e
      ∙ ap (standing_of after.heap) (found_elsewhere _ n handle _ (apart_from n free) ∙ swapped_here state.roots handle root (Plain offer.successor) is)
      ∙ ap (λ a. Some (a, generation_at after.heap offer.successor)) writable ∙ ap (λ q. Some (Writable, generation_at q offer.successor)) h

  pub there_some : (n : ℕ) → n < length state.roots → after.roots ≡ roots_swapped state handle offer (Some n) → after.heap ≡ state.heap →
      standing after n ≡ standing_of state.heap (Some (opened_root offer offer.second))
  there_some n within e h =
      ap (λ roots. standing_of after.heap (get_or roots n None)) e
      ∙ ap (standing_of after.heap) (get_or-set_same _ n (Some (opened_root offer offer.second)) None (rw length-set within))
      ∙ ap (λ q. standing_of q (Some (opened_root offer offer.second))) h

  pub else_none : (other : ℕ) → (other ≡ handle → ⊥) → after.roots ≡ roots_swapped state handle offer None → after.heap ≡ state.heap → standing after other ≡ standing state other
  else_none other apart e h =
      ap (λ roots. standing_of after.heap (get_or roots other None)) e ∙ ap (standing_of after.heap) (found_elsewhere state.roots handle other _ apart)
      ∙ ap (λ q. standing_of q (root_at state other)) h

  pub else_some : (n other : ℕ) → (other ≡ handle → ⊥) → (other ≡ n → ⊥) → after.roots ≡ roots_swapped state handle offer (Some n) → after.heap ≡ state.heap →
      standing after other ≡ standing state other
  else_some n other apart away e h =
      ap (λ roots. standing_of after.heap (get_or roots other None)) e
      ∙ ap (standing_of after.heap) (found_elsewhere _ n other _ away ∙ found_elsewhere state.roots handle other _ apart)
      ∙ ap (λ q. standing_of q (root_at state other)) h

-- ---- along a run

pub record AStep (before : State) (past : Record) (after : State) (now : Record) : Type 0 where
  pub its : Step
  pub outcome : Outcome
  pub move : Moves before its outcome after
  pub notes : now ≡ noted past before.steps (told_in before its)

step_of_turn : {before after : State} {past now : Record} (turn : Turn before after) → now ≡ noted_turn turn past → AStep before past after now
step_of_turn (turns s o m) e = record { its = s; outcome = o; move = m; notes = e }

module _ {limits : Bounds} {states : ℕ → State} {last : ℕ} (r : IsRun limits states last) (V : ℕ → ℕ → KeyMap) (facts : Facts limits states r.records last V) where
  pub step_at : (t : ℕ) → t < last → AStep (states t) (r.records t) (states (suc t)) (r.records (suc t))
  step_at t lt = step_of_turn (r.turn t lt) (r.recorded t lt)

  honest_at : (t : ℕ) → t < last → HonestIn (states t)
  honest_at t lt = honest (states t) (offers_at r t (omega arith))

  pub change_at : (t : ℕ) (lt : t < last) → Changes (states t) (r.records t) (step_at t lt).its (states (suc t)) (r.records (suc t))
  change_at t lt =
      let a = step_at t lt in
      subst (λ now. Changes (states t) (r.records t) a.its (states (suc t)) now) (sym a.notes) (changes (states t) (r.records t) a.its a.outcome (states (suc t)) a.move (honest_at t lt))

  -- where a step leaves a handle's root it leaves its standing
  pub keeps_standing : (t handle : ℕ) → t < last → footing (states (suc t)) handle ≡ footing (states t) handle → standing (states (suc t)) handle ≡ standing (states t) handle
  keeps_standing t handle lt e =
      same_standing (states t).heap (states (suc t)).heap (root_at (states t) handle) (root_at (states (suc t)) handle) e (λ root is. facts.keeps_generation t handle root lt is)

  -- a handle without a root has no standing
  pub no_standing : (state : State) (handle : ℕ) → footing state handle ≡ None → standing state handle ≡ None
  unfolding of_footing
  no_standing state handle e = standing_by state.heap (root_at state handle) ∙ ap (of_footing state.heap) e
