-- Which handle numbers are taken, before and after a step of an operation.
use Rattle.std.proofs.Common.{◌≡◌, ℕ, zero, suc, ◌<◌, ◌==◌, ◌||◌, Bool, true, false, cond, is_some, inl, inr, List, [], ◌∷◌, get_or}
use Rattle.std.proofs.Common.{length, Option, Some, None, refl, sym, ap, subst, ◌∙◌, arith, eqb-true, eq-eqb}
use Rattle.std.specs.List.{list_any}
use Rattle.std.proofs.lemmas.Bool.{and_parts, cases_Bool, false≢true, or_left, or_right, true≢false}
use Rattle.std.proofs.lemmas.List.{get_or-set_same, length-set}
use Rattle.std.proofs.lemmas.List.Folds.{list_any_at}
use Rattle.std.proofs.lemmas.Option.{none-some, same_Some}
use Rattle.proof_operations.specs.Vocabulary.{Call, Action, Operation, Descriptor, Root, Plain, acted, carried_out, gone, if_changed, mark_after, opened, opened_root, operation_after, handle_of}
use Rattle.proof_operations.specs.Vocabulary.{settled, go_denial, is_number, is_taken, reserved_by, run, GoesOn, Moves, action_of, kind_of, State, operation_of, root_at, with_word, word_at}
use Rattle.proof_operations.specs.Vocabulary.{stands_in}
use Rattle.proof_operations.specs.Beneath.proof_memory.proofs.Holding.Sizes.{sizes_stay}
use Rattle.proof_operations.specs.Beneath.machine_model.specs.declared.actions.Action.TheVariants as act
use Rattle.proof_operations.specs.Beneath.machine_model.specs.declared.steps.Outcome.TheVariants as outcome
use Rattle.proof_operations.specs.Beneath.machine_model.specs.declared.steps.Step.TheVariants as step
use Rattle.proof_operations.specs.Beneath.machine_model.specs.Moves.{Goes}
use Rattle.proof_operations.specs.Beneath.machine_model.proofs.Actors.{mark_one, mark_only, marks_in}
use Rattle.proof_operations.specs.Beneath.machine_model.proofs.Found.{found_within}
use Rattle.proof_generations.specs.Running.{Runs}
use Rattle.proof_generations.proofs.Handles.Footings.{ActionCarriesOut}
use Rattle.proof_generations.proofs.Handles.Operations.{HasHandles, ran_or_began, stays, stays_none}
use Rattle.proof_generations.proofs.Handles.Running.{Follows, rests, steps, ends, at_place, comes, follows, one_at, gives_up}
use Rattle.proof_generations.proofs.Offers.Marks.{Marks, carried_stands, marked_in, mark_cases}
use Rattle.proof_generations.proofs.Offers.Same.{HasOffers}
use Rattle.proof_generations.proofs.Offers.Standing.{own_numbers}
use Rattle.proof_generations.proofs.Roots.OfLists.{has_handles_along}
use Rattle.proof_operations.specs.Laws.{NumbersStay}
use Rattle.proof_operations.specs.Beneath.ctrie_base.proofs.SameTests.{same_tests}

-- ---- what is reserved

-- the operation has reserved this number
abbrev pub reserves : ℕ → Option Operation → Bool
reserves handle found = is_number handle (reserved_by found)

-- an operation that has reserved it
pub record Reserves (handle : ℕ) (found : Option Operation) : Type 0 where
  pub operation : Operation
  pub is : found ≡ Some operation
  pub unmarked : operation.is_marked ≡ false
  pub opens : operation.opens ≡ Some handle

number_is : (handle : ℕ) (o : Option ℕ) → is_number handle o ≡ true → o ≡ Some handle
number_is handle None e = absurd (false≢true e)
number_is handle (Some n) e = ap Some (eqb-true n handle e)

pub reserves_so : (handle : ℕ) (found : Option Operation) → reserves handle found ≡ true → Reserves handle found
reserves_so handle None e = absurd (false≢true e)
reserves_so handle (Some operation) e = by operation.is_marked refl e
  where
    by : (b : Bool) → operation.is_marked ≡ b → is_number handle (cond b None operation.opens) ≡ true → Reserves handle (Some operation)
    by true is e = absurd (false≢true e)
    by false is e = record { operation = operation; is = refl; unmarked = is; opens = number_is handle operation.opens e }

pub reserves_by : (handle : ℕ) (operation : Operation) → operation.is_marked ≡ false → operation.opens ≡ Some handle → reserves handle (Some operation) ≡ true
reserves_by handle operation unmarked opens =
    ap (λ b. is_number handle (cond b None operation.opens)) unmarked ∙ ap (is_number handle) opens ∙ eq-eqb handle handle refl

-- somebody has reserved it
pub record IsReserved (handle : ℕ) (actors : List (Option Operation)) : Type 0 where
  pub k : ℕ
  pub operation : Operation
  pub at : get_or actors k None ≡ Some operation
  pub unmarked : operation.is_marked ≡ false
  pub opens : operation.opens ≡ Some handle

pub reserved_somewhere : (handle : ℕ) (actors : List (Option Operation)) → list_any (reserves handle) actors ≡ true → IsReserved handle actors
reserved_somewhere handle [] e = absurd (false≢true e)
reserved_somewhere handle (found ∷ actors) e = by (reserves handle found) refl e (reserved_somewhere handle actors)
  where
    by : (b : Bool) → reserves handle found ≡ b → (b || list_any (reserves handle) actors) ≡ true → (list_any (reserves handle) actors ≡ true → IsReserved handle actors) →
        IsReserved handle (found ∷ actors)
    by true is e behind = let r = reserves_so handle found is in record { k = zero; operation = r.operation; at = r.is; unmarked = r.unmarked; opens = r.opens }
    by false is e behind = let r = behind e in record { k = suc r.k; operation = r.operation; at = r.at; unmarked = r.unmarked; opens = r.opens }

pub reserved_at : (handle : ℕ) (actors : List (Option Operation)) (k : ℕ) (operation : Operation) → get_or actors k None ≡ Some operation → operation.is_marked ≡ false →
    operation.opens ≡ Some handle → list_any (reserves handle) actors ≡ true
reserved_at handle actors k operation at unmarked opens =
    list_any_at (reserves handle) actors k None (found_within actors k operation at) (ap (reserves handle) at ∙ reserves_by handle operation unmarked opens)

-- ---- what is taken

pub open_taken : (state : State) (handle : ℕ) (root : Root) → root_at state handle ≡ Some root → is_taken state handle ≡ true
open_taken state handle root e = or_left (is_some (root_at state handle)) _ (ap is_some e)

pub reserved_taken : (state : State) (handle : ℕ) → list_any (reserves handle) state.actors ≡ true → is_taken state handle ≡ true
reserved_taken state handle e = or_right (is_some (root_at state handle)) _ e

-- ---- an offer that is carried out opens its handle

roots_length : (state : State) (at : ℕ) (offer : Descriptor) → length (with_word state at (Plain offer.successor)).roots ≡ length state.roots
roots_length state at offer = length-set state.roots at _

carried_opens : (state : State) (at handle : ℕ) (action : Action) (offer : Descriptor) → ActionCarriesOut state at action offer → offer.opens ≡ Some handle → handle < length state.roots →
    root_at (acted state at action) handle ≡ Some (opened_root offer offer.second)
carried_opens state at handle action offer c opens within =
    let both = and_parts (stands_in (word_at state at) offer) (c.main == offer.expected) c.carried in
    ap (λ a. root_at (acted state at a) handle) c.is_it
    ∙ ap (λ b. root_at (if_changed b (cond (c.main == offer.expected) (carried_out state at offer) (with_word state at (Plain offer.root))) state) handle) both.0
    ∙ ap (λ b. root_at (cond b (carried_out state at offer) (with_word state at (Plain offer.root))) handle) both.1
    ∙ ap (λ n. root_at (opened (with_word state at (Plain offer.successor)) offer n) handle) opens
    ∙ get_or-set_same (with_word state at (Plain offer.successor)).roots handle (Some (opened_root offer offer.second)) None (omega (arith, within, roots_length state at offer))

-- ---- a step

stays_unmarked : (mark : Bool) (action : Action) → mark ≡ false → mark_after mark action ≡ false
stays_unmarked mark (act.Offer offer) e = refl
stays_unmarked mark action e = e

module _ (state : State) (I : HasOffers state) (H : HasHandles state) (actor : ℕ) (operation : Operation) (d : go_denial state actor ≡ None) (is : operation_of state actor ≡ Some operation)
    (g : GoesOn (action_of state operation)) (handle : ℕ) (within : handle < length state.roots) where
  abbrev after : State
  after = settled state (gone state actor operation)

  abbrev move : Moves state (step.Go actor) (outcome.Went (kind_of (action_of state operation))) after
  move = Goes d is refl g

  same_actor : (other : ℕ) → step.Go actor ≡ step.Go other → actor ≡ other
  same_actor other e = cc e

  no_begin : (other : ℕ) (call : Call) (number : Option ℕ) → step.Go actor ≡ step.Begin other call number → ⊥
  no_begin other call number e = cc e

  -- ---- what was taken still is

  opened_now : (k : ℕ) (was : Operation) → Runs state k was → was.opens ≡ Some handle → Marks state (step.Go actor) k was → is_taken after handle ≡ true
  opened_now k was at_k opens h =
      let mover_is : h.mover ≡ operation = same_Some h.mover operation (sym h.moves ∙ ap (operation_of state) (sym (same_actor h.actor h.is_step)) ∙ is) in
      let its : h.offer.opens ≡ Some handle = (own_numbers was h.offer (I.own k was at_k) h.completes).number ∙ opens in
      let carries = subst (λ (x : Operation). ActionCarriesOut state (handle_of x.call) (action_of state x) h.offer) mover_is h.carries in
      open_taken after handle (opened_root h.offer h.offer.second)
      (carried_opens _ (handle_of operation.call) handle (action_of state operation) h.offer (record { main = carries.main; is_it = carries.is_it; carried = carries.carried }) its within)

  reserved_on : (k : ℕ) (was next : Operation) → Runs state k was → was.opens ≡ Some handle → next.id ≡ was.id → next.opens ≡ was.opens → next.is_marked ≡ false →
      Runs after k (mark_one (marks_in state (step.Go actor)) next) → is_taken after handle ≡ true
  reserved_on k was next at_k opens id same unmarked now = by (mark_one (marks_in state (step.Go actor)) next).is_marked refl
    where
      by : (b : Bool) → (mark_one (marks_in state (step.Go actor)) next).is_marked ≡ b → is_taken after handle ≡ true
      by true e = opened_now k was at_k opens (marked_in state I (step.Go actor) k was at_k (mark_cases (marks_in state (step.Go actor)) next e unmarked ∙ ap Some id))
      by false e =
          reserved_taken after handle (reserved_at handle after.actors k (mark_one (marks_in state (step.Go actor)) next) now e
          (ap (λ (x : Operation). x.opens) (mark_only (marks_in state (step.Go actor)) next) ∙ same ∙ opens))

  reserved_still : (k : ℕ) (was : Operation) → Runs state k was → was.is_marked ≡ false → was.opens ≡ Some handle → Follows state (step.Go actor) after k was → is_taken after handle ≡ true
  reserved_still k was at_k unmarked opens (rests apart now) = reserved_on k was was at_k opens refl refl unmarked now
  reserved_still k was at_k unmarked opens (steps own goes now) =
      reserved_on k was (operation_after state was) at_k opens refl refl (stays_unmarked was.is_marked (action_of state was) unmarked) now
  reserved_still k was at_k unmarked opens (ends answer own ends_so) =
      let one = one_at state k operation was (at_place state actor k operation (same_actor (suc k) own) is) at_k in
      absurd (subst (λ a. GoesOn a) (ap (action_of state) one ∙ ends_so) g)
  reserved_still k was at_k unmarked opens (gives_up answer own may now) = let wrong : ⊥ = cc own in absurd wrong

  still_taken : is_taken state handle ≡ true → is_taken after handle ≡ true
  still_taken e = by (root_at state handle) refl
    where
      by : (o : Option Root) → root_at state handle ≡ o → is_taken after handle ≡ true
      by (Some root) r =
          let (now, found, access) = stays state I H (step.Go actor) _ after move handle root r (λ other call number go d' closes here. no_begin other call number go) in
          open_taken after handle now found
      by None r =
          let x = reserved_somewhere handle state.actors (ap (λ o. is_some o || list_any (reserves handle) state.actors) (sym r) ∙ e) in
          reserved_still x.k x.operation x.at x.unmarked x.opens (follows state (step.Go actor) _ after move x.k x.operation x.at)

  -- ---- what is taken was so

  was_reserved : (k : ℕ) (found : Operation) → Runs after k found → found.is_marked ≡ false → found.opens ≡ Some handle → is_taken state handle ≡ true
  was_reserved k found at_k unmarked opens = elim (ran_or_began state I H (step.Go actor) k found (comes state (step.Go actor) _ after move k found at_k)) [
    | inl r ↦ reserved_taken state handle (reserved_at handle state.actors k r.was r.at_k (r.unmarked unmarked) (sym r.opens ∙ opens))
    | inr began ↦ absurd (no_begin (suc k) began.0 began.1 began.2)
  ]

  was_free : is_taken state handle ≡ false → root_at after handle ≡ None
  was_free f =
      stays_none state I H (step.Go actor) _ after move handle (unopened (root_at state handle) refl)
      (λ other o offer go running c opens.
      let b = I.offers (handle_of o.call) offer (carried_stands state I other o offer running c) in
      let mine = own_numbers b.owner offer (I.own b.k b.owner b.runs) b.completes in
      true≢false (sym (reserved_taken state handle (reserved_at handle state.actors b.k b.owner b.runs b.unmarked (sym mine.number ∙ opens))) ∙ f))
    where
      unopened : (o : Option Root) → root_at state handle ≡ o → root_at state handle ≡ None
      unopened None r = r
      unopened (Some root) r = absurd (true≢false (sym (open_taken state handle root r) ∙ f))

  was_taken : is_taken after handle ≡ true → is_taken state handle ≡ true
  was_taken e = by (root_at after handle) refl
    where
      by : (o : Option Root) → root_at after handle ≡ o → is_taken state handle ≡ true
      by None r =
          let x = reserved_somewhere handle after.actors (ap (λ o. is_some o || list_any (reserves handle) after.actors) (sym r) ∙ e) in
          was_reserved x.k x.operation x.at x.unmarked x.opens
      by (Some now) r = elim (cases_Bool (is_taken state handle)) [
        | inl taken ↦ taken
        | inr f ↦ absurd (none-some now (sym (was_free f) ∙ r))
      ]

  same_taken : is_taken after handle ≡ is_taken state handle
  same_taken = same_tests (is_taken after handle) (is_taken state handle) was_taken still_taken

pub numbers_stay : NumbersStay
numbers_stay limits before actor operation ok d is g handle within =
    let (I, H) = has_handles_along limits before in
    same_taken (run limits before) I H actor operation d is g handle (omega (arith, within, (sizes_stay limits before).0))
