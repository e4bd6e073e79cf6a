-- The old root of an offer that was carried out: until its own operation has seen that, the handle has a claim on it.
use Rattle.std.proofs.Common.{cond, ◌≡◌, ◌⊎◌, inl, inr, ℕ, suc, ◌==◌, ◌&&◌, ◌||◌, Bool, true, false, List, []}
use Rattle.std.proofs.Common.{◌∷◌, ◌++◌, Contains, Option, Some, None, Ok, Err, arith, refl, sym, ap, subst, ◌∙◌, eqb-true}
use Rattle.std.proofs.lemmas.Bool.{cases_eq, true≢false}
use Rattle.std.proofs.lemmas.Option.{none-some, same_Some}
use Rattle.proof_claims.specs.Beneath.history.specs.declared.calls.Access.{Access}
use Rattle.proof_claims.specs.Beneath.history.specs.declared.calls.Access.TheVariants.{ReadOnly, Writable}
use Rattle.proof_claims.specs.Beneath.history.specs.declared.calls.Call.TheVariants.{Close}
use Rattle.proof_claims.specs.Beneath.slot_arena.specs.declared.refs.Ref.{Ref}
use Rattle.proof_claims.specs.Beneath.slot_arena.specs.Heaps.{generation_at, generation_of, refs_of_option}
use Rattle.proof_claims.specs.Beneath.machine_model.specs.declared.actions.Action.TheVariants as act
use Rattle.proof_claims.specs.Beneath.machine_model.specs.declared.copying.CopyLine.TheVariants as copy
use Rattle.proof_claims.specs.Beneath.machine_model.specs.declared.lines.Line.{Line}
use Rattle.proof_claims.specs.Beneath.machine_model.specs.declared.lines.Line.TheVariants as line
use Rattle.proof_claims.specs.Beneath.machine_model.specs.declared.operations.Operation.{Operation}
use Rattle.proof_claims.specs.Beneath.machine_model.specs.declared.roots.Complete.{Complete}
use Rattle.proof_claims.specs.Beneath.machine_model.specs.declared.roots.CompleteLine.{CompleteLine}
use Rattle.proof_claims.specs.Beneath.machine_model.specs.declared.roots.CompleteLine.TheVariants as complete
use Rattle.proof_claims.specs.Beneath.machine_model.specs.declared.roots.Descriptor.{Descriptor}
use Rattle.proof_claims.specs.Beneath.machine_model.specs.declared.roots.Root.{Root}
use Rattle.proof_claims.specs.Beneath.machine_model.specs.declared.roots.RootWord.TheVariants.{Offer}
use Rattle.proof_claims.specs.Beneath.machine_model.specs.declared.steps.Bounds.{Bounds}
use Rattle.proof_claims.specs.Beneath.machine_model.specs.declared.steps.Outcome.{Outcome}
use Rattle.proof_claims.specs.Beneath.machine_model.specs.declared.steps.Step.{Step}
use Rattle.proof_claims.specs.Beneath.machine_model.specs.declared.steps.Step.TheVariants as step
use Rattle.proof_claims.specs.Beneath.machine_model.specs.Acting.{operation_after}
use Rattle.proof_claims.specs.Beneath.machine_model.specs.Calls.{handle_of}
use Rattle.proof_claims.specs.Beneath.machine_model.specs.Copying.{copied_reply}
use Rattle.proof_claims.specs.Beneath.machine_model.specs.Grown.{node_under}
use Rattle.proof_claims.specs.Beneath.machine_model.specs.Lines.{new_try}
use Rattle.proof_claims.specs.Beneath.machine_model.specs.Machine.{Answer, AreBounds, is_taken_step, next, run, run_from, state_after}
use Rattle.proof_claims.specs.Beneath.machine_model.specs.Moves.{Moves, MovesIfTaken}
use Rattle.proof_claims.specs.Beneath.machine_model.specs.Operations.{action_of, line_action, line_after}
use Rattle.proof_claims.specs.Beneath.machine_model.specs.Records.{closed_at}
use Rattle.proof_claims.specs.Beneath.machine_model.specs.States.{Runs, State, first_state, operation_of, root_at, root_of, word_at, word_of}
use Rattle.proof_claims.specs.Beneath.machine_model.specs.Swapping.{complete_action_at, is_carried_out}
use Rattle.proof_claims.specs.Beneath.machine_model.specs.Times.{IsRun, last_of}
use Rattle.proof_claims.specs.Beneath.machine_model.proofs.Actors.{IsOf, mark_only, marks_in}
use Rattle.proof_claims.specs.Beneath.machine_model.proofs.Along.{by_last, run_push}
use Rattle.proof_claims.specs.Beneath.machine_model.proofs.Fates.{Comes as CameFrom, began, comes as comes_from, gave, place_of_actor, rested, went}
use Rattle.proof_claims.specs.Beneath.machine_model.proofs.Found.{none_found}
use Rattle.proof_claims.specs.Beneath.machine_model.proofs.Moves.{moves}
use Rattle.proof_claims.specs.Beneath.machine_model.proofs.Times.{run_ends, run_is}
use Rattle.proof_claims.specs.Beneath.proof_garbage.proofs.GivenUp.{other_id}
use Rattle.proof_claims.specs.Beneath.proof_generations.proofs.Offers.Marks.{is_completing, marked_in}
use Rattle.proof_claims.specs.Beneath.proof_generations.proofs.Offers.Standing.{completes_it, own_numbers, own_offer}
use Rattle.proof_claims.specs.Beneath.proof_generations.proofs.Roots.OfLists.{has_handles_along}
use Rattle.proof_claims.specs.Beneath.proof_generations.proofs.Roots.Own.{its_fresh, writable_call}
use Rattle.proof_claims.specs.Beneath.proof_memory.proofs.Safety.AtEachTime.{safe_along}
use Rattle.proof_claims.specs.Beneath.proof_order.proofs.History.Copies.{marked_or}
use Rattle.proof_claims.specs.Beneath.proof_order.proofs.Openings.Carried.{IsOffered, ordered, root as offered_root}
use Rattle.proof_claims.specs.Beneath.proof_order.proofs.Openings.SwapState.{closed_for_ever}
use Rattle.proof_claims.specs.Changes.{carried, change_of, completes, fate_let_go, lets_root_go, no_change, outcome_at}
use Rattle.proof_claims.specs.Claims.{Has, held_of}
use Rattle.proof_claims.specs.Held.{Change, Ends, Held, OfHandle, Stays, held_after, is_by_handle, is_in}
use Rattle.proof_claims.proofs.Along.{held_push, stays}
use Rattle.proof_claims.proofs.ChangeKinds.{Acting, Kind, changes_none, closes, commits, freezes_it, gives, kind, looks, makes_one, offers_it, sees, swaps_in}
use Rattle.proof_claims.proofs.HandleClaims.{checks_leaves}
use Rattle.proof_claims.proofs.Lists.{among, both_true}
use Rattle.proof_claims.proofs.Marked.{WasSwapped, marked_before, same_own, swapped_at}
use Rattle.proof_claims.proofs.OldRoot.{keeps, no_fresh, no_root}
use Rattle.proof_claims.proofs.Outcomes.{each_held}
use Rattle.proof_claims.proofs.OverStep.{carried_word}
use Rattle.proof_claims.proofs.RootClaims.{IsCarried, NoFreeze, by_completing, is_carried, no_freeze_so}
use Rattle.proof_claims.proofs.TakenBack.{its_line, made_by}

-- ---- offers that have replaced one root are one

module _ {limits : Bounds} {states : ℕ → State} {last : ℕ} (run : IsRun limits states last) (offer other : Descriptor) (a : WasSwapped run last offer) (b : WasSwapped run last other)
    (same : other.root ≡ offer.root) where
  generations : generation_at (states a.at).heap offer.root ≡ generation_at (states b.at).heap other.root
  generations = sym (keeps run offer a) ∙ ap (λ r. generation_of (node_under states last r)) (sym same) ∙ keeps run other b

  times : a.at ≡ b.at
  times =
      same_Some a.at b.at
      (sym (closed_for_ever run a.at a.handle offer a.swap last a.before (omega arith)) ∙ ap (closed_at (run.records last)) generations
      ∙ closed_for_ever run b.at b.handle other b.swap last b.before (omega arith))

  of_a : IsOffered (states a.at) a.handle offer
  of_a = offered_root run a.at a.handle offer a.swap

  of_b : IsOffered (states a.at) b.handle other
  of_b = subst (λ t. IsOffered (states t) b.handle other) (sym times) (offered_root run b.at b.handle other b.swap)

  handles : a.handle ≡ b.handle
  handles =
      (ordered run a.at a.handle offer a.swap).roots.apart a.handle b.handle of_a.root of_b.root of_a.is_open of_b.is_open of_a.writable of_b.writable
      (ap (generation_at (states a.at).heap) (ap root_of of_a.word ∙ sym same ∙ sym (ap root_of of_b.word)))

  pub one_swap : offer ≡ other
  one_swap =
      let roots : of_a.root ≡ of_b.root = same_Some of_a.root of_b.root (sym of_a.is_open ∙ ap (root_at (states a.at)) handles ∙ of_b.is_open) in
      let words : Offer offer ≡ Offer other = sym of_a.word ∙ ap (λ (x : Root). x.word) roots ∙ of_b.word in
      cc words

-- ---- what lets go of a handle's claim

-- the handle is closed, or an offer is carried out there, or its operation finds what came of it
pub data HandleGoes (state : State) (s : Step) (n : ℕ) (r : Ref) : Type 0 where
  closing : (actor : ℕ) (number : Option ℕ) → s ≡ step.Begin actor (Close n) number → r ≡ root_of (word_at state n) → HandleGoes state s n r
  now_out : (offer : Descriptor) (main : Ref) → (a : Acting state s (act.Complete offer main)) → is_carried_out (word_at state (handle_of a.operation.call)) offer main ≡ true →
      n ≡ handle_of a.operation.call → r ≡ offer.root → HandleGoes state s n r
  was_out : (offer : Descriptor) (main : Ref) (c : Complete) → (a : Acting state s (act.Complete offer main)) → a.operation.line ≡ line.Copy (copy.Complete c) → a.operation.is_marked ≡ true →
      r ≡ offer.root → HandleGoes state s n r
  taken_back : (offer : Descriptor) (main : Ref) (c : Complete) → (a : Acting state s (act.Complete offer main)) → a.operation.line ≡ line.Copy (copy.Complete c) → a.operation.is_marked ≡ false →
      Contains (offer.successor ∷ refs_of_option offer.second) r → HandleGoes state s n r

or_true : (a b : Bool) → true ≡ (a || b) → (a ≡ true) ⊎ (b ≡ true)
or_true true b e = inl refl
or_true false b e = inr (sym e)

or_false : (a b : Bool) → false ≡ (a || b) → b ≡ false
or_false true b e = absurd (true≢false (sym e))
or_false false b e = sym e

module _ (state : State) (held : Held) (s : Step) (n : ℕ) (r : Ref) where
  abbrev IsKept : Change → Type 0
  IsKept change = change.fate (record { by = OfHandle n; on = r }) ≡ Stays (OfHandle n)

  abbrev Either : Change → Type 0
  Either change = IsKept change ⊎ HandleGoes state s n r

  let_go : (handle : ℕ) (root : Ref) → (n ≡ handle → r ≡ root → HandleGoes state s n r) → Either (lets_root_go handle root)
  let_go handle root so = by (is_by_handle handle (OfHandle n) && (r == root)) refl
    where
      by : (b : Bool) → (is_by_handle handle (OfHandle n) && (r == root)) ≡ b → Either (lets_root_go handle root)
      by true e = let (a, same) = both_true (n == handle) (r == root) e in inr (so (eqb-true n handle a) (eqb-true r root same))
      by false e = inl (ap (λ b. fate_let_go b (record { by = OfHandle n; on = r })) e)

  by_freeze : (handle opens : ℕ) (root : Ref) (b : Bool) → (is_by_handle handle (OfHandle n) && (r == root)) ≡ b → (n ≡ handle → r ≡ root → HandleGoes state s n r) →
      (cond b (Stays (OfHandle opens)) (Stays (OfHandle n)) ≡ Stays (OfHandle n)) ⊎ HandleGoes state s n r
  by_freeze handle opens root true e so = let (a, same) = both_true (n == handle) (r == root) e in inr (so (eqb-true n handle a) (eqb-true r root same))
  by_freeze handle opens root false e so = inl refl

  by_carried : (handle : ℕ) (offer : Descriptor) (second : Option Ref) (opens : Option ℕ) → (n ≡ handle → r ≡ offer.root → HandleGoes state s n r) → Either (carried handle offer second opens)
  by_carried handle offer (Some q) opens so = let_go handle offer.root so
  by_carried handle offer None None so = let_go handle offer.root so
  by_carried handle offer None (Some x) so = inl refl

  by_taken : (made : List Ref) (b : Bool) → is_in made r ≡ b → (Contains made r → HandleGoes state s n r) → (cond b Ends (Stays (OfHandle n)) ≡ Stays (OfHandle n)) ⊎ HandleGoes state s n r
  by_taken made true e so = inr (so (among made r e))
  by_taken made false e so = inl refl

  by_kind : (change : Change) → Kind state held s change → Either change
  by_kind change changes_none = inl refl
  by_kind change (gives private up) = inl refl
  by_kind change (makes_one node action x a makes_it drawn) = inl refl
  by_kind change (swaps_in i m f a hit) = inl refl
  by_kind change (commits i f p seen a v own) = inl refl
  by_kind change (looks why w main a on at) = inl (checks_leaves _ _ w n r)
  by_kind change (closes actor number handle is) =
      let_go handle (root_of (word_at state handle))
      (λ same root. closing actor number (is ∙ ap (λ h. step.Begin actor (Close h) number) (sym same)) (root ∙ ap (λ h. root_of (word_at state h)) (sym same)))
  by_kind change (offers_it offer a stands) = inl refl
  by_kind change (freezes_it offer main x a out none opens) = by_freeze (handle_of a.operation.call) x offer.root _ refl (λ same root. now_out offer main a out same root)
  by_kind change (sees offer main c true a on done) =
      by_carried (handle_of a.operation.call) offer offer.second offer.opens
      (λ same root. elim (or_true (is_carried_out (word_at state (handle_of a.operation.call)) offer main) a.operation.is_marked done) [
        | inl out ↦ now_out offer main a out same root
        | inr marked ↦ was_out offer main c a on marked root
      ])
  by_kind change (sees offer main c false a on done) =
      by_taken (offer.successor ∷ refs_of_option offer.second) _ refl
      (λ in_made. taken_back offer main c a on (or_false (is_carried_out (word_at state (handle_of a.operation.call)) offer main) a.operation.is_marked done) in_made)

  pub handle_goes : (change_of state held s).fate (record { by = OfHandle n; on = r }) ≡ Stays (OfHandle n) ⊎ HandleGoes state s n r
  handle_goes = by_kind (change_of state held s) (kind state held s)

-- ---- who completes its offer

-- once it has carried its offer out, or looked, it completes it no more
done_with : (state : State) (was : Operation) (offer other : Descriptor) (main : Ref) → action_of state was ≡ act.Complete offer main → own_offer was.line ≡ Some other →
    own_offer (line_after state was was.line) ≡ Some other → ⊥
done_with state was offer other main acts own own_then =
    let (c, on, its) = completes_it was.line other own in
    by c (sym (ap (line_action state was) on) ∙ acts) c.line refl (ap (λ l. own_offer (line_after state was l)) (sym on) ∙ own_then)
  where
    ended : (b : Bool) → own_offer (cond b (line.End (copied_reply was.call was.opens)) new_try) ≡ Some other → ⊥
    ended true e = none-some other e
    ended false e = none-some other e

    by : (c : Complete) → line_action state was (line.Copy (copy.Complete c)) ≡ act.Complete offer main → (l : CompleteLine) → c.line ≡ l →
        own_offer (line_after state was (line.Copy (copy.Complete c))) ≡ Some other → ⊥
    by c acts (complete.Reading r) is e =
        let reads : complete_action_at c.offer (complete.Reading r) ≡ act.Complete offer main = ap (complete_action_at c.offer) (sym is) ∙ acts in
        grind arith
    by c acts (complete.Swap q) is e =
        ended _ (ap (λ l. own_offer (line_after state was (line.Copy (copy.Complete (record c { line = l }))))) (sym is) ∙ e)

writable_by : (access : Access) {needs : Bool} → (access ≡ ReadOnly → needs ≡ false) → needs ≡ true → access ≡ Writable
writable_by Writable h e = refl
writable_by ReadOnly h e = absurd (true≢false (sym e ∙ h refl))

-- its handle is open, and writable
pub its_handle : (limits : Bounds) → AreBounds limits → (xs : List Step) (k : ℕ) (operation : Operation) (offer : Descriptor) → operation_of (run limits xs) (suc k) ≡ Some operation →
    own_offer operation.line ≡ Some offer → (root : Root) × (root_at (run limits xs) (handle_of operation.call) ≡ Some root) × (root.access ≡ Writable)
its_handle limits ok xs k operation offer at_k own =
    let (offers, handles) = has_handles_along limits xs in
    let mine = own_numbers operation offer (offers.own k operation at_k) own in
    let (no_close, needs) = writable_call operation.call offer.second mine.second in
    let (root, is_open, access) = handles.on_open k operation at_k no_close in
    (root, is_open, access ∙ writable_by operation.access ((safe_along limits ok xs).fits k operation at_k) needs)

-- two that complete one offer are one
same_owner : (limits : Bounds) → AreBounds limits → (xs : List Step) (k : ℕ) (was : Operation) (offer : Descriptor) (actor : ℕ) (operation : Operation) →
    operation_of (run limits xs) (suc k) ≡ Some was → own_offer was.line ≡ Some offer → operation_of (run limits xs) actor ≡ Some operation → own_offer operation.line ≡ Some offer → actor ≡ suc k
same_owner limits ok xs k was offer actor operation runs own runs_a own_a = elim (cases_eq actor (suc k)) [
  | inl here ↦ here
  | inr apart ↦
      let (j, place, at_j) = place_of_actor (run limits xs) actor operation runs_a in
      let offers = (has_handles_along limits xs).0 in
      let mine = own_numbers was offer (offers.own k was runs) own in
      let theirs = own_numbers operation offer (offers.own j operation at_j) own_a in
      absurd (other_id limits xs ok (suc k) was runs actor operation apart runs_a (sym theirs.its ∙ mine.its))
]

-- ---- a step

abbrev pub LeftHold : State → Held → Type 0
LeftHold state held =
    (k : ℕ) (operation : Operation) (offer : Descriptor) → operation_of state (suc k) ≡ Some operation → own_offer operation.line ≡ Some offer → operation.is_marked ≡ true → NoFreeze offer →
    Has held (OfHandle (handle_of operation.call)) offer.root

module _ (limits : Bounds) (ok : AreBounds limits) (xs : List Step) (s : Step) (o : Outcome) (m : Moves (run limits xs) s o (run limits (xs ++ s ∷ [])))
    (h : LeftHold (run limits xs) (held_of limits xs)) where
  abbrev state : State
  state = run limits xs

  abbrev after : State
  after = run limits (xs ++ s ∷ [])

  abbrev held : Held
  held = held_of limits xs

  abbrev change : Change
  change = change_of state held s

  abbrev later : Held
  later = held_after change held

  module _ (k : ℕ) (was : Operation) (offer : Descriptor) (runs : operation_of state (suc k) ≡ Some was) (own : own_offer was.line ≡ Some offer) (free : NoFreeze offer)
      (goes_on : (d : Descriptor) (main : Ref) → (a : Acting state s (act.Complete d main)) → a.actor ≡ suc k → ⊥) where
    abbrev n : ℕ
    n = handle_of was.call

    its_root : (root : Root) × (root_at state n ≡ Some root) × (root.access ≡ Writable)
    its_root = its_handle limits ok xs k was offer runs own

    -- who has its offer as well is itself
    not_another : (d : Descriptor) (main : Ref) (c : Complete) → (a : Acting state s (act.Complete d main)) → a.operation.line ≡ line.Copy (copy.Complete c) → offer ≡ d → ⊥
    not_another d main c a on same =
        let its : own_offer a.operation.line ≡ Some d = ap own_offer on ∙ ap Some (its_line c d main (ap (line_action state a.operation) (sym on) ∙ a.acts)).0 in
        goes_on d main a (same_owner limits ok xs k was offer a.actor a.operation runs own a.runs (its ∙ ap Some (sym same)))

    -- it was carried out before
    module _ (marked : was.is_marked ≡ true) where
      swapped : WasSwapped (run_is limits xs ok) (last_of limits xs) offer
      swapped = swapped_at (run_is limits xs ok) (last_of limits xs) (omega arith) k was offer (subst (λ (q : State). Runs q k was) (sym (run_ends limits xs)) runs) marked own

      root_not : root_of (word_at state n) ≡ offer.root → ⊥
      root_not same =
          no_root (run_is limits xs ok) offer swapped n its_root.0 (ap (λ (q : State). root_at q n) (run_ends limits xs) ∙ its_root.1) its_root.2
          (ap (λ x. root_of (word_of x)) (sym its_root.1) ∙ same)

      goes_not : HandleGoes state s n offer.root → ⊥
      goes_not (closing actor number is same) = root_not (sym same)
      goes_not (now_out d main a out at same) = root_not (ap (λ x. root_of (word_at state x)) at ∙ ap root_of (carried_word limits ok xs s d main a out) ∙ sym same)
      goes_not (was_out d main c a on theirs same) =
          let (j, place, at_j) = place_of_actor state a.actor a.operation a.runs in
          let its : own_offer a.operation.line ≡ Some d = ap own_offer on ∙ ap Some (its_line c d main (ap (line_action state a.operation) (sym on) ∙ a.acts)).0 in
          not_another d main c a on
          (one_swap (run_is limits xs ok) offer d swapped
          (swapped_at (run_is limits xs ok) (last_of limits xs) (omega arith) j a.operation d (subst (λ (q : State). Runs q j a.operation) (sym (run_ends limits xs)) at_j) theirs its) (sym same))
      goes_not (taken_back d main c a on unmarked in_made) =
          let (j, place, at_j) = place_of_actor state a.actor a.operation a.runs in
          let its : own_offer a.operation.line ≡ Some d = ap own_offer on ∙ ap Some (its_line c d main (ap (line_action state a.operation) (sym on) ∙ a.acts)).0 in
          let (x, is) = made_by d offer.root in_made in
          no_fresh (run_is limits xs ok) offer swapped j a.operation x offer.root (subst (λ (q : State). Runs q j a.operation) (sym (run_ends limits xs)) at_j) unmarked
          (its_fresh a.operation.line d x offer.root its is) refl

      pub still_held : Has later (OfHandle n) offer.root
      still_held = elim (handle_goes state held s n offer.root) [
        | inl is ↦ stays change held (OfHandle n) (OfHandle n) offer.root (h k was offer runs own marked free) is
        | inr goes ↦ absurd (goes_not goes)
      ]

    -- this step carries it out
    pub now_held : marks_in state s ≡ Some was.id → Has later (OfHandle n) offer.root
    now_held marks = by is_carried_so
      where
        is_carried_so : IsCarried limits ok xs s o m k was offer runs own marks
        is_carried_so = is_carried limits ok xs s o m k was offer runs own marks

        by : IsCarried limits ok xs s o m k was offer runs own marks → Has later (OfHandle n) offer.root
        by c = stays change held (OfHandle n) (OfHandle n) offer.root before (ap (λ (x : Change). x.fate (record { by = OfHandle n; on = offer.root })) unchanged)
          where
            before : Has held (OfHandle n) offer.root
            before =
                subst (Has held (OfHandle n))
                (ap (λ x. root_of (word_of x)) (sym its_root.1) ∙ ap (λ x. root_of (word_at state x)) c.handle ∙ ap root_of (carried_word limits ok xs s offer c.main c.acts c.out))
                ((each_held limits ok xs).roots n its_root.0 its_root.1)

            by_line : (l : Line) → c.acts.operation.line ≡ l → outcome_at (handle_of c.acts.operation.call) offer l true ≡ no_change
            by_line (line.Copy (copy.Complete d)) on = absurd (not_another offer c.main d c.acts on refl)
            by_line l on = refl

            unchanged : change ≡ no_change
            unchanged =
                by_completing limits ok xs s o m offer c.main c.acts ∙ ap (λ b. completes b (handle_of c.acts.operation.call) offer c.acts.operation) c.out
                ∙ no_freeze_so limits ok xs s o m offer c.main c.acts free (outcome_at (handle_of c.acts.operation.call) offer c.acts.operation.line true) offer.second offer.opens refl refl
                ∙ by_line c.acts.operation.line refl

  -- ---- by where the operation comes from

  of_step : (k : ℕ) (was : Operation) (offer : Descriptor) → operation_of state (suc k) ≡ Some was → own_offer was.line ≡ Some offer → NoFreeze offer →
      ((d : Descriptor) (main : Ref) → (a : Acting state s (act.Complete d main)) → a.actor ≡ suc k → ⊥) → (was.is_marked ≡ true) ⊎ (marks_in state s ≡ Some was.id) →
      Has later (OfHandle (handle_of was.call)) offer.root
  of_step k was offer runs own free goes_on (inl before) = still_held k was offer runs own free goes_on before
  of_step k was offer runs own free goes_on (inr now) = now_held k was offer runs own free goes_on now

  by_came : (k : ℕ) (found : Operation) (offer : Descriptor) → own_offer found.line ≡ Some offer → found.is_marked ≡ true → NoFreeze offer → CameFrom state s k found →
      Has later (OfHandle (handle_of found.call)) offer.root
  by_came k found offer own marked free (began call number is denial it) = absurd (true≢false (sym marked ∙ ap (λ (x : Operation). x.is_marked) it))
  by_came k found offer own marked free (gave was answer is at_k may it) = absurd (none-some offer (sym (ap (λ (x : Operation). own_offer x.line) it) ∙ own))
  by_came k found offer own marked free (rested was at_k it other) =
      let same = it ∙ mark_only (marks_in state s) was in
      let own_was = sym (ap (λ (x : Operation). own_offer x.line) same) ∙ own in
      subst (λ n. Has later (OfHandle n) offer.root) (sym (ap (λ (x : Operation). handle_of x.call) same))
      (of_step k was offer at_k own_was free (λ d main a here. other (subst (IsOf (suc k)) (sym a.is_step) here))
      (marked_or (marks_in state s) was (sym (ap (λ (x : Operation). x.is_marked) it) ∙ marked)))
  by_came k found offer own marked free (went was is at_k goes it) =
      let same = it ∙ mark_only (marks_in state s) (operation_after state was) in
      let own_then : own_offer (line_after state was was.line) ≡ Some offer = sym (ap (λ (x : Operation). own_offer x.line) same) ∙ own in
      subst (λ n. Has later (OfHandle n) offer.root) (sym (ap (λ (x : Operation). handle_of x.call) same))
      (of_step k was offer at_k (own_before own_then marks) free
      (λ d main a here. done_with state was d offer main (ap (action_of state) (same_Some was a.operation (sym at_k ∙ ap (operation_of state) (sym here) ∙ a.runs)) ∙ a.acts)
      (own_before own_then marks) own_then) marks)
    where
      marks : (was.is_marked ≡ true) ⊎ (marks_in state s ≡ Some was.id)
      marks = elim (marked_or (marks_in state s) (operation_after state was) (sym (ap (λ (x : Operation). x.is_marked) it) ∙ marked)) [
        | inl before ↦ inl (marked_before was.is_marked (action_of state was) before)
        | inr now ↦ inr now
      ]

      own_before : own_offer (line_after state was was.line) ≡ Some offer → (was.is_marked ≡ true) ⊎ (marks_in state s ≡ Some was.id) → own_offer was.line ≡ Some offer
      own_before own_then (inl before) =
          let (c, on) = is_completing was.line ((has_handles_along limits xs).1.done k was at_k before) state was goes in
          ap own_offer on ∙ ap Some (same_own state was c offer (ap (λ l. own_offer (line_after state was l)) (sym on) ∙ own_then))
      own_before own_then (inr now) =
          let by = marked_in state (has_handles_along limits xs).0 s k was at_k now in
          let (c, on, its) = completes_it was.line by.offer by.completes in
          ap own_offer on ∙ ap Some (same_own state was c offer (ap (λ l. own_offer (line_after state was l)) (sym on) ∙ own_then))

  pub left_then : LeftHold after later
  left_then k found offer runs_now own marked free = by_came k found offer own marked free (comes_from state s o after m k found runs_now)

-- ---- after every list of steps

module _ (limits : Bounds) (ok : AreBounds limits) where
  abbrev Hold : List Step → Type 0
  Hold xs = LeftHold (run limits xs) (held_of limits xs)

  none_runs : (k : ℕ) (operation : Operation) → operation_of (run limits []) (suc k) ≡ Some operation → ⊥
  unfolding first_state run_from
  none_runs k operation e = none_found limits.actors k operation e

  by_answer : (xs : List Step) (s : Step) → Hold xs → (a : Answer) → next (run limits xs) s ≡ a → MovesIfTaken (run limits xs) s a →
      LeftHold (run limits (xs ++ s ∷ [])) (cond (is_taken_step a) (held_after (change_of (run limits xs) (held_of limits xs) s) (held_of limits xs)) (held_of limits xs))
  by_answer xs s h (Ok done) e mv =
      left_then limits ok xs s done.0
      (subst (λ (z : State). Moves (run limits xs) s done.0 z) (sym (run_push (first_state limits) xs s ∙ ap (state_after (run limits xs)) e)) mv) h
  by_answer xs s h (Err refusal) e mv = subst (λ (z : State). LeftHold z (held_of limits xs)) (sym (run_push (first_state limits) xs s ∙ ap (state_after (run limits xs)) e)) h

  -- the handle of a marked operation that completes its offer has a claim on the old root
  pub left_hold : (xs : List Step) → Hold xs
  left_hold =
      by_last Hold (λ k operation offer runs own marked free. absurd (none_runs k operation runs))
      (λ xs s h. subst (LeftHold (run limits (xs ++ s ∷ []))) (sym (held_push limits xs s)) (by_answer xs s h (next (run limits xs) s) refl (moves (run limits xs) s)))
