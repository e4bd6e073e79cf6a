-- Handles and operations that offered, over a step: what stands on a handle after it, and how it goes on with who completes its own offer.
use Rattle.std.proofs.Common.{◌≡◌, ◌⊎◌, inl, inr, ℕ, suc, ◌==◌, ◌<◌, Bool, true, false, List, length, Option, Some, None, cond, get_or, arith, refl, sym, ap, subst, ◌∙◌, get_or-set_same, length-set}
use Rattle.std.proofs.lemmas.Bool.{cases_eq, true≢false}
use Rattle.std.proofs.lemmas.Option.{none-some, same_Some}
use Rattle.proof_claims.specs.Beneath.slot_arena.specs.declared.refs.Ref.{Ref}
use Rattle.proof_claims.specs.Beneath.history.specs.declared.calls.Call.{Call}
use Rattle.proof_claims.specs.Beneath.history.specs.declared.calls.Call.TheVariants.{Close}
use Rattle.proof_claims.specs.Beneath.machine_model.specs.declared.actions.Action.{Action}
use Rattle.proof_claims.specs.Beneath.machine_model.specs.declared.actions.Action.TheVariants as act
use Rattle.proof_claims.specs.Beneath.machine_model.specs.declared.copying.CopyLine.TheVariants as copy
use Rattle.proof_claims.specs.Beneath.machine_model.specs.declared.lines.Line.TheVariants as line
use Rattle.proof_claims.specs.Beneath.machine_model.specs.declared.operations.Operation.{Operation}
use Rattle.proof_claims.specs.Beneath.machine_model.specs.declared.reading.After.{After}
use Rattle.proof_claims.specs.Beneath.machine_model.specs.declared.reading.After.TheVariants.{Goes as Continues, Gives}
use Rattle.proof_claims.specs.Beneath.machine_model.specs.declared.reading.ReadLine.{ReadLine}
use Rattle.proof_claims.specs.Beneath.machine_model.specs.declared.roots.Complete.{Complete}
use Rattle.proof_claims.specs.Beneath.machine_model.specs.declared.roots.CompleteLine.{CompleteLine}
use Rattle.proof_claims.specs.Beneath.machine_model.specs.declared.roots.CompleteLine.TheVariants as complete
use Rattle.proof_claims.specs.Beneath.machine_model.specs.declared.roots.Descriptor.{Descriptor}
use Rattle.proof_claims.specs.Beneath.machine_model.specs.declared.roots.Root.{Root}
use Rattle.proof_claims.specs.Beneath.machine_model.specs.declared.roots.RootWord.TheVariants.{Offer, Plain}
use Rattle.proof_claims.specs.Beneath.machine_model.specs.declared.steps.Bounds.{Bounds}
use Rattle.proof_claims.specs.Beneath.machine_model.specs.declared.steps.Outcome.{Outcome}
use Rattle.proof_claims.specs.Beneath.machine_model.specs.declared.steps.Step.{Step}
use Rattle.proof_claims.specs.Beneath.machine_model.specs.declared.steps.Step.TheVariants as step
use Rattle.proof_claims.specs.Beneath.machine_model.specs.Acting.{carried_out, if_changed, mark_after, opened, opened_root, operation_after}
use Rattle.proof_claims.specs.Beneath.machine_model.specs.Calls.{handle_of}
use Rattle.proof_claims.specs.Beneath.machine_model.specs.Copying.{copy_after_complete}
use Rattle.proof_claims.specs.Beneath.machine_model.specs.GivingUp.{given_up}
use Rattle.proof_claims.specs.Beneath.machine_model.specs.Machine.{AreBounds, begun_operation, run, with_begin}
use Rattle.proof_claims.specs.Beneath.machine_model.specs.Moves.{Begins, Ends, GivesUp, Goes, GoesOn, Moves, Sweeps}
use Rattle.proof_claims.specs.Beneath.machine_model.specs.Operations.{action_of, line_action, line_after}
use Rattle.proof_claims.specs.Beneath.machine_model.specs.Reading.{read_after}
use Rattle.proof_claims.specs.Beneath.machine_model.specs.States.{Runs, State, rewritten, root_at, root_of, with_operation, with_word, word_at}
use Rattle.proof_claims.specs.Beneath.machine_model.specs.Swapping.{after_complete, after_reading, complete_action, complete_action_at, is_carried_out, of_offer, stands_in}
use Rattle.proof_claims.specs.Beneath.machine_model.proofs.Actors.{mark_one, mark_only, marks_in}
use Rattle.proof_claims.specs.Beneath.machine_model.proofs.Fates.{Follows, ends, follows, gives_up, rests, steps}
use Rattle.proof_claims.specs.Beneath.machine_model.proofs.Found.{found_elsewhere}
use Rattle.proof_claims.specs.Beneath.machine_model.proofs.Times.{run_ends, run_is}
use Rattle.proof_claims.specs.Beneath.machine_model.specs.Times.{last_of}
use Rattle.proof_claims.specs.Beneath.proof_generations.proofs.Handles.Footings.{ActionCarriesOut, RootFrom, StaysOpen, newly, one_carried, root_from, stood, swapped}
use Rattle.proof_claims.specs.Beneath.proof_generations.proofs.Handles.Operations.{stays}
use Rattle.proof_claims.specs.Beneath.proof_generations.proofs.Offers.Marks.{complete_mark, mark_cases, marks_mark, unmarked_before}
use Rattle.proof_claims.specs.Beneath.proof_generations.proofs.Offers.Same.{same_offer}
use Rattle.proof_claims.specs.Beneath.proof_generations.proofs.Offers.Standing.{completes_it, own_offer}
use Rattle.proof_claims.specs.Beneath.proof_generations.proofs.Roots.OfLists.{has_handles_along}
use Rattle.proof_claims.specs.Beneath.proof_generations.specs.Laws.Roots.{settles}
use Rattle.proof_claims.specs.Beneath.proof_order.proofs.Views.Handles.{opens_in_range}
use Rattle.proof_claims.proofs.Acted.{acted_after}
use Rattle.proof_claims.proofs.ChangeKinds.{Acting}
use Rattle.proof_claims.proofs.Lists.{both_true}
use Rattle.proof_claims.proofs.Rooting.{offer_open}
use Rattle.proof_claims.proofs.Swapping.{opens_unopened}

-- ---- who completes its own offer

-- it still does, or takes the step that is to carry it out
pub data OfferGoes (state : State) (s : Step) (after : State) (k : ℕ) (was : Operation) (offer : Descriptor) : Type 0 where
  still : (found : Operation) → Runs after k found → own_offer found.line ≡ Some offer → found.call ≡ was.call → (was.is_marked ≡ true → found.is_marked ≡ true) →
      (was.is_marked ≡ false → (found.is_marked ≡ false) ⊎ (marks_in state s ≡ Some was.id)) → (marks_in state s ≡ Some was.id → found.is_marked ≡ true) → OfferGoes state s after k was offer
  sees_it : (main : Ref) → s ≡ step.Go (suc k) → action_of state was ≡ act.Complete offer main → OfferGoes state s after k was offer

completes_not_end : (state : State) (operation : Operation) (c : Complete) (answer : _) → complete_action c ≡ act.End answer → ⊥
completes_not_end state operation c answer e = grind arith

-- a line that reads goes on with the same offer
reads_on : (state : State) (operation : Operation) (offer : Descriptor) (a : After ReadLine Ref) → own_offer (copy_after_complete operation (of_offer offer (after_reading a))) ≡ Some offer
reads_on state operation offer (Continues l) = refl
reads_on state operation offer (Gives main) = refl

module _ (state : State) (s : Step) (o : Outcome) (after : State) (m : Moves state s o after) (k : ℕ) (was : Operation) (runs : Runs state k was) (offer : Descriptor)
    (own : own_offer was.line ≡ Some offer) where
  marked_still : (b : Bool) → was.is_marked ≡ b → b ≡ true → (mark_one (marks_in state s) was).is_marked ≡ true
  marked_still b e is = by (mark_one (marks_in state s) was).is_marked refl
    where
      by : (c : Bool) → (mark_one (marks_in state s) was).is_marked ≡ c → (mark_one (marks_in state s) was).is_marked ≡ true
      by true f = f
      by false f = absurd (true≢false (sym (e ∙ is) ∙ unmarked_before (marks_in state s) was f))

  -- the mark of one that is as it was but for its line
  module _ (next : Operation) (id : next.id ≡ was.id) (call : next.call ≡ was.call) (mark : next.is_marked ≡ was.is_marked) (line_own : own_offer next.line ≡ Some offer)
      (at_k : Runs after k (mark_one (marks_in state s) next)) where
    same : mark_one (marks_in state s) next ≡ record next { is_marked = (mark_one (marks_in state s) next).is_marked }
    same = mark_only (marks_in state s) next

    goes_so : OfferGoes state s after k was offer
    goes_so =
        still (mark_one (marks_in state s) next) at_k (ap (λ (x : Operation). own_offer x.line) same ∙ line_own) (ap (λ (x : Operation). x.call) same ∙ call) (λ marked. keeps_mark _ refl marked)
        (λ unmarked. by_mark _ refl unmarked) (λ marks. marks_mark (marks_in state s) next (marks ∙ ap Some (sym id)))
      where
        keeps_mark : (b : Bool) → (mark_one (marks_in state s) next).is_marked ≡ b → was.is_marked ≡ true → (mark_one (marks_in state s) next).is_marked ≡ true
        keeps_mark true e marked = e
        keeps_mark false e marked = absurd (true≢false (sym marked ∙ sym mark ∙ unmarked_before (marks_in state s) next e))

        by_mark : (b : Bool) → (mark_one (marks_in state s) next).is_marked ≡ b → was.is_marked ≡ false → ((mark_one (marks_in state s) next).is_marked ≡ false) ⊎ (marks_in state s ≡ Some was.id)
        by_mark false e unmarked = inl e
        by_mark true e unmarked = inr (mark_cases (marks_in state s) next e (mark ∙ unmarked) ∙ ap Some id)

  by_line : (c : Complete) → was.line ≡ line.Copy (copy.Complete c) → c.offer ≡ offer → s ≡ step.Go (suc k) → Runs after k (mark_one (marks_in state s) (operation_after state was)) →
      (l : CompleteLine) → c.line ≡ l → OfferGoes state s after k was offer
  by_line c on its is at_k (complete.Swap main) e =
      sees_it main is (ap (line_action state was) on ∙ ap (complete_action_at c.offer) e ∙ ap (λ d. act.Complete d main) its)
  by_line c on its is at_k (complete.Reading l) e =
      goes_so (operation_after state was) refl refl (ap (λ x. mark_after was.is_marked (line_action state was x)) on ∙ complete_mark was.is_marked c)
      (ap (λ x. own_offer (line_after state was x)) on
      ∙ ap (λ x. own_offer (copy_after_complete was (of_offer c.offer (after_complete state.heap was.access (word_at state (handle_of was.call)) c.offer x)))) e
      ∙ reads_on state was c.offer (read_after state.heap was.access (word_at state (handle_of was.call)) c.offer.root l) ∙ ap Some its) at_k

  pub offer_goes : OfferGoes state s after k was offer
  offer_goes =
      let (c, on, its) = completes_it was.line offer own in
      by c on its (follows state s o after m k was runs)
    where
      by : (c : Complete) → was.line ≡ line.Copy (copy.Complete c) → c.offer ≡ offer → Follows state s after k was → OfferGoes state s after k was offer
      by c on its (rests other at_k) = goes_so was refl refl refl own at_k
      by c on its (steps is goes at_k) = by_line c on its is at_k c.line refl
      by c on its (ends answer is a) = absurd (completes_not_end state was c answer (sym (ap (line_action state was) on) ∙ a))
      by c on its (gives_up answer is given at_k) = absurd (none-some answer (sym (ap (given_up was.call) on) ∙ given))

-- ---- open handles

-- it stands over the same root, or is closed, or an offer is carried out there
pub data RootGoes (state : State) (s : Step) (after : State) (n : ℕ) (root : Root) : Type 0 where
  kept : (now : Root) → root_at after n ≡ Some now → root_of now.word ≡ root_of root.word → RootGoes state s after n root
  closed : (actor : ℕ) (number : Option ℕ) → s ≡ step.Begin actor (Close n) number → RootGoes state s after n root
  carried : (offer : Descriptor) (main : Ref) → (a : Acting state s (act.Complete offer main)) → is_carried_out (word_at state (handle_of a.operation.call)) offer main ≡ true →
      n ≡ handle_of a.operation.call → RootGoes state s after n root

module _ (limits : Bounds) (ok : AreBounds limits) (xs : List Step) where
  abbrev state : State
  state = run limits xs

  -- the offer that is carried out stands there
  pub carried_word : (s : Step) (offer : Descriptor) (main : Ref) → (a : Acting state s (act.Complete offer main)) → is_carried_out (word_at state (handle_of a.operation.call)) offer main ≡ true →
      word_at state (handle_of a.operation.call) ≡ Offer offer
  carried_word s offer main a out =
      same_offer state (has_handles_along limits xs).0 a.actor a.operation offer a.runs (ap settles a.acts) (handle_of a.operation.call)
      (both_true (stands_in (word_at state (handle_of a.operation.call)) offer) (main == offer.expected) out).0

  -- what a root is from after a step of an operation
  module _ (s : Step) (o : Outcome) (after : State) (m : Moves state s o after) (action : Action) (a : Acting state s action) (g : GoesOn action) where
    abbrev at : ℕ
    at = handle_of a.operation.call

    abbrev put : State
    put = with_operation state a.actor (Some (operation_after state a.operation))

    honest : (own : Descriptor) → settles action ≡ Some own → stands_in (word_at state at) own ≡ true → word_at state at ≡ Offer own
    honest own is e = same_offer state (has_handles_along limits xs).0 a.actor a.operation own a.runs (ap settles a.acts ∙ is) at e

    pub root_came : (n : ℕ) (now : Root) → root_at after n ≡ Some now → RootFrom put at action n now
    root_came n now e = root_from put at n now action honest (sym (ap (λ (z : State). root_at z n) (acted_after state s o after m action a g)) ∙ e)

  -- an open handle isn't opened
  pub opens_not : (s : Step) (offer : Descriptor) (main : Ref) (n : ℕ) (root : Root) → (a : Acting state s (act.Complete offer main)) →
      is_carried_out (word_at state (handle_of a.operation.call)) offer main ≡ true → offer.opens ≡ Some n → root_at state n ≡ Some root → ⊥
  opens_not s offer main n root a out is_opens open_then = none-some root (sym (opens_unopened limits xs (handle_of a.operation.call) offer n (carried_word s offer main a out) is_opens) ∙ open_then)

  go_by : (s : Step) (o : Outcome) (after : State) (m : Moves state s o after) (n : ℕ) (root : Root) → root_at state n ≡ Some root → (action : Action) → Acting state s action → GoesOn action →
      StaysOpen after n root → RootGoes state s after n root
  go_by s o after m n root e action a g (now, found, access) = by (root_came s o after m action a g n now found)
    where
      of_action : (offer : Descriptor) → ActionCarriesOut (put s o after m action a g) (at s o after m action a g) action offer → (main : Ref) × (b : Acting state s (act.Complete offer main))
          × (is_carried_out (word_at state (handle_of b.operation.call)) offer main ≡ true) × (handle_of b.operation.call ≡ handle_of a.operation.call)
      of_action offer c =
          (c.main, record { actor = a.actor; operation = a.operation; is_step = a.is_step; runs = a.runs; acts = a.acts ∙ c.is_it }, c.carried, refl)

      by : RootFrom (put s o after m action a g) (at s o after m action a g) action n now → RootGoes state s after n root
      by (stood was there same_access same free) = kept now found (same ∙ ap (λ (x : Root). root_of x.word) (same_Some was root (sym there ∙ e)))
      by (swapped was offer c here there is) = let (main, b, out, handle) = of_action offer c in carried offer main b out (here ∙ sym handle)
      by (newly offer j c is_opens here is) = let (main, b, out, handle) = of_action offer c in absurd (opens_not s offer main n root b out (is_opens ∙ ap Some (sym here)) e)

pub root_goes : (limits : Bounds) → AreBounds limits → (xs : List Step) (s : Step) (o : Outcome) (after : State) → Moves (run limits xs) s o after → (n : ℕ) (root : Root) →
    root_at (run limits xs) n ≡ Some root → RootGoes (run limits xs) s after n root
root_goes limits ok xs s o after (Begins {actor} {call} {number} d) n root e = by call refl
  where
    by : (c : Call) → call ≡ c → RootGoes (run limits xs) (step.Begin actor call number) after n root
    by (Close handle) is = elim (cases_eq n handle) [
      | inl same ↦ closed actor number (ap (λ c. step.Begin actor c number) (is ∙ ap Close (sym same)))
      | inr other ↦
          kept root (ap (λ c. root_at (with_begin (run limits xs) actor c (begun_operation (run limits xs) call number)) n) is ∙ found_elsewhere (run limits xs).roots handle n None other ∙ e) refl
    ]
    by c is = kept root (ap (λ c. root_at (with_begin (run limits xs) actor c (begun_operation (run limits xs) call number)) n) is ∙ e) refl
root_goes limits ok xs s o after (Goes {actor} {operation} {action} d runs acts g) n root e =
    go_by limits ok xs s o after (Goes d runs acts g) n root e action (record { actor = actor; operation = operation; is_step = refl; runs = runs; acts = acts }) g
    (stays (run limits xs) (has_handles_along limits xs).0 (has_handles_along limits xs).1 s o after (Goes d runs acts g) n root e (λ a call number is. let bad : ⊥ = cc is in absurd bad))
root_goes limits ok xs s o after (Ends d runs acts) n root e = kept root e refl
root_goes limits ok xs s o after (GivesUp d runs may) n root e = kept root e refl
root_goes limits ok xs s o after (Sweeps spent) n root e = kept root e refl

-- ---- where an offer is carried out

module _ (limits : Bounds) (ok : AreBounds limits) (xs : List Step) (s : Step) (o : Outcome) (after : State) (m : Moves (run limits xs) s o after) (offer : Descriptor) (main : Ref)
    (a : Acting (run limits xs) s (act.Complete offer main)) (out : is_carried_out (word_at (run limits xs) (handle_of a.operation.call)) offer main ≡ true) where
  abbrev before : State
  before = run limits xs

  abbrev on : ℕ
  on = handle_of a.operation.call

  abbrev written : State
  written = with_operation before a.actor (Some (operation_after before a.operation))

  carries : ActionCarriesOut written on (act.Complete offer main) offer
  carries = record { main = main; is_it = refl; carried = out }

  -- its successor stands on the handle
  pub carried_root : (now : Root) × (root_at after on ≡ Some now) × (root_of now.word ≡ offer.successor)
  carried_root =
      let word = carried_word limits ok xs s offer main a out in
      let (root, open_then, its_word) = offer_open (root_at before on) offer word in
      let (now, found, access) =
      stays before (has_handles_along limits xs).0 (has_handles_along limits xs).1 s o after m on root open_then
      (λ b call number is. let bad : step.Go a.actor ≡ step.Begin b call number = sym a.is_step ∙ is in let wrong : ⊥ = cc bad in absurd wrong) in
      (now, found, by root open_then now (root_came limits ok xs s o after m (act.Complete offer main) a tt on now found))
    where
      by : (root : Root) → root_at before on ≡ Some root → (now : Root) → RootFrom written on (act.Complete offer main) on now → root_of now.word ≡ offer.successor
      by root open_then now (stood was there access same free) = absurd (free offer carries refl)
      by root open_then now (swapped was other c here there is) =
          ap (λ (x : Root). root_of x.word) is ∙ ap (λ (d : Descriptor). d.successor) (one_carried written on (act.Complete offer main) offer other carries c)
      by root open_then now (newly other j c is_opens here is) =
          absurd (opens_not limits ok xs s offer main on root a out
          (ap (λ (d : Descriptor). d.opens) (sym (one_carried written on (act.Complete offer main) offer other carries c)) ∙ is_opens ∙ ap Some (sym here)) open_then)

  -- and the handle that it opens is open
  module _ (k n : ℕ) (owner : Operation) (runs : Runs before k owner) (its : owner.opens ≡ Some n) (opens : offer.opens ≡ Some n) where
    within : n < length before.roots
    within =
        subst (λ (z : State). n < length z.roots) (run_ends limits xs)
        (opens_in_range (run_is limits xs ok) (last_of limits xs) (omega arith) k owner (ap (λ (z : State). get_or z.actors k None) (run_ends limits xs) ∙ runs) n its)

    pub carried_opened : root_at after n ≡ Some (opened_root offer offer.second)
    carried_opened =
        let both = both_true (stands_in (word_at before on) offer) (main == offer.expected) out in
        ap (λ (z : State). root_at z n) (acted_after before s o after m (act.Complete offer main) a tt)
        ∙ ap (λ b. root_at (if_changed b (cond (main == offer.expected) (carried_out written on offer) (with_word written on (Plain offer.root))) written) n) both.0
        ∙ ap (λ b. root_at (cond b (carried_out written on offer) (with_word written on (Plain offer.root))) n) both.1
        ∙ ap (λ x. root_at (opened (with_word written on (Plain offer.successor)) offer x) n) opens
        ∙ get_or-set_same (with_word written on (Plain offer.successor)).roots n (Some (opened_root offer offer.second)) None
        (let size = length-set before.roots on (rewritten (Plain offer.successor) (root_at before on)) in omega (arith, within, size))
