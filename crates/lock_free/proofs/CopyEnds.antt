-- Where a copy or a clear is to end it answers that it was carried out, and is marked, or that no slot was had.
use Rattle.std.proofs.Common.{◌≡◌, ℕ, suc, ◌||◌, Bool, true, false, cond, inl, inr, List, Option, Some, None, refl, sym, ap, ◌∙◌, subst}
use Rattle.std.proofs.lemmas.Bool.{cases_Bool, false≢true}
use Rattle.std.proofs.lemmas.Option.{none-some, same_Some}
use Rattle.history.specs.declared.calls.Call.{Call}
use Rattle.history.specs.declared.calls.Call.TheVariants.{Clear, Snapshot, Freeze}
use Rattle.history.specs.declared.replies.Reply.{Reply}
use Rattle.history.specs.declared.replies.Reply.TheVariants as reply
use Rattle.machine_model.specs.Beneath.slot_arena.specs.declared.refs.Ref.{Ref}
use Rattle.machine_model.specs.Beneath.slot_arena.specs.Heaps.{next_ref}
use Rattle.machine_model.specs.declared.actions.Action.TheVariants as act
use Rattle.machine_model.specs.declared.copying.CopyLine.{CopyLine}
use Rattle.machine_model.specs.declared.copying.CopyLine.TheVariants as copy
use Rattle.machine_model.specs.declared.lines.Line.{Line}
use Rattle.machine_model.specs.declared.lines.Line.TheVariants as line
use Rattle.machine_model.specs.declared.operations.Operation.{Operation}
use Rattle.machine_model.specs.declared.reading.After.{After}
use Rattle.machine_model.specs.declared.reading.After.TheVariants.{Goes, Gives}
use Rattle.machine_model.specs.declared.reading.Read.{Read}
use Rattle.machine_model.specs.declared.reading.ReadLine.{ReadLine}
use Rattle.machine_model.specs.declared.roots.Complete.{Complete}
use Rattle.machine_model.specs.declared.roots.CompleteLine.{CompleteLine}
use Rattle.machine_model.specs.declared.roots.CompleteLine.TheVariants as complete
use Rattle.machine_model.specs.declared.roots.RootLine.{RootLine}
use Rattle.machine_model.specs.declared.steps.Bounds.{Bounds}
use Rattle.machine_model.specs.declared.steps.Step.{Step}
use Rattle.machine_model.specs.Calls.{copies, handle_of}
use Rattle.machine_model.specs.Acting.{mark_after, operation_after}
use Rattle.machine_model.specs.Copying.{after_given, after_offer, after_successor, copied_reply, copy_after, copy_after_complete, copy_after_made, copy_after_read, copy_if_made}
use Rattle.machine_model.specs.GivingUp.{copy_given_up, given_up, tells_effect, unless_effect}
use Rattle.machine_model.specs.Lines.{new_try}
use Rattle.machine_model.specs.Machine.{run}
use Rattle.machine_model.specs.Moves.{GoesOn}
use Rattle.machine_model.specs.Operations.{action_of, after_root, first_line, from_root, line_action, line_after}
use Rattle.machine_model.specs.Reading.{read_step}
use Rattle.machine_model.specs.Records.{Record, record_of}
use Rattle.machine_model.specs.States.{State, operation_of, word_at, Runs}
use Rattle.machine_model.specs.Swapping.{after_complete, after_reading, complete_action_at, is_carried_out, is_plain, of_offer, root_after}
use Rattle.machine_model.proofs.Actors.{mark_one, mark_only, marks_in, marks_by, marks_of}
use Rattle.machine_model.proofs.Fates.{Comes, began, rested, went, gave, comes, place_of_actor}
use Rattle.machine_model.proofs.Recorded.{along_with}
use Rattle.proof_linearizable.specs.Beneath.proof_generations.proofs.Offers.Marks.{complete_mark, marks_mark}
use Rattle.proof_linearizable.specs.Beneath.proof_generations.proofs.Offers.Standing.{own_numbers, own_offer}
use Rattle.proof_linearizable.specs.Beneath.proof_order.proofs.History.Answering.{Phased, first_phased, phased_kept}
use Rattle.proof_linearizable.specs.Beneath.proof_order.proofs.History.Copies.{copied_tells, own_marks, stays_marked}
use Rattle.proof_linearizable.specs.Beneath.proof_order.proofs.Offers.Standing.{nobody}

-- ---- on its lines

-- a copy or a clear is answered so
abbrev pub EndsCopies : Reply → Type 0
EndsCopies (reply.Opened number) = Unit {0}
EndsCopies reply.Cleared = Unit {0}
EndsCopies reply.NoSlots = Unit {0}
EndsCopies answer = ⊥

-- a line of ROOT or COPY, or the end, where it is marked if it answers that it was carried out
abbrev pub Fits : Call → Bool → Line → Type 0
Fits call mark (line.Root l) = Unit {0}
Fits call mark (line.Copy l) = Unit {0}
Fits call mark (line.End answer) = (tells_effect call answer ≡ true → mark ≡ true) × EndsCopies answer
Fits call mark l = ⊥

fits_more : (call : Call) (a b : Bool) (l : Line) → (a ≡ true → b ≡ true) → Fits call a l → Fits call b l
fits_more call a b (line.Root l) more h = tt
fits_more call a b (line.Copy l) more h = tt
fits_more call a b (line.End answer) more h = ((λ tells. more (h.0 tells)), h.1)
fits_more call a b l more h = absurd h

first_fits : (call : Call) → copies call ≡ true → (mark : Bool) → Fits call mark (first_line call)
first_fits (Clear h) is mark = tt
first_fits (Snapshot h) is mark = tt
first_fits (Freeze h) is mark = tt
first_fits call is mark = absurd (false≢true is)

root_fits : (call : Call) → copies call ≡ true → (mark : Bool) (r : Ref) → Fits call mark (from_root call r)
root_fits (Clear h) is mark r = tt
root_fits (Snapshot h) is mark r = tt
root_fits (Freeze h) is mark r = tt
root_fits call is mark r = absurd (false≢true is)

after_root_fits : (o : Operation) → copies o.call ≡ true → (mark : Bool) (out : After RootLine Ref) → Fits o.call mark (after_root o out)
after_root_fits o is mark (Goes l) = tt
after_root_fits o is mark (Gives r) = root_fits o.call is mark r

given_fits : (call c : Call) (mark : Bool) (root main : Ref) → Fits c mark (after_given call root main)
given_fits (Clear h) c mark root main = tt
given_fits call c mark root main = tt

refused_fits : (call : Call) (mark : Bool) → Fits call mark (line.End reply.NoSlots)
refused_fits call mark = ((λ tells. absurd (false≢true tells)), tt)

copied_ends : (call : Call) (opens : Option ℕ) → EndsCopies (copied_reply call opens)
copied_ends (Clear h) opens = tt
copied_ends call opens = tt

-- once COMPLETE has told whether it carried the offer out
ended_fits : (o : Operation) (mark b : Bool) → (b ≡ true → mark ≡ true) → Fits o.call mark (cond b (line.End (copied_reply o.call o.opens)) new_try)
ended_fits o mark true marked = ((λ tells. marked refl), copied_ends o.call o.opens)
ended_fits o mark false marked = tt

never_gives : (done : Bool) (a : After ReadLine Ref) → after_reading a ≡ Gives done → ⊥
never_gives done (Goes l) e = cc e
never_gives done (Gives main) e = cc e

module _ (state : State) (o : Operation) (is : copies o.call ≡ true) (mark : Bool)
    -- its mark after the step, which completes its offer
    (marked : (c : Complete) (main : Ref) → o.line ≡ line.Copy (copy.Complete c) → c.line ≡ complete.Swap main →
    (is_carried_out (word_at state (handle_of o.call)) c.offer main || o.is_marked) ≡ true → mark ≡ true) where
  complete_fits : (c : Complete) → o.line ≡ line.Copy (copy.Complete c) → (l : CompleteLine) → c.line ≡ l →
      Fits o.call mark (copy_after_complete o (of_offer c.offer (after_complete state.heap o.access (word_at state (handle_of o.call)) c.offer l)))
  complete_fits c on (complete.Reading x) at = going _ (λ done wrong. never_gives done _ wrong)
    where
      going : (a : After CompleteLine Bool) → ((done : Bool) → a ≡ Gives done → ⊥) → Fits o.call mark (copy_after_complete o (of_offer c.offer a))
      going (Goes x) never = tt
      going (Gives done) never = absurd (never done refl)
  complete_fits c on (complete.Swap main) at =
      ended_fits o mark (is_carried_out (word_at state (handle_of o.call)) c.offer main || o.is_marked) (marked c main on at)

  -- a root is made, or no slot is had
  made_fits : (l : CopyLine) (made : Option Ref) → ((r : Ref) → Fits o.call mark (copy_after_made o l r)) → Fits o.call mark (copy_if_made o l made)
  made_fits l None then = refused_fits o.call mark
  made_fits l (Some r) then = then r

  copy_fits : (l : CopyLine) → o.line ≡ line.Copy l → Fits o.call mark (copy_after state o l)
  copy_fits (copy.Read root r) on = by (read_step state o r)
    where
      by : (a : After Read Ref) → Fits o.call mark (copy_after_read o root a)
      by (Goes x) = tt
      by (Gives m) = given_fits o.call o.call mark root m
  copy_fits (copy.Complete c) on = complete_fits c on c.line refl
  copy_fits (copy.Offer d) on = by (is_plain (word_at state (handle_of o.call)) d.root)
    where
      by : (b : Bool) → Fits o.call mark (after_offer d b)
      by true = tt
      by false = tt
  copy_fits (copy.Successor root main) on = made_fits (copy.Successor root main) (next_ref state.heap) (next o.call)
    where
      next : (call : Call) (r : Ref) → Fits o.call mark (after_successor o call root main r)
      next (Snapshot h) r = tt
      next call r = tt
  copy_fits (copy.Second root main successor) on = made_fits (copy.Second root main successor) (next_ref state.heap) (λ r. tt)
  copy_fits (copy.Empty root main) on = made_fits (copy.Empty root main) (next_ref state.heap) (λ r. tt)
  copy_fits (copy.Cleared root main branch) on = made_fits (copy.Cleared root main branch) (next_ref state.heap) (λ r. tt)

  line_fits : (l : Line) → o.line ≡ l → GoesOn (line_action state o l) → (before : Bool) → Fits o.call before l → Fits o.call mark (line_after state o l)
  line_fits (line.Root l) on g before h = after_root_fits o is mark (root_after state.heap o.access (word_at state (handle_of o.call)) l)
  line_fits (line.Copy l) on g before h = copy_fits l on
  line_fits (line.End answer) on g before h = absurd g
  line_fits l on g before h = absurd h

-- who gives up is refused
copy_refused : (l : CopyLine) (answer : Reply) → copy_given_up l ≡ Some answer → reply.NoSlots ≡ answer
copy_refused (copy.Complete c) answer e = absurd (none-some answer e)
copy_refused l answer e = same_Some _ _ e

end_refused : (tells : Bool) (answer : Reply) → unless_effect tells ≡ Some answer → reply.NoSlots ≡ answer
end_refused true answer e = absurd (none-some answer e)
end_refused false answer e = same_Some _ _ e

gave_refused : (call : Call) (mark : Bool) (l : Line) (answer : Reply) → Fits call mark l → given_up call l ≡ Some answer → reply.NoSlots ≡ answer
gave_refused call mark (line.Root l) answer h e = same_Some _ _ e
gave_refused call mark (line.Copy l) answer h e = copy_refused l answer e
gave_refused call mark (line.End told) answer h e = end_refused (tells_effect call told) answer e
gave_refused call mark l answer h e = absurd h

-- ---- at each time

AllFit : State → Type 0
AllFit state = (k : ℕ) (o : Operation) → Runs state k o → copies o.call ≡ true → Fits o.call o.is_marked o.line

record Ending (state : State) (past : Record) : Type 0 where
  pub phased : Phased state past
  pub fit : AllFit state

-- who carries its own offer out is marked by this step
marks_itself : (state : State) {past : Record} → Phased state past → (k : ℕ) (o : Operation) → Runs state k o → (c : Complete) (main : Ref) → o.line ≡ line.Copy (copy.Complete c) →
    c.line ≡ complete.Swap main → is_carried_out (word_at state (handle_of o.call)) c.offer main ≡ true → marks_by state (Some o) ≡ Some o.id
marks_itself state phased k o runs c main on at carried =
    let does : action_of state o ≡ act.Complete c.offer main = ap (line_action state o) on ∙ ap (complete_action_at c.offer) at in
    let its = own_numbers o c.offer (phased.offers.own.own k o runs) (ap own_offer on) in
    ap (marks_of state (handle_of o.call)) does ∙ ap (λ b. cond b (Some c.offer.operation) None) carried ∙ ap Some its.its

marked_then : (state : State) {past : Record} → Phased state past → (k : ℕ) (o : Operation) → Runs state k o → (c : Complete) (main : Ref) → o.line ≡ line.Copy (copy.Complete c) →
    c.line ≡ complete.Swap main → (is_carried_out (word_at state (handle_of o.call)) c.offer main || o.is_marked) ≡ true →
    (mark_one (marks_by state (Some o)) (operation_after state o)).is_marked ≡ true
marked_then state phased k o runs c main on at e = by (is_carried_out (word_at state (handle_of o.call)) c.offer main) refl e
  where
    by : (b : Bool) → is_carried_out (word_at state (handle_of o.call)) c.offer main ≡ b → (b || o.is_marked) ≡ true → (mark_one (marks_by state (Some o)) (operation_after state o)).is_marked ≡ true
    by true carried e = marks_mark (marks_by state (Some o)) (operation_after state o) (marks_itself state phased k o runs c main on at carried)
    by false carried e =
        stays_marked (marks_by state (Some o)) (operation_after state o)
        (ap (mark_after o.is_marked) (ap (line_action state o) on) ∙ complete_mark o.is_marked c ∙ e)

fits_by : (state : State) {past : Record} → Ending state past → (s : Step) (k : ℕ) (found : Operation) → Comes state s k found → copies found.call ≡ true →
    Fits found.call found.is_marked found.line
unfolding AllFit
fits_by state h s k found (began call number step_is d it) is =
    subst (λ (x : Operation). Fits x.call x.is_marked x.line) (sym it) (first_fits call (subst (λ (x : Operation). copies x.call ≡ true) it is) false)
fits_by state h s k found (rested was at_k it other) is =
    let same = it ∙ mark_only (marks_in state s) was in
    let its : copies was.call ≡ true = subst (λ (x : Operation). copies x.call ≡ true) same is in
    subst (λ (x : Operation). Fits x.call x.is_marked x.line) (sym same)
    (fits_more was.call was.is_marked (mark_one (marks_in state s) was).is_marked was.line (stays_marked (marks_in state s) was) (h.fit k was at_k its))
fits_by state h s k found (went was step_is at_k g it) is =
    let next : Operation = operation_after state was in
    let m = marks_by state (Some was) in
    let same = it ∙ ap (λ x. mark_one x next) (own_marks state s k was step_is at_k) ∙ mark_only m next in
    let its : copies was.call ≡ true = subst (λ (x : Operation). copies x.call ≡ true) same is in
    subst (λ (x : Operation). Fits x.call x.is_marked x.line) (sym same)
    (line_fits state was its (mark_one m next).is_marked (marked_then state h.phased k was at_k) was.line refl g was.is_marked (h.fit k was at_k its))
fits_by state h s k found (gave was answer step_is at_k may it) is =
    subst (λ (x : Operation). Fits x.call x.is_marked x.line) (sym it)
    (subst (λ r. Fits was.call was.is_marked (line.End r))
    (gave_refused was.call was.is_marked was.line answer (h.fit k was at_k (subst (λ (x : Operation). copies x.call ≡ true) it is)) may) (refused_fits was.call was.is_marked))

ending_of : (limits : Bounds) (steps : List Step) → Ending (run limits steps) (record_of limits steps)
unfolding AllFit
ending_of limits =
    along_with limits Ending (record { phased = first_phased limits; fit = λ k o runs. absurd (nobody limits k o runs) })
    (λ steps s o after m h. record {
      phased = phased_kept (run limits steps) (record_of limits steps) s o after m h.phased;
      fit = λ k found at_k. fits_by (run limits steps) h s k found (comes (run limits steps) s o after m k found at_k);
    })

-- ---- so it is on such a line
pub copy_fits_line : (limits : Bounds) (steps : List Step) (actor : ℕ) (o : Operation) → operation_of (run limits steps) actor ≡ Some o → copies o.call ≡ true →
    Fits o.call o.is_marked o.line
unfolding AllFit
copy_fits_line limits steps actor o runs is =
    let at : (k : ℕ) × (actor ≡ suc k) × Runs (run limits steps) k o = place_of_actor (run limits steps) actor o runs in
    (ending_of limits steps).fit at.0 o at.2 is

-- ---- it is marked just where it is to answer so
pub ends_marked : (limits : Bounds) (steps : List Step) (actor : ℕ) (o : Operation) (answer : Reply) → operation_of (run limits steps) actor ≡ Some o → copies o.call ≡ true →
    o.line ≡ line.End answer → o.is_marked ≡ tells_effect o.call answer
unfolding AllFit
ends_marked limits steps actor o answer runs is on = by (tells_effect o.call answer) refl
  where
    h : Ending (run limits steps) (record_of limits steps)
    h = ending_of limits steps

    at : (k : ℕ) × (actor ≡ suc k) × Runs (run limits steps) k o
    at = place_of_actor (run limits steps) actor o runs

    answers : o.is_marked ≡ true → tells_effect o.call answer ≡ true
    answers marked = elim (h.phased.done at.0 o at.2 marked) [
      | inl goes ↦ let wrong : line.End answer ≡ line.Copy (copy.Complete goes.0) = sym on ∙ goes.1 in absurd (cc wrong)
      | inr ends ↦
          let ends_both : line.End answer ≡ line.End (copied_reply o.call o.opens) = sym on ∙ ends in
          let same : answer ≡ copied_reply o.call o.opens = cc ends_both in
          ap (tells_effect o.call) same ∙ copied_tells o.call o.opens
    ]

    by : (b : Bool) → tells_effect o.call answer ≡ b → o.is_marked ≡ b
    by true tells = (subst (λ l. Fits o.call o.is_marked l) on (h.fit at.0 o at.2 is)).0 tells
    by false tells = elim (cases_Bool o.is_marked) [
      | inl marked ↦ absurd (false≢true (sym tells ∙ answers marked))
      | inr not_yet ↦ not_yet
    ]
