-- What holds of operations whatever stands in memory: their handle is open until they end, a reader changes nothing, and their epoch is the present one or the one
-- before it; the present one where the sweep has passed their actor.
use Rattle.std.proofs.Common.{◌≡◌, ℕ, zero, suc, ◌+◌, ◌-◌, ◌<◌, ◌≤◌, ◌==◌, ◌||◌, Bool, true, false, cond, nat_le, is_some, List, ◌∷◌, map, length, get_or, set, Option, Some, None}
use Rattle.std.proofs.Common.{refl, sym, ap, ◌∙◌, subst, inl, inr, eqb-true, eq-eqb, leb-false, arith, []}
use Rattle.std.proofs.lemmas.Bool.{cases_eq, cases_lt, cases_Bool, false≢true, cond_both, or_left, or_right, or_cases}
use Rattle.std.proofs.lemmas.Option.{none-some}
use Rattle.std.proofs.Math.ListN.{get_or-map}
use Rattle.std.proofs.lemmas.List.{length-map, get_or_past, get_or-set_same}
use Rattle.std.specs.List.{list_any}
use Rattle.proof_memory.specs.Vocabulary.{ReadOnly, Call, Close, Swept, Reclaimer, sweep_by, is_passed, ripe, Ref, Operation, Action, Line, Root, RootWord, Plain, Offer, Descriptor, Outcome, Step}
use Rattle.proof_memory.specs.Vocabulary.{handle_of, needs_writable, is_close, State, root_at, operation_of, with_word, with_root, rewritten, action_of, line_action, first_line, operation_after}
use Rattle.proof_memory.specs.Vocabulary.{gone, acted, opened, opened_root, carried_out, new_root_taken, if_changed, settled, begin_denial, with_begin, handle_closed, runs_on, names, pin_of}
use Rattle.proof_memory.specs.Vocabulary.{reclaimer_of, Begins, Ends, Sweeps, GivesUp, Moves, GoesOn, begun_operation}
use Rattle.machine_model.specs.declared.actions.Action.TheVariants as act
use Rattle.machine_model.specs.declared.lines.Line.TheVariants as line
use Rattle.machine_model.specs.Moves.{Goes}
use Rattle.machine_model.proofs.Actors.{IsOf, mark_one, mark_only, marks_in, marks_by}
use Rattle.machine_model.proofs.Frames.{IsFramed, acted_framed}
use Rattle.machine_model.proofs.Found.{found_elsewhere, found_within}
use Rattle.proof_memory.specs.Laws.{is_end}
use Rattle.proof_memory.proofs.Safety.EachStep.{each_after}

-- ---- a reader's call changes nothing

abbrev pub Fits : Operation → Type 0
Fits operation = operation.access ≡ ReadOnly → needs_writable operation.call ≡ false

begun_fits : (state : State) (actor : ℕ) (call : Call) (number : Option ℕ) → begin_denial state actor call number ≡ None → Fits (begun_operation state call number)
begun_fits state actor call number d a = grind arith

marked_fits : (m : Option ℕ) (operation : Operation) → Fits operation → Fits (mark_one m operation)
marked_fits m operation h = rw (mark_only m operation) h

-- ---- open handles

-- an operation's handle is open, until it is to end
abbrev pub HasHandle : State → Operation → Type 0
HasHandle state operation = (is_end operation.line || is_some (root_at state (handle_of operation.call))) ≡ true

-- a handle that is open stays so
abbrev IsOpen : State → ℕ → Type 0
IsOpen state handle = is_some (root_at state handle) ≡ true

some_rewritten : (word : RootWord) (o : Option Root) → is_some (rewritten word o) ≡ is_some o
some_rewritten word None = refl
some_rewritten word (Some root) = refl

-- what is found is a place in the list
some_within : (xs : List (Option Root)) (k : ℕ) → is_some (get_or xs k None) ≡ true → k < length xs
some_within xs k h = elim (cases_lt k (length xs)) [ inl within ↦ within | inr past ↦ absurd (false≢true (sym (ap is_some (get_or_past xs k None past)) ∙ h)) ]

-- written by what is there as well
written_open : (xs : List (Option Root)) (at handle : ℕ) (put : Option Root) → (is_some (get_or xs at None) ≡ true → is_some put ≡ true) → is_some (get_or xs handle None) ≡ true →
    is_some (get_or (set xs at put) handle None) ≡ true
written_open xs at handle put keeps h = elim (cases_eq handle at) [
  | inl same ↦ ap is_some (ap (λ k. get_or (set xs at put) k None) same ∙ get_or-set_same xs at put None (subst (λ k. k < length xs) same (some_within xs handle h)))
      ∙ keeps (subst (λ k. is_some (get_or xs k None) ≡ true) same h)
  | inr other ↦ ap is_some (found_elsewhere xs at handle put other) ∙ h
]

word_open : (state : State) (at handle : ℕ) (word : RootWord) → IsOpen state handle → IsOpen (with_word state at word) handle
word_open state at handle word h = written_open state.roots at handle (rewritten word (root_at state at)) (λ e. some_rewritten word (root_at state at) ∙ e) h

root_open : (state : State) (at handle : ℕ) (root : Root) → IsOpen state handle → IsOpen (with_root state at (Some root)) handle
root_open state at handle root h = written_open state.roots at handle (Some root) (λ e. refl) h

-- by a test
test_open : (b : Bool) (changed same : State) (handle : ℕ) → IsOpen changed handle → IsOpen same handle → IsOpen (if_changed b changed same) handle
test_open true changed same handle h g = h
test_open false changed same handle h g = g

opened_open : (state : State) (offer : Descriptor) (opens : Option ℕ) (handle : ℕ) → IsOpen state handle → IsOpen (opened state offer opens) handle
opened_open state offer None handle h = h
opened_open state offer (Some at) handle h = root_open state at handle (opened_root offer offer.second) h

completed_by : (state : State) (at handle : ℕ) (offer : Descriptor) (b : Bool) → IsOpen state handle →
    IsOpen (cond b (carried_out state at offer) (with_word state at (Plain offer.root))) handle
completed_by state at handle offer true h = opened_open (with_word state at (Plain offer.successor)) offer offer.opens handle (word_open state at handle (Plain offer.successor) h)
completed_by state at handle offer false h = word_open state at handle (Plain offer.root) h

taken_open : (state : State) (main : Ref) (made : Option Ref) (handle : ℕ) → IsOpen state handle → IsOpen (new_root_taken state main made) handle
taken_open state main None handle h = h
taken_open state main (Some made) handle h = h

acted_open : (state : State) (at : ℕ) (action : Action) (handle : ℕ) → IsOpen state handle → IsOpen (acted state at action) handle
acted_open state at (act.Abort offer) handle h = test_open _ _ state handle (word_open state at handle (Plain offer.root) h) h
acted_open state at (act.Offer offer) handle h = test_open _ _ state handle (word_open state at handle (Offer offer) h) h
acted_open state at (act.Complete offer main) handle h = test_open _ _ state handle (completed_by state at handle offer (main == offer.expected) h) h
acted_open state at (act.MakeRoot main) handle h = taken_open state main _ handle h
acted_open state at action handle h = h

-- a begin leaves the roots, but for that of the handle that it closes
pub closed_root : (state : State) (call : Call) (handle : ℕ) → (is_close call ≡ true → handle ≡ handle_of call → ⊥) → root_at (handle_closed state call) handle ≡ root_at state handle
closed_root state call handle other =
    cond_both (is_close call) _ _ (λ (s : State). root_at s handle ≡ root_at state handle) (λ e. found_elsewhere state.roots (handle_of call) handle None (other e)) (λ e. refl)

-- a handle on which an operation runs isn't closed
pub running_on : (actors : List (Option Operation)) (k : ℕ) (operation : Operation) → get_or actors k None ≡ Some operation → list_any (names (handle_of operation.call)) actors ≡ true
running_on [] k operation e = absurd (none-some operation e)
running_on (o ∷ actors) zero operation e =
    or_left _ _ (subst (λ x. names (handle_of operation.call) x ≡ true) (sym e) (eq-eqb (handle_of operation.call) (handle_of operation.call) refl))
running_on (o ∷ actors) (suc k) operation e = or_right _ _ (running_on actors k operation e)

pub close_denied : (state : State) (actor : ℕ) (call : Call) (number : Option ℕ) → begin_denial state actor call number ≡ None → is_close call ≡ true → runs_on state (handle_of call) ≡ true → ⊥
close_denied state actor call number d c r = grind arith

pub handle_given : (state : State) (actor : ℕ) (call : Call) (number : Option ℕ) → begin_denial state actor call number ≡ None → is_some (root_at state (handle_of call)) ≡ true
handle_given state actor call number d = grind arith

pub close_ends : (call : Call) → is_close call ≡ true → is_end (first_line call) ≡ true
close_ends (Close h) e = refl
close_ends call e = absurd (false≢true e)

pub goes_no_end : (state : State) (operation : Operation) (l : Line) → GoesOn (line_action state operation l) → is_end l ≡ true → ⊥
goes_no_end state operation (line.End answer) g e = g
goes_no_end state operation l g e = false≢true e

-- each step keeps that
module _ (state : State) (all : (k : ℕ) (operation : Operation) → get_or state.actors k None ≡ Some operation → HasHandle state operation) where
  begun_handle : (actor : ℕ) (call : Call) (number : Option ℕ) (k : ℕ) → actor ≡ suc k → begin_denial state actor call number ≡ None →
      HasHandle (settled state (with_begin state actor call (begun_operation state call number))) (begun_operation state call number)
  begun_handle actor call number k own d = elim (cases_Bool (is_close call)) [
    | inl c ↦ or_left _ _ (close_ends call c)
    | inr c ↦ or_right _ _ (ap is_some (closed_root state call (handle_of call) (λ e same. false≢true (sym c ∙ e))) ∙ handle_given state actor call number d)
  ]

  -- a handle that is open before a step of an operation
  open_of : (operation : Operation) → (is_end operation.line ≡ true → ⊥) → HasHandle state operation → IsOpen state (handle_of operation.call)
  open_of operation other h = elim (or_cases _ _ h) [ inl e ↦ absurd (other e) | inr e ↦ e ]

  gone_handle : (actor : ℕ) (operation : Operation) (k : ℕ) → actor ≡ suc k → operation_of state actor ≡ Some operation → GoesOn (action_of state operation) → HasHandle state operation →
      HasHandle (settled state (gone state actor operation)) (mark_one (marks_by state (Some operation)) (operation_after state operation))
  gone_handle actor operation k own is g h =
      rw (mark_only (marks_by state (Some operation)) (operation_after state operation))
      (or_right _ _ (acted_open _ (handle_of operation.call) (action_of state operation) (handle_of operation.call) (open_of operation (goes_no_end state operation operation.line g) h)))

  kept_handle : (after : State) (operation : Operation) → ((handle : ℕ) → handle ≡ handle_of operation.call → IsOpen state handle → IsOpen after handle) →
      HasHandle state operation → HasHandle after operation
  kept_handle after operation keeps h = elim (or_cases _ _ h) [ inl e ↦ or_left _ _ e | inr e ↦ or_right _ _ (keeps (handle_of operation.call) refl e) ]

  other_handle : (s : Step) (o : Outcome) (after : State) → Moves state s o after → (k : ℕ) → (IsOf (suc k) s → ⊥) → (operation : Operation) → get_or state.actors k None ≡ Some operation →
      HasHandle state operation → HasHandle after (mark_one (marks_in state s) operation)
  other_handle s o after (Begins {actor} {call} {number} d) k other operation found h =
      kept_handle after operation
      (λ handle same open_now. ap is_some (closed_root state call handle
      (λ c e. close_denied state actor call number d c (subst (λ x. runs_on state x ≡ true) (sym same ∙ e) (running_on state.actors k operation found)))) ∙ open_now) h
  other_handle s o after (Goes {actor} {operation = mover} d is a g) k other operation found h =
      rw (mark_only (marks_in state s) operation)
      (kept_handle after operation (λ handle same open_now. acted_open _ (handle_of mover.call) (action_of state mover) handle open_now) h)
  other_handle s o after (Ends {actor} {operation = mover} d is a) k other operation found h =
      rw (mark_only (marks_in state s) operation) (kept_handle after operation (λ handle same open_now. open_now) h)
  other_handle s o after (GivesUp d is a) k other operation found h = kept_handle after operation (λ handle same open_now. open_now) h
  other_handle s o after (Sweeps spent) k other operation found h = kept_handle after operation (λ handle same open_now. open_now) h

  pub handles_after : (s : Step) (o : Outcome) (after : State) → Moves state s o after → (k : ℕ) (found : Operation) → get_or after.actors k None ≡ Some found → HasHandle after found
  handles_after = each_after state (λ k operation. HasHandle state operation)
      (λ after k operation. HasHandle after operation) all begun_handle gone_handle (λ actor operation answer k own is a h. refl) other_handle

-- ---- a reader stays one

pub fits_after : (state : State) → ((k : ℕ) (operation : Operation) → get_or state.actors k None ≡ Some operation → Fits operation) →
    (s : Step) (o : Outcome) (after : State) → Moves state s o after → (k : ℕ) (found : Operation) → get_or after.actors k None ≡ Some found → Fits found
fits_after state all =
    each_after state (λ k operation. Fits operation) (λ after k operation. Fits operation) all (λ actor call number k own d. begun_fits state actor call number d)
    (λ actor operation k own is g h. marked_fits _ (operation_after state operation) h) (λ actor operation answer k own is a h. h) (λ s o after m k other operation found h. marked_fits _ operation h)

-- ---- epochs

-- an epoch recorded by the actor of this place is recent
abbrev Recent : ℕ → ℕ → ℕ → ℕ → Type 0
Recent now cursor k recorded = (recorded ≤ now) × (now ≤ recorded + 1) × (suc k < cursor → recorded ≡ now)

abbrev pub IsRecent : State → ℕ → Operation → Type 0
IsRecent state k operation = Recent state.epoch state.cursor k operation.epoch

-- a scan passes an actor only with the present epoch
scanned_recent : (pins : List (Option ℕ)) (now cursor k recorded : ℕ) (passed : Bool) → get_or pins k None ≡ Some recorded → is_passed now (get_or pins (cursor - 1) None) ≡ passed →
    Recent now cursor k recorded → Recent now (cursor + (cond passed 1 0)) k recorded
scanned_recent pins now cursor k recorded false at_k e h = (h.0, h.1, λ below. h.2 (omega arith))
scanned_recent pins now cursor k recorded true at_k e h = (
  h.0,
  h.1,
  λ below. elim (cases_eq k (cursor - 1)) [
    | inl same ↦ eqb-true recorded now (sym (ap (is_passed now) (ap (λ i. get_or pins i None) (sym same) ∙ at_k)) ∙ e)
    | inr other ↦ h.2 (omega arith)
  ],
)

swept_recent : (pins : List (Option ℕ)) (r : Reclaimer) (due : Option Ref) (k recorded : ℕ) → k < length pins → get_or pins k None ≡ Some recorded → Recent r.epoch r.cursor k recorded →
    Recent (sweep_by pins r due).1.epoch (sweep_by pins r due).1.cursor k recorded
swept_recent pins r (Some at) k recorded within at_k h = h
swept_recent pins r None k recorded within at_k h =
    cond_both (nat_le r.cursor (length pins)) _ _ (λ (done : Swept × Reclaimer). Recent done.1.epoch done.1.cursor k recorded)
    (λ e. scanned_recent pins r.epoch r.cursor k recorded (is_passed r.epoch (get_or pins (r.cursor - 1) None)) at_k refl h)
    (λ e. let present : recorded ≡ r.epoch = h.2 (omega (arith, leb-false r.cursor (length pins) e)) in (omega arith, omega arith, λ below. absurd (omega arith)))

-- the epoch and the cursor after a begin
pub begin_times : (state : State) (actor : ℕ) (call : Call) (operation : Operation) →
    ◌≡◌ {A = ℕ × ℕ} ((with_begin state actor call operation).epoch, (with_begin state actor call operation).cursor) (state.epoch, state.cursor)
begin_times state actor call operation = grind arith

framed_recent : (before after : State) → IsFramed before after → (k recorded : ℕ) → Recent before.epoch before.cursor k recorded → Recent after.epoch after.cursor k recorded
framed_recent before after f k recorded h = rw (f.epoch) (rw (f.cursor) h)

module _ (state : State) (all : (k : ℕ) (operation : Operation) → get_or state.actors k None ≡ Some operation → IsRecent state k operation) where
  begun_recent : (actor : ℕ) (call : Call) (number : Option ℕ) (k : ℕ) → actor ≡ suc k → begin_denial state actor call number ≡ None →
      IsRecent (settled state (with_begin state actor call (begun_operation state call number))) k (begun_operation state call number)
  begun_recent actor call number k own d =
      subst (λ (p : ℕ × ℕ). Recent p.0 p.1 k state.epoch) (sym (begin_times state actor call (begun_operation state call number))) (omega arith, omega arith, λ below. refl)

  gone_recent : (actor : ℕ) (operation : Operation) (k : ℕ) → actor ≡ suc k → operation_of state actor ≡ Some operation → GoesOn (action_of state operation) → IsRecent state k operation →
      IsRecent (settled state (gone state actor operation)) k (mark_one (marks_by state (Some operation)) (operation_after state operation))
  gone_recent actor operation k own is g h =
      rw (mark_only (marks_by state (Some operation)) (operation_after state operation))
      (framed_recent _ _ (acted_framed _ (handle_of operation.call) (action_of state operation)) k operation.epoch h)

  other_recent : (s : Step) (o : Outcome) (after : State) → Moves state s o after → (k : ℕ) → (IsOf (suc k) s → ⊥) → (operation : Operation) → get_or state.actors k None ≡ Some operation →
      IsRecent state k operation → IsRecent after k (mark_one (marks_in state s) operation)
  other_recent s o after (Begins {actor} {call} {number} d) k other operation found h =
      subst (λ (p : ℕ × ℕ). Recent p.0 p.1 k operation.epoch) (sym (begin_times state actor call (begun_operation state call number))) h
  other_recent s o after (Goes {actor} {operation = mover} d is a g) k other operation found h =
      rw (mark_only (marks_in state s) operation) (framed_recent _ _ (acted_framed _ (handle_of mover.call) (action_of state mover)) k operation.epoch h)
  other_recent s o after (Ends {actor} {operation = mover} d is a) k other operation found h = rw (mark_only (marks_in state s) operation) h
  other_recent s o after (GivesUp d is a) k other operation found h = h
  other_recent s o after (Sweeps spent) k other operation found h =
      swept_recent (map pin_of state.actors) (reclaimer_of state) (ripe state.epoch state.limbo) k operation.epoch
      (omega (arith, found_within state.actors k operation found, length-map state.actors pin_of)) (get_or-map pin_of state.actors k None ∙ ap pin_of found) h

  pub recent_after : (s : Step) (o : Outcome) (after : State) → Moves state s o after → (k : ℕ) (found : Operation) → get_or after.actors k None ≡ Some found → IsRecent after k found
  recent_after = each_after state (IsRecent state) IsRecent all begun_recent gone_recent (λ actor operation answer k own is a h. h) other_recent
