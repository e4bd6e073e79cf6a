-- Where calls stand in a log.
use Rattle.std.specs.Prelude.{◌≡◌, ℕ, ◌+◌, ◌-◌, ◌==◌, List, [], ◌∷◌, ◌++◌, length, slice_get, Some}
use Rattle.std.proofs.Common.{refl, ap, ◌∙◌, inr, eq-eqb, append-nil, append_assoc, arith}
use Rattle.std.proofs.lemmas.List.{length-append}
use Rattle.std.proofs.lemmas.List.Elements.{filter-append}
use Rattle.gate.specs.declared.objects.Entry.{Entry}
use Rattle.gate.specs.Logs.{Logged, entry, calls_of, LogGoesOn}
use Rattle.gate.specs.Seats.{Seated}
use Rattle.gate.specs.Calls.{IsCalled}
use Rattle.gate.specs.Laws.{CallsKeepALogLegal, ACallIsOneEntry, OthersLeaveOwnCalls, LogsGoOn, ToldCallsStandBefore}
use Rattle.gate.proofs.Following.{still_legal}

one_own : {C A : Type 0} (seat : ℕ) (call : C) (answer : A) → calls_of seat (entry seat call answer ∷ []) ≡ entry seat call answer ∷ []
one_own seat call answer = rw (eq-eqb seat seat refl) refl

-- what stands behind the first list, in the two one after the other
at_behind : {X : Type 0} (before : List X) (x : X) (later : List X) → slice_get ((before ++ x ∷ []) ++ later) (length before) ≡ Some x
at_behind [] x later = refl
at_behind (y ∷ before) x later = at_behind before x later

module _ {O C A : Type 0} (answers : ℕ → O → C → A → O → Type 0) where
  pub calls_keep_a_log_legal : CallsKeepALogLegal answers
  calls_keep_a_log_legal seat call answer board now legal called = still_legal answers seat board now legal (inr (call, answer, called))

  pub others_leave_own_calls : OthersLeaveOwnCalls answers
  others_leave_own_calls seat seen board followed =
      ap (λ es. calls_of seat es) followed.log ∙ filter-append (λ (e : Entry C A). e.seat == seat) seen.log followed.rest
      ∙ ap (λ es. calls_of seat seen.log ++ es) followed.others ∙ append-nil (calls_of seat seen.log)

  pub a_call_is_one_entry : ACallIsOneEntry answers
  a_call_is_one_entry before after call answer is =
      let one = entry before.number call answer ∷ [] in
      ap (λ es. calls_of before.number es) is.called.log ∙ filter-append (λ (e : Entry C A). e.seat == before.number) is.board.log one
      ∙ ap (λ es. calls_of before.number is.board.log ++ es) (one_own before.number call answer)
      ∙ ap (λ es. es ++ one) (others_leave_own_calls before.number before.seen is.board is.followed)

  goes_further : (first middle last : Logged O C A) → LogGoesOn first middle → LogGoesOn middle last → LogGoesOn first last
  goes_further first middle last one two = (one.0 ++ two.0, two.1 ∙ ap (λ es. es ++ two.0) one.1 ∙ append_assoc first.log one.0 two.0)

  pub logs_go_on : LogsGoOn answers
  logs_go_on = record {
    called = λ before after call answer is.
        goes_further before.seen is.board after.seen (is.followed.rest, is.followed.log) (entry before.number call answer ∷ [], is.called.log);
    followed = λ seat seen board followed. (followed.rest, followed.log);
    further = goes_further;
  }

  -- a call is one more than the seat found
  one_longer : (before after : Seated O C A) (call : C) (answer : A) (is : IsCalled answers before call answer after) → length after.seen.log ≡ length is.board.log + 1
  one_longer before after call answer is = ap (λ es. length es) is.called.log ∙ length-append is.board.log (entry before.number call answer ∷ [])

  -- and stands where the seat found the log's end
  stands_at : (before after : Seated O C A) (call : C) (answer : A) (is : IsCalled answers before call answer after) (last : Logged O C A) → LogGoesOn after.seen last →
      slice_get last.log (length after.seen.log - 1) ≡ Some (entry before.number call answer)
  stands_at before after call answer is last on =
      let place : length after.seen.log - 1 ≡ length is.board.log = omega (arith, one_longer before after call answer is) in
      ap (λ n. slice_get last.log n) place
      ∙ ap (λ es. slice_get es (length is.board.log)) (on.1 ∙ ap (λ es. es ++ on.0) is.called.log) ∙ at_behind is.board.log (entry before.number call answer) on.0

  pub told_calls_stand_before : ToldCallsStandBefore answers
  told_calls_stand_before one told call answer other later next reply last is knows then on more =
      let found : length then.board.log ≡ length other.seen.log + length then.followed.rest = ap (λ es. length es) then.followed.log ∙ length-append other.seen.log then.followed.rest in (
        omega (arith, one_longer other later next reply then, found, knows),
        stands_at one told call answer is last on,
        stands_at other later next reply then last more,
      )
