-- What comes of a call in a number of tries, in the words of histories.
use Rattle.std.proofs.Common.{◌≡◌, ◌⊎◌, inl, inr, ◌++◌, refl, sym, ap, subst, ◌∙◌, ℕ, false, List, append_assoc, Option, None, Result, Ok, Err, IfOk}
use Rattle.history.specs.declared.calls.Call.{Call}
use Rattle.history.specs.declared.calls.Call.TheVariants.{Get, Put, PutIfAbsent, Replace, ReplaceIf, Remove, RemoveIf, Clear, Snapshot, Freeze, Close, Entries, Count}
use Rattle.history.specs.declared.replies.Reply.{Reply}
use Rattle.history.specs.declared.replies.Reply.TheVariants as reply
use Rattle.lock_free.specs.declared.call_errors.CallError.{CallError}
use Rattle.lock_free.specs.declared.parked_seats.Tried.{Tried}
use Rattle.lock_free.specs.declared.parked_seats.Tried.TheVariants as plain
use Rattle.lock_free.specs.Answers.{OthersTellNothing}
use Rattle.lock_free.specs.Denials.{DenialsTellHandles}
use Rattle.lock_free.specs.KeyReplies.{FitsCall, TellsTruth, TellsValue}
use Rattle.lock_free.specs.Places.{AreSizes}
use Rattle.lock_free.specs.Seated.{HasGoneOn, Seated}
use Rattle.lock_free.specs.Telling.{GoesOn, HistoriesGoOn}
use Rattle.lock_free.specs.TriedCalls as lf
use Rattle.concurrent_map.specs.Calls.{WasAnswered}
use Rattle.concurrent_map.specs.Seats.{SeatState, state_of_seat}
use Rattle.concurrent_map.specs.Tries.{of_map, opened_by, HasTried, IsAnswer, IsReply, IsUnderWay, NeverBegan}
use Rattle.concurrent_map.proofs.Told.{denied_copy, told_copy, told_reply_of, was_not_made}

-- ---- seats go on

goes_on_further : {X : Type 0} (xs ys zs : List X) → GoesOn xs ys → GoesOn ys zs → GoesOn xs zs
goes_on_further {X} xs ys zs (more, e) (most, f) = (more ++ most, f ∙ ap (λ l. l ++ most) e ∙ append_assoc xs more most)

pub gone_further : (s t u : Seated) → HasGoneOn s t → HasGoneOn t u → HasGoneOn s u
gone_further s t u a b = record {
  table = b.table ∙ a.table;
  sizes = b.sizes ∙ a.sizes;
  actor = b.actor ∙ a.actor;
  last = b.last ∙ a.last;
  goes_on = goes_on_further s.view.account.steps t.view.account.steps u.view.account.steps a.goes_on b.goes_on;
}

-- ---- a call that is over

value_none : (answer : Reply) → TellsValue answer → opened_by answer ≡ None
value_none (reply.Found value) is = refl
value_none answer is = elim is [ ]

truth_none : (answer : Reply) → TellsTruth answer → opened_by answer ≡ None
truth_none (reply.Truth truth) is = refl
truth_none answer is = elim is [ ]

cleared_none : (answer : Reply) → answer ≡ reply.Cleared → opened_by answer ≡ None
cleared_none answer is = ap opened_by is

module _ (go_on : HistoriesGoOn) (others : OthersTellNothing) (denials : DenialsTellHandles) (s t : Seated) (call : Call) (sizes : AreSizes s.view.sizes) (on : HasGoneOn s t) where
  copied : (told : Result Reply CallError) → lf.IsToldHandle s.view call told t.view → IsReply (state_of_seat s) call told (state_of_seat t)
  copied (Ok (reply.Opened number)) is = told_copy s t call (Ok number) go_on others denials sizes on is
  copied (Err why) is = denied_copy s t call go_on others denials sizes on why is
  copied (Ok answer) is = elim is [ ]

  -- a call that opens no handle
  replied : ((answer : Reply) → FitsCall call answer → opened_by answer ≡ None) → (told : Result Reply CallError) → lf.IsToldBy false s.view call told t.view → IfOk told (FitsCall call) →
      IsReply (state_of_seat s) call told (state_of_seat t)
  replied opens_none (Ok answer) is fits =
      subst (λ (n : Option ℕ). WasAnswered (state_of_seat s) call n answer (state_of_seat t)) (sym (opens_none answer fits))
      (told_reply_of (λ r. r) s t call (Ok answer) go_on others denials sizes on is)
  replied opens_none (Err why) is fits = (None, told_reply_of (λ r. r) s t call (Err why) go_on others denials sizes on is)

module _ (go_on : HistoriesGoOn) (others : OthersTellNothing) (denials : DenialsTellHandles) (s t : Seated) (sizes : AreSizes s.view.sizes) (on : HasGoneOn s t) where
  replied_to : (call : Call) (told : Result Reply CallError) → lf.HasTold s.view call told t.view → IsReply (state_of_seat s) call told (state_of_seat t)
  replied_to (Get h k) told has = replied go_on others denials s t (Get h k) sizes on value_none told has.is has.fits
  replied_to (Put h k v) told has = replied go_on others denials s t (Put h k v) sizes on value_none told has.is has.fits
  replied_to (PutIfAbsent h k v) told has = replied go_on others denials s t (PutIfAbsent h k v) sizes on value_none told has.is has.fits
  replied_to (Replace h k v) told has = replied go_on others denials s t (Replace h k v) sizes on value_none told has.is has.fits
  replied_to (ReplaceIf h k a b) told has = replied go_on others denials s t (ReplaceIf h k a b) sizes on truth_none told has.is has.fits
  replied_to (Remove h k) told has = replied go_on others denials s t (Remove h k) sizes on value_none told has.is has.fits
  replied_to (RemoveIf h k v) told has = replied go_on others denials s t (RemoveIf h k v) sizes on truth_none told has.is has.fits
  replied_to (Clear h) told has = replied go_on others denials s t (Clear h) sizes on cleared_none told has.is has.fits
  replied_to (Snapshot h) told has = copied go_on others denials s t (Snapshot h) sizes on told has.is
  replied_to (Freeze h) told has = copied go_on others denials s t (Freeze h) sizes on told has.is
  replied_to (Close h) told has = replied go_on others denials s t (Close h) sizes on (λ answer fits. absurd fits) told has.is has.fits
  replied_to (Entries h) told has = replied go_on others denials s t (Entries h) sizes on (λ answer fits. absurd fits) told has.is has.fits
  replied_to (Count h) told has = replied go_on others denials s t (Count h) sizes on (λ answer fits. absurd fits) told has.is has.fits

  answered : (call : Call) (told : Result Reply CallError) → lf.HasTold s.view call told t.view → IsAnswer (state_of_seat s) call told (state_of_seat t)
  answered call told has = record { is = replied_to call told has; fits = has.fits; why = has.why }

-- ---- what has been tried

module _ (go_on : HistoriesGoOn) (others : OthersTellNothing) (denials : DenialsTellHandles) (s : Seated) (call : Call) (sizes : AreSizes s.view.sizes) where
  tried_of : (result : Tried) → lf.GoesOnAs s result → lf.HasTriedCall s.view call result → HasTried (state_of_seat s) call (of_map result)
  tried_of (plain.Answered seat told) on has = answered go_on others denials s seat sizes on call told has
  tried_of (plain.Parked seat) on has = record { first = s; was = refl; later = on; parked = has }

  never_of : (result : Tried) → lf.GoesOnAs s result → lf.NeverBegan s.view result → NeverBegan (state_of_seat s) (of_map result)
  never_of (plain.Answered seat told) on (out, waited) = (out, was_not_made s seat go_on others sizes on waited)
  never_of (plain.Parked seat) on never = elim never [ ]

-- of a seat that was at rest
pub tried_told : (s : Seated) (before : SeatState) (call : Call) (result : Tried) → state_of_seat s ≡ before → HistoriesGoOn → OthersTellNothing → DenialsTellHandles → AreSizes s.view.sizes →
    lf.GoesOnAs s result → lf.HasTriedCall s.view call result ⊎ lf.NeverBegan s.view result → HasTried before call (of_map result) ⊎ NeverBegan before (of_map result)
tried_told s before call result same go_on others denials sizes on (inl has) = inl (subst (λ b. HasTried b call (of_map result)) same (tried_of go_on others denials s call sizes result on has))
tried_told s before call result same go_on others denials sizes on (inr never) = inr (subst (λ b. NeverBegan b (of_map result)) same (never_of go_on others denials s call sizes result on never))

later_as : (s t : Seated) → HasGoneOn s t → (result : Tried) → lf.GoesOnAs t result → lf.GoesOnAs s result
later_as s t on (plain.Answered seat told) further = gone_further s t seat on further
later_as s t on (plain.Parked seat) further = gone_further s t seat on further

-- of one whose call is under way
pub tried_on : (s : Seated) (before : SeatState) (call : Call) (result : Tried) → HistoriesGoOn → OthersTellNothing → DenialsTellHandles → AreSizes s.view.sizes → lf.GoesOnAs s result →
    (way : IsUnderWay before call s) → lf.HasTriedCall way.first.view call result → HasTried before call (of_map result)
tried_on s before call result go_on others denials sizes on way has =
    subst (λ b. HasTried b call (of_map result)) way.was
    (tried_of go_on others denials way.first call (subst AreSizes way.later.sizes sizes) result (later_as way.first s way.later result on) has)
