-- A call that begins anew once it was refused: what is told of its last try.
use Rattle.std.proofs.Common.{◌≡◌, ◌++◌, ◌∷◌, [], ℕ, Bool, true, false, inl, inr, Option, Some, None, Result, Ok, Err, refl, sym, ap, subst, ◌∙◌, append-nil, append_assoc}
use Rattle.std.proofs.lemmas.List.Elements.{All-append, All-cons, All-nil}
use Rattle.history.specs.declared.calls.Call.{Call}
use Rattle.history.specs.declared.replies.Reply.{Reply}
use Rattle.history.specs.declared.replies.Reply.TheVariants as reply
use Rattle.machine_model.specs.Calls.{opens_handle}
use Rattle.lock_free.specs.CellWords.{HasTidied}
use Rattle.lock_free.specs.declared.call_errors.CallError.{CallError}
use Rattle.lock_free.specs.declared.call_errors.CallError.TheVariants as error
use Rattle.lock_free.specs.declared.rules.View.{View}
use Rattle.lock_free.specs.Answering.{answers_at, HasAnswered}
use Rattle.lock_free.specs.Answers.{Answer}
use Rattle.lock_free.specs.KeyReplies.{TellsHandle}
use Rattle.lock_free.specs.Limbos.{HasReclaimedSome}
use Rattle.lock_free.specs.SlotWaits.{HasToldAtLast, HasTriedInVain, IsInVain, IsRefusalOf, IsToldAtLast, IsToldCopyAtLast}
use Rattle.lock_free.specs.TriedCalls.{HasTold, IsToldBy}
use Rattle.lock_free.specs.WholeCalls.{HasLeft, SameSeat}
use Rattle.lock_free.proofs.CellStock.{given_none}
use Rattle.lock_free.proofs.BetweenCalls.{same_seat, same_seats}
use Rattle.lock_free.proofs.Tidied.{rests_tidied, same_tidied}
use Rattle.lock_free.proofs.TriesTold.{tells_handle, told_number, told_plain, told_refused}

-- ---- refused so far

pub none_in_vain : (v : View) (c : Call) → HasTriedInVain v c v
none_in_vain v c = record {
  same = same_seat v;
  refusals = [];
  answers = sym (append-nil (answers_at v));
  of_call = All-nil (IsRefusalOf c);
}

pub one_more : (v w x : View) (c : Call) (opens : Option ℕ) → HasTriedInVain v c w → SameSeat w x → HasAnswered w c opens reply.NoSlots x → HasTriedInVain v c x
one_more v w x c opens h same a =
    let one : Answer = record { of = record { id = a.id; call = c; opens = opens }; reply = reply.NoSlots } in
    record {
      same = same_seats v w x h.same same;
      refusals = h.refusals ++ one ∷ [];
      answers = a.answers ∙ ap (λ xs. xs ++ one ∷ []) h.answers ∙ append_assoc (answers_at v) h.refusals (one ∷ []);
      of_call = All-append (IsRefusalOf c) h.refusals (one ∷ []) h.of_call (All-cons (IsRefusalOf c) one [] (record { its = refl; refuses = refl }) (All-nil (IsRefusalOf c)));
    }

-- and refused again since then
pub in_vain_both : (v w x : View) (c : Call) → HasTriedInVain v c w → HasTriedInVain w c x → HasTriedInVain v c x
in_vain_both v w x c h k = record {
  same = same_seats v w x h.same k.same;
  refusals = h.refusals ++ k.refusals;
  answers = k.answers ∙ ap (λ xs. xs ++ k.refusals) h.answers ∙ append_assoc (answers_at v) h.refusals k.refusals;
  of_call = All-append (IsRefusalOf c) h.refusals k.refusals h.of_call k.of_call;
}

pub in_vain_tidied : (v w x : View) (c : Call) → HasTriedInVain v c w → HasReclaimedSome w x → HasTriedInVain v c x
in_vain_tidied v w x c h r = subst (HasTriedInVain v c) (sym r.is) (record {
  same = record { sizes = h.same.sizes; actor = h.same.actor; last = h.same.last; goes_on = h.same.goes_on };
  refusals = h.refusals;
  answers = h.answers;
  of_call = h.of_call;
})

-- who was told so has given up
gave_up : (v w : View) (c : Call) (told : Result Reply CallError) → IsInVain told → HasTold v c told w → (opens : Option ℕ) × HasAnswered v c opens reply.NoSlots w
gave_up v w c told (inl full) h = by (opens_handle c) (subst (λ t. HasTold v c t w) full h).is
  where
    by : (b : Bool) → IsToldBy b v c (Err error.Full) w → (opens : Option ℕ) × HasAnswered v c opens reply.NoSlots w
    by true (number, its) = (Some number, its)
    by false its = (None, its)
gave_up v w c told (inr spent) h = by (opens_handle c) (subst (λ t. HasTold v c t w) spent h).is
  where
    by : (b : Bool) → IsToldBy b v c (Err error.Spent) w → (opens : Option ℕ) × HasAnswered v c opens reply.NoSlots w
    by true (number, its) = (Some number, its)
    by false its = (None, its)

pub in_vain_told : (v w x : View) (c : Call) (told : Result Reply CallError) → HasTriedInVain v c w → SameSeat w x → IsInVain told → HasTold w c told x → HasTriedInVain v c x
in_vain_told v w x c told h same vain is = let (opens, its) = gave_up w x c told vain is in one_more v w x c opens h same its

-- ---- at last

pub told_first : (v w : View) (c : Call) (told : Result Reply CallError) → SameSeat v w → HasTold v c told w → HasToldAtLast v c told w
told_first v w c told same h = (v, none_in_vain v c, same, h)

pub left_tidied : (v w x : View) → HasLeft v w → HasReclaimedSome w x → HasLeft v x
left_tidied v w x left r =
    let tidied : HasTidied w x = (x, r, given_none x) in
    record { same = same_tidied w x tidied v left.same; rests = rests_tidied w x tidied None left.rests }

-- of a call that opens no handle
pub plain_at_last : (v w : View) (c : Call) → opens_handle c ≡ false → (told : Result Reply CallError) → HasToldAtLast v c told w → IsToldAtLast (λ r. r) v c told w
plain_at_last v w c plain told (last, h, same, is) = (last, h, same, told_plain last w c plain told is)

-- of a copy
module _ (v w : View) (c : Call) (opens : opens_handle c ≡ true) (told : Result Reply CallError) where
  pub last_tells : HasToldAtLast v c told w → (answer : Reply) → told ≡ Ok answer → TellsHandle answer
  last_tells (last, h, same, its) answer is = tells_handle last w c opens told its answer is

  pub last_number : HasToldAtLast v c told w → (answer : Reply) → told ≡ Ok answer → (n : ℕ) → answer ≡ reply.Opened n → IsToldCopyAtLast v c (Ok n) w
  last_number (last, h, same, its) answer is n e = (last, h, same, told_number last w c opens told its answer is n e)

  pub last_refused : HasToldAtLast v c told w → (why : CallError) → told ≡ Err why → IsToldCopyAtLast v c (Err why) w
  last_refused (last, h, same, its) why is = (last, h, same, told_refused last w c opens told its why is)
