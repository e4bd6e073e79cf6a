-- What a seat was answered, and that it rests, is so too once some of what it has retired is free again, for it or for others.
use Rattle.history.specs.declared.calls.Call.{Call}
use Rattle.history.specs.declared.replies.Reply.{Reply}
use Rattle.std.proofs.Common.{◌≡◌, ◌∙◌, ℕ, None, Option, ap, refl, sym, subst}
use Rattle.lock_free.specs.declared.rules.View.{View}
use Rattle.lock_free.specs.Answering.{HasAnswered}
use Rattle.lock_free.specs.Attempts.{HasEndedWith}
use Rattle.lock_free.specs.CellWords.{HasTidied}
use Rattle.lock_free.specs.SeatWords.{left_by}
use Rattle.lock_free.specs.WholeCalls.{RestsWith, SameSeat}
use Rattle.lock_free.proofs.CallBegins as call

module _ (w x : View) (h : HasTidied w x) where
  is_so : x ≡ record w { epoch = x.epoch; passed = x.passed; pool = x.pool; drafts = x.drafts; retired = x.retired; links = x.links }
  is_so =
      let mid = h.1.is in
      let last = h.2.is ∙ ap (λ (y : View). record y { pool = x.pool; drafts = x.drafts }) mid in
      last ∙ ap (λ (y : View). record w { epoch = y.epoch; passed = y.passed; pool = x.pool; drafts = x.drafts; retired = y.retired; links = y.links }) (sym h.2.is ∙ refl)

  pub answered_tidied : (v : View) (c : Call) (opens : Option ℕ) (answer : Reply) → HasAnswered v c opens answer w → HasAnswered v c opens answer x
  answered_tidied v c opens answer a = subst (HasAnswered v c opens answer) (sym is_so) (record {
    continues = record { sizes = a.continues.sizes; actor = a.continues.actor; goes_on = a.continues.goes_on };
    id = a.id;
    answers = a.answers;
    earlier = a.earlier;
    meanwhile = a.meanwhile;
    others = a.others;
    since = a.since;
    is = a.is;
  })

  pub same_tidied : (v : View) → SameSeat v w → SameSeat v x
  same_tidied v s = subst (SameSeat v) (sym is_so) (record { sizes = s.sizes; actor = s.actor; last = s.last; goes_on = s.goes_on })

  pub rests_tidied : (opens : Option ℕ) → RestsWith w opens → RestsWith x opens
  rests_tidied opens r = subst (λ y. RestsWith y opens) (sym is_so) (record { idle = r.idle; pin = r.pin; entered = r.entered; opens_it = r.opens_it })

-- ---- the seat has reserved no number where it had none when its operation ended

pub ended_unopened : (v x : View) (answer : Reply) → HasEndedWith v answer x → v.opens ≡ None → x.opens ≡ None
ended_unopened v x answer e none =
    ap (λ (z : View). z.opens) e.ended.after_is ∙ ap (left_by e.ended.operation.is_marked) (call.opens_run v e.late e.on ∙ none) ∙ call.left_none e.ended.operation.is_marked
