-- A get whose seat glances comes to its end: it counts and is answered, or it has fallen.
use Rattle.history.specs.declared.calls.Call.{Call}
use Rattle.history.specs.declared.calls.Call.TheVariants.{Get}
use Rattle.history.specs.declared.replies.Reply.{Reply}
use Rattle.history.specs.declared.replies.Reply.TheVariants as reply
use Rattle.std.proofs.Common.{◌≡◌, ℕ, Bool, true, false, inl, inr, Option, None, Some, Ok, refl, sym, ap, subst, ◌∙◌}
use Rattle.std.proofs.lemmas.Option.{none-some, same_Some}
use Rattle.machine_model.specs.declared.lines.Line.TheVariants as line
use Rattle.machine_model.specs.declared.operations.Operation.{Operation}
use Rattle.machine_model.specs.GivingUp.{given_up}
use Rattle.lock_free.specs.declared.rules.Glance.{Glance}
use Rattle.lock_free.specs.declared.rules.View.{View}
use Rattle.lock_free.specs.Answering.{HasAnswered}
use Rattle.lock_free.specs.Calling.{CalledOrNot}
use Rattle.lock_free.specs.GivingUp.{given_back}
use Rattle.lock_free.specs.GlanceGets.{GlancesOn, HasGlancedFor, IsGetSince, IsGlanceOf, IsToBegin, KeepsStock, MayStop, WhileItCounts}
use Rattle.lock_free.specs.Glancing.{HasEndedGlance, IsGlancing}
use Rattle.lock_free.specs.Holding.{IsOn}
use Rattle.lock_free.specs.Limbos.{hanging_of}
use Rattle.lock_free.specs.Loading.{IsSound, Runs, now, seen}
use Rattle.lock_free.specs.SeatWords.{left_by, unpinned, HasEnded, IsAtEnd, IsIdle}
use Rattle.lock_free.specs.Shadows.{HasFallen, WasEnded, inner, unpinned_only, was_ended}
use Rattle.lock_free.specs.UnderWay.{IsUnderWay}
use Rattle.lock_free.specs.WholeCalls.{HasLeft, RestsWith}
use Rattle.lock_free.proofs.BetweenCalls.{idle_stock}
use Rattle.lock_free.proofs.CallBegins.{rests_ended, unpinned_waited}
use Rattle.lock_free.proofs.CallsBegun.{late_again, late_keeps, late_still}
use Rattle.lock_free.proofs.CallsRunOn.{at_end}
use Rattle.lock_free.proofs.Comings.{runs_one}
use Rattle.lock_free.proofs.GiveUpStep.{ends_then}
use Rattle.lock_free.proofs.RunningOn.{runs_on_given_up, runs_on_self}
use Rattle.lock_free.proofs.WholeCalls.{tried_ready}
use Rattle.lock_free.specs.BegunCalls.{IsReadyFor}

-- whoever runs something isn't idle
busy : (v : View) (o : Operation) → Runs v o → IsIdle v → ⊥
busy v o runs idle = none-some (record o { is_marked = runs.0 }) (sym idle ∙ runs.1)

none_left : (mark : Bool) → left_by mark None ≡ None
none_left true = refl
none_left false = refl

module _ (n : ℕ) (before : View) (sound : IsSound n before) (rests : RestsWith before None) (handle key : ℕ) (w : View) (it : IsGetSince n before handle key w) (after : View) where
  abbrev call : Call
  call = Get handle key

  ready : IsReadyFor before call
  ready = tried_ready before None rests call tt refl

  -- it has ended since this, which is what it was but for what an operation leaves
  module _ (late : View) (answer : Reply) (hangs : hanging_of late ≡ hanging_of w) (pool : late.pool ≡ w.pool) (last : late.last ≡ w.last) (opens : late.opens ≡ w.opens)
      (ended : HasEnded late answer after) (answered : HasAnswered before call None answer after) where
    ended_left : HasLeft before after
    ended_left = record {
      same = record {
        sizes = answered.continues.sizes;
        actor = answered.continues.actor;
        last = ap (λ (z : View). z.last) ended.after_is ∙ last ∙ ap (λ (z : View). z.last) it.seat;
        goes_on = answered.continues.goes_on;
      };
      rests =
          subst (RestsWith after) (none_left ended.operation.is_marked)
          (rests_ended late after answer None (opens ∙ ap (λ (z : View). z.opens) it.seat ∙ rests.opens_it) ended);
    }

    ended_keeps : KeepsStock before after
    ended_keeps stock owns =
        idle_stock stock before after rests.idle ended.idle (ap hanging_of ended.after_is ∙ hangs ∙ ap hanging_of it.seat)
        (ap (λ (z : View). z.pool) ended.after_is ∙ pool ∙ ap (λ (z : View). z.pool) it.seat) owns

  -- ---- it has fallen

  abbrev Falls : Type 0
  Falls = HasGlancedFor n before call after × HasLeft before after × KeepsStock before after

  module _ (may : MayStop w handle key) (under : IsUnderWay before call None w) (e : WasEnded w after) where
    same : record e.operation { is_marked = false } ≡ record may.operation { is_marked = false }
    same = runs_one w e.operation may.operation e.ran may.runs

    answer_is : e.answer ≡ reply.NoSlots
    answer_is =
        same_Some e.answer reply.NoSlots
        (sym e.may ∙ ap (λ (z : Operation). given_up z.call z.line) same ∙ ap (λ c. given_up c may.operation.line) may.call_is ∙ may.may)

    pool_is : e.at.pool ≡ w.pool
    pool_is =
        ap (λ (z : View). z.pool) e.gave_up.after_is
        ∙ ap (λ l. given_back (now (seen w e.gave_up.account)) e.gave_up.account l w.pool) (ap (λ (z : Operation). z.private) same ∙ may.none)

    answered : HasAnswered before call None e.answer after
    answered = under e.at after e.answer (runs_on_given_up w e.at e.operation e.answer e.ran e.gave_up) (ends_then w e.at e.operation e.answer e.gave_up) e.ended

    given_falls : Falls
    given_falls =
        let hangs = ap hanging_of e.gave_up.after_is in
        let last = ap (λ (z : View). z.last) e.gave_up.after_is in
        let opens = ap (λ (z : View). z.opens) e.gave_up.after_is in (
          inl (subst (λ r. HasAnswered before call None r after) answer_is answered),
          ended_left e.at e.answer hangs pool_is last opens e.ended answered,
          ended_keeps e.at e.answer hangs pool_is last opens e.ended answered,
        )

  module _ (begins : IsToBegin before handle key w) (then : IsSound n after) where
    unpinned_falls : after ≡ unpinned w → Falls
    unpinned_falls is =
        let late : CalledOrNot before call (Ok None) after = (begins.0, w, begins.1, is) in
        let again = late_again before call ready after late None rests in (
          inr (late_still before call ready after late n sound rests then, unpinned_waited before None rests call after begins.0 w begins.1 is),
          record { same = again.0; rests = again.1 },
          late_keeps before call ready after late,
        )

  pub fallen_told : HasFallen w after → IsSound n after → Falls
  fallen_told (unpinned_only idle plain is) then = elim it.at [
    | inl begins ↦ unpinned_falls begins then is
    | inr (may, under) ↦ absurd (busy w may.operation may.runs idle)
  ]
  fallen_told (was_ended e) then = elim it.at [
    | inl (pinned, saw, idle) ↦ absurd (busy w e.operation e.ran idle)
    | inr (may, under) ↦ given_falls may under e
  ]

  -- ---- or it counts

  module _ (value : Option ℕ) (on : IsOn w (line.End (reply.Found value))) (ended : HasEnded w (reply.Found value) after) where
    is_answered : HasAnswered before call None (reply.Found value) after
    is_answered = elim it.at [
      | inl (pinned, saw, idle) ↦ absurd (busy w on.0 on.1 idle)
      | inr (may, under) ↦ under w after (reply.Found value) (runs_on_self w) (at_end w (reply.Found value) on) ended
    ]

    pub counted_told : HasAnswered before call None (reply.Found value) after × HasLeft before after × KeepsStock before after
    counted_told = (
      is_answered,
      ended_left w (reply.Found value) refl refl refl refl ended is_answered,
      ended_keeps w (reply.Found value) refl refl refl refl ended is_answered,
    )

-- ---- as its seat glances

module _ (n : ℕ) (before : View) (sound : IsSound n before) (rests : RestsWith before None) (handle key : ℕ) where
  module _ (w : View) (it : IsGlanceOf n before handle key w) where
    pub glancing_so : IsGlancing n w
    glancing_so = record { glance = it.glance; is = it.is; sound = it.its.sound }

    pub sizes_so : WhileItCounts (λ v. v.sizes ≡ before.sizes) w
    sizes_so g is known = ap (λ (f : Glance). (inner w f).sizes) (same_Some g it.glance (sym is ∙ it.is)) ∙ ap (λ (z : View). z.sizes) it.its.seat

    module _ (after : View) (then : IsSound n after) where
      pub fallen_so : ((g : Glance) → w.glance ≡ Some g → HasFallen (inner w g) after) → HasGlancedFor n before (Get handle key) after × HasLeft before after × KeepsStock before after
      fallen_so fell = fallen_told n before sound rests handle key (inner w it.glance) it.its after (fell it.glance it.is) then

      pub counted_so : (value : Option ℕ) → WhileItCounts (λ v. IsOn v (line.End (reply.Found value))) w → HasEndedGlance w it.glance true after →
          HasAnswered before (Get handle key) None (reply.Found value) after × HasLeft before after × KeepsStock before after
      counted_so value on ended =
          let (known, ends) = ended.0 refl in
          let here = on it.glance it.is known in
          counted_told n before sound rests handle key (inner w it.glance) it.its after value here (ends (reply.Found value) (at_end (inner w it.glance) (reply.Found value) here))

-- it has come to this answer, and has been counted so since it began
module _ (n : ℕ) (mid w : View) (first : Glance) (was : mid.glance ≡ Some first) (count : ℕ) (counted : first.read ≡ count) (value : Option ℕ)
    (on : GlancesOn n (λ x y. IsOn y (line.End (reply.Found value))) mid w) where
  pub on_value : WhileItCounts (λ v. IsOn v (line.End (reply.Found value))) w
  on_value g is known =
      let same = same_Some on.later g (sym on.is ∙ is) in
      subst (λ (h : Glance). IsOn (inner w h) (line.End (reply.Found value))) same (on.told (ap (λ (h : Glance). h.lost) same ∙ known)).1

  pub ends_so : (g : Glance) → w.glance ≡ Some g → (g.read ≡ count) × (g.lost ≡ false → IsAtEnd (inner w g))
  ends_so g is = (
    ap (λ (h : Glance). h.read) (same_Some g on.later (sym is ∙ on.is)) ∙ on.same ∙ ap (λ (h : Glance). h.read) (same_Some on.first first (sym on.was ∙ was)) ∙ counted,
    λ known. (reply.Found value, at_end (inner w g) (reply.Found value) (on_value g is known)),
  )
