-- Calls are answered in the history.
use Rattle.history.specs.declared.calls.Call.{Call}
use Rattle.history.specs.declared.calls.Call.TheVariants.{Close}
use Rattle.history.specs.declared.events.Event.{Event}
use Rattle.history.specs.declared.events.Event.TheVariants as event
use Rattle.history.specs.declared.replies.Reply.{Reply}
use Rattle.history.specs.declared.replies.Reply.TheVariants as reply
use Rattle.std.proofs.Common.{◌≡◌, ◌++◌, ◌∷◌, [], ℕ, cond, List, Option, Some, None, refl, sym, ap, subst, ◌∙◌, append_assoc}
use Rattle.std.proofs.lemmas.Bool.{eq-eqb}
use Rattle.std.proofs.lemmas.List.Elements.{All-nil}
use Rattle.std.proofs.lemmas.Option.{same_Some}
use Rattle.history.specs.Histories.{IsWellFormed}
use Rattle.machine_model.specs.Beneath.slot_arena.specs.declared.refs.Ref.{Ref}
use Rattle.machine_model.specs.declared.actions.Action.TheVariants as act
use Rattle.machine_model.specs.declared.operations.Operation.{Operation}
use Rattle.machine_model.specs.declared.steps.Step.TheVariants as step
use Rattle.machine_model.specs.GivingUp.{gave_up}
use Rattle.machine_model.specs.Machine.{AreBounds}
use Rattle.machine_model.specs.Operations.{action_of}
use Rattle.proof_linearizable.specs.Beneath.proof_order.proofs.Views.Unconditional.{books_of}
use Rattle.lock_free.specs.declared.accounts.Account.{Account}
use Rattle.lock_free.specs.declared.rules.Checked.{Checked}
use Rattle.lock_free.specs.declared.rules.Pool.{Pool}
use Rattle.lock_free.specs.declared.rules.Retired.{Retired}
use Rattle.lock_free.specs.declared.rules.View.{View}
use Rattle.lock_free.specs.Accounts.{bounds_for, state_of, running, gone_on, HasWaited}
use Rattle.lock_free.specs.Answering.{CallsAreAnswered, ClosesAreAnswered, RefusalsAreAnswered, HasAnswered, IsOfOthers}
use Rattle.lock_free.specs.Answers.{Begun, Talk, after_event, answers_of, talk_of}
use Rattle.lock_free.specs.Beginning.{closed_by}
use Rattle.lock_free.specs.Calling.{first_operation, once_begun, HasBegun}
use Rattle.lock_free.specs.Closing.{with_marks}
use Rattle.lock_free.specs.HandleWords.{ShutBy}
use Rattle.lock_free.specs.Loading.{IsAt, IsSound, Runs}
use Rattle.lock_free.specs.RunningOn.{RunsOn}
use Rattle.lock_free.specs.SeatWords.{HasEnded, once_ended, pinned_for, unpinned}
use Rattle.lock_free.specs.Telling.{history_of, GoesOn}
use Rattle.lock_free.proofs.AnswersTold.{begins_tell_nothing, ends_are_told, others_tell_nothing, runs_told}
use Rattle.lock_free.proofs.Followings.{goes_both}
use Rattle.lock_free.proofs.HistoriesOn.{histories_go_on}
use Rattle.lock_free.proofs.Meanwhile.{only_others}
use Rattle.lock_free.proofs.FreesOn.{let_go_becomes}
use Rattle.lock_free.proofs.RunningOn.{runs_on_become, runs_on_both, runs_on_given_up}
use Rattle.lock_free.proofs.Talks.{talk_push}
use Rattle.lock_free.proofs.Waiting.{waited_both}
use Rattle.lock_free.specs.declared.accounts.OwnOffer.{OwnOffer}

-- one event, more, and one event
put_together : (h x y z : List Event) (a b : Event) (more : List Event) → x ≡ h ++ a ∷ [] → y ≡ x ++ more → z ≡ y ++ b ∷ [] → z ≡ h ++ a ∷ more ++ b ∷ []
put_together h x y z a b more e f g =
    g ∙ ap (λ xs. xs ++ b ∷ []) (f ∙ ap (λ xs. xs ++ more) e ∙ append_assoc h (a ∷ []) more)

-- ---- how a seat goes on

-- ---- what a begin leaves

begun_talk : (actor id : ℕ) (call : Call) (opens : Option ℕ) (history : List Event) →
    (talk_of actor (history ++ event.Begin id actor call opens ∷ [])).runs ≡ Some (record { id = id; call = call; opens = opens })
begun_talk actor id call opens history =
    ap (λ (t : Talk). t.runs) (talk_push actor history (event.Begin id actor call opens))
    ∙ ap (λ b. (cond b (record (talk_of actor history) { runs = Some (record { id = id; call = call; opens = opens }) }) (talk_of actor history)).runs) (eq-eqb actor actor refl)

-- ---- from the begin to the end

module _ (words : ℕ) (before : View) (call : Call) (sound : IsSound words before) (account : Account) (epoch : ℕ) (passed : Checked) (pool : Pool) (drafts : List (ℕ × ℕ)) (opening : Option ℕ)
    (offer : Option OwnOffer) (retired : List Retired) (owed : List Ref) (links : List (ℕ × ℕ)) (begun : Account) (waited : HasWaited before.actor before.account begun)
    (bounds_begun : AreBounds (bounds_for before.sizes begun.steps)) where
  abbrev started : View
  started = once_begun before call begun

  abbrev late : View
  late = record started { account = account; epoch = epoch; passed = passed; pool = pool; drafts = drafts; opening = opening; offer = offer; retired = retired; owed = owed; links = links }

  abbrev first : Operation
  first = first_operation before begun call

  module _ (runs : running before.sizes started.account before.actor first) (told : history_of before.sizes started.account ≡ history_of before.sizes begun ++ event.Begin first.id before.actor call
      before.opens ∷ []) (bounds : AreBounds (bounds_for before.sizes started.account.steps)) (goes_on : GoesOn started.account.steps account.steps) (p : Operation) (runs_p : Runs late p)
      (same : p.id ≡ first.id) (answer : Reply) (at : IsAt late (act.End answer)) (after : View) (e : HasEnded late answer after) where
    -- what it opens is what the seat has reserved
    opens_is : first.opens ≡ before.opens
    opens_is =
        let a = runs_told before.actor before.sizes started.account first runs in
        let b = ap (λ h. (talk_of before.actor h).runs) told ∙ begun_talk before.actor first.id call before.opens (history_of before.sizes begun) in
        ap (λ (x : Begun). x.opens) (same_Some (record { id = first.id; call = first.call; opens = first.opens }) (record { id = first.id; call = call; opens = before.opens }) (sym a ∙ b))

    abbrev ended : Operation
    ended = e.operation

    its_id : ended.id ≡ first.id
    its_id = ap (λ (o : Operation). o.id) (e.its p runs_p) ∙ same

    acts : action_of (state_of before.sizes e.account) ended ≡ act.End answer
    acts =
        let there = e.waited.stays at.operation at.runs in
        let is = same_Some ended (record at.operation { is_marked = there.0 }) (sym e.runs ∙ there.1) in
        ap (action_of (state_of before.sizes e.account)) is ∙ there.2 ∙ at.acts

    all_steps : GoesOn started.account.steps e.account.steps
    all_steps = goes_both started.account.steps account.steps e.account.steps goes_on (e.waited.waited.steps, e.waited.waited.goes_on)

    since_before : GoesOn before.account.steps begun.steps
    since_before = (waited.steps, waited.goes_on)

    -- it is answered this, and nothing else
    answers_now : answers_of before.actor before.sizes (gone_on before.actor e.account) ≡ answers_of before.actor before.sizes before.account ++ record {
      of = record { id = ended.id; call = call; opens = before.opens };
      reply = answer;
    } ∷ []
    answers_now =
        ends_are_told before.actor before.sizes started.account e.account first ended answer bounds runs all_steps e.runs its_id acts
        ∙ ap (λ xs. xs ++ record { of = record { id = first.id; call = call; opens = first.opens }; reply = answer } ∷ [])
        (begins_tell_nothing before.actor before.sizes begun before.actor call before.opens bounds_begun ∙ others_tell_nothing before.actor before.sizes before.account begun sound.bounds waited)
        ∙ ap (λ o. answers_of before.actor before.sizes before.account ++ record { of = record { id = first.id; call = call; opens = o }; reply = answer } ∷ []) opens_is
        ∙ ap (λ n. answers_of before.actor before.sizes before.account ++ record { of = record { id = n; call = call; opens = before.opens }; reply = answer } ∷ []) (sym its_id)

    rest : GoesOn (history_of before.sizes started.account) (history_of before.sizes e.account)
    rest = histories_go_on before.sizes started.account e.account bounds all_steps

    abbrev then : View
    then = once_ended late ended.is_marked e.account

    told_then : history_of before.sizes then.account ≡ history_of before.sizes e.account ++ event.End ended.id answer ∷ []
    told_then = subst (λ (x : View). history_of x.sizes x.account ≡ history_of before.sizes e.account ++ event.End ended.id answer ∷ []) e.after_is e.told

    is_then : history_of before.sizes then.account ≡ history_of before.sizes begun ++ event.Begin ended.id before.actor call before.opens ∷ rest.0 ++ event.End ended.id answer ∷ []
    is_then =
        put_together (history_of before.sizes begun) (history_of before.sizes started.account) (history_of before.sizes e.account) (history_of before.sizes then.account)
        (event.Begin ended.id before.actor call before.opens) (event.End ended.id answer) rest.0
        (told ∙ ap (λ n. history_of before.sizes begun ++ event.Begin n before.actor call before.opens ∷ []) (sym its_id)) rest.1 told_then

    answered_then : HasAnswered before call before.opens answer then
    answered_then = record {
      continues = record {
        sizes = refl;
        actor = refl;
        goes_on = goes_both before.account.steps begun.steps then.account.steps since_before
            (goes_both begun.steps started.account.steps then.account.steps (step.Begin before.actor call before.opens ∷ [], refl)
            (goes_both started.account.steps e.account.steps then.account.steps all_steps (step.Go before.actor ∷ [], refl)));
      };
      id = ended.id;
      answers = answers_now;
      earlier = history_of before.sizes begun;
      meanwhile = rest.0;
      since = histories_go_on before.sizes before.account begun sound.bounds since_before;
      is = is_then;
      others = only_others before.actor ended.id call before.opens answer (history_of before.sizes begun) rest.0
          (subst IsWellFormed is_then (books_of (bounds_for before.sizes then.account.steps) then.account.steps).well_formed);
    }

    pub answered_so : HasAnswered before call before.opens answer after
    answered_so = subst (HasAnswered before call before.opens answer) (sym e.after_is) answered_then

-- where the seat isn't said to be pinned
unpinned_so : (v : View) (pin : _) (call : Call) (opens : Option ℕ) (answer : Reply) (w : View) → HasAnswered (pinned_for v pin call) call opens answer w → HasAnswered v call opens answer w
unpinned_so v pin call opens answer w h = record {
  continues = record { sizes = h.continues.sizes; actor = h.continues.actor; goes_on = h.continues.goes_on };
  id = h.id;
  answers = h.answers;
  earlier = h.earlier;
  meanwhile = h.meanwhile;
  since = h.since;
  is = h.is;
  others = h.others;
}

pinned_sound : (n : ℕ) (v : View) (pin : _) (call : Call) → IsSound n v → IsSound n (pinned_for v pin call)
pinned_sound n v pin call s = record { size = s.size; range = s.range; bounds = s.bounds; keys = s.keys; counted = s.counted; inside = s.inside; free = s.free }

module _ (words : ℕ) (before begun late after : View) (call : Call) (found : _) (answer : Reply) (sound : IsSound words before) (b : HasBegun before call found begun) (then : IsSound words begun)
    (on : RunsOn begun late) (at : IsAt late (act.End answer)) (e : HasEnded late answer after) where
  begun_is : begun ≡ once_begun before call b.account
  begun_is = b.after_is

  late_is : late ≡ record (once_begun before call b.account) {
    account = late.account;
    epoch = late.epoch;
    passed = late.passed;
    pool = late.pool;
    drafts = late.drafts;
    opening = late.opening;
    offer = late.offer;
    retired = late.retired;
    owed = late.owed;
    links = late.links;
  }
  late_is = on.still.is ∙ ap (λ (x : View). record x {
    account = late.account;
    epoch = late.epoch;
    passed = late.passed;
    pool = late.pool;
    drafts = late.drafts;
    opening = late.opening;
    offer = late.offer;
    retired = late.retired;
    owed = late.owed;
    links = late.links;
  }) b.after_is

  abbrev first_one : Operation
  first_one = first_operation before b.account call

  runs_on : (p : Operation) × Runs late p × (p.id ≡ first_one.id)
  runs_on = let x = on.runs first_one (first_one.is_marked, b.runs) in (x.0, x.1, ap (λ (o : Operation). o.id) x.2)

  pub begun_answered : HasAnswered before call before.opens answer after
  begun_answered =
      answered_so words before call sound late.account late.epoch late.passed late.pool late.drafts late.opening late.offer late.retired late.owed late.links b.account
      b.waited.waited b.waited.sound.bounds
      (subst (λ (x : View). running x.sizes x.account x.actor first_one) begun_is b.runs)
      (subst (λ (x : View). history_of x.sizes x.account ≡ history_of before.sizes b.account ++ event.Begin first_one.id before.actor call before.opens ∷ []) begun_is b.told)
      (subst (λ (x : View). AreBounds (bounds_for x.sizes x.account.steps)) begun_is then.bounds)
      (subst (λ (x : View). GoesOn x.account.steps late.account.steps) begun_is on.still.goes_on)
      runs_on.0 (subst (λ x. Runs x runs_on.0) late_is runs_on.1) runs_on.2 answer (subst (λ x. IsAt x (act.End answer)) late_is at) after (subst (λ x. HasEnded x answer after) late_is e)

pub calls_are_answered : CallsAreAnswered
calls_are_answered words before begun late after call way answer sound (pin, found, b, on_way) then on at e =
    unpinned_so before pin call before.opens answer after
    (begun_answered words (pinned_for before pin call) begun late after call found answer (pinned_sound words before pin call sound) b then on at e)

pub refusals_are_answered : RefusalsAreAnswered
refusals_are_answered words before begun late after call way answer sound called then on (o, r, may) cancelled =
    let (at, left, gave, let_go, ended) = cancelled o answer r may in
    let rests = let_go_becomes at left let_go in
    let runs = rests.comes (gave_up o answer) gave.runs in
    calls_are_answered words before begun left after call way answer sound called then
    (runs_on_both begun at left (runs_on_both begun late at on (runs_on_given_up late at o answer r gave)) (runs_on_become at left (λ z. z) (λ z. refl) rests))
    (record { operation = record (gave_up o answer) { is_marked = runs.0 }; runs = runs.1; acts = refl }) ended

-- ---- a close

begun_and_ended : (actor id : ℕ) (call : Call) (opens : Option ℕ) (answer : Reply) (history : List Event) →
    (talk_of actor (history ++ event.Begin id actor call opens ∷ event.End id answer ∷ [])).answers ≡ (talk_of actor history).answers ++ record {
      of = record { id = id; call = call; opens = opens };
      reply = answer;
    } ∷ []
begun_and_ended actor id call opens answer history =
    let t = talk_of actor history in
    let it : Begun = record { id = id; call = call; opens = opens } in
    ap (λ h. (talk_of actor h).answers) (sym (append_assoc history (event.Begin id actor call opens ∷ []) (event.End id answer ∷ [])))
    ∙ ap (λ (x : Talk). x.answers) (talk_push actor (history ++ event.Begin id actor call opens ∷ []) (event.End id answer))
    ∙ ap (λ x. (after_event actor x (event.End id answer)).answers) (talk_push actor history (event.Begin id actor call opens))
    ∙ ap (λ b. (after_event actor (cond b (record t { runs = Some it }) t) (event.End id answer)).answers) (eq-eqb actor actor refl)
    ∙ ap (λ b. (cond {A = Talk} b (record { answers = t.answers ++ record { of = it; reply = answer } ∷ []; runs = None }) (record t { runs = Some it })).answers) (eq-eqb id id refl)

pub closes_are_answered : ClosesAreAnswered
closes_are_answered words before after handle sound h =
    let p = h.closes in
    let w = h.saw in
    let s = subst (λ (x : View). ShutBy (pinned_for (with_marks x h.marks h.passed) p.pinned p.call) handle p.shut.name p.shut.closed) w.after_is p.shut.shuts in
    let all_is = p.after_is ∙ ap unpinned p.shut.released.kept.is
    ∙ ap (λ (x : View). unpinned (record x { epoch = p.rest.epoch; passed = p.rest.passed; retired = p.rest.retired; owed = p.rest.owed; links = p.rest.links })) s.after_is in
    let waited = waited_both before.actor before.account w.account s.account w.waited.waited s.waited.waited in
    let is = subst (λ (x : View). history_of x.sizes x.account ≡ history_of before.sizes s.account ++ event.Begin s.id before.actor (Close handle) None ∷ event.End s.id reply.Closed ∷ [])
    s.after_is s.told in
    let on : GoesOn before.account.steps s.account.steps = (waited.steps, waited.goes_on) in
    subst (HasAnswered before (Close handle) None reply.Closed) (sym all_is)
    (record {
      continues = record {
        sizes = refl;
        actor = refl;
        goes_on = goes_both before.account.steps s.account.steps (closed_by before.actor handle s.account).steps on (step.Begin before.actor (Close handle) None ∷ step.Go before.actor ∷ [], refl);
      };
      id = s.id;
      answers = ap (λ x. (talk_of before.actor x).answers) is ∙ begun_and_ended before.actor s.id (Close handle) None reply.Closed (history_of before.sizes s.account)
          ∙ ap (λ xs. xs ++ record { of = record { id = s.id; call = Close handle; opens = None }; reply = reply.Closed } ∷ [])
          (others_tell_nothing before.actor before.sizes before.account s.account sound.bounds waited);
      earlier = history_of before.sizes s.account;
      meanwhile = [];
      since = histories_go_on before.sizes before.account s.account sound.bounds on;
      is = is
          ∙ sym (append_assoc (history_of before.sizes s.account) (event.Begin s.id before.actor (Close handle) None ∷ []) (event.End s.id reply.Closed ∷ []));
      others = All-nil (IsOfOthers before.actor s.id);
    })
