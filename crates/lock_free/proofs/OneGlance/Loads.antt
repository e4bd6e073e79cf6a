-- What a load of a seat that glances leaves of the get that is under way.
use Rattle.history.specs.declared.calls.Call.{Call}
use Rattle.history.specs.declared.calls.Call.TheVariants.{Get}
use Rattle.history.specs.declared.replies.Reply.TheVariants as reply
use Rattle.std.proofs.Common.{◌≡◌, ◌≤◌, ◌⊎◌, ◌∷◌, ℕ, inl, inr, true, false, List, [], None, Some, refl, sym, ap, subst, ◌∙◌}
use Rattle.std.proofs.lemmas.Bool.{true≢false}
use Rattle.std.proofs.lemmas.Option.{none-some, same_Some}
use Rattle.atomic_table.specs.Table.{Me}
use Rattle.machine_model.specs.declared.actions.Action.{Action}
use Rattle.machine_model.specs.declared.actions.Action.TheVariants as act
use Rattle.machine_model.specs.declared.lines.Line.TheVariants as line
use Rattle.machine_model.specs.declared.operations.Operation.{Operation}
use Rattle.machine_model.specs.declared.steps.Step.TheVariants as machine
use Rattle.machine_model.specs.Acting.{operation_after, private_after}
use Rattle.machine_model.specs.GivingUp.{given_up}
use Rattle.machine_model.specs.Operations.{action_of, line_after}
use Rattle.machine_model.specs.States.{State}
use Rattle.lock_free.specs.declared.accounts.Account.{Account}
use Rattle.lock_free.specs.declared.rules.Glance.{Glance}
use Rattle.lock_free.specs.declared.rules.View.{View}
use Rattle.lock_free.specs.declared.sizes.Sizes.{Sizes}
use Rattle.lock_free.specs.Accounts.{gone_on}
use Rattle.lock_free.specs.Calling.{MayGiveUp}
use Rattle.lock_free.specs.Glancing.{HasGlanced, goes_on, is_lost}
use Rattle.lock_free.specs.GlanceGets.{GlancesOn, IsGetSince, IsLook, IsLooking, IsOnTheWay, IsToBegin, MayStop}
use Rattle.lock_free.specs.Loading.{HasGone, HasSeen, IsAt, IsSound, Runs, Saw, Waited, Went, now, seen}
use Rattle.lock_free.specs.Places.{words_of}
use Rattle.lock_free.specs.RunningOn.{RunsOn}
use Rattle.lock_free.specs.SeatWords.{IsIdle, pinned_for}
use Rattle.lock_free.specs.Shadows.{IsHidden, inner}
use Rattle.lock_free.specs.UnderWay.{IsUnderWay}
use Rattle.lock_free.proofs.CallsUnderWay.{under_way_on}
use Rattle.lock_free.proofs.Comings.{runs_one, saw_runs}
use Rattle.lock_free.proofs.Definition.{IsReading}
use Rattle.lock_free.proofs.Followings.{goes_both}
use Rattle.lock_free.proofs.OneGlance.Lines.{key_may}
use Rattle.lock_free.proofs.OneGlance.Steps.{back}
use Rattle.lock_free.proofs.Looking.{saw, went}
use Rattle.lock_free.proofs.Moments.{waited_so}
use Rattle.lock_free.proofs.Removals.{never_on}
use Rattle.lock_free.proofs.RunningOn.{runs_on_saw, still_with}
use Rattle.lock_free.proofs.Shutting.{idle_seen}
use Rattle.lock_free.proofs.Waiting.{saw_both}

-- ---- what it leaves of what the seat knows as a pinned one

pub record StepsOn (words : ℕ) (Q : View → View → Type 0) (x y : View) : Type 0 where
  pub sizes : y.sizes ≡ x.sizes
  pub plain : y.glance ≡ None
  pub keeps : (before : View) (handle key : ℕ) → IsGetSince words before handle key x → IsGetSince words before handle key y
  pub told : Q x y

module _ (words : ℕ) (Q : View → View → Type 0) (u v : View) (b c : List (ℕ × Call)) (told : Me Call View → Me Call View → Type 0) where
  pub glanced_on : HasGlanced told (u, b) (v, c) → ((g : Glance) → u.glance ≡ Some g → g.lost ≡ false → (w : Me Call View) → told (inner u g, b) w → StepsOn words Q (inner u g) w.0) →
      GlancesOn words Q u v
  glanced_on (is_lost g is after) each = record {
    first = g;
    was = is;
    later = record g { lost = true };
    is = ap (λ (z : Me Call View). z.0.glance) after;
    same = refl;
    goes_on = λ before handle key it. record {
      glance = record g { lost = true };
      is = ap (λ (z : Me Call View). z.0.glance) after;
      its =
          subst (λ (z : Me Call View). IsGetSince words before handle key (inner z.0 (record g { lost = true }))) (sym after)
          (subst (λ (f : Glance). IsGetSince words before handle key (inner u f)) (same_Some it.glance g (sym it.is ∙ is)) it.its);
    };
    told = λ no. absurd (true≢false no);
  }
  glanced_on (goes_on g is known w so after) each =
      let s = each g is known w so in
      let its : w.0 ≡ inner v g = back u g is w.0 s.sizes s.plain ∙ ap (λ (z : Me Call View). inner z.0 g) (sym after) in
      record {
        first = g;
        was = is;
        later = g;
        is = ap (λ (z : Me Call View). z.0.glance) after;
        same = refl;
        goes_on = λ before handle key it. record {
          glance = g;
          is = ap (λ (z : Me Call View). z.0.glance) after;
          its =
              subst (IsGetSince words before handle key) its
              (s.keeps before handle key (subst (λ (f : Glance). IsGetSince words before handle key (inner u f)) (same_Some it.glance g (sym it.is ∙ is)) it.its));
        };
        told = λ no. (known, subst (Q (inner u g)) its s.told);
      }

-- ---- a load that takes no step

module _ (words : ℕ) (x : View) (sound : IsSound words x) (y : View) (s : Saw x y) (then : IsSound words y) where
  saw_may : (handle key : ℕ) → MayStop x handle key → MayStop y handle key
  saw_may handle key it = record { operation = it.operation; runs = saw_runs x y s it.operation it.runs; call_is = it.call_is; none = it.none; may = it.may }

  saw_since : (before : View) (handle key : ℕ) → IsToBegin before handle key x ⊎ (MayStop x handle key × IsUnderWay before (Get handle key) None x) →
      IsToBegin before handle key y ⊎ (MayStop y handle key × IsUnderWay before (Get handle key) None y)
  saw_since before handle key (inl (pinned, since, idle)) =
      inl (pinned, saw_both (pinned_for before pinned (Get handle key)) x since y s, idle_seen x y s idle)
  saw_since before handle key (inr (may, under)) = inr (saw_may handle key may, under_way_on before (Get handle key) None x y under (runs_on_saw x y s))

  pub saw_keeps : (before : View) (handle key : ℕ) → IsGetSince words before handle key x → IsGetSince words before handle key y
  saw_keeps before handle key it = record {
    sound = then;
    seat =
        subst (λ (z : View). z ≡ record before { account = z.account; pin = z.pin; asks = z.asks; entered = z.entered; owed = z.owed }) (sym s.after_is)
        (ap (λ (z : View). record z { account = s.account }) it.seat);
    at = saw_since before handle key it.at;
  }

module _ (words : ℕ) (x : View) (sound : IsSound words x) (plain : x.glance ≡ None) (word found : ℕ) (y : View) where
  sound_then : IsSound (words_of x.sizes) y → IsSound words y
  sound_then s = subst (λ n. IsSound n y) (sym sound.size) s

  pub seen_on : HasSeen x word found y → IsSound (words_of x.sizes) y → StepsOn words (λ v w. HasSeen v word found w) x y
  seen_on h s = record {
    sizes = ap (λ (z : View). z.sizes) h.1;
    plain = ap (λ (z : View). z.glance) h.1 ∙ plain;
    keeps = saw_keeps words x sound y (saw x 0 word found y h) (sound_then s);
    told = h;
  }

-- ---- a load that is the operation's step, after which it may give up still

-- it makes nothing
reading_makes : (state : State) (does : Action) → IsReading does → private_after state [] does ≡ []
reading_makes state act.ReadRoot h = refl
reading_makes state (act.ReadMain i) h = refl
reading_makes state (act.ReadPrev m) h = refl
reading_makes state (act.Look r) h = refl
reading_makes state does h = absurd h

module _ (x y : View) (w : Went x y) where
  abbrev state : State
  state = now (seen x w.account)

  pub went_runs : RunsOn x y
  went_runs = record {
    still =
        still_with x y (seen x (gone_on x.actor w.account)) w.after_is
        (goes_both x.account.steps w.account.steps (gone_on x.actor w.account).steps (w.waited.waited.steps, w.waited.waited.goes_on) (machine.Go x.actor ∷ [], refl));
    runs = λ o r. (
        let here = w.waited.stays (record o { is_marked = r.0 }) r.1 in
        let next = operation_after state (record o { is_marked = here.0 }) in
        (next, (next.is_marked, w.took (record o { is_marked = here.0 }) here.1), refl));
  }

  module _ (words : ℕ) (then : IsSound words y) (does : Action) (reads : IsReading does) (acts : IsAt x does) where
    -- on this line it may give up
    abbrev pub MayThen : Type 0
    MayThen = (handle key : ℕ) (o : Operation) → Runs y (operation_after state o) → o.call ≡ Get handle key → record o { is_marked = false } ≡ record acts.operation { is_marked = false } →
        given_up (Get handle key) (line_after state o o.line) ≡ Some reply.NoSlots

    module _ (may : MayThen) where
      went_may : (handle key : ℕ) → MayStop x handle key → MayStop y handle key
      went_may handle key it =
          let o = acts.operation in
          let here = w.waited.stays o acts.runs in
          let p : Operation = record o { is_marked = here.0 } in
          let same : record it.operation { is_marked = false } ≡ record o { is_marked = false } = runs_one x it.operation o it.runs (o.is_marked, acts.runs) in
          let call_is : o.call ≡ Get handle key = sym (ap (λ (z : Operation). z.call) same) ∙ it.call_is in
          let none : o.private ≡ [] = sym (ap (λ (z : Operation). z.private) same) ∙ it.none in
          let next = operation_after state p in
          let runs : Runs y next = (next.is_marked, w.took p here.1) in
          record {
            operation = next;
            runs = runs;
            call_is = call_is;
            none =
                ap (λ l. private_after state l (action_of state p)) none
                ∙ ap (private_after state []) (here.2 ∙ acts.acts)
                ∙ reading_makes state does reads;
            may = may handle key p runs call_is refl;
          }

      not_idle : IsIdle x → ⊥
      not_idle idle = none-some acts.operation (sym idle ∙ acts.runs)

      went_since : (before : View) (handle key : ℕ) → IsToBegin before handle key x ⊎ (MayStop x handle key × IsUnderWay before (Get handle key) None x) →
          IsToBegin before handle key y ⊎ (MayStop y handle key × IsUnderWay before (Get handle key) None y)
      went_since before handle key (inl (pinned, since, idle)) = absurd (not_idle idle)
      went_since before handle key (inr (it, under)) = inr (went_may handle key it, under_way_on before (Get handle key) None x y under went_runs)

      pub went_keeps : (before : View) (handle key : ℕ) → IsGetSince words before handle key x → IsGetSince words before handle key y
      went_keeps before handle key it = record {
        sound = then;
        seat =
            subst (λ (z : View). z ≡ record before { account = z.account; pin = z.pin; asks = z.asks; entered = z.entered; owed = z.owed }) (sym w.after_is)
            (ap (λ (z : View). record z { account = gone_on x.actor w.account }) it.seat);
        at = went_since before handle key it.at;
      }

-- on the way to its key
module _ (x y : View) (w : Went x y) (words : ℕ) (then : IsSound words y) (does : Action) (reads : IsReading does) (it : IsOnTheWay x does) where
  way_may : MayThen x y w words then does reads it.acts
  way_may handle key o runs its same =
      let on_line : o.line ≡ line.Key it.at =
      ap (λ (z : Operation). z.line) same ∙ ap (λ (z : Operation). z.line) (runs_one x it.acts.operation it.on.0 (it.acts.operation.is_marked, it.acts.runs) it.on.1) ∙ it.on.2 in
      let st = now (seen x w.account) in
      elim (key_may handle key st o its it.at) [
        | inl e ↦ ap (λ l. given_up (Get handle key) (line_after st o l)) on_line ∙ e
        | inr never ↦ absurd (never_on words y then (operation_after st o, runs, ap (line_after st o) on_line ∙ never))
      ]

  pub way_keeps : (before : View) (handle key : ℕ) → IsGetSince words before handle key x → IsGetSince words before handle key y
  way_keeps = went_keeps x y w words then does reads it.acts way_may

-- so it reads
look_reads : (does : Action) → IsLook does → IsReading does
look_reads (act.ReadMain i) look = tt
look_reads (act.ReadPrev m) look = tt
look_reads (act.Look r) look = tt
look_reads does look = absurd look

pub is_reading : (v : View) (does : Action) → IsLook does → (it : IsOnTheWay v does) → IsReading (action_of (now v) it.acts.operation)
is_reading v does look it = subst IsReading (sym it.acts.acts) (look_reads does look)

module _ (words : ℕ) (x : View) (sound : IsSound words x) (plain : x.glance ≡ None) (word found : ℕ) (y : View) (does : Action) (look : IsLook does) (it : IsOnTheWay x does) where
  pub gone_on_way : HasGone x word found y → IsSound (words_of x.sizes) y → StepsOn words (λ v w. HasGone v word found w) x y
  gone_on_way h s =
      let then : IsSound words y = subst (λ n. IsSound n y) (sym sound.size) s in
      record {
        sizes = ap (λ (z : View). z.sizes) h.1;
        plain = ap (λ (z : View). z.glance) h.1 ∙ plain;
        keeps = way_keeps x y (went x 0 word found y h) words then does (look_reads does look) it;
        told = h;
      }

-- ---- so it is hidden still

module _ (v : View) (hidden : IsHidden v) where
  module _ (account : Account) (waited : Waited v account) where
    may_still : MayGiveUp v → MayGiveUp (seen v account)
    may_still (operation, answer, (mark, runs), may) = let x = waited.stays (record operation { is_marked = mark }) runs in (operation, answer, (x.0, x.1), may)

    still : IsIdle v ⊎ MayGiveUp v → IsIdle (seen v account) ⊎ MayGiveUp (seen v account)
    still (inl idle) = inl (idle_seen v (seen v account) (record { account = account; waited = waited; after_is = refl }) idle)
    still (inr may) = inr (may_still may)

    pub waits_hidden : IsHidden (seen v account)
    waits_hidden = record { pinned = hidden.pinned; is = hidden.is; hidden = hidden.hidden; may = still hidden.may; plain = hidden.plain; seats = hidden.seats }

  -- where it takes no step
  pub seen_hides : (word found : ℕ) (w : View) → HasSeen v word found w → (w.sizes ≡ v.sizes) × IsHidden w
  seen_hides word found w (m, is) =
      subst (λ (x : View). (x.sizes ≡ v.sizes) × IsHidden x) (sym is) (refl, waits_hidden m.kept.account (waited_so v m.table m.kept m.id m.at))

module _ (x : View) (hidden : IsHidden x) (y : View) (sizes : y.sizes ≡ x.sizes) (pin : y.pin ≡ x.pin) (plain : y.glance ≡ None) where
  pub hidden_then : (handle key : ℕ) → MayStop y handle key → IsHidden y
  hidden_then handle key it = record {
    pinned = hidden.pinned;
    is = pin ∙ hidden.is;
    hidden = hidden.hidden;
    may = inr (it.operation, reply.NoSlots, it.runs, ap (λ c. given_up c it.operation.line) it.call_is ∙ it.may);
    plain = plain;
    seats = subst (λ (z : Sizes). 1 ≤ z.seats) (sym sizes) hidden.seats;
  }

  pub hidden_since : (words : ℕ) (before : View) (handle key : ℕ) → IsGetSince words before handle key y → IsHidden y
  hidden_since words before handle key it = elim it.at [
    | inl (pinned, since, idle) ↦ record {
      pinned = hidden.pinned;
      is = pin ∙ hidden.is;
      hidden = hidden.hidden;
      may = inl idle;
      plain = plain;
      seats = subst (λ (z : Sizes). 1 ≤ z.seats)
          (sym sizes) hidden.seats;
    }
    | inr (may, under) ↦ hidden_then handle key may
  ]

module _ (words : ℕ) (x : View) (plain : x.glance ≡ None) (before : View) (handle key : ℕ) (its : IsGetSince words before handle key x) (look : IsLooking x) (hidden : IsHidden x)
    (word found : ℕ) (w : View) where
  pub gone_hides : HasGone x word found w → IsSound (words_of x.sizes) w → (w.sizes ≡ x.sizes) × IsHidden w
  gone_hides h s =
      let on = gone_on_way words x its.sound plain word found w look.0 look.1 look.2 h s in
      (on.sizes, hidden_since x hidden w on.sizes (ap (λ (z : View). z.pin) h.1) on.plain words before handle key (on.keeps before handle key its))
