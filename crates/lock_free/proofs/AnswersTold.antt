-- What an actor is answered, along the steps of an account.
use Rattle.std.proofs.Common.{◌≡◌, ◌≢◌, ◌==◌, ℕ, zero, suc, Bool, true, false, cond, All, List, [], ◌∷◌, ◌++◌, take, Option, Some, None, slice_get, refl}
use Rattle.std.proofs.Common.{sym, ap, subst, ◌∙◌, arith, append-nil, append_assoc}
use Rattle.std.proofs.lemmas.Bool.{ne_eqb, eq-eqb}
use Rattle.std.proofs.lemmas.List.Elements.{All-tail, All-head}
use Rattle.std.proofs.lemmas.List.{take-append-le}
use Rattle.std.proofs.lemmas.Option.{none-some, slice_get_within}
use Rattle.history.specs.declared.calls.Call.{Call}
use Rattle.history.specs.declared.events.Event.{Event}
use Rattle.history.specs.declared.events.Event.TheVariants.{Begin, End}
use Rattle.history.specs.declared.replies.Reply.{Reply}
use Rattle.history.specs.Histories.{HasEnded}
use Rattle.history.proofs.Begins.{begins_once}
use Rattle.history.proofs.Places.{at_front}
use Rattle.machine_model.specs.declared.actions.Action.TheVariants as act
use Rattle.machine_model.specs.declared.operations.Operation.{Operation}
use Rattle.machine_model.specs.declared.steps.Outcome.{Outcome}
use Rattle.machine_model.specs.declared.steps.Step.{Step}
use Rattle.machine_model.specs.declared.steps.Step.TheVariants as step
use Rattle.machine_model.specs.Machine.{AreBounds, begun_operation}
use Rattle.machine_model.specs.Moves.{Moves, Begins, Goes, Ends, GivesUp, Sweeps}
use Rattle.machine_model.specs.Operations.{action_of}
use Rattle.machine_model.specs.Records.{Record, next_record, noted, record_from}
use Rattle.machine_model.specs.States.{State, operation_of}
use Rattle.machine_model.specs.Tellings.{told_in}
use Rattle.machine_model.proofs.Notes.{noted_going, noted_ending}
use Rattle.machine_model.proofs.Recorded.{kept_by_notes}
use Rattle.proof_linearizable.specs.Beneath.proof_order.proofs.History.Books.{Books}
use Rattle.proof_linearizable.specs.Beneath.proof_order.proofs.Views.Unconditional.{books_of}
use Rattle.lock_free.specs.declared.accounts.Account.{Account}
use Rattle.lock_free.specs.declared.sizes.Sizes.{Sizes}
use Rattle.lock_free.specs.Accounts.{bounds_for, state_of, past_of, running, gone_on, HasWaited, IsOfOther}
use Rattle.lock_free.specs.Answers.{Begun, Talk, silent, after_end, after_event, talk_of, answers_of, answer_to, talk_from, AnswersGoOn, OthersTellNothing, BeginsTellNothing, EndsAreTold}
use Rattle.lock_free.specs.Beginning.{taking}
use Rattle.lock_free.specs.Rules.{first_account}
use Rattle.lock_free.specs.Telling.{history_of, GoesOn}
use Rattle.lock_free.proofs.HistoriesOn.{histories_go_on}
use Rattle.lock_free.proofs.OneStep.Telling.{record_next, end_told}
use Rattle.lock_free.proofs.Talks.{talk-append, talk_push, answers_grow, runs_begun, begun_runs, IsTalk, BegunAt}

-- its answers grow
pub grown : (actor : ℕ) (xs ys : List Event) → GoesOn xs ys → GoesOn (talk_of actor xs).answers (talk_of actor ys).answers
grown actor xs ys (more, e) =
    subst (λ l. GoesOn (talk_of actor xs).answers (talk_of actor l).answers) (sym e)
    (subst (λ (t : Talk). GoesOn (talk_of actor xs).answers t.answers) (sym (talk-append actor silent xs more)) (answers_grow actor (talk_of actor xs) more))

pub answers_go_on : AnswersGoOn
answers_go_on actor sizes before after ok on = grown actor (history_of sizes before) (history_of sizes after) (histories_go_on sizes before after ok on)

-- ---- one step

module _ (actor : ℕ) (state : State) (past : Record) (books : Books state past) where
  -- what runs was told
  told_of : (a : ℕ) (o : Operation) → operation_of state a ≡ Some o → (place : ℕ) × (slice_get past.events place ≡ Some (Begin o.id a o.call o.opens))
      × ((reply : Reply) → ¬ HasEnded past.events o.id reply)
  told_of zero o runs = absurd (none-some o runs)
  told_of (suc k) o runs = let t = books.told k o runs in (t.place, t.begins, t.unended)

  -- the end of another's operation is none of the actor's
  other_end : (other : ℕ) (o : Operation) (reply : Reply) → operation_of state other ≡ Some o → other ≢ actor → (runs : Option Begun) → (talk_of actor past.events).runs ≡ runs →
      after_end (talk_of actor past.events) o.id reply runs ≡ talk_of actor past.events
  other_end other o reply is apart None e = refl
  other_end other o reply is apart (Some it) e =
      let t = told_of other o is in
      let own = runs_begun actor past.events it e in
      let differs : it.id ≢ o.id = λ same. apart
      (let at = subst (λ n. slice_get past.events own.0 ≡ Some (Begin n actor it.call it.opens)) same own.1 in
      let here = begins_once past.events t.0 own.0 o.id (record { actor = other; call = o.call; opens = o.opens })
      (record { actor = actor; call = it.call; opens = it.opens }) books.well_formed t.1 at in
      cc (sym t.1 ∙ ap (slice_get past.events) here ∙ at)) in
      ap (λ b. cond b (record { answers = (talk_of actor past.events).answers ++ record { of = it; reply = reply } ∷ []; runs = None }) (talk_of actor past.events)) (ne_eqb it.id o.id differs)

  -- the step is another's, and none of the sweep's
  others_noted : (s : Step) (o : Outcome) (after : State) → IsOfOther actor s → Moves state s o after → talk_of actor (noted past state.steps (told_in state s)).events ≡ talk_of actor past.events
  others_noted s o after other (Begins {actor = who} {call} {number} d) =
      let it = begun_operation state call number in
      talk_push actor past.events (Begin it.id who call it.opens)
      ∙ ap (λ b. cond b (record (talk_of actor past.events) { runs = Some (record { id = it.id; call = call; opens = it.opens }) }) (talk_of actor past.events)) (ne_eqb who actor other)
  others_noted s o after other (Goes {actor = who} {operation} {action} d is a g) = ap (λ (r : Record). talk_of actor r.events) (noted_going state past who operation action is a g)
  others_noted s o after other (Ends {actor = who} {operation} {answer} d is a) =
      ap (λ (r : Record). talk_of actor r.events) (noted_ending state past who operation answer is a) ∙ talk_push actor past.events (End operation.id answer)
      ∙ other_end who operation answer is other (talk_of actor past.events).runs refl
  others_noted s o after other (GivesUp d is a) = refl
  others_noted s o after other (Sweeps spent) = refl

  pub others_told : (s : Step) → IsOfOther actor s → talk_of actor (next_record state past s).events ≡ talk_of actor past.events
  others_told s other = kept_by_notes (λ (after : State) (now : Record). talk_of actor now.events ≡ talk_of actor past.events) state past s refl (λ o after m. others_noted s o after other m)

  -- a begin, whoever's
  begins_noted : (s : Step) (o : Outcome) (after : State) (who : ℕ) (call : Call) (number : Option ℕ) → s ≡ step.Begin who call number → Moves state s o after →
      (talk_of actor (noted past state.steps (told_in state s)).events).answers ≡ (talk_of actor past.events).answers
  begins_noted s o after who call number is (Begins {actor = w} {call = c} {number = n} d) =
      let it = begun_operation state c n in ap (λ (t : Talk). t.answers) (talk_push actor past.events (Begin it.id w c it.opens))
      ∙ same (w == actor) (record { id = it.id; call = c; opens = it.opens })
    where
      same : (b : Bool) (it : Begun) → (cond b (record (talk_of actor past.events) { runs = Some it }) (talk_of actor past.events)).answers ≡ (talk_of actor past.events).answers
      same true it = refl
      same false it = refl
  begins_noted s o after who call number is (Goes d r a g) = cc is
  begins_noted s o after who call number is (Ends d r a) = cc is
  begins_noted s o after who call number is (GivesUp d r a) = refl
  begins_noted s o after who call number is (Sweeps spent) = refl

  pub begins_told : (who : ℕ) (call : Call) (number : Option ℕ) → (talk_of actor (next_record state past (step.Begin who call number)).events).answers ≡ (talk_of actor past.events).answers
  begins_told who call number =
      kept_by_notes (λ (after : State) (now : Record). (talk_of actor now.events).answers ≡ (talk_of actor past.events).answers) state past (step.Begin who call number) refl
      (λ o after m. begins_noted (step.Begin who call number) o after who call number refl m)

-- ---- along accounts

module _ (actor : ℕ) (sizes : Sizes) where
  books_at : (account : Account) → Books (state_of sizes account) (past_of sizes account)
  books_at account = books_of (bounds_for sizes account.steps) account.steps

  bounds_on : (account : Account) (s : Step) → AreBounds (bounds_for sizes account.steps) → AreBounds (bounds_for sizes (taking s account).steps)
  bounds_on account s ok = (omega arith, ok.1, ok.2)

  one_other : (account : Account) (s : Step) → AreBounds (bounds_for sizes account.steps) → IsOfOther actor s →
      talk_of actor (history_of sizes (taking s account)) ≡ talk_of actor (history_of sizes account)
  one_other account s ok other =
      ap (λ (r : Record). talk_of actor r.events) (record_next sizes account ok s) ∙ others_told actor (state_of sizes account) (past_of sizes account) (books_at account) s other

  all_others : (account : Account) (more : List Step) → AreBounds (bounds_for sizes account.steps) → All (IsOfOther actor) more →
      talk_of actor (history_of sizes (record account { steps = account.steps ++ more })) ≡ talk_of actor (history_of sizes account)
  all_others account [] ok all = ap (λ (xs : List Step). talk_of actor (history_of sizes (record account { steps = xs }))) (append-nil account.steps)
  all_others account (s ∷ more) ok all =
      ap (λ (xs : List Step). talk_of actor (history_of sizes (record account { steps = xs }))) (sym (append_assoc account.steps (s ∷ []) more))
      ∙ all_others (taking s account) more (bounds_on account s ok) (All-tail (IsOfOther actor) s more all)
      ∙ one_other account s ok (All-head (IsOfOther actor) s more all)

-- nor do they change what it runs
pub others_say_nothing : (actor : ℕ) (sizes : Sizes) (before after : Account) → AreBounds (bounds_for sizes before.steps) → HasWaited actor before after →
    talk_of actor (history_of sizes after) ≡ talk_of actor (history_of sizes before)
others_say_nothing actor sizes before after ok waited =
    ap (λ (xs : List Step). talk_of actor (history_of sizes (record after { steps = xs }))) waited.goes_on ∙ all_others actor sizes before waited.steps ok waited.others

pub first_silent : (sizes : Sizes) (actor : ℕ) → talk_of actor (history_of sizes (first_account sizes)) ≡ silent
unfolding talk_from record_from
first_silent sizes actor = refl

-- who has never taken a step was told nothing
pub never_told : (actor : ℕ) (sizes : Sizes) (account : Account) → AreBounds (bounds_for sizes (first_account sizes).steps) → HasWaited actor (first_account sizes) account →
    talk_of actor (history_of sizes account) ≡ silent
never_told actor sizes account ok waited = others_say_nothing actor sizes (first_account sizes) account ok waited ∙ first_silent sizes actor

pub others_tell_nothing : OthersTellNothing
others_tell_nothing actor sizes before after ok waited = ap (λ (t : Talk). t.answers) (others_say_nothing actor sizes before after ok waited)

pub begins_tell_nothing : BeginsTellNothing
begins_tell_nothing actor sizes account other call number ok =
    ap (λ (r : Record). (talk_of actor r.events).answers) (record_next sizes account ok (step.Begin other call number))
    ∙ begins_told actor (state_of sizes account) (past_of sizes account) (books_of (bounds_for sizes account.steps) account.steps) other call number

-- ---- from when an operation runs to its end

-- its actor is told that it runs
pub runs_told : (actor : ℕ) (sizes : Sizes) (account : Account) (o : Operation) → running sizes account actor o → (talk_of actor (history_of sizes account)).runs ≡ Some (record {
  id = o.id;
  call = o.call;
  opens = o.opens;
})
runs_told actor sizes account o runs =
    let books = books_at actor sizes account in
    let t = told_of actor (state_of sizes account) (past_of sizes account) books actor o runs in
    ap (λ (x : Talk). x.runs) (begun_runs actor t.0 (record { id = o.id; call = o.call; opens = o.opens }) (history_of sizes account) books.well_formed t.1 t.2)

-- an event that stands at a place stands once, and what it says is the same
same_begun : (history : List Event) (place other actor : ℕ) (a b : Begun) → BegunAt history actor place a → BegunAt history actor other b → place ≡ other → a ≡ b
same_begun history place other actor a b x y here =
    let events : Some (Begin a.id actor a.call a.opens) ≡ Some (Begin b.id actor b.call b.opens) = sym x ∙ ap (slice_get history) here ∙ y in
    let ids : a.id ≡ b.id = cc events in
    let calls : a.call ≡ b.call = cc events in
    let numbers : a.opens ≡ b.opens = cc events in
    λ i. record { id = ids i; call = calls i; opens = numbers i }

module _ (actor : ℕ) (sizes : Sizes) (before after : Account) (o p : Operation) (ok : AreBounds (bounds_for sizes before.steps)) (runs : running sizes before actor o)
    (on : GoesOn before.steps after.steps) (runs_p : running sizes after actor p) (same : p.id ≡ o.id) where
  abbrev first : List Event
  first = history_of sizes before

  abbrev last : List Event
  last = history_of sizes after

  abbrev it : Begun
  it = record { id = p.id; call = p.call; opens = p.opens }

  abbrev its : Begun
  its = record { id = o.id; call = o.call; opens = o.opens }

  goes : GoesOn first last
  goes = histories_go_on sizes before after ok on

  there : (place : ℕ) × BegunAt first actor place its × ((reply : Reply) → ¬ HasEnded first o.id reply)
  there = told_of actor (state_of sizes before) (past_of sizes before) (books_at actor sizes before) actor o runs

  here : (place : ℕ) × BegunAt last actor place it × ((reply : Reply) → ¬ HasEnded last p.id reply)
  here = told_of actor (state_of sizes after) (past_of sizes after) (books_at actor sizes after) actor p runs_p

  still_there : BegunAt last actor there.0 its
  still_there = subst (λ l. BegunAt l actor there.0 its) (sym goes.1) (at_front first goes.0 there.0 _ there.1)

  one_place : there.0 ≡ here.0
  one_place =
      begins_once last there.0 here.0 o.id (record { actor = actor; call = o.call; opens = o.opens }) (record { actor = actor; call = p.call; opens = p.opens })
      (books_at actor sizes after).well_formed
      still_there (subst (λ n. slice_get last here.0 ≡ Some (Begin n actor p.call p.opens)) same here.1)

  one_begun : its ≡ it
  one_begun = same_begun last there.0 here.0 actor its it still_there here.1 one_place

  fronts : take here.0 last ≡ take there.0 first
  fronts =
      let within = slice_get_within first there.0 _ there.1 in
      ap (λ n. take n last) (sym one_place) ∙ ap (λ l. take there.0 l) goes.1 ∙ take-append-le there.0 first goes.0 (omega (arith, within))

  talk_first : IsTalk first actor there.0 its
  talk_first = begun_runs actor there.0 its first (books_at actor sizes before).well_formed there.1 there.2

  talk_last : IsTalk last actor here.0 it
  talk_last = begun_runs actor here.0 it last (books_at actor sizes after).well_formed here.1 here.2

  talk_now : talk_of actor last ≡ record { answers = answers_of actor sizes before; runs = Some its }
  talk_now =
      talk_last ∙ ap (λ l. record { answers = (talk_of actor l).answers; runs = Some it }) fronts
      ∙ ap (λ l. record { answers = l; runs = Some it }) (sym (ap (λ (t : Talk). t.answers) talk_first)) ∙ ap (λ b. record { answers = answers_of actor sizes before; runs = Some b }) (sym one_begun)

  told_at_end : (reply : Reply) → action_of (state_of sizes after) p ≡ act.End reply → answers_of actor sizes (gone_on actor after) ≡ answers_of actor sizes before ++ answer_to o reply ∷ []
  told_at_end reply is =
      ap (λ l. (talk_of actor l).answers) (end_told sizes after (omega arith, ok.1, ok.2) actor p reply runs_p is)
      ∙ ap (λ (t : Talk). t.answers) (talk_push actor last (End p.id reply)) ∙ ap (λ t. (after_event actor t (End p.id reply)).answers) talk_now
      ∙ ap (λ b. (cond {A = Talk} b (record { answers = answers_of actor sizes before ++ record { of = its; reply = reply } ∷ []; runs = None })
      (record { answers = answers_of actor sizes before; runs = Some its })).answers)
      (eq-eqb o.id p.id (sym same))

pub ends_are_told : EndsAreTold
ends_are_told actor sizes before after o p reply ok runs on runs_p same is = told_at_end actor sizes before after o p ok runs on runs_p same reply is
