-- What one step makes of a seat: the facts of the hold, told of the seat.
use Rattle.std.specs.Prelude.{◌≡◌, ℕ, ◌+◌, ◌<◌, ◌≤◌, ◌^◌, true, false, MatchOption, List, [], ◌∷◌, ◌++◌, Option, Some, None, Ok, Err}
use Rattle.std.proofs.Common.{refl, sym, ap, subst, ◌∙◌, arith}
use Rattle.std.proofs.lemmas.Option.{same_Some, none-some}
use Rattle.lock_runner.specs.Vocabulary.{Kind, Refusal, Call, Reply, Step, Outcome, Swept, State, bounded, next, denial_of}
use Rattle.ctrie_base.specs.declared.refusals.Refusal.TheVariants as refuse
use Rattle.lock_runner.specs.Beneath.machine_model.specs.declared.steps.Step.TheVariants as step
use Rattle.lock_runner.specs.Beneath.machine_model.specs.declared.steps.Outcome.TheVariants as outcome
use Rattle.lock_runner.specs.Beneath.machine_model.proofs.Moves.{moved}
use Rattle.lock_runner.proofs.ActorHistory.Turns.{Recorded, recorded, recorded_of, Turns, Rests, turns}
use Rattle.lock_runner.specs.Beneath.machine_model.proofs.Alike.{alike_along}
use Rattle.lock_runner.proofs.ActorHistory.Sound.{sound_along}
use Rattle.lock_runner.specs.Beneath.proof_runs.specs.Machines.{Taken, past_of, state_of}
use Rattle.lock_runner.specs.declared.accounts.Answer.{Answer}
use Rattle.lock_runner.specs.declared.accounts.Running.{Running}
use Rattle.lock_runner.specs.ActorHistory.{Account, begun_at, answered_at}
use Rattle.lock_runner.specs.ActorHistory.Laws.{IsMadeBy}
use Rattle.lock_runner.specs.declared.asks.Work.{Work}
use Rattle.lock_runner.specs.declared.asks.Work.TheVariants as work
use Rattle.lock_runner.specs.Asks.{Told, Pass, step_of}
use Rattle.lock_runner.specs.declared.seats.Stop.{Stop}
use Rattle.lock_runner.specs.declared.seats.Stop.TheVariants.{Denied, Memory, Ahead}
use Rattle.lock_runner.specs.Boards.{account_in, HasFollowed}
use Rattle.lock_runner.specs.Seats.{Seated, seated, seen_in, IsSeated}
use Rattle.lock_runner.specs.Holds.{events_in, Worked}
use Rattle.lock_runner.specs.Stepping.{HasGoneOn, IsUntold, HasTaken, IsNotBegun, Begins, IsNotTaken, Goes, IsNotSwept, Sweeps}
use Rattle.lock_runner.proofs.Boards.{goes_on_same, goes_on_more, goes_on_without, goes_on_by_one, has_followed_same}
use Rattle.lock_runner.proofs.Holds.{Held, has_worked}
use Rattle.lock_runner.proofs.Growing.{events_grow}
use Rattle.lock_runner.proofs.Idle.{idle_only, idle_is_denied, busy_is_denied}
use Rattle.lock_runner.proofs.Seating.{seated_still, seated_step, seated_sweep, own_step}

-- ---- any hold

pub gone_same : (a : Seated) → HasGoneOn a a
gone_same a = record { runner = refl; actor = refl; heard = refl; limits = refl; steps = goes_on_same a.seen.steps }

pub untold_same : (a : Seated) → IsUntold a a
untold_same a = record { on = gone_same a; answers = refl; sweeps = refl }

-- the machine has gone on
pub gone_on : (me after : Pass) (heard told : ℕ) (answers more : List Answer) (running then : Option Running) (sweeps count : ℕ) (result : Told) (asked : Work) →
    Held me asked told result after → HasGoneOn (seated me answers running sweeps heard) (seated after more then count heard)
gone_on me after heard told answers more running then sweeps count result asked h =
    let worked = has_worked me.number asked result h.board told (seen_in after) h.worked in
    record {
      runner = h.gate;
      actor = h.number;
      heard = refl;
      limits = worked.limits ∙ h.followed.limits;
      steps = goes_on_more (seen_in me).steps h.board.steps (seen_in after).steps (goes_on_without me.number (seen_in me).steps h.board.steps h.followed.steps)
          (goes_on_by_one me.number h.board.steps (seen_in after).steps worked.steps);
    }

-- a step that wasn't taken leaves the machine
left_alone : (stop : Stop) (board : Taken) (s : Step) (heard : ℕ) (now : Taken) → Worked (Err stop) board s heard now → now ≡ board
left_alone Ahead board s heard now w = w.0
left_alone Memory board s heard now w = w.0
left_alone (Denied refusal) board s heard now w = w.0

pub stopped : (me after : Pass) (heard : ℕ) (answers items : List Answer) (running : Option Running) (sweeps : ℕ) (stop : Stop) (asked : Work) →
    IsSeated me answers running sweeps → items ≡ answers → Held me asked heard (Err stop) after → IsSeated after items running sweeps
stopped me after heard answers items running sweeps stop asked seat same h =
    subst (λ xs. IsSeated after xs running sweeps) (sym same)
    (seated_still me after answers running sweeps seat (Err stop) asked heard h (left_alone stop h.board (step_of me.number asked) heard (seen_in after) h.worked) refl)

pub untold : (me after : Pass) (heard told : ℕ) (answers items : List Answer) (running then : Option Running) (sweeps : ℕ) (result : Told) (asked : Work) →
    items ≡ answers → Held me asked told result after → IsUntold (seated me answers running sweeps heard) (seated after items then sweeps heard)
untold me after heard told answers items running then sweeps result asked same h =
    record { on = gone_on me after heard told answers items running then sweeps sweeps result asked h; answers = same; sweeps = refl }

-- a step that wasn't taken leaves the machine as the seat found it
waited : (me after : Pass) (heard : ℕ) (stop : Stop) (asked : Work) → Held me asked heard (Err stop) after → HasFollowed me.number (seen_in me) (seen_in after)
waited me after heard stop asked h =
    subst (λ b. HasFollowed me.number (seen_in me) b) (sym (left_alone stop h.board (step_of me.number asked) heard (seen_in after) h.worked)) h.followed

-- one that was taken stands last
took : (me after : Pass) (heard told : ℕ) (answers more : List Answer) (running then : Option Running) (sweeps count : ℕ) (done : ℕ × Outcome) (asked : Work)
    (o : Outcome) → done.1 ≡ o → Held me asked told (Ok done) after →
    HasTaken (step_of me.number asked) o (seated me answers running sweeps heard) (seated after more then count heard)
took me after heard told answers more running then sweeps count done asked o was h = record {
  board = h.board;
  followed = h.followed;
  last = h.worked.2;
  taken = subst (λ x. next (state_of h.board) (step_of me.number asked) ≡ Ok (x, state_of (seen_in after))) was h.worked.3;
}

-- the machine denies the step that was asked for, as it stands now
denied_now : (me after : Pass) (asked : Work) (heard : ℕ) (refusal : Refusal) → Held me asked heard (Err (Denied refusal)) after →
    next (state_of (seen_in after)) (step_of after.number asked) ≡ Err refusal
denied_now me after asked heard refusal h =
    subst (λ n. next (state_of (seen_in after)) (step_of n asked) ≡ Err refusal) (sym h.number)
    (subst (λ b. next (state_of b) (step_of me.number asked) ≡ Err refusal) (sym h.worked.0) h.worked.2)

-- ---- a begin

-- a busy seat is told so at once
pub begin_busy : (before : Seated) (me : Pass) (heard : ℕ) (answers : List Answer) (running : Option Running) (operation : Running) (sweeps : ℕ) (call : Call) →
    seated me answers running sweeps heard ≡ before → IsSeated me answers running sweeps → running ≡ Some operation → Begins (Err (Denied refuse.ActorBusy)) before call before
begin_busy before me heard answers running operation sweeps call is seat ran =
    subst (λ b. Begins (Err (Denied refuse.ActorBusy)) b call b) is (
      untold_same (seated me answers running sweeps heard),
      refl,
      has_followed_same me.number (seen_in me),
      (
        busy_is_denied me.number (seen_in me) call operation seat.low seat.high (ap (λ a. a.running) seat.told ∙ ran),
        subst (λ r. MatchOption r (heard ≤ events_in (seen_in me)) (λ operation. refuse.ActorBusy ≡ refuse.ActorBusy)) (sym ran) refl,
      ),
    )

not_begun : (me after : Pass) (heard : ℕ) (items : List Answer) (running : Option Running) (sweeps : ℕ) (stop : Stop) (call : Call) → running ≡ None →
    Held me (work.Begin call) heard (Err stop) after → IsNotBegun stop call (seated after items running sweeps heard)
not_begun me after heard items running sweeps Ahead call idle h = (idle, subst (λ b. events_in b < heard) (sym h.worked.0) h.worked.1)
not_begun me after heard items running sweeps Memory call idle h = idle
not_begun me after heard items running sweeps (Denied refusal) call idle h = (
  denied_now me after (work.Begin call) heard refusal h,
  subst (λ r. MatchOption r (heard ≤ events_in (seen_in after)) (λ operation. refusal ≡ refuse.ActorBusy)) (sym idle)
      (subst (λ b. heard ≤ events_in b) (sym h.worked.0) h.worked.1),
)

pub begin_stops : (before : Seated) (me after : Pass) (heard : ℕ) (answers items : List Answer) (running : Option Running) (sweeps : ℕ) (stop : Stop)
    (call : Call) → seated me answers running sweeps heard ≡ before → running ≡ None → items ≡ answers → Held me (work.Begin call) heard (Err stop) after →
    Begins (Err stop) before call (seated after items running sweeps heard)
begin_stops before me after heard answers items running sweeps stop call is idle same h =
    subst (λ b. Begins (Err stop) b call (seated after items running sweeps heard)) is (
      untold me after heard heard answers items running running sweeps (Err stop) (work.Begin call) same h,
      refl,
      waited me after heard stop (work.Begin call) h,
      not_begun me after heard items running sweeps stop call idle h,
    )

-- only a begin's outcome is told of one
began_by : (history : _) (actor : ℕ) (before after : Account) (call : Call) (o : Outcome) → IsMadeBy history actor before (step.Begin actor call None) o after →
    ((id : ℕ) → o ≡ outcome.Began id → ⊥) → ⊥
began_by history actor before after call (outcome.Began id) made other = other id refl
began_by history actor before after call (outcome.Went kind) made other = made
began_by history actor before after call (outcome.Ended id reply) made other = made
began_by history actor before after call (outcome.Swept swept) made other = made

pub only_began : (me after : Pass) (heard : ℕ) (answers : List Answer) (running : Option Running) (sweeps : ℕ) (call : Call) (done : ℕ × Outcome) →
    IsSeated me answers running sweeps → Held me (work.Begin call) heard (Ok done) after → ((id : ℕ) → done.1 ≡ outcome.Began id → ⊥) → ⊥
only_began me after heard answers running sweeps call done seat h other =
    began_by (past_of h.board).events me.number (record { answers = answers; running = running }) _ call done.1
    (own_step me after answers running sweeps seat (Ok done) (work.Begin call) heard h done.1 refl h.worked.2 h.worked.3) other

pub begun : (me after : Pass) (heard : ℕ) (answers items : List Answer) (running : Option Running) (sweeps : ℕ) (call : Call) (done : ℕ × Outcome) (id : ℕ) →
    IsSeated me answers running sweeps → items ≡ answers → Held me (work.Begin call) heard (Ok done) after → done.1 ≡ outcome.Began id →
    IsSeated after items (Some (begun_at done.0 id call)) sweeps
begun me after heard answers items running sweeps call done id seat same h is =
    let made = subst (λ o. IsMadeBy (past_of h.board).events me.number (record { answers = answers; running = running }) (step.Begin me.number call None) o (account_in me.number (seen_in after))) is
    (own_step me after answers running sweeps seat (Ok done) (work.Begin call) heard h done.1 refl h.worked.2 h.worked.3) in
    subst (λ xs. IsSeated after xs (Some (begun_at done.0 id call)) sweeps) (sym same)
    (seated_step me after answers running sweeps seat (Ok done) (work.Begin call) heard h done.1 h.worked.2 refl h.worked.3 answers
    (Some (begun_at done.0 id call)) (made.1 ∙ ap (λ p. record { answers = answers; running = Some (begun_at p id call) }) (sym h.worked.1)))

pub begin_goes : (before : Seated) (me after : Pass) (heard : ℕ) (answers items : List Answer) (running : Option Running) (sweeps : ℕ) (call : Call)
    (done : ℕ × Outcome) (n : ℕ) → seated me answers running sweeps heard ≡ before → running ≡ None → items ≡ answers →
    Held me (work.Begin call) heard (Ok done) after → done.1 ≡ outcome.Began n →
    Begins (Ok tt) before call (seated after items (Some (begun_at done.0 n call)) sweeps heard)
begin_goes before me after heard answers items running sweeps call done n is idle same h was =
    subst (λ b. Begins (Ok tt) b call (seated after items (Some (begun_at done.0 n call)) sweeps heard)) is (
      untold me after heard heard answers items running (Some (begun_at done.0 n call)) sweeps (Ok done) (work.Begin call) same h,
      begun_at done.0 n call,
      (idle, refl, refl, (omega (arith, events_grow me.number (seen_in me) h.board h.followed, h.worked.1), h.worked.0)),
      took me after heard heard answers items running (Some (begun_at done.0 n call)) sweeps sweeps done (work.Begin call) (outcome.Began n) was h,
    )

-- ---- a step of the operation

is_busy : (running : Option Running) (operation : Running) → running ≡ Some operation → ¬ (running ≡ None)
is_busy running operation ran none = none-some operation (sym none ∙ ran)

not_taken : (me after : Pass) (heard : ℕ) (items : List Answer) (running : Option Running) (operation : Running) (sweeps : ℕ) (stop : Stop) →
    IsSeated after items running sweeps → running ≡ Some operation → Held me work.Go 0 (Err stop) after →
    IsNotTaken stop (seated after items running sweeps heard)
not_taken me after heard items running operation sweeps Ahead seat ran h = absurd (omega (arith, h.worked.1))
not_taken me after heard items running operation sweeps Memory seat ran h = is_busy running operation ran
not_taken me after heard items running operation sweeps (Denied refusal) seat ran h =
    let denied = denied_now me after work.Go 0 refusal h in (
      denied,
      subst (λ r. MatchOption r (refusal ≡ refuse.Idle) (λ operation. refusal ≡ refuse.Spent)) (ap (λ a. a.running) seat.told)
          (idle_only after.number (seen_in after) refusal seat.low seat.high denied),
    )

pub not_busy : (running : Option Running) → ((operation : Running) → running ≡ Some operation → ⊥) → running ≡ None
not_busy None none = refl
not_busy (Some operation) none = absurd (none operation refl)

-- without an operation nothing is tried
pub go_idle : (before : Seated) (me : Pass) (heard : ℕ) (answers : List Answer) (running : Option Running) (sweeps : ℕ) →
    seated me answers running sweeps heard ≡ before → IsSeated me answers running sweeps → running ≡ None → Goes (Err (Denied refuse.Idle)) before before
go_idle before me heard answers running sweeps is seat none =
    subst (λ b. Goes (Err (Denied refuse.Idle)) b b) is (
      untold_same (seated me answers running sweeps heard),
      refl,
      has_followed_same me.number (seen_in me),
      (
        idle_is_denied me.number (seen_in me) seat.low seat.high (ap (λ a. a.running) seat.told ∙ none),
        subst (λ r. MatchOption r (refuse.Idle ≡ refuse.Idle) (λ operation. refuse.Idle ≡ refuse.Spent)) (sym none) refl,
      ),
    )

pub go_stops : (before : Seated) (me after : Pass) (heard : ℕ) (answers items : List Answer) (running : Option Running) (operation : Running) (sweeps : ℕ)
    (stop : Stop) → seated me answers running sweeps heard ≡ before → items ≡ answers → IsSeated me answers running sweeps → running ≡ Some operation →
    Held me work.Go 0 (Err stop) after → Goes (Err stop) before (seated after items running sweeps heard)
go_stops before me after heard answers items running operation sweeps stop is same seat ran h =
    subst (λ b. Goes (Err stop) b (seated after items running sweeps heard)) is (
      untold me after heard 0 answers items running running sweeps (Err stop) work.Go same h,
      refl,
      waited me after 0 stop work.Go h,
      not_taken me after heard items running operation sweeps stop (stopped me after 0 answers items running sweeps stop work.Go seat same h) ran h,
    )

-- a step that isn't the end
went_by : (history : _) (actor : ℕ) (before after : Account) (o : Outcome) → IsMadeBy history actor before (step.Go actor) o after →
    ((id : ℕ) (reply : Reply) → o ≡ outcome.Ended id reply → ⊥) → (after ≡ before) × ¬ (before.running ≡ None) × (kind : Kind) × (o ≡ outcome.Went kind)
went_by history actor before after (outcome.Began id) made other = absurd made
went_by history actor before after (outcome.Went kind) made other = (made.0, made.1, kind, refl)
went_by history actor before after (outcome.Ended id reply) made other = absurd (other id reply refl)
went_by history actor before after (outcome.Swept swept) made other = absurd made

module _ (me after : Pass) (answers items : List Answer) (running : Option Running) (sweeps : ℕ) (done : ℕ × Outcome)
    (seat : IsSeated me answers running sweeps) (same : items ≡ answers) (h : Held me work.Go 0 (Ok done) after) where
  went_made : IsMadeBy (past_of h.board).events me.number (record { answers = answers; running = running }) (step.Go me.number) done.1 (account_in me.number (seen_in after))
  went_made = own_step me after answers running sweeps seat (Ok done) work.Go 0 h done.1 refl h.worked.2 h.worked.3

  pub went : ((id : ℕ) (reply : Reply) → done.1 ≡ outcome.Ended id reply → ⊥) → IsSeated after items running sweeps
  went other =
      let made = went_by (past_of h.board).events me.number (record { answers = answers; running = running }) _ done.1 went_made other in
      subst (λ xs. IsSeated after xs running sweeps) (sym same)
      (seated_step me after answers running sweeps seat (Ok done) work.Go 0 h done.1 h.worked.2 refl h.worked.3 answers running made.0)

  pub went_busy : ((id : ℕ) (reply : Reply) → done.1 ≡ outcome.Ended id reply → ⊥) → ¬ (running ≡ None) × (kind : Kind) × (done.1 ≡ outcome.Went kind)
  went_busy other =
      let made = went_by (past_of h.board).events me.number (record { answers = answers; running = running }) _ done.1 went_made other in
      (made.1, made.2, made.3)

  -- the end of the operation that the seat has
  pub ended_made : (id : ℕ) (reply : Reply) → done.1 ≡ outcome.Ended id reply →
      (operation : Running) × (running ≡ Some operation) × (operation.id ≡ id)
      × (account_in me.number (seen_in after) ≡ record { answers = answers ++ answered_at operation (events_in h.board) reply ∷ []; running = None })
  ended_made id reply is =
      subst (λ o. IsMadeBy (past_of h.board).events me.number (record { answers = answers; running = running }) (step.Go me.number) o (account_in me.number (seen_in after))) is went_made

  -- the operation is the one that is told
  pub same_operation : (id : ℕ) (reply : Reply) (is : done.1 ≡ outcome.Ended id reply) (operation : Running) → running ≡ Some operation →
      account_in me.number (seen_in after) ≡ record { answers = answers ++ answered_at operation done.0 reply ∷ []; running = None }
  same_operation id reply is operation ran =
      let made = ended_made id reply is in
      made.3 ∙ ap (λ r. record { answers = answers ++ answered_at r (events_in h.board) reply ∷ []; running = None }) (same_Some _ _ (sym made.1 ∙ ran))
      ∙ ap (λ p. record { answers = answers ++ answered_at operation p reply ∷ []; running = None }) (sym h.worked.1)

  pub answered : (id : ℕ) (reply : Reply) → done.1 ≡ outcome.Ended id reply → (operation : Running) → running ≡ Some operation → (more : List Answer) →
      more ≡ items ++ answered_at operation done.0 reply ∷ [] → IsSeated after more None sweeps
  answered id reply is operation ran more pushed =
      subst (λ xs. IsSeated after xs None sweeps) (sym (pushed ∙ ap (λ xs. xs ++ answered_at operation done.0 reply ∷ []) same))
      (seated_step me after answers running sweeps seat (Ok done) work.Go 0 h done.1 h.worked.2 refl h.worked.3
      (answers ++ answered_at operation done.0 reply ∷ []) None (same_operation id reply is operation ran))

pub go_goes : (before : Seated) (me after : Pass) (heard : ℕ) (answers items : List Answer) (running : Option Running) (sweeps : ℕ) (done : ℕ × Outcome) →
    seated me answers running sweeps heard ≡ before → items ≡ answers → IsSeated me answers running sweeps →
    Held me work.Go 0 (Ok done) after → ((n : ℕ) (reply : Reply) → done.1 ≡ outcome.Ended n reply → ⊥) →
    Goes (Ok false) before (seated after items running sweeps heard)
go_goes before me after heard answers items running sweeps done is same seat h going =
    let busy = went_busy me after answers items running sweeps done seat same h going in
    subst (λ b. Goes (Ok false) b (seated after items running sweeps heard)) is (
      untold me after heard 0 answers items running running sweeps (Ok done) work.Go same h,
      refl,
      busy.0,
      busy.1,
      took me after heard 0 answers items running running sweeps sweeps done work.Go (outcome.Went busy.1) busy.2 h,
    )

pub go_ends : (before : Seated) (me after : Pass) (heard : ℕ) (answers items more : List Answer) (running : Option Running) (sweeps : ℕ) (done : ℕ × Outcome)
    (n : ℕ) (reply : Reply) (operation : Running) → seated me answers running sweeps heard ≡ before → items ≡ answers → IsSeated me answers running sweeps →
    Held me work.Go 0 (Ok done) after → done.1 ≡ outcome.Ended n reply → running ≡ Some operation → more ≡ items ++ answered_at operation done.0 reply ∷ [] →
    Goes (Ok true) before (seated after more None sweeps heard)
go_ends before me after heard answers items more running sweeps done n reply operation is same seat h was ran pushed =
    let made = ended_made me after answers items running sweeps done seat same h n reply was in
    let its_id : n ≡ operation.id = sym made.2 ∙ ap (λ r. r.id) (same_Some _ _ (sym made.1 ∙ ran)) in
    subst (λ b. Goes (Ok true) b (seated after more None sweeps heard)) is (
      operation,
      record {
        on = gone_on me after heard 0 answers more running None sweeps sweeps (Ok done) work.Go h;
        sweeps = refl;
        ran = ran;
        idle = refl;
        answer = answered_at operation done.0 reply;
        last = pushed ∙ ap (λ xs. xs ++ answered_at operation done.0 reply ∷ []) same;
        id = refl;
        call = refl;
        began = refl;
      },
      took me after heard 0 answers more running None sweeps sweeps done work.Go (outcome.Ended operation.id reply) (was ∙ ap (λ i. outcome.Ended i reply) its_id) h,
    )

-- ---- a step of the sweep

-- a sweep tells what it did
swept_by : (before after : Recorded) (o : Outcome) → Turns before after step.Sweep o → ((swept : Swept) → o ≡ outcome.Swept swept → ⊥) → ⊥
swept_by before after o (Rests swept same events) other = other swept refl

swept_only : (board : Taken) (o : Outcome) (after : State) → next (state_of board) step.Sweep ≡ Ok (o, after) → ((swept : Swept) → o ≡ outcome.Swept swept → ⊥) → ⊥
swept_only board o after e other =
    let limits = bounded board.limits in
    swept_by (recorded_of limits board.steps) (recorded after (past_of board)) o
    (turns (state_of board) (past_of board) step.Sweep o after (sound_along limits board.steps).fits (alike_along limits board.steps).begun_are
    (moved (state_of board) step.Sweep o after e)) other

pub only_swept : (me after : Pass) (done : ℕ × Outcome) → Held me work.Sweep 0 (Ok done) after → ((swept : Swept) → done.1 ≡ outcome.Swept swept → ⊥) → ⊥
only_swept me after done h other = swept_only h.board done.1 (state_of (seen_in after)) h.worked.3 other

pub swept : (me after : Pass) (answers : List Answer) (running : Option Running) (sweeps : ℕ) (done : ℕ × Outcome) →
    IsSeated me answers running sweeps → Held me work.Sweep 0 (Ok done) after → IsSeated after answers running (sweeps + 1) × (sweeps + 1 < 2 ^ 64)
swept me after answers running sweeps done seat h =
    seated_sweep me after answers running sweeps seat (Ok done) work.Sweep 0 h done.1 refl h.worked.2 refl h.worked.3

not_swept : (me after : Pass) (heard : ℕ) (items : List Answer) (running : Option Running) (sweeps : ℕ) (stop : Stop) →
    Held me work.Sweep 0 (Err stop) after → IsNotSwept stop (seated after items running sweeps heard)
not_swept me after heard items running sweeps Ahead h = absurd (omega (arith, h.worked.1))
not_swept me after heard items running sweeps Memory h = subst (λ b. denial_of (state_of b) step.Sweep ≡ None) (sym h.worked.0) h.worked.2
not_swept me after heard items running sweeps (Denied refusal) h = denied_now me after work.Sweep 0 refusal h

pub sweep_stops : (before : Seated) (me after : Pass) (heard : ℕ) (answers : List Answer) (running : Option Running) (sweeps : ℕ) (stop : Stop) →
    seated me answers running sweeps heard ≡ before → Held me work.Sweep 0 (Err stop) after →
    Sweeps (Err stop) before (seated after answers running sweeps heard)
sweep_stops before me after heard answers running sweeps stop is h =
    subst (λ b. Sweeps (Err stop) b (seated after answers running sweeps heard)) is (
      gone_on me after heard 0 answers answers running running sweeps sweeps (Err stop) work.Sweep h,
      refl,
      refl,
      (refl, waited me after 0 stop work.Sweep h, not_swept me after heard answers running sweeps stop h),
    )

pub sweep_goes : (before : Seated) (me after : Pass) (heard : ℕ) (answers : List Answer) (running : Option Running) (sweeps : ℕ) (done : ℕ × Outcome)
    (told : Swept) → seated me answers running sweeps heard ≡ before → Held me work.Sweep 0 (Ok done) after → done.1 ≡ outcome.Swept told →
    Sweeps (Ok told) before (seated after answers running (sweeps + 1) heard)
sweep_goes before me after heard answers running sweeps done told is h was =
    subst (λ b. Sweeps (Ok told) b (seated after answers running (sweeps + 1) heard)) is (
      gone_on me after heard 0 answers answers running running sweeps (sweeps + 1) (Ok done) work.Sweep h,
      refl,
      refl,
      record {
        sweeps = refl;
        took = took me after heard 0 answers answers running running sweeps (sweeps + 1) done work.Sweep (outcome.Swept told) was h;
      },
    )
