-- One hold of the gate: what the gate's log says of a call, told of the machine.
use Rattle.std.specs.Prelude.{◌≡◌, ℕ, ◌+◌, List, [], ◌∷◌, ◌++◌, Ok, Err, sum_by, length}
use Rattle.std.proofs.Common.{refl, sym, ap, subst, ◌∙◌, inr, eq-eqb, ne_eqb, arith}
use Rattle.std.proofs.lemmas.List.Sums.{sum_by-append, sum_by-cons}
use Rattle.lock_runner.specs.Vocabulary.{Step}
use Rattle.lock_runner.specs.Beneath.proof_runs.specs.Machines.{Taken, with_step}
use Rattle.gate.specs.Logs.{Leads, calls_of, entry}
use Rattle.gate.specs.Calls.{IsCalled}
use Rattle.gate.proofs.Placing.{a_call_is_one_entry}
use Rattle.lock_runner.specs.declared.asks.Shared.{Shared}
use Rattle.lock_runner.specs.declared.asks.Ask.{Ask}
use Rattle.lock_runner.specs.declared.asks.Work.{Work}
use Rattle.lock_runner.specs.declared.asks.Work.TheVariants as work
use Rattle.lock_runner.specs.declared.seats.Stop.TheVariants.{Denied, Memory, Ahead}
use Rattle.lock_runner.specs.Asks.{Told, Hold, Pass, step_of, swept_by, swept}
use Rattle.lock_runner.specs.Boards.{HasFollowed}
use Rattle.lock_runner.specs.Seats.{seen_in, sweeps_of}
use Rattle.lock_runner.specs.Holds.{Worked, Answers}
use Rattle.lock_runner.proofs.Boards.{IsDoneBy, HasWorked, has_worked_same, has_followed_same, has_followed_more, still_followed}

-- ---- one step at most

-- one step is the actor's work
stepped : (actor : ℕ) (board : Taken) (s : Step) (now : Taken) → IsDoneBy actor s → now ≡ with_step board s → HasWorked actor board now
stepped actor board s now own with_it = record { limits = ap (λ b. b.limits) with_it; steps = inr (s, own, ap (λ b. b.steps) with_it) }

as_it_was : (actor : ℕ) (board now : Taken) → now ≡ board → HasWorked actor board now
as_it_was actor board now same = subst (λ b. HasWorked actor board b) (sym same) (has_worked_same actor board)

done_by : (actor : ℕ) (s : Step) (result : Told) (board : Taken) (heard : ℕ) (now : Taken) → IsDoneBy actor s → Worked result board s heard now → HasWorked actor board now
done_by actor s (Ok done) board heard now own w = stepped actor board s now own w.2
done_by actor s (Err Ahead) board heard now own w = as_it_was actor board now w.0
done_by actor s (Err Memory) board heard now own w = as_it_was actor board now w.0
done_by actor s (Err (Denied refusal)) board heard now own w = as_it_was actor board now w.0

own_step : (actor : ℕ) (asked : Work) → IsDoneBy actor (step_of actor asked)
own_step actor (work.Begin call) = refl
own_step actor work.Go = refl
own_step actor work.Sweep = tt

pub has_worked : (actor : ℕ) (asked : Work) (result : Told) (board : Taken) (heard : ℕ) (now : Taken) → Worked result board (step_of actor asked) heard now → HasWorked actor board now
has_worked actor asked result board heard now w = done_by actor (step_of actor asked) result board heard now (own_step actor asked) w

-- ---- the holds of other seats

-- one of them
by_other : (actor : ℕ) (e : Hold) (before after : Shared) → (e.seat ≡ actor → ⊥) → Answers e.seat before e.call e.answer after → HasFollowed actor before.machine after.machine
by_other actor e before after apart told =
    still_followed e.seat actor before.machine before.machine after.machine (λ same. apart (sym same)) (has_followed_same actor before.machine)
    (has_worked e.seat e.call.work e.answer before.machine e.call.heard after.machine told)

not_own : (actor : ℕ) (e : Hold) (es : List Hold) → calls_of actor (e ∷ es) ≡ [] → e.seat ≡ actor → ⊥
not_own actor e es none same =
    let is : calls_of actor (e ∷ es) ≡ e ∷ calls_of actor es = rw (eq-eqb e.seat actor same) refl in
    absurd (omega (arith, ap (λ xs. length xs) (sym is ∙ none)))

rest_none : (actor : ℕ) (e : Hold) (es : List Hold) → calls_of actor (e ∷ es) ≡ [] → calls_of actor es ≡ []
rest_none actor e es none =
    let is : calls_of actor (e ∷ es) ≡ calls_of actor es = rw (ne_eqb e.seat actor (not_own actor e es none)) refl in
    sym is ∙ none

-- all of them
pub along : (actor : ℕ) (start : Shared) (es : List Hold) (last : Shared) → calls_of actor es ≡ [] → Leads Answers start es last → HasFollowed actor start.machine last.machine
along actor start [] last none leads = subst (λ (o : Shared). HasFollowed actor start.machine o.machine) (sym leads) (has_followed_same actor start.machine)
along actor start (e ∷ es) last none leads =
    has_followed_more actor start.machine leads.0.machine last.machine (by_other actor e start leads.0 (not_own actor e es none) leads.1)
    (along actor leads.0 es last (rest_none actor e es none) leads.2)

-- ---- the seat's own hold

-- The seat found a machine that had gone on without its actor, and worked on it.
pub record Held (before : Pass) (asked : Work) (heard : ℕ) (result : Told) (after : Pass) : Type 0 where
  pub gate : after.gate ≡ before.gate
  pub number : after.number ≡ before.number
  pub first : after.seen.first ≡ before.seen.first
  pub board : Taken
  pub followed : HasFollowed before.number (seen_in before) board
  pub worked : Worked result board (step_of before.number asked) heard (seen_in after)
  pub counted : sweeps_of after ≡ sweeps_of before + swept_by result asked

one_more : (es fs : List Hold) (e : Hold) → fs ≡ es ++ e ∷ [] → sum_by swept fs ≡ sum_by swept es + swept e
one_more es fs e is = omega (arith, ap (λ xs. sum_by swept xs) is, sum_by-append swept es (e ∷ []), sum_by-cons swept e [])

pub held : (before after : Pass) (ask : Ask) (result : Told) → IsCalled Answers before ask result after → Held before ask.work ask.heard result after
held before after ask result is =
    let own = one_more (calls_of before.number before.seen.log) (calls_of before.number after.seen.log) (entry before.number ask result)
    (a_call_is_one_entry Answers before after ask result is) in
    record {
      gate = is.gate;
      number = is.number;
      first = is.called.first ∙ is.followed.first;
      board = is.board.object.machine;
      followed = along before.number before.seen.object is.followed.rest is.board.object is.followed.others is.followed.leads;
      worked = is.called.answered;
      counted = ap (λ n. sum_by swept (calls_of n after.seen.log)) is.number ∙ own;
    }
