-- From the facts about contents: the order explains the history, and leads to a world that shows the contents.
use Rattle.std.proofs.Common.{◌≡◌, ℕ, ◌<◌, List, refl, sym, subst, arith}
use Rattle.proof_order.specs.Vocabulary.{hash_of, KeyMap, first_world, Explains, Place, ids_by_place, Bounds, Step, State, AreBounds, run, IsRun, states_of, last_of, records_of, order_of, Record}
use Rattle.proof_order.specs.Vocabulary.{record_of}
use Rattle.proof_order.specs.Beneath.machine_model.proofs.Times.{run_is, run_ends}
use Rattle.proof_order.specs.Facts.{Facts}
use Rattle.proof_order.specs.Laws.Orders.{IsExplained}
use Rattle.proof_order.specs.Beneath.history.proofs.Among.{Among}
use Rattle.proof_order.proofs.Views.Replay.{ids_of}
use Rattle.proof_order.proofs.History.AllBooks.{books_at}
use Rattle.proof_order.proofs.Places.Members.{sorted, step_within}
use Rattle.proof_order.proofs.Places.Blocks.{order_leads}
use Rattle.proof_order.proofs.Views.Ends.{shows_first, shows_last}
use Rattle.proof_order.proofs.History.Candidates.{is_candidate, keeps_time}
use Rattle.proof_order.specs.Beneath.machine_model.proofs.Recorded.{record_ends}

-- the order is the ids of the rising places
order_is : (records : ℕ → Record) (last : ℕ) → order_of (records last) ≡ ids_of (sorted records last)
unfolding ids_by_place
order_is records last = refl

-- in any run with such contents
pub explained : {limits : Bounds} {states : ℕ → State} {last : ℕ} (r : IsRun limits states last) (V : ℕ → ℕ → KeyMap) (facts : Facts limits states r.records last V) →
    IsExplained limits (states last) (r.records last)
explained {limits} {states} {last} r V facts =
    let (calls, world, recalls, replays, shows) = order_leads r V facts first_world (shows_first r V facts) in
    let within : (p : Place) → Among p (r.records last).places → p.step < last = λ p a. step_within r V facts p a in
    let explains : Explains (hash_of limits.hash) (r.records last).events (ids_of (sorted r.records last)) world = record {
      well_formed = (books_at r last (omega arith)).well_formed;
      candidate = is_candidate r V facts within;
      keeps_time = keeps_time r V facts within;
      replayed = (calls, recalls, replays);
    } in (
      world,
      subst (λ order. Explains (hash_of limits.hash) (r.records last).events order world) (sym (order_is r.records last)) explains,
      shows_last r V facts world shows,
    )

-- and so for each list of steps
pub legal_by_facts : (limits : Bounds) (steps : List Step) (V : ℕ → ℕ → KeyMap) → AreBounds limits → Facts limits (states_of limits steps) (records_of limits steps) (last_of limits steps) V →
    IsExplained limits (run limits steps) (record_of limits steps)
legal_by_facts limits steps V ok facts =
    subst (λ past. IsExplained limits (run limits steps) past) (record_ends limits steps)
    (subst (λ state. IsExplained limits state (records_of limits steps (last_of limits steps))) (run_ends limits steps)
    (explained (run_is limits steps ok) V facts))
