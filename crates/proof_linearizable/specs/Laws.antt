-- The legal order.
use Rattle.std.specs.Prelude.{◌≡◌, ◌≢◌, ℕ, List, [], ◌∷◌, ◌++◌, Option, false}
use Rattle.proof_linearizable.specs.Beneath.ctrie_base.specs.Hashes.{hash_of}
use Rattle.proof_linearizable.specs.Beneath.history.specs.declared.calls.Call.{Call}
use Rattle.proof_linearizable.specs.Beneath.history.specs.declared.events.Event.TheVariants.{Begin, End}
use Rattle.proof_linearizable.specs.Beneath.history.specs.declared.replies.Reply.{Reply}
use Rattle.proof_linearizable.specs.Beneath.history.specs.declared.replies.Reply.TheVariants.{NoSlots}
use Rattle.proof_linearizable.specs.Beneath.history.specs.Worlds.{HandleMap}
use Rattle.proof_linearizable.specs.Beneath.history.specs.Effects.{Effect}
use Rattle.proof_linearizable.specs.Beneath.machine_model.specs.declared.steps.Bounds.{Bounds}
use Rattle.proof_linearizable.specs.Beneath.machine_model.specs.declared.steps.Step.{Step}
use Rattle.proof_linearizable.specs.Beneath.machine_model.specs.States.{State}
use Rattle.proof_linearizable.specs.Beneath.machine_model.specs.Keys.{KeysFit}
use Rattle.proof_linearizable.specs.Beneath.machine_model.specs.Machine.{AreBounds, run, is_busy}
use Rattle.proof_linearizable.specs.Beneath.proof_order.specs.Laws.Orders.{ShowsContents, IsExplained}
use Rattle.proof_linearizable.specs.Beneath.machine_model.specs.Records.{order_of, record_of, Record}

-- The order that the machine hands out explains its history, for every list of steps by any number of actors; and the world to which the order leads has just
-- the open handles, of their kinds, each with its content.
abbrev pub EveryOrderIsLegal : Type 0
EveryOrderIsLegal = (limits : Bounds) (steps : List Step) → AreBounds limits → KeysFit steps → IsExplained limits (run limits steps) (record_of limits steps)

-- ---- an operation that runs alone

-- from rest, all that is told is the begin and the end of this operation
pub record RanAlone (before : State) (past now : Record) (id actor : ℕ) (call : Call) (opens : Option ℕ) (answer : Reply) : Type 0 where
  pub rest : is_busy before ≡ false
  pub told : now.events ≡ past.events ++ Begin id actor call opens ∷ End id answer ∷ []

-- What it does to the order and to the world: where it is refused for want of slots, nothing; else it enters the order last, and its call leads on with its reply.
pub data Does (hash : ℕ → ℕ) (past now : Record) (id : ℕ) (call : Call) (opens : Option ℕ) (answer : Reply) (world next : HandleMap) : Type 0 where
  refused : answer ≡ NoSlots → order_of now ≡ order_of past → next ≡ world → Does hash past now id call opens answer world next
  acts : answer ≢ NoSlots → order_of now ≡ order_of past ++ id ∷ [] → Effect hash world call opens answer next → Does hash past now id call opens answer world next

-- so it leads from the world before it to the one after it
abbrev pub AloneItActs : Type 0
AloneItActs =
    (limits : Bounds) (steps more : List Step) (id actor : ℕ) (call : Call) (opens : Option ℕ) (answer : Reply) → AreBounds limits → KeysFit (steps ++ more) →
    RanAlone (run limits steps) (record_of limits steps) (record_of limits (steps ++ more)) id actor call opens answer →
    (world next : HandleMap) × ShowsContents world (run limits steps) × ShowsContents next (run limits (steps ++ more))
    × Does (hash_of limits.hash) (record_of limits steps) (record_of limits (steps ++ more)) id call opens answer world next
