-- What stays of a seat and of its operation from the begin of a call to its end.
use Rattle.std.specs.Prelude.{◌≡◌, Some}
use Rattle.history.specs.declared.replies.Reply.{Reply}
use Rattle.machine_model.specs.declared.operations.Operation.{Operation}
use Rattle.machine_model.specs.GivingUp.{given_up}
use Rattle.lock_free.specs.declared.rules.View.{View}
use Rattle.lock_free.specs.Loading.{Runs}
use Rattle.lock_free.specs.Telling.{GoesOn}

-- More has happened, and the seat is what it was, but for its own slots, those that it has retired with their links, what it has seen of the epoch, its offer, and
-- what the word of the number that it has reserved names.
pub record IsStill (v w : View) : Type 0 where
  pub is : w ≡
      record v { account = w.account; epoch = w.epoch; passed = w.passed; pool = w.pool; drafts = w.drafts; opening = w.opening; offer = w.offer; retired = w.retired; owed = w.owed; links = w.links }
  pub goes_on : GoesOn v.account.steps w.account.steps

-- it is the same operation, in whichever try and on whichever line
abbrev pub IsSame : Operation → Operation → Type 0
IsSame o p = p ≡ record o { private = p.private; attempt = p.attempt; is_marked = p.is_marked; generation = p.generation; line = p.line }

-- the seat is still what it was, and its operation runs on
pub record RunsOn (v w : View) : Type 0 where
  pub still : IsStill v w
  pub runs : (o : Operation) → Runs v o → (p : Operation) × Runs w p × IsSame o p

-- it may give up, and then answers this
abbrev pub MayAnswer : View → Reply → Type 0
MayAnswer v answer = (operation : Operation) × Runs v operation × (given_up operation.call operation.line ≡ Some answer)
