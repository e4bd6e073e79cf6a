-- What of operations stays while none of them offers: which they are, their tries, and whether their offers were carried out.
use Rattle.std.specs.Prelude.{◌≡◌, ◌≢◌, ℕ, Bool, false, List, Contains, Option, Some, option_map}
use Rattle.history.specs.declared.calls.Call.{Call}
use Rattle.machine_model.specs.declared.operations.Operation.{Operation}
use Rattle.machine_model.specs.States.{State, operation_of}
use Rattle.lock_free.specs.declared.accounts.Known.{Known}
use Rattle.lock_free.specs.Roots.{IsItsTry}

pub record Try : Type 0 where
  pub id : ℕ
  pub call : Call
  pub opens : Option ℕ
  pub attempt : ℕ
  pub is_marked : Bool

abbrev pub try_of : Operation → Try
try_of o = record { id = o.id; call = o.call; opens = o.opens; attempt = o.attempt; is_marked = o.is_marked }

abbrev pub try_at : State → ℕ → Option Try
try_at state actor = option_map try_of (operation_of state actor)

-- the same operations run, each in its try
abbrev pub SameTries : State → State → Type 0
SameTries before after = (actor : ℕ) → try_at after actor ≡ try_at before actor

-- the actor's operation is in a try from which none of these offers comes, and neither it nor an earlier one was carried out
pub record TriesAnew (offers : List Known) (before after : State) (actor : ℕ) : Type 0 where
  pub was : Operation
  pub ran : operation_of before actor ≡ Some was
  pub unmarked : was.is_marked ≡ false
  pub now : Operation
  pub runs : operation_of after actor ≡ Some now
  pub still_unmarked : now.is_marked ≡ false
  pub fresh : (k : Known) → Contains offers k → IsItsTry now k.offer → ⊥
  pub others : (a : ℕ) → a ≢ actor → try_at after a ≡ try_at before a

pub data KeepsTries (offers : List Known) (before after : State) : Type 0 where
  as_before : SameTries before after → KeepsTries offers before after
  anew : (actor : ℕ) → TriesAnew offers before after actor → KeepsTries offers before after
