-- What a call on one key does beside the slots.
use Rattle.std.specs.Prelude.{◌≡◌, ℕ, Option}
use Rattle.operate.specs.Vocabulary.{Action, Operation, attempt_after, line_action, State, Table, acted_table}
use Rattle.operate.specs.Beneath.machine_model.specs.declared.actions.Action.TheVariants as act
use Rattle.operate.specs.declared.key_op.KeyOp.{KeyOp}
use Rattle.operate.specs.Places.{key_line}
use Rattle.operate.specs.Steps.{table_after}

-- it offers no root and takes no offer back, and makes no root of a new generation
abbrev pub SwapsNoRoot : Action → Type 0
SwapsNoRoot (act.Abort offer) = ⊥
SwapsNoRoot (act.Offer offer) = ⊥
SwapsNoRoot (act.MakeRoot main) = ⊥
SwapsNoRoot action = Unit {0}

-- The action of a call behind which the root words are these: it changes them only where ROOT completes an offer, and no tries are counted.
pub record IsOfKey (roots : Table) (handle : ℕ) (after : Table) (action : Action) : Type 0 where
  pub words : (actor : ℕ) → acted_table roots handle actor action ≡ after
  pub tries : (attempt : ℕ) → attempt_after attempt action ≡ attempt
  pub beside : SwapsNoRoot action

-- a law: so it is with each step of a call on one key
abbrev pub ActsOfKey : Type 0
ActsOfKey =
    (state : State) → (operation : Operation) → (roots : Table) → (handle : ℕ) → (op : KeyOp) → (root_seen : Option ℕ) →
    IsOfKey roots handle (table_after roots handle op) (line_action state operation (key_line op root_seen))
