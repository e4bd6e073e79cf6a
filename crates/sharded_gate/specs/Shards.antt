-- An object in shards: which shards a call is about, and what the slot of a shard has of the whole.
use Rattle.std.specs.Prelude.{◌≡◌, ℕ, ◌==◌, Bool, true, cond, List, [], ◌∷◌, ◌++◌, filter, length, Option, Some, None, slice_get, slice_set}
use mathlib.Core.Option as table
use lib.ListN.{get_elem?}
use Rattle.gate.specs.declared.objects.Entry.{Entry}
use Rattle.gate.specs.Logs.{Logged}

-- a shard, and the calls that are about it, in their order
pub record LoggedShard (O C A : Type 0) : Type 0 where
  pub object : O
  pub log : List (Entry C A)

-- a call about one shard, or about all, is about this one
abbrev pub is_about : Option ℕ → ℕ → Bool
is_about None shard = true
is_about (Some one) shard = one == shard

module _ {C A : Type 0} (about : C → Option ℕ) where
  -- the calls of the log that are about the shard
  abbrev pub calls_about : ℕ → List (Entry C A) → List (Entry C A)
  calls_about shard log = filter (λ e. is_about (about e.call) shard) log

module _ {O C A : Type 0} where
  -- the shard without a call
  abbrev pub fresh_shard : O → LoggedShard O C A
  fresh_shard object = record { object = object; log = [] }

  -- the shard after one more call is told of
  abbrev pub with_entry : LoggedShard O C A → Entry C A → LoggedShard O C A
  with_entry shard entry = record { object = shard.object; log = shard.log ++ entry ∷ [] }

  abbrev pub logged_shard : List (Entry C A) → table.Option O → table.Option (LoggedShard O C A)
  logged_shard log table.none = table.none
  logged_shard log (table.some object) = table.some (record { object = object; log = log })

  -- what the slot of the shard has of a whole in so many shards
  abbrev pub shard_of : ℕ → (C → Option ℕ) → Logged (List O) C A → ℕ → table.Option (LoggedShard O C A)
  shard_of shards about whole shard = cond (length whole.object == shards) (logged_shard (calls_about about shard whole.log) (get_elem? whole.object shard)) table.none

  -- what one shard answers to a call that is about it alone is what each whole answers in which it stands so, and the others stay
  abbrev pub AnswersAlone : (ℕ → List O → C → A → List O → Type 0) → (ℕ → C → Option ℕ) → ℕ → O → C → A → O → Type 0
  AnswersAlone answers about seat before call answer after =
      (whole : List O) (shard : ℕ) → slice_get whole shard ≡ Some before → about (length whole) call ≡ Some shard → answers seat whole call answer (slice_set whole shard after)
