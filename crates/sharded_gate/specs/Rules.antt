-- The rule of a sharded gate: that of gates, with a slot for each shard.
use Rattle.std.specs.Prelude.{◌≡◌, ℕ, ◌*◌, ◌/◌, List, ◌∷◌, Option, length}
use Rattle.atomic_table.specs.Table.{State, Step}
use Rattle.gate.specs.declared.rules.View.{View}
use Rattle.gate.specs.Views.{Place, HasSlot, AreSameSlots, holding, Commits, HasLeft, HasLooked, has_entered}
use Rattle.gate.specs.Rules.{IsKept}
use Rattle.gate.specs.Logs.{Logged}
use Rattle.sharded_gate.specs.Shards.{LoggedShard, shard_of}

-- what a seat knows, and what it is at the table
abbrev pub Knows : Type 0 → Type 0 → Type 0 → Type 0
Knows O C A = View (LoggedShard O C A) (List O) C A

abbrev pub ShardPlace : Type 0 → Type 0 → Type 0 → Type 0
ShardPlace O C A = Place (LoggedShard O C A) (List O) C A

-- how many words a shard has, of which the first one tells who has it: the others keep the words of two shards apart
abbrev pub spacing : ℕ
spacing = 16

abbrev pub word_of_shard : ℕ → ℕ
word_of_shard shard = shard * spacing

-- the shard that has this word
abbrev pub shard_at : ℕ → ℕ
shard_at word = word / spacing

-- where its word was 0 the seat has taken the shard, else nothing has changed
abbrev pub has_taken : {O C A : Type 0} → Step (LoggedShard O C A) → ShardPlace O C A → ℕ → ShardPlace O C A → Type 0
has_taken step before found after = has_entered shard_at step before found after

module _ {O C A : Type 0} (answers : ℕ → List O → C → A → List O → Type 0) (about : ℕ → C → Option ℕ) where
  -- the rule, where the whole was these shards first, and there are so many seats
  abbrev pub IsShared : List O → ℕ → State (LoggedShard O C A) (Knows O C A) → Type 0
  IsShared first seats s = IsKept answers (shard_of (length first) (about (length first))) word_of_shard (length first) seats first s

  -- the seat has made its call by what it gave back, or none
  abbrev pub HasGiven : ℕ → ShardPlace O C A → ShardPlace O C A → Type 0
  HasGiven shards before after = HasLeft answers (shard_of shards (about shards)) before after

  abbrev pub has_given : Step (LoggedShard O C A) → ShardPlace O C A → ℕ → ShardPlace O C A → Type 0
  has_given step before stored after = HasGiven step.slots before after

  -- the seat has seen the whole by what it gave back, and made no call
  abbrev pub HasSeen : ℕ → ShardPlace O C A → ShardPlace O C A → Type 0
  HasSeen shards before after = HasLooked answers (shard_of shards (about shards)) before after

  abbrev pub has_seen : Step (LoggedShard O C A) → ShardPlace O C A → ℕ → ShardPlace O C A → Type 0
  has_seen step before stored after = HasSeen step.slots before after

  -- the seat has shards in hand with which its call is made, or none, and this one was taken last
  pub record MayGive (shards shard : ℕ) (me : ShardPlace O C A) : Type 0 where
    pub number : ℕ
    pub seen : Logged (List O) C A
    pub was : LoggedShard O C A
    pub now : LoggedShard O C A
    pub found : List (ℕ × LoggedShard O C A)
    pub others : List (ℕ × LoggedShard O C A)
    pub place : me ≡ (holding number seen ((shard, was) ∷ found), (shard, now) ∷ others)
    pub single : HasSlot shard found → ⊥
    pub same : AreSameSlots found others
    pub commits : Commits answers (shard_of shards (about shards)) number ((shard, was) ∷ found) ((shard, now) ∷ others)

module _ {O C A : Type 0} where
  -- in this shard, which the seat took last, nothing is new, and in the others of its shards
  pub record MayRelease (shard : ℕ) (me : ShardPlace O C A) : Type 0 where
    pub number : ℕ
    pub seen : Logged (List O) C A
    pub was : LoggedShard O C A
    pub others : List (ℕ × LoggedShard O C A)
    pub place : me ≡ (holding number seen ((shard, was) ∷ others), (shard, was) ∷ others)
    pub single : HasSlot shard others → ⊥
