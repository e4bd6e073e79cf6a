-- What is asked of a map in shards, what is told, and which shard a request is about.
use Rattle.std.specs.Prelude.{ℕ, ◌*◌, ◌/◌, ◌%◌, ◌^◌, Option, Some, None, Result, Ok, Err, option_map}
use Rattle.shared_map.specs.Vocabulary.{hash_of, HashKind, Call, Get, Put, PutIfAbsent, Replace, ReplaceIf, Remove, RemoveIf, Reply, handle_of}
use Rattle.gate.specs.declared.objects.Entry.{Entry}
use Rattle.ctrie_map.specs.declared.errors.MapError.{MapError}
use Rattle.ctrie_map.specs.declared.errors.MapError.TheVariants.{Memory}
use Rattle.shared_map.specs.declared.asks.Answer.{Answer}
use Rattle.shared_map.specs.declared.asks.Answer.TheVariants as answer
use Rattle.shared_map.specs.declared.asks.Ask.{Ask}
use Rattle.shared_map.specs.declared.asks.Ask.TheVariants.{Do, From, Scan, First, IsWritable, Restore}
use Rattle.shared_map.specs.declared.asks.Request.{Request}

abbrev pub Told : Type 0
Told = Result Answer MapError

-- what a call is answered
abbrev pub Replied : Type 0
Replied = Result Reply MapError

-- a result as it is told, in this form
abbrev pub told_as : {A : Type 0} → (A → Answer) → Result A MapError → Told
told_as form (Ok result) = Ok (form result)
told_as form (Err error) = Err error

-- the reply, where it is one
abbrev pub replied_in : Told → Replied
replied_in (Ok (answer.Reply reply)) = Ok reply
replied_in (Ok other) = Err Memory
replied_in (Err error) = Err error

-- a restore tells nothing but that it is done
abbrev pub answer_to_restore : Unit {0} → Answer
answer_to_restore done = answer.Restored

-- a call, as the log tells of it
abbrev pub MapEntry : Type 0
MapEntry = Entry Request Told

-- this is asked of a map with this hash
abbrev pub asking : HashKind → Ask → Request
asking hash ask = record { ask = ask; hash = hash }

-- the one key that a call is about
abbrev pub key_in : Call → Option ℕ
key_in (Get h k) = Some k
key_in (Put h k v) = Some k
key_in (PutIfAbsent h k v) = Some k
key_in (Replace h k v) = Some k
key_in (ReplaceIf h k a b) = Some k
key_in (Remove h k) = Some k
key_in (RemoveIf h k v) = Some k
key_in call = None

-- the handle that is asked for, if one is
abbrev pub handle_asked : Ask → ℕ
handle_asked (Do call) = handle_of call
handle_asked (From h cursor room) = h
handle_asked (Scan h shard cursor room) = h
handle_asked (First h) = h
handle_asked (IsWritable h) = h
handle_asked (Restore h copy) = h
handle_asked ask = 0

-- The shard of a hash, of so many: in which of as many equal parts of the numbers below 2^64 its product with 2^64 over the golden ratio lies. All bits of the
-- hash bear on it, so each shard has its share of each branch of the trie, whose levels go by the hash's own bits.
abbrev pub shard_of : ℕ → ℕ → ℕ
shard_of shards hash = hash * 11400714819323198485 % 2 ^ 64 * shards / 2 ^ 64

-- the shard of a key
abbrev pub place_of : HashKind → ℕ → ℕ → ℕ
place_of hash shards key = shard_of shards (hash_of hash key)

-- the shard of the one key, or that which is asked for, counted round
abbrev pub place_asked : HashKind → ℕ → Ask → Option ℕ
place_asked hash shards (Do call) = option_map (place_of hash shards) (key_in call)
place_asked hash shards (Scan h shard cursor room) = Some (shard % shards)
place_asked hash shards ask = None

-- the shard that a request is about; none where it is about all
abbrev pub about : ℕ → Request → Option ℕ
about shards request = place_asked request.hash shards request.ask
