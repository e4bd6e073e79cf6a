-- What the parts of a call about all shards come to.
use Rattle.std.specs.Prelude.{◌≡◌, true, false, List, [], ◌∷◌, Some, None, Ok, Err, slice_get}
use Rattle.shared_map.specs.Vocabulary.{HashKind, Call, handle_of}
use Rattle.history.specs.declared.replies.Reply.TheVariants as reply
use Rattle.ctrie_map.specs.Calling.{Calls}
use Rattle.ctrie_map.specs.Costs.{WorksUpTo, work_of_call}
use Rattle.ctrie_map.specs.declared.errors.MapError.TheVariants.{WornOut}
use Rattle.ctrie_map.specs.Maps.{MapState}
use Rattle.shared_map.specs.declared.asking.Knowing.{Knowing}
use Rattle.shared_map.specs.declared.asks.Ask.{Ask}
use Rattle.shared_map.specs.declared.turning.Turn.{Turn}
use Rattle.shared_map.specs.Answering.{AnswersAll, RepliesAll}
use Rattle.shared_map.specs.Asking.{IsKnown, TellsFull}
use Rattle.shared_map.specs.Asks.{Replied, Told, handle_asked, key_in}
use Rattle.shared_map.specs.Shards.{AreShards, IsAnyTight, is_any_worn_out}
use Rattle.shared_map.specs.Turning.{AreAllowed, HaveTurned, call_of, reply_of}

-- this is known of the first
abbrev pub KnowsFirst : Knowing → List MapState → Type 0
KnowsFirst first shards = (s : MapState) × (slice_get shards 0 ≡ Some s) × IsKnown first s

-- the only shard is called
abbrev pub IsCalledAlone : Call → List MapState → Replied → List MapState → Type 0
IsCalledAlone call before told after =
    (s t : MapState) × (before ≡ s ∷ []) × (after ≡ t ∷ []) × Calls told s call t × TellsFull s call told × WorksUpTo (work_of_call call) s t

-- a change of all that nothing denies: it is refused before any shard has changed, or it is done in all
abbrev pub TurnsAll : Turn → List MapState → Replied → List MapState → Type 0
TurnsAll turn before (Err WornOut) after = (is_any_worn_out before ≡ true) × (after ≡ before)
TurnsAll turn before (Err error) after = ⊥
TurnsAll turn before (Ok reply.NoSlots) after = (is_any_worn_out before ≡ false) × IsAnyTight (call_of turn) before × (after ≡ before)
TurnsAll turn before (Ok answer) after =
    (is_any_worn_out before ≡ false) × ¬ IsAnyTight (call_of turn) before × (answer ≡ reply_of turn) × (AreAllowed turn before → HaveTurned turn before after)

-- what is told of a call about all shards, where these are those of one map, and this is known of the first
abbrev pub RepliesIf : Knowing → List MapState → Call → Replied → List MapState → Type 0
RepliesIf first before call told after =
    (hash : HashKind) → AreShards hash before → KnowsFirst first before → first.handle ≡ handle_of call → key_in call ≡ None →
    RepliesAll hash before call told after × AreShards hash after

-- what is told of any request about all shards, where these are those of one map, and this is known of the first
abbrev pub AnswersIf : Knowing → List MapState → Ask → Told → List MapState → Type 0
AnswersIf first before ask told after =
    (hash : HashKind) → AreShards hash before → KnowsFirst first before → first.handle ≡ handle_asked ask → AnswersAll hash before ask told after × AreShards hash after
