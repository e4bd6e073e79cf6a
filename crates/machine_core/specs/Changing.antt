-- How a key is changed where the way down ends.
use Rattle.std.specs.Prelude.{◌≡◌, ℕ, true, false, Option, Some, None}
use Rattle.machine_core.specs.Vocabulary.{Call, Reply, Ref, Change, Update, Answers, Removes, Sets, absent_reply, changed_reply, inserts, value_of, when_found}
use Rattle.machine_core.specs.Beneath.key_finding.specs.Replies.{reply_of}
use Rattle.machine_model.specs.declared.building.Change.TheVariants.{Insert}
use Rattle.machine_core.specs.declared.changing.Deed.{Deed}
use Rattle.machine_core.specs.declared.changing.Deed.TheVariants as deed
use Rattle.machine_core.specs.declared.descending.Entry.{Entry}
use Rattle.machine_core.specs.declared.descending.Entry.TheVariants.{Vacant, Own, Other}

-- the change that puts a single there
abbrev pub putting : Entry → (position : ℕ) → Ref → Change
putting Vacant position single = Insert single
putting entry position single = Update position single

-- the key's value by what stands for it
abbrev pub value_in : Entry → Option ℕ
value_in (Own value) = Some value
value_in entry = None

-- how many entries are looked at where this stands for the key
abbrev pub looks_at : Entry → ℕ
looks_at Vacant = 0
looks_at entry = 1

-- the call puts a single of its key where this stands for it, and nothing else
abbrev pub IsPut : Call → Entry → Type 0
IsPut call Vacant = inserts call ≡ true
IsPut call (Own value) = when_found call value ≡ Sets
IsPut call Other = ⊥

-- the call takes its key out where this stands for it
abbrev pub IsRemoval : Call → Entry → Type 0
IsRemoval call (Own value) = when_found call value ≡ Removes
IsRemoval call entry = ⊥

-- the call answers this where this stands for its key, and changes nothing
abbrev pub IsAnswer : Call → Entry → Reply → Type 0
IsAnswer call (Own value) answer = when_found call value ≡ Answers answer
IsAnswer call entry answer = (inserts call ≡ false) × (answer ≡ absent_reply call)

-- that is what the call does where this stands for its key: what it puts there, and what it answers
abbrev pub IsDeed : Call → Entry → Deed → Type 0
IsDeed call entry (deed.Answers answer) = IsAnswer call entry (reply_of answer)
IsDeed call entry (deed.Puts value reply) = IsPut call entry × (value ≡ value_of call) × (reply_of reply ≡ changed_reply call (value_in entry))
IsDeed call entry (deed.Removes reply) = IsRemoval call entry × (reply_of reply ≡ changed_reply call (value_in entry))
IsDeed call entry (deed.Parts value reply) = (entry ≡ Other) × (inserts call ≡ true) × (value ≡ value_of call) × (reply_of reply ≡ changed_reply call None)

-- it takes the key out
abbrev pub IsRemoving : Deed → Type 0
IsRemoving (deed.Removes reply) = Unit {0}
IsRemoving other = ⊥
