-- A SWAP, from its first line to what comes after it.
use Rattle.std.specs.Prelude.{◌≡◌, ℕ, Bool, true, false, [], Option, Some, None}
use Rattle.trie_words.specs.declared.links.Link.{Link}
use Rattle.trie_words.specs.declared.names.Name.{Name}
use Rattle.machine_model.specs.Beneath.slot_arena.specs.declared.refs.Ref.{Ref}
use Rattle.machine_model.specs.Beneath.slot_arena.specs.declared.nodes.Node.{Node}
use Rattle.machine_model.specs.Beneath.slot_arena.specs.Heaps.{node_at}
use Rattle.machine_model.specs.declared.lines.Purpose.{Purpose}
use Rattle.machine_model.specs.declared.lines.Line.TheVariants as line
use Rattle.machine_model.specs.declared.operations.Operation.{Operation}
use Rattle.machine_model.specs.declared.reading.SwapLine.{SwapLine}
use Rattle.machine_model.specs.declared.reading.SwapLine.TheVariants as swap
use Rattle.machine_model.specs.Operations.{swapped}
use Rattle.lock_free.specs.declared.accounts.Account.{Account}
use Rattle.lock_free.specs.declared.leaving.Drops.{Drops}
use Rattle.lock_free.specs.declared.reclaiming.Retiree.{Retiree}
use Rattle.lock_free.specs.declared.rules.View.{View}
use Rattle.lock_free.specs.declared.reclaiming.Decided.{Decided}
use Rattle.lock_free.specs.declared.reclaiming.Decided.TheVariants as decided
use Rattle.lock_free.specs.declared.swapping.Swapped.{Swapped}
use Rattle.lock_free.specs.declared.swapping.Swapped.TheVariants.{Commits, Fails, Misses}
use Rattle.lock_free.specs.Dropping.{AreDropped}
use Rattle.lock_free.specs.Loading.{now, Runs, Waited, seen}
use Rattle.lock_free.specs.GivingUp.{given_up, HasDropped}
use Rattle.lock_free.specs.Nodes.{class_of}
use Rattle.lock_free.specs.Passing.{KnowsLink, IsPlaced}
use Rattle.lock_free.specs.Reclaiming.{retiree_of, LaterRetiring}

-- the operation on this line of its SWAP, and all that it has made is handed over
abbrev pub swap_on : Purpose → Ref → Ref → Ref → SwapLine → Operation → Operation
swap_on why i replaced made x o = record o { private = []; line = line.Swap why (record { indirection = i; replaced = replaced; fresh = made; line = x }) }

-- after its SWAP of this node
abbrev pub swap_done : Purpose → Node → Bool → Operation → Operation
swap_done why node done o = record o { private = []; line = swapped o node why done }

-- it is at a SWAP's first line
abbrev pub IsSwapping : View → Purpose → Ref → Ref → Ref → Type 0
IsSwapping v why i replaced made =
    (o : Operation) × Runs v o × (o.line ≡ line.Swap why (record { indirection = i; replaced = replaced; fresh = made; line = swap.Publish }))

-- and this is the class of the slot of the replaced node
abbrev pub IsAtSwap : View → ℕ → Link → ℕ → ℕ → Type 0
IsAtSwap v name link class fresh =
    (why : Purpose) × (i : Ref) × (replaced : Ref) × (made : Ref) × IsSwapping v why i replaced made × IsPlaced v i name × KnowsLink v i replaced link × IsPlaced v made fresh
    × (class_of (node_at (now v).heap replaced) ≡ class)

-- what its fresh main node drops of the replaced one is this
abbrev pub SwapDrops : View → Drops → Type 0
SwapDrops v d = (why : Purpose) (i replaced made : Ref) → IsSwapping v why i replaced made → AreDropped v replaced made d

abbrev pub is_done : Swapped → Bool
is_done (Commits r) = true
is_done (Fails r) = false
is_done Misses = false

-- the slot that it has retired
abbrev pub retired_by : Swapped → Option Retiree
retired_by (Commits r) = r
retired_by (Fails r) = Some r
retired_by Misses = None

-- where it was committed, that is the slot of the main node that it has replaced, if that one was the indirection's own; where it was refused, that of the fresh one
abbrev pub RetiresOwn : Name → ℕ → ℕ → Swapped → Type 0
RetiresOwn replaced class fresh (Commits r) = r ≡ retiree_of replaced class
RetiresOwn replaced class fresh (Fails r) = r.slot ≡ fresh
RetiresOwn replaced class fresh Misses = Unit {0}

abbrev pub swapped_by : Decided → Swapped
swapped_by (decided.Commits r) = Commits r
swapped_by (decided.Fails r) = Fails r

-- what is left of the seat's own: where the replaced node wasn't found, all that it has made is free for it again
abbrev pub LeavesOwn : View → Swapped → View → Type 0
LeavesOwn before Misses after = (account : Account) × Waited before account × ((o : Operation) → Runs before o → after ≡ given_up before account o.private after.drafts)
LeavesOwn before result after = LaterRetiring before after

abbrev pub HasSwapDone : View → Swapped → View → Type 0
HasSwapDone before result after =
    LeavesOwn before result after
    × ((why : Purpose) (i replaced made : Ref) → IsSwapping before why i replaced made → (o : Operation) → Runs before o → Runs after
    (swap_done why (node_at (now before).heap made) (is_done result) o))

-- where the replaced node wasn't found, what all that it has made held is the seat's, which knows the words of its slots
abbrev pub HoldsSwapped : View → Swapped → View → Type 0
HoldsSwapped before Misses after = (account : Account) × Waited before account × ((o : Operation) → Runs before o → HasDropped (seen before account) o.private o.line after)
HoldsSwapped before result after = Unit {0}
