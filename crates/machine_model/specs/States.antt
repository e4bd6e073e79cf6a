-- The state of a machine: all that a step reads. What is recorded of a run stands beside it (Records).
use Rattle.std.specs.Prelude.{◌≡◌, ℕ, zero, suc, ◌-◌, List, [], Option, Some, None, slice_index_or, slice_set, get_or, replicate}
use Rattle.std.specs.List.{range_with_len}
use Rattle.machine_model.specs.Beneath.ctrie_base.specs.Hashes.{hash_of}
use Rattle.history.specs.declared.calls.Access.TheVariants.{Writable}
use Rattle.machine_model.specs.Beneath.slot_arena.specs.declared.refs.Ref.{Ref}
use Rattle.machine_model.specs.Beneath.slot_arena.specs.declared.nodes.Node.TheVariants.{Indirection}
use Rattle.epochs.specs.declared.limbo.Zeroed.{Zeroed}
use Rattle.machine_model.specs.declared.steps.Bounds.{Bounds}
use Rattle.machine_model.specs.declared.roots.Root.{Root}
use Rattle.machine_model.specs.declared.roots.RootWord.{RootWord}
use Rattle.machine_model.specs.declared.roots.RootWord.TheVariants.{Plain, Offer}
use Rattle.machine_model.specs.declared.operations.Operation.{Operation}
use Rattle.machine_model.specs.Beneath.slot_arena.specs.Refs.{ref_to}
use Rattle.machine_model.specs.Beneath.slot_arena.specs.Heaps.{Heap, taken, no_ref, empty_branch}

pub record State : Type 0 where
  pub limits : Bounds
  pub heap : Heap
  -- the next generation to be drawn
  pub generations : ℕ
  -- the slots in use whose count is zero, in the order in which it became so
  pub limbo : List Zeroed
  pub epoch : ℕ
  -- the actor whose record of the epoch is read next
  pub cursor : ℕ
  -- each handle number, if it is open
  pub roots : List (Option Root)
  -- each actor's operation, if one runs
  pub actors : List (Option Operation)
  -- how many operations have begun: the id of the next one
  pub begun : ℕ
  -- how many steps were taken: the number of the next one
  pub steps : ℕ

-- how many handles can be open or reserved
abbrev pub handle_limit : ℕ
handle_limit = 256

-- The first state: the first two slots have an empty branch and over it the root of handle 0.
abbrev pub empty_heap : ℕ → Heap
empty_heap slots = record { slots = replicate slots None; free = range_with_len 0 slots; births = 0 }

abbrev pub first_heap : ℕ → Heap
first_heap slots = taken (taken (empty_heap slots) empty_branch) (Indirection 0 (ref_to 1 0))

unfoldable pub first_state : Bounds → State
first_state limits = record {
  limits = limits;
  heap = first_heap limits.slots;
  generations = 1;
  limbo = [];
  epoch = 0;
  cursor = 1;
  roots = slice_set (replicate handle_limit None) 0 (Some (record { access = Writable; word = Plain (ref_to 2 1) }));
  actors = replicate limits.actors None;
  begun = 0;
  steps = 0;
}

-- Looking up and writing.

-- the open handle of this number
abbrev pub root_at : State → ℕ → Option Root
root_at state handle = slice_index_or state.roots handle None

abbrev pub word_of : Option Root → RootWord
word_of None = Plain no_ref
word_of (Some root) = root.word

-- the root word of a handle
abbrev pub word_at : State → ℕ → RootWord
word_at state handle = word_of (root_at state handle)

abbrev pub rewritten : RootWord → Option Root → Option Root
rewritten word None = None
rewritten word (Some root) = Some (record root { word = word })

-- the state in which the open handle's root word is this one
abbrev pub with_word : State → ℕ → RootWord → State
with_word state handle word = record state { roots = slice_set state.roots handle (rewritten word (root_at state handle)) }

-- the state in which this number names this, or nothing
abbrev pub with_root : State → ℕ → Option Root → State
with_root state handle root = record state { roots = slice_set state.roots handle root }

-- the actor's operation; actors are counted from 1, and there is no actor 0
abbrev pub operation_of : State → ℕ → Option Operation
operation_of state zero = None
operation_of state (suc n) = slice_index_or state.actors n None

-- the actor k + 1 runs this operation
abbrev pub Runs : State → ℕ → Operation → Type 0
Runs state k operation = get_or state.actors k None ≡ Some operation

abbrev pub with_operation : State → ℕ → Option Operation → State
with_operation state actor operation = record state { actors = slice_set state.actors (actor - 1) operation }

-- the root that stands while an offer does
abbrev pub root_of : RootWord → Ref
root_of (Plain root) = root
root_of (Offer offer) = offer.root

-- the hash of a key in this machine
abbrev pub key_hash : State → ℕ → ℕ
key_hash state key = hash_of state.limits.hash key
