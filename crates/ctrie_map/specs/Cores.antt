-- The core below a map, between two calls, and what a call of it comes to.
use Rattle.std.specs.Prelude.{◌≡◌, ◌<◌, ◌≤◌, ◌+◌, ◌-◌, ◌*◌, ℕ, Bool, true, false, not, nat_le, [], length, Option, Some, None, Result, Ok, Err}
use Rattle.std.specs.FinMap as map
use Rattle.ctrie_map.specs.Vocabulary.{hash_of, Call, Put, PutIfAbsent, Snapshot, Freeze, Reply, NoSlots, Effect, HandleMap, HandleState, Root, handle_of, needs_writable, opens_handle, is_busy}
use Rattle.ctrie_map.specs.Vocabulary.{longest_life, State, root_at}
use Rattle.ctrie_map.specs.Beneath.map_worlds.specs.Worlds.{world_of}
use Rattle.ctrie_map.specs.Beneath.proof_obstruction_free.specs.Laws.{most_steps_alone}
use Rattle.proof_sizes.specs.Beneath.proof_alone.specs.Calls.{RunsOut}
use Rattle.ctrie_map.specs.Beneath.proof_obstruction_free.specs.Calls.{slots_of}
use Rattle.ctrie_map.specs.Beneath.proof_obstruction_free.specs.Slots.{most_makes_alone}
use Rattle.proof_sizes.specs.Growth.{most_growth}
use Rattle.proof_sizes.specs.Nodes.{nodes_of}
use Rattle.proof_sizes.specs.Beneath.proof_alone.specs.Sweeps.{Sweeps, most_sweeps}
use Rattle.ctrie_map.specs.Beneath.proof_straight.specs.Running.{Comes}
use Rattle.ctrie_map.specs.declared.errors.MapError.{MapError}
use Rattle.ctrie_map.specs.declared.errors.MapError.TheVariants.{WornOut}
use Rattle.ctrie_map.specs.Denials.{denial_by}

-- the one actor
abbrev pub the_actor : ℕ
the_actor = 1

-- whatever one handle reaches, as many slots are left as any call takes
abbrev pub LeavesRoom : State → Type 0
LeavesRoom state = (handle : ℕ) (root : Root) → root_at state handle ≡ Some root → length (nodes_of state handle) + most_makes_alone ≤ state.limits.slots

-- it has one actor and the longest life; nothing runs, all that no handle reaches was swept, and no handle reaches too much
pub record IsCalm (state : State) : Type 0 where
  pub one : state.limits.actors ≡ 1
  pub life : state.limits.steps ≡ longest_life
  pub rest : is_busy state ≡ false
  pub clean : state.limbo ≡ []
  pub room : LeavesRoom state

-- ---- slots

-- How many slots the core has beside those that were asked for: as many as any call takes, and as many as a call that adds a key may add to what a handle reaches.
abbrev pub reserve : ℕ
reserve = most_makes_alone + most_growth

-- how many of those that were asked for are free
abbrev pub free_in : State → ℕ
free_in state = length state.heap.free - reserve

-- the handle is open, and the key has no value in its map
abbrev pub is_without : Option HandleState → ℕ → Bool
is_without None key = false
is_without (Some shown) key = not (map.contains_key shown.pairs key)

-- the call adds a key to a map, or a copy
abbrev pub adds : HandleMap → Call → Bool
adds handles (Put h k v) = is_without (map.get handles h) k
adds handles (PutIfAbsent h k v) = is_without (map.get handles h) k
adds handles (Snapshot h) = true
adds handles (Freeze h) = true
adds handles call = false

-- fewer slots are reached by no handle
abbrev pub IsTight : ℕ → State → Type 0
IsTight enough before = length before.heap.free < enough

-- A call of the core has no slots, where it adds something or not, and so many handles are open: one that adds, where none is free of those that were asked for; another
-- one, where other handles are open, fewer slots are free than it may take, and it ran out of them: its last step before that answer was to make a node.
abbrev pub LacksSlotsBy : Bool → ℕ → State → Call → Type 0
LacksSlotsBy true many before call = free_in before ≡ 0
LacksSlotsBy false many before call = (2 ≤ many) × IsTight (slots_of call) before × RunsOut before the_actor call

abbrev pub Lacks : State → Call → Type 0
Lacks before call = LacksSlotsBy (adds (world_of before) call) (map.len (world_of before)) before call

-- ---- work

-- no more steps are left than a call may take with the sweep behind it: in all a map takes 2^45 - 2^21
abbrev pub is_worn_out : State → Bool
is_worn_out before = nat_le before.limits.steps (before.steps + (1 + most_steps_alone + most_sweeps before))

-- how many more steps are left than such a call may take: none just where it is worn out
abbrev pub life_left : State → ℕ
life_left before = before.limits.steps - (before.steps + (1 + most_steps_alone + most_sweeps before))

-- at most so much work is done, and five steps of it for each slot by which more are free behind it than before
abbrev pub TakesUpTo : ℕ → State → State → Type 0
TakesUpTo most before after = (before.steps ≤ after.steps) × (after.steps + 5 * length before.heap.free ≤ before.steps + most + 5 * length after.heap.free)

-- ---- calls

-- the core has these handles then; its limits are as before
abbrev pub Turns : State → HandleMap → State → Type 0
Turns before world after = (after.limits ≡ before.limits) × (world_of after ≡ world)

-- why a call of the core isn't begun
abbrev pub core_denial : State → Call → Option MapError
core_denial before call = denial_by (needs_writable call) (opens_handle call) (map.get (world_of before) (handle_of call)) (map.len (world_of before))

-- this is its reply, and what it does
abbrev pub Replies : State → Call → Reply → State → Type 0
Replies before call NoSlots after = Lacks before call × Turns before (world_of before) after
Replies before call answer after =
    (opens : Option ℕ) × (next : _) × Effect (hash_of before.limits.hash) (world_of before) call opens answer next × Turns before next after

-- the call leads there: it is carried out alone, from its begin to its end, and then all that it makes free is swept
abbrev pub Leads : State → Call → State → Type 0
Leads before call after =
    (n swept : ℕ) × (answer : Reply) × (ended : State) × Comes before the_actor call n answer ended × Sweeps ended swept after × (after.limbo ≡ [])

-- what a call of the core that nothing denies comes to
abbrev pub Carries : Result Reply MapError → State → Call → State → Type 0
Carries (Ok answer) before call after = (is_worn_out before ≡ false) × Replies before call answer after
Carries (Err error) before call after = (error ≡ WornOut) × (is_worn_out before ≡ true) × (after ≡ before)
