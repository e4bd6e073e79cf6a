-- What is found of a key.
use Rattle.std.specs.Prelude.{ℕ, Option}
use Rattle.machine_core.specs.Vocabulary.{hash_of, Ref, node_at, logical_main, most_levels, State, root_of, word_at}
use Rattle.machine_core.specs.Beneath.proof_contents.specs.Nodes.Looking as looking
use Rattle.machine_core.specs.declared.finding.Found.{Found}
use Rattle.machine_core.specs.declared.finding.Found.TheVariants.{Absent, Has, Below}

-- the same, as the definition says it
abbrev pub meant : Found → looking.Found
meant Absent = looking.Absent
meant (Has value) = looking.Has value
meant (Below indirection) = looking.Below indirection

-- the value that is found from a root along the key's hash, through the logical main nodes
abbrev pub found_from : State → Ref → ℕ → Option ℕ
found_from state root key = looking.find_at (node_at state.heap) (logical_main state.heap) (hash_of state.limits.hash) key most_levels 0 root

-- and from the root of a handle
abbrev pub found_along : State → ℕ → ℕ → Option ℕ
found_along state handle key = found_from state (root_of (word_at state handle)) key
