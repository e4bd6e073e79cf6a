-- Words for laws over the whole of a run.
use Rattle.std.specs.Prelude.{◌≡◌, true}
use Rattle.proof_commits.specs.Vocabulary.{Ref, node_at, State}
use Rattle.proof_memory.specs.Laws.{IsInUse}
use Rattle.proof_memory.specs.Wants.{is_indirection}

-- an indirection in use
abbrev pub HasIndirection : State → Ref → Type 0
HasIndirection state i = IsInUse state.heap i × (is_indirection (node_at state.heap i) ≡ true)
