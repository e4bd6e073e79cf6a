-- When main nodes were committed.
use Rattle.std.specs.Prelude.{◌≡◌, ℕ, ◌==◌, ◌<◌, ◌≤◌, List, All, find, slice_index_or, if◌then◌else◌}
use Rattle.slot_arena.specs.declared.refs.Ref.{Ref}
use Rattle.slot_arena.specs.Refs.{slot_of}
use Rattle.machine_model.specs.declared.records.Commit.{Commit}
use Rattle.machine_model.specs.Records.{step_of_commit}

-- what a caller sees: the commits as they came, and for how many slots there is room
pub record Committed : Type 0 where
  pub commits : List Commit
  pub slots : ℕ

-- the step of the first of these commits that is of the node; 0 where none is
abbrev pub commit_step : List Commit → Ref → ℕ
commit_step commits main = step_of_commit (find (λ commit. commit.main == main) commits)

-- no node that was committed in the same slot is newer
abbrev pub IsNewestCommitted : List Commit → Ref → Type 0
IsNewestCommitted commits main = All (λ commit. slot_of commit.main ≡ slot_of main → commit.main ≤ main) commits

-- no commit
abbrev pub no_commit : Commit
no_commit = record { main = 0; step = 0 }

-- what is kept of a slot
abbrev pub kept_of : List Commit → ℕ → Commit
kept_of latest slot = slice_index_or latest slot no_commit

-- the step of what is kept, if it is of the node
abbrev pub step_for : Commit → Ref → ℕ
step_for commit main = if commit.main == main then commit.step else 0

-- What is kept of a slot says when the newest node that was committed there was, and any later one wasn't. Steps of commits are above 0.
pub record AreLatest (latest commits : List Commit) : Type 0 where
  pub says : (main : Ref) → IsNewestCommitted commits main → step_for (kept_of latest (slot_of main)) main ≡ commit_step commits main
  pub begun : All (λ commit. 0 < commit.step) commits
