-- What the sweep leaves.
use Rattle.std.specs.Prelude.{◌≡◌, ◌≤◌, ◌+◌, ◌*◌, ℕ, length, Some, Result, Ok, Err}
use Rattle.proof_runs.specs.Vocabulary.{Refusal, Root, root_at, order_of, content_at, steps_for_a_slot}
use Rattle.proof_runs.specs.Machines.{Taken, past_of, state_of}

-- history and order are the same, and so are the handles and the content of each open one
pub record LooksSame (before after : Taken) : Type 0 where
  pub events : (past_of after).events ≡ (past_of before).events
  pub order : order_of (past_of after) ≡ order_of (past_of before)
  pub roots : (handle : ℕ) → root_at (state_of after) handle ≡ root_at (state_of before) handle
  pub contents : (handle : ℕ) (root : Root) → root_at (state_of before) handle ≡ Some root → content_at (state_of after) handle ≡ content_at (state_of before) handle

-- ---- how many steps it takes

-- no more are taken for each slot that is freed, and so many beside
abbrev pub SweepsUpTo : ℕ → Taken → Taken → Type 0
SweepsUpTo beside before after =
    (state_of after).steps + steps_for_a_slot before.limits.actors * length (state_of before).heap.free
    ≤ (state_of before).steps + steps_for_a_slot before.limits.actors * length (state_of after).heap.free + beside

-- none beside, where limbo is empty then; else what two growths of the epoch take
abbrev pub SweepsFew : Result (Unit {0}) Refusal → Taken → Taken → Type 0
SweepsFew (Ok done) before after = SweepsUpTo 0 before after
SweepsFew (Err refusal) before after = SweepsUpTo (2 * before.limits.actors + 2) before after
