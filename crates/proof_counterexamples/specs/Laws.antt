-- For each mistake a run, its history and its order: that order isn't legal for that history.
use Rattle.std.specs.Prelude.{◌≡◌, ℕ, List, [], ◌∷◌, Some, None}
use Rattle.proof_counterexamples.specs.Vocabulary.{hash_of, Event, IsLegal, Bounds, Record, order_of, record_of, sized}
use Rattle.proof_counterexamples.specs.Beneath.history.specs.declared.calls.Call.TheVariants as call
use Rattle.proof_counterexamples.specs.Beneath.history.specs.declared.replies.Reply.TheVariants as reply
use Rattle.proof_counterexamples.specs.Beneath.history.specs.declared.events.Event.TheVariants as event
use Rattle.proof_counterexamples.specs.Orders.{with_late_commits_at_the_end, with_late_reads_at_the_end, by_ends, with_refused}
use Rattle.proof_counterexamples.specs.Machines.{record_by, by_the_new_root, without_the_root, without_comparing, without_the_single, with_refused_changes, with_refused_climbs}
use Rattle.proof_counterexamples.specs.Runs.{late_put, late_get, refused_put, refused_change, last_removal, late_removal, overtaken_put, overtaken_snapshot, cleaning_get}
use Rattle.proof_counterexamples.specs.Runs.{after_two_keys, late_get_history}

-- the order that the rule gives of a run with these limits isn't legal for the run's history
abbrev pub IsIllegal : (Record → List ℕ) → Bounds → Record → Type 0
IsIllegal rule limits past = ¬ IsLegal (hash_of limits.hash) past.events (rule past)

-- the same, and what this history and this order are
abbrev pub IsRefused : (Record → List ℕ) → Bounds → Record → List Event → List ℕ → Type 0
IsRefused rule limits past history order = (past.events ≡ history) × (rule past ≡ order) × IsIllegal rule limits past

-- The copy is made before the put, and yet has its value.
abbrev pub LateCommitAtTheEnd : Type 0
LateCommitAtTheEnd = IsRefused with_late_commits_at_the_end (sized 64 2) (record_of (sized 64 2) late_put) (after_two_keys (
    event.Begin 2 1 (call.Put 0 65 650) None ∷ event.Begin 3 2 (call.Freeze 0) (Some 1) ∷ event.End 3 (reply.Opened 1) ∷ event.End 2 (reply.Found None)
    ∷ event.Begin 4 1 (call.Get 1 65) None ∷ event.End 4 (reply.Found (Some 650)) ∷ [])) (0 ∷ 1 ∷ 3 ∷ 2 ∷ 4 ∷ [])

-- The get stands behind the put of 331, and yet finds 330.
abbrev pub LateReadAtTheEnd : Type 0
LateReadAtTheEnd = IsRefused with_late_reads_at_the_end (sized 64 2) (record_of (sized 64 2) late_get) late_get_history (0 ∷ 1 ∷ 3 ∷ 4 ∷ 2 ∷ [])

-- The get ends behind that put, too.
abbrev pub OrderOfEnds : Type 0
OrderOfEnds = IsRefused by_ends (sized 64 2) (record_of (sized 64 2) late_get) late_get_history (0 ∷ 1 ∷ 3 ∷ 4 ∷ 2 ∷ [])

-- The second put was refused, and yet stands in the order.
abbrev pub RefusedPutInTheOrder : Type 0
RefusedPutInTheOrder = IsRefused with_refused (sized 5 1) (record_of (sized 5 1) refused_put) (
    event.Begin 0 1 (call.Put 0 1 10) None ∷ event.End 0 (reply.Found None) ∷ event.Begin 1 1 (call.Put 0 2 20) None ∷ event.End 1 reply.NoSlots ∷ []) (0 ∷ 1 ∷ [])

-- The second put was refused, and yet its value is there.
abbrev pub RefusedPutInTheMap : Type 0
RefusedPutInTheMap = IsRefused order_of (sized 5 1) (record_by with_refused_changes (sized 5 1) refused_change) (
    event.Begin 0 1 (call.Put 0 1 10) None ∷ event.End 0 (reply.Found None) ∷ event.Begin 1 1 (call.Put 0 1 20) None ∷ event.End 1 reply.NoSlots
    ∷ event.Begin 2 1 (call.Get 0 1) None ∷ event.End 2 (reply.Found (Some 20)) ∷ []) (0 ∷ 2 ∷ [])

-- The removal was refused, and yet stands in the order.
abbrev pub RefusedAfterItsCommit : Type 0
RefusedAfterItsCommit = IsRefused order_of (sized 9 1) (record_by with_refused_climbs (sized 9 1) last_removal) (after_two_keys (
    event.Begin 2 1 (call.Remove 0 33) None ∷ event.End 2 reply.NoSlots ∷ [])) (0 ∷ 1 ∷ 2 ∷ [])

-- The copy is made before the removal, and yet lacks its key.
abbrev pub LateRemoveByTheNewRoot : Type 0
LateRemoveByTheNewRoot = IsRefused order_of (sized 64 2) (record_by by_the_new_root (sized 64 2) late_removal) (after_two_keys (
    event.Begin 2 1 (call.Remove 0 33) None ∷ event.Begin 3 2 (call.Freeze 0) (Some 1) ∷ event.End 3 (reply.Opened 1) ∷ event.End 2 (reply.Found (Some 330))
    ∷ event.Begin 4 2 (call.Get 1 33) None ∷ event.End 4 (reply.Found None) ∷ [])) (0 ∷ 1 ∷ 3 ∷ 2 ∷ 4 ∷ [])

-- A copy that nobody can change has no value, and then has one.
abbrev pub CommitsWithoutTheRoot : Type 0
CommitsWithoutTheRoot = IsRefused order_of (sized 64 2) (record_by without_the_root (sized 64 2) overtaken_put) (
    event.Begin 0 1 (call.Put 0 5 50) None ∷ event.Begin 1 2 (call.Freeze 0) (Some 1) ∷ event.End 1 (reply.Opened 1) ∷ event.Begin 2 2 (call.Get 1 5) None
    ∷ event.End 2 (reply.Found None) ∷ event.End 0 (reply.Found None) ∷ event.Begin 3 2 (call.Get 1 5) None ∷ event.End 3 (reply.Found (Some 50)) ∷ []) (0 ∷ 1 ∷ 2 ∷ 3 ∷ [])

-- The put's value is gone.
abbrev pub SwapsWithoutComparing : Type 0
SwapsWithoutComparing = IsRefused order_of (sized 64 2) (record_by without_comparing (sized 64 2) overtaken_snapshot) (
    event.Begin 0 2 (call.Snapshot 0) (Some 1) ∷ event.Begin 1 1 (call.Put 0 5 50) None ∷ event.End 1 (reply.Found None) ∷ event.End 0 (reply.Opened 1)
    ∷ event.Begin 2 1 (call.Get 0 5) None ∷ event.End 2 (reply.Found None) ∷ []) (1 ∷ 0 ∷ 2 ∷ [])

-- The key that wasn't removed is gone.
abbrev pub CleansWithoutTheSingle : Type 0
CleansWithoutTheSingle = IsRefused order_of (sized 64 2) (record_by without_the_single (sized 64 2) cleaning_get) (after_two_keys (
    event.Begin 2 1 (call.Remove 0 33) None ∷ event.Begin 3 2 (call.Get 0 1) None ∷ event.End 3 (reply.Found None) ∷ [])) (0 ∷ 1 ∷ 2 ∷ 3 ∷ [])
