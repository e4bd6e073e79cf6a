-- What calls on one key come to that run alone, on a way that needs no repair.
use Rattle.std.specs.Prelude.{◌≡◌, ◌⊎◌, ℕ, ◌+◌, ◌-◌, ◌*◌, ◌≤◌, true, false, length, Some, None}
use Rattle.arrayvec.specs.ArrayVec.{ArrayVec}
use Rattle.proof_straight.specs.Vocabulary.{Call, Reply, List as Listed, Ref, node_at, main_at, IsLive, Site, Answers, Sets, Removes, absent_reply, changed_reply, inserts, when_found, State}
use Rattle.proof_straight.specs.Vocabulary.{begin_denial, least_free, Record}
use Rattle.proof_straight.specs.Beneath.history.specs.declared.calls.Call.TheVariants as call
use Rattle.proof_straight.specs.Beneath.history.specs.declared.replies.Reply.TheVariants as reply
use Rattle.machine_model.specs.declared.building.Change.TheVariants as change
use Rattle.machine_model.specs.declared.building.Site.TheVariants as site
use Rattle.proof_straight.specs.Drafts.{first_draft, after_call}
use Rattle.proof_straight.specs.Copies.{Course, IsSettled, cleared, closed, frozen, snapshotted}
use Rattle.proof_straight.specs.Recorded.{closed_record, contracted_record, copied_record, unchanged_record}
use Rattle.proof_straight.specs.Running.{ComesTo, IsAtRest, IsKeyed, IsReady, IsRecordOf}
use Rattle.proof_straight.specs.Places.{Finds, HasRoom, Leaves, LeavesSingle, Misses, StandsOver, read_in, steps_down}
use Rattle.proof_straight.specs.Changes.{ChangesTo, parts_at, with_change, with_contraction, with_tomb, with_pair, with_single}

-- so many steps are left, beside the begin and the end
abbrev pub LastsFor : State → ℕ → Type 0
LastsFor state n = state.steps + n + 2 ≤ state.limits.steps

-- the call ends there, and has changed nothing
abbrev pub ChangesNothing : State → Record → ℕ → Call → Ref → (depth : ℕ) → Ref → (looks : ℕ) → Reply → Type 0
ChangesNothing state past actor call root depth indirection looks answer =
    ComesTo state past actor call (steps_down depth looks) answer (after_call state (first_draft state) (steps_down depth looks + 2))
    (unchanged_record past state actor call root (read_in state depth) (main_at state.heap indirection) answer)

-- a call finds its key, and leaves it as it is
abbrev pub AnswersStraight : Type 0
AnswersStraight =
    (state : State) (past : Record) (actor : ℕ) (call : Call) (root : Ref) (depth : ℕ) (indirection : Ref) (position value looks : ℕ) (answer : Reply) →
    IsReady state actor call root → IsRecordOf state past → IsKeyed call → Finds state call root depth indirection position value looks → when_found call value ≡ Answers answer →
    LastsFor state (steps_down depth looks) → ChangesNothing state past actor call root depth indirection looks answer

-- a call that inserts nothing doesn't find its key
abbrev pub MissesStraight : Type 0
MissesStraight =
    (state : State) (past : Record) (actor : ℕ) (call : Call) (root : Ref) (depth : ℕ) (indirection : Ref) (s : Site) (looks : ℕ) →
    IsReady state actor call root → IsRecordOf state past → IsKeyed call → Misses state call root depth indirection s looks → inserts call ≡ false →
    LastsFor state (steps_down depth looks) → ChangesNothing state past actor call root depth indirection looks (absent_reply call)

-- a call would insert its key into a list that takes no more
abbrev pub CrowdedStraight : Type 0
CrowdedStraight =
    (state : State) (past : Record) (actor : ℕ) (call : Call) (root : Ref) (depth : ℕ) (indirection : Ref) (s : Site) (looks : ℕ) (singles : ArrayVec Ref) →
    IsReady state actor call root → IsRecordOf state past → IsKeyed call → Misses state call root depth indirection s looks → inserts call ≡ true →
    node_at state.heap (main_at state.heap indirection) ≡ Listed singles → 32 ≤ length singles.items →
    LastsFor state (steps_down depth looks) → ChangesNothing state past actor call root depth indirection looks reply.Crowded

-- a call finds its key, and sets another value: it makes a single and a main node, and swaps that in
abbrev pub SetsStraight : Type 0
SetsStraight =
    (state : State) (past : Record) (actor : ℕ) (call : Call) (root : Ref) (depth : ℕ) (indirection : Ref) (position value looks : ℕ) →
    IsReady state actor call root → IsRecordOf state past → IsKeyed call → Finds state call root depth indirection position value looks → when_found call value ≡ Sets →
    IsLive state.heap (main_at state.heap indirection) → 2 ≤ length state.heap.free → LastsFor state (steps_down depth looks + 7) →
    ChangesTo state past actor call root depth (steps_down depth looks + 7) (Some value)
    (with_change state call depth indirection (with_single state call) (change.Update position (with_single state call).newest))

-- a call inserts its key where nothing stands in its place
abbrev pub InsertsStraight : Type 0
InsertsStraight =
    (state : State) (past : Record) (actor : ℕ) (call : Call) (root : Ref) (depth : ℕ) (indirection : Ref) (looks : ℕ) →
    IsReady state actor call root → IsRecordOf state past → IsKeyed call → Misses state call root depth indirection site.Absent looks → inserts call ≡ true →
    HasRoom (node_at state.heap (main_at state.heap indirection)) →
    IsLive state.heap (main_at state.heap indirection) → 2 ≤ length state.heap.free → LastsFor state (steps_down depth looks + 7) →
    ChangesTo state past actor call root depth (steps_down depth looks + 7) None
    (with_change state call depth indirection (with_single state call) (change.Insert (with_single state call).newest))

-- a call takes its key out, and more than a single is left there
abbrev pub RemovesStraight : Type 0
RemovesStraight =
    (state : State) (past : Record) (actor : ℕ) (call : Call) (root : Ref) (depth : ℕ) (indirection : Ref) (position value looks more : ℕ) →
    IsReady state actor call root → IsRecordOf state past → IsKeyed call → Finds state call root depth indirection position value looks → when_found call value ≡ Removes →
    Leaves state.heap depth indirection position more →
    IsLive state.heap (main_at state.heap indirection) → 1 ≤ length state.heap.free → LastsFor state (steps_down depth (looks + more) + 6) →
    ChangesTo state past actor call root depth (steps_down depth (looks + more) + 6) (Some value)
    (with_change state call depth indirection (first_draft state) (change.Remove position))

-- a call inserts its key where the single of another key stands in its place: it makes the main node of both so many levels below, and the way down to it
abbrev pub PartsStraight : Type 0
PartsStraight =
    (state : State) (past : Record) (actor : ℕ) (call : Call) (root : Ref) (depth : ℕ) (indirection : Ref) (position looks levels : ℕ) →
    IsReady state actor call root → IsRecordOf state past → IsKeyed call → Misses state call root depth indirection (site.Beside position) looks → inserts call ≡ true →
    parts_at state call depth indirection position ≡ depth + 1 + levels →
    IsLive state.heap (main_at state.heap indirection) → 2 * levels + 4 ≤ length state.heap.free → LastsFor state (steps_down depth looks + 2 * levels + 9) →
    ChangesTo state past actor call root depth (steps_down depth looks + 2 * levels + 9) None
    (with_change state call depth indirection (with_pair state call root depth indirection position levels)
    (change.Update position (with_pair state call root depth indirection position levels).newest))

-- a call takes its key out where a single is left alone: it makes a tomb of that, and then the single takes the tomb's place in the main node above
abbrev pub ContractsStraight : Type 0
ContractsStraight =
    (state : State) (past : Record) (actor : ℕ) (call : Call) (root : Ref) (depth bitmap : ℕ) (entries : ArrayVec Ref) (above indirection : Ref) (position value looks more : ℕ) →
    IsReady state actor call root → IsRecordOf state past → IsKeyed call → StandsOver state call root depth above bitmap entries indirection →
    Finds state call root (depth + 1) indirection position value looks → when_found call value ≡ Removes → LeavesSingle state.heap indirection position more →
    (depth ≡ 0) ⊎ ¬ (length entries.items ≡ 1) →
    IsLive state.heap (main_at state.heap above) → IsLive state.heap (main_at state.heap indirection) → 2 ≤ length state.heap.free →
    LastsFor state (steps_down (depth + 1) (looks + more) + 15) →
    ComesTo state past actor call (steps_down (depth + 1) (looks + more) + 15) (changed_reply call (Some value))
    (after_call state (with_contraction state call depth (depth + 1) above bitmap entries indirection position) (steps_down (depth + 1) (looks + more) + 17))
    (contracted_record past state actor call root (state.steps + (steps_down (depth + 1) (looks + more) + 5)) (with_tomb state call (depth + 1) indirection position).newest
    (state.steps + (steps_down (depth + 1) (looks + more) + 7)) (state.steps + (steps_down (depth + 1) (looks + more) + 14))
    (with_contraction state call depth (depth + 1) above bitmap entries indirection position).newest (changed_reply call (Some value)))

-- ---- copies

-- The call comes to the end of this course, in so many steps beside its begin and its end. It carried its offer out in the last of them, and read the root's main
-- node in the two before it.
abbrev pub CopiesTo : State → Record → ℕ → Call → Ref → (n : ℕ) → Reply → Course → Type 0
CopiesTo state past actor call root n answer course =
    ComesTo state past actor call n answer (after_call course.base course.draft (n + 2))
    (copied_record past state actor call root (state.steps + (n - 2)) (state.steps + n) answer)

-- a freeze
abbrev pub FreezesStraight : Type 0
FreezesStraight =
    (state : State) (past : Record) (actor handle : ℕ) (root : Ref) → IsReady state actor (call.Freeze handle) root → IsRecordOf state past →
    IsSettled state.heap root → 1 ≤ length state.heap.free → LastsFor state 8 →
    CopiesTo state past actor (call.Freeze handle) root 8 (reply.Opened (least_free state)) (frozen state handle root)

-- a snapshot
abbrev pub SnapshotsStraight : Type 0
SnapshotsStraight =
    (state : State) (past : Record) (actor handle : ℕ) (root : Ref) → IsReady state actor (call.Snapshot handle) root → IsRecordOf state past →
    IsSettled state.heap root → 2 ≤ length state.heap.free → LastsFor state 9 →
    CopiesTo state past actor (call.Snapshot handle) root 9 (reply.Opened (least_free state)) (snapshotted state handle root)

-- a clear
abbrev pub ClearsStraight : Type 0
ClearsStraight =
    (state : State) (past : Record) (actor handle : ℕ) (root : Ref) → IsReady state actor (call.Clear handle) root → IsRecordOf state past →
    IsSettled state.heap root → 2 ≤ length state.heap.free → LastsFor state 9 →
    CopiesTo state past actor (call.Clear handle) root 9 reply.Cleared (cleared state handle root)

-- a close
abbrev pub ClosesStraight : Type 0
ClosesStraight =
    (state : State) (past : Record) (actor handle : ℕ) → IsAtRest state → begin_denial state actor (call.Close handle) None ≡ None → IsRecordOf state past → LastsFor state 0 →
    ComesTo state past actor (call.Close handle) 0 reply.Closed (after_call (closed state handle).base (closed state handle).draft 2)
    (closed_record past state actor (call.Close handle) reply.Closed)
