-- No run is long in which an operation on one key, a snapshot, a freeze or a clear alone takes steps and never ends: so each of them ends.
use Rattle.std.proofs.Common.{◌≡◌, ◌+◌, ◌≤◌, refl, arith}
use Rattle.proof_obstruction_free.specs.Vocabulary.{Access, ReadOnly, Writable, Call, Clear, Freeze, Snapshot, Close, Entries, Count}
use Rattle.proof_obstruction_free.specs.Alone.{Lone}
use Rattle.proof_obstruction_free.specs.Keys.{IsOnKey}
use Rattle.proof_obstruction_free.specs.Laws.{AloneItEnds, EachStepLeadsToItsEnd, IsOnKeyOrRoot, most_steps_of}
use Rattle.proof_obstruction_free.proofs.Copy.Ends.{no_long_copy}
use Rattle.proof_obstruction_free.proofs.Ends.Alone.{NoneIsLong, ends_alone, steps_lead_to_the_end}
use Rattle.proof_obstruction_free.proofs.Weights.Fine.{fine, fine_at_most, fine_weighing, quiet}
use Rattle.proof_obstruction_free.proofs.Reader.Ends.{no_long_reader}
use Rattle.proof_obstruction_free.proofs.Root.Machines.{machines}
use Rattle.proof_obstruction_free.proofs.Step.Step.{stepping}
use Rattle.proof_obstruction_free.proofs.Inherited.Whole.{fine_ends, fine_most_is}

-- an operation on one key, on a writable handle
writes_end : (a : Lone) → IsOnKey a.own.call → a.own.access ≡ Writable → a.start + most_steps_of a.limits.actors ≤ a.last → ⊥
writes_end a on writes long =
    let weighing = fine_weighing a in
    let at_most = fine_at_most a a.start in
    (fine_ends a (fine a) 2 (quiet a) (stepping a) (machines a (fine a) 5 1 2 weighing (omega arith) (omega arith) (omega arith)) on writes (omega (arith, fine_most_is, at_most, long))).3

by_access : (a : Lone) → IsOnKey a.own.call → (x : Access) → a.own.access ≡ x → a.start + most_steps_of a.limits.actors ≤ a.last → ⊥
by_access a on Writable e long = writes_end a on e long
by_access a on ReadOnly e long = no_long_reader a on e (omega (arith, long))

by_call : (a : Lone) → (call : Call) → a.own.call ≡ call → IsOnKeyOrRoot call → a.start + most_steps_of a.limits.actors ≤ a.last → ⊥
by_call a (Clear h) e on long = no_long_copy a (rw e tt) (omega (arith, long))
by_call a (Snapshot h) e on long = no_long_copy a (rw e tt) (omega (arith, long))
by_call a (Freeze h) e on long = no_long_copy a (rw e tt) (omega (arith, long))
by_call a (Close h) e on long = on
by_call a (Entries h) e on long = on
by_call a (Count h) e on long = on
by_call a call e on long = by_access a (rw e tt) a.own.access refl long

pub none_is_long : NoneIsLong
none_is_long a on long = by_call a a.own.call refl on long

-- ---- the laws

pub alone_it_ends : AloneItEnds
alone_it_ends = ends_alone none_is_long

pub each_step_leads_to_its_end : EachStepLeadsToItsEnd
each_step_leads_to_its_end = steps_lead_to_the_end none_is_long
