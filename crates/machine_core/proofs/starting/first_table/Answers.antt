use Rattle.std.proofs.Common.{◌≡◌, ◌+◌, ◌∷◌, [], length, ap, ◌∙◌, arith}
use Rattle.machine_core.specs.Vocabulary.{Ref, times, limbo_after}
use Rattle.epochs.proofs.Forgetting.{counts_alone}
use Rattle.machine_core.proofs.Starts.{first_held, first_released, first_there, none_ready, settled_first}
use Rattle.machine_core.proofs.starting.first_table.Goals as goal

pub put-requires-clause-ready : goal.put-requires-clause-ready
put-requires-clause-ready c = none_ready c.args.heap.now c.in_ok-table.table c.args.actors c.in_ok-table.ensures c.requires.outside

-- what is held once the root stands
held : (c : goal.After-release-arg-1) → (r : Ref) → times r c.put.new.heap.outside ≡ times r c.args.heap.now.outside + times r (c.new-root.result ∷ [])
held c = first_held c.args.heap.now c.put.new.heap c.in_ok-table.table c.put.new.self c.args.actors c.new-root.result c.in_ok-table.ensures c.put.ensures.table c.put.ensures.moves

pub release-requires : goal.release-requires
release-requires c = first_there c.args.heap.now.outside c.put.new.heap.outside c.new-root.result (held c c.new-root.result)

-- nothing is held that wasn't held before
kept : (c : goal.After-settle) → (r : Ref) → times r c.release.new.self.outside ≡ times r c.args.heap.now.outside
kept c r =
    ap (times r) c.release.ensures.outside
    ∙ first_released c.args.heap.now.outside c.put.new.heap.outside c.new-root.result
    (first_held c.args.heap.now c.put.new.heap c.in_ok-table.table c.put.new.self c.args.actors c.new-root.result c.in_ok-table.ensures c.put.ensures.table c.put.ensures.moves) r

pub returns-clause-held : goal.returns-clause-held
returns-clause-held c r = ap (times r) c.settle.ensures.outside ∙ kept c r ∙ ap (times r) c.requires.outside

pub returns-clause-limbo : goal.returns-clause-limbo
returns-clause-limbo c =
    let before = c.args.heap.now in
    let released = c.release.ensures in
    let kept_so = c.put.ensures.moves.keeps in
    c.settle.ensures.limbo ∙ ap (λ h. limbo_after h c.release.new.self.outside c.release.new.self.epoch c.release.new.self.limbo) (released.heap ∙ kept_so.heap)
    ∙ ap (λ e. limbo_after before.heap c.release.new.self.outside e c.release.new.self.limbo) (released.epochs.1 ∙ kept_so.epochs.1)
    ∙ ap (limbo_after before.heap c.release.new.self.outside before.epoch) (released.epochs.0 ∙ kept_so.epochs.0)
    ∙ counts_alone before.heap c.release.new.self.outside before.outside before.epoch before.limbo (kept c) ∙ c.requires.limbo

pub returns-clause-ticks : goal.returns-clause-ticks
returns-clause-ticks c =
    let put = c.put.ensures.moves.keeps in
    let released = c.release.ensures in
    let none = released.epochs.0 ∙ put.epochs.0 ∙ c.requires.settled.0 in
    let settled = settled_first c.release.new.self c.settle.new.self c.settle.ensures none (returns-clause-limbo c) in
    omega (arith, settled, released.ticks, released.few, put.ticks.1, put.few, ap length c.requires.settled.1)
