use Rattle.std.proofs.Common.{◌≡◌, ◌≤◌, ◌+◌, refl, sym, ap, ◌∙◌, subst, arith}
use Rattle.machine_core.specs.Vocabulary.{limbo_after}
use Rattle.epochs.specs.Memories.{Memory}
use Rattle.machine_core.specs.Keeping.{IsCore}
use Rattle.machine_core.specs.Seen.{seen}
use Rattle.machine_core.specs.Sweeping.{Reclaims}
use Rattle.machine_core.specs.Work.{worked}
use Rattle.proof_core.proofs.Bounded.{bounded}
use Rattle.machine_core.proofs.Growths.{core_over, grown_parts, reclaimed_run}
use Rattle.machine_core.proofs.sweeping.grow.Goals as goal

pub overflow_add-parts : goal.overflow_add-parts
overflow_add-parts c = let few = bounded (seen c.args.parts.now) c.requires.core.run in omega (arith, few.steps, c.requires.core.run.actors, c.from-steps.ensures)

pub grow-requires-clause-room : goal.grow-requires-clause-room
grow-requires-clause-room c = let few = bounded (seen c.args.parts.now) c.requires.core.run in omega (arith, few.epoch, few.steps)

pub returns-then-not-grow-clause-core : goal.returns-then-not-grow-clause-core
returns-then-not-grow-clause-core c =
    let parts = c.args.parts.now in
    let same : c.grow.new.self ≡ record parts.heap { ticks = parts.heap.ticks + 1 } =
    c.if-not-grow.ensures.same ∙ ap (λ e. record parts.heap { epoch = e; ticks = parts.heap.ticks + 1 }) (let none : parts.heap.epoch + 0 ≡ parts.heap.epoch = omega arith in none) in
    subst (λ (m : Memory). IsCore (record parts { heap = m })) (sym same)
    (core_over parts (record parts.heap { ticks = parts.heap.ticks + 1 }) parts.steps c.requires.core.run refl refl c.requires.core.settled c.requires.core)

pub returns-clause-grown : goal.returns-clause-grown
returns-clause-grown c is =
    let parts = c.args.parts.now in
    let grown : Memory = record parts.heap { epoch = parts.heap.epoch + 1; ticks = parts.heap.ticks + 1 } in
    let settled : parts.heap.limbo ≡ limbo_after parts.heap.heap parts.heap.outside (parts.heap.epoch + 1) parts.heap.limbo =
    subst (λ (m : Memory). m.limbo ≡ limbo_after m.heap m.outside m.epoch m.limbo) c.if-not-grow.ensures.same c.if-not-grow.ensures.settled in
    subst (λ (m : Memory). Reclaims (worked parts) (parts.limits.actors + 1) (worked (record parts { heap = m; steps = parts.steps + (c.from-steps.result + 1) }))) (sym c.if-not-grow.ensures.same)
    (subst (λ k. Reclaims (worked parts) (parts.limits.actors + 1) (worked (record parts { heap = grown; steps = parts.steps + (k + 1) }))) (sym c.from-steps.ensures)
    (grown_parts parts c.requires.core c.requires.some c.if-not-grow.ensures.passes
    (subst (λ k. parts.steps + (k + 1) ≤ parts.limits.steps) c.from-steps.ensures c.if-parts-steps.false) settled))

pub returns-clause-core : goal.returns-clause-core
returns-clause-core c =
    let parts = c.args.parts.now in
    let same = c.if-not-grow.ensures.same in
    core_over parts c.grow.new.self (parts.steps + (c.from-steps.result + 1))
    (reclaimed_run (worked parts) (parts.limits.actors + 1) (worked (record parts { heap = c.grow.new.self; steps = parts.steps + (c.from-steps.result + 1) })) c.requires.core.run
    (returns-clause-grown c refl)) (ap (λ (m : Memory). m.outside) same) (ap (λ (m : Memory). m.pins) same) (ap (λ (m : Memory). m.noted) same ∙ c.requires.core.settled) c.requires.core
