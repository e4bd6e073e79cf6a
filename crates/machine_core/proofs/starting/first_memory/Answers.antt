use Rattle.std.specs.Prelude.{IfSome}
use Rattle.std.proofs.Common.{◌≡◌, length, Some, sym, ap, subst, arith, ◌∙◌}
use Rattle.machine_core.specs.Vocabulary.{IsLive, next_ref, ref_to}
use Rattle.epochs.specs.Memories.{Memory}
use Rattle.proof_core.proofs.Bounded.{taken_most}
use Rattle.proof_core.proofs.Claims.{one_live}
use Rattle.machine_core.proofs.Starts.{first_limbo, next_first, next_second, settled_first}
use Rattle.machine_core.proofs.starting.first_memory.Goals as goal

pub make_held-requires-2-clause-births : goal.make_held-requires-2-clause-births
make_held-requires-2-clause-births c = omega (arith, taken_most _ _ _ c.make_held.ensures.heap, ap (λ (m : Memory). m.heap.births) c.in_ok-heap.ensures.made.0)

pub make_held-requires-2-clause-live : goal.make_held-requires-2-clause-live
make_held-requires-2-clause-live c =
    let (made, sizes) = c.in_ok-heap.ensures.made in
    let drawn : c.make_held.result ≡ Some (ref_to 1 0) = c.make_held.ensures.made ∙ ap (λ (m : Memory). next_ref m.heap) made ∙ next_first c.args.slots sizes.0.0 in
    let lives : IsLive c.make_held.new.self.heap (ref_to 1 0) = subst (λ o. IfSome o (IsLive c.make_held.new.self.heap)) drawn c.make_held.ensures.lives in
    one_live c.make_held.new.self.heap c.new-main.result (subst (IsLive c.make_held.new.self.heap) (sym c.new-main.ensures) lives)

pub returns-clause-limbo : goal.returns-clause-limbo
returns-clause-limbo c = grind (arith, next_first, next_second, first_limbo, one_live)

pub returns-clause-ticks : goal.returns-clause-ticks
returns-clause-ticks c =
    let made = c.in_ok-heap.ensures.made.0 in
    let first = c.make_held.ensures in
    let second = c.make_held-2.ensures in
    let released = c.release.ensures in
    let none = released.epochs.0 ∙ second.epochs.0 ∙ first.epochs.0 ∙ ap (λ (m : Memory). m.limbo) made in
    omega (
      arith,
      settled_first c.release.new.self c.settle.new.self c.settle.ensures none (returns-clause-limbo c),
      released.ticks,
      released.few,
      second.ticks.1,
      second.few,
      first.ticks.1,
      first.few,
      ap (λ (m : Memory). m.ticks) made,
      ap (λ (m : Memory). length m.noted) made,
    )
