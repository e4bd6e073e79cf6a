use Rattle.std.proofs.Common.{◌≡◌, [], length, refl, ap, subst, arith}
use Rattle.std.proofs.lemmas.List.{nil_from_length}
use Rattle.epochs.specs.Limbo.{limbo_after}
use Rattle.epochs.specs.Memories.{Memory, staying}
use Rattle.epochs.proofs.Staying.{length-limbo_of}
use Rattle.epochs.proofs.Settled.{settled_already, stays_already}
use Rattle.epochs.proofs.heap.Heap.settle.Goals as goal

-- nothing is noted, so nothing has to be done
pub returns-else-noted_len-ne0 : goal.returns-else-noted_len-ne0
returns-else-noted_len-ne0 c =
    let none : c.self.inside.arena.noted ≡ [] = nil_from_length c.self.inside.arena.noted (omega (arith, c.noted_len.ensures.noted, c.if-noted_len-ne0.false)) in
    record {
      limbo = subst (λ (m : Memory). m.limbo ≡ limbo_after m.heap m.outside m.epoch m.limbo) c.self.view_is
          (settled_already c.self.inside.arena c.self.inside.bags.bags c.self.invariant.0.lists none c.self.inside.epoch);
      settled = subst (λ (m : Memory). m.noted ≡ []) c.self.view_is none;
      heap = refl;
      outside = refl;
      epochs = (refl, refl, refl);
      ticks = omega (
        arith,
        stays_already c.self.inside.arena c.self.inside.bags.bags c.self.invariant.0.lists none c.self.inside.epoch,
        length-limbo_of c.self.inside.epoch c.self.inside.bags.bags,
        ap (λ (m : Memory). length m.limbo) c.self.view_is,
        ap (λ (m : Memory). length (staying m.heap m.outside m.limbo)) c.self.view_is,
      );
      rising = omega arith;
    }
