use Rattle.std.proofs.Common.{[], length, refl, ap, ◌∙◌, subst, arith}
use Rattle.machine_core.specs.Vocabulary.{KeepsOthers, Programs}
use Rattle.machine_core.proofs.Left.{held_still}
use Rattle.machine_core.proofs.parts.Actor.leave.Goals as goal

pub end-requires : goal.end-requires
end-requires c = record { held = held_still c.args.self.now.programs c.take_reply-reply.new.self c.args.heap.now c.take_reply-reply.ensures.same c.requires }

pub returns-clause-leaves : goal.returns-clause-leaves
returns-clause-leaves c =
    let same = c.take_reply-reply.ensures.same in
    let end = c.end.ensures in
    let held = ap (λ (p : Programs). length p.key.work.private) same in
    record {
      under_way = refl;
      hashes = ap (λ (p : Programs). p.key.task.hashes) end.same ∙ ap (λ (p : Programs). p.key.task.hashes) same;
      private = ap (λ (p : Programs). p.key.work.private) end.same;
      others = subst (λ (p : Programs). KeepsOthers p.key.work.private c.args.heap.now [] c.end.new.heap) same end.others;
      work = record { limbo = end.epochs.0; few = omega (arith, end.few, held); ticks = (omega (arith, end.ticks), omega (arith, end.ticks, held)) };
    }
