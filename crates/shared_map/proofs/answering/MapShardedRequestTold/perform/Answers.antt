use Rattle.std.proofs.Common.{refl, sym, ap, subst, ◌∙◌}
use Rattle.sharded_gate.specs.Shards.{AnswersAlone}
use Rattle.shared_map.specs.Answering.{MapAnswers}
use Rattle.shared_map.specs.Asks.{about}
use Rattle.shared_map.specs.declared.asks.Ask.TheVariants.{Scan}
use Rattle.shared_map.proofs.Alone.{called_alone, scanned_alone, strange_alone}
use Rattle.shared_map.proofs.answering.MapShardedRequestTold.perform.Goals as goal

pub returns-then-not-is_same : goal.returns-then-not-is_same
returns-then-not-is_same c =
    strange_alone c.args._seat c.args.self.now c.args.self.now c.args.request (λ same. c.is_same.ensures.apart c.if-not-is_same.true (same ∙ sym c.hash.ensures))

pub returns-in-Do : goal.returns-in-Do
returns-in-Do c =
    subst (λ t. AnswersAlone MapAnswers about c.args._seat c.args.self.now c.args.request t c.call.new.self) (sym c.told_reply.ensures)
    (called_alone c.args._seat c.args.self.now c.call.new.self c.args.request c.in-Do.call c.call.result c.in-Do.is (c.is_same.ensures.same c.if-not-is_same.false ∙ c.hash.ensures)
    c.call.ensures.calls c.call.ensures.full c.call.ensures.work)

pub returns-in-Scan : goal.returns-in-Scan
returns-in-Scan c =
    scanned_alone c.args._seat c.args.self.now c.args.self.now c.args.request c.new.result c.in-Scan.room c.in-Scan.after c.in-Scan.shard c.scan.result c.told_part.result
    (c.in-Scan.is ∙ ap (λ h. Scan h c.in-Scan.shard c.in-Scan.after c.in-Scan.room) (sym c.new.ensures)) (c.is_same.ensures.same c.if-not-is_same.false ∙ c.hash.ensures) refl
    c.scan.ensures.entries c.scan.ensures.refused c.told_part.ensures.part c.told_part.ensures.refused
