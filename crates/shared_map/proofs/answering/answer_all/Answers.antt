use Rattle.std.proofs.Common.{subst}
use Rattle.shared_map.specs.Answering.{MapAnswers}
use Rattle.shared_map.proofs.Answered.{if_strange}
use Rattle.shared_map.proofs.answering.answer_all.Goals as goal

pub returns-else-is_same-clause-answered : goal.returns-else-is_same-clause-answered
returns-else-is_same-clause-answered g c =
    if_strange c.first_of-first.result (g.S.Shards.items c.args.shards.now) c.args.request c.first_of-first.ensures.known (g.S.Shards.items c.first_of-first.new.shards)
    (c.is_same.ensures.apart c.if-is_same.false) c.first_of-first.ensures.same

pub returns-then-is_same-clause-answered : goal.returns-then-is_same-clause-answered
returns-then-is_same-clause-answered g c =
    subst (λ xs. MapAnswers 0 xs c.args.request c.ask_all.result (g.S.Shards.items c.ask_all.new.shards)) c.first_of-first.ensures.same c.ask_all.ensures.answered
