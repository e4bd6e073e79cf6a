use Rattle.std.proofs.Common.{◌∙◌}
use Rattle.lock_free.proofs.CallsUnderWay.{few_then, left_both}
use Rattle.lock_free.proofs.try_runs.run_to_end.Goals as goal

pub until_over-requires-clause-its : goal.until_over-requires-clause-its
until_over-requires-clause-its g c = (c.in-UnderWay.ensures {u = tt}).left.0.actor ∙ c.requires.its

pub until_over-requires-clause-few : goal.until_over-requires-clause-few
until_over-requires-clause-few g c = few_then c.args.actor.now.me.0 c.try_begun.new.actor.me.0 (c.in-UnderWay.ensures {u = tt}).left.0 c.requires.few

pub returns-in-UnderWay-clause-told : goal.returns-in-UnderWay-clause-told
returns-in-UnderWay-clause-told g c = c.until_over.ensures.told c.args.actor.now.me.0 c.args.call c.requires.tried (c.in-UnderWay.ensures {u = tt}).run

pub returns-in-UnderWay-clause-left : goal.returns-in-UnderWay-clause-left
returns-in-UnderWay-clause-left g c =
    left_both c.args.actor.now.me.0 c.try_begun.new.actor.me.0 c.until_over.new.actor.me.0 (c.in-UnderWay.ensures {u = tt}).left.0 c.until_over.ensures.left
