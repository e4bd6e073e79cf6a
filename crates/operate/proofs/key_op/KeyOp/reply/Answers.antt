use Rattle.operate.specs.Vocabulary.{above, climb_of}
use Rattle.operate.proofs.Going.{changes, renews, cleans, climbs}
use Rattle.operate.proofs.key_op.KeyOp.reply.Goals as goal

pub returns-in-Change : goal.returns-in-Change
returns-in-Change c =
    let op = c.args.self.now in
    rw (c.in-Down.is, c.in-Change.is) (λ told. (changes op.path op.work.swap op.change.main op.change.at).goes_on told)

pub returns-in-Renew : goal.returns-in-Renew
returns-in-Renew c =
    let op = c.args.self.now in
    rw (c.in-Down.is, c.in-Renew.is) (λ told. (renews op.path op.work.swap op.renew.main op.renew.done.items op.renew.at).goes_on told)

pub returns-in-Clean : goal.returns-in-Clean
returns-in-Clean c =
    let op = c.args.self.now in
    rw (c.in-Down.is, c.in-Clean.is) (λ told. (cleans (above op.path) op.work.swap op.clean.main op.clean.done.items op.clean.at).goes_on told)

pub returns-in-Climb : goal.returns-in-Climb
returns-in-Climb c =
    let op = c.args.self.now in
    rw (c.in-Down.is, c.in-Climb.is) (λ told. (climbs op.work.swap (climb_of op.path op.climb) op.climb.at).goes_on told)
