use Rattle.operate.proofs.key_op.KeyOp.follow.Goals as goal

pub returns-in-Renew-clause-line : goal.returns-in-Renew-clause-line
returns-in-Renew-clause-line c =
    let me = c.args.self.now in
    λ state hashes. rw c.in-Renew.is (c.begin.ensures state hashes me.path me.work.swap)
