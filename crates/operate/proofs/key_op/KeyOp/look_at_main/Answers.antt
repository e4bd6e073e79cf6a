use Rattle.std.specs.Prelude.{refl}
use Rattle.std.proofs.Common.{◌∙◌, sym}
use Rattle.operate.proofs.key_op.KeyOp.look_at_main.Goals as goal

pub returns-clause-follows : goal.returns-clause-follows
returns-clause-follows c =
    let me = c.args.self.now in
    λ state operation. (
      refl,
      sym (rw c.as_slice.ensures at (c.after_main-found.ensures state operation me.work.swap)) ∙ sym (c.follow.ensures.line state me.task.hashes),
      refl,
    )
