use Rattle.std.specs.Prelude.{refl}
use Rattle.std.proofs.Common.{◌∙◌, sym}
use Rattle.operate.proofs.key_op.KeyOp.look_at_entry.Goals as goal

pub returns-in-Down-clause-follows : goal.returns-in-Down-clause-follows
returns-in-Down-clause-follows c =
    let me = c.args.self.now in
    λ state operation. (
      refl,
      sym (rw (c.as_slice.ensures, c.in-Down.is) at (c.after_entry-entered.ensures state operation me.work.swap)) ∙ sym c.go_down.ensures.line,
      refl,
    )

pub returns-in-Here-clause-follows : goal.returns-in-Here-clause-follows
returns-in-Here-clause-follows c =
    let me = c.args.self.now in
    λ state operation. (
      refl,
      sym (rw (c.as_slice.ensures, c.in-Here.is) at (c.after_entry-entered.ensures state operation me.work.swap)) ∙ sym (c.follow.ensures.line state me.task.hashes),
      refl,
    )
