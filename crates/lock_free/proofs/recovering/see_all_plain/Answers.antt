use Rattle.std.proofs.Common.{sym, ◌∙◌}
use Rattle.std.proofs.lemmas.Bool.{true≢false}
use Rattle.lock_free.proofs.PlainAll.{plain_more, plain_quiet, quiet_both}
use Rattle.lock_free.proofs.recovering.see_all_plain.Goals as goal

pub returns-then-not-is_plain-clause-seen : goal.returns-then-not-is_plain-clause-seen
returns-then-not-is_plain-clause-seen c =
    let v = c.loop-handle.actor.me.0 in
    let w = c.see_plain.new.actor.me.0 in
    let quiet = c.loop-handle.invariant.2 in
    (quiet_both c.args.actor.now.me.0 v w quiet (plain_quiet v quiet.alone quiet.idle c.loop-handle.handle c.see_plain.result w c.see_plain.ensures.seen), λ no. absurd (true≢false (sym no)))

pub loop-handle-preserved : goal.loop-handle-preserved
loop-handle-preserved c =
    let v = c.loop-handle.actor.me.0 in
    let w = c.see_plain.new.actor.me.0 in
    let quiet = c.loop-handle.invariant.2 in (
      c.see_plain.ensures.table ∙ c.loop-handle.invariant.0,
      c.see_plain.ensures.sound,
      quiet_both c.args.actor.now.me.0 v w quiet (plain_quiet v quiet.alone quiet.idle c.loop-handle.handle c.see_plain.result w c.see_plain.ensures.seen),
      plain_more v quiet.alone quiet.idle c.loop-handle.handle c.see_plain.result w c.see_plain.ensures.seen (sym c.is_plain.ensures ∙ c.if-not-is_plain.false) c.loop-handle.invariant.3,
    )
