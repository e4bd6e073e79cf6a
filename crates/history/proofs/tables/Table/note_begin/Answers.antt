-- The event may come exactly where all three tests pass.
use Rattle.std.proofs.Common.{◌<◌, ◌∙◌, sym, length, arith}
use Rattle.std.proofs.lemmas.Bool.{both_ways}
use Rattle.history.proofs.Places.{at_tested, at_untested}
use Rattle.history.proofs.Noting.{begin_noted, not_idle}
use Rattle.history.proofs.tables.Table.note_begin.Goals as goal
use Rattle.history.proofs.tables.Table.note_begin.Goals.{then-id-len-via-then-id-len, then-id-len-via-else-id-len+then-not-opens_rightly}
use Rattle.history.proofs.tables.Table.note_begin.Goals.{then-id-len-via-else-id-len+else-not-opens_rightly+then-is_some}

pub returns-then-id-len-clause-noted : goal.returns-then-id-len-clause-noted
returns-then-id-len-clause-noted c = λ history known last may.
    let rows = c.args.self.now.rows.items in
    let running = c.args.self.now.running in
    elim c.then-id-len.branch [
      | then-id-len-via-then-id-len w ↦ let size = known.size in let next = may.0 in omega arith
      | then-id-len-via-else-id-len+then-not-opens_rightly w ↦ both_ways _ w.if-not-opens_rightly.true (w.opens_rightly.ensures.1 may.1)
      | then-id-len-via-else-id-len+else-not-opens_rightly+then-is_some w ↦
          let busy = at_tested running c.args.row.actor (sym w.is_some.ensures ∙ w.if-is_some.true) in
          not_idle history rows running c.args.id busy.0 c.args.row.actor c.args.row.call c.args.row.opens known busy.1 may
    ]

pub returns-clause-noted : goal.returns-clause-noted
returns-clause-noted c = λ history known last.
    let rows = c.args.self.now.rows.items in
    let running = c.args.self.now.running in
    let size = known.actors in
    let within : c.args.row.actor < length running = omega arith in
    let idle = at_untested running c.args.row.actor within (sym c.is_some.ensures ∙ c.if-is_some.false) in
    rw c.in_ok-push.ensures.items (begin_noted history rows running c.args.id c.args.row known last c.requires (omega arith) (c.opens_rightly.ensures.0 c.if-not-opens_rightly.false) idle)
