use Rattle.std.proofs.Common.{refl}
use Rattle.history.specs.Tables.{operation_of, recorded}
use Rattle.history_scene.proofs.Drawn.{row_ends}
use Rattle.history_scene.proofs.bars.bar_of.Goals as goal

pub returns-clause-bar : goal.returns-clause-bar
returns-clause-bar c = λ order is lane stand.
    let told = c.reply_at-answer.ensures in
    record {
      operation = operation_of c.args.row.now;
      answer = recorded c.args.events.now c.args.row.now.end;
      shows = refl;
      actor = refl;
      begins = is.begins;
      ends = row_ends c.args.events.now c.args.id c.args.row.now is;
      lane = lane;
      call = c.in_ok-call.ensures;
      reply = rw told at c.in_ok-reply.ensures;
      stand = stand;
      colour = rw told at c.colour_of.ensures;
    }
