use Rattle.std.proofs.Common.{refl, sym}
use Rattle.std.proofs.lemmas.Result.{err_from_is_err_and}
use Rattle.history_text.proofs.lines.begin_from.Goals as goal

pub returns-in_err-id : goal.returns-in_err-id
returns-in_err-id c = let p = err_from_is_err_and c.from_residual.result c.from_residual.ensures.1 in
    rw (p.1, p.2, sym c.next_id.ensures, sym c.idle_actor.ensures, sym c.call_of.ensures, sym c.both-said.ensures, sym c.in_err-id.ensures) refl
