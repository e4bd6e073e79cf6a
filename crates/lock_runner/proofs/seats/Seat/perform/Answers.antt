use Rattle.std.proofs.Common.{refl}
use Rattle.std.proofs.lemmas.Result.{err_from_is_err_and}
use Rattle.lock_runner.proofs.Whole.{last_lent}
use Rattle.lock_runner.proofs.seats.Seat.perform.Goals as goal

pub returns : goal.returns
returns g c =
    let done = c.in_ok-carry_out.ensures in
    let lent = c.last_reply.ensures in
    let reply = last_lent _ _ done.answer lent.0 _ done.last lent.1 lent.2 in
    ((refl, (λ w. tt), (done.on, done.sweeps, (done.ready, done.idle, done.answer, done.last, reply, done.call, done.behind))), record { after = tt })

pub returns-in_err-carry_out : goal.returns-in_err-carry_out
returns-in_err-carry_out g c =
    let p = err_from_is_err_and c.from_residual.result c.from_residual.ensures.1 in
    let untold = c.in_err-carry_out.ensures.0 in
    ((refl, (λ w. tt), (untold.on, untold.sweeps, rw (p.1, p.2) (untold.answers, c.in_err-carry_out.ensures.1))), record { after = tt })
