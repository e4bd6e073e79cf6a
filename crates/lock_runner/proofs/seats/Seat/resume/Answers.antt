use Rattle.std.proofs.Common.{refl}
use Rattle.std.proofs.lemmas.Result.{err_from_is_err_and}
use Rattle.lock_runner.proofs.Whole.{last_lent}
use Rattle.lock_runner.proofs.seats.Seat.resume.Goals as goal

pub returns : goal.returns
returns g c =
    let ended = c.in_ok-carry_on.ensures in
    let done = ended.1 in
    let lent = c.last_reply.ensures in
    let reply = last_lent _ _ done.answer lent.0 _ done.last lent.1 lent.2 in
    ((refl, (λ w. tt), (done.on, done.sweeps, (ended.0, done.ran, done.idle, done.answer, done.last, reply, done.id, done.call, done.began))), record { after = tt })

pub returns-in_err-carry_on : goal.returns-in_err-carry_on
returns-in_err-carry_on g c =
    let p = err_from_is_err_and c.from_residual.result c.from_residual.ensures.1 in
    let stopped = c.in_err-carry_on.ensures in
    ((refl, (λ w. tt), (stopped.0.on, stopped.0.sweeps, rw (p.1, p.2) (stopped.0.answers, stopped.1, stopped.2))), record { after = tt })
