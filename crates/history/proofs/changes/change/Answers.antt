use Rattle.std.proofs.Common.{Some, ap}
use Rattle.history.proofs.changes.change.Goals as goal

pub returns-in_ok-put-in-Put-clause-answer : goal.returns-in_ok-put-in-Put-clause-answer
returns-in_ok-put-in-Put-clause-answer c = rw c.in-Put.is (ap (λ e. (Some e.0, e.1)) c.in_ok-put-in-Put.ensures.answer)

pub returns-in_ok-put_if_absent-in-PutIfAbsent-clause-answer : goal.returns-in_ok-put_if_absent-in-PutIfAbsent-clause-answer
returns-in_ok-put_if_absent-in-PutIfAbsent-clause-answer c = rw c.in-PutIfAbsent.is (ap (λ e. (Some e.0, e.1)) c.in_ok-put_if_absent-in-PutIfAbsent.ensures.answer)
