use Rattle.std.proofs.Common.{◌≤◌, ap, sym, subst, ◌∙◌}
use Rattle.lock_free.specs.declared.rules.View.{View}
use Rattle.lock_free.proofs.FreesOn.{ended_on, ending_on, ending_runs}
use Rattle.lock_free.proofs.Tidied.{ended_unopened}
use Rattle.lock_free.proofs.call_runs.finish_call.Goals as goal

pub let_go-requires-clause-running : goal.let_go-requires-clause-running
let_go-requires-clause-running c = ending_runs c.args.actor.now.me.0 c.args.answered c.requires.ending

pub end_with-reply-requires-clause-its : goal.end_with-reply-requires-clause-its
end_with-reply-requires-clause-its c = ap (λ (v : View). v.actor) c.let_go.ensures.freed.follows.is ∙ c.requires.its

pub end_with-reply-requires-clause-few : goal.end_with-reply-requires-clause-few
end_with-reply-requires-clause-few c = subst (λ (v : View). v.actor ≤ v.sizes.seats) (sym c.let_go.ensures.freed.follows.is) c.requires.few

pub end_with-reply-requires-clause-ending : goal.end_with-reply-requires-clause-ending
end_with-reply-requires-clause-ending c = ending_on c.args.actor.now.me.0 c.let_go.new.actor.me.0 c.let_go.ensures.freed c.args.answered c.requires.ending

pub tidy_up-requires-clause-unopened : goal.tidy_up-requires-clause-unopened
tidy_up-requires-clause-unopened c plain =
    let v = c.args.actor.now.me.0 in
    let ended = c.end_with-reply.new.actor.me.0 in
    let e = ended_on v c.let_go.new.actor.me.0 c.let_go.ensures.freed c.end_with-reply.result ended c.end_with-reply.ensures.ended in
    ended_unopened v ended c.end_with-reply.result e (c.requires.unopened plain)

pub returns-clause-finished : goal.returns-clause-finished
returns-clause-finished c = (
  c.end_with-reply.result,
  c.told_of-told.ensures.0,
  c.told_of-told.ensures.1,
  c.told_of-told.ensures.2,
  c.end_with-reply.new.actor.me.0,
  ended_on c.args.actor.now.me.0 c.let_go.new.actor.me.0 c.let_go.ensures.freed c.end_with-reply.result c.end_with-reply.new.actor.me.0 c.end_with-reply.ensures.ended,
  c.tidy_up.ensures.tidied,
)
