use Rattle.std.proofs.Common.{rules, ap, refl, subst, sym}
use Rattle.history.specs.declared.calls.Call.TheVariants as call
use Rattle.history.specs.declared.replies.Reply.TheVariants as reply
use Rattle.ctrie_c.proofs.ConcurrentCalls.{does_listed, does_none, listed}
use Rattle.ctrie_c.specs.Threading.{Does, SaysFront, Tells, Walks}
use Rattle.ctrie_c.proofs.concurrent_reading.ctrie_concurrent_try_entries.Goals as goal

pub returns-in-None-clause-does : goal.returns-in-None-clause-does
returns-in-None-clause-does c =
    does_none (Walks reply.Pairs (call.Entries c.args.handle)) (SaysFront c.args.pairs.now c.args.pairs.now c.args.count.now) c.args.held.now.state c.take_caller.new.held.state c.in-None.ensures.none
    c.take_caller.ensures.empty

pub returns-in-Err-clause-does : goal.returns-in-Err-clause-does
returns-in-Err-clause-does c =
    let does : Does (Walks (λ v. reply.Pairs v.items) (call.Entries c.args.handle)) c.try_entries-told.result c.args.held.now.state c.give_caller.new.held.state = search rules in (
      listed (λ v. v.items) c.try_entries-told.result,
      does_listed (λ v. v.items) (call.Entries c.args.handle) c.try_entries-told.result c.args.held.now.state c.give_caller.new.held.state does,
      subst (λ r. Tells (SaysFront c.args.pairs.now c.args.pairs.now c.args.count.now) r c.in-Err.code) (sym (ap (listed (λ v. v.items)) c.in-Err.is)) refl,
    )

pub returns-in-Ok-clause-does : goal.returns-in-Ok-clause-does
returns-in-Ok-clause-does c =
    let does : Does (Walks (λ v. reply.Pairs v.items) (call.Entries c.args.handle)) c.try_entries-told.result c.args.held.now.state c.give_caller.new.held.state = search rules in
    let says : SaysFront c.args.pairs.now c.write_front.new.pairs c.write_front.result c.in-Ok.all.items 0 = search rules in (
      listed (λ v. v.items) c.try_entries-told.result,
      does_listed (λ v. v.items) (call.Entries c.args.handle) c.try_entries-told.result c.args.held.now.state c.give_caller.new.held.state does,
      subst (λ r. Tells (SaysFront c.args.pairs.now c.write_front.new.pairs c.write_front.result) r 0) (sym (ap (listed (λ v. v.items)) c.in-Ok.is)) says,
    )
