use Rattle.std.proofs.Common.{sym, subst}
use Rattle.machine_core.specs.Beneath.key_finding.specs.Replies.{reply_of}
use Rattle.machine_core.specs.Changing.{IsDeed, IsRemoving}
use Rattle.machine_core.specs.Straight.{CarriesFrom}
use Rattle.machine_core.proofs.straight.do_deed.Goals as goal

pub leave-requires : goal.leave-requires
leave-requires c =
    let (start, actor, call, own, does, at) = c.requires.there in
    record { there = (c.args.root, c.args.key, reply_of c.in-Answers.answer, (start, actor, call, own, subst (IsDeed call c.args.place.entry) c.in-Answers.is does, at)) }

pub returns-in-Answers : goal.returns-in-Answers
returns-in-Answers c start actor call own does at =
    c.leave.ensures c.args.root c.args.key (reply_of c.in-Answers.answer) start actor call own (subst (IsDeed call c.args.place.entry) c.in-Answers.is does) at

pub put-requires : goal.put-requires
put-requires c =
    let (start, actor, call, own, does, at) = c.requires.there in
    record { there = (c.args.root, (start, actor, call, own, (subst (IsDeed call c.args.place.entry) c.in-Puts.is does).0, at)) }

pub returns-in-Puts : goal.returns-in-Puts
returns-in-Puts c start actor call own does at =
    let puts = subst (IsDeed call c.args.place.entry) c.in-Puts.is does in
    subst (λ r. CarriesFrom start actor call r c.put.new.parts) (sym puts.2) (c.put.ensures c.args.root start actor call own (puts.0, puts.1) at)

pub remove-requires-clause-there : goal.remove-requires-clause-there
remove-requires-clause-there c =
    let (start, actor, call, own, does, at) = c.requires.there in
    (c.args.root, c.args.key, (start, actor, call, own, (subst (IsDeed call c.args.place.entry) c.in-Removes.is does).0, at))

pub remove-requires-clause-few : goal.remove-requires-clause-few
remove-requires-clause-few c = (c.requires.leaves (subst IsRemoving (sym c.in-Removes.is) tt)).0

pub remove-requires-clause-leaves : goal.remove-requires-clause-leaves
remove-requires-clause-leaves c = (c.requires.leaves (subst IsRemoving (sym c.in-Removes.is) tt)).1

pub returns-in-Removes : goal.returns-in-Removes
returns-in-Removes c start actor call own does at =
    let removes = subst (IsDeed call c.args.place.entry) c.in-Removes.is does in
    subst (λ r. CarriesFrom start actor call r c.remove.new.parts) (sym removes.1) (c.remove.ensures c.args.root c.args.key start actor call own removes.0 at)

pub part-requires-clause-there : goal.part-requires-clause-there
part-requires-clause-there c =
    let (start, actor, call, own, does, at) = c.requires.there in
    (start, actor, call, own, (subst (IsDeed call c.args.place.entry) c.in-Parts.is does).1, at)

pub part-requires-clause-other : goal.part-requires-clause-other
part-requires-clause-other c =
    let (start, actor, call, own, does, at) = c.requires.there in
    (subst (IsDeed call c.args.place.entry) c.in-Parts.is does).0

pub returns-in-Parts : goal.returns-in-Parts
returns-in-Parts c start actor call own does at =
    let parts = subst (IsDeed call c.args.place.entry) c.in-Parts.is does in
    subst (λ r. CarriesFrom start actor call r c.part.new.parts) (sym parts.3) (c.part.ensures start actor call own (parts.1, parts.2) at)
