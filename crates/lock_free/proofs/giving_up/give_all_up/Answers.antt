use Rattle.lock_free.proofs.CallEnds.{left_limbo, left_may, left_sizes, left_stock}
use Rattle.lock_free.proofs.FreesOn.{let_go_stock}
use Rattle.lock_free.proofs.giving_up.give_all_up.Goals as goal

pub let_made_go-requires-clause-sizes : goal.let_made_go-requires-clause-sizes
let_made_go-requires-clause-sizes c =
    let (o, answer, runs, its) = c.requires.may in
    let back = c.give_back-made.ensures in
    left_sizes c.args.words.now.table_id.words c.args.actor.now.me.0 c.requires.sound o runs answer c.give_up.new.actor.me.0 (c.give_up.ensures.gave o answer runs its) c.args.stock.now
    c.give_back-made.new.self c.requires.stock back.sizes back.pool back.made back.limbo

pub let_made_go-requires-clause-limbo : goal.let_made_go-requires-clause-limbo
let_made_go-requires-clause-limbo c =
    let (o, answer, runs, its) = c.requires.may in
    let back = c.give_back-made.ensures in
    left_limbo c.args.words.now.table_id.words c.args.actor.now.me.0 c.requires.sound o runs answer c.give_up.new.actor.me.0 (c.give_up.ensures.gave o answer runs its) c.args.stock.now
    c.give_back-made.new.self c.requires.stock back.sizes back.pool back.made back.limbo

pub let_made_go-requires-clause-may : goal.let_made_go-requires-clause-may
let_made_go-requires-clause-may c =
    let (o, answer, runs, its) = c.requires.may in
    let back = c.give_back-made.ensures in
    left_may c.args.words.now.table_id.words c.args.actor.now.me.0 c.requires.sound o runs answer c.give_up.new.actor.me.0 (c.give_up.ensures.gave o answer runs its) c.args.stock.now
    c.give_back-made.new.self c.requires.stock back.sizes back.pool back.made back.limbo c.give_back-made.result.items back.was

pub returns-clause-stock : goal.returns-clause-stock
returns-clause-stock c =
    let (o, answer, runs, its) = c.requires.may in
    let back = c.give_back-made.ensures in
    let_go_stock c.give_up.new.actor.me.0 c.let_made_go.new.actor.me.0 c.give_back-made.new.self c.let_made_go.new.stock
    (left_stock c.args.words.now.table_id.words c.args.actor.now.me.0 c.requires.sound o runs answer c.give_up.new.actor.me.0 (c.give_up.ensures.gave o answer runs its) c.args.stock.now
    c.give_back-made.new.self c.requires.stock back.sizes back.pool back.made back.limbo)
    c.let_made_go.ensures.let_go c.let_made_go.ensures.same c.let_made_go.ensures.limbo

pub returns-clause-gave : goal.returns-clause-gave
returns-clause-gave c o answer runs its = record { at = c.give_up.new.actor.me.0; gave = c.give_up.ensures.gave o answer runs its; let_go = c.let_made_go.ensures.let_go }
