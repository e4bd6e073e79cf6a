use Rattle.std.proofs.Common.{ap, sym, ◌∙◌}
use Rattle.lock_free.specs.Stocks.{Stocked}
use Rattle.lock_free.proofs.Rootings.{stayed_both}
use Rattle.lock_free.proofs.SwapsEnded.{checked_size, ends, fresh_held, may_let_go, replaced_held, stays_hung, stays_sized, still_checks}
use Rattle.lock_free.proofs.swapping.end_looking.Goals as goal

pub see_taken-requires-clause-held : goal.see_taken-requires-clause-held
see_taken-requires-clause-held c = replaced_held c.args.words.now.table_id.words c.args.actor.now.me.0 c.requires.sound c.args.swapping c.requires.checking

pub see_names-requires-clause-held : goal.see_names-requires-clause-held
see_names-requires-clause-held c =
    fresh_held c.args.words.now.table_id.words c.args.actor.now.me.0 c.requires.sound c.args.swapping c.requires.checking c.see_taken.new.actor.me.0 c.see_taken.ensures.seen.0

pub check_on-decided-requires-clause-checking : goal.check_on-decided-requires-clause-checking
check_on-decided-requires-clause-checking c =
    let v = c.args.actor.now.me.0 in
    let x = c.see_names.new.actor.me.0 in
    still_checks c.args.words.now.table_id.words v c.requires.sound c.args.swapping c.requires.checking x
    (stayed_both v c.see_taken.new.actor.me.0 x c.see_taken.ensures.seen.0 c.see_names.ensures.seen.0)

pub check_on-decided-requires-clause-sizes : goal.check_on-decided-requires-clause-sizes
check_on-decided-requires-clause-sizes c =
    let v = c.args.actor.now.me.0 in
    let x = c.see_names.new.actor.me.0 in
    c.requires.sizes ∙ sym (stays_sized c.args.words.now.table_id.words v c.requires.sound c.args.swapping c.requires.checking x
    (stayed_both v c.see_taken.new.actor.me.0 x c.see_taken.ensures.seen.0 c.see_names.ensures.seen.0))

pub check_on-decided-requires-clause-limbo : goal.check_on-decided-requires-clause-limbo
check_on-decided-requires-clause-limbo c =
    let v = c.args.actor.now.me.0 in
    let x = c.see_names.new.actor.me.0 in
    stays_hung c.args.words.now.table_id.words v c.requires.sound c.args.swapping c.requires.checking x
    (stayed_both v c.see_taken.new.actor.me.0 x c.see_taken.ensures.seen.0 c.see_names.ensures.seen.0) c.args.stock.now.limbo c.requires.limbo

pub let_go_by-requires-clause-sizes : goal.let_go_by-requires-clause-sizes
let_go_by-requires-clause-sizes c =
    let v = c.args.actor.now.me.0 in
    let x = c.see_names.new.actor.me.0 in
    ap (λ (s : Stocked). s.sizes) c.check_on-decided.ensures.same ∙ c.requires.sizes
    ∙ sym (checked_size c.args.words.now.table_id.words v c.requires.sound c.args.swapping c.requires.checking x
    (stayed_both v c.see_taken.new.actor.me.0 x c.see_taken.ensures.seen.0 c.see_names.ensures.seen.0) c.check_on-decided.result c.check_on-decided.new.actor.me.0
    c.check_on-decided.ensures.checked)

pub let_go_by-requires-clause-holds : goal.let_go_by-requires-clause-holds
let_go_by-requires-clause-holds c =
    may_let_go c.args.words.now.table_id.words c.args.actor.now.me.0 c.requires.sound c.args.swapping c.requires.checking c.see_taken.new.actor.me.0 c.see_taken.new.halves.items
    c.see_taken.ensures.seen c.see_names.new.actor.me.0 c.see_names.new.halves.items c.see_names.ensures.seen c.check_on-decided.result c.check_on-decided.new.actor.me.0
    c.check_on-decided.ensures.checked

pub returns-clause-ended : goal.returns-clause-ended
returns-clause-ended c =
    let v = c.args.actor.now.me.0 in
    let x = c.see_names.new.actor.me.0 in
    ends c.args.words.now.table_id.words v c.requires.sound c.args.swapping c.requires.checking x
    (stayed_both v c.see_taken.new.actor.me.0 x c.see_taken.ensures.seen.0 c.see_names.ensures.seen.0) c.check_on-decided.result c.check_on-decided.new.actor.me.0
    c.check_on-decided.ensures.checked c.let_go_by.new.actor.me.0 c.let_go_by.ensures.let_go
