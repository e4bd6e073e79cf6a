use Rattle.std.proofs.Common.{ap, sym, ◌∙◌}
use Rattle.lock_free.specs.Stocks.{Stocked}
use Rattle.lock_free.proofs.SwapsEnded.{checked_size, ends, may_told, stays_hung, stays_sized, still_checks, told_held, told_stayed}
use Rattle.lock_free.proofs.swapping.end_told.Goals as goal

pub see_dropped-dropped-requires-clause-held : goal.see_dropped-dropped-requires-clause-held
see_dropped-dropped-requires-clause-held c = told_held c.args.words.now.table_id.words c.args.actor.now.me.0 c.requires.sound c.args.swapping c.requires.checking

pub check_on-decided-requires-clause-checking : goal.check_on-decided-requires-clause-checking
check_on-decided-requires-clause-checking c =
    let n = c.args.words.now.table_id.words in
    let v = c.args.actor.now.me.0 in
    let x = c.see_dropped-dropped.new.actor.me.0 in
    still_checks n v c.requires.sound c.args.swapping c.requires.checking x
    (told_stayed n v c.requires.sound c.args.swapping c.requires.checking c.see_dropped-dropped.result x c.see_dropped-dropped.ensures.seen)

pub check_on-decided-requires-clause-sizes : goal.check_on-decided-requires-clause-sizes
check_on-decided-requires-clause-sizes c =
    let n = c.args.words.now.table_id.words in
    let v = c.args.actor.now.me.0 in
    let x = c.see_dropped-dropped.new.actor.me.0 in
    c.requires.sizes ∙ sym (stays_sized n v c.requires.sound c.args.swapping c.requires.checking x
    (told_stayed n v c.requires.sound c.args.swapping c.requires.checking c.see_dropped-dropped.result x c.see_dropped-dropped.ensures.seen))

pub check_on-decided-requires-clause-limbo : goal.check_on-decided-requires-clause-limbo
check_on-decided-requires-clause-limbo c =
    let n = c.args.words.now.table_id.words in
    let v = c.args.actor.now.me.0 in
    let x = c.see_dropped-dropped.new.actor.me.0 in
    stays_hung n v c.requires.sound c.args.swapping c.requires.checking x
    (told_stayed n v c.requires.sound c.args.swapping c.requires.checking c.see_dropped-dropped.result x c.see_dropped-dropped.ensures.seen) c.args.stock.now.limbo c.requires.limbo

pub let_go_told-requires-clause-sizes : goal.let_go_told-requires-clause-sizes
let_go_told-requires-clause-sizes c =
    let n = c.args.words.now.table_id.words in
    let v = c.args.actor.now.me.0 in
    let x = c.see_dropped-dropped.new.actor.me.0 in
    ap (λ (s : Stocked). s.sizes) c.check_on-decided.ensures.same ∙ c.requires.sizes
    ∙ sym (checked_size n v c.requires.sound c.args.swapping c.requires.checking x
    (told_stayed n v c.requires.sound c.args.swapping c.requires.checking c.see_dropped-dropped.result x c.see_dropped-dropped.ensures.seen) c.check_on-decided.result
    c.check_on-decided.new.actor.me.0 c.check_on-decided.ensures.checked)

pub let_go_told-requires-clause-holds : goal.let_go_told-requires-clause-holds
let_go_told-requires-clause-holds c =
    let n = c.args.words.now.table_id.words in
    let v = c.args.actor.now.me.0 in
    let x = c.see_dropped-dropped.new.actor.me.0 in
    may_told n v c.requires.sound c.args.swapping c.requires.checking x
    (told_stayed n v c.requires.sound c.args.swapping c.requires.checking c.see_dropped-dropped.result x c.see_dropped-dropped.ensures.seen) c.check_on-decided.result
    c.check_on-decided.new.actor.me.0 c.check_on-decided.ensures.checked c.args.swapping.drops c.requires.checking.its.drops c.see_dropped-dropped.result c.see_dropped-dropped.ensures.seen

pub returns-clause-ended : goal.returns-clause-ended
returns-clause-ended c =
    let n = c.args.words.now.table_id.words in
    let v = c.args.actor.now.me.0 in
    let x = c.see_dropped-dropped.new.actor.me.0 in
    ends n v c.requires.sound c.args.swapping c.requires.checking x
    (told_stayed n v c.requires.sound c.args.swapping c.requires.checking c.see_dropped-dropped.result x c.see_dropped-dropped.ensures.seen) c.check_on-decided.result
    c.check_on-decided.new.actor.me.0 c.check_on-decided.ensures.checked c.let_go_told.new.actor.me.0 c.let_go_told.ensures.let_go
