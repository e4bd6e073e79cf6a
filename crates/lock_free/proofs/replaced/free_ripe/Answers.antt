use Rattle.std.proofs.Common.{is_some, ap, sym, subst, arith, ◌∙◌}
use Rattle.std.proofs.lemmas.Bool.{true≢false}
use Rattle.lock_free.specs.declared.limbo.Chain.{Chain}
use Rattle.lock_free.specs.declared.reclaiming.Kind.TheVariants.{Replaced}
use Rattle.lock_free.specs.Freed.{kept_free, KeepsOthers}
use Rattle.lock_free.specs.Limbos.{chains_of}
use Rattle.lock_free.specs.Stocks.{HasRoomFor, Stocked}
use Rattle.lock_free.proofs.ClassesFree.{others_both, turned_chain, turned_others}
use Rattle.lock_free.proofs.FreesOn.{has_late, turned_stock}
use Rattle.lock_free.proofs.LetGo.{none_reclaimed}
use Rattle.lock_free.proofs.replaced.free_ripe.Goals as goal

pub returns-then-not-has_ripe-clause-stock : goal.returns-then-not-has_ripe-clause-stock
returns-then-not-has_ripe-clause-stock c =
    turned_stock c.args.actor.now.me.0 c.args.stock.now c.turn.new.self Replaced c.args.class c.requires.class c.requires.stock c.turn.ensures

pub returns-then-not-has_ripe-clause-others : goal.returns-then-not-has_ripe-clause-others
returns-then-not-has_ripe-clause-others c =
    let stock = c.args.stock.now in
    subst (λ (s : Stocked). KeepsOthers c.args.class stock.limbo stock s.limbo s) (sym c.turn.ensures) (turned_others c.args.class c.requires.class stock.limbo stock)

pub returns-then-not-has_ripe-clause-reclaimed : goal.returns-then-not-has_ripe-clause-reclaimed
returns-then-not-has_ripe-clause-reclaimed c = none_reclaimed c.args.actor.now.me.0

pub returns-then-not-has_ripe-clause-freed : goal.returns-then-not-has_ripe-clause-freed
returns-then-not-has_ripe-clause-freed c many room ripe x there named =
    let class = c.args.class in
    let limbo = c.args.stock.now.limbo in
    let aged = ap (λ (s : Stocked). (chains_of s.limbo Replaced class).aged) c.turn.ensures ∙ turned_chain class c.requires.class limbo in
    let seen = (turned_others class c.requires.class limbo c.args.stock.now).0 in
    let first = ap is_some (ap (λ (k : Chain). k.first) aged ∙ named) in
    let stamp = ap (λ (k : Chain). k.stamp) aged in
    let same = ap (λ (s : Stocked). s.limbo.seen) c.turn.ensures ∙ seen in
    absurd (true≢false (sym (c.has_ripe.ensures.some first (omega (arith, stamp, same, ripe))) ∙ c.if-not-has_ripe.true))

pub free_some-requires-clause-ripe : goal.free_some-requires-clause-ripe
free_some-requires-clause-ripe c =
    has_late c.args.actor.now.me.0 c.turn.new.self Replaced c.args.class
    (turned_stock c.args.actor.now.me.0 c.args.stock.now c.turn.new.self Replaced c.args.class c.requires.class c.requires.stock c.turn.ensures)
    (c.has_ripe.ensures.ripe c.if-not-has_ripe.false)

pub free_some-requires-clause-stock : goal.free_some-requires-clause-stock
free_some-requires-clause-stock c =
    turned_stock c.args.actor.now.me.0 c.args.stock.now c.turn.new.self Replaced c.args.class c.requires.class c.requires.stock c.turn.ensures

pub returns-clause-others : goal.returns-clause-others
returns-clause-others c =
    let class = c.args.class in
    let limbo = c.args.stock.now.limbo in
    let stock = c.args.stock.now in
    others_both class limbo stock c.turn.new.self.limbo c.turn.new.self c.free_some.new.stock.limbo c.free_some.new.stock
    (subst (λ (s : Stocked). KeepsOthers class limbo stock s.limbo s) (sym c.turn.ensures) (turned_others class c.requires.class limbo stock)) c.free_some.ensures.others

pub returns-clause-freed : goal.returns-clause-freed
returns-clause-freed c many room ripe x there named =
    let class = c.args.class in
    let aged = ap (λ (s : Stocked). (chains_of s.limbo Replaced class).aged) c.turn.ensures ∙ turned_chain class c.requires.class c.args.stock.now.limbo in
    c.free_some.ensures.freed many (subst (λ s. HasRoomFor s class kept_free) (sym c.turn.ensures) room) x there (ap (λ (k : Chain). k.first) aged ∙ named)
