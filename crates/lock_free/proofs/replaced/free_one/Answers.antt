use Rattle.std.proofs.Common.{◌∙◌, ap, map, sym, subst}
use Rattle.std.proofs.lemmas.Bool.{true≢false}
use Rattle.std.proofs.lemmas.Option.{none-some}
use Rattle.lock_free.specs.declared.reclaiming.Kind.TheVariants.{Replaced}
use Rattle.lock_free.specs.declared.rules.View.{View}
use Rattle.lock_free.specs.Freed.{KeepsOthers}
use Rattle.lock_free.specs.Limbos.{led_on, IsLimbo}
use Rattle.lock_free.specs.Making.{with_slot}
use Rattle.lock_free.specs.Places.{IsSlot}
use Rattle.lock_free.specs.Stocks.{made_of, own_nodes, IsStock, Stocked}
use Rattle.lock_free.proofs.ClassesFree.{chains_others, others_both, slot_others}
use Rattle.lock_free.proofs.KindsApart.{replaced_shallow}
use Rattle.lock_free.proofs.LetGo.{first_freed, item, item_class, item_held, item_kind, item_late, item_slot, its_name, limbo_let_go, one_reclaimed}
use Rattle.lock_free.proofs.replaced.free_one.Goals as goal

pub reclaim-link-requires-clause-slot : goal.reclaim-link-requires-clause-slot
reclaim-link-requires-clause-slot c =
    let first = sym c.first_aged.ensures ∙ c.in-Some.is in
    subst (λ z. IsSlot z c.args.class c.in-Some.slot) (sym (c.sizes-sizes.ensures ∙ c.requires.stock.sizes))
    (item_slot c.args.stock.now.limbo c.args.actor.now.me.0 c.requires.stock.limbo Replaced c.args.class c.requires.class c.in-Some.slot first)

pub reclaim-link-requires-clause-ripe : goal.reclaim-link-requires-clause-ripe
reclaim-link-requires-clause-ripe c =
    let limbo = c.args.stock.now.limbo in
    let v = c.args.actor.now.me.0 in
    let class = c.args.class in
    let slot = c.in-Some.slot in
    let low = c.requires.class in
    let first = sym c.first_aged.ensures ∙ c.in-Some.is in (
      item limbo v c.requires.stock.limbo Replaced class low slot first,
      item_held limbo v c.requires.stock.limbo Replaced class low slot first,
      item_class limbo v c.requires.stock.limbo Replaced class low slot first,
      its_name limbo v c.requires.stock.limbo Replaced class low slot first,
      item_late limbo v c.requires.stock.limbo Replaced class low slot first c.requires.ripe,
      replaced_shallow v.sizes (item limbo v c.requires.stock.limbo Replaced class low slot first) (item_kind limbo v c.requires.stock.limbo Replaced class low slot first),
    )

pub returns-clause-stock : goal.returns-clause-stock
returns-clause-stock c =
    let stock = c.args.stock.now in
    let v = c.args.actor.now.me.0 in
    let w = c.reclaim-link.new.actor.me.0 in
    let class = c.args.class in
    let first = sym c.first_aged.ensures ∙ c.in-Some.is in
    let is = c.reclaim-link.ensures.reclaimed.1 in
    subst (λ s. IsStock s w) (sym c.lead_on.ensures)
    (record {
      sizes = c.add.ensures.sizes ∙ c.requires.stock.sizes ∙ sym (ap (λ (x : View). x.sizes) is);
      pool = c.add.ensures.pool ∙ ap (λ p. with_slot p class c.in-Some.slot) c.requires.stock.pool ∙ sym (ap (λ (x : View). x.pool) is);
      made = c.add.ensures.made ∙ c.requires.stock.made ∙ sym (ap (λ (x : View). map (made_of x) (own_nodes x)) is);
      limbo = subst (λ l. IsLimbo (led_on l Replaced class c.reclaim-link.result) w) (sym c.add.ensures.limbo)
          (limbo_let_go stock.limbo v c.requires.stock.limbo Replaced class c.requires.class c.in-Some.slot first c.reclaim-link.result w c.reclaim-link.ensures.reclaimed);
    })

pub returns-clause-others : goal.returns-clause-others
returns-clause-others c =
    let stock = c.args.stock.now in
    let limbo = stock.limbo in
    let added = c.add.new.self in
    let class = c.args.class in
    let freed = subst (λ l. KeepsOthers class limbo stock l added) (sym c.add.ensures.limbo)
    (slot_others class c.in-Some.slot c.requires.class limbo stock added c.add.ensures.pool c.add.ensures.made) in
    others_both class limbo stock added.limbo added c.lead_on.new.self.limbo c.lead_on.new.self freed
    (subst (λ (s : Stocked). KeepsOthers class added.limbo added s.limbo s) (sym c.lead_on.ensures) (chains_others class c.requires.class added.limbo _ added))

pub returns-clause-reclaimed : goal.returns-clause-reclaimed
returns-clause-reclaimed c =
    one_reclaimed c.args.stock.now.limbo c.args.actor.now.me.0 c.requires.stock.limbo Replaced c.args.class c.requires.class c.in-Some.slot
    (sym c.first_aged.ensures ∙ c.in-Some.is) c.reclaim-link.result
    c.reclaim-link.new.actor.me.0 c.reclaim-link.ensures.reclaimed

pub returns-in_default-clause-freed : goal.returns-in_default-clause-freed
returns-in_default-clause-freed c room x there named = absurd (none-some x.name (sym c.in_default.is ∙ c.first_aged.ensures ∙ named))

pub returns-then-not-takes_back-clause-freed : goal.returns-then-not-takes_back-clause-freed
returns-then-not-takes_back-clause-freed c room x there named = absurd (true≢false (sym (c.takes_back.ensures.takes room) ∙ c.if-not-takes_back.true))

pub returns-clause-freed : goal.returns-clause-freed
returns-clause-freed c room =
    first_freed c.args.stock.now.limbo c.args.actor.now.me.0 c.requires.stock.limbo Replaced c.args.class c.requires.class c.in-Some.slot
    (sym c.first_aged.ensures ∙ c.in-Some.is) c.reclaim-link.result
    c.reclaim-link.new.actor.me.0 c.reclaim-link.ensures.reclaimed
