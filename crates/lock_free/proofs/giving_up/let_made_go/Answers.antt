use Rattle.std.proofs.Common.{◌≡◌, ◌++◌, ◌<◌, get_or, length, take, refl, sym, ap, subst, ◌∙◌, arith}
use Rattle.lock_free.specs.declared.reclaiming.Kind.TheVariants as kinds
use Rattle.lock_free.specs.declared.stock.OwnNode.{OwnNode}
use Rattle.lock_free.specs.LettingMadeGo.{slots_kept, slots_made}
use Rattle.lock_free.specs.Limbos.{IsLimbo}
use Rattle.lock_free.specs.Loading.{IsSound}
use Rattle.lock_free.specs.Stocks.{Stocked}
use Rattle.lock_free.proofs.MadeGo.{inside_so, passed_so, release_so, released_so}
use Rattle.lock_free.proofs.giving_up.let_made_go.Goals as goal

pub left_out_of-requires-clause-inside : goal.left_out_of-requires-clause-inside
left_out_of-requires-clause-inside c =
    let (t, sound, same, hangs, let_go, rest, most) = c.loop-n.invariant in
    let made = c.args.made.now.items in
    let few : c.loop-n.n < length made = (let low = c.loop-n-test.true in let l = c.len-n-end.ensures.value in omega (arith, low, l)) in
    let d : OwnNode = record { kind = kinds.Replaced; class = 0; slot = 0 } in
    inside_so c.args.actor.now.me.0 made c.args.fresh (slots_kept c.args.kept.now) c.loop-n.n few d c.loop-n.actor.me.0 let_go rest (get_or c.deref.result.now c.loop-n.n d)
    (ap (λ xs. get_or xs c.loop-n.n d) c.deref.ensures.0) c.loop-n.actor.me.0 refl c.args.words.now.table_id.words sound c.requires.may

pub loop-n-preserved-in_default : goal.loop-n-preserved-in_default
loop-n-preserved-in_default c =
    let (t, sound, same, hangs, let_go, rest, most) = c.loop-n.invariant in
    let made = c.args.made.now.items in
    let few : c.loop-n.n < length made = (let low = c.loop-n-test.true in let l = c.len-n-end.ensures.value in omega (arith, low, l)) in
    let d : OwnNode = record { kind = kinds.Replaced; class = 0; slot = 0 } in
    let me = c.left_out_of.ensures.same in
    let both = passed_so c.args.actor.now.me.0 made c.args.fresh (slots_kept c.args.kept.now) c.loop-n.n few d c.loop-n.actor.me.0 let_go rest (get_or c.deref.result.now c.loop-n.n d)
    (ap (λ xs. get_or xs c.loop-n.n d) c.deref.ensures.0) c.left_out_of.new.actor.me.0 (ap (λ (x : _). x.0) me) in (
      c.left_out_of.ensures.table ∙ t,
      subst (λ (x : _). IsSound c.args.words.now.table_id.words x.0) (sym me) sound,
      same,
      subst (λ (x : _). IsLimbo c.loop-n.stock.limbo x.0) (sym me) hangs,
      both.0,
      both.1,
      omega (arith, few),
    )

pub release_names-requires-clause-left : goal.release_names-requires-clause-left
release_names-requires-clause-left c =
    let (t, sound, same, hangs, let_go, rest, most) = c.loop-n.invariant in
    let made = c.args.made.now.items in
    let kept = slots_kept c.args.kept.now in
    let few : c.loop-n.n < length made = (let low = c.loop-n-test.true in let l = c.len-n-end.ensures.value in omega (arith, low, l)) in
    let d : OwnNode = record { kind = kinds.Replaced; class = 0; slot = 0 } in
    let slots_is : c.add_kept.new.slots.items ≡ slots_made made ++ kept = c.add_kept.ensures ∙ ap (λ ns. ns ++ kept) c.slots_of-slots.ensures.slots in
    release_so c.args.actor.now.me.0 made c.args.fresh kept c.loop-n.n few d c.loop-n.actor.me.0 let_go rest (get_or c.deref.result.now c.loop-n.n d)
    (ap (λ xs. get_or xs c.loop-n.n d) c.deref.ensures.0) c.left_out_of.new.actor.me.0 (ap (λ (x : _). x.0) c.left_out_of.ensures.same)
    c.in-Some.count c.len.result c.len-in-loop-n.result c.len.ensures.value (c.len-in-loop-n.ensures.value ∙ ap length slots_is) (c.in-Some.ensures {u = tt}).left_out
    (take c.in-Some.count c.deref-in-loop-n.result.now) (ap (take c.in-Some.count) (c.deref-in-loop-n.ensures.0 ∙ slots_is)) c.requires.may

pub loop-n-preserved : goal.loop-n-preserved
loop-n-preserved c =
    let (t, sound, same, hangs, let_go, rest, most) = c.loop-n.invariant in
    let made = c.args.made.now.items in
    let kept = slots_kept c.args.kept.now in
    let few : c.loop-n.n < length made = (let low = c.loop-n-test.true in let l = c.len-n-end.ensures.value in omega (arith, low, l)) in
    let d : OwnNode = record { kind = kinds.Replaced; class = 0; slot = 0 } in
    let slots_is : c.add_kept.new.slots.items ≡ slots_made made ++ kept = c.add_kept.ensures ∙ ap (λ ns. ns ++ kept) c.slots_of-slots.ensures.slots in
    let after = c.release_names.ensures in
    let both = released_so c.args.actor.now.me.0 made c.args.fresh kept c.loop-n.n few d c.loop-n.actor.me.0 let_go rest (get_or c.deref.result.now c.loop-n.n d)
    (ap (λ xs. get_or xs c.loop-n.n d) c.deref.ensures.0) c.left_out_of.new.actor.me.0 (ap (λ (x : _). x.0) c.left_out_of.ensures.same)
    c.in-Some.count c.len.result c.len-in-loop-n.result c.len.ensures.value (c.len-in-loop-n.ensures.value ∙ ap length slots_is) (c.in-Some.ensures {u = tt}).left_out
    (take c.in-Some.count c.deref-in-loop-n.result.now) (ap (take c.in-Some.count) (c.deref-in-loop-n.ensures.0 ∙ slots_is)) c.requires.may c.release_names.new.actor.me.0 after.released in (
      after.table ∙ c.left_out_of.ensures.table ∙ t,
      after.sound,
      after.same ∙ ap (λ (s : Stocked). record s { limbo = c.release_names.new.stock.limbo }) same,
      after.limbo,
      both.0,
      both.1,
      omega (arith, few),
    )
