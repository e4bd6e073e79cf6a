use Rattle.std.proofs.Common.{◌∷◌, sym, subst}
use Rattle.lock_free.specs.declared.reclaiming.Kind.TheVariants as kinds
use Rattle.lock_free.specs.Becoming.{HasRested}
use Rattle.lock_free.specs.Counts.{without_one}
use Rattle.lock_free.specs.Stocks.{IsStock}
use Rattle.lock_free.proofs.Resting.{rested_self}
use Rattle.lock_free.proofs.SharedMakes.{one_holds, raised_stock, stock_kept}
use Rattle.lock_free.proofs.SharedRoots.{root_back, root_built, root_owes, root_raised, unmade}
use Rattle.lock_free.proofs.copy_roots.make_shared_root.Goals as goal

pub raise-requires-clause-at_hand : goal.raise-requires-clause-at_hand
raise-requires-clause-at_hand c = (c.requires.holds.one, c.requires.holds.hand)

-- a reference couldn't be counted
pub returns-then-not-raise-clause-stock : goal.returns-then-not-raise-clause-stock
returns-then-not-raise-clause-stock c = let h = c.requires.holds in subst (IsStock c.args.stock.now) (sym (c.if-not-raise.ensures.raised h.one h.hand)) c.requires.stock

pub returns-then-not-raise-clause-made : goal.returns-then-not-raise-clause-made
returns-then-not-raise-clause-made c l main at is =
    let h = c.requires.holds in
    subst (HasRested c.args.actor.now.me.0) (sym (c.if-not-raise.ensures.raised h.one h.hand)) (rested_self c.args.actor.now.me.0)

-- the root is made
pub make_new_root-requires-clause-stock : goal.make_new_root-requires-clause-stock
make_new_root-requires-clause-stock c =
    let h = c.requires.holds in
    raised_stock c.args.stock.now c.args.actor.now.me.0 (h.one ∷ c.args.actor.now.me.0.owed) c.raise.new.actor.me.0 (c.if-not-raise.ensures.raised h.one h.hand) c.requires.stock

pub make_new_root-requires-clause-making : goal.make_new_root-requires-clause-making
make_new_root-requires-clause-making c =
    let h = c.requires.holds in
    root_raised c.args.actor.now.me.0 kinds.Main c.args.class c.args.main.slot h c.raise.new.actor.me.0 (c.if-not-raise.ensures.raised h.one h.hand) c.args.main c.requires.making

pub make_new_root-requires-clause-raised : goal.make_new_root-requires-clause-raised
make_new_root-requires-clause-raised c =
    let h = c.requires.holds in one_holds c.args.actor.now.me.0 kinds.Main c.args.class c.args.main.slot h c.raise.new.actor.me.0 (c.if-not-raise.ensures.raised h.one h.hand)

pub returns-in-Some-clause-made : goal.returns-in-Some-clause-made
returns-in-Some-clause-made c =
    let h = c.requires.holds in
    root_built c.args.actor.now.me.0 kinds.Main c.args.class c.args.main.slot h c.raise.new.actor.me.0 (c.if-not-raise.ensures.raised h.one h.hand) c.in-Some.slot c.make_new_root.new.actor.me.0
    (c.in-Some.ensures {u = tt}).made

-- no slot or no generation was had
pub release-requires-clause-sizes : goal.release-requires-clause-sizes
release-requires-clause-sizes c = c.make_new_root.ensures.stock.sizes

pub release-requires-clause-limbo : goal.release-requires-clause-limbo
release-requires-clause-limbo c = c.make_new_root.ensures.stock.limbo

pub release-requires-clause-owed : goal.release-requires-clause-owed
release-requires-clause-owed c =
    let h = c.requires.holds in
    let v = c.args.actor.now.me.0 in
    let w = c.raise.new.actor.me.0 in
    let x = c.make_new_root.new.actor.me.0 in
    let raised = c.if-not-raise.ensures.raised h.one h.hand in
    let same = unmade v kinds.Main c.args.class c.args.main.slot h w raised c.args.main c.requires.making x (c.in-None.ensures {u = tt}).made in
    (h.one, root_owes v kinds.Main c.args.class c.args.main.slot h w raised x same)

pub returns-in-None-clause-stock : goal.returns-in-None-clause-stock
returns-in-None-clause-stock c =
    let h = c.requires.holds in
    let v = c.args.actor.now.me.0 in
    let w = c.raise.new.actor.me.0 in
    let x = c.make_new_root.new.actor.me.0 in
    let raised = c.if-not-raise.ensures.raised h.one h.hand in
    let same = unmade v kinds.Main c.args.class c.args.main.slot h w raised c.args.main c.requires.making x (c.in-None.ensures {u = tt}).made in
    stock_kept c.make_new_root.new.stock c.release.new.stock x (without_one h.one x.owed) c.release.new.actor.me.0 c.make_new_root.ensures.stock
    (c.release.ensures.released h.one (root_owes v kinds.Main c.args.class c.args.main.slot h w raised x same)) c.release.ensures.same c.release.ensures.limbo

pub returns-in-None-clause-made : goal.returns-in-None-clause-made
returns-in-None-clause-made c l main at is =
    let h = c.requires.holds in
    let v = c.args.actor.now.me.0 in
    let w = c.raise.new.actor.me.0 in
    let x = c.make_new_root.new.actor.me.0 in
    let raised = c.if-not-raise.ensures.raised h.one h.hand in
    let same = unmade v kinds.Main c.args.class c.args.main.slot h w raised c.args.main c.requires.making x (c.in-None.ensures {u = tt}).made in
    root_back v kinds.Main c.args.class c.args.main.slot h w raised x same c.release.new.actor.me.0
    (c.release.ensures.released h.one (root_owes v kinds.Main c.args.class c.args.main.slot h w raised x same))
