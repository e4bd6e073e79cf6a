use Rattle.std.proofs.Common.{◌∷◌, [], sym, subst}
use Rattle.machine_model.specs.Beneath.slot_arena.specs.declared.nodes.Node.TheVariants.{Tomb}
use Rattle.machine_model.specs.declared.actions.Action.TheVariants as act
use Rattle.trie_words.specs.declared.headers.Previous.TheVariants as previous
use Rattle.lock_free.specs.declared.reclaiming.Kind.TheVariants as kinds
use Rattle.lock_free.specs.Becoming.{HasRested}
use Rattle.lock_free.specs.Counts.{without_one}
use Rattle.lock_free.specs.Passing.{IsPlaced}
use Rattle.lock_free.specs.Stocks.{IsStock}
use Rattle.lock_free.proofs.Resting.{rested_self}
use Rattle.lock_free.proofs.SharedMakes.{built_new, one_back, one_done, one_holds, one_owes, raised_at, raised_over, raised_stock, stock_kept}
use Rattle.lock_free.proofs.replacing.make_shared_tomb.Goals as goal

pub raise-requires-clause-at_hand : goal.raise-requires-clause-at_hand
raise-requires-clause-at_hand c = (c.requires.holds.one, c.requires.holds.hand)

-- a reference couldn't be counted
pub returns-then-not-raise-clause-stock : goal.returns-then-not-raise-clause-stock
returns-then-not-raise-clause-stock c = let h = c.requires.holds in subst (IsStock c.args.stock.now) (sym (c.if-not-raise.ensures.raised h.one h.hand)) c.requires.stock

pub returns-then-not-raise-clause-built : goal.returns-then-not-raise-clause-built
returns-then-not-raise-clause-built c node p =
    let h = c.requires.holds in
    subst (HasRested c.args.actor.now.me.0) (sym (c.if-not-raise.ensures.raised h.one h.hand)) (rested_self c.args.actor.now.me.0)

-- the tomb is made
pub make_tomb-requires-clause-stock : goal.make_tomb-requires-clause-stock
make_tomb-requires-clause-stock c =
    let h = c.requires.holds in
    raised_stock c.args.stock.now c.args.actor.now.me.0 (h.one ∷ c.args.actor.now.me.0.owed) c.raise.new.actor.me.0 (c.if-not-raise.ensures.raised h.one h.hand) c.requires.stock

pub make_tomb-requires-clause-making : goal.make_tomb-requires-clause-making
make_tomb-requires-clause-making c =
    let h = c.requires.holds in
    let v = c.args.actor.now.me.0 in
    let w = c.raise.new.actor.me.0 in
    let raised = c.if-not-raise.ensures.raised h.one h.hand in
    let (r, at, placed) = c.requires.making in
    (r, raised_at v (h.one ∷ []) w (one_done v kinds.Single 0 c.args.single.slot h w raised) (act.Make (Tomb r)) at, subst (λ u. IsPlaced u r c.args.single.slot) (sym raised) placed)

pub make_tomb-requires-clause-raised : goal.make_tomb-requires-clause-raised
make_tomb-requires-clause-raised c =
    let h = c.requires.holds in one_holds c.args.actor.now.me.0 kinds.Single 0 c.args.single.slot h c.raise.new.actor.me.0 (c.if-not-raise.ensures.raised h.one h.hand)

pub make_tomb-requires-clause-over : goal.make_tomb-requires-clause-over
make_tomb-requires-clause-over c =
    let h = c.requires.holds in
    let v = c.args.actor.now.me.0 in
    let w = c.raise.new.actor.me.0 in
    raised_over v (h.one ∷ []) w (one_done v kinds.Single 0 c.args.single.slot h w (c.if-not-raise.ensures.raised h.one h.hand)) (previous.Pending c.args.main) c.requires.over

pub returns-in-Some-clause-built : goal.returns-in-Some-clause-built
returns-in-Some-clause-built c =
    let h = c.requires.holds in
    let v = c.args.actor.now.me.0 in
    let w = c.raise.new.actor.me.0 in
    built_new v (h.one ∷ []) w (one_done v kinds.Single 0 c.args.single.slot h w (c.if-not-raise.ensures.raised h.one h.hand)) c.in-Some.slot c.make_tomb.new.actor.me.0
    (c.in-Some.ensures {u = tt}).made

-- no slot was had
pub release-requires-clause-sizes : goal.release-requires-clause-sizes
release-requires-clause-sizes c = c.make_tomb.ensures.stock.sizes

pub release-requires-clause-limbo : goal.release-requires-clause-limbo
release-requires-clause-limbo c = c.make_tomb.ensures.stock.limbo

pub release-requires-clause-owed : goal.release-requires-clause-owed
release-requires-clause-owed c =
    let h = c.requires.holds in
    let v = c.args.actor.now.me.0 in
    let w = c.raise.new.actor.me.0 in
    let raised = c.if-not-raise.ensures.raised h.one h.hand in
    let (r, at, placed) = c.requires.making in
    let same = (c.in-None.ensures {u = tt}).made (Tomb r) (raised_at v (h.one ∷ []) w (one_done v kinds.Single 0 c.args.single.slot h w raised) (act.Make (Tomb r)) at) in
    (h.one, one_owes v kinds.Single 0 c.args.single.slot h w raised c.make_tomb.new.actor.me.0 same)

pub returns-in-None-clause-stock : goal.returns-in-None-clause-stock
returns-in-None-clause-stock c =
    let h = c.requires.holds in
    let v = c.args.actor.now.me.0 in
    let w = c.raise.new.actor.me.0 in
    let x = c.make_tomb.new.actor.me.0 in
    let raised = c.if-not-raise.ensures.raised h.one h.hand in
    let (r, at, placed) = c.requires.making in
    let same = (c.in-None.ensures {u = tt}).made (Tomb r) (raised_at v (h.one ∷ []) w (one_done v kinds.Single 0 c.args.single.slot h w raised) (act.Make (Tomb r)) at) in
    stock_kept c.make_tomb.new.stock c.release.new.stock x (without_one h.one x.owed) c.release.new.actor.me.0 c.make_tomb.ensures.stock
    (c.release.ensures.released h.one (one_owes v kinds.Single 0 c.args.single.slot h w raised x same)) c.release.ensures.same c.release.ensures.limbo

pub returns-in-None-clause-built : goal.returns-in-None-clause-built
returns-in-None-clause-built c node p =
    let h = c.requires.holds in
    let v = c.args.actor.now.me.0 in
    let w = c.raise.new.actor.me.0 in
    let x = c.make_tomb.new.actor.me.0 in
    let raised = c.if-not-raise.ensures.raised h.one h.hand in
    let (r, at, placed) = c.requires.making in
    let same = (c.in-None.ensures {u = tt}).made (Tomb r) (raised_at v (h.one ∷ []) w (one_done v kinds.Single 0 c.args.single.slot h w raised) (act.Make (Tomb r)) at) in
    one_back v kinds.Single 0 c.args.single.slot h w raised x same c.release.new.actor.me.0 (c.release.ensures.released h.one (one_owes v kinds.Single 0 c.args.single.slot h w raised x same))
