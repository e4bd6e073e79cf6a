use Rattle.std.proofs.Common.{[], refl, sym, ap, subst, ◌∙◌}
use Rattle.lock_free.specs.Limbos.{IsLimbo}
use Rattle.lock_free.specs.Stocks.{settled_pool, Stocked}
use Rattle.lock_free.proofs.SwapsBegun.{left_stock, swapped_owns, swapped_so}
use Rattle.lock_free.proofs.SwapsMissed.{missed_may}
use Rattle.lock_free.specs.Swaps.{HasSwapDone, HoldsSwapped, is_done, swap_done}
use Rattle.machine_model.specs.Beneath.slot_arena.specs.Heaps.{node_at}
use Rattle.lock_free.specs.Loading.{now}
use Rattle.lock_free.proofs.Followings.{become_both}
use Rattle.lock_free.proofs.FreesOn.{let_go_becomes, let_go_stock}
use Rattle.lock_free.proofs.swapping.swap_made_within.Goals as goal

pub settle_stock-requires-clause-missed : goal.settle_stock-requires-clause-missed
settle_stock-requires-clause-missed c is =
    let v = c.args.actor.now.me.0 in
    let w = c.swap_within.new.actor.me.0 in
    let holds = (c.in-Ok.ensures {u = tt}) in
    missed_may c.args.words.now.table_id.words v w c.requires.sound c.swap_within.ensures.sound c.args.indirection c.args.link c.args.class c.args.fresh c.requires.swapping
    (subst (λ x. HasSwapDone v x w) is holds.done) (subst (λ x. HoldsSwapped v x w) is holds.holds) c.args.kept.now c.requires.kept
    c.args.stock.now c.requires.stock c.swap_within.new.stock.made (ap (λ (s : Stocked). s.made) c.swap_within.ensures.same)

pub settle_stock-requires-clause-sizes : goal.settle_stock-requires-clause-sizes
settle_stock-requires-clause-sizes c =
    let w = c.swap_within.new.actor.me.0 in
    let stock = c.args.stock.now in
    ap (λ (s : Stocked). s.sizes) c.swap_within.ensures.same
    ∙ (swapped_owns c.args.words.now.table_id.words c.args.actor.now.me.0 w c.requires.sound c.swap_within.ensures.sound c.args.indirection c.args.link c.args.class c.args.fresh
    c.requires.swapping c.in-Ok.swapped (c.in-Ok.ensures {u = tt}).done stock
    (record stock { made = []; pool = settled_pool c.in-Ok.swapped stock.made stock.pool; limbo = c.swap_within.new.stock.limbo }) c.requires.stock refl refl refl c.swap_within.ensures.limbo).sizes

pub returns-in-Ok-clause-stock : goal.returns-in-Ok-clause-stock
returns-in-Ok-clause-stock c =
    let w = c.swap_within.new.actor.me.0 in
    let settled = c.settle_stock.new.stock in
    let mid = record settled { limbo = c.swap_within.new.stock.limbo } in
    let_go_stock w c.settle_stock.new.actor.me.0 mid settled
    (swapped_owns c.args.words.now.table_id.words c.args.actor.now.me.0 w c.requires.sound c.swap_within.ensures.sound c.args.indirection c.args.link c.args.class c.args.fresh
    c.requires.swapping c.in-Ok.swapped (c.in-Ok.ensures {u = tt}).done c.args.stock.now mid c.requires.stock
    (c.settle_stock.ensures.sizes ∙ ap (λ (s : Stocked). s.sizes) c.swap_within.ensures.same)
    (c.settle_stock.ensures.pool ∙ ap (λ (s : Stocked). settled_pool c.in-Ok.swapped s.made s.pool) c.swap_within.ensures.same)
    c.settle_stock.ensures.made c.swap_within.ensures.limbo)
    c.settle_stock.ensures.let_go refl c.settle_stock.ensures.limbo

pub returns-in-Ok-clause-done : goal.returns-in-Ok-clause-done
returns-in-Ok-clause-done c why i a f s =
    let v = c.args.actor.now.me.0 in
    let w = c.swap_within.new.actor.me.0 in
    let u = c.settle_stock.new.actor.me.0 in
    become_both v w u (swap_done why (node_at (now v).heap f) (is_done c.in-Ok.swapped)) (λ o. o)
    (swapped_so c.args.words.now.table_id.words v w c.requires.sound c.swap_within.ensures.sound c.args.indirection c.args.link c.args.class c.args.fresh
    c.requires.swapping c.in-Ok.swapped (c.in-Ok.ensures {u = tt}).done why i a f s)
    (let_go_becomes w u c.settle_stock.ensures.let_go)

pub returns-in-Err-clause-stock : goal.returns-in-Err-clause-stock
returns-in-Err-clause-stock c =
    left_stock c.args.actor.now.me.0 c.swap_within.new.actor.me.0 c.args.indirection c.args.link c.args.class c.args.fresh c.requires.swapping c.in-Err.swapping (c.in-Err.ensures {u = tt}).left
    c.args.stock.now
    c.hand_over.new.self c.requires.stock
    (c.hand_over.ensures.sizes ∙ ap (λ (s : Stocked). s.sizes) c.swap_within.ensures.same) (c.hand_over.ensures.pool ∙ ap (λ (s : Stocked). s.pool) c.swap_within.ensures.same)
    c.hand_over.ensures.made (subst (λ l. IsLimbo l c.swap_within.new.actor.me.0) (sym c.hand_over.ensures.limbo) c.swap_within.ensures.limbo)
