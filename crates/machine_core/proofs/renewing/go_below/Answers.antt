use Rattle.std.proofs.Common.{ap, arith, sym, subst, ◌∙◌}
use Rattle.machine_core.specs.Vocabulary.{entry_at, node_at, CanSwap}
use Rattle.machine_core.specs.Renewing.{AreOverLive, IsBranch}
use Rattle.machine_core.specs.Seen.{seen}
use Rattle.machine_core.proofs.Carried.{drafted_first}
use Rattle.machine_core.proofs.Downward.{branch_here, can_swap_here, over, over_live_here}
use Rattle.machine_core.proofs.WayDown.{on_kept, on_renewed, place_is}
use Rattle.machine_core.proofs.renewing.go_below.Goals as goal

pub returns-then-not-is_old : goal.returns-then-not-is_old
returns-then-not-is_old c start actor call place node own less on =
    let parts = c.args.parts.now in
    let at = c.position_of-position.result in
    on_kept start parts actor call c.args.root place node c.args.depth c.args.indirection on less c.generation_at-generation.result at
    c.entry_at-entry.result c.generation_at-generation.ensures
    (place_is (seen parts) call c.args.depth c.args.indirection c.main_at-main.result c.args.key c.key_hash.result c.flag_of-flag.result c.bitmap_at.result at
    c.main_at-main.ensures own c.key_hash.ensures c.flag_of-flag.ensures.flag c.bitmap_at.ensures c.position_of-position.ensures)
    (c.entry_at-entry.ensures ∙ ap (λ m. entry_at parts.heap.heap m at) c.main_at-main.ensures) (sym c.is_old.ensures ∙ c.if-not-is_old.true)

pub renew-steps-requires-clause-can : goal.renew-steps-requires-clause-can
renew-steps-requires-clause-can c =
    let (start, actor, call, place, node, own, less, on) = c.requires.on in
    subst (λ m. CanSwap c.args.parts.now.heap.heap c.args.indirection m 33) (sym c.main_at-main.ensures)
    (can_swap_here start (seen c.args.parts.now) actor call c.args.root place node c.args.depth c.args.indirection on.is less)

pub renew-steps-requires-clause-branch : goal.renew-steps-requires-clause-branch
renew-steps-requires-clause-branch c =
    let (start, actor, call, place, node, own, less, on) = c.requires.on in
    subst (IsBranch c.args.parts.now.heap.heap) (sym c.main_at-main.ensures)
    (branch_here start (seen c.args.parts.now) actor call c.args.root place node c.args.depth c.args.indirection on.is less)

pub renew-steps-requires-clause-over : goal.renew-steps-requires-clause-over
renew-steps-requires-clause-over c =
    let (start, actor, call, place, node, own, less, on) = c.requires.on in
    subst (AreOverLive c.args.parts.now.heap.heap) (sym c.main_at-main.ensures)
    (over_live_here start (seen c.args.parts.now) actor call c.args.root place node c.args.depth c.args.indirection on.is less)

pub overflow_add-parts : goal.overflow_add-parts
overflow_add-parts c =
    let (start, actor, call, place, node, own, less, on) = c.requires.on in
    omega (arith, on.is.can.steps, on.is.can.life, c.renew-steps.ensures.few)

pub returns : goal.returns
returns c start actor call place node own less on =
    let parts = c.args.parts.now in
    let at = c.position_of-position.result in
    let o = over start (seen parts) actor call c.args.root place node c.args.depth c.args.indirection on.is less in
    on_renewed start parts actor call c.args.root place node c.args.depth c.args.indirection on less c.generation_at-generation.result at
    c.entry_at-entry.result c.generation_at-generation.ensures
    (place_is (seen parts) call c.args.depth c.args.indirection c.main_at-main.result c.args.key c.key_hash.result c.flag_of-flag.result c.bitmap_at.result at
    c.main_at-main.ensures own c.key_hash.ensures c.flag_of-flag.ensures.flag c.bitmap_at.ensures c.position_of-position.ensures)
    (c.entry_at-entry.ensures ∙ ap (λ m. entry_at parts.heap.heap m at) c.main_at-main.ensures) (sym c.is_old.ensures ∙ c.if-not-is_old.false) c.renew-steps.new.heap c.renew-steps.result
    c.main_at-fresh.result c.entry_at.result
    (c.renew-steps.ensures.renews (seen parts) c.args.root o.1.bitmap o.1.entries (drafted_first parts on.kept on.settled) (sym c.generation_at-generation.ensures)
    (ap (node_at parts.heap.heap) c.main_at-main.ensures ∙ o.1.branch))
    c.renew-steps.ensures.records c.main_at-fresh.ensures c.entry_at.ensures
