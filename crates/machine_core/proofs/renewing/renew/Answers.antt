use Rattle.std.proofs.Common.{arith, ◌+◌, ◌*◌, length, [], ap, refl, sym, ◌∙◌}
use Rattle.std.proofs.lemmas.List.{take_all}
use Rattle.machine_core.specs.Vocabulary.{bitmap_of, entries_of, times, Branch}
use Rattle.machine_core.proofs.Paired.{can_begin, can_swap_still}
use Rattle.machine_core.proofs.Renewed.{all_renewed, can_one, few_made, first_renewing, next_renewing}
use Rattle.machine_core.proofs.renewing.renew.Goals as goal

pub loop-i-init : goal.loop-i-init
loop-i-init c = first_renewing c.args.heap.now c.args.main c.args.generation c.new-made.result.items c.new-entries.result.items c.new-made.ensures c.new-entries.ensures

pub renew_entry-fresh-requires-clause-can : goal.renew_entry-fresh-requires-clause-can
renew_entry-fresh-requires-clause-can c =
    can_one c.args.heap.now c.args.indirection c.args.main c.args.generation c.requires.can c.loop-i.i c.loop-i.heap c.loop-i.made.items c.loop-i.entries.items c.loop-i.invariant
    (omega (arith, c.loop-i-test.true, c.entries_at-i-end.ensures.few))

pub loop-i-preserved : goal.loop-i-preserved
loop-i-preserved c =
    let (bitmap, all, branch) = c.requires.branch in
    next_renewing c.args.heap.now c.args.indirection c.args.main c.args.generation c.requires.can c.loop-i.i c.loop-i.heap c.loop-i.made.items c.loop-i.entries.items c.loop-i.invariant
    c.entry_at-entry.result c.renew_entry-fresh.result c.renew_entry-fresh.new.heap c.renew_entry-fresh.new.made.items c.push.new.self.items bitmap all branch
    (omega (arith, c.loop-i-test.true, ap length c.entries_at-i-end.ensures.entries, ap (λ n. length (entries_of n)) branch)) c.entry_at-entry.ensures c.push.ensures.items
    c.renew_entry-fresh.ensures.makes c.renew_entry-fresh.ensures.lives c.renew_entry-fresh.ensures.draft

pub swap_in-requires-clause-can : goal.swap_in-requires-clause-can
swap_in-requires-clause-can c =
    can_swap_still c.args.heap.now c.loop-i.heap [] c.loop-i.made.items c.args.indirection c.args.main 33 c.loop-i.i 1 refl (omega arith)
    (omega (arith, c.loop-i.auto.i-end, c.entries_at-i-end.ensures.few)) c.requires.can c.loop-i.invariant.makes

pub swap_in-requires-clause-held : goal.swap_in-requires-clause-held
swap_in-requires-clause-held c r =
    let can = c.loop-i.invariant.makes.can 0
    (can_begin c.args.heap.now c.args.indirection c.args.main [] 33 (c.loop-i.i + 0) refl (omega arith) (omega (arith, c.loop-i.auto.i-end, c.entries_at-i-end.ensures.few)) c.requires.can) in
    omega (arith, ap (times r) c.as_slice.ensures.value, can.held r)

pub returns-clause-renews : goal.returns-clause-renews
returns-clause-renews c state root bitmap entries is g branch =
    let long = ap (λ n. length (entries_of n)) branch in
    all_renewed c.args.heap.now c.args.indirection c.args.main c.args.generation c.requires.can c.loop-i.i c.loop-i.heap c.loop-i.made.items c.loop-i.entries.items c.loop-i.invariant
    state root bitmap c.bitmap_at-bitmap.result entries (Branch c.bitmap_at-bitmap.result c.loop-i.entries) (c.len.result + 3 * c.len-2.result + 10) c.swap_in.new.heap is g branch
    (omega (arith, c.loop-i-test.false, ap length c.entries_at-i-end.ensures.entries, long)) (c.bitmap_at-bitmap.ensures ∙ ap bitmap_of branch)
    (sym (ap (λ es. Branch c.bitmap_at-bitmap.result (record { items = es }))
    (take_all 32 c.loop-i.entries.items (omega (arith, c.loop-i.invariant.many, c.loop-i.auto.i-end, c.entries_at-i-end.ensures.few)))))
    (omega (arith, c.len.ensures.value, c.len-2.ensures.value))
    (omega (arith, c.loop-i.auto.i-end, ap length c.entries_at-i-end.ensures.entries, long))
    (λ draft so private. c.swap_in.ensures.drafts state draft so (private ∙ sym c.as_slice.ensures.value))

pub returns-clause-few : goal.returns-clause-few
returns-clause-few c =
    omega (
      arith,
      c.len.ensures.value,
      c.len-2.ensures.value,
      c.loop-i.invariant.many,
      c.loop-i.auto.i-end,
      c.entries_at-i-end.ensures.few,
      few_made c.args.heap.now c.args.indirection c.args.main c.args.generation c.requires.can c.loop-i.i c.loop-i.heap c.loop-i.made.items c.loop-i.entries.items c.loop-i.invariant
          (omega (arith, c.loop-i.auto.i-end, c.entries_at-i-end.ensures.few)),
    )
