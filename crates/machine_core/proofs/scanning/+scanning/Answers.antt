use Rattle.std.proofs.Common.{◌≡◌, ◌+◌, ◌-◌, ◌++◌, true, length, Some, arith, sym, ap, ap₂, subst, ◌∙◌}
use Rattle.std.specs.List.{flat_map}
use Rattle.machine_core.specs.Vocabulary.{hash_of, position_of, bitmap_of, entries_of, entry_at, no_ref, node_at, viewed, flag_of, has_flag, pairs_below, by_key, next_of}
use Rattle.machine_core.specs.Scanning.{IsMainOnWay, IsOnWay}
use Rattle.machine_core.proofs.Scans.{flagged_on_way, listed_next}
use Rattle.machine_core.proofs.scanning.+scanning.Goals as goal

pub scan_branch-scan-requires : goal.scan_branch-scan-requires
scan_branch-scan-requires t c =
    let kind = c.args.parts.now.limits.hash in
    let heap = c.args.parts.now.heap.heap in
    let last = c.in-Some.last in
    let node = node_at heap c.args.main in
    let flag : c.flag_of-flag.result ≡ flag_of (hash_of kind last) c.args.depth = c.flag_of-flag.ensures.flag ∙ ap (λ h. flag_of h c.args.depth) c.key_hash.ensures in
    let has : has_flag (bitmap_of node) (flag_of (hash_of kind last) c.args.depth) ≡ true =
    sym (ap₂ has_flag c.bitmap_at-bitmap.ensures flag) ∙ sym c.has_flag.ensures ∙ c.if-not-has_flag.false in
    let entry = c.entry_at-entry.ensures ∙ ap (entry_at heap c.args.main) (c.position_of-position.ensures ∙ ap₂ position_of flag c.bitmap_at-bitmap.ensures) in (
      omega arith,
      (
        c.requires.room,
        subst (IsOnWay kind heap c.args.levels (c.args.depth + 1) (Some last)) (sym entry)
            (flagged_on_way kind heap c.args.levels c.args.depth last node no_ref c.requires.branch has
            (subst (λ after. IsMainOnWay kind heap c.args.levels c.args.depth after node) c.in-Some.is c.requires.placed)),
      ),
    )

pub scan_main-returns-in_ok-extend_from_slice-in-Some-List : goal.scan_main-returns-in_ok-extend_from_slice-in-Some-List
scan_main-returns-in_ok-extend_from_slice-in-Some-List t c =
    let kind = c.args.parts.now.limits.hash in
    let heap = c.args.parts.now.heap.heap in
    let node = node_at heap c.args.main in
    let pairs = by_key (flat_map (pairs_below c.args.levels heap) (entries_of node)) in
    let own = c.args.pairs.now.ok.0 in
    let long = c.len.ensures in
    let same : c.len.result ≡ length c.args.pairs.now.items = omega (arith, own, long) in
    c.in_ok-extend_from_slice-in-Some-List.ensures.items ∙ ap (λ xs. c.args.pairs.now.items ++ xs) c.as_slice.ensures.value
    ∙ listed_next kind heap c.args.levels c.args.depth c.args.room c.in-Some-List.field-0-0.now c.args.after node c.args.pairs.now.items c.in_ok-listed-in-Some-List.listed.items
    (c.in-Some-List.ensures ∙ ap viewed c.in-Some-List.field-0-is) c.requires.placed
    (c.in_ok-listed-in-Some-List.ensures ∙ ap (λ n. next_of c.args.after (c.args.room - n) pairs) same)
