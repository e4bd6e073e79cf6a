use Rattle.std.proofs.Common.{◌+◌, ◌∷◌, ◌∙◌, map, drop, ap, sym}
use Rattle.std.specs.Prelude.{None}
use Rattle.std.proofs.lemmas.List.{drop-map, drop_more}
use Rattle.ctrie_c.specs.Comparing.{difference_told}
use Rattle.ctrie_c.proofs.Filled.{next_filled}
use Rattle.ctrie_c.proofs.comparing.write.Goals as goal

pub loop-count-preserved : goal.loop-count-preserved
loop-count-preserved c =
    let i = c.loop-count.count in let found = c.args.found.now in
    next_filled (map difference_told found) c.args.differences.now c.loop-count.differences i c.told.result (map difference_told (drop (i + 1) found)) c.loop-count.invariant
    (drop-map difference_told i found ∙ ap (map difference_told) (drop_more found i (record { key = 0; before = None; after = None }) c.loop-count-test.true)
    ∙ sym (ap (λ d. d ∷ map difference_told (drop (i + 1) found)) c.told.ensures))
    c.if-count-differences.true
