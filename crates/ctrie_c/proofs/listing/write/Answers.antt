use Rattle.std.proofs.Common.{◌≡◌, ◌+◌, ◌<◌, ◌++◌, ◌∙◌, ℕ, [], ◌∷◌, length, take, drop, map, slice_index_or, refl, sym, ap, arith}
use Rattle.std.proofs.lemmas.List.{drop-map, drop_more, length-map, take_all}
use Rattle.std.proofs.lemmas.Grind.{take_at_read}
use Rattle.ctrie_c.specs.Listing.{behind, pair_of}
use Rattle.ctrie_c.proofs.Behind.{behind_more}
use Rattle.ctrie_c.proofs.Filled.{next_filled, none_filled, rows_filled}
use Rattle.ctrie_c.proofs.listing.write.Goals as goal

pub loop-count-init : goal.loop-count-init
loop-count-init c = (none_filled (map pair_of c.args.part.now) c.args.pairs.now, refl)

pub loop-count-preserved : goal.loop-count-preserved
loop-count-preserved c =
    let i = c.loop-count.count in let part = c.args.part.now in let pair : ℕ × ℕ = slice_index_or part i (0, 0) in let there : i < length part = c.loop-count-test.true in
    let read : take (i + 1) part ≡ take i part ++ pair ∷ [] = (take_at_read part i (0, 0) there).1 in (
      next_filled (map pair_of part) c.args.pairs.now c.loop-count.pairs i (pair_of pair) (map pair_of (drop (i + 1) part)) c.loop-count.invariant.0
          (drop-map pair_of i part ∙ ap (map pair_of) (drop_more part i (0, 0) there)) (omega (arith, there, c.requires, c.loop-count.auto.pairs)),
      sym (ap (behind c.args.cursor.now) read ∙ behind_more c.args.cursor.now (take i part) pair),
    )

pub returns : goal.returns
returns c =
    let i = c.loop-count.count in let part = c.args.part.now in let filled = c.loop-count.invariant.0 in let many = length-map part pair_of in (
      omega (arith, c.loop-count-test.false, filled.0, many),
      filled.1,
      rows_filled (map pair_of part) c.args.pairs.now c.loop-count.pairs i filled (omega (arith, many, c.loop-count-test.false)),
      c.loop-count.invariant.1 ∙ ap (behind c.args.cursor.now) (take_all i part c.loop-count-test.false),
    )
