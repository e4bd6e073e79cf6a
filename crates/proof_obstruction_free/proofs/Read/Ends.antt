-- READ, where one actor alone takes steps, in steps alone: an offer in the root word costs two.
use Rattle.std.proofs.Common.{arith}
use Rattle.proof_obstruction_free.specs.Alone.{Lone, word}
use Rattle.proof_obstruction_free.specs.ReadEnds.{ReadEnds, ReadGoesToItsEnd}
use Rattle.proof_obstruction_free.proofs.Weights.Offers.{flat, weighs_at_most}
use Rattle.proof_obstruction_free.proofs.Weights.Flat.{flat_weighing, flat_reads_first}
use Rattle.proof_obstruction_free.proofs.Read.UnderWay.{soon}

module _ (a : Lone) where
  pub read_ends : ReadEnds a
  read_ends wrap gives i h t g s room =
      let light = weighs_at_most (word a t) in
      let (u, from, soon, found) = flat_reads_first a wrap gives i h t g s (omega (arith, light, room)) in
      (u, from, omega (arith, soon, light), found.main, found.stands, found.has)

  pub read_goes_to_its_end : ReadGoesToItsEnd a
  read_goes_to_its_end wrap gives i h t g l s room =
      let light = weighs_at_most (word a t) in
      let (u, from, soon, found) = soon a (flat a) 0 0 (flat_weighing a) wrap gives i h 7 g (omega arith) (omega arith) (omega arith) t 12 l s (omega (arith, light)) room in
      (u, from, omega (arith, soon), found.main, found.stands)
