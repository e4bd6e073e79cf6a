-- The small machines, where one actor alone takes steps, for any weight that pays for what others left undecided.
use Rattle.std.proofs.Common.{ℕ, ◌+◌, ◌≤◌, arith}
use Rattle.proof_obstruction_free.specs.Alone.{Lone}
use Rattle.proof_obstruction_free.specs.Machines.{Machines}
use Rattle.proof_obstruction_free.specs.Weighing.{Weighing}
use Rattle.proof_obstruction_free.proofs.Weights.Flat.{flat_weighing}
use Rattle.proof_obstruction_free.proofs.Read.First.{reads_first}
use Rattle.proof_obstruction_free.proofs.Read.On.{reads_on}
use Rattle.proof_obstruction_free.proofs.Root.Ends.{roots_plain, roots_first, roots_on, climb_roots_plain, climb_roots_on}
use Rattle.proof_obstruction_free.proofs.Step.Step.{stepping}
use Rattle.proof_obstruction_free.proofs.Swap.Ends.{pays_of}
use Rattle.proof_obstruction_free.proofs.Swap.Comes.{swaps_current, swaps_first, swaps_on}
use Rattle.proof_obstruction_free.proofs.Weights.Offers.{flat}

-- a READ takes so many steps where what it decides weighs so much
pub machines : (a : Lone) (weight : ℕ → ℕ) (pending failed c : ℕ) → Weighing a weight pending failed → 2 ≤ c → 3 ≤ c + failed → 7 ≤ c + pending → Machines a weight c
machines a weight pending failed c weighing two three seven =
    let steps = stepping a in
    let first = reads_first a weight pending failed c weighing two three seven in
    let on = reads_on a weight pending failed c weighing two three seven in
    let pays = pays_of a weight pending failed weighing in
    record {
      reads_first = first;
      reads_on = on;
      swaps_current = swaps_current a steps weight pending failed pays c;
      swaps_first = swaps_first a steps weight pending failed pays c;
      swaps_on = swaps_on a steps weight pending failed pays c on;
      roots_plain = roots_plain a steps weight weighing.quiet c;
      roots_first = roots_first a steps weight weighing.quiet c first on;
      roots_on = roots_on a steps weight weighing.quiet c first on;
      climb_roots_plain = climb_roots_plain a steps weight weighing.quiet c;
      climb_roots_on = climb_roots_on a steps weight weighing.quiet c first on;
    }

-- with an offer alone weighing anything, a READ takes seven
pub flat_machines : (a : Lone) → Machines a (flat a) 7
flat_machines a = machines a (flat a) 0 0 7 (flat_weighing a) (omega arith) (omega arith) (omega arith)
