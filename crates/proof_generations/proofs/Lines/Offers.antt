-- Which offers a line is to settle.
use Rattle.std.proofs.Common.{◌≡◌, ◌⊎◌, Option, Some, None, arith}
use Rattle.std.proofs.lemmas.Option.{none-some}
use Rattle.proof_generations.specs.Vocabulary.{Operation, Descriptor, Complete, RootLine, Read, ReadLine, ClimbLine, CopyLine, Line, State, line_action, read_of}
use Rattle.proof_generations.specs.Beneath.machine_model.specs.declared.roots.RootLine.TheVariants as root
use Rattle.proof_generations.specs.Beneath.machine_model.specs.declared.reading.ReadLine.TheVariants as read
use Rattle.proof_generations.specs.Beneath.machine_model.specs.declared.repairs.ClimbLine.TheVariants as climb
use Rattle.proof_generations.specs.Beneath.machine_model.specs.declared.copying.CopyLine.TheVariants as copy
use Rattle.proof_generations.specs.Beneath.machine_model.specs.declared.lines.Line.TheVariants as line
use Rattle.proof_generations.specs.Laws.Roots.{settles}

-- ---- what a line is to settle

-- the offer that a READ takes back
abbrev pub abort_in : ReadLine → Option Descriptor
abort_in (read.Abort main previous offer) = Some offer
abort_in l = None

abbrev pub abort_of : Option Read → Option Descriptor
abort_of None = None
abort_of (Some r) = abort_in r.line

-- the COMPLETE in which a line is
abbrev pub completing_root : RootLine → Option Complete
completing_root root.Read = None
completing_root (root.Completing c) = Some c

abbrev pub completing_climb : ClimbLine → Option Complete
completing_climb (climb.Root c l) = completing_root l
completing_climb l = None

abbrev pub completing_copy : CopyLine → Option Complete
completing_copy (copy.Complete c) = Some c
completing_copy l = None

abbrev pub completing_of : Line → Option Complete
completing_of (line.Root l) = completing_root l
completing_of (line.Climb l) = completing_climb l
completing_of (line.Copy l) = completing_copy l
completing_of l = None

-- the line has the offer to settle
abbrev pub HoldsOffer : Line → Descriptor → Type 0
HoldsOffer l offer = (abort_of (read_of l) ≡ Some offer) ⊎ ((c : Complete) × (completing_of l ≡ Some c) × (c.offer ≡ offer))

-- ---- what a step settles its line holds

pub settles_held : (state : State) (operation : Operation) (l : Line) (offer : Descriptor) → settles (line_action state operation l) ≡ Some offer → HoldsOffer l offer
settles_held state operation (line.Root l) offer h = grind arith
settles_held state operation (line.Key l) offer h = grind arith
settles_held state operation (line.Build l) offer h = grind arith
settles_held state operation (line.Swap why s) offer h = grind arith
settles_held state operation (line.Renew l) offer h = grind arith
settles_held state operation (line.Clean l) offer h = grind arith
settles_held state operation (line.Climb l) offer h = grind arith
settles_held state operation (line.Copy l) offer h = grind arith
settles_held state operation (line.Walk l) offer h = grind arith
settles_held state operation (line.End answer) offer h = absurd (none-some offer h)
settles_held state operation line.Impossible offer h = absurd (none-some offer h)
