-- What an operation's line knows of the tomb that it climbs from.
use Rattle.std.specs.Prelude.{◌≡◌, ℕ, Bool, slice_index_or, slice_set}
use Rattle.arrayvec.specs.ArrayVec.{ArrayVec}
use Rattle.proof_shape.specs.Vocabulary.{Call, Ref, Indirection, Tomb, no_ref, contracted, Climb, ClimbLine, Line, key_of, current, above, depth_of, Known, IsFlagged}
use Rattle.proof_shape.specs.Beneath.machine_model.specs.declared.repairs.ClimbLine.TheVariants as climb
use Rattle.proof_shape.specs.Beneath.machine_model.specs.declared.lines.Line.TheVariants as line
use Rattle.proof_shape.specs.Beneath.machine_model.specs.declared.lines.Purpose.TheVariants as purpose

-- Was says that a main node was once that of an indirection.

-- a tomb of this single was once the main node of the indirection
pub record WasTombed (known : Known) (Was : Ref → Ref → Type 0) (i single : Ref) : Type 0 where
  pub generation : ℕ
  pub word : Ref
  pub link : known.node i ≡ Indirection generation word
  pub tomb : Ref
  pub was : Was i tomb
  pub is : known.node tomb ≡ Tomb single

-- the parent's branch has the tombed indirection at the place of the call's key
pub record HoldsIt (known : Known) (call : Call) (c : Climb) (main : Ref) : Type 0 where
  pub bitmap : ℕ
  pub entries : ArrayVec Ref
  pub position : ℕ
  pub branch : IsFlagged known (depth_of (above c.path)) (key_of call) main position bitmap entries
  pub holds : slice_index_or entries.items position no_ref ≡ current c.path

-- in the fresh main node of the parent the tomb's single stands there
pub record IsClimbed (known : Known) (Was : Ref → Ref → Type 0) (call : Call) (c : Climb) (replaced fresh : Ref) : Type 0 where
  pub tombed : WasTombed known Was (current c.path) c.single
  pub parent : HoldsIt known call c replaced
  pub may_entomb : Bool
  pub made : known.node fresh ≡ contracted may_entomb parent.bitmap (slice_set parent.entries.items parent.position c.single)

abbrev pub KnowsClimb : Known → (Ref → Ref → Type 0) → Call → ClimbLine → Type 0
KnowsClimb known Was call (climb.Read c read) = WasTombed known Was (current c.path) c.single
KnowsClimb known Was call (climb.Main c main) = WasTombed known Was (current c.path) c.single
KnowsClimb known Was call (climb.Contracted c main) = WasTombed known Was (current c.path) c.single × HoldsIt known call c main
KnowsClimb known Was call (climb.Root c root) = WasTombed known Was (current c.path) c.single

-- of lines of CLIMB and its swap
abbrev pub KnowsClimbing : Known → (Ref → Ref → Type 0) → Call → Line → Type 0
KnowsClimbing known Was call (line.Climb l) = KnowsClimb known Was call l
KnowsClimbing known Was call (line.Swap (purpose.Climb c) s) = IsClimbed known Was call c s.replaced s.fresh
KnowsClimbing known Was call l = Unit {0}
