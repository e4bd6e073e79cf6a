-- What the line of each running operation knows, at each time of a run.
use Rattle.std.specs.Prelude.{◌≡◌, ℕ, ◌≤◌, Option, Some}
use Rattle.proof_shape.specs.Vocabulary.{Ref, Line, Purpose, Operation, Bounds, State, operation_of, current, above, node_under, Record, Known, KnowsLine, KnowsRepair, counting_main}
use Rattle.proof_shape.specs.Beneath.machine_model.specs.declared.lines.Line.TheVariants as line
use Rattle.proof_shape.specs.Beneath.machine_model.specs.declared.lines.Purpose.TheVariants as purpose
use Rattle.proof_shape.specs.Lines.Given.{GaveBelow, Was}
use Rattle.proof_shape.specs.Lines.Climbing.{KnowsClimbing}

-- the nodes of a run, where indirections have these main nodes
abbrev pub known_with : Bounds → (ℕ → State) → ℕ → (Ref → Ref) → Known
known_with limits states last first = record { kind = limits.hash; node = node_under states last; first = first }

-- the main node with which an indirection is made: that at time 0, as it looks from there
abbrev pub first_main : (ℕ → State) → ℕ → Ref → Ref
first_main states last i = counting_main states last 0 i

-- of each running operation at each time
abbrev pub OfEachAt : (ℕ → State) → ℕ → (ℕ → ℕ → Operation → Type 0) → Type 0
OfEachAt states last P =
    (t : ℕ) → t ≤ last → (actor : ℕ) (operation : Operation) → operation_of (states t) actor ≡ Some operation → P t actor operation

-- of lines that go down to a key, build a change of it, and swap it in
abbrev pub KnowsAt : Bounds → (ℕ → State) → ℕ → Type 0
KnowsAt limits states last =
    OfEachAt states last (λ t actor operation. KnowsLine (known_with limits states last (first_main states last)) operation.call operation.line)

-- of lines that renew and clean
abbrev pub RepairsAt : (ℕ → State) → (ℕ → Record) → ℕ → Type 0
RepairsAt states records last =
    OfEachAt states last (λ t actor operation. (start : ℕ) → operation.generation ≡ Some start →
    KnowsRepair (node_under states last) (first_main states last) (GaveBelow states records last t actor operation.id start) start operation.line)

-- of lines that climb
abbrev pub ClimbsAt : Bounds → (ℕ → State) → ℕ → Type 0
ClimbsAt limits states last =
    OfEachAt states last (λ t actor operation. KnowsClimbing (known_with limits states last (first_main states last)) (Was states last t) operation.call operation.line)

-- ---- where an operation swaps

abbrev pub SwapsAt : Purpose → Ref → Type 0
SwapsAt (purpose.Update path former) i = i ≡ current path
SwapsAt (purpose.Renew path) i = i ≡ current path
SwapsAt purpose.Clean i = Unit {0}
SwapsAt (purpose.Climb c) i = i ≡ current (above c.path)

-- a SWAP is at the last indirection of the path for which it is, a climb's one above it; and from the first indirection on the
-- operation has a generation
abbrev pub IsPlaced : Option ℕ → Line → Type 0
IsPlaced generation (line.Key l) = (start : ℕ) × (generation ≡ Some start)
IsPlaced generation (line.Build l) = (start : ℕ) × (generation ≡ Some start)
IsPlaced generation (line.Swap why s) = ((start : ℕ) × (generation ≡ Some start)) × SwapsAt why s.indirection
IsPlaced generation (line.Renew l) = (start : ℕ) × (generation ≡ Some start)
IsPlaced generation (line.Clean l) = (start : ℕ) × (generation ≡ Some start)
IsPlaced generation (line.Climb l) = (start : ℕ) × (generation ≡ Some start)
IsPlaced generation l = Unit {0}

abbrev pub PlacesAt : (ℕ → State) → ℕ → Type 0
PlacesAt states last = OfEachAt states last (λ t actor operation. IsPlaced operation.generation operation.line)
