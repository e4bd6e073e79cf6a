-- To which lines each program leads, before anything is asked of what they know.
use Rattle.std.proofs.Common.{◌≡◌, ℕ, ◌-◌, Bool, true, false, List, arith}
use Rattle.proof_shape.specs.Vocabulary.{Call, Ref, Node, node_at, entry_at, BuildLine, CopyLine, KeyLine, Line, Purpose, Operation, Read, Swap, CleanLine, ClimbLine, RenewLine, RootLine, WalkLine}
use Rattle.proof_shape.specs.Vocabulary.{State, build_after, clean_after, climb_after, copy_after, key_after, key_after_main, key_after_entry, after_listed, after_sibling, first_line, line_after}
use Rattle.proof_shape.specs.Vocabulary.{renew_after, walk_after}
use Rattle.proof_shape.specs.Beneath.machine_model.specs.declared.building.BuildLine.TheVariants as build
use Rattle.proof_shape.specs.Beneath.machine_model.specs.declared.building.Change.TheVariants as change
use Rattle.proof_shape.specs.Beneath.machine_model.specs.declared.finding.KeyLine.TheVariants as key
use Rattle.proof_shape.specs.Beneath.machine_model.specs.declared.lines.Line.TheVariants as line
use Rattle.proof_shape.specs.Beneath.machine_model.specs.declared.lines.Purpose.TheVariants as purpose
use Rattle.proof_shape.specs.Beneath.machine_model.specs.declared.repairs.CleanLine.TheVariants as clean

-- ---- kinds of lines

-- it doesn't climb from a tomb
abbrev pub is_grounded : Line → Bool
is_grounded (line.Climb l) = false
is_grounded (line.Swap (purpose.Climb c) s) = false
is_grounded l = true

-- neither one of a copy nor of a walk
abbrev pub is_down : Line → Bool
is_down (line.Copy l) = false
is_down (line.Walk l) = false
is_down l = true

abbrev pub is_copying : Line → Bool
is_copying (line.Copy l) = true
is_copying (line.Root l) = true
is_copying (line.End answer) = true
is_copying line.Impossible = true
is_copying l = false

abbrev pub is_walking : Line → Bool
is_walking (line.Walk l) = true
is_walking (line.End answer) = true
is_walking line.Impossible = true
is_walking l = false

-- it neither takes an entry out nor renews entries
abbrev pub keeps_entries : Line → Bool
keeps_entries (line.Build (build.Main path main (change.Remove position) former)) = false
keeps_entries (line.Renew l) = false
keeps_entries l = true

-- it holds nothing that its operation made
abbrev pub holds_nothing : Line → Bool
holds_nothing (line.Build (build.Single path main s former)) = true
holds_nothing (line.Build (build.Pair path main position s depth)) = true
holds_nothing (line.Build (build.Main path main (change.Remove position) former)) = true
holds_nothing (line.Build (build.Main path main (change.Entomb s) former)) = true
holds_nothing (line.Build l) = false
holds_nothing (line.Swap (purpose.Climb c) s) = true
holds_nothing (line.Swap why s) = false
holds_nothing (line.Renew l) = false
holds_nothing (line.Clean (clean.Read path r)) = true
holds_nothing (line.Clean (clean.Main path main)) = true
holds_nothing (line.Clean l) = false
holds_nothing l = true

-- ---- what they lead to

abbrev pub Grounded : Line → Type 0
Grounded l = is_grounded l ≡ true

abbrev pub Down : Line → Type 0
Down l = is_down l ≡ true

abbrev pub Keeps : Line → Type 0
Keeps l = keeps_entries l ≡ true

abbrev pub Bare : Line → Type 0
Bare l = holds_nothing l ≡ true

pub first_leads : (call : Call) → Grounded (first_line call) × Keeps (first_line call) × Bare (first_line call)
first_leads call = (grind arith, grind arith, grind arith)

pub root_leads : (state : State) (operation : Operation) (l : RootLine) →
    Grounded (line_after state operation (line.Root l)) × Keeps (line_after state operation (line.Root l)) × Bare (line_after state operation (line.Root l))
root_leads state operation l = (grind arith, grind arith, grind arith)

pub copy_leads : (state : State) (operation : Operation) (l : CopyLine) →
    Grounded (copy_after state operation l) × Keeps (copy_after state operation l) × Bare (copy_after state operation l) × (is_copying (copy_after state operation l) ≡ true)
copy_leads state operation l = (grind arith, grind arith, grind arith, grind arith)

pub walk_leads : (state : State) (operation : Operation) (l : WalkLine) →
    Grounded (walk_after state operation l) × Keeps (walk_after state operation l) × Bare (walk_after state operation l) × (is_walking (walk_after state operation l) ≡ true)
walk_leads state operation l = (grind arith, grind arith, grind arith, grind arith)

pub swap_leads : (state : State) (operation : Operation) (why : Purpose) (s : Swap) →
    Down (line_after state operation (line.Swap why s)) × Keeps (line_after state operation (line.Swap why s))
swap_leads state operation why s = (grind arith, grind arith)

pub build_leads : (state : State) (operation : Operation) (l : BuildLine) →
    Grounded (build_after state operation l) × Down (build_after state operation l) × Keeps (build_after state operation l)
build_leads state operation l = (grind arith, grind arith, grind arith)

pub renew_leads : (state : State) (operation : Operation) (l : RenewLine) → Grounded (renew_after state operation l) × Down (renew_after state operation l)
renew_leads state operation l = (grind arith, grind arith)

pub clean_leads : (state : State) (operation : Operation) (l : CleanLine) →
    Grounded (clean_after state operation l) × Down (clean_after state operation l) × Keeps (clean_after state operation l)
clean_leads state operation l = (grind arith, grind arith, grind arith)

pub climb_leads : (state : State) (operation : Operation) (l : ClimbLine) →
    Down (climb_after state operation l) × Keeps (climb_after state operation l) × Bare (climb_after state operation l)
climb_leads state operation l = (grind arith, grind arith, grind arith)

pub key_read_leads : (state : State) (operation : Operation) (path : List Ref) (r : Read) →
    Grounded (key_after state operation (key.Read path r)) × Down (key_after state operation (key.Read path r))
    × Keeps (key_after state operation (key.Read path r)) × Bare (key_after state operation (key.Read path r))
key_read_leads state operation path r = (grind arith, grind arith, grind arith, grind arith)

pub key_main_leads : (state : State) (operation : Operation) (path : List Ref) (main : Ref) (node : Node) →
    Grounded (key_after_main state operation path main node) × Down (key_after_main state operation path main node)
    × Keeps (key_after_main state operation path main node) × Bare (key_after_main state operation path main node)
key_main_leads state operation path main node = (grind arith, grind arith, grind arith, grind arith)

pub key_entry_leads : (state : State) (operation : Operation) (path : List Ref) (main : Ref) (position : ℕ) (node : Node) →
    Grounded (key_after_entry state operation path main position node) × Down (key_after_entry state operation path main position node)
key_entry_leads state operation path main position node = (grind arith, grind arith)

pub key_listed_leads : (state : State) (operation : Operation) (path : List Ref) (main : Ref) (position : ℕ) (node : Node) →
    Grounded (after_listed state operation path main position node) × Down (after_listed state operation path main position node)
key_listed_leads state operation path main position node = (grind arith, grind arith)

pub key_sibling_leads : (path : List Ref) (main : Ref) (position former : ℕ) (other : Ref) (node : Node) →
    Grounded (after_sibling path main position former other node) × Down (after_sibling path main position former other node) × Bare (after_sibling path main position former other node)
key_sibling_leads path main position former other node = (grind arith, grind arith, grind arith)

pub key_leads : (state : State) (operation : Operation) (l : KeyLine) → Grounded (key_after state operation l) × Down (key_after state operation l)
key_leads state operation (key.Read path r) = let n = key_read_leads state operation path r in (n.0, n.1)
key_leads state operation (key.Main path main) = let n = key_main_leads state operation path main (node_at state.heap main) in (n.0, n.1)
key_leads state operation (key.Entry path main position) = key_entry_leads state operation path main position (node_at state.heap (entry_at state.heap main position))
key_leads state operation (key.Listed path main position) = key_listed_leads state operation path main position (node_at state.heap (entry_at state.heap main position))
key_leads state operation (key.Sibling path main position former) =
    let n = key_sibling_leads path main position former (entry_at state.heap main (1 - position)) (node_at state.heap (entry_at state.heap main (1 - position))) in (n.0, n.1)
