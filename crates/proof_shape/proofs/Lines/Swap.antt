-- Where each line's swap is: at the end of the path for which it is.
use Rattle.std.proofs.Common.{◌≡◌, ℕ, ◌+◌, ◌-◌, ◌==◌, Bool, true, false, cond, List, Option, Some, None, refl, sym, arith}
use Rattle.std.proofs.lemmas.Bool.{true≢false}
use Rattle.proof_shape.specs.Vocabulary.{Ref, Node, node_at, entry_at, next_ref, BuildLine, Read, Climb, KeyLine, Line, Purpose, Operation, After, Gives, Swap, SwapLine, CleanLine, ClimbLine}
use Rattle.proof_shape.specs.Vocabulary.{RenewLine, RootLine, depth_of, State, on_line, key_after, key_after_main, key_after_entry, after_listed, after_sibling, build_if_made, renew_after}
use Rattle.proof_shape.specs.Vocabulary.{renew_after_branch, clean_after, climb_after, climb_after_main, climb_after_contracted, swapped, line_after}
use Rattle.proof_shape.specs.Beneath.machine_model.specs.declared.building.BuildLine.TheVariants as build
use Rattle.proof_shape.specs.Beneath.machine_model.specs.declared.building.Change.TheVariants as change
use Rattle.proof_shape.specs.Beneath.machine_model.specs.declared.building.Site.TheVariants as site
use Rattle.proof_shape.specs.Beneath.machine_model.specs.declared.finding.KeyLine.TheVariants as key
use Rattle.proof_shape.specs.Beneath.machine_model.specs.declared.lines.Line.TheVariants as line
use Rattle.proof_shape.specs.Beneath.machine_model.specs.declared.lines.Purpose.TheVariants as purpose
use Rattle.proof_shape.specs.Beneath.machine_model.specs.declared.reading.After.TheVariants.{Goes}
use Rattle.proof_shape.specs.Beneath.machine_model.specs.declared.repairs.ClimbLine.TheVariants as climb
use Rattle.proof_shape.specs.Beneath.machine_model.specs.declared.repairs.RenewLine.TheVariants as renew
use Rattle.proof_shape.specs.Beneath.machine_model.specs.Operations.{after_swap}
use Rattle.proof_shape.specs.Lines.Knowing.{SwapsAt}
use Rattle.proof_shape.proofs.Lines.Leads.{is_copying, is_walking, copy_leads, walk_leads}

-- ---- where it swaps

abbrev pub SwapPlace : Line → Type 0
SwapPlace (line.Swap why s) = SwapsAt why s.indirection
SwapPlace l = Unit {0}

abbrev pub is_swap : Line → Bool
is_swap (line.Swap why s) = true
is_swap l = false

pub no_place : (l : Line) → is_swap l ≡ false → SwapPlace l
no_place (line.Swap why s) e = absurd (true≢false e)
no_place (line.Root l) e = tt
no_place (line.Key l) e = tt
no_place (line.Build l) e = tt
no_place (line.Renew l) e = tt
no_place (line.Clean l) e = tt
no_place (line.Climb l) e = tt
no_place (line.Copy l) e = tt
no_place (line.Walk l) e = tt
no_place (line.End answer) e = tt
no_place line.Impossible e = tt

root_no_swap : (state : State) (operation : Operation) (l : RootLine) → is_swap (line_after state operation (line.Root l)) ≡ false
root_no_swap state operation l = grind arith

key_no_swap : (state : State) (operation : Operation) (l : KeyLine) → is_swap (key_after state operation l) ≡ false
key_no_swap state operation (key.Read path r) = key_read_no_swap state operation path r
  where
    key_read_no_swap : (state : State) (operation : Operation) (path : List Ref) (r : Read) → is_swap (key_after state operation (key.Read path r)) ≡ false
    key_read_no_swap state operation path r = grind arith
key_no_swap state operation (key.Main path main) = at_main state operation path main (node_at state.heap main)
  where
    at_main : (state : State) (operation : Operation) (path : List Ref) (main : Ref) (node : Node) → is_swap (key_after_main state operation path main node) ≡ false
    at_main state operation path main node = grind arith
key_no_swap state operation (key.Entry path main position) = at_entry state operation path main position (node_at state.heap (entry_at state.heap main position))
  where
    at_entry : (state : State) (operation : Operation) (path : List Ref) (main : Ref) (position : ℕ) (node : Node) → is_swap (key_after_entry state operation path main position node) ≡ false
    at_entry state operation path main position node = grind arith
key_no_swap state operation (key.Listed path main position) = at_listed state operation path main position (node_at state.heap (entry_at state.heap main position))
  where
    at_listed : (state : State) (operation : Operation) (path : List Ref) (main : Ref) (position : ℕ) (node : Node) → is_swap (after_listed state operation path main position node) ≡ false
    at_listed state operation path main position node = grind arith
key_no_swap state operation (key.Sibling path main position former) =
    at_sibling path main position former (entry_at state.heap main (1 - position)) (node_at state.heap (entry_at state.heap main (1 - position)))
  where
    at_sibling : (path : List Ref) (main : Ref) (position former : ℕ) (other : Ref) (node : Node) → is_swap (after_sibling path main position former other node) ≡ false
    at_sibling path main position former other node = grind arith

build_places : (state : State) (operation : Operation) (l : BuildLine) (o : Option Ref) → SwapPlace (build_if_made state operation l o)
build_places state operation l None = tt
build_places state operation (build.Single path main site.Absent former) (Some made) = tt
build_places state operation (build.Single path main (site.At position) former) (Some made) = tt
build_places state operation (build.Single path main (site.Beside position) former) (Some made) = tt
build_places state operation (build.Pair path main position single depth) (Some made) = tt
build_places state operation (build.Link path main position below depth) (Some made) = by_test (depth == depth_of path + 1)
  where
    by_test : (b : Bool) → SwapPlace (cond b (line.Build (build.Main path main (change.Update position made) None)) (line.Build (build.Rung path main position made (depth - 1))))
    by_test true = tt
    by_test false = tt
build_places state operation (build.Rung path main position below depth) (Some made) = tt
build_places state operation (build.Main path main c former) (Some made) = refl

swapped_no_swap : (operation : Operation) (node : Node) (why : Purpose) (b : Bool) → is_swap (swapped operation node why b) ≡ false
swapped_no_swap operation node why b = grind arith

after_swap_places : (state : State) (operation : Operation) (why : Purpose) (s : Swap) → SwapsAt why s.indirection → (out : After SwapLine Bool) →
    SwapPlace (after_swap state operation why s (on_line s out))
after_swap_places state operation why s at (Goes l) = at
after_swap_places state operation why s at (Gives done) = no_place _ (swapped_no_swap operation (node_at state.heap s.fresh) why done)

renew_places : (state : State) (operation : Operation) (l : RenewLine) → SwapPlace (renew_after state operation l)
renew_places state operation (renew.Branch path main done) = by_made (next_ref state.heap)
  where
    by_made : (o : Option Ref) → SwapPlace (renew_after_branch path main o)
    by_made None = tt
    by_made (Some made) = refl
renew_places state operation (renew.Entry path main done) = no_place _ (entry_no_swap state operation path main done)
  where
    entry_no_swap : (state : State) (operation : Operation) (path : List Ref) (main : Ref) (done : List Ref) → is_swap (renew_after state operation (renew.Entry path main done)) ≡ false
    entry_no_swap state operation path main done = grind arith
renew_places state operation (renew.Read path main done r) = no_place _ (read_no_swap state operation path main done r)
  where
    read_no_swap : (state : State) (operation : Operation) (path : List Ref) (main : Ref) (done : List Ref) (r : Read) → is_swap (renew_after state operation (renew.Read path main done r)) ≡ false
    read_no_swap state operation path main done r = grind arith
renew_places state operation (renew.Link path main done child) = no_place _ (link_no_swap state operation path main done child)
  where
    link_no_swap : (state : State) (operation : Operation) (path : List Ref) (main : Ref) (done : List Ref) (child : Ref) →
        is_swap (renew_after state operation (renew.Link path main done child)) ≡ false
    link_no_swap state operation path main done child = grind arith

-- CLEAN swaps wherever it is
abbrev PlaceIfClean : Line → Type 0
PlaceIfClean (line.Swap purpose.Clean s) = Unit {0}
PlaceIfClean (line.Swap why s) = ⊥
PlaceIfClean l = Unit {0}

clean_is_clean : (state : State) (operation : Operation) (l : CleanLine) → PlaceIfClean (clean_after state operation l)
clean_is_clean state operation l = grind arith

copying_no_swap : (l : Line) → is_copying l ≡ true → is_swap l ≡ false
copying_no_swap (line.Swap why s) e = absurd (true≢false (sym e))
copying_no_swap l e = refl

walking_no_swap : (l : Line) → is_walking l ≡ true → is_swap l ≡ false
walking_no_swap (line.Swap why s) e = absurd (true≢false (sym e))
walking_no_swap l e = refl

clean_places : (l : Line) → PlaceIfClean l → SwapPlace l
clean_places (line.Swap purpose.Clean s) e = tt
clean_places (line.Swap (purpose.Update path former) s) e = absurd e
clean_places (line.Swap (purpose.Renew path) s) e = absurd e
clean_places (line.Swap (purpose.Climb c) s) e = absurd e
clean_places (line.Root l) e = tt
clean_places (line.Key l) e = tt
clean_places (line.Build l) e = tt
clean_places (line.Renew l) e = tt
clean_places (line.Clean l) e = tt
clean_places (line.Climb l) e = tt
clean_places (line.Copy l) e = tt
clean_places (line.Walk l) e = tt
clean_places (line.End answer) e = tt
clean_places line.Impossible e = tt

climb_places : (state : State) (operation : Operation) (l : ClimbLine) → SwapPlace (climb_after state operation l)
climb_places state operation (climb.Contracted c main) = by_made (next_ref state.heap)
  where
    by_made : (o : Option Ref) → SwapPlace (climb_after_contracted operation c main o)
    by_made None = tt
    by_made (Some made) = refl
climb_places state operation (climb.Read c r) = no_place _ (read_no_swap state operation c r)
  where
    read_no_swap : (state : State) (operation : Operation) (c : Climb) (r : Read) → is_swap (climb_after state operation (climb.Read c r)) ≡ false
    read_no_swap state operation c r = grind arith
climb_places state operation (climb.Main c main) = no_place _ (main_no_swap state operation c main (node_at state.heap main))
  where
    main_no_swap : (state : State) (operation : Operation) (c : Climb) (main : Ref) (node : Node) → is_swap (climb_after_main state operation c main node) ≡ false
    main_no_swap state operation c main node = grind arith
climb_places state operation (climb.Root c l) = no_place _ (root_no_swap' state operation c l)
  where
    root_no_swap' : (state : State) (operation : Operation) (c : Climb) (l : RootLine) → is_swap (climb_after state operation (climb.Root c l)) ≡ false
    root_no_swap' state operation c l = grind arith

pub line_places : (state : State) (operation : Operation) (l : Line) → SwapPlace l → SwapPlace (line_after state operation l)
line_places state operation (line.Root l) s = no_place _ (root_no_swap state operation l)
line_places state operation (line.Key l) s = no_place _ (key_no_swap state operation l)
line_places state operation (line.Build l) s = build_places state operation l (next_ref state.heap)
line_places state operation (line.Swap why x) s = after_swap_places state operation why x s _
line_places state operation (line.Renew l) s = renew_places state operation l
line_places state operation (line.Clean l) s = clean_places _ (clean_is_clean state operation l)
line_places state operation (line.Climb l) s = climb_places state operation l
line_places state operation (line.Copy l) s = no_place _ (copying_no_swap _ (copy_leads state operation l).3)
line_places state operation (line.Walk l) s = no_place _ (walking_no_swap _ (walk_leads state operation l).3)
line_places state operation (line.End answer) s = tt
line_places state operation line.Impossible s = tt
