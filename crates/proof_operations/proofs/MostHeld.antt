-- The most references that a private list has, by the line on which its operation stands.
use Rattle.std.proofs.Common.{◌≡◌, ℕ, zero, suc, ◌+◌, ◌-◌, ◌*◌, ◌<◌, ◌≤◌, ◌==◌, length, subst, arith}
use Rattle.std.proofs.lemmas.Bool.{cond_both}
use Rattle.proof_operations.specs.Vocabulary.{index_in, list_depth, parting, BuildLine, CopyLine, Line, SwapLine, RenewLine, pair_depth, Operation, line_action, depth_of, action_at, Ref, State}
use Rattle.proof_operations.specs.Beneath.machine_model.specs.declared.building.BuildLine.TheVariants as build
use Rattle.proof_operations.specs.Beneath.machine_model.specs.declared.copying.CopyLine.TheVariants as copy
use Rattle.proof_operations.specs.Beneath.machine_model.specs.declared.lines.Line.TheVariants as line
use Rattle.proof_operations.specs.Beneath.machine_model.specs.declared.reading.SwapLine.TheVariants as swap
use Rattle.proof_operations.specs.Beneath.machine_model.specs.declared.repairs.RenewLine.TheVariants as renew
use Rattle.proof_operations.specs.Laws.{MakesNode}
use Rattle.proof_operations.specs.Beneath.proof_contents.proofs.Shapes.Nodes.{list_depth-le}

-- ---- the most, by the line

-- of a line of a change; each link and rung is one level higher than the one before, up to the level below the path's last indirection
abbrev pub BuildHolds : ℕ → BuildLine → Type 0
BuildHolds n (build.Single path main site former) = n ≤ 0
BuildHolds n (build.Pair path main position single depth) = (n ≤ 1) × (depth_of path + 1 ≤ depth) × (depth ≤ depth_of path + 13)
BuildHolds n (build.Link path main position below depth) = (depth_of path + 1 ≤ depth) × (n + 2 * depth ≤ 2 * depth_of path + 28)
BuildHolds n (build.Rung path main position below depth) = (depth_of path + 1 ≤ depth) × (n + 2 * depth ≤ 2 * depth_of path + 27)
BuildHolds n (build.Main path main c former) = n ≤ 27

abbrev pub SwapHolds : ℕ → SwapLine → Type 0
SwapHolds n swap.Publish = n ≤ 33
SwapHolds n l = n ≤ 0

-- a link that was made is among the entries that are done
abbrev pub RenewHolds : ℕ → RenewLine → Type 0
RenewHolds n (renew.Branch path main done) = n ≤ 32
RenewHolds n (renew.Entry path main done) = (n ≤ length done) × (length done ≤ 31)
RenewHolds n (renew.Read path main done r) = (n ≤ length done) × (length done ≤ 31)
RenewHolds n (renew.Link path main done child) = (n ≤ length done) × (length done ≤ 31)

abbrev pub CopyHolds : ℕ → CopyLine → Type 0
CopyHolds n (copy.Second r main successor) = n ≤ 1
CopyHolds n (copy.Cleared r main branch) = n ≤ 1
CopyHolds n (copy.Offer offer) = n ≤ 2
CopyHolds n l = n ≤ 0

abbrev pub LineHolds : ℕ → Line → Type 0
LineHolds n (line.Build l) = BuildHolds n l
LineHolds n (line.Swap why s) = SwapHolds n s.line
LineHolds n (line.Renew l) = RenewHolds n l
LineHolds n (line.Copy l) = CopyHolds n l
LineHolds n line.Impossible = n ≤ 33
LineHolds n l = n ≤ 0

build_most : (n : ℕ) (l : BuildLine) → BuildHolds n l → n ≤ 33
build_most n (build.Single path main site former) h = omega (arith, h)
build_most n (build.Pair path main position single depth) h = omega (arith, h.0)
build_most n (build.Link path main position below depth) h = omega (arith, h.0, h.1)
build_most n (build.Rung path main position below depth) h = omega (arith, h.0, h.1)
build_most n (build.Main path main c former) h = omega (arith, h)

swap_most : (n : ℕ) (l : SwapLine) → SwapHolds n l → n ≤ 33
swap_most n swap.Publish h = h
swap_most n (swap.Deciding l) h = omega (arith, h)
swap_most n swap.Check h = omega (arith, h)

renew_most : (n : ℕ) (l : RenewLine) → RenewHolds n l → n ≤ 33
renew_most n (renew.Branch path main done) h = omega (arith, h)
renew_most n (renew.Entry path main done) h = omega (arith, h.0, h.1)
renew_most n (renew.Read path main done r) h = omega (arith, h.0, h.1)
renew_most n (renew.Link path main done child) h = omega (arith, h.0, h.1)

copy_most : (n : ℕ) (l : CopyLine) → CopyHolds n l → n ≤ 33
copy_most n (copy.Second r main successor) h = omega (arith, h)
copy_most n (copy.Cleared r main branch) h = omega (arith, h)
copy_most n (copy.Offer offer) h = omega (arith, h)
copy_most n (copy.Read r l) h = omega (arith, h)
copy_most n (copy.Successor r main) h = omega (arith, h)
copy_most n (copy.Empty r main) h = omega (arith, h)
copy_most n (copy.Complete c) h = omega (arith, h)

pub most : (n : ℕ) (l : Line) → LineHolds n l → n ≤ 33
most n (line.Build l) h = build_most n l h
most n (line.Swap why s) h = swap_most n s.line h
most n (line.Renew l) h = renew_most n l h
most n (line.Copy l) h = copy_most n l h
most n line.Impossible h = h
most n (line.Root l) h = omega (arith, h)
most n (line.Key l) h = omega (arith, h)
most n (line.Clean l) h = omega (arith, h)
most n (line.Climb l) h = omega (arith, h)
most n (line.Walk l) h = omega (arith, h)
most n (line.End answer) h = omega (arith, h)

-- ---- where a node is made one more can be held

module _ (state : State) (operation : Operation) where
  build_room : (n : ℕ) (l : BuildLine) → BuildHolds n l → n < 33
  build_room n (build.Single path main site former) h = omega (arith, h)
  build_room n (build.Pair path main position single depth) h = omega (arith, h.0)
  build_room n (build.Link path main position below depth) h = omega (arith, h.0, h.1)
  build_room n (build.Rung path main position below depth) h = omega (arith, h.0, h.1)
  build_room n (build.Main path main c former) h = omega (arith, h)

  swap_room : (n : ℕ) (i replaced fresh : Ref) (l : SwapLine) → SwapHolds n l → MakesNode (action_at i replaced fresh l) → n < 33
  swap_room n i replaced fresh swap.Publish h makes = absurd makes
  swap_room n i replaced fresh (swap.Deciding l) h makes = omega (arith, h)
  swap_room n i replaced fresh swap.Check h makes = omega (arith, h)

  renew_room : (n : ℕ) (l : RenewLine) → RenewHolds n l → n < 33
  renew_room n (renew.Branch path main done) h = omega (arith, h)
  renew_room n (renew.Entry path main done) h = omega (arith, h.0, h.1)
  renew_room n (renew.Read path main done r) h = omega (arith, h.0, h.1)
  renew_room n (renew.Link path main done child) h = omega (arith, h.0, h.1)

  copy_room : (n : ℕ) (l : CopyLine) → CopyHolds n l → n < 33
  copy_room n (copy.Second r main successor) h = omega (arith, h)
  copy_room n (copy.Cleared r main branch) h = omega (arith, h)
  copy_room n (copy.Offer offer) h = omega (arith, h)
  copy_room n (copy.Read r l) h = omega (arith, h)
  copy_room n (copy.Successor r main) h = omega (arith, h)
  copy_room n (copy.Empty r main) h = omega (arith, h)
  copy_room n (copy.Complete c) h = omega (arith, h)

  pub room : (n : ℕ) (l : Line) → LineHolds n l → MakesNode (line_action state operation l) → n < 33
  room n (line.Build l) h makes = build_room n l h
  room n (line.Swap why s) h makes = swap_room n s.indirection s.replaced s.fresh s.line h makes
  room n (line.Renew l) h makes = renew_room n l h
  room n (line.Copy l) h makes = copy_room n l h
  room n line.Impossible h makes = absurd makes
  room n (line.Root l) h makes = omega (arith, h)
  room n (line.Key l) h makes = omega (arith, h)
  room n (line.Clean l) h makes = omega (arith, h)
  room n (line.Climb l) h makes = omega (arith, h)
  room n (line.Walk l) h makes = omega (arith, h)
  room n (line.End answer) h makes = omega (arith, h)

-- where none is held
pub none_held : (n : ℕ) (l : Line) → n ≤ 0 → LineHolds 0 l → LineHolds n l
none_held n l few h = subst (λ k. LineHolds k l) (let same : 0 ≡ n = omega (arith, few) in same) h

-- ---- depths

parting_within : (left a b depth : ℕ) → (depth ≤ parting left a b depth) × (parting left a b depth ≤ depth + left)
parting_within zero a b depth = (omega arith, omega arith)
parting_within (suc left) a b depth =
    let more = parting_within left a b (depth + 1) in
    cond_both (index_in a depth == index_in b depth) _ _ (λ n. (depth ≤ n) × (n ≤ depth + suc left)) (λ e. (omega (arith, more.0), omega (arith, more.1))) (λ e. (omega arith, omega arith))

pub pair_within : (state : State) (a b depth : ℕ) → (depth + 1 ≤ pair_depth state a b depth) × (pair_depth state a b depth ≤ depth + 13)
pair_within state a b depth =
    let within = parting_within (list_depth state.limits.hash - (depth + 1)) a b (depth + 1) in
    (within.0, omega (arith, within.1, list_depth-le state.limits.hash))
