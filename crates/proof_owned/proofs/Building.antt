-- The lines that hold a main node which an operation made, and is to make an indirection over: BUILD's, and a clear's.
use Rattle.std.proofs.Common.{◌≡◌, ℕ, List, Option, Some, None, refl, sym, ap, subst}
use Rattle.proof_owned.specs.Beneath.slot_arena.specs.declared.refs.Ref.{Ref}
use Rattle.proof_owned.specs.Beneath.machine_model.specs.declared.building.BuildLine.TheVariants as build
use Rattle.proof_owned.specs.Beneath.machine_model.specs.declared.copying.CopyLine.TheVariants as copy
use Rattle.proof_owned.specs.Beneath.machine_model.specs.declared.finding.KeyLine.TheVariants as key
use Rattle.proof_owned.specs.Beneath.machine_model.specs.declared.lines.Line.{Line}
use Rattle.proof_owned.specs.Beneath.machine_model.specs.declared.lines.Line.TheVariants as line
use Rattle.proof_owned.specs.Beneath.machine_model.specs.declared.operations.Operation.{Operation}
use Rattle.proof_owned.specs.Beneath.machine_model.specs.declared.reading.SwapLine.{SwapLine}
use Rattle.proof_owned.specs.Beneath.machine_model.specs.declared.reading.SwapLine.TheVariants as swap
use Rattle.proof_owned.specs.Beneath.machine_model.specs.declared.repairs.CleanLine.TheVariants as clean
use Rattle.proof_owned.specs.Beneath.machine_model.specs.declared.repairs.ClimbLine.TheVariants as climb
use Rattle.proof_owned.specs.Beneath.machine_model.specs.declared.repairs.RenewLine.TheVariants as renew
use Rattle.proof_owned.specs.Beneath.machine_model.specs.declared.roots.CompleteLine.{CompleteLine}
use Rattle.proof_owned.specs.Beneath.machine_model.specs.declared.roots.CompleteLine.TheVariants as complete
use Rattle.proof_owned.specs.Beneath.machine_model.specs.declared.roots.Descriptor.{Descriptor}
use Rattle.proof_owned.specs.Beneath.machine_model.specs.declared.roots.RootLine.TheVariants as root
use Rattle.proof_owned.specs.Beneath.machine_model.specs.declared.walking.WalkLine.TheVariants as walk
use Rattle.proof_owned.specs.Beneath.proof_commits.specs.Protocol.{Stage, Builds}
use Rattle.proof_owned.specs.Beneath.proof_commits.specs.Stages.{stage_of, stage_of_actor, stage_of_complete, stage_of_swap}

abbrev Holds : Stage → Ref → Type 0
Holds (Builds f) m = f ≡ m
Holds s m = ⊥

pub data BuildsAt (l : Line) (m : Ref) : Type 0 where
  at_link : (path : List Ref) (main : Ref) (position depth : ℕ) → l ≡ line.Build (build.Link path main position m depth) → BuildsAt l m
  at_clear : (r main : Ref) → l ≡ line.Copy (copy.Cleared r main m) → BuildsAt l m

complete_holds : (offer : Descriptor) (l : CompleteLine) (m : Ref) → Holds (stage_of_complete offer l) m → ⊥
complete_holds offer (complete.Reading l) m e = e
complete_holds offer (complete.Swap main) m e = e

swap_holds : (i a f : Ref) (l : SwapLine) (m : Ref) → Holds (stage_of_swap i a f l) m → ⊥
swap_holds i a f swap.Publish m e = e
swap_holds i a f (swap.Deciding l) m e = e
swap_holds i a f swap.Check m e = e

by_line : (l : Line) (m : Ref) → Holds (stage_of l) m → BuildsAt l m
by_line (line.Build (build.Link path main position below depth)) m e = at_link path main position depth (ap (λ x. line.Build (build.Link path main position x depth)) e)
by_line (line.Copy (copy.Cleared r main branch)) m e = at_clear r main (ap (λ x. line.Copy (copy.Cleared r main x)) e)
by_line (line.Copy (copy.Complete c)) m e = absurd (complete_holds c.offer c.line m e)
by_line (line.Root (root.Completing c)) m e = absurd (complete_holds c.offer c.line m e)
by_line (line.Climb (climb.Root c (root.Completing d))) m e = absurd (complete_holds d.offer d.line m e)
by_line (line.Swap why s) m e = absurd (swap_holds s.indirection s.replaced s.fresh s.line m e)
by_line (line.Key (key.Read path r)) m e = absurd e
by_line (line.Renew (renew.Read path main done r)) m e = absurd e
by_line (line.Clean (clean.Read path r)) m e = absurd e
by_line (line.Walk (walk.Read r todo pairs)) m e = absurd e
by_line l m e = absurd e

builds_at : (l : Line) (m : Ref) → stage_of l ≡ Builds m → BuildsAt l m
builds_at l m e = by_line l m (subst (λ s. Holds s m) (sym e) refl)

pub record IsBuilding (x : Option Operation) (m : Ref) : Type 0 where
  pub operation : Operation
  pub is : x ≡ Some operation
  pub at : BuildsAt operation.line m

pub runs_building : (x : Option Operation) (m : Ref) → stage_of_actor x ≡ Builds m → IsBuilding x m
runs_building (Some operation) m e = record { operation = operation; is = refl; at = builds_at operation.line m e }
runs_building None m e = absurd (subst (λ s. Holds s m) (sym e) refl)
