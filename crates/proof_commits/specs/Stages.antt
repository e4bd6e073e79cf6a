-- What an operation on a line is about with main words, and what the line remembers.
use Rattle.std.specs.Prelude.{Option, Some, None}
use Rattle.proof_commits.specs.Vocabulary.{Ref, Operation, SwapLine, Descriptor, CompleteLine, RootLine, KeyLine, BuildLine, RenewLine, CleanLine, ClimbLine, CopyLine, WalkLine, Line}
use Rattle.proof_commits.specs.Beneath.machine_model.specs.declared.reading.SwapLine.TheVariants as swap
use Rattle.proof_commits.specs.Beneath.machine_model.specs.declared.roots.CompleteLine.TheVariants as complete
use Rattle.proof_commits.specs.Beneath.machine_model.specs.declared.roots.RootLine.TheVariants as root
use Rattle.proof_commits.specs.Beneath.machine_model.specs.declared.finding.KeyLine.TheVariants as key
use Rattle.proof_commits.specs.Beneath.machine_model.specs.declared.building.BuildLine.TheVariants as build
use Rattle.proof_commits.specs.Beneath.machine_model.specs.declared.repairs.RenewLine.TheVariants as renew
use Rattle.proof_commits.specs.Beneath.machine_model.specs.declared.repairs.CleanLine.TheVariants as clean
use Rattle.proof_commits.specs.Beneath.machine_model.specs.declared.repairs.ClimbLine.TheVariants as climb
use Rattle.proof_commits.specs.Beneath.machine_model.specs.declared.copying.CopyLine.TheVariants as copy
use Rattle.proof_commits.specs.Beneath.machine_model.specs.declared.walking.WalkLine.TheVariants as walk
use Rattle.proof_commits.specs.Beneath.machine_model.specs.declared.lines.Line.TheVariants as line
use Rattle.proof_commits.specs.Protocol.{Stage, Rests, Reads, Builds, Publishes, Decides, Checks}

abbrev pub stage_of_complete : Descriptor → CompleteLine → Stage
stage_of_complete offer (complete.Reading l) = Reads offer.root l
stage_of_complete offer (complete.Swap main) = Rests

abbrev pub stage_of_root : RootLine → Stage
stage_of_root root.Read = Rests
stage_of_root (root.Completing c) = stage_of_complete c.offer c.line

abbrev pub stage_of_swap : Ref → Ref → Ref → SwapLine → Stage
stage_of_swap i replaced fresh swap.Publish = Publishes i replaced fresh
stage_of_swap i replaced fresh (swap.Deciding l) = Decides i replaced fresh l
stage_of_swap i replaced fresh swap.Check = Checks i replaced fresh

abbrev pub stage_of_key : KeyLine → Stage
stage_of_key (key.Read path r) = Reads r.indirection r.line
stage_of_key l = Rests

-- the main node of two singles, and a branch over it, are held until an indirection names them
abbrev pub stage_of_build : BuildLine → Stage
stage_of_build (build.Link path main position below depth) = Builds below
stage_of_build l = Rests

abbrev pub stage_of_renew : RenewLine → Stage
stage_of_renew (renew.Read path main done r) = Reads r.indirection r.line
stage_of_renew l = Rests

abbrev pub stage_of_clean : CleanLine → Stage
stage_of_clean (clean.Read path r) = Reads r.indirection r.line
stage_of_clean (clean.Child path main done r) = Reads r.indirection r.line
stage_of_clean l = Rests

abbrev pub stage_of_climb : ClimbLine → Stage
stage_of_climb (climb.Read c r) = Reads r.indirection r.line
stage_of_climb (climb.Root c l) = stage_of_root l
stage_of_climb l = Rests

-- a clear's empty branch is held until the new root names it
abbrev pub stage_of_copy : CopyLine → Stage
stage_of_copy (copy.Read at r) = Reads r.indirection r.line
stage_of_copy (copy.Cleared at main branch) = Builds branch
stage_of_copy (copy.Complete c) = stage_of_complete c.offer c.line
stage_of_copy l = Rests

abbrev pub stage_of_walk : WalkLine → Stage
stage_of_walk (walk.Read r todo pairs) = Reads r.indirection r.line
stage_of_walk l = Rests

abbrev pub stage_of : Line → Stage
stage_of (line.Root l) = stage_of_root l
stage_of (line.Key l) = stage_of_key l
stage_of (line.Build l) = stage_of_build l
stage_of (line.Swap why s) = stage_of_swap s.indirection s.replaced s.fresh s.line
stage_of (line.Renew l) = stage_of_renew l
stage_of (line.Clean l) = stage_of_clean l
stage_of (line.Climb l) = stage_of_climb l
stage_of (line.Copy l) = stage_of_copy l
stage_of (line.Walk l) = stage_of_walk l
stage_of (line.End answer) = Rests
stage_of line.Impossible = Rests

-- what an actor is about
abbrev pub stage_of_actor : Option Operation → Stage
stage_of_actor None = Rests
stage_of_actor (Some operation) = stage_of operation.line
