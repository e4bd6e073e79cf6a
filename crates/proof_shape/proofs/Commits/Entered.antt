-- The places that the commit of a node brings: its owner's alone, where it is the owner's own update.
use Rattle.std.proofs.Common.{◌≡◌, ℕ, Some, ap}
use Rattle.proof_shape.specs.Vocabulary.{Ref, Purpose, Operation, Record, changer_of, entered, entered_by, changer_for}
use Rattle.proof_shape.specs.Beneath.machine_model.specs.declared.lines.Purpose.TheVariants as purpose
use Rattle.proof_shape.specs.Lines.Commits.{places_for}

-- by whose change the node is said to be
pub enters_owner : (past : Record) (owner : Operation) (t : ℕ) (x : Ref) (why : Purpose) → changer_of past x ≡ changer_for owner why → entered past t (Some x) ≡ places_for past owner t why
enters_owner past owner t x (purpose.Update path former) e = ap (entered_by past t) e
enters_owner past owner t x (purpose.Renew path) e = ap (entered_by past t) e
enters_owner past owner t x purpose.Clean e = ap (entered_by past t) e
enters_owner past owner t x (purpose.Climb c) e = ap (entered_by past t) e
