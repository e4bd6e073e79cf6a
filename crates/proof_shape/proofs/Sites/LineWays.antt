-- The path of a line: at its levels, on the way to the key, and of indirections.
use Rattle.std.proofs.Common.{ℕ, List, [], All, arith}
use Rattle.std.proofs.lemmas.List.Elements.{All-nil}
use Rattle.proof_shape.specs.Vocabulary.{HashKind, Ref, Heap, Access, Call, Line, Purpose, AnIndirection, AllHold, line_wants, swap_wants, purpose_wants, PathLevel, LineLevel, PurposeLevel}
use Rattle.proof_shape.specs.Vocabulary.{purpose_path}
use Rattle.proof_shape.specs.Beneath.machine_model.specs.declared.building.BuildLine.TheVariants as build
use Rattle.proof_shape.specs.Beneath.machine_model.specs.declared.finding.KeyLine.TheVariants as key
use Rattle.proof_shape.specs.Beneath.machine_model.specs.declared.lines.Line.TheVariants as line
use Rattle.proof_shape.specs.Beneath.machine_model.specs.declared.lines.Purpose.TheVariants as purpose
use Rattle.proof_shape.specs.Beneath.machine_model.specs.declared.repairs.CleanLine.TheVariants as clean
use Rattle.proof_shape.specs.Beneath.machine_model.specs.declared.repairs.ClimbLine.TheVariants as climb
use Rattle.proof_shape.specs.Beneath.machine_model.specs.declared.repairs.RenewLine.TheVariants as renew
use Rattle.proof_shape.specs.Beneath.proof_memory.proofs.Claims.Uses.{Meets, all_of, last_hold}
use Rattle.proof_shape.specs.Sites.Lines.{Sites, PathSite, PurposeSite, LineSite}
use Rattle.proof_shape.specs.Sites.At.{way_of}

module _ (s : Sites) (S : Ref → Type 0) (heap : Heap) (kind : HashKind) (hash : ℕ) where
  -- the path is at its levels, on the way to the hash, and of indirections
  abbrev pub IsWay : List Ref → Type 0
  IsWay path = PathLevel s.level path × PathSite kind s hash path × All (Meets S heap AnIndirection) path

  no_way : IsWay []
  no_way = ((λ k d within. absurd (omega arith)), (λ k d within. absurd (omega arith)), All-nil (Meets S heap AnIndirection))

  purpose_way : (i : Ref) (why : Purpose) → PurposeLevel s.level why → PurposeSite kind s hash i why → AllHold S heap (purpose_wants why) → IsWay (purpose_path why)
  purpose_way i (purpose.Update path former) e a h = (e, a.0, all_of h.0)
  purpose_way i (purpose.Renew path) e a h = (e, a, all_of h.0)
  purpose_way i purpose.Clean e a h = no_way
  purpose_way i (purpose.Climb c) e a h = (e, a.0, all_of h.0)

  pub line_way : (call : Call) (access : Access) (l : Line) → LineLevel s.level l → LineSite kind s hash l → AllHold S heap (line_wants kind call access l) → IsWay (way_of l)
  line_way call access (line.Key (key.Read path r)) e a h = (e.0, a.0, all_of h.0)
  line_way call access (line.Key (key.Main path main)) e a h = (e.0, a.0, all_of h.0)
  line_way call access (line.Key (key.Entry path main position)) e a h = (e.0, a.0, all_of h.0)
  line_way call access (line.Key (key.Listed path main position)) e a h = (e.0, a.0, all_of h.0)
  line_way call access (line.Key (key.Sibling path main position former)) e a h = (e.0, a.0, all_of h.0)
  line_way call access (line.Build (build.Single path main where_ former)) e a h = (e.0, a.0, all_of h.0)
  line_way call access (line.Build (build.Pair path main position single depth)) e a h = (e.0.0, a.0, all_of h.0)
  line_way call access (line.Build (build.Link path main position below depth)) e a h = (e.0.0, a.0.0, all_of h.0)
  line_way call access (line.Build (build.Rung path main position below depth)) e a h = (e.0.0, a.0.0, all_of h.0)
  line_way call access (line.Build (build.Main path main c former)) e a h = (e.0.0, a.0.0, all_of h.0)
  line_way call access (line.Swap why w) e a h = purpose_way w.indirection why e.2 a.2 (last_hold S heap (swap_wants w) (purpose_wants why) h)
  line_way call access (line.Renew (renew.Entry path main done)) e a h = (e.0.0, a.0.0, all_of h.0)
  line_way call access (line.Renew (renew.Read path main done r)) (e, _, _) (a, _, _) h = (e.0.0, a.0.0, all_of h.0)
  line_way call access (line.Renew (renew.Link path main done child)) (e, _) (a, _, _) h = (e.0.0, a.0.0, all_of h.0)
  line_way call access (line.Renew (renew.Branch path main done)) e a h = (e.0.0, a.0.0, all_of h.0)
  line_way call access (line.Clean (clean.Read path r)) e a h = (e.0, a.0, all_of h.0)
  line_way call access (line.Clean (clean.Main path main)) e a h = (e.0, a.0, all_of h.0)
  line_way call access (line.Clean (clean.Entry path main done)) e a h = (e.0.0, a.0.0, all_of h.0)
  line_way call access (line.Clean (clean.Child path main done r)) (e, _) (a, _, _) h = (e.0.0, a.0.0, all_of h.0)
  line_way call access (line.Clean (clean.Tomb path main done child)) e (a, _, _, _) h = (e.0.0, a.0.0, all_of h.0)
  line_way call access (line.Clean (clean.Contracted path main done)) e a h = (e.0.0, a.0.0, all_of h.0)
  line_way call access (line.Climb (climb.Read c r)) e a h = (e.0, a.0.0, all_of h.0)
  line_way call access (line.Climb (climb.Main c main)) e a h = (e.0, a.0.0, all_of h.0)
  line_way call access (line.Climb (climb.Contracted c main)) e a h = (e.0, a.0.0, all_of h.0)
  line_way call access (line.Climb (climb.Root c l)) e a h = (e.0, a.0, all_of h.0)
  line_way call access (line.Root l) e a h = no_way
  line_way call access (line.Copy l) e a h = no_way
  line_way call access (line.Walk l) e a h = no_way
  line_way call access (line.End answer) e a h = no_way
  line_way call access line.Impossible e a h = no_way
