-- What a line may come to read it may come to read later.
use Rattle.std.proofs.Common.{List}
use Rattle.std.specs.List.{All}
use Rattle.std.proofs.lemmas.List.Elements.{All-weaker}
use Rattle.proof_shape.specs.Vocabulary.{Ref, BuildLine, CopyLine, KeyLine, Line, Purpose, CleanLine, ClimbLine, RenewLine, RootLine, WalkLine}
use Rattle.proof_shape.specs.Beneath.machine_model.specs.declared.building.BuildLine.TheVariants as build
use Rattle.proof_shape.specs.Beneath.machine_model.specs.declared.copying.CopyLine.TheVariants as copy
use Rattle.proof_shape.specs.Beneath.machine_model.specs.declared.finding.KeyLine.TheVariants as key
use Rattle.proof_shape.specs.Beneath.machine_model.specs.declared.lines.Line.TheVariants as line
use Rattle.proof_shape.specs.Beneath.machine_model.specs.declared.lines.Purpose.TheVariants as purpose
use Rattle.proof_shape.specs.Beneath.machine_model.specs.declared.repairs.CleanLine.TheVariants as clean
use Rattle.proof_shape.specs.Beneath.machine_model.specs.declared.repairs.ClimbLine.TheVariants as climb
use Rattle.proof_shape.specs.Beneath.machine_model.specs.declared.repairs.RenewLine.TheVariants as renew
use Rattle.proof_shape.specs.Beneath.machine_model.specs.declared.roots.RootLine.TheVariants as root
use Rattle.proof_shape.specs.Beneath.machine_model.specs.declared.walking.WalkLine.TheVariants as walk
use Rattle.proof_shape.proofs.Opened.Lines.{RootOpens, KeyOpens, BuildOpens, WhyOpens, RenewOpens, CleanOpens, ClimbOpens, CopyOpens, WalkOpens, Opens}

module _ (O P : Ref → Type 0) (more : (r : Ref) → O r → P r) where
  all_more : (rs : List Ref) → All O rs → All P rs
  all_more rs all = All-weaker O P more rs all

  root_more : (l : RootLine) → RootOpens O l → RootOpens P l
  root_more root.Read o = tt
  root_more (root.Completing c) o = more c.offer.root o

  key_more : (l : KeyLine) → KeyOpens O l → KeyOpens P l
  key_more (key.Read path r) o = (all_more path o.0, more r.indirection o.1)
  key_more (key.Main path main) o = all_more path o
  key_more (key.Entry path main position) o = all_more path o
  key_more (key.Listed path main position) o = all_more path o
  key_more (key.Sibling path main position former) o = all_more path o

  build_more : (l : BuildLine) → BuildOpens O l → BuildOpens P l
  build_more (build.Single path main site former) o = all_more path o
  build_more (build.Pair path main position single depth) o = all_more path o
  build_more (build.Link path main position below depth) o = all_more path o
  build_more (build.Rung path main position below depth) o = all_more path o
  build_more (build.Main path main c former) o = all_more path o

  why_more : (why : Purpose) → WhyOpens O why → WhyOpens P why
  why_more (purpose.Update path former) o = all_more path o
  why_more (purpose.Renew path) o = all_more path o
  why_more purpose.Clean o = tt
  why_more (purpose.Climb c) o = all_more c.path o

  renew_more : (l : RenewLine) → RenewOpens O l → RenewOpens P l
  renew_more (renew.Entry path main done) o = all_more path o
  renew_more (renew.Read path main done r) o = (all_more path o.0, more r.indirection o.1)
  renew_more (renew.Link path main done child) o = all_more path o
  renew_more (renew.Branch path main done) o = all_more path o

  clean_more : (l : CleanLine) → CleanOpens O l → CleanOpens P l
  clean_more (clean.Read path r) o = (all_more path o.0, more r.indirection o.1)
  clean_more (clean.Main path main) o = all_more path o
  clean_more (clean.Entry path main done) o = all_more path o
  clean_more (clean.Child path main done r) o = (all_more path o.0, more r.indirection o.1)
  clean_more (clean.Tomb path main done child) o = all_more path o
  clean_more (clean.Contracted path main done) o = all_more path o

  climb_more : (l : ClimbLine) → ClimbOpens O l → ClimbOpens P l
  climb_more (climb.Read c r) o = (all_more c.path o.0, more r.indirection o.1)
  climb_more (climb.Main c main) o = all_more c.path o
  climb_more (climb.Contracted c main) o = all_more c.path o
  climb_more (climb.Root c l) o = (all_more c.path o.0, root_more l o.1)

  copy_more : (l : CopyLine) → CopyOpens O l → CopyOpens P l
  copy_more (copy.Read at r) o = (more at o.0, more r.indirection o.1)
  copy_more (copy.Successor at main) o = more at o
  copy_more (copy.Second at main successor) o = more at o
  copy_more (copy.Empty at main) o = more at o
  copy_more (copy.Cleared at main branch) o = more at o
  copy_more (copy.Offer offer) o = more offer.root o
  copy_more (copy.Complete c) o = more c.offer.root o

  walk_more : (l : WalkLine) → WalkOpens O l → WalkOpens P l
  walk_more walk.Root o = tt
  walk_more (walk.Read r todo pairs) o = (all_more todo o.0, more r.indirection o.1)
  walk_more (walk.Main main todo pairs) o = all_more todo o
  walk_more (walk.Entry todo pairs) o = all_more todo o

  pub opens_more : (l : Line) → Opens O l → Opens P l
  opens_more (line.Root l) o = root_more l o
  opens_more (line.Key l) o = key_more l o
  opens_more (line.Build l) o = build_more l o
  opens_more (line.Swap why s) o = why_more why o
  opens_more (line.Renew l) o = renew_more l o
  opens_more (line.Clean l) o = clean_more l o
  opens_more (line.Climb l) o = climb_more l o
  opens_more (line.Copy l) o = copy_more l o
  opens_more (line.Walk l) o = walk_more l o
  opens_more (line.End answer) o = tt
  opens_more line.Impossible o = tt
