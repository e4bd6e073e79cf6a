-- What the line of an operation on a writable handle knows of generations: which indirections are of the operation's own generation, which entries may stand
-- below them, the entries of which main nodes may, and of which READs below the path's end the generation was closed.
use Rattle.std.proofs.Common.{◌≡◌, ◌-◌, ◌<◌, true, List, [], ◌∷◌, ◌++◌, length, length-append, ltb-true, arith}
use Rattle.std.specs.List.{All}
use Rattle.std.proofs.lemmas.List.Elements.{All-append, All-take, All-get_or, All-cons, All-nil, All-weaker}
use Rattle.std.proofs.lemmas.List.{length-take}
use Rattle.proof_generations.specs.Vocabulary.{Ref, no_ref, BuildLine, Change, CopyLine, KeyLine, Line, Purpose, Read, CleanLine, Climb, ClimbLine, RenewLine, current, above, is_below_root}
use Rattle.proof_generations.specs.Beneath.machine_model.specs.declared.building.BuildLine.TheVariants as build
use Rattle.proof_generations.specs.Beneath.machine_model.specs.declared.building.Change.TheVariants as change
use Rattle.proof_generations.specs.Beneath.machine_model.specs.declared.copying.CopyLine.TheVariants as copy
use Rattle.proof_generations.specs.Beneath.machine_model.specs.declared.finding.KeyLine.TheVariants as key
use Rattle.proof_generations.specs.Beneath.machine_model.specs.declared.lines.Line.TheVariants as line
use Rattle.proof_generations.specs.Beneath.machine_model.specs.declared.lines.Purpose.TheVariants as purpose
use Rattle.proof_generations.specs.Beneath.machine_model.specs.declared.repairs.CleanLine.TheVariants as clean
use Rattle.proof_generations.specs.Beneath.machine_model.specs.declared.repairs.ClimbLine.TheVariants as climb
use Rattle.proof_generations.specs.Beneath.machine_model.specs.declared.repairs.RenewLine.TheVariants as renew

-- ---- paths

-- a path of own indirections, with one at least
abbrev pub OwnPath : (Ref → Type 0) → List Ref → Type 0
OwnPath Own path = (0 < length path) × All Own path

pub one_of : (P : Ref → Type 0) (r : Ref) → P r → All P (r ∷ [])
one_of P r h = All-cons P r [] h (All-nil P)

module _ (Own : Ref → Type 0) (path : List Ref) (own : OwnPath Own path) where
  pub own_current : Own (current path)
  own_current = All-get_or Own path (length path - 1) no_ref (omega (arith, own.0)) own.1

  pub own_pushed : (below : Ref) → Own below → OwnPath Own (path ++ below ∷ [])
  own_pushed below h = (omega (arith, length-append path (below ∷ []), own.0), All-append Own path (below ∷ []) own.1 (one_of Own below h))

  pub own_above : is_below_root path ≡ true → OwnPath Own (above path)
  own_above e = (omega (arith, length-take (length path - 1) path, ltb-true 1 (length path) e), All-take Own (length path - 1) path own.1)

-- the path of a climb, and the one above its end
abbrev pub OwnClimb : (Ref → Type 0) → Climb → Type 0
OwnClimb Own c = OwnPath Own c.path × OwnPath Own (above c.path)

-- ---- lines

-- Own is of indirections, Fits of entries, Falls of main nodes, Late of READs.
module _ (Own Fits Falls : Ref → Type 0) (Late : Read → Type 0) where
  abbrev pub FallsOn : List Ref → Ref → Type 0
  FallsOn path main = OwnPath Own path × Falls main

  abbrev pub KnowsKey : KeyLine → Type 0
  KnowsKey (key.Read path r) = OwnPath Own path × Own r.indirection
  KnowsKey (key.Main path main) = FallsOn path main
  KnowsKey (key.Entry path main position) = FallsOn path main
  KnowsKey (key.Listed path main position) = FallsOn path main
  KnowsKey (key.Sibling path main position former) = FallsOn path main

  -- what comes to stand in the place of an entry
  abbrev pub KnowsChange : Change → Type 0
  KnowsChange (change.Update position entry) = Fits entry
  KnowsChange c = Unit {0}

  abbrev pub KnowsBuild : BuildLine → Type 0
  KnowsBuild (build.Single path main site former) = FallsOn path main
  KnowsBuild (build.Pair path main position single depth) = FallsOn path main
  KnowsBuild (build.Link path main position below depth) = FallsOn path main × Falls below
  KnowsBuild (build.Rung path main position below depth) = FallsOn path main × Own below
  KnowsBuild (build.Main path main c former) = FallsOn path main × KnowsChange c

  abbrev pub KnowsPurpose : Purpose → Type 0
  KnowsPurpose (purpose.Update path former) = OwnPath Own path
  KnowsPurpose (purpose.Renew path) = OwnPath Own path
  KnowsPurpose purpose.Clean = Unit {0}
  KnowsPurpose (purpose.Climb c) = OwnClimb Own c

  -- what is done so far
  abbrev pub KnowsDone : List Ref → Ref → List Ref → Type 0
  KnowsDone path main done = FallsOn path main × All Fits done

  abbrev pub KnowsRenew : RenewLine → Type 0
  KnowsRenew (renew.Entry path main done) = KnowsDone path main done
  KnowsRenew (renew.Read path main done r) = KnowsDone path main done × Late r
  KnowsRenew (renew.Link path main done child) = KnowsDone path main done × Falls child
  KnowsRenew (renew.Branch path main done) = KnowsDone path main done

  abbrev pub KnowsClean : CleanLine → Type 0
  KnowsClean (clean.Read path r) = OwnPath Own path × Own r.indirection
  KnowsClean (clean.Main path main) = FallsOn path main
  KnowsClean (clean.Entry path main done) = KnowsDone path main done
  KnowsClean (clean.Child path main done r) = KnowsDone path main done × Late r
  KnowsClean (clean.Tomb path main done child) = KnowsDone path main done × Falls child
  KnowsClean (clean.Contracted path main done) = KnowsDone path main done

  abbrev pub KnowsClimb : ClimbLine → Type 0
  KnowsClimb (climb.Read c r) = OwnClimb Own c × Own r.indirection
  KnowsClimb (climb.Main c main) = OwnClimb Own c × Falls main
  KnowsClimb (climb.Contracted c main) = OwnClimb Own c × Falls main
  KnowsClimb (climb.Root c l) = OwnClimb Own c

  abbrev pub KnowsCopy : CopyLine → Type 0
  KnowsCopy (copy.Read root r) = Own root × Own r.indirection
  KnowsCopy (copy.Successor root main) = Own root × Falls main
  KnowsCopy (copy.Second root main successor) = Own root × Falls main
  KnowsCopy (copy.Empty root main) = Own root
  KnowsCopy (copy.Cleared root main branch) = Own root × Falls branch
  KnowsCopy (copy.Offer offer) = Own offer.root
  KnowsCopy (copy.Complete c) = Own c.offer.root

  abbrev pub Knows : Line → Type 0
  Knows (line.Key l) = KnowsKey l
  Knows (line.Build l) = KnowsBuild l
  Knows (line.Swap why s) = Own s.indirection × Falls s.fresh × KnowsPurpose why
  Knows (line.Renew l) = KnowsRenew l
  Knows (line.Clean l) = KnowsClean l
  Knows (line.Climb l) = KnowsClimb l
  Knows (line.Copy l) = KnowsCopy l
  Knows l = Unit {0}

-- the lines of an operation that has the generation of its root
abbrev pub IsInner : Line → Type 0
IsInner (line.Root l) = ⊥
IsInner (line.Walk l) = ⊥
IsInner (line.End answer) = ⊥
IsInner line.Impossible = ⊥
IsInner l = Unit {0}

-- ---- what is known stays known

module _ (Own Fits Falls : Ref → Type 0) (Late : Read → Type 0) (Fits' Falls' : Ref → Type 0) (Late' : Read → Type 0) (fits : (r : Ref) → Fits r → Fits' r)
    (falls : (r : Ref) → Falls r → Falls' r) (late : (r : Read) → Late r → Late' r) where
  done_still : (path : List Ref) (main : Ref) (done : List Ref) → KnowsDone Own Fits Falls Late path main done → KnowsDone Own Fits' Falls' Late' path main done
  done_still path main done k = ((k.0.0, falls main k.0.1), All-weaker Fits Fits' fits done k.1)

  key_still : (l : KeyLine) → KnowsKey Own Fits Falls Late l → KnowsKey Own Fits' Falls' Late' l
  key_still (key.Read path r) k = k
  key_still (key.Main path main) k = (k.0, falls main k.1)
  key_still (key.Entry path main position) k = (k.0, falls main k.1)
  key_still (key.Listed path main position) k = (k.0, falls main k.1)
  key_still (key.Sibling path main position former) k = (k.0, falls main k.1)

  change_still : (c : Change) → KnowsChange Own Fits Falls Late c → KnowsChange Own Fits' Falls' Late' c
  change_still (change.Update position entry) k = fits entry k
  change_still (change.Insert single) k = tt
  change_still (change.Remove position) k = tt
  change_still (change.Entomb single) k = tt

  build_still : (l : BuildLine) → KnowsBuild Own Fits Falls Late l → KnowsBuild Own Fits' Falls' Late' l
  build_still (build.Single path main site former) k = (k.0, falls main k.1)
  build_still (build.Pair path main position single depth) k = (k.0, falls main k.1)
  build_still (build.Link path main position below depth) k = ((k.0.0, falls main k.0.1), falls below k.1)
  build_still (build.Rung path main position below depth) k = ((k.0.0, falls main k.0.1), k.1)
  build_still (build.Main path main c former) k = ((k.0.0, falls main k.0.1), change_still c k.1)

  purpose_still : (why : Purpose) → KnowsPurpose Own Fits Falls Late why → KnowsPurpose Own Fits' Falls' Late' why
  purpose_still (purpose.Update path former) k = k
  purpose_still (purpose.Renew path) k = k
  purpose_still purpose.Clean k = k
  purpose_still (purpose.Climb c) k = k

  renew_still : (l : RenewLine) → KnowsRenew Own Fits Falls Late l → KnowsRenew Own Fits' Falls' Late' l
  renew_still (renew.Entry path main done) k = done_still path main done k
  renew_still (renew.Read path main done r) k = (done_still path main done k.0, late r k.1)
  renew_still (renew.Link path main done child) k = (done_still path main done k.0, falls child k.1)
  renew_still (renew.Branch path main done) k = done_still path main done k

  clean_still : (l : CleanLine) → KnowsClean Own Fits Falls Late l → KnowsClean Own Fits' Falls' Late' l
  clean_still (clean.Read path r) k = k
  clean_still (clean.Main path main) k = (k.0, falls main k.1)
  clean_still (clean.Entry path main done) k = done_still path main done k
  clean_still (clean.Child path main done r) k = (done_still path main done k.0, late r k.1)
  clean_still (clean.Tomb path main done child) k = (done_still path main done k.0, falls child k.1)
  clean_still (clean.Contracted path main done) k = done_still path main done k

  climb_still : (l : ClimbLine) → KnowsClimb Own Fits Falls Late l → KnowsClimb Own Fits' Falls' Late' l
  climb_still (climb.Read c r) k = k
  climb_still (climb.Main c main) k = (k.0, falls main k.1)
  climb_still (climb.Contracted c main) k = (k.0, falls main k.1)
  climb_still (climb.Root c l) k = k

  copy_still : (l : CopyLine) → KnowsCopy Own Fits Falls Late l → KnowsCopy Own Fits' Falls' Late' l
  copy_still (copy.Read root r) k = k
  copy_still (copy.Successor root main) k = (k.0, falls main k.1)
  copy_still (copy.Second root main successor) k = (k.0, falls main k.1)
  copy_still (copy.Empty root main) k = k
  copy_still (copy.Cleared root main branch) k = (k.0, falls branch k.1)
  copy_still (copy.Offer offer) k = k
  copy_still (copy.Complete c) k = k

  pub knows_still : (l : Line) → Knows Own Fits Falls Late l → Knows Own Fits' Falls' Late' l
  knows_still (line.Key l) k = key_still l k
  knows_still (line.Build l) k = build_still l k
  knows_still (line.Swap why s) k = (k.0, falls s.fresh k.1, purpose_still why k.2)
  knows_still (line.Renew l) k = renew_still l k
  knows_still (line.Clean l) k = clean_still l k
  knows_still (line.Climb l) k = climb_still l k
  knows_still (line.Copy l) k = copy_still l k
  knows_still (line.Root l) k = tt
  knows_still (line.Walk l) k = tt
  knows_still (line.End answer) k = tt
  knows_still line.Impossible k = tt
