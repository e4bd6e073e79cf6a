-- What an operation on a line is about with main words, and what the line remembers.
use Rattle.std.proofs.Common.{◌≡◌, ℕ, List, arith, refl, Some}
use Rattle.proof_commits.specs.Vocabulary.{Ref, Operation, ReadLine, SwapLine, Descriptor, CompleteLine, RootLine, KeyLine, BuildLine, RenewLine, CleanLine, ClimbLine, CopyLine, WalkLine, Line}
use Rattle.proof_commits.specs.Vocabulary.{current, above, After, key_after_read, renew_after_read, clean_after_read, after_child, climb_after_read, walk_after_read, copy_after_read}
use Rattle.proof_commits.specs.Vocabulary.{copy_after_complete, after_given, after_root, first_line, at_indirection, of_offer, after_completing, after_reading, Climb, Gives, given_up, Reply, Call}
use Rattle.proof_commits.specs.Beneath.machine_model.specs.declared.reading.ReadLine.TheVariants as read
use Rattle.proof_commits.specs.Beneath.machine_model.specs.declared.reading.SwapLine.TheVariants as swap
use Rattle.proof_commits.specs.Beneath.machine_model.specs.declared.roots.CompleteLine.TheVariants as complete
use Rattle.proof_commits.specs.Beneath.machine_model.specs.declared.roots.RootLine.TheVariants as root
use Rattle.proof_commits.specs.Beneath.machine_model.specs.declared.finding.KeyLine.TheVariants as key
use Rattle.proof_commits.specs.Beneath.machine_model.specs.declared.building.BuildLine.TheVariants as build
use Rattle.proof_commits.specs.Beneath.machine_model.specs.declared.repairs.RenewLine.TheVariants as renew
use Rattle.proof_commits.specs.Beneath.machine_model.specs.declared.repairs.CleanLine.TheVariants as clean
use Rattle.proof_commits.specs.Beneath.machine_model.specs.declared.repairs.ClimbLine.TheVariants as climb
use Rattle.proof_commits.specs.Beneath.machine_model.specs.declared.copying.CopyLine.TheVariants as copy
use Rattle.proof_commits.specs.Beneath.machine_model.specs.declared.walking.WalkLine.TheVariants as walk
use Rattle.proof_commits.specs.Beneath.machine_model.specs.declared.lines.Line.TheVariants as line
use Rattle.proof_commits.specs.Protocol.{Rests, after_read, IsFree}
use Rattle.proof_commits.specs.Stages.{stage_of, stage_of_complete}
use Rattle.proof_commits.specs.Beneath.machine_model.specs.declared.reading.After.TheVariants.{Goes}

-- ---- what an operation is about

-- ---- what a line remembers: G says of an indirection and a main node that a READ of it gave the node, and W that the handle is
-- writable, where the root is asked for its generation

abbrev pub ReadRemembers : Type 0 → ReadLine → Type 0
ReadRemembers W (read.AskRoot main previous) = W
ReadRemembers W (read.Abort main previous offer) = W
ReadRemembers W l = Unit {0}

abbrev pub CompleteRemembers : (Ref → Ref → Type 0) → Type 0 → Descriptor → CompleteLine → Type 0
CompleteRemembers G W offer (complete.Reading l) = ReadRemembers W l
CompleteRemembers G W offer (complete.Swap main) = G offer.root main

abbrev pub RootRemembers : (Ref → Ref → Type 0) → Type 0 → RootLine → Type 0
RootRemembers G W root.Read = Unit {0}
RootRemembers G W (root.Completing c) = CompleteRemembers G W c.offer c.line

abbrev pub SwapRemembers : Type 0 → SwapLine → Type 0
SwapRemembers W (swap.Deciding l) = ReadRemembers W l
SwapRemembers W l = Unit {0}

abbrev pub KeyRemembers : (Ref → Ref → Type 0) → Type 0 → KeyLine → Type 0
KeyRemembers G W (key.Read path r) = ReadRemembers W r.line × (r.indirection ≡ current path)
KeyRemembers G W (key.Main path main) = G (current path) main
KeyRemembers G W (key.Entry path main position) = G (current path) main
KeyRemembers G W (key.Listed path main position) = G (current path) main
KeyRemembers G W (key.Sibling path main position former) = G (current path) main

abbrev pub BuildRemembers : (Ref → Ref → Type 0) → BuildLine → Type 0
BuildRemembers G (build.Single path main site former) = G (current path) main
BuildRemembers G (build.Pair path main position single depth) = G (current path) main
BuildRemembers G (build.Link path main position below depth) = G (current path) main
BuildRemembers G (build.Rung path main position below depth) = G (current path) main
BuildRemembers G (build.Main path main c former) = G (current path) main

abbrev pub RenewRemembers : (Ref → Ref → Type 0) → Type 0 → RenewLine → Type 0
RenewRemembers G W (renew.Entry path main done) = G (current path) main
RenewRemembers G W (renew.Read path main done r) = ReadRemembers W r.line × G (current path) main
RenewRemembers G W (renew.Link path main done child) = G (current path) main × ((i : Ref) × G i child)
RenewRemembers G W (renew.Branch path main done) = G (current path) main

abbrev pub CleanRemembers : (Ref → Ref → Type 0) → Type 0 → CleanLine → Type 0
CleanRemembers G W (clean.Read path r) = ReadRemembers W r.line × (r.indirection ≡ current path)
CleanRemembers G W (clean.Main path main) = G (current path) main
CleanRemembers G W (clean.Entry path main done) = G (current path) main
CleanRemembers G W (clean.Child path main done r) = ReadRemembers W r.line × G (current path) main
CleanRemembers G W (clean.Tomb path main done child) = G (current path) main × ((i : Ref) × G i child)
CleanRemembers G W (clean.Contracted path main done) = G (current path) main

abbrev pub ClimbRemembers : (Ref → Ref → Type 0) → Type 0 → ClimbLine → Type 0
ClimbRemembers G W (climb.Read c r) = ReadRemembers W r.line × (r.indirection ≡ current (above c.path))
ClimbRemembers G W (climb.Main c main) = G (current (above c.path)) main
ClimbRemembers G W (climb.Contracted c main) = G (current (above c.path)) main
ClimbRemembers G W (climb.Root c l) = RootRemembers G W l

abbrev pub CopyRemembers : (Ref → Ref → Type 0) → Type 0 → CopyLine → Type 0
CopyRemembers G W (copy.Read at r) = ReadRemembers W r.line × (r.indirection ≡ at)
CopyRemembers G W (copy.Successor at main) = G at main
CopyRemembers G W (copy.Second at main successor) = G at main
CopyRemembers G W (copy.Empty at main) = G at main
CopyRemembers G W (copy.Cleared at main branch) = G at main
CopyRemembers G W (copy.Offer offer) = G offer.root offer.expected
CopyRemembers G W (copy.Complete c) = CompleteRemembers G W c.offer c.line

abbrev pub WalkRemembers : (Ref → Ref → Type 0) → Type 0 → WalkLine → Type 0
WalkRemembers G W walk.Root = Unit {0}
WalkRemembers G W (walk.Read r todo pairs) = ReadRemembers W r.line
WalkRemembers G W (walk.Main main todo pairs) = (i : Ref) × G i main
WalkRemembers G W (walk.Entry todo pairs) = Unit {0}

abbrev pub Remembers : (Ref → Ref → Type 0) → Type 0 → Line → Type 0
Remembers G W (line.Root l) = RootRemembers G W l
Remembers G W (line.Key l) = KeyRemembers G W l
Remembers G W (line.Build l) = BuildRemembers G l
Remembers G W (line.Swap why s) = SwapRemembers W s.line × G s.indirection s.replaced
Remembers G W (line.Renew l) = RenewRemembers G W l
Remembers G W (line.Clean l) = CleanRemembers G W l
Remembers G W (line.Climb l) = ClimbRemembers G W l
Remembers G W (line.Copy l) = CopyRemembers G W l
Remembers G W (line.Walk l) = WalkRemembers G W l
Remembers G W (line.End answer) = Unit {0}
Remembers G W line.Impossible = Unit {0}

-- ---- what is remembered stays so

module _ (G H : Ref → Ref → Type 0) (W : Type 0) (more : (i m : Ref) → G i m → H i m) where
  complete_still : (offer : Descriptor) (l : CompleteLine) → CompleteRemembers G W offer l → CompleteRemembers H W offer l
  complete_still offer (complete.Reading l) r = r
  complete_still offer (complete.Swap main) r = more offer.root main r

  root_still : (l : RootLine) → RootRemembers G W l → RootRemembers H W l
  root_still root.Read r = r
  root_still (root.Completing c) r = complete_still c.offer c.line r

  key_still : (l : KeyLine) → KeyRemembers G W l → KeyRemembers H W l
  key_still (key.Read path x) r = r
  key_still (key.Main path main) r = more (current path) main r
  key_still (key.Entry path main position) r = more (current path) main r
  key_still (key.Listed path main position) r = more (current path) main r
  key_still (key.Sibling path main position former) r = more (current path) main r

  build_still : (l : BuildLine) → BuildRemembers G l → BuildRemembers H l
  build_still (build.Single path main site former) r = more (current path) main r
  build_still (build.Pair path main position single depth) r = more (current path) main r
  build_still (build.Link path main position below depth) r = more (current path) main r
  build_still (build.Rung path main position below depth) r = more (current path) main r
  build_still (build.Main path main c former) r = more (current path) main r

  renew_still : (l : RenewLine) → RenewRemembers G W l → RenewRemembers H W l
  renew_still (renew.Entry path main done) r = more (current path) main r
  renew_still (renew.Read path main done x) r = (r.0, more (current path) main r.1)
  renew_still (renew.Link path main done child) r = (more (current path) main r.0, (r.1.0, more r.1.0 child r.1.1))
  renew_still (renew.Branch path main done) r = more (current path) main r

  clean_still : (l : CleanLine) → CleanRemembers G W l → CleanRemembers H W l
  clean_still (clean.Read path x) r = r
  clean_still (clean.Main path main) r = more (current path) main r
  clean_still (clean.Entry path main done) r = more (current path) main r
  clean_still (clean.Child path main done x) r = (r.0, more (current path) main r.1)
  clean_still (clean.Tomb path main done child) r = (more (current path) main r.0, (r.1.0, more r.1.0 child r.1.1))
  clean_still (clean.Contracted path main done) r = more (current path) main r

  climb_still : (l : ClimbLine) → ClimbRemembers G W l → ClimbRemembers H W l
  climb_still (climb.Read c x) r = r
  climb_still (climb.Main c main) r = more (current (above c.path)) main r
  climb_still (climb.Contracted c main) r = more (current (above c.path)) main r
  climb_still (climb.Root c l) r = root_still l r

  copy_still : (l : CopyLine) → CopyRemembers G W l → CopyRemembers H W l
  copy_still (copy.Read at x) r = r
  copy_still (copy.Successor at main) r = more at main r
  copy_still (copy.Second at main successor) r = more at main r
  copy_still (copy.Empty at main) r = more at main r
  copy_still (copy.Cleared at main branch) r = more at main r
  copy_still (copy.Offer offer) r = more offer.root offer.expected r
  copy_still (copy.Complete c) r = complete_still c.offer c.line r

  walk_still : (l : WalkLine) → WalkRemembers G W l → WalkRemembers H W l
  walk_still walk.Root r = r
  walk_still (walk.Read x todo pairs) r = r
  walk_still (walk.Main main todo pairs) r = (r.0, more r.0 main r.1)
  walk_still (walk.Entry todo pairs) r = r

  pub remembers_still : (l : Line) → Remembers G W l → Remembers H W l
  remembers_still (line.Root l) r = root_still l r
  remembers_still (line.Key l) r = key_still l r
  remembers_still (line.Build l) r = build_still l r
  remembers_still (line.Swap why s) r = (r.0, more s.indirection s.replaced r.1)
  remembers_still (line.Renew l) r = renew_still l r
  remembers_still (line.Clean l) r = clean_still l r
  remembers_still (line.Climb l) r = climb_still l r
  remembers_still (line.Copy l) r = copy_still l r
  remembers_still (line.Walk l) r = walk_still l r
  remembers_still (line.End answer) r = r
  remembers_still line.Impossible r = r

-- ---- after a READ

pub key_stage : (path : List Ref) (i : Ref) (o : After ReadLine Ref) → stage_of (key_after_read path (at_indirection i o)) ≡ after_read i o
key_stage path i (Goes l) = refl
key_stage path i (Gives m) = refl

pub renew_stage : (path : List Ref) (main : Ref) (done : List Ref) (i : Ref) (o : After ReadLine Ref) → stage_of (renew_after_read path main done (at_indirection i o)) ≡ after_read i o
renew_stage path main done i (Goes l) = refl
renew_stage path main done i (Gives m) = refl

pub clean_stage : (path : List Ref) (i : Ref) (o : After ReadLine Ref) → stage_of (clean_after_read path (at_indirection i o)) ≡ after_read i o
clean_stage path i (Goes l) = refl
clean_stage path i (Gives m) = refl

pub child_stage : (path : List Ref) (main : Ref) (done : List Ref) (i : Ref) (o : After ReadLine Ref) → stage_of (after_child path main done (at_indirection i o)) ≡ after_read i o
child_stage path main done i (Goes l) = refl
child_stage path main done i (Gives m) = refl

pub climb_stage : (c : Climb) (i : Ref) (o : After ReadLine Ref) → stage_of (climb_after_read c (at_indirection i o)) ≡ after_read i o
climb_stage c i (Goes l) = refl
climb_stage c i (Gives m) = refl

pub walk_stage : (todo : List Ref) (pairs : List (ℕ × ℕ)) (i : Ref) (o : After ReadLine Ref) → stage_of (walk_after_read todo pairs (at_indirection i o)) ≡ after_read i o
walk_stage todo pairs i (Goes l) = refl
walk_stage todo pairs i (Gives m) = refl

pub copy_stage : (operation : Operation) (at i : Ref) (o : After ReadLine Ref) → stage_of (copy_after_read operation at (at_indirection i o)) ≡ after_read i o
copy_stage operation at i (Goes l) = refl
copy_stage operation at i (Gives m) = at_given operation.call
  where
    at_given : (call : Call) → stage_of (after_given call at m) ≡ Rests
    at_given call = grind arith

pub copy_completing_stage : (operation : Operation) (offer : Descriptor) (o : After ReadLine Ref) →
    stage_of (copy_after_complete operation (of_offer offer (after_reading o))) ≡ after_read offer.root o
copy_completing_stage operation offer (Goes l) = refl
copy_completing_stage operation offer (Gives m) = refl

pub root_completing_stage : (operation : Operation) (offer : Descriptor) (o : After ReadLine Ref) →
    stage_of (after_root operation (after_completing (of_offer offer (after_reading o)))) ≡ after_read offer.root o
root_completing_stage operation offer (Goes l) = refl
root_completing_stage operation offer (Gives m) = refl

-- the first line
pub first_rests : (call : Call) → stage_of (first_line call) ≡ Rests
first_rests call = grind arith

-- where an operation may give up it isn't deciding the node of a SWAP
pub given_up_free : (call : Call) (l : Line) (answer : Reply) → given_up call l ≡ Some answer → IsFree (stage_of l)
given_up_free call (line.Root root.Read) answer e = tt
given_up_free call (line.Root (root.Completing c)) answer e = completing_free c.offer c.line
  where
    completing_free : (offer : Descriptor) (l : CompleteLine) → IsFree (stage_of_complete offer l)
    completing_free offer (complete.Reading x) = tt
    completing_free offer (complete.Swap main) = tt
given_up_free call (line.Key l) answer e = grind arith
given_up_free call (line.Build l) answer e = grind arith
given_up_free call (line.Swap why s) answer e = grind (arith, e)
given_up_free call (line.Renew l) answer e = grind arith
given_up_free call (line.Clean l) answer e = grind arith
given_up_free call (line.Climb l) answer e = grind arith
given_up_free call (line.Copy l) answer e = grind arith
given_up_free call (line.Walk l) answer e = grind arith
given_up_free call (line.End x) answer e = tt
given_up_free call line.Impossible answer e = tt
