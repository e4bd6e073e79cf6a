-- Levels: each indirection and each main node has one for life, whatever step is taken; a single's is 0, and a root's is 1. Here: what that says of words, nodes and
-- lines, where lv is the level of each reference.
use Rattle.std.specs.Prelude.{◌≡◌, ℕ, ◌+◌, ◌<◌, ◌≤◌, List, All, length, get_or, Option, Some, None, ◌⊎◌}
use Rattle.proof_memory.specs.Vocabulary.{birth_of, Ref, Node, Indirection, Branch, Single, Prev, refs_of_option, Action, ReadLine, SwapLine, CompleteLine, Descriptor, RootLine, RootWord, Plain}
use Rattle.proof_memory.specs.Vocabulary.{Offer, KeyLine, BuildLine, Change, RenewLine, CleanLine, ClimbLine, CopyLine, WalkLine, Purpose, Line, above, depth_of}
use Rattle.proof_memory.specs.Beneath.slot_arena.specs.declared.nodes.Prev.TheVariants as prev
use Rattle.machine_model.specs.declared.actions.Action.TheVariants as act
use Rattle.machine_model.specs.declared.reading.ReadLine.TheVariants as read
use Rattle.machine_model.specs.declared.reading.SwapLine.TheVariants as swap
use Rattle.machine_model.specs.declared.roots.CompleteLine.TheVariants as complete
use Rattle.machine_model.specs.declared.roots.RootLine.TheVariants as root
use Rattle.machine_model.specs.declared.finding.KeyLine.TheVariants as key
use Rattle.machine_model.specs.declared.building.BuildLine.TheVariants as build
use Rattle.machine_model.specs.declared.building.Change.TheVariants as change
use Rattle.machine_model.specs.declared.repairs.RenewLine.TheVariants as renew
use Rattle.machine_model.specs.declared.repairs.CleanLine.TheVariants as clean
use Rattle.machine_model.specs.declared.repairs.ClimbLine.TheVariants as climb
use Rattle.machine_model.specs.declared.copying.CopyLine.TheVariants as copy
use Rattle.machine_model.specs.declared.walking.WalkLine.TheVariants as walk
use Rattle.machine_model.specs.declared.lines.Purpose.TheVariants as purpose
use Rattle.machine_model.specs.declared.lines.Line.TheVariants as line

module _ (lv : Ref → ℕ) where
  -- ---- nodes

  -- an entry of a branch of this level is a single, or an indirection one level deeper
  abbrev pub EntryLevel : ℕ → Ref → Type 0
  EntryLevel level e = (lv e ≡ 0) ⊎ (lv e ≡ level + 1)

  -- what stands in a node of this level
  abbrev pub InsideLevel : ℕ → Node → Type 0
  InsideLevel level (Indirection generation main) = lv main ≡ level
  InsideLevel level (Branch bitmap entries) = All (EntryLevel level) entries.items
  InsideLevel level node = Unit {0}

  -- the level of a node by its kind
  abbrev pub KindLevel : ℕ → Node → Type 0
  KindLevel level (Single key value) = level ≡ 0
  KindLevel level node = 1 ≤ level

  abbrev pub NodeLevel : Ref → Node → Type 0
  NodeLevel r node = InsideLevel (lv r) node × KindLevel (lv r) node

  -- what a node stands over has its level, and is older
  abbrev pub PrevLevel : Ref → Prev → Type 0
  PrevLevel r prev.None = Unit {0}
  PrevLevel r (prev.Pending p) = (lv p ≡ lv r) × (birth_of p < birth_of r)
  PrevLevel r (prev.Failed p) = (lv p ≡ lv r) × (birth_of p < birth_of r)

  -- ---- words

  abbrev pub OfferLevel : Descriptor → Type 0
  OfferLevel offer = (lv offer.root ≡ 1) × (lv offer.expected ≡ 1) × (lv offer.successor ≡ 1) × All (λ r. lv r ≡ 1) (refs_of_option offer.second)

  abbrev pub WordLevel : RootWord → Type 0
  WordLevel (Plain r) = lv r ≡ 1
  WordLevel (Offer offer) = OfferLevel offer

  -- ---- lines

  -- what READ found pending
  abbrev pub PairLevel : Ref → Ref → Ref → Type 0
  PairLevel i main previous = (lv main ≡ lv i) × (lv previous ≡ lv i) × (birth_of previous < birth_of main)

  abbrev pub ReadLevel : Ref → ReadLine → Type 0
  ReadLevel i read.Main = Unit {0}
  ReadLevel i (read.Prev main) = lv main ≡ lv i
  ReadLevel i (read.AskRoot main previous) = PairLevel i main previous
  ReadLevel i (read.Abort main previous offer) = PairLevel i main previous × OfferLevel offer
  ReadLevel i (read.Decide main previous told) = PairLevel i main previous
  ReadLevel i (read.Restore main previous) = lv previous ≡ lv i

  abbrev pub CompleteLevel : Descriptor → CompleteLine → Type 0
  CompleteLevel offer (complete.Reading l) = OfferLevel offer × ReadLevel offer.root l
  CompleteLevel offer (complete.Swap main) = OfferLevel offer × Unit {0}

  abbrev pub RootLevel : RootLine → Type 0
  RootLevel root.Read = Unit {0}
  RootLevel (root.Completing c) = CompleteLevel c.offer c.line

  -- each indirection of a path is one level below the one before
  abbrev pub PathLevel : List Ref → Type 0
  PathLevel path = (k : ℕ) (d : Ref) → k < length path → lv (get_or path k d) ≡ k + 1

  abbrev pub PlaceLevel : List Ref → Ref → Type 0
  PlaceLevel path main = PathLevel path × (lv main ≡ depth_of path + 1)

  abbrev pub KeyLevel : KeyLine → Type 0
  KeyLevel (key.Read path r) = PathLevel path × (lv r.indirection ≡ depth_of path + 1) × ReadLevel r.indirection r.line
  KeyLevel (key.Main path main) = PlaceLevel path main
  KeyLevel (key.Entry path main position) = PlaceLevel path main
  KeyLevel (key.Listed path main position) = PlaceLevel path main
  KeyLevel (key.Sibling path main position former) = PlaceLevel path main

  abbrev pub UpdateLevel : List Ref → Option ℕ → Ref → Type 0
  UpdateLevel path None entry = lv entry ≡ depth_of path + 2
  UpdateLevel path (Some value) entry = Unit {0}

  abbrev pub ChangeLevel : List Ref → Option ℕ → Change → Type 0
  ChangeLevel path former (change.Update position entry) = UpdateLevel path former entry
  ChangeLevel path former c = Unit {0}

  abbrev pub BuildLevel : BuildLine → Type 0
  BuildLevel (build.Single path main s former) = PlaceLevel path main
  BuildLevel (build.Pair path main position single depth) = PlaceLevel path main × (depth_of path + 1 ≤ depth)
  BuildLevel (build.Link path main position below depth) = PlaceLevel path main × (depth_of path + 1 ≤ depth) × (lv below ≡ depth + 1)
  BuildLevel (build.Rung path main position below depth) = PlaceLevel path main × (depth_of path + 1 ≤ depth) × (lv below ≡ depth + 2)
  BuildLevel (build.Main path main c former) = PlaceLevel path main × ChangeLevel path former c

  abbrev pub SwapLineLevel : Ref → SwapLine → Type 0
  SwapLineLevel i swap.Publish = Unit {0}
  SwapLineLevel i (swap.Deciding l) = ReadLevel i l
  SwapLineLevel i swap.Check = Unit {0}

  abbrev pub PurposeLevel : Purpose → Type 0
  PurposeLevel (purpose.Update path former) = PathLevel path
  PurposeLevel (purpose.Renew path) = PathLevel path
  PurposeLevel purpose.Clean = Unit {0}
  PurposeLevel (purpose.Climb c) = PathLevel c.path

  -- the nodes of a SWAP
  abbrev pub SwapLevel : Ref → Ref → Ref → Type 0
  SwapLevel i replaced fresh = (lv replaced ≡ lv i) × (lv fresh ≡ lv i) × (birth_of replaced < birth_of fresh)

  abbrev pub DoneLevel : List Ref → Ref → List Ref → Type 0
  DoneLevel path main done = PlaceLevel path main × All (EntryLevel (depth_of path + 1)) done

  abbrev pub RenewLevel : RenewLine → Type 0
  RenewLevel (renew.Entry path main done) = DoneLevel path main done
  RenewLevel (renew.Read path main done r) = DoneLevel path main done × (lv r.indirection ≡ depth_of path + 2) × ReadLevel r.indirection r.line
  RenewLevel (renew.Link path main done child) = DoneLevel path main done × (lv child ≡ depth_of path + 2)
  RenewLevel (renew.Branch path main done) = DoneLevel path main done

  abbrev pub CleanLevel : CleanLine → Type 0
  CleanLevel (clean.Read path r) = PathLevel path × (lv r.indirection ≡ depth_of path + 1) × ReadLevel r.indirection r.line
  CleanLevel (clean.Main path main) = PlaceLevel path main
  CleanLevel (clean.Entry path main done) = DoneLevel path main done
  CleanLevel (clean.Child path main done r) = DoneLevel path main done × ReadLevel r.indirection r.line
  CleanLevel (clean.Tomb path main done child) = DoneLevel path main done
  CleanLevel (clean.Contracted path main done) = DoneLevel path main done

  abbrev pub ClimbLevel : ClimbLine → Type 0
  ClimbLevel (climb.Read c r) = PathLevel c.path × (lv r.indirection ≡ depth_of (above c.path) + 1) × ReadLevel r.indirection r.line
  ClimbLevel (climb.Main c main) = PathLevel c.path × (lv main ≡ depth_of (above c.path) + 1)
  ClimbLevel (climb.Contracted c main) = PathLevel c.path × (lv main ≡ depth_of (above c.path) + 1)
  ClimbLevel (climb.Root c l) = PathLevel c.path × RootLevel l

  abbrev pub CopyLevel : CopyLine → Type 0
  CopyLevel (copy.Read r l) = (lv r ≡ 1) × (lv l.indirection ≡ 1) × ReadLevel l.indirection l.line
  CopyLevel (copy.Successor r main) = (lv r ≡ 1) × (lv main ≡ 1)
  CopyLevel (copy.Second r main successor) = (lv r ≡ 1) × (lv main ≡ 1) × (lv successor ≡ 1)
  CopyLevel (copy.Empty r main) = (lv r ≡ 1) × (lv main ≡ 1)
  CopyLevel (copy.Cleared r main branch) = (lv r ≡ 1) × (lv main ≡ 1) × (lv branch ≡ 1)
  CopyLevel (copy.Offer offer) = OfferLevel offer
  CopyLevel (copy.Complete c) = CompleteLevel c.offer c.line

  abbrev pub WalkLevel : WalkLine → Type 0
  WalkLevel (walk.Read r todo pairs) = ReadLevel r.indirection r.line
  WalkLevel l = Unit {0}

  abbrev pub LineLevel : Line → Type 0
  LineLevel (line.Root l) = RootLevel l
  LineLevel (line.Key l) = KeyLevel l
  LineLevel (line.Build l) = BuildLevel l
  LineLevel (line.Swap why s) = SwapLevel s.indirection s.replaced s.fresh × SwapLineLevel s.indirection s.line × PurposeLevel why
  LineLevel (line.Renew l) = RenewLevel l
  LineLevel (line.Clean l) = CleanLevel l
  LineLevel (line.Climb l) = ClimbLevel l
  LineLevel (line.Copy l) = CopyLevel l
  LineLevel (line.Walk l) = WalkLevel l
  LineLevel (line.End answer) = Unit {0}
  LineLevel line.Impossible = Unit {0}

  -- ---- actions; the node that is made is to have this level

  abbrev pub ActionLevel : ℕ → Action → Type 0
  ActionLevel level (act.Abort offer) = OfferLevel offer
  ActionLevel level (act.Offer offer) = OfferLevel offer
  ActionLevel level (act.Complete offer main) = OfferLevel offer
  ActionLevel level (act.Publish i replaced fresh) = SwapLevel i replaced fresh
  ActionLevel level (act.Restore i main previous) = lv previous ≡ lv i
  ActionLevel level (act.Decide i main previous told) = PairLevel i main previous
  ActionLevel level (act.Make node) = InsideLevel level node × KindLevel level node
  ActionLevel level (act.MakeRoot main) = (lv main ≡ level) × (1 ≤ level)
  ActionLevel level action = Unit {0}

-- the level of the node that a line makes
abbrev pub build_level : BuildLine → ℕ
build_level (build.Single path main s former) = 0
build_level (build.Pair path main position single depth) = depth + 1
build_level (build.Link path main position below depth) = depth + 1
build_level (build.Rung path main position below depth) = depth + 1
build_level (build.Main path main c former) = depth_of path + 1

abbrev pub renew_level : RenewLine → ℕ
renew_level (renew.Link path main done child) = depth_of path + 2
renew_level (renew.Branch path main done) = depth_of path + 1
renew_level l = 0

abbrev pub clean_level : CleanLine → ℕ
clean_level (clean.Contracted path main done) = depth_of path + 1
clean_level l = 0

abbrev pub climb_level : ClimbLine → ℕ
climb_level (climb.Contracted c main) = depth_of (above c.path) + 1
climb_level l = 0

abbrev pub made_level : Line → ℕ
made_level (line.Build l) = build_level l
made_level (line.Renew l) = renew_level l
made_level (line.Clean l) = clean_level l
made_level (line.Climb l) = climb_level l
made_level (line.Copy l) = 1
made_level l = 0
