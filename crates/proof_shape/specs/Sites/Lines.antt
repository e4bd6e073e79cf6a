-- Where nodes stand that hang together, and those of an operation's line: a main node has the path of its indirection; those on the way to a key
-- have that of its hash.
use Rattle.std.specs.Prelude.{◌≡◌, ℕ, ◌+◌, ◌^◌, ◌<◌, ◌≤◌, true, List, [], length, slice_index_or, Option, Some, None}
use Rattle.proof_shape.specs.Vocabulary.{hash_of, position_of, HashKind, Ref, Node, Indirection, Single, Prev, no_ref, entries_of, bitmap_of, flag_of, ReadLine, SwapLine, KeyLine, BuildLine, Change}
use Rattle.proof_shape.specs.Vocabulary.{RenewLine, CleanLine, Climb, ClimbLine, WalkLine, Purpose, Line, Step, current, above, depth_of, State, node_under, Trie, IsShaped}
use Rattle.proof_shape.specs.Beneath.slot_arena.specs.declared.nodes.Prev.TheVariants as prev
use Rattle.proof_shape.specs.Beneath.machine_model.specs.declared.reading.ReadLine.TheVariants as read
use Rattle.proof_shape.specs.Beneath.machine_model.specs.declared.reading.SwapLine.TheVariants as swap
use Rattle.proof_shape.specs.Beneath.machine_model.specs.declared.finding.KeyLine.TheVariants as key
use Rattle.proof_shape.specs.Beneath.machine_model.specs.declared.building.BuildLine.TheVariants as build
use Rattle.proof_shape.specs.Beneath.machine_model.specs.declared.building.Change.TheVariants as change
use Rattle.proof_shape.specs.Beneath.machine_model.specs.declared.repairs.RenewLine.TheVariants as renew
use Rattle.proof_shape.specs.Beneath.machine_model.specs.declared.repairs.CleanLine.TheVariants as clean
use Rattle.proof_shape.specs.Beneath.machine_model.specs.declared.repairs.ClimbLine.TheVariants as climb
use Rattle.proof_shape.specs.Beneath.machine_model.specs.declared.walking.WalkLine.TheVariants as walk
use Rattle.proof_shape.specs.Beneath.machine_model.specs.declared.lines.Purpose.TheVariants as purpose
use Rattle.proof_shape.specs.Beneath.machine_model.specs.declared.lines.Line.TheVariants as line
use Rattle.proof_shape.specs.Beneath.proof_memory.specs.Wants.{is_indirection}
use Rattle.proof_shape.specs.Beneath.proof_contents.specs.Shapes.{Fits}
use Rattle.proof_shape.specs.Sites.Nodes.{depth_at, path_to, level_until, path_until}

-- what nodes there are, and where they stand
pub record Sites : Type 0 where
  pub node : Ref → Node
  pub level : Ref → ℕ
  pub path : Ref → ℕ

-- those of a run of so many steps
abbrev pub sites_of : (ℕ → State) → (ℕ → Step) → ℕ → Sites
sites_of states steps last = record { node = node_under states last; level = level_until states steps last; path = path_until states steps last }

-- the node without what tells indirections of one place apart
abbrev pub bare : Node → Node
bare (Indirection generation main) = Indirection 0 no_ref
bare n = n

-- The same as a trie, in which main nodes stand where their indirections do; generations don't count there.
abbrev pub trie_at : HashKind → Sites → Trie
trie_at kind s = record {
  kind = kind;
  last = 0;
  node = λ r. bare (s.node r);
  main = λ t i. i;
  root = λ g. no_ref;
  depth = λ r. depth_at (s.level r);
  path = s.path;
  keys = [];
}

module _ (kind : HashKind) (s : Sites) where
  -- ---- nodes and words

  -- A main node has the path of its indirection, and the shape that belongs there. Keys have 64 bits.
  abbrev pub InsideSite : Ref → Node → Type 0
  InsideSite r (Indirection generation main) = s.path main ≡ s.path r
  InsideSite r (Single key value) = key < 2 ^ 64
  InsideSite r n = IsShaped (trie_at kind s) r n

  -- what a node stands over has its path
  abbrev pub PrevSite : Ref → Prev → Type 0
  PrevSite r prev.None = Unit {0}
  PrevSite r (prev.Pending p) = s.path p ≡ s.path r
  PrevSite r (prev.Failed p) = s.path p ≡ s.path r

  -- ---- lines; the hash is that of the call's key

  -- what READ found there
  abbrev pub ReadSite : Ref → ReadLine → Type 0
  ReadSite i read.Main = Unit {0}
  ReadSite i (read.Prev main) = s.path main ≡ s.path i
  ReadSite i (read.AskRoot main previous) = (s.path main ≡ s.path i) × (s.path previous ≡ s.path i)
  ReadSite i (read.Abort main previous offer) = (s.path main ≡ s.path i) × (s.path previous ≡ s.path i)
  ReadSite i (read.Decide main previous told) = (s.path main ≡ s.path i) × (s.path previous ≡ s.path i)
  ReadSite i (read.Restore main previous) = s.path previous ≡ s.path i

  -- it stands on the way to a hash, at this depth
  abbrev pub IsOnWay : ℕ → ℕ → Ref → Type 0
  IsOnWay hash depth r = s.path r ≡ path_to hash depth

  -- each indirection of a path leads one level deeper to the hash
  abbrev pub PathSite : ℕ → List Ref → Type 0
  PathSite hash path = (k : ℕ) (d : Ref) → k < length path → IsOnWay hash k (slice_index_or path k d)

  abbrev pub PlaceSite : ℕ → List Ref → Ref → Type 0
  PlaceSite hash path main = PathSite hash path × IsOnWay hash (depth_of path) main

  abbrev pub KeySite : ℕ → KeyLine → Type 0
  KeySite hash (key.Read path r) = PathSite hash path × IsOnWay hash (depth_of path) r.indirection × ReadSite r.indirection r.line
  KeySite hash (key.Main path main) = PlaceSite hash path main
  KeySite hash (key.Entry path main position) = PlaceSite hash path main
  KeySite hash (key.Listed path main position) = PlaceSite hash path main
  KeySite hash (key.Sibling path main position former) = PlaceSite hash path main

  -- a chain begins one level deeper
  abbrev pub UpdateSite : ℕ → List Ref → Option ℕ → Ref → Type 0
  UpdateSite hash path None entry = IsOnWay hash (depth_of path + 1) entry
  UpdateSite hash path (Some value) entry = Unit {0}

  abbrev pub ChangeSite : ℕ → List Ref → Option ℕ → Change → Type 0
  ChangeSite hash path former (change.Update position entry) = UpdateSite hash path former entry
  ChangeSite hash path former c = Unit {0}

  abbrev pub BuildSite : ℕ → BuildLine → Type 0
  BuildSite hash (build.Single path main where_ former) = PlaceSite hash path main
  BuildSite hash (build.Pair path main position single depth) = PlaceSite hash path main
  BuildSite hash (build.Link path main position below depth) = PlaceSite hash path main × IsOnWay hash depth below
  BuildSite hash (build.Rung path main position below depth) = PlaceSite hash path main × IsOnWay hash (depth + 1) below
  BuildSite hash (build.Main path main c former) = PlaceSite hash path main × ChangeSite hash path former c

  abbrev pub entry_in : Ref → ℕ → Ref
  entry_in main n = slice_index_or (entries_of (s.node main)) n no_ref

  -- the entries that are done may stand in the places of the old ones
  abbrev pub DoneSite : ℕ → List Ref → Ref → List Ref → Type 0
  DoneSite hash path main done =
      PlaceSite hash path main × (length done ≤ length (entries_of (s.node main)))
      × ((n : ℕ) → n < length done → Fits (trie_at kind s) main (entry_in main n) (slice_index_or done n no_ref))

  -- the next one is an indirection
  abbrev pub NextSite : Ref → List Ref → Ref → Type 0
  NextSite main done i = (i ≡ entry_in main (length done)) × (is_indirection (s.node i) ≡ true)

  abbrev pub RenewSite : ℕ → RenewLine → Type 0
  RenewSite hash (renew.Entry path main done) = DoneSite hash path main done
  RenewSite hash (renew.Read path main done r) = DoneSite hash path main done × NextSite main done r.indirection × ReadSite r.indirection r.line
  RenewSite hash (renew.Link path main done child) =
      DoneSite hash path main done × NextSite main done (entry_in main (length done)) × (s.path child ≡ s.path (entry_in main (length done)))
  RenewSite hash (renew.Branch path main done) = DoneSite hash path main done

  abbrev pub CleanSite : ℕ → CleanLine → Type 0
  CleanSite hash (clean.Read path r) = PathSite hash path × IsOnWay hash (depth_of path) r.indirection × ReadSite r.indirection r.line
  CleanSite hash (clean.Main path main) = PlaceSite hash path main
  CleanSite hash (clean.Entry path main done) = DoneSite hash path main done
  CleanSite hash (clean.Child path main done r) = DoneSite hash path main done × NextSite main done r.indirection × ReadSite r.indirection r.line
  CleanSite hash (clean.Tomb path main done child) =
      DoneSite hash path main done × NextSite main done (entry_in main (length done)) × (s.path child ≡ s.path (entry_in main (length done)))
      × (s.level child ≡ s.level (entry_in main (length done)))
  CleanSite hash (clean.Contracted path main done) = DoneSite hash path main done

  -- the tomb's single is on the way as far as the tomb is
  abbrev pub CarriesSite : ℕ → Climb → Type 0
  CarriesSite hash c =
      PathSite hash c.path × ((key value : ℕ) → s.node c.single ≡ Single key value → path_to (hash_of kind key) (depth_of c.path) ≡ path_to hash (depth_of c.path))

  -- the parent's entry for the hash is the tombed indirection
  abbrev pub HoldsTombed : ℕ → Climb → Ref → Type 0
  HoldsTombed hash c main = entry_in main (position_of (flag_of hash (depth_of (above c.path))) (bitmap_of (s.node main))) ≡ current c.path

  abbrev pub ClimbSite : ℕ → ClimbLine → Type 0
  ClimbSite hash (climb.Read c r) = CarriesSite hash c × IsOnWay hash (depth_of (above c.path)) r.indirection × ReadSite r.indirection r.line
  ClimbSite hash (climb.Main c main) = CarriesSite hash c × IsOnWay hash (depth_of (above c.path)) main
  ClimbSite hash (climb.Contracted c main) = CarriesSite hash c × IsOnWay hash (depth_of (above c.path)) main × HoldsTombed hash c main
  ClimbSite hash (climb.Root c l) = CarriesSite hash c

  abbrev pub SwapLineSite : Ref → SwapLine → Type 0
  SwapLineSite i swap.Publish = Unit {0}
  SwapLineSite i (swap.Deciding l) = ReadSite i l
  SwapLineSite i swap.Check = Unit {0}

  abbrev pub PurposeSite : ℕ → Ref → Purpose → Type 0
  PurposeSite hash i (purpose.Update path former) = PathSite hash path × (i ≡ current path)
  PurposeSite hash i (purpose.Renew path) = PathSite hash path
  PurposeSite hash i purpose.Clean = Unit {0}
  PurposeSite hash i (purpose.Climb c) = CarriesSite hash c

  -- the nodes of a SWAP
  abbrev pub SwapSite : Ref → Ref → Ref → Type 0
  SwapSite i replaced fresh = (s.path replaced ≡ s.path i) × (s.path fresh ≡ s.path i)

  abbrev pub WalkSite : WalkLine → Type 0
  WalkSite (walk.Read r todo pairs) = ReadSite r.indirection r.line
  WalkSite l = Unit {0}

  -- roots alone are in the lines of ROOT and COPY: they have the empty path
  abbrev pub LineSite : ℕ → Line → Type 0
  LineSite hash (line.Root l) = Unit {0}
  LineSite hash (line.Key l) = KeySite hash l
  LineSite hash (line.Build l) = BuildSite hash l
  LineSite hash (line.Swap why w) = SwapSite w.indirection w.replaced w.fresh × SwapLineSite w.indirection w.line × PurposeSite hash w.indirection why
  LineSite hash (line.Renew l) = RenewSite hash l
  LineSite hash (line.Clean l) = CleanSite hash l
  LineSite hash (line.Climb l) = ClimbSite hash l
  LineSite hash (line.Copy l) = Unit {0}
  LineSite hash (line.Walk l) = WalkSite l
  LineSite hash (line.End answer) = Unit {0}
  LineSite hash line.Impossible = Unit {0}
