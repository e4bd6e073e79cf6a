-- What each word and each line of a program takes the references that stand in it for. The laws say that each of them names
-- a slot in use that is so.
use Rattle.std.specs.Prelude.{◌≡◌, ℕ, ◌-◌, ◌<◌, ◌&&◌, Bool, true, false, nat_lt, nat_le, is_some, count_ones, ◌^◌, List, [], ◌∷◌, ◌++◌, All, length, Option, Some, None}
use Rattle.proof_memory.specs.Vocabulary.{HashKind, hash_of, Access, Writable, ReadOnly, Call, Ref, Node, Indirection, Branch, Single, Tomb, List as Listed, Prev, Heap, node_at, entry_at}
use Rattle.proof_memory.specs.Vocabulary.{entries_of, refs_of_option, flag_of, has_flag, Action, ReadLine, Swap, SwapLine, CompleteLine, Descriptor, RootLine, RootWord, Plain, Offer, KeyLine}
use Rattle.proof_memory.specs.Vocabulary.{BuildLine, Change, Site, RenewLine, CleanLine, ClimbLine, Climb, CopyLine, WalkLine, Purpose, Line, key_of, above, depth_of, is_single}
use Rattle.proof_memory.specs.Beneath.slot_arena.specs.declared.nodes.Prev.TheVariants as prev
use Rattle.machine_model.specs.declared.actions.Action.TheVariants as act
use Rattle.machine_model.specs.declared.reading.ReadLine.TheVariants as read
use Rattle.machine_model.specs.declared.reading.SwapLine.TheVariants as swap
use Rattle.machine_model.specs.declared.roots.CompleteLine.TheVariants as complete
use Rattle.machine_model.specs.declared.roots.RootLine.TheVariants as root
use Rattle.machine_model.specs.declared.finding.KeyLine.TheVariants as key
use Rattle.machine_model.specs.declared.building.BuildLine.TheVariants as build
use Rattle.machine_model.specs.declared.building.Change.TheVariants as change
use Rattle.machine_model.specs.declared.building.Site.TheVariants as site
use Rattle.machine_model.specs.declared.repairs.RenewLine.TheVariants as renew
use Rattle.machine_model.specs.declared.repairs.CleanLine.TheVariants as clean
use Rattle.machine_model.specs.declared.repairs.ClimbLine.TheVariants as climb
use Rattle.machine_model.specs.declared.copying.CopyLine.TheVariants as copy
use Rattle.machine_model.specs.declared.walking.WalkLine.TheVariants as walk
use Rattle.machine_model.specs.declared.lines.Purpose.TheVariants as purpose
use Rattle.machine_model.specs.declared.lines.Line.TheVariants as line
pub use Rattle.proof_memory.specs.Beneath.slot_arena.specs.Arenas.{is_indirection, is_main_node}

-- ---- what a node is taken for

pub data Wanted : Type 0 where
  Anything : Wanted
  AnIndirection : Wanted
  -- a main node: a branch, a tomb or a list
  AMain : Wanted
  ABranch : Wanted
  AList : Wanted
  BranchOrList : Wanted
  TombOrList : Wanted
  -- what stands in a branch: an indirection or a single
  AnEntry : Wanted
  ASingle : Wanted
  -- a main node with an entry at this position
  WithEntry : (position : ℕ) → Wanted
  -- one with at most so many entries
  AtMost : (n : ℕ) → Wanted
  -- a branch with this flag
  WithFlag : (flag : ℕ) → Wanted
  -- one that an entry can be taken out of: a branch with this flag, or a list of three or more
  ToSpare : (flag : ℕ) → Wanted

abbrev pub is_branch : Node → Bool
is_branch (Branch bitmap entries) = true
is_branch node = false

abbrev pub is_list : Node → Bool
is_list (Listed singles) = true
is_list node = false

abbrev pub is_branch_or_list : Node → Bool
is_branch_or_list (Branch bitmap entries) = true
is_branch_or_list (Listed singles) = true
is_branch_or_list node = false

abbrev pub is_tomb_or_list : Node → Bool
is_tomb_or_list (Tomb single) = true
is_tomb_or_list (Listed singles) = true
is_tomb_or_list node = false

abbrev pub is_entry : Node → Bool
is_entry (Indirection generation main) = true
is_entry (Single key value) = true
is_entry node = false

abbrev pub flags : ℕ → Node → Bool
flags flag (Branch bitmap entries) = has_flag bitmap flag
flags flag node = false

abbrev pub spares : ℕ → Node → Bool
spares flag (Branch bitmap entries) = has_flag bitmap flag
spares flag (Listed singles) = nat_lt 2 (length singles.items)
spares flag node = false

-- the node is what is wanted
abbrev pub meets : Wanted → Node → Bool
meets Anything node = true
meets AnIndirection node = is_indirection node
meets AMain node = is_main_node node
meets ABranch node = is_branch node
meets AList node = is_list node
meets BranchOrList node = is_branch_or_list node
meets TombOrList node = is_tomb_or_list node
meets AnEntry node = is_entry node
meets ASingle node = is_single node
meets (WithEntry position) node = nat_lt position (length (entries_of node))
meets (AtMost n) node = nat_le (length (entries_of node)) n
meets (WithFlag flag) node = flags flag node
meets (ToSpare flag) node = spares flag node

-- ---- claims

pub data Claim : Type 0 where
  -- under the reference stands what is wanted
  Is : (r : Ref) → (wanted : Wanted) → Claim
  -- the same of each of these
  Each : (rs : List Ref) → (wanted : Wanted) → Claim
  -- the main node has an entry at this position, which is what is wanted
  EntryIs : (main : Ref) → (position : ℕ) → (wanted : Wanted) → Claim
  -- a fact that no heap changes
  So : (fact : Bool) → Claim

-- the claim is true in the heap, where S says which references name what was made under them
pub data Holds (S : Ref → Type 0) (heap : Heap) : Claim → Type 0 where
  is : {r : Ref} {wanted : Wanted} → S r → meets wanted (node_at heap r) ≡ true → Holds S heap (Is r wanted)
  each : {rs : List Ref} {wanted : Wanted} → All (λ r. S r × (meets wanted (node_at heap r) ≡ true)) rs → Holds S heap (Each rs wanted)
  entry_is : {main : Ref} {position : ℕ} {wanted : Wanted} → S main → position < length (entries_of (node_at heap main)) →
      S (entry_at heap main position) → meets wanted (node_at heap (entry_at heap main position)) ≡ true → Holds S heap (EntryIs main position wanted)
  so : {fact : Bool} → fact ≡ true → Holds S heap (So fact)

-- each of the claims is true
abbrev pub AllHold : (Ref → Type 0) → Heap → List Claim → Type 0
AllHold S heap [] = Unit {0}
AllHold S heap (claim ∷ claims) = Holds S heap claim × AllHold S heap claims

-- ---- words and nodes

-- a branch's bitmap has 32 bits, and no more ones than there are entries; a list has two singles or more
abbrev pub is_formed : Node → Bool
is_formed (Branch bitmap entries) = nat_lt bitmap (2 ^ 32) && nat_le (count_ones bitmap) (length entries.items)
is_formed (Listed singles) = nat_le 2 (length singles.items)
is_formed node = true

abbrev pub node_wants : Node → List Claim
node_wants (Indirection generation main) = Is main AMain ∷ []
node_wants (Branch bitmap entries) = Each entries.items AnEntry ∷ []
node_wants (Single key value) = []
node_wants (Tomb single) = Is single ASingle ∷ []
node_wants (Listed singles) = Each singles.items ASingle ∷ []

abbrev pub prev_wants : Prev → List Claim
prev_wants prev.None = []
prev_wants (prev.Pending p) = Is p AMain ∷ []
prev_wants (prev.Failed p) = Is p AMain ∷ []

abbrev pub offer_wants : Descriptor → List Claim
offer_wants offer = Is offer.root AnIndirection ∷ Is offer.expected AMain ∷ Is offer.successor AnIndirection ∷ Each (refs_of_option offer.second) AnIndirection ∷ []

abbrev pub word_wants : RootWord → List Claim
word_wants (Plain r) = Is r AnIndirection ∷ []
word_wants (Offer offer) = offer_wants offer

-- ---- actions

abbrev pub action_wants : Action → List Claim
action_wants act.ReadRoot = []
action_wants (act.Abort offer) = offer_wants offer
action_wants (act.Offer offer) = offer_wants offer
action_wants (act.Complete offer main) = Is main AMain ∷ offer_wants offer
action_wants (act.ReadMain indirection) = Is indirection AnIndirection ∷ []
action_wants (act.Publish indirection replaced fresh) = Is indirection AnIndirection ∷ Is replaced AMain ∷ Is fresh AMain ∷ []
action_wants (act.Restore indirection main previous) = Is indirection AnIndirection ∷ Is main AMain ∷ Is previous AMain ∷ []
action_wants (act.ReadPrev main) = Is main AMain ∷ []
action_wants (act.Decide indirection main previous told) = Is indirection AnIndirection ∷ Is main AMain ∷ Is previous AMain ∷ []
action_wants (act.Look at) = Is at Anything ∷ []
action_wants (act.Make node) = So (is_formed node) ∷ node_wants node
action_wants (act.MakeRoot main) = Is main AMain ∷ []
action_wants (act.End answer) = []

-- ---- lines

abbrev pub read_wants : Ref → ReadLine → List Claim
read_wants indirection read.Main = Is indirection AnIndirection ∷ []
read_wants indirection (read.Prev main) = Is indirection AnIndirection ∷ Is main AMain ∷ []
read_wants indirection (read.AskRoot main previous) = Is indirection AnIndirection ∷ Is main AMain ∷ Is previous AMain ∷ []
read_wants indirection (read.Abort main previous offer) = Is indirection AnIndirection ∷ Is main AMain ∷ Is previous AMain ∷ offer_wants offer
read_wants indirection (read.Decide main previous told) = Is indirection AnIndirection ∷ Is main AMain ∷ Is previous AMain ∷ []
read_wants indirection (read.Restore main previous) = Is indirection AnIndirection ∷ Is main AMain ∷ Is previous AMain ∷ []

abbrev pub complete_wants : Descriptor → CompleteLine → List Claim
complete_wants offer (complete.Reading l) = offer_wants offer ++ read_wants offer.root l
complete_wants offer (complete.Swap main) = offer_wants offer ++ Is main AMain ∷ []

abbrev pub root_wants : RootLine → List Claim
root_wants root.Read = []
root_wants (root.Completing c) = complete_wants c.offer c.line

-- a path has an indirection at least
abbrev pub path_wants : List Ref → List Claim
path_wants path = Each path AnIndirection ∷ So (nat_lt 0 (length path)) ∷ []

-- what has the path is at this main node
abbrev pub place_wants : List Ref → Ref → Wanted → List Claim
place_wants path main wanted = Each path AnIndirection ∷ So (nat_lt 0 (length path)) ∷ Is main wanted ∷ []

-- on a read-only handle the single of a tomb is looked at like those of a list
abbrev pub listed : Access → Wanted
listed Writable = AList
listed ReadOnly = TombOrList

-- the flag of the call's key at the end of a path
abbrev pub flag_on : HashKind → Call → List Ref → ℕ
flag_on kind call path = flag_of (hash_of kind (key_of call)) (depth_of path)

abbrev pub key_wants : HashKind → Call → Access → KeyLine → List Claim
key_wants kind call access (key.Read path r) = path_wants path ++ read_wants r.indirection r.line
key_wants kind call access (key.Main path main) = place_wants path main AMain
key_wants kind call access (key.Entry path main position) =
    place_wants path main ABranch ++ Is main (WithEntry position) ∷ Is main (WithFlag (flag_on kind call path)) ∷ []
key_wants kind call access (key.Listed path main position) = place_wants path main (listed access) ++ Is main (WithEntry position) ∷ []
key_wants kind call access (key.Sibling path main position former) =
    place_wants path main ABranch ++ Is main (WithEntry (1 - position)) ∷ Is main (WithFlag (flag_on kind call path)) ∷ []

abbrev pub site_wants : Ref → Option ℕ → Site → List Claim
site_wants main former site.Absent = []
site_wants main former (site.At position) = So (is_some former) ∷ []
site_wants main former (site.Beside position) = Is main ABranch ∷ EntryIs main position ASingle ∷ []

-- what is put in place of an entry is a single where the key had a value, and else the top of a chain of indirections
abbrev pub update_wants : Ref → Ref → Option ℕ → List Claim
update_wants main entry None = Is main ABranch ∷ Is entry AnIndirection ∷ []
update_wants main entry (Some value) = Is entry ASingle ∷ []

abbrev pub change_wants : Ref → ℕ → Option ℕ → Change → List Claim
change_wants main flag former (change.Insert single) = Is single ASingle ∷ []
change_wants main flag former (change.Update position entry) = update_wants main entry former
change_wants main flag former (change.Remove position) = Is main (ToSpare flag) ∷ []
change_wants main flag former (change.Entomb single) = Is single ASingle ∷ []

abbrev pub build_wants : HashKind → Call → BuildLine → List Claim
build_wants kind call (build.Single path main s former) = place_wants path main BranchOrList ++ site_wants main former s
build_wants kind call (build.Pair path main position single depth) = place_wants path main ABranch ++ EntryIs main position ASingle ∷ Is single ASingle ∷ []
build_wants kind call (build.Link path main position below depth) = place_wants path main ABranch ++ Is below AMain ∷ []
build_wants kind call (build.Rung path main position below depth) = place_wants path main ABranch ++ Is below AnIndirection ∷ []
build_wants kind call (build.Main path main c former) = place_wants path main BranchOrList ++ change_wants main (flag_on kind call path) former c

abbrev pub swap_line_wants : Ref → SwapLine → List Claim
swap_line_wants indirection swap.Publish = []
swap_line_wants indirection (swap.Deciding l) = read_wants indirection l
swap_line_wants indirection swap.Check = []

abbrev pub swap_wants : Swap → List Claim
swap_wants s = Is s.indirection AnIndirection ∷ Is s.replaced AMain ∷ Is s.fresh AMain ∷ swap_line_wants s.indirection s.line

abbrev pub climb_carries : Climb → List Claim
climb_carries c = Each c.path AnIndirection ∷ So (nat_lt 1 (length c.path)) ∷ Is c.single ASingle ∷ []

abbrev pub purpose_wants : Purpose → List Claim
purpose_wants (purpose.Update path former) = path_wants path
purpose_wants (purpose.Renew path) = path_wants path
purpose_wants purpose.Clean = []
purpose_wants (purpose.Climb c) = climb_carries c

-- the entries that are done, and the one after them
abbrev pub done_wants : List Ref → Ref → List Ref → List Claim
done_wants path main done = place_wants path main ABranch ++ Each done AnEntry ∷ Is main (WithEntry (length done)) ∷ []

-- all entries are done
abbrev pub all_done_wants : List Ref → Ref → List Ref → List Claim
all_done_wants path main done = place_wants path main ABranch ++ Each done AnEntry ∷ Is main (AtMost (length done)) ∷ []

abbrev pub renew_wants : RenewLine → List Claim
renew_wants (renew.Entry path main done) = done_wants path main done
renew_wants (renew.Read path main done r) = done_wants path main done ++ read_wants r.indirection r.line
renew_wants (renew.Link path main done child) = done_wants path main done ++ Is child AMain ∷ []
renew_wants (renew.Branch path main done) = all_done_wants path main done

abbrev pub clean_wants : CleanLine → List Claim
clean_wants (clean.Read path r) = path_wants path ++ read_wants r.indirection r.line
clean_wants (clean.Main path main) = place_wants path main AMain
clean_wants (clean.Entry path main done) = done_wants path main done
clean_wants (clean.Child path main done r) = done_wants path main done ++ read_wants r.indirection r.line
clean_wants (clean.Tomb path main done child) = done_wants path main done ++ Is child AMain ∷ []
clean_wants (clean.Contracted path main done) = all_done_wants path main done

abbrev pub climb_wants : HashKind → Call → ClimbLine → List Claim
climb_wants kind call (climb.Read c r) = climb_carries c ++ read_wants r.indirection r.line
climb_wants kind call (climb.Main c main) = climb_carries c ++ Is main AMain ∷ []
climb_wants kind call (climb.Contracted c main) = climb_carries c ++ Is main ABranch ∷ Is main (WithFlag (flag_on kind call (above c.path))) ∷ []
climb_wants kind call (climb.Root c l) = climb_carries c ++ root_wants l

abbrev pub copy_wants : CopyLine → List Claim
copy_wants (copy.Read r l) = Is r AnIndirection ∷ read_wants l.indirection l.line
copy_wants (copy.Successor r main) = Is r AnIndirection ∷ Is main AMain ∷ []
copy_wants (copy.Second r main successor) = Is r AnIndirection ∷ Is main AMain ∷ Is successor AnIndirection ∷ []
copy_wants (copy.Empty r main) = Is r AnIndirection ∷ Is main AMain ∷ []
copy_wants (copy.Cleared r main branch) = Is r AnIndirection ∷ Is main AMain ∷ Is branch AMain ∷ []
copy_wants (copy.Offer offer) = offer_wants offer
copy_wants (copy.Complete c) = complete_wants c.offer c.line

abbrev pub walk_wants : WalkLine → List Claim
walk_wants walk.Root = []
walk_wants (walk.Read r todo pairs) = Each todo AnEntry ∷ read_wants r.indirection r.line
walk_wants (walk.Main main todo pairs) = Each todo AnEntry ∷ Is main AMain ∷ []
walk_wants (walk.Entry todo pairs) = Each todo AnEntry ∷ So (nat_lt 0 (length todo)) ∷ []

-- what the line of a call, on a handle of this kind, takes its references for
abbrev pub line_wants : HashKind → Call → Access → Line → List Claim
line_wants kind call access (line.Root l) = root_wants l
line_wants kind call access (line.Key l) = key_wants kind call access l
line_wants kind call access (line.Build l) = build_wants kind call l
line_wants kind call access (line.Swap why s) = swap_wants s ++ purpose_wants why
line_wants kind call access (line.Renew l) = renew_wants l
line_wants kind call access (line.Clean l) = clean_wants l
line_wants kind call access (line.Climb l) = climb_wants kind call l
line_wants kind call access (line.Copy l) = copy_wants l
line_wants kind call access (line.Walk l) = walk_wants l
line_wants kind call access (line.End answer) = []
line_wants kind call access line.Impossible = []
