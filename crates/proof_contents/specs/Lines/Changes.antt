-- What an operation's line knows of the nodes that it has looked at and made, where it goes down to a key or builds a change of
-- it. What stands under each reference is a function, and so is the main node with which each indirection was made.
use Rattle.std.specs.Prelude.{◌≡◌, ◌≢◌, ℕ, suc, ◌+◌, ◌-◌, ◌<◌, ◌≤◌, ◌⊎◌, true, false, length, take, slice_index_or, Option, Some, None, List}
use Rattle.arrayvec.specs.ArrayVec.{ArrayVec}
use Rattle.proof_contents.specs.Vocabulary.{position_of, hash_of, HashKind, Call, Get, Ref, Node, Indirection, Branch, Single, Tomb, List as Listed, no_ref, flag_of, has_flag, index_in, list_depth}
use Rattle.proof_contents.specs.Vocabulary.{parting, pair, rung, Site, Change, BuildLine, KeyLine, Sets, Removes, Line, key_of, value_of, inserts, when_found, depth_of, changed}
use Rattle.proof_contents.specs.Nodes.Looking.{Absent, look_among}
use Rattle.proof_contents.specs.Nodes.Chains.{Parts, LeadsToPair}
use Rattle.machine_model.specs.declared.building.Site.TheVariants as site
use Rattle.machine_model.specs.declared.building.Change.TheVariants as change
use Rattle.machine_model.specs.declared.building.BuildLine.TheVariants as build
use Rattle.machine_model.specs.declared.finding.KeyLine.TheVariants as key
use Rattle.machine_model.specs.declared.lines.Purpose.TheVariants as purpose
use Rattle.machine_model.specs.declared.lines.Line.TheVariants as line

-- the path of a line of BUILD
abbrev pub build_path : BuildLine → List Ref
build_path (build.Single path main site former) = path
build_path (build.Pair path main position single depth) = path
build_path (build.Link path main position below depth) = path
build_path (build.Rung path main position below depth) = path
build_path (build.Main path main c former) = path

-- the main node from which it builds
abbrev pub main_of_build : BuildLine → Ref
main_of_build (build.Single path main site former) = main
main_of_build (build.Pair path main position single depth) = main
main_of_build (build.Link path main position below depth) = main
main_of_build (build.Rung path main position below depth) = main
main_of_build (build.Main path main c former) = main

-- the main node that KEY was given
abbrev pub main_of_key : KeyLine → Option Ref
main_of_key (key.Read path read) = None
main_of_key (key.Main path main) = Some main
main_of_key (key.Entry path main position) = Some main
main_of_key (key.Listed path main position) = Some main
main_of_key (key.Sibling path main position former) = Some main

-- what nodes there are, and how keys are hashed
pub record Known : Type 0 where
  pub kind : HashKind
  pub node : Ref → Node
  pub first : Ref → Ref

abbrev pub flag_in : Known → ℕ → ℕ → ℕ
flag_in known depth key = flag_of (hash_of known.kind key) depth

-- a branch with an entry of the key's flag, at this position
pub record IsFlagged (known : Known) (depth key : ℕ) (main : Ref) (position : ℕ) (bitmap : ℕ) (entries : ArrayVec Ref) : Type 0 where
  pub is : known.node main ≡ Branch bitmap entries
  pub flagged : has_flag bitmap (flag_in known depth key) ≡ true
  pub at : position ≡ position_of (flag_in known depth key) bitmap

-- the key isn't in the main node, and there is room for it
pub data Absence (known : Known) (depth key : ℕ) (main : Ref) : Type 0 where
  no_flag : (bitmap : ℕ) (entries : ArrayVec Ref) → known.node main ≡ Branch bitmap entries → has_flag bitmap (flag_in known depth key) ≡ false → Absence known depth key main
  not_listed : (singles : ArrayVec Ref) → known.node main ≡ Listed singles → length singles.items < 32 → look_among known.node key singles.items ≡ Absent →
      Absence known depth key main

-- the key's single stands at this position, with this value
pub data Presence (known : Known) (depth key : ℕ) (main : Ref) (position value : ℕ) : Type 0 where
  in_branch : (bitmap : ℕ) (entries : ArrayVec Ref) → IsFlagged known depth key main position bitmap entries →
      known.node (slice_index_or entries.items position no_ref) ≡ Single key value → Presence known depth key main position value
  in_list : (singles : ArrayVec Ref) → known.node main ≡ Listed singles → position < length singles.items →
      known.node (slice_index_or singles.items position no_ref) ≡ Single key value → Presence known depth key main position value

-- another key's single stands in the key's place
pub record Neighbour (known : Known) (depth key : ℕ) (main : Ref) (position : ℕ) : Type 0 where
  pub bitmap : ℕ
  pub entries : ArrayVec Ref
  pub branch : IsFlagged known depth key main position bitmap entries
  pub other : ℕ
  pub own : ℕ
  pub is : known.node (slice_index_or entries.items position no_ref) ≡ Single other own
  pub apart : other ≢ key

-- so far the singles of the list have other keys
pub record GoesThrough (known : Known) (key : ℕ) (main : Ref) (position : ℕ) (singles : ArrayVec Ref) : Type 0 where
  pub is : known.node main ≡ Listed singles
  pub within : position < length singles.items
  pub none : look_among known.node key (take position singles.items) ≡ Absent

-- the single that is to be left is the other one of two
pub data IsOther (known : Known) (depth key : ℕ) (main other : Ref) (value : ℕ) : Type 0 where
  of_branch : (bitmap position own own_value : ℕ) (entries : ArrayVec Ref) → IsFlagged known depth key main position bitmap entries →
      known.node (slice_index_or entries.items position no_ref) ≡ Single key value → length entries.items ≡ 2 → other ≡ slice_index_or entries.items (1 - position) no_ref →
      known.node other ≡ Single own own_value → IsOther known depth key main other value
  of_list : (position : ℕ) (singles : ArrayVec Ref) → known.node main ≡ Listed singles → position < length singles.items →
      known.node (slice_index_or singles.items position no_ref) ≡ Single key value → length singles.items ≡ 2 → other ≡ slice_index_or singles.items (1 - position) no_ref →
      IsOther known depth key main other value

-- the call gives its key a value that it hadn't
abbrev pub Inserts : Call → Option ℕ → Type 0
Inserts call former = (former ≡ None) × (inserts call ≡ true)

-- ---- lines

-- of where the new single goes
abbrev pub KnowsSite : Known → Call → ℕ → Ref → Option ℕ → Site → Type 0
KnowsSite known call depth main former site.Absent = Inserts call former × Absence known depth (key_of call) main
KnowsSite known call depth main former (site.At position) =
    (value : ℕ) × (former ≡ Some value) × (when_found call value ≡ Sets) × Presence known depth (key_of call) main position value
KnowsSite known call depth main former (site.Beside position) = Inserts call former × Neighbour known depth (key_of call) main position

-- the new single
abbrev pub IsNewSingle : Known → Call → Ref → Type 0
IsNewSingle known call single = known.node single ≡ Single (key_of call) (value_of call)

-- the indirection of this depth leads to the other key's single and the new one
abbrev pub LeadsToBoth : (known : Known) (call : Call) (depth : ℕ) (main : Ref) (position : ℕ) → Neighbour known depth (key_of call) main position → Ref → ℕ → Ref → Type 0
LeadsToBoth known call depth main position beside single below link =
    ((generation : ℕ) × (word : Ref) × (known.node link ≡ Indirection generation word))
    × LeadsToPair known.node known.first known.kind beside.other (key_of call) (slice_index_or beside.entries.items position no_ref) single (15 - below) below link

-- up to this depth the two keys have one path
abbrev pub IsAlike : (known : Known) (call : Call) (depth : ℕ) (main : Ref) (position : ℕ) → Neighbour known depth (key_of call) main position → ℕ → Type 0
IsAlike known call depth main position beside end =
    (end ≤ 13) × ((d : ℕ) → suc depth ≤ d → d ≤ end → index_in (hash_of known.kind beside.other) d ≡ index_in (hash_of known.kind (key_of call)) d)

-- A main node for this depth leads to both: it is the pair, or a rung over an indirection that does.
pub data LeadsBelow (known : Known) (call : Call) (depth : ℕ) (main : Ref) (position : ℕ) (beside : Neighbour known depth (key_of call) main position)
    (single : Ref) (end : ℕ) (below : Ref) : Type 0 where
  by_pair : known.node below ≡ pair known.kind end (hash_of known.kind beside.other) (hash_of known.kind (key_of call)) (slice_index_or beside.entries.items position no_ref) single →
      Parts known.kind beside.other (key_of call) end → depth < end → end ≤ 13 →
      ((d : ℕ) → suc depth ≤ d → d < end → index_in (hash_of known.kind beside.other) d ≡ index_in (hash_of known.kind (key_of call)) d) →
      LeadsBelow known call depth main position beside single end below
  by_link : (link : Ref) → known.node below ≡ rung (hash_of known.kind (key_of call)) end link → LeadsToBoth known call depth main position beside single (suc end) link →
      depth < end → IsAlike known call depth main position beside end → LeadsBelow known call depth main position beside single end below

-- of what becomes of the main node
abbrev pub KnowsChange : Known → Call → ℕ → Ref → Option ℕ → Change → Type 0
KnowsChange known call depth main former (change.Insert single) = Inserts call former × Absence known depth (key_of call) main × IsNewSingle known call single
KnowsChange known call depth main former (change.Update position entry) =
    ((value : ℕ) × (former ≡ Some value) × (when_found call value ≡ Sets) × Presence known depth (key_of call) main position value × IsNewSingle known call entry)
    ⊎ (Inserts call former
    × ((beside : Neighbour known depth (key_of call) main position) × (single : Ref) × IsNewSingle known call single × LeadsToBoth known call depth main position beside single (suc depth) entry))
KnowsChange known call depth main former (change.Remove position) =
    (value : ℕ) × (former ≡ Some value) × (when_found call value ≡ Removes) × Presence known depth (key_of call) main position value
KnowsChange known call depth main former (change.Entomb other) =
    (value : ℕ) × (former ≡ Some value) × (when_found call value ≡ Removes) × IsOther known depth (key_of call) main other value

-- of a main node that was made, it is the one before it with such a change
abbrev pub KnowsSwap : Known → Call → ℕ → Ref → Option ℕ → Ref → Type 0
KnowsSwap known call depth replaced former fresh =
    (c : Change) × KnowsChange known call depth replaced former c × (known.node fresh ≡ changed (flag_in known depth (key_of call)) (known.node replaced) c)

abbrev pub IsGet : Call → Type 0
IsGet (Get h k) = Unit {0}
IsGet call = ⊥

-- a READ's line and what comes before KEY knows nothing
abbrev pub KnowsKey : Known → Call → KeyLine → Type 0
KnowsKey known call (key.Read path read) = Unit {0}
KnowsKey known call (key.Main path main) = Unit {0}
KnowsKey known call (key.Entry path main position) =
    (bitmap : ℕ) × (entries : ArrayVec Ref) × IsFlagged known (depth_of path) (key_of call) main position bitmap entries
KnowsKey known call (key.Listed path main position) =
    ((singles : ArrayVec Ref) × GoesThrough known (key_of call) main position singles) ⊎ ((single : Ref) × (known.node main ≡ Tomb single) × (position ≡ 0) × IsGet call)
KnowsKey known call (key.Sibling path main position former) =
    (bitmap : ℕ) × (entries : ArrayVec Ref) × IsFlagged known (depth_of path) (key_of call) main position bitmap entries
    × (known.node (slice_index_or entries.items position no_ref) ≡ Single (key_of call) former) × (length entries.items ≡ 2) × (when_found call former ≡ Removes)

abbrev pub KnowsBuild : Known → Call → BuildLine → Type 0
KnowsBuild known call (build.Single path main site former) = KnowsSite known call (depth_of path) main former site
KnowsBuild known call (build.Pair path main position single depth) =
    Inserts call None × ((beside : Neighbour known (depth_of path) (key_of call) main position) × IsNewSingle known call single
    × (depth ≡ parting (list_depth known.kind - (depth_of path + 1)) (hash_of known.kind beside.other) (hash_of known.kind (key_of call)) (depth_of path + 1)))
KnowsBuild known call (build.Link path main position below depth) =
    Inserts call None × ((beside : Neighbour known (depth_of path) (key_of call) main position) × (single : Ref) × IsNewSingle known call single
    × LeadsBelow known call (depth_of path) main position beside single depth below)
KnowsBuild known call (build.Rung path main position below depth) =
    Inserts call None × ((beside : Neighbour known (depth_of path) (key_of call) main position) × (single : Ref) × IsNewSingle known call single
    × LeadsToBoth known call (depth_of path) main position beside single (suc depth) below × (depth_of path < depth)
    × IsAlike known call (depth_of path) main position beside depth)
KnowsBuild known call (build.Main path main c former) = KnowsChange known call (depth_of path) main former c

-- of lines of KEY, BUILD and the swap of a change
abbrev pub KnowsLine : Known → Call → Line → Type 0
KnowsLine known call (line.Key l) = KnowsKey known call l
KnowsLine known call (line.Build l) = KnowsBuild known call l
KnowsLine known call (line.Swap (purpose.Update path former) s) = KnowsSwap known call (depth_of path) s.replaced former s.fresh
KnowsLine known call l = Unit {0}
