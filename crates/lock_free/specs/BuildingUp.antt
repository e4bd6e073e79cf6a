-- BUILD: from a new single to the SWAP of a main node.
use Rattle.std.specs.Prelude.{◌≡◌, ◌<◌, ◌^◌, ℕ, false, List, [], ◌∷◌, ◌++◌, nat_lt, if◌then◌else◌, Option, Some, None}
use Rattle.trie_words.specs.declared.entries.Entry.{Entry}
use Rattle.machine_model.specs.Beneath.ctrie_base.specs.Hashes.{hash_of}
use Rattle.machine_model.specs.Beneath.slot_arena.specs.declared.refs.Ref.{Ref}
use Rattle.machine_model.specs.Beneath.slot_arena.specs.declared.nodes.Node.TheVariants.{Branch}
use Rattle.trie_words.specs.declared.headers.Previous.TheVariants as previous
use Rattle.machine_model.specs.declared.actions.Action.TheVariants as act
use Rattle.nodes.specs.Builders.{pair}
use Rattle.machine_model.specs.Beneath.slot_arena.specs.Heaps.{node_at, entries_from}
use Rattle.machine_model.specs.declared.building.BuildLine.{BuildLine}
use Rattle.machine_model.specs.declared.building.BuildLine.TheVariants as build
use Rattle.machine_model.specs.declared.building.Change.{Change}
use Rattle.machine_model.specs.declared.building.Change.TheVariants as change
use Rattle.machine_model.specs.declared.building.Site.{Site}
use Rattle.machine_model.specs.declared.building.Site.TheVariants as site
use Rattle.machine_model.specs.Beneath.slot_arena.specs.declared.nodes.Slot.{Slot}
use Rattle.lock_free.specs.declared.changing.Edit.{Edit}
use Rattle.lock_free.specs.Changing.{IsChange, IsNoTomb}
use Rattle.machine_model.specs.declared.lines.Line.{Line}
use Rattle.machine_model.specs.declared.lines.Line.TheVariants as line
use Rattle.machine_model.specs.declared.lines.Purpose.TheVariants as purpose
use Rattle.machine_model.specs.declared.operations.Operation.{Operation}
use Rattle.machine_model.specs.Building.{changed}
use Rattle.machine_model.specs.Calls.{key_of, value_of}
use Rattle.machine_model.specs.Climbing.{climbed}
use Rattle.machine_model.specs.Operations.{after_update}
use Rattle.machine_model.specs.Paths.{current, depth_of, start_of}
use Rattle.machine_model.specs.Swapping.{swapping}
use Rattle.lock_free.specs.declared.building.Builder.{Builder}
use Rattle.lock_free.specs.declared.reading.Given.{Given}
use Rattle.lock_free.specs.declared.leaving.Drops.{Drops}
use Rattle.lock_free.specs.declared.leaving.Drops.TheVariants as drops
use Rattle.lock_free.specs.declared.rules.View.{View}
use Rattle.lock_free.specs.Dropping.{AreDropped}
use Rattle.lock_free.specs.Becoming.{HasBecome}
use Rattle.lock_free.specs.Holding.{IsOn}
use Rattle.lock_free.specs.Loading.{now, Runs, IsAt, IsUsed}
use Rattle.lock_free.specs.Passing.{KnowsLink, KnowsMain, IsPlaced}
use Rattle.lock_free.specs.SeenEntries.{entry_to, unowned, IsOver}

-- ---- what it goes by

-- the key, the value and the generation are those of its operation
pub record IsBuilder (v : View) (by : Builder) (path : List Ref) : Type 0 where
  pub calls : (operation : Operation) → Runs v operation → (key_of operation.call ≡ by.key) × (value_of operation.call ≡ by.value) × (start_of operation ≡ by.start)
  pub hashes : by.hashes ≡ v.sizes.hash
  pub hash : by.hash ≡ hash_of v.sizes.hash by.key
  pub depth : by.depth ≡ depth_of path
  pub short : by.depth < 14
  pub low : by.start < 2 ^ 36

-- READ gave this main node at the end of the path
pub record IsMain (v : View) (path : List Ref) (main : Ref) (given : Given) : Type 0 where
  pub link : KnowsLink v (current path) main given.link
  pub header : KnowsMain v main given.header

-- ---- where it comes to

-- it has made these, one after the other, and stands on this line
abbrev pub grown : List Ref → Line → Operation → Operation
grown more l operation = record operation { private = operation.private ++ more; line = l }

pub record HasReached (v : View) (l : Line) (w : View) : Type 0 where
  pub more : List Ref
  pub become : HasBecome (grown more l) v w

-- it is in BUILD still
abbrev pub HasStopped : View → View → Type 0
HasStopped before after = (l : BuildLine) × HasReached before (line.Build l) after

-- what of the entries before isn't among the new ones, where the new single comes to this place
abbrev pub drops_at : Site → Drops
drops_at site.Absent = drops.Nothing
drops_at (site.At position) = drops.At position
drops_at (site.Beside position) = drops.At position

-- it is to swap the main node in this slot in, which comes from the one before by this change
pub record HasFresh (before : View) (path : List Ref) (main : Ref) (place : Site) (former : Option ℕ) (name : ℕ) (after : View) : Type 0 where
  pub fresh : Ref
  pub placed : IsPlaced after fresh name
  pub its : Change
  pub flag : ℕ
  pub node_is : node_at (now after).heap fresh ≡ changed flag (node_at (now after).heap main) its
  pub reached : HasReached before (line.Swap (purpose.Update path former) (swapping (current path) main fresh)) after
  pub drops : AreDropped after main fresh (drops_at place)
  pub answers : (operation : Operation) → after_update operation path former (node_at (now after).heap fresh) ≡ climbed operation former

-- or no slot was had
abbrev pub HasBuiltUp : View → List Ref → Ref → Site → Option ℕ → Option ℕ → View → Type 0
HasBuiltUp before path main place former None after = HasStopped before after
HasBuiltUp before path main place former (Some name) after = HasFresh before path main place former name after

-- ---- from the new single

abbrev pub IsAtSingle : View → Builder → Given → Site → Option ℕ → Type 0
IsAtSingle v by given place former = (path : List Ref) × (main : Ref) × IsOn v (line.Build (build.Single path main place former)) × IsBuilder v by path × IsMain v path main given

abbrev pub HasBuiltSingle : View → Site → Option ℕ → Option ℕ → View → Type 0
HasBuiltSingle before place former result after =
    (path : List Ref) (main : Ref) → IsOn before (line.Build (build.Single path main place former)) → HasBuiltUp before path main place former result after

-- ---- beside another single

-- it is to make the main node of the single at this position and the new one
abbrev pub IsAtPair : View → Builder → Given → ℕ → Entry → Type 0
IsAtPair v by given position single = (path : List Ref) × (main : Ref) × (made : Ref) × (depth : ℕ) × IsOn v (line.Build (build.Pair path main position made depth)) × IsBuilder v by path
    × IsMain v path main given × IsPlaced v made single.slot × (unowned single ≡ entry_to v made)

-- the entries of both by the rising index of what they lead to
abbrev pub by_rising : ℕ → ℕ → Entry → Entry → List Entry
by_rising a b x y = if nat_lt a b then x ∷ y ∷ [] else y ∷ x ∷ []

-- its next step makes the main node of the nodes to which these entries lead
pub record MakesPair (v : View) (by : Builder) (depth hash : ℕ) (old single : Entry) : Type 0 where
  pub its_old : Ref
  pub its_single : Ref
  pub making : IsAt v (act.Make (pair by.hashes depth hash by.hash its_old its_single))
  pub old_to : unowned old ≡ entry_to v its_old
  pub single_to : unowned single ≡ entry_to v its_single
  pub over : IsOver v previous.None

-- the branch of an indirection alone
pub record MakesRung (v : View) (flag link : ℕ) : Type 0 where
  pub below : Ref
  pub making : IsAt v (act.Make (Branch flag (entries_from (below ∷ []))))
  pub entry_to : entry_to v below ≡ record { slot = link; own = false; is_single = false }
  pub over : IsOver v previous.None

-- it is to make an indirection over the main node in this slot, which was made for this depth
abbrev pub IsAtLink : View → Builder → ℕ → ℕ → Type 0
IsAtLink v by depth name = (path : List Ref) × (main : Ref) × (position : ℕ) × (below : Ref) × IsOn v (line.Build (build.Link path main position below depth)) × IsBuilder v by path
    × IsPlaced v below name × (by.depth < depth)

-- the indirection over both, in this slot, goes into the main node
pub record HasLed (before : View) (path : List Ref) (main : Ref) (position name : ℕ) (after : View) : Type 0 where
  pub top : Ref
  pub entry : entry_to after top ≡ record { slot = name; own = false; is_single = false }
  pub reached : HasReached before (line.Build (build.Main path main (change.Update position top) None)) after

abbrev pub HasLedOrNone : View → List Ref → Ref → ℕ → Option ℕ → View → Type 0
HasLedOrNone before path main position None after = HasStopped before after
HasLedOrNone before path main position (Some name) after = HasLed before path main position name after

abbrev pub HasLinked : View → ℕ → Option ℕ → View → Type 0
HasLinked before depth result after =
    (path : List Ref) (main below : Ref) (position : ℕ) → IsOn before (line.Build (build.Link path main position below depth)) → HasLedOrNone before path main position
    result after

abbrev pub HasPaired : View → ℕ → Option ℕ → View → Type 0
HasPaired before position result after =
    (path : List Ref) (main made : Ref) (depth : ℕ) → IsOn before (line.Build (build.Pair path main position made depth)) → HasLedOrNone before path main position result after

-- ---- with the new single

-- the line that comes after it
abbrev pub sited : List Ref → Ref → Option ℕ → Site → Ref → ℕ → BuildLine
sited path main former site.Absent made depth = build.Main path main (change.Insert made) former
sited path main former (site.At position) made depth = build.Main path main (change.Update position made) former
sited path main former (site.Beside position) made depth = build.Pair path main position made depth

abbrev pub former_at : Site → Option ℕ → Option ℕ
former_at site.Absent former = former
former_at (site.At position) former = former
former_at (site.Beside position) former = None

abbrev pub IsAtSite : View → Builder → Given → Site → Option ℕ → Entry → Type 0
IsAtSite v by given place former single = (path : List Ref) × (main : Ref) × (made : Ref) × (depth : ℕ) × IsOn v (line.Build (sited path main former place made depth)) × IsBuilder v by path
    × IsMain v path main given × ((slot : Slot) × IsUsed v made slot) × (unowned single ≡ entry_to v made)

-- the main node is to be changed so, or no slot was had
abbrev pub HasEditAt : View → List Ref → Ref → Option ℕ → Option Edit → View → Type 0
HasEditAt before path main former None after = HasStopped before after
HasEditAt before path main former (Some e) after = (its : Change) × HasReached before (line.Build (build.Main path main its former)) after × IsChange after e its × IsNoTomb e

abbrev pub HasEdit : View → Site → Option ℕ → Option Edit → View → Type 0
HasEdit before place former result after =
    (path : List Ref) (main made : Ref) (depth : ℕ) → IsOn before (line.Build (sited path main former place made depth)) → HasEditAt before path main (former_at place former) result after
