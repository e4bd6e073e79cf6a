-- KEY as a whole: the way down to a key, from the root to what it comes to.
use Rattle.std.specs.Prelude.{◌≡◌, ◌<◌, ◌==◌, ◌&&◌, ℕ, nat_le, nat_lt, true, List, [], ◌∷◌, count_ones, length, Some, None, if◌then◌else◌}
use Rattle.history.specs.declared.calls.Access.{Access}
use Rattle.history.specs.declared.calls.Call.{Call}
use Rattle.history.specs.declared.replies.Reply.TheVariants as reply
use Rattle.trie_words.specs.declared.headers.Shape.{Shape}
use Rattle.trie_words.specs.declared.headers.Shape.TheVariants as shape
use Rattle.machine_model.specs.Beneath.slot_arena.specs.declared.refs.Ref.{Ref}
use Rattle.machine_model.specs.Beneath.slot_arena.specs.Heaps.{node_at, entries_of}
use Rattle.machine_model.specs.Beneath.ctrie_base.specs.Hashes.{hash_of}
use Rattle.machine_model.specs.declared.building.BuildLine.TheVariants as build
use Rattle.machine_model.specs.declared.building.Change.TheVariants as change
use Rattle.machine_model.specs.declared.building.Site.{Site}
use Rattle.machine_model.specs.declared.building.Site.TheVariants as site
use Rattle.machine_model.specs.declared.finding.KeyLine.TheVariants as key
use Rattle.machine_model.specs.declared.repairs.CleanLine.TheVariants as clean
use Rattle.machine_model.specs.declared.repairs.RenewLine.TheVariants as renew
use Rattle.machine_model.specs.declared.lines.Line.{Line}
use Rattle.machine_model.specs.declared.lines.Line.TheVariants as line
use Rattle.machine_model.specs.declared.operations.Operation.{Operation}
use Rattle.machine_model.specs.Calls.{absent_reply, inserts, key_of, when_found}
use Rattle.machine_model.specs.Finding.{after_tomb, found_so, going_down, removing}
use Rattle.machine_model.specs.Paths.{above, current}
use Rattle.machine_model.specs.Reading.{reading}
use Rattle.proof_memory.specs.Wants.{is_list}
use Rattle.lock_free.specs.declared.descending.Found.{Found}
use Rattle.lock_free.specs.declared.descending.Found.TheVariants as found
use Rattle.lock_free.specs.declared.descending.Rest.{Rest}
use Rattle.lock_free.specs.declared.descending.Rest.TheVariants as rest
use Rattle.lock_free.specs.declared.descending.Update.{Update}
use Rattle.lock_free.specs.declared.descending.Update.TheVariants as update
use Rattle.lock_free.specs.declared.tasks.Task.{Task}
use Rattle.lock_free.specs.declared.reading.Given.{Given}
use Rattle.lock_free.specs.declared.rules.View.{View}
use Rattle.lock_free.specs.Entries.{IsEntryIn}
use Rattle.lock_free.specs.GoingDown.{HasMoved, IsAtKey, IsTombOf}
use Rattle.lock_free.specs.Holding.{IsOn}
use Rattle.lock_free.specs.Loading.{now, Runs}
use Rattle.lock_free.specs.Passing.{IsPlaced, KnowsLink, KnowsMain}

-- what a try goes by is that of the operation
pub record IsTask (v : View) (task : Task) : Type 0 where
  pub calls : (operation : Operation) → Runs v operation → (operation.call ≡ task.call) × (operation.access ≡ task.access) × (operation.generation ≡ Some task.start)
  pub key : task.key ≡ key_of task.call
  pub hash : task.hash ≡ hash_of v.sizes.hash task.key

-- ---- where it is

-- the references stand in these slots, each in its own
abbrev pub AreAt : View → List Ref → List ℕ → Type 0
AreAt v [] [] = Unit {0}
AreAt v [] (slot ∷ slots) = ⊥
AreAt v (r ∷ rs) [] = ⊥
AreAt v (r ∷ rs) (slot ∷ slots) = IsPlaced v r slot × AreAt v rs slots

-- it is to read the indirection at the end of this path
abbrev pub IsOnPath : View → List ℕ → Type 0
IsOnPath v slots = (path : List Ref) × IsAtKey v (key.Read path (reading (current path))) × AreAt v path slots × (0 < length slots)

-- READ gave this main node at the end of the path
pub record IsPlace (v : View) (slots : List ℕ) (given : Given) (path : List Ref) (main : Ref) : Type 0 where
  pub places : AreAt v path slots
  pub link : KnowsLink v (current path) main given.link
  pub header : KnowsMain v main given.header

-- it is there, by the path and the main node
abbrev pub IsHere : View → List ℕ → Given → (List Ref → Ref → Type 0) → Type 0
IsHere v slots given At = (path : List Ref) × (main : Ref) × IsPlace v slots given path main × At path main

-- how many entries a main node of this shape has
abbrev pub entries_in : Shape → ℕ
entries_in (shape.Branch bitmap) = count_ones bitmap
entries_in (shape.Tomb single) = 1
entries_in (shape.List count) = count

-- what is left in it without one of them, in the last of so many indirections
abbrev pub rest_in : Shape → ℕ → Rest
rest_in (shape.Branch bitmap) indirections = if nat_lt 1 indirections && (count_ones bitmap == 2) then rest.Entry else rest.Any
rest_in (shape.Tomb single) indirections = rest.Any
rest_in (shape.List count) indirections = if count == 2 then rest.Single else rest.Any

abbrev pub IsInside : View → Ref → ℕ → Type 0
IsInside v main position = position < length (entries_of (node_at (now v).heap main))

-- ---- lines by a call

-- where its key is absent: its single is made for this site, or it answers
abbrev pub absent_in : Call → Site → List Ref → Ref → Line
absent_in call place path main = if inserts call then line.Build (build.Single path main place None) else line.End (absent_reply call)

-- the same at the end of a list of so many singles
abbrev pub absent_at_end : Call → ℕ → List Ref → Ref → Line
absent_at_end call singles path main = if inserts call && nat_le 32 singles then line.End reply.Crowded else absent_in call site.Absent path main

-- in a list of so many singles, of which the first are of other keys
abbrev pub line_listed : Call → ℕ → ℕ → List Ref → Ref → Line
line_listed call singles others path main = if nat_lt others singles then line.Key (key.Listed path main others) else absent_at_end call singles path main

-- ---- where it is in a main node

abbrev pub IsAtEntry : View → ℕ → List Ref → Ref → Type 0
IsAtEntry v position path main = (position < 32) × IsAtKey v (key.Entry path main position)

abbrev pub IsAtList : View → List Ref → Ref → Type 0
IsAtList v path main = (is_list (node_at (now v).heap main) ≡ true) × IsAtKey v (key.Listed path main 0)

-- the entry at this position is the single in this slot
abbrev pub IsAtOne : View → ℕ → ℕ → List Ref → Ref → Type 0
IsAtOne v position single path main = IsEntryIn v main position single true × IsAtKey v (key.Entry path main position)

-- a tomb, whose single is in this slot
abbrev pub IsAtTomb : View → Access → ℕ → List Ref → Ref → Type 0
IsAtTomb v access single path main = IsTombOf v main single × IsOn v (after_tomb access path main)

-- its key stands at this position, with this value
abbrev pub IsFoundAt : View → Call → ℕ → ℕ → List Ref → Ref → Type 0
IsFoundAt v call position value path main = IsInside v main position × IsOn v (found_so (now v) path main position value (when_found call value))

-- and is to be taken out
abbrev pub IsRemovingAt : View → ℕ → ℕ → List Ref → Ref → Type 0
IsRemovingAt v position former path main = IsInside v main position × IsOn v (removing (now v) path main position former (node_at (now v).heap main))

-- of two entries
abbrev pub IsAtSibling : View → ℕ → ℕ → List Ref → Ref → Type 0
IsAtSibling v position former path main = (position < 2) × IsInside v main position × IsAtKey v (key.Sibling path main position former)

-- ---- what comes of the way

-- the line on which it makes its change of the main node; a tomb is to be made of the other single
abbrev pub line_updated : List Ref → Ref → Ref → Update → Line
line_updated path main other (update.Builds place former) = line.Build (build.Single path main place former)
line_updated path main other (update.Removes position former) = line.Build (build.Main path main (change.Remove position) (Some former))
line_updated path main other (update.Entombs single former) = line.Build (build.Main path main (change.Entomb other) (Some former))

-- the line to which it has come by the path and the main node
abbrev pub line_found : List Ref → Ref → Ref → Found → Line
line_found path main other (found.Answers reply) = line.End reply
line_found path main other (found.Changes u given) = line_updated path main other u
line_found path main other (found.Renews given) = line.Renew (renew.Entry path main [])
line_found path main other found.Cleans = line.Clean (clean.Read (above path) (reading (current (above path))))

-- where a single goes there is an entry, if it goes to one
abbrev pub IsSite : View → Ref → Site → Type 0
IsSite v main site.Absent = Unit {0}
IsSite v main (site.At position) = IsInside v main position
IsSite v main (site.Beside position) = IsInside v main position

-- where the key is absent
abbrev pub absent_found : Call → Site → Given → Found
absent_found call place given = if inserts call then found.Changes (update.Builds place None) given else found.Answers (absent_reply call)

-- what is known of what it names
abbrev pub KnowsUpdate : View → Ref → Ref → Update → Type 0
KnowsUpdate v main other (update.Builds place former) = IsSite v main place
KnowsUpdate v main other (update.Removes position former) = IsInside v main position
KnowsUpdate v main other (update.Entombs single former) = IsPlaced v other single.slot × (single.is_single ≡ true)

abbrev pub KnowsFound : View → List ℕ → List Ref → Ref → Ref → Found → Type 0
KnowsFound v slots path main other (found.Answers reply) = Unit {0}
KnowsFound v slots path main other (found.Changes u given) = IsPlace v slots given path main × KnowsUpdate v main other u
KnowsFound v slots path main other (found.Renews given) = IsPlace v slots given path main
KnowsFound v slots path main other found.Cleans = AreAt v path slots × (1 < length path)

pub record HasFound (before : View) (slots : List ℕ) (result : Found) (after : View) : Type 0 where
  pub path : List Ref
  pub main : Ref
  pub other : Ref
  pub moved : HasMoved (λ operation. line_found path main other result) before after
  pub knows : KnowsFound after slots path main other result

-- ---- a level

-- it goes on in the indirection in this slot, below the others
pub record HasGoneBelow (before : View) (slots : List ℕ) (slot : ℕ) (after : View) : Type 0 where
  pub path : List Ref
  pub below : Ref
  pub moved : HasMoved (λ operation. going_down path below) before after
  pub places : AreAt after path slots
  pub placed : IsPlaced after below slot
  -- a path has 14 indirections at most
  pub short : length slots < 14

-- ---- along a list

-- it has come to the single after so many others of a list of so many, or to its end
pub record IsSearching (before : View) (task : Task) (slots : List ℕ) (given : Given) (singles others : ℕ) (after : View) : Type 0 where
  pub path : List Ref
  pub main : Ref
  pub moved : HasMoved (λ operation. line_listed task.call singles others path main) before after
  pub place : IsPlace after slots given path main
  pub lists : is_list (node_at (now after).heap main) ≡ true
  pub count : length (entries_of (node_at (now after).heap main)) ≡ singles
  pub on : IsOn after (line_listed task.call singles others path main)
  pub its : IsTask after task

-- ---- from level to level

-- it has come to the indirection at the end of this path
pub record IsDescending (before : View) (task : Task) (slots : List ℕ) (after : View) : Type 0 where
  pub path : List Ref
  pub moved : HasMoved (λ operation. line.Key (key.Read path (reading (current path)))) before after
  pub places : AreAt after path slots
  pub some : 0 < length slots
  pub its : IsTask after task
