-- WALK: where an operation is on its way through all pairs, and what it comes to.
use Rattle.std.specs.Prelude.{◌≡◌, ℕ, true, List, [], ◌∷◌, ◌++◌, Option, Some, None, Result, Ok, Err, reverse}
use Rattle.history.specs.declared.replies.Reply.TheVariants as reply
use Rattle.trie_words.specs.declared.entries.Entry.{Entry}
use Rattle.machine_model.specs.Beneath.slot_arena.specs.declared.refs.Ref.{Ref}
use Rattle.machine_model.specs.Beneath.slot_arena.specs.Heaps.{node_at, entries_of}
use Rattle.machine_model.specs.declared.lines.Line.{Line}
use Rattle.machine_model.specs.declared.lines.Line.TheVariants as line
use Rattle.machine_model.specs.declared.operations.Operation.{Operation}
use Rattle.machine_model.specs.declared.walking.WalkLine.TheVariants as walk
use Rattle.machine_model.specs.GivingUp.{given_up}
use Rattle.machine_model.specs.Reading.{reading}
use Rattle.machine_model.specs.Walking.{walk_next, walked_reply}
use Rattle.lock_free.specs.declared.reading.Given.{Given}
use Rattle.lock_free.specs.declared.reading.Way.{Way}
use Rattle.lock_free.specs.declared.rules.View.{View}
use Rattle.lock_free.specs.Entries.{HasStayed}
use Rattle.lock_free.specs.GoingDown.{HasMoved}
use Rattle.lock_free.specs.Holding.{IsOn, HasComeTo}
use Rattle.lock_free.specs.Loading.{now, IsSound, Runs}
use Rattle.lock_free.specs.Nodes.{is_single}
use Rattle.lock_free.specs.Passing.{IsOnWay, IsPlaced, KnowsMain}
use Rattle.lock_free.specs.SeenEntries.{AreEntriesTo}

-- ---- what is to do

-- a stack of entries leads to these nodes, the first of which is the entry at its end
abbrev pub AreToDo : View → List Entry → List Ref → Type 0
AreToDo v stack todo = AreEntriesTo v (reverse stack) todo

-- The operation is to look at the first of them, or to end where there is none; it has taken these pairs.
pub record IsWalking (v : View) (stack : List Entry) (pairs : List (ℕ × ℕ)) : Type 0 where
  pub todo : List Ref
  pub operation : Operation
  pub runs : Runs v operation
  pub line : operation.line ≡ walk_next operation todo pairs
  pub knows : AreToDo v stack todo

-- it has come there
pub record HasWalked (before : View) (pairs : List (ℕ × ℕ)) (after : View) (stack : List Entry) : Type 0 where
  pub todo : List Ref
  pub moved : HasMoved (λ operation. walk_next operation todo pairs) before after
  pub knows : AreToDo after stack todo

-- it has no memory for what is to do: it has come to a line where it may give up
abbrev pub IsLeft : View → View → Type 0
IsLeft v w = (next : Operation → Line) × ((operation : Operation) → given_up operation.call (next operation) ≡ Some reply.NoSlots) × HasMoved next v w

abbrev pub WalkedOrLeft : {E : Type 0} → View → List (ℕ × ℕ) → Result (Unit {0}) E → View → List Entry → Type 0
WalkedOrLeft before pairs (Ok done) after stack = HasWalked before pairs after stack
WalkedOrLeft before pairs (Err error) after stack = IsLeft before after

-- ---- the root

abbrev pub IsAtStart : View → Type 0
IsAtStart v = IsOn v (line.Walk walk.Root)

-- it is to read this one
abbrev pub HasFoundStart : View → ℕ → View → Type 0
HasFoundStart before name after = (root : Ref) × HasComeTo (line.Walk (walk.Read (reading root) [] [])) before after × IsPlaced after root name

-- after some looks it is still there
pub record HasLookedForRoot (words : ℕ) (way : Way) (before after : View) : Type 0 where
  pub sound : IsSound words after
  pub on : IsOnWay after way
  pub at : IsAtStart after
  pub stayed : HasStayed before after

-- ---- a main node

-- it is to look at the main node that was given
pub record IsAtWalkedMain (v : View) (given : Given) : Type 0 where
  pub main : Ref
  pub todo : List Ref
  pub pairs : List (ℕ × ℕ)
  pub on : IsOn v (line.Walk (walk.Main main todo pairs))
  pub header : KnowsMain v main given.header
  pub placed : IsPlaced v main given.link.main.slot

-- it has seen all entries there
abbrev pub HasSeenAll : View → Given → List Entry → View → Type 0
HasSeenAll before given entries after = HasStayed before after × ((at : IsAtWalkedMain before given) → AreEntriesTo after entries (entries_of (node_at (now before).heap at.main)))

-- ---- an entry

-- it is to look at the single in this slot
pub record IsAtWalkedSingle (v : View) (name : ℕ) : Type 0 where
  pub entry : Ref
  pub todo : List Ref
  pub pairs : List (ℕ × ℕ)
  pub on : IsOn v (line.Walk (walk.Entry (entry ∷ todo) pairs))
  pub placed : IsPlaced v entry name
  pub single : is_single (node_at (now v).heap entry) ≡ true

-- it has taken this pair
abbrev pub HasTakenPair : View → ℕ → ℕ × ℕ → View → Type 0
HasTakenPair before name pair after = (at : IsAtWalkedSingle before name) → HasMoved (λ operation. walk_next operation at.todo (at.pairs ++ pair ∷ [])) before after

-- ---- an indirection is entered

-- it is to read the one in this slot
pub record IsToRead (v : View) (stack : List Entry) (name : ℕ) : Type 0 where
  pub i : Ref
  pub todo : List Ref
  pub pairs : List (ℕ × ℕ)
  pub on : IsOn v (line.Walk (walk.Read (reading i) todo pairs))
  pub placed : IsPlaced v i name
  pub knows : AreToDo v stack todo

abbrev pub HasEntered : {E : Type 0} → View → List Entry → ℕ → Result (Unit {0}) E → View → List Entry → Type 0
HasEntered before stack name result after then = (at : IsToRead before stack name) → WalkedOrLeft before at.pairs result after then

-- ---- the walk

abbrev pub HasBegunWalk : {E : Type 0} → View → Result (List Entry) E → View → Type 0
HasBegunWalk before (Ok stack) after = HasWalked before [] after stack
HasBegunWalk before (Err error) after = IsLeft before after

-- it is to end, with these pairs
abbrev pub HasAllPairs : View → List (ℕ × ℕ) → View → Type 0
HasAllPairs before pairs after = HasMoved (λ operation. line.End (walked_reply operation.call pairs)) before after

abbrev pub NextBy : {E : Type 0} → View → List (ℕ × ℕ) → Result (Option (ℕ × ℕ)) E → View → List Entry → Type 0
NextBy before pairs (Ok (Some pair)) after stack = HasWalked before (pairs ++ pair ∷ []) after stack
NextBy before pairs (Ok None) after stack = HasAllPairs before pairs after
NextBy before pairs (Err error) after stack = IsLeft before after

abbrev pub HasNext : {E : Type 0} → View → List Entry → Result (Option (ℕ × ℕ)) E → View → List Entry → Type 0
HasNext before stack result after then = (pairs : List (ℕ × ℕ)) → IsWalking before stack pairs → NextBy before pairs result after then

-- after some main nodes, whatever it had taken
pub record IsGoingOn (words : ℕ) (way : Way) (before : View) (stack : List Entry) (v : View) (then : List Entry) : Type 0 where
  pub sound : IsSound words v
  pub on : IsOnWay v way
  pub pairs : List (ℕ × ℕ)
  pub at : IsWalking v then pairs
  pub walked : (taken : List (ℕ × ℕ)) → IsWalking before stack taken → HasWalked before taken v then

-- within so many looks
abbrev pub FoundStartOrNot : View → Option ℕ → View → Type 0
FoundStartOrNot before (Some name) after = HasFoundStart before name after
FoundStartOrNot before None after = HasStayed before after
