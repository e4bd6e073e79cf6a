-- What a seat holds itself once a node is let go of, in words of what nodes name: at the end of its SWAP, or where its operation gives up what it has made.
use Rattle.std.specs.Prelude.{◌≢◌, ◌⊎◌, ◌∷◌, ◌++◌, Bool, true, false, List, [], Contains, Option, Some, None}
use Rattle.machine_model.specs.Beneath.slot_arena.specs.declared.refs.Ref.{Ref}
use Rattle.machine_model.specs.Beneath.slot_arena.specs.Heaps.{node_at, refs_of_node}
use Rattle.machine_model.specs.declared.lines.Line.{Line}
use Rattle.machine_model.specs.declared.lines.Line.TheVariants as line
use Rattle.lock_free.specs.declared.rules.View.{View}
use Rattle.lock_free.specs.Accounts.{IsOwn}
use Rattle.lock_free.specs.Claims.{HoldsAll}
use Rattle.lock_free.specs.Loading.{now}

-- what the node names
abbrev pub names_of : View → Ref → List Ref
names_of v r = refs_of_node (node_at (now v).heap r)

-- ---- a SWAP looks how its fresh main node was decided

-- what that one takes over from the one that it replaces, where this is the indirection's own
abbrev pub taken_over : View → Bool → Ref → List Ref
taken_over v true m = names_of v m
taken_over v false m = []

-- It was committed: the seat holds what the replaced one names and the fresh one doesn't, where that was the indirection's own, and else the replaced one.
abbrev pub HoldsReplaced : View → Bool → Ref → Ref → List Ref → Type 0
HoldsReplaced v true m f owed = (k : Ref) → Contains (names_of v m) k → ¬ Contains (names_of v f) k → Contains owed k
HoldsReplaced v false m f owed = Contains owed m

-- It was refused: the seat holds what it names and doesn't take over.
abbrev pub HoldsRefused : View → Bool → Ref → Ref → List Ref → Type 0
HoldsRefused v own m f owed = (k : Ref) → Contains (names_of v f) k → ¬ Contains (taken_over v own m) k → Contains owed k

-- whether it was committed
abbrev pub HoldsLeft : View → Bool → Ref → Ref → Bool → List Ref → Type 0
HoldsLeft v own m f true owed = HoldsReplaced v own m f owed
HoldsLeft v own m f false owed = HoldsRefused v own m f owed

-- the node that holds nothing any more: the replaced one, if it was the indirection's own, or the fresh one that was refused
abbrev pub let_go : Bool → Bool → Ref → Ref → Option Ref
let_go true true m f = Some m
let_go false true m f = None
let_go own false m f = Some f

-- ---- an operation gives up what it has made

-- the node isn't to take this one over: its maker has made or raised it before
abbrev pub HasItself : View → Line → Ref → Ref → Type 0
HasItself v (line.Swap why s) x k = (s.fresh ≢ x) ⊎ (IsOwn v.account s.indirection s.replaced false ⊎ ¬ Contains (names_of v s.replaced) k)
HasItself v l x k = Unit {0}

-- Of the nodes that this one names, which the operation has made, so many that it hasn't made itself, nor is to let that one take over.
pub record AreOthers (v : View) (private : List Ref) (l : Line) (x : Ref) (ks : List Ref) : Type 0 where
  pub named : HoldsAll ks (names_of v x)
  pub apart : (k : Ref) → Contains ks k → ¬ Contains private k
  pub itself : (k : Ref) → Contains ks k → HasItself v l x k

-- so of each of these
abbrev pub AreOthersOf : View → List Ref → Line → List Ref → List (List Ref) → Type 0
AreOthersOf v private l [] [] = Unit {0}
AreOthersOf v private l (x ∷ xs) (ks ∷ kss) = AreOthers v private l x ks × AreOthersOf v private l xs kss
AreOthersOf v private l xs kss = ⊥

abbrev pub all_of : List (List Ref) → List Ref
all_of [] = []
all_of (ks ∷ kss) = ks ++ all_of kss

-- the seat holds what its nodes named of others
abbrev pub HoldsGivenUp : View → List Ref → Line → List Ref → Type 0
HoldsGivenUp v private l owed = (kss : List (List Ref)) → AreOthersOf v private l private kss → HoldsAll (all_of kss) owed
