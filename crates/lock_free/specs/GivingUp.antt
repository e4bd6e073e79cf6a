-- What an operation leaves that gives up what it has made: the slots are free for its seat, which knows what stood there, and holds what that named of others.
use Rattle.std.specs.Prelude.{◌≡◌, ◌*◌, ℕ, true, List, [], ◌∷◌, Contains}
use Rattle.trie_words.specs.Codes.{header_of}
use Rattle.trie_words.specs.declared.headers.Previous.TheVariants as previous
use Rattle.machine_model.specs.Beneath.slot_arena.specs.declared.nodes.Slot.{Slot}
use Rattle.machine_model.specs.Beneath.slot_arena.specs.declared.refs.Ref.{Ref}
use Rattle.machine_model.specs.Beneath.slot_arena.specs.Heaps.{node_at}
use Rattle.machine_model.specs.declared.lines.Line.{Line}
use Rattle.machine_model.specs.States.{State}
use Rattle.proof_memory.specs.Wants.{is_main_node}
use Rattle.lock_free.specs.declared.accounts.Account.{Account}
use Rattle.lock_free.specs.declared.rules.Pool.{Pool}
use Rattle.lock_free.specs.declared.rules.View.{View}
use Rattle.lock_free.specs.Accounts.{gone_on, place_of}
use Rattle.lock_free.specs.LeftNodes.{LeavesNode}
use Rattle.lock_free.specs.LettingGo.{HasItself, HoldsGivenUp}
use Rattle.lock_free.specs.Loading.{now, seen}
use Rattle.lock_free.specs.Making.{with_slot}
use Rattle.lock_free.specs.Nodes.{class_of}
use Rattle.lock_free.specs.Owing.{owes_given_up}

-- the slots of these nodes are free for the seat again
abbrev pub given_back : State → Account → List Ref → Pool → Pool
given_back state account [] pool = pool
given_back state account (r ∷ rs) pool = given_back state account rs (with_slot pool (class_of (node_at state.heap r)) (place_of account r))

-- the seat where it misses: all nodes of its own are given up, it knows these words, and what its nodes held of others is its own then
abbrev pub given_up : View → Account → List Ref → List (ℕ × ℕ) → View
given_up v account private drafts =
    record v { account = gone_on v.actor account; pool = given_back (now (seen v account)) account private v.pool; drafts = drafts; owed = owes_given_up v account private }

-- The node stood in this slot still, as the operation had made it.
pub record LeavesMade (before : View) (x : Ref) (after : View) : Type 0 where
  pub slot : Slot
  pub is : slot.node ≡ node_at (now before).heap x
  pub left : LeavesNode after (place_of before.account x) x slot

-- of a main node, its header says that it isn't over another one
abbrev pub IsOverNone : View → Ref → View → Type 0
IsOverNone before x after =
    is_main_node (node_at (now before).heap x) ≡ true → (found : ℕ) × Contains after.drafts (2 * place_of before.account x, found) × ((header_of found).previous ≡ previous.None)

-- on this line, of an operation that had made these nodes, as all stood then
pub record HasDropped (before : View) (private : List Ref) (l : Line) (after : View) : Type 0 where
  pub left : (x : Ref) → Contains private x → LeavesMade before x after
  -- what isn't over another one is to take nothing over
  pub itself : (x : Ref) → Contains private x → IsOverNone before x after → (k : Ref) → HasItself before l x k
  pub holds : HoldsGivenUp before private l after.owed
