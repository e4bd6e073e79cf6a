-- A node is made: what a seat has written in a free slot of its own, what the definition's step leaves, and what the seat knows then.
use Rattle.std.specs.Prelude.{◌≡◌, ◌≢◌, ℕ, ◌+◌, ◌*◌, ◌^◌, ◌<◌, ◌⊎◌, Bool, true, List, [], ◌∷◌, ◌++◌, Contains, filter, not, length, Option, Some, None, slice_index_or, if◌then◌else◌, ◌==◌}
use Rattle.trie_words.specs.Codes.{link_code, header_code}
use Rattle.trie_words.specs.declared.headers.Previous.{Previous}
use Rattle.trie_words.specs.declared.headers.Previous.TheVariants as previous
use Rattle.trie_words.specs.declared.headers.Shape.{Shape}
use Rattle.trie_words.specs.declared.headers.Shape.TheVariants as shape
use Rattle.machine_model.specs.Beneath.slot_arena.specs.declared.refs.Ref.{Ref}
use Rattle.machine_model.specs.Beneath.slot_arena.specs.declared.nodes.Node.{Node}
use Rattle.machine_model.specs.Beneath.slot_arena.specs.declared.nodes.Node.TheVariants.{Indirection, Branch, Single, Tomb, List as Listed}
use Rattle.machine_model.specs.Beneath.slot_arena.specs.declared.nodes.Prev.TheVariants as prev
use Rattle.machine_model.specs.Beneath.slot_arena.specs.declared.nodes.Slot.{Slot}
use Rattle.machine_model.specs.Beneath.slot_arena.specs.Refs.{slot_of}
use Rattle.machine_model.specs.Beneath.slot_arena.specs.Heaps.{Heap, main_at, refs_of_node, refs_of_slot, refs_of_option}
use Rattle.machine_model.specs.declared.roots.Descriptor.{Descriptor}
use Rattle.machine_model.specs.declared.building.BuildLine.TheVariants as build
use Rattle.machine_model.specs.declared.repairs.RenewLine.TheVariants as renew
use Rattle.machine_model.specs.declared.repairs.CleanLine.TheVariants as clean
use Rattle.machine_model.specs.declared.repairs.ClimbLine.TheVariants as climb
use Rattle.machine_model.specs.declared.lines.Line.{Line}
use Rattle.machine_model.specs.declared.lines.Line.TheVariants as line
use Rattle.machine_model.specs.declared.operations.Operation.{Operation}
use Rattle.machine_model.specs.declared.steps.Step.TheVariants as step
use Rattle.machine_model.specs.Paths.{above, current}
use Rattle.machine_model.specs.Acting.{operation_after}
use Rattle.machine_model.specs.Counting.{refs_of_root}
use Rattle.machine_model.specs.Machine.{AreBounds}
use Rattle.machine_model.specs.States.{State, operation_of, root_at}
use Rattle.lock_free.specs.declared.accounts.Account.{Account}
use Rattle.lock_free.specs.declared.accounts.Owned.{Owned}
use Rattle.lock_free.specs.declared.accounts.Known.{Known}
use Rattle.lock_free.specs.declared.rules.Pool.{Pool}
use Rattle.lock_free.specs.declared.rules.View.{View}
use Rattle.lock_free.specs.declared.sizes.Sizes.{Sizes}
use Rattle.lock_free.specs.Accounts.{bounds_for, state_of, place_of, running, IsOwn}
use Rattle.lock_free.specs.Live.{IsLive}
use Rattle.lock_free.specs.Trying.{SameTries}
use Rattle.lock_free.specs.Nodes.{Has, IsAhead, AreEntries}
use Rattle.lock_free.specs.Owing.{owes_then}
use Rattle.lock_free.specs.Rules.{pool_of}

-- where a main node that is made is swapped in next: in this indirection, over that main node
abbrev pub over_of : Line → Option (Ref × Ref)
over_of (line.Build (build.Main path main c former)) = Some (current path, main)
over_of (line.Renew (renew.Branch path main done)) = Some (current path, main)
over_of (line.Clean (clean.Contracted path main done)) = Some (current path, main)
over_of (line.Climb (climb.Contracted c main)) = Some (current (above c.path), main)
over_of l = None

-- ---- what the seat has written

abbrev pub AreDrafted : List (ℕ × ℕ) → Has
AreDrafted drafts i word = Contains drafts (i, word)

-- the words of its drafts, and this one more, which is written last
abbrev pub Drafted : List (ℕ × ℕ) → ℕ → ℕ → Has
Drafted drafts last value i word = (i ≡ last → word ≡ value) × (i ≢ last → Contains drafts (i, word))

-- the drafts with this one, which is the only one of its word
abbrev pub others_than : ℕ → List (ℕ × ℕ) → List (ℕ × ℕ)
others_than j drafts = filter (λ (d : ℕ × ℕ). not (d.0 == j)) drafts

abbrev pub with_draft : List (ℕ × ℕ) → ℕ → ℕ → List (ℕ × ℕ)
with_draft drafts j x = (j, x) ∷ others_than j drafts

-- the header says that it is pending over the main node that it is to replace, or decided where it isn't swapped in itself
abbrev pub IsOverBy : Account → Option (Ref × Ref) → Previous → Type 0
IsOverBy account None p = p ≡ previous.None
IsOverBy account (Some over) p = (own : Bool) × IsOwn account over.0 over.1 own × (p ≡ previous.Pending (record { slot = place_of account over.1; own = own }))

-- of a tomb it says whether the single was made with it
abbrev pub shape_with : Account → Bool → Node → Option Shape
shape_with account own (Branch bitmap entries) = Some (shape.Branch bitmap)
shape_with account own (Tomb single) = Some (shape.Tomb (record { slot = place_of account single; own = own; is_single = true }))
shape_with account own (Listed singles) = Some (shape.List (length singles.items))
shape_with account own node = None

pub record DraftsHeader (account : Account) (over : Option (Ref × Ref)) (own : Bool) (node : Node) (word : ℕ) : Type 0 where
  pub previous : Previous
  pub is_previous : IsOverBy account over previous
  pub shape : Shape
  pub is_shape : shape_with account own node ≡ Some shape
  pub code : word ≡ header_code (record { previous = previous; shape = shape })

-- the node is written there: of an indirection or a tomb also whether what it has is its own
abbrev pub DraftsNode : Account → Heap → Option (Ref × Ref) → Has → ℕ → Bool → Node → Type 0
DraftsNode account heap over has name own (Indirection generation main) =
    (generation < 2 ^ 36) × has (2 * name) (link_code (record { generation = generation; main = record { slot = place_of account main; own = own } }))
DraftsNode account heap over has name own (Single key value) = has (2 * name) key × has (2 * name + 1) value
DraftsNode account heap over has name own (Branch bitmap entries) =
    ((word : ℕ) × has (2 * name) word × DraftsHeader account over own (Branch bitmap entries) word) × AreEntries account heap has name entries.items
DraftsNode account heap over has name own (Tomb single) = (word : ℕ) × has (2 * name) word × DraftsHeader account over own (Tomb single) word
DraftsNode account heap over has name own (Listed singles) =
    ((word : ℕ) × has (2 * name) word × DraftsHeader account over own (Listed singles) word) × AreEntries account heap has name singles.items

-- ---- what the definition's step leaves

-- who owns what, with a new node of this number
abbrev pub owned_with : List Owned → ℕ → Bool → Node → List Owned
owned_with owned k own (Indirection generation main) = record { holder = k; held = slot_of main; is_own = own } ∷ owned
owned_with owned k own (Tomb single) = record { holder = k; held = slot_of single; is_own = own } ∷ owned
owned_with owned k own node = owned

abbrev pub made_at : ℕ → ℕ → Bool → Node → Account → Account
made_at actor name own node account =
    record account { steps = account.steps ++ step.Go actor ∷ []; names = account.names ++ name ∷ []; owned = owned_with account.owned (length account.names) own node }

-- the references of an offer
abbrev pub refs_of_offer : Descriptor → List Ref
refs_of_offer offer = offer.root ∷ offer.expected ∷ offer.successor ∷ refs_of_option offer.second

-- no reference that stands anywhere names what isn't made yet
pub record NamesNot (k : ℕ) (account : Account) (state : State) : Type 0 where
  pub empty : slice_index_or state.heap.slots k None ≡ None
  pub nodes : (j : ℕ) (slot : Slot) → slice_index_or state.heap.slots j None ≡ Some slot → (r : Ref) → Contains (refs_of_slot (Some slot)) r → slot_of r ≢ k
  pub roots : (handle : ℕ) (r : Ref) → Contains (refs_of_root (root_at state handle)) r → slot_of r ≢ k
  pub aheads : (i a f : Ref) → IsAhead state i a f → (slot_of i ≢ k) × (slot_of a ≢ k) × (slot_of f ≢ k)
  pub offers : (x : Known) → Contains account.offers x → (r : Ref) → Contains (refs_of_offer x.offer) r → slot_of r ≢ k

-- the actor's operation makes this node; its number is that of the nodes made before; and so many generations more are given out: one with the root of a copy
pub record Makes (sizes : Sizes) (account after : Account) (actor : ℕ) (operation : Operation) (node : Node) (more : ℕ) : Type 0 where
  pub bounds : AreBounds (bounds_for sizes after.steps)
  pub runs : running sizes account actor operation
  pub names_not : NamesNot (length account.names) account (state_of sizes account)
  -- what it names was made, and isn't about to be swapped in
  pub refs : (r : Ref) → Contains (refs_of_node node) r → slot_of r < length account.names
  pub unmet : (r : Ref) → Contains (refs_of_node node) r → (i a f : Ref) → IsAhead (state_of sizes account) i a f → slot_of f ≢ slot_of r
  pub made : Slot
  pub stands : slice_index_or (state_of sizes after).heap.slots (length account.names) None ≡ Some made
  pub node_is : made.node ≡ node
  pub birth : made.birth ≡ length account.names + 1
  pub prev_is : made.prev ≡ prev.None
  pub nodes : (k : ℕ) → k ≢ length account.names → slice_index_or (state_of sizes after).heap.slots k None ≡ slice_index_or (state_of sizes account).heap.slots k None
  pub births : (state_of sizes after).heap.births ≡ (state_of sizes account).heap.births + 1
  -- the main node of an indirection that is made is decided
  pub decided : (i : Ref) → slot_of i ≡ length account.names → (k : ℕ) (slot : Slot) → slice_index_or (state_of sizes account).heap.slots k None ≡ Some slot →
      slot_of (main_at (state_of sizes after).heap i) ≡ k → slot.prev ≡ prev.None
  pub live : (r : Ref) → IsLive (state_of sizes after) r → IsLive (state_of sizes account) r ⊎ (slot_of r ≡ length account.names)
  pub roots : (state_of sizes after).roots ≡ (state_of sizes account).roots
  pub generations : (state_of sizes after).generations ≡ (state_of sizes account).generations + more
  pub others : (a : ℕ) → a ≢ actor → operation_of (state_of sizes after) a ≡ operation_of (state_of sizes account) a
  pub own : operation_of (state_of sizes after) actor ≡ Some (operation_after (state_of sizes account) operation)
  pub tries : SameTries (state_of sizes account) (state_of sizes after)
  -- it is about to swap the node in, if it is a main node to be swapped in; nobody else is who wasn't
  pub aheads : (i a f : Ref) → IsAhead (state_of sizes after) i a f → IsAhead (state_of sizes account) i a f ⊎ ((over_of operation.line ≡ Some (i, a)) × (slot_of f ≡ length account.names))
  pub still : (i a f : Ref) → IsAhead (state_of sizes account) i a f → IsAhead (state_of sizes after) i a f
  pub next : (i a : Ref) → over_of operation.line ≡ Some (i, a) → (slot_of a ≢ length account.names) × ((f : Ref) × (slot_of f ≡ length account.names) × IsAhead (state_of sizes after) i a f)

-- ---- the seat's slots

-- these slots of the class, in the place of those
abbrev pub with_slots : Pool → ℕ → List ℕ → Pool
with_slots pool class rest =
    if class == 0 then record pool { small = rest } else (if class == 1 then record pool { medium = rest } else record pool { wide = rest })

-- one more slot, last
abbrev pub with_slot : Pool → ℕ → ℕ → Pool
with_slot pool class name = with_slots pool class (pool_of pool class ++ name ∷ [])

-- the seat then: the node stands, and its slot isn't free any more; it holds the first reference to it, and no more those that it has
abbrev pub made_by : View → ℕ → ℕ → List ℕ → Bool → Node → Account → View
made_by v class name rest own node account = record v { account = made_at v.actor name own node account; pool = with_slots v.pool class rest; drafts = []; owed = owes_then v account }
