-- RENEW and CLEAN go over the entries of a branch, one after another.
use Rattle.std.specs.Prelude.{◌≡◌, ◌⊎◌, ℕ, ◌==◌, Bool, true, false, not, if◌then◌else◌, List, [], ◌∷◌, ◌++◌, Contains, length, Option, Some, None}
use Rattle.arrayvec.specs.ArrayVec.{ArrayVec}
use Rattle.history.specs.declared.replies.Reply.{Reply}
use Rattle.history.specs.declared.replies.Reply.TheVariants as reply
use Rattle.trie_words.specs.declared.entries.Entry.{Entry}
use Rattle.trie_words.specs.declared.links.Link.{Link}
use Rattle.machine_model.specs.Beneath.slot_arena.specs.declared.refs.Ref.{Ref}
use Rattle.machine_model.specs.Beneath.slot_arena.specs.declared.nodes.Node.TheVariants.{Branch}
use Rattle.machine_model.specs.Beneath.slot_arena.specs.declared.nodes.Slot.{Slot}
use Rattle.machine_model.specs.Beneath.slot_arena.specs.Heaps.{entries_of, node_at}
use Rattle.machine_model.specs.declared.operations.Operation.{Operation}
use Rattle.machine_model.specs.declared.finding.KeyLine.TheVariants as key
use Rattle.machine_model.specs.declared.repairs.CleanLine.TheVariants as clean
use Rattle.machine_model.specs.declared.repairs.RenewLine.TheVariants as renew
use Rattle.machine_model.specs.declared.lines.Line.{Line}
use Rattle.machine_model.specs.declared.lines.Line.TheVariants as line
use Rattle.machine_model.specs.Cleaning.{clean_next}
use Rattle.machine_model.specs.GivingUp.{given_up}
use Rattle.machine_model.specs.Lines.{new_try}
use Rattle.machine_model.specs.Paths.{current, is_below_root}
use Rattle.machine_model.specs.Reading.{reading}
use Rattle.machine_model.specs.Renewing.{renew_next, next_entry}
use Rattle.machine_model.specs.States.{State}
use Rattle.lock_free.specs.declared.cleaning.Cleaned.{Cleaned}
use Rattle.lock_free.specs.declared.cleaning.CleanedEntries.{CleanedEntries}
use Rattle.lock_free.specs.declared.renewing.Renewed.{Renewed}
use Rattle.lock_free.specs.declared.renewing.Renewed.TheVariants as renewed
use Rattle.lock_free.specs.declared.renewing.RenewedEntries.{RenewedEntries}
use Rattle.lock_free.specs.declared.renewing.RenewedEntry.{RenewedEntry}
use Rattle.lock_free.specs.declared.rules.View.{View}
use Rattle.lock_free.specs.declared.swapping.Swapped.{Swapped}
use Rattle.lock_free.specs.declared.swapping.Swapped.TheVariants.{Commits, Fails, Misses}
use Rattle.lock_free.specs.Becoming.{Follows, HasBecome}
use Rattle.lock_free.specs.Entries.{IsEntryIn}
use Rattle.lock_free.specs.Holding.{IsOn, HasComeTo}
use Rattle.lock_free.specs.Loading.{now, Runs, IsUsed}
use Rattle.lock_free.specs.Passing.{IsPlaced, KnowsLink}
use Rattle.lock_free.specs.SeenEntries.{AreEntriesTo, entry_to, unowned}

-- the operation began its try in this generation
abbrev pub HasStart : View → ℕ → Type 0
HasStart v start = (operation : Operation) → Runs v operation → operation.generation ≡ Some start

-- ---- an entry in a RENEW

-- it is kept, or read
abbrev pub renew_looked : State → List Ref → Ref → List Ref → Bool → Line
renew_looked state path main done true = renew_next state path main (done ++ next_entry state main done ∷ [])
renew_looked state path main done false = line.Renew (renew.Read path main done (reading (next_entry state main done)))

abbrev pub IsAtRenewed : View → Entry → Type 0
IsAtRenewed v e = (path : List Ref) × (main : Ref) × (done : List Ref) × IsOn v (line.Renew (renew.Entry path main done)) × IsEntryIn v main (length done) e.slot e.is_single

abbrev pub HasLookedOld : View → Bool → View → Type 0
HasLookedOld before kept after =
    (path : List Ref) (main : Ref) (done : List Ref) → IsOn before (line.Renew (renew.Entry path main done)) → HasComeTo (renew_looked (now before) path main done kept) before after

-- ---- an entry in a CLEAN

abbrev pub clean_looked : State → List Ref → Ref → List Ref → Bool → Line
clean_looked state path main done true = clean_next state path main (done ++ next_entry state main done ∷ [])
clean_looked state path main done false = line.Clean (clean.Child path main done (reading (next_entry state main done)))

abbrev pub IsAtCleaned : View → Entry → Type 0
IsAtCleaned v e = (path : List Ref) × (main : Ref) × (done : List Ref) × IsOn v (line.Clean (clean.Entry path main done)) × IsEntryIn v main (length done) e.slot e.is_single

abbrev pub HasLookedOver : View → Bool → View → Type 0
HasLookedOver before single after =
    (path : List Ref) (main : Ref) (done : List Ref) → IsOn before (line.Clean (clean.Entry path main done)) → HasComeTo (clean_looked (now before) path main done single) before after

-- the node that has come to the place of the next entry, and whether it is another one
pub record CleanedTo (before : View) (path : List Ref) (main : Ref) (done : List Ref) (result : Cleaned) (after : View) : Type 0 where
  pub one : Ref
  pub come : HasComeTo (clean_next (now before) path main (done ++ one ∷ [])) before after
  pub names : unowned result.entry ≡ entry_to after one
  pub changed : result.is_changed ≡ not (one == next_entry (now before) main done)

abbrev pub HasCleaned : View → Cleaned → View → Type 0
HasCleaned before result after =
    (path : List Ref) (main : Ref) (done : List Ref) → IsOn before (line.Clean (clean.Entry path main done)) → CleanedTo before path main done result after

-- ---- all entries in a CLEAN

-- it is to look at the branch in this slot, which has these entries
pub record IsCleaning (v : View) (name : ℕ) (entries : List Entry) : Type 0 where
  pub path : List Ref
  pub main : Ref
  pub on : IsOn v (line.Clean (clean.Main path main))
  pub placed : IsPlaced v main name
  pub bitmap : ℕ
  pub refs : ArrayVec Ref
  pub node : node_at (now v).heap main ≡ Branch bitmap refs
  pub names : AreEntriesTo v entries refs.items

-- all are done: where any has changed the branch is made anew
abbrev pub clean_end : List Ref → Ref → List Ref → Bool → Line
clean_end path main done true = line.Clean (clean.Contracted path main done)
clean_end path main done false = new_try

-- the tombs' singles among those that are done, with the next one
abbrev pub singles_with : List Entry → Cleaned → List Entry
singles_with singles next = if next.is_changed then singles ++ next.entry ∷ [] else singles

abbrev pub any_changed : List Entry → Bool
any_changed singles = not (length singles == 0)

-- the nodes that come to the places of its entries are some of these, and tombs' singles
pub record CleanedAll (before : View) (path : List Ref) (main : Ref) (cleaned : CleanedEntries) (after : View) : Type 0 where
  pub done : List Ref
  pub come : HasComeTo (clean_end path main done (any_changed cleaned.singles.items)) before after
  pub names : AreEntriesTo after cleaned.entries.items done
  pub freed : List Ref
  pub freed_names : AreEntriesTo after cleaned.singles.items freed
  pub among : (k : Ref) → Contains freed k → Contains done k
  pub others : (k : Ref) → Contains done k → Contains freed k ⊎ Contains (entries_of (node_at (now before).heap main)) k

abbrev pub HasCleanedAll : View → CleanedEntries → View → Type 0
HasCleanedAll before cleaned after = (path : List Ref) (main : Ref) → IsOn before (line.Clean (clean.Main path main)) → CleanedAll before path main cleaned after

-- ---- an operation that has no slot

-- It may give up, and then answers this.
pub record GivesUp (answer : Operation → Reply) (v w : View) : Type 0 where
  pub follows : Follows v w
  pub runs : (operation : Operation) → Runs v operation →
      (private : List Ref) × (l : Line) × Runs w (record operation { private = private; line = l }) × (given_up operation.call l ≡ Some (answer operation))

-- ---- an entry in a RENEW that makes an indirection

-- its operation has made the node that comes to an entry's place, unless the entry is kept
abbrev pub made_unless : Bool → Ref → List Ref
made_unless true one = []
made_unless false one = one ∷ []

-- the node that has come to the place of the next entry
pub record RenewedTo (before : View) (path : List Ref) (main : Ref) (done : List Ref) (result : RenewedEntry) (after : View) : Type 0 where
  pub one : Ref
  pub become :
      HasBecome (λ o. record o { private = o.private ++ made_unless result.is_kept one; line = renew_next (now before) path main (done ++ one ∷ []) }) before after
  pub names : unowned result.entry ≡ entry_to after one
  pub stood : result.is_kept ≡ true → one ≡ next_entry (now before) main done

abbrev pub RenewedOrNot : View → List Ref → Ref → List Ref → Option RenewedEntry → View → Type 0
RenewedOrNot before path main done (Some next) after = RenewedTo before path main done next after
RenewedOrNot before path main done None after = GivesUp (λ o. reply.NoSlots) before after

abbrev pub HasRenewed : View → Option RenewedEntry → View → Type 0
HasRenewed before result after =
    (path : List Ref) (main : Ref) (done : List Ref) → IsOn before (line.Renew (renew.Entry path main done)) → RenewedOrNot before path main done result after

-- ---- all entries in a RENEW

-- it is to look at the first entry of a branch that has these
pub record IsRenewing (v : View) (entries : List Entry) : Type 0 where
  pub path : List Ref
  pub main : Ref
  pub on : IsOn v (line.Renew (renew.Entry path main []))
  pub bitmap : ℕ
  pub refs : ArrayVec Ref
  pub node : node_at (now v).heap main ≡ Branch bitmap refs
  pub names : AreEntriesTo v entries refs.items

-- the nodes that have come to the places of all: each its operation has made, or it is kept
pub record RenewedAll (before : View) (path : List Ref) (main : Ref) (result : RenewedEntries) (after : View) : Type 0 where
  pub done : List Ref
  pub made : List Ref
  pub kept : List Ref
  pub become : HasBecome (λ o. record o { private = o.private ++ made; line = line.Renew (renew.Branch path main done) }) before after
  pub names : AreEntriesTo after result.entries.items done
  pub kept_names : AreEntriesTo after result.kept.items kept
  pub each : (k : Ref) → Contains done k → Contains made k ⊎ Contains kept k
  pub stood : (k : Ref) → Contains kept k → Contains (entries_of (node_at (now before).heap main)) k

abbrev pub AllRenewedOrNot : View → List Ref → Ref → Option RenewedEntries → View → Type 0
AllRenewedOrNot before path main (Some all) after = RenewedAll before path main all after
AllRenewedOrNot before path main None after = GivesUp (λ o. reply.NoSlots) before after

abbrev pub HasRenewedAll : View → Option RenewedEntries → View → Type 0
HasRenewedAll before result after = (path : List Ref) (main : Ref) → IsOn before (line.Renew (renew.Entry path main [])) → AllRenewedOrNot before path main result after

-- ---- a repair as a whole

-- it has come to another line, whatever it has of its own then
pub record HasEndedBy (next : Operation → Line) (v w : View) : Type 0 where
  pub follows : Follows v w
  pub comes : (operation : Operation) → Runs v operation → (private : List Ref) × Runs w (record operation { private = private; line = next operation })

abbrev pub HasEndedAt : Line → View → View → Type 0
HasEndedAt l v w = HasEndedBy (λ operation. l) v w

-- the branch has this bitmap
abbrev pub IsBranch : View → Ref → ℕ → Type 0
IsBranch v main bitmap = (slot : Slot) × (entries : ArrayVec Ref) × IsUsed v main slot × (slot.node ≡ Branch bitmap entries)

-- the branch that stands in the indirection in this slot, with this bitmap
pub record IsBranchBelow (v : View) (path : List Ref) (main : Ref) (name : ℕ) (link : Link) (bitmap : ℕ) : Type 0 where
  pub placed : IsPlaced v (current path) name
  pub link_is : KnowsLink v (current path) main link
  pub branch : IsBranch v main bitmap

-- it is to look at that one, in a CLEAN
abbrev pub IsAtCleanedBranch : View → ℕ → Link → ℕ → Bool → Type 0
IsAtCleanedBranch v name link bitmap below =
    (path : List Ref) × (main : Ref) × IsOn v (line.Clean (clean.Main path main)) × IsBranchBelow v path main name link bitmap × (is_below_root path ≡ below)

-- it begins anew afterwards, or has no slot
abbrev pub AgainOrNot : View → Bool → View → Type 0
AgainOrNot before true after = HasEndedAt new_try before after
AgainOrNot before false after = GivesUp (λ o. reply.NoSlots) before after

abbrev pub HasCleanedBranch : View → Bool → View → Type 0
HasCleanedBranch before result after = (path : List Ref) (main : Ref) → IsOn before (line.Clean (clean.Main path main)) → AgainOrNot before result after

-- it is to clean below the indirection in this slot, which is the root or isn't
abbrev pub IsAtClean : View → ℕ → Bool → Type 0
IsAtClean v name below =
    (path : List Ref) × IsOn v (line.Clean (clean.Read path (reading (current path)))) × IsPlaced v (current path) name × (is_below_root path ≡ below)

abbrev pub HasCleanedBelow : View → Bool → View → Type 0
HasCleanedBelow before result after = (path : List Ref) → IsOn before (line.Clean (clean.Read path (reading (current path)))) → AgainOrNot before result after

-- it is to look at the first entry of that branch, in a RENEW
abbrev pub IsAtRenew : View → ℕ → Link → ℕ → Type 0
IsAtRenew v name link bitmap = (path : List Ref) × (main : Ref) × IsOn v (line.Renew (renew.Entry path main [])) × IsBranchBelow v path main name link bitmap

-- the branch is renewed, so it is read again; or it isn't any more the one that stands there; or no slot is had
abbrev pub RenewedBy : View → List Ref → Renewed → View → Type 0
RenewedBy before path renewed.Reads after = HasEndedAt (line.Key (key.Read path (reading (current path)))) before after
RenewedBy before path renewed.Again after = HasEndedAt new_try before after
RenewedBy before path renewed.Full after = GivesUp (λ o. reply.NoSlots) before after

-- after its SWAP
abbrev pub renewed_by : Swapped → Renewed
renewed_by (Commits r) = renewed.Reads
renewed_by (Fails r) = renewed.Again
renewed_by Misses = renewed.Again

abbrev pub HasRenewedBranch : View → Renewed → View → Type 0
HasRenewedBranch before result after = (path : List Ref) (main : Ref) → IsOn before (line.Renew (renew.Entry path main [])) → RenewedBy before path result after
