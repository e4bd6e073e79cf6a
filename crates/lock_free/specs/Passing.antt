-- A READ, pass after pass.
use Rattle.history.specs.declared.calls.Access.{Access}
use Rattle.history.specs.declared.calls.Access.TheVariants.{Writable, ReadOnly}
use Rattle.std.specs.Prelude.{◌≡◌, ℕ, Bool, true, List, ◌++◌, Contains, Option, Some, None}
use Rattle.trie_words.specs.Codes.{IsHeader, IsLink}
use Rattle.trie_words.specs.declared.headers.Header.{Header}
use Rattle.trie_words.specs.declared.headers.Previous.TheVariants as previous
use Rattle.trie_words.specs.declared.links.Link.{Link}
use Rattle.trie_words.specs.declared.names.Name.{Name}
use Rattle.machine_model.specs.Beneath.slot_arena.specs.declared.refs.Ref.{Ref}
use Rattle.machine_model.specs.Beneath.slot_arena.specs.declared.nodes.Slot.{Slot}
use Rattle.machine_model.specs.Beneath.slot_arena.specs.Heaps.{refs_of_node}
use Rattle.machine_model.specs.Beneath.slot_arena.specs.Refs.{slot_of}
use Rattle.machine_model.specs.declared.reading.After.{After}
use Rattle.machine_model.specs.declared.reading.After.TheVariants.{Goes, Gives}
use Rattle.machine_model.specs.declared.reading.ReadLine.{ReadLine}
use Rattle.machine_model.specs.declared.reading.ReadLine.TheVariants as read
use Rattle.machine_model.specs.declared.operations.Operation.{Operation}
use Rattle.machine_model.specs.declared.steps.Step.{Step}
use Rattle.machine_model.specs.Calls.{handle_of}
use Rattle.machine_model.specs.Operations.{read_of}
use Rattle.machine_model.specs.Reading.{is_licensed}
use Rattle.proof_memory.specs.Laws.{SameNode}
use Rattle.proof_memory.specs.Wants.{is_main_node}
use Rattle.lock_free.specs.declared.accounts.Known.{Known}
use Rattle.lock_free.specs.declared.reading.Given.{Given}
use Rattle.lock_free.specs.declared.reading.Passed.{Passed}
use Rattle.lock_free.specs.declared.reading.Passed.TheVariants as passed
use Rattle.lock_free.specs.declared.reading.ReadFrom.{ReadFrom}
use Rattle.lock_free.specs.declared.reading.ReadFrom.TheVariants as resume
use Rattle.lock_free.specs.declared.reading.Way.{Way}
use Rattle.lock_free.specs.declared.rules.View.{View}
use Rattle.lock_free.specs.Accounts.{place_of, IsOwn}
use Rattle.lock_free.specs.Exchanging.{IsNamed, IsNamedOrGone, IsLinkTo}
use Rattle.lock_free.specs.Loading.{now, seen, Runs, IsUsed, IsSound}
use Rattle.lock_free.specs.Nodes.{SaysShape}
use Rattle.lock_free.specs.OfReads.{read_to}

-- ---- how what a seat knows goes on

-- it has seen more happen, and what it knew of nodes and offers is so
pub record Later (v w : View) : Type 0 where
  pub is : w ≡ seen v w.account
  pub places : (r : Ref) (slot : Slot) → IsUsed v r slot → place_of w.account r ≡ place_of v.account r
  pub owns : (a b : Ref) (c : Bool) → IsOwn v.account a b c → IsOwn w.account a b c
  pub nodes : (r : Ref) (slot : Slot) → IsUsed v r slot → (later : Slot) × IsUsed w r later × SameNode slot.node later.node
  pub goes_on : (more : List Step) × (w.account.steps ≡ v.account.steps ++ more)
  pub offers : (k : Known) → Contains v.account.offered k → Contains w.account.offered k

-- the operation's READ has come to this
pub record HasCome (out : After ReadLine Ref) (v w : View) : Type 0 where
  pub later : Later v w
  pub comes : (operation : Operation) → Runs v operation → Runs w (read_to out operation)

-- the operation is in a READ of this indirection, on this line
abbrev pub IsReading : View → Ref → ReadLine → Type 0
IsReading v i x = (operation : Operation) × Runs v operation × (read_of operation.line ≡ Some (record { indirection = i; line = x }))

-- its handle is this one
abbrev pub IsOnWay : View → Way → Type 0
IsOnWay v way = (operation : Operation) → Runs v operation → (operation.access ≡ way.access) × (handle_of operation.call ≡ way.handle)

-- ---- what it knows of an indirection and of main nodes

-- this is the indirection's word while that main node stands there
pub record KnowsLink (v : View) (i main : Ref) (link : Link) : Type 0 where
  pub is : IsLinkTo v i main link
  pub fits : IsLink link
  pub link_used : (slot : Slot) × IsUsed v i slot
  pub main_used : (slot : Slot) × IsUsed v main slot

-- the indirection is in this slot
abbrev pub IsPlaced : View → Ref → ℕ → Type 0
IsPlaced v r name = ((slot : Slot) × IsUsed v r slot) × (place_of v.account r ≡ name)

-- this is the main node's header, but for what it says of the one before
pub record KnowsMain (v : View) (main : Ref) (header : Header) : Type 0 where
  pub slot : Slot
  pub used : IsUsed v main slot
  pub is_main : is_main_node slot.node ≡ true
  pub is_shape : SaysShape v.account (slot_of main) slot.node header.shape
  pub fits : IsHeader header
  pub names : (r : Ref) → Contains (refs_of_node slot.node) r → (other : Slot) × IsUsed v r other

-- it was pending over that one
pub record KnowsPending (v : View) (i main replaced : Ref) (header : Header) : Type 0 where
  pub main_is : KnowsMain v main header
  pub name : Name
  pub says : header.previous ≡ previous.Pending name
  pub names : IsNamed v i replaced name
  pub used : (slot : Slot) × IsUsed v replaced slot

-- ---- passes

-- it is to ask for the root, since the main node of this link is pending and has this header
pub record IsToAsk (v : View) (i : Ref) (link : Link) (header : Header) : Type 0 where
  pub main : Ref
  pub replaced : Ref
  pub reading : IsReading v i (read.AskRoot main replaced)
  pub writable : (operation : Operation) → Runs v operation → operation.access ≡ Writable
  pub link_is : KnowsLink v i main link
  pub header_is : KnowsPending v i main replaced header

-- the READ is at its first line, or has read this link and is to read the header, or to ask
abbrev pub IsFrom : View → Ref → ReadFrom → Type 0
IsFrom v i resume.Start = IsReading v i read.Main
IsFrom v i (resume.Header link) = (main : Ref) × IsReading v i (read.Prev main) × KnowsLink v i main link
IsFrom v i (resume.Asking link header) = IsToAsk v i link header

abbrev pub IsPassing : View → ℕ → ReadFrom → Type 0
IsPassing v name from = (i : Ref) × IsPlaced v i name × IsFrom v i from

-- it has given this main node
pub record HasGiven (before : View) (i : Ref) (given : Given) (after : View) : Type 0 where
  pub main : Ref
  pub come : HasCome (Gives main) before after
  pub link : KnowsLink after i main given.link
  pub header : KnowsMain after main given.header

-- it goes on from there
pub record GoesToAsk (before : View) (i : Ref) (link : Link) (header : Header) (after : View) : Type 0 where
  pub main : Ref
  pub replaced : Ref
  pub come : HasCome (Goes (read.AskRoot main replaced)) before after
  pub writable : (operation : Operation) → Runs after operation → operation.access ≡ Writable
  pub link_is : KnowsLink after i main link
  pub header_is : KnowsPending after i main replaced header

abbrev pub GoesFrom : View → Ref → ReadFrom → View → Type 0
GoesFrom before i resume.Start after = HasCome (Goes read.Main) before after
GoesFrom before i (resume.Header link) after = (main : Ref) × HasCome (Goes (read.Prev main)) before after × KnowsLink after i main link
GoesFrom before i (resume.Asking link header) after = GoesToAsk before i link header after

abbrev pub PassedBy : View → Ref → Passed → View → Type 0
PassedBy before i (passed.Gives given) after = HasGiven before i given after
PassedBy before i (passed.Again from) after = GoesFrom before i from after

-- of whichever indirection the READ is
abbrev pub HasPassed : View → Passed → View → Type 0
HasPassed before result after = (i : Ref) (x : ReadLine) → IsReading before i x → PassedBy before i result after

-- after some passes, from which the READ goes on
pub record HasPassedSome (words : ℕ) (way : Way) (name : ℕ) (before after : View) (next : ReadFrom) : Type 0 where
  pub sound : IsSound words after
  pub on : IsOnWay after way
  pub passing : IsPassing after name next
  pub passed : HasPassed before (passed.Again next) after

-- ---- between

-- on a writable handle the root is asked first
abbrev pub pending_line : Access → Ref → Ref → ReadLine
pending_line Writable main replaced = read.AskRoot main replaced
pending_line ReadOnly main replaced = read.Decide main replaced None

-- the main node that was read is to be decided
abbrev pub IsPending : View → Way → Link → Header → Type 0
IsPending v way link header =
    (i : Ref) × (main : Ref) × (replaced : Ref) × IsReading v i (pending_line way.access main replaced) × KnowsLink v i main link × KnowsPending v i main replaced header

-- the root was asked, and so it is licensed or not
abbrev pub HasLicense : View → Way → Link → Bool → View → Type 0
HasLicense before way link licensed after = (i main replaced : Ref) → IsReading before i (pending_line way.access main replaced) → KnowsLink before i main link →
    (told : Option ℕ) × HasCome (Goes (read.Decide main replaced told)) before after × (is_licensed (now after).heap i told ≡ licensed)

-- or it is still to be asked
abbrev pub StillAsks : View → Way → View → Type 0
StillAsks before way after = (way.access ≡ Writable) × ((i main replaced : Ref) → IsReading before i (read.AskRoot main replaced) → HasCome (Goes (read.AskRoot main replaced)) before after)

abbrev pub HasLicenseOrNot : View → Way → Link → Option Bool → View → Type 0
HasLicenseOrNot before way link (Some licensed) after = HasLicense before way link licensed after
HasLicenseOrNot before way link None after = StillAsks before way after

-- it is to be decided so
pub record IsDeciding (v : View) (link : Link) (header : Header) (licensed : Bool) : Type 0 where
  pub i : Ref
  pub main : Ref
  pub replaced : Ref
  pub told : Option ℕ
  pub reading : IsReading v i (read.Decide main replaced told)
  pub licensed_is : is_licensed (now v).heap i told ≡ licensed
  pub link_is : KnowsLink v i main link
  pub header_is : KnowsPending v i main replaced header

-- the root's generation is asked
abbrev pub IsAsking : View → ℕ → Type 0
IsAsking v handle =
    (i : Ref) × (main : Ref) × (replaced : Ref) × (operation : Operation) × Runs v operation × (read_of operation.line ≡ Some (record { indirection = i; line = read.AskRoot main replaced })) ×
    (handle_of operation.call ≡ handle)

abbrev pub HasAsked : View → Option ℕ → View → Type 0
HasAsked before told after = (i main replaced : Ref) → IsReading before i (read.AskRoot main replaced) → HasCome (Goes (read.Decide main replaced told)) before after

-- it is still to be asked
abbrev pub HasAskedAgain : View → View → Type 0
HasAskedAgain before after = (i main replaced : Ref) → IsReading before i (read.AskRoot main replaced) → HasCome (Goes (read.AskRoot main replaced)) before after

-- it was told, or is still to be asked
abbrev pub HasAskedOrNot : View → Option ℕ → View → Type 0
HasAskedOrNot before (Some generation) after = HasAsked before (Some generation) after
HasAskedOrNot before None after = HasAskedAgain before after

-- after some looks it still is
pub record HasAskedSome (words handle : ℕ) (before after : View) : Type 0 where
  pub sound : IsSound words after
  pub asking : IsAsking after handle
  pub again : HasAskedAgain before after

-- the main node that was read has failed
abbrev pub IsFailed : View → ℕ → Link → Name → Type 0
IsFailed v name link former =
    (i : Ref) × (main : Ref) × (replaced : Ref) × IsReading v i (read.Restore main replaced) × IsPlaced v i name × KnowsLink v i main link × IsNamedOrGone v i main replaced former
    × IsPlaced v replaced former.slot
