-- How an operation begins, at the load that finds its handle open for it, and how it gives up.
use Rattle.history.specs.declared.calls.Access.{Access}
use Rattle.history.specs.declared.calls.Access.TheVariants.{Writable, ReadOnly}
use Rattle.history.specs.declared.calls.Call.{Call}
use Rattle.history.specs.declared.events.Event.TheVariants as event
use Rattle.history.specs.declared.replies.Reply.{Reply}
use Rattle.std.specs.Prelude.{◌≡◌, ◌++◌, ◌∷◌, [], ℕ, List, Bool, true, false, is_some, Some, None, Result, Ok, Err}
use Rattle.atomic_table.specs.Table.{Me, Step}
use Rattle.trie_words.specs.Codes.{IsRootWord, root_of}
use Rattle.trie_words.specs.declared.roots.RootWord.{RootWord}
use Rattle.trie_words.specs.declared.roots.RootWord.TheVariants as word
use Rattle.machine_model.specs.Beneath.ctrie_base.specs.declared.refusals.Refusal.{Refusal}
use Rattle.machine_model.specs.Beneath.ctrie_base.specs.declared.refusals.Refusal.TheVariants as refuse
use Rattle.machine_model.specs.declared.lines.Line.{Line}
use Rattle.machine_model.specs.declared.lines.Line.TheVariants as line
use Rattle.machine_model.specs.declared.operations.Operation.{Operation}
use Rattle.machine_model.specs.declared.steps.Step.TheVariants as step
use Rattle.machine_model.specs.Calls.{handle_of, is_close, needs_read_only, needs_writable, opens_handle}
use Rattle.machine_model.specs.Beneath.slot_arena.specs.declared.refs.Ref.{Ref}
use Rattle.machine_model.specs.GivingUp.{gave_up, given_up}
use Rattle.machine_model.specs.Machine.{begin_denial, begun_operation}
use Rattle.lock_free.specs.Owing.{owes_given_up}
use Rattle.lock_free.specs.declared.accounts.Account.{Account}
use Rattle.lock_free.specs.declared.calling.Denial.{Denial}
use Rattle.lock_free.specs.declared.calling.Denial.TheVariants as denial
use Rattle.lock_free.specs.declared.calling.Started.{Started}
use Rattle.lock_free.specs.declared.calling.Started.TheVariants as started
use Rattle.lock_free.specs.declared.reading.Way.{Way}
use Rattle.lock_free.specs.declared.rules.Pinned.{Pinned}
use Rattle.lock_free.specs.declared.rules.View.{View}
use Rattle.lock_free.specs.Accounts.{running}
use Rattle.lock_free.specs.Beginning.{taking}
use Rattle.lock_free.specs.Freeing.{HasLetGo}
use Rattle.lock_free.specs.GivingUp.{given_back, HasDropped}
use Rattle.lock_free.specs.HandleWords.{is_marked, HasSeenRoot, TellsRoot}
use Rattle.lock_free.specs.Loading.{now, seen, IsSound, Runs, Saw, Waited}
use Rattle.lock_free.specs.Passing.{IsOnWay}
use Rattle.lock_free.specs.Places.{root_word, words_of}
use Rattle.lock_free.specs.SeatWords.{pinned_for, unpinned, HasEnded, IsIdle}
use Rattle.lock_free.specs.Telling.{history_of}
use Rattle.std.specs.Prelude.{Option}

-- The seat runs nothing, has pinned itself for this call, and has reserved a number if it opens a handle.
pub record IsBeginner (v : View) (call : Call) : Type 0 where
  pub idle : IsIdle v
  pub asks : v.asks ≡ Some call
  pub pin : Pinned
  pub pinned : v.pin ≡ Some pin
  pub its : pin.pin.handle ≡ handle_of call
  pub number : opens_handle call ≡ is_some v.opens
  pub stays : is_close call ≡ false

-- ---- what comes of it, by the handle's word

abbrev pub runs_unless : Bool → Denial → RootWord → Result Started RootWord
runs_unless true why found = Ok (started.Denied why)
runs_unless false why found = Ok (started.Runs found)

abbrev pub started_by : RootWord → Call → Result Started RootWord
started_by word.Closed call = Ok (started.Denied denial.NoHandle)
started_by word.Reserved call = Ok (started.Denied denial.NoHandle)
started_by (word.Opening slot) call = Ok (started.Opening slot)
started_by (word.ClosingWritable root seat) call = Err (word.ClosingWritable root seat)
started_by (word.ClosingReadOnly root seat) call = Err (word.ClosingReadOnly root seat)
started_by (word.ReadOnly slot) call = runs_unless (needs_writable call) denial.ReadOnly (word.ReadOnly slot)
started_by (word.Writable slot) call = runs_unless (needs_read_only call) denial.NotReadOnly (word.Writable slot)
started_by (word.Offered slot) call = runs_unless (needs_read_only call) denial.NotReadOnly (word.Offered slot)

-- ---- it begins

abbrev pub access_in : RootWord → Access
access_in (word.ReadOnly slot) = ReadOnly
access_in found = Writable

-- the definition's operation of this call
abbrev pub first_operation : View → Account → Call → Operation
first_operation v account call = begun_operation (now (seen v account)) call v.opens

abbrev pub once_begun : View → Call → Account → View
once_begun v call account = record v { account = taking (step.Begin v.actor call v.opens) account; entered = Some (handle_of call) }

-- it runs, by a step that the definition allows; this is the handle's word at that moment
pub record HasBegun (before : View) (call : Call) (found : RootWord) (after : View) : Type 0 where
  pub account : Account
  pub waited : Waited before account
  pub after_is : after ≡ once_begun before call account
  pub allowed : begin_denial (now (seen before account)) before.actor call before.opens ≡ None
  pub runs : running after.sizes after.account after.actor (first_operation before account call)
  pub access : (first_operation before account call).access ≡ access_in found
  pub fits : IsRootWord found
  pub tells : TellsRoot before.sizes account before.pin (handle_of call) found
  -- and the history has its begin
  pub told : history_of after.sizes after.account ≡ history_of before.sizes account ++ event.Begin (first_operation before account call).id before.actor call before.opens ∷ []

-- ---- or it doesn't

abbrev pub refusal_of : Denial → Refusal
refusal_of denial.NoHandle = refuse.NoHandle
refusal_of denial.ReadOnly = refuse.ReadOnly
refusal_of denial.NotReadOnly = refuse.NotReadOnly

-- the definition denies it so at that moment
abbrev pub IsDenied : View → Call → Denial → View → Type 0
IsDenied before call why after = (s : Saw before after) × (begin_denial (now (seen before s.account)) before.actor call before.opens ≡ Some (refusal_of why))

abbrev pub HasStarted : View → Call → Started → View → Type 0
HasStarted before call (started.Runs found) after = HasBegun before call found after
HasStarted before call (started.Denied why) after = IsDenied before call why after
HasStarted before call (started.Opening slot) after = HasSeenRoot before (handle_of call) (word.Opening slot) after

-- or it has met a mark
abbrev pub HasTriedToStart : View → Call → Result Started RootWord → View → Type 0
HasTriedToStart before call (Ok result) after = HasStarted before call result after
HasTriedToStart before call (Err found) after = HasSeenRoot before (handle_of call) found after × (is_marked found ≡ true)

abbrev pub has_started : Step Call → Me Call View → ℕ → Me Call View → Type 0
has_started access before found after =
    ((call : Call) → before.0.asks ≡ Some call → access.word ≡ root_word (handle_of call) → HasTriedToStart before.0 call (started_by (root_of found) call) after.0)
    × IsSound (words_of before.0.sizes) after.0 × (after.1 ≡ before.1)

-- ---- the beginning of a call

-- The seat runs nothing, isn't pinned, and has reserved a number if this call opens a handle.
pub record IsCaller (v : View) (call : Call) : Type 0 where
  pub idle : IsIdle v
  pub free : v.pin ≡ None
  pub number : opens_handle call ≡ is_some v.opens
  pub stays : is_close call ≡ false

-- the handle isn't open for the call, as the definition has it, or is only being opened
pub data IsRefused (before : View) (call : Call) : Denial → View → Type 0 where
  is_denied : (why : Denial) (after : View) → IsDenied before call why after → IsRefused before call why after
  is_opening : (slot : ℕ) (after : View) → HasSeenRoot before (handle_of call) (word.Opening slot) after → IsRefused before call denial.NoHandle after

-- it has begun, or the seat isn't pinned any more
abbrev pub HasCalled : View → Call → Result Way Denial → View → Type 0
HasCalled before call (Ok way) after = (pin : Pinned) × (found : RootWord) × HasBegun (pinned_for before pin call) call found after × IsOnWay after way
HasCalled before call (Err why) after = (pin : Pinned) × (at : View) × IsRefused (pinned_for before pin call) call why at × (after ≡ unpinned at)

-- ---- an operation gives up, at any load

abbrev pub MayGiveUp : View → Type 0
MayGiveUp v = (operation : Operation) × (answer : Reply) × Runs v operation × (given_up operation.call operation.line ≡ Some answer)

abbrev pub once_given_up : View → Account → List Ref → List (ℕ × ℕ) → View
once_given_up v account private drafts =
    record v {
      account = taking (step.GiveUp v.actor) account;
      pool = given_back (now (seen v account)) account private v.pool;
      drafts = drafts;
      owed = owes_given_up v account private;
    }

-- it is to end with this answer
pub record GaveUp (before : View) (operation : Operation) (answer : Reply) (after : View) : Type 0 where
  pub account : Account
  pub waited : Waited before account
  pub after_is : after ≡ once_given_up before account operation.private after.drafts
  pub dropped : HasDropped (seen before account) operation.private operation.line after
  pub runs : Runs after (gave_up operation answer)

abbrev pub HasGivenUp : View → View → Type 0
HasGivenUp before after = (operation : Operation) (answer : Reply) → Runs before operation → given_up operation.call operation.line ≡ Some answer → GaveUp before operation answer after

abbrev pub has_given_up : Step Call → Me Call View → ℕ → Me Call View → Type 0
has_given_up access before found after = HasGivenUp before.0 after.0 × IsSound (words_of before.0.sizes) after.0 × (after.1 ≡ before.1)

-- it has given up, its seat has let go of what it held by that, and it has ended with what it then had to answer
abbrev pub IsCancelled : View → View → Type 0
IsCancelled before after =
    (operation : Operation) (answer : Reply) → Runs before operation → given_up operation.call operation.line ≡ Some answer → (at : View) × (left : View) × GaveUp before operation answer at
    × HasLetGo at left × HasEnded left answer after

-- ---- an operation is cut short, at any load

abbrev pub IsRunning : View → Type 0
IsRunning v = (operation : Operation) × Runs v operation

-- what it answers then; nothing where it is to end anyway, or may not give up
abbrev pub cut_short : Call → Line → Option Reply
cut_short call (line.End answer) = None
cut_short call l = given_up call l

abbrev pub CutBy : View → Operation → Option Reply → View → Type 0
CutBy before operation None after = Saw before after
CutBy before operation (Some answer) after = GaveUp before operation answer after

abbrev pub HasCutShort : View → View → Type 0
HasCutShort before after = (operation : Operation) → Runs before operation → CutBy before operation (cut_short operation.call operation.line) after

abbrev pub has_cut_short : Step Call → Me Call View → ℕ → Me Call View → Type 0
has_cut_short access before found after = HasCutShort before.0 after.0 × IsSound (words_of before.0.sizes) after.0 × (after.1 ≡ before.1)

-- ---- within so many looks

-- or nothing has begun
abbrev pub StartedOrNot : View → Call → Option Started → View → Type 0
StartedOrNot before call (Some result) after = HasStarted before call result after
StartedOrNot before call None after = Saw before after

abbrev pub CalledOrNot : View → Call → Result (Option Way) Denial → View → Type 0
CalledOrNot before call (Ok (Some way)) after = HasCalled before call (Ok way) after
CalledOrNot before call (Ok None) after = (pin : Pinned) × (at : View) × Saw (pinned_for before pin call) at × (after ≡ unpinned at)
CalledOrNot before call (Err why) after = HasCalled before call (Err why) after
