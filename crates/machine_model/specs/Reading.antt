-- READ: gives the decided main node of an indirection. A main node may stand there undecided, pending over the one
-- before it; whoever reads it decides it. On a writable handle it is committed where the root still has the
-- indirection's generation, and else it fails; on a read-only handle it fails. In the place of a failed one the one
-- before it is put back.
use Rattle.std.specs.Prelude.{ℕ, ◌==◌, Bool, true, false, nat_eq, Option, Some, None}
use Rattle.std.specs.Option.{option_eq}
use Rattle.history.specs.declared.calls.Access.{Access}
use Rattle.history.specs.declared.calls.Access.TheVariants.{Writable, ReadOnly}
use Rattle.machine_model.specs.Beneath.slot_arena.specs.declared.refs.Ref.{Ref}
use Rattle.machine_model.specs.Beneath.slot_arena.specs.declared.nodes.Prev.{Prev}
use Rattle.machine_model.specs.Beneath.slot_arena.specs.declared.nodes.Prev.TheVariants as prev
use Rattle.machine_model.specs.declared.roots.RootWord.{RootWord}
use Rattle.machine_model.specs.declared.roots.RootWord.TheVariants.{Plain, Offer}
use Rattle.machine_model.specs.declared.reading.After.{After}
use Rattle.machine_model.specs.declared.reading.After.TheVariants.{Goes, Gives}
use Rattle.machine_model.specs.declared.reading.Read.{Read}
use Rattle.machine_model.specs.declared.reading.ReadLine.{ReadLine}
use Rattle.machine_model.specs.declared.reading.ReadLine.TheVariants as read
use Rattle.machine_model.specs.declared.actions.Action.{Action}
use Rattle.machine_model.specs.declared.actions.Action.TheVariants as act
use Rattle.machine_model.specs.declared.operations.Operation.{Operation}
use Rattle.machine_model.specs.Beneath.slot_arena.specs.Heaps.{Heap, main_at, prev_at, generation_at}
use Rattle.machine_model.specs.Calls.{handle_of}
use Rattle.machine_model.specs.States.{State, word_at}

-- what its step does
abbrev pub read_action : Ref → ReadLine → Action
read_action indirection read.Main = act.ReadMain indirection
read_action indirection (read.Prev main) = act.ReadPrev main
read_action indirection (read.AskRoot main previous) = act.ReadRoot
read_action indirection (read.Abort main previous offer) = act.Abort offer
read_action indirection (read.Decide main previous root_seen) = act.Decide indirection main previous root_seen
read_action indirection (read.Restore main previous) = act.Restore indirection main previous

-- What comes after each line; the word that it reads stands last.

-- after the prev word: a decided node is given, a failed one is replaced, a pending one is decided
abbrev pub after_prev : Access → Ref → Prev → After ReadLine Ref
after_prev access main prev.None = Gives main
after_prev access main (prev.Failed previous) = Goes (read.Restore main previous)
after_prev Writable main (prev.Pending previous) = Goes (read.AskRoot main previous)
after_prev ReadOnly main (prev.Pending previous) = Goes (read.Decide main previous None)

-- after the root word: its generation is told, or the offer that stands there is taken back first
abbrev pub after_ask : Heap → Ref → Ref → RootWord → After ReadLine Ref
after_ask heap main previous (Plain root) = Goes (read.Decide main previous (Some (generation_at heap root)))
after_ask heap main previous (Offer offer) = Goes (read.Abort main previous offer)

-- the root was told to have the indirection's generation
abbrev pub is_licensed : Heap → Ref → Option ℕ → Bool
is_licensed heap indirection root_seen = option_eq nat_eq root_seen (Some (generation_at heap indirection))

abbrev pub is_pending : Prev → Ref → Bool
is_pending prev.None previous = false
is_pending (prev.Failed p) previous = false
is_pending (prev.Pending p) previous = p == previous

-- what a step that decides a main node comes to: with a licence a node that is still pending is committed, without one it
-- fails; a node that isn't pending any more was decided by another
pub data Verdict : Type 0 where
  Commits : Verdict
  Fails : Verdict
  Overtaken : (licensed : Bool) → Verdict

abbrev pub verdict_by : Bool → Bool → Verdict
verdict_by true true = Commits
verdict_by false true = Fails
verdict_by licensed false = Overtaken licensed

abbrev pub verdict : Heap → Ref → Ref → Ref → Option ℕ → Verdict
verdict heap indirection main previous root_seen = verdict_by (is_licensed heap indirection root_seen) (is_pending (prev_at heap main) previous)

-- after deciding: what another decided is read again
abbrev pub after_decide : Ref → Verdict → After ReadLine Ref
after_decide main Commits = Gives main
after_decide main Fails = Goes read.Main
after_decide main (Overtaken true) = Goes (read.Prev main)
after_decide main (Overtaken false) = Goes read.Main

-- after putting the node before back, by whether the failed one still stood there
abbrev pub after_restore : Ref → Bool → After ReadLine Ref
after_restore previous true = Gives previous
after_restore previous false = Goes read.Main

-- what comes after a step of a READ on a handle of this kind, whose root word is this
abbrev pub read_after : Heap → Access → RootWord → Ref → ReadLine → After ReadLine Ref
read_after heap access word indirection read.Main = Goes (read.Prev (main_at heap indirection))
read_after heap access word indirection (read.Prev main) = after_prev access main (prev_at heap main)
read_after heap access word indirection (read.AskRoot main previous) = after_ask heap main previous word
read_after heap access word indirection (read.Abort main previous offer) = Goes (read.AskRoot main previous)
read_after heap access word indirection (read.Decide main previous root_seen) =
    after_decide main (verdict heap indirection main previous root_seen)
read_after heap access word indirection (read.Restore main previous) = after_restore previous (main_at heap indirection == main)

abbrev pub at_indirection : Ref → After ReadLine Ref → After Read Ref
at_indirection indirection (Goes line) = Goes (record { indirection = indirection; line = line })
at_indirection indirection (Gives main) = Gives main

-- what comes after a step of a READ of this operation
abbrev pub read_step : State → Operation → Read → After Read Ref
read_step state operation read =
    at_indirection read.indirection (read_after state.heap operation.access (word_at state (handle_of operation.call)) read.indirection read.line)

-- a READ at its first line
abbrev pub reading : Ref → Read
reading indirection = record { indirection = indirection; line = read.Main }

abbrev pub committed_so : Ref → Verdict → Option Ref
committed_so main Commits = Some main
committed_so main other = None

-- the main node that a step of a READ commits, if it does
abbrev pub committed_by : Heap → Ref → ReadLine → Option Ref
committed_by heap indirection (read.Decide main previous root_seen) = committed_so main (verdict heap indirection main previous root_seen)
committed_by heap indirection line = None
