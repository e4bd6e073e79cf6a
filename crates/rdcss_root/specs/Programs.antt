-- COMPLETE, ROOT and ABORT of the code as the definition's, and what a step of them comes to.
use Rattle.std.specs.Prelude.{◌≡◌, ℕ, Bool, [], ◌∷◌, List, Option, Some, None}
use Rattle.rdcss_root.specs.Vocabulary.{Writable, Ref, Heap, AreLive, Gives, ReadLine, Descriptor, Root, RootWord, Complete as DefinedComplete, CompleteLine, RootLine, refs_of_word, read_action}
use Rattle.rdcss_root.specs.Vocabulary.{read_after, complete_action, complete_after, root_action, root_after, kind_of, completing_read, rooting_read}
use Rattle.rdcss_root.specs.Beneath.epochs.specs.Memories.{Memory}
use Rattle.rdcss_root.specs.Beneath.machine_model.specs.declared.reading.After.TheVariants.{Goes}
use Rattle.rdcss_root.specs.Beneath.machine_model.specs.declared.reading.ReadLine.TheVariants as read
use Rattle.rdcss_root.specs.Beneath.machine_model.specs.declared.roots.RootWord.TheVariants as word
use Rattle.rdcss_root.specs.Beneath.machine_model.specs.declared.roots.CompleteLine.TheVariants as complete
use Rattle.rdcss_root.specs.Beneath.machine_model.specs.declared.roots.RootLine.TheVariants as root
use Rattle.rdcss_root.specs.Beneath.gcas.specs.declared.next.Next.{Next}
use Rattle.rdcss_root.specs.Beneath.gcas.specs.declared.next.Next.TheVariants.{More, AskRoot, Done}
use Rattle.rdcss_root.specs.Beneath.gcas.specs.declared.read.Read.{Read}
use Rattle.rdcss_root.specs.Beneath.gcas.specs.Kept.{KeepsBeside}
use Rattle.rdcss_root.specs.Beneath.gcas.specs.Reads.{line_of, IsAsking, CanReadOn, ReadsAlong}
use Rattle.rdcss_root.specs.declared.complete.Complete.{Complete}
use Rattle.rdcss_root.specs.declared.complete.CompleteAt.{CompleteAt}
use Rattle.rdcss_root.specs.declared.complete.CompleteAt.TheVariants as at
use Rattle.rdcss_root.specs.declared.abort.AbortRead.{AbortRead}
use Rattle.rdcss_root.specs.declared.abort.AbortRead.TheVariants as abort
use Rattle.rdcss_root.specs.declared.root.ReadRoot.{ReadRoot}
use Rattle.rdcss_root.specs.declared.root.ReadRoot.TheVariants as rooting
use Rattle.rdcss_root.specs.Holding.{IsReady, Moves}
use Rattle.rdcss_root.specs.Tables.{Table, aborted_in, completed_in}

-- ---- COMPLETE

abbrev pub complete_line_at : CompleteAt → ReadLine → CompleteLine
complete_line_at at.Reading line = complete.Reading line
complete_line_at (at.Swap main) line = complete.Swap main

-- the definition's COMPLETE, where its READ stands on this line
abbrev pub complete_with : Descriptor → CompleteAt → ReadLine → DefinedComplete
complete_with offer place line = record { offer = offer; line = complete_line_at place line }

-- the definition's COMPLETE that was told this of the root's generation
abbrev pub complete_of : Complete → Read → Option ℕ → DefinedComplete
complete_of c r root_seen = complete_with c.offer c.at (line_of r root_seen)

abbrev pub IsAskingIn : CompleteLine → Type 0
IsAskingIn (complete.Reading line) = IsAsking line
IsAskingIn (complete.Swap main) = ⊥

-- what a COMPLETE of the definition comes to by its step, behind which the code's COMPLETE and its READ stand as `after` and `r` do
abbrev pub CompletesOn : Heap → RootWord → DefinedComplete → Complete → Read → Next Bool → Type 0
CompletesOn heap word before after r (More k) =
    (kind_of (complete_action before) ≡ k) × (complete_after heap r.access word before ≡ Goes (complete_of after r None))
    × ReadsAlong heap r.access (completing_read before.offer before.line) k r.at
CompletesOn heap word before after r AskRoot = IsAskingIn before.line
CompletesOn heap word before after r (Done k done) =
    (kind_of (complete_action before) ≡ k) × (complete_after heap r.access word before ≡ Gives done)
    × ReadsAlong heap r.access (completing_read before.offer before.line) k r.at

-- what it asks of the heap and of the root words: its offer's references are in use, and what is held can be counted
abbrev pub CanCompleteAt : Memory → Table → Descriptor → CompleteAt → Read → Type 0
CanCompleteAt memory table offer at.Reading r = (r.indirection ≡ offer.root) × CanReadOn memory.heap r
CanCompleteAt memory table offer (at.Swap main) r = AreLive memory.heap (refs_of_word (word.Offer offer)) × IsReady memory table.roots 8

abbrev pub CanCompleteOn : Memory → Table → Complete → Read → Type 0
CanCompleteOn memory table c r = CanCompleteAt memory table c.offer c.at r

-- its READ is that of the root which is to be swapped
abbrev pub ReadsOffered : CompleteAt → Descriptor → Read → Type 0
ReadsOffered at.Reading offer r = r.indirection ≡ offer.root
ReadsOffered (at.Swap main) offer r = Unit {0}

-- the table of root words behind a step of COMPLETE
abbrev pub completed_at : Table → ℕ → Descriptor → CompleteAt → Table
completed_at table handle offer at.Reading = table
completed_at table handle offer (at.Swap main) = completed_in table handle offer main

-- only where the root is swapped what is held changes
abbrev pub KeepsUnlessSwapped : Memory → Memory → List (Option Root) → List (Option Root) → CompleteAt → Type 0
KeepsUnlessSwapped before after roots now at.Reading = KeepsBeside before after
KeepsUnlessSwapped before after roots now (at.Swap main) = Moves before after roots now 8

-- ---- ROOT

-- the definition's ROOT that was told this of the root's generation
abbrev pub root_of : ReadRoot → Read → Option ℕ → RootLine
root_of rooting.Read r root_seen = root.Read
root_of (rooting.Completing c) r root_seen = root.Completing (complete_of c r root_seen)

abbrev pub IsAskingRooting : RootLine → Type 0
IsAskingRooting root.Read = ⊥
IsAskingRooting (root.Completing c) = IsAskingIn c.line

-- what a ROOT of the definition comes to by its step, behind which the code's ROOT and its READ stand as `after` and `r` do
abbrev pub RootsOn : Heap → RootWord → RootLine → ReadRoot → Read → Next Ref → Type 0
RootsOn heap word before after r (More k) =
    (kind_of (root_action before) ≡ k) × (root_after heap r.access word before ≡ Goes (root_of after r None)) × ReadsAlong heap r.access (rooting_read before) k r.at
RootsOn heap word before after r AskRoot = IsAskingRooting before
RootsOn heap word before after r (Done k given) =
    (kind_of (root_action before) ≡ k) × (root_after heap r.access word before ≡ Gives given) × (before ≡ root.Read)

abbrev pub CanRootOn : Memory → Table → ReadRoot → Read → Type 0
CanRootOn memory table rooting.Read r = Unit {0}
CanRootOn memory table (rooting.Completing c) r = CanCompleteOn memory table c r

-- where it completes an offer its READ is that of the root which is to be swapped
abbrev pub ReadsItsRoot : ReadRoot → Read → Type 0
ReadsItsRoot rooting.Read r = Unit {0}
ReadsItsRoot (rooting.Completing c) r = ReadsOffered c.at c.offer r

-- the table of root words behind a step of ROOT
abbrev pub rooted_at : Table → ℕ → ReadRoot → Table
rooted_at table handle rooting.Read = table
rooted_at table handle (rooting.Completing c) = completed_at table handle c.offer c.at

abbrev pub KeepsUnlessCompleted : Memory → Memory → List (Option Root) → List (Option Root) → ReadRoot → Type 0
KeepsUnlessCompleted before after roots now rooting.Read = after ≡ before
KeepsUnlessCompleted before after roots now (rooting.Completing c) = KeepsUnlessSwapped before after roots now c.at

-- ---- ABORT

-- the definition's line of a READ that found this node pending over that one, and whose ABORT stands here
abbrev pub abort_line : Ref → Ref → AbortRead → ReadLine
abort_line main previous abort.Read = read.AskRoot main previous
abort_line main previous (abort.Swap offer) = read.Abort main previous offer

-- what such a READ comes to by a step of its ABORT
abbrev pub AbortsOn : Heap → RootWord → AbortRead → AbortRead → Next ℕ → Ref → Ref → Ref → Type 0
AbortsOn heap word before after (More k) indirection main previous =
    (kind_of (read_action indirection (abort_line main previous before)) ≡ k)
    × (read_after heap Writable word indirection (abort_line main previous before) ≡ Goes (abort_line main previous after))
AbortsOn heap word before after AskRoot indirection main previous = ⊥
AbortsOn heap word before after (Done k generation) indirection main previous =
    (kind_of (read_action indirection (abort_line main previous before)) ≡ k)
    × (read_after heap Writable word indirection (abort_line main previous before) ≡ Goes (read.Decide main previous (Some generation)))

-- what it asks of the heap and of the root words
abbrev pub CanAbortOn : Memory → Table → AbortRead → Type 0
CanAbortOn memory table abort.Read = Unit {0}
CanAbortOn memory table (abort.Swap offer) = AreLive memory.heap (offer.root ∷ []) × IsReady memory table.roots 4

abbrev pub table_after_abort : Table → ℕ → AbortRead → Table
table_after_abort table handle abort.Read = table
table_after_abort table handle (abort.Swap offer) = aborted_in table handle offer
