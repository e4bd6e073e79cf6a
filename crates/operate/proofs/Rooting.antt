-- What ROOT comes to, as a call on one key sees it in which it runs.
use Rattle.std.specs.Prelude.{◌≡◌, refl}
use Rattle.std.proofs.Common.{ap, sym, ◌∙◌}
use Rattle.operate.specs.Vocabulary.{Kind, Access, Ref, Heap, Operation, After, RootLine, RootWord, handle_of, kind_of, rooting_read, State, word_at, root_action, root_after, ReadAt, ReadsAlong}
use Rattle.operate.specs.Vocabulary.{KeyCall, Task}
use Rattle.operate.specs.Beneath.ctrie_base.specs.declared.kinds.Kind.TheVariants as kind
use Rattle.operate.specs.Beneath.machine_model.specs.declared.roots.RootLine.TheVariants as root
use Rattle.operate.specs.Beneath.gcas.specs.declared.read.Read.{Read}
use Rattle.operate.specs.Beneath.trie_parts.specs.Tasks.{call_of}
use Rattle.operate.specs.Beneath.trie_parts.proofs.Handles.{handle_same}

-- the root word of the operation is that of the handle
word_same : (state : State) (operation : Operation) (call : KeyCall) (word : RootWord) → word_at state (handle_of operation.call) ≡ word →
    word_at state (handle_of (call_of (handle_of operation.call) call)) ≡ word
word_same state operation call word e = ap (word_at state) (handle_same call (handle_of operation.call)) ∙ e

-- what ROOT comes to, in the state of the operation
pub came : (state : State) (operation : Operation) (heap : Heap) (task : Task) (access : Access) (word : RootWord) (r : Read) (before : RootLine) (next : After RootLine Ref) →
    word_at state (handle_of operation.call) ≡ word → r.access ≡ access → root_after heap r.access word before ≡ next →
    root_after heap access (word_at state (handle_of (call_of (handle_of operation.call) task.call))) before ≡ next
came state operation heap task access word r before next e same told =
    ap (λ w. root_after heap access w before) (word_same state operation task.call word e) ∙ ap (λ a. root_after heap a word before) (sym same) ∙ told

-- where ROOT has read the root, no READ was taken
pub unread : (heap : Heap) (access : Access) (before : RootLine) (k : Kind) (place : ReadAt) → before ≡ root.Read → kind_of (root_action before) ≡ k →
    ReadsAlong heap access (rooting_read before) k place
unread heap access before k place e kinds =
    let looks : kind.ReadRoot ≡ k = rw e at kinds in
    rw (e, ← looks) refl
