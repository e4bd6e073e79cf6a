-- ABORT's steps inside of any program.
use Rattle.std.specs.Prelude.{◌≡◌, ℕ, List, Option, refl}
use Rattle.std.proofs.Common.{arith, sym, ap, subst, ◌∙◌}
use Rattle.root_asking.specs.Beneath.ctrie_base.specs.declared.hashes.HashKind.TheVariants.{Low}
use Rattle.root_asking.specs.Beneath.ctrie_base.specs.declared.kinds.Kind.{Kind}
use Rattle.root_asking.specs.Beneath.history.specs.declared.calls.Access.TheVariants.{Writable}
use Rattle.root_asking.specs.Beneath.slot_arena.specs.declared.refs.Ref.{Ref}
use Rattle.root_asking.specs.Beneath.slot_arena.specs.Arenas.{is_live}
use Rattle.root_asking.specs.Beneath.slot_arena.specs.Heaps.{Heap}
use Rattle.root_asking.specs.Beneath.epochs.specs.Memories.{Memory}
use Rattle.root_asking.specs.Beneath.machine_model.specs.declared.actions.Action.{Action}
use Rattle.root_asking.specs.Beneath.machine_model.specs.declared.reading.After.TheVariants.{Goes}
use Rattle.root_asking.specs.Beneath.machine_model.specs.declared.roots.Root.{Root}
use Rattle.root_asking.specs.Beneath.machine_model.specs.Acting.{private_after}
use Rattle.root_asking.specs.Beneath.machine_model.specs.Calls.{handle_of}
use Rattle.root_asking.specs.Beneath.machine_model.specs.Operations.{kind_of}
use Rattle.root_asking.specs.Beneath.machine_model.specs.Reading.{read_action, read_after}
use Rattle.root_asking.specs.Beneath.machine_model.specs.States.{State}
use Rattle.root_asking.specs.Beneath.gcas.specs.declared.next.Next.TheVariants.{More, Done}
use Rattle.root_asking.specs.Beneath.gcas.specs.Acted.{acted_heap}
use Rattle.root_asking.specs.Beneath.trie_parts.specs.Here.{at_heap, no_state}
use Rattle.rdcss_root.specs.declared.abort.AbortRead.{AbortRead}
use Rattle.rdcss_root.specs.declared.abort.AbortRead.TheVariants as abort
use Rattle.rdcss_root.specs.Acts.{ActsInAll}
use Rattle.rdcss_root.specs.Holding.{Moves}
use Rattle.rdcss_root.specs.Programs.{AbortsOn}
use Rattle.rdcss_root.specs.Tables.{Table, word_in}
use Rattle.root_asking.specs.declared.asking.Asking.{Asking}
use Rattle.root_asking.specs.declared.asking.Asking.TheVariants.{Unasked, Met, Told}
use Rattle.root_asking.specs.Asked.{IsUntold, AsksOn, abort_of, asking_of, ask_action, asked_at, asked_read}
use Rattle.root_asking.specs.Beneath.machine_model.proofs.Embedding.{each_embeds, program_goes_on}

-- what the READ of ABORT's step does
pub same_action : (indirection main previous : Ref) (asking : Asking) → IsUntold asking → read_action indirection (asked_at main previous asking) ≡ ask_action asking
same_action indirection main previous Unasked untold = refl
same_action indirection main previous (Met offer) untold = refl
same_action indirection main previous (Told generation) untold = absurd untold

-- where the READ goes on, the program does
asks : (heap : Heap) (table : Table) (handle : ℕ) (before after : Asking) (k : Kind) → IsUntold before →
    (
    (indirection main previous : Ref) →
    (kind_of (read_action indirection (asked_at main previous before)) ≡ k)
    × (read_after heap Writable (word_in table handle) indirection (asked_at main previous before) ≡ Goes (asked_at main previous after))
    ) →
    AsksOn heap table handle before after k
asks heap table handle before after k untold steps = λ state operation l indirection main previous is writable same.
    let there : State = record state { heap = heap; roots = table.roots } in
    let at = asked_at main previous before in
    let embeds = each_embeds l (asked_read indirection main previous Unasked) is in
    let step = steps indirection main previous in
    let action = same_action indirection main previous before untold in
    let here = subst (λ n. read_after heap Writable (word_in table n) indirection at ≡ Goes (asked_at main previous after)) (sym same) step.1 in
    let goes = subst (λ a. read_after heap a (word_in table (handle_of operation.call)) indirection at ≡ Goes (asked_at main previous after)) (sym writable) here in
    (embeds.embedded.acts there operation at ∙ action, ap kind_of (sym action) ∙ step.0, program_goes_on l _ embeds there operation at (asked_at main previous after) goes, embeds.embedded.reads at)

pub goes_on : (heap : Heap) (table : Table) (handle : ℕ) (before : Asking) (after : AbortRead) (k : Kind) → IsUntold before →
    ((indirection main previous : Ref) → AbortsOn heap (word_in table handle) (abort_of before) after (More k) indirection main previous) → AsksOn heap table handle before (asking_of after) k
goes_on heap table handle Unasked abort.Read k untold steps = asks heap table handle Unasked Unasked k untold steps
goes_on heap table handle Unasked (abort.Swap other) k untold steps = asks heap table handle Unasked (Met other) k untold steps
goes_on heap table handle (Met offer) abort.Read k untold steps = asks heap table handle (Met offer) Unasked k untold steps
goes_on heap table handle (Met offer) (abort.Swap other) k untold steps = asks heap table handle (Met offer) (Met other) k untold steps
goes_on heap table handle (Told generation) after k untold steps = absurd untold

pub is_told : (heap : Heap) (table : Table) (handle : ℕ) (before : Asking) (after : AbortRead) (k : Kind) (generation : ℕ) → IsUntold before →
    ((indirection main previous : Ref) → AbortsOn heap (word_in table handle) (abort_of before) after (Done k generation) indirection main previous) →
    AsksOn heap table handle before (Told generation) k
is_told heap table handle Unasked after k generation untold steps = asks heap table handle Unasked (Told generation) k untold steps
is_told heap table handle (Met offer) after k generation untold steps = asks heap table handle (Met offer) (Told generation) k untold steps
is_told heap table handle (Told other) after k generation untold steps = absurd untold

-- ---- what it does

moved_by : {before after : Memory} {roots roots' : List (Option Root)} (private : List Ref) (action : Action) → before.heap ≡ acted_heap before.heap action →
    private ≡ private_after (at_heap no_state before.heap Low) private action → Moves before after roots roots' 4 →
    ActsInAll before roots private action after roots' private
moved_by {before} private action heap made moves = record {
  heap = moves.keeps.heap ∙ heap;
  made = made;
  others = λ r. omega (arith, moves.outside r);
  stay = λ q live. ap (λ h. is_live h q) moves.keeps.heap ∙ live;
  epochs = moves.keeps.epochs;
  few = omega (arith, moves.keeps.few);
  ticks = (moves.keeps.ticks.0, omega (arith, moves.keeps.ticks.1));
}

-- root words alone are changed
pub acts : {before after : Memory} {roots roots' : List (Option Root)} (asking : Asking) → Moves before after roots roots' 4 → (private : List Ref) →
    ActsInAll before roots private (ask_action asking) after roots' private
acts Unasked moves private = moved_by private (ask_action Unasked) refl refl moves
acts (Met offer) moves private = moved_by private (ask_action (Met offer)) refl refl moves
acts (Told generation) moves private = moved_by private (ask_action (Told generation)) refl refl moves
