-- A SWAP of the code as the definition's, and what a step of it comes to.
use Rattle.std.specs.Prelude.{◌≡◌, ℕ, Bool, true, Option, None}
use Rattle.machine_model.specs.Beneath.slot_arena.specs.declared.refs.Ref.{Ref}
use Rattle.machine_model.specs.Beneath.slot_arena.specs.Heaps.{Heap, node_at}
use Rattle.machine_model.specs.Beneath.slot_arena.specs.Arenas.{IsLive, is_indirection}
use Rattle.machine_model.specs.Beneath.history.specs.declared.calls.Access.{Access}
use Rattle.machine_model.specs.declared.reading.After.TheVariants.{Goes, Gives}
use Rattle.machine_model.specs.declared.reading.ReadLine.{ReadLine}
use Rattle.machine_model.specs.declared.reading.Swap.{Swap as Defined}
use Rattle.machine_model.specs.declared.reading.SwapLine.{SwapLine}
use Rattle.machine_model.specs.declared.reading.SwapLine.TheVariants as swap
use Rattle.machine_model.specs.declared.roots.RootWord.{RootWord}
use Rattle.machine_model.specs.Swapping.{swap_action, swap_after}
use Rattle.machine_model.specs.Operations.{kind_of, swapping_read}
use Rattle.gcas.specs.declared.next.Next.{Next}
use Rattle.gcas.specs.declared.next.Next.TheVariants.{More, AskRoot, Done}
use Rattle.gcas.specs.declared.read.Read.{Read}
use Rattle.gcas.specs.declared.swap.Swap.{Swap}
use Rattle.gcas.specs.declared.swap.SwapAt.{SwapAt}
use Rattle.gcas.specs.declared.swap.SwapAt.TheVariants as at
use Rattle.gcas.specs.Reads.{line_of, IsAsking, CanReadOn, ReadsAlong}

-- ---- where it stands

abbrev pub swap_line_at : SwapAt → ReadLine → SwapLine
swap_line_at at.Publish line = swap.Publish
swap_line_at at.Deciding line = swap.Deciding line
swap_line_at at.Check line = swap.Check

-- the definition's SWAP, where its READ stands on this line
abbrev pub swap_with : Read → Ref → Ref → SwapAt → ReadLine → Defined
swap_with r replaced fresh place line = record { indirection = r.indirection; replaced = replaced; fresh = fresh; line = swap_line_at place line }

-- the definition's SWAP that was told this of the root's generation
abbrev pub swap_of : Swap → Option ℕ → Defined
swap_of s root_seen = swap_with s.read s.replaced s.fresh s.at (line_of s.read root_seen)

-- ---- what a step comes to

abbrev pub IsAskingLine : SwapLine → Type 0
IsAskingLine swap.Publish = ⊥
IsAskingLine (swap.Deciding line) = IsAsking line
IsAskingLine swap.Check = ⊥

-- What a SWAP of the definition comes to by its step, behind which the code's SWAP stands as `after` does: what was told is used up. Whatever the root
-- word is, since a step that reads it isn't a SWAP's own.
abbrev pub SwapsOn : Heap → Access → Defined → Swap → Next Bool → Type 0
SwapsOn heap access before after (More k) =
    (kind_of (swap_action before) ≡ k) × ((word : RootWord) → swap_after heap access word before ≡ Goes (swap_of after None))
    × ReadsAlong heap access (swapping_read before.indirection before.line) k after.read.at
SwapsOn heap access before after AskRoot = IsAskingLine before.line
SwapsOn heap access before after (Done k done) =
    (kind_of (swap_action before) ≡ k) × ((word : RootWord) → swap_after heap access word before ≡ Gives done)
    × ReadsAlong heap access (swapping_read before.indirection before.line) k after.read.at

-- ---- what it asks of the heap

abbrev pub CanSwapAt : Heap → Read → Ref → SwapAt → Type 0
CanSwapAt heap r fresh at.Publish = IsLive heap r.indirection × (is_indirection (node_at heap r.indirection) ≡ true) × IsLive heap fresh
CanSwapAt heap r fresh at.Deciding = CanReadOn heap r
CanSwapAt heap r fresh at.Check = Unit {0}

-- what a SWAP is going to change is in use, and of its kind
abbrev pub CanSwapOn : Heap → Swap → Type 0
CanSwapOn heap s = CanSwapAt heap s.read s.fresh s.at
