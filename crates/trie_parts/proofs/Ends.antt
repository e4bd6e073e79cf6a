-- A SWAP doesn't end in its READ.
use Rattle.std.specs.Prelude.{◌≡◌, Bool, None, refl}
use Rattle.trie_parts.specs.Beneath.slot_arena.specs.declared.refs.Ref.{Ref}
use Rattle.trie_parts.specs.Beneath.slot_arena.specs.Heaps.{Heap, no_ref}
use Rattle.trie_parts.specs.Beneath.history.specs.declared.calls.Access.{Access}
use Rattle.trie_parts.specs.Beneath.machine_model.specs.declared.reading.After.{After}
use Rattle.trie_parts.specs.Beneath.machine_model.specs.declared.reading.After.TheVariants.{Goes, Gives}
use Rattle.trie_parts.specs.Beneath.machine_model.specs.declared.reading.ReadLine.{ReadLine}
use Rattle.trie_parts.specs.Beneath.machine_model.specs.declared.reading.Swap.{Swap as Defined}
use Rattle.trie_parts.specs.Beneath.machine_model.specs.declared.reading.SwapLine.{SwapLine}
use Rattle.trie_parts.specs.Beneath.machine_model.specs.declared.reading.SwapLine.TheVariants as swap
use Rattle.trie_parts.specs.Beneath.machine_model.specs.declared.roots.RootWord.TheVariants.{Plain}
use Rattle.trie_parts.specs.Beneath.machine_model.specs.Operations.{swapping_read}
use Rattle.trie_parts.specs.Beneath.machine_model.specs.Reading.{read_after}
use Rattle.trie_parts.specs.Beneath.machine_model.specs.Swapping.{after_deciding, on_line}
use Rattle.gcas.specs.declared.next.Next.{Next}
use Rattle.gcas.specs.declared.next.Next.TheVariants.{More, AskRoot, Done}
use Rattle.gcas.specs.declared.swap.Swap.{Swap}
use Rattle.gcas.specs.Swaps.{SwapsOn}
use Rattle.trie_parts.specs.Steps.{IsLast}

never : (s : Defined) (x : After ReadLine Ref) (done : Bool) → on_line s (after_deciding x) ≡ Gives done → ⊥
never s (Goes line) done e = cc
never s (Gives main) done e = cc

pub ended : (heap : Heap) (access : Access) (indirection replaced fresh : Ref) (line : SwapLine) (after : Swap) (next : Next Bool) →
    SwapsOn heap access (record { indirection = indirection; replaced = replaced; fresh = fresh; line = line }) after next → IsLast next → swapping_read indirection line ≡ None
ended heap access indirection replaced fresh swap.Publish after next told last = refl
ended heap access indirection replaced fresh swap.Check after next told last = refl
ended heap access indirection replaced fresh (swap.Deciding l) after (More k) told last = absurd last
ended heap access indirection replaced fresh (swap.Deciding l) after AskRoot told last = absurd last
ended heap access indirection replaced fresh (swap.Deciding l) after (Done k done) told last =
    absurd (never (record { indirection = indirection; replaced = replaced; fresh = fresh; line = swap.Deciding l }) (read_after heap access (Plain no_ref) indirection l) done (told.1 (Plain no_ref)))
