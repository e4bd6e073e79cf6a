-- What a READ comes to, as a program sees it in which it runs.
use Rattle.std.specs.Prelude.{◌≡◌, Some, None, refl}
use Rattle.std.proofs.Common.{ap, ◌∙◌}
use Rattle.trie_parts.specs.Beneath.slot_arena.specs.declared.refs.Ref.{Ref}
use Rattle.trie_parts.specs.Beneath.slot_arena.specs.Heaps.{Heap}
use Rattle.trie_parts.specs.Beneath.history.specs.declared.calls.Access.{Access}
use Rattle.trie_parts.specs.Beneath.machine_model.specs.declared.reading.After.TheVariants.{Goes, Gives}
use Rattle.trie_parts.specs.Beneath.machine_model.specs.declared.reading.ReadLine.{ReadLine}
use Rattle.trie_parts.specs.Beneath.machine_model.specs.Reading.{at_indirection}
use Rattle.gcas.specs.declared.next.Next.{Next}
use Rattle.gcas.specs.declared.next.Next.TheVariants.{More, AskRoot, Done}
use Rattle.gcas.specs.declared.read.ReadAt.{ReadAt}
use Rattle.gcas.specs.declared.read.ReadAt.TheVariants as at
use Rattle.gcas.specs.Reads.{ReadsOn, come_to, given_so, read_of}
use Rattle.trie_parts.specs.Steps.{ReadsInside}

goes_on : (access : Access) (indirection : Ref) (place : ReadAt) → given_so place ≡ None →
    at_indirection indirection (come_to access place) ≡ Goes (read_of (record { access = access; indirection = indirection; at = place }) None)
goes_on access indirection at.Main e = refl
goes_on access indirection (at.Prev main) e = refl
goes_on access indirection (at.Decide main previous) e = refl
goes_on access indirection (at.Restore main previous) e = refl
goes_on access indirection (at.Given main) e = cc

gives : (access : Access) (indirection : Ref) (place : ReadAt) (main : Ref) → given_so place ≡ Some main →
    at_indirection indirection (come_to access place) ≡ Gives main
gives access indirection at.Main main e = cc
gives access indirection (at.Prev m) main e = cc
gives access indirection (at.Decide m previous) main e = cc
gives access indirection (at.Restore m previous) main e = cc
gives access indirection (at.Given m) main e = cc

pub inside : (heap : Heap) (access : Access) (indirection : Ref) (line : ReadLine) (place : ReadAt) (next : Next Ref) → ReadsOn heap access indirection line place next →
    ReadsInside heap access (record { indirection = indirection; line = line }) (record { access = access; indirection = indirection; at = place }) next
inside heap access indirection line place (More k) h =
    (h.0, (λ word. ap (at_indirection indirection) (h.2.0 word) ∙ goes_on access indirection place h.1), h.2)
inside heap access indirection line place AskRoot h = h
inside heap access indirection line place (Done k main) h =
    (h.0, (λ word. ap (at_indirection indirection) (h.2.0 word) ∙ gives access indirection place main h.1), h.2)
