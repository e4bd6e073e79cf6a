-- What an operation's READ gives and commits by a step, of a program that swaps no main node of its own.
use Rattle.std.specs.Prelude.{◌≡◌, Bool, ◌&&◌, is_some, Option, Some, None, refl}
use Rattle.std.proofs.Common.{sym, ap, ◌∙◌}
use Rattle.std.proofs.lemmas.Option.{none-some}
use Rattle.running.specs.Vocabulary.{Kind, Access, Ref, Heap, no_ref, Line, Operation, Read, ReadLine, CompleteLine, Descriptor, RootWord, Plain, Offer, handle_of, kind_of, line_action, read_of}
use Rattle.running.specs.Vocabulary.{after_ask, at_indirection, read_action, read_after, State, word_at, committed_in, counts_from, given_by, given_in, ReadAt, ReadsAlong, come_to, given_so}
use Rattle.running.specs.Vocabulary.{action_on}
use Rattle.ctrie_base.specs.declared.kinds.Kind.TheVariants as kind
use Rattle.running.specs.Beneath.machine_model.specs.declared.copying.CopyLine.TheVariants as copy
use Rattle.running.specs.Beneath.machine_model.specs.declared.lines.Line.TheVariants as line
use Rattle.running.specs.Beneath.machine_model.specs.declared.reading.ReadLine.TheVariants as read
use Rattle.running.specs.Beneath.machine_model.specs.declared.roots.CompleteLine.TheVariants as complete
use Rattle.running.specs.Beneath.machine_model.specs.declared.roots.RootLine.TheVariants as root
use Rattle.running.specs.Beneath.machine_model.specs.declared.walking.WalkLine.TheVariants as walk
use Rattle.running.specs.Beneath.gcas.specs.declared.read.ReadAt.TheVariants as at
use Rattle.running.specs.Beneath.gcas.specs.Reads.{committed_so}
use Rattle.running.specs.Beneath.trie_parts.specs.Steps.{Leads}
use Rattle.running.specs.Beneath.machine_model.proofs.Embedding.{each_embeds}
use Rattle.running.specs.Steps.{Takes, taken_in, taken_so}
use Rattle.running.specs.Taking.{committed_if, counts_if, given_if, if_reading}
use Rattle.running.proofs.Counting.{gives_nothing, in_read, outside}

-- the line is of a program that swaps no main node but in its READ
abbrev pub SwapsNone : Line → Type 0
SwapsNone (line.Root l) = Unit {0}
SwapsNone (line.Copy l) = Unit {0}
SwapsNone (line.Walk l) = Unit {0}
SwapsNone (line.End answer) = Unit {0}
SwapsNone line.Impossible = Unit {0}
SwapsNone l = ⊥

-- ---- outside of its READ

completing_gives : (offer : Descriptor) (l : CompleteLine) (state : State) (operation : Operation) (x : Option Ref) →
    read_of (line.Copy (copy.Complete (record { offer = offer; line = l }))) ≡ None →
    given_if (kind_of (line_action state operation (line.Copy (copy.Complete (record { offer = offer; line = l }))))) x ≡ None
completing_gives offer (complete.Reading q) state operation x none = absurd (none-some _ (sym none))
completing_gives offer (complete.Swap main) state operation x none = refl

rooting_gives : (offer : Descriptor) (l : CompleteLine) (state : State) (operation : Operation) (x : Option Ref) →
    read_of (line.Root (root.Completing (record { offer = offer; line = l }))) ≡ None →
    given_if (kind_of (line_action state operation (line.Root (root.Completing (record { offer = offer; line = l }))))) x ≡ None
rooting_gives offer (complete.Reading q) state operation x none = absurd (none-some _ (sym none))
rooting_gives offer (complete.Swap main) state operation x none = refl

-- such a step isn't of a kind that a READ takes
no_read : (state : State) (operation : Operation) (l : Line) (x : Option Ref) → SwapsNone l → read_of l ≡ None → given_if (kind_of (line_action state operation l)) x ≡ None
no_read state operation (line.Root root.Read) x own none = refl
no_read state operation (line.Root (root.Completing c)) x own none = rooting_gives c.offer c.line state operation x none
no_read state operation (line.Copy (copy.Read r q)) x own none = absurd (none-some q (sym none))
no_read state operation (line.Copy (copy.Successor r main)) x own none = refl
no_read state operation (line.Copy (copy.Second r main successor)) x own none = refl
no_read state operation (line.Copy (copy.Empty r main)) x own none = refl
no_read state operation (line.Copy (copy.Cleared r main branch)) x own none = refl
no_read state operation (line.Copy (copy.Offer offer)) x own none = refl
no_read state operation (line.Copy (copy.Complete c)) x own none = completing_gives c.offer c.line state operation x none
no_read state operation (line.Walk walk.Root) x own none = refl
no_read state operation (line.Walk (walk.Read q todo pairs)) x own none = absurd (none-some q (sym none))
no_read state operation (line.Walk (walk.Main main todo pairs)) x own none = refl
no_read state operation (line.Walk (walk.Entry todo pairs)) x own none = refl
no_read state operation (line.End answer) x own none = refl
no_read state operation line.Impossible x own none = refl
no_read state operation l x own none = absurd own

-- ---- inside of it

come_gives : (indirection : Ref) (access : Access) (place : ReadAt) → given_by (at_indirection indirection (come_to access place)) ≡ given_so place
come_gives indirection access at.Main = refl
come_gives indirection access (at.Prev main) = refl
come_gives indirection access (at.Decide main previous) = refl
come_gives indirection access (at.Restore main previous) = refl
come_gives indirection access (at.Given main) = refl

pub asked_gives : (heap : Heap) (indirection main previous : Ref) (word : RootWord) → given_by (at_indirection indirection (after_ask heap main previous word)) ≡ None
asked_gives heap indirection main previous (Plain r) = refl
asked_gives heap indirection main previous (Offer offer) = refl

module _ (heap : Heap) (access : Access) (word : RootWord) (indirection : Ref) (k : Kind) (place : ReadAt) where
  -- what a READ gives that comes to this place
  comes_to : (l : ReadLine) → read_after heap access word indirection l ≡ come_to access place → given_by (at_indirection indirection (read_after heap access word indirection l)) ≡ given_so place
  comes_to l comes = ap (λ x. given_by (at_indirection indirection x)) comes ∙ come_gives indirection access place

  -- what a READ gives by its step
  gives : (l : ReadLine) → kind_of (read_action indirection l) ≡ k → read_after heap access word indirection l ≡ come_to access place →
      given_by (at_indirection indirection (read_after heap access word indirection l)) ≡ given_if k (given_so place)
  gives read.Main same comes = comes_to read.Main comes ∙ ap (λ q. given_if q (given_so place)) same
  gives (read.Prev main) same comes = comes_to (read.Prev main) comes ∙ ap (λ q. given_if q (given_so place)) same
  gives (read.AskRoot main previous) same comes = asked_gives heap indirection main previous word ∙ ap (λ q. given_if q (given_so place)) same
  gives (read.Abort main previous offer) same comes = ap (λ q. given_if q (given_so place)) same
  gives (read.Decide main previous told) same comes = comes_to (read.Decide main previous told) comes ∙ ap (λ q. given_if q (given_so place)) same
  gives (read.Restore main previous) same comes = comes_to (read.Restore main previous) comes ∙ ap (λ q. given_if q (given_so place)) same

commits : (k : Kind) (place : ReadAt) → committed_so k place ≡ committed_if k (given_so place)
commits kind.SwapPrev place = refl
commits k place = refl

-- what such a program does doesn't depend on the state, nor on the operation
pub same_action : (state : State) (operation : Operation) (l : Line) → SwapsNone l → line_action state operation l ≡ action_on l
same_action state operation (line.Root l) own = refl
same_action state operation (line.Copy l) own = refl
same_action state operation (line.Walk l) own = refl
same_action state operation (line.End answer) own = refl
same_action state operation line.Impossible own = refl
same_action state operation l own = absurd own

-- ---- whether it counts

read_counts : (state : State) (operation : Operation) (l : Line) (r : Read) → read_of l ≡ Some r →
    counts_from (line_action state operation l) ≡ counts_if (kind_of (line_action state operation l))
read_counts state operation l r is =
    let embeds = each_embeds l r is in
    let acts = sym (ap (λ m. line_action state operation m) embeds.here) ∙ embeds.embedded.acts state operation r.line in
    ap counts_from acts ∙ in_read r.indirection r.line ∙ ap (λ a. counts_if (kind_of a)) (sym acts)

reading_counts : (state : State) (operation : Operation) (l : Line) (k : Kind) (o : Option Read) → read_of l ≡ o → kind_of (line_action state operation l) ≡ k →
    counts_from (line_action state operation l) ≡ (is_some o && counts_if k)
reading_counts state operation l k None is same = outside state operation l is
reading_counts state operation l k (Some r) is same = read_counts state operation l r is ∙ ap counts_if same

-- of a program that swaps no main node of its own the kind tells
own_counts : (state : State) (operation : Operation) (l : Line) (k : Kind) (o : Option Read) → read_of l ≡ o → SwapsNone l →
    kind_of (line_action state operation l) ≡ k → counts_from (line_action state operation l) ≡ counts_if k
own_counts state operation l k None is own same =
    let none = sym (ap (λ q. given_if q (Some no_ref)) same) ∙ no_read state operation l (Some no_ref) own is in
    outside state operation l is ∙ sym (gives_nothing k no_ref none)
own_counts state operation l k (Some r) is own same = reading_counts state operation l k (Some r) is same

-- ---- a step

module _ (state : State) (operation : Operation) (l : Line) (k : Kind) (place : ReadAt) where
  committed_by_read : (o : Option Read) → ReadsAlong state.heap operation.access o k place → committed_in state o ≡ committed_if k (given_so place)
  committed_by_read None along = sym along ∙ commits k place
  committed_by_read (Some r) along = along.1 ∙ commits k place

  read_gives : (r : Read) → read_of l ≡ Some r → kind_of (line_action state operation l) ≡ k → ReadsAlong state.heap operation.access (Some r) k place →
      given_in state operation (Some r) ≡ given_if k (given_so place)
  read_gives r is same along =
      let embeds = each_embeds l r is in
      let acts = sym (embeds.embedded.acts state operation r.line) ∙ ap (λ m. line_action state operation m) embeds.here in
      gives state.heap operation.access (word_at state (handle_of operation.call)) r.indirection k place r.line (ap kind_of acts ∙ same) (along.0 (word_at state (handle_of operation.call)))

  given_by_read : (o : Option Read) → read_of l ≡ o → SwapsNone l → kind_of (line_action state operation l) ≡ k → ReadsAlong state.heap operation.access o k place →
      given_in state operation o ≡ given_if k (given_so place)
  given_by_read None is own same along = sym (no_read state operation l (given_so place) own is) ∙ ap (λ q. given_if q (given_so place)) same
  given_by_read (Some r) is own same along = read_gives r is same along

-- a step of such a program, behind which its READ stands here
pub takes : (state : State) (operation : Operation) (before after : Line) (k : Kind) (place : ReadAt) → SwapsNone before → Leads state operation before k after place →
    Takes state operation before (taken_so k place) after
takes state operation before after k place own leads = record {
  kind = leads.0;
  line = leads.1;
  committed = committed_by_read state operation before k place (read_of before) leads.2;
  given = given_by_read state operation before k place (read_of before) refl own leads.0 leads.2;
  counts = own_counts state operation before k (read_of before) refl own leads.0;
}

-- ---- a step of a program that may swap a main node of its own

reading_gives : (state : State) (operation : Operation) (l : Line) (k : Kind) (place : ReadAt) (o : Option Read) → read_of l ≡ o →
    kind_of (line_action state operation l) ≡ k → ReadsAlong state.heap operation.access o k place → given_in state operation o ≡ if_reading (is_some o) (given_if k (given_so place))
reading_gives state operation l k place None is same along = refl
reading_gives state operation l k place (Some r) is same along = read_gives state operation l k place r is same along

-- such a step, which was in a READ or not
pub takes_reading : (state : State) (operation : Operation) (before after : Line) (k : Kind) (place : ReadAt) (reading : Bool) → reading ≡ is_some (read_of before) →
    Leads state operation before k after place → Takes state operation before (taken_in reading k place) after
takes_reading state operation before after k place reading reads leads = record {
  kind = leads.0;
  line = leads.1;
  committed = committed_by_read state operation before k place (read_of before) leads.2;
  given = reading_gives state operation before k place (read_of before) refl leads.0 leads.2 ∙ ap (λ b. if_reading b (given_if k (given_so place))) (sym reads);
  counts = reading_counts state operation before k (read_of before) refl leads.0 ∙ ap (λ b. b && counts_if k) (sym reads);
}
