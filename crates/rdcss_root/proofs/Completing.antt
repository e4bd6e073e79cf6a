-- A READ inside of COMPLETE.
use Rattle.std.specs.Prelude.{◌≡◌, Some, None}
use Rattle.std.proofs.Common.{arith, refl, sym, ap, subst, ◌∙◌}
use Rattle.rdcss_root.specs.Vocabulary.{Kind, Access, Ref, Heap, ReadLine, Descriptor, RootWord, of_offer, after_reading}
use Rattle.rdcss_root.specs.Beneath.machine_model.specs.declared.reading.After.TheVariants.{Goes}
use Rattle.rdcss_root.specs.Beneath.machine_model.specs.declared.roots.CompleteLine.TheVariants as complete
use Rattle.rdcss_root.specs.Beneath.gcas.specs.declared.next.Next.{Next}
use Rattle.rdcss_root.specs.Beneath.gcas.specs.declared.next.Next.TheVariants.{More, Done}
use Rattle.rdcss_root.specs.Beneath.gcas.specs.declared.read.Read.{Read}
use Rattle.rdcss_root.specs.Beneath.gcas.specs.declared.read.ReadAt.{ReadAt}
use Rattle.rdcss_root.specs.Beneath.gcas.specs.declared.read.ReadAt.TheVariants as at
use Rattle.rdcss_root.specs.Beneath.gcas.specs.Reads.{ReadsOn, come_to, given_so, line_at}
use Rattle.rdcss_root.specs.declared.complete.CompleteAt.TheVariants as place
use Rattle.rdcss_root.specs.Programs.{CompletesOn, complete_with}

goes : (offer : Descriptor) (access : Access) (p : ReadAt) → given_so p ≡ None →
    of_offer offer (after_reading (come_to access p)) ≡ Goes (record { offer = offer; line = complete.Reading (line_at access None p) })
goes offer access at.Main none = refl
goes offer access (at.Prev main) none = refl
goes offer access (at.Decide main previous) none = refl
goes offer access (at.Restore main previous) none = refl
goes offer access (at.Given main) none = grind (arith, none)

gives : (offer : Descriptor) (access : Access) (main : Ref) (p : ReadAt) → given_so p ≡ Some main →
    of_offer offer (after_reading (come_to access p)) ≡ Goes (record { offer = offer; line = complete.Swap main })
gives offer access main at.Main some = grind (arith, some)
gives offer access main (at.Prev m) some = grind (arith, some)
gives offer access main (at.Decide m previous) some = grind (arith, some)
gives offer access main (at.Restore m previous) some = grind (arith, some)
gives offer access main (at.Given m) some = grind (arith, some)

-- the READ is of the offer's root, and on the same handle as before
here : (heap : Heap) (offer : Descriptor) (line : ReadLine) (before r : Read) (next : Next Ref) → before.indirection ≡ offer.root → r ≡ record before { at = r.at } →
    ReadsOn heap before.access before.indirection line r.at next → ReadsOn heap r.access offer.root line r.at next
here heap offer line before r next root same step =
    subst (λ a. ReadsOn heap a offer.root line r.at next) (sym (ap (λ q. q.access) same)) (subst (λ i. ReadsOn heap before.access i line r.at next) root step)

goes_on : (heap : Heap) (offer : Descriptor) (line : ReadLine) (k : Kind) (r : Read) → ReadsOn heap r.access offer.root line r.at (More k) → (word : RootWord) →
    CompletesOn heap word (complete_with offer place.Reading line) (record { offer = offer; at = place.Reading }) r (More k)
goes_on heap offer line k r step word =
    (step.0, ap (λ a. of_offer offer (after_reading a)) (step.2.0 word) ∙ goes offer r.access r.at step.1, step.2)

gives_it : (heap : Heap) (offer : Descriptor) (line : ReadLine) (k : Kind) (main : Ref) (r : Read) → ReadsOn heap r.access offer.root line r.at (Done k main) → (word : RootWord) →
    CompletesOn heap word (complete_with offer place.Reading line) (record { offer = offer; at = place.Swap main }) r (More k)
gives_it heap offer line k main r step word =
    (step.0, ap (λ a. of_offer offer (after_reading a)) (step.2.0 word) ∙ gives offer r.access main r.at step.1, step.2)

-- while it is under way COMPLETE reads on
pub reads_on : (heap : Heap) (offer : Descriptor) (line : ReadLine) (k : Kind) (before r : Read) → before.indirection ≡ offer.root → r ≡ record before { at = r.at } →
    ReadsOn heap before.access before.indirection line r.at (More k) → (word : RootWord) →
    CompletesOn heap word (complete_with offer place.Reading line) (record { offer = offer; at = place.Reading }) r (More k)
reads_on heap offer line k before r root same step = goes_on heap offer line k r (here heap offer line before r (More k) root same step)

-- what it gives COMPLETE compares
pub reads_done : (heap : Heap) (offer : Descriptor) (line : ReadLine) (k : Kind) (main : Ref) (before r : Read) → before.indirection ≡ offer.root → r ≡ record before { at = r.at } →
    ReadsOn heap before.access before.indirection line r.at (Done k main) → (word : RootWord) →
    CompletesOn heap word (complete_with offer place.Reading line) (record { offer = offer; at = place.Swap main }) r (More k)
reads_done heap offer line k main before r root same step = gives_it heap offer line k main r (here heap offer line before r (Done k main) root same step)
