-- The lines of COPY, where one actor alone takes steps: what each step leads to.
use Rattle.std.proofs.Common.{◌≡◌, refl, ap, ◌∙◌}
use Rattle.proof_obstruction_free.specs.Vocabulary.{Ref, Line, Operation, After, Gives, ReadLine, Descriptor, handle_of, after_given, copy_after_read, copy_after_complete, read_after}
use Rattle.proof_obstruction_free.specs.Vocabulary.{at_indirection, State, word_at, after_reading, of_offer}
use Rattle.proof_obstruction_free.specs.Beneath.machine_model.specs.declared.copying.CopyLine.TheVariants as copy
use Rattle.proof_obstruction_free.specs.Beneath.machine_model.specs.declared.lines.Line.TheVariants as line
use Rattle.proof_obstruction_free.specs.Beneath.machine_model.specs.declared.reading.After.TheVariants.{Goes}
use Rattle.proof_obstruction_free.specs.Beneath.machine_model.specs.declared.roots.CompleteLine.TheVariants as complete
use Rattle.proof_obstruction_free.specs.Machines.{HoldsRead, lead}

-- what a READ's step comes to, by the call and the kind of the handle
same_read : (own : Operation) (state : State) (operation : Operation) (i : Ref) (l : ReadLine) → operation.call ≡ own.call → operation.access ≡ own.access →
    read_after state.heap operation.access (word_at state (handle_of operation.call)) i l ≡ read_after state.heap own.access (word_at state (handle_of own.call)) i l
same_read own state operation i l call access =
    ap (λ x. read_after state.heap x (word_at state (handle_of operation.call)) i l) access ∙ ap (λ c. read_after state.heap own.access (word_at state (handle_of c)) i l) call

module _ (own : Operation) where
  -- ---- it reads a root

  module _ (root i : Ref) where
    abbrev pub copying : ReadLine → Line
    copying l = line.Copy (copy.Read root (record { indirection = i; line = l }))

    abbrev pub given : Ref → Line
    given m = after_given own.call root m

    copying_goes : (operation : Operation) → operation.call ≡ own.call → (out : After ReadLine Ref) → copy_after_read operation root (at_indirection i out) ≡ lead copying given out
    copying_goes operation call (Goes l) = refl
    copying_goes operation call (Gives m) = ap (λ c. after_given c root m) call

    pub copy_reads : HoldsRead own copying given i
    copy_reads = record {
      embedded = record { reads = λ l. refl; acts = λ state operation l. refl };
      goes = λ state operation l call access.
          ap (λ x. copy_after_read operation root (at_indirection i x)) (same_read own state operation i l call access)
          ∙ copying_goes operation call (read_after state.heap own.access (word_at state (handle_of own.call)) i l);
      stays = λ state operation l. refl;
    }

  -- ---- it completes its own offer

  module _ (offer : Descriptor) where
    abbrev pub completing_line : ReadLine → Line
    completing_line l = line.Copy (copy.Complete (record { offer = offer; line = complete.Reading l }))

    abbrev pub swapping_line : Ref → Line
    swapping_line m = line.Copy (copy.Complete (record { offer = offer; line = complete.Swap m }))

    completing_goes : (operation : Operation) (out : After ReadLine Ref) → copy_after_complete operation (of_offer offer (after_reading out)) ≡ lead completing_line swapping_line out
    completing_goes operation (Goes l) = refl
    completing_goes operation (Gives m) = refl

    pub complete_reads : HoldsRead own completing_line swapping_line offer.root
    complete_reads = record {
      embedded = record { reads = λ l. refl; acts = λ state operation l. refl };
      goes = λ state operation l call access.
          ap (λ x. copy_after_complete operation (of_offer offer (after_reading x))) (same_read own state operation offer.root l call access)
          ∙ completing_goes operation (read_after state.heap own.access (word_at state (handle_of own.call)) offer.root l);
      stays = λ state operation l. refl;
    }
