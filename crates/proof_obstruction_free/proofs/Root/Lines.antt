-- The lines of a COMPLETE within a program, and of a ROOT: what they lead to, where one actor alone takes steps.
use Rattle.std.proofs.Common.{◌≡◌, None, refl, ◌∙◌}
use Rattle.proof_obstruction_free.specs.Vocabulary.{Ref, Line, Operation, After, Gives, ReadLine, Complete, Descriptor, RootLine, Offer, handle_of, line_action, line_after, generation_from, read_of}
use Rattle.proof_obstruction_free.specs.Vocabulary.{rooting_read, read_after, State, word_at, root_action, root_after, after_reading, of_offer, after_completing}
use Rattle.proof_obstruction_free.specs.Beneath.machine_model.specs.declared.reading.After.TheVariants.{Goes}
use Rattle.proof_obstruction_free.specs.Beneath.machine_model.specs.declared.roots.CompleteLine.TheVariants as complete
use Rattle.proof_obstruction_free.specs.Beneath.machine_model.specs.declared.roots.RootLine.TheVariants as root
use Rattle.proof_obstruction_free.specs.Beneath.proof_generations.proofs.Offers.Standing.{own_offer}
use Rattle.proof_obstruction_free.specs.Machines.{HoldsRead, lead}

abbrev pub led : (RootLine → Line) → (Ref → Line) → After RootLine Ref → Line
led wrap gives (Goes l) = wrap l
led wrap gives (Gives r) = gives r

-- The lines of a ROOT within a program: a step of them is the ROOT's, and with the root that it gives in a state this line comes next.
pub record HoldsRoot (own : Operation) (wrap : RootLine → Line) (gives : State → Operation → Ref → Line) : Type 0 where
  pub reads : (l : RootLine) → read_of (wrap l) ≡ rooting_read l
  pub acts : (state : State) (operation : Operation) (l : RootLine) → line_action state operation (wrap l) ≡ root_action l
  pub goes : (state : State) (operation : Operation) (l : RootLine) → operation.call ≡ own.call → operation.access ≡ own.access →
      line_after state operation (wrap l) ≡ led wrap (gives state operation) (root_after state.heap own.access (word_at state (handle_of own.call)) l)
  pub stays : (state : State) (operation : Operation) (c : Complete) → generation_from state operation (wrap (root.Completing c)) ≡ operation.generation
  pub finds_offer : (state : State) (operation : Operation) (d : Descriptor) → word_at state (handle_of operation.call) ≡ Offer d →
      generation_from state operation (wrap root.Read) ≡ operation.generation
  pub no_own : (l : RootLine) → own_offer (wrap l) ≡ None

module _ (own : Operation) (wrap : RootLine → Line) (gives : State → Operation → Ref → Line) (holds : HoldsRoot own wrap gives) (offer : Descriptor) where
  abbrev pub reading_line : ReadLine → Line
  reading_line l = wrap (root.Completing (record { offer = offer; line = complete.Reading l }))

  abbrev pub swapping_line : Ref → Line
  swapping_line m = wrap (root.Completing (record { offer = offer; line = complete.Swap m }))

  led_so : (state : State) (operation : Operation) (out : After ReadLine Ref) →
      led wrap (gives state operation) (after_completing (of_offer offer (after_reading out))) ≡ lead reading_line swapping_line out
  led_so state operation (Goes l) = refl
  led_so state operation (Gives m) = refl

  -- its COMPLETE reads the offer's root
  pub root_reads : HoldsRead own reading_line swapping_line offer.root
  root_reads = record {
    embedded = record {
      reads = λ l. holds.reads (root.Completing (record { offer = offer; line = complete.Reading l }));
      acts = λ state operation l. holds.acts state operation (root.Completing (record { offer = offer; line = complete.Reading l }));
    };
    goes = λ state operation l call access.
        holds.goes state operation (root.Completing (record { offer = offer; line = complete.Reading l })) call access
        ∙ led_so state operation (read_after state.heap own.access (word_at state (handle_of own.call)) offer.root l);
    stays = λ state operation l. holds.stays state operation (record { offer = offer; line = complete.Reading l });
  }
