-- Lines that hold a READ: they act as it does, go on with it, and take what it gives. A step goes by the operation's call and access, which stay.
use Rattle.std.proofs.Common.{◌≡◌, Some, ap, ◌∙◌}
use Rattle.proof_obstruction_free.specs.Vocabulary.{Access, Call, Ref, Line, Operation, After, Gives, Read, ReadLine, handle_of, read_of, line_action, line_after, generation_from, at_indirection}
use Rattle.proof_obstruction_free.specs.Vocabulary.{read_action, read_after, read_step, State, word_at}
use Rattle.proof_obstruction_free.specs.Beneath.machine_model.specs.declared.reading.After.TheVariants.{Goes}
use Rattle.proof_obstruction_free.specs.Machines.{HoldsRead, lead}

-- `next` is the line after it, of what the READ comes to
module _ (own : Operation) (into : Read → Line) (gives : Ref → Line) (next : After Read Ref → Line) (i : Ref)
    (reads : (r : Read) → read_of (into r) ≡ Some r)
    (acts : (state : State) (operation : Operation) (r : Read) → line_action state operation (into r) ≡ read_action r.indirection r.line)
    (goes : (state : State) (operation : Operation) (r : Read) → line_after state operation (into r) ≡ next (read_step state operation r))
    (goes_on : (r : Read) → next (Goes r) ≡ into r) (is_given : (m : Ref) → next (Gives m) ≡ gives m)
    (stays : (state : State) (operation : Operation) (r : Read) → generation_from state operation (into r) ≡ operation.generation) where
  abbrev wrap : ReadLine → Line
  wrap l = into (record { indirection = i; line = l })

  leads : (x : After ReadLine Ref) → next (at_indirection i x) ≡ lead wrap gives x
  leads (Goes l) = goes_on (record { indirection = i; line = l })
  leads (Gives m) = is_given m

  pub holds_read : HoldsRead own wrap gives i
  holds_read = record {
    embedded = record { reads = λ l. reads (record { indirection = i; line = l }); acts = λ state operation l. acts state operation (record { indirection = i; line = l }) };
    goes = λ state operation l same_call same_access. goes state operation (record { indirection = i; line = l })
        ∙ leads (read_after state.heap operation.access (word_at state (handle_of operation.call)) i l)
        ∙ ap (λ (x : Access). lead wrap gives (read_after state.heap x (word_at state (handle_of operation.call)) i l)) same_access
        ∙ ap (λ (x : Call). lead wrap gives (read_after state.heap own.access (word_at state (handle_of x)) i l)) same_call;
    stays = λ state operation l. stays state operation (record { indirection = i; line = l });
  }
