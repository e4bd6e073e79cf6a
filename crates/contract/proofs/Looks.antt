-- What a cleaning comes to by a look.
use Rattle.std.specs.Prelude.{◌≡◌, List, ◌∷◌, [], ◌++◌, None, refl}
use Rattle.std.proofs.Common.{◌∙◌, sym}
use Rattle.contract.specs.Beneath.ctrie_base.specs.declared.kinds.Kind.TheVariants as kind
use Rattle.contract.specs.Vocabulary.{Ref, Single, node_at, Line, Operation, clean_next, clean_after_entry, kind_of, line_action, line_after, next_entry, State, Next, More, AskRoot, Done, ReadAt}
use Rattle.contract.specs.Vocabulary.{StepsOn}
use Rattle.contract.specs.Beneath.machine_model.specs.Operations.{read_of}
use Rattle.contract.specs.declared.clean.Cleaned.{Cleaned}
use Rattle.contract.specs.Cleaning.{GoesOn, line_behind}

pub looked : (state : State) (operation : Operation) (before l after : Line) (place : ReadAt) (next : Next Cleaned) → kind_of (line_action state operation before) ≡ kind.Look →
    read_of before ≡ None → line_after state operation before ≡ l → GoesOn l after next → StepsOn state operation before after place line_behind next
looked state operation before l after place (More k) looks reads leads told = (looks ∙ sym told.0, leads ∙ told.1, rw (reads, told.0) refl)
looked state operation before l after place AskRoot looks reads leads told = absurd told
looked state operation before l after place (Done k outcome) looks reads leads told = (looks ∙ sym told.0, leads ∙ told.1, rw (reads, told.0) refl)

-- a single is kept
pub single_kept : (state : State) (path : List Ref) (main : Ref) (done : List Ref) (entry k v : Ref) → entry ≡ next_entry state main done → node_at state.heap entry ≡ Single k v →
    clean_after_entry state path main done (next_entry state main done) (node_at state.heap (next_entry state main done)) ≡ clean_next state path main (done ++ entry ∷ [])
single_kept state path main done entry k v e node = rw (← e, node) refl
