-- Where an operation has its root from: it keeps it in a step, or its step gives it that of its handle.
use Rattle.std.proofs.Common.{◌≡◌, false, ◌⊎◌, inl, inr, Some, refl, ap}
use Rattle.proof_order.specs.Vocabulary.{Ref, generation_at, Line, Operation, After, Gives, RootLine, Plain, handle_of, State, word_at, root_after, generation_from, given_root, line_after}
use Rattle.proof_order.specs.Vocabulary.{after_root, is_end}
use Rattle.proof_order.specs.Beneath.machine_model.specs.declared.lines.Line.TheVariants as line
use Rattle.proof_order.specs.Beneath.machine_model.specs.declared.reading.After.TheVariants.{Goes as Continues}
use Rattle.proof_order.specs.Beneath.machine_model.specs.Operations.{from_root}
use Rattle.proof_generations.proofs.Roots.Rooted.{root_given}

-- the step gives the operation the root of its handle, and leads below it
pub record GetsRoot (state : State) (operation : Operation) (l : Line) : Type 0 where
  pub root : Ref
  pub word : word_at state (handle_of operation.call) ≡ Plain root
  pub its : generation_from state operation l ≡ Some (generation_at state.heap root)
  pub below : line_after state operation l ≡ from_root operation.call root
  pub goes_on : is_end l ≡ false

root_cases : (state : State) (operation : Operation) (l : RootLine) (a : After RootLine Ref) →
    root_after state.heap operation.access (word_at state (handle_of operation.call)) l ≡ a → (generation_from state operation (line.Root l) ≡ operation.generation)
    ⊎ GetsRoot state operation (line.Root l)
root_cases state operation l (Continues next) e = inl (ap (λ a. given_root state a operation.generation) e)
root_cases state operation l (Gives r) e = inr (record {
  root = r;
  word = root_given state operation l r e;
  its = ap (λ a. given_root state a operation.generation) e;
  below = ap (after_root operation) e;
  goes_on = refl;
})

pub root_or_same : (state : State) (operation : Operation) (l : Line) → (generation_from state operation l ≡ operation.generation) ⊎ GetsRoot state operation l
root_or_same state operation (line.Root l) = root_cases state operation l _ refl
root_or_same state operation l = inl refl
