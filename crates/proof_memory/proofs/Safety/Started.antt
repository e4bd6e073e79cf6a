-- Past its first line an operation knows the generation of its root.
use Rattle.std.proofs.Common.{◌≡◌, ℕ, true, is_some, Option, Some, None, get_or, refl, arith}
use Rattle.std.proofs.lemmas.Bool.{false≢true}
use Rattle.proof_memory.specs.Vocabulary.{Call, Close, Entries, Ref, Operation, After, Gives, Line, RootLine, WalkLine, Outcome, Step, State, line_after, first_line, after_root, given_root}
use Rattle.proof_memory.specs.Vocabulary.{generation_from, operation_after, walk_after, Moves}
use Rattle.machine_model.specs.declared.reading.After.TheVariants.{Goes as Continues}
use Rattle.machine_model.specs.declared.lines.Line.TheVariants as line
use Rattle.machine_model.proofs.Actors.{mark_one, mark_only}
use Rattle.proof_memory.specs.Laws.{is_past_root}
use Rattle.proof_memory.proofs.Safety.EachStep.{each_after}

abbrev pub KnowsRoot : Operation → Type 0
KnowsRoot operation = is_past_root operation.line ≡ true → is_some operation.generation ≡ true

first_not_past : (call : Call) → is_past_root (first_line call) ≡ true → ⊥
first_not_past (Close h) e = false≢true e
first_not_past (Entries h) e = false≢true e
first_not_past call e = false≢true e

walk_not_past : (state : State) (operation : Operation) (l : WalkLine) → is_past_root (walk_after state operation l) ≡ true → ⊥
walk_not_past state operation l e = grind arith

root_known : (state : State) (operation : Operation) (a : After RootLine Ref) → is_past_root (after_root operation a) ≡ true → is_some (given_root state a operation.generation) ≡ true
root_known state operation (Continues l) e = absurd (false≢true e)
root_known state operation (Gives r) e = refl

line_known : (state : State) (operation : Operation) (l : Line) → (is_past_root l ≡ true → is_some operation.generation ≡ true) → is_past_root (line_after state operation l) ≡ true →
    is_some (generation_from state operation l) ≡ true
line_known state operation (line.Root l) h e = root_known state operation _ e
line_known state operation (line.Walk l) h e = absurd (walk_not_past state operation l e)
line_known state operation (line.End answer) h e = absurd (false≢true e)
line_known state operation line.Impossible h e = absurd (false≢true e)
line_known state operation l h e = h refl

marked_known : (m : Option ℕ) (operation : Operation) → KnowsRoot operation → KnowsRoot (mark_one m operation)
marked_known m operation h = rw (mark_only m operation) h

pub known_after : (state : State) → ((k : ℕ) (operation : Operation) → get_or state.actors k None ≡ Some operation → KnowsRoot operation) →
    (s : Step) (o : Outcome) (after : State) → Moves state s o after → (k : ℕ) (found : Operation) → get_or after.actors k None ≡ Some found → KnowsRoot found
known_after state all =
    each_after state (λ k operation. KnowsRoot operation) (λ after k operation. KnowsRoot operation) all (λ actor call number k own d e. absurd (first_not_past call e))
    (λ actor operation k own is g h. marked_known _ (operation_after state operation) (line_known state operation operation.line h))
    (λ actor operation answer k own is a h e. absurd (false≢true e))
    (λ s o after m k other operation found h. marked_known _ operation h)
