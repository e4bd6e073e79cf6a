use Rattle.std.proofs.Common.{arith, ap, ◌∙◌}
use Rattle.snapshot.specs.Vocabulary.{rest_of, Ref}
use Rattle.snapshot.specs.Growing.{Growing}
use Rattle.snapshot.proofs.Stacks.{popped}
use Rattle.snapshot.proofs.todo.Todo.drop_first.Goals as goal

pub returns : goal.returns
returns c = popped c.self.inside.stack.items _ c.pop.result c.pop.ensures.items (λ e. omega (arith, (rw e at c.pop.ensures.cases).0)) ∙ ap (λ (t : Growing Ref). rest_of t.items) c.self.view_is
