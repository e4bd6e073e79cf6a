use Rattle.std.proofs.Common.{refl, sym, ap, ◌∙◌, ◌++◌}
use Rattle.snapshot.specs.Beneath.machine_model.specs.declared.lines.Line.TheVariants as line
use Rattle.snapshot.specs.Beneath.machine_model.specs.declared.walking.WalkLine.TheVariants as walk
use Rattle.snapshot.specs.Vocabulary.{walk_next}
use Rattle.snapshot.specs.Tasks.{at_roots}
use Rattle.snapshot.specs.Walks.{behind_walk, on_call}
use Rattle.snapshot.proofs.Nexts.{by_next}
use Rattle.snapshot.proofs.walk.Walk.look.Goals as goal

pub returns-clause-follows : goal.returns-clause-follows
returns-clause-follows c =
    let w = c.args.self.now in
    λ state operation table call r. by_next
    (at_roots state c.args.heap.now.heap table)
    (on_call call r.access operation)
    (line.Walk (walk.Main c.args.main w.todo.items w.pairs.items))
    _
    _
    r.at
    (behind_walk call c.go_on.new.self.pairs.items)
    c.go_on.result
    refl
    (ap (λ l. walk_next (on_call call r.access operation) l w.pairs.items) (ap (λ es. es ++ w.todo.items) (sym c.entries_at.ensures.entries) ∙ sym c.put_before.ensures))
    refl
    (c.go_on.ensures.next (on_call call r.access operation) r)
