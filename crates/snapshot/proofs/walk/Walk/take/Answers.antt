use Rattle.std.proofs.Common.{rules, refl, ap, ◌∙◌, ◌≡◌}
use Rattle.snapshot.specs.Vocabulary.{Single, node_at, walk_after_entry, first_of, rest_of}
use Rattle.snapshot.specs.Beneath.machine_model.specs.declared.lines.Line.TheVariants as line
use Rattle.snapshot.specs.Beneath.machine_model.specs.declared.walking.WalkLine.TheVariants as walk
use Rattle.snapshot.specs.Tasks.{at_roots}
use Rattle.snapshot.specs.Walks.{behind_walk, on_call}
use Rattle.snapshot.proofs.Nexts.{by_next}
use Rattle.snapshot.proofs.walk.Walk.take.Goals as goal

pub returns-in-Some-Single-clause-follows : goal.returns-in-Some-Single-clause-follows
returns-in-Some-Single-clause-follows c =
    let w = c.args.self.now in
    let r = c.args.work.now.swap.read in
    let node : node_at c.args.heap.now.heap (first_of w.todo.items) ≡ Single c.in-Some-Single.key c.in-Some-Single.value = search rules in
    λ state operation table call. by_next
    (at_roots state c.args.heap.now.heap table)
    (on_call call r.access operation)
    (line.Walk (walk.Entry w.todo.items w.pairs.items))
    _
    _
    r.at
    (behind_walk call c.go_on.new.self.pairs.items)
    c.go_on.result
    refl
    (ap (walk_after_entry (on_call call r.access operation) (first_of w.todo.items) (rest_of w.todo.items) w.pairs.items) node ∙ rw (c.drop_first-in-Some-Single.ensures, c.push.ensures) refl)
    refl
    (c.go_on.ensures.next (on_call call r.access operation) r)
