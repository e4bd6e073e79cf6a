use Rattle.std.proofs.Common.{Bool, List, length, true, ap, sym, ◌∙◌, arith}
use Rattle.handle_table.specs.Numbers.{Numbers, is_taken_in, with_taken}
use Rattle.handle_table.proofs.Bits.{many_at_most, rewritten, taken_flip, taken_len, unwritten}
use Rattle.handle_table.proofs.numbers.Handles.take.Goals as goal
use Rattle.handle_table.proofs.numbers.Handles.take.Goals.{else-handle-lt-HANDLE_LIMIT-via-then-handle-lt-HANDLE_LIMIT+else-not-is_taken, else-handle-lt-HANDLE_LIMIT-via-else-handle-lt-HANDLE_LIMIT}

pub overflow_add-self : goal.overflow_add-self
overflow_add-self c = omega (arith, c.self.invariant.1, many_at_most c.self.inside.words.items)

pub invariant_of-self : goal.invariant_of-self
invariant_of-self c = (
  c.flip.ensures.many,
  (taken_flip c.self.inside.words.items c.flip.new.words.items c.self.inside.many c.args.handle c.if-handle-lt-HANDLE_LIMIT.true
      (ap (λ (n : Numbers). is_taken_in n c.args.handle) c.self.view_is ∙ sym c.is_taken.ensures ∙ c.if-not-is_taken.true) c.flip.ensures.taken c.self.invariant.1).1,
)

pub returns-then-not-is_taken : goal.returns-then-not-is_taken
returns-then-not-is_taken c =
    ap (λ (t : List Bool). record { taken = t; running = c.self.inside.running.items })
    (taken_flip c.self.inside.words.items c.flip.new.words.items c.self.inside.many c.args.handle c.if-handle-lt-HANDLE_LIMIT.true
    (ap (λ (n : Numbers). is_taken_in n c.args.handle) c.self.view_is ∙ sym c.is_taken.ensures ∙ c.if-not-is_taken.true) c.flip.ensures.taken c.self.invariant.1).0
    ∙ ap (λ (n : Numbers). with_taken n c.args.handle true) c.self.view_is

pub returns-else-handle-lt-HANDLE_LIMIT : goal.returns-else-handle-lt-HANDLE_LIMIT
returns-else-handle-lt-HANDLE_LIMIT c =
    let now : Numbers = c.args.self.now in
    elim c.else-handle-lt-HANDLE_LIMIT.branch [
      | else-handle-lt-HANDLE_LIMIT-via-then-handle-lt-HANDLE_LIMIT+else-not-is_taken w ↦
          sym (ap (λ (t : List Bool). record now { taken = t }) (rewritten now.taken c.args.handle true (sym w.is_taken.ensures ∙ w.if-not-is_taken.false)))
      | else-handle-lt-HANDLE_LIMIT-via-else-handle-lt-HANDLE_LIMIT w ↦
          sym (ap (λ (t : List Bool). record now { taken = t })
          (unwritten now.taken c.args.handle true (omega (arith, taken_len c.self.inside.words.items, ap (λ (n : Numbers). length n.taken) c.self.view_is, w.if-handle-lt-HANDLE_LIMIT.false))))
    ]
