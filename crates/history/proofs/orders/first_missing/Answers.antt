-- No operation before the first has an answer and no mark.
use Rattle.std.proofs.Common.{◌≡◌, ◌<◌, Bool, Option, Some, false, get_or, length, slice_get, ◌∙◌, ap, subst, arith}
use Rattle.std.proofs.lemmas.Option.{slice_get_within, slice_get-get_or}
use Rattle.history.specs.declared.replies.Reply.{Reply}
use Rattle.history.specs.Replays.{IsAnswer}
use Rattle.history.proofs.orders.first_missing.Goals as goal

pub returns : goal.returns
returns c = λ id unmarked.
    let within = slice_get_within c.args.table.now.rows.items id unmarked.0 unmarked.1 in
    let all = c.deref-row-items.ensures.value in
    let size = ap length all in
    c.loop-id.invariant id unmarked.0 (omega arith) unmarked.1 unmarked.2 unmarked.3

pub returns-then-is_answer : goal.returns-then-is_answer
returns-then-is_answer c =
    let rows = c.args.table.now.rows.items in
    let items = c.deref-row-items.ensures.value in
    let told = rw items at c.reply_at.ensures in
    let size = ap length items in
    let within : c.loop-id.id < length rows = omega arith in
    let sizes = c.requires in
    let lengths = c.deref-row-items.ensures.len in
    let answers = c.is_answer.ensures.0 c.if-is_answer.true in
    let P : Option Reply → Type 0 = λ o. IsAnswer o in
    let unmarked : slice_get c.args.taken.now c.loop-id.id ≡ Some false = slice_get-get_or c.args.taken.now c.loop-id.id false (omega arith) ∙ ap (λ (b : Bool). Some b) c.if-not-taken-id.true in (
      (get_or rows c.loop-id.id _, slice_get-get_or rows c.loop-id.id _ within, unmarked, subst P told answers),
      λ other lt unmarked.
          c.loop-id.invariant other unmarked.0 lt unmarked.1 unmarked.2 unmarked.3,
    )
