-- Each operation is noted, by its reply.
use Rattle.std.proofs.Common.{◌≡◌, ◌↔◌, ◌+◌, Option, Some, length, IsTrue, slice_get, sym, ap, ◌∙◌, subst, arith, length-append, [], ◌∷◌}
use Rattle.std.proofs.lemmas.Option.{slice_get-get_or}
use Rattle.order_search.specs.Vocabulary.{Reply, NoSlots, Row}
use Rattle.order_search.proofs.Placing.{Noted, noted_first, noted_on, marks_of_noted}
use Rattle.order_search.proofs.walking.refused.Goals as goal

pub loop-id-init : goal.loop-id-init
loop-id-init c = (
  ap length c.new-taken.ensures.items,
  subst (λ xs. Noted c.args.events.now c.args.table.now.rows.items xs) (sym c.new-taken.ensures.items) (noted_first c.args.events.now c.args.table.now.rows.items),
)

pub loop-id-preserved : goal.loop-id-preserved
loop-id-preserved c =
    let rows = c.args.table.now.rows.items in
    let history = c.args.events.now in
    let so_far = c.loop-id.invariant in
    let taken = c.loop-id.taken.items in
    let row = c.index.result.now in
    let at : slice_get rows c.loop-id.id ≡ Some row = slice_get-get_or rows c.loop-id.id row (omega arith) ∙ ap (λ (r : Row). Some r) (sym c.index.ensures) in
    let here : slice_get rows (length taken) ≡ Some row = ap (λ n. slice_get rows n) so_far.0 ∙ at in
    let is : IsTrue c.is_refusal.result ↔ (_ ≡ Some NoSlots) = subst (λ (o : Option Reply). IsTrue c.is_refusal.result ↔ (o ≡ Some NoSlots)) c.reply_at.ensures c.is_refusal.ensures in (
      ap length c.in_ok-push.ensures.items ∙ length-append taken (c.is_refusal.result ∷ []) ∙ ap (λ n. n + 1) so_far.0,
      subst (λ xs. Noted history rows xs) (sym c.in_ok-push.ensures.items) (noted_on history rows taken row c.is_refusal.result so_far.1 here is),
    )

pub returns-clause-marks : goal.returns-clause-marks
returns-clause-marks c =
    let so_far = c.loop-id.invariant in
    marks_of_noted c.args.events.now c.args.table.now c.loop-id.taken.items c.requires so_far.1 (omega (arith, so_far.0))
