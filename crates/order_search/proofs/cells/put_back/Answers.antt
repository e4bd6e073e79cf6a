-- The cell has what it had, and nothing else was changed.
use Rattle.std.proofs.Common.{◌≡◌, sym, ◌∙◌, subst}
use Rattle.order_search.specs.Vocabulary.{hash_of}
use Rattle.order_search.specs.Cells.{DifferIn, value_in}
use Rattle.order_search.proofs.Differing.{same_in_cell, differ_on, answer_differs, same_option}
use Rattle.order_search.proofs.cells.put_back.Goals as goal

pub returns-then-eq-clause-back : goal.returns-then-eq-clause-back
returns-then-eq-clause-back c = λ is before differ had.
    let now = c.args.world.now in
    let has : value_in now c.args.cell ≡ c.args.value = sym c.in_ok-value_in.ensures.value ∙ same_option _ _ (sym c.eq.ensures ∙ c.if-eq.true) in
    c.value_in.ensures.same ∙ same_in_cell c.args.cell before now differ (has ∙ sym had)

pub returns-clause-back : goal.returns-clause-back
returns-clause-back c = λ is before differ had.
    let written = c.reply_of.new.world in
    let first : DifferIn c.args.cell before c.value_in.new.world = subst (λ w. DifferIn c.args.cell before w) (sym c.value_in.ensures.same) differ in
    let second = answer_differs (hash_of c.args.hash) c.writing-call.result _ c.args.cell c.value_in.new.world written _ c.writing-call.ensures c.in_ok-reply_of.ensures.answer in
    let has : value_in written c.args.cell ≡ c.args.value = sym c.in_ok-value_in-2.ensures.value ∙ same_option _ _ (sym c.eq-2.ensures ∙ is) in
    c.value_in-2.ensures.same ∙ same_in_cell c.args.cell before written (differ_on c.args.cell before _ written first second) (has ∙ sym had)
