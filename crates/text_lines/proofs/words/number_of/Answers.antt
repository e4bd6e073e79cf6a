use Rattle.std.proofs.Common.{length, sym, ◌∙◌, arith}
use Rattle.std.proofs.lemmas.Bool.{eqb-true, eqb-false, le-leb, lt-leb}
use Rattle.text_lines.proofs.Numbers.{empty_none, odd_none, not_text_none, parsed_number}
use Rattle.text_lines.proofs.words.number_of.Goals as goal

pub returns-then-is_empty : goal.returns-then-is_empty
returns-then-is_empty c =
    sym (empty_none c.args.limit c.args.word.now (omega arith) (eqb-true _ _ (sym c.is_empty.ensures ∙ c.if-is_empty.true)))

pub returns-then-is_odd : goal.returns-then-is_odd
returns-then-is_odd c = sym (odd_none c.args.limit c.args.word.now (omega arith) (sym c.is_odd.ensures ∙ c.if-is_odd.true))

pub returns-in_default : goal.returns-in_default
returns-in_default c = sym (not_text_none c.args.limit c.args.word.now (omega arith) c.in_default.ensures.cases.0)

pub returns-in_default-parse : goal.returns-in_default-parse
returns-in_default-parse c =
    let w = c.args.word.now in
    let read = rw c.in-Ok.ensures.cases.0 at c.parse.ensures.value.0 in
    let m = parsed_number c.args.limit w c.parse.result (omega arith) (omega (arith, eqb-false (length w) 0 (sym c.is_empty.ensures ∙ c.if-is_empty.false)))
    (sym c.is_odd.ensures ∙ c.if-is_odd.false) read in
    sym (rw c.in_default-parse.is at m)

pub returns-then-number-limit : goal.returns-then-number-limit
returns-then-number-limit c =
    let w = c.args.word.now in
    let read = rw c.in-Ok.ensures.cases.0 at c.parse.ensures.value.0 in
    let m = parsed_number c.args.limit w c.parse.result (omega arith) (omega (arith, eqb-false (length w) 0 (sym c.is_empty.ensures ∙ c.if-is_empty.false)))
    (sym c.is_odd.ensures ∙ c.if-is_odd.false) read in
    sym (rw (le-leb c.in-Ok-parse.number c.args.limit c.if-number-limit.true) at (rw c.in-Ok-parse.is at m))

pub returns-else-number-limit : goal.returns-else-number-limit
returns-else-number-limit c =
    let w = c.args.word.now in
    let read = rw c.in-Ok.ensures.cases.0 at c.parse.ensures.value.0 in
    let m = parsed_number c.args.limit w c.parse.result (omega arith) (omega (arith, eqb-false (length w) 0 (sym c.is_empty.ensures ∙ c.if-is_empty.false)))
    (sym c.is_odd.ensures ∙ c.if-is_odd.false) read in
    sym (rw (lt-leb c.in-Ok-parse.number c.args.limit c.if-number-limit.false) at (rw c.in-Ok-parse.is at m))
