use Rattle.std.proofs.Common.{length, sym, ap, ◌∙◌, arith}
use Rattle.std.proofs.lemmas.List.{nil_from_length}
use Rattle.std.proofs.lemmas.Bool.{eqb-true}
use Rattle.text_lines.specs.Texts.{lines_of}
use Rattle.text_lines.specs.Reading.{at_line}
use Rattle.text_lines.proofs.Following.{goes_on, stops, text_fault, whole_read, told_rightly, other_refusal}
use Rattle.text_lines.proofs.reading.read_text.Goals as goal

pub returns-in-Err : goal.returns-in-Err
returns-in-Err g c =
    let format = g.R.LineReader.format in
    let before = rw c.first_line.ensures.lines at c.loop-rest.invariant.so_far in
    rw c.told.ensures (told_rightly c.loop-rest.number c.in-Err.refusal _ (λ n.
    text_fault format c.args.text.now _ (stops format c.loop-rest.number (g.R.LineReader.seen c.loop-rest.read) c.first_line.result.0.now (lines_of c.first_line.result.1.now) _
    c.in-Err.refusal (c.in-Err.ensures.said (other_refusal c.in-Err.refusal n)) before)))

pub loop-rest-preserved : goal.loop-rest-preserved
loop-rest-preserved g c =
    let before = rw c.first_line.ensures.lines at c.loop-rest.invariant.so_far in
    record {
      so_far = goes_on g.R.LineReader.format c.loop-rest.number (g.R.LineReader.seen c.loop-rest.read) (g.R.LineReader.seen c.in-Ok.after) c.first_line.result.0.now
          (lines_of c.first_line.result.1.now) _ (c.in-Ok.ensures.said (λ e. cc)) before;
      counted = omega (arith, ap length c.first_line.ensures.lines, c.loop-rest.invariant.counted);
    }

pub returns-in-Ok-all_read : goal.returns-in-Ok-all_read
returns-in-Ok-all_read g c =
    let whole = whole_read g.R.LineReader.format c.args.text.now c.loop-rest.rest.now (g.R.LineReader.seen c.loop-rest.read) c.loop-rest.number c.loop-rest.invariant.so_far
    c.loop-rest.invariant.counted
    (nil_from_length c.loop-rest.rest.now (eqb-true _ _ (sym c.is_empty.ensures ∙ c.loop-rest-test.false))) in
    whole ∙ ap (at_line c.loop-rest.number) (sym c.in-Ok-all_read.ensures)

pub returns-in-Err-all_read : goal.returns-in-Err-all_read
returns-in-Err-all_read g c =
    let whole = whole_read g.R.LineReader.format c.args.text.now c.loop-rest.rest.now (g.R.LineReader.seen c.loop-rest.read) c.loop-rest.number c.loop-rest.invariant.so_far
    c.loop-rest.invariant.counted
    (nil_from_length c.loop-rest.rest.now (eqb-true _ _ (sym c.is_empty.ensures ∙ c.loop-rest-test.false))) in
    rw c.told-in-Err-all_read.ensures (told_rightly c.loop-rest.number c.in-Err-all_read.refusal _ (λ _. whole ∙ ap (at_line c.loop-rest.number) (sym c.in-Err-all_read.ensures)))
