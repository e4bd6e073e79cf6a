use Rattle.std.proofs.Common.{◌≡◌, ◌+◌, length}
use Rattle.text_lines.specs.Texts.{lines_of}
use Rattle.text_lines.specs.Reading.{read_lines}
use Rattle.text_lines.proofs.reading.read_text.Given as goal

abbrev pub invariant-loop-rest : goal.invariant-loop-rest
invariant-loop-rest g l =
    let format = g.R.LineReader.format in
    record {
      so_far : read_lines format l.number (g.R.LineReader.seen l.read) (lines_of l.rest) ≡ read_lines format 1 format.start (lines_of l.text);
      counted : l.number + length (lines_of l.rest) ≡ length (lines_of l.text) + 1;
    }

abbrev pub decreases-loop-rest : goal.decreases-loop-rest
decreases-loop-rest g l = length l.rest
