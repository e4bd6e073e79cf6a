-- A piece goes from the reader's bytes to the text, a failed call takes none.
use Rattle.std.proofs.Common.{◌≡◌, ◌++◌, [], rules, arith, take, ap, subst, sym}
use Rattle.std.specs.Io.KnownBytes.{Consumes}
use Rattle.std.proofs.KnownBytes.{Consumes-trans, Consumes-kept}
use Rattle.counted_io.proofs.Taken.{all_taken}
use Rattle.counted_io.proofs.reading.read_all.Goals as goal
use Rattle.counted_io.proofs.reading.read_all.Goals.{in-Ok+in_ok-extend_from_slice-in-Ok, in-Err}

pub returns-in-Ok-eq0-clause-bytes : goal.returns-in-Ok-eq0-clause-bytes
returns-in-Ok-eq0-clause-bytes g c =
    let read = rw c.in-Ok-eq0.is at c.read.ensures.bytes in
    let none : take c.in-Ok-eq0.field-0 c.read.new.buf ≡ [] = ap (λ n. take n c.read.new.buf) c.in-Ok-eq0.field-0-test in
    all_taken _ _ _ _ c.loop.invariant.1 (subst (Consumes _ _) none read.0) (read.1 c.in-Ok-eq0.field-0-test (omega arith))

pub loop-preserved : goal.loop-preserved
loop-preserved g c = elim c.match-read.branch [
  | in-Ok+in_ok-extend_from_slice-in-Ok w ↦
      let grown : c.match-read.text.items ≡ c.loop.text.items ++ take w.in-Ok.count c.read.new.buf = search rules in
      (omega (arith, w.in-Ok.ensures.counted), subst (Consumes _ _) (sym grown) (Consumes-trans _ _ _ _ _ c.loop.invariant.1 w.in-Ok.ensures.bytes.0))
  | in-Err w ↦
      let same : c.match-read.text.items ≡ c.loop.text.items = search rules in
      (omega (arith, w.in-Err.ensures.counted), subst (Consumes _ _) (sym same) (Consumes-kept _ _ _ _ c.loop.invariant.1 w.in-Err.ensures.bytes))
]
