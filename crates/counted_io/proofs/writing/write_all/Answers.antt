-- A call takes some bytes of the rest, or fails.
use Rattle.std.proofs.Common.{◌≡◌, ◌<◌, ◌≤◌, arith, length, drop, rules}
use Rattle.std.proofs.lemmas.List.{take_rest}
use Rattle.counted_io.specs.Counts.{failures}
use Rattle.counted_io.proofs.Written.{written_more, written_same}
use Rattle.counted_io.proofs.writing.write_all.Goals as goal
use Rattle.counted_io.proofs.writing.write_all.Goals.{in-Ok, in-Err}

pub loop-preserved : goal.loop-preserved
loop-preserved g c = elim c.match-write.branch [
  | in-Ok w ↦
      let n = w.in-Ok.count in
      let text = c.args.text.now in
      let some : 0 < n = omega (arith, w.in-Ok.count-test.1) in
      let counted : failures c.write.new.self ≡ failures c.loop.output = search rules in
      let room : n ≤ length (drop c.loop.written text) = rw take_rest at w.in-Ok.ensures.bound in
      let more = rw take_rest at w.in-Ok.ensures.bytes in
      rw (counted, w.written-is) (written_more _ _ _ _ _ text _ _ n c.loop.invariant some room more)
  | in-Err w ↦
      let grew : failures c.args.output.now < failures c.write.new.self = omega (arith, w.in-Err.ensures.counted, c.loop.invariant.counts) in
      rw w.written-is (written_same _ _ _ _ _ _ _ _ _ c.loop.invariant grew w.in-Err.ensures.bytes)
]
