-- A snapshot, a freeze, a clear or a call on one key of a read-only handle has ended after so many steps of its actor alone.
use Rattle.std.proofs.Common.{arith}
use Rattle.proof_obstruction_free.specs.Copies.{CopiesEnd, CopiesEndFirst}
use Rattle.proof_obstruction_free.specs.Readers.{ReadersEnd}
use Rattle.proof_obstruction_free.proofs.Copy.Ends.{no_long_copy, no_long_copy_first}
use Rattle.proof_obstruction_free.proofs.Ends.Alone.{ends_within, lasts, lone}
use Rattle.proof_obstruction_free.proofs.Reader.Ends.{no_long_reader}

pub copies_end_first : CopiesEndFirst
copies_end_first limits steps actor operation r copies at =
    ends_within limits steps actor operation r 23 (omega arith)
    (λ still. no_long_copy_first (lone limits steps actor operation r 23 still) copies at (lasts limits steps actor operation r 23 still))

pub copies_end : CopiesEnd
copies_end limits steps actor operation r copies =
    ends_within limits steps actor operation r 49 (omega arith)
    (λ still. no_long_copy (lone limits steps actor operation r 49 still) copies (lasts limits steps actor operation r 49 still))

pub readers_end : ReadersEnd
readers_end limits steps actor operation r on_key read_only =
    ends_within limits steps actor operation r 166 (omega arith)
    (λ still. no_long_reader (lone limits steps actor operation r 166 still) on_key read_only (lasts limits steps actor operation r 166 still))
