use Rattle.std.proofs.Common.{arith}
use Rattle.rdcss_root.proofs.holding.release_all.Goals as goal

pub returns : goal.returns
returns c =
    let released = c.release_all.ensures in
    record {
      outside = λ r. omega (arith, released.others r);
      keeps = record {
        heap = released.heap;
        epochs = released.epochs;
        few = released.few;
        ticks = (omega (arith, released.ticks), omega (arith, released.ticks));
      };
    }
