use Rattle.std.proofs.Common.{arith}
use Rattle.slot_arena.proofs.Lendings.{size_seen}
use Rattle.slot_arena.proofs.ledger.Ledger.noted_len.Goals as goal

pub returns-clause-few : goal.returns-clause-few
returns-clause-few c = omega (arith, size_seen _ _ _ c.self.view_is, c.noted_len.ensures.few)
