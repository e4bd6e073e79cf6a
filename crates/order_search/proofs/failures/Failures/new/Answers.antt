-- None is kept, and the handles and keys are those of the history.
use Rattle.order_search.proofs.Alike.{over_of, no_state}
use Rattle.order_search.proofs.failures.Failures.new.Goals as goal

pub returns-clause-none : goal.returns-clause-none
returns-clause-none c = λ hash history known. record {
  over = over_of history c.args.table.now _ _ known c.in_ok-handles_of.ensures.first c.in_ok-handles_of.ensures.opened c.in_ok-keys_of.ensures.keys;
  each = λ i state at. absurd (no_state c.new.result.items i state c.new.ensures.items at);
}
