use Rattle.std.proofs.Common.{sym, subst}
use Rattle.lock_free.specs.Loading.{HasReadHeader}
use Rattle.lock_free.proofs.loads.read_header.Goals as goal

pub returns-clause-read : goal.returns-clause-read
returns-clause-read c = subst (λ x. HasReadHeader c.args.actor.now.me.0 x c.read_header_word.new.actor.me.0) (sym c.of_word.ensures) c.read_header_word.ensures.read
