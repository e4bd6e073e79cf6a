use Rattle.std.proofs.Common.{◌≡◌}
use Rattle.lock_free.specs.Loading.{IsSound}
use Rattle.lock_free.specs.Watching.{IsQuiet, KnowsPlain}
use Rattle.lock_free.proofs.recovering.see_all_plain.Given as goal

abbrev pub invariant-loop-handle : goal.invariant-loop-handle
invariant-loop-handle l =
    (l.actor.table_id ≡ l.initial.actor.table_id) × IsSound l.words.table_id.words l.actor.me.0 × IsQuiet l.initial.actor.me.0 l.actor.me.0 × KnowsPlain l.actor.me.0 l.handle
