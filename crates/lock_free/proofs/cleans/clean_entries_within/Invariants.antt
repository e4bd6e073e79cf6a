use Rattle.std.proofs.Common.{◌≡◌}
use Rattle.lock_free.proofs.CleanAll.{GoesOver}
use Rattle.lock_free.proofs.cleans.clean_entries_within.Given as goal

abbrev pub invariant-loop-n : goal.invariant-loop-n
invariant-loop-n l =
    (l.actor.table_id ≡ l.fn.actor.table_id) × GoesOver l.words.table_id.words l.way l.fn.actor.me.0 l.actor.me.0 l.main l.entries.items l.n l.cleaned.entries.items l.cleaned.singles.items
