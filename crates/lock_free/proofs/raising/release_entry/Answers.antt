use Rattle.lock_free.proofs.EntryRaises.{owes_by}
use Rattle.lock_free.proofs.raising.release_entry.Goals as goal

pub release-requires-clause-owed : goal.release-requires-clause-owed
release-requires-clause-owed c =
    let (k, owes) = c.requires.owed in (k, owes_by c.args.actor.now.me.0 c.args.half k owes c.of_half-entry.result c.of_half-entry.ensures c.kind_for.result c.kind_for.ensures)

pub returns-clause-released : goal.returns-clause-released
returns-clause-released c k owes =
    c.release.ensures.released k (owes_by c.args.actor.now.me.0 c.args.half k owes c.of_half-entry.result c.of_half-entry.ensures c.kind_for.result c.kind_for.ensures)
