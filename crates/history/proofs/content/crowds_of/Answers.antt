use Rattle.std.proofs.Common.{◌+◌, ◌==◌, count_by, ap}
use Rattle.std.specs.BTreeMap.{keys}
use Rattle.ctrie_base.specs.Hashes.{hash_of}
use Rattle.history.proofs.CrowdCounts.{counted_more}
use Rattle.history.proofs.content.crowds_of.Goals as goal

pub loop-key-preserved : goal.loop-key-preserved
loop-key-preserved c =
    counted_more (hash_of c.args.kind) c.loop-key.crowds.entries c.insert.new.self.entries c.in-Some.key.now c.hash-hash.result (c.count_at-crowd.result + 1) c.loop-key.key-iterator c.next.new.self
    (λ h. count_by (λ q. hash_of c.args.kind q == h) (keys c.args.pairs.now)) c.loop-key.invariant c.in-Some.ensures.steps c.hash-hash.ensures (ap (λ n. n + 1) c.count_at-crowd.ensures)
    c.in_ok-insert.ensures.updates.0
