use Rattle.std.proofs.Common.{◌+◌, unwrap_or, sym, ap}
use Rattle.ctrie_base.specs.Hashes.{hash_of}
use Rattle.history.proofs.EntryMaps.{get_seen, put_seen, none_from}
use Rattle.history.proofs.CrowdCounts.{IsCounted-room, IsCounted-insert}
use Rattle.history.proofs.content.Content.insert.Goals as goal

pub returns-then-contains_key-clause-before : goal.returns-then-contains_key-clause-before
returns-then-contains_key-clause-before c = get_seen c.self.inside.pairs.entries c.args.self.now c.args.key _ c.self.view_is c.in_ok-insert.ensures.old

pub returns-then-contains_key-clause-ok : goal.returns-then-contains_key-clause-ok
returns-then-contains_key-clause-ok c = put_seen c.self.inside.pairs.entries c.insert.new.self.entries c.args.self.now c.args.key c.args.value c.self.view_is c.in_ok-insert.ensures.updates.0

pub invariant_of-self-2 : goal.invariant_of-self-2
invariant_of-self-2 c =
    let absent = none_from _ _ c.contains_key.ensures c.if-contains_key.false in
    let pairs = c.self.inside.pairs.entries in
    let hash = hash_of c.self.inside.kind in
    let room = IsCounted-room hash pairs c.self.inside.crowds.entries c.insert-2.new.self.entries c.hash-hash.result c.count_at-crowd.result c.self.invariant c.count_at-crowd.ensures
    c.in_ok-insert-2.ensures.updates.0 in
    let counted = ap (λ o. unwrap_or o 0 + 1) (sym c.in_ok-insert-2.ensures.updates.1) in
    IsCounted-insert hash pairs c.insert-3.new.self.entries c.insert-2.new.self.entries c.set_count.new.counts.entries c.args.key c.args.value c.hash-hash.result _
    room absent c.in_ok-insert-3.ensures.entries c.in_ok-insert-3.ensures.ordered c.hash-hash.ensures counted c.set_count.ensures.0

pub returns-clause-before : goal.returns-clause-before
returns-clause-before c = get_seen c.self.inside.pairs.entries c.args.self.now c.args.key _ c.self.view_is (sym (none_from _ _ c.contains_key.ensures c.if-contains_key.false))

pub returns-clause-ok : goal.returns-clause-ok
returns-clause-ok c = put_seen c.self.inside.pairs.entries c.insert-3.new.self.entries c.args.self.now c.args.key c.args.value c.self.view_is c.in_ok-insert-3.ensures.updates.0
