use Rattle.std.proofs.Common.{◌∙◌, refl, sym}
use Rattle.ctrie_base.specs.Hashes.{hash_of}
use Rattle.history.proofs.EntryMaps.{get_seen, removed_seen}
use Rattle.history.proofs.CrowdCounts.{IsCounted-remove, kept_count-pos}
use Rattle.history.proofs.content.Content.remove.Goals as goal

pub returns-in_err-before-clause-before : goal.returns-in_err-before-clause-before
returns-in_err-before-clause-before c = get_seen c.self.inside.pairs.entries c.args.self.now c.args.key _ c.self.view_is (c.from_residual.ensures ∙ c.in_err-before.ensures.value)

pub returns-in_err-before-clause-removed : goal.returns-in_err-before-clause-removed
returns-in_err-before-clause-removed c = removed_seen c.self.inside.pairs.entries c.remove.new.self.entries c.args.self.now c.args.key c.self.view_is c.in_err-before.ensures.updates.0

pub uncount-requires : goal.uncount-requires
uncount-requires c = kept_count-pos _ _ _ c.args.key c.in_ok-before.before c.hash-hash.result c.self.invariant (sym c.in_ok-before.ensures.value) c.hash-hash.ensures

pub invariant_of-self-2 : goal.invariant_of-self-2
invariant_of-self-2 c =
    IsCounted-remove (hash_of c.self.inside.kind) c.self.inside.pairs.entries c.remove.new.self.entries c.self.inside.crowds.entries c.uncount.new.counts.entries c.args.key
    c.in_ok-before.before c.hash-hash.result _ c.self.invariant
    (sym c.in_ok-before.ensures.value) c.in_ok-before.ensures.entries c.in_ok-before.ensures.ordered c.hash-hash.ensures refl c.uncount.ensures

pub returns-clause-before : goal.returns-clause-before
returns-clause-before c = get_seen c.self.inside.pairs.entries c.args.self.now c.args.key _ c.self.view_is c.in_ok-before.ensures.value

pub returns-clause-removed : goal.returns-clause-removed
returns-clause-removed c = removed_seen c.self.inside.pairs.entries c.remove.new.self.entries c.args.self.now c.args.key c.self.view_is c.in_ok-before.ensures.updates.0
