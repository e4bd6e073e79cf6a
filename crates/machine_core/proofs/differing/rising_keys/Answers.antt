use Rattle.std.proofs.Common.{Contains, sym, subst}
use Rattle.std.specs.List.Sorted.{IsStrictlySortedBy}
use Rattle.std.specs.Ordering.{nat_cmp}
use Rattle.std.proofs.lemmas.List.Filters.{dedup_is}
use Rattle.std.proofs.lemmas.List.Kept.{Contains-dedup_nat}
use Rattle.std.proofs.lemmas.List.Sorted.{Contains-permutation}
use Rattle.std.proofs.lemmas.Map.Keys.{IsStrictlyIncreasing-dedup, sorted_from_strictly_increasing}
use Rattle.machine_core.specs.Vocabulary.{content_at}
use Rattle.machine_core.specs.Seen.{seen}
use Rattle.proof_core.proofs.Compared.{covers_more}
use Rattle.machine_core.proofs.differing.rising_keys.Goals as goal

pub returns-clause-rising : goal.returns-clause-rising
returns-clause-rising c =
    subst (IsStrictlySortedBy nat_cmp) (sym (dedup_is _ c.sort.new.self.items c.dedup.new.self.items c.dedup.ensures.filtered))
    (sorted_from_strictly_increasing _ (IsStrictlyIncreasing-dedup c.sort.new.self.items c.in_ok-sort.ensures.sorted))

pub returns-clause-all : goal.returns-clause-all
returns-clause-all c =
    covers_more c.in_ok-keys.keys.items c.dedup.new.self.items (content_at (seen c.args.parts.now) c.args.older) (content_at (seen c.args.parts.now) c.args.newer)
    (λ key there. subst (λ ks. Contains ks key) (sym (dedup_is _ c.sort.new.self.items c.dedup.new.self.items c.dedup.ensures.filtered))
    (Contains-dedup_nat c.sort.new.self.items key (Contains-permutation c.in_ok-keys.keys.items c.sort.new.self.items key c.in_ok-sort.ensures.permutation there)))
    c.in_ok-keys.ensures
