use Rattle.std.proofs.Common.{◌≡◌, ◌++◌, arith, ap, take}
use Rattle.std.proofs.lemmas.Grind.{common_steps}
use Rattle.trie_parts.proofs.Capped.{filled}
use Rattle.trie_parts.proofs.entries.extend.Goals as goal

pub returns : goal.returns
returns c =
    let all = filled 32 c.remaining_capacity.result c.args.entries.now.items c.args.more.now c.remaining_capacity.ensures in
    let items : c.try_extend_from_slice.new.self.items ≡ take 32 (c.args.entries.now.items ++ c.args.more.now) = grind (arith, common_steps, all) in
    ap (λ rs. record { items = rs }) items
