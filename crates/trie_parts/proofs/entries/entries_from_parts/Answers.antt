use Rattle.std.proofs.Common.{ap}
use Rattle.trie_parts.proofs.Capped.{capped_both}
use Rattle.trie_parts.proofs.entries.entries_from_parts.Goals as goal

pub returns : goal.returns
returns c =
    rw (c.extend-2.ensures, c.extend.ensures, c.entries_from-entries.ensures)
    (ap (λ rs. record { items = rs }) (capped_both 32 c.args.front.now c.args.middle.now c.args.back.now))
