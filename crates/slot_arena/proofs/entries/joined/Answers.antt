use Rattle.std.proofs.Common.{ap, ◌∙◌}
use Rattle.slot_arena.proofs.Joining.{three}
use Rattle.slot_arena.proofs.entries.joined.Goals as goal

pub returns-clause-entries : goal.returns-clause-entries
returns-clause-entries c =
    ap (λ rs. record { items = rs }) (c.append.ensures ∙ three c.args.front.now c.args.middle.now c.args.back.now c.requires)
