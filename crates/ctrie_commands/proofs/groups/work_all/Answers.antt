use Rattle.ctrie_commands.specs.Beneath.script_text.specs.Views.{read}
use Rattle.lock_runner.specs.Seats.{IsSeatOf}
use Rattle.ctrie_commands.specs.Working.{IsUnused}
use Rattle.ctrie_commands.proofs.Grouping.{all_grouped, when_joined}
use Rattle.ctrie_commands.proofs.groups.work_all.Goals as goal

pub work_groups-requires-clause-seats : goal.work_groups-requires-clause-seats
work_groups-requires-clause-seats g c κs within =
    all_grouped (λ seat. IsSeatOf c.args.runner.now seat) _ _ c.in_ok-groups.ensures.seats c.requires.seats

pub work_groups-requires-clause-unused : goal.work_groups-requires-clause-unused
work_groups-requires-clause-unused g c κs within = all_grouped IsUnused _ _ c.in_ok-groups.ensures.seats c.requires.unused

pub returns : goal.returns
returns g c =
    when_joined (read c.args.script.now) c.args.seats.items c.in_ok-groups.groups.items c.in_ok-results.results.items c.joined.result c.in_ok-groups.ensures.seats c.in_ok-results.ensures
    c.joined.ensures
