use Rattle.std.proofs.Common.{◌≡◌, ◌∙◌, rules}
use Rattle.std.specs.String.{string_bytes}
use Rattle.ctrie_commands.specs.Beneath.script_text.specs.Views.{read}
use Rattle.script_commands.specs.Reports.{record_report}
use Rattle.ctrie_commands.proofs.Ranks.{made_unused, ranked, denied_by_rank}
use Rattle.ctrie_commands.proofs.Reported.{seats_came, none_missing, reported}
use Rattle.ctrie_commands.proofs.threads.reported.Goals as goal

pub work_all-requires-clause-unused : goal.work_all-requires-clause-unused
work_all-requires-clause-unused g c κs within = made_unused _ _ _ _ c.in_ok-runner.ensures.made

pub finish-requires : goal.finish-requires
finish-requires g c =
    let gathered = c.in_ok-seats.ensures in
    let ranks = ranked (read c.args.script.now) _ c.in_ok-runner.runner _ _ c.in_ok-runner.ensures.made c.in_ok-workers.ensures in
    seats_came (read c.args.script.now) c.in_ok-runner.runner c.in_ok-workers.workers.items _ ranks gathered.seats_are

pub unreachable-requires : goal.unreachable-requires
unreachable-requires g c =
    let gathered = c.in_ok-seats.ensures in
    let ranks = ranked (read c.args.script.now) _ c.in_ok-runner.runner _ _ c.in_ok-runner.ensures.made c.in_ok-workers.ensures in
    let missing = rw c.in-Err-Missing.field-0-is at c.in-Err-Missing.ensures in
    none_missing (read c.args.script.now) _ c.in_ok-runner.runner _ c.in_ok-workers.workers.items _ c.in_ok-runner.ensures.made ranks gathered.seats_are missing.0

pub returns-in-Ok-clause-report : goal.returns-in-Ok-clause-report
returns-in-Ok-clause-report g c =
    let gathered = c.in_ok-seats.ensures in
    let ranks = ranked (read c.args.script.now) _ c.in_ok-runner.runner _ _ c.in_ok-runner.ensures.made c.in_ok-workers.ensures in
    let text = gathered.denied_are ∙ denied_by_rank (read c.args.script.now) c.in_ok-runner.runner.id c.in_ok-workers.workers.items ranks in
    let bytes : string_bytes c.in_ok-report_of_record-in-Ok.field-0 ≡ record_report c.in-Ok.«record» (string_bytes c.in_ok-seats.denied) = search rules in
    reported (read c.args.script.now) c.in_ok-runner.runner _ c.in_ok-workers.workers.items _ c.in-Ok.«record» _ _ c.in_ok-runner.ensures.made ranks gathered.seats_are text c.in-Ok.ensures
    bytes c.report_of_record.ensures.fit
