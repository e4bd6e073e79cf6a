use Rattle.std.specs.String.{string_bytes}
use Rattle.ctrie_commands.specs.Beneath.script_text.specs.Views.{read}
use Rattle.ctrie_commands.proofs.ShortRecords.{each_report}
use Rattle.ctrie_commands.proofs.threads.carried_out.Goals as goal

pub returns-clause-report : goal.returns-clause-report
returns-clause-report g c =
    each_report string_bytes c.args.text.now (read c.in_ok-script.script) c.reported.result (c.in_ok-script.ensures.found, c.in_ok-script.ensures.exact) c.reported.ensures.report
