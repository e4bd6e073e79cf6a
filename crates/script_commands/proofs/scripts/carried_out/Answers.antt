use Rattle.std.specs.String.{string_bytes}
use Rattle.script_text.specs.Views.{read}
use Rattle.script_commands.proofs.Legal.{is_report}
use Rattle.script_commands.proofs.scripts.carried_out.Goals as goal

pub returns-clause-report : goal.returns-clause-report
returns-clause-report c =
    is_report c.alone_it_ends.ensures c.closes_end.ensures c.args.text.now (read c.in_ok-script.script) (string_bytes c.in_ok-report_of.field-0)
    (c.in_ok-script.ensures.found, c.in_ok-script.ensures.exact)
    c.in_ok-report_of.ensures.text
    c.in_ok-report_of.ensures.legal
