use Rattle.std.specs.String.{string_bytes}
use Rattle.script_commands.proofs.Legal.{appends_judged}
use Rattle.script_commands.proofs.scripts.run_script.Goals as goal

pub returns-clause-legal : goal.returns-clause-legal
returns-clause-legal g c =
    appends_judged _ _ c.as_slice.result.now (string_bytes c.in_ok-report.report) c.in_ok-report.ensures.report (rw c.as_bytes.ensures.value at c.in_ok-write_all.ensures.ok)
