use Rattle.std.specs.String.{string_bytes}
use Rattle.ctrie_commands.proofs.ShortRecords.{appends_judged}
use Rattle.ctrie_commands.specs.Beneath.history_commands.proofs.Known.{known_holds}
use Rattle.ctrie_commands.specs.Threads.{AppendsThreadReport, AppendsThreadReportPart}
use Rattle.ctrie_commands.proofs.threads.run_threads.Goals as goal

pub returns-clause-written : goal.returns-clause-written
returns-clause-written g c =
    let is = rw c.as_slice.ensures.value at c.in_ok-report.ensures.report in
    let grown = rw c.as_bytes.ensures.value at c.in_ok-write_all.ensures.ok in
    known_holds _ (AppendsThreadReport _ _) _ c.in_ok-text.ensures.bytes (string_bytes c.in_ok-report.report, is, grown)

pub returns-in_err-write_all-clause-part : goal.returns-in_err-write_all-clause-part
returns-in_err-write_all-clause-part g c = λ _.
    let is = rw c.as_slice.ensures.value at c.in_ok-report.ensures.report in
    let part = rw c.as_bytes.ensures.value at c.in_err-write_all.ensures.part in
    known_holds _ (AppendsThreadReportPart _ _) _ c.in_ok-text.ensures.bytes (string_bytes c.in_ok-report.report, is, part)

pub returns-clause-legal : goal.returns-clause-legal
returns-clause-legal g c =
    appends_judged _ _ c.as_slice.result.now (string_bytes c.in_ok-report.report) c.in_ok-report.ensures.report (rw c.as_bytes.ensures.value at c.in_ok-write_all.ensures.ok)
