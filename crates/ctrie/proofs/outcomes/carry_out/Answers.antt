-- The request is the one of the branch, and what the call that was made says of its own result holds of what comes of it.
use Rattle.std.proofs.Common.{sym, ◌∙◌}
use Rattle.ctrie.proofs.Telling.{judged_fault, judged_ok, judged_err, judged_not_done, done_fault, done_ok, done_err, done_holds, done_not_judged}
use Rattle.ctrie.proofs.Telling.{legality_told, line_told, verdict_told, report_told, thread_report_told, explanation_told, picture_told}
use Rattle.ctrie.proofs.Telling.{verdict_part, report_part, thread_report_part, explanation_part, picture_part}
use Rattle.ctrie.proofs.Seeking.{sought_fault, sought_ok, sought_err, sought_not_done, search_told, search_legality, search_part}
use Rattle.ctrie_words.specs.declared.arguments.Request.TheVariants.{Check, Explain, Draw}
use Rattle.ctrie.proofs.outcomes.carry_out.Goals as goal

pub returns-in-Check-clause-written : goal.returns-in-Check-clause-written
returns-in-Check-clause-written g c = rw (c.in-Check.is, c.judged.ensures) (verdict_told _ _ _ _ c.in-Check.field-0 c.check_history.ensures.verdict c.check_history.ensures.written)

pub returns-in-Check-clause-all_read : goal.returns-in-Check-clause-all_read
returns-in-Check-clause-all_read g c = rw c.judged.ensures (judged_ok c.check_history.result _ c.check_history.ensures.all_read)

pub returns-in-Check-clause-verdict : goal.returns-in-Check-clause-verdict
returns-in-Check-clause-verdict g c = λ legal e.
    rw c.in-Check.is (legality_told _ (Check c.in-Check.field-0) _ _ (line_told _ c.in-Check.field-0 _ _ c.check_history.ensures.written) legal (sym c.judged.ensures ∙ e))

pub returns-in-Check-clause-legal : goal.returns-in-Check-clause-legal
returns-in-Check-clause-legal g c = λ e. absurd (judged_not_done _ (sym c.judged.ensures ∙ e))

pub returns-in-Check-clause-line : goal.returns-in-Check-clause-line
returns-in-Check-clause-line g c = λ number refusal e. rw c.in-Check.is (c.check_history.ensures.line number refusal (judged_fault _ _ (sym c.judged.ensures ∙ e)))

pub returns-in-Check-clause-read : goal.returns-in-Check-clause-read
returns-in-Check-clause-read g c = λ e. c.check_history.ensures.read (judged_fault _ _ (sym c.judged.ensures ∙ e))

pub returns-in-Check-clause-write : goal.returns-in-Check-clause-write
returns-in-Check-clause-write g c = λ e. c.check_history.ensures.write (judged_fault _ _ (sym c.judged.ensures ∙ e))

pub returns-in-Check-clause-never_usage : goal.returns-in-Check-clause-never_usage
returns-in-Check-clause-never_usage g c = λ e. c.check_history.ensures.never_usage (judged_fault _ _ (sym c.judged.ensures ∙ e))

pub returns-in-Check-clause-silent : goal.returns-in-Check-clause-silent
returns-in-Check-clause-silent g c = rw c.judged.ensures (judged_err c.check_history.result _ c.check_history.ensures.silent)

pub returns-in-Check-clause-part : goal.returns-in-Check-clause-part
returns-in-Check-clause-part g c = λ e. rw c.in-Check.is (verdict_part _ _ _ c.in-Check.field-0 (c.check_history.ensures.part (judged_fault _ _ (sym c.judged.ensures ∙ e))))

pub returns-in-Run-clause-written : goal.returns-in-Run-clause-written
returns-in-Run-clause-written g c = rw (c.in-Run.is, c.done.ensures) (report_told _ _ _ _ c.in-Run.field-0 c.run_script.ensures.written)

pub returns-in-Run-clause-all_read : goal.returns-in-Run-clause-all_read
returns-in-Run-clause-all_read g c = rw c.done.ensures (done_ok c.run_script.result _ c.run_script.ensures.all_read)

pub returns-in-Run-clause-verdict : goal.returns-in-Run-clause-verdict
returns-in-Run-clause-verdict g c = λ legal e. absurd (done_not_judged _ legal (sym c.done.ensures ∙ e))

pub returns-in-Run-clause-legal : goal.returns-in-Run-clause-legal
returns-in-Run-clause-legal g c = λ e. done_holds _ _ c.run_script.ensures.legal (sym c.done.ensures ∙ e)

pub returns-in-Run-clause-line : goal.returns-in-Run-clause-line
returns-in-Run-clause-line g c = λ number refusal e. rw c.in-Run.is (c.run_script.ensures.line number refusal (done_fault _ _ (sym c.done.ensures ∙ e)))

pub returns-in-Run-clause-read : goal.returns-in-Run-clause-read
returns-in-Run-clause-read g c = λ e. c.run_script.ensures.read (done_fault _ _ (sym c.done.ensures ∙ e))

pub returns-in-Run-clause-write : goal.returns-in-Run-clause-write
returns-in-Run-clause-write g c = λ e. c.run_script.ensures.write (done_fault _ _ (sym c.done.ensures ∙ e))

pub returns-in-Run-clause-never_usage : goal.returns-in-Run-clause-never_usage
returns-in-Run-clause-never_usage g c = λ e. c.run_script.ensures.never_usage (done_fault _ _ (sym c.done.ensures ∙ e))

pub returns-in-Run-clause-silent : goal.returns-in-Run-clause-silent
returns-in-Run-clause-silent g c = rw c.done.ensures (done_err c.run_script.result _ c.run_script.ensures.silent)

pub returns-in-Run-clause-part : goal.returns-in-Run-clause-part
returns-in-Run-clause-part g c = λ e. rw c.in-Run.is (report_part _ _ _ c.in-Run.field-0 (c.run_script.ensures.part (done_fault _ _ (sym c.done.ensures ∙ e))))

pub returns-in-Threads-clause-written : goal.returns-in-Threads-clause-written
returns-in-Threads-clause-written g c = rw (c.in-Threads.is, c.done-in-Threads.ensures) (thread_report_told _ _ _ _ c.in-Threads.field-0 c.run_threads.ensures.written)

pub returns-in-Threads-clause-all_read : goal.returns-in-Threads-clause-all_read
returns-in-Threads-clause-all_read g c = rw c.done-in-Threads.ensures (done_ok c.run_threads.result _ c.run_threads.ensures.all_read)

pub returns-in-Threads-clause-verdict : goal.returns-in-Threads-clause-verdict
returns-in-Threads-clause-verdict g c = λ legal e. absurd (done_not_judged _ legal (sym c.done-in-Threads.ensures ∙ e))

pub returns-in-Threads-clause-legal : goal.returns-in-Threads-clause-legal
returns-in-Threads-clause-legal g c = λ e. done_holds _ _ c.run_threads.ensures.legal (sym c.done-in-Threads.ensures ∙ e)

pub returns-in-Threads-clause-line : goal.returns-in-Threads-clause-line
returns-in-Threads-clause-line g c = λ number refusal e. rw c.in-Threads.is (c.run_threads.ensures.line number refusal (done_fault _ _ (sym c.done-in-Threads.ensures ∙ e)))

pub returns-in-Threads-clause-read : goal.returns-in-Threads-clause-read
returns-in-Threads-clause-read g c = λ e. c.run_threads.ensures.read (done_fault _ _ (sym c.done-in-Threads.ensures ∙ e))

pub returns-in-Threads-clause-write : goal.returns-in-Threads-clause-write
returns-in-Threads-clause-write g c = λ e. c.run_threads.ensures.write (done_fault _ _ (sym c.done-in-Threads.ensures ∙ e))

pub returns-in-Threads-clause-never_usage : goal.returns-in-Threads-clause-never_usage
returns-in-Threads-clause-never_usage g c = λ e. c.run_threads.ensures.never_usage (done_fault _ _ (sym c.done-in-Threads.ensures ∙ e))

pub returns-in-Threads-clause-silent : goal.returns-in-Threads-clause-silent
returns-in-Threads-clause-silent g c = rw c.done-in-Threads.ensures (done_err c.run_threads.result _ c.run_threads.ensures.silent)

pub returns-in-Threads-clause-part : goal.returns-in-Threads-clause-part
returns-in-Threads-clause-part g c = λ e. rw c.in-Threads.is (thread_report_part _ _ _ c.in-Threads.field-0 (c.run_threads.ensures.part (done_fault _ _ (sym c.done-in-Threads.ensures ∙ e))))

pub returns-in-Explain-clause-written : goal.returns-in-Explain-clause-written
returns-in-Explain-clause-written g c = rw (c.in-Explain.is, c.judged-in-Explain.ensures)
    (explanation_told _ _ _ _ c.in-Explain.field-0 c.explain_history.ensures.verdict c.explain_history.ensures.written)

pub returns-in-Explain-clause-all_read : goal.returns-in-Explain-clause-all_read
returns-in-Explain-clause-all_read g c = rw c.judged-in-Explain.ensures (judged_ok c.explain_history.result _ c.explain_history.ensures.all_read)

pub returns-in-Explain-clause-verdict : goal.returns-in-Explain-clause-verdict
returns-in-Explain-clause-verdict g c = λ legal e. rw c.in-Explain.is (legality_told _ (Explain c.in-Explain.field-0) _ _ c.explain_history.ensures.told legal (sym c.judged-in-Explain.ensures ∙ e))

pub returns-in-Explain-clause-legal : goal.returns-in-Explain-clause-legal
returns-in-Explain-clause-legal g c = λ e. absurd (judged_not_done _ (sym c.judged-in-Explain.ensures ∙ e))

pub returns-in-Explain-clause-line : goal.returns-in-Explain-clause-line
returns-in-Explain-clause-line g c = λ number refusal e. rw c.in-Explain.is (c.explain_history.ensures.line number refusal (judged_fault _ _ (sym c.judged-in-Explain.ensures ∙ e)))

pub returns-in-Explain-clause-read : goal.returns-in-Explain-clause-read
returns-in-Explain-clause-read g c = λ e. c.explain_history.ensures.read (judged_fault _ _ (sym c.judged-in-Explain.ensures ∙ e))

pub returns-in-Explain-clause-write : goal.returns-in-Explain-clause-write
returns-in-Explain-clause-write g c = λ e. c.explain_history.ensures.write (judged_fault _ _ (sym c.judged-in-Explain.ensures ∙ e))

pub returns-in-Explain-clause-never_usage : goal.returns-in-Explain-clause-never_usage
returns-in-Explain-clause-never_usage g c = λ e. c.explain_history.ensures.never_usage (judged_fault _ _ (sym c.judged-in-Explain.ensures ∙ e))

pub returns-in-Explain-clause-silent : goal.returns-in-Explain-clause-silent
returns-in-Explain-clause-silent g c = rw c.judged-in-Explain.ensures (judged_err c.explain_history.result _ c.explain_history.ensures.silent)

pub returns-in-Explain-clause-part : goal.returns-in-Explain-clause-part
returns-in-Explain-clause-part g c = λ e. rw c.in-Explain.is (explanation_part _ _ _ c.in-Explain.field-0 (c.explain_history.ensures.part (judged_fault _ _ (sym c.judged-in-Explain.ensures ∙ e))))

pub returns-in-Draw-clause-written : goal.returns-in-Draw-clause-written
returns-in-Draw-clause-written g c = rw (c.in-Draw.is, c.judged-in-Draw.ensures) (picture_told _ _ _ _ c.in-Draw.field-0 c.draw_history.ensures.verdict c.draw_history.ensures.written)

pub returns-in-Draw-clause-all_read : goal.returns-in-Draw-clause-all_read
returns-in-Draw-clause-all_read g c = rw c.judged-in-Draw.ensures (judged_ok c.draw_history.result _ c.draw_history.ensures.all_read)

pub returns-in-Draw-clause-verdict : goal.returns-in-Draw-clause-verdict
returns-in-Draw-clause-verdict g c = λ legal e. rw c.in-Draw.is (legality_told _ (Draw c.in-Draw.field-0) _ _ c.draw_history.ensures.told legal (sym c.judged-in-Draw.ensures ∙ e))

pub returns-in-Draw-clause-legal : goal.returns-in-Draw-clause-legal
returns-in-Draw-clause-legal g c = λ e. absurd (judged_not_done _ (sym c.judged-in-Draw.ensures ∙ e))

pub returns-in-Draw-clause-line : goal.returns-in-Draw-clause-line
returns-in-Draw-clause-line g c = λ number refusal e. rw c.in-Draw.is (c.draw_history.ensures.line number refusal (judged_fault _ _ (sym c.judged-in-Draw.ensures ∙ e)))

pub returns-in-Draw-clause-read : goal.returns-in-Draw-clause-read
returns-in-Draw-clause-read g c = λ e. c.draw_history.ensures.read (judged_fault _ _ (sym c.judged-in-Draw.ensures ∙ e))

pub returns-in-Draw-clause-write : goal.returns-in-Draw-clause-write
returns-in-Draw-clause-write g c = λ e. c.draw_history.ensures.write (judged_fault _ _ (sym c.judged-in-Draw.ensures ∙ e))

pub returns-in-Draw-clause-never_usage : goal.returns-in-Draw-clause-never_usage
returns-in-Draw-clause-never_usage g c = λ e. c.draw_history.ensures.never_usage (judged_fault _ _ (sym c.judged-in-Draw.ensures ∙ e))

pub returns-in-Draw-clause-silent : goal.returns-in-Draw-clause-silent
returns-in-Draw-clause-silent g c = rw c.judged-in-Draw.ensures (judged_err c.draw_history.result _ c.draw_history.ensures.silent)

pub returns-in-Draw-clause-part : goal.returns-in-Draw-clause-part
returns-in-Draw-clause-part g c = λ e. rw c.in-Draw.is (picture_part _ _ _ c.in-Draw.field-0 (c.draw_history.ensures.part (judged_fault _ _ (sym c.judged-in-Draw.ensures ∙ e))))

pub returns-in-Order-clause-written : goal.returns-in-Order-clause-written
returns-in-Order-clause-written g c = rw (c.in-Order.is, c.sought.ensures) (search_told _ _ _ _ c.in-Order.field-0 c.in-Order.steps c.order_history.ensures.written)

pub returns-in-Order-clause-all_read : goal.returns-in-Order-clause-all_read
returns-in-Order-clause-all_read g c = rw c.sought.ensures (sought_ok c.order_history.result _ c.order_history.ensures.all_read)

pub returns-in-Order-clause-verdict : goal.returns-in-Order-clause-verdict
returns-in-Order-clause-verdict g c = λ legal e. rw c.in-Order.is (search_legality _ c.in-Order.field-0 c.in-Order.steps _ _ c.order_history.ensures.told legal (sym c.sought.ensures ∙ e))

pub returns-in-Order-clause-legal : goal.returns-in-Order-clause-legal
returns-in-Order-clause-legal g c = λ e. absurd (sought_not_done _ (sym c.sought.ensures ∙ e))

pub returns-in-Order-clause-line : goal.returns-in-Order-clause-line
returns-in-Order-clause-line g c = λ number refusal e. rw c.in-Order.is (c.order_history.ensures.line number refusal (sought_fault _ _ (sym c.sought.ensures ∙ e)))

pub returns-in-Order-clause-read : goal.returns-in-Order-clause-read
returns-in-Order-clause-read g c = λ e. c.order_history.ensures.read (sought_fault _ _ (sym c.sought.ensures ∙ e))

pub returns-in-Order-clause-write : goal.returns-in-Order-clause-write
returns-in-Order-clause-write g c = λ e. c.order_history.ensures.write (sought_fault _ _ (sym c.sought.ensures ∙ e))

pub returns-in-Order-clause-never_usage : goal.returns-in-Order-clause-never_usage
returns-in-Order-clause-never_usage g c = λ e. c.order_history.ensures.never_usage (sought_fault _ _ (sym c.sought.ensures ∙ e))

pub returns-in-Order-clause-silent : goal.returns-in-Order-clause-silent
returns-in-Order-clause-silent g c = rw c.sought.ensures (sought_err c.order_history.result _ c.order_history.ensures.silent)

pub returns-in-Order-clause-part : goal.returns-in-Order-clause-part
returns-in-Order-clause-part g c = λ e. rw c.in-Order.is (search_part _ _ _ c.in-Order.field-0 c.in-Order.steps (c.order_history.ensures.part (sought_fault _ _ (sym c.sought.ensures ∙ e))))
