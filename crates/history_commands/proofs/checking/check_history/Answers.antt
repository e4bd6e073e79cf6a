use Rattle.std.proofs.Common.{refl}
use Rattle.history_commands.specs.Verdicts.{AppendsPart, verdict_line}
use Rattle.history_commands.proofs.Known.{known_holds}
use Rattle.history_commands.proofs.checking.check_history.Goals as goal

pub returns-in_err-write_all-clause-part : goal.returns-in_err-write_all-clause-part
returns-in_err-write_all-clause-part g c = λ _.
    let verdict = rw c.as_slice.ensures.value at c.in_ok-legal.ensures.verdict in
    let part = rw (c.as_bytes.ensures.value, c.line_of.ensures) at c.in_err-write_all.ensures.part in
    known_holds _ (AppendsPart _ _) _ c.in_ok-text.ensures.bytes (verdict_line c.in_ok-legal.legal, (c.in_ok-legal.legal, verdict, refl), part)
