use Rattle.std.proofs.Common.{◌≡◌, ap, ◌∙◌, rules}
use Rattle.std.specs.String.{string_bytes}
use Rattle.script_text.specs.Views.{read}
use Rattle.script_commands.specs.Recorded.{recorded_in}
use Rattle.script_commands.specs.Reports.{line, hash_text}
use Rattle.script_commands.proofs.Legal.{led_to, report_legal}
use Rattle.script_commands.proofs.Telling.{fresh_recorded, reported}
use Rattle.script_commands.proofs.reports.report_of.Goals as goal

pub returns-clause-text : goal.returns-clause-text
returns-clause-text c =
    let script = c.args.script.now in
    let hash : string_bytes c.writeln.new.self ≡ line (hash_text script.limits.hash) = search rules in
    let commands : c.deref.result.now ≡ script.lines.items = c.deref.ensures.value in
    reported (read script) (recorded_in c.in-Ok.machine) (recorded_in c.tell_all.new.machine) (string_bytes c.writeln.new.self) (string_bytes c.tell_all.new.text) (string_bytes c.tell_last.new.text)
    (ap recorded_in c.in-Ok.ensures.made ∙ fresh_recorded script.limits) (rw commands at c.in_ok-tell_all.ensures.state) hash (rw commands at c.in_ok-tell_all.ensures.text) c.in_ok-tell_last.ensures

pub returns-clause-legal : goal.returns-clause-legal
returns-clause-legal c =
    let script = c.args.script.now in
    let commands : c.deref.result.now ≡ script.lines.items = c.deref.ensures.value in
    let last = led_to (read script) (recorded_in c.in-Ok.machine) (recorded_in c.tell_all.new.machine) (ap recorded_in c.in-Ok.ensures.made ∙ fresh_recorded script.limits)
    (rw commands at c.in_ok-tell_all.ensures.state) in
    report_legal (read script) c.tell_all.new.machine (string_bytes c.tell_last.new.text) last c.history_is_legal.ensures.fit c.history_is_legal.ensures.legal (returns-clause-text c)
