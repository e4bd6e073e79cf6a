-- What contracts see of what is read.
use Rattle.script_text.specs.declared.reading.Script.{Script}
use Rattle.script_text.specs.declared.reading.Progress.{Progress}
use Rattle.script_text.specs.declared.reading.Progress.TheVariants as code
use Rattle.script_text.specs.Scripts as spec

-- what was read, without where it lies in memory
abbrev pub read : {L : Type 0} → Script L → spec.ScriptOf L
read script = record { limits = script.limits; lines = script.lines.items }

abbrev pub seen : {L : Type 0} → Progress L → spec.Progress L
seen code.Start = spec.Start
seen (code.Sized slots) = spec.Sized slots
seen (code.Hashed slots hash) = spec.Hashed slots hash
seen (code.InLines script) = spec.InLines script.limits script.lines.items
