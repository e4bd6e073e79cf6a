-- What contracts see of what is read.
use Rattle.history_text.specs.declared.reading.Given.{Given}
use Rattle.history_text.specs.declared.reading.Progress.{Progress}
use Rattle.history_text.specs.declared.reading.Progress.TheVariants as code
use Rattle.history_text.specs.Reading as spec

-- what was read, without where it lies in memory
abbrev pub given : Given → spec.Reading
given g = record { hash = g.hash; events = g.events.items; order = g.order.items }

abbrev pub seen : Progress → spec.Progress
seen code.Start = spec.Start
seen (code.InEvents log) = spec.InEvents log.0 log.1
seen (code.Ordered read) = spec.Ordered (given read)
seen (code.Ended read) = spec.Ended (given read)
