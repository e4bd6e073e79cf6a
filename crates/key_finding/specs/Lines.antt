-- What a look comes to, as the definition's lines.
use Rattle.std.specs.Prelude.{[], List, None, if◌then◌else◌}
use Rattle.key_finding.specs.Beneath.history.specs.declared.calls.Call.{Call}
use Rattle.key_finding.specs.Beneath.slot_arena.specs.declared.refs.Ref.{Ref}
use Rattle.key_finding.specs.Beneath.machine_model.specs.declared.building.BuildLine.TheVariants as build
use Rattle.key_finding.specs.Beneath.machine_model.specs.declared.building.Site.{Site}
use Rattle.key_finding.specs.Beneath.machine_model.specs.declared.finding.KeyLine.TheVariants as key
use Rattle.key_finding.specs.Beneath.machine_model.specs.declared.lines.Line.{Line}
use Rattle.key_finding.specs.Beneath.machine_model.specs.declared.lines.Line.TheVariants as line
use Rattle.key_finding.specs.Beneath.machine_model.specs.declared.repairs.CleanLine.TheVariants as clean
use Rattle.key_finding.specs.Beneath.machine_model.specs.Calls.{inserts, absent_reply}
use Rattle.key_finding.specs.Beneath.machine_model.specs.Finding.{going_down}
use Rattle.key_finding.specs.Beneath.machine_model.specs.Lines.{impossible}
use Rattle.key_finding.specs.Beneath.machine_model.specs.Paths.{above, current}
use Rattle.key_finding.specs.Beneath.machine_model.specs.Reading.{reading}
use Rattle.key_finding.specs.Beneath.machine_model.specs.Renewing.{renew_next}
use Rattle.key_finding.specs.Beneath.machine_model.specs.States.{State}
use Rattle.key_finding.specs.Beneath.gcas.specs.declared.swap.Swap.{Swap}
use Rattle.key_change.specs.Lines.{line_at}
use Rattle.key_finding.specs.declared.found.Found.{Found}
use Rattle.key_finding.specs.declared.found.Found.TheVariants.{Entry, Listed, Renew, Clean, Change, End, Impossible}
use Rattle.key_finding.specs.declared.found.Entered.{Entered}
use Rattle.key_finding.specs.declared.found.Entered.TheVariants.{Down, Here}
use Rattle.key_finding.specs.Replies.{reply_of}

-- the definition's line to which this leads, from this main node at the end of this path
abbrev pub line_found : State → List Ref → Swap → Ref → Found → Line
line_found state path s main (Entry position) = line.Key (key.Entry path main position)
line_found state path s main (Listed position) = line.Key (key.Listed path main position)
line_found state path s main Renew = renew_next state path main []
line_found state path s main Clean = line.Clean (clean.Read (above path) (reading (current (above path))))
line_found state path s main (Change at) = line_at path s None main at
line_found state path s main (End answer) = line.End (reply_of answer)
line_found state path s main Impossible = impossible

-- the same after a look at an entry of that branch
abbrev pub line_entered : State → List Ref → Swap → Ref → Entered → Line
line_entered state path s main (Down below) = going_down path below
line_entered state path s main (Here found) = line_found state path s main found

-- where the key is absent: the call makes its single for this site, or answers
abbrev pub absent_for : Call → List Ref → Ref → Site → Line
absent_for call path main site = if inserts call then line.Build (build.Single path main site None) else line.End (absent_reply call)
