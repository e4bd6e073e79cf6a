-- What comes of a request, and the exit status that tells of it.
use Rattle.std.specs.Prelude.{◌≡◌, ℕ, Bool, true, false, List, Result, Ok, Err}
use Rattle.ctrie_base.specs.declared.refusals.Refusal.{Refusal}
use Rattle.ctrie.specs.Beneath.history_commands.specs.declared.faults.Fault.{Fault}
use Rattle.ctrie.specs.Beneath.history_commands.specs.Faults.{status_of}
use Rattle.ctrie.specs.Beneath.history_commands.specs.Verdicts.{IsVerdict, verdict_line, HasLineFault}
use Rattle.ctrie.specs.Beneath.history_commands.specs.Explanations.{IsExplanation, ExplainsVerdict}
use Rattle.ctrie.specs.Beneath.history_commands.specs.Pictures.{IsPicture, ShowsVerdict}
use Rattle.ctrie.specs.Beneath.history_commands.specs.Orders.{TellsSearch, ShowsSearch, HasOrderFault}
use Rattle.ctrie.specs.Beneath.order_search.specs.declared.searching.Search.{Search}
use Rattle.ctrie.specs.Beneath.order_search.specs.declared.searching.Search.TheVariants as search
use Rattle.ctrie.specs.Beneath.script_commands.specs.Scripts.{IsReport, HasScriptFault}
use Rattle.ctrie_commands.specs.Threads.{IsThreadReport, HasThreadFault}
use Rattle.ctrie_words.specs.declared.arguments.Request.{Request}
use Rattle.ctrie_words.specs.declared.arguments.Request.TheVariants.{Check, Run, Threads, Explain, Draw, Order}
use Rattle.ctrie.specs.declared.outcomes.Outcome.{Outcome}
use Rattle.ctrie.specs.declared.outcomes.Outcome.TheVariants.{Done, Legal, NotLegal, Unknown}

-- the exit status: 0 for a script that was carried out and for a legal order, 3 for another order or where none is legal, 4 where that isn't known, else the fault's
abbrev pub exit_status_of : Result Outcome Fault → ℕ
exit_status_of (Ok Done) = 0
exit_status_of (Ok Legal) = 0
exit_status_of (Ok NotLegal) = 3
exit_status_of (Ok Unknown) = 4
exit_status_of (Err fault) = status_of fault

-- how the judgement of a history comes out, and the carrying out of a script
abbrev pub judged : Result Bool Fault → Result Outcome Fault
judged (Ok true) = Ok Legal
judged (Ok false) = Ok NotLegal
judged (Err fault) = Err fault

abbrev pub done : Result (Unit {0}) Fault → Result Outcome Fault
done (Ok nothing) = Ok Done
done (Err fault) = Err fault

-- how a search for an order comes out
abbrev pub sought : Result Search Fault → Result Outcome Fault
sought (Ok search.Found) = Ok Legal
sought (Ok search.NotThere) = Ok NotLegal
sought (Ok search.Spent) = Ok Unknown
sought (Err fault) = Err fault

-- What is asked for comes out so with this text, and these bytes tell of it: its verdict, its report, what explains its verdict, or its picture.
abbrev pub Tells : Request → List ℕ → Outcome → List ℕ → Type 0
Tells (Check path) text Legal bytes = IsVerdict text true × (bytes ≡ verdict_line true)
Tells (Check path) text NotLegal bytes = IsVerdict text false × (bytes ≡ verdict_line false)
Tells (Run path) text Done bytes = IsReport text bytes
Tells (Threads path) text Done bytes = IsThreadReport text bytes
Tells (Explain path) text Legal bytes = IsVerdict text true × IsExplanation text true bytes
Tells (Explain path) text NotLegal bytes = IsVerdict text false × IsExplanation text false bytes
Tells (Draw path) text Legal bytes = IsVerdict text true × IsPicture text true bytes
Tells (Draw path) text NotLegal bytes = IsVerdict text false × IsPicture text false bytes
Tells (Order path steps) text Legal bytes = TellsSearch text search.Found bytes
Tells (Order path steps) text NotLegal bytes = TellsSearch text search.NotThere bytes
Tells (Order path steps) text Unknown bytes = TellsSearch text search.Spent bytes
Tells request text outcome bytes = ⊥

-- these bytes tell this verdict on a history, in the form that is asked for, whatever the text
abbrev pub TellsLegality : Request → Bool → List ℕ → Type 0
TellsLegality (Check path) legal bytes = bytes ≡ verdict_line legal
TellsLegality (Explain path) legal bytes = ExplainsVerdict legal bytes
TellsLegality (Draw path) legal bytes = ShowsVerdict legal bytes
TellsLegality (Order path steps) true bytes = ShowsSearch search.Found bytes
TellsLegality (Order path steps) false bytes = ShowsSearch search.NotThere bytes
TellsLegality request legal bytes = ⊥

-- the first line with a fault is this one, with this fault
abbrev pub HasFault : Request → List ℕ → ℕ → Refusal → Type 0
HasFault (Check path) text number refusal = HasLineFault text number refusal
HasFault (Run path) text number refusal = HasScriptFault text number refusal
HasFault (Threads path) text number refusal = HasThreadFault text number refusal
HasFault (Explain path) text number refusal = HasLineFault text number refusal
HasFault (Draw path) text number refusal = HasLineFault text number refusal
HasFault (Order path steps) text number refusal = HasOrderFault text number refusal
