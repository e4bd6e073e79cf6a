-- Why a step is denied.
use Rattle.std.specs.Prelude.{Option, Some, None, Ok, Err}
use Rattle.script_commands.specs.Vocabulary.{Refusal, Answer}

abbrev pub denial_in : Answer → Option Refusal
denial_in (Ok done) = None
denial_in (Err refusal) = Some refusal
