-- What the words of a line behind the header say.
use Rattle.std.specs.Prelude.{ℕ, List, [], ◌∷◌, Option, Some, None, Result, Ok, Err, if◌then◌else◌}
use Rattle.ctrie_base.specs.declared.kinds.Kind.{Kind}
use Rattle.ctrie_base.specs.declared.refusals.Refusal.{Refusal}
use Rattle.ctrie_base.specs.declared.refusals.Refusal.TheVariants.{BadLine}
use Rattle.history.specs.declared.calls.Call.{Call}
use Rattle.history.specs.declared.calls.Call.TheVariants as call
use Rattle.history_text.specs.declared.names.CallName.{CallName}
use Rattle.history_text.specs.declared.names.CallName.TheVariants as name
use Rattle.history_text.specs.Names.{call_named}
use Rattle.history_text.specs.Lines.{call_of, opens}
use Rattle.text_lines.specs.Words.{number_from, both, made}
use Rattle.history_text.specs.Words.{actor_word, handle_word}
use Rattle.script_text.specs.declared.commands.Command.{Command}
use Rattle.script_text.specs.declared.commands.Command.TheVariants.{Begin, Go, Until, Finish, Do, Sweep}
use Rattle.script_text.specs.declared.names.CommandName.{CommandName}
use Rattle.script_text.specs.declared.names.CommandName.TheVariants as command
use Rattle.script_text.specs.Names.{command_named, kind_named}

-- Calls. They are those of a history, but a snapshot and a freeze name no handle to open.

abbrev pub opening : Option CallName → ℕ → Call
opening (Some name.Snapshot) handle = call.Snapshot handle
opening other handle = call.Freeze handle

unfoldable pub opening_call : Option CallName → List (List ℕ) → Result Call Refusal
opening_call name (handle ∷ []) = made (opening name) (handle_word handle)
opening_call name other = Err BadLine

unfoldable pub script_call : List (List ℕ) → Result Call Refusal
script_call [] = Err BadLine
script_call (name ∷ more) = if opens (call_named name) then opening_call (call_named name) more else made (λ said. said.0) (call_of (name ∷ more))

-- Words that must say how often, and name a kind.

abbrev pub times_word : List ℕ → Result ℕ Refusal
times_word word = number_from 1 1000000 word

abbrev pub kind_wanted : Option Kind → Result Kind Refusal
kind_wanted None = Err BadLine
kind_wanted (Some kind) = Ok kind

abbrev pub kind_word : List ℕ → Result Kind Refusal
kind_word word = kind_wanted (kind_named word)

-- The words behind the name of a command.

unfoldable pub begin_of : List (List ℕ) → Result Command Refusal
begin_of (actor ∷ words) = made (λ x. Begin x.0 x.1) (both (actor_word actor) (script_call words))
begin_of other = Err BadLine

unfoldable pub do_of : List (List ℕ) → Result Command Refusal
do_of (actor ∷ words) = made (λ x. Do x.0 x.1) (both (actor_word actor) (script_call words))
do_of other = Err BadLine

unfoldable pub go_of : List (List ℕ) → Result Command Refusal
go_of (actor ∷ times ∷ []) = made (λ x. Go x.0 x.1) (both (actor_word actor) (times_word times))
go_of other = Err BadLine

unfoldable pub until_of : List (List ℕ) → Result Command Refusal
until_of (actor ∷ kind ∷ []) = made (λ x. Until x.0 x.1) (both (actor_word actor) (kind_word kind))
until_of other = Err BadLine

unfoldable pub finish_of : List (List ℕ) → Result Command Refusal
finish_of (actor ∷ []) = made Finish (actor_word actor)
finish_of other = Err BadLine

unfoldable pub sweep_of : List (List ℕ) → Result Command Refusal
sweep_of (times ∷ []) = made Sweep (times_word times)
sweep_of other = Err BadLine

abbrev pub named_command : Option CommandName → List (List ℕ) → Result Command Refusal
named_command (Some command.Actor) words = begin_of words
named_command (Some command.Go) words = go_of words
named_command (Some command.Until) words = until_of words
named_command (Some command.Finish) words = finish_of words
named_command (Some command.Do) words = do_of words
named_command (Some command.Sweep) words = sweep_of words
named_command None words = Err BadLine

-- what the words of a line say
unfoldable pub command_of : List (List ℕ) → Result Command Refusal
command_of [] = Err BadLine
command_of (name ∷ words) = named_command (command_named name) words
