-- What the program's words ask for.
use Rattle.std.specs.Prelude.{◌≡◌, ℕ, Bool, true, List, Option, Some, None, Result, Ok, Err, codes, if◌then◌else◌, option_and_then, alloc_error}
use Rattle.std.specs.Str.{bytes_eq}
use Rattle.std.specs.declared.alloc.AllocError.{AllocError}
use denote.Ref.{Bor}
use Rattle.text_lines.specs.Words.{number_of, largest}
use Rattle.clap.specs.Simple.{on_top}
use Rattle.clap.specs.Walk.{is_empty}
use Rattle.clap.specs.Words.{App, Row, Rule, Text, fault_of, first_of, new_app, new_rule, subcommand_of, with_rule, with_subcommand}
use Rattle.clap.specs.declared.builder.action.ArgAction.TheVariants.{Set}
use Rattle.clap.specs.declared.builder.command.Command.{Command}
use Rattle.clap.specs.declared.builder.command.Command.TheViews.{out-Command as fields_of}
use Rattle.clap.specs.declared.error.kind.ErrorKind.{ErrorKind}
use Rattle.clap.specs.declared.error.kind.ErrorKind.TheVariants as kind
use Rattle.ctrie_words.specs.declared.arguments.Request.{Request}
use Rattle.ctrie_words.specs.declared.arguments.Request.TheVariants.{Check, Run, Threads, Explain, Draw, Order}

-- what is told of words by such an error: that they ask for nothing, unless memory was wanting
abbrev pub nothing_for : ErrorKind → Result (Option Request) AllocError
nothing_for kind.OutOfMemory = Err alloc_error
nothing_for other = Ok None

-- the file that is asked for
abbrev pub path_of : Request → Bor Text
path_of (Check path) = path
path_of (Run path) = path
path_of (Threads path) = path
path_of (Explain path) = path
path_of (Draw path) = path
path_of (Order path steps) = path

-- the one file that a subcommand wants
abbrev pub file_rule : Rule
file_rule = record (new_rule (codes "FILE")) { required = true; action = Some Set }

-- a subcommand of this name, which wants one file
abbrev pub wants_file : Text → App
wants_file name = with_rule (new_app name) file_rule

-- the number of steps that a subcommand wants
abbrev pub steps_rule : Rule
steps_rule = record (new_rule (codes "STEPS")) { required = true; action = Some Set }

-- the subcommand that wants a number of steps and a file
abbrev pub wants_steps : Text → App
wants_steps name = with_rule (with_rule (new_app name) steps_rule) file_rule

-- whether an argument of the command is one of its subcommands too
abbrev pub has_globals : Command → Bool
has_globals command = (fields_of command).has_globals

-- the program's command: a subcommand is wanted, and a file behind it
unfoldable pub program : App
program =
    with_subcommand
    (with_subcommand
    (with_subcommand
    (with_subcommand
    (with_subcommand
    (with_subcommand (on_top (λ s. record s { subcommand_required = true }) (new_app (codes "ctrie"))) (wants_file (codes "run")).top)
    (wants_file (codes "threads")).top)
    (wants_file (codes "check")).top)
    (wants_file (codes "explain")).top)
    (wants_file (codes "draw")).top)
    (wants_steps (codes "order")).top

-- the file behind the subcommand with this name, if it is the one that was met
abbrev pub file_of : Text → Option (Text × List Row) → Option Text
file_of name subcommand = option_and_then (λ s. if bytes_eq s.0 name then first_of (codes "FILE") s.1 else None) subcommand

-- the file and the number of steps behind `order`, if it is the subcommand that was met and such a number stands there
abbrev pub steps_in : Option Text → Option ℕ
steps_in word = option_and_then (λ w. number_of largest w) word

abbrev pub both_of : Option Text → Option ℕ → Option (Text × ℕ)
both_of file steps = option_and_then (λ f. option_and_then (λ n. Some (f, n)) steps) file

abbrev pub order_of : Option (Text × List Row) → Option (Text × ℕ)
order_of subcommand =
    option_and_then (λ s. if bytes_eq s.0 (codes "order") then both_of (first_of (codes "FILE") s.1) (steps_in (first_of (codes "STEPS") s.1)) else None) subcommand

-- whether the command takes the words
unfoldable pub takes : List Text → Bool
takes words = is_empty (fault_of program words)

-- the subcommand that the words name, with what stands behind it
unfoldable pub met : List Text → Option (Text × List Row)
met words = subcommand_of program words

-- the file that the words name behind this subcommand
abbrev pub asked_file : Text → List Text → Option Text
asked_file name words = if takes words then file_of name (met words) else None

-- the file and the number of steps that the words name behind `order`
abbrev pub asked_order : List Text → Option (Text × ℕ)
asked_order words = if takes words then order_of (met words) else None

-- none of the commands has a file by this reading of the words
abbrev pub HasNone : (Text → Option Text) → Type 0
HasNone file =
    (file (codes "check") ≡ None) × (file (codes "run") ≡ None) × (file (codes "threads") ≡ None) × (file (codes "explain") ≡ None) × (file (codes "draw") ≡ None)

-- the request is what the words ask for, or they ask for nothing
abbrev pub Asks : List Text → Option Request → Type 0
Asks words (Some (Check path)) = asked_file (codes "check") words ≡ Some path.now
Asks words (Some (Run path)) = asked_file (codes "run") words ≡ Some path.now
Asks words (Some (Threads path)) = asked_file (codes "threads") words ≡ Some path.now
Asks words (Some (Explain path)) = asked_file (codes "explain") words ≡ Some path.now
Asks words (Some (Draw path)) = asked_file (codes "draw") words ≡ Some path.now
Asks words (Some (Order path steps)) = asked_order words ≡ Some (path.now, steps)
Asks words None = HasNone (λ name. asked_file name words) × (asked_order words ≡ None)

-- the request is what the subcommand that was met asks for
abbrev pub IsMatched : Option (Text × List Row) → Option Request → Type 0
IsMatched subcommand (Some (Check path)) = file_of (codes "check") subcommand ≡ Some path.now
IsMatched subcommand (Some (Run path)) = file_of (codes "run") subcommand ≡ Some path.now
IsMatched subcommand (Some (Threads path)) = file_of (codes "threads") subcommand ≡ Some path.now
IsMatched subcommand (Some (Explain path)) = file_of (codes "explain") subcommand ≡ Some path.now
IsMatched subcommand (Some (Draw path)) = file_of (codes "draw") subcommand ≡ Some path.now
IsMatched subcommand (Some (Order path steps)) = order_of subcommand ≡ Some (path.now, steps)
IsMatched subcommand None = HasNone (λ name. file_of name subcommand) × (order_of subcommand ≡ None)
