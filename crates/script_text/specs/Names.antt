-- The words by which commands and kinds of steps are named.
use Rattle.std.specs.Prelude.{ℕ, List, [], ◌∷◌, Option, codes}
use Rattle.ctrie_base.specs.declared.kinds.Kind.{Kind}
use Rattle.ctrie_base.specs.declared.kinds.Kind.TheVariants.{ReadRoot, SwapRoot, ReadMain, SwapMain, ReadPrev, SwapPrev, Look, Make, End}
use Rattle.ctrie_base.specs.Kinds.{name_of}
use Rattle.text_lines.specs.Words.{named}
use Rattle.script_text.specs.declared.names.CommandName.{CommandName}
use Rattle.script_text.specs.declared.names.CommandName.TheVariants as command

abbrev pub command_name : CommandName → List ℕ
command_name command.Actor = codes "actor"
command_name command.Go = codes "go"
command_name command.Until = codes "until"
command_name command.Finish = codes "finish"
command_name command.Do = codes "do"
command_name command.Sweep = codes "sweep"

abbrev pub command_names : List CommandName
command_names = command.Actor ∷ command.Go ∷ command.Until ∷ command.Finish ∷ command.Do ∷ command.Sweep ∷ []

-- the kinds of the steps of an operation
abbrev pub operation_kinds : List Kind
operation_kinds = ReadRoot ∷ SwapRoot ∷ ReadMain ∷ SwapMain ∷ ReadPrev ∷ SwapPrev ∷ Look ∷ Make ∷ End ∷ []

-- the command, the kind that is named so

unfoldable pub command_named : List ℕ → Option CommandName
command_named word = named command_name command_names word

unfoldable pub kind_named : List ℕ → Option Kind
kind_named word = named name_of operation_kinds word
