-- Words that stand for any number, for a handle and for an actor, and what is tested of them.
use Rattle.std.specs.Prelude.{ℕ, List, Bool, Result, Ok, Err, if◌then◌else◌}
use Rattle.ctrie_base.specs.declared.refusals.Refusal.{Refusal}
use Rattle.ctrie_base.specs.declared.refusals.Refusal.TheVariants.{BadLine}
use Rattle.text_lines.specs.Words.{number_word, largest}

abbrev pub value_word : List ℕ → Result ℕ Refusal
value_word word = number_word largest word

abbrev pub handle_word : List ℕ → Result ℕ Refusal
handle_word word = number_word 65535 word

abbrev pub actor_word : List ℕ → Result ℕ Refusal
actor_word word = number_word 255 word

-- what must stand the test, else it is a wrong line
abbrev pub passing : (ℕ → Bool) → Result ℕ Refusal → Result ℕ Refusal
passing test (Ok n) = if test n then Ok n else Err BadLine
passing test (Err e) = Err e
