-- Reading a script of any kind from its lines: what each says after those before it, and the first fault.
use Rattle.std.specs.Prelude.{ℕ, ◌++◌, List, [], ◌∷◌, Result, Ok, Err}
use Rattle.ctrie_base.specs.declared.refusals.Refusal.{Refusal}
use Rattle.ctrie_base.specs.declared.refusals.Refusal.TheVariants.{BadHeader}
use Rattle.ctrie_base.specs.declared.hashes.HashKind.{HashKind}
use Rattle.text_lines.specs.Words.{made}
use Rattle.text_lines.specs.Reading.{Format}
use Rattle.history_text.specs.Lines.{header_of}
use Rattle.machine_model.specs.declared.steps.Limits.{Limits}
use Rattle.script_text.specs.Headers.{slots_of}

-- A kind of script: what the words of the line of the actors say, and those of a line behind the header, to so many actors.
pub record Dialect (L : Type 0) : Type 0 where
  pub actors_of : List (List ℕ) → Result ℕ Refusal
  pub line_of : ℕ → List (List ℕ) → Result L Refusal

-- a script, as it is read
pub record ScriptOf (L : Type 0) : Type 0 where
  pub limits : Limits
  pub lines : List L

-- what the lines so far have said
pub data Progress (L : Type 0) : Type 0 where
  Start : Progress L
  Sized : ℕ → Progress L
  Hashed : ℕ → HashKind → Progress L
  InLines : Limits → List L → Progress L

-- what the words of a line that isn't ignored say after what was read before
unfoldable pub words_after : {L : Type 0} → Dialect L → Progress L → List (List ℕ) → Result (Progress L) Refusal
words_after dialect Start words = made Sized (slots_of words)
words_after dialect (Sized slots) words = made (λ hash. Hashed slots hash) (header_of words)
words_after dialect (Hashed slots hash) words = made (λ actors. InLines (record { slots = slots; actors = actors; hash = hash }) []) (dialect.actors_of words)
words_after dialect (InLines limits lines) words = made (λ line. InLines limits (lines ++ line ∷ [])) (dialect.line_of limits.actors words)

-- a missing line is told at the line after the last
abbrev pub all_read : {L : Type 0} → Progress L → Result (ScriptOf L) Refusal
all_read (InLines limits lines) = Ok (record { limits = limits; lines = lines })
all_read before = Err BadHeader

-- how scripts of a kind are read, of at most 100,000 lines
abbrev pub format_of : {L : Type 0} → Dialect L → Format (Progress L) (ScriptOf L)
format_of dialect = record { most_lines = 100000; start = Start; words_after = words_after dialect; all_read = all_read }
