-- What contracts see of what is read.
use Rattle.std.specs.Prelude.{◌≡◌, ℕ, Result, Ok, Err}
use Rattle.ctrie_base.specs.declared.refusals.Refusal.{Refusal}
use Rattle.ctrie_base.specs.declared.refusals.Refusal.TheVariants as refused
use Rattle.text_lines.specs.declared.faults.Told.{Told}
use Rattle.text_lines.specs.declared.faults.Told.TheVariants.{Line, Memory}
use Rattle.text_lines.specs.Reading.{LineFault}

-- the fault that is told is that of the text; anything may be answered as Memory
abbrev pub Tells : {A : Type 0} → Told → Result A LineFault → Type 0
Tells (Line number refusal) wanted = wanted ≡ Err (record { line = number; refusal = refusal })
Tells Memory wanted = Unit {0}

-- the answer, as contracts see it, is what the text says
abbrev pub Reads : {G A : Type 0} → (G → A) → Result G Told → Result A LineFault → Type 0
Reads seen (Ok given) wanted = wanted ≡ Ok (seen given)
Reads seen (Err told) wanted = Tells told wanted

-- a refusal at this line, as it is told
abbrev pub told_at : ℕ → Refusal → Told
told_at number refused.Memory = Memory
told_at number refusal = Line number refusal
