-- A script for threads is a script, and its lines fit its header.
use Rattle.std.proofs.Common.{◌≡◌, ℕ, ◌+◌, ◌≤◌, Bool, true, false, cond, List, [], ◌∷◌, ◌++◌, map, length, refl, sym, ap, ◌∙◌, subst, Result, Ok, Err, arith}
use Rattle.std.specs.Prelude.{IfOk, ◌==◌, ◌||◌, nat_lt}
use Rattle.std.specs.List.{AllByRecursion}
use Rattle.std.proofs.lemmas.List.{map-append}
use borrow.Author.Tests.{ltb-false}
use Rattle.ctrie_base.specs.declared.refusals.Refusal.{Refusal}
use Rattle.ctrie_base.specs.declared.refusals.Refusal.TheVariants.{TooLong, BadHeader, BadLine, BadNumber}
use Rattle.text_lines.specs.declared.faults.Told.{Told}
use Rattle.text_lines.specs.Words.{words_of, made, ◌>>=◌}
use Rattle.text_lines.specs.Texts.{lines_of, is_ignored}
use Rattle.text_lines.specs.Reading.{line_after, read_lines, at_line, text_of}
use Rattle.text_lines.specs.Views.{Reads}
use Rattle.text_lines.proofs.Parts.{made_ok, bind_ok, ok_is}
use Rattle.history_text.specs.Lines.{header_of}
use Rattle.history.specs.declared.calls.Call.{Call}
use Rattle.script_text.specs.declared.commands.Command.{Command}
use Rattle.script_text.specs.declared.commands.Command.TheVariants as command
use Rattle.script_text.specs.Headers.{slots_of, actors_of}
use Rattle.script_text.specs.Commands.{command_of}
use Rattle.script_text.specs.Reading.{command_dialect, script_format, script_of}
use Rattle.script_text.specs.declared.thread_lines.ThreadLine.{ThreadLine}
use Rattle.script_text.specs.declared.thread_lines.ThreadLine.TheVariants.{Do, Sweep}
use Rattle.script_text.specs.declared.reading.Script.{Script}
use Rattle.script_text.specs.Threads.Lines.{at_most_63, thread_actors_of, is_for_threads, thread_line_from, thread_line_of}
use Rattle.script_text.specs.Scripts.{Progress, Start, Sized, Hashed, InLines, words_after, all_read}
use Rattle.script_text.specs.Threads.Reading.{Reading, thread_dialect, thread_format, thread_script_of}
use Rattle.script_text.specs.Threads.Grammar.{command_from, as_script, LineFits, FitsThreads, IsThreadSpelling}
use Rattle.script_text.specs.Views.{read}
use Rattle.script_text.proofs.Found.{spelled}
use Rattle.text_lines.proofs.Whole.{at_ok}

-- what the lines so far have said, as those of any script
abbrev pub as_progress : Progress ThreadLine → Progress Command
as_progress Start = Start
as_progress (Sized slots) = Sized slots
as_progress (Hashed slots hash) = Hashed slots hash
as_progress (InLines limits lines) = InLines limits (map command_from lines)

-- the lines so far fit the header
abbrev pub HasFit : Progress ThreadLine → Type 0
HasFit (InLines limits lines) = FitsThreads (record { limits = limits; lines = lines })
HasFit before = Unit {0}

-- ---- a line behind the header

within : (actors actor : ℕ) → ((actor == 0) || nat_lt actors actor) ≡ false → (1 ≤ actor) × (actor ≤ actors)
within actors actor e = (grind (arith, e), grind (arith, e))

do_found : (actors actor : ℕ) (call : Call) (bad : Bool) (line : ThreadLine) → ((actor == 0) || nat_lt actors actor) ≡ bad → cond bad (Err BadNumber) (Ok (Do actor call)) ≡ Ok line →
    (command.Do actor call ≡ command_from line) × LineFits actors line
do_found actors actor call true line bad e = absurd cc
do_found actors actor call false line bad e =
    let same : Do actor call ≡ line = ok_is (cond false (Err BadNumber) (Ok (Do actor call))) (Do actor call) line refl e in
    (ap command_from same, subst (λ l. LineFits actors l) same (within actors actor bad))

from_found : (actors : ℕ) (c : Command) (line : ThreadLine) → thread_line_from actors c ≡ Ok line → (c ≡ command_from line) × LineFits actors line
from_found actors (command.Do actor call) line e = do_found actors actor call ((actor == 0) || nat_lt actors actor) line refl e
from_found actors (command.Sweep times) line e =
    let same : Sweep times ≡ line = ok_is (thread_line_from actors (command.Sweep times)) (Sweep times) line refl e in (ap command_from same, subst (λ l. LineFits actors l) same tt)
from_found actors (command.Begin actor call) line e = absurd cc
from_found actors (command.Go actor times) line e = absurd cc
from_found actors (command.Until actor kind) line e = absurd cc
from_found actors (command.Finish actor) line e = absurd cc

named_found : (actors : ℕ) (is : Bool) (r : Result Command Refusal) (line : ThreadLine) → cond is (r >>= thread_line_from actors) (Err BadLine) ≡ Ok line →
    (r ≡ Ok (command_from line)) × LineFits actors line
named_found actors true r line e =
    let b = bind_ok r (λ c. thread_line_from actors c) line e in
    let f = from_found actors b.0 line b.2 in (b.1 ∙ ap (λ c. Ok c) f.0, f.1)
named_found actors false r line e = absurd cc

line_found : (actors : ℕ) (words : List (List ℕ)) (line : ThreadLine) → thread_line_of actors words ≡ Ok line → (command_of words ≡ Ok (command_from line)) × LineFits actors line
unfolding thread_line_of
line_found actors [] line e = absurd cc
line_found actors (name ∷ words) line e = named_found actors (is_for_threads name) (command_of (name ∷ words)) line e

-- ---- any line

few_found : (many : Bool) (m n : ℕ) → nat_lt 63 m ≡ many → cond many (Err BadHeader) (Ok m) ≡ Ok n → (m ≡ n) × (n ≤ 63)
few_found true m n is e = absurd cc
few_found false m n is e = let same : m ≡ n = ok_is (cond false (Err BadHeader) (Ok m)) m n refl e in let low = ltb-false 63 m is in (same, omega arith)

actors_found : (words : List (List ℕ)) (n : ℕ) → thread_actors_of words ≡ Ok n → (actors_of words ≡ Ok n) × (n ≤ 63)
actors_found words n e =
    let b = bind_ok (actors_of words) at_most_63 n e in
    let f = few_found (nat_lt 63 b.0) b.0 n refl b.2 in (b.1 ∙ ap (λ k. Ok k) f.0, f.1)

made_again : {A B E : Type 0} (f : A → B) (r : Result A E) (x : A) (y : B) → r ≡ Ok x → f x ≡ y → made f r ≡ Ok y
made_again f r x y e same = rw e (ap (λ z. Ok z) same)

fit_push : (P : ThreadLine → Type 0) (lines : List ThreadLine) (line : ThreadLine) → AllByRecursion P lines → P line → AllByRecursion P (lines ++ line ∷ [])
fit_push P [] line all last = (last, tt)
fit_push P (l ∷ lines) line (first, more) last = (first, fit_push P lines line more last)

words_found : (p r : Progress ThreadLine) (words : List (List ℕ)) → words_after thread_dialect p words ≡ Ok r → HasFit p
    → (words_after command_dialect (as_progress p) words ≡ Ok (as_progress r)) × HasFit r
unfolding words_after
words_found Start r words e fit =
    let m = made_ok Sized (slots_of words) r e in (made_again Sized (slots_of words) m.0 (as_progress r) m.1 (ap as_progress m.2), subst HasFit m.2 tt)
words_found (Sized slots) r words e fit =
    let m = made_ok (λ hash. Hashed slots hash) (header_of words) r e in
    (made_again (λ hash. Hashed slots hash) (header_of words) m.0 (as_progress r) m.1 (ap as_progress m.2), subst HasFit m.2 tt)
words_found (Hashed slots hash) r words e fit =
    let m = made_ok (λ actors. InLines (record { slots = slots; actors = actors; hash = hash }) []) (thread_actors_of words) r e in
    let a = actors_found words m.0 m.1 in (
      made_again (λ actors. InLines (record { slots = slots; actors = actors; hash = hash }) []) (actors_of words) m.0 (as_progress r) a.0 (ap as_progress m.2),
      subst HasFit m.2 (a.1, tt),
    )
words_found (InLines limits lines) r words e (few, fit) =
    let m = made_ok (λ line. InLines limits (lines ++ line ∷ [])) (thread_line_of limits.actors words) r e in
    let l = line_found limits.actors words m.0 m.1 in
    let same : InLines limits (map command_from lines ++ command_from m.0 ∷ []) ≡ as_progress r =
    ap (λ cs. InLines limits cs) (sym (map-append command_from lines (m.0 ∷ []))) ∙ ap as_progress m.2 in (
      made_again (λ c. InLines limits (map command_from lines ++ c ∷ [])) (command_of words) (command_from m.0) (as_progress r) l.0 same,
      subst HasFit m.2 (few, fit_push (LineFits limits.actors) lines m.0 fit l.1),
    )

-- ---- all lines

abbrev pub after : {P : Type 0} → Bool → Bool → P → Result P Refusal → Result P Refusal
after long ignored p words = cond long (Err TooLong) (cond ignored (Ok p) words)

step_found : (long ignored : Bool) (p r : Progress ThreadLine) (words : List (List ℕ)) → after long ignored p (words_after thread_dialect p words) ≡ Ok r → HasFit p →
    (after long ignored (as_progress p) (words_after command_dialect (as_progress p) words) ≡ Ok (as_progress r)) × HasFit r
step_found true ignored p r words e fit = absurd cc
step_found false true p r words e fit = let same : p ≡ r = ok_is (Ok p) p r refl e in (ap (λ q. Ok (as_progress q)) same, subst HasFit same fit)
step_found false false p r words e fit = words_found p r words e fit

line_after_found : (n : ℕ) (p r : Progress ThreadLine) (line : List ℕ) → line_after thread_format n p line ≡ Ok r → HasFit p →
    (line_after script_format n (as_progress p) line ≡ Ok (as_progress r)) × HasFit r
unfolding line_after
line_after_found n p r line e fit = step_found (nat_lt 100000 n) (is_ignored line) p r (words_of line) e fit

lines_found : (lines : List (List ℕ)) (n : ℕ) (p q : Progress ThreadLine) → read_lines thread_format n p lines ≡ Ok q → HasFit p →
    (read_lines script_format n (as_progress p) lines ≡ Ok (as_progress q)) × HasFit q
unfolding read_lines
lines_found [] n p q e fit = let same : p ≡ q = ok_is (Ok p) p q refl e in (ap (λ r. Ok (as_progress r)) same, subst HasFit same fit)
lines_found (line ∷ more) n p q e fit =
    let b = bind_ok (at_line n (line_after thread_format n p line)) (λ next. read_lines thread_format (n + 1) next more) q e in
    let f = line_after_found n p b.0 line (at_ok n (line_after thread_format n p line) b.0 b.1) fit in
    let rest = lines_found more (n + 1) b.0 q b.2 f.1 in (rw f.0 rest.0, rest.1)

end_found : (p : Progress ThreadLine) (n : ℕ) (reading : Reading) → at_line n (all_read p) ≡ Ok reading → HasFit p →
    (at_line n (all_read (as_progress p)) ≡ Ok (as_script reading)) × FitsThreads reading
end_found (InLines limits lines) n reading e fit =
    let is : Reading = record { limits = limits; lines = lines } in
    let same : is ≡ reading = ok_is (at_line n (all_read (InLines limits lines))) is reading refl e in (ap (λ r. Ok (as_script r)) same, subst FitsThreads same fit)
end_found Start n reading e fit = absurd cc
end_found (Sized slots) n reading e fit = absurd cc
end_found (Hashed slots hash) n reading e fit = absurd cc

pub script_found : (text : List ℕ) (reading : Reading) → thread_script_of text ≡ Ok reading → (script_of text ≡ Ok (as_script reading)) × FitsThreads reading
unfolding thread_script_of script_of text_of
script_found text reading e =
    let lines = lines_of text in
    let b = bind_ok (read_lines thread_format 1 Start lines) (λ end. at_line (length lines + 1) (all_read end)) reading e in
    let found = lines_found lines 1 Start b.0 b.1 tt in
    let last = end_found b.0 (length lines + 1) reading b.2 found.1 in (rw found.0 last.0, last.1)

pub is_found : (text : List ℕ) (r : Result (Script ThreadLine) Told) → Reads read r (thread_script_of text) → IfOk r (λ script. IsThreadSpelling text (read script))
is_found text (Ok script) e = let found = script_found text (read script) e in (spelled text (as_script (read script)) found.0, found.1)
is_found text (Err f) e = tt
