-- A script whose lines are for threads and fit its header is read as one for threads.
use Rattle.std.proofs.Common.{◌≡◌, ℕ, ◌+◌, ◌≤◌, Bool, true, false, cond, List, [], ◌∷◌, ◌++◌, map, length, refl, sym, ap, ◌∙◌, subst, Result, Ok, Err, arith, append_assoc, append-nil}
use Rattle.std.specs.Prelude.{◌==◌, ◌||◌, nat_lt}
use Rattle.std.specs.List.{AllByRecursion}
use Rattle.std.proofs.lemmas.List.{map-append}
use Rattle.ctrie_base.specs.declared.refusals.Refusal.{Refusal}
use Rattle.ctrie_base.specs.declared.refusals.Refusal.TheVariants.{TooLong}
use Rattle.text_lines.specs.declared.faults.Told.{Told}
use Rattle.text_lines.specs.Words.{words_of, made}
use Rattle.text_lines.specs.Texts.{lines_of, is_ignored}
use Rattle.text_lines.specs.Reading.{line_after, read_lines, at_line, text_of}
use Rattle.text_lines.specs.Views.{Reads}
use Rattle.text_lines.proofs.Parts.{made_ok, bind_ok, ok_is}
use Rattle.history_text.specs.Lines.{header_of}
use Rattle.machine_model.specs.declared.steps.Limits.{Limits}
use Rattle.script_text.specs.declared.commands.Command.{Command}
use Rattle.script_text.specs.declared.commands.Command.TheVariants as command
use Rattle.script_text.specs.Headers.{slots_of, actors_of}
use Rattle.script_text.specs.Commands.{command_of}
use Rattle.script_text.specs.Reading as script
use Rattle.script_text.specs.Reading.{command_dialect, script_format, script_of}
use Rattle.script_text.specs.Grammar.{IsShort}
use Rattle.script_text.proofs.FoundCommands.{command_found, first_is}
use Rattle.script_text.proofs.Only.{read_again}
use Rattle.script_text.specs.declared.thread_lines.ThreadLine.{ThreadLine}
use Rattle.script_text.specs.declared.thread_lines.ThreadLine.TheVariants.{Do, Sweep}
use Rattle.script_text.specs.declared.reading.Script.{Script}
use Rattle.script_text.specs.Threads.Lines.{at_most_63, thread_actors_of, is_for_threads, thread_line_from, thread_line_of}
use Rattle.script_text.specs.Scripts.{Progress, Start, Sized, Hashed, InLines, words_after, all_read}
use Rattle.script_text.specs.Threads.Reading.{Reading, thread_dialect, thread_format, thread_script_of}
use Rattle.script_text.specs.Threads.Grammar.{command_from, as_script, LineFits, FitsThreads, IsThreadSpelling}
use Rattle.script_text.specs.Views.{read}
use Rattle.script_text.proofs.Threads.Found.{as_progress}
use Rattle.text_lines.proofs.Whole.{at_ok}

-- ---- a line behind the header

from_again : (actors : ℕ) (line : ThreadLine) → LineFits actors line → thread_line_from actors (command_from line) ≡ Ok line
from_again actors (Do actor call) (low, high) =
    let fits : ((actor == 0) || nat_lt actors actor) ≡ false = grind (arith, low, high) in rw fits refl
from_again actors (Sweep times) fits = refl

named_again : (name : List ℕ) (words : List (List ℕ)) (line : ThreadLine) → command_of (name ∷ words) ≡ Ok (command_from line) → is_for_threads name ≡ true
named_again name words (Do actor call) e =
    let text = (command_found (name ∷ words) (command.Do actor call) e).text in ap is_for_threads (first_is name _ words _ text)
named_again name words (Sweep times) e =
    let text = (command_found (name ∷ words) (command.Sweep times) e).text in ap is_for_threads (first_is name _ words _ text)

line_again : (actors : ℕ) (words : List (List ℕ)) (line : ThreadLine) → command_of words ≡ Ok (command_from line) → LineFits actors line → thread_line_of actors words ≡ Ok line
unfolding thread_line_of command_of
line_again actors [] line e fits = absurd cc
line_again actors (name ∷ words) line e fits = rw (named_again name words line e, e) (from_again actors line fits)

few_again : (m : ℕ) → m ≤ 63 → at_most_63 m ≡ Ok m
few_again m low = let few : nat_lt 63 m ≡ false = grind (arith, low) in rw few refl

actors_again : (words : List (List ℕ)) (n : ℕ) → actors_of words ≡ Ok n → n ≤ 63 → thread_actors_of words ≡ Ok n
actors_again words n e low = rw e (few_again n low)

-- ---- the commands of a script, in which none is lost

-- how one line changes what was read
cases_after : {P : Type 0} (long ignored : Bool) (p r : P) (words : Result P Refusal) (Q : Type 0) → cond long (Err TooLong) (cond ignored (Ok p) words) ≡ Ok r →
    (ignored ≡ true → p ≡ r → Q) → (ignored ≡ false → words ≡ Ok r → Q) → Q
cases_after true ignored p r words Q e same said = absurd cc
cases_after false true p r words Q e same said = same refl (ok_is (Ok p) p r refl e)
cases_after false false p r words Q e same said = said refl e

abbrev Grows : Limits → List Command → script.Reading → Type 0
Grows limits commands s = (s.limits ≡ limits) × (later : List Command) × (s.lines ≡ commands ++ later)

grows : (lines : List (List ℕ)) (n : ℕ) (limits : Limits) (commands : List Command) (e : Progress Command) (s : script.Reading) →
    read_lines script_format n (InLines limits commands) lines ≡ Ok e → all_read e ≡ Ok s → Grows limits commands s
unfolding read_lines line_after words_after
grows [] n limits commands e s read done =
    let is : script.Reading = record { limits = limits; lines = commands } in
    let end : InLines limits commands ≡ e = ok_is (Ok (InLines limits commands)) (InLines limits commands) e refl read in
    let same : is ≡ s = ok_is (all_read (InLines limits commands)) is s refl (ap all_read end ∙ done) in
    (ap (λ (r : script.Reading). r.limits) (sym same), [], ap (λ (r : script.Reading). r.lines) (sym same) ∙ sym (append-nil commands))
grows (line ∷ more) n limits commands e s read done =
    let before = InLines limits commands in
    let b = bind_ok (at_line n (line_after script_format n before line)) (λ next. read_lines script_format (n + 1) next more) e read in
    cases_after (nat_lt 100000 n) (is_ignored line) before b.0 (words_after command_dialect before (words_of line)) (Grows limits commands s) (at_ok n (line_after script_format n before line) b.0 b.1)
    (λ ignored same. grows more (n + 1) limits commands e s (subst (λ (p : Progress Command). read_lines script_format (n + 1) p more ≡ Ok e) (sym same) b.2) done)
    (λ said words.
    let m = made_ok (λ c. InLines limits (commands ++ c ∷ [])) (command_of (words_of line)) b.0 words in
    let rest = grows more (n + 1) limits (commands ++ m.0 ∷ []) e s (subst (λ (p : Progress Command). read_lines script_format (n + 1) p more ≡ Ok e) (sym m.2) b.2) done in
    (rest.0, m.0 ∷ rest.1, rest.2 ∙ append_assoc commands (m.0 ∷ []) rest.1))

-- ---- which line for threads a command is

pick : (P : ThreadLine → Type 0) (all so_far : List ThreadLine) (c : Command) (later : List Command) → map command_from all ≡ map command_from so_far ++ c ∷ later →
    AllByRecursion P all → (line : ThreadLine) × (command_from line ≡ c) × P line
pick P [] [] c later e fits = absurd cc
pick P [] (l ∷ so_far) c later e fits = absurd cc
pick P (x ∷ all) [] c later e (first, more) = (x, cc, first)
pick P (x ∷ all) (l ∷ so_far) c later e (first, more) = pick P all so_far c later (cc) more

same_line : (a b : ThreadLine) → command_from a ≡ command_from b → a ≡ b
same_line (Do actor call) (Do other more) e = cc
same_line (Do actor call) (Sweep times) e = absurd cc
same_line (Sweep times) (Do actor call) e = absurd cc
same_line (Sweep times) (Sweep other) e = cc

same_lines : (xs ys : List ThreadLine) → map command_from xs ≡ map command_from ys → xs ≡ ys
same_lines [] [] e = refl
same_lines [] (b ∷ ys) e = absurd cc
same_lines (a ∷ xs) [] e = absurd cc
same_lines (a ∷ xs) (b ∷ ys) e =
    let first = same_line a b cc in
    let more = same_lines xs ys cc in cc

-- ---- any line

-- what is still to be read
abbrev Ahead : Progress Command → Reading → Type 0
Ahead (InLines limits commands) reading = Grows limits commands (as_script reading)
Ahead before reading = Unit {0}

ahead : (lines : List (List ℕ)) (n : ℕ) (p e : Progress Command) (reading : Reading) → read_lines script_format n p lines ≡ Ok e → all_read e ≡ Ok (as_script reading) → Ahead p reading
ahead lines n (InLines limits commands) e reading read done = grows lines n limits commands e (as_script reading) read done
ahead lines n Start e reading read done = tt
ahead lines n (Sized slots) e reading read done = tt
ahead lines n (Hashed slots hash) e reading read done = tt

-- the line leads to what is read, of threads too
abbrev IsNext : Progress ThreadLine → List (List ℕ) → Progress Command → Type 0
IsNext p words b = (r : Progress ThreadLine) × (words_after thread_dialect p words ≡ Ok r) × (as_progress r ≡ b)

made_so : {A B E : Type 0} (f : A → B) (r : Result A E) (x : A) → r ≡ Ok x → made f r ≡ Ok (f x)
made_so f r x e = rw e refl

words_again : (p : Progress ThreadLine) (words : List (List ℕ)) (b : Progress Command) (reading : Reading) → words_after command_dialect (as_progress p) words ≡ Ok b → Ahead b reading
    → FitsThreads reading → IsNext p words b
unfolding words_after
words_again Start words b reading e more fits = let m = made_ok Sized (slots_of words) b e in (Sized m.0, made_so Sized (slots_of words) m.0 m.1, m.2)
words_again (Sized slots) words b reading e more fits =
    let m = made_ok (λ hash. Hashed slots hash) (header_of words) b e in (Hashed slots m.0, made_so (λ hash. Hashed slots hash) (header_of words) m.0 m.1, m.2)
words_again (Hashed slots hash) words b reading e more fits =
    let m = made_ok (λ actors. InLines (record { slots = slots; actors = actors; hash = hash }) []) (actors_of words) b e in
    let grown = subst (λ (p : Progress Command). Ahead p reading) (sym m.2) more in
    let few : m.0 ≤ 63 = subst (λ (l : Limits). l.actors ≤ 63) grown.0 fits.0 in (
      InLines (record { slots = slots; actors = m.0; hash = hash }) [],
      made_so (λ actors. InLines (record { slots = slots; actors = actors; hash = hash }) []) (thread_actors_of words) m.0 (actors_again words m.0 m.1 few),
      m.2,
    )
words_again (InLines limits lines) words b reading e more fits =
    let m = made_ok (λ c. InLines limits (map command_from lines ++ c ∷ [])) (command_of words) b e in
    let grown = subst (λ (p : Progress Command). Ahead p reading) (sym m.2) more in
    let is = pick (LineFits reading.limits.actors) reading.lines lines m.0 grown.1 (grown.2 ∙ append_assoc (map command_from lines) (m.0 ∷ []) grown.1) fits.1 in
    let fit : LineFits limits.actors is.0 = subst (λ (l : Limits). LineFits l.actors is.0) grown.0 is.2 in
    let said : command_of words ≡ Ok (command_from is.0) = m.1 ∙ ap (λ c. Ok c) (sym is.1) in (
      InLines limits (lines ++ is.0 ∷ []),
      made_so (λ line. InLines limits (lines ++ line ∷ [])) (thread_line_of limits.actors words) is.0 (line_again limits.actors words is.0 said fit),
      ap (λ cs. InLines limits cs) (map-append command_from lines (is.0 ∷ []) ∙ ap (λ c. map command_from lines ++ c ∷ []) is.1) ∙ m.2,
    )

-- ---- all lines

abbrev IsLast : Progress ThreadLine → ℕ → List (List ℕ) → Reading → Type 0
IsLast p n lines reading = (q : Progress ThreadLine) × (read_lines thread_format n p lines ≡ Ok q) × (all_read q ≡ Ok reading)

end_again : (p : Progress ThreadLine) (reading : Reading) → all_read (as_progress p) ≡ Ok (as_script reading) → all_read p ≡ Ok reading
end_again (InLines limits lines) reading e =
    let whole : script.Reading = record { limits = limits; lines = map command_from lines } in
    let same : whole ≡ as_script reading = ok_is (all_read (as_progress (InLines limits lines))) whole (as_script reading) refl e in
    let sizes : limits ≡ reading.limits = ap (λ (r : script.Reading). r.limits) same in
    let all : lines ≡ reading.lines = same_lines lines reading.lines (ap (λ (r : script.Reading). r.lines) same) in
    ap (λ (l : Limits). Ok (record { limits = l; lines = lines })) sizes ∙ ap (λ ls. Ok (record { limits = reading.limits; lines = ls })) all
end_again Start reading e = absurd cc
end_again (Sized slots) reading e = absurd cc
end_again (Hashed slots hash) reading e = absurd cc

step_again : (long ignored : Bool) (p : Progress ThreadLine) (b : Progress Command) (words : List (List ℕ)) (reading : Reading) →
    cond long (Err TooLong) (cond ignored (Ok (as_progress p)) (words_after command_dialect (as_progress p) words)) ≡ Ok b → Ahead b reading → FitsThreads reading →
    (r : Progress ThreadLine) × (cond long (Err TooLong) (cond ignored (Ok p) (words_after thread_dialect p words)) ≡ Ok r) × (as_progress r ≡ b)
step_again true ignored p b words reading e more fits = absurd cc
step_again false true p b words reading e more fits = (p, refl, ok_is (Ok (as_progress p)) (as_progress p) b refl e)
step_again false false p b words reading e more fits = words_again p words b reading e more fits

lines_again : (lines : List (List ℕ)) (n : ℕ) (p : Progress ThreadLine) (e : Progress Command) (reading : Reading) → read_lines script_format n (as_progress p) lines ≡ Ok e →
    all_read e ≡ Ok (as_script reading) → FitsThreads reading → IsLast p n lines reading
unfolding read_lines line_after
lines_again [] n p e reading is done fits = (p, refl, end_again p reading (ap all_read (ok_is (Ok (as_progress p)) (as_progress p) e refl is) ∙ done))
lines_again (line ∷ more) n p e reading is done fits =
    let before = as_progress p in
    let b = bind_ok (at_line n (line_after script_format n before line)) (λ next. read_lines script_format (n + 1) next more) e is in
    let further = ahead more (n + 1) b.0 e reading b.2 done in
    let step = at_ok n (line_after script_format n before line) b.0 b.1 in
    let next = step_again (nat_lt 100000 n) (is_ignored line) p b.0 (words_of line) reading step further fits in
    let rest = lines_again more (n + 1) next.0 e reading (subst (λ (s : Progress Command). read_lines script_format (n + 1) s more ≡ Ok e) (sym next.2) b.2) done fits in
    (rest.0, rw next.1 rest.1, rest.2)

script_again : (text : List ℕ) (reading : Reading) → script_of text ≡ Ok (as_script reading) → FitsThreads reading → thread_script_of text ≡ Ok reading
unfolding thread_script_of script_of text_of
script_again text reading e fits =
    let lines = lines_of text in
    let b = bind_ok (read_lines script_format 1 Start lines) (λ end. at_line (length lines + 1) (all_read end)) (as_script reading) e in
    let last = lines_again lines 1 Start b.0 reading b.1 (at_ok (length lines + 1) (all_read b.0) (as_script reading) b.2) fits in
    rw (last.1, last.2) refl

pub only_so : (text : List ℕ) (r : Result (Script ThreadLine) Told) → Reads read r (thread_script_of text) → (reading : Reading) → IsThreadSpelling text reading → IsShort text →
    Reads read r (Ok reading)
only_so text r reads reading (spelling, fits) short = subst (λ wanted. Reads read r wanted) (script_again text reading (read_again text (as_script reading) spelling short) fits) reads
