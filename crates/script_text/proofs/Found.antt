-- A text that is read spells the script.
use Rattle.std.proofs.Common.{◌≡◌, ℕ, ◌≤◌, Bool, true, false, cond, List, [], ◌∷◌, ◌++◌, refl, sym, ap, ◌∙◌, subst, append_assoc, Result, Ok, Err}
use Rattle.std.specs.Prelude.{codes, map, IfOk}
use Rattle.std.specs.List.{AllByRecursion}
use Rattle.std.specs.Fmt.{decimal}
use Rattle.std.specs.Str.{bytes_eq}
use Rattle.std.proofs.lemmas.List.{append-nil}
use Rattle.std.proofs.lemmas.Slice.Eq.{bytes_eq-Decides}
use Rattle.ctrie_base.specs.declared.hashes.HashKind.{HashKind}
use Rattle.ctrie_base.specs.declared.refusals.Refusal.{Refusal}
use Rattle.ctrie_base.specs.declared.refusals.Refusal.TheVariants.{BadHeader}
use Rattle.ctrie_base.specs.Hashes as hashes
use Rattle.text_lines.specs.declared.faults.Told.{Told}
use Rattle.text_lines.specs.Words.{words_of, spaced, number_from}
use Rattle.text_lines.specs.Texts.{said_lines}
use Rattle.text_lines.specs.Views.{Reads}
use Rattle.text_lines.proofs.Parts.{made_ok, range_is, ok_is}
use Rattle.text_lines.proofs.Whole.{Leads, text_leads}
use Rattle.history_text.specs.Lines.{header_of}
use Rattle.history_text.proofs.FoundReplies.{header_found, cons_same}
use Rattle.machine_model.specs.declared.steps.Limits.{Limits}
use Rattle.machine_model.specs.Limits.{AreLimits}
use Rattle.script_text.specs.declared.commands.Command.{Command}
use Rattle.script_text.specs.declared.reading.Script.{Script}
use Rattle.script_text.specs.Headers.{header_value, header_number, slots_of, actors_of}
use Rattle.script_text.specs.Commands.{command_of}
use Rattle.script_text.specs.Scripts.{Progress, Start, Sized, Hashed, InLines, words_after, all_read}
use Rattle.script_text.specs.Reading.{Reading, script_format, script_of}
use Rattle.script_text.specs.Views.{read}
use Rattle.script_text.specs.Grammar.{command_words, script_lines, CommandFits, IsSpelling}
use Rattle.script_text.proofs.FoundCommands.{command_found, two}
use Rattle.history_text.proofs.FoundLines.{line_of}

-- The commands.

abbrev SaysCommands : List (List ℕ) → Limits → List Command → Reading → Type 0
SaysCommands lines limits so_far script =
    (script.limits ≡ limits) × ((later : List Command) × (script.lines ≡ so_far ++ later) × (lines ≡ map spaced (map command_words later)) × AllByRecursion CommandFits later)

in_commands : (lines : List (List ℕ)) (limits : Limits) (so_far : List Command) (end : Progress Command) (script : Reading)
    → Leads script_format (InLines limits so_far) lines end → all_read end ≡ Ok script → SaysCommands lines limits so_far script
unfolding words_after
in_commands [] limits so_far end script leads done =
    let same : ◌≡◌ {A = Reading} (record { limits = limits; lines = so_far }) script = ok_is (all_read end) (record { limits = limits; lines = so_far }) script (ap all_read (sym leads)) done in
    (ap (λ (r : Reading). r.limits) (sym same), ([], ap (λ (r : Reading). r.lines) (sym same) ∙ sym (append-nil so_far), refl, tt))
in_commands (l ∷ more) limits so_far end script leads done =
    let m = made_ok (λ command. InLines limits (so_far ++ command ∷ [])) (command_of (words_of l)) leads.0 leads.1 in
    let says = command_found (words_of l) m.0 m.1 in
    let rest = in_commands more limits (so_far ++ m.0 ∷ []) end script (subst (λ (p : Progress Command). Leads script_format p more end) (sym m.2) leads.2) done in (
      rest.0,
      (
        m.0 ∷ rest.1.0,
        rest.1.1 ∙ append_assoc so_far (m.0 ∷ []) rest.1.0,
        cons_same l (spaced (command_words m.0)) more _ (line_of l (command_words m.0) says.text) rest.1.2,
        (says.fits, rest.1.3),
      ),
    )

-- The header.

value_ok : (r : Result ℕ Refusal) (n : ℕ) → header_value r ≡ Ok n → r ≡ Ok n
value_ok (Ok m) n e = e
value_ok (Err f) n e = absurd cc

named_number : (b : Bool) (name : List ℕ) (least limit : ℕ) (w v : List ℕ) (n : ℕ) → bytes_eq w name ≡ b → cond b (header_value (number_from least limit v)) (Err BadHeader) ≡ Ok n
    → (w ∷ v ∷ [] ≡ name ∷ decimal n ∷ []) × (least ≤ n) × (n ≤ limit)
named_number true name least limit w v n same e =
    let r = range_is least limit v n (value_ok (number_from least limit v) n e) in
    (two w v name n ((bytes_eq-Decides w name).0 same) r.0, r.1, r.2)
named_number false name least limit w v n same e = absurd cc

number_found : (name : List ℕ) (least limit : ℕ) (words : List (List ℕ)) (n : ℕ) → header_number name least limit words ≡ Ok n → (words ≡ name ∷ decimal n ∷ []) × (least ≤ n) × (n ≤ limit)
unfolding header_number
number_found name least limit [] n e = absurd cc
number_found name least limit (w ∷ []) n e = absurd cc
number_found name least limit (w ∷ v ∷ []) n e = named_number (bytes_eq w name) name least limit w v n refl e
number_found name least limit (w ∷ v ∷ x ∷ more) n e = absurd cc

abbrev commands_lines : Reading → List (List ℕ)
commands_lines script = map spaced (map command_words script.lines)

abbrev actors_line : Reading → List ℕ
actors_line script = spaced (codes "actors" ∷ decimal script.limits.actors ∷ [])

abbrev hash_line : Reading → List ℕ
hash_line script = spaced (codes "hash" ∷ hashes.name_of script.limits.hash ∷ [])

abbrev FitBehind : Reading → Type 0
FitBehind script = (1 ≤ script.limits.actors) × (script.limits.actors ≤ 64) × AllByRecursion CommandFits script.lines

behind_hash : (lines : List (List ℕ)) (slots : ℕ) (hash : HashKind) (end : Progress Command) (script : Reading) → Leads script_format (Hashed slots hash) lines end → all_read end ≡ Ok script
    → (script.limits.slots ≡ slots) × (script.limits.hash ≡ hash) × (lines ≡ actors_line script ∷ commands_lines script) × FitBehind script
unfolding words_after
behind_hash [] slots hash end script leads done = absurd (let none = ap all_read leads ∙ done in cc)
behind_hash (l ∷ more) slots hash end script leads done =
    let m = made_ok (λ actors. InLines (record { slots = slots; actors = actors; hash = hash }) []) (actors_of (words_of l)) leads.0 leads.1 in
    let a = number_found (codes "actors") 1 64 (words_of l) m.0 m.1 in
    let rest = in_commands more (record { slots = slots; actors = m.0; hash = hash }) [] end script (subst (λ (p : Progress Command). Leads script_format p more end) (sym m.2) leads.2) done in
    let actors : m.0 ≡ script.limits.actors = ap (λ (x : Limits). x.actors) (sym rest.0) in (
      ap (λ (x : Limits). x.slots) rest.0,
      ap (λ (x : Limits). x.hash) rest.0,
      cons_same l (actors_line script) more (commands_lines script)
          (line_of l (codes "actors" ∷ decimal m.0 ∷ []) a.0 ∙ ap (λ n. spaced (codes "actors" ∷ decimal n ∷ [])) actors)
          (rest.1.2 ∙ ap (λ (cs : List Command). map spaced (map command_words cs)) (sym rest.1.1)),
      (subst (λ n. 1 ≤ n) actors a.1, subst (λ n. n ≤ 64) actors a.2, subst (AllByRecursion CommandFits) (sym rest.1.1) rest.1.3),
    )

behind_slots : (lines : List (List ℕ)) (slots : ℕ) (end : Progress Command) (script : Reading) → Leads script_format (Sized slots) lines end → all_read end ≡ Ok script
    → (script.limits.slots ≡ slots) × (lines ≡ hash_line script ∷ actors_line script ∷ commands_lines script) × FitBehind script
unfolding words_after
behind_slots [] slots end script leads done = absurd (let none = ap all_read leads ∙ done in cc)
behind_slots (l ∷ more) slots end script leads done =
    let m = made_ok (λ hash. Hashed slots hash) (header_of (words_of l)) leads.0 leads.1 in
    let words = header_found (words_of l) m.0 m.1 in
    let rest = behind_hash more slots m.0 end script (subst (λ (p : Progress Command). Leads script_format p more end) (sym m.2) leads.2) done in (
      rest.0,
      cons_same l (hash_line script) more (actors_line script ∷ commands_lines script)
          (line_of l (codes "hash" ∷ hashes.name_of m.0 ∷ []) words ∙ ap (λ (k : HashKind). spaced (codes "hash" ∷ hashes.name_of k ∷ [])) (sym rest.1)) rest.2,
      rest.3,
    )

from_start : (lines : List (List ℕ)) (end : Progress Command) (script : Reading) → Leads script_format Start lines end → all_read end ≡ Ok script
    → (lines ≡ script_lines script) × AreLimits script.limits × AllByRecursion CommandFits script.lines
unfolding words_after
from_start [] end script leads done = absurd (let none = ap all_read leads ∙ done in cc)
from_start (l ∷ more) end script leads done =
    let m = made_ok Sized (slots_of (words_of l)) leads.0 leads.1 in
    let s = number_found (codes "slots") 2 65536 (words_of l) m.0 m.1 in
    let rest = behind_slots more m.0 end script (subst (λ (p : Progress Command). Leads script_format p more end) (sym m.2) leads.2) done in
    let slots : m.0 ≡ script.limits.slots = sym rest.0 in (
      cons_same l (spaced (codes "slots" ∷ decimal script.limits.slots ∷ [])) more (hash_line script ∷ actors_line script ∷ commands_lines script)
          (line_of l (codes "slots" ∷ decimal m.0 ∷ []) s.0 ∙ ap (λ n. spaced (codes "slots" ∷ decimal n ∷ [])) slots) rest.1,
      (subst (λ n. 2 ≤ n) slots s.1, subst (λ n. n ≤ 65536) slots s.2, rest.2.0, rest.2.1),
      rest.2.2,
    )

-- what is read is spelled so
pub spelled : (text : List ℕ) (script : Reading) → script_of text ≡ Ok script → IsSpelling text script
unfolding script_of
spelled text script e = let whole = text_leads script_format text script e in from_start (said_lines text) whole.0 script whole.1 whole.2

pub is_found : (text : List ℕ) (r : Result (Script Command) Told) → Reads read r (script_of text) → IfOk r (λ script. IsSpelling text (read script))
is_found text (Ok script) e = spelled text (read script) e
is_found text (Err f) e = tt
