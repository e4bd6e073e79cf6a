-- A text that spells a script is read so.
use Rattle.std.proofs.Common.{◌≡◌, ℕ, ◌≤◌, List, [], ◌∷◌, ◌++◌, refl, sym, ap, ◌∙◌, subst, append_assoc, Result, Ok, arith}
use Rattle.std.specs.Prelude.{codes, map}
use Rattle.std.specs.List.{AllByRecursion}
use Rattle.std.specs.Fmt.{decimal}
use Rattle.std.proofs.lemmas.List.{append-nil}
use Rattle.ctrie_base.specs.declared.hashes.HashKind.{HashKind}
use Rattle.ctrie_base.specs.declared.kinds.Kind.{Kind}
use Rattle.ctrie_base.specs.declared.kinds.Kind.TheVariants as kind
use Rattle.ctrie_base.specs.Hashes as hashes
use Rattle.ctrie_base.specs.Kinds as kinds
use Rattle.text_lines.specs.declared.faults.Told.{Told}
use Rattle.text_lines.specs.Words.{words_of, spaced, made}
use Rattle.text_lines.specs.Views.{Reads}
use Rattle.text_lines.proofs.Again.{IsClean, clean, clean_decimal, words_again, range_again}
use Rattle.text_lines.proofs.Whole.{Leads, leads_read}
use Rattle.history_text.specs.Lines.{header_of}
use Rattle.history_text.specs.Texts.{call_words}
use Rattle.history_text.proofs.AgainReplies.{header_again, clean_hash, clean_call}
use Rattle.machine_model.specs.declared.steps.Limits.{Limits}
use Rattle.machine_model.specs.Limits.{AreLimits}
use Rattle.script_text.specs.declared.commands.Command.{Command}
use Rattle.script_text.specs.declared.commands.Command.TheVariants.{Begin, Go, Until, Finish, Do, Sweep}
use Rattle.script_text.specs.declared.reading.Script.{Script}
use Rattle.script_text.specs.Headers.{header_value, header_number, slots_of, actors_of}
use Rattle.script_text.specs.Scripts.{Progress, Start, Sized, Hashed, InLines, words_after}
use Rattle.script_text.specs.Reading.{Reading, command_dialect, script_format, script_of}
use Rattle.script_text.specs.Views.{read}
use Rattle.script_text.specs.Grammar.{command_words, script_lines, CommandFits, IsActor, IsTimes, IsOfOperation, IsSpelling, IsShort}
use Rattle.script_text.proofs.AgainCommands.{command_again}

-- The words of the lines.

clean_kind : (k : Kind) → IsOfOperation k → IsClean (kinds.name_of k)
clean_kind kind.ReadRoot is = clean (codes "read-root") refl
clean_kind kind.SwapRoot is = clean (codes "swap-root") refl
clean_kind kind.ReadMain is = clean (codes "read-main") refl
clean_kind kind.SwapMain is = clean (codes "swap-main") refl
clean_kind kind.ReadPrev is = clean (codes "read-prev") refl
clean_kind kind.SwapPrev is = clean (codes "swap-prev") refl
clean_kind kind.Look is = clean (codes "look") refl
clean_kind kind.Make is = clean (codes "make") refl
clean_kind kind.End is = clean (codes "end") refl
clean_kind other is = absurd is

clean_actor : (a : ℕ) → IsActor a → IsClean (decimal a)
clean_actor a le = clean_decimal a (omega arith)

clean_times : (n : ℕ) → IsTimes n → IsClean (decimal n)
clean_times n f = clean_decimal n (let le = f.1 in omega arith)

command_line : (c : Command) → CommandFits c → words_of (spaced (command_words c)) ≡ command_words c
command_line (Begin a c) f = words_again (codes "actor") (decimal a ∷ call_words c) (clean (codes "actor") refl) (clean_actor a f.0, clean_call c f.1)
command_line (Do a c) f = words_again (codes "do") (decimal a ∷ call_words c) (clean (codes "do") refl) (clean_actor a f.0, clean_call c f.1)
command_line (Go a n) f = words_again (codes "go") (decimal a ∷ decimal n ∷ []) (clean (codes "go") refl) (clean_actor a f.0, (clean_times n f.1, tt))
command_line (Until a k) f = words_again (codes "until") (decimal a ∷ kinds.name_of k ∷ []) (clean (codes "until") refl) (clean_actor a f.0, (clean_kind k f.1, tt))
command_line (Finish a) f = words_again (codes "finish") (decimal a ∷ []) (clean (codes "finish") refl) (clean_actor a f, tt)
command_line (Sweep n) f = words_again (codes "sweep") (decimal n ∷ []) (clean (codes "sweep") refl) (clean_times n f, tt)

-- The commands.

commands_only : (later : List Command) (limits : Limits) (so_far : List Command) → AllByRecursion CommandFits later
    → Leads script_format (InLines limits so_far) (map spaced (map command_words later)) (InLines limits (so_far ++ later))
unfolding words_after
commands_only [] limits so_far f = ap (InLines limits) (sym (append-nil so_far))
commands_only (c ∷ more) limits so_far f =
    let added : List Command → Progress Command = λ cs. InLines limits cs in (
      InLines limits (so_far ++ c ∷ []),
      ap (words_after command_dialect (InLines limits so_far)) (command_line c f.0) ∙ ap (made (λ command. InLines limits (so_far ++ command ∷ []))) (command_again c f.0),
      subst (λ (cs : List Command). Leads script_format (InLines limits (so_far ++ c ∷ [])) (map spaced (map command_words more)) (added cs)) (append_assoc so_far (c ∷ []) more)
          (commands_only more limits (so_far ++ c ∷ []) f.1),
    )

-- The header.

slots_again : (n : ℕ) → 2 ≤ n → n ≤ 65536 → slots_of (words_of (spaced (codes "slots" ∷ decimal n ∷ []))) ≡ Ok n
unfolding header_number
slots_again n low le =
    ap slots_of (words_again (codes "slots") (decimal n ∷ []) (clean (codes "slots") refl) (clean_decimal n (omega arith), tt)) ∙ ap header_value (range_again 2 65536 n low le (omega arith))

actors_again : (n : ℕ) → 1 ≤ n → n ≤ 64 → actors_of (words_of (spaced (codes "actors" ∷ decimal n ∷ []))) ≡ Ok n
unfolding header_number
actors_again n low le =
    ap actors_of (words_again (codes "actors") (decimal n ∷ []) (clean (codes "actors") refl) (clean_decimal n (omega arith), tt)) ∙ ap header_value (range_again 1 64 n low le (omega arith))

hash_again : (k : HashKind) → header_of (words_of (spaced (codes "hash" ∷ hashes.name_of k ∷ []))) ≡ Ok k
hash_again k = ap header_of (words_again (codes "hash") (hashes.name_of k ∷ []) (clean (codes "hash") refl) (clean_hash k, tt)) ∙ header_again k

-- a script's lines lead to it
script_leads : (script : Reading) → AreLimits script.limits → AllByRecursion CommandFits script.lines
    → Leads script_format Start (script_lines script) (InLines script.limits script.lines)
unfolding words_after
script_leads script f each =
    let l = script.limits in (
      Sized l.slots,
      ap (made Sized) (slots_again l.slots f.0 f.1),
      (
        Hashed l.slots l.hash,
        ap (made (λ hash. Hashed l.slots hash)) (hash_again l.hash),
        (
          InLines l [],
          ap (made (λ actors. InLines (record { slots = l.slots; actors = actors; hash = l.hash }) [])) (actors_again l.actors f.2 f.3),
          commands_only script.lines l [] each,
        ),
      ),
    )

-- what is spelled so is read
pub read_again : (text : List ℕ) (script : Reading) → IsSpelling text script → IsShort text → script_of text ≡ Ok script
unfolding script_of
read_again text script spelled short =
    let whole = subst (λ (ls : List (List ℕ)). Leads script_format Start ls (InLines script.limits script.lines)) (sym spelled.0) (script_leads script spelled.1 spelled.2) in
    leads_read script_format text (InLines script.limits script.lines) script short whole refl

pub only_so : (text : List ℕ) (r : Result (Script Command) Told) → Reads read r (script_of text) → (script : Reading) → IsSpelling text script → IsShort text → Reads read r (Ok script)
only_so text r e script spelled short = subst (Reads read r) (read_again text script spelled short) e
