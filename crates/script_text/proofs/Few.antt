-- A text that is read is short, and a script of any kind has at most as many lines behind its header as its text may have.
use Rattle.std.proofs.Common.{◌≡◌, ℕ, ◌+◌, ◌≤◌, Bool, true, false, cond, List, [], ◌∷◌, ◌++◌, length, refl, ap, length-append, Result, Ok, Err, arith}
use Rattle.std.specs.Prelude.{nat_lt, OnOk}
use borrow.Author.Tests.{ltb-false}
use Rattle.ctrie_base.specs.declared.refusals.Refusal.TheVariants.{TooLong}
use Rattle.text_lines.specs.declared.faults.Told.{Told}
use Rattle.text_lines.specs.Words.{words_of}
use Rattle.text_lines.specs.Texts.{lines_of, is_ignored}
use Rattle.text_lines.specs.Reading.{line_after, read_lines, at_line, text_of}
use Rattle.text_lines.specs.Views.{Reads}
use Rattle.text_lines.proofs.Parts.{made_ok, bind_ok, ok_is}
use Rattle.text_lines.proofs.Whole.{at_ok}
use Rattle.history_text.specs.Lines.{header_of}
use Rattle.script_text.specs.Headers.{slots_of}
use Rattle.script_text.specs.Grammar.{IsShort}
use Rattle.script_text.specs.Scripts.{Dialect, ScriptOf, Progress, Start, Sized, Hashed, InLines, words_after, all_read, format_of}

module _ {L : Type 0} (dialect : Dialect L) where
  -- how many lines behind the header were read
  abbrev lines_in : Progress L → ℕ
  lines_in (InLines limits lines) = length lines
  lines_in before = 0

  words_add : (p r : Progress L) (words : List (List ℕ)) → words_after dialect p words ≡ Ok r → lines_in r ≤ lines_in p + 1
  unfolding words_after
  words_add Start r words e = let m = made_ok Sized (slots_of words) r e in omega (arith, ap lines_in m.2)
  words_add (Sized slots) r words e = let m = made_ok (λ hash. Hashed slots hash) (header_of words) r e in omega (arith, ap lines_in m.2)
  words_add (Hashed slots hash) r words e =
      let m = made_ok (λ actors. InLines (record { slots = slots; actors = actors; hash = hash }) []) (dialect.actors_of words) r e in omega (arith, ap lines_in m.2)
  words_add (InLines limits lines) r words e =
      let m = made_ok (λ line. InLines limits (lines ++ line ∷ [])) (dialect.line_of limits.actors words) r e in
      omega (arith, ap lines_in m.2, length-append lines (m.0 ∷ []))

  step_adds : (long ignored : Bool) (p r : Progress L) (words : List (List ℕ)) → cond long (Err TooLong) (cond ignored (Ok p) (words_after dialect p words)) ≡ Ok r →
      (long ≡ false) × (lines_in r ≤ lines_in p + 1)
  step_adds true ignored p r words e = absurd cc
  step_adds false true p r words e = (refl, omega (arith, ap lines_in (ok_is (Ok p) p r refl e)))
  step_adds false false p r words e = (refl, words_add p r words e)

  line_adds : (n : ℕ) (p r : Progress L) (line : List ℕ) → line_after (format_of dialect) n p line ≡ Ok r → (n ≤ 100000) × (lines_in r ≤ lines_in p + 1)
  unfolding line_after
  line_adds n p r line e = let so = step_adds (nat_lt 100000 n) (is_ignored line) p r (words_of line) e in (ltb-false 100000 n so.0, so.1)

  lines_add : (lines : List (List ℕ)) (n : ℕ) (p q : Progress L) → read_lines (format_of dialect) n p lines ≡ Ok q → lines_in p + 1 ≤ n → n ≤ 100001 →
      (lines_in q ≤ 100000) × (n + length lines ≤ 100001)
  unfolding read_lines
  lines_add [] n p q e few low = (omega (arith, few, low, ap lines_in (ok_is (Ok p) p q refl e)), omega (arith, low))
  lines_add (line ∷ more) n p q e few low =
      let b = bind_ok (at_line n (line_after (format_of dialect) n p line)) (λ next. read_lines (format_of dialect) (n + 1) next more) q e in
      let so = line_adds n p b.0 line (at_ok n (line_after (format_of dialect) n p line) b.0 b.1) in
      let rest = lines_add more (n + 1) b.0 q b.2 (omega (arith, few, so.1)) (omega (arith, so.0)) in (rest.0, omega (arith, rest.1))

  end_adds : (p : Progress L) (n : ℕ) (script : ScriptOf L) → at_line n (all_read p) ≡ Ok script → length script.lines ≡ lines_in p
  end_adds (InLines limits lines) n script e =
      let is : ScriptOf L = record { limits = limits; lines = lines } in
      ap (λ (r : ScriptOf L). length r.lines) (ok_is (at_line n (all_read (InLines limits lines))) script is e refl)
  end_adds Start n script e = absurd cc
  end_adds (Sized slots) n script e = absurd cc
  end_adds (Hashed slots hash) n script e = absurd cc

  from_start : (text : List ℕ) (script : ScriptOf L) → text_of (format_of dialect) text ≡ Ok script → (length script.lines ≤ 100000) × IsShort text
  unfolding text_of
  from_start text script e =
      let lines = lines_of text in
      let b = bind_ok (read_lines (format_of dialect) 1 Start lines) (λ end. at_line (length lines + 1) (all_read end)) script e in
      let added = lines_add lines 1 Start b.0 b.1 (omega arith) (omega arith) in
      (omega (arith, added.0, end_adds b.0 (length lines + 1) script b.2), omega (arith, added.1))

  pub few_lines : (text : List ℕ) (script : ScriptOf L) → text_of (format_of dialect) text ≡ Ok script → length script.lines ≤ 100000
  few_lines text script e = (from_start text script e).0

  pub is_short : {G : Type 0} (seen : G → ScriptOf L) (text : List ℕ) (r : Result G Told) → Reads seen r (text_of (format_of dialect) text) → OnOk r (IsShort text)
  is_short seen text (Ok given) e = (from_start text (seen given) e).1
  is_short seen text (Err f) e = tt
