-- What a whole text says is what its lines say that aren't ignored, one after the other.
use Rattle.std.proofs.Common.{◌≡◌, ℕ, ◌+◌, ◌≤◌, List, [], ◌∷◌, length, refl, sym, ap, subst, Result, Ok, Err, Bool, true, false, cond, ◌⊎◌, inl, inr, arith}
use Rattle.std.specs.Prelude.{filter, not, nat_lt}
use borrow.Author.Tests.{le-ltb}
use Rattle.ctrie_base.specs.declared.refusals.Refusal.{Refusal}
use Rattle.ctrie_base.specs.declared.refusals.Refusal.TheVariants.{TooLong}
use Rattle.text_lines.specs.Words.{words_of}
use Rattle.text_lines.specs.Texts.{lines_of, is_ignored, said_lines, HasLines}
use Rattle.text_lines.specs.Reading.{Format, line_after, read_lines, at_line, text_of}
use Rattle.text_lines.proofs.Parts.{bind_ok}

-- the lines lead from what was read before to what is read after them
abbrev pub Leads : {P A : Type 0} → Format P A → P → List (List ℕ) → P → Type 0
Leads format before [] after = before ≡ after
Leads {P} format before (line ∷ more) after = (next : P) × (format.words_after before (words_of line) ≡ Ok next) × Leads format next more after

abbrev kept : List (List ℕ) → List (List ℕ)
kept lines = filter (λ line. not (is_ignored line)) lines

pub at_ok : {A : Type 0} (n : ℕ) (r : Result A Refusal) (x : A) → at_line n r ≡ Ok x → r ≡ Ok x
at_ok n (Ok y) x e = cc
at_ok n (Err f) x e = absurd cc

at_again : {A : Type 0} (n : ℕ) (r : Result A Refusal) (x : A) → r ≡ Ok x → at_line n r ≡ Ok x
at_again n r x e = rw e refl

module _ {P A : Type 0} (format : Format P A) where
  leads_on : (b : Bool) (p q : P) (line : List ℕ) (more : List (List ℕ)) → b ≡ is_ignored line
      → ((b ≡ true) × Leads format p more q) ⊎ ((b ≡ false) × ((r : P) × (format.words_after p (words_of line) ≡ Ok r) × Leads format r more q))
      → Leads format p (cond (not b) (line ∷ more) more) q
  leads_on true p q line more e (inl h) = h.1
  leads_on true p q line more e (inr h) = absurd (let bad = h.0 in cc)
  leads_on false p q line more e (inl h) = absurd (let bad = h.0 in cc)
  leads_on false p q line more e (inr h) = h.1

  step_cases : (long ignored : Bool) (p r : P) (words : Result P Refusal) → cond long (Err TooLong) (cond ignored (Ok p) words) ≡ Ok r
      → ((ignored ≡ true) × (p ≡ r)) ⊎ ((ignored ≡ false) × (words ≡ Ok r))
  step_cases true ignored p r words e = absurd cc
  step_cases false true p r words e = inl (refl, cc)
  step_cases false false p r words e = inr (refl, e)

  steps : (n : ℕ) (p r : P) (line : List ℕ) → line_after format n p line ≡ Ok r → ((is_ignored line ≡ true) × (p ≡ r)) ⊎ ((is_ignored line ≡ false) × (format.words_after p (words_of line) ≡ Ok r))
  unfolding line_after
  steps n p r line e = step_cases (nat_lt format.most_lines n) (is_ignored line) p r (format.words_after p (words_of line)) e

  lines_lead : (lines : List (List ℕ)) (n : ℕ) (p q : P) → read_lines format n p lines ≡ Ok q → Leads format p (kept lines) q
  unfolding read_lines
  lines_lead [] n p q e = cc
  lines_lead (line ∷ more) n p q e =
      let b = bind_ok (at_line n (line_after format n p line)) (λ after. read_lines format (n + 1) after more) q e in
      let rest = lines_lead more (n + 1) b.0 q b.2 in
      leads_on (is_ignored line) p q line (kept more) refl (elim (steps n p b.0 line (at_ok n (line_after format n p line) b.0 b.1)) [
        | inl h ↦ inl (h.0, subst (λ (r : P). Leads format r (kept more) q) (sym h.1) rest)
        | inr h ↦ inr (h.0, (b.0, h.1, rest))
      ])

  -- a text that is read leads to what is read
  pub text_leads : (text : List ℕ) (a : A) → text_of format text ≡ Ok a → (p : P) × Leads format format.start (said_lines text) p × (format.all_read p ≡ Ok a)
  unfolding text_of said_lines
  text_leads text a e =
      let b = bind_ok (read_lines format 1 format.start (lines_of text)) (λ end. at_line (length (lines_of text) + 1) (format.all_read end)) a e in
      (b.0, lines_lead (lines_of text) 1 format.start b.0 b.1, at_ok (length (lines_of text) + 1) (format.all_read b.0) a b.2)

  onward : (n : ℕ) (p r q : P) (line : List ℕ) (more : List (List ℕ)) → line_after format n p line ≡ Ok r → read_lines format (n + 1) r more ≡ Ok q → read_lines format n p (line ∷ more) ≡ Ok q
  unfolding read_lines
  onward n p r q line more h rest = rw h rest

  ignored_line : (n : ℕ) (p : P) (line : List ℕ) → n ≤ format.most_lines → is_ignored line ≡ true → line_after format n p line ≡ Ok p
  unfolding line_after
  ignored_line n p line le e = rw (le-ltb format.most_lines n le, e) refl

  said_line : (n : ℕ) (p r : P) (line : List ℕ) → n ≤ format.most_lines → is_ignored line ≡ false → format.words_after p (words_of line) ≡ Ok r → line_after format n p line ≡ Ok r
  unfolding line_after
  said_line n p r line le e h = rw (le-ltb format.most_lines n le, e) h

  abbrev IsReadFrom : List (List ℕ) → ℕ → Type 0
  IsReadFrom lines n = (p q : P) → Leads format p (kept lines) q → read_lines format n p lines ≡ Ok q

  read_on : (b : Bool) (line : List ℕ) (more : List (List ℕ)) (n : ℕ) (p q : P) → is_ignored line ≡ b → n ≤ format.most_lines → IsReadFrom more (n + 1)
      → Leads format p (cond (not b) (line ∷ kept more) (kept more)) q → read_lines format n p (line ∷ more) ≡ Ok q
  read_on true line more n p q e short later leads = onward n p p q line more (ignored_line n p line short e) (later p q leads)
  read_on false line more n p q e short later leads = onward n p leads.0 q line more (said_line n p leads.0 line short e leads.1) (later leads.0 q leads.2)

  lines_read : (lines : List (List ℕ)) (n : ℕ) → n + length lines ≤ format.most_lines + 1 → IsReadFrom lines n
  unfolding read_lines
  lines_read [] n short = λ p q leads. ap (λ (r : P). Ok r) leads
  lines_read (line ∷ more) n short = λ p q leads. read_on (is_ignored line) line more n p q refl (omega arith) (lines_read more (n + 1) (omega arith)) leads

  -- a text whose lines lead to what is read is read so, if it isn't too long
  pub leads_read : (text : List ℕ) (p : P) (a : A) → HasLines format.most_lines text → Leads format format.start (said_lines text) p → format.all_read p ≡ Ok a → text_of format text ≡ Ok a
  unfolding text_of said_lines
  leads_read text p a short leads e =
      rw (lines_read (lines_of text) 1 (omega arith) format.start p leads) (at_again (length (lines_of text) + 1) (format.all_read p) a e)
