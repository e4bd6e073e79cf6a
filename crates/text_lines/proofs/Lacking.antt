-- A byte that stands nowhere in a part of a text: a text that is cut at it has this part whole.
use Rattle.std.proofs.Common.{◌≡◌, ℕ, List, [], ◌∷◌, ◌++◌, refl, ap, ◌∙◌, true, false, eqb}
use Rattle.std.specs.Prelude.{not}
use Rattle.std.specs.List.{list_all, onto_first}
use Rattle.std.proofs.lemmas.Bool.{and_parts, not-true, eq-eqb}
use Rattle.std.proofs.lemmas.List.Splits.{slice_split-cons_yes, slice_split-cons_no}
use Rattle.text_lines.specs.Words.{cut_at}

-- the byte stands nowhere in the part
abbrev pub Lacks : ℕ → List ℕ → Type 0
Lacks byte [] = Unit {0}
Lacks byte (b ∷ bs) = (eqb b byte ≡ false) × Lacks byte bs

pub lacks_append : (byte : ℕ) (a b : List ℕ) → Lacks byte a → Lacks byte b → Lacks byte (a ++ b)
lacks_append byte [] b p q = q
lacks_append byte (x ∷ xs) b p q = (p.0, lacks_append byte xs b p.1 q)

pub lacks : (byte : ℕ) (part : List ℕ) → list_all (λ b. not (eqb b byte)) part ≡ true → Lacks byte part
lacks byte [] e = tt
lacks byte (b ∷ bs) e = let p = and_parts (not (eqb b byte)) (list_all (λ x. not (eqb x byte)) bs) e in (not-true (eqb b byte) p.0, lacks byte bs p.1)

-- a part that ends with the byte stands first among those of the text
pub first_cut : (byte : ℕ) (part rest : List ℕ) → Lacks byte part → cut_at byte (part ++ byte ∷ rest) ≡ part ∷ cut_at byte rest
first_cut byte [] rest none = slice_split-cons_yes (λ b. eqb b byte) byte rest (eq-eqb byte byte refl)
first_cut byte (b ∷ bs) rest none = slice_split-cons_no (λ x. eqb x byte) b (bs ++ byte ∷ rest) none.0 ∙ ap (onto_first b) (first_cut byte bs rest none.1)
