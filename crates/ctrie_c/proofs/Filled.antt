-- Buffers that are filled row by row.
use Rattle.std.proofs.Common.{◌≡◌, ◌+◌, ◌<◌, ◌≤◌, ◌++◌, ◌∙◌, ℕ, List, [], ◌∷◌, length, take, drop, slice_set, refl, sym, ap, arith}
use Rattle.std.proofs.lemmas.List.{drop-drop, drop-set-lt, length-drop, length-set, take-append-drop, take_all, take_more_set}
use Rattle.std.proofs.Math.Seq.{take-add}
use Rattle.ctrie_c.specs.Buffers.{Fills}

-- so many rows are written
abbrev pub FilledUpTo : {A : Type 0} → ℕ → List A → List A → List A → Type 0
FilledUpTo count rows before now =
    (count ≤ length rows) × (count ≤ length before) × (length now ≡ length before) × (take count now ≡ take count rows) × (drop count now ≡ drop count before)

pub none_filled : {A : Type 0} (rows before : List A) → FilledUpTo 0 rows before before
none_filled rows before = (omega arith, omega arith, refl, refl, refl)

-- the next one too
pub next_filled : {A : Type 0} (rows before now : List A) (count : ℕ) (row : A) (left : List A) → FilledUpTo count rows before now → drop count rows ≡ row ∷ left → count < length now
    → FilledUpTo (count + 1) rows before (slice_set now count row)
next_filled rows before now count row left (_, room, same, front, behind) next there =
    let more : count < length rows = omega (arith, sym (length-drop count rows) ∙ ap length next) in (
      omega (arith, more),
      omega (arith, there, same),
      length-set now count row ∙ same,
      take_more_set now count row there ∙ ap (λ l. l ++ row ∷ []) front ∙ sym (take-add count 1 rows ∙ ap (λ l. take count rows ++ take 1 l) next),
      drop-set-lt (count + 1) now count row (omega arith) ∙ sym (drop-drop 1 count now) ∙ ap (drop 1) behind ∙ drop-drop 1 count before,
    )

-- all of them
pub rows_filled : {A : Type 0} (rows before now : List A) (count : ℕ) → FilledUpTo count rows before now → length rows ≤ count → Fills rows before now
rows_filled rows before now count (all, room, same, front, behind) done =
    let end : count ≡ length rows = omega (arith, all, done) in
    sym (take-append-drop count now)
    ∙ ap (λ l. l ++ drop count now) (front ∙ take_all count rows done ∙ sym (take_all (length before) rows (omega (arith, done, room))))
    ∙ ap (λ l. take (length before) rows ++ l) (behind ∙ ap (λ n. drop n before) end)
