-- Parts, each of what is behind the last key of the one before, are one list.
use Rattle.std.proofs.Common.{◌≡◌, ℕ, zero, suc, ◌+◌, ◌<◌, List, [], ◌∷◌, ◌++◌, length, take, drop, Option, Ok}
use Rattle.std.proofs.Common.{refl, sym, ap, ap₂, subst, ◌∙◌, arith}
use Rattle.std.proofs.lemmas.List.{take-append-drop}
use Rattle.std.proofs.Math.Seq.{take-add}
use Rattle.shared_map.specs.Beneath.proof_contents.proofs.Pairs.Lists.{Pairs}
use Rattle.shared_map.specs.declared.asks.Answer.TheVariants as answer
use Rattle.shared_map.specs.Asks.{Told}
use Rattle.shared_map.specs.Parts.{AreListedFrom, last_key}
use Rattle.shared_map.specs.Parts.AreListedFrom.{ends, goes_on}

-- one that is shorter than it may be is all
take_short : {A : Type 0} (n : ℕ) (xs : List A) → length (take n xs) < n → take n xs ≡ xs
take_short zero xs short = absurd (omega (arith, short))
take_short (suc n) [] short = refl
take_short (suc n) (x ∷ xs) short = ap (λ ys. x ∷ ys) (take_short n xs (omega (arith, short)))

-- pairs that are listed by what was told are listed by what follows from it
pub listed_weaker : (IsTold Tells : Option ℕ → ℕ → Told → Type 0) → ((cursor : Option ℕ) (room : ℕ) (told : Told) → IsTold cursor room told → Tells cursor room told) →
    (cursor : Option ℕ) (listed : Pairs) → AreListedFrom IsTold cursor listed → AreListedFrom Tells cursor listed
listed_weaker IsTold Tells so _ _ (ends cursor room part told short) = ends cursor room part (so cursor room (Ok (answer.Part part)) told) short
listed_weaker IsTold Tells so _ _ (goes_on cursor room part rest told more) =
    goes_on cursor room part rest (so cursor room (Ok (answer.Part part)) told) (listed_weaker IsTold Tells so (last_key cursor part) rest more)

-- `behind` is what comes behind a key: behind the last one of a part the rest of it
module _ (behind : Option ℕ → Pairs) (goes : (cursor : Option ℕ) (room : ℕ) → behind (last_key cursor (take room (behind cursor))) ≡ drop room (behind cursor)) where
  rest_is : (cursor : Option ℕ) (room : ℕ) (part : Pairs) → part ≡ take room (behind cursor) → behind (last_key cursor part) ≡ drop room (behind cursor)
  rest_is cursor room part is = ap (λ ps. behind (last_key cursor ps)) is ∙ goes cursor room

  pub joined : (cursor : Option ℕ) (room more : ℕ) (part rest : Pairs) → part ≡ take room (behind cursor) → rest ≡ take more (behind (last_key cursor part)) →
      part ++ rest ≡ take (room + more) (behind cursor)
  joined cursor room more part rest is next =
      ap₂ (λ ps qs. ps ++ qs) is (next ∙ ap (take more) (rest_is cursor room part is)) ∙ sym (take-add room more (behind cursor))

  -- where each part is the first of what is behind, they are all of it
  pub listed_all : (IsTold : Option ℕ → ℕ → Told → Type 0) →
      ((cursor : Option ℕ) (room : ℕ) (part : Pairs) → IsTold cursor room (Ok (answer.Part part)) → part ≡ take room (behind cursor)) →
      (cursor : Option ℕ) (listed : Pairs) → AreListedFrom IsTold cursor listed → listed ≡ behind cursor
  listed_all IsTold first _ _ (ends cursor room part told short) =
      let is = first cursor room part told in is ∙ take_short room (behind cursor) (subst (λ (ps : Pairs). length ps < room) is short)
  listed_all IsTold first _ _ (goes_on cursor room part rest told more) =
      let is = first cursor room part told in
      ap₂ (λ ps qs. ps ++ qs) is (listed_all IsTold first (last_key cursor part) rest more ∙ rest_is cursor room part is) ∙ take-append-drop room (behind cursor)
