-- Reading words one after the other, as a loop does.
use Rattle.std.proofs.Common.{◌≡◌, ℕ, ◌+◌, ◌<◌, List, [], ◌∷◌, ◌++◌, length, get_or, take, drop, refl, sym, ap, ◌∙◌, take-append-drop, Result, Ok, Err}
use denote.Ref.{Bor}
use Rattle.std.proofs.lemmas.List.{take_more, at_drop_more}
use Rattle.ctrie_base.specs.declared.refusals.Refusal.{Refusal}
use Rattle.text_lines.specs.Words.{nows, made, ◌>>=◌}
use Rattle.history_text.specs.Lines.{each}

abbrev Reader : Type 0 → Type 0
Reader A = List ℕ → Result A Refusal

made_same : {A : Type 0} (r : Result (List A) Refusal) → r ≡ made (λ xs. [] ++ xs) r
made_same (Ok xs) = refl
made_same (Err e) = refl

step : {A : Type 0} (r : Result A Refusal) (s t : Result (List A) Refusal)
    → (r >>= λ v. made (λ vs. v ∷ vs) (s >>= λ ys. made (λ vs. ys ++ vs) t)) ≡ ((r >>= λ v. made (λ vs. v ∷ vs) s) >>= λ ys. made (λ vs. ys ++ vs) t)
step (Ok v) (Ok ys) (Ok vs) = refl
step (Ok v) (Ok ys) (Err e) = refl
step (Ok v) (Err e) t = refl
step (Err e) s t = refl

-- reading some words and then others
pub each_append : {A : Type 0} (said : Reader A) (xs zs : List (List ℕ)) → each said (xs ++ zs) ≡ (each said xs >>= λ ys. made (λ vs. ys ++ vs) (each said zs))
each_append said [] zs = made_same (each said zs)
each_append {A} said (x ∷ xs) zs =
    ap (λ (s : Result (List A) Refusal). said x >>= λ v. made (λ vs. v ∷ vs) s) (each_append said xs zs) ∙ step (said x) (each said xs) (each said zs)

nows_append : (xs ys : List (Bor (List ℕ))) → nows (xs ++ ys) ≡ nows xs ++ nows ys
nows_append [] ys = refl
nows_append (x ∷ xs) ys = ap (λ (t : List (List ℕ)). x.now ∷ t) (nows_append xs ys)

nows_more : (ws : List (Bor (List ℕ))) (i : ℕ) (d : Bor (List ℕ)) → i < length ws → nows (take (i + 1) ws) ≡ nows (take i ws) ++ (get_or ws i d).now ∷ []
nows_more ws i d lt = ap nows (take_more ws i d lt) ∙ nows_append (take i ws) (get_or ws i d ∷ [])

-- one word more that is read
pub each_more : {A : Type 0} (said : Reader A) (ws : List (Bor (List ℕ))) (i : ℕ) (d : Bor (List ℕ)) (ys : List A) (y : A) → i < length ws
    → each said (nows (take i ws)) ≡ Ok ys → said (get_or ws i d).now ≡ Ok y → each said (nows (take (i + 1) ws)) ≡ Ok (ys ++ y ∷ [])
each_more said ws i d ys y lt before h =
    ap (each said) (nows_more ws i d lt) ∙ each_append said (nows (take i ws)) ((get_or ws i d).now ∷ []) ∙ rw (before, h) refl

split_nows : (ws : List (Bor (List ℕ))) (i : ℕ) (d : Bor (List ℕ)) → i < length ws → nows ws ≡ nows (take i ws) ++ (get_or ws i d).now ∷ nows (drop (i + 1) ws)
split_nows ws i d lt =
    ap nows (sym (take-append-drop i ws)) ∙ nows_append (take i ws) (drop i ws) ∙ ap (λ (t : List (List ℕ)). nows (take i ws) ++ t) (at_drop_more nows ws i d lt)

-- the first word with a fault
pub each_fault : {A : Type 0} (said : Reader A) (ws : List (Bor (List ℕ))) (i : ℕ) (d : Bor (List ℕ)) (ys : List A) (f : Refusal) → i < length ws
    → each said (nows (take i ws)) ≡ Ok ys → said (get_or ws i d).now ≡ Err f → each said (nows ws) ≡ Err f
each_fault said ws i d ys f lt before h =
    ap (each said) (split_nows ws i d lt) ∙ each_append said (nows (take i ws)) ((get_or ws i d).now ∷ nows (drop (i + 1) ws)) ∙ rw (before, h) refl
