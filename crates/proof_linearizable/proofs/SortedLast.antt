-- Places in front of one that comes last.
use Rattle.std.specs.Prelude.{◌≡◌, ◌<◌, ◌≤◌, ℕ, Bool, true, false, List, [], ◌∷◌, ◌++◌, map}
use Rattle.std.proofs.Common.{refl, ap, arith, ◌∙◌, inl, inr, cond}
use Rattle.proof_linearizable.specs.Beneath.places.specs.declared.place.Place.{Place}
use Rattle.proof_linearizable.specs.Beneath.places.specs.Places.{is_before, placed, rising, ids_by_place}
use Rattle.proof_linearizable.specs.Beneath.history.proofs.Among.{Among}

-- a place of an earlier step comes before
earlier_before : (p q : Place) → p.step < q.step → is_before p q ≡ true
earlier_before p q h = grind (arith, h)

placed_before : (p last : Place) (qs : List Place) → is_before p last ≡ true → placed p (qs ++ last ∷ []) ≡ placed p qs ++ last ∷ []
placed_before p last [] h = ap (λ b. cond b (p ∷ last ∷ []) (last ∷ p ∷ [])) h
placed_before p last (q ∷ qs) h = by (is_before p q) (placed_before p last qs h)
  where
    by : (b : Bool) → placed p (qs ++ last ∷ []) ≡ placed p qs ++ last ∷ [] → cond b (p ∷ q ∷ (qs ++ last ∷ [])) (q ∷ placed p (qs ++ last ∷ [])) ≡ cond b (p ∷ q ∷ qs) (q ∷ placed p qs) ++ last ∷ []
    by true e = refl
    by false e = ap (λ l. q ∷ l) e

rising_last : (ps : List Place) (last : Place) → ((p : Place) → Among p ps → is_before p last ≡ true) → rising (ps ++ last ∷ []) ≡ rising ps ++ last ∷ []
rising_last [] last all = refl
rising_last (p ∷ ps) last all = ap (placed p) (rising_last ps last (λ q a. all q (inr a))) ∙ placed_before p last (rising ps) (all p (inl refl))

map_last : (f : Place → ℕ) (ps : List Place) (last : Place) → map f (ps ++ last ∷ []) ≡ map f ps ++ f last ∷ []
map_last f [] last = refl
map_last f (p ∷ ps) last = ap (λ l. f p ∷ l) (map_last f ps last)

-- where all others have an earlier step its id is the last
pub ids_last : (ps : List Place) (last : Place) (n : ℕ) → ((p : Place) → Among p ps → p.step < n) → n ≤ last.step → ids_by_place (ps ++ last ∷ []) ≡ ids_by_place ps ++ last.id ∷ []
unfolding ids_by_place
ids_last ps last n all h =
    ap (map (λ (p : Place). p.id)) (rising_last ps last (λ p a. let lt = all p a in earlier_before p last (omega (arith, lt, h)))) ∙ map_last (λ (p : Place). p.id) (rising ps) last
