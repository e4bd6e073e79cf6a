-- The steps by generation, when a generation is drawn or closed.
use Rattle.std.proofs.Common.{◌≡◌, ℕ, ◌==◌, ◌<◌, Bool, true, false, cond, List, [], ◌∷◌, ◌++◌, length, map}
use Rattle.std.proofs.Common.{All, set, get_or, find, Option, Some, None, MatchOption, ◌≢◌, refl, sym, ap, ◌∙◌, subst, eq-eqb, eqb-true}
use Rattle.std.proofs.lemmas.Option.{none-some}
use Rattle.std.proofs.lemmas.Bool.{false≢true}
use Rattle.std.proofs.lemmas.List.Elements.{All-map}
use Rattle.std.proofs.lemmas.List.{get_or-set_same, get_or-set_other}
use Rattle.machine_model.specs.declared.records.Closing.{Closing}
use Rattle.machine_model.specs.Records.{step_of}
use Rattle.chronicle.specs.Closed.{closing_step, AreFound}

pub none_closed : AreFound [] []
none_closed generation = refl

pub found_at : (steps : List (Option ℕ)) (closings : List Closing) (g : ℕ) → AreFound steps closings → get_or steps g None ≡ closing_step closings g
found_at steps closings g h = h g

-- ---- a closing behind the others

-- is found where none was
closing_first : (closings : List Closing) (g c : ℕ) → closing_step closings g ≡ None → closing_step (closings ++ record { generation = g; step = c } ∷ []) g ≡ Some c
closing_first [] g c e = ap (λ b. step_of (cond b (Some (record { generation = g; step = c })) None)) (eq-eqb g g refl)
closing_first (x ∷ closings) g c e = by (x.generation == g) (closing_first closings g c) e
  where
    by : (b : Bool) → (closing_step closings g ≡ None → closing_step (closings ++ record { generation = g; step = c } ∷ []) g ≡ Some c) →
        step_of (cond b (Some x) (find (λ y. y.generation == g) closings)) ≡ None →
        step_of (cond b (Some x) (find (λ y. y.generation == g) (closings ++ record { generation = g; step = c } ∷ []))) ≡ Some c
    by true rest none = absurd (none-some x.step (sym none))
    by false rest none = rest none

-- leaves what was found
closing_kept : (closings more : List Closing) (g c : ℕ) → closing_step closings g ≡ Some c → closing_step (closings ++ more) g ≡ Some c
closing_kept [] more g c e = absurd (none-some c e)
closing_kept (x ∷ closings) more g c e = by (x.generation == g) (closing_kept closings more g c) e
  where
    by : (b : Bool) → (closing_step closings g ≡ Some c → closing_step (closings ++ more) g ≡ Some c) →
        step_of (cond b (Some x) (find (λ y. y.generation == g) closings)) ≡ Some c → step_of (cond b (Some x) (find (λ y. y.generation == g) (closings ++ more))) ≡ Some c
    by true rest some = some
    by false rest some = rest some

-- and other generations
closing_other : (closings : List Closing) (g c q : ℕ) → (g == q) ≡ false → closing_step (closings ++ record { generation = g; step = c } ∷ []) q ≡ closing_step closings q
closing_other [] g c q e = ap (λ b. step_of (cond b (Some (record { generation = g; step = c })) None)) e
closing_other (x ∷ closings) g c q e = by (x.generation == q) (closing_other closings g c q e)
  where
    by : (b : Bool) → closing_step (closings ++ record { generation = g; step = c } ∷ []) q ≡ closing_step closings q →
        step_of (cond b (Some x) (find (λ y. y.generation == q) (closings ++ record { generation = g; step = c } ∷ []))) ≡ step_of (cond b (Some x) (find (λ y. y.generation == q) closings))
    by true rest = refl
    by false rest = rest

not_same : (g q : ℕ) → (g == q) ≡ false → q ≢ g
not_same g q e same = absurd (false≢true (sym e ∙ eq-eqb g q (sym same)))

-- the closing of a generation that was open
found_closed : (steps : List (Option ℕ)) (closings : List Closing) (g c : ℕ) → AreFound steps closings → g < length steps → get_or steps g None ≡ None →
    AreFound (set steps g (Some c)) (closings ++ record { generation = g; step = c } ∷ [])
found_closed steps closings g c h within none q = by (g == q) refl
  where
    by : (b : Bool) → (g == q) ≡ b → get_or (set steps g (Some c)) q None ≡ closing_step (closings ++ record { generation = g; step = c } ∷ []) q
    by true e =
        ap (λ i. get_or (set steps g (Some c)) i None) (sym (eqb-true g q e)) ∙ get_or-set_same steps g (Some c) None within
        ∙ sym (closing_first closings g c (sym (h g) ∙ none)) ∙ ap (closing_step (closings ++ record { generation = g; step = c } ∷ [])) (eqb-true g q e)
    by false e = get_or-set_other steps g q (Some c) None (not_same g q e) ∙ h q ∙ sym (closing_other closings g c q e)

-- the closing of one that was closed
found_kept : (steps : List (Option ℕ)) (closings : List Closing) (g c was : ℕ) → AreFound steps closings → get_or steps g None ≡ Some was →
    AreFound steps (closings ++ record { generation = g; step = c } ∷ [])
found_kept steps closings g c was h some q = by (g == q) refl
  where
    by : (b : Bool) → (g == q) ≡ b → get_or steps q None ≡ closing_step (closings ++ record { generation = g; step = c } ∷ []) q
    by true e =
        ap (λ i. get_or steps i None) (sym (eqb-true g q e)) ∙ some ∙ sym (closing_kept closings (record { generation = g; step = c } ∷ []) g was (sym (h g) ∙ some))
        ∙ ap (closing_step (closings ++ record { generation = g; step = c } ∷ [])) (eqb-true g q e)
    by false e = h q ∙ sym (closing_other closings g c q e)

-- the closing of any that there is
pub found_after : (steps after : List (Option ℕ)) (closings : List Closing) (g c : ℕ) → AreFound steps closings → g < length steps →
    MatchOption (get_or steps g None) (after ≡ set steps g (Some c)) (λ was. after ≡ steps) → AreFound after (closings ++ record { generation = g; step = c } ∷ [])
found_after steps after closings g c h within is = by (get_or steps g None) refl is
  where
    by : (o : Option ℕ) → get_or steps g None ≡ o → MatchOption o (after ≡ set steps g (Some c)) (λ was. after ≡ steps) →
        AreFound after (closings ++ record { generation = g; step = c } ∷ [])
    by None e same = subst (λ l. AreFound l (closings ++ record { generation = g; step = c } ∷ [])) (sym same) (found_closed steps closings g c h within e)
    by (Some was) e same = subst (λ l. AreFound l (closings ++ record { generation = g; step = c } ∷ [])) (sym same) (found_kept steps closings g c was h e)

-- closings that are before this step have steps before it
pub steps_later : (closings : List Closing) (steps : List ℕ) (step : ℕ) → steps ≡ map (λ (c : Closing). c.step) closings → All (λ closing. closing.step < step) closings →
    All (λ closing. closing < step) steps
steps_later closings steps step is later = subst (All (λ (n : ℕ). n < step)) (sym is) (All-map (λ (n : ℕ). n < step) (λ (c : Closing). c.step) closings later)
