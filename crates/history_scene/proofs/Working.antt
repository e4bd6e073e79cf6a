-- Which actors have begun something, as the history grows, and their lanes.
use Rattle.std.proofs.Common.{◌≡◌, ℕ, ◌+◌, ◌<◌, zero, suc, Bool, true, ◌==◌, ◌||◌, inl, inr, List, [], ◌∷◌, ◌++◌, length, take, set, replicate, get_or, Some, slice_get, if◌then◌else◌}
use Rattle.std.proofs.Common.{refl, sym, ap, ◌∙◌, subst, arith, add-one, eq-eqb}
use Rattle.std.proofs.lemmas.Bool.{cases_order, ne_eqb}
use Rattle.std.proofs.lemmas.List.{take_more}
use Rattle.std.proofs.lemmas.List.Folds.{list_any-append}
use Rattle.std.proofs.Math.Bool.{or-true, or-false}
use Rattle.history.specs.declared.events.Event.{Event}
use Rattle.history.proofs.Places.{at_set, at_set_other}
use Rattle.history_scene.specs.Lanes.{is_begin_of, works, workers_below, actors_of, lane_of}

-- the same at each place
pub at_same : {X : Type 0} (n i : ℕ) (x : X) → i < n → slice_get (replicate n x) i ≡ Some x
at_same zero i x lt = absurd (omega (arith, lt))
at_same (suc n) zero x lt = refl
at_same (suc n) (suc i) x lt = at_same n i x (omega (arith, lt))

-- one event more
pub works_more : (history : List Event) (i actor : ℕ) (d : Event) → i < length history → works (take (i + 1) history) actor ≡ (works (take i history) actor || is_begin_of actor (get_or history i d))
works_more history i actor d lt =
    ap (λ (h : List Event). works h actor) (take_more history i d lt) ∙ list_any-append (is_begin_of actor) (take i history) (get_or history i d ∷ [])
    ∙ ap (λ b. works (take i history) actor || b) (or-false (is_begin_of actor (get_or history i d)))

-- an actor that begins something is noted
pub begin_noted : (ws : List Bool) (before : ℕ → Bool) (who : ℕ) → length ws ≡ 256 → ((a : ℕ) → a < 256 → slice_get ws a ≡ Some (before a))
    → (a : ℕ) → a < 256 → slice_get (set ws who true) a ≡ Some (before a || (who == a))
begin_noted ws before who size known a lt = elim (cases_order a who) [
  | inl same ↦
      let within : who < length ws = omega arith in
      let here : slice_get (set ws who true) a ≡ Some true = subst (λ k. slice_get (set ws who true) k ≡ Some true) (sym same) (at_set ws who true within) in
      here ∙ ap (λ (b : Bool). Some b) (sym (ap (λ b. before a || b) (eq-eqb who a (sym same)) ∙ or-true (before a)))
  | inr other ↦
      let ne : a ≡ who → ⊥ = λ e. elim other [ inl below ↦ omega arith | inr above ↦ omega arith ] in
      at_set_other ws who a true ne ∙ known a lt ∙ ap (λ (b : Bool). Some b) (sym (ap (λ b. before a || b) (ne_eqb who a (λ e. ne (sym e))) ∙ or-false (before a)))
]

-- the actors below the next number
pub workers_more : (history : List Event) (actor : ℕ) → workers_below history (actor + 1) ≡ workers_below history actor ++ (if works history actor then actor ∷ [] else [])
workers_more history actor = ap (workers_below history) (add-one actor)

pub lane_is : (history : List Event) (actor : ℕ) → lane_of history actor ≡ length (workers_below history actor)
unfolding lane_of
lane_is history actor = refl

pub actors_are : (history : List Event) → actors_of history ≡ workers_below history 256
unfolding actors_of
actors_are history = refl

-- the lanes below the next number
pub lane_noted : (history : List Event) (lanes : List ℕ) (actor n : ℕ) → n ≡ length (workers_below history actor) → actor < length lanes
    → ((other : ℕ) → other < actor → slice_get lanes other ≡ Some (lane_of history other)) → (other : ℕ) → other < actor + 1 → slice_get (set lanes actor n) other ≡ Some (lane_of history other)
lane_noted history lanes actor n is within known other lt = elim (cases_order other actor) [
  | inl same ↦
      subst (λ k. slice_get (set lanes actor n) k ≡ Some (lane_of history k)) (sym same) (at_set lanes actor n within ∙ ap (λ (k : ℕ). Some k) (is ∙ sym (lane_is history actor)))
  | inr differ ↦ elim differ [
    | inl below ↦ at_set_other lanes actor other n (λ e. omega arith) ∙ known other below
    | inr above ↦ absurd (omega arith)
  ]
]
