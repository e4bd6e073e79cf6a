-- Placing sorts: the places rise, and each stands there once.
use Rattle.std.proofs.Common.{◌≡◌, ℕ, ◌<◌, ◌≤◌, Bool, true, false, cond, ◌⊎◌, inl, inr, List, ◌∷◌, ◌++◌, filter, refl, sym, ap, ◌∙◌, arith, []}
use Rattle.std.proofs.lemmas.Bool.{true≢false, false≢true}
use Rattle.proof_order.specs.Vocabulary.{Place, number_before, bool_before, is_before, placed, rising}
use Rattle.proof_order.specs.Beneath.places.proofs.Comparing.{not_through}
use Rattle.proof_order.specs.Beneath.history.proofs.Among.{Among, among_either}
use Rattle.proof_order.proofs.Places.Elements.{Each, Along, each_of, of_each, each_filter, filter_none, tested}
use Rattle.proof_order.specs.Beneath.places.proofs.Cuts.{steps_rise}
use Rattle.proof_order.specs.Beneath.places.proofs.Rising as sorted

-- ---- sorted

-- none of the places is before one that stands in front of it
abbrev pub Rises : List Place → Type 0
Rises [] = Unit {0}
Rises (p ∷ ps) = Each (λ q. is_before q p ≡ false) ps × Rises ps

among_placed_by : (p q : Place) (qs : List Place) (b : Bool) (x : Place) → (Among x (placed p qs) → (x ≡ p) ⊎ Among x qs) →
    Among x (cond b (p ∷ q ∷ qs) (q ∷ placed p qs)) → (x ≡ p) ⊎ Among x (q ∷ qs)
among_placed_by p q qs true x rest a = a
among_placed_by p q qs false x rest (inl e) = inr (inl e)
among_placed_by p q qs false x rest (inr a) = elim (rest a) [ inl e ↦ inl e | inr old ↦ inr (inr old) ]

-- what stands among the places with one more was there, or is it
pub among_placed : (p : Place) (qs : List Place) (x : Place) → Among x (placed p qs) → (x ≡ p) ⊎ Among x qs
among_placed p [] x a = a
among_placed p (q ∷ qs) x a = among_placed_by p q qs (is_before p q) x (among_placed p qs x) a

placed_among_by : (p q : Place) (qs : List Place) (b : Bool) (x : Place) → ((x ≡ p) ⊎ Among x qs → Among x (placed p qs)) →
    (x ≡ p) ⊎ Among x (q ∷ qs) → Among x (cond b (p ∷ q ∷ qs) (q ∷ placed p qs))
placed_among_by p q qs true x rest a = a
placed_among_by p q qs false x rest (inl e) = inr (rest (inl e))
placed_among_by p q qs false x rest (inr (inl e)) = inl e
placed_among_by p q qs false x rest (inr (inr a)) = inr (rest (inr a))

pub placed_among : (p : Place) (qs : List Place) (x : Place) → (x ≡ p) ⊎ Among x qs → Among x (placed p qs)
placed_among p [] x a = a
placed_among p (q ∷ qs) x a = placed_among_by p q qs (is_before p q) x (placed_among p qs x) a

-- each is behind all in front of it, where it is behind the one in front of it
front_is_first : (p : Place) (ps : List Place) → sorted.Rises (p ∷ ps) → Each (λ q. is_before q p ≡ false) ps
front_is_first p [] up = tt
front_is_first p (q ∷ qs) up =
    (up.0, each_of (λ r. is_before r p ≡ false) qs (λ r a. not_through r q p (of_each (λ r. is_before r q ≡ false) qs (front_is_first q qs up.1) r a) up.0))

all_rise : (ps : List Place) → sorted.Rises ps → Rises ps
all_rise [] up = tt
all_rise (p ∷ []) up = (tt, tt)
all_rise (p ∷ q ∷ qs) up = (front_is_first p (q ∷ qs) up, all_rise (q ∷ qs) up.1)

-- the rising places rise
pub rising_rises : (ps : List Place) → Rises (rising ps)
rising_rises ps = all_rise (rising ps) (sorted.rising_rises ps)

-- and are the same places
pub among_rising : (ps : List Place) (x : Place) → Among x (rising ps) → Among x ps
among_rising [] x a = a
among_rising (p ∷ ps) x a = elim (among_placed p (rising ps) x a) [ inl e ↦ inl e | inr old ↦ inr (among_rising ps x old) ]

pub rising_among : (ps : List Place) (x : Place) → Among x ps → Among x (rising ps)
rising_among [] x a = a
rising_among (p ∷ ps) x (inl e) = placed_among p (rising ps) x (inl e)
rising_among (p ∷ ps) x (inr a) = placed_among p (rising ps) x (inr (rising_among ps x a))

-- ---- each once

-- no two of the places are of one operation
abbrev pub AreApart : List Place → Type 0
AreApart [] = Unit {0}
AreApart (p ∷ ps) = Each (λ q. p.id ≡ q.id → ⊥) ps × AreApart ps

placed_apart_by : (p q : Place) (qs : List Place) (b : Bool) → AreApart (p ∷ q ∷ qs) → AreApart (placed p qs) → AreApart (cond b (p ∷ q ∷ qs) (q ∷ placed p qs))
placed_apart_by p q qs true h rest = h
placed_apart_by p q qs false h rest = (
  each_of (λ r. q.id ≡ r.id → ⊥) (placed p qs) (λ r a. elim (among_placed p qs r a) [
    | inl is ↦ λ e. h.0.0 (sym (e ∙ ap (λ (x : Place). x.id) is))
    | inr old ↦ of_each (λ r. q.id ≡ r.id → ⊥) qs h.1.0 r old
  ]),
  rest,
)

placed_apart : (p : Place) (qs : List Place) → AreApart (p ∷ qs) → AreApart (placed p qs)
placed_apart p [] h = h
placed_apart p (q ∷ qs) h = placed_apart_by p q qs (is_before p q) h (placed_apart p qs (h.0.1, h.1.1))

-- sorting keeps that
pub rising_apart : (ps : List Place) → AreApart ps → AreApart (rising ps)
rising_apart [] h = h
rising_apart (p ∷ ps) h =
    placed_apart p (rising ps) (each_of (λ q. p.id ≡ q.id → ⊥) (rising ps) (λ q a. of_each (λ q. p.id ≡ q.id → ⊥) ps h.0 q (among_rising ps q a)), rising_apart ps h.1)

apart_kept : (b : Bool) (x : Place) (xs : List Place) → Each (λ q. x.id ≡ q.id → ⊥) xs → AreApart xs → AreApart (cond b (x ∷ xs) xs)
apart_kept true x xs first rest = (first, rest)
apart_kept false x xs first rest = rest

pub apart_filter : (p : Place → Bool) (xs : List Place) → AreApart xs → AreApart (filter p xs)
apart_filter p [] h = h
apart_filter p (x ∷ xs) h = apart_kept (p x) x (filter p xs) (each_filter (λ q. x.id ≡ q.id → ⊥) p xs h.0) (apart_filter p xs h.1)

-- a filter that passes one of them alone keeps just that one
only_by : (b : Bool) (p : Place → Bool) (x y : Place) (ys : List Place) → p y ≡ b → (x ≡ y) ⊎ Among x ys → p x ≡ true → AreApart (y ∷ ys) →
    ((z : Place) → Among z (y ∷ ys) → p z ≡ true → z ≡ x) → (Among x ys → filter p ys ≡ x ∷ []) → cond b (y ∷ filter p ys) (filter p ys) ≡ x ∷ []
only_by true p x y ys e a passes apart one rest =
    let is : y ≡ x = one y (inl refl) e in
    ap (λ l. y ∷ l) (filter_none p ys (λ z within. elim (tested (p z)) [
      | inl so ↦ absurd (of_each (λ q. y.id ≡ q.id → ⊥) ys apart.0 z within (ap (λ (q : Place). q.id) (is ∙ sym (one z (inr within) so))))
      | inr not ↦ not
    ])) ∙ ap (λ z. z ∷ []) is
only_by false p x y ys e (inl is) passes apart one rest = absurd (false≢true (sym e ∙ ap p (sym is) ∙ passes))
only_by false p x y ys e (inr a) passes apart one rest = rest a

pub only_one : (p : Place → Bool) (xs : List Place) (x : Place) → AreApart xs → Among x xs → p x ≡ true → ((z : Place) → Among z xs → p z ≡ true → z ≡ x) →
    filter p xs ≡ x ∷ []
only_one p [] x apart a passes one = absurd a
only_one p (y ∷ ys) x apart a passes one =
    only_by (p y) p x y ys refl a passes apart one (λ within. only_one p ys x apart.1 within passes (λ z w. one z (inr w)))

-- one more of another operation stays apart
pub apart_push : (xs : List Place) (x : Place) → AreApart xs → ((y : Place) → Among y xs → y.id ≡ x.id → ⊥) → AreApart (xs ++ x ∷ [])
apart_push [] x apart new = (tt, tt)
apart_push (y ∷ ys) x apart new = (
  each_of (λ q. y.id ≡ q.id → ⊥) (ys ++ x ∷ []) (λ q a. elim (among_either ys (x ∷ []) q a) [
    | inl old ↦ of_each (λ q. y.id ≡ q.id → ⊥) ys apart.0 q old
    | inr last ↦ elim last [ inl is ↦ λ e. new y (inl refl) (e ∙ ap (λ (q : Place). q.id) is) | inr none ↦ absurd none ]
  ]),
  apart_push ys x apart.1 (λ z a. new z (inr a)),
)

-- ---- numbers that rise along rising places

pub steps_along : (ps : List Place) → Rises ps → Along (λ p. p.step) ps
steps_along [] h = tt
steps_along (p ∷ ps) h = (each_of (λ (q : Place). p.step ≤ q.step) ps (λ q a. steps_rise p q (of_each (λ q. is_before q p ≡ false) ps h.0 q a)), steps_along ps h.1)

-- the same of a further number where the ones before it are the same
pub number_of : Bool → ℕ
number_of false = 0
number_of true = 1

pub rises_filter : (t : Place → Bool) (ps : List Place) → Rises ps → Rises (filter t ps)
rises_filter t [] h = tt
rises_filter t (p ∷ ps) h = kept (t p) p (filter t ps) (each_filter (λ q. is_before q p ≡ false) t ps h.0) (rises_filter t ps h.1)
  where
    kept : (b : Bool) (x : Place) (xs : List Place) → Each (λ q. is_before q x ≡ false) xs → Rises xs → Rises (cond b (x ∷ xs) xs)
    kept true x xs first rest = (first, rest)
    kept false x xs first rest = rest

-- ---- the parts of a place, as numbers

-- late places first
abbrev pub timing : Place → ℕ
timing p = number_of p.on_time

-- then what changes something
abbrev pub role : Place → ℕ
role p = number_of p.changed_nothing

pub number_below : (b : Bool) → number_of b < 2
unfolding number_of
number_below true = omega arith
number_below false = omega arith

pub number_false : (b : Bool) → number_of b ≡ 0 → b ≡ false
unfolding number_of
number_false false e = refl
number_false true e = cc e

pub number_true : (b : Bool) → number_of b ≡ 1 → b ≡ true
unfolding number_of
number_true true e = refl
number_true false e = cc e

pub false_number : (b : Bool) → b ≡ false → number_of b ≡ 0
unfolding number_of
false_number b e = ap number_of e

pub true_number : (b : Bool) → b ≡ true → number_of b ≡ 1
unfolding number_of
true_number b e = ap number_of e

bool_along : (a b r : Bool) → bool_before b a r ≡ false → number_of a ≤ number_of b
unfolding number_of
bool_along false b r e = omega arith
bool_along true true r e = omega arith
bool_along true false r e = absurd (true≢false e)

-- where a condition makes a number rise from one place to the next it rises along rising places that meet it
pub along_where : (f : Place → ℕ) (C : Place → Type 0) → ((p q : Place) → C p → C q → is_before q p ≡ false → f p ≤ f q) → (ps : List Place) → Rises ps → Each C ps → Along f ps
along_where f C up [] h each = tt
along_where f C up (p ∷ ps) h each =
    (each_of (λ q. f p ≤ f q) ps (λ q a. up p q each.0 (of_each C ps each.1 q a) (of_each (λ q. is_before q p ≡ false) ps h.0 q a)), along_where f C up ps h.1 each.1)

same_numbers : (a b : ℕ) (r : Bool) → a ≡ b → number_before b a r ≡ false → r ≡ false
same_numbers a b r same e = grind arith

same_bools : (a b r : Bool) → a ≡ b → bool_before b a r ≡ false → r ≡ false
same_bools a b r same e = grind arith

numbers_up : (a b : ℕ) (r : Bool) → number_before b a r ≡ false → a ≤ b
numbers_up a b r e = grind arith

-- late places stand before those on time of the same step
pub timing_up : (t : ℕ) (p q : Place) → p.step ≡ t → q.step ≡ t → is_before q p ≡ false → timing p ≤ timing q
timing_up t p q a b e = bool_along p.on_time q.on_time _ (same_numbers p.step q.step _ (a ∙ sym b) e)

-- then the moments rise
pub moments_up : (t : ℕ) (late : Bool) (p q : Place) → p.step ≡ t → q.step ≡ t → p.on_time ≡ late → q.on_time ≡ late → is_before q p ≡ false → p.moment ≤ q.moment
moments_up t late p q a b c d e =
    numbers_up p.moment q.moment _ (same_bools p.on_time q.on_time _ (c ∙ sym d) (same_numbers p.step q.step _ (a ∙ sym b) e))

-- and of one moment those that change something stand first
pub role_up : (t : ℕ) (late : Bool) (n : ℕ) (p q : Place) → p.step ≡ t → q.step ≡ t → p.on_time ≡ late → q.on_time ≡ late → p.moment ≡ n → q.moment ≡ n → is_before q p ≡ false → role p ≤ role q
role_up t late n p q a b c d f g e =
    bool_along p.changed_nothing q.changed_nothing _
    (same_numbers p.moment q.moment _ (f ∙ sym g) (same_bools p.on_time q.on_time _ (c ∙ sym d) (same_numbers p.step q.step _ (a ∙ sym b) e)))
