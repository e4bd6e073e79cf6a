-- Lists that closings cut: where one cuts, the order of the whole is that of the parts, one behind the other.
use Rattle.std.specs.Prelude.{◌≡◌, ℕ, zero, suc, ◌+◌, ◌<◌, ◌≤◌, Bool, true, false, not, cond, nat_lt, List, [], ◌∷◌, ◌++◌, map, take, drop, length, count_by, All, Some, None, unwrap_or, refl}
use Rattle.std.specs.List.{position, position_or_len}
use Rattle.std.proofs.Common.{arith, ap, sym, ◌∙◌}
use Rattle.std.proofs.lemmas.Bool.Decides.{nat_tests}
use Rattle.std.proofs.lemmas.List.{take-append-drop, map-append, append_assoc}
use Rattle.std.proofs.lemmas.List.Elements.{All-nil, All-cons, All-head, All-tail, All-push, All-weaker}
use Rattle.std.proofs.lemmas.List.Sums.{sum_by-append}
use Rattle.places.specs.declared.place.Place.{Place}
use Rattle.places.specs.Places.{is_before, rising, ids_by_place}
use Rattle.places.specs.Segments.{IsCut, AreCut}
use Rattle.places.proofs.Comparing.{lower_before}
use Rattle.ctrie_base.proofs.Sorting.{Alike, count_more}
use Rattle.places.proofs.Rising.{Rises, rising_rises, rising_counts, rising_alike, same_rising}

-- the place is above the closing
abbrev pub above : ℕ → Place → Bool
above closing place = nat_lt closing place.step

-- none of the places is above the closing
abbrev pub AreUpTo : ℕ → List Place → Type 0
AreUpTo closing places = count_by (above closing) places ≡ 0

abbrev pub AreAbove : ℕ → List Place → Type 0
AreAbove closing places = count_by (λ place. not (above closing place)) places ≡ 0

-- how many places from the front on are up to it
abbrev pub reach : ℕ → List Place → ℕ
reach closing places = position_or_len (above closing) places

-- ---- tests of one place

head_up_to : (c : ℕ) (p : Place) (ps : List Place) → AreUpTo c (p ∷ ps) → p.step ≤ c
head_up_to c p ps h = tested (above c p) refl
  where
    tested : (b : Bool) → above c p ≡ b → p.step ≤ c
    tested true e = absurd (omega (arith, h, count_more (above c) p ps, ap {B = ℕ} (λ x. cond x 1 0) e))
    tested false e = grind (arith, nat_tests, e)

rest_up_to : (c : ℕ) (p : Place) (ps : List Place) → AreUpTo c (p ∷ ps) → AreUpTo c ps
rest_up_to c p ps h = omega (arith, h, count_more (above c) p ps)

head_above : (c : ℕ) (p : Place) (ps : List Place) → AreAbove c (p ∷ ps) → c < p.step
head_above c p ps h = tested (above c p) refl
  where
    tested : (b : Bool) → above c p ≡ b → c < p.step
    tested true e = grind (arith, nat_tests, e)
    tested false e = absurd (omega (arith, h, count_more (λ place. not (above c place)) p ps, ap {B = ℕ} (λ x. cond (not x) 1 0) e))

more_up_to : (c : ℕ) (p : Place) (ps : List Place) → above c p ≡ false → AreUpTo c ps → AreUpTo c (p ∷ ps)
more_up_to c p ps e h = omega (arith, h, count_more (above c) p ps, ap {B = ℕ} (λ x. cond x 1 0) e)

pub up_to_from_all : (c : ℕ) (ps : List Place) → All (λ p. p.step ≤ c) ps → AreUpTo c ps
up_to_from_all c [] h = refl
up_to_from_all c (p ∷ ps) h =
    let first = All-head (λ (p : Place). p.step ≤ c) p ps h in
    more_up_to c p ps (grind (arith, nat_tests, first)) (up_to_from_all c ps (All-tail (λ p. p.step ≤ c) p ps h))

above_from_all : (c : ℕ) (ps : List Place) → All (λ p. c < p.step) ps → AreAbove c ps
above_from_all c [] h = refl
above_from_all c (p ∷ ps) h =
    let first = All-head (λ (p : Place). c < p.step) p ps h in
    let test : above c p ≡ true = grind (arith, nat_tests, first) in
    let rest = above_from_all c ps (All-tail (λ p. c < p.step) p ps h) in
    omega (arith, rest, count_more (λ place. not (above c place)) p ps, ap {B = ℕ} (λ x. cond (not x) 1 0) test)

-- ---- the parts on both sides of a closing

taken_by : (c : ℕ) (p : Place) (ps : List Place) (b : Bool) → above c p ≡ b → AreUpTo c (take (reach c ps) ps) → AreUpTo c (take (cond (not b) (1 + reach c ps) 0) (p ∷ ps))
taken_by c p ps true e h = refl
taken_by c p ps false e h = rw (next (reach c ps)) (more_up_to c p (take (reach c ps) ps) e h)
  where
    next : (n : ℕ) → 1 + n ≡ suc n
    next n = omega arith

pub front_up_to : (c : ℕ) (ps : List Place) → AreUpTo c (take (reach c ps) ps)
front_up_to c [] = refl
front_up_to c (p ∷ ps) = taken_by c p ps (above c p) refl (front_up_to c ps)

left_by : (c : ℕ) (p : Place) (ps : List Place) (b : Bool) → above c p ≡ b → IsCut c (p ∷ ps) → AreAbove c (drop (reach c ps) ps) →
    AreAbove c (drop (cond (not b) (1 + reach c ps) 0) (p ∷ ps))
left_by c p ps true e h rest =
    let less : c < p.step = grind (arith, nat_tests, e) in
    above_from_all c (p ∷ ps) (All-cons (λ q. c < q.step) p ps less (h.0 less))
left_by c p ps false e h rest = rw (next (reach c ps)) rest
  where
    next : (n : ℕ) → 1 + n ≡ suc n
    next n = omega arith

pub back_above : (c : ℕ) (ps : List Place) → IsCut c ps → AreAbove c (drop (reach c ps) ps)
back_above c [] h = refl
back_above c (p ∷ ps) h = left_by c p ps (above c p) refl h (back_above c ps h.1)

-- ---- rising lists one behind the other

pub rise_joined : (c : ℕ) (ps qs : List Place) → Rises ps → Rises qs → AreUpTo c ps → AreAbove c qs → Rises (ps ++ qs)
rise_joined c [] qs h k low high = k
rise_joined c (p ∷ []) [] h k low high = tt
rise_joined c (p ∷ []) (q ∷ qs) h k low high = (lower_before p q (omega (arith, head_up_to c p [] low, head_above c q qs high)), k)
rise_joined c (p ∷ r ∷ ps) qs h k low high = (h.0, rise_joined c (r ∷ ps) qs h.1 k (rest_up_to c p (r ∷ ps) low) high)

pub counts_joined : (t : Place → Bool) (ps qs : List Place) → count_by t (ps ++ qs) ≡ count_by t ps + count_by t qs
counts_joined t ps qs = sum_by-append (λ p. cond (t p) 1 0) ps qs

counts_parted : (t : Place → Bool) (n : ℕ) (ps : List Place) → count_by t ps ≡ count_by t (take n ps) + count_by t (drop n ps)
counts_parted t n ps = ap (count_by t) (sym (take-append-drop n ps)) ∙ counts_joined t (take n ps) (drop n ps)

-- the part of two lists up to a closing, and the part above it
abbrev front : ℕ → List Place → List Place → List Place
front c ps qs = take (reach c ps) ps ++ take (reach c qs) qs

abbrev back : ℕ → List Place → List Place → List Place
back c ps qs = drop (reach c ps) ps ++ drop (reach c qs) qs

front_low : (c : ℕ) (ps qs : List Place) → AreUpTo c (rising (front c ps qs))
front_low c ps qs =
    rising_counts (front c ps qs) (above c) ∙ counts_joined (above c) (take (reach c ps) ps) (take (reach c qs) qs)
    ∙ (let one = front_up_to c ps in let two = front_up_to c qs in omega (arith, one, two))

back_high : (c : ℕ) (ps qs : List Place) → IsCut c ps → IsCut c qs → AreAbove c (rising (back c ps qs))
back_high c ps qs h k =
    rising_counts (back c ps qs) (λ p. not (above c p)) ∙ counts_joined (λ p. not (above c p)) (drop (reach c ps) ps) (drop (reach c qs) qs)
    ∙ (let one = back_above c ps h in let two = back_above c qs k in omega (arith, one, two))

parted_alike : (c : ℕ) (ps qs : List Place) → Alike (ps ++ qs) (rising (front c ps qs) ++ rising (back c ps qs))
parted_alike c ps qs t =
    omega (
      arith,
      counts_joined t ps qs,
      counts_parted t (reach c ps) ps,
      counts_parted t (reach c qs) qs,
      counts_joined t (rising (front c ps qs)) (rising (back c ps qs)),
      rising_counts (front c ps qs) t,
      rising_counts (back c ps qs) t,
      counts_joined t (take (reach c ps) ps) (take (reach c qs) qs),
      counts_joined t (drop (reach c ps) ps) (drop (reach c qs) qs),
    )

rising_parted : (c : ℕ) (ps qs : List Place) → IsCut c ps → IsCut c qs → rising (front c ps qs) ++ rising (back c ps qs) ≡ rising (ps ++ qs)
rising_parted c ps qs h k =
    same_rising (rising (front c ps qs) ++ rising (back c ps qs)) (rising (ps ++ qs))
    (rise_joined c (rising (front c ps qs)) (rising (back c ps qs)) (rising_rises (front c ps qs)) (rising_rises (back c ps qs)) (front_low c ps qs) (back_high c ps qs h k))
    (rising_rises (ps ++ qs))
    (λ t. sym (parted_alike c ps qs t) ∙ sym (rising_counts (ps ++ qs) t))

-- the order of two lists that a closing cuts: that of the parts up to it, and behind it that of the others
pub ids_parted : (c : ℕ) (ps qs : List Place) → IsCut c ps → IsCut c qs →
    ids_by_place (take (reach c ps) ps ++ take (reach c qs) qs) ++ ids_by_place (drop (reach c ps) ps ++ drop (reach c qs) qs) ≡ ids_by_place (ps ++ qs)
unfolding ids_by_place
ids_parted c ps qs h k =
    sym (map-append (λ (p : Place). p.id) (rising (front c ps qs)) (rising (back c ps qs))) ∙ ap (map (λ p. p.id)) (rising_parted c ps qs h k)

pub ids_alike : (ps qs : List Place) → Alike ps qs → ids_by_place ps ≡ ids_by_place qs
unfolding ids_by_place
ids_alike ps qs alike = ap (map (λ p. p.id)) (rising_alike ps qs alike)

-- one segment more: what was joined, and behind it the order of what is left
pub joined_more : (c : ℕ) (left late front late_front behind late_behind : List Place) (n m : ℕ) (order more whole : List ℕ) →
    n ≡ reach c left → m ≡ reach c late → front ≡ take n left → late_front ≡ take m late → behind ≡ drop n left → late_behind ≡ drop m late → IsCut c left → IsCut c late →
    more ≡ order ++ ids_by_place (front ++ late_front) → order ++ ids_by_place (left ++ late) ≡ whole → more ++ ids_by_place (behind ++ late_behind) ≡ whole
joined_more c left late front late_front behind late_behind n m order more whole en em ef elf eb elb h k appended before =
    rw (appended, ef, elf, eb, elb, en, em)
    (append_assoc order (ids_by_place (take (reach c left) left ++ take (reach c late) late)) (ids_by_place (drop (reach c left) left ++ drop (reach c late) late))
    ∙ ap (λ ids. order ++ ids) (ids_parted c left late h k) ∙ before)

-- ---- which lists are cut

pub drop_cut : (c n : ℕ) (ps : List Place) → IsCut c ps → IsCut c (drop n ps)
drop_cut c zero ps h = h
drop_cut c (suc n) [] h = tt
drop_cut c (suc n) (p ∷ ps) h = drop_cut c n ps h.1

pub drop_all : (cs : List ℕ) (n : ℕ) (ps : List Place) → AreCut cs ps → AreCut cs (drop n ps)
drop_all cs n ps = All-weaker (λ c. IsCut c ps) (λ c. IsCut c (drop n ps)) (λ c. drop_cut c n ps) cs

-- one more above the closing
pub push_cut : (c : ℕ) (ps : List Place) (p : Place) → c < p.step → IsCut c ps → IsCut c (ps ++ p ∷ [])
push_cut c [] p less h = (λ before. All-nil (λ q. c < q.step), tt)
push_cut c (q ∷ ps) p less h = (λ before. All-push (λ q. c < q.step) ps p (h.0 before) less, push_cut c ps p less h.1)

-- where none is above it
pub low_cut : (c : ℕ) (ps : List Place) → AreUpTo c ps → IsCut c ps
low_cut c [] h = tt
low_cut c (p ∷ ps) h = (λ less. absurd (omega (arith, less, head_up_to c p ps h)), low_cut c ps (rest_up_to c p ps h))

pub steps_rise : (p q : Place) → is_before q p ≡ false → p.step ≤ q.step
steps_rise p q e = tested (nat_lt q.step p.step) refl
  where
    tested : (b : Bool) → nat_lt q.step p.step ≡ b → p.step ≤ q.step
    tested true lower = grind (arith, nat_tests, e, lower)
    tested false e = grind (arith, nat_tests, e)

behind_above : (c : ℕ) (p : Place) (ps : List Place) → Rises (p ∷ ps) → c < p.step → All (λ q. c < q.step) ps
behind_above c p [] h less = All-nil (λ q. c < q.step)
behind_above c p (q ∷ ps) h less =
    let up : c < q.step = omega (arith, less, steps_rise p q h.0) in All-cons (λ q. c < q.step) q ps up (behind_above c q ps h.1 up)

-- rising places are cut
pub rising_cut : (c : ℕ) (ps : List Place) → Rises ps → IsCut c ps
rising_cut c [] h = tt
rising_cut c (p ∷ []) h = (λ less. All-nil (λ q. c < q.step), tt)
rising_cut c (p ∷ q ∷ ps) h = (behind_above c p (q ∷ ps) h, rising_cut c (q ∷ ps) h.1)

-- ---- searching for the end of a part

up_by : (t : Place → Bool) (p : Place) (ps : List Place) (b : Bool) → position_or_len t ps ≤ length ps → cond (not b) (1 + position_or_len t ps) 0 ≤ length (p ∷ ps)
up_by t p ps true h = omega arith
up_by t p ps false h = omega (arith, h)

within : (t : Place → Bool) (ps : List Place) → position_or_len t ps ≤ length ps
within t [] = omega arith
within t (p ∷ ps) = up_by t p ps (t p) (within t ps)

found_by : (n k : ℕ) (b : Bool) → nat_lt n k ≡ b → n ≤ k → unwrap_or (cond b (Some n) None) k ≡ n
found_by n k true e up = refl
found_by n k false e up = grind (arith, nat_tests, e, up)

-- the index that was found, or the length
pub found : (t : Place → Bool) (ps : List Place) → unwrap_or (position t ps) (length ps) ≡ position_or_len t ps
found t ps = found_by (position_or_len t ps) (length ps) (nat_lt (position_or_len t ps) (length ps)) refl (within t ps)
