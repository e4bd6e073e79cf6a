-- Lists of references, filtered.
use Rattle.std.proofs.Common.{◌≡◌, ℕ, ◌≤◌, ◌==◌, ◌&&◌, not, Bool, true, false, cond, List, [], ◌∷◌, filter, All, refl, sym, ap, ◌∙◌, inl, inr, arith}
use Rattle.std.proofs.lemmas.Bool.{cases_eq, false≢true}
use Rattle.std.proofs.lemmas.List.Elements.{All-head, All-tail}
use Rattle.slot_arena.specs.declared.refs.Ref.{Ref}
use Rattle.slot_arena.specs.Refs.{slot_of}
use Rattle.slot_arena.specs.Times.{times, other_slots}
use Rattle.slot_arena.specs.Tallies.{naming}
use Rattle.slot_arena.proofs.Times.{once, once_same, once_other, times-cons}
use Rattle.slot_arena.proofs.Namings.{naming-cons}

-- a slot stands in a list at least as often as its reference
pub times-le-naming : (r : Ref) (rs : List Ref) → times r rs ≤ naming (slot_of r) rs
times-le-naming r [] = omega arith
times-le-naming r (q ∷ rs) = elim (cases_eq r q) [
  | inl same ↦ omega (
    arith,
    times-cons r q rs,
    naming-cons (slot_of r) q rs,
    times-le-naming r rs,
    ap (once (slot_of r)) (ap slot_of (sym same)),
    once_same (slot_of r),
    ap (once r) (sym same),
    once_same r,
  )
  | inr other ↦ omega (arith, times-cons r q rs, naming-cons (slot_of r) q rs, times-le-naming r rs, once_other r q other)
]

-- ---- filters that agree

-- two tests that agree on what a list has
pub filter_same : (P : Ref → Type 0) (p q : Ref → Bool) → ((r : Ref) → P r → p r ≡ q r) → (rs : List Ref) → All P rs → filter p rs ≡ filter q rs
filter_same P p q agree [] all = refl
filter_same P p q agree (r ∷ rs) all =
    ap (λ b. cond b (r ∷ filter p rs) (filter p rs)) (agree r (All-head P r rs all)) ∙ ap (λ l. cond (q r) (r ∷ l) l) (filter_same P p q agree rs (All-tail P r rs all))

pub filter_all : (P : Ref → Type 0) (p : Ref → Bool) → ((r : Ref) → P r → p r ≡ true) → (rs : List Ref) → All P rs → filter p rs ≡ rs
filter_all P p agree [] all = refl
filter_all P p agree (r ∷ rs) all =
    ap (λ b. cond b (r ∷ filter p rs) (filter p rs)) (agree r (All-head P r rs all)) ∙ ap (λ l. r ∷ l) (filter_all P p agree rs (All-tail P r rs all))

-- the others of a filtered list
others_step : (k : ℕ) (p q : Ref → Bool) (r : Ref) (rs : List Ref) (b c : Bool) → p r ≡ b → (slot_of r == k) ≡ c → (not c && b) ≡ q r → other_slots k (filter p rs) ≡ filter q rs →
    other_slots k (cond b (r ∷ filter p rs) (filter p rs)) ≡ filter q (r ∷ rs)
others_step k p q r rs true true e f agree rest =
    ap (λ c. cond (not c) (r ∷ other_slots k (filter p rs)) (other_slots k (filter p rs))) f ∙ rest ∙ ap (λ c. cond c (r ∷ filter q rs) (filter q rs)) agree
others_step k p q r rs true false e f agree rest =
    ap (λ c. cond (not c) (r ∷ other_slots k (filter p rs)) (other_slots k (filter p rs))) f ∙ ap (λ l. r ∷ l) rest ∙ ap (λ c. cond c (r ∷ filter q rs) (filter q rs)) agree
others_step k p q r rs false true e f agree rest = rest ∙ ap (λ c. cond c (r ∷ filter q rs) (filter q rs)) agree
others_step k p q r rs false false e f agree rest = rest ∙ ap (λ c. cond c (r ∷ filter q rs) (filter q rs)) agree

pub others_filter : (P : Ref → Type 0) (k : ℕ) (p q : Ref → Bool) → ((r : Ref) → P r → (not (slot_of r == k) && p r) ≡ q r) → (rs : List Ref) → All P rs → other_slots k (filter p rs) ≡ filter q rs
others_filter P k p q agree [] all = refl
others_filter P k p q agree (r ∷ rs) all =
    ap (λ b. other_slots k (cond b (r ∷ filter p rs) (filter p rs))) refl
    ∙ others_step k p q r rs (p r) (slot_of r == k) refl refl (agree r (All-head P r rs all)) (others_filter P k p q agree rs (All-tail P r rs all))

-- a filter that keeps a slot's references
naming_step : (k : ℕ) (p : Ref → Bool) (r : Ref) (rs : List Ref) (b : Bool) → p r ≡ b → (slot_of r ≡ k → p r ≡ true) → naming k (filter p rs) ≡ naming k rs →
    naming k (cond b (r ∷ filter p rs) (filter p rs)) ≡ naming k (r ∷ rs)
naming_step k p r rs true e keeps rest = omega (arith, naming-cons k r (filter p rs), naming-cons k r rs)
naming_step k p r rs false e keeps rest = omega (arith, naming-cons k r rs, once_other k (slot_of r) (λ same. false≢true (sym e ∙ keeps (sym same))))

pub naming_kept : (k : ℕ) (p : Ref → Bool) → ((r : Ref) → slot_of r ≡ k → p r ≡ true) → (rs : List Ref) → naming k (filter p rs) ≡ naming k rs
naming_kept k p keeps [] = refl
naming_kept k p keeps (r ∷ rs) = naming_step k p r rs (p r) refl (keeps r) (naming_kept k p keeps rs)
