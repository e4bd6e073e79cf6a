-- The load by which the one seat that is left has all slots of a class to which no handle leads.
use Rattle.history.specs.declared.calls.Call.{Call}
use Rattle.std.proofs.Common.{◌≡◌, ◌<◌, ◌≤◌, ◌==◌, inl, inr, ℕ, zero, suc, Bool, true, false, if◌then◌else◌, nat_le, List, Contains, set, slice_index, refl, sym, ap, subst, ◌∙◌, arith}
use Rattle.std.proofs.lemmas.Bool.{cases_eq, eq-eqb, le-leb, true≢false}
use Rattle.std.proofs.lemmas.List.{set-get_or}
use Rattle.std.proofs.lemmas.Option.{none-some}
use mathlib.Core.Option.{some, none}
use lib.ListN.{get_elem?}
use Rattle.atomic_table.proofs.Lists.{at_set}
use Rattle.atomic_table.specs.Table as Table
use Rattle.atomic_table.specs.Table.{Allows, Me, keeps, step}
use Rattle.machine_model.specs.Beneath.slot_arena.specs.declared.refs.Ref.{Ref}
use Rattle.lock_free.specs.declared.rules.Heard.{Heard}
use Rattle.lock_free.specs.declared.rules.View.{View}
use Rattle.lock_free.specs.declared.sizes.Sizes.{Sizes}
use Rattle.lock_free.specs.Alone.{has_recovered, is_aside, left_out, name_of, recovering, stands_in, AreMarks, HaveReferences, HasRecovered, IsByItself, Marks}
use Rattle.lock_free.specs.Cells.{loose_link, IsAside}
use Rattle.lock_free.specs.Links.{link_in}
use Rattle.lock_free.specs.Loading.{IsSound}
use Rattle.lock_free.specs.Places.{cell_word, count_word, slots_in, taken_word, words_of}
use Rattle.lock_free.specs.Shadows.{IsShadowed}
use Rattle.lock_free.specs.Rules.{IsKept, IsRuled, WasGivenUp}
use Rattle.lock_free.proofs.OneGlance.Shadowed.{lifted}
use Rattle.lock_free.proofs.Assembling.{here}
use Rattle.lock_free.proofs.EpochStays.{epochs_stay, was_then}
use Rattle.lock_free.proofs.GoneSeats.{heard_still}
use Rattle.lock_free.proofs.HeldRecovered.{held_recovered}
use Rattle.lock_free.proofs.Idle.{empty_has}
use Rattle.lock_free.proofs.LinksStay.{Knew, knew_none, knew_self, links_stay}
use Rattle.lock_free.proofs.Moments.{free_inside}
use Rattle.lock_free.proofs.OwedStay.{owed_then}
use Rattle.lock_free.proofs.Recovered.{recover_kept, view_then, MarksLed}
use Rattle.lock_free.proofs.RetiredStay.{Retires, retired_stay, retires_none, retires_self}
use Rattle.lock_free.proofs.Unmarked.{unmarked_same}

-- two marks of the same slots
both_mark : (v : View) (class : ℕ) (marks others : Marks) → AreMarks v class marks → AreMarks v class others → (n : ℕ) → n < slots_in v.sizes class → marks n ≡ others n
both_mark v class marks others are so n low = by (marks n) (others n) refl refl
  where
    by : (a b : Bool) → marks n ≡ a → others n ≡ b → marks n ≡ others n
    by true true e f = e ∙ sym f
    by false false e f = e ∙ sym f
    by true false e f = absurd (true≢false (sym ((so n low).1 ((are n low).0 e)) ∙ f))
    by false true e f = absurd (true≢false (sym ((are n low).1 ((so n low).0 f)) ∙ e))

left_by : (marked stands : Bool) → (if marked then true else stands) ≡ false → (marked ≡ false) × (stands ≡ false)
left_by true stands e = absurd (true≢false e)
left_by false stands e = (refl, e)

-- it stands in one of so many cells
stands_by : (sizes : Sizes) (words : List ℕ) (class name number n : ℕ) → link_in (slice_index words (cell_word sizes class number)) ≡ name → number < suc n →
    (number < n → stands_in sizes words class name n ≡ true) → (b : Bool) → (link_in (slice_index words (cell_word sizes class n)) == name) ≡ b →
    (if b then true else stands_in sizes words class name n) ≡ true
stands_by sizes words class name number n is low before true e = refl
stands_by sizes words class name number n is low before false e = elim (cases_eq number n) [
  | inl same ↦ absurd (true≢false (sym (eq-eqb (link_in (slice_index words (cell_word sizes class n))) name (ap (λ k. link_in (slice_index words (cell_word sizes class k))) (sym same) ∙ is)) ∙ e))
  | inr differs ↦ before (omega (arith, low, differs))
]

stands_there : (sizes : Sizes) (words : List ℕ) (class name number : ℕ) → link_in (slice_index words (cell_word sizes class number)) ≡ name → (n : ℕ) → number < n →
    stands_in sizes words class name n ≡ true
unfolding stands_in
stands_there sizes words class name number is zero low = absurd (omega (arith, low))
stands_there sizes words class name number is (suc n) low =
    stands_by sizes words class name number n is low (λ less. stands_there sizes words class name number is n less) (link_in (slice_index words (cell_word sizes class n)) == name) refl

true_anyway : (b : Bool) → (if b then true else true) ≡ true
true_anyway true = refl
true_anyway false = refl

aside_there : (sizes : Sizes) (words : List ℕ) (class name : ℕ) → IsAside sizes words class name → is_aside sizes words class name ≡ true
aside_there sizes words class name (inl (number, h)) =
    ap (λ b. if b then true else nat_le loose_link (link_in (slice_index words (count_word sizes class name)))) (stands_there sizes words class name number h.1 32 h.0.1)
aside_there sizes words class name (inr h) =
    ap (λ b. if stands_in sizes words class name 32 then true else b) (le-leb loose_link (link_in (slice_index words (count_word sizes class name))) h.2)
    ∙ true_anyway (stands_in sizes words class name 32)

module _ (v : View) (some_seats : 1 ≤ v.sizes.seats) (s : Table.State Call View) (ruled : IsRuled v.sizes s) (id : ℕ) (at : get_elem? s.views id ≡ some v) (it : IsByItself v) (class : ℕ)
    (small : class < 3) (marks : Marks) (are : AreMarks v class marks) (counted : HaveReferences v class marks) where
  abbrev pub heard : (h : Heard) → Contains v.heard h → WasGivenUp s.views h
  heard = ruled.heard id v at

  -- what stands in cells, or is loose, is left out
  abbrev pub them : Marks
  them = left_out v.sizes s.words class marks

  pub led : MarksLed v class them
  led number few l = ap (λ b. if b then true else is_aside v.sizes s.words class (name_of v.sizes class number)) ((are number few).1 l)

  abbrev pub w : View
  w = view_then v s ruled.kept heard id at it class small them led

  -- it holds no reference, since it is pinned nowhere
  unowed : (k : Ref) → Contains v.owed k → ⊥
  unowed k c = let p = ruled.owed.pinned id v at k c in none-some p.0 (sym it.rests.pin ∙ p.1)

  kept_then : IsKept v.sizes (record { words = s.words; homes = s.homes; views = set s.views id w })
  kept_then =
      recover_kept v s ruled.kept heard id at it class small them led
      (held_recovered v s ruled.kept heard id at it class small them led unowed
      (λ number few left. counted (slice_index s.words (taken_word class)) (record { table = s; kept = ruled.kept; heard = heard; id = id; at = at; finds = refl }) number few
      (left_by (marks number) (is_aside v.sizes s.words class (name_of v.sizes class number)) left).0))
      (λ number few left aside. (let none = (left_by (marks number) (is_aside v.sizes s.words class (name_of v.sizes class number)) left).1 in
      true≢false (sym (aside_there v.sizes s.words class (name_of v.sizes class number) aside) ∙ none)))

  retires : (k : ℕ) (x : View) → get_elem? (set s.views id w) k ≡ some x → Retires s.views k x
  retires k x e = elim (at_set s.views id k w x e) [
    | inl p ↦ subst (Retires s.views k) p.1 (retires_none refl it.rests.pin)
    | inr p ↦ retires_self s.views k x p.1
  ]

  knows : (k : ℕ) (x : View) → get_elem? (set s.views id w) k ≡ some x → Knew s.views x
  knows k x e = elim (at_set s.views id k w x e) [
    | inl p ↦ subst (Knew s.views) p.1 (knew_none refl)
    | inr p ↦ knew_self s.views k x p.1
  ]

  pub ruled_then : IsRuled v.sizes (record { words = s.words; homes = s.homes; views = set s.views id w })
  ruled_then = record {
    kept = kept_then;
    epochs =
        epochs_stay s.words s.words s.views (set s.views id w) refl (was_then s.views id v at w
        (record { actor = refl; epoch = refl; passed = refl; glance = refl; pinned = λ p is. is })) ruled.epochs;
    retired = retired_stay v.sizes s.words s.words s.views (set s.views id w) (omega arith) retires ruled.retired;
    owed = owed_then s.views id v at w (λ k c. (c, refl)) (λ x c. absurd (empty_has x c)) ruled.owed;
    linked = links_stay v.sizes s.words s.words s.views (set s.views id w) (λ c is. refl) knows ruled.linked;
    heard = heard_still s.views id v at some_seats w refl ruled.heard;
  }

  pub sound_then : IsSound (words_of v.sizes) w
  sound_then = record {
    size = refl;
    range = ruled.kept.range.within;
    bounds = ruled.kept.bounds;
    keys = ruled.kept.keys;
    counted = ruled.kept.counted;
    inside = ruled.kept.nodes.inside;
    free = free_inside w (record { words = s.words; homes = s.homes; views = set s.views id w }) kept_then id (here v.sizes s ruled.kept id v at w refl refl);
  }

  -- whatever the marks are by which the class is said
  pub has_them : (b : ℕ) (others : Marks) → b < 3 → taken_word class ≡ taken_word b → AreMarks v b others → HasRecovered v b others (slice_index s.words (taken_word class)) w
  has_them b others low same so =
      let one : class ≡ b = omega (arith, same) in
      subst (λ c. (others : Marks) → AreMarks v c others → HasRecovered v c others (slice_index s.words (taken_word class)) w) one
      (λ these are_these. (
        record { table = s; kept = ruled.kept; heard = heard; id = id; at = at; finds = refl },
        ap (recovering v ruled.kept.account class)
            (unmarked_same v.sizes class them (left_out v.sizes s.words class these) (slice_index s.words (taken_word class))
            (λ m few. (let most = ruled.kept.taken class small in
            ap (λ b. if b then true else is_aside v.sizes s.words class (name_of v.sizes class m)) (both_mark v class marks these are are_these m (omega (arith, few, most)))))),
      )) others so

-- the word is one of the table's
pub taken_inside : (n : ℕ) (v : View) → IsSound n v → (class : ℕ) → class < 3 → taken_word class < n
taken_inside n v sound class small = let size = sound.size in omega (arith, size, small)

pub recover_allowed : (sizes : Sizes) (size id : ℕ) (me : Me Call View) (some_seats : 1 ≤ me.0.sizes.seats) → IsByItself me.0 → (class : ℕ) → class < 3 → (marks : Marks) →
    AreMarks me.0 class marks → HaveReferences me.0 class marks → (word : ℕ) → word ≡ taken_word class → Allows (IsShadowed sizes) size id me word (λ n. n) (has_recovered (step size word 0 0 none) me)
recover_allowed sizes size id me some_seats it class small marks are counted word is =
    subst (λ i. Allows (IsShadowed sizes) size id me i (λ n. n) (has_recovered (step size i 0 0 none) me)) (sym is) allows
  where
    allows : Allows (IsShadowed sizes) size id me (taken_word class) (λ n. n) (has_recovered (step size (taken_word class) 0 0 none) me)
    allows =
        lifted sizes size id me (taken_word class) (λ n. n) (has_recovered (step size (taken_word class) 0 0 none) me) some_seats
        (λ s ruled at.
        (let its = (ruled.kept.seats id me.0 at).same some_seats in
        let own = subst (λ z. IsRuled z s) (sym its) ruled in
        let after = w me.0 some_seats s own id at it class small marks are counted in
        let same = sym (set-get_or s.words (taken_word class) 0) in (
          after,
          keeps,
          (inr refl, refl, λ shown. shown),
          tt,
          subst (λ ws. IsRuled sizes (record { words = ws; homes = s.homes; views = set s.views id after })) same
              (subst (λ z. IsRuled z (record { words = s.words; homes = s.homes; views = set s.views id after })) its (ruled_then me.0 some_seats s own id at it class small marks are counted)),
          (λ b others few e so. has_them me.0 some_seats s own id at it class small marks are counted b others few e so, sound_then me.0 some_seats s own id at it class small marks are counted, refl),
        )))
