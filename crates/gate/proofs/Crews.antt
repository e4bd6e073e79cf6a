-- The rule at the start, where a crew is cut in two, and where two crews become one.
use Rattle.std.specs.Prelude.{◌≡◌, ℕ, zero, suc, ◌+◌, ◌<◌, ◌≤◌, ◌==◌, ◌⊎◌, List, [], ◌∷◌, ◌++◌, slice_set, slice_index, length, if◌then◌else◌}
use Rattle.std.proofs.Common.{refl, sym, ap, subst, ◌∙◌, inl, inr, eq-eqb, ne_eqb, arith}
use Rattle.std.proofs.lemmas.List.Elements.{All-nil}
use mathlib.Core.Option.{Option, none, some, some-injective, some-ne-none}
use lib.ListN.{get_elem?}
use Rattle.atomic_table.specs.Table.{State, Splits, Joins, Enters, opening, step}
use Rattle.atomic_table.proofs.Lists.{at_set, set_else, at_longer, at_map}
use Rattle.gate.specs.declared.objects.Entry.{Entry}
use Rattle.gate.specs.declared.rules.Part.{Part}
use Rattle.gate.specs.declared.rules.View.{View}
use Rattle.gate.specs.Logs.{Logged, fresh}
use Rattle.gate.specs.Views.{Place, crew_view, gathered, has_sat, HasSlot}
use Rattle.gate.specs.Rules.{IsKept, IsPartOf, ArePartsOf, AreNoted, IsHeld, crew, first_view, number_of, times_in_all}
use Rattle.gate.proofs.Counting.{times_after, times_pushed, times_append, times_cons, crew_once}
use Rattle.gate.proofs.Following.{followed_same}

-- the elements of a list with one more behind
at_push : {X : Type 0} (xs : List X) (x y : X) (j : ℕ) → get_elem? (xs ++ x ∷ []) j ≡ some y → (get_elem? xs j ≡ some y) ⊎ ((j ≡ length xs) × (x ≡ y))
at_push [] x y zero e = inr (refl, some-injective x y e)
at_push [] x y (suc j) e = absurd (some-ne-none y (sym e))
at_push (z ∷ xs) x y zero e = inl e
at_push (z ∷ xs) x y (suc j) e = elim (at_push xs x y j e) [ inl h ↦ inl h | inr h ↦ inr (omega (arith, h.0), h.1) ]

-- none of these has the number
abbrev pub AreOthers : {W C A : Type 0} → ℕ → List (Part W C A) → Type 0
AreOthers number [] = Unit {0}
AreOthers number (p ∷ ps) = (p.number ≡ number → ⊥) × AreOthers number ps

module _ {W C A : Type 0} (answers : ℕ → W → C → A → W → Type 0) (seats : ℕ) where
  -- ---- other owners

  -- parts stand with other owners where these agree on their numbers
  stand_with : (board : Logged W C A) (owner other : ℕ → ℕ) (seat to : ℕ) (p : Part W C A) → IsPartOf answers seats board owner seat p → other p.number ≡ to →
      IsPartOf answers seats board other to p
  stand_with board owner other seat to p stands same = record { owned = same; low = stands.low; high = stands.high; followed = stands.followed }

  each_with : (board : Logged W C A) (owner other : ℕ → ℕ) (seat to : ℕ) (ps : List (Part W C A)) → ArePartsOf answers seats board owner seat ps →
      ((number : ℕ) → owner number ≡ seat → other number ≡ to) → ArePartsOf answers seats board other to ps
  each_with board owner other seat to [] stand same = tt
  each_with board owner other seat to (p ∷ ps) stand same =
      (stand_with board owner other seat to p stand.0 (same p.number stand.0.owned), each_with board owner other seat to ps stand.1 same)

  each_append : (board : Logged W C A) (owner : ℕ → ℕ) (seat : ℕ) (ps qs : List (Part W C A)) → ArePartsOf answers seats board owner seat ps → ArePartsOf answers seats board owner seat qs →
      ArePartsOf answers seats board owner seat (ps ++ qs)
  each_append board owner seat [] qs stand more = more
  each_append board owner seat (p ∷ ps) qs stand more = (stand.0, each_append board owner seat ps qs stand.1 more)

-- ---- other views of seats that are outside

module _ {S W C A : Type 0} (answers : ℕ → W → C → A → W → Type 0) (slot_of : Logged W C A → ℕ → Option S) (word_of : ℕ → ℕ) (slots seats : ℕ) (first : W) where
  module _ (s : State S (View S W C A)) (kept : IsKept answers slot_of word_of slots seats first s) (views : List (View S W C A)) (owner : ℕ → ℕ) where
    -- who is inside in the new views was so in the old ones
    abbrev AreOld : Type 0
    AreOld = (seat : ℕ) (view : View S W C A) → get_elem? views seat ≡ some view → (view.has ≡ []) ⊎ (get_elem? s.views seat ≡ some view)

    -- who was inside is so still
    abbrev AreStill : Type 0
    AreStill = (seat : ℕ) (view : View S W C A) → get_elem? s.views seat ≡ some view → (view.has ≡ [] → ⊥) → get_elem? views seat ≡ some view

    abbrev AreOnce : Type 0
    AreOnce = (number : ℕ) → times_in_all number views ≤ 1

    abbrev HaveParts : Type 0
    HaveParts = (seat : ℕ) (view : View S W C A) → get_elem? views seat ≡ some view → ArePartsOf answers seats kept.board owner seat view.parts

    held_by : AreStill → (i : ℕ) → IsHeld i s.views → IsHeld i views
    held_by still i h = record { holder = h.holder; view = h.view; at = still h.holder h.view h.at (λ none. subst (λ xs. HasSlot i xs) none h.has); has = h.has }

    noted_by : AreOld → (seat : ℕ) (view : View S W C A) → get_elem? views seat ≡ some view → AreNoted slot_of word_of slots kept.board s.words (number_of view.parts) view.has
    noted_by old seat view at = elim (old seat view at) [
      | inl out ↦ subst (λ xs. AreNoted slot_of word_of slots kept.board s.words (number_of view.parts) xs) (sym out) tt
      | inr was ↦ kept.noted seat view was
    ]

    kept_by : AreOld → AreStill → HaveParts → AreOnce → IsKept answers slot_of word_of slots seats first (record { words = s.words; homes = s.homes; views = views })
    kept_by old still parts once = record {
      board = kept.board;
      owner = owner;
      words = kept.words;
      first_is = kept.first_is;
      legal = kept.legal;
      calls = kept.calls;
      home = kept.home;
      held = λ i within busy. held_by still i (kept.held i within busy);
      noted = noted_by old;
      parts = parts;
      once = once;
    }

-- a seat that is inside isn't one that is outside
not_outside : {S W C A : Type 0} (views : List (View S W C A)) (seat id : ℕ) (view : View S W C A) (ps : List (Part W C A)) → get_elem? views seat ≡ some view → (view.has ≡ [] → ⊥) →
    get_elem? views id ≡ some (crew_view ps) → seat ≡ id → ⊥
not_outside views seat id view ps at busy there same =
    busy (ap (λ v. v.has) (some-injective view (crew_view ps) (sym at ∙ ap (λ n. get_elem? views n) same ∙ there)))

-- ---- cutting

-- the number goes to this seat
abbrev moved_to : ℕ → ℕ → (ℕ → ℕ) → ℕ → ℕ
moved_to number seat owner other = if other == number then seat else owner other

moved_here : (number seat : ℕ) (owner : ℕ → ℕ) → moved_to number seat owner number ≡ seat
moved_here number seat owner = rw (eq-eqb number number refl) refl

moved_else : (number seat : ℕ) (owner : ℕ → ℕ) (other : ℕ) → (other ≡ number → ⊥) → moved_to number seat owner other ≡ owner other
moved_else number seat owner other apart = rw (ne_eqb other number apart) refl

each_moved : {W C A : Type 0} (answers : ℕ → W → C → A → W → Type 0) (seats : ℕ) (board : Logged W C A) (owner : ℕ → ℕ) (seat number to : ℕ) (ps : List (Part W C A)) →
    ArePartsOf answers seats board owner seat ps → AreOthers number ps → ArePartsOf answers seats board (moved_to number to owner) seat ps
each_moved answers seats board owner seat number to [] stand others = tt
each_moved answers seats board owner seat number to (p ∷ ps) stand others = (
  stand_with answers seats board owner (moved_to number to owner) seat seat p stand.0 (moved_else number to owner p.number others.0 ∙ stand.0.owned),
  each_moved answers seats board owner seat number to ps stand.1 others.1,
)

module _ {S W C A : Type 0} (answers : ℕ → W → C → A → W → Type 0) (slot_of : Logged W C A → ℕ → Option S) (word_of : ℕ → ℕ) (slots seats : ℕ) (first : W) (s : State S (View S W C A))
    (kept : IsKept answers slot_of word_of slots seats first s)
    (id : ℕ) (p : Part W C A) (ps : List (Part W C A)) (others : AreOthers p.number ps) (at_seat : get_elem? s.views id ≡ some (crew_view (p ∷ ps))) where
  abbrev shorter : List (View S W C A)
  shorter = slice_set s.views id (crew_view ps)

  abbrev cut_views : List (View S W C A)
  cut_views = shorter ++ crew_view (p ∷ []) ∷ []

  abbrev cut_owner : ℕ → ℕ
  cut_owner = moved_to p.number (length shorter) kept.owner

  stand : ArePartsOf answers seats kept.board kept.owner id (p ∷ ps)
  stand = kept.parts id (crew_view (p ∷ ps)) at_seat

  cut_old : AreOld answers slot_of word_of slots seats first s kept cut_views cut_owner
  cut_old seat view at = elim (at_push shorter (crew_view (p ∷ [])) view seat at) [
    | inl h ↦ elim (at_set s.views id seat (crew_view ps) view h) [
      | inl g ↦ inl (ap (λ (v : View S W C A). v.has) (sym g.1))
      | inr g ↦ inr g.1
    ]
    | inr h ↦ inl (ap (λ (v : View S W C A). v.has) (sym h.1))
  ]

  cut_still : AreStill answers slot_of word_of slots seats first s kept cut_views cut_owner
  cut_still seat view at busy =
      at_longer shorter _ seat view (set_else s.views id seat (crew_view ps) (not_outside s.views seat id view (p ∷ ps) at busy at_seat) ∙ at)

  -- another seat has other numbers
  cut_else : (seat number : ℕ) → (seat ≡ id → ⊥) → kept.owner number ≡ seat → cut_owner number ≡ seat
  cut_else seat number apart own = moved_else p.number (length shorter) kept.owner number (λ same. apart (sym own ∙ ap kept.owner same ∙ stand.0.owned)) ∙ own

  cut_parts_old : (seat : ℕ) (view : View S W C A) → get_elem? shorter seat ≡ some view → ArePartsOf answers seats kept.board cut_owner seat view.parts
  cut_parts_old seat view at = elim (at_set s.views id seat (crew_view ps) view at) [
    | inl h ↦ subst (λ (v : View S W C A). ArePartsOf answers seats kept.board cut_owner seat v.parts) h.1
        (subst (λ n. ArePartsOf answers seats kept.board cut_owner n ps) (sym h.0) (each_moved answers seats kept.board kept.owner id p.number (length shorter) ps stand.1 others))
    | inr h ↦ each_with answers seats kept.board kept.owner cut_owner seat seat view.parts (kept.parts seat view h.1) (λ number own. cut_else seat number h.0 own)
  ]

  cut_parts : HaveParts answers slot_of word_of slots seats first s kept cut_views cut_owner
  cut_parts seat view at = elim (at_push shorter (crew_view (p ∷ [])) view seat at) [
    | inl h ↦ cut_parts_old seat view h
    | inr h ↦ subst (λ (v : View S W C A). ArePartsOf answers seats kept.board cut_owner seat v.parts) h.1
        (stand_with answers seats kept.board kept.owner cut_owner id seat p stand.0 (moved_here p.number (length shorter) kept.owner ∙ sym h.0), tt)
  ]

  cut_once : AreOnce answers slot_of word_of slots seats first s kept cut_views cut_owner
  cut_once n = omega (
    arith,
    kept.once n,
    times_pushed n shorter (crew_view (p ∷ [])),
    times_after n s.views id (crew_view (p ∷ ps)) (crew_view ps) at_seat,
    times_cons n p ps,
    times_cons n p [],
  )

  cut_kept : IsKept answers slot_of word_of slots seats first (record { words = s.words; homes = s.homes; views = cut_views })
  cut_kept = kept_by answers slot_of word_of slots seats first s kept cut_views cut_owner cut_old cut_still cut_parts cut_once

pub cut_allowed : {S W C A : Type 0} (answers : ℕ → W → C → A → W → Type 0) (slot_of : Logged W C A → ℕ → Option S) (word_of : ℕ → ℕ) (slots seats : ℕ) (first : W) (id : ℕ) (p : Part W C A)
    (ps : List (Part W C A)) → AreOthers p.number ps →
    Splits (IsKept answers slot_of word_of slots seats first) id (crew_view (p ∷ ps)) (crew_view ps) (crew_view (p ∷ []))
cut_allowed answers slot_of word_of slots seats first id p ps others s kept at_seat = cut_kept answers slot_of word_of slots seats first s kept id p ps others at_seat

-- ---- gathering

-- all that the one seat owns goes to the other
abbrev merged : ℕ → ℕ → (ℕ → ℕ) → ℕ → ℕ
merged from to owner number = if owner number == from then to else owner number

merged_here : (from to : ℕ) (owner : ℕ → ℕ) (number : ℕ) → owner number ≡ from → merged from to owner number ≡ to
merged_here from to owner number own = rw (eq-eqb (owner number) from own) refl

merged_else : (from to : ℕ) (owner : ℕ → ℕ) (number seat : ℕ) → owner number ≡ seat → (seat ≡ from → ⊥) → merged from to owner number ≡ seat
merged_else from to owner number seat own apart = rw (ne_eqb (owner number) from (λ same. apart (sym own ∙ same))) own

module _ {S W C A : Type 0} (answers : ℕ → W → C → A → W → Type 0) (slot_of : Logged W C A → ℕ → Option S) (word_of : ℕ → ℕ) (slots seats : ℕ) (first : W) (s : State S (View S W C A))
    (kept : IsKept answers slot_of word_of slots seats first s)
    (id other : ℕ) (ps qs : List (Part W C A)) (at_seat : get_elem? s.views id ≡ some (crew_view ps))
    (apart : other ≡ id → ⊥) (at_other : get_elem? (slice_set s.views id (crew_view (ps ++ qs))) other ≡ some (crew_view qs)) where
  abbrev grown : List (View S W C A)
  grown = slice_set s.views id (crew_view (ps ++ qs))

  abbrev joined : List (View S W C A)
  joined = slice_set grown other (crew_view [])

  was_other : get_elem? s.views other ≡ some (crew_view qs)
  was_other = sym (set_else s.views id other (crew_view (ps ++ qs)) apart) ∙ at_other

  abbrev owned : ℕ → ℕ
  owned = merged other id kept.owner

  -- what is found was found, or is one of the two
  joined_at : (seat : ℕ) (view : View S W C A) → get_elem? joined seat ≡ some view →
      ((seat ≡ id) × (crew_view (ps ++ qs) ≡ view)) ⊎ (((seat ≡ other) × (crew_view [] ≡ view)) ⊎ ((seat ≡ other → ⊥) × (get_elem? s.views seat ≡ some view)))
  joined_at seat view at = elim (at_set grown other seat (crew_view []) view at) [
    | inl h ↦ inr (inl h)
    | inr h ↦ elim (at_set s.views id seat (crew_view (ps ++ qs)) view h.1) [ inl g ↦ inl g | inr g ↦ inr (inr (h.0, g.1)) ]
  ]

  join_old : AreOld answers slot_of word_of slots seats first s kept joined owned
  join_old seat view at = elim (joined_at seat view at) [
    | inl h ↦ inl (ap (λ (v : View S W C A). v.has) (sym h.1))
    | inr g ↦ elim g [ inl h ↦ inl (ap (λ (v : View S W C A). v.has) (sym h.1)) | inr h ↦ inr h.1 ]
  ]

  join_still : AreStill answers slot_of word_of slots seats first s kept joined owned
  join_still seat view at busy =
      set_else grown other seat (crew_view []) (not_outside s.views seat other view qs at busy was_other)
      ∙ set_else s.views id seat (crew_view (ps ++ qs)) (not_outside s.views seat id view ps at busy at_seat) ∙ at

  join_both : ArePartsOf answers seats kept.board owned id (ps ++ qs)
  join_both = each_append answers seats kept.board owned id ps qs
      (each_with answers seats kept.board kept.owner owned id id ps (kept.parts id (crew_view ps) at_seat) (λ number own. merged_else other id kept.owner number id own (λ same. apart (sym same))))
      (each_with answers seats kept.board kept.owner owned other id qs (kept.parts other (crew_view qs) was_other) (λ number own. merged_here other id kept.owner number own))

  join_parts : HaveParts answers slot_of word_of slots seats first s kept joined owned
  join_parts seat view at = elim (joined_at seat view at) [
    | inl h ↦ subst (λ (v : View S W C A). ArePartsOf answers seats kept.board owned seat v.parts) h.1
        (subst (λ n. ArePartsOf answers seats kept.board owned n (ps ++ qs)) (sym h.0) join_both)
    | inr g ↦ elim g [
      | inl h ↦ subst (λ (v : View S W C A). ArePartsOf answers seats kept.board owned seat v.parts) h.1 tt
      | inr h ↦ each_with answers seats kept.board kept.owner owned seat seat view.parts (kept.parts seat view h.1) (λ number own. merged_else other id kept.owner number seat own h.0)
    ]
  ]

  join_once : AreOnce answers slot_of word_of slots seats first s kept joined owned
  join_once n = omega (
    arith,
    kept.once n,
    times_after n grown other (crew_view qs) (crew_view []) at_other,
    times_after n s.views id (crew_view ps) (crew_view (ps ++ qs)) at_seat,
    times_append n ps qs,
  )

  join_kept : IsKept answers slot_of word_of slots seats first (record { words = s.words; homes = s.homes; views = joined })
  join_kept = kept_by answers slot_of word_of slots seats first s kept joined owned join_old join_still join_parts join_once

pub join_allowed : {S W C A : Type 0} (answers : ℕ → W → C → A → W → Type 0) (slot_of : Logged W C A → ℕ → Option S) (word_of : ℕ → ℕ) (slots seats : ℕ) (first : W)
    (id other : ℕ) (ps qs : List (Part W C A)) →
    Joins (IsKept answers slot_of word_of slots seats first) id (crew_view ps) other (crew_view qs) (gathered (crew_view ps) (crew_view qs)) (crew_view [])
join_allowed answers slot_of word_of slots seats first id other ps qs s kept at_seat apart at_other = join_kept answers slot_of word_of slots seats first s kept id other ps qs at_seat apart at_other

-- ---- the start

alone : {X : Type 0} (v w : X) (seat : ℕ) → get_elem? (v ∷ []) seat ≡ some w → (seat ≡ 0) × (v ≡ w)
alone v w zero e = (refl, some-injective v w e)
alone v w (suc n) e = absurd (some-ne-none w (sym e))

module _ {W C A : Type 0} (answers : ℕ → W → C → A → W → Type 0) (seats : ℕ) (start : Logged W C A) where
  crew_stands : (n number : ℕ) → 1 ≤ number → number + n ≤ seats + 1 → ArePartsOf answers seats start (λ a. 0) 0 (crew start number n)
  crew_stands zero number low high = tt
  crew_stands (suc n) number low high =
      (record { owned = refl; low = low; high = omega arith; followed = followed_same answers number start }, crew_stands n (number + 1) (omega arith) (omega arith))

-- each slot has what the board has there
abbrev pub AreSlotsOf : {S W C A : Type 0} → (Logged W C A → ℕ → Option S) → ℕ → Logged W C A → List S → Type 0
AreSlotsOf slot_of slots board xs = (i : ℕ) → i < slots → (x : _) × (get_elem? xs i ≡ some x) × (slot_of board i ≡ some x)

module _ {S W C A : Type 0} (answers : ℕ → W → C → A → W → Type 0) (slot_of : Logged W C A → ℕ → Option S) (word_of : ℕ → ℕ) (slots seats : ℕ) (first : W) where
  abbrev start : Logged W C A
  start = fresh first

  abbrev start_view : View S W C A
  start_view = first_view start seats

  pub opening_kept : (words : List ℕ) (xs : List S) → ((i : ℕ) → i < slots → word_of i < length words) → ((i : ℕ) → slice_index words i ≡ 0) → AreSlotsOf slot_of slots (fresh first) xs →
      IsKept answers slot_of word_of slots seats first (opening words xs (first_view (fresh first) seats))
  opening_kept words xs size all_zero there = record {
    board = fresh first;
    owner = λ a. 0;
    words = size;
    first_is = refl;
    legal = refl;
    calls = All-nil (λ (e : Entry C A). (1 ≤ e.seat) × (e.seat ≤ seats));
    home = λ i within free. let h = there i within in (h.0, at_map some xs i h.0 h.1, h.2);
    held = λ i within busy. absurd (busy (all_zero (word_of i)));
    noted = λ seat view at. let here = alone start_view view seat at in
        subst (λ (v : View S W C A). AreNoted slot_of word_of slots (fresh first) words (number_of v.parts) v.has) here.1 tt;
    parts = λ seat view at. let here = alone start_view view seat at in
        subst (λ (v : View S W C A). ArePartsOf answers seats (fresh first) (λ a. 0) seat v.parts) here.1
        (subst (λ n. ArePartsOf answers seats (fresh first) (λ a. 0) n (crew (fresh first) 1 seats)) (sym here.0)
        (crew_stands answers seats (fresh first) seats 1 (omega arith) (omega arith)));
    once = λ n. omega (arith, times_pushed n [] start_view, crew_once n start seats 1);
  }

  -- ---- a seat without a number

  module _ (s : State S (View S W C A)) (kept : IsKept answers slot_of word_of slots seats first s) where
    abbrev with_one : List (View S W C A)
    with_one = s.views ++ crew_view [] ∷ []

    sit_old : AreOld answers slot_of word_of slots seats first s kept with_one kept.owner
    sit_old seat view at = elim (at_push s.views (crew_view []) view seat at) [ inl h ↦ inr h | inr h ↦ inl (ap (λ (v : View S W C A). v.has) (sym h.1)) ]

    sit_parts : HaveParts answers slot_of word_of slots seats first s kept with_one kept.owner
    sit_parts seat view at = elim (at_push s.views (crew_view []) view seat at) [
      | inl h ↦ kept.parts seat view h
      | inr h ↦ subst (λ (v : View S W C A). ArePartsOf answers seats kept.board kept.owner seat v.parts) h.1 tt
    ]

    sit_kept : IsKept answers slot_of word_of slots seats first (record { words = s.words; homes = s.homes; views = with_one })
    sit_kept = kept_by answers slot_of word_of slots seats first s kept with_one kept.owner sit_old (λ seat view at busy. at_longer s.views _ seat view at) sit_parts
        (λ n. omega (arith, kept.once n, times_pushed n s.views (crew_view [])))

  pub sit_allowed : (size : ℕ) (before : Place S W C A) → Enters (IsKept answers slot_of word_of slots seats first) size 0 (λ n w. has_sat (step size 0 0 0 none) before n (w, []))
  sit_allowed size before s kept full low = (crew_view [], sit_kept s kept, refl)

-- the numbers of a crew are distinct
pub crew_others : {W C A : Type 0} (start : Logged W C A) (n number first : ℕ) → first < number → AreOthers first (crew start number n)
crew_others start zero number first low = tt
crew_others start (suc n) number first low = ((λ same. absurd (omega (arith, same, low))), crew_others start n (number + 1) first (omega (arith, low)))
