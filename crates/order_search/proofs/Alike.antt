-- States that are alike: what is known of one holds of the other.
use Rattle.std.proofs.Common.{◌≡◌, ℕ, ◌+◌, ◌<◌, ◌≤◌, inl, inr, Bool, true, false, List, [], ◌∷◌, ◌++◌, length, Option, Some, None, option_and_then, slice_get, IfSome, refl, sym, ap}
use Rattle.std.proofs.Common.{◌∙◌, subst, arith, Decides, ◌==◌, nat_eq, eqb-true, eq-eqb}
use Rattle.std.specs.FinMap as map
use Rattle.std.specs.Option.{option_eq}
use Rattle.std.specs.Cmp.Lexicographic.{pointwise}
use Rattle.std.proofs.lemmas.Slice.Eq.{slice_eq-Decides}
use Rattle.std.proofs.lemmas.Bool.{cases_lt}
use Rattle.std.proofs.lemmas.Option.{none-some, same_Some, slice_get_within}
use Rattle.order_search.specs.Vocabulary.{Access, Call, Event, Row, Table, HandleMap, HandleState, first_world, BeginsAt, Records, LeadsTo, IsAmong}
use Rattle.history.specs.declared.events.Event.TheVariants.{Begin}
use Rattle.history.specs.Histories.{Operation}
use Rattle.history.specs.Tables.{operation_of}
use Rattle.history.proofs.Places.{at_within, at_cases, at_old, at_push}
use Rattle.order_search.specs.declared.failures.Named.{Named}
use Rattle.order_search.specs.declared.failures.State.{State}
use Rattle.order_search.specs.Searching.{NoneGoesOn}
use Rattle.order_search.specs.Cells.{cell_of, access_at, value_at}
use Rattle.order_search.specs.Marks.{AreMarked, HasMark}
use Rattle.order_search.specs.States.{IsListed, AreHandles, AreKeys, IsOver, IsAhead, AreValues, IsNamed, AreNamed, IsState, Fails, IsSameMap, AreSameMaps, IsSameState}
use Rattle.order_search.proofs.Differing.{same_world, same_option}
use Rattle.order_search.proofs.Reached.{Within, of_access, of_value, within_first, within_replays}
use Rattle.order_search.proofs.Swapping.{swapped}

-- ---- worlds

-- a handle that is there in one world is in another that is named so
same_access : (handles keys : List ℕ) (v w : HandleMap) (maps : List Named) → Within handles keys v → AreNamed handles keys v maps → AreNamed handles keys w maps → (h : ℕ) (a : Access)
    → access_at v h ≡ Some a → access_at w h ≡ Some a
same_access handles keys v w maps within in_v in_w h a at =
    let state = of_access (map.get v h) a at in
    let listed = within.handle h state.0 state.1 in
    let named = in_v.all listed.0 h a listed.1 at in
    let of_v = (in_v.each named.0 named.1 named.2).0 in
    let of_w = (in_w.each named.0 named.1 named.2).0 in
    subst (λ x. access_at w x ≡ Some a) named.3 (of_w ∙ sym of_v ∙ subst (λ x. access_at v x ≡ Some a) (sym named.3) at)

same_value : (handles keys : List ℕ) (v w : HandleMap) (maps : List Named) → Within handles keys v → AreNamed handles keys v maps → AreNamed handles keys w maps → (h k x : ℕ)
    → value_at v h k ≡ Some x → value_at w h k ≡ Some x
same_value handles keys v w maps within in_v in_w h k x at =
    let state = of_value (map.get v h) k x at in
    let there : access_at v h ≡ Some (state.0).access = ap (λ (o : Option HandleState). option_and_then (λ s. Some s.access) o) state.1 in
    let listed = within.handle h state.0 state.1 in
    let key = within.key h k x state.0 state.1 state.2 in
    let named = in_v.all listed.0 h (state.0).access listed.1 there in
    let of_v = (in_v.each named.0 named.1 named.2).1 key.0 k key.1 in
    let of_w = (in_w.each named.0 named.1 named.2).1 key.0 k key.1 in
    let same : value_at w (named.1).handle k ≡ value_at v (named.1).handle k = same_Some (value_at w (named.1).handle k) (value_at v (named.1).handle k) (sym of_w ∙ of_v) in
    subst (λ q. value_at w q k ≡ Some x) named.3 (same ∙ subst (λ q. value_at v q k ≡ Some x) (sym named.3) at)

one_of_both : {X : Type 0} (o p : Option X) → ((x : X) → o ≡ Some x → p ≡ Some x) → ((x : X) → p ≡ Some x → o ≡ Some x) → o ≡ p
one_of_both None None there back = refl
one_of_both None (Some x) there back = back x refl
one_of_both (Some x) p there back = sym (there x refl)

within_led : (hash : ℕ → ℕ) (history : List Event) (handles keys ids : List ℕ) (world : HandleMap) → IsOver history handles keys → LeadsTo hash history ids world → Within handles keys world
within_led hash history handles keys ids world over leads =
    within_replays hash history handles keys ids leads.replayed.0 first_world world over leads.replayed.1 leads.replayed.2 (within_first history handles keys over)

-- worlds to which the history's operations lead, and in which the same is named, are one
same_named : (hash : ℕ → ℕ) (history : List Event) (handles keys here there : List ℕ) (v w : HandleMap) (maps : List Named) → IsOver history handles keys → LeadsTo hash history here v
    → LeadsTo hash history there w → AreNamed handles keys v maps → AreNamed handles keys w maps → w ≡ v
same_named hash history handles keys here there v w maps over leads_v leads_w in_v in_w =
    let of_v = within_led hash history handles keys here v over leads_v in
    let of_w = within_led hash history handles keys there w over leads_w in
    same_world v w
    (λ h. one_of_both (access_at w h) (access_at v h) (same_access handles keys w v maps of_w in_w in_v h) (same_access handles keys v w maps of_v in_v in_w h))
    (λ h k. one_of_both (value_at w h k) (value_at v h k) (same_value handles keys w v maps of_w in_w in_v h k) (same_value handles keys v w maps of_v in_v in_w h k))

-- ---- marks

marked_of : (history : List Event) (table : Table) (hash : ℕ → ℕ) (ids : List ℕ) (taken : List Bool) (world : HandleMap) (id : ℕ) → Records history table → LeadsTo hash history ids world
    → AreMarked history ids taken → IsAmong ids id → HasMark taken id
marked_of history table hash ids taken world id known leads marks among =
    let below = known.has_row id (leads.has_begun among.0 id among.1) in
    let sizes = known.size in
    let size = marks.size in
    let mark = at_within taken id (omega arith) in
    elim mark.0 as (λ b. slice_get taken id ≡ Some b → HasMark taken id) [ true ↦ λ at. at | false ↦ λ at. absurd ((marks.unmarked id at).0 among) ] mark.1

same_marks : (handles keys : List ℕ) (a b : List Bool) (v w : HandleMap) (state : State) (id : ℕ) → IsState handles keys a v state → IsState handles keys b w state → HasMark a id → HasMark b id
same_marks handles keys a b v w state id is_a is_b mark = elim (cases_lt id state.low) [
  | inl below ↦ is_b.low id below
  | inr above ↦ let at = is_a.ahead.1 id above mark in is_b.ahead.0 at.0 id at.1
]

-- one that is placed in one of two such states is placed in the other
same_placed : (history : List Event) (table : Table) (hash : ℕ → ℕ) (handles keys here there : List ℕ) (a b : List Bool) (v w : HandleMap) (state : State) (id : ℕ) → Records history table
    → LeadsTo hash history here v → AreMarked history here a → AreMarked history there b → IsState handles keys a v state → IsState handles keys b w state → IsAmong here id → IsAmong there id
same_placed history table hash handles keys here there a b v w state id known leads marks_a marks_b is_a is_b among =
    elim (marks_b.marked id (same_marks handles keys a b v w state id is_a is_b (marked_of history table hash here a v id known leads marks_a among))) [
      | inl there ↦ there
      | inr refused ↦ absurd (leads.not_refused among.0 id among.1 refused)
    ]

-- ---- failures

-- a state from which no order goes on
pub fails : (hash : ℕ → ℕ) (history : List Event) (table : Table) (handles keys ids : List ℕ) (taken : List Bool) (world : HandleMap) (state : State) → Records history table
    → IsOver history handles keys → LeadsTo hash history ids world → AreMarked history ids taken → IsState handles keys taken world state → NoneGoesOn hash history ids
    → Fails hash history handles keys state
fails hash history table handles keys ids taken world state known over leads marks is none = λ there marks_there w leads_there are_marked is_there more legal.
    let same : w ≡ world = same_named hash history handles keys ids there world w state.maps.items over leads leads_there is.maps is_there.maps in
    none more (swapped hash history ids there more world leads (subst (λ x. LeadsTo hash history there x) same leads_there)
    (λ id among. same_placed history table hash handles keys ids there taken marks_there world w state id known leads marks are_marked is is_there among)
    (λ id among. same_placed history table hash handles keys there ids marks_there taken w world state id known leads_there are_marked marks is_there is among)
    legal)

same_named_is : (keys : List ℕ) (world : HandleMap) (a b : Named) → IsSameMap a b → IsNamed keys world b → IsNamed keys world a
same_named_is keys world a b same is =
    let there : access_at world a.handle ≡ Some b.access = subst (λ h. access_at world h ≡ Some b.access) (sym same.handle) is.0 in
    let values : AreValues keys world a.handle b.values.items = subst (λ h. AreValues keys world h b.values.items) (sym same.handle) is.1 in
    (there ∙ ap (λ (x : Access). Some x) (sym same.access), subst (λ xs. AreValues keys world a.handle xs) (sym same.values) values)

same_maps_are : (handles keys : List ℕ) (world : HandleMap) (a b : List Named) → AreSameMaps a b → AreNamed handles keys world b → AreNamed handles keys world a
same_maps_are handles keys world a b same are = record {
  each = λ i named at.
      let size = same.size in
      let within = slice_get_within a i named at in
      let other = at_within b i (omega (arith, size, within)) in
      same_named_is keys world named other.0 (same.each i named other.0 at other.1) (are.each i other.0 other.1);
  all = λ i h access at there.
      let named = are.all i h access at there in
      let size = same.size in
      let within = slice_get_within b named.0 named.1 named.2 in
      let own = at_within a named.0 (omega (arith, size, within)) in
      (named.0, own.0, own.1, (same.each named.0 own.0 named.1 own.1 named.2).handle ∙ named.3);
}

-- a state that is the same as one that is kept
pub same_is : (handles keys : List ℕ) (taken : List Bool) (world : HandleMap) (a b : State) → IsSameState a b → IsState handles keys taken world b → IsState handles keys taken world a
same_is handles keys taken world a b same is = record {
  low = λ id lt. is.low id (subst (λ n. id < n) same.low lt);
  ahead = subst (λ n. IsAhead n taken a.ahead.items) (sym same.low) (subst (λ xs. IsAhead b.low taken xs) (sym same.ahead) is.ahead);
  maps = same_maps_are handles keys world a.maps.items b.maps.items same.maps is.maps;
}

-- what a row says of its operation
begun_so : (history : List Event) (table : Table) (id place : ℕ) (operation : Operation) (row : Row) → Records history table → BeginsAt history place id operation
    → slice_get table.rows.items id ≡ Some row → operation_of row ≡ operation
begun_so history table id place operation row known begins at =
    let is = known.row_of id row at in
    let there : BeginsAt history place id (operation_of row) = subst (λ p. BeginsAt history p id (operation_of row)) (sym (is.begins_once place operation begins)) is.begins in
    let events : Begin id row.actor row.call row.opens ≡ Begin id operation.actor operation.call operation.opens = cc (begins, there) in
    let actors : row.actor ≡ operation.actor = cc events in
    let calls : row.call ≡ operation.call = cc events in
    let handles : row.opens ≡ operation.opens = cc events in
    λ i. record { actor = actors i; call = calls i; opens = handles i }

-- the operations of a table are those of its history
pub over_of : (history : List Event) (table : Table) (handles keys : List ℕ) → Records history table → IsListed handles 0 → AreHandles table.rows.items handles → AreKeys table.rows.items keys
    → IsOver history handles keys
over_of history table handles keys known first opened on = record {
  first = first;
  opened = λ id place operation begins.
      let row = at_within table.rows.items id (known.has_row id (place, operation, begins)) in
      let same = begun_so history table id place operation row.0 known begins row.1 in
      subst (λ (o : Option ℕ). IfSome o (λ n. IsListed handles n)) (ap (λ (op : Operation). op.opens) same) (opened id row.0 row.1);
  on = λ id place operation begins.
      let row = at_within table.rows.items id (known.has_row id (place, operation, begins)) in
      let same = begun_so history table id place operation row.0 known begins row.1 in
      subst (λ (c : Call). IfSome (cell_of c) (λ cell. IsListed keys cell.key)) (ap (λ (op : Operation). op.call) same) (on id row.0 row.1);
}

-- ---- what loops have gathered

-- the marked ones from `low` on, up to an id
pub record Gathered (low : ℕ) (taken : List Bool) (id : ℕ) (ahead : List ℕ) : Type 0 where
  pub marked : (i other : ℕ) → slice_get ahead i ≡ Some other → HasMark taken other
  pub all : (other : ℕ) → low ≤ other → other < id → HasMark taken other → (i : ℕ) × (slice_get ahead i ≡ Some other)

-- what a handle's map has for the first keys
pub record Read (keys : List ℕ) (world : HandleMap) (h n : ℕ) (values : List (Option ℕ)) : Type 0 where
  pub size : length values ≡ n
  pub each : (i k : ℕ) → i < n → slice_get keys i ≡ Some k → slice_get values i ≡ Some (value_at world h k)

-- what the first handles name
pub record NamedSoFar (handles keys : List ℕ) (world : HandleMap) (n : ℕ) (maps : List Named) : Type 0 where
  pub each : (i : ℕ) (named : Named) → slice_get maps i ≡ Some named → IsNamed keys world named
  pub all : (i h : ℕ) (access : Access) → i < n → slice_get handles i ≡ Some h → access_at world h ≡ Some access
      → (j : ℕ) × (named : Named) × (slice_get maps j ≡ Some named) × (named.handle ≡ h)

pub named_on : (handles keys : List ℕ) (world : HandleMap) (n : ℕ) (maps : List Named) (named : Named) → NamedSoFar handles keys world n maps → slice_get handles n ≡ Some named.handle
    → IsNamed keys world named → NamedSoFar handles keys world (n + 1) (maps ++ named ∷ [])
named_on handles keys world n maps named so_far at is = record {
  each = λ i other at_i. elim (at_cases maps named i other at_i) [ inl old ↦ so_far.each i other old | inr new ↦ subst (λ x. IsNamed keys world x) new.1 is ];
  all = λ i h access lt at_i there. elim (cases_lt i n) [
    | inl before ↦ let found = so_far.all i h access before at_i there in (found.0, found.1, at_old maps named found.0 found.1 found.2, found.3)
    | inr here ↦
        let same : i ≡ n = omega (arith, lt, here) in
        (length maps, named, at_push maps named (length maps) refl, same_Some named.handle h (sym at ∙ ap (λ m. slice_get handles m) (sym same) ∙ at_i))
  ];
}

pub named_past : (handles keys : List ℕ) (world : HandleMap) (n h : ℕ) (maps : List Named) → NamedSoFar handles keys world n maps → slice_get handles n ≡ Some h → access_at world h ≡ None
    → NamedSoFar handles keys world (n + 1) maps
named_past handles keys world n h maps so_far at none = record {
  each = so_far.each;
  all = λ i other access lt at_i there. elim (cases_lt i n) [
    | inl before ↦ so_far.all i other access before at_i there
    | inr here ↦
        let same : i ≡ n = omega (arith, lt, here) in
        let handles_same : other ≡ h = same_Some other h (sym at_i ∙ ap (λ m. slice_get handles m) same ∙ at) in
        absurd (none-some access (sym none ∙ subst (λ x. access_at world x ≡ Some access) handles_same there))
  ];
}

pub named_all : (handles keys : List ℕ) (world : HandleMap) (n : ℕ) (maps : List Named) → NamedSoFar handles keys world n maps → length handles ≤ n → AreNamed handles keys world maps
named_all handles keys world n maps so_far all = record {
  each = so_far.each;
  all = λ i h access at. let within = slice_get_within handles i h at in so_far.all i h access (omega (arith, within, all)) at;
}

-- what the first rows name is listed
pub record Listed (Names : List ℕ → Row → Type 0) (rows : List Row) (n : ℕ) (xs : List ℕ) : Type 0 where
  pub each : (id : ℕ) (row : Row) → id < n → slice_get rows id ≡ Some row → Names xs row

abbrev pub Opens : List ℕ → Row → Type 0
Opens handles row = IfSome row.opens (λ h. IsListed handles h)

abbrev pub IsOn : List ℕ → Row → Type 0
IsOn keys row = IfSome (cell_of row.call) (λ cell. IsListed keys cell.key)

pub listed_on : (Names : List ℕ → Row → Type 0) (rows : List Row) (n : ℕ) (xs ys : List ℕ) (row : Row) → Listed Names rows n xs → slice_get rows n ≡ Some row
    → ((other : Row) → Names xs other → Names ys other) → Names ys row → Listed Names rows (n + 1) ys
listed_on Names rows n xs ys row so_far at keeps has = record {
  each = λ id other lt at_id. elim (cases_lt id n) [
    | inl before ↦ keeps other (so_far.each id other before at_id)
    | inr here ↦
        let same : id ≡ n = omega (arith, lt, here) in
        let rows_same : row ≡ other = same_Some row other (sym at ∙ ap (λ m. slice_get rows m) (sym same) ∙ at_id) in
        subst (λ (r : Row). Names ys r) rows_same has
  ];
}

pub listed_all : (Names : List ℕ → Row → Type 0) (rows : List Row) (n : ℕ) (xs : List ℕ) → Listed Names rows n xs → length rows ≤ n → (id : ℕ) (row : Row)
    → slice_get rows id ≡ Some row → Names xs row
listed_all Names rows n xs so_far all id row at = let within = slice_get_within rows id row at in so_far.each id row (omega (arith, within, all)) at

pub some_keeps : {A : Type 0} (o : Option A) (P Q : A → Type 0) → ((a : A) → P a → Q a) → IfSome o P → IfSome o Q
some_keeps None P Q keeps is = tt
some_keeps (Some a) P Q keeps is = keeps a is

pub pushed_keeps : (xs : List ℕ) (x other : ℕ) → IsListed xs other → IsListed (xs ++ x ∷ []) other
pushed_keeps xs x other at = (at.0, at_old xs x at.0 other at.1)

pub pushed_has : (xs : List ℕ) (x : ℕ) → IsListed (xs ++ x ∷ []) x
pushed_has xs x = (length xs, at_push xs x (length xs) refl)

-- maps that are the same so far
pub record SameSoFar (a b : List Named) (n : ℕ) : Type 0 where
  pub each : (i : ℕ) (x y : Named) → i < n → slice_get a i ≡ Some x → slice_get b i ≡ Some y → IsSameMap x y

-- ---- what is kept

pub no_state : (states : List State) (i : ℕ) (state : State) → states ≡ [] → slice_get states i ≡ Some state → ⊥
no_state [] i state none at = cc at
no_state (x ∷ xs) i state none at = cc none

nat_decides : (x y : ℕ) → Decides (x == y) (x ≡ y)
nat_decides x y = (λ e. eqb-true x y e, λ e. eq-eqb x y e)

pub ids_decide : (xs ys : List ℕ) (r : Bool) → r ≡ pointwise nat_eq xs ys → Decides r (xs ≡ ys)
ids_decide = slice_eq-Decides nat_decides

same_as_itself : (a : Option ℕ) → option_eq nat_eq a a ≡ true
same_as_itself None = refl
same_as_itself (Some x) = eq-eqb x x refl

value_decides : (a b : Option ℕ) → Decides (option_eq nat_eq a b) (a ≡ b)
value_decides a b = (λ e. same_option a b e, λ e. subst (λ o. option_eq nat_eq a o ≡ true) e (same_as_itself a))

pub values_decide : (xs ys : List (Option ℕ)) (r : Bool) → r ≡ pointwise (option_eq nat_eq) xs ys → Decides r (xs ≡ ys)
values_decide = slice_eq-Decides value_decides
