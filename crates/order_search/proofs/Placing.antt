-- What the calls of a way make of it.
use Rattle.std.proofs.Common.{◌≡◌, ◌↔◌, ℕ, ◌<◌, ◌≤◌, ◌+◌, inl, inr, Bool, true, false, IsTrue, List, [], ◌∷◌, ◌++◌, length, take, set, Option, Some, None, option_to_list}
use Rattle.std.proofs.Common.{unwrap_or, slice_get, IfSome, refl, sym, ap, ◌∙◌, subst, arith}
use Rattle.std.proofs.lemmas.Bool.{true≢false}
use Rattle.std.proofs.lemmas.List.{length-append}
use Rattle.std.proofs.Math.Seq.{take-append_seam}
use Rattle.order_search.specs.Vocabulary.{Reply, NoSlots, Event, Row, Table, HandleMap, first_world, effect, answer_in, IsWellFormed, Records, IsRowOf, recorded, OrderedAt, IsLegal, Answered}
use Rattle.order_search.specs.Vocabulary.{RecallsEach, Replays, LeadsTo, MayStand, IsInTime}
use Rattle.history.specs.declared.events.Event.TheVariants.{Begin}
use Rattle.history.specs.Tables.{operation_of}
use Rattle.history.proofs.Places.{at_front, at_push, at_set_other, at_cases, at_within}
use Rattle.history.proofs.Begins.{begins_once}
use Rattle.history.proofs.Leading.{leads_on, must_stand}
use Rattle.history.proofs.Standing.{may_stand, recorded_of_ended, ended_of_recorded}
use Rattle.order_search.specs.declared.cells.Cell.{Cell}
use Rattle.order_search.specs.Searching.{NoneGoesOn}
use Rattle.order_search.specs.Cells.{cell_of, value_in, DifferIn, CanGoBack}
use Rattle.order_search.specs.Marks.{AreMarked, HasMark, HasNoMark, Chooses}
use Rattle.order_search.specs.Walks.{IsWay, HadBefore, Carries}
use Rattle.order_search.proofs.Turns.{marks_differ}
use Rattle.order_search.proofs.Differing.{call_differs, answer_differs, reads_same, answer_same}
use Rattle.order_search.proofs.Replayed.{one_lead, effect_of}
use Rattle.order_search.proofs.Refuting.{none_answered}
use Rattle.order_search.proofs.Ways.{way_on, way_passed, way_back}

-- ---- the marks at first

-- of each of the first operations whether it was refused
pub record Noted (history : List Event) (rows : List Row) (taken : List Bool) : Type 0 where
  pub each : (id : ℕ) (mark : Bool) → slice_get taken id ≡ Some mark → (row : Row) × (slice_get rows id ≡ Some row) × (IsTrue mark ↔ (recorded history row.end ≡ Some NoSlots))

pub noted_first : (history : List Event) (rows : List Row) → Noted history rows []
noted_first history rows = record { each = λ id mark at. let wrong : ⊥ = cc at in absurd wrong }

pub noted_on : (history : List Event) (rows : List Row) (taken : List Bool) (row : Row) (mark : Bool) → Noted history rows taken → slice_get rows (length taken) ≡ Some row
    → IsTrue mark ↔ (recorded history row.end ≡ Some NoSlots) → Noted history rows (taken ++ mark ∷ [])
noted_on history rows taken row mark so_far at is = record {
  each = λ id other there. elim (at_cases taken mark id other there) [
    | inl old ↦ so_far.each id other old
    | inr new ↦ (row, ap (λ n. slice_get rows n) new.0 ∙ at, subst (λ b. IsTrue b ↔ (recorded history row.end ≡ Some NoSlots)) new.1 is)
  ];
}

pub marks_of_noted : (history : List Event) (table : Table) (taken : List Bool) → Records history table → Noted history table.rows.items taken → length taken ≡ length table.rows.items
    → AreMarked history [] taken
marks_of_noted history table taken known noted sizes = record {
  size = sizes ∙ known.size;
  marked = λ id mark.
      let it = noted.each id true mark in
      inr (ended_of_recorded history id it.0 NoSlots (known.row_of id it.0 it.1) (it.2.0 refl));
  unmarked = λ id none.
      let it = noted.each id false none in (
        (λ among. let wrong : ⊥ = cc among.1 in wrong),
        λ ended. true≢false (sym (it.2.1 (recorded_of_ended history id it.0 NoSlots (known.row_of id it.0 it.1) ended))),
      );
}

-- ---- back

front_replays : (hash : ℕ → ℕ) (history : List Event) (ids more : List ℕ) (calls : List Answered) (world last : HandleMap) → RecallsEach history (ids ++ more) calls → Replays hash calls world last
    → (front : List Answered) × (middle : HandleMap) × RecallsEach history ids front × Replays hash front world middle
front_replays hash history [] more calls world last each leads = ([], world, tt, refl)
front_replays hash history (id ∷ ids) more [] world last each leads = absurd each
front_replays hash history (id ∷ ids) more (x ∷ xs) world last each leads =
    let rest = front_replays hash history ids more xs leads.0 last each.1 leads.2 in
    (x ∷ rest.0, rest.1, (each.0, rest.2), (leads.0, leads.1, rest.3))

-- operations that lead to a world begin with some that lead to one
lead_front : (hash : ℕ → ℕ) (history : List Event) (ids more : List ℕ) (last : HandleMap) → LeadsTo hash history (ids ++ more) last → (world : HandleMap) × LeadsTo hash history ids world
lead_front hash history ids more last leads =
    let front = front_replays hash history ids more leads.replayed.0 first_world last leads.replayed.1 leads.replayed.2 in (
      front.1,
      record {
        distinct = λ i j id at_i at_j. leads.distinct i j id (at_front ids more i id at_i) (at_front ids more j id at_j);
        has_begun = λ i id at. leads.has_begun i id (at_front ids more i id at);
        not_refused = λ i id at. leads.not_refused i id (at_front ids more i id at);
        keeps_time = λ i j a b at_i at_j lt. leads.keeps_time i j a b (at_front ids more i b at_i) (at_front ids more j a at_j) lt;
        replayed = (front.0, front.2, front.3);
      },
    )

-- the rows of an operation have one call
same_row_call : (history : List Event) (id : ℕ) (a b : Row) → IsWellFormed history → IsRowOf history id a → IsRowOf history id b → a.call ≡ b.call
same_row_call history id a b well is_a is_b =
    let same : a.begin ≡ b.begin = begins_once history a.begin b.begin id (operation_of a) (operation_of b) well is_a.begins is_b.begins in
    let here : slice_get history b.begin ≡ Some (Begin id a.actor a.call a.opens) = subst (λ p. slice_get history p ≡ Some (Begin id a.actor a.call a.opens)) same is_a.begins in
    let events : Begin id a.actor a.call a.opens ≡ Begin id b.actor b.call b.opens = cc (here, is_b.begins) in
    cc events

-- what holds of a cell that there may be
if_cell : (o : Option Cell) (P : Cell → Type 0) → ((cell : Cell) → o ≡ Some cell → P cell) → IfSome o P
if_cell None P holds = tt
if_cell (Some cell) P holds = holds cell refl

cell_holds : (o : Option Cell) (P : Cell → Type 0) (cell : Cell) → IfSome o P → o ≡ Some cell → P cell
cell_holds o P cell holds is = subst (λ (p : Option Cell). IfSome p P) is holds

pub last_before : (old new : List (Option ℕ)) (last : Option (Option ℕ)) (n : ℕ) → old ≡ new ++ option_to_list last → (last ≡ None → length old ≡ 0) → length old ≡ n + 1
    → old ≡ new ++ unwrap_or last None ∷ []
last_before old new (Some x) n is none long = is
last_before old new None n is none long = absurd (omega (arith, none refl, long))

pub went_back : (hash : ℕ → ℕ) (history : List Event) (table : Table) (ids : List ℕ) (befores : List (Option ℕ)) (id : ℕ) (before : Option ℕ) (taken taken_now : List Bool)
    (low next low_now after : ℕ) (world world_now : HandleMap) → Records history table → IsWay hash history (ids ++ id ∷ []) (befores ++ before ∷ []) taken low next world
    → NoneGoesOn hash history (ids ++ id ∷ [])
    → ((last : HandleMap) (row : Row) → LeadsTo hash history ids last → slice_get table.rows.items id ≡ Some row
    → CanGoBack row.call before last world → world_now ≡ last)
    → taken_now ≡ set taken id false → low_now ≤ low → low_now ≤ id → after ≤ id + 1
    → IsWay hash history ids befores taken_now low_now after world_now × ¬ IsLegal hash history ids
went_back hash history table ids befores id before taken taken_now low next low_now after world world_now known way none back marks_are low_le id_le le =
    let well = known.well_formed in
    let order : List ℕ = ids ++ id ∷ [] in
    let place : ℕ = length ids in
    let last : OrderedAt order place id = at_push ids id place refl in
    let all : take place order ≡ ids = take-append_seam ids (id ∷ []) in
    let lead = lead_front hash history ids (id ∷ []) world way.leads in
    let row = at_within table.rows.items id (known.has_row id (way.leads.has_begun place id last)) in
    let is = known.row_of id row.0 row.1 in
    let so_far : LeadsTo hash history (take place order) lead.0 = subst (λ xs. LeadsTo hash history xs lead.0) (sym all) lead.1 in
    let stands_there = must_stand hash history order place id lead.0 world well so_far way.leads last in
    let stands : MayStand hash history ids id lead.0 stands_there.0 = subst (λ xs. MayStand hash history xs id lead.0 stands_there.0) all stands_there.1 in
    let same = one_lead hash history order stands_there.0 world well (leads_on hash history ids id lead.0 stands_there.0 lead.1 stands) way.leads in
    let effect_is = effect_of hash history ids id lead.0 stands_there.0 (row.0) well is stands in
    let had : HadBefore hash history ids id before = subst (λ xs. HadBefore hash history xs id before) all (way.had place id before last (at_push befores before place (sym (known_size way)))) in
    let world_is = back lead.0 row.0 lead.1 row.1 (record {
      same = λ only. subst (λ w. w ≡ lead.0) same (reads_same hash (row.0).call (row.0).opens lead.0 stands_there.0 _ only effect_is);
      cell = if_cell (cell_of (row.0).call) (λ cell. DifferIn cell lead.0 world × (value_in lead.0 cell ≡ before)) (λ cell is_cell. (
        subst (λ w. DifferIn cell lead.0 w) same (call_differs hash (row.0).call (row.0).opens cell lead.0 stands_there.0 _ is_cell effect_is),
        cell_holds (cell_of (row.0).call) (λ c. value_in lead.0 c ≡ before) cell (had lead.0 row.0 lead.1 is) is_cell,
      ));
    }) in
    let leads_now : LeadsTo hash history ids world_now = subst (λ w. LeadsTo hash history ids w) (sym world_is) lead.1 in
    let long = length-append ids (id ∷ []) in (
      way_back hash history ids befores taken low next world id low_now after before taken_now world_now way none leads_now marks_are low_le id_le le,
      subst (λ xs. ¬ IsLegal hash history xs) all (way.unfinished place (omega (arith, long))),
    )
  where
    known_size : IsWay hash history (ids ++ id ∷ []) (befores ++ before ∷ []) taken low next world → length befores ≡ length ids
    known_size w =
        let sizes : length befores + 1 ≡ length ids + 1 = sym (length-append befores (before ∷ [])) ∙ w.known ∙ length-append ids (id ∷ []) in
        omega (arith, sizes)

-- ---- on

pub placed : (hash : ℕ → ℕ) (history : List Event) (table : Table) (ids : List ℕ) (befores : List (Option ℕ)) (taken : List Bool) (low next low_now id : ℕ) (before : Option ℕ)
    (world world_now : HandleMap) (row : Row) → Records history table → IsWay hash history ids befores taken low next world → ¬ IsLegal hash history ids → Chooses (Some id) history taken next
    → slice_get table.rows.items id ≡ Some row → IfSome (cell_of row.call) (λ cell. value_in world cell ≡ before) → Carries true hash row (recorded history row.end) world world_now
    → ((x : ℕ) → x < low_now → HasMark (set taken id true) x)
    → IsWay hash history (ids ++ id ∷ []) (befores ++ before ∷ []) (set taken id true) low_now 0 world_now
placed hash history table ids befores taken low next low_now id before world world_now row known way unfinished chosen at value carries marks_low =
    let is = known.row_of id row at in
    let free = way.marks.unmarked id chosen.0 in
    let timed : IsInTime history ids id = record { is_new = free.0; not_refused = free.1; on_time = λ i other at_other. way.in_turn i other at_other id chosen.0 } in
    let stands = may_stand hash history ids id world world_now row carries.0 is timed carries.1 carries.2 in
    way_on hash history ids befores taken low next world id low_now before world_now way unfinished chosen stands
    (λ w other leads is_other. if_cell (cell_of other.call) (λ cell. value_in w cell ≡ before) (λ cell is_cell.
    let same_world = one_lead hash history ids w world known.well_formed leads way.leads in
    let same_call = same_row_call history id other row known.well_formed is_other is in
    subst (λ v. value_in v cell ≡ before) (sym same_world) (cell_holds (cell_of row.call) (λ c. value_in world c ≡ before) cell value (sym (ap cell_of same_call) ∙ is_cell))))
    marks_low

pub missed : (hash : ℕ → ℕ) (history : List Event) (table : Table) (ids : List ℕ) (befores : List (Option ℕ)) (taken : List Bool) (low next after id : ℕ) (before : Option ℕ)
    (world carried world_now : HandleMap) (row : Row) (told : Option Reply) → Records history table → IsWay hash history ids befores taken low next world → ¬ IsLegal hash history ids
    → Chooses (Some id) history taken next → slice_get table.rows.items id ≡ Some row → IfSome (cell_of row.call) (λ cell. value_in world cell ≡ before)
    → Carries false hash row (recorded history row.end) world carried → (told, carried) ≡ answer_in world (effect hash world row.call row.opens)
    → ((last : HandleMap) (r : Row) → LeadsTo hash history ids last → slice_get table.rows.items id ≡ Some r
    → CanGoBack r.call before last carried → world_now ≡ last)
    → after ≤ id + 1 → IsWay hash history ids befores taken low after world_now × ¬ IsLegal hash history ids
missed hash history table ids befores taken low next after id before world carried world_now row told known way unfinished chosen at value carries answers back le =
    let is = known.row_of id row at in
    let none = none_answered hash history ids id world row is way.leads carries in
    let world_is = back world row way.leads at (record {
      same = λ only. answer_same hash row.call row.opens world carried told only answers;
      cell = if_cell (cell_of row.call) (λ cell. DifferIn cell world carried × (value_in world cell ≡ before)) (λ cell is_cell. (
        answer_differs hash row.call row.opens cell world carried told is_cell answers,
        cell_holds (cell_of row.call) (λ c. value_in world c ≡ before) cell value is_cell,
      ));
    }) in
    let passed = way_passed hash history ids befores taken low next world id after way chosen none le in
    (subst (λ w. IsWay hash history ids befores taken low after w) (sym world_is) passed, unfinished)

-- the marks below the first one without stay
pub low_kept : (hash : ℕ → ℕ) (history : List Event) (ids : List ℕ) (befores : List (Option ℕ)) (taken : List Bool) (low next id : ℕ) (world : HandleMap)
    → IsWay hash history ids befores taken low next world → HasNoMark taken id → (x : ℕ) → x < low → HasMark (set taken id true) x
low_kept hash history ids befores taken low next id world way none x lt =
    let mark = way.low_marked x lt in
    at_set_other taken id x true (λ same. absurd (marks_differ taken x mark (subst (λ y. HasNoMark taken y) (sym same) none))) ∙ mark
