-- Which operation may come next, by the table.
use Rattle.std.proofs.Common.{◌≡◌, ℕ, suc, ◌+◌, ◌<◌, ◌≤◌, inl, inr, Bool, false, List, length, take, Option, Some, None, slice_get, sym, ap, ◌∙◌, subst, arith}
use Rattle.std.proofs.lemmas.Bool.{cases_lt}
use Rattle.std.proofs.lemmas.Option.{slice_get_within, same_Some}
use Rattle.order_search.specs.Vocabulary.{Reply, Event, End, Row, Table, BeginsAt, EndsAt, begun, IsWellFormed, Records}
use Rattle.history.specs.declared.events.Event.TheVariants.{Begin}
use Rattle.history.specs.Histories.{Operation}
use Rattle.history.specs.Tables.{operation_of}
use Rattle.order_search.specs.Marks.{HasMark, HasNoMark, IsBarred, IsEarlier, Chooses, LacksAnswered}
use Rattle.history.proofs.Places.{at_take, at_within}
use Rattle.history.proofs.Begins.{begun_grows, begun_more, begins_once}

-- operations begin in the order of their ids
pub rising : (history : List Event) (x y p q : ℕ) (a b : Operation) → IsWellFormed history → BeginsAt history p x a → BeginsAt history q y b → x ≤ y → p ≤ q
rising history x y p q a b well at_p at_q le = elim (cases_lt q p) [
  | inl lt ↦
      let first : x ≡ begun (take p history) = (well p (Begin x a.actor a.call a.opens) at_p).0 in
      let second : y ≡ begun (take q history) = (well q (Begin y b.actor b.call b.opens) at_q).0 in
      let more = begun_more history q y b at_q in
      let grows = begun_grows history (suc q) p (omega arith) in
      absurd (omega arith)
  | inr fine ↦ fine
]

-- an operation ends after its begin
pub ends_later : (history : List Event) (id p q : ℕ) (a : Operation) (answer : Reply) → IsWellFormed history → BeginsAt history p id a → EndsAt history q id answer → p < q
ends_later history id p q a answer well begins ends =
    let runs = (well q (End id answer) ends).1.0 in
    let early = at_take history q runs.0 (Begin id (runs.1).actor (runs.1).call (runs.1).opens) runs.2 in
    let same = begins_once history p runs.0 id a runs.1 well begins early.1 in
    omega (arith, early.0, same)

-- What a scan of these rows up to an id has seen: the first place where one without a mark ended; and all from an id on have marks.
pub record Scanned (rows : List Row) (taken : List Bool) (from id : ℕ) (first : Option ℕ) : Type 0 where
  pub earliest : (place : ℕ) → first ≡ Some place → (other : ℕ) × (row : Row) × (slice_get rows other ≡ Some row) × HasNoMark taken other × (row.end ≡ Some place)
  pub all : (other place : ℕ) (row : Row) → other < id → slice_get rows other ≡ Some row → HasNoMark taken other → row.end ≡ Some place → (x : ℕ) × (first ≡ Some x) × (x ≤ place)
  pub marked : (other : ℕ) → from ≤ other → other < id → HasMark taken other

pub marks_differ : (taken : List Bool) (id : ℕ) → HasMark taken id → HasNoMark taken id → ⊥
marks_differ taken id mark none = let wrong : ⊥ = cc (mark, none) in wrong

pub scan_starts : (rows : List Row) (taken : List Bool) (from low : ℕ) → ((id : ℕ) → id < low → HasMark taken id) → Scanned rows taken from low None
scan_starts rows taken from low marks = record {
  earliest = λ place is. let wrong : ⊥ = cc is in absurd wrong;
  all = λ other place row lt at none end. absurd (marks_differ taken other (marks other lt) none);
  marked = λ other le lt. marks other lt;
}

pub scan_marked : (rows : List Row) (taken : List Bool) (from id : ℕ) (first : Option ℕ) → Scanned rows taken from id first → HasMark taken id → Scanned rows taken from (id + 1) first
scan_marked rows taken from id first so_far mark = record {
  earliest = so_far.earliest;
  all = λ other place row lt at none end. elim (cases_lt other id) [
    | inl before ↦ so_far.all other place row before at none end
    | inr here ↦
        let same : id ≡ other = omega (arith, lt, here) in
        absurd (marks_differ taken other (subst (λ x. HasMark taken x) same mark) none)
  ];
  marked = λ other le lt. elim (cases_lt other id) [
    | inl before ↦ so_far.marked other le before
    | inr here ↦ let same : id ≡ other = omega (arith, lt, here) in subst (λ x. HasMark taken x) same mark
  ];
}

pub scan_passed : (rows : List Row) (taken : List Bool) (from id : ℕ) (first next : Option ℕ) (row : Row) → Scanned rows taken from id first → slice_get rows id ≡ Some row → HasNoMark taken id
    → id < from → IsEarlier first row.end next → Scanned rows taken from (id + 1) next
scan_passed rows taken from id first next row so_far at none lt earlier = record {
  earliest = λ place is. elim (earlier.0 place is) [
    | inl old ↦ so_far.earliest place old
    | inr new ↦ (id, row, at, none, new)
  ];
  all = λ other place r below at_other unmarked end. elim (cases_lt other id) [
    | inl before ↦
        let found = so_far.all other place r before at_other unmarked end in
        let least = earlier.1 found.0 (inl found.1) in
        (least.0, least.1, omega (arith, found.2, least.2))
    | inr here ↦
        let same : id ≡ other = omega (arith, below, here) in
        let rows_same : row ≡ r = same_Some row r (sym at ∙ ap (λ x. slice_get rows x) same ∙ at_other) in
        earlier.1 place (inr (ap (λ (x : Row). x.end) rows_same ∙ end))
  ];
  marked = λ other le below. absurd (omega (arith, le, below, lt));
}

-- an operation without a mark that ended before another begins
barred_by : (history : List Event) (table : Table) (taken : List Bool) (from id at_id place : ℕ) (first : Option ℕ) (row other_row : Row) → Records history table
    → Scanned table.rows.items taken from id first → first ≡ Some place → slice_get table.rows.items id ≡ Some row → place < row.begin → id ≤ at_id → slice_get table.rows.items at_id ≡ Some other_row
    → IsBarred history taken at_id
barred_by history table taken from id at_id place first row other_row known so_far is at lt le at_other =
    let found = so_far.earliest place is in
    let early = known.row_of found.0 found.1 found.2 in
    let here = known.row_of id row at in
    let there = known.row_of at_id other_row at_other in
    let end = early.ends place found.4 in
    let later = rising history id at_id row.begin other_row.begin (operation_of row) (operation_of other_row) known.well_formed here.begins there.begins le in
    (found.0, found.3, (place, other_row.begin, end.0, operation_of other_row, end.1, there.begins, omega (arith, lt, later)))

-- the scan ends at an operation that began after such an end
pub scan_stops : (history : List Event) (table : Table) (taken : List Bool) (from id place : ℕ) (first : Option ℕ) (row : Row) → Records history table → length taken ≡ length table.rows.items
    → Scanned table.rows.items taken from id first → first ≡ Some place → slice_get table.rows.items id ≡ Some row → place < row.begin → Chooses None history taken from
scan_stops history table taken from id place first row known sizes so_far is at lt = λ other le below. elim (cases_lt other id) [
  | inl before ↦ inl (so_far.marked other le before)
  | inr behind ↦
      let there = at_within table.rows.items other (omega (arith, below, sizes)) in
      inr (barred_by history table taken from id other place first row there.0 known so_far is at lt behind there.1)
]

-- the scan ends behind all
pub scan_ends : (history : List Event) (rows : List Row) (taken : List Bool) (from id : ℕ) (first : Option ℕ) → Scanned rows taken from id first → length taken ≤ id → Chooses None history taken from
scan_ends history rows taken from id first so_far all = λ other le below. inl (so_far.marked other le (omega (arith, below, all)))

-- the scan has found one
pub scan_finds : (history : List Event) (table : Table) (taken : List Bool) (from id : ℕ) (first : Option ℕ) (row : Row) → Records history table → length taken ≡ length table.rows.items
    → Scanned table.rows.items taken from id first → slice_get table.rows.items id ≡ Some row → HasNoMark taken id → from ≤ id
    → ((place : ℕ) → first ≡ Some place → ¬ (place < row.begin)) → Chooses (Some id) history taken from
scan_finds history table taken from id first row known sizes so_far at none le punctual = (
  none,
  le,
  so_far.marked,
  λ other unmarked before.
      let here = known.row_of id row at in
      let begin : before.1 ≡ row.begin = here.begins_once before.1 before.3 before.5 in
      let within = slice_get_within taken other false unmarked in
      let there = at_within table.rows.items other (omega (arith, within, sizes)) in
      let other_is = known.row_of other there.0 there.1 in
      let end = other_is.ends_once before.0 before.2 before.4 in
      elim (cases_lt other id) [
        | inl early ↦
            let found = so_far.all other before.0 there.0 early there.1 unmarked end in
            punctual found.0 found.1 (omega (arith, found.2, before.6, begin))
        | inr late ↦
            let begins_later = rising history id other row.begin (there.0).begin (operation_of row) (operation_of there.0) known.well_formed here.begins other_is.begins late in
            let ends_after = ends_later history other (there.0).begin before.0 (operation_of there.0) before.2 known.well_formed other_is.begins before.4 in
            omega (arith, begins_later, ends_after, before.6, begin)
      ],
)

-- an operation without a mark that has ended
pub lacks_at : (history : List Event) (table : Table) (taken : List Bool) (id place : ℕ) (row : Row) → Records history table → slice_get table.rows.items id ≡ Some row → HasNoMark taken id
    → row.end ≡ Some place → LacksAnswered history taken
lacks_at history table taken id place row known at none end = let ends = (known.row_of id row at).ends place end in (id, ends.0, none, (place, ends.1))
