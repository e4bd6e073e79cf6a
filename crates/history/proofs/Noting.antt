-- What a table says, as the history grows.
use Rattle.std.proofs.Common.{◌≡◌, ◌≢◌, ℕ, ◌+◌, ◌<◌, inl, inr, List, [], ◌∷◌, ◌++◌, length, set, Option, Some, None, slice_get, refl, sym, ap, ◌∙◌, arith, subst, length-set, length-append}
use Rattle.std.proofs.lemmas.Option.{slice_get_within}
use Rattle.history.specs.declared.calls.Call.{Call}
use Rattle.history.specs.declared.replies.Reply.{Reply}
use Rattle.history.specs.declared.events.Event.{Event}
use Rattle.history.specs.declared.events.Event.TheVariants.{Begin, End}
use Rattle.history.specs.declared.tables.Row.{Row}
use Rattle.history.specs.Histories.{BeginsAt, IsRunning, OpensRightly, MayFollow}
use Rattle.history.specs.Tables.{IsRowOf, AreRecords, operation_of}
use Rattle.history.proofs.Places.{at_old, at_push, at_cases, at_set, at_set_other, at_set_cases, at_within, option_cases}
use Rattle.history.proofs.Begins.{well_formed_push, begun_push, begun_same}
use Rattle.history.proofs.Rows.{row_kept, row_begun, row_ended}

-- a running operation has a row that says so
pub row_of_running : (history : List Event) (rows : List Row) (running : List (Option ℕ)) (id actor : ℕ) → AreRecords history rows running → IsRunning history id actor
    → (row : Row) × (slice_get rows id ≡ Some row) × (row.actor ≡ actor) × (row.end ≡ None)
row_of_running history rows running id actor known runs =
    let place = runs.0.0 in
    let operation = runs.0.1 in
    let found = at_within rows id (known.has_row id (place, operation, runs.0.2)) in
    let row : Row = found.0 in
    let is : IsRowOf history id row = known.row_of id row found.1 in
    let here : place ≡ row.begin = is.begins_once place operation runs.0.2 in
    let begins : BeginsAt history place id (operation_of row) = subst (λ p. BeginsAt history p id (operation_of row)) (sym here) is.begins in
    let same : Begin id operation.actor operation.call operation.opens ≡ Begin id row.actor row.call row.opens = cc (begins, runs.0.2) in
    let actors : operation.actor ≡ row.actor = cc same in
    let ends : row.end ≡ None = elim (option_cases row.end) [
      | inl none ↦ none
      | inr some ↦ let end = is.ends some.0 some.1 in absurd (runs.1 end.0 (some.0, end.1))
    ] in
    (row, found.1, sym actors ∙ runs.0.3, ends)

-- a row without an end is that of a running operation
pub running_of_row : (history : List Event) (rows : List Row) (running : List (Option ℕ)) (id : ℕ) (row : Row) → AreRecords history rows running → slice_get rows id ≡ Some row → row.end ≡ None
    → IsRunning history id row.actor
running_of_row history rows running id row known at runs =
    let is : IsRowOf history id row = known.row_of id row at in
    ((row.begin, operation_of row, is.begins, refl), λ answer ended. let end : row.end ≡ Some ended.0 = is.ends_once ended.0 answer ended.1 in let wrong : ⊥ = cc in wrong)

-- the next operation of an idle actor begins
pub begin_noted : (history : List Event) (rows : List Row) (running : List (Option ℕ)) (id : ℕ) (row : Row) → AreRecords history rows running → length history ≡ row.begin → row.end ≡ None
    → id ≡ length rows → OpensRightly row.call row.opens → slice_get running row.actor ≡ Some None
    → MayFollow history (Begin id row.actor row.call row.opens) × AreRecords (history ++ Begin id row.actor row.call row.opens ∷ []) (rows ++ row ∷ []) (set running row.actor (Some id))
begin_noted history rows running id row known last runs next opens idle =
    let event : Event = Begin id row.actor row.call row.opens in
    let within : row.actor < length running = slice_get_within running row.actor None idle in
    let longer : length (rows ++ row ∷ []) ≡ length rows + 1 = length-append rows (row ∷ []) in
    let may : MayFollow history event = (
      next ∙ known.size,
      opens,
      λ other other_runs.
          let found = row_of_running history rows running other row.actor known other_runs in
          let busy : slice_get running (found.0).actor ≡ Some (Some other) = known.busy other found.0 found.1 found.3 in
          let same : slice_get running row.actor ≡ Some (Some other) = subst (λ actor. slice_get running actor ≡ Some (Some other)) found.2 busy in
          let wrong : ⊥ = cc (same, idle) in wrong,
    ) in (
      may,
      record {
        well_formed = well_formed_push history event known.well_formed may;
        size = longer ∙ ap (λ n. n + 1) known.size ∙ sym (begun_push history event refl);
        actors = length-set running row.actor (Some id) ∙ known.actors;
        row_of = λ other r at. elim (at_cases rows row other r at) [
          | inl old ↦
              let below : other < length rows = slice_get_within rows other r old in
              row_kept history event other id r refl (λ e. omega arith) (known.row_of other r old)
          | inr new ↦
              let here : id ≡ other = next ∙ sym new.0 in
              let is : IsRowOf (history ++ event ∷ []) id row = row_begun history id row last runs
              (λ has. let below = known.has_row id has in omega arith)
              (λ answer has. let below = known.end_has_row id answer has in omega arith) in
              subst (λ j. IsRowOf (history ++ event ∷ []) j r) here (subst (λ x. IsRowOf (history ++ event ∷ []) id x) new.1 is)
        ];
        has_row = λ other has. elim (at_cases history event has.0 (Begin other (has.1).actor (has.1).call (has.1).opens) has.2) [
          | inl old ↦ let below = known.has_row other (has.0, has.1, old) in omega arith
          | inr new ↦ let same : id ≡ other = cc new.1 in omega arith
        ];
        end_has_row = λ other answer has. elim (at_cases history event has.0 (End other answer) has.1) [
          | inl old ↦ let below = known.end_has_row other answer (has.0, old) in omega arith
          | inr new ↦ let wrong : ⊥ = cc new.1 in absurd wrong
        ];
        runs = λ actor other at. elim (at_set_cases running row.actor actor (Some id) (Some other) at) [
          | inl new ↦
              let same : id ≡ other = cc new.1 in
              (row, at_push rows row other (sym same ∙ next), sym new.0, runs)
          | inr old ↦
              let found = known.runs actor other old.1 in
              (found.0, at_old rows row other found.0 found.1, found.2, found.3)
        ];
        busy = λ other r at r_runs. elim (at_cases rows row other r at) [
          | inl old ↦
              let busy : slice_get running r.actor ≡ Some (Some other) = known.busy other r old r_runs in
              let differs : r.actor ≢ row.actor = λ e.
              let same : slice_get running row.actor ≡ Some (Some other) = subst (λ actor. slice_get running actor ≡ Some (Some other)) e busy in
              let wrong : ⊥ = cc (same, idle) in wrong in
              at_set_other running row.actor r.actor (Some id) differs ∙ busy
          | inr new ↦
              let here : id ≡ other = next ∙ sym new.0 in
              let begins : slice_get (set running row.actor (Some id)) row.actor ≡ Some (Some id) = at_set running row.actor (Some id) within in
              let same : row ≡ r = new.1 in
              subst (λ x. slice_get (set running row.actor (Some id)) x.actor ≡ Some (Some other)) same (begins ∙ ap (λ j. Some (Some j)) here)
        ];
      },
    )

-- a running operation ends
pub end_noted : (history : List Event) (rows : List Row) (running : List (Option ℕ)) (id : ℕ) (answer : Reply) (row : Row) (last : ℕ) → AreRecords history rows running → length history ≡ last
    → slice_get rows id ≡ Some row → row.end ≡ None
    → MayFollow history (End id answer) × AreRecords (history ++ End id answer ∷ []) (set rows id (record row { end = Some last })) (set running row.actor None)
end_noted history rows running id answer row last known is at runs =
    let event : Event = End id answer in
    let ended : Row = record row { end = Some last } in
    let within : id < length rows = slice_get_within rows id row at in
    let kept : length (set rows id ended) ≡ length rows = length-set rows id ended in
    let may : MayFollow history event = (row.actor, running_of_row history rows running id row known at runs) in
    let was_busy : slice_get running row.actor ≡ Some (Some id) = known.busy id row at runs in (
      may,
      record {
        well_formed = well_formed_push history event known.well_formed may;
        size = kept ∙ known.size ∙ sym (begun_same history event refl);
        actors = length-set running row.actor None ∙ known.actors;
        row_of = λ other r at_r. elim (at_set_cases rows id other ended r at_r) [
          | inl new ↦ subst (λ j. IsRowOf (history ++ event ∷ []) j r) (sym new.0)
              (subst (λ x. IsRowOf (history ++ event ∷ []) id x) new.1 (row_ended history id answer row last is runs (known.row_of id row at)))
          | inr old ↦ row_kept history event other id r refl old.0 (known.row_of other r old.1)
        ];
        has_row = λ other has. elim (at_cases history event has.0 (Begin other (has.1).actor (has.1).call (has.1).opens) has.2) [
          | inl old ↦ let below = known.has_row other (has.0, has.1, old) in omega arith
          | inr new ↦ let wrong : ⊥ = cc new.1 in absurd wrong
        ];
        end_has_row = λ other told has. elim (at_cases history event has.0 (End other told) has.1) [
          | inl old ↦ let below = known.end_has_row other told (has.0, old) in omega arith
          | inr new ↦ let same : id ≡ other = cc new.1 in omega arith
        ];
        runs = λ actor other at_a. elim (at_set_cases running row.actor actor None (Some other) at_a) [
          | inl new ↦ let wrong : ⊥ = cc new.1 in absurd wrong
          | inr old ↦
              let found = known.runs actor other old.1 in
              let differs : other ≢ id = λ e.
              let here : slice_get rows id ≡ Some found.0 = subst (λ j. slice_get rows j ≡ Some found.0) e found.1 in
              let same : found.0 ≡ row = cc (here, at) in
              old.0 (sym found.2 ∙ ap (λ (r : Row). r.actor) same) in
              (found.0, at_set_other rows id other ended differs ∙ found.1, found.2, found.3)
        ];
        busy = λ other r at_r r_runs. elim (at_set_cases rows id other ended r at_r) [
          | inl new ↦
              let has_end : r.end ≡ Some last = ap (λ (x : Row). x.end) (sym new.1) in
              let wrong : ⊥ = cc (has_end, r_runs) in absurd wrong
          | inr old ↦
              let busy : slice_get running r.actor ≡ Some (Some other) = known.busy other r old.1 r_runs in
              let differs : r.actor ≢ row.actor = λ e.
              let same : slice_get running row.actor ≡ Some (Some other) = subst (λ actor. slice_get running actor ≡ Some (Some other)) e busy in
              old.0 (let j : other ≡ id = cc (same, was_busy) in j) in
              at_set_other running row.actor r.actor None differs ∙ busy
        ];
      },
    )

-- no operation begins while its actor's other one runs
pub not_idle : (history : List Event) (rows : List Row) (running : List (Option ℕ)) (id other actor : ℕ) (call : Call) (opens : Option ℕ) → AreRecords history rows running
    → slice_get running actor ≡ Some (Some other) → ¬ MayFollow history (Begin id actor call opens)
not_idle history rows running id other actor call opens known busy may =
    let found = known.runs actor other busy in
    let is_running : IsRunning history other (found.0).actor = running_of_row history rows running other found.0 known found.1 found.3 in
    may.2 other (subst (λ a. IsRunning history other a) found.2 is_running)

-- an operation that hasn't begun doesn't end
pub not_begun : (history : List Event) (rows : List Row) (running : List (Option ℕ)) (id : ℕ) (answer : Reply) → AreRecords history rows running → slice_get rows id ≡ None
    → ¬ MayFollow history (End id answer)
not_begun history rows running id answer known none may =
    let found = row_of_running history rows running id may.0 known may.1 in
    let wrong : ⊥ = cc (found.1, none) in
    wrong

-- an operation ends once
pub not_again : (history : List Event) (rows : List Row) (running : List (Option ℕ)) (id place : ℕ) (row : Row) (answer : Reply) → AreRecords history rows running → slice_get rows id ≡ Some row
    → row.end ≡ Some place → ¬ MayFollow history (End id answer)
not_again history rows running id place row answer known at ended may =
    let found = row_of_running history rows running id may.0 known may.1 in
    let same : found.0 ≡ row = cc (found.1, at) in
    let no_end : row.end ≡ None = ap (λ (r : Row). r.end) (sym same) ∙ found.3 in
    let wrong : ⊥ = cc (ended, no_end) in
    wrong

-- the table of no event
pub none_noted : (running : List (Option ℕ)) → length running ≡ 256 → ((actor id : ℕ) → ¬ (slice_get running actor ≡ Some (Some id))) → AreRecords [] [] running
none_noted running size idle = record {
  well_formed = λ place event at. let wrong : ⊥ = cc at in absurd wrong;
  size = refl;
  actors = size;
  row_of = λ id row at. let wrong : ⊥ = cc at in absurd wrong;
  has_row = λ id has. let wrong : ⊥ = cc (has.2) in absurd wrong;
  end_has_row = λ id answer has. let wrong : ⊥ = cc (has.1) in absurd wrong;
  runs = λ actor id at. absurd (idle actor id at);
  busy = λ id row at runs. let wrong : ⊥ = cc at in absurd wrong;
}
