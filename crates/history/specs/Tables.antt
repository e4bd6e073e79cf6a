-- What a table says of a history.
use Rattle.std.specs.Prelude.{◌≡◌, ℕ, ◌<◌, Bool, true, false, List, [], ◌∷◌, ◌++◌, length, Option, Some, None, option_and_then, slice_get}
use Rattle.history.specs.declared.replies.Reply.{Reply}
use Rattle.history.specs.declared.events.Event.{Event}
use Rattle.history.specs.declared.events.Event.TheVariants.{Begin, End}
use Rattle.history.specs.declared.tables.Row.{Row}
use Rattle.history.specs.declared.tables.Table.{Table}
use Rattle.history.specs.Histories.{Operation, BeginsAt, EndsAt, HasBegun, HasEnded, begun, MayFollow, IsWellFormed}

-- what the row says of the begin
abbrev pub operation_of : Row → Operation
operation_of row = record { actor = row.actor; call = row.call; opens = row.opens }

-- the row says where the operation begins, and where it ends if it does
pub record IsRowOf (history : List Event) (id : ℕ) (row : Row) : Type 0 where
  pub begins : BeginsAt history row.begin id (operation_of row)
  pub begins_once : (place : ℕ) (operation : Operation) → BeginsAt history place id operation → place ≡ row.begin
  pub ends : (place : ℕ) → row.end ≡ Some place → (answer : Reply) × EndsAt history place id answer
  pub ends_once : (place : ℕ) (answer : Reply) → EndsAt history place id answer → row.end ≡ Some place

-- a row for each operation of a well-formed history, and by each actor's number the operation that it runs
pub record AreRecords (history : List Event) (rows : List Row) (running : List (Option ℕ)) : Type 0 where
  pub well_formed : IsWellFormed history
  pub size : length rows ≡ begun history
  pub actors : length running ≡ 256
  pub row_of : (id : ℕ) (row : Row) → slice_get rows id ≡ Some row → IsRowOf history id row
  pub has_row : (id : ℕ) → HasBegun history id → id < length rows
  pub end_has_row : (id : ℕ) (answer : Reply) → HasEnded history id answer → id < length rows
  pub runs : (actor id : ℕ) → slice_get running actor ≡ Some (Some id)
      → (row : Row) × (slice_get rows id ≡ Some row) × (row.actor ≡ actor) × (row.end ≡ None)
  pub busy : (id : ℕ) (row : Row) → slice_get rows id ≡ Some row → row.end ≡ None
      → slice_get running row.actor ≡ Some (Some id)

-- the table is of this history
abbrev pub Records : List Event → Table → Type 0
Records history table = AreRecords history table.rows.items table.running

-- whether the event may come after the history, and if so, the table has it too
abbrev pub Notes : Bool → List Event → Event → Table → Type 0
Notes true history event table = MayFollow history event × Records (history ++ event ∷ []) table
Notes false history event table = ¬ MayFollow history event

abbrev pub reply_in : Event → Option Reply
reply_in (Begin id actor call opens) = None
reply_in (End id answer) = Some answer

-- the reply at the place, if there is one
abbrev pub recorded : List Event → Option ℕ → Option Reply
recorded history end = option_and_then (λ place. option_and_then reply_in (slice_get history place)) end
