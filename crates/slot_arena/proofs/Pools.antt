-- Cells and rows: what giving a row back and taking one leaves of them.
use Rattle.std.proofs.Common.{◌≡◌, ℕ, zero, suc, ◌+◌, ◌<◌, ◌==◌, true, false, List, [], ◌∷◌, ◌++◌, length, get_or, set, map, replicate}
use Rattle.std.proofs.Common.{count_by, Option, Some, None, refl, sym, ap, ◌∙◌, subst, inl, inr, arith}
use Rattle.std.proofs.lemmas.Bool.{cases_eq, cases_lt}
use Rattle.std.proofs.lemmas.List.{get_or-set_same, get_or-set_other, get_or_push, length_push, length-map, length-set, map-set}
use Rattle.std.proofs.lemmas.List.Sums.{sum_by-cons, sum_by-set, get_or-le-sum_by, count_by-le-length}
use Rattle.std.specs.Prelude.{option_map}
use Rattle.arrayvec.specs.ArrayVec.{ArrayVec}
use Rattle.slot_arena.specs.declared.refs.Ref.{Ref}
use Rattle.slot_arena.specs.declared.nodes.Node.{Node}
use Rattle.slot_arena.specs.declared.nodes.Node.TheVariants.{Indirection, Branch, Single, Tomb, List as Listed}
use Rattle.slot_arena.specs.declared.stored_nodes.Cell.{Cell}
use Rattle.slot_arena.specs.declared.stored_nodes.Cell.TheVariants as cell
use Rattle.slot_arena.specs.Heaps.{entries_from, with_main_word}
use Rattle.slot_arena.specs.Pools.{Pool, row_at, node_in, with_main_cell, has, has_row, HasRows, CanPut, IsPut, IsPlaced, given_back, CanGiveBack}
use Rattle.slot_arena.specs.Times.{times}
use Rattle.slot_arena.proofs.Times.{bit, once, once_same, once_other, times_push}

-- ---- lists

pub map-at : {X Y : Type 0} (f : X → Y) (xs : List X) (k : ℕ) (x d : X) (e : Y) → k < length xs → get_or xs k d ≡ x → f x ≡ get_or (map f xs) k e
map-at f [] k x d e within is = absurd (omega arith)
map-at f (y ∷ xs) zero x d e within is = ap f (sym is)
map-at f (y ∷ xs) (suc k) x d e within is = map-at f xs k x d e (omega arith) is

push_other : {X : Type 0} (xs : List X) (y d : X) (i : ℕ) → (i ≡ length xs → ⊥) → get_or (xs ++ y ∷ []) i d ≡ get_or xs i d
push_other [] y d zero apart = absurd (apart refl)
push_other [] y d (suc i) apart = refl
push_other (x ∷ xs) y d zero apart = refl
push_other (x ∷ xs) y d (suc i) apart = push_other xs y d i (λ same. apart (ap suc same))

-- what is a slot has a cell
pub cell_within : (rows : List (ArrayVec Ref)) (cells : List Cell) (nodes : List (Option Node)) (k : ℕ) → map (node_in rows) cells ≡ nodes → k < length nodes → k < length cells
cell_within rows cells nodes k is within = omega (arith, ap length is, length-map cells (node_in rows))

-- and stands for the node that is seen there
pub cell_read : (rows : List (ArrayVec Ref)) (cells : List Cell) (nodes : List (Option Node)) (k : ℕ) → map (node_in rows) cells ≡ nodes → k < length cells →
    node_in rows (get_or cells k cell.Free) ≡ get_or nodes k None
cell_read rows cells nodes k is within = map-at (node_in rows) cells k (get_or cells k cell.Free) cell.Free None within refl ∙ ap (λ ns. get_or ns k None) is

-- ---- rows

-- giving back changes no row
same_rows : (pool : Pool) (c : Cell) → (given_back c pool).rows ≡ pool.rows
same_rows pool cell.Free = refl
same_rows pool (cell.Indirection generation main) = refl
same_rows pool (cell.Branch bitmap own) = refl
same_rows pool (cell.Single key value) = refl
same_rows pool (cell.Tomb single) = refl
same_rows pool (cell.List own) = refl

-- where a row may be put, a spare one is there
pub spare_within : (pool : Pool) → CanPut pool → (spare : List ℕ) (row : ℕ) → pool.spare ≡ spare ++ row ∷ [] → row < length pool.rows
spare_within pool can spare row is = can.0 row (omega (arith, ap (times row) is, times_push row row spare, once_same row))

module _ (cells : List Cell) (pool : Pool) (h : HasRows cells pool) (k : ℕ) (within : k < length cells) where
  -- what a cell has is a row
  pub owner_within : (row : ℕ) → has row (get_or cells k cell.Free) ≡ true → row < length pool.rows
  owner_within row owns = elim (cases_lt row (length pool.rows)) [
    | inl below ↦ below
    | inr past ↦ absurd (omega (arith, get_or-le-sum_by (λ c. bit (has row c)) cells k cell.Free within, ap bit owns, h.never row past))
  ]

  -- and not all numbers are spare where a cell has one
  owner_room : has_row (get_or cells k cell.Free) ≡ true → length pool.spare < pool.size
  owner_room owns = omega (arith, get_or-le-sum_by (λ c. bit (has_row c)) cells k cell.Free within, ap bit owns, h.all, h.fits)

  pub can_give_back : (c : Cell) → get_or cells k cell.Free ≡ c → CanGiveBack c pool
  can_give_back cell.Free is = tt
  can_give_back (cell.Indirection generation main) is = tt
  can_give_back (cell.Branch bitmap row) is = owner_room (ap has_row is)
  can_give_back (cell.Single key value) is = tt
  can_give_back (cell.Tomb single) is = tt
  can_give_back (cell.List row) is = owner_room (ap has_row is)

  -- how often a row is had after a cell is put
  has_set : (row : ℕ) (c : Cell) → count_by (has row) (set cells k c) + bit (has row (get_or cells k cell.Free)) ≡ count_by (has row) cells + bit (has row c)
  has_set row c = sum_by-set (λ x. bit (has row x)) cells k c cell.Free within

  rows_set : (c : Cell) → count_by has_row (set cells k c) + bit (has_row (get_or cells k cell.Free)) ≡ count_by has_row cells + bit (has_row c)
  rows_set c = sum_by-set (λ x. bit (has_row x)) cells k c cell.Free within

  -- ---- a cell's row is given back

  spare_times : (c : Cell) (row : ℕ) → times row (given_back c pool).spare ≡ times row pool.spare + bit (has row c)
  spare_times cell.Free row = omega arith
  spare_times (cell.Indirection generation main) row = omega arith
  spare_times (cell.Branch bitmap own) row = times_push row own pool.spare
  spare_times (cell.Single key value) row = omega arith
  spare_times (cell.Tomb single) row = omega arith
  spare_times (cell.List own) row = times_push row own pool.spare

  spare_length : (c : Cell) → length (given_back c pool).spare ≡ length pool.spare + bit (has_row c)
  spare_length cell.Free = omega arith
  spare_length (cell.Indirection generation main) = omega arith
  spare_length (cell.Branch bitmap own) = length_push pool.spare own
  spare_length (cell.Single key value) = omega arith
  spare_length (cell.Tomb single) = omega arith
  spare_length (cell.List own) = length_push pool.spare own

  same_size : (c : Cell) → (given_back c pool).size ≡ pool.size
  same_size cell.Free = refl
  same_size (cell.Indirection generation main) = refl
  same_size (cell.Branch bitmap own) = refl
  same_size (cell.Single key value) = refl
  same_size (cell.Tomb single) = refl
  same_size (cell.List own) = refl

  pub given : HasRows (set cells k cell.Free) (given_back (get_or cells k cell.Free) pool)
  given =
      let c : Cell = get_or cells k cell.Free in
      let rows = ap length (same_rows pool c) in
      record {
        once = λ row below. omega (arith, h.once row (omega arith), has_set row cell.Free, spare_times c row);
        never = λ row past. omega (arith, h.never row (omega arith), has_set row cell.Free, spare_times c row);
        all = omega (arith, h.all, rows_set cell.Free, spare_length c);
        room = omega (arith, h.room, length-set cells k cell.Free, same_size c);
        fits = omega (arith, h.fits, same_size c);
      }

  -- ---- a cell is put where none with a row stands

  -- a cell like the one before
  pub kept : (c : Cell) → ((row : ℕ) → has row c ≡ has row (get_or cells k cell.Free)) → has_row c ≡ has_row (get_or cells k cell.Free) → HasRows (set cells k c) pool
  kept c rows all = record {
    once = λ row below. omega (arith, h.once row below, has_set row c, ap bit (rows row));
    never = λ row past. omega (arith, h.never row past, has_set row c, ap bit (rows row));
    all = omega (arith, h.all, rows_set c, ap bit all);
    room = omega (arith, h.room, length-set cells k c);
    fits = h.fits;
  }

  module _ (free : get_or cells k cell.Free ≡ cell.Free) where
    pub can_put : CanPut pool
    can_put = (
      λ row some. elim (cases_lt row (length pool.rows)) [
        | inl below ↦ below
        | inr past ↦ absurd (omega (arith, h.never row past))
      ],
      omega (arith, h.all, h.room, rows_set (cell.List 0), ap (λ c. bit (has_row c)) free, count_by-le-length has_row (set cells k (cell.List 0)), length-set cells k (cell.List 0)),
    )

    -- no cell has the row that is taken
    fresh : (entries : ArrayVec Ref) (row : ℕ) (after : Pool) → IsPut pool entries row after → count_by (has row) cells ≡ 0
    fresh entries row after (size, inl (spare, rows)) =
        let some = ap (times row) spare in
        elim (cases_lt row (length pool.rows)) [
          | inl below ↦ omega (arith, h.once row below, some, times_push row row after.spare, once_same row)
          | inr past ↦ omega (arith, h.never row past)
        ]
    fresh entries row after (size, inr (spare, none, last, rows)) = omega (arith, h.never row (omega arith))

    had : (c : Cell) (own : ℕ) → ((row : ℕ) → has row c ≡ (own == row)) → (row : ℕ) → count_by (has row) (set cells k c) ≡ count_by (has row) cells + once row own
    had c own is row = omega (arith, has_set row c, ap bit (is row), ap (λ x. bit (has row x)) free)

    taken_rows : (c : Cell) (entries : ArrayVec Ref) (own : ℕ) (after : Pool) → ((row : ℕ) → has row c ≡ (own == row)) → has_row c ≡ true → IsPut pool entries own after →
        HasRows (set cells k c) after
    taken_rows c entries own after is all (size, inl (spare, rows)) =
        let long = ap length rows ∙ length-set pool.rows own entries in
        record {
          once = λ row below. omega (arith, h.once row (omega arith), had c own is row, ap (times row) spare, times_push row own after.spare);
          never = λ row past. omega (arith, h.never row (omega arith), had c own is row, ap (times row) spare, times_push row own after.spare);
          all = omega (arith, h.all, rows_set c, ap bit all, ap (λ x. bit (has_row x)) free, ap length spare, length_push after.spare own);
          room = omega (arith, h.room, length-set cells k c);
          fits = omega (arith, h.fits);
        }
    taken_rows c entries own after is all (size, inr (spare, none, last, rows)) =
        let long = ap length rows ∙ length_push pool.rows entries in
        let fresh_count = fresh entries own after (size, inr (spare, none, last, rows)) in
        record {
          once = λ row below. elim (cases_eq row own) [
            | inl same ↦
                subst (λ r. count_by (has r) (set cells k c) + times r after.spare ≡ 1) (sym same) (omega (arith, fresh_count, had c own is own, once_same own, ap (times own) none))
            | inr other ↦ omega (arith, h.once row (omega arith), had c own is row, once_other row own other, ap (times row) none, ap (times row) spare)
          ];
          never = λ row past.
              let other : row ≡ own → ⊥ = λ same. absurd (omega arith) in
              omega (arith, h.never row (omega arith), had c own is row, once_other row own other, ap (times row) none, ap (times row) spare);
          all = omega (arith, h.all, rows_set c, ap bit all, ap (λ x. bit (has_row x)) free, ap length spare, ap length none);
          room = omega (arith, h.room, length-set cells k c);
          fits = omega (arith, can_put.1, ap length spare);
        }

-- ---- what the cells stand for

apart : (own row : ℕ) → bit (own == row) ≡ 0 → own ≡ row → ⊥
apart own row none same = absurd (omega (arith, none, once_same row, ap (once row) same))

-- a cell stands for the same node where its row is the same
same_node : (before after : List (ArrayVec Ref)) (row : ℕ) → ((i : ℕ) → (i ≡ row → ⊥) → row_at after i ≡ row_at before i) → (c : Cell) → bit (has row c) ≡ 0 →
    node_in after c ≡ node_in before c
same_node before after row agree cell.Free none = refl
same_node before after row agree (cell.Indirection generation main) none = refl
same_node before after row agree (cell.Branch bitmap own) none = ap (λ es. Some (Branch bitmap es)) (agree own (apart own row none))
same_node before after row agree (cell.Single key value) none = refl
same_node before after row agree (cell.Tomb single) none = refl
same_node before after row agree (cell.List own) none = ap (λ es. Some (Listed es)) (agree own (apart own row none))

same_nodes : (before after : List (ArrayVec Ref)) (row : ℕ) → ((i : ℕ) → (i ≡ row → ⊥) → row_at after i ≡ row_at before i) → (cells : List Cell) → count_by (has row) cells ≡ 0 →
    map (node_in after) cells ≡ map (node_in before) cells
same_nodes before after row agree [] none = refl
same_nodes before after row agree (c ∷ cells) none =
    let parts = sum_by-cons (λ x. bit (has row x)) c cells in
    ap (λ n. n ∷ map (node_in after) cells) (same_node before after row agree c (omega arith))
    ∙ ap (λ ns. node_in before c ∷ ns) (same_nodes before after row agree cells (omega arith))

-- the rows but for the one that is taken
others : (pool : Pool) (entries : ArrayVec Ref) (row : ℕ) (after : Pool) → IsPut pool entries row after → (i : ℕ) → (i ≡ row → ⊥) → row_at after.rows i ≡ row_at pool.rows i
others pool entries row after (size, inl (spare, rows)) i other =
    ap (λ rs. row_at rs i) rows ∙ get_or-set_other pool.rows row i entries (entries_from []) other
others pool entries row after (size, inr (spare, none, last, rows)) i other =
    ap (λ rs. row_at rs i) rows ∙ push_other pool.rows entries (entries_from []) i (λ same. other (same ∙ sym last))

module _ (cells : List Cell) (pool : Pool) (h : HasRows cells pool) (k : ℕ) (within : k < length cells) (free : get_or cells k cell.Free ≡ cell.Free) where
  -- and that one
  read : (entries : ArrayVec Ref) (row : ℕ) (after : Pool) → IsPut pool entries row after → row_at after.rows row ≡ entries
  read entries row after (size, inl (spare, rows)) =
      let below = spare_within pool (can_put cells pool h k within free) after.spare row spare in
      ap (λ rs. row_at rs row) rows ∙ get_or-set_same pool.rows row entries (entries_from []) below
  read entries row after (size, inr (spare, none, last, rows)) = ap (λ rs. row_at rs row) rows ∙ get_or_push pool.rows entries (entries_from []) row (sym last)

  seen_row : (c : Cell) (node : Option Node) (entries : ArrayVec Ref) (row : ℕ) (after : Pool) → IsPut pool entries row after → node_in after.rows c ≡ node →
      map (node_in after.rows) (set cells k c) ≡ set (map (node_in pool.rows) cells) k node
  seen_row c node entries row after put is =
      map-set (node_in after.rows) cells k c ∙ ap (λ n. set (map (node_in after.rows) cells) k n) is
      ∙ ap (λ ns. set ns k node) (same_nodes pool.rows after.rows row (others pool entries row after put) cells (fresh cells pool h k within free entries row after put))

  none_free : (row : ℕ) → has row (get_or cells k cell.Free) ≡ false
  none_free row = ap (has row) free

  -- the cell that was placed, with the rows
  pub placed_rows : (node : Node) (c : Cell) (after : Pool) → IsPlaced pool node c after → HasRows (set cells k c) after
  placed_rows (Indirection generation main) c after (is, same) =
      subst (λ p. HasRows (set cells k c) p) (sym same) (kept cells pool h k within c (λ row. ap (has row) is ∙ sym (none_free row)) (ap has_row is ∙ sym (ap has_row free)))
  placed_rows (Branch bitmap entries) c after (row, is, put) = taken_rows cells pool h k within free c entries row after (λ r. ap (has r) is) (ap has_row is) put
  placed_rows (Single key value) c after (is, same) =
      subst (λ p. HasRows (set cells k c) p) (sym same) (kept cells pool h k within c (λ row. ap (has row) is ∙ sym (none_free row)) (ap has_row is ∙ sym (ap has_row free)))
  placed_rows (Tomb single) c after (is, same) =
      subst (λ p. HasRows (set cells k c) p) (sym same) (kept cells pool h k within c (λ row. ap (has row) is ∙ sym (none_free row)) (ap has_row is ∙ sym (ap has_row free)))
  placed_rows (Listed singles) c after (row, is, put) = taken_rows cells pool h k within free c singles row after (λ r. ap (has r) is) (ap has_row is) put

  pub placed_nodes : (node : Node) (c : Cell) (after : Pool) → IsPlaced pool node c after → map (node_in after.rows) (set cells k c) ≡ set (map (node_in pool.rows) cells) k (Some node)
  placed_nodes (Indirection generation main) c after (is, same) =
      ap (λ p. map (node_in p.rows) (set cells k c)) same ∙ map-set (node_in pool.rows) cells k c ∙ ap (λ x. set (map (node_in pool.rows) cells) k (node_in pool.rows x)) is
  placed_nodes (Branch bitmap entries) c after (row, is, put) =
      seen_row c (Some (Branch bitmap entries)) entries row after put (ap (node_in after.rows) is ∙ ap (λ es. Some (Branch bitmap es)) (read entries row after put))
  placed_nodes (Single key value) c after (is, same) =
      ap (λ p. map (node_in p.rows) (set cells k c)) same ∙ map-set (node_in pool.rows) cells k c ∙ ap (λ x. set (map (node_in pool.rows) cells) k (node_in pool.rows x)) is
  placed_nodes (Tomb single) c after (is, same) =
      ap (λ p. map (node_in p.rows) (set cells k c)) same ∙ map-set (node_in pool.rows) cells k c ∙ ap (λ x. set (map (node_in pool.rows) cells) k (node_in pool.rows x)) is
  placed_nodes (Listed singles) c after (row, is, put) =
      seen_row c (Some (Listed singles)) singles row after put (ap (node_in after.rows) is ∙ ap (λ es. Some (Listed es)) (read singles row after put))

-- ---- cells that are free, and cells that go

free_one : (rows : List (ArrayVec Ref)) (c : Cell) → node_in rows c ≡ None → c ≡ cell.Free
free_one rows cell.Free none = refl
free_one rows (cell.Indirection generation main) none = cc
free_one rows (cell.Branch bitmap row) none = cc
free_one rows (cell.Single key value) none = cc
free_one rows (cell.Tomb single) none = cc
free_one rows (cell.List row) none = cc

-- where no node stands the cell is free
pub free_cell : (rows : List (ArrayVec Ref)) (cells : List Cell) (nodes : List (Option Node)) (k : ℕ) → map (node_in rows) cells ≡ nodes → k < length cells → get_or nodes k None ≡ None →
    get_or cells k cell.Free ≡ cell.Free
free_cell rows cells nodes k is within none =
    free_one rows (get_or cells k cell.Free) (cell_read rows cells nodes k is within ∙ none)

-- a node goes, and its row is given back
pub cleared_nodes : (cells : List Cell) (pool : Pool) (k : ℕ) → map (node_in (given_back (get_or cells k cell.Free) pool).rows) (set cells k cell.Free) ≡ set (map (node_in pool.rows) cells) k None
cleared_nodes cells pool k = ap (λ rs. map (node_in rs) (set cells k cell.Free)) (same_rows pool (get_or cells k cell.Free)) ∙ map-set (node_in pool.rows) cells k cell.Free

-- ---- a main word is changed

main_in : (rows : List (ArrayVec Ref)) (m : Ref) (c : Cell) → node_in rows (with_main_cell m c) ≡ option_map (with_main_word m) (node_in rows c)
main_in rows m cell.Free = refl
main_in rows m (cell.Indirection generation main) = refl
main_in rows m (cell.Branch bitmap row) = refl
main_in rows m (cell.Single key value) = refl
main_in rows m (cell.Tomb single) = refl
main_in rows m (cell.List row) = refl

main_has : (m : Ref) (row : ℕ) (c : Cell) → has row (with_main_cell m c) ≡ has row c
main_has m row cell.Free = refl
main_has m row (cell.Indirection generation main) = refl
main_has m row (cell.Branch bitmap own) = refl
main_has m row (cell.Single key value) = refl
main_has m row (cell.Tomb single) = refl
main_has m row (cell.List own) = refl

main_has_row : (m : Ref) (c : Cell) → has_row (with_main_cell m c) ≡ has_row c
main_has_row m cell.Free = refl
main_has_row m (cell.Indirection generation main) = refl
main_has_row m (cell.Branch bitmap own) = refl
main_has_row m (cell.Single key value) = refl
main_has_row m (cell.Tomb single) = refl
main_has_row m (cell.List own) = refl

module _ (cells : List Cell) (pool : Pool) (h : HasRows cells pool) (k : ℕ) (within : k < length cells) (m : Ref) (c : Cell) (is : c ≡ with_main_cell m (get_or cells k cell.Free)) where
  pub main_rows : HasRows (set cells k c) pool
  main_rows =
      let was : Cell = get_or cells k cell.Free in
      kept cells pool h k within c (λ row. ap (has row) is ∙ main_has m row was) (ap has_row is ∙ main_has_row m was)

  pub main_nodes : map (node_in pool.rows) (set cells k c) ≡ set (map (node_in pool.rows) cells) k (option_map (with_main_word m) (get_or (map (node_in pool.rows) cells) k None))
  main_nodes =
      map-set (node_in pool.rows) cells k c
      ∙ ap (λ n. set (map (node_in pool.rows) cells) k n)
      (ap (node_in pool.rows) is ∙ main_in pool.rows m (get_or cells k cell.Free)
      ∙ ap (option_map (with_main_word m)) (map-at (node_in pool.rows) cells k (get_or cells k cell.Free) cell.Free None within refl))

-- ---- at the beginning

pub no_nodes : (rows : List (ArrayVec Ref)) (n : ℕ) (cells : List Cell) → cells ≡ replicate n cell.Free → map (node_in rows) cells ≡ replicate n None
no_nodes rows n cells is = ap (map (node_in rows)) is ∙ each n
  where
    each : (m : ℕ) → map (node_in rows) (replicate m cell.Free) ≡ replicate m None
    each zero = refl
    each (suc m) = ap (λ ns. None ∷ ns) (each m)
