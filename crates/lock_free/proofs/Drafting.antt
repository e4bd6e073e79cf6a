-- A seat writes a word in a free slot of its own.
use Rattle.history.specs.declared.calls.Call.{Call}
use Rattle.std.proofs.Common.{◌≡◌, ◌≢◌, ◌⊎◌, ℕ, ◌<◌, ◌≤◌, inl, inr, List, Contains, set, slice_index, refl, sym, subst, ◌∙◌, arith}
use Rattle.std.proofs.lemmas.List.{get_or-set_same}
use mathlib.Core.Option.{some}
use lib.ListN.{get_elem?}
use Rattle.atomic_table.specs.Table as Table
use Rattle.machine_model.specs.States.{handle_limit}
use Rattle.lock_free.specs.declared.rules.View.{View}
use Rattle.lock_free.specs.declared.sizes.Sizes.{Sizes}
use Rattle.lock_free.specs.Making.{with_draft}
use Rattle.lock_free.specs.Places.{pin_word, root_word, IsTaken}
use Rattle.lock_free.specs.Rules.{IsClosing, SaysClosing, IsFree, IsSpare, AreDrafts, IsSeat, IsKept}
use Rattle.lock_free.specs.Accounts.{state_of}
use Rattle.lock_free.proofs.Meanings.{no_tries}
use Rattle.lock_free.proofs.Assembling.{AllStand, all_stand, closing_stays, numbers_stay, assembled}
use Rattle.lock_free.proofs.CellsStay.{before_cells, cells_beside}
use Rattle.lock_free.proofs.Drafts.{which}
use Rattle.lock_free.proofs.Framing.{other_word, low_word, taken_over, all_over}
use Rattle.lock_free.proofs.Geometry.{IsWordOf, slots_apart, inside, root_below}
use Rattle.lock_free.proofs.PlainStay.{plain_elsewhere}
use Rattle.lock_free.proofs.Seats.{ran_so, numbers_so, Stays, other_kept, own_still}
use Rattle.lock_free.proofs.HeldStill.{held_words}
use Rattle.lock_free.proofs.CountWords.{slot_apart}
use Rattle.lock_free.proofs.PartingStay.{knows_still, names_same}

module _ (sizes : Sizes) (s : Table.State Call View) (kept : IsKept sizes s) (id : ℕ) (v : View) (at : get_elem? s.views id ≡ some v) (class name : ℕ) (free : IsFree v class name) (j : ℕ)
    (its : IsWordOf class name j)
    (x : ℕ) where
  abbrev all : AllStand sizes kept.account kept.stands s.words
  all = all_stand sizes s kept

  abbrev pub words_then : List ℕ
  words_then = set s.words j x

  abbrev pub view_then : View
  view_then = record v { drafts = with_draft v.drafts j x }

  seat : IsSeat sizes kept.account kept.stands s.words v
  seat = kept.seats id v at

  is_spare : IsTaken sizes s.words class name × IsSpare sizes kept.account kept.stands name
  is_spare = seat.spare class name free

  all_then : AllStand sizes kept.account kept.stands words_then
  all_then = all_over sizes kept.account kept.stands s.words all class name free.0 is_spare.0 is_spare.1 j its x

  taken_then : (b n : ℕ) → b < 3 → IsTaken sizes s.words b n → IsTaken sizes words_then b n
  taken_then = taken_over sizes kept.account kept.stands s.words all class name free.0 is_spare.0 is_spare.1 j its x

  pin_same : (a : ℕ) → a ≤ sizes.seats → slice_index words_then (pin_word a) ≡ slice_index s.words (pin_word a)
  pin_same a most = low_word sizes kept.account kept.stands s.words all class name free.0 is_spare.0 is_spare.1 j its x (pin_word a) (omega (arith, most))

  root_same : (handle : ℕ) → handle < handle_limit → slice_index words_then (root_word handle) ≡ slice_index s.words (root_word handle)
  root_same handle low =
      let where_it_is = root_below handle low in
      low_word sizes kept.account kept.stands s.words all class name free.0 is_spare.0 is_spare.1 j its x (root_word handle) (omega (arith, where_it_is.1))

  else_same : (n : ℕ) → n ≢ j → slice_index words_then n ≡ slice_index s.words n
  else_same = other_word sizes kept.account kept.stands s.words all class name free.0 is_spare.0 is_spare.1 j its x

  stays : Stays sizes s kept id v at kept.account kept.stands words_then
  stays = record {
    waits = λ actor first differs h. h;
    still = λ x h. h.still;
    others = λ a apart. ran_so (state_of sizes kept.account) (state_of sizes kept.account) a refl;
    pins = λ a some most apart. pin_same a most;
    named = λ other w e apart handle slot o x. root_same handle x.low;
    numbers = λ other w e apart. numbers_so sizes s kept kept.account words_then (no_tries kept.account.offers (state_of sizes kept.account)) refl root_same other w e;
    still_open = λ other w at_w handle inside e. e;
    taken = taken_then;
    spare = λ other w b other_name e apart f.
        (let y = (kept.seats other w e).spare b other_name f in (
          y.1,
          λ n its_word. else_same n (λ same.
              (let both = slots_apart sizes s.words kept.taken b class other_name name j f.0 free.0 y.0 is_spare.0 (subst (λ m. IsWordOf b other_name m) same its_word) its in
              apart (kept.pools other id w v b class name e at (subst (λ m. IsFree w b m) both.1 f) free))),
        ));
    plain = plain_elsewhere sizes kept.account s.words words_then root_same;
    offering = knows_still kept.account.offered kept.account.offers kept.account.parted s.words words_then
        (names_same kept.account.offers s.words words_then root_same);
  }

  drafted : (d : ℕ × ℕ) → (d ≡ (j, x)) ⊎ ((d.0 ≢ j) × Contains v.drafts d) → AreDrafts words_then view_then d
  drafted d (inl new) =
      subst (λ e. AreDrafts words_then view_then e) (sym new)
      (get_or-set_same s.words j x 0 (subst (λ n. j < n) (sym kept.size) (inside sizes s.words kept.taken class name j free.0 is_spare.0 its)), (class, name, free, its.low, its.high))
  drafted d (inr old) = let y = seat.drafts d old.1 in (else_same d.0 old.0 ∙ y.0, y.1)

  own_then : IsSeat sizes kept.account kept.stands words_then view_then
  own_then =
      own_still sizes s kept id v at words_then stays (numbers_so sizes s kept kept.account words_then (no_tries kept.account.offers (state_of sizes kept.account)) refl root_same id v at)
      (pin_same v.actor (omega (arith, seat.top, seat.most))) v.pool view_then.drafts
      (λ b other f. (let y = seat.spare b other f in (taken_then b other f.0 y.0, y.1))) seat.once (λ d c. drafted d (which j x v.drafts d c))
      (λ handle slot y. (root_same handle y.low, y.free.1)) refl

  closings_then : (handle who : ℕ) → handle < handle_limit → SaysClosing (slice_index words_then (root_word handle)) who → IsClosing (set s.views id view_then) handle who
  closings_then handle who low says =
      closing_stays sizes s kept id v at view_then refl refl (λ h e. (e, refl)) refl (λ c. c) handle who (kept.closings handle who low (subst (λ n. SaysClosing n who) (root_same handle low) says))

  -- the rule holds
  pub draft_kept : IsKept sizes (record { words = words_then; homes = s.homes; views = set s.views id view_then })
  draft_kept =
      assembled sizes s kept id v at view_then refl refl kept.account kept.stands words_then all_then closings_then own_then (other_kept sizes s kept id v at kept.account kept.stands words_then stays)
      (λ b n f. inl f)
      (numbers_stay sizes s kept id v at view_then refl refl kept.account words_then (no_tries kept.account.offers (state_of sizes kept.account)) (λ slot none. none) root_same refl
      (λ slot handle e free. free))
      (held_words sizes s kept id v at view_then refl refl refl j x (slot_apart sizes s.words kept.taken class name j free.0 is_spare.0 its).1)
      (cells_beside sizes s kept id v at view_then j x (before_cells sizes s.words kept.taken class name j free.0 is_spare.0 its)
      (slot_apart sizes s.words kept.taken class name j free.0 is_spare.0 its).1 taken_then (λ b n f. f))
