-- A word changes that no slot has; of a count, also what its seat holds, and which links it knows: the rest of the rule holds still.
use Rattle.history.specs.declared.calls.Call.{Call}
use Rattle.std.proofs.Common.{◌≡◌, ◌≢◌, ℕ, ◌<◌, ◌≤◌, inl, inr, List, Contains, set, slice_index, refl, sym, ap, subst, ◌∙◌, arith, length-set}
use Rattle.std.proofs.lemmas.Bool.{cases_eq}
use mathlib.Core.Option.{some, some-injective}
use lib.ListN.{get_elem?}
use Rattle.atomic_table.specs.Table as Table
use Rattle.machine_model.specs.Beneath.slot_arena.specs.declared.nodes.Slot.{Slot}
use Rattle.machine_model.specs.States.{handle_limit}
use Rattle.lock_free.specs.declared.accounts.Known.{Known}
use Rattle.lock_free.specs.declared.rules.Retired.{Retired}
use Rattle.lock_free.specs.declared.rules.View.{View}
use Rattle.lock_free.specs.declared.sizes.Sizes.{Sizes}
use Rattle.lock_free.specs.Accounts.{state_of, place_at}
use Rattle.lock_free.specs.Cells.{AreCells, IsFree}
use Rattle.lock_free.specs.Holdings.{AreHeld}
use Rattle.lock_free.specs.Nodes.{class_of}
use Rattle.lock_free.specs.Places.{first_cell_word, first_slot_word, generation_word, pin_word, root_word, IsTaken}
use Rattle.lock_free.specs.Reclaiming.{retiring}
use Rattle.lock_free.specs.Rules.{AreDrafts, IsClosing, IsRetired, IsSpare, SaysClosing, Stands, NodesStand, IsSeat, IsKept}
use Rattle.lock_free.proofs.Assembling.{AllStand, closing_stays, numbers_stay, assembled}
use Rattle.lock_free.proofs.CellsStay.{beside_cell, cells_stay, NoneLoosened}
use Rattle.lock_free.proofs.CountWords.{IsBesideSlots}
use Rattle.lock_free.proofs.Framing.{below_word, class_small, else_word, have_still, roots_still, stands_over, still_taken}
use Rattle.lock_free.proofs.Geometry.{IsWordOf, root_below}
use Rattle.lock_free.proofs.Meanings.{no_tries}
use Rattle.lock_free.proofs.RetiredMore.{seat_retiring}
use Rattle.lock_free.proofs.PlainStay.{plain_elsewhere}
use Rattle.lock_free.proofs.Seats.{ran_so, numbers_so, Stays, other_kept, own_still}
use Rattle.lock_free.proofs.PartingStay.{knows_still, names_same}

module _ (sizes : Sizes) (s : Table.State Call View) (kept : IsKept sizes s) (id : ℕ) (v : View) (at : get_elem? s.views id ≡ some v) (c : ℕ) (is : IsBesideSlots sizes s.words c) (x : ℕ) where
  abbrev words_then : List ℕ
  words_then = set s.words c x

  far : first_slot_word sizes ≤ c
  far = is.far

  pub else_same : (j : ℕ) → j ≢ c → slice_index words_then j ≡ slice_index s.words j
  else_same = else_word kept.account s.words c x

  low_same : (j : ℕ) → j < first_slot_word sizes → slice_index words_then j ≡ slice_index s.words j
  low_same = below_word sizes kept.account s.words kept.taken c far x

  pub taken_then : (b n : ℕ) → b < 3 → IsTaken sizes s.words b n → IsTaken sizes words_then b n
  taken_then = still_taken sizes kept.account s.words kept.taken c far x

  beside : (b n j : ℕ) → b < 3 → IsTaken sizes s.words b n → IsWordOf b n j → j ≢ c
  beside = is.beside

  beside_node : (k : ℕ) (slot : Slot) → Stands kept.stands (state_of sizes kept.account) k slot → (j : ℕ) → IsWordOf (class_of slot.node) (place_at kept.account k) j → j ≢ c
  beside_node k slot h j its = beside (class_of slot.node) (place_at kept.account k) j (class_small slot.node) (kept.nodes.within k slot h) its

  beside_offer : (k : Known) → Contains kept.account.offers k → (j : ℕ) → IsWordOf 1 k.slot j → j ≢ c
  beside_offer k h j its = beside 1 k.slot j (omega arith) (kept.roots.blocks k h) its

  nodes_then : NodesStand sizes kept.account kept.stands words_then
  nodes_then = record {
    within = λ k slot h. taken_then (class_of slot.node) (place_at kept.account k) (class_small slot.node) (kept.nodes.within k slot h);
    small = kept.nodes.small;
    apart = kept.nodes.apart;
    offers = kept.nodes.offers;
    written = λ k slot h.
        stands_over kept.account s.words c x (place_at kept.account k) (state_of sizes kept.account) k slot slot.node (kept.nodes.small k slot h) (beside_node k slot h) (kept.nodes.written k slot h);
    inside = kept.nodes.inside;
    owners = kept.nodes.owners;
    owned = kept.nodes.owned;
    live = kept.nodes.live;
    reached = kept.nodes.reached;
  }

  pub all_then : AllStand sizes kept.account kept.stands words_then
  all_then = record {
    bounds = kept.bounds;
    keys = kept.keys;
    quiet = kept.quiet;
    counted = kept.counted;
    size = length-set s.words c x ∙ kept.size;
    taken = have_still sizes kept.account s.words kept.taken c far x;
    generations = low_same generation_word (omega arith) ∙ kept.generations;
    nodes = nodes_then;
    roots = roots_still sizes kept.account s.words kept.taken c far x beside_offer kept.roots;
  }

  pub pin_same : (a : ℕ) → a ≤ sizes.seats → slice_index words_then (pin_word a) ≡ slice_index s.words (pin_word a)
  pin_same a most = low_same (pin_word a) (omega (arith, most))

  pub root_same : (handle : ℕ) → handle < handle_limit → slice_index words_then (root_word handle) ≡ slice_index s.words (root_word handle)
  root_same handle low = let where_it_is = root_below handle low in low_same (root_word handle) (omega (arith, where_it_is.1))

  spare_same : (other : ℕ) (w : View) (b n : ℕ) → get_elem? s.views other ≡ some w → b < 3 → IsTaken sizes s.words b n → (j : ℕ) → IsWordOf b n j → slice_index words_then j ≡ slice_index s.words j
  spare_same other w b n e low taken j its = else_same j (beside b n j low taken its)

  pub stays : Stays sizes s kept id v at kept.account kept.stands words_then
  stays = record {
    waits = λ a first differs h. h;
    still = λ y h. h.still;
    others = λ a apart. ran_so (state_of sizes kept.account) (state_of sizes kept.account) a refl;
    pins = λ a some most apart. pin_same a most;
    named = λ other w e apart handle slot o n. root_same handle n.low;
    numbers = λ other w e apart. numbers_so sizes s kept kept.account words_then (no_tries kept.account.offers (state_of sizes kept.account)) refl root_same other w e;
    still_open = λ other w at_w handle inside e. e;
    taken = taken_then;
    spare = λ other w b n e apart f. (let y = (kept.seats other w e).spare b n f in (y.1, spare_same other w b n e f.0 y.0));
    plain = plain_elsewhere sizes kept.account s.words words_then root_same;
    offering = knows_still kept.account.offered kept.account.offers kept.account.parted s.words words_then
        (names_same kept.account.offers s.words words_then root_same);
  }

  seat : IsSeat sizes kept.account kept.stands s.words v
  seat = kept.seats id v at

  written : (d : ℕ × ℕ) → Contains v.drafts d → AreDrafts words_then v d
  written d h =
      let y = seat.drafts d h in
      let slot = y.1 in
      (spare_same id v slot.0 slot.1 at slot.2.0 (seat.spare slot.0 slot.1 slot.2).0 d.0 (record { low = slot.3; high = slot.4 }) ∙ y.0, slot)

  pub own_before : IsSeat sizes kept.account kept.stands words_then v
  own_before =
      own_still sizes s kept id v at words_then stays (numbers_so sizes s kept kept.account words_then (no_tries kept.account.offers (state_of sizes kept.account)) refl root_same id v at)
      (pin_same v.actor (omega (arith, seat.top, seat.most))) v.pool v.drafts
      (λ b n f. (let y = seat.spare b n f in (taken_then b n f.0 y.0, y.1))) seat.once written (λ handle slot y. (root_same handle y.low, y.free.1)) refl

  pub seats_then : (other : ℕ) (w : View) → get_elem? s.views other ≡ some w → IsSeat sizes kept.account kept.stands words_then w
  seats_then other w e = elim (cases_eq other id) [
    | inl same ↦ subst (IsSeat sizes kept.account kept.stands words_then) (some-injective v w (sym at ∙ ap (λ n. get_elem? s.views n) (sym same) ∙ e)) own_before
    | inr apart ↦ other_kept sizes s kept id v at kept.account kept.stands words_then stays other w e apart
  ]

  -- ---- with what its seat holds, and the links that it knows

  module _ (before : c < first_cell_word sizes) (loose : NoneLoosened sizes s.words words_then) (owed : List ℕ) (links : List (ℕ × ℕ))
      (held : AreHeld sizes kept.account kept.stands words_then (set s.views id (record v { owed = owed; links = links }))) where
    abbrev view_then : View
    view_then = record v { owed = owed; links = links }

    cells_then : (later : View) → ((b n : ℕ) → IsFree later b n → IsFree v b n) → AreCells sizes (IsSpare sizes kept.account kept.stands) words_then (set s.views id later)
    cells_then later free =
        cells_stay sizes s kept id v at later kept.account kept.stands words_then (beside_cell sizes s.words c x before) loose (λ b n low was is no. (taken_then b n low was, is))
        (λ b n k it was is f. free k n f)

    own_then : IsSeat sizes kept.account kept.stands words_then view_then
    own_then =
        let h = own_before in
        record {
          same = h.same;
          low = h.low;
          top = h.top;
          most = h.most;
          waited = h.waited;
          rested = h.rested;
          counts = h.counts;
          rests = h.rests;
          pinned = h.pinned;
          pinned_idle = h.pinned_idle;
          retired = h.retired;
          entered = h.entered;
          calls = h.calls;
          opens = h.opens;
          reserves = h.reserves;
          opening = λ handle slot o n. (let y = h.opening handle slot o n in record { low = y.low; fits = y.fits; is = y.is; free = y.free });
          spare = h.spare;
          once = h.once;
          drafts = h.drafts;
          plain = h.plain;
          offering = h.offering;
        }

    closings_then : (handle who : ℕ) → handle < handle_limit → SaysClosing (slice_index words_then (root_word handle)) who → IsClosing (set s.views id view_then) handle who
    closings_then handle who low says =
        closing_stays sizes s kept id v at view_then refl refl (λ h e. (e, refl)) refl (λ c. c) handle who (kept.closings handle who low (subst (λ n. SaysClosing n who) (root_same handle low) says))

    pub count_kept : IsKept sizes (record { words = words_then; homes = s.homes; views = set s.views id view_then })
    count_kept =
        assembled sizes s kept id v at view_then refl refl kept.account kept.stands words_then all_then closings_then own_then
        (other_kept sizes s kept id v at kept.account kept.stands words_then stays)
        (λ b n f. inl f)
        (numbers_stay sizes s kept id v at view_then refl refl kept.account words_then (no_tries kept.account.offers (state_of sizes kept.account)) (λ slot none. none) root_same refl
        (λ slot handle e free. free)) held
        (cells_then view_then (λ b n f. f))

    -- the same where it has retired one slot more
    module _ (y : Retired) (its : IsRetired sizes kept.account kept.stands y) (held_too : AreHeld sizes kept.account kept.stands words_then (set s.views id (retiring view_then y))) where
      pub count_retiring : IsKept sizes (record { words = words_then; homes = s.homes; views = set s.views id (retiring view_then y) })
      count_retiring =
          assembled sizes s kept id v at (retiring view_then y) refl refl kept.account kept.stands words_then all_then
          (λ handle who low says. closing_stays sizes s kept id v at (retiring view_then y) refl refl (λ h e. (e, refl)) refl (λ c. c) handle who
          (kept.closings handle who low (subst (λ n. SaysClosing n who) (root_same handle low) says)))
          (seat_retiring sizes kept.account kept.stands words_then view_then y its own_then) (other_kept sizes s kept id v at kept.account kept.stands words_then stays)
          (λ b n f. inl f)
          (numbers_stay sizes s kept id v at (retiring view_then y) refl refl kept.account words_then (no_tries kept.account.offers (state_of sizes kept.account)) (λ slot none. none) root_same refl
          (λ slot handle e free. free)) held_too
          (cells_then (retiring view_then y) (λ b n f. f))
