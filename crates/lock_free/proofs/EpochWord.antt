-- A store to the epoch's word, or to the one that counts glances, changes nothing of what the rule says of nodes, handles and seats.
use Rattle.history.specs.declared.calls.Call.{Call}
use Rattle.std.proofs.Common.{◌≡◌, ◌≢◌, ℕ, ◌<◌, ◌≤◌, inl, List, set, slice_index, length-set, refl, sym, subst, ◌∙◌, arith}
use mathlib.Core.Option.{some}
use lib.ListN.{get_elem?}
use Rattle.atomic_table.specs.Table as Table
use Rattle.machine_model.specs.States.{State, handle_limit}
use Rattle.lock_free.specs.declared.rules.View.{View}
use Rattle.lock_free.specs.declared.sizes.Sizes.{Sizes}
use Rattle.lock_free.specs.Accounts.{state_of}
use Rattle.lock_free.specs.Places.{first_slot_word, generation_word, pin_word, root_word, slots_in, taken_word, IsTaken}
use Rattle.lock_free.specs.Rules.{IsFree, IsHeld, IsKept, IsSeat, Reserves, SaysClosing}
use Rattle.lock_free.proofs.Assembling.{AllStand, all_stand, assembled, closing_stays, numbers_stay}
use Rattle.lock_free.proofs.CellsStay.{cells_beside}
use Rattle.lock_free.proofs.Framing.{else_word, no_slot, nodes_below, roots_below}
use Rattle.lock_free.proofs.Geometry.{IsWordOf, root_far}
use Rattle.lock_free.proofs.Meanings.{no_tries}
use Rattle.lock_free.proofs.PlainStay.{plain_elsewhere}
use Rattle.lock_free.proofs.Seats.{Stays, StaysSpare, names_kept, other_kept, own_else, ran_so}
use Rattle.lock_free.proofs.HeldStill.{held_words}
use Rattle.lock_free.proofs.CountWords.{count_above}
use Rattle.lock_free.proofs.PartingStay.{knows_still, names_same}

module _ (sizes : Sizes) (s : Table.State Call View) (kept : IsKept sizes s) (id : ℕ) (v : View) (at : get_elem? s.views id ≡ some v) (word : ℕ) (low_word : word < 2) (x : ℕ) where
  abbrev all : AllStand sizes kept.account kept.stands s.words
  all = all_stand sizes s kept

  abbrev now : State
  now = state_of sizes kept.account

  abbrev pub grown : List ℕ
  grown = set s.words word x

  seat : IsSeat sizes kept.account kept.stands s.words v
  seat = kept.seats id v at

  inside : word < first_slot_word sizes
  inside = omega (arith, low_word)

  beside : (j : ℕ) → j ≢ word → slice_index grown j ≡ slice_index s.words j
  beside = else_word kept.account s.words word x

  root_apart : (g : ℕ) → root_word g ≢ word
  root_apart g e = let far = root_far g in omega (arith, far, e, low_word)

  root_same : (g : ℕ) → g < handle_limit → slice_index grown (root_word g) ≡ slice_index s.words (root_word g)
  root_same g low = beside (root_word g) (root_apart g)

  pin_same : (a : ℕ) → slice_index grown (pin_word a) ≡ slice_index s.words (pin_word a)
  pin_same a = beside (pin_word a) (λ e. omega (arith, e, low_word))

  count_same : (b : ℕ) → slice_index grown (taken_word b) ≡ slice_index s.words (taken_word b)
  count_same b = beside (taken_word b) (λ e. omega (arith, e, low_word))

  taken_then : (b n : ℕ) → b < 3 → IsTaken sizes s.words b n → IsTaken sizes grown b n
  taken_then b n small h = record { number = h.number; few = subst (λ m. h.number < m) (sym (count_same b)) h.few; first = h.first }

  slot_same : (b name : ℕ) → b < 3 → IsTaken sizes s.words b name → (j : ℕ) → IsWordOf b name j → slice_index grown j ≡ slice_index s.words j
  slot_same b name small is j its = beside j (no_slot sizes kept.account kept.stands s.words all.taken all.nodes all.roots word inside x taken_then b name small is j its)

  all_then : AllStand sizes kept.account kept.stands grown
  all_then = record {
    bounds = all.bounds;
    keys = all.keys;
    quiet = all.quiet;
    counted = all.counted;
    size = length-set s.words word x ∙ all.size;
    taken = λ b small. subst (λ n. n ≤ slots_in sizes b) (sym (count_same b)) (all.taken b small);
    generations = beside generation_word (λ e. omega (arith, e, low_word)) ∙ all.generations;
    nodes = nodes_below sizes kept.account kept.stands s.words all.taken all.nodes all.roots word inside x taken_then;
    roots = roots_below sizes kept.account kept.stands s.words all.taken all.nodes all.roots word inside x taken_then (λ handle low. root_apart handle);
  }

  held : (other : ℕ) (w : View) → get_elem? s.views other ≡ some w → (g : ℕ) → Reserves now w g → IsHeld now grown g
  held other w e g r = let h = (kept.seats other w e).opens g r in record { low = h.low; taken = λ none. h.taken (sym (root_same g h.low) ∙ none); closed = h.closed }

  stays_spare : (other : ℕ) (w : View) (b name : ℕ) → get_elem? s.views other ≡ some w → IsFree w b name → StaysSpare sizes s kept id v at kept.account kept.stands grown b name
  stays_spare other w b name e free = let h = (kept.seats other w e).spare b name free in (h.1, slot_same b name free.0 h.0)

  stays : Stays sizes s kept id v at kept.account kept.stands grown
  stays = record {
    waits = λ actor first differs h. h;
    still = λ x h. h.still;
    others = λ a differs. ran_so now now a refl;
    pins = λ a positive most_a differs. pin_same a;
    named = λ other w e apart handle slot o n. root_same handle n.low;
    numbers = λ other w e apart. held other w e;
    still_open = λ other w at_w g entered e. e;
    taken = taken_then;
    spare = λ other w b name e apart free. stays_spare other w b name e free;
    plain = plain_elsewhere sizes kept.account s.words grown root_same;
    offering = knows_still kept.account.offered kept.account.offers kept.account.parted s.words grown
        (names_same kept.account.offers s.words grown root_same);
  }

  own_then : IsSeat sizes kept.account kept.stands grown v
  own_then =
      own_else sizes s kept id v at kept.account kept.stands grown stays v.account seat.waited seat.rested seat.counts v.pin v.entered v.closing v.opens v.opening
      (pin_same v.actor ∙ seat.pinned) seat.pinned_idle seat.entered seat.calls (held id v at) seat.reserves
      (λ g slot o n. (let y = seat.opening g slot o n in names_kept sizes s kept id v at kept.account kept.stands grown stays v v g slot y (root_same g y.low) y.free))
      (λ b name free. stays_spare id v b name at free) (stays.offering v.actor v.pin v.offer v.pool.parted seat.offering)

  -- the rule holds
  pub grown_kept : IsKept sizes (record { words = grown; homes = s.homes; views = set s.views id v })
  grown_kept =
      assembled sizes s kept id v at v refl refl kept.account kept.stands grown all_then
      (λ g who below says. closing_stays sizes s kept id v at v refl refl (λ h e. (e, refl)) refl (λ c. c) g who (kept.closings g who below (subst (λ n. SaysClosing n who)
      (root_same g below) says))) own_then
      (other_kept sizes s kept id v at kept.account kept.stands grown stays) (λ b name f. inl f)
      (numbers_stay sizes s kept id v at v refl refl kept.account grown (no_tries kept.account.offers now) (λ slot none. none) root_same refl (λ slot g e free. free))
      (held_words sizes s kept id v at v refl refl refl word x (λ c is same. (let far = count_above sizes c is in omega (arith, far, same, low_word))))
      (cells_beside sizes s kept id v at v word x (omega (arith, low_word)) (λ c is same. (let far = count_above sizes c is in omega (arith, far, same, low_word))) taken_then (λ b n f. f))
