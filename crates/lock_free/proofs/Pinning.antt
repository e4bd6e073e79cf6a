-- A seat that runs nothing stores its own word: it pins itself, or goes out of a call that it hasn't begun.
use Rattle.history.specs.declared.calls.Call.{Call}
use Rattle.std.proofs.Common.{◌≡◌, ℕ, ◌<◌, ◌≤◌, inl, List, set, slice_index, Option, None, refl, sym, subst, ◌∙◌, arith, Some, ap}
use Rattle.std.proofs.lemmas.Option.{none-some}
use mathlib.Core.Option.{some}
use lib.ListN.{get_elem?}
use Rattle.atomic_table.specs.Table as Table
use Rattle.machine_model.specs.States.{State, operation_of, handle_limit}
use Rattle.lock_free.specs.declared.rules.Pinned.{Pinned}
use Rattle.lock_free.specs.declared.rules.View.{View}
use Rattle.lock_free.specs.declared.sizes.Sizes.{Sizes}
use Rattle.lock_free.specs.Accounts.{state_of}
use Rattle.lock_free.specs.Places.{pin_word, root_word}
use Rattle.lock_free.specs.Rules.{SaysClosing, IsFree, IsHeld, Reserves, IsSeat, IsKept, pin_word_of, HasPinnedIdle}
use Rattle.lock_free.proofs.Assembling.{AllStand, all_stand, closing_stays, numbers_stay, assembled}
use Rattle.lock_free.proofs.CellsStay.{cells_beside, pin_before}
use Rattle.lock_free.proofs.Meanings.{no_tries}
use Rattle.lock_free.proofs.RootSteps as root
use Rattle.lock_free.proofs.PlainStay.{plain_elsewhere}
use Rattle.lock_free.proofs.Seats.{ran_so, Stays, StaysSpare, other_kept, names_kept, own_else}
use Rattle.lock_free.proofs.HeldStill.{held_fewer}
use Rattle.lock_free.proofs.CountWords.{pin_apart}
use Rattle.lock_free.proofs.SeatOwing.{seat_owing}
use Rattle.lock_free.proofs.LinesStay.{lines_idle}
use Rattle.lock_free.proofs.ClaimsThere.{has_often, often_has}
use Rattle.lock_free.specs.Counts.{how_often, references_in}
use Rattle.machine_model.specs.Beneath.slot_arena.specs.declared.refs.Ref.{Ref}
use Rattle.std.proofs.lemmas.List.{get_or-set_other}
use Rattle.lock_free.proofs.PartingStay.{knows_still, names_same}
use Rattle.lock_free.specs.Parting.{KnowsOffers}

module _ (sizes : Sizes) (s : Table.State Call View) (kept : IsKept sizes s) (id : ℕ) (v : View) (at : get_elem? s.views id ≡ some v)
    (idle : operation_of (state_of sizes kept.account) v.actor ≡ None) (pin : Option Pinned) (owed : List Ref) (fewer : (k : Ref) → how_often k owed ≤ how_often k v.owed)
    (its : (p : Pinned) → pin ≡ Some p → HasPinnedIdle sizes kept.account v.actor p)
    (knows : KnowsOffers kept.account.offered kept.account.offers kept.account.parted s.words v.actor pin v.offer v.pool.parted) where
  abbrev all : AllStand sizes kept.account kept.stands s.words
  all = all_stand sizes s kept

  abbrev now : State
  now = state_of sizes kept.account

  abbrev pub words_then : List ℕ
  words_then = set s.words (pin_word v.actor) (pin_word_of pin)

  abbrev pub view_then : View
  view_then = record v { pin = pin; entered = None; owed = owed }

  seat : IsSeat sizes kept.account kept.stands s.words v
  seat = kept.seats id v at

  most : v.actor ≤ sizes.seats
  most = omega (arith, seat.top, seat.most)

  root_same : (g : ℕ) → g < handle_limit → slice_index words_then (root_word g) ≡ slice_index s.words (root_word g)
  root_same = root.root_pinned sizes kept.account kept.stands s.words all v.actor seat.low most (pin_word_of pin)

  held : (other : ℕ) (w : View) → get_elem? s.views other ≡ some w → (g : ℕ) → Reserves now w g → IsHeld now words_then g
  held other w e g r = let h = (kept.seats other w e).opens g r in record { low = h.low; taken = λ none. h.taken (sym (root_same g h.low) ∙ none); closed = h.closed }

  stays_spare : (other : ℕ) (w : View) (b name : ℕ) → get_elem? s.views other ≡ some w → IsFree w b name → StaysSpare sizes s kept id v at kept.account kept.stands words_then b name
  stays_spare other w b name e free =
      let h = (kept.seats other w e).spare b name free in (h.1, root.slot_pinned sizes kept.account kept.stands s.words all v.actor seat.low most (pin_word_of pin) b name free.0 h.0)

  stays : Stays sizes s kept id v at kept.account kept.stands words_then
  stays = record {
    waits = λ actor first differs h. h;
    still = λ x h. h.still;
    others = λ a differs. ran_so now now a refl;
    pins = λ a positive most_a differs. root.else_pinned sizes kept.account kept.stands s.words all v.actor seat.low most (pin_word_of pin) a differs;
    named = λ other w e apart handle slot o x. root_same handle x.low;
    numbers = λ other w e apart. held other w e;
    still_open = λ other w at_w g inside e. e;
    taken = root.taken_pinned sizes kept.account kept.stands s.words all v.actor seat.low most (pin_word_of pin);
    spare = λ other w b name e apart free. stays_spare other w b name e free;
    plain = plain_elsewhere sizes kept.account s.words words_then root_same;
    offering = knows_still kept.account.offered kept.account.offers kept.account.parted s.words words_then
        (names_same kept.account.offers s.words words_then root_same);
  }

  own_then : IsSeat sizes kept.account kept.stands words_then view_then
  own_then =
      seat_owing sizes kept.account kept.stands words_then (record v { pin = pin; entered = None }) owed
      (own_else sizes s kept id v at kept.account kept.stands words_then stays v.account seat.waited seat.rested seat.counts pin None v.closing v.opens v.opening
      (root.at_p sizes kept.account kept.stands s.words all v.actor seat.low most (pin_word_of pin)) its (λ g e. absurd (none-some g e)) (λ o e. absurd (none-some o (sym idle ∙ e))) (held id v at)
      seat.reserves
      (λ g slot o n. (let x = seat.opening g slot o n in
      names_kept sizes s kept id v at kept.account kept.stands words_then stays v (record v { pin = pin; entered = None }) g slot x (root_same g x.low) x.free))
      (λ b name free. stays_spare id v b name at free) (stays.offering v.actor pin v.offer v.pool.parted knows))

  -- the rule holds
  pub pin_kept : IsKept sizes (record { words = words_then; homes = s.homes; views = set s.views id view_then })
  pin_kept =
      assembled sizes s kept id v at view_then refl refl kept.account kept.stands words_then
      (root.all_pinned sizes kept.account kept.stands s.words all v.actor seat.low most (pin_word_of pin))
      (λ g who below says. closing_stays sizes s kept id v at view_then refl refl (λ h e. absurd (none-some h e)) refl (λ c. c) g who
      (kept.closings g who below (subst (λ n. SaysClosing n who) (root_same g below) says))) own_then
      (other_kept sizes s kept id v at kept.account kept.stands words_then stays) (λ b name f. inl f)
      (numbers_stay sizes s kept id v at view_then refl refl kept.account words_then (no_tries kept.account.offers now) (λ slot none. none) root_same refl (λ slot g e free. free))
      (held_fewer sizes s kept id v at view_then refl fewer
      (λ k c. (let some = has_often k owed c in let most = fewer k in often_has k v.owed (omega (arith, some, most)))) (λ n. omega arith) (λ y c. c)
      (lines_idle sizes s kept id v at kept.account view_then (λ a differs. refl) idle) words_then
      (λ c is. ap references_in (get_or-set_other s.words (pin_word v.actor) c (pin_word_of pin) 0 ((pin_apart sizes v.actor most).1 c is))))
      (cells_beside sizes s kept id v at view_then (pin_word v.actor) (pin_word_of pin) (pin_before sizes v.actor most) (pin_apart sizes v.actor most).1 stays.taken (λ b n f. f))
