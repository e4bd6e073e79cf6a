-- A seat that runs nothing reserves a number: an exchange of the word of a handle that is closed, and no step.
use Rattle.history.specs.declared.calls.Call.{Call}
use Rattle.std.proofs.Common.{◌≡◌, ◌≢◌, ℕ, ◌<◌, ◌≤◌, inl, inr, List, set, slice_index, Some, None, refl, sym, ap, subst, ◌∙◌, arith}
use Rattle.std.proofs.lemmas.Bool.{cases_eq}
use Rattle.std.proofs.lemmas.Option.{none-some, same_Some}
use mathlib.Core.Option.{some}
use lib.ListN.{get_elem?}
use Rattle.atomic_table.specs.Table as Table
use Rattle.trie_words.specs.Codes.{root_code, IsRootWord}
use Rattle.trie_words.specs.declared.roots.RootWord.TheVariants as word
use Rattle.machine_model.specs.States.{State, operation_of, handle_limit, root_at}
use Rattle.lock_free.specs.declared.rules.View.{View}
use Rattle.lock_free.specs.declared.sizes.Sizes.{Sizes}
use Rattle.lock_free.specs.Accounts.{state_of}
use Rattle.lock_free.specs.Numbers.{reserving}
use Rattle.lock_free.specs.Places.{pin_word, root_word}
use Rattle.lock_free.specs.Roots.{NoOffer}
use Rattle.lock_free.specs.Rules.{IsFree, IsHeld, NamesOffer, Reserves, IsOpening, IsSeat, IsKept, SaysClosing}
use Rattle.lock_free.proofs.Assembling.{AllStand, all_stand, closing_stays, opening_stays, Numbers, assembled}
use Rattle.lock_free.proofs.CellsStay.{cells_beside, handle_before}
use Rattle.lock_free.proofs.OpenHandles.{not_closing}
use Rattle.lock_free.proofs.RootCodes.{same_kind}
use Rattle.lock_free.proofs.RootFound.{said}
use Rattle.lock_free.proofs.RootSteps as root
use Rattle.lock_free.proofs.PlainStay.{names_none, plain_over}
use Rattle.lock_free.proofs.Seats.{ran_so, Stays, StaysSpare, other_kept, own_else}
use Rattle.lock_free.proofs.HeldStill.{held_words}
use Rattle.lock_free.proofs.CountWords.{handle_apart}
use Rattle.lock_free.proofs.PartingStay.{knows_still, names_kind}

module _ (sizes : Sizes) (s : Table.State Call View) (kept : IsKept sizes s) (id : ℕ) (v : View) (at : get_elem? s.views id ≡ some v) (idle : operation_of (state_of sizes kept.account) v.actor ≡ None)
    (opens_none : v.opens ≡ None) (o : ℕ) (below : o < handle_limit) (found : slice_index s.words (root_word o) ≡ 0) where
  abbrev all : AllStand sizes kept.account kept.stands s.words
  all = all_stand sizes s kept

  abbrev now : State
  now = state_of sizes kept.account

  seat : IsSeat sizes kept.account kept.stands s.words v
  seat = kept.seats id v at

  abbrev pub words_then : List ℕ
  words_then = set s.words (root_word o) (root_code word.Reserved)

  -- the number is nobody's
  closed : root_at now o ≡ None
  closed = said sizes kept.account s.words kept.roots o below word.Closed tt found

  not_named : (g slot : ℕ) → IsRootWord (word.Opening slot) → slice_index s.words (root_word g) ≡ root_code (word.Opening slot) → g ≢ o
  not_named g slot fits is same = omega (arith, found, sym is ∙ ap (λ n. slice_index s.words (root_word n)) same)

  nobody : (other : ℕ) (w : View) → get_elem? s.views other ≡ some w → Reserves now w o → ⊥
  nobody other w e r = ((kept.seats other w e).opens o r).taken found

  root_beside : (g : ℕ) → g ≢ o → slice_index words_then (root_word g) ≡ slice_index s.words (root_word g)
  root_beside = root.else_root sizes kept.account kept.stands s.words all o below (root_code word.Reserved)

  root_here : slice_index words_then (root_word o) ≡ root_code word.Reserved
  root_here = root.at_it sizes kept.account kept.stands s.words all o below (root_code word.Reserved)

  all_then : AllStand sizes kept.account kept.stands words_then
  all_then =
      root.all_rooted sizes kept.account kept.stands s.words all o below (root_code word.Reserved) (record { what = word.Reserved; fits = tt; code = refl; says = closed })
      (λ k c stands. (λ is. omega (arith, found, is), λ is. omega (arith, found, is)))
      (names_kind kept.account.offers s.words words_then o word.Reserved tt root_beside root_here (λ e. omega (arith, e)) (λ e. omega (arith, e)))

  held : (other : ℕ) (w : View) → get_elem? s.views other ≡ some w → (g : ℕ) → Reserves now w g → IsHeld now words_then g
  held other w e g r =
      let h = (kept.seats other w e).opens g r in
      let differs : g ≢ o = λ same. nobody other w e (subst (λ n. Reserves now w n) same r) in
      record { low = h.low; taken = λ none. h.taken (sym (root_beside g differs) ∙ none); closed = h.closed }

  held_own : (g : ℕ) → Some o ≡ Some g → IsHeld now words_then g
  held_own g e =
      subst (λ n. IsHeld now words_then n) (same_Some o g e) (record { low = below; taken = λ none. absurd (omega (arith, root_here, none)); closed = closed })

  spare : (other : ℕ) (w : View) (b name : ℕ) → get_elem? s.views other ≡ some w → IsFree w b name → StaysSpare sizes s kept id v at kept.account kept.stands words_then b name
  spare other w b name e free =
      let h = (kept.seats other w e).spare b name free in (h.1, root.slot_rooted sizes kept.account kept.stands s.words all o below (root_code word.Reserved) b name free.0 h.0)

  pin_same : (a : ℕ) → 1 ≤ a → slice_index words_then (pin_word a) ≡ slice_index s.words (pin_word a)
  pin_same = root.pin_rooted sizes kept.account kept.stands s.words all o below (root_code word.Reserved)

  stays : Stays sizes s kept id v at kept.account kept.stands words_then
  stays = record {
    waits = λ actor first differs h. h;
    still = λ x h. h.still;
    others = λ a differs. ran_so now now a refl;
    pins = λ a positive most apart. pin_same a positive;
    named = λ other w e apart g slot p x. root_beside g (not_named g slot x.fits x.is);
    numbers = λ other w e apart g r. held other w e g r;
    still_open = λ other w at_w g inside e. e;
    taken = root.taken_rooted sizes kept.account kept.stands s.words all o below (root_code word.Reserved);
    spare = λ other w b name e apart free. spare other w b name e free;
    plain = plain_over sizes kept.account s.words words_then o root_beside
        (λ idle slot n. names_none word.Reserved tt (λ e. omega (arith, e)) (λ e. omega (arith, e)) slot (subst (λ x. NamesOffer x slot) root_here n));
    offering = knows_still kept.account.offered kept.account.offers kept.account.parted s.words words_then
        (names_kind kept.account.offers s.words words_then o word.Reserved tt root_beside root_here (λ e. omega (arith, e)) (λ e. omega (arith, e)));
  }

  own_then : IsSeat sizes kept.account kept.stands words_then (reserving v o)
  own_then =
      own_else sizes s kept id v at kept.account kept.stands words_then stays v.account seat.waited seat.rested seat.counts v.pin v.entered v.closing (Some o) None
      (pin_same v.actor seat.low ∙ seat.pinned) seat.pinned_idle seat.entered (λ p e. absurd (none-some p (sym idle ∙ e))) (λ g r. held_own g r.0) (λ p e. absurd (none-some p (sym idle ∙ e)))
      (λ g slot p n. absurd (none-some slot n)) (λ b name free. spare id v b name at free)
      (stays.offering v.actor v.pin v.offer v.pool.parted seat.offering)

  openings_then : (g slot : ℕ) → g < handle_limit → IsRootWord (word.Opening slot) → slice_index words_then (root_word g) ≡ root_code (word.Opening slot) → NoOffer kept.account slot →
      IsOpening now (set s.views id (reserving v o)) g slot
  openings_then g slot low fits is nothing = elim (cases_eq g o) [
    | inl same ↦
        (let wrong = same_kind word.Reserved (word.Opening slot) tt fits (sym root_here ∙ ap (λ n. slice_index words_then (root_word n)) (sym same) ∙ is) in absurd (omega (arith, wrong)))
    | inr differs ↦
        opening_stays sizes s kept id v at (reserving v o) refl refl now g slot (λ r f. absurd (none-some g (sym opens_none ∙ r.0))) (λ other w e apart f r. r)
        (kept.openings g slot low fits (sym (root_beside g differs) ∙ is) nothing)
  ]

  numbers_then : Numbers sizes s kept id v at (reserving v o) refl refl kept.account words_then
  numbers_then = record {
    openings = openings_then;
    number = λ g r. inr (λ other w e apart q. nobody other w e (subst (λ n. Reserves now w n) (sym (same_Some o g r.0)) q));
    others = λ other w e apart g r. r;
    runners = λ a p e. inr (p, e);
  }

  -- the rule holds
  pub reserve_kept : IsKept sizes (record { words = words_then; homes = s.homes; views = set s.views id (reserving v o) })
  reserve_kept =
      assembled sizes s kept id v at (reserving v o) refl refl kept.account kept.stands words_then all_then
      (λ g who low says. elim (cases_eq g o) [
        | inl same ↦ absurd (not_closing word.Reserved who tt (omega arith) (subst (λ n. SaysClosing n who) (ap (λ n. slice_index words_then (root_word n)) same ∙ root_here) says))
        | inr differs ↦
            closing_stays sizes s kept id v at (reserving v o) refl refl (λ h e. (e, refl)) refl (λ c. c) g who (kept.closings g who low (subst (λ n. SaysClosing n who) (root_beside g differs) says))
      ]) own_then (other_kept sizes s kept id v at kept.account kept.stands words_then stays) (λ b name f. inl f) numbers_then
      (held_words sizes s kept id v at (reserving v o) refl refl refl (root_word o) (root_code word.Reserved) (handle_apart sizes o below).1)
      (cells_beside sizes s kept id v at (reserving v o) (root_word o) (root_code word.Reserved) (handle_before sizes o below) (handle_apart sizes o below).1 stays.taken (λ b n f. f))
