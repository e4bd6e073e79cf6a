-- A store to the word of a handle whose root doesn't stand by an offer any more: it says the same in other words. So an offer that is settled is taken out of it, and
-- a seat's mark that it would close the handle is made or taken away.
use Rattle.history.specs.declared.calls.Call.{Call}
use Rattle.std.proofs.Common.{◌≡◌, ◌≢◌, ◌^◌, ℕ, ◌<◌, ◌≤◌, ◌⊎◌, inl, inr, true, List, Contains, set, slice_index, is_some, Option, Some, None, refl, sym, ap, subst, ◌∙◌, arith}
use Rattle.std.proofs.lemmas.Bool.{cases_eq}
use Rattle.std.proofs.lemmas.Option.{none-some}
use mathlib.Core.Option.{some}
use lib.ListN.{get_elem?}
use Rattle.atomic_table.specs.Table as Table
use Rattle.trie_words.specs.Codes.{root_code, IsRootWord}
use Rattle.trie_words.specs.declared.roots.RootWord.{RootWord as HandleWord}
use Rattle.trie_words.specs.declared.roots.RootWord.TheVariants as word
use Rattle.history.specs.declared.calls.Access.{Access}
use Rattle.history.specs.declared.calls.Access.TheVariants.{Writable, ReadOnly}
use Rattle.machine_model.specs.Beneath.slot_arena.specs.declared.refs.Ref.{Ref}
use Rattle.machine_model.specs.declared.operations.Operation.{Operation}
use Rattle.machine_model.specs.declared.roots.RootWord.TheVariants.{Plain}
use Rattle.machine_model.specs.Calls.{handle_of}
use Rattle.machine_model.specs.States.{State, operation_of, root_at, handle_limit}
use Rattle.lock_free.specs.declared.accounts.Known.{Known}
use Rattle.lock_free.specs.declared.rules.Closing.{Closing}
use Rattle.lock_free.specs.declared.rules.Pinned.{Pinned}
use Rattle.lock_free.specs.declared.rules.View.{View}
use Rattle.lock_free.specs.declared.sizes.Sizes.{Sizes}
use Rattle.lock_free.specs.Accounts.{state_of, place_of}
use Rattle.lock_free.specs.Places.{pin_word, root_word}
use Rattle.lock_free.specs.Roots.{SaysRoot, NoOffer, fate, undecided, taken_back, meant, opened_by, open_with}
use Rattle.lock_free.specs.Rules.{IsClosing, SaysClosing, IsFree, IsHeld, Reserves, Names, NamesOffer, IsOpening, IsSeat, IsKept}
use Rattle.lock_free.proofs.Assembling.{AllStand, all_stand, opening_stays, Numbers, assembled}
use Rattle.lock_free.proofs.CellsStay.{cells_beside, handle_before}
use Rattle.lock_free.proofs.RootCodes.{kind, same_kind}
use Rattle.lock_free.proofs.RootFound.{not_plain, slot_fits, offered_is, opening_is, later_is}
use Rattle.lock_free.proofs.RootSteps as root
use Rattle.lock_free.proofs.PlainStay.{names_none, plain_over}
use Rattle.lock_free.proofs.Seats.{ran_so, Stays, StaysSpare, other_kept, names_kept, own_else}
use Rattle.lock_free.proofs.HeldStill.{held_words}
use Rattle.lock_free.proofs.CountWords.{handle_apart}
use Rattle.lock_free.proofs.PartingStay.{knows_still, names_kind}

-- the word says that this is the root of an open handle, which a seat may be about to close
pub data IsPlainWord (access : Access) (place : ℕ) : HandleWord → Type 0 where
  is_writable : access ≡ Writable → IsPlainWord access place (word.Writable place)
  is_read_only : access ≡ ReadOnly → IsPlainWord access place (word.ReadOnly place)
  is_closing_writable : access ≡ Writable → (seat : ℕ) → IsPlainWord access place (word.ClosingWritable place seat)
  is_closing_read_only : access ≡ ReadOnly → (seat : ℕ) → IsPlainWord access place (word.ClosingReadOnly place seat)

-- The word says the same of the handle's root as the one that stands there, and names no offer; nor does that one name one that is pending, or that is to stand.
pub record SaysSame (sizes : Sizes) (s : Table.State Call View) (kept : IsKept sizes s) (handle : ℕ) (w : HandleWord) : Type 0 where
  pub same : SaysRoot kept.account (set s.words (root_word handle) (root_code w)) handle w (root_at (state_of sizes kept.account) handle)
  pub taken : kind w ≢ 0
  pub not_offered : kind w ≢ 3
  pub not_opening : kind w ≢ 4
  pub unnamed : (k : Known) → Contains kept.account.offers k → fate s.words k ≡ undecided → (slice_index s.words (root_word handle) ≡ root_code (word.Offered k.slot) → ⊥) ×
      (slice_index s.words (root_word handle) ≡ root_code (word.Opening k.slot) → ⊥)
  pub stood : (slot : ℕ) → IsRootWord (word.Opening slot) → slice_index s.words (root_word handle) ≡ root_code (word.Opening slot) → NoOffer kept.account slot → ⊥

in_range : (sizes : Sizes) (s : Table.State Call View) (kept : IsKept sizes s) (k : Known) → Contains kept.account.offers k → k.slot < 2 ^ 27
in_range sizes s kept k c = slot_fits sizes s.words kept.range kept.taken k.slot (kept.roots.blocks k c)

-- ---- the root of an open handle

module _ (sizes : Sizes) (s : Table.State Call View) (kept : IsKept sizes s) (handle : ℕ) (low : handle < handle_limit) (access : Access) (q : Ref)
    (plain : root_at (state_of sizes kept.account) handle ≡ open_with access (Plain q)) where
  says_by : (x : HandleWord) → IsPlainWord access (place_of kept.account q) x →
      SaysRoot kept.account (set s.words (root_word handle) (root_code x)) handle x (root_at (state_of sizes kept.account) handle)
  says_by x (is_writable a) = record { root = q; place = refl; is = plain ∙ ap (λ b. open_with b (Plain q)) a }
  says_by x (is_read_only a) = record { root = q; place = refl; is = plain ∙ ap (λ b. open_with b (Plain q)) a }
  says_by x (is_closing_writable a n) = record { root = q; place = refl; is = plain ∙ ap (λ b. open_with b (Plain q)) a }
  says_by x (is_closing_read_only a n) = record { root = q; place = refl; is = plain ∙ ap (λ b. open_with b (Plain q)) a }

  of_none : (x : HandleWord) → IsPlainWord access (place_of kept.account q) x → (n : ℕ) → n ≡ 0 ⊎ (n ≡ 3) ⊎ (n ≡ 4) → kind x ≢ n
  of_none x (is_writable a) n which e = omega (arith, e, which)
  of_none x (is_read_only a) n which e = omega (arith, e, which)
  of_none x (is_closing_writable a m) n which e = omega (arith, e, which)
  of_none x (is_closing_read_only a m) n which e = omega (arith, e, which)

  not_closed : root_at (state_of sizes kept.account) handle ≡ None → ⊥
  not_closed closed = none-some _ (sym closed ∙ plain)

  fits : (k : Known) → Contains kept.account.offers k → k.slot < 2 ^ 27
  fits = in_range sizes s kept

  pub plain_same : (w : HandleWord) → IsPlainWord access (place_of kept.account q) w → SaysSame sizes s kept handle w
  plain_same w is = record {
    same = says_by w is;
    taken = of_none w is 0 (inl refl);
    not_offered = of_none w is 3 (inr (inl refl));
    not_opening = of_none w is 4 (inr (inr refl));
    unnamed = λ k c stands. (
      λ found. not_plain k.offer access q (sym (offered_is sizes kept.account s.words kept.roots handle low k c (fits k c) found ∙ ap (λ n. open_with Writable (meant n k.offer)) stands) ∙ plain),
      λ found. not_closed ((opening_is sizes kept.account s.words kept.roots handle low k c (fits k c) found).1 ∙ ap (λ n. opened_by n k.offer) stands),
    );
    stood = λ slot small found nothing. not_closed (later_is sizes kept.account s.words kept.roots handle low slot small found nothing);
  }

-- ---- the number that an offer was to open which was taken back

module _ (sizes : Sizes) (s : Table.State Call View) (kept : IsKept sizes s) (handle : ℕ) (low : handle < handle_limit) (k : Known) (here : Contains kept.account.offers k)
    (back : fate s.words k ≡ taken_back) (found : slice_index s.words (root_word handle) ≡ root_code (word.Opening k.slot)) where
  closed : root_at (state_of sizes kept.account) handle ≡ None
  closed = (opening_is sizes kept.account s.words kept.roots handle low k here (in_range sizes s kept k here) found).1 ∙ ap (λ n. opened_by n k.offer) back

  -- the word names that one alone
  names_it : (slot : ℕ) → slice_index s.words (root_word handle) ≡ root_code (word.Opening slot) → slot ≡ k.slot
  names_it slot e = let code = sym found ∙ e in omega (arith, code)

  pub reserved_same : SaysSame sizes s kept handle word.Reserved
  reserved_same = record {
    same = closed;
    taken = λ e. omega (arith, e);
    not_offered = λ e. omega (arith, e);
    not_opening = λ e. omega (arith, e);
    unnamed = λ x c stands. (
      λ e. (let wrong = same_kind (word.Opening k.slot) (word.Offered x.slot) (in_range sizes s kept k here) (in_range sizes s kept x c) (sym found ∙ e) in omega (arith, wrong)),
      λ e. (
          let which = kept.roots.single x k c here (names_it x.slot e) in
          let wrong = sym back ∙ ap (fate s.words) (sym which) ∙ stands in
          omega (arith, wrong)
          ),
    );
    stood = λ slot fits e nothing. nothing k here (sym (names_it slot e));
  }

-- ---- the store

module _ (sizes : Sizes) (s : Table.State Call View) (kept : IsKept sizes s) (id : ℕ) (v : View) (at : get_elem? s.views id ≡ some v) (handle : ℕ) (low : handle < handle_limit) (w : HandleWord)
    (fits : IsRootWord w) (is : SaysSame sizes s kept handle w) where
  abbrev all : AllStand sizes kept.account kept.stands s.words
  all = all_stand sizes s kept

  abbrev now : State
  now = state_of sizes kept.account

  abbrev pub words_then : List ℕ
  words_then = set s.words (root_word handle) (root_code w)

  seat : IsSeat sizes kept.account kept.stands s.words v
  seat = kept.seats id v at

  root_beside : (g : ℕ) → g ≢ handle → slice_index words_then (root_word g) ≡ slice_index s.words (root_word g)
  root_beside = root.else_root sizes kept.account kept.stands s.words all handle low (root_code w)

  root_here : slice_index words_then (root_word handle) ≡ root_code w
  root_here = root.at_it sizes kept.account kept.stands s.words all handle low (root_code w)

  all_then : AllStand sizes kept.account kept.stands words_then
  all_then =
      root.all_rooted sizes kept.account kept.stands s.words all handle low (root_code w) (record { what = w; fits = fits; code = refl; says = is.same }) is.unnamed
      (names_kind kept.account.offers s.words words_then handle w fits root_beside root_here is.not_offered is.not_opening)

  pin_same : (a : ℕ) → 1 ≤ a → slice_index words_then (pin_word a) ≡ slice_index s.words (pin_word a)
  pin_same = root.pin_rooted sizes kept.account kept.stands s.words all handle low (root_code w)

  still_taken : (g : ℕ) → slice_index s.words (root_word g) ≢ 0 → slice_index words_then (root_word g) ≢ 0
  still_taken g was none = elim (cases_eq g handle) [
    | inl same ↦ is.taken (same_kind w word.Closed fits tt (sym root_here ∙ ap (λ n. slice_index words_then (root_word n)) (sym same) ∙ none))
    | inr differs ↦ was (sym (root_beside g differs) ∙ none)
  ]

  held : (other : ℕ) (x : View) → get_elem? s.views other ≡ some x → (g : ℕ) → Reserves now x g → IsHeld now words_then g
  held other x e g r =
      let h = (kept.seats other x e).opens g r in record { low = h.low; taken = still_taken g h.taken; closed = h.closed }

  stays_spare : (other : ℕ) (x : View) (b name : ℕ) → get_elem? s.views other ≡ some x → IsFree x b name → StaysSpare sizes s kept id v at kept.account kept.stands words_then b name
  stays_spare other x b name e free =
      let h = (kept.seats other x e).spare b name free in (h.1, root.slot_rooted sizes kept.account kept.stands s.words all handle low (root_code w) b name free.0 h.0)

  -- a number whose word names an offer that is to stand is another handle
  stays_named : (other : ℕ) (x : View) → get_elem? s.views other ≡ some x → (g slot : ℕ) → Names s.words x g slot → slice_index words_then (root_word g) ≡ slice_index s.words (root_word g)
  stays_named other x e g slot n =
      root_beside g (λ same. is.stood slot n.fits (ap (λ m. slice_index s.words (root_word m)) (sym same) ∙ n.is) ((kept.seats other x e).spare 1 slot n.free).1.1)

  stays : Stays sizes s kept id v at kept.account kept.stands words_then
  stays = record {
    waits = λ actor first differs h. h;
    still = λ x h. h.still;
    others = λ a differs. ran_so now now a refl;
    pins = λ a positive most apart. pin_same a positive;
    named = λ other u e apart g slot o n. stays_named other u e g slot n;
    numbers = λ other w e apart. held other w e;
    still_open = λ other w at_w g inside e. e;
    taken = root.taken_rooted sizes kept.account kept.stands s.words all handle low (root_code w);
    spare = λ other x b name e apart free. stays_spare other x b name e free;
    plain = plain_over sizes kept.account s.words words_then handle root_beside
        (λ idle slot n. names_none w fits is.not_offered is.not_opening slot (subst (λ x. NamesOffer x slot) root_here n));
    offering = knows_still kept.account.offered kept.account.offers kept.account.parted s.words words_then
        (names_kind kept.account.offers s.words words_then handle w fits root_beside root_here is.not_offered is.not_opening);
  }

  -- what the seat has entered and would close then
  module _ (entered : Option ℕ) (closing : List Closing)
      (inside : (g : ℕ) → entered ≡ Some g → (g < handle_limit) × (is_some (root_at now g) ≡ true) × ((p : Pinned) × (v.pin ≡ Some p) × (p.pin.handle ≡ g)))
      (calls : (o : Operation) → operation_of now v.actor ≡ Some o → entered ≡ Some (handle_of o.call)) where
    abbrev pub view_then : View
    view_then = record v { entered = entered; closing = closing }

    named_then : (g slot : ℕ) → Names s.words v g slot → Names words_then view_then g slot
    named_then g slot x = names_kept sizes s kept id v at kept.account kept.stands words_then stays v view_then g slot x (stays_named id v at g slot x) x.free

    own_then : IsSeat sizes kept.account kept.stands words_then view_then
    own_then =
        own_else sizes s kept id v at kept.account kept.stands words_then stays v.account seat.waited seat.rested seat.counts v.pin entered closing v.opens v.opening
        (pin_same v.actor seat.low ∙ seat.pinned) seat.pinned_idle
        inside calls (held id v at)
        seat.reserves (λ g slot o n. named_then g slot (seat.opening g slot o n))
        (λ b name free. stays_spare id v b name at free) (stays.offering v.actor v.pin v.offer v.pool.parted seat.offering)

    openings_then : (g slot : ℕ) → g < handle_limit → IsRootWord (word.Opening slot) → slice_index words_then (root_word g) ≡ root_code (word.Opening slot) → NoOffer kept.account slot → IsOpening
        now (set s.views id view_then) g slot
    openings_then g slot below in_range found nothing = elim (cases_eq g handle) [
      | inl same ↦ absurd (is.not_opening (same_kind w (word.Opening slot) fits in_range (sym root_here ∙ ap (λ n. slice_index words_then (root_word n)) (sym same) ∙ found)))
      | inr differs ↦ opening_stays sizes s kept id v at view_then refl refl now g slot (λ r f. (r, f)) (λ other x e apart f r. r)
          (kept.openings g slot below in_range (sym (root_beside g differs) ∙ found) nothing)
    ]

    numbers_then : Numbers sizes s kept id v at view_then refl refl kept.account words_then
    numbers_then = record {
      openings = openings_then;
      number = λ g h. inl h;
      others = λ other x e apart g h. h;
      runners = λ a o e. inr (o, e);
    }

    -- the rule holds, where it holds of who would close what
    pub rewrite_kept : ((g who : ℕ) → g < handle_limit → SaysClosing (slice_index words_then (root_word g)) who → IsClosing (set s.views id view_then) g who) →
        IsKept sizes (record { words = words_then; homes = s.homes; views = set s.views id view_then })
    rewrite_kept closings =
        assembled sizes s kept id v at view_then refl refl kept.account kept.stands words_then all_then closings own_then
        (other_kept sizes s kept id v at kept.account kept.stands words_then stays) (λ b name f. inl f)
        numbers_then
        (held_words sizes s kept id v at view_then refl refl refl (root_word handle) (root_code w) (handle_apart sizes handle low).1)
        (cells_beside sizes s kept id v at view_then (root_word handle) (root_code w) (handle_before sizes handle low) (handle_apart sizes handle low).1 stays.taken (λ b n f. f))
