-- What an access of one seat leaves of the seats.
use Rattle.history.specs.declared.calls.Call.{Call}
use Rattle.std.proofs.Common.{◌≡◌, ◌≢◌, ℕ, suc, ◌<◌, ◌≤◌, true, Option, List, Contains, get_or, slice_index, is_some, length, Some, None, refl, sym, ap, ◌∙◌, arith, subst}
use Rattle.std.proofs.lemmas.Option.{none-some, same_Some}
use mathlib.Core.Option.{some}
use lib.ListN.{get_elem?}
use Rattle.atomic_table.specs.Table as Table
use Rattle.machine_model.specs.Calls.{handle_of}
use Rattle.machine_model.specs.declared.operations.Operation.{Operation}
use Rattle.machine_model.specs.States.{State, operation_of, root_at, handle_limit}
use Rattle.lock_free.specs.declared.accounts.Account.{Account}
use Rattle.lock_free.specs.declared.rules.Closing.{Closing}
use Rattle.lock_free.specs.declared.rules.Pinned.{Pinned}
use Rattle.lock_free.specs.declared.rules.Pool.{Pool}
use Rattle.lock_free.specs.declared.rules.Retired.{Retired}
use Rattle.lock_free.specs.declared.rules.View.{View}
use Rattle.lock_free.specs.declared.sizes.Sizes.{Sizes}
use Rattle.lock_free.specs.Accounts.{state_of, HasGrown, HasWaited}
use Rattle.lock_free.specs.Places.{pin_word, root_word, IsTaken}
use Rattle.lock_free.specs.Rules.{Standing, AreDrafts, Once, pool_of, IsFree, IsSpare, IsSeat, IsKept, Reserves, IsHeld, Names, HasPinnedIdle, IsPlainSo, IsRetired, pin_word_of, first_account}
use Rattle.lock_free.proofs.Assembling.{not_its, other_actor}
use Rattle.lock_free.specs.Trying.{KeepsTries}
use Rattle.lock_free.proofs.Geometry.{IsWordOf}
use Rattle.lock_free.proofs.Meanings.{reserved}
use Rattle.lock_free.proofs.Waiting.{grown_both, grown_by, waited_none}
use Rattle.lock_free.proofs.PartingStay.{OffersStay}
use Rattle.lock_free.specs.Parting.{KnowsOffers}

-- it ran before, for the same call
pub record Ran (before : State) (a : ℕ) (o : Operation) : Type 0 where
  pub was : Operation
  pub runs : operation_of before a ≡ Some was
  pub call : was.call ≡ o.call
  pub opens : was.opens ≡ o.opens

pub ran_so : (before after : State) (a : ℕ) → operation_of after a ≡ operation_of before a → (o : Operation) → operation_of after a ≡ Some o → Ran before a o
ran_so before after a same o e = record { was = o; runs = sym same ∙ e; call = refl; opens = refl }

none_by : (x : Option Operation) → ((o : Operation) → x ≡ Some o → ⊥) → x ≡ None
none_by None h = refl
none_by (Some o) h = absurd (h o refl)

-- who runs nothing runs nothing then
pub rests_so : (before after : State) (a : ℕ) → ((o : Operation) → operation_of after a ≡ Some o → Ran before a o) → operation_of before a ≡ None → operation_of after a ≡ None
rests_so before after a ran rests = none_by (operation_of after a) (λ o e. (let p = ran o e in none-some p.was (sym rests ∙ p.runs)))

module _ (sizes : Sizes) (s : Table.State Call View) (kept : IsKept sizes s) where
  -- where operations keep their tries, and no word of a handle changes, nor what it means
  pub numbers_so : (account : Account) (words : List ℕ) → KeepsTries kept.account.offers (state_of sizes kept.account) (state_of sizes account) → (state_of sizes account).roots ≡
      (state_of sizes kept.account).roots →
      ((handle : ℕ) → handle < handle_limit → slice_index words (root_word handle) ≡ slice_index s.words (root_word handle)) →
      (other : ℕ) (w : View) → get_elem? s.views other ≡ some w → (handle : ℕ) → Reserves (state_of sizes account) w handle → IsHeld (state_of sizes account) words handle
  numbers_so account words tries roots same other w e handle h =
      let x = (kept.seats other w e).opens handle (reserved kept.account.offers (state_of sizes kept.account) (state_of sizes account) tries w handle h) in
      record { low = x.low; taken = λ none. x.taken (sym (same handle x.low) ∙ none); closed = ap (λ rs. get_or rs handle None) roots ∙ x.closed }

module _ (sizes : Sizes) (s : Table.State Call View) (kept : IsKept sizes s) (id : ℕ) (v : View) (at : get_elem? s.views id ≡ some v) (account : Account) (stands : Standing) (words : List ℕ) where
  -- the slot is spare then, and its words are what they were
  abbrev pub StaysSpare : ℕ → ℕ → Type 0
  StaysSpare b name = IsSpare sizes account stands name × ((j : ℕ) → IsWordOf b name j → slice_index words j ≡ slice_index s.words j)

  -- the access keeps what other seats rely on
  pub record Stays : Type 0 where
    pub waits : (actor : ℕ) (first : Account) → actor ≢ v.actor → HasWaited actor first kept.account → HasWaited actor first account
    -- retired slots have their nodes still
    pub still : (x : Retired) → IsRetired sizes kept.account kept.stands x → stands x.number ≡ true
    pub others : (a : ℕ) → a ≢ v.actor → (o : Operation) → operation_of (state_of sizes account) a ≡ Some o → Ran (state_of sizes kept.account) a o
    pub pins : (a : ℕ) → 1 ≤ a → a ≤ sizes.seats → a ≢ v.actor → slice_index words (pin_word a) ≡ slice_index s.words (pin_word a)
    pub numbers : (other : ℕ) (w : View) → get_elem? s.views other ≡ some w → (other ≡ id → ⊥) → (handle : ℕ) → Reserves (state_of sizes account) w handle → IsHeld (state_of sizes account) words
        handle
    -- a word that names an offer that another seat writes
    pub named : (other : ℕ) (w : View) → get_elem? s.views other ≡ some w → (other ≡ id → ⊥) → (handle slot : ℕ) → w.opens ≡ Some handle → Names s.words w handle slot →
        slice_index words (root_word handle) ≡ slice_index s.words (root_word handle)
    pub still_open : (other : ℕ) (w : View) → get_elem? s.views other ≡ some w → (handle : ℕ) → w.entered ≡ Some handle → is_some (root_at (state_of sizes kept.account) handle) ≡ true → is_some
        (root_at (state_of sizes account) handle) ≡ true
    pub taken : (b name : ℕ) → b < 3 → IsTaken sizes s.words b name → IsTaken sizes words b name
    pub spare : (other : ℕ) (w : View) (b name : ℕ) → get_elem? s.views other ≡ some w → (other ≡ id → ⊥) → IsFree w b name → StaysSpare b name
    -- handles whose words name no offer
    pub plain : (d : ℕ × ℕ) → IsPlainSo sizes kept.account s.words d → IsPlainSo sizes account words d
    -- offers
    pub offering : OffersStay kept.account account s.words words

  -- the seat with what is free for it then and what it has written there
  abbrev pub seat_then : Pool → Option ℕ → List (ℕ × ℕ) → View
  seat_then pool opening drafts = record v { account = account; pool = pool; opening = opening; drafts = drafts }

  module _ (stays : Stays) where
    -- a word names the seat's offer still
    pub names_kept : (w later : View) (handle slot : ℕ) → Names s.words w handle slot → slice_index words (root_word handle) ≡ slice_index s.words (root_word handle) → IsFree later 1 slot → Names
        words later handle slot
    names_kept w later handle slot n same free = record { low = n.low; fits = n.fits; is = same ∙ n.is; free = free }

    -- what is free and written stays so
    pub drafts_kept : (w : View) (d : ℕ × ℕ) → AreDrafts s.words v d → ((b name : ℕ) → IsFree v b name → IsFree w b name ×
        ((j : ℕ) → IsWordOf b name j → slice_index words j ≡ slice_index s.words j)) → AreDrafts words w d
    drafts_kept w d x still =
        let slot = x.1 in
        let free = still slot.0 slot.1 slot.2 in
        (free.1 d.0 (record { low = slot.3; high = slot.4 }) ∙ x.0, (slot.0, slot.1, free.0, slot.3, slot.4))

    grown : HasGrown kept.account account
    grown = grown_by (suc v.actor) kept.account account (stays.waits (suc v.actor) kept.account (λ e. omega (arith, e)) (waited_none (suc v.actor) kept.account))

    retired_then : (x : Retired) → IsRetired sizes kept.account kept.stands x → IsRetired sizes account stands x
    retired_then x h = record { was = h.was; grown = grown_both x.account kept.account account h.grown grown; still = stays.still x h }

    pub idle_then : (actor : ℕ) (p : Pinned) → HasPinnedIdle sizes kept.account actor p → HasPinnedIdle sizes account actor p
    idle_then actor p h = record { grown = grown_both p.account kept.account account h.grown grown; idle = h.idle }

    pub other_kept : (other : ℕ) (w : View) → get_elem? s.views other ≡ some w → (other ≡ id → ⊥) → IsSeat sizes account stands words w
    other_kept other w e apart =
        let h = kept.seats other w e in
        let differs = other_actor sizes s kept id v at v refl refl other w e apart in
        let not_mine = not_its sizes s kept id v at v refl refl other w e apart in
        record {
          same = h.same;
          low = h.low;
          top = h.top;
          most = h.most;
          waited = stays.waits w.actor w.account differs h.waited;
          counts = h.counts;
          rested = λ a above below. stays.waits a (first_account sizes) (not_mine a (omega (arith, above), below)) (h.rested a above below);
          rests = λ a above below.
              (let r = h.rests a above below in
              let its = not_mine a (omega (arith, above), below) in
              (rests_so (state_of sizes kept.account) (state_of sizes account) a (stays.others a its) r.0, stays.pins a (omega (arith, above, h.low)) (omega (arith, below, h.most)) its ∙ r.1));
          pinned = stays.pins w.actor h.low (omega (arith, h.top, h.most)) differs ∙ h.pinned;
          pinned_idle = λ p is. idle_then w.actor p (h.pinned_idle p is);
          retired = λ x c. retired_then x (h.retired x c);
          entered = λ handle f. (let x = h.entered handle f in (x.0, stays.still_open other w e handle f x.1, x.2));
          calls = λ o f. (let p = stays.others w.actor differs o f in h.calls p.was p.runs ∙ ap (λ c. Some (handle_of c)) p.call);
          opens = stays.numbers other w e apart;
          opening = λ handle slot o n. (let x = h.opening handle slot o n in names_kept w w handle slot x (stays.named other w e apart handle slot o x) x.free);
          reserves = λ o f. (let p = stays.others w.actor differs o f in h.reserves p.was p.runs ∙ p.opens);
          spare = λ b name f. (let x = h.spare b name f in (stays.taken b name f.0 x.0, (stays.spare other w b name e apart f).0));
          once = h.once;
          drafts = λ d c.
              (let x = h.drafts d c in
              let slot = x.1 in
              ((stays.spare other w slot.0 slot.1 e apart slot.2).1 d.0 (record { low = slot.3; high = slot.4 }) ∙ x.0, slot));
          plain = λ d c. stays.plain d (h.plain d c);
          offering = stays.offering w.actor w.pin w.offer w.pool.parted h.offering;
        }

    -- and the seat itself, where the access is its operation's step, with what is free for it then and what it has written there
    module _ (operation next : Operation) (runs : operation_of (state_of sizes kept.account) v.actor ≡ Some operation) (goes_on : operation_of (state_of sizes account) v.actor ≡ Some next)
        (same_call : next.call ≡ operation.call) (same_opens : next.opens ≡ operation.opens)
        (held : (handle : ℕ) → Reserves (state_of sizes account) v handle → IsHeld (state_of sizes account) words handle) (counted : length account.names ≡ (state_of sizes account).heap.births)
        (own_pin : slice_index words (pin_word v.actor) ≡ slice_index s.words (pin_word v.actor)) (pool : Pool) (opening : Option ℕ)
        (names : (handle slot : ℕ) → v.opens ≡ Some handle → opening ≡ Some slot → (v.opening ≡ Some slot) ×
        (Names s.words v handle slot → (slice_index words (root_word handle) ≡ slice_index s.words (root_word handle)) × Contains (pool_of pool 1) slot)) (drafts : List (ℕ × ℕ))
        (spare : (b name : ℕ) → IsFree (seat_then pool opening drafts) b name → IsTaken sizes words b name × IsSpare sizes account stands name) (once : (b : ℕ) → b < 3 → Once (pool_of pool b))
        (written : (d : ℕ × ℕ) → Contains drafts d → AreDrafts words (seat_then pool opening drafts) d)
        (knows : KnowsOffers account.offered account.offers account.parted words v.actor v.pin v.offer pool.parted) where
      pub own_kept : IsSeat sizes account stands words (seat_then pool opening drafts)
      own_kept =
          let h = kept.seats id v at in
          record {
            same = h.same;
            low = h.low;
            top = h.top;
            most = h.most;
            waited = waited_none v.actor account;
            counts = counted;
            rested = λ a above below. stays.waits a (first_account sizes) (λ is. absurd (omega (arith, above, is))) (h.rested a above below);
            rests = λ a above below.
                (let r = h.rests a above below in
                let its : a ≢ v.actor = λ is. absurd (omega (arith, above, is)) in
                (rests_so (state_of sizes kept.account) (state_of sizes account) a (stays.others a its) r.0, stays.pins a (omega (arith, above, h.low)) (omega (arith, below, h.most)) its ∙ r.1));
            pinned = own_pin ∙ h.pinned;
            pinned_idle = λ p is. idle_then v.actor p (h.pinned_idle p is);
            retired = λ x c. retired_then x (h.retired x c);
            entered = λ handle f. (let x = h.entered handle f in (x.0, stays.still_open id v at handle f x.1, x.2));
            calls = λ o f. h.calls operation runs ∙ ap (λ c. Some (handle_of c)) (sym same_call ∙ ap (λ (x : Operation). x.call) (same_Some next o (sym goes_on ∙ f)));
            opens = held;
            opening = λ handle slot o n.
                (let was = names handle slot o n in let x = h.opening handle slot o was.0 in let y = was.1 x in names_kept v (seat_then pool opening drafts) handle slot x y.0 (x.free.0, y.1));
            reserves = λ o f. h.reserves operation runs ∙ sym same_opens ∙ ap (λ (x : Operation). x.opens) (same_Some next o (sym goes_on ∙ f));
            spare = spare;
            once = once;
            drafts = written;
            plain = λ d c. stays.plain d (h.plain d c);
            offering = knows;
          }

    -- and the seat itself, where it pins itself, enters a handle, would close one, or reserves a number
    module _ (first : Account) (waited : HasWaited v.actor first account) (rested : (a : ℕ) → v.actor < a → a ≤ v.last → HasWaited a (first_account sizes) account)
        (counted : length first.names ≡ (state_of sizes first).heap.births) (pin : Option Pinned) (entered : Option ℕ)
        (closing : List Closing)
        (opens : Option ℕ) (opening : Option ℕ) where
      abbrev pub seat_else : View
      seat_else = record v { account = first; pin = pin; entered = entered; closing = closing; opens = opens; opening = opening }

      module _ (pinned : slice_index words (pin_word v.actor) ≡ pin_word_of pin) (idle : (p : Pinned) → pin ≡ Some p → HasPinnedIdle sizes account v.actor p)
          (inside : (handle : ℕ) → entered ≡ Some handle → (handle < handle_limit) × (is_some (root_at (state_of sizes account) handle) ≡ true) ×
          ((p : Pinned) × (pin ≡ Some p) × (p.pin.handle ≡ handle)))
          (calls : (o : Operation) → operation_of (state_of sizes account) v.actor ≡ Some o → entered ≡ Some (handle_of o.call))
          (numbers : (handle : ℕ) → Reserves (state_of sizes account) seat_else handle → IsHeld (state_of sizes account) words handle)
          (reserves : (o : Operation) → operation_of (state_of sizes account) v.actor ≡ Some o → opens ≡ o.opens)
          (names : (handle slot : ℕ) → opens ≡ Some handle → opening ≡ Some slot → Names words seat_else handle slot)
          (spare : (b name : ℕ) → IsFree v b name → StaysSpare b name) (knows : KnowsOffers account.offered account.offers account.parted words v.actor pin v.offer v.pool.parted) where
        pub own_else : IsSeat sizes account stands words seat_else
        own_else =
            let h = kept.seats id v at in
            record {
              same = h.same;
              low = h.low;
              top = h.top;
              most = h.most;
              waited = waited;
              counts = counted;
              rested = rested;
              rests = λ a above below.
                  (let r = h.rests a above below in
                  let its : a ≢ v.actor = λ is. absurd (omega (arith, above, is)) in
                  (rests_so (state_of sizes kept.account) (state_of sizes account) a (stays.others a its) r.0, stays.pins a (omega (arith, above, h.low)) (omega (arith, below, h.most)) its ∙ r.1));
              pinned = pinned;
              pinned_idle = idle;
              retired = λ x c. retired_then x (h.retired x c);
              entered = inside;
              calls = calls;
              opens = numbers;
              opening = names;
              reserves = reserves;
              spare = λ b name f. (let x = h.spare b name f in (stays.taken b name f.0 x.0, (spare b name f).0));
              once = h.once;
              drafts = λ d c. drafts_kept seat_else d (h.drafts d c) (λ b name f. (f, (spare b name f).1));
              plain = λ d c. stays.plain d (h.plain d c);
              offering = knows;
            }

-- ---- an access that is no step

module _ (sizes : Sizes) (s : Table.State Call View) (kept : IsKept sizes s) (id : ℕ) (v : View) (at : get_elem? s.views id ≡ some v) (words : List ℕ)
    (stays : Stays sizes s kept id v at kept.account kept.stands words)
    (held : (handle : ℕ) → Reserves (state_of sizes kept.account) v handle → IsHeld (state_of sizes kept.account) words handle)
    (own_pin : slice_index words (pin_word v.actor) ≡ slice_index s.words (pin_word v.actor)) (pool : Pool) (drafts : List (ℕ × ℕ))
    (spare : (b name : ℕ) → IsFree (record v { pool = pool; drafts = drafts }) b name → IsTaken sizes words b name × IsSpare sizes kept.account kept.stands name)
    (once : (b : ℕ) → b < 3 → Once (pool_of pool b))
    (written : (d : ℕ × ℕ) → Contains drafts d → AreDrafts words (record v { pool = pool; drafts = drafts }) d)
    (still : (handle slot : ℕ) → Names s.words v handle slot → (slice_index words (root_word handle) ≡ slice_index s.words (root_word handle)) × Contains (pool_of pool 1) slot)
    (same_parted : pool.parted ≡ v.pool.parted) where
  pub own_still : IsSeat sizes kept.account kept.stands words (record v { pool = pool; drafts = drafts })
  own_still =
      let h = kept.seats id v at in
      record {
        same = h.same;
        low = h.low;
        top = h.top;
        most = h.most;
        waited = h.waited;
        counts = h.counts;
        rested = h.rested;
        rests = λ a above below. (let r = h.rests a above below in (r.0, stays.pins a (omega (arith, above, h.low)) (omega (arith, below, h.most)) (λ is. absurd (omega (arith, above, is))) ∙ r.1));
        pinned = own_pin ∙ h.pinned;
        pinned_idle = h.pinned_idle;
        retired = λ x c. retired_then sizes s kept id v at kept.account kept.stands words stays x (h.retired x c);
        entered = h.entered;
        calls = h.calls;
        opens = held;
        opening = λ handle slot o n.
            (let x = h.opening handle slot o n in
            let y = still handle slot x in names_kept sizes s kept id v at kept.account kept.stands words stays v (record v { pool = pool; drafts = drafts }) handle slot x y.0 (x.free.0, y.1));
        reserves = h.reserves;
        spare = spare;
        once = once;
        drafts = written;
        plain = λ d c. stays.plain d (h.plain d c);
        offering = subst (λ xs. KnowsOffers kept.account.offered kept.account.offers kept.account.parted words v.actor v.pin v.offer xs) (sym same_parted)
            (stays.offering v.actor v.pin v.offer v.pool.parted h.offering);
      }
