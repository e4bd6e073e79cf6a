-- What is free for the seat changes, and a word that no slot has: the rest of the rule holds still.
use Rattle.history.specs.declared.calls.Call.{Call}
use Rattle.std.proofs.Common.{◌≡◌, ◌≢◌, ◌<◌, ◌⊎◌, ℕ, inl, inr, List, [], ◌∷◌, ◌++◌, Contains, Some, set, slice_index, refl, sym, subst}
use mathlib.Core.Option.{some}
use lib.ListN.{get_elem?}
use Rattle.atomic_table.specs.Table as Table
use Rattle.atomic_table.proofs.Lists.{at_set}
use Rattle.machine_model.specs.States.{handle_limit}
use Rattle.lock_free.specs.declared.rules.Pool.{Pool}
use Rattle.lock_free.specs.declared.rules.View.{View}
use Rattle.lock_free.specs.declared.sizes.Sizes.{Sizes}
use Rattle.lock_free.specs.Accounts.{state_of}
use Rattle.lock_free.specs.Cells.{pool_of, AreCells, IsFree}
use Rattle.lock_free.specs.CellWords.{having_put}
use Rattle.lock_free.specs.Holdings.{AreHeld}
use Rattle.lock_free.specs.Places.{root_word, IsTaken}
use Rattle.lock_free.specs.Parting.{KnowsOffers}
use Rattle.lock_free.specs.Rules.{AreDrafts, IsKept, IsSeat, IsSpare, Once, SaysClosing}
use Rattle.lock_free.proofs.Assembling.{assembled, closing_stays, numbers_stay}
use Rattle.lock_free.proofs.CountKept.{all_then, own_before, root_same, stays, taken_then}
use Rattle.lock_free.proofs.CountWords.{IsBesideSlots}
use Rattle.lock_free.proofs.Meanings.{no_tries}
use Rattle.lock_free.proofs.Seats.{other_kept}
use Rattle.lock_free.proofs.Spending as spending

module _ (sizes : Sizes) (s : Table.State Call View) (kept : IsKept sizes s) (id : ℕ) (v : View) (at : get_elem? s.views id ≡ some v) where
  module _ (word : ℕ) (no_slots : IsBesideSlots sizes s.words word) (x : ℕ) (pool : Pool) (drafts : List (ℕ × ℕ)) where
    abbrev words_then : List ℕ
    words_then = set s.words word x

    abbrev later : View
    later = record v { pool = pool; drafts = drafts }

    module _ (spare : (b n : ℕ) → IsFree later b n → IsTaken sizes s.words b n × IsSpare sizes kept.account kept.stands n) (once : (b : ℕ) → b < 3 → Once (pool_of pool b))
        (written : (d : ℕ × ℕ) → Contains drafts d → AreDrafts words_then later d) (keeps : (slot handle : ℕ) → v.opens ≡ Some handle → IsFree v 1 slot → IsFree later 1 slot)
        (free : (b n : ℕ) → IsFree later b n → IsFree v b n ⊎ ((other : ℕ) (w : View) (c : ℕ) → get_elem? s.views other ≡ some w → (other ≡ id → ⊥) → IsFree w c n → ⊥))
        (cells : AreCells sizes (IsSpare sizes kept.account kept.stands) words_then (set s.views id later)) (parted : pool.parted ≡ v.pool.parted)
        (held : AreHeld sizes kept.account kept.stands words_then (set s.views id later)) where
      own_then : IsSeat sizes kept.account kept.stands words_then later
      own_then =
          let h = own_before sizes s kept id v at word no_slots x in
          record {
            same = h.same;
            low = h.low;
            top = h.top;
            most = h.most;
            waited = h.waited;
            counts = h.counts;
            rested = h.rested;
            rests = h.rests;
            pinned = h.pinned;
            pinned_idle = h.pinned_idle;
            retired = h.retired;
            entered = h.entered;
            calls = h.calls;
            opens = h.opens;
            reserves = h.reserves;
            opening = λ handle slot o n. (let y = h.opening handle slot o n in record { low = y.low; fits = y.fits; is = y.is; free = keeps slot handle o y.free });
            spare = λ b n f. (let y = spare b n f in (taken_then sizes s kept id v at word no_slots x b n f.0 y.0, y.1));
            once = once;
            drafts = written;
            plain = h.plain;
            offering = subst (KnowsOffers kept.account.offered kept.account.offers kept.account.parted words_then v.actor v.pin v.offer) (sym parted) h.offering;
          }

      same_root : (handle : ℕ) → handle < handle_limit → slice_index words_then (root_word handle) ≡ slice_index s.words (root_word handle)
      same_root = root_same sizes s kept id v at word no_slots x

      pub pool_kept : IsKept sizes (record { words = words_then; homes = s.homes; views = set s.views id later })
      pool_kept =
          assembled sizes s kept id v at later refl refl kept.account kept.stands words_then (all_then sizes s kept id v at word no_slots x)
          (λ handle who low says.
          closing_stays sizes s kept id v at later refl refl (λ h e. (e, refl)) refl (λ c. c) handle who
          (kept.closings handle who low (subst (λ n. SaysClosing n who) (same_root handle low) says))) own_then
          (other_kept sizes s kept id v at kept.account kept.stands words_then (stays sizes s kept id v at word no_slots x)) free
          (numbers_stay sizes s kept id v at later refl refl kept.account words_then (no_tries kept.account.offers (state_of sizes kept.account)) (λ slot none. none) same_root refl keeps)
          held cells

  -- ---- the last slot of the class isn't free for the seat then

  module _ (class : ℕ) (small : class < 3) (rest : List ℕ) (name : ℕ) (pool : pool_of v.pool class ≡ rest ++ name ∷ []) where
    abbrev putting : View
    putting = having_put v class rest

    pub was_free : (b other : ℕ) → IsFree putting b other → IsFree v b other × (other ≢ name)
    was_free b other f = spending.was_free sizes s kept id v at class small name rest pool b other f.0 f.1

    pub its_own : IsFree v class name
    its_own = spending.its_own sizes s kept id v at class small name rest pool

    pub not_free : (k : ℕ) (w : View) (b : ℕ) → get_elem? (set s.views id putting) k ≡ some w → IsFree w b name → ⊥
    not_free k w b e f = elim (at_set s.views id k putting w e) [
      | inl p ↦ (was_free b name (subst (λ (y : View). IsFree y b name) (sym p.1) f)).1 refl
      | inr p ↦ p.0 (kept.pools k id w v b class name p.1 at f its_own)
    ]

    pub free_before : (k : ℕ) (w : View) (b n : ℕ) → get_elem? (set s.views id putting) k ≡ some w → IsFree w b n → (other : ℕ) × (u : View) × (get_elem? s.views other ≡ some u) × IsFree u b n
    free_before k w b n e f = elim (at_set s.views id k putting w e) [
      | inl p ↦ (id, v, at, (was_free b n (subst (λ (y : View). IsFree y b n) (sym p.1) f)).0)
      | inr p ↦ (k, w, p.1, f)
    ]
