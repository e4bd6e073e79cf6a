-- A seat that knows what words of its free slots say keeps the rule.
use Rattle.history.specs.declared.calls.Call.{Call}
use Rattle.std.proofs.Common.{◌≡◌, ◌+◌, ◌<◌, ◌≤◌, inl, inr, ℕ, zero, suc, List, [], ◌∷◌, Contains, set, slice_index, refl, sym, ap, subst, ◌∙◌, arith}
use Rattle.std.proofs.lemmas.Bool.{cases_eq}
use mathlib.Core.Option.{some}
use lib.ListN.{get_elem?}
use Rattle.atomic_table.specs.Table as Table
use Rattle.lock_free.specs.declared.rules.View.{View}
use Rattle.lock_free.specs.declared.sizes.Sizes.{Sizes}
use Rattle.lock_free.specs.Accounts.{state_of}
use Rattle.lock_free.specs.Loading.{IsSound}
use Rattle.lock_free.specs.Rules.{AreDrafts, IsKept, IsSeat}
use Rattle.lock_free.proofs.Assembling.{all_stand, assembled, closing_stays, numbers_stay}
use Rattle.lock_free.proofs.CellsStay.{cells_seen}
use Rattle.lock_free.proofs.HeldStill.{held_views}
use Rattle.lock_free.proofs.Meanings.{no_tries}
use Rattle.lock_free.proofs.Pools.{first_or_more, first_there, more_there}

-- ---- so many words, as they are

pub words_from : List ℕ → ℕ → ℕ → List (ℕ × ℕ)
words_from words first zero = []
words_from words first (suc n) = (first, slice_index words first) ∷ words_from words (suc first) n

pub from_has : (words : List ℕ) (first n i : ℕ) → first ≤ i → i < first + n → Contains (words_from words first n) (i, slice_index words i)
unfolding words_from
from_has words first zero i low high = absurd (omega (arith, low, high))
from_has words first (suc n) i low high = elim (cases_eq i first) [
  | inl same ↦ subst (λ j. Contains (words_from words first (suc n)) (j, slice_index words j)) (sym same) (first_there (first, slice_index words first) (words_from words (suc first) n))
  | inr differs ↦
      more_there (first, slice_index words first) (words_from words (suc first) n) (i, slice_index words i) (from_has words (suc first) n i (omega (arith, low, differs)) (omega (arith, high)))
]

pub from_is : (words : List ℕ) (first n : ℕ) (d : ℕ × ℕ) → Contains (words_from words first n) d → (slice_index words d.0 ≡ d.1) × (first ≤ d.0) × (d.0 < first + n)
unfolding words_from
from_is words first zero d c = absurd (omega (arith, c.1))
from_is words first (suc n) d c = elim (first_or_more (first, slice_index words first) (words_from words (suc first) n) d c) [
  | inl same ↦
      (let at : d.0 ≡ first = ap (λ (e : ℕ × ℕ). e.0) same in
      (ap (λ (e : ℕ × ℕ). slice_index words e.0) same ∙ sym (ap (λ (e : ℕ × ℕ). e.1) same), omega (arith, at), omega (arith, at)))
  | inr more ↦ (let h = from_is words (suc first) n d more in let low = h.1 in let high = h.2 in (h.0, omega (arith, low), omega (arith, high)))
]

-- ---- a seat knows them

-- the seat knows these words
abbrev pub knowing : View → List (ℕ × ℕ) → View
knowing v drafts = record v { drafts = drafts }

module _ (sizes : Sizes) (s : Table.State Call View) (kept : IsKept sizes s) (id : ℕ) (v : View) (at : get_elem? s.views id ≡ some v) (drafts : List (ℕ × ℕ))
    (known : (d : ℕ × ℕ) → Contains drafts d → AreDrafts s.words v d) where
  seat : IsSeat sizes kept.account kept.stands s.words v
  seat = kept.seats id v at

  knowing_seat : IsSeat sizes kept.account kept.stands s.words (knowing v drafts)
  knowing_seat = record {
    same = seat.same;
    low = seat.low;
    top = seat.top;
    most = seat.most;
    waited = seat.waited;
    counts = seat.counts;
    rested = seat.rested;
    rests = seat.rests;
    pinned = seat.pinned;
    pinned_idle = seat.pinned_idle;
    retired = seat.retired;
    entered = seat.entered;
    calls = seat.calls;
    opens = seat.opens;
    opening = λ handle slot o n. (let x = seat.opening handle slot o n in record { low = x.low; fits = x.fits; is = x.is; free = x.free });
    reserves = seat.reserves;
    spare = seat.spare;
    once = seat.once;
    drafts = known;
    plain = seat.plain;
    offering = seat.offering;
  }

  pub knowing_kept : IsKept sizes (record { words = s.words; homes = s.homes; views = set s.views id (knowing v drafts) })
  knowing_kept =
      let w = knowing v drafts in
      assembled sizes s kept id v at w refl refl kept.account kept.stands s.words (all_stand sizes s kept)
      (λ handle who low says. closing_stays sizes s kept id v at w refl refl (λ h e. (e, refl)) refl (λ c. c) handle who (kept.closings handle who low says)) knowing_seat
      (λ other x e apart. kept.seats other x e) (λ b n f. inl f)
      (numbers_stay sizes s kept id v at w refl refl kept.account s.words (no_tries kept.account.offers (state_of sizes kept.account)) (λ slot none. none) (λ handle low. refl) refl
      (λ slot handle e free. free)) (held_views sizes s kept id v at w refl refl refl) (cells_seen sizes s kept id v at w (λ b n f. f))

pub knowing_sound : (words : ℕ) (v : View) (drafts : List (ℕ × ℕ)) → IsSound words v → IsSound words (knowing v drafts)
knowing_sound words v drafts h = record { size = h.size; range = h.range; bounds = h.bounds; keys = h.keys; counted = h.counted; inside = h.inside; free = h.free }
