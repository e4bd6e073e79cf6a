-- What a seat owns once some of it stands in cells, or was fetched from there.
use Rattle.std.proofs.Common.{◌≡◌, ◌<◌, ◌++◌, ◌∷◌, ℕ, List, [], None, Option, Some, length, refl, sym, ap, subst, ◌∙◌, arith}
use Rattle.std.proofs.lemmas.List.{length-append, same_from_push}
use Rattle.lock_free.specs.declared.rules.Pool.{Pool}
use Rattle.lock_free.specs.declared.rules.View.{View}
use Rattle.lock_free.specs.Cells.{pool_of}
use Rattle.lock_free.specs.CellWords.{having_put, HasFetchedSome, HasGivenSome}
use Rattle.lock_free.specs.Limbos.{HasReclaimedSome}
use Rattle.lock_free.specs.Making.{with_slots}
use Rattle.lock_free.specs.Stocks.{IsPopped, IsStock, Stocked}
use Rattle.lock_free.proofs.Aside.CellSteps.{left_free}
use Rattle.lock_free.proofs.LimboStays.{limbo_so}
use Rattle.lock_free.proofs.Pools.{free_still, pool_same}
use Rattle.lock_free.specs.Storing.{with_free}

-- ---- some are given

pub given_none : (v : View) → HasGivenSome v v
given_none v = record { is = refl; free = λ c n f. f }

pub given_both : (u v w : View) → HasGivenSome u v → HasGivenSome v w → HasGivenSome u w
given_both u v w g h = record {
  is = h.is ∙ ap (λ (x : View). record x { pool = w.pool; drafts = w.drafts }) g.is;
  free = λ c n f. g.free c n (h.free c n f);
}

pub given_unopened : (v w : View) → HasGivenSome v w → v.opens ≡ None → w.opens ≡ None
given_unopened v w h none = ap (λ (x : View). x.opens) h.is ∙ none

pub reclaimed_unopened : (v w : View) → HasReclaimedSome v w → v.opens ≡ None → w.opens ≡ None
reclaimed_unopened v w h none = ap (λ (x : View). x.opens) h.is ∙ none

-- the last one isn't free any more
pub popped_rest : (before after : Pool) (class : ℕ) (popped : Option ℕ) → IsPopped before class popped after → (rest : List ℕ) (name : ℕ) → pool_of before class ≡ rest ++ name ∷ [] →
    after ≡ with_slots before class rest
popped_rest before after class None h rest name is =
    let long = ap length (sym h.0 ∙ is) ∙ length-append rest (name ∷ []) in absurd (omega (arith, long))
popped_rest before after class (Some last) h rest name is =
    h.2 ∙ ap (with_slots before class) (same_from_push h.0 rest last name (sym h.1 ∙ is)).0

pub stock_put : (stock next : Stocked) (v w : View) (class : ℕ) (rest : List ℕ) → w ≡ having_put v class rest → IsStock stock v → next.sizes ≡ stock.sizes →
    next.pool ≡ with_slots stock.pool class rest → next.made ≡ stock.made → next.limbo ≡ stock.limbo → IsStock next w
stock_put stock next v w class rest e is sizes pool made limbo = subst (IsStock next) (sym e) (record {
  sizes = sizes ∙ is.sizes;
  pool = pool ∙ ap (λ p. with_slots p class rest) is.pool;
  made = made ∙ is.made;
  limbo = limbo_so stock next v (having_put v class rest) is limbo refl;
})

pub put_given : (v w : View) (class : ℕ) (rest : List ℕ) (name : ℕ) → class < 3 → pool_of v.pool class ≡ rest ++ name ∷ [] → w ≡ having_put v class rest → HasGivenSome v w
put_given v w class rest name low pool e = subst (HasGivenSome v) (sym e) (record { is = refl; free = λ b n f. left_free v class rest name low pool b n f })

-- ---- some are fetched

pub free_fetched : (v w : View) (class name : ℕ) → class < 3 → w ≡ with_free v class name → HasFetchedSome v class w
free_fetched v w class name low e = subst (HasFetchedSome v class) (sym e) (record {
  is = refl;
  free = λ b n f. (f.0, free_still v.pool class name low b n f.0 f.1);
  none = λ empty.
      (let long = ap length (sym (pool_same v.pool class (pool_of v.pool class ++ name ∷ []) low) ∙ empty) in
      let more = length-append (pool_of v.pool class) (name ∷ []) in absurd (omega (arith, long, more)));
})

pub fetched_none : (v : View) (class : ℕ) → HasFetchedSome v class v
fetched_none v class = record { is = refl; free = λ b n f. f; none = λ e. refl }

pub fetched_both : (u v w : View) (class : ℕ) → HasFetchedSome u class v → HasFetchedSome v class w → HasFetchedSome u class w
fetched_both u v w class g h = record {
  is = h.is ∙ ap (λ (x : View). record x { pool = w.pool }) g.is;
  free = λ b n f. h.free b n (g.free b n f);
  none = λ e. (let same = h.none e in same ∙ g.none (subst (λ (x : View). pool_of x.pool class ≡ []) same e));
}
