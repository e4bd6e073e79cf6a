-- What a seat has retired hangs as it did, whatever else becomes of the seat.
use Rattle.std.proofs.Common.{◌≡◌, ◌≤◌, ℕ, Option, Some, None, refl, sym, ap, subst, ◌∙◌, arith}
use Rattle.lock_free.specs.declared.limbo.Limbo.{Limbo}
use Rattle.lock_free.specs.declared.reclaiming.Retiree.{Retiree}
use Rattle.lock_free.specs.declared.rules.View.{View}
use Rattle.lock_free.specs.Limbos.{hanging_of, having_retired, Hanging, IsLimbo, IsNewestOrNone}
use Rattle.lock_free.specs.Making.{with_slot}
use Rattle.lock_free.specs.Reclaiming.{AddsRetired}
use Rattle.lock_free.specs.Stocks.{Stocked, IsStock}
use Rattle.lock_free.specs.Storing.{with_free}
use Rattle.lock_free.proofs.KindsApart.{shallow_kind}

pub limbo_stays : (limbo : Limbo) (v w : View) → hanging_of w ≡ hanging_of v → IsLimbo limbo v → IsLimbo limbo w
limbo_stays limbo v w same h = subst (λ (p : Hanging). IsLimbo limbo (record w { epoch = p.3; sizes = p.0; retired = p.1; links = p.2 })) (sym same) (record {
  hung = λ what class low.
      (let k = h.hung what class low in
      record {
        young = k.young;
        aged = k.aged;
        is_young = record { hangs = k.is_young.hangs; stamps = k.is_young.stamps };
        is_aged = record { hangs = k.is_aged.hangs; stamps = k.is_aged.stamps };
        once = k.once;
        held = k.held;
        all = k.all;
      });
  once = h.once;
  slots = h.slots;
  seen = h.seen;
})

-- in a stock that has the same
pub limbo_so : (stock next : Stocked) (v w : View) → IsStock stock v → next.limbo ≡ stock.limbo → hanging_of w ≡ hanging_of v → IsLimbo next.limbo w
limbo_so stock next v w is limbo same = subst (λ l. IsLimbo l w) (sym limbo) (limbo_stays stock.limbo v w same is.limbo)

-- the seat has retired one slot more, or none
pub newest_now : (limbo : Limbo) (r : Option Retiree) (v w : View) → IsLimbo limbo v → w.sizes ≡ v.sizes → w.links ≡ v.links → w.epoch ≡ v.epoch → AddsRetired r v.retired w.retired → IsNewestOrNone
    limbo w r
newest_now limbo None v w h sizes links epoch adds =
    limbo_stays limbo v w
    (ap (λ z. (z, w.retired, w.links, w.epoch)) sizes ∙ ap (λ xs. (v.sizes, xs, w.links, w.epoch)) adds ∙ ap (λ ls. (v.sizes, v.retired, ls, w.epoch)) links
    ∙ ap (λ n. (v.sizes, v.retired, v.links, n)) epoch) h
newest_now limbo (Some r) v w h sizes links epoch (item, is, its) = record {
  item = item;
  its_class = its.0;
  its_name = its.1;
  its_kind = shallow_kind w.sizes item its.2;
  rest = v.retired;
  is = is;
  hanging = limbo_stays limbo v (having_retired w v.retired)
      (ap (λ z. (z, v.retired, w.links, w.epoch)) sizes ∙ ap (λ ls. (v.sizes, v.retired, ls, w.epoch)) links ∙ ap (λ n. (v.sizes, v.retired, v.links, n)) epoch) h;
}

-- it has seen the epoch in which it is pinned next
pub pinned_late : (stock next : Stocked) (v : View) → IsStock stock v → next ≡ stock → (epoch : ℕ) → epoch ≤ next.limbo.seen → epoch ≤ v.epoch
pinned_late stock next v is same epoch low =
    let seen = is.limbo.seen in let there = subst (λ (s : Stocked). epoch ≤ s.limbo.seen) same low in omega (arith, seen, there)

-- ---- in a stock

-- what the seat writes, and what it has reserved, is not of this
pub stock_elsewhere : (stock : Stocked) (v w : View) → w ≡ record v { drafts = w.drafts; opens = w.opens; opening = w.opening } → IsStock stock v → IsStock stock w
stock_elsewhere stock v w e is =
    subst (IsStock stock) (sym e) (record {
      sizes = is.sizes;
      pool = is.pool;
      made = is.made;
      limbo = limbo_stays stock.limbo v
          (record v { drafts = w.drafts; opens = w.opens; opening = w.opening }) refl is.limbo;
    })

-- it has taken a slot
pub stock_taken : (stock next : Stocked) (v w : View) (class name : ℕ) → w ≡ with_free v class name → IsStock stock v → next.sizes ≡ stock.sizes → next.pool ≡ with_slot stock.pool class name →
    next.made ≡ stock.made → next.limbo ≡ stock.limbo → IsStock next w
stock_taken stock next v w class name e is sizes pool made limbo = subst (IsStock next) (sym e) (record {
  sizes = sizes ∙ is.sizes;
  pool = pool ∙ ap (λ p. with_slot p class name) is.pool;
  made = made ∙ is.made;
  limbo = limbo_so stock next v (with_free v class name) is limbo refl;
})
