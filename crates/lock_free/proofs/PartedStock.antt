-- What a seat owns in plain memory once it has parted an offer, and once such a slot is free.
use Rattle.std.proofs.Common.{◌≡◌, ◌<◌, ℕ, List, Contains, length, refl, sym, ap, subst, ◌∙◌, arith, inl}
use Rattle.lock_free.specs.declared.accounts.PartedSlot.{PartedSlot}
use Rattle.lock_free.specs.declared.rules.Pool.{Pool}
use Rattle.lock_free.specs.declared.rules.View.{View}
use Rattle.lock_free.specs.Limbos.{HasReclaimedSome}
use Rattle.lock_free.specs.Loading.{IsSound}
use Rattle.lock_free.specs.OwnOffers.{freeing_first, parting, with_parted, without_first, HasFreedOffers, IsRipeIn, IsRipeOffer}
use Rattle.lock_free.specs.Stocks.{IsStock, Stocked}
use Rattle.lock_free.proofs.LimboStays.{limbo_so}
use Rattle.lock_free.proofs.Pools.{free_still}

-- ---- one is parted

pub parting_sound : (words : ℕ) (v : View) (slot stamp : ℕ) → IsSound words v → IsSound words (parting v slot stamp)
parting_sound words v slot stamp h = record { size = h.size; range = h.range; bounds = h.bounds; keys = h.keys; counted = h.counted; inside = h.inside; free = h.free }

pub parting_stock : (stock next : Stocked) (v : View) (slot stamp : ℕ) → next ≡ record stock { pool = with_parted stock.pool slot stamp } → IsStock stock v → IsStock next (parting v slot stamp)
parting_stock stock next v slot stamp same is = record {
  sizes = ap (λ (z : Stocked). z.sizes) same ∙ is.sizes;
  pool = ap (λ (z : Stocked). z.pool) same ∙ ap (λ p. with_parted p slot stamp) is.pool;
  made = ap (λ (z : Stocked). z.made) same ∙ is.made;
  limbo = limbo_so stock next v (parting v slot stamp) is (ap (λ (z : Stocked). z.limbo) same) refl;
}

-- ---- the first one is free

-- as the seat has it
pub ripe_now : (stock : Stocked) (v : View) → IsStock stock v → (ripe : IsRipeIn stock.pool stock.limbo.seen) → IsRipeOffer v ripe.0 ripe.1
ripe_now stock v is (y, rest, first, late) = (sym (ap (λ (p : Pool). p.parted) is.pool) ∙ first, (let seen = is.limbo.seen in omega (arith, late, seen)))

pub some_ripe : (pool : Pool) (seen : ℕ) → IsRipeIn pool seen → 0 < length pool.parted
some_ripe pool seen (y, rest, first, late) = subst (λ (ys : List PartedSlot). 0 < length ys) (sym first) (omega arith)

pub freed_stock : (stock next : Stocked) (v : View) (y : PartedSlot) (rest : List PartedSlot) → next.sizes ≡ stock.sizes → next.pool ≡ without_first stock.pool y.slot rest →
    next.made ≡ stock.made → next.limbo ≡ stock.limbo → IsStock stock v → IsStock next (freeing_first v y rest)
freed_stock stock next v y rest sizes pool made limbo is = record {
  sizes = sizes ∙ is.sizes;
  pool = pool ∙ ap (λ p. without_first p y.slot rest) is.pool;
  made = made ∙ is.made;
  limbo = limbo_so stock next v (freeing_first v y rest) is limbo refl;
}

pub freed_first : (v w : View) (y : PartedSlot) (rest : List PartedSlot) → w ≡ freeing_first v y rest → HasFreedOffers v w
freed_first v w y rest is =
    subst (HasFreedOffers v) (sym is) (record { is = refl; free = λ class name f. (f.0, free_still v.pool 1 y.slot (omega arith) class name f.0 f.1) })

-- ---- and more

pub none_freed : (v : View) → HasFreedOffers v v
none_freed v = record { is = refl; free = λ class name f. f }

pub more_freed : (u v w : View) → HasFreedOffers u v → HasFreedOffers v w → HasFreedOffers u w
more_freed u v w h k = record { is = k.is ∙ ap (λ (x : View). record x { pool = w.pool }) h.is; free = λ class name f. k.free class name (h.free class name f) }

pub freed_reclaimed : (v w : View) → HasFreedOffers v w → HasReclaimedSome v w
freed_reclaimed v w h = record {
  is = h.is ∙ ap (λ (x : View). record v { epoch = x.epoch; passed = x.passed; pool = w.pool; retired = x.retired; links = x.links }) (sym h.is);
  free = h.free;
  each = λ x c. inl (subst (λ (z : View). Contains z.retired x) (sym h.is) c);
}
