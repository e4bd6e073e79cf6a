-- A seat goes on while it takes its own offer out of the words of handles, and parts it.
use Rattle.std.proofs.Common.{◌≡◌, ℕ, inl, inr, Bool, true, false, Option, Some, None, refl, sym, ap, subst, ◌∙◌}
use Rattle.trie_words.specs.declared.roots.RootWord.TheVariants as word
use Rattle.machine_model.specs.declared.operations.Operation.{Operation}
use Rattle.lock_free.specs.declared.accounts.Known.{Known}
use Rattle.lock_free.specs.declared.accounts.OwnOffer.{OwnOffer}
use Rattle.lock_free.specs.declared.rules.Pool.{Pool}
use Rattle.lock_free.specs.declared.rules.View.{View}
use Rattle.lock_free.specs.Fates.{HasSettled}
use Rattle.lock_free.specs.HandleWords.{HasOpening}
use Rattle.lock_free.specs.Loading.{IsSound, Runs, Saw}
use Rattle.lock_free.specs.OwnOffers.{once_unnamed, once_unopening, with_parted}
use Rattle.lock_free.specs.OwnOffers.{HasDoneOwn, HasMovedOn, IsAtOwnOpen, IsFullOfParted, IsItsOwn, IsOwnCopy, IsSettledOwn, IsToPart, PartsBesides, PartsOrNot}
use Rattle.lock_free.specs.OfferWords.{outcome_by}
use Rattle.lock_free.specs.Passing.{Later}
use Rattle.lock_free.specs.Rooting.{IsSettledAt}
use Rattle.lock_free.specs.Roots.{taken_back}
use Rattle.lock_free.specs.RootWords.{IsOpenedBy, still_reserved}
use Rattle.lock_free.specs.RunningOn.{IsStill}
use Rattle.lock_free.specs.Stocks.{IsStock, Stocked}
use Rattle.lock_free.proofs.Comings.{saw_runs}
use Rattle.lock_free.proofs.Laters.{later_both, later_self, waited_later}
use Rattle.lock_free.proofs.LimboStays.{limbo_so}
use Rattle.lock_free.proofs.OffersLater.{offer_later, settled_later}
use Rattle.lock_free.proofs.RunningOn.{still_with}
use Rattle.lock_free.proofs.StockStays.{stock_later}

abbrev pub aside : View → View → View
aside v w = record w { offer = v.offer; pool = v.pool }

-- ---- one thing after the other

-- whatever its offer is, and its slots are
later_aside : (v w : View) (own : Option OwnOffer) (pool : Pool) → Later v (aside v w) → Later (record v { offer = own; pool = pool }) (record w { offer = own; pool = pool })
later_aside v w own pool l = record {
  is = ap (λ (x : View). record x { offer = own; pool = pool }) l.is;
  places = l.places;
  owns = l.owns;
  nodes = l.nodes;
  goes_on = l.goes_on;
  offers = l.offers;
}

pub moved_both : (u v w : View) → HasMovedOn u v → HasMovedOn v w → HasMovedOn u w
moved_both u v w h k = record {
  later = later_both u (aside u v) (aside u w) h.later (later_aside v w u.offer u.pool k.later);
  pool = k.pool ∙ ap (λ (p : Pool). record p { parted = w.pool.parted }) h.pool;
  runs = λ o r. k.runs o (h.runs o r);
}

pub moved_saw : (n : ℕ) (v w : View) → IsSound n v → Saw v w → HasMovedOn v w
moved_saw n v w sound s = record {
  later = subst (λ x. Later v (aside v x)) (sym s.after_is) (waited_later n v sound s.account s.waited);
  pool = subst (λ (x : View). x.pool ≡ record v.pool { parted = x.pool.parted }) (sym s.after_is) refl;
  runs = λ o r. saw_runs v w s o r;
}

-- only its offer is another one, and what is parted
moved_as : (v : View) (own : Option OwnOffer) (pool : Pool) → pool ≡ record v.pool { parted = pool.parted } → Later v v → HasMovedOn v (record v { offer = own; pool = pool })
moved_as v own pool same l = record { later = l; pool = same; runs = λ o r. r }

-- ---- its offer

module _ (n : ℕ) (v w : View) (sound : IsSound n v) (m : View) (s : Saw v m) (f : Option OwnOffer → Option OwnOffer) (is : w ≡ record m { offer = f m.offer }) where
  pub done_own : HasDoneOwn f v w
  done_own = (
    moved_both v m w (moved_saw n v m sound s) (subst (HasMovedOn m) (sym is) (moved_as m (f m.offer) m.pool refl (later_self m))),
    ap (λ (x : View). x.offer) is ∙ ap (λ (x : View). f x.offer) s.after_is,
    ap (λ (x : View). x.pool) is ∙ ap (λ (x : View). x.pool) s.after_is,
  )

pub unopening_own : (v w : View) (k : Known) → w.offer ≡ once_unopening v.offer → IsItsOwn v k → IsItsOwn w k
unopening_own v w k is (o, e, its, none) = (record o { is_opening = false }, is ∙ ap once_unopening e, its, λ h. refl)

pub same_own : (v w : View) (k : Known) → w.offer ≡ v.offer → IsItsOwn v k → IsItsOwn w k
same_own v w k is (o, e, its, none) = (o, is ∙ e, its, none)

-- what is known of it is so still
module _ (v w : View) (l : Later v (aside v w)) (handle slot : ℕ) (opens : Option ℕ) (writable : Bool) (c : IsOwnCopy v handle slot opens writable) (own : IsItsOwn w c.its.its) where
  pub copy_later : IsOwnCopy w handle slot opens writable
  copy_later = record { its = offer_later v (aside v w) l handle slot c.its; own = own; its_opens = c.its_opens; small = c.small; low = c.low; second = c.second }

  pub settled_copy_later : (carried : Bool) → HasSettled v.sizes v.account c.its.its (outcome_by carried) → IsSettledOwn w handle slot opens writable carried
  unfolding copy_later
  settled_copy_later carried h = (copy_later, settled_later v (aside v w) l c.its.its (outcome_by carried) h)

-- where nothing becomes of its offer
abbrev pub copy_stays : (v w : View) → Later v w → (handle slot : ℕ) (opens : Option ℕ) (writable : Bool) → IsOwnCopy v handle slot opens writable → IsOwnCopy w handle slot opens writable
copy_stays v w l handle slot opens writable c = record {
  its = offer_later v w l handle slot c.its;
  own = same_own v w c.its.its (ap (λ (x : View). x.offer) l.is) c.own;
  its_opens = c.its_opens;
  small = c.small;
  low = c.low;
  second = c.second;
}

-- ---- all of it

pub moved_still : (v w : View) → HasMovedOn v w → IsStill v w
moved_still v w h =
    still_with v w (record v { account = w.account; offer = w.offer; pool = w.pool }) (ap (λ (x : View). record x { offer = w.offer; pool = w.pool }) h.later.is) h.later.goes_on

-- what the seat owns in plain memory is the same, where no slot of it is parted
module _ (n : ℕ) (v w : View) (sound : IsSound n v) (o : Operation) (runs : Runs v o) (h : HasMovedOn v w) (stock next : Stocked) (its : IsStock stock v) where
  pub moved_stock : next ≡ record stock { pool = next.pool } → next.pool ≡ w.pool → IsStock next w
  moved_stock same pool =
      let x = stock_later n v (aside v w) sound o runs stock its h.later o (h.runs o runs) refl in
      record {
        sizes = ap (λ (z : Stocked). z.sizes) same ∙ x.sizes;
        pool = pool;
        made = ap (λ (z : Stocked). z.made) same ∙ x.made;
        limbo = limbo_so stock next (aside v w) w x (ap (λ (z : Stocked). z.limbo) same) refl;
      }

-- ---- it is taken out of the words, and parted

-- a seat whose own offer opens nothing has nothing to do
pub opens_nothing : (v : View) (k : Known) → IsItsOwn v k → k.offer.opens ≡ None → HasDoneOwn once_unopening v v
opens_nothing v k (o, is, its, shut) none_opens = (
  record { later = later_self v; pool = refl; runs = λ q r. r },
  is ∙ ap (λ b. Some (record o { is_opening = b })) (shut none_opens) ∙ ap once_unopening (sym is),
  refl,
)

-- by an exchange that leaves all else as it was
pub done_now : (f : Option OwnOffer → Option OwnOffer) (v w : View) → w ≡ record v { offer = f v.offer } → HasDoneOwn f v w
done_now f v w is = (
  subst (HasMovedOn v) (sym is) (moved_as v (f v.offer) v.pool refl (later_self v)),
  ap (λ (x : View). x.offer) is,
  ap (λ (x : View). x.pool) is,
)

module _ (v : View) (handle slot : ℕ) (opens : Option ℕ) (writable carried : Bool) (c : IsSettledOwn v handle slot opens writable carried) where
  opening : (number : ℕ) → opens ≡ Some number → HasOpening v.sizes v.account v.pin number slot
  opening number is = record { its = c.0.its.its; here = c.0.its.here; place = c.0.its.place; opens = c.0.its_opens ∙ is; inside = c.0.its.inside }

  settled_as : (b : Bool) → carried ≡ b → HasSettled v.sizes v.account c.0.its.its (outcome_by b)
  settled_as b done = subst (λ x. HasSettled v.sizes v.account c.0.its.its (outcome_by x)) done c.1

  -- it is open
  pub is_open : (number : ℕ) → opens ≡ Some number → carried ≡ true → (h : IsOpenedBy v number slot writable) × IsItsOwn v h.0.its
  unfolding opening
  is_open number is done = ((opening number is, settled_as true done, c.0.second), c.0.own)

  -- its number is only reserved
  pub is_reserved : (number : ℕ) → opens ≡ Some number → carried ≡ false → IsAtOwnOpen v number slot word.Reserved
  unfolding opening
  is_reserved number is done = (record { its = opening number is; outcome = taken_back; settled = settled_as false done; opens = still_reserved }, c.0.own)

  module _ (u : View) (opened : HasDoneOwn once_unopening v u) where
    pub still_settled : (d : IsSettledAt u handle slot carried) × IsItsOwn u d.0.its
    still_settled =
        let d = settled_copy_later v u opened.0.later handle slot opens writable c.0 (unopening_own v u c.0.its.its opened.1 c.0.own) carried c.1 in ((d.0.its, d.1), d.0.own)

    module _ (w : View) (cleaned : HasDoneOwn once_unnamed u w) where
      pub cleaned_moved : HasMovedOn v w
      cleaned_moved = moved_both v u w opened.0 cleaned.0

      pub cleaned_pool : w.pool ≡ v.pool
      cleaned_pool = cleaned.2 ∙ opened.2

      -- no word names it any more
      pub is_out : IsToPart w slot
      is_out =
          let o = c.0.own in (
            record o.0 { is_named = false; is_opening = false },
            cleaned.1 ∙ ap once_unnamed (opened.1 ∙ ap once_unopening o.1),
            ap (λ (k : Known). k.slot) o.2 ∙ c.0.its.place,
            refl,
            refl,
          )

      pub parted_moved : (x : View) → PartsOrNot w slot x → HasMovedOn v x
      parted_moved x parts = moved_both v w x cleaned_moved (by parts)
        where
          by : PartsOrNot w slot x → HasMovedOn w x
          by (inl (stamp, is)) = subst (HasMovedOn w) (sym is) (record { later = later_self w; pool = refl; runs = λ q r. r })
          by (inr (is, full)) = subst (HasMovedOn w) (sym is) (record { later = later_self w; pool = refl; runs = λ q r. r })

      pub parts_besides : (x : View) → PartsOrNot w slot x → PartsBesides v slot x
      parts_besides x (inl (stamp, is)) = inl (stamp, ap (λ (y : View). y.pool) is ∙ ap (λ p. with_parted p slot stamp) cleaned_pool)
      parts_besides x (inr (is, full)) = inr (ap (λ (y : View). y.pool) is ∙ cleaned_pool, subst IsFullOfParted cleaned_pool full)
