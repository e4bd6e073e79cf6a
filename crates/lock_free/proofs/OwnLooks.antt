-- What a seat sees of its own settled offer, to take it out of the words of handles.
use Rattle.std.proofs.Common.{ℕ, Bool, true, false, Option, refl, sym, ap, subst, ◌∙◌}
use Rattle.trie_words.specs.declared.entries.Pair.{Pair}
use Rattle.trie_words.specs.declared.roots.RootWord.TheVariants as word
use Rattle.lock_free.specs.declared.rules.View.{View}
use Rattle.machine_model.specs.declared.operations.Operation.{Operation}
use Rattle.lock_free.specs.Fates.{HasSettled}
use Rattle.lock_free.specs.Loading.{IsSound, Runs, Saw}
use Rattle.lock_free.specs.OfferWords.{outcome_by}
use Rattle.lock_free.specs.OwnOffers.{IsAtOwnClean, IsAtOwnOpen, IsItsOwn, IsOwnCopy, IsSettledOwn}
use Rattle.lock_free.specs.Rooting.{IsSettledAt}
use Rattle.lock_free.specs.RootWords.{HasSeenNews, HasSeenOlds, HasSeenSettled, IsOpenedBy}
use Rattle.lock_free.specs.Stocks.{IsStock, Stocked}
use Rattle.lock_free.proofs.Cleanings.{clean_new, clean_old, open_copy, open_old}
use Rattle.lock_free.proofs.Comings.{saw_runs}
use Rattle.lock_free.proofs.Laters.{saw_later}
use Rattle.lock_free.proofs.MovedOn.{copy_stays, moved_saw, moved_stock, same_own}

module _ (n : ℕ) (v : View) (sound : IsSound n v) (handle offer : ℕ) (w : View) (pair : Pair) where
  pub clean_new_own : (c : IsSettledAt v handle offer true) × IsItsOwn v c.0.its → HasSeenNews v offer pair w → IsAtOwnClean w handle offer pair.low
  clean_new_own (c, own) news = (clean_new n v sound handle offer w pair c news, same_own v w c.0.its (ap (λ (x : View). x.offer) news.0.after_is) own)

  pub clean_old_own : (c : IsSettledAt v handle offer false) × IsItsOwn v c.0.its → HasSeenOlds v offer pair w → IsAtOwnClean w handle offer pair.low
  clean_old_own (c, own) olds = (clean_old n v sound handle offer w pair c olds, same_own v w c.0.its (ap (λ (x : View). x.offer) olds.0.after_is) own)

  pub open_copy_own : (h : IsOpenedBy v handle offer true) × IsItsOwn v h.0.its → HasSeenNews v offer pair w → IsAtOwnOpen w handle offer (word.Writable pair.high)
  open_copy_own (h, own) news = (open_copy n v sound handle offer w pair h news, same_own v w h.0.its (ap (λ (x : View). x.offer) news.0.after_is) own)

  pub open_old_own : (h : IsOpenedBy v handle offer false) × IsItsOwn v h.0.its → HasSeenOlds v offer pair w → IsAtOwnOpen w handle offer (word.ReadOnly pair.low)
  open_old_own (h, own) olds = (open_old n v sound handle offer w pair h olds, same_own v w h.0.its (ap (λ (x : View). x.offer) olds.0.after_is) own)

-- it is seen settled
pub settled_seen : (n : ℕ) (v : View) → IsSound n v → (handle offer : ℕ) (opens : Option ℕ) (writable carried : Bool) → IsOwnCopy v handle offer opens writable → (w : View) →
    HasSeenSettled v offer (outcome_by carried) w → IsSettledOwn w handle offer opens writable carried
settled_seen n v sound handle offer opens writable carried c w (s, said) = (
  copy_stays v w (saw_later n v sound w s) handle offer opens writable c,
  subst (λ (x : View). HasSettled x.sizes x.account c.its.its (outcome_by carried)) (sym s.after_is) (said c.its.its c.its.here c.its.place),
)

-- and the seat goes on
module _ (n : ℕ) (v : View) (sound : IsSound n v) (o : Operation) (runs : Runs v o) (w : View) (s : Saw v w) where
  pub seen_stock : (stock : Stocked) → IsStock stock v → IsStock stock w
  seen_stock stock is = moved_stock n v w sound o runs (moved_saw n v w sound s) stock stock is refl (is.pool ∙ ap (λ (x : View). x.pool) (sym s.after_is))

  pub seen_runs : (operation : Operation) × Runs w operation
  seen_runs = (o, saw_runs v w s o runs)
