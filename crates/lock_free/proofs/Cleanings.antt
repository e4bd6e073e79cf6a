-- A settled offer is ready to be taken out of the word of its handle, once the root that it leaves was seen, and the handle that it opens to be opened.
use Rattle.std.proofs.Common.{◌≡◌, ℕ, true, false, is_some, Option, Some, None, refl, sym, subst}
use Rattle.std.proofs.lemmas.Bool.{true≢false, false≢true}
use Rattle.trie_words.specs.declared.roots.RootWord.TheVariants as word
use Rattle.machine_model.specs.Beneath.slot_arena.specs.declared.refs.Ref.{Ref}
use Rattle.trie_words.specs.declared.entries.Pair.{Pair}
use Rattle.lock_free.specs.declared.rules.View.{View}
use Rattle.lock_free.specs.HandleWords.{HasOpening}
use Rattle.lock_free.specs.Loading.{IsSound}
use Rattle.lock_free.specs.Passing.{IsPlaced, Later}
use Rattle.lock_free.specs.Rooting.{IsSettledAt}
use Rattle.lock_free.specs.Roots.{carried_out, taken_back}
use Rattle.lock_free.specs.RootWords.{HasSeenNews, HasSeenOlds, IsAtClean, IsAtOpen, IsOpenedBy, KnowsOffer, as_copy, for_readers}
use Rattle.lock_free.proofs.Laters.{saw_later}
use Rattle.lock_free.proofs.OffersLater.{offer_later, opening_later, settled_later}

module _ (n : ℕ) (v : View) (sound : IsSound n v) (handle offer : ℕ) (w : View) (pair : Pair) where
  abbrev pub clean_new : IsSettledAt v handle offer true → HasSeenNews v offer pair w → IsAtClean w handle offer pair.low
  clean_new (h, settled) (s, said) =
      let l : Later v w = saw_later n v sound w s in
      record {
        its = offer_later v w l handle offer h;
        outcome = carried_out;
        settled = settled_later v w l h.its carried_out settled;
        place = subst (λ x. IsPlaced x h.its.offer.successor pair.low) (sym s.after_is) (said h.its h.here h.place).successor;
      }

  abbrev pub clean_old : IsSettledAt v handle offer false → HasSeenOlds v offer pair w → IsAtClean w handle offer pair.low
  clean_old (h, settled) (s, said) =
      let l : Later v w = saw_later n v sound w s in
      record {
        its = offer_later v w l handle offer h;
        outcome = taken_back;
        settled = settled_later v w l h.its taken_back settled;
        place = subst (λ x. IsPlaced x h.its.offer.root pair.low) (sym s.after_is) (said h.its h.here h.place).root;
      }

-- ---- the handle that it opens

-- an offer that opens a handle is known
pub opening_known : (v : View) (handle offer : ℕ) → HasOpening v.sizes v.account v.pin handle offer → KnowsOffer v offer
opening_known v handle offer h = (h.its.handle, record { its = h.its; here = h.here; place = h.place; on = refl; inside = h.inside })

pub some_is : (o : Option Ref) → is_some o ≡ true → (r : Ref) × (o ≡ Some r)
some_is None e = absurd (false≢true e)
some_is (Some r) e = (r, refl)

pub none_is : (o : Option Ref) → is_some o ≡ false → o ≡ None
none_is None e = refl
none_is (Some r) e = absurd (true≢false e)

module _ (n : ℕ) (v : View) (sound : IsSound n v) (handle offer : ℕ) (w : View) (pair : Pair) where
  abbrev pub open_copy : IsOpenedBy v handle offer true → HasSeenNews v offer pair w → IsAtOpen w handle offer (word.Writable pair.high)
  open_copy (h, settled, writable) (s, said) =
      let l : Later v w = saw_later n v sound w s in
      let second = some_is h.its.offer.second writable in
      record {
        its = opening_later v w l handle offer h;
        outcome = carried_out;
        settled = settled_later v w l h.its carried_out settled;
        opens = as_copy second.0 pair.high second.1 (subst (λ x. IsPlaced x second.0 pair.high) (sym s.after_is) ((said h.its h.here h.place).second second.0 second.1));
      }

  abbrev pub open_old : IsOpenedBy v handle offer false → HasSeenOlds v offer pair w → IsAtOpen w handle offer (word.ReadOnly pair.low)
  open_old (h, settled, writable) (s, said) =
      let l : Later v w = saw_later n v sound w s in
      record {
        its = opening_later v w l handle offer h;
        outcome = carried_out;
        settled = settled_later v w l h.its carried_out settled;
        opens = for_readers pair.low (none_is h.its.offer.second writable) (subst (λ x. IsPlaced x h.its.offer.root pair.low) (sym s.after_is) (said h.its h.here h.place).root);
      }
