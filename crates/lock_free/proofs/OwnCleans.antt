-- The exchanges by which a seat takes its own settled offer out of the words of handles: it knows then that they name it no more.
use Rattle.history.specs.declared.calls.Call.{Call}
use Rattle.std.proofs.Common.{◌≡◌, ◌≢◌, ◌==◌, ◌<◌, ◌≤◌, ◌^◌, ℕ, inl, inr, false, List, Option, Some, set, slice_index, length, refl, sym, ap, subst, ◌∙◌, arith}
use Rattle.std.proofs.lemmas.Bool.{cases_eq}
use Rattle.std.proofs.lemmas.List.{get_or-set_same, set-set}
use Rattle.std.proofs.lemmas.Option.{same_Some}
use mathlib.Core.Option.{some, none}
use lib.ListN.{get_elem?}
use prog.Atomic.{either}
use Rattle.atomic_table.specs.Table.{Me, Allows, step}
use Rattle.atomic_table.specs.Table as Table
use Rattle.trie_words.specs.Codes.{root_code, IsRootWord}
use Rattle.trie_words.specs.declared.roots.RootWord.{RootWord}
use Rattle.trie_words.specs.declared.roots.RootWord.TheVariants as word
use Rattle.machine_model.specs.States.{handle_limit}
use Rattle.lock_free.specs.declared.accounts.Known.{Known}
use Rattle.lock_free.specs.declared.accounts.OwnOffer.{OwnOffer}
use Rattle.lock_free.specs.declared.rules.View.{View}
use Rattle.lock_free.specs.declared.sizes.Sizes.{Sizes}
use Rattle.lock_free.specs.Loading.{IsSound}
use Rattle.lock_free.specs.OwnOffers.{has_cleaned_own, has_opened_own, once_unnamed, once_unopening, unnamed, unopening, IsAtOwnClean, IsItsOwn}
use Rattle.lock_free.specs.Parting.{KnowsOffers, OwnStands}
use Rattle.lock_free.specs.Places.{root_word}
use Rattle.lock_free.specs.RootWords.{IsAtOpen, OpensAs, as_copy, for_readers, still_reserved}
use Rattle.lock_free.specs.Rules.{IsKept}
use Rattle.lock_free.specs.Shadows.{IsShadowed}
use Rattle.lock_free.proofs.CellsStay.{cells_seen}
use Rattle.lock_free.proofs.Assembling.{all_stand, assembled, closing_stays, here, numbers_stay}
use Rattle.lock_free.proofs.CleanStep.{cleans}
use Rattle.lock_free.proofs.CountWords.{handle_apart}
use Rattle.lock_free.proofs.Exchanged.{either_hit, either_miss, words_then}
use Rattle.lock_free.proofs.Geometry.{root_below}
use Rattle.lock_free.proofs.HeldStill.{held_views}
use Rattle.lock_free.proofs.Meanings.{no_tries}
use Rattle.lock_free.proofs.Moments.{allowed}
use Rattle.lock_free.proofs.OpenStep.{opens}
use Rattle.lock_free.proofs.PartingMore.{seat_offering}
use Rattle.lock_free.proofs.RootCodes.{kind, same_kind}
use Rattle.lock_free.specs.Accounts.{state_of}

-- the rule holds where a seat knows that of an offer of its own
module _ (sizes : Sizes) (s : Table.State Call View) (kept : IsKept sizes s) (id : ℕ) (v : View) (at : get_elem? s.views id ≡ some v) (own : Option OwnOffer)
    (knows : KnowsOffers kept.account.offered kept.account.offers kept.account.parted s.words v.actor v.pin own v.pool.parted) where
  abbrev w : View
  w = record v { offer = own }

  pub own_kept : IsKept sizes (record { words = s.words; homes = s.homes; views = set s.views id w })
  own_kept =
      assembled sizes s kept id v at w refl refl kept.account kept.stands s.words (all_stand sizes s kept)
      (λ handle who low says. closing_stays sizes s kept id v at w refl refl (λ h e. (e, refl)) refl (λ c. c) handle who (kept.closings handle who low says))
      (seat_offering sizes kept.account kept.stands s.words v own (kept.seats id v at) knows)
      (λ other u e apart. kept.seats other u e) (λ b n f. inl f)
      (numbers_stay sizes s kept id v at w refl refl kept.account s.words (no_tries kept.account.offers (state_of sizes kept.account)) (λ slot none. none) (λ handle low. refl) refl
      (λ slot handle e free. free)) (held_views sizes s kept id v at w refl refl refl)
      (cells_seen sizes s kept id v at w (λ b n f. f))

-- the word isn't what was expected any more
module _ (words : List ℕ) (place old new : ℕ) (inside : place < length words) (differs : new ≢ old) where
  not_so : (either (slice_index words place == old) new (slice_index words place)) ≢ old
  not_so e = elim (cases_eq (slice_index words place) old) [
    | inl hit ↦ differs (sym (either_hit (slice_index words place) old new hit) ∙ e)
    | inr miss ↦ miss (sym (either_miss (slice_index words place) old new miss) ∙ e)
  ]

  pub exchanged_from : slice_index (set words place (either (slice_index words place == old) new (slice_index words place))) place ≢ old
  exchanged_from e = not_so (sym (get_or-set_same words place (either (slice_index words place == old) new (slice_index words place)) 0 inside) ∙ e)

-- what is known of an own offer, with this known of it besides
module _ (v : View) (o : OwnOffer) (is : v.offer ≡ Some o) (s : Table.State Call View) (kept : IsKept v.sizes s) (id : ℕ) (at : get_elem? s.views id ≡ some v) where
  abbrev Knows : Option OwnOffer → Type 0
  Knows own = KnowsOffers kept.account.offered kept.account.offers kept.account.parted s.words v.actor v.pin own v.pool.parted

  before : Knows v.offer
  before = (kept.seats id v at).offering

  with_own : (p : OwnOffer) → OwnStands kept.account.offers kept.account.parted s.words v.actor p → Knows (Some p)
  with_own p h = record {
    grown = before.grown;
    early = before.early;
    met = before.met;
    its_own = λ q e. subst (OwnStands kept.account.offers kept.account.parted s.words v.actor) (same_Some p q e) h;
    waiting = before.waiting;
    once = before.once;
  }

  stood : OwnStands kept.account.offers kept.account.parted s.words v.actor o
  stood = before.its_own o is

  pub knows_unnamed : (o.known.handle < handle_limit → IsRootWord (word.Offered o.known.slot) → slice_index s.words (root_word o.known.handle) ≢ root_code (word.Offered o.known.slot)) →
      Knows (once_unnamed v.offer)
  knows_unnamed differs =
      subst (λ x. Knows (once_unnamed x)) (sym is)
      (with_own (record o { is_named = false }) (record { stands = stood.stands; maker = stood.maker; unparted = stood.unparted; unnamed = λ e. differs; unopening = stood.unopening }))

  pub knows_unopening : ((handle : ℕ) → o.known.offer.opens ≡ Some handle → handle < handle_limit → IsRootWord (word.Opening o.known.slot) →
      slice_index s.words (root_word handle) ≢ root_code (word.Opening o.known.slot)) → Knows (once_unopening v.offer)
  knows_unopening differs =
      subst (λ x. Knows (once_unopening x)) (sym is)
      (with_own (record o { is_opening = false }) (record { stands = stood.stands; maker = stood.maker; unparted = stood.unparted; unnamed = stood.unnamed; unopening = λ e. differs }))

-- a handle's word is one of the table's
root_there : (v : View) (s : Table.State Call View) (kept : IsKept v.sizes s) (handle : ℕ) → handle < handle_limit → root_word handle < length s.words
root_there v s kept handle low = let size = kept.size in let below = root_below handle low in omega (arith, size, below.1)

module _ (v : View) (handle slot root : ℕ) (low : handle < 256) (fits : root < 2 ^ 27) (a : IsAtOwnClean v handle slot root) (s : Table.State Call View) (kept : IsKept v.sizes s) (id : ℕ)
    (at : get_elem? s.views id ≡ some v) where
  abbrev cleaned : Table.State Call View
  cleaned = record { words = words_then v s kept id at (root_word handle) (root_code (word.Offered slot)) (root_code (word.Writable root)); homes = s.homes; views = set s.views id v }

  abbrev o : OwnOffer
  o = a.1.0

  -- the handle's word says another thing then
  not_offered : o.known.handle < handle_limit → IsRootWord (word.Offered o.known.slot) → slice_index cleaned.words (root_word o.known.handle) ≢ root_code (word.Offered o.known.slot)
  not_offered small in_range e =
      let its = a.0.its in
      let on : o.known.handle ≡ handle = ap (λ (k : Known). k.handle) a.1.2 ∙ its.on in
      let place : o.known.slot ≡ slot = ap (λ (k : Known). k.slot) a.1.2 ∙ its.place in
      exchanged_from s.words (root_word handle) (root_code (word.Offered slot)) (root_code (word.Writable root)) (root_there v s kept handle low)
      (λ same. (let wrong = same_kind (word.Writable root) (word.Offered slot) fits (subst (λ n. IsRootWord (word.Offered n)) place in_range) same in omega (arith, wrong)))
      (ap (λ n. slice_index cleaned.words (root_word n)) (sym on) ∙ e ∙ ap (λ n. root_code (word.Offered n)) place)

  pub cleans_own : IsKept v.sizes (record { words = cleaned.words; homes = s.homes; views = set s.views id (unnamed v) })
  cleans_own =
      let first = cleans v handle slot root low a.0 s kept id at in
      let there = here v.sizes s kept id v at v refl refl in
      subst (λ views. IsKept v.sizes (record { words = cleaned.words; homes = s.homes; views = views })) (set-set s.views id v (unnamed v))
      (own_kept v.sizes cleaned first id v there (once_unnamed v.offer) (knows_unnamed v o a.1.1 cleaned first id there not_offered))

pub clean_own_allowed : (sizes : Sizes) (size id : ℕ) (me : Me Call View) (some_seats : 1 ≤ me.0.sizes.seats) (handle slot root : ℕ) → handle < 256 → root < 2 ^ 27 →
    IsAtOwnClean me.0 handle slot root → Allows (IsShadowed sizes) size id me (root_word handle) (λ n. either (n == root_code (word.Offered slot)) (root_code (word.Writable root)) n)
    (has_cleaned_own (step size (root_word handle) (root_code (word.Offered slot)) (root_code (word.Writable root)) none) me)
clean_own_allowed sizes size id me some_seats handle slot root low fits a =
    allowed sizes size id me (root_word handle) (λ n. either (n == root_code (word.Offered slot)) (root_code (word.Writable root)) n)
    (has_cleaned_own (step size (root_word handle) (root_code (word.Offered slot)) (root_code (word.Writable root)) none) me)
    some_seats (λ s kept at. inl (handle_apart me.0.sizes handle low))
    (λ s kept at. (unnamed me.0, cleans_own me.0 handle slot root low fits a s kept id at, refl))
    (λ s kept at. refl)

-- ---- the handle that it opens

module _ (v : View) (handle slot : ℕ) (opened : RootWord) (low : handle < 256) (fits : IsRootWord opened) (other : kind opened ≢ 4) (a : IsAtOpen v handle slot opened) (own : IsItsOwn v a.its.its)
    (s : Table.State Call View) (kept : IsKept v.sizes s) (id : ℕ) (at : get_elem? s.views id ≡ some v) where
  abbrev open_then : Table.State Call View
  open_then = record { words = words_then v s kept id at (root_word handle) (root_code (word.Opening slot)) (root_code opened); homes = s.homes; views = set s.views id v }

  not_opening : (h : ℕ) → own.0.known.offer.opens ≡ Some h → h < handle_limit → IsRootWord (word.Opening own.0.known.slot) → slice_index open_then.words (root_word h) ≢ root_code
      (word.Opening own.0.known.slot)
  not_opening h opens_it small in_range e =
      let its = a.its in
      let on : h ≡ handle = same_Some h handle (sym opens_it ∙ ap (λ (k : Known). k.offer.opens) own.2 ∙ its.opens) in
      let place : own.0.known.slot ≡ slot = ap (λ (k : Known). k.slot) own.2 ∙ its.place in
      exchanged_from s.words (root_word handle) (root_code (word.Opening slot)) (root_code opened) (root_there v s kept handle low)
      (λ same. other (same_kind opened (word.Opening slot) fits (subst (λ n. IsRootWord (word.Opening n)) place in_range) same))
      (ap (λ n. slice_index open_then.words (root_word n)) (sym on) ∙ e ∙ ap (λ n. root_code (word.Opening n)) place)

  pub opens_own : IsKept v.sizes (record { words = open_then.words; homes = s.homes; views = set s.views id (unopening v) })
  opens_own =
      let first = opens v handle slot opened low a s kept id at in
      let there = here v.sizes s kept id v at v refl refl in
      subst (λ views. IsKept v.sizes (record { words = open_then.words; homes = s.homes; views = views })) (set-set s.views id v (unopening v))
      (own_kept v.sizes open_then first id v there (once_unopening v.offer) (knows_unopening v own.0 own.1 open_then first id there not_opening))

pub open_own_allowed : (sizes : Sizes) (size id : ℕ) (me : Me Call View) (some_seats : 1 ≤ me.0.sizes.seats) (handle slot : ℕ) (opened : RootWord) → handle < 256 → IsRootWord opened →
    kind opened ≢ 4 → (a : IsAtOpen me.0 handle slot opened) → IsItsOwn me.0 a.its.its →
    Allows (IsShadowed sizes) size id me (root_word handle) (λ n. either (n == root_code (word.Opening slot)) (root_code opened) n)
    (has_opened_own (step size (root_word handle) (root_code (word.Opening slot)) (root_code opened) none) me)
open_own_allowed sizes size id me some_seats handle slot opened low fits other a own =
    allowed sizes size id me (root_word handle) (λ n. either (n == root_code (word.Opening slot)) (root_code opened) n)
    (has_opened_own (step size (root_word handle) (root_code (word.Opening slot)) (root_code opened) none) me)
    some_seats (λ s kept at. inl (handle_apart me.0.sizes handle low))
    (λ s kept at. (unopening me.0, opens_own me.0 handle slot opened low fits other a own s kept id at, refl))
    (λ s kept at. refl)

-- the word that it says then names no offer
pub opened_kind : (v : View) (handle slot : ℕ) (opened : RootWord) → IsAtOpen v handle slot opened → kind opened ≢ 4
opened_kind v handle slot opened a = by a.outcome opened a.opens
  where
    by : (n : ℕ) (w : RootWord) → OpensAs v a.its.its.offer n w → kind w ≢ 4
    by n w (as_copy r name e placed) same = omega (arith, same)
    by n w (for_readers name e placed) same = omega (arith, same)
    by n w still_reserved same = omega (arith, same)

-- ---- what is sound stays so

pub unnamed_sound : (words : ℕ) (v : View) → IsSound words v → IsSound words (unnamed v)
unnamed_sound words v h = record { size = h.size; range = h.range; bounds = h.bounds; keys = h.keys; counted = h.counted; inside = h.inside; free = h.free }

pub unopening_sound : (words : ℕ) (v : View) → IsSound words v → IsSound words (unopening v)
unopening_sound words v h = record { size = h.size; range = h.range; bounds = h.bounds; keys = h.keys; counted = h.counted; inside = h.inside; free = h.free }
