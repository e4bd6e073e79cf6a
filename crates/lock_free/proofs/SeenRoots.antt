-- What a load of a handle's word tells.
use Rattle.std.proofs.Common.{◌≡◌, ◌+◌, ◌*◌, ◌⊎◌, ◌≤◌, ◌<◌, ℕ, inl, inr, List, Contains, None, sym, ap, subst, ◌∙◌, arith, Option, slice_index}
use Rattle.trie_words.specs.Codes.{root_of, IsRootWord, root_code}
use Rattle.trie_words.specs.declared.roots.RootWord.{RootWord}
use Rattle.trie_words.specs.declared.roots.RootWord.TheVariants as word
use Rattle.machine_model.specs.States.{root_at, handle_limit}
use Rattle.lock_free.specs.declared.accounts.Account.{Account}
use Rattle.lock_free.specs.declared.accounts.Known.{Known}
use Rattle.lock_free.specs.declared.rules.View.{View}
use Rattle.lock_free.specs.declared.sizes.Sizes.{Sizes}
use Rattle.lock_free.specs.Accounts.{state_of}
use Rattle.lock_free.specs.HandleWords.{HasOpening, TellsRoot, HasSeenRoot, HasOffer}
use Rattle.lock_free.specs.Loading.{HasSeen, IsSound}
use Rattle.lock_free.specs.Places.{HaveTaken, words_of, words_in, root_word}
use Rattle.lock_free.specs.Roots.{SaysRoot, SaysOpening, NoOffer, SaysOffered}
use Rattle.lock_free.proofs.Geometry.{end_inside, root_below}
use Rattle.lock_free.proofs.Moments.{waited_so}
use Rattle.lock_free.proofs.RootCodes.{root_back}
use Rattle.lock_free.specs.Rules.{RootsStand}
use Rattle.lock_free.specs.Parting.{IsMet, KnowsOffers, NamesOffer}
use Rattle.lock_free.specs.declared.rules.Pinned.{Pinned}
use Rattle.lock_free.specs.declared.accounts.OwnOffer.{OwnOffer}
use Rattle.lock_free.specs.declared.accounts.PartedSlot.{PartedSlot}
use Rattle.lock_free.proofs.PartingStay.{met_or_not}

module _ (sizes : Sizes) (account : Account) (words : List ℕ) (have : HaveTaken sizes words) (roots : RootsStand sizes account words) (actor : ℕ) (pin : Option Pinned)
    (own : Option OwnOffer) (slots : List PartedSlot) (knows : KnowsOffers account.offered account.offers account.parted words actor pin own slots) (handle : ℕ) (low : handle < handle_limit) where
  its_inside : (k : Known) → Contains account.offers k → (slot : ℕ) → slot ≡ k.slot → 2 * slot + words_in 1 ≤ words_of sizes
  its_inside k c slot same = let end = end_inside sizes words have 1 k.slot (omega arith) (roots.blocks k c) in omega (arith, end, same)

  met : (k : Known) → Contains account.offers k → NamesOffer (slice_index words (root_word handle)) k.slot → IsMet account pin k ⊎ (pin ≡ None)
  met k c names = met_or_not account words roots.parting actor k c handle low names pin own slots knows

  offer_tells : (slot : ℕ) → NamesOffer (slice_index words (root_word handle)) slot → SaysOffered account words handle slot (root_at (state_of sizes account) handle) →
      HasOffer sizes account pin handle slot ⊎ (pin ≡ None)
  offer_tells slot names h = elim (met h.its h.here (subst (NamesOffer (slice_index words (root_word handle))) h.place names)) [
    | inl known ↦ inl (record { its = h.its; here = known; place = sym h.place; on = h.on; inside = its_inside h.its h.here slot h.place })
    | inr free ↦ inr free
  ]

  opening_tells : (slot : ℕ) → NamesOffer (slice_index words (root_word handle)) slot →
      SaysOpening account words handle slot (root_at (state_of sizes account) handle) ⊎ (NoOffer account slot × (root_at (state_of sizes account) handle ≡ None)) →
      HasOpening sizes account pin handle slot ⊎ (pin ≡ None) ⊎ (root_at (state_of sizes account) handle ≡ None)
  opening_tells slot names (inl h) = elim (met h.its h.here (subst (NamesOffer (slice_index words (root_word handle))) h.place names)) [
    | inl known ↦ inl (record { its = h.its; here = known; place = sym h.place; opens = h.opens; inside = its_inside h.its h.here slot h.place })
    | inr free ↦ inr (inl free)
  ]
  opening_tells slot names (inr h) = inr (inr h.1)

  pub tells_by : (w : RootWord) → IsRootWord w → slice_index words (root_word handle) ≡ root_code w → SaysRoot account words handle w (root_at (state_of sizes account) handle) →
      TellsRoot sizes account pin handle w
  tells_by word.Closed fits is h = h
  tells_by word.Reserved fits is h = h
  tells_by (word.Writable slot) fits is h = h
  tells_by (word.ReadOnly slot) fits is h = h
  tells_by (word.ClosingWritable slot seat) fits is h = h
  tells_by (word.ClosingReadOnly slot seat) fits is h = h
  tells_by (word.Offered slot) fits is h = offer_tells slot (inl (fits, is)) h
  tells_by (word.Opening slot) fits is h = opening_tells slot (inr (fits, is)) h

-- what the seat is told
pub root_told : (before : View) (handle found : ℕ) (after : View) → handle < 256 → HasSeen before (root_word handle) found after → HasSeenRoot before handle (root_of found) after
root_told before handle found after low (m, is) =
    let means = m.kept.roots.means handle low in
    let what : root_of found ≡ means.what = ap root_of (sym m.finds ∙ means.code) ∙ root_back means.what means.fits in (
      record { account = m.kept.account; waited = waited_so before m.table m.kept m.id m.at; after_is = is },
      subst IsRootWord (sym what) means.fits,
      subst (TellsRoot before.sizes m.kept.account before.pin handle) (sym what)
          (tells_by before.sizes m.kept.account m.table.words m.kept.taken m.kept.roots before.actor before.pin before.offer before.pool.parted (m.kept.seats m.id before m.at).offering handle low
          means.what means.fits means.code means.says),
    )

-- the word is one of the table's
pub root_inside : (words : ℕ) (v : View) → IsSound words v → (handle : ℕ) → handle < 256 → root_word handle < words
root_inside words v sound handle low = let size = sound.size in let where_it_is = root_below handle low in omega (arith, size, where_it_is.1)
