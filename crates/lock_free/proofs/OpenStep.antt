-- The exchange by which a settled offer is taken out of the word of the handle that it opens: that is open then, or its number only reserved.
use Rattle.history.specs.declared.calls.Call.{Call}
use Rattle.std.proofs.Common.{◌≡◌, ◌<◌, ◌^◌, inl, inr, ℕ, Contains, Option, Some, None, set, slice_index, refl, sym, ap, subst, ◌∙◌, arith}
use Rattle.std.proofs.lemmas.Bool.{cases_eq}
use mathlib.Core.Option.{some}
use lib.ListN.{get_elem?}
use Rattle.atomic_table.specs.Table as Table
use Rattle.trie_words.specs.Codes.{root_code, IsRootWord}
use Rattle.trie_words.specs.declared.roots.RootWord.{RootWord}
use Rattle.trie_words.specs.declared.roots.RootWord.TheVariants as word
use Rattle.history.specs.declared.calls.Access.TheVariants.{Writable, ReadOnly}
use Rattle.machine_model.specs.Beneath.slot_arena.specs.declared.refs.Ref.{Ref}
use Rattle.machine_model.specs.Beneath.slot_arena.specs.Refs.{slot_of}
use Rattle.machine_model.specs.declared.roots.RootWord.TheVariants.{Plain}
use Rattle.machine_model.specs.States.{root_at}
use Rattle.lock_free.specs.declared.accounts.Known.{Known}
use Rattle.lock_free.specs.declared.rules.View.{View}
use Rattle.lock_free.specs.Accounts.{place_of, state_of}
use Rattle.lock_free.specs.Loading.{IsSound}
use Rattle.lock_free.specs.Passing.{IsPlaced}
use Rattle.lock_free.specs.Places.{root_word}
use Rattle.lock_free.specs.Roots.{fate, carried_out, open_with}
use Rattle.lock_free.specs.RootWords.{IsAtOpen, OpensAs, as_copy, for_readers, still_reserved}
use Rattle.lock_free.specs.Rules.{IsKept}
use Rattle.lock_free.proofs.AbortStep.{known_there}
use Rattle.lock_free.proofs.CleanStep.{placed_small, untouched}
use Rattle.lock_free.proofs.Exchanged.{words_then, words_hit, words_miss}
use Rattle.lock_free.proofs.Fates.{settled_still}
use Rattle.lock_free.proofs.Moments.{same_place, seat}
use Rattle.lock_free.proofs.OpenHandles.{clean_kept, opened_access, opened_is, opened_ref, root_fits}
use Rattle.lock_free.proofs.Rewritten.{IsPlainWord, is_read_only, is_writable, plain_same, reserved_same}

-- the word is in range
pub opened_fits : (words : ℕ) (v : View) → IsSound words v → (handle offer : ℕ) (opened : RootWord) → IsAtOpen v handle offer opened → IsRootWord opened
opened_fits words v sound handle offer opened a = by a.outcome opened a.opens
  where
    by : (n : ℕ) (w : RootWord) → OpensAs v a.its.its.offer n w → IsRootWord w
    by n w (as_copy r name e placed) = placed_small words v sound r name placed
    by n w (for_readers name e placed) = placed_small words v sound a.its.its.offer.root name placed
    by n w still_reserved = tt

module _ (v : View) (handle offer : ℕ) (opened : RootWord) (low : handle < 256) (a : IsAtOpen v handle offer opened) (s : Table.State Call View) (kept : IsKept v.sizes s) (id : ℕ)
    (at : get_elem? s.views id ≡ some v) where
  abbrev old : ℕ
  old = root_code (word.Opening offer)

  abbrev found : ℕ
  found = slice_index s.words (root_word handle)

  abbrev k : Known
  k = a.its.its

  here : Contains kept.account.offers k
  here = known_there v s kept id at k a.its.here

  fate_is : fate s.words k ≡ a.outcome
  fate_is =
      let waited = (seat v s kept id at).waited in
      (kept.roots.fates k here).once a.outcome (settled_still v.sizes v.account kept.account waited.steps waited.goes_on k a.outcome a.settled)

  place_is : (r : Ref) (name : ℕ) → IsPlaced v r name → place_of kept.account r ≡ name
  place_is r name p = same_place v s kept id at (slot_of r) p.0.0 p.0.1 ∙ p.1

  module _ (e : found ≡ old) where
    is : found ≡ root_code (word.Opening k.slot)
    is = e ∙ ap (λ n. root_code (word.Opening n)) (sym a.its.place)

    stands_as : fate s.words k ≡ carried_out → (o : Option Ref) → k.offer.second ≡ o → root_at (state_of v.sizes kept.account) handle ≡ open_with (opened_access o) (Plain (opened_ref k.offer o))
    stands_as carried o f =
        subst (λ x. root_at (state_of v.sizes kept.account) handle ≡ open_with (opened_access x) (Plain (opened_ref k.offer x))) f (opened_is v.sizes s kept handle low k here carried is)

    hits : (n : ℕ) (w : RootWord) → fate s.words k ≡ n → OpensAs v k.offer n w →
        IsKept v.sizes (record { words = set s.words (root_word handle) (root_code w); homes = s.homes; views = set s.views id v })
    hits n w carried (as_copy r name f placed) =
        let plain = stands_as carried (Some r) f in
        clean_kept v.sizes s kept id v at handle low (word.Writable name) (subst (λ m. m < 2 ^ 27) (place_is r name placed) (root_fits v.sizes s kept handle low Writable r plain))
        (plain_same v.sizes s kept handle low Writable r plain (word.Writable name)
        (subst (λ m. IsPlainWord Writable (place_of kept.account r) (word.Writable m)) (place_is r name placed) (is_writable refl))) (omega arith)
    hits n w carried (for_readers name f placed) =
        let plain = stands_as carried None f in
        clean_kept v.sizes s kept id v at handle low (word.ReadOnly name)
        (subst (λ m. m < 2 ^ 27) (place_is k.offer.root name placed) (root_fits v.sizes s kept handle low ReadOnly k.offer.root plain))
        (plain_same v.sizes s kept handle low ReadOnly k.offer.root plain (word.ReadOnly name)
        (subst (λ m. IsPlainWord ReadOnly (place_of kept.account k.offer.root) (word.ReadOnly m)) (place_is k.offer.root name placed) (is_read_only refl))) (omega arith)
    hits n w back still_reserved = clean_kept v.sizes s kept id v at handle low word.Reserved tt (reserved_same v.sizes s kept handle low k here back is) (omega arith)

  pub opens : IsKept v.sizes (record { words = words_then v s kept id at (root_word handle) old (root_code opened); homes = s.homes; views = set s.views id v })
  opens = elim (cases_eq found old) [
    | inl e ↦
        subst (λ ws. IsKept v.sizes (record { words = ws; homes = s.homes; views = set s.views id v })) (words_hit v s kept id at (root_word handle) old (root_code opened) e (root_word handle) refl)
        (hits e a.outcome opened fate_is a.opens)
    | inr differs ↦
        subst (λ ws. IsKept v.sizes (record { words = ws; homes = s.homes; views = set s.views id v })) (words_miss v s kept id at (root_word handle) old (root_code opened) differs)
        (untouched v s kept id at)
  ]
