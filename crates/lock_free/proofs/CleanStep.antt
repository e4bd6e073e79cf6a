-- The exchange by which a settled offer is taken out of the word of its handle.
use Rattle.history.specs.declared.calls.Call.{Call}
use Rattle.std.proofs.Common.{◌≤◌, ◌≡◌, ◌≢◌, ◌==◌, ◌<◌, ◌^◌, inl, inr, ℕ, Contains, set, slice_index, refl, sym, ap, subst, ◌∙◌, arith}
use Rattle.std.proofs.lemmas.Bool.{cases_eq}
use mathlib.Core.Option.{some, none}
use lib.ListN.{get_elem?}
use prog.Atomic.{either}
use Rattle.atomic_table.specs.Table.{Me, Allows, step}
use Rattle.atomic_table.specs.Table as Table
use Rattle.trie_words.specs.Codes.{root_code}
use Rattle.trie_words.specs.declared.roots.RootWord.TheVariants as word
use Rattle.history.specs.declared.calls.Access.TheVariants.{Writable}
use Rattle.machine_model.specs.Beneath.slot_arena.specs.declared.refs.Ref.{Ref}
use Rattle.machine_model.specs.Beneath.slot_arena.specs.Refs.{slot_of}
use Rattle.machine_model.specs.declared.roots.RootWord.TheVariants.{Plain}
use Rattle.machine_model.specs.States.{root_at}
use Rattle.lock_free.proofs.CountWords.{handle_apart}
use Rattle.lock_free.specs.declared.accounts.Known.{Known}
use Rattle.lock_free.specs.declared.rules.View.{View}
use Rattle.lock_free.specs.declared.sizes.Sizes.{Sizes}
use Rattle.lock_free.specs.Accounts.{place_of, state_of}
use Rattle.lock_free.specs.Fates.{HasSettled}
use Rattle.lock_free.specs.Loading.{IsSound}
use Rattle.lock_free.specs.Nodes.{class_of}
use Rattle.lock_free.specs.Passing.{IsPlaced}
use Rattle.lock_free.specs.Places.{root_word}
use Rattle.lock_free.specs.Roots.{fate, undecided, open_with}
use Rattle.lock_free.specs.RootWords.{IsAtClean, has_cleaned, settled_root}
use Rattle.lock_free.specs.Shadows.{IsShadowed}
use Rattle.lock_free.specs.Rules.{IsKept}
use Rattle.lock_free.proofs.AbortStep.{known_there}
use Rattle.lock_free.proofs.Assembling.{closing_at}
use Rattle.lock_free.proofs.Closers.{seat_kept}
use Rattle.lock_free.proofs.Exchanged.{words_then, words_hit, words_miss}
use Rattle.lock_free.proofs.Fates.{settled_decides, settled_still}
use Rattle.lock_free.proofs.Framing.{class_small, node_end}
use Rattle.lock_free.proofs.Moments.{allowed, same_place, seat}
use Rattle.lock_free.proofs.OpenHandles.{clean_kept, root_fits, settled_is}
use Rattle.lock_free.proofs.Rewritten.{IsPlainWord, is_writable, plain_same}
use Rattle.lock_free.proofs.Within.{two_words}

-- the slot is one of the table
pub placed_small : (words : ℕ) (v : View) → IsSound words v → (r : Ref) (name : ℕ) → IsPlaced v r name → name < 2 ^ 27
placed_small words v sound r name p =
    let inside = node_end v.sizes p.0.0.node (place_of v.account r) (sound.inside (slot_of r) p.0.0 p.0.1) in
    let two = two_words (class_of p.0.0.node) (class_small p.0.0.node) in
    let range = sound.range in
    let place = p.1 in
    omega (arith, inside, two, range, place)

-- an access that changes nothing
pub untouched : (v : View) (s : Table.State Call View) (kept : IsKept v.sizes s) (id : ℕ) → get_elem? s.views id ≡ some v → IsKept v.sizes
    (record { words = s.words; homes = s.homes; views = set s.views id v })
untouched v s kept id at =
    seat_kept v.sizes s kept id v at v.entered v.closing (kept.seats id v at).entered (kept.seats id v at).calls
    (λ g who below h. closing_at v.sizes s kept id v at v refl refl g who (λ x. (x, refl)) (λ c x y z. x) (λ c. c) (kept.closings g who below h))

module _ (v : View) (handle offer root : ℕ) (low : handle < 256) (a : IsAtClean v handle offer root) (s : Table.State Call View) (kept : IsKept v.sizes s) (id : ℕ)
    (at : get_elem? s.views id ≡ some v) where
  abbrev old : ℕ
  old = root_code (word.Offered offer)

  abbrev new : ℕ
  new = root_code (word.Writable root)

  abbrev found : ℕ
  found = slice_index s.words (root_word handle)

  abbrev k : Known
  k = a.its.its

  here : Contains kept.account.offers k
  here = known_there v s kept id at k a.its.here

  there : HasSettled v.sizes kept.account k a.outcome
  there = let waited = (seat v s kept id at).waited in settled_still v.sizes v.account kept.account waited.steps waited.goes_on k a.outcome a.settled

  -- its first word says so
  fate_is : fate s.words k ≡ a.outcome
  fate_is = (kept.roots.fates k here).once a.outcome there

  decided : fate s.words k ≢ undecided
  decided e = settled_decides a.outcome k.offer _ _ there.settled (sym fate_is ∙ e)

  abbrev left : Ref
  left = settled_root a.outcome k.offer

  place_is : place_of kept.account left ≡ root
  place_is = same_place v s kept id at (slot_of left) a.place.0.0 a.place.0.1 ∙ a.place.1

  hits : found ≡ old → IsKept v.sizes (record { words = set s.words (root_word handle) new; homes = s.homes; views = set s.views id v })
  hits e =
      let is : found ≡ root_code (word.Offered k.slot) = e ∙ ap (λ n. root_code (word.Offered n)) (sym a.its.place) in
      let plain : root_at (state_of v.sizes kept.account) handle ≡ open_with Writable (Plain left) =
      settled_is v.sizes s kept handle low k here decided is ∙ ap (λ n. open_with Writable (Plain (settled_root n k.offer))) fate_is in
      clean_kept v.sizes s kept id v at handle low (word.Writable root) (subst (λ n. n < 2 ^ 27) place_is (root_fits v.sizes s kept handle low Writable left plain))
      (plain_same v.sizes s kept handle low Writable left plain (word.Writable root)
      (subst (λ n. IsPlainWord Writable (place_of kept.account left) (word.Writable n)) place_is (is_writable refl))) (omega arith)

  pub cleans : IsKept v.sizes (record { words = words_then v s kept id at (root_word handle) old new; homes = s.homes; views = set s.views id v })
  cleans = elim (cases_eq found old) [
    | inl e ↦
        subst (λ ws. IsKept v.sizes (record { words = ws; homes = s.homes; views = set s.views id v })) (words_hit v s kept id at (root_word handle) old new e (root_word handle) refl) (hits e)
    | inr differs ↦
        subst (λ ws. IsKept v.sizes (record { words = ws; homes = s.homes; views = set s.views id v })) (words_miss v s kept id at (root_word handle) old new differs)
        (untouched v s kept id at)
  ]

pub clean_allowed : (sizes : Sizes) (size id : ℕ) (me : Me Call View) (some_seats : 1 ≤ me.0.sizes.seats) (handle offer root : ℕ) → handle < 256 → IsAtClean me.0 handle offer root →
    Allows (IsShadowed sizes) size id me (root_word handle) (λ n. either (n == root_code (word.Offered offer)) (root_code (word.Writable root)) n)
    (has_cleaned (step size (root_word handle) (root_code (word.Offered offer)) (root_code (word.Writable root)) none) me)
clean_allowed sizes size id me some_seats handle offer root low a =
    allowed sizes size id me (root_word handle) (λ n. either (n == root_code (word.Offered offer)) (root_code (word.Writable root)) n)
    (has_cleaned (step size (root_word handle) (root_code (word.Offered offer)) (root_code (word.Writable root)) none) me)
    some_seats (λ s kept at. inl (handle_apart me.0.sizes handle low))
    (λ s kept at. (me.0, cleans me.0 handle offer root low a s kept id at, refl))
    (λ s kept at. refl)
