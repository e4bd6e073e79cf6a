-- The exchange by which the mark of a seat that would close a handle is taken away.
use Rattle.history.specs.declared.calls.Access.TheVariants.{Writable, ReadOnly}
use Rattle.history.specs.declared.calls.Call.{Call}
use Rattle.std.proofs.Common.{◌≤◌, ◌≡◌, ◌==◌, ◌<◌, inl, inr, ℕ, true, set, slice_index, refl, sym, subst, ◌∙◌, arith}
use Rattle.std.proofs.lemmas.Bool.{cases_eq, false≢true}
use mathlib.Core.Option.{some, none}
use lib.ListN.{get_elem?}
use prog.Atomic.{either}
use Rattle.atomic_table.specs.Table.{Me, Allows, step}
use Rattle.atomic_table.specs.Table as Table
use Rattle.trie_words.specs.Codes.{root_code, IsRootWord}
use Rattle.trie_words.specs.declared.roots.RootWord.{RootWord}
use Rattle.trie_words.specs.declared.roots.RootWord.TheVariants as word
use Rattle.machine_model.specs.States.{root_at}
use Rattle.lock_free.proofs.CountWords.{handle_apart}
use Rattle.lock_free.specs.declared.rules.View.{View}
use Rattle.lock_free.specs.declared.sizes.Sizes.{Sizes}
use Rattle.lock_free.specs.Accounts.{place_of, state_of}
use Rattle.lock_free.specs.HandleWords.{is_marked, without_mark, has_unmarked}
use Rattle.lock_free.specs.Places.{root_word}
use Rattle.lock_free.specs.Roots.{MeansRoot, SaysRoot}
use Rattle.lock_free.specs.Shadows.{IsShadowed}
use Rattle.lock_free.specs.Rules.{IsKept}
use Rattle.lock_free.proofs.Assembling.{closing_at}
use Rattle.lock_free.proofs.Closers.{seat_kept}
use Rattle.lock_free.proofs.Exchanged.{words_then, words_hit, words_miss}
use Rattle.lock_free.proofs.Moments.{allowed}
use Rattle.lock_free.proofs.OpenHandles.{clean_kept}
use Rattle.lock_free.proofs.Rewritten.{IsPlainWord, is_writable, is_read_only, plain_same}
use Rattle.lock_free.proofs.RootCodes.{same_word}

-- the word without it is in range
pub unmarked_fits : (w : RootWord) → IsRootWord w → is_marked w ≡ true → IsRootWord (without_mark w)
unmarked_fits (word.ClosingWritable slot seat) fits e = fits.0
unmarked_fits (word.ClosingReadOnly slot seat) fits e = fits.0
unmarked_fits w fits e = absurd (false≢true e)

module _ (v : View) (handle : ℕ) (low : handle < 256) (s : Table.State Call View) (kept : IsKept v.sizes s) (id : ℕ) (at : get_elem? s.views id ≡ some v) where
  abbrev found : ℕ
  found = slice_index s.words (root_word handle)

  abbrev means : MeansRoot kept.account s.words handle found (root_at (state_of v.sizes kept.account) handle)
  means = kept.roots.means handle low

  says : (w : RootWord) → IsRootWord w → found ≡ root_code w → SaysRoot kept.account s.words handle w (root_at (state_of v.sizes kept.account) handle)
  says w fits e = subst (λ x. SaysRoot kept.account s.words handle x (root_at (state_of v.sizes kept.account) handle)) (same_word means.what w means.fits fits (sym means.code ∙ e)) means.says

  abbrev Unmarks : ℕ → Type 0
  Unmarks code = IsKept v.sizes (record { words = set s.words (root_word handle) code; homes = s.homes; views = set s.views id v })

  hits : (w : RootWord) → IsRootWord w → is_marked w ≡ true → found ≡ root_code w → Unmarks (root_code (without_mark w))
  hits (word.ClosingWritable slot seat) fits marked e =
      let x = says (word.ClosingWritable slot seat) fits e in
      clean_kept v.sizes s kept id v at handle low (word.Writable slot) fits.0
      (plain_same v.sizes s kept handle low Writable x.root x.is (word.Writable slot)
      (subst (λ n. IsPlainWord Writable (place_of kept.account x.root) (word.Writable n)) (sym x.place) (is_writable refl))) (omega arith)
  hits (word.ClosingReadOnly slot seat) fits marked e =
      let x = says (word.ClosingReadOnly slot seat) fits e in
      clean_kept v.sizes s kept id v at handle low (word.ReadOnly slot) fits.0
      (plain_same v.sizes s kept handle low ReadOnly x.root x.is (word.ReadOnly slot)
      (subst (λ n. IsPlainWord ReadOnly (place_of kept.account x.root) (word.ReadOnly n)) (sym x.place) (is_read_only refl))) (omega arith)
  hits w fits marked e = absurd (false≢true marked)

  misses : IsKept v.sizes (record { words = s.words; homes = s.homes; views = set s.views id v })
  misses =
      seat_kept v.sizes s kept id v at v.entered v.closing (kept.seats id v at).entered (kept.seats id v at).calls
      (λ g who below h. closing_at v.sizes s kept id v at v refl refl g who (λ x. (x, refl)) (λ c x y z. x) (λ c. c) (kept.closings g who below h))

  pub unmarks : (w : RootWord) → IsRootWord w → is_marked w ≡ true →
      IsKept v.sizes (record { words = words_then v s kept id at (root_word handle) (root_code w) (root_code (without_mark w)); homes = s.homes; views = set s.views id v })
  unmarks w fits marked = elim (cases_eq found (root_code w)) [
    | inl e ↦ subst (λ ws. IsKept v.sizes (record { words = ws; homes = s.homes; views = set s.views id v }))
        (words_hit v s kept id at (root_word handle) (root_code w) (root_code (without_mark w)) e (root_word handle) refl) (hits w fits marked e)
    | inr differs ↦
        subst (λ ws. IsKept v.sizes (record { words = ws; homes = s.homes; views = set s.views id v }))
        (words_miss v s kept id at (root_word handle) (root_code w) (root_code (without_mark w)) differs)
        misses
  ]

pub unmark_allowed : (sizes : Sizes) (size id : ℕ) (me : Me Call View) (some_seats : 1 ≤ me.0.sizes.seats) (handle : ℕ) → handle < 256 → (w : RootWord) → IsRootWord w → is_marked w ≡ true →
    Allows (IsShadowed sizes) size id me (root_word handle) (λ n. either (n == root_code w) (root_code (without_mark w)) n)
    (has_unmarked (step size (root_word handle) (root_code w) (root_code (without_mark w)) none) me)
unmark_allowed sizes size id me some_seats handle low w fits marked =
    allowed sizes size id me (root_word handle) (λ n. either (n == root_code w) (root_code (without_mark w)) n)
    (has_unmarked (step size (root_word handle) (root_code w) (root_code (without_mark w)) none) me)
    some_seats (λ s kept at. inl (handle_apart me.0.sizes handle low))
    (λ s kept at. (me.0, unmarks me.0 handle low s kept id at w fits marked, refl))
    (λ s kept at. refl)
