-- A seat that is alone sees of one handle after the other that its word names no offer.
use Rattle.std.proofs.Common.{◌≡◌, ◌+◌, inl, inr, ℕ, Bool, true, false, ◌∷◌, Contains, refl, sym, ap, subst, ◌∙◌, arith}
use Rattle.std.proofs.lemmas.Bool.{cases_lt, true≢false}
use Rattle.trie_words.specs.declared.roots.RootWord.{RootWord as HandleWord}
use Rattle.lock_free.specs.declared.rules.View.{View}
use Rattle.lock_free.specs.Accounts.{state_of}
use Rattle.lock_free.specs.Alone.{is_plain, HasSeenPlainWord, IsAlone, LoneMoment}
use Rattle.lock_free.specs.Loading.{now}
use Rattle.lock_free.specs.Places.{root_word}
use Rattle.lock_free.specs.SeatWords.{IsIdle}
use Rattle.lock_free.specs.Watching.{IsQuiet, KnowsPlain}
use Rattle.lock_free.proofs.Pools.{first_there, more_there}
use Rattle.lock_free.proofs.Watched.{quiet, quiet_with}

-- ---- nothing has changed, and then again nothing

pub quiet_both : (u v w : View) → IsQuiet u v → IsQuiet v w → IsQuiet u w
quiet_both u v w p q = record {
  is = q.is ∙ ap (λ (x : View). record x { account = w.account; plain = w.plain }) p.is;
  alone = q.alone;
  idle = q.idle;
  slots = λ k. q.slots k ∙ p.slots k;
  roots = λ handle. q.roots handle ∙ p.roots handle;
  begun = q.begun ∙ p.begun;
  places = λ r slot used. q.places r slot (p.slots _ ∙ used) ∙ p.places r slot used;
  led = λ r h. q.led r (p.led r h);
  was_led = λ r h. p.was_led r (q.was_led r h);
}

-- ---- one handle more

module _ (v : View) (alone : IsAlone v) (idle : IsIdle v) (handle : ℕ) (w : HandleWord) (after : View) (h : HasSeenPlainWord v handle w after) where
  abbrev m : LoneMoment v (root_word handle) h.0
  m = h.2.0

  by : (b : Bool) → is_plain w ≡ b → IsQuiet v after × (is_plain w ≡ true → KnowsPlain v handle → KnowsPlain after (handle + 1))
  by true e =
      let is = h.2.1 e in
      let q = subst (IsQuiet v) (sym is) (quiet_with v (root_word handle) h.0 m alone idle ((handle, (state_of v.sizes m.kept.account).begun) ∷ v.plain)) in (
        q,
        λ yes known g low. elim (cases_lt g handle) [
          | inl before ↦
              subst (λ (x : View). Contains x.plain (g, (now after).begun)) (sym is)
              (more_there _ v.plain (g, (now after).begun) (subst (λ n. Contains v.plain (g, n)) (sym q.begun) (known g before)))
          | inr last ↦
              (let same : g ≡ handle = omega (arith, low, last) in
              subst (λ n. Contains after.plain (n, (now after).begun)) (sym same)
              (subst (λ (x : View). Contains x.plain (handle, (now x).begun)) (sym is) (first_there (handle, (state_of v.sizes m.kept.account).begun) v.plain)))
        ],
      )
  by false e = (subst (IsQuiet v) (sym (h.2.2 e)) (quiet v (root_word handle) h.0 m alone idle), λ yes. absurd (true≢false (sym yes ∙ e)))

  pub plain_quiet : IsQuiet v after
  plain_quiet = (by (is_plain w) refl).0

  pub plain_more : is_plain w ≡ true → KnowsPlain v handle → KnowsPlain after (handle + 1)
  plain_more = (by (is_plain w) refl).1
