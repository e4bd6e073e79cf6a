-- A seat that is alone sees that the word of a handle names no offer.
use Rattle.history.specs.declared.calls.Call.{Call}
use Rattle.std.proofs.Common.{◌≡◌, ◌<◌, ◌≤◌, inl, inr, ℕ, Bool, true, false, List, ◌∷◌, Contains, set, slice_index, refl, sym, ap, subst, ◌∙◌, arith}
use Rattle.std.proofs.lemmas.Bool.{true≢false}
use Rattle.std.proofs.lemmas.List.{set-get_or}
use mathlib.Core.Option.{some, none}
use lib.ListN.{get_elem?}
use Rattle.atomic_table.specs.Table as Table
use Rattle.atomic_table.specs.Table.{Allows, Me, keeps, step}
use Rattle.trie_words.specs.Codes.{root_of}
use Rattle.trie_words.specs.declared.roots.RootWord.TheVariants as word
use Rattle.machine_model.specs.States.{handle_limit}
use Rattle.lock_free.specs.declared.accounts.Account.{Account}
use Rattle.lock_free.specs.declared.rules.Heard.{Heard}
use Rattle.lock_free.specs.declared.rules.View.{View}
use Rattle.lock_free.specs.declared.sizes.Sizes.{Sizes}
use Rattle.lock_free.specs.Accounts.{state_of}
use Rattle.lock_free.specs.Alone.{has_seen_plain, is_plain, HasSeenPlain, IsAlone}
use Rattle.lock_free.specs.Loading.{IsSound}
use Rattle.lock_free.specs.Places.{root_word, words_of}
use Rattle.lock_free.specs.Shadows.{IsShadowed}
use Rattle.lock_free.specs.Rules.{IsKept, IsPlainSo, IsRuled, IsSeat, IsShown, NamesOffer, WasGivenUp}
use Rattle.lock_free.specs.Seated.{IsResting}
use Rattle.lock_free.proofs.OneGlance.Shadowed.{lifted}
use Rattle.lock_free.proofs.Assembling.{all_stand, assembled, closing_stays, here, numbers_stay}
use Rattle.lock_free.proofs.CellsStay.{cells_seen}
use Rattle.lock_free.proofs.EpochStays.{epochs_stay, was_then}
use Rattle.lock_free.proofs.Geometry.{root_apart}
use Rattle.lock_free.proofs.GoneSeats.{heard_still}
use Rattle.lock_free.proofs.HeldStill.{held_views}
use Rattle.lock_free.proofs.LinksStay.{linked_then}
use Rattle.lock_free.proofs.Meanings.{no_tries}
use Rattle.lock_free.proofs.Moments.{free_inside}
use Rattle.lock_free.proofs.OnlySeat.{runs_nothing}
use Rattle.lock_free.proofs.OwedStay.{owed_same}
use Rattle.lock_free.proofs.Pools.{first_or_more}
use Rattle.lock_free.proofs.RetiredStay.{retired_then}
use Rattle.lock_free.proofs.RootCodes.{root_back}
use Rattle.lock_free.proofs.Waiting.{waited_none}

-- what names an offer is no such word
not_plain : (found slot : ℕ) → NamesOffer found slot → is_plain (root_of found) ≡ true → ⊥
not_plain found slot (inl h) e = true≢false (sym e ∙ ap is_plain (ap root_of h.1 ∙ root_back (word.Offered slot) h.0))
not_plain found slot (inr h) e = true≢false (sym e ∙ ap is_plain (ap root_of h.1 ∙ root_back (word.Opening slot) h.0))

module _ (v : View) (some_seats : 1 ≤ v.sizes.seats) (s : Table.State Call View) (ruled : IsRuled v.sizes s) (id : ℕ) (at : get_elem? s.views id ≡ some v) where
  abbrev kept : IsKept v.sizes s
  kept = ruled.kept

  seat : IsSeat v.sizes kept.account kept.stands s.words v
  seat = kept.seats id v at

  heard : (h : Heard) → Contains v.heard h → WasGivenUp s.views h
  heard = ruled.heard id v at

  -- it has seen what has happened, and what it knows then of handles
  abbrev pub then : List (ℕ × ℕ) → View
  then plain = record v { account = kept.account; plain = plain }

  module _ (known : List (ℕ × ℕ)) (so : (d : ℕ × ℕ) → Contains known d → IsPlainSo v.sizes kept.account s.words d) where
    own_then : IsSeat v.sizes kept.account kept.stands s.words (then known)
    own_then = record {
      same = seat.same;
      low = seat.low;
      top = seat.top;
      most = seat.most;
      waited = waited_none v.actor kept.account;
      counts = kept.counted;
      rested = seat.rested;
      rests = seat.rests;
      pinned = seat.pinned;
      pinned_idle = seat.pinned_idle;
      retired = seat.retired;
      entered = seat.entered;
      calls = seat.calls;
      opens = seat.opens;
      reserves = seat.reserves;
      opening = λ g slot o n. (let x = seat.opening g slot o n in record { low = x.low; fits = x.fits; is = x.is; free = x.free });
      spare = seat.spare;
      once = seat.once;
      drafts = seat.drafts;
      plain = so;
      offering = seat.offering;
    }

    kept_then : IsKept v.sizes (record { words = s.words; homes = s.homes; views = set s.views id (then known) })
    kept_then =
        assembled v.sizes s kept id v at (then known) refl refl kept.account kept.stands s.words (all_stand v.sizes s kept)
        (λ g who below says. closing_stays v.sizes s kept id v at (then known) refl refl (λ h e. (e, refl)) refl (λ c. c) g who (kept.closings g who below says)) own_then
        (λ other w e apart. kept.seats other w e) (λ b n f. inl f)
        (numbers_stay v.sizes s kept id v at (then known) refl refl kept.account s.words (no_tries kept.account.offers (state_of v.sizes kept.account)) (λ slot none. none) (λ g below. refl) refl
        (λ slot g e free. free)) (held_views v.sizes s kept id v at (then known) refl refl refl) (cells_seen v.sizes s kept id v at (then known) (λ b n f. f))

    pub ruled_then : IsRuled v.sizes (record { words = s.words; homes = s.homes; views = set s.views id (then known) })
    ruled_then = record {
      kept = kept_then;
      epochs =
          epochs_stay s.words s.words s.views (set s.views id (then known)) refl
          (was_then s.views id v at (then known) (record { actor = refl; epoch = refl; passed = refl; glance = refl; pinned = λ p is. is })) ruled.epochs;
      retired = retired_then s.views id v at (then known) refl (λ p is. is) v.sizes s.words s.words (omega arith) ruled.retired;
      owed = owed_same s.views id v at (then known) refl refl refl ruled.owed;
      linked = linked_then s.views id v at (then known) refl (λ x c. c) v.sizes s.words s.words (λ c is. refl) ruled.linked;
      heard = heard_still s.views id v at some_seats (then known) refl ruled.heard;
    }

    pub sound_then : IsSound (words_of v.sizes) (then known)
    sound_then = record {
      size = refl;
      range = kept.range.within;
      bounds = kept.bounds;
      keys = kept.keys;
      counted = kept.counted;
      inside = kept.nodes.inside;
      free = free_inside (then known) (record { words = s.words; homes = s.homes; views = set s.views id (then known) }) kept_then id (here v.sizes s kept id v at (then known) refl refl);
    }

-- ---- where it is alone

module _ (v : View) (some_seats : 1 ≤ v.sizes.seats) (s : Table.State Call View) (ruled : IsRuled v.sizes s) (id : ℕ) (at : get_elem? s.views id ≡ some v) (alone : IsAlone v) (rests : IsResting v)
    (handle : ℕ) (low : handle < handle_limit) where
  abbrev account : Account
  account = ruled.kept.account

  abbrev found : ℕ
  found = slice_index s.words (root_word handle)

  abbrev now_so : ℕ × ℕ
  now_so = (handle, (state_of v.sizes account).begun)

  is_so : is_plain (root_of found) ≡ true → IsPlainSo v.sizes account s.words now_so
  is_so plain = record {
    low = low;
    begun = omega arith;
    plain = λ e. (runs_nothing v s ruled.kept (ruled.heard id v at) id at alone rests.idle, λ slot names. not_plain found slot names plain);
  }

  more_so : is_plain (root_of found) ≡ true → (d : ℕ × ℕ) → Contains (now_so ∷ v.plain) d → IsPlainSo v.sizes account s.words d
  more_so plain d c = elim (first_or_more now_so v.plain d c) [
    | inl new ↦ subst (IsPlainSo v.sizes account s.words) (sym new) (is_so plain)
    | inr old ↦ (ruled.kept.seats id v at).plain d old
  ]

  abbrev Then : View → Type 0
  Then w = IsRuled v.sizes (record { words = s.words; homes = s.homes; views = set s.views id w }) × HasSeenPlain v handle (is_plain (root_of found)) found w
      × IsSound (words_of v.sizes) w × (w.glance ≡ v.glance) × (IsShown v → IsShown w)

  pub sees : (w : View) × Then w
  sees = by (is_plain (root_of found)) refl
    where
      by : (b : Bool) → is_plain (root_of found) ≡ b → (w : View) × Then w
      by true e = (
        then v some_seats s ruled id at (now_so ∷ v.plain),
        (
          ruled_then v some_seats s ruled id at (now_so ∷ v.plain) (more_so e),
          (record { table = s; kept = ruled.kept; heard = ruled.heard id v at; id = id; at = at; finds = refl }, (λ yes. refl), λ no. absurd (true≢false (sym e ∙ no))),
          sound_then v some_seats s ruled id at (now_so ∷ v.plain) (more_so e),
          refl,
          λ shown. shown,
        ),
      )
      by false e = (
        then v some_seats s ruled id at v.plain,
        (
          ruled_then v some_seats s ruled id at v.plain (λ d c. (ruled.kept.seats id v at).plain d c),
          (record { table = s; kept = ruled.kept; heard = ruled.heard id v at; id = id; at = at; finds = refl }, (λ yes. absurd (true≢false (sym yes ∙ e))), λ no. refl),
          sound_then v some_seats s ruled id at v.plain (λ d c. (ruled.kept.seats id v at).plain d c),
          refl,
          λ shown. shown,
        ),
      )

pub plain_allowed : (sizes : Sizes) (size id : ℕ) (me : Me Call View) (some_seats : 1 ≤ me.0.sizes.seats) → IsAlone me.0 → IsResting me.0 → (handle : ℕ) → handle < handle_limit →
    (word : ℕ) → word ≡ root_word handle → Allows (IsShadowed sizes) size id me word (λ n. n) (has_seen_plain (step size word 0 0 none) me)
plain_allowed sizes size id me some_seats alone rests handle low word is =
    subst (λ i. Allows (IsShadowed sizes) size id me i (λ n. n) (has_seen_plain (step size i 0 0 none) me)) (sym is) allows
  where
    allows : Allows (IsShadowed sizes) size id me (root_word handle) (λ n. n) (has_seen_plain (step size (root_word handle) 0 0 none) me)
    allows =
        lifted sizes size id me (root_word handle) (λ n. n) (has_seen_plain (step size (root_word handle) 0 0 none) me) some_seats
        (λ s ruled at.
        (let its = (ruled.kept.seats id me.0 at).same some_seats in
        let own = subst (λ z. IsRuled z s) (sym its) ruled in
        let x = sees me.0 some_seats s own id at alone rests handle low in
        let same = sym (set-get_or s.words (root_word handle) 0) in (
          x.0,
          keeps,
          (inr refl, x.1.3, x.1.4),
          tt,
          subst (λ ws. IsRuled sizes (record { words = ws; homes = s.homes; views = set s.views id x.0 })) same
              (subst (λ z. IsRuled z (record { words = s.words; homes = s.homes; views = set s.views id x.0 })) its x.1.0),
          (
            λ g few e.
                (let one : handle ≡ g = root_apart handle g e in
                subst (λ n. HasSeenPlain me.0 n (is_plain (root_of (slice_index s.words (root_word handle)))) (slice_index s.words (root_word handle)) x.0) one x.1.1),
            x.1.2,
            refl,
          ),
        )))
