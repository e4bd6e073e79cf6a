-- All glances that are under way fall: their operations give up and end, one after the other.
use Rattle.history.specs.declared.calls.Call.{Call}
use Rattle.std.proofs.Common.{◌≡◌, ◌+◌, ◌≤◌, ◌^◌, ℕ, inl, inr, zero, suc, append_assoc, List, [], ◌∷◌, ◌++◌, set, length, slice_index, refl, sym, ap, subst, ◌∙◌, arith, if◌then◌else◌}
use Rattle.std.proofs.lemmas.List.{set-get_or, set-set}
use Rattle.std.proofs.Math.Seq.{set-append_seam}
use Rattle.std.proofs.lemmas.Option.{none-some}
use mathlib.Core.Option.{Option, some, some-injective, some-ne-none}
use lib.ListN.{get_elem?}
use Rattle.atomic_table.specs.Table as Table
use Rattle.atomic_table.specs.Table.{Me, homes_after}
use Rattle.atomic_table.proofs.Lists.{set_here}
use Rattle.trie_words.specs.Codes.{pin_code}
use Rattle.lock_free.specs.declared.rules.View.{View}
use Rattle.lock_free.specs.declared.sizes.Sizes.{Sizes}
use Rattle.lock_free.specs.Calling.{GaveUp, MayGiveUp}
use Rattle.lock_free.specs.Loading.{IsSound}
use Rattle.lock_free.specs.Places.{epoch_word, pin_word, words_of}
use Rattle.lock_free.specs.SeatWords.{IsIdle}
use Rattle.lock_free.specs.Rules.{IsRuled, IsShown, pin_word_of}
use Rattle.lock_free.specs.Shadows.{AreShadows, HasFallen, IsHidden, IsShadow, alive, fallen, inner, itself, more, none as nobody, unpinned_only, was_ended, with_views}
use Rattle.lock_free.proofs.Assembling.{within}
use Rattle.lock_free.proofs.EndStep.{end_ruled}
use Rattle.lock_free.proofs.Hearing.{homed}
use Rattle.lock_free.proofs.PinStep.{unpin_ruled}
use Rattle.lock_free.proofs.GiveUpStep.{ends_then, gave_by, give_up_ruled}

-- what seats hold of values at home the rule doesn't say
rehomed : (sizes : Sizes) (s : Table.State Call View) → IsRuled sizes s → (homes : List (Option Call)) → IsRuled sizes (record { words = s.words; homes = homes; views = s.views })
rehomed sizes s ruled homes = record {
  kept = homed sizes s ruled.kept homes;
  epochs = ruled.epochs;
  retired = ruled.retired;
  owed = ruled.owed;
  linked = ruled.linked;
  heard = ruled.heard;
}

-- ---- one of them

module _ (sizes : Sizes) (s : Table.State Call View) (ruled : IsRuled sizes s) (id : ℕ) (w : View) (at : get_elem? s.views id ≡ some w) (h : IsHidden w) where
  abbrev Fell : Type 0
  Fell = (after : View) × HasFallen w after × IsRuled sizes (with_views s (set s.views id after))

  -- its word says nothing of its pin
  pub hidden_word : (v : View) → v.pin ≡ w.pin → slice_index s.words (pin_word v.actor) ≡ pin_word_of v.pin → slice_index s.words (pin_word v.actor) ≡ 0
  hidden_word v same is = is ∙ ap pin_word_of (same ∙ h.is) ∙ ap (λ b. if b then pin_code h.pinned.pin else 0) h.hidden

  -- it runs nothing
  idle_falls : IsIdle w → Fell
  idle_falls idle =
      let (after, a, stays, valid, next, told) = unpin_ruled sizes 0 id (w, []) h.seats idle s ruled at in
      let words_same = ap (set s.words (pin_word w.actor)) (sym (hidden_word w refl (ruled.kept.seats id w at).pinned)) ∙ set-get_or s.words (pin_word w.actor) 0 in (
        after,
        unpinned_only idle h.plain (ap (λ (x : Me Call View). x.0) told),
        rehomed sizes (record { words = s.words; homes = homes_after s.homes [] a; views = set s.views id after })
            (subst (λ ws. IsRuled sizes (record { words = ws; homes = homes_after s.homes [] a; views = set s.views id after })) words_same next) s.homes,
      )

  module _ (may : MayGiveUp w) (at_then : View) (plain : at_then.glance ≡ w.glance) (gave : GaveUp w may.0 may.1 at_then) (first : IsRuled sizes (with_views s (set s.views id at_then))) where
    here_then : get_elem? (set s.views id at_then) id ≡ some at_then
    here_then = set_here s.views id at_then (within s.views id w at)

    sizes_same : at_then.sizes ≡ w.sizes
    sizes_same = ap (λ (x : View). x.sizes) gave.after_is

    no_word : slice_index s.words (pin_word at_then.actor) ≡ 0
    no_word = hidden_word at_then (ap (λ (x : View). x.pin) gave.after_is) (first.kept.seats id at_then here_then).pinned

    ends : Fell
    ends =
        let (after, b, stays, valid, next, told) = end_ruled sizes 0 id (at_then, []) (subst (λ (z : Sizes). 1 ≤ z.seats) (sym sizes_same) h.seats)
        (may.1, ends_then w at_then may.0 may.1 gave) (with_views s (set s.views id at_then)) first here_then in
        let words_same = ap (set s.words (pin_word at_then.actor)) (sym no_word) ∙ set-get_or s.words (pin_word at_then.actor) 0 in (
          after,
          was_ended
              (record {
                operation = may.0;
                answer = may.1;
                ran = may.2;
                may = may.3;
                at = at_then;
                gave_up = gave;
                ended = told.0 may.1 (ends_then w at_then may.0 may.1 gave);
                sound = subst (λ z. IsSound (words_of z) after) sizes_same told.1;
                plain = stays.1 ∙ plain ∙ h.plain;
              }),
          subst (λ vs. IsRuled sizes (with_views s vs)) (set-set s.views id at_then after)
              (rehomed sizes (record { words = s.words; homes = homes_after s.homes [] b; views = set (set s.views id at_then) id after })
              (subst (λ ws. IsRuled sizes (record { words = ws; homes = homes_after s.homes [] b; views = set (set s.views id at_then) id after })) words_same next) s.homes),
        )

  -- its operation gives up, and ends
  running_falls : MayGiveUp w → Fell
  running_falls may =
      let (at_then, a, stays, valid, next, told) = give_up_ruled sizes 0 id (w, []) h.seats may s ruled at in
      let gave = gave_by w at_then may told.0 in
      let words_same = set-get_or s.words epoch_word 0 in
      let first : IsRuled sizes (with_views s (set s.views id at_then)) =
      rehomed sizes (record { words = s.words; homes = homes_after s.homes [] a; views = set s.views id at_then })
      (subst (λ ws. IsRuled sizes (record { words = ws; homes = homes_after s.homes [] a; views = set s.views id at_then })) words_same next) s.homes in
      ends may at_then stays.1 gave first

  pub falls : Fell
  falls = elim h.may [ inl idle ↦ idle_falls idle | inr may ↦ running_falls may ]

-- it isn't pinned any more
pub fallen_shown : (before after : View) → HasFallen before after → IsShown after
fallen_shown before after (unpinned_only idle plain done) p is = absurd (none-some p (sym (ap (λ (x : View). x.pin) done) ∙ is))
fallen_shown before after (was_ended fell) p is = absurd (none-some p (sym (ap (λ (x : View). x.pin) fell.ended.after_is) ∙ is))

-- ---- all of them

abbrev pub AreShown : List View → Type 0
AreShown ws = (k : ℕ) (w : View) → get_elem? ws k ≡ some w → IsShown w

first_and_rest : (w : View) (ws : List View) → IsShown w → AreShown ws → AreShown (w ∷ ws)
first_and_rest w ws shown others zero x e = subst IsShown (some-injective w x e) shown
first_and_rest w ws shown others (suc k) x e = others k x e

module _ (sizes : Sizes) (s : Table.State Call View) (count : ℕ) where
  abbrev Fallen : List View → List View → Type 0
  Fallen views done = (shadows : List View) × AreShadows (count + 1) views shadows × AreShown shadows × IsRuled sizes (with_views s (done ++ shadows))

  snoc : (done : List View) (w : View) (ws : List View) → (done ++ w ∷ []) ++ ws ≡ done ++ w ∷ ws
  snoc done w ws = append_assoc done (w ∷ []) ws

  goes_on : (v w : View) (vs done : List View) → IsShadow (count + 1) v w → IsShown w → Fallen vs (done ++ w ∷ []) → Fallen (v ∷ vs) done
  goes_on v w vs done is shown (shadows, are, others, ruled) =
      (w ∷ shadows, more v w vs shadows is are, first_and_rest w shadows shown others, subst (λ xs. IsRuled sizes (with_views s xs)) (snoc done w shadows) ruled)

  pub fall_all : (views shadows done : List View) → AreShadows count views shadows → IsRuled sizes (with_views s (done ++ shadows)) → Fallen views done
  fall_all views shadows done nobody ruled = ([], nobody, (λ k w e. absurd (some-ne-none w (sym e))), ruled)
  fall_all views shadows done (more v w vs ws (itself plain is shown) rest) ruled =
      goes_on v w vs done (itself plain is shown) (subst IsShown (sym is) shown)
      (fall_all vs ws (done ++ w ∷ []) rest (subst (λ xs. IsRuled sizes (with_views s xs)) (sym (snoc done w ws)) ruled))
  fall_all views shadows done (more v w vs ws (fallen g is spent low fell) rest) ruled =
      goes_on v w vs done (fallen g is spent (omega (arith, low)) fell) (fallen_shown (inner v g) w fell)
      (fall_all vs ws (done ++ w ∷ []) rest (subst (λ xs. IsRuled sizes (with_views s xs)) (sym (snoc done w ws)) ruled))
  fall_all views shadows done (more v w vs ws (alive g is spent known read low its hidden) rest) ruled =
      let x = falls sizes (with_views s (done ++ w ∷ ws)) ruled (length done) w (at_seam done w ws) hidden in
      let ruled_now = subst (λ xs. IsRuled sizes (with_views s xs)) (set-append_seam done w ws x.0) x.2 in
      goes_on v x.0 vs done (fallen g is spent (omega (arith, read)) (subst (λ y. HasFallen y x.0) its x.1)) (fallen_shown w x.0 x.1)
      (fall_all vs ws (done ++ x.0 ∷ []) rest (subst (λ xs. IsRuled sizes (with_views s xs)) (sym (snoc done x.0 ws)) ruled_now))
    where
      at_seam : (xs : List View) (y : View) (ys : List View) → get_elem? (xs ++ y ∷ ys) (length xs) ≡ some y
      at_seam [] y ys = refl
      at_seam (x ∷ xs) y ys = at_seam xs y ys

-- none is under way once all that can be counted were
pub shown_at_last : (count : ℕ) → count + 1 ≡ 2 ^ 64 → (views shadows : List View) → AreShadows count views shadows → AreShown shadows
shown_at_last count all views shadows nobody k w e = absurd (some-ne-none w (sym e))
shown_at_last count all views shadows (more v y vs ws is rest) zero w e = subst IsShown (some-injective y w e) (by is)
  where
    by : IsShadow count v y → IsShown y
    by (itself plain same shown) = subst IsShown (sym same) shown
    by (alive g its spent known read low same hidden) = absurd (omega (arith, all, low))
    by (fallen g its spent low fell) = fallen_shown (inner v g) y fell
shown_at_last count all views shadows (more v y vs ws is rest) (suc k) w e = shown_at_last count all vs ws rest k w e
