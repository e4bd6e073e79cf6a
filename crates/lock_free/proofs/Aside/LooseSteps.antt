-- The accesses by which a slot that was free for a seat is loose, and by which a loose one is free for the seat that takes it up.
use Rattle.history.specs.declared.calls.Call.{Call}
use Rattle.std.proofs.Common.{◌≡◌, ◌≢◌, ◌^◌, ◌<◌, ◌≤◌, ◌==◌, ◌++◌, ◌∷◌, ℕ, inl, inr, List, [], Contains, None, Some, set, slice_index, refl, sym, ap, subst, ◌∙◌, arith}
use Rattle.std.proofs.lemmas.Bool.{cases_eq}
use Rattle.std.proofs.lemmas.List.{get_or-set_other, same_from_push}
use Rattle.std.proofs.lemmas.Option.{none-some}
use mathlib.Core.Option.{some, none}
use lib.ListN.{get_elem?}
use prog.Atomic.{either}
use Rattle.atomic_table.specs.Table.{Me, Allows, step}
use Rattle.atomic_table.specs.Table as Table
use Rattle.atomic_table.proofs.Lists.{at_set, set_again}
use Rattle.lock_free.specs.declared.rules.Pool.{Pool}
use Rattle.lock_free.specs.declared.rules.Retired.{Retired}
use Rattle.lock_free.specs.declared.rules.View.{View}
use Rattle.lock_free.specs.declared.sizes.Sizes.{Sizes}
use Rattle.lock_free.specs.Cells.{loose_link, pool_of}
use Rattle.lock_free.specs.CellWords.{has_loosened, has_taken_up, having_put}
use Rattle.lock_free.specs.Counts.{references_in}
use Rattle.lock_free.specs.Links.{link_in, with_link, AreLinked, IsLinked}
use Rattle.lock_free.specs.Places.{count_word, glance_word, IsSlot}
use Rattle.lock_free.specs.Rules.{AreEpochs, AreOwed, AreRetired, IsKept, IsSpare}
use Rattle.lock_free.specs.Shadows.{IsShadowed}
use Rattle.lock_free.specs.Storing.{with_free}
use Rattle.lock_free.proofs.Aside.LooseKept.{loosen_kept, take_up_kept}
use Rattle.lock_free.proofs.Aside.PoolKept.{its_own}
use Rattle.lock_free.proofs.CountWords.{count_not_epoch, count_not_glance, count_once}
use Rattle.lock_free.proofs.EpochStays.{epoch_in, epochs_stay, stays_elsewhere, was_then}
use Rattle.lock_free.proofs.Exchanged.{words_hit, words_miss}
use Rattle.lock_free.proofs.Moments.{allowed_by}
use Rattle.lock_free.proofs.OwedStay.{owed_same}
use Rattle.lock_free.proofs.RetiredSlots.{it_stands, place_still, retired_slot, retired_small, stands_still}
use Rattle.lock_free.proofs.RetiredStay.{epoch_still, retired_then}

-- all that the rule says of these words and seats, but for whom seats have heard of
abbrev AllRuled : Sizes → Table.State Call View → Type 0
AllRuled sizes s = IsKept sizes s × AreEpochs s.words s.views × AreRetired sizes s.words s.views × AreOwed s.views × AreLinked sizes s.words s.views

abbrev with_words : Table.State Call View → List ℕ → List View → Table.State Call View
with_words s words views = record { words = words; homes = s.homes; views = views }

module _ (v : View) (s : Table.State Call View) (kept : IsKept v.sizes s) (epochs : AreEpochs s.words s.views) (retired : AreRetired v.sizes s.words s.views) (owed : AreOwed s.views)
    (linked : AreLinked v.sizes s.words s.views) (id : ℕ) (at : get_elem? s.views id ≡ some v) (class : ℕ) (small : class < 3) (name : ℕ) (slot : IsSlot v.sizes class name)
    (spare : IsSpare v.sizes kept.account kept.stands name) (x : ℕ) (pool : Pool) (drafts : List (ℕ × ℕ)) where
  abbrev word : ℕ
  word = count_word v.sizes class name

  abbrev words_then : List ℕ
  words_then = set s.words word x

  abbrev w : View
  w = record v { pool = pool; drafts = drafts }

  same_epoch : epoch_in words_then ≡ epoch_in s.words
  same_epoch = stays_elsewhere s.words word (λ n. x) (inl (count_not_epoch v.sizes word (record { class = class; small = small; name = name; slot = slot; is = refl })))

  -- nobody has retired it
  unretired : (k : ℕ) (y : View) → get_elem? s.views k ≡ some y → (z : Retired) → Contains y.retired z → count_word v.sizes z.class z.name ≢ word
  unretired k y e z c same =
      let one = count_once v.sizes z.class z.name class name (retired_small v.sizes s kept k y e z c) small (retired_slot v.sizes s kept k y e z c) slot same in
      spare.0 z.number (stands_still v.sizes s kept k y e z c).0 (it_stands v.sizes s kept k y e z c) (place_still v.sizes s kept k y e z c ∙ one.1)

  link_still : (k : ℕ) (y : View) → get_elem? s.views k ≡ some y → (d : ℕ × ℕ) → Contains y.links d → (u : View) → u.retired ≡ y.retired → IsLinked v.sizes words_then u d
  link_still k y e d has u same =
      let z = linked.linked k y e d has in
      record {
        count = z.count;
        item = z.item;
        its = subst (λ xs. Contains xs z.item) (sym same) z.its;
        word = z.word;
        is = ap link_in (get_or-set_other s.words word d.0 x 0 (λ is. unretired k y e z.item z.its (sym z.word ∙ is))) ∙ z.is;
      }

  leaves : IsKept v.sizes (with_words s words_then (set s.views id w)) → AllRuled v.sizes (with_words s words_then (set s.views id w))
  leaves then = (
    then,
    epochs_stay s.words words_then s.views (set s.views id w) same_epoch (was_then s.views id v at w (record { actor = refl; epoch = refl; passed = refl; glance = refl; pinned = λ p e. e })) epochs,
    retired_then s.views id v at w refl (λ p e. e) v.sizes s.words words_then (epoch_still s.words words_then same_epoch) retired,
    owed_same s.views id v at w refl refl refl owed,
    record {
      linked = λ k y e d has. elim (at_set s.views id k w y e) [
        | inl p ↦ subst (λ u. IsLinked v.sizes words_then u d) p.1 (link_still id v at d (subst (λ (u : View). Contains u.links d) (sym p.1) has) w refl)
        | inr p ↦ link_still k y p.1 d has y refl
      ];
    },
  )

-- ---- an exchange of the word

module _ (v : View) (s : Table.State Call View) (all : AllRuled v.sizes s) (id : ℕ) (at : get_elem? s.views id ≡ some v) (word old new : ℕ) where
  abbrev after : List ℕ
  after = set s.words word (either (slice_index s.words word == old) new (slice_index s.words word))

  hit : (w : View) → AllRuled v.sizes (with_words s (set s.words word new) (set s.views id w)) → slice_index s.words word ≡ old → AllRuled v.sizes (with_words s after (set s.views id w))
  hit w then e = subst (λ ws. AllRuled v.sizes (with_words s ws (set s.views id w))) (words_hit v s all.0 id at word old new e word refl) then

  missed : slice_index s.words word ≢ old → AllRuled v.sizes (with_words s after (set s.views id v))
  missed differs =
      subst (λ ws. AllRuled v.sizes (with_words s ws (set s.views id v))) (words_miss v s all.0 id at word old new differs)
      (subst (λ vs. AllRuled v.sizes (with_words s s.words vs)) (sym (set_again s.views id v at)) all)

-- nothing but the link is another one
module _ (count link : ℕ) (fits : link < 2 ^ 32) where
  pub same_count : references_in (with_link count link) ≡ references_in count
  same_count = omega (arith, fits)

  pub link_is : link_in (with_link count link) ≡ link
  link_is = omega (arith, fits)

module _ (sizes : Sizes) (size id : ℕ) (me : Me Call View) (some_seats : 1 ≤ me.0.sizes.seats) (class : ℕ) (small : class < 3) (name : ℕ) (slot : IsSlot me.0.sizes class name) (count link : ℕ)
    (fits : link < 2 ^ 32) where
  abbrev its : ℕ
  its = count_word me.0.sizes class name

  -- whichever slot the word is said to be of, it is that one
  one : (c n : ℕ) → c < 3 → IsSlot me.0.sizes c n → its ≡ count_word me.0.sizes c n → (class ≡ c) × (name ≡ n)
  one c n low is same = count_once me.0.sizes class name c n small low slot is same

  -- which isn't the word by which glances count
  beside : its ≢ glance_word
  beside = count_not_glance me.0.sizes its (record { class = class; small = small; name = name; slot = slot; is = refl })

  -- ---- it was free for the seat

  module _ (rest : List ℕ) (pool : pool_of me.0.pool class ≡ rest ++ name ∷ []) (unopened : class ≡ 1 → me.0.opens ≡ None) (loose : loose_link ≤ link) where
    abbrev loosens : ℕ → Me Call View → Type 0
    loosens = has_loosened (step size its count (with_link count link) none) me

    loosened : (found : ℕ) → found ≡ count → loosens found (having_put me.0 class rest, me.1)
    loosened found is = ((λ hit c n ns low its_slot same last. told c n ns (one c n low its_slot same) last), (λ differs. absurd (differs is)))
      where
        told : (c n : ℕ) (ns : List ℕ) → (class ≡ c) × (name ≡ n) → pool_of me.0.pool c ≡ ns ++ n ∷ [] → ◌≡◌ {A = Me Call View} (having_put me.0 class rest, me.1) (having_put me.0 c ns, me.1)
        told c n ns same last =
            let lists = same_from_push rest ns name n (sym pool ∙ ap (pool_of me.0.pool) same.0 ∙ last) in
            ap {B = Me Call View} (λ k. (having_put me.0 k rest, me.1)) same.0 ∙ ap {B = Me Call View} (λ ks. (having_put me.0 c ks, me.1)) lists.0

    pub loosen_allowed : Allows (IsShadowed sizes) size id me its (λ n. either (n == count) (with_link count link) n) loosens
    loosen_allowed =
        allowed_by sizes size id me its (λ n. either (n == count) (with_link count link) n) loosens some_seats
        (λ s kept epochs retired owed linked at. elim (cases_eq (slice_index s.words its) count) [
          | inl e ↦
              (let same = same_count count link fits ∙ ap references_in (sym e) in
              let then = loosen_kept me.0.sizes s kept id me.0 at class small name slot (with_link count link) same rest pool (λ handle o is. opened handle o (unopened is)) in
              let spare = ((kept.seats id me.0 at).spare class name (its_own me.0.sizes s kept id me.0 at class small rest name pool)).1 in
              let y = hit me.0 s (kept, epochs, retired, owed, linked) id at its count (with_link count link) (having_put me.0 class rest)
              (leaves me.0 s kept epochs retired owed linked id at class small name slot spare (with_link count link) (having_put me.0 class rest).pool [] then) e in
              (having_put me.0 class rest, (inl beside, refl, λ shown. shown), y.0, y.1, y.2, y.3, y.4, refl, loosened (slice_index s.words its) e))
          | inr differs ↦
              (let y = missed me.0 s (kept, epochs, retired, owed, linked) id at its count (with_link count link) differs in
              (me.0, (inl beside, refl, λ shown. shown), y.0, y.1, y.2, y.3, y.4, refl, ((λ found. absurd (differs found)), (λ other. refl))))
        ])
      where
        opened : (handle : ℕ) → me.0.opens ≡ Some handle → me.0.opens ≡ None → ⊥
        opened handle o shut = none-some handle (sym shut ∙ o)

  -- ---- it was loose

  module _ (was : loose_link ≤ link_in count) (plain : link < loose_link) where
    abbrev takes_up : ℕ → Me Call View → Type 0
    takes_up = has_taken_up (step size its count (with_link count link) none) me

    taken_up : (found : ℕ) → found ≡ count → takes_up found (with_free me.0 class name, me.1)
    taken_up found is = ((λ hit c n low its_slot same. told c n (one c n low its_slot same)), (λ differs. absurd (differs is)))
      where
        told : (c n : ℕ) → (class ≡ c) × (name ≡ n) → ◌≡◌ {A = Me Call View} (with_free me.0 class name, me.1) (with_free me.0 c n, me.1)
        told c n same = ap {B = Me Call View} (λ k. (with_free me.0 k name, me.1)) same.0 ∙ ap {B = Me Call View} (λ k. (with_free me.0 c k, me.1)) same.1

    pub take_up_allowed : Allows (IsShadowed sizes) size id me its (λ n. either (n == count) (with_link count link) n) takes_up
    take_up_allowed =
        allowed_by sizes size id me its (λ n. either (n == count) (with_link count link) n) takes_up some_seats
        (λ s kept epochs retired owed linked at. elim (cases_eq (slice_index s.words its) count) [
          | inl e ↦
              (let same = same_count count link fits ∙ ap references_in (sym e) in
              let there : loose_link ≤ link_in (slice_index s.words its) = subst (λ n. loose_link ≤ link_in n) (sym e) was in
              let then = take_up_kept me.0.sizes s kept id me.0 at class small name slot (with_link count link) same there no_more in
              let spare = (kept.cells.spare class name (inr (small, slot, there))).1 in
              let y = hit me.0 s (kept, epochs, retired, owed, linked) id at its count (with_link count link) (with_free me.0 class name)
              (leaves me.0 s kept epochs retired owed linked id at class small name slot spare (with_link count link) (with_free me.0 class name).pool me.0.drafts then) e in
              (with_free me.0 class name, (inl beside, refl, λ shown. shown), y.0, y.1, y.2, y.3, y.4, refl, taken_up (slice_index s.words its) e))
          | inr differs ↦
              (let y = missed me.0 s (kept, epochs, retired, owed, linked) id at its count (with_link count link) differs in
              (me.0, (inl beside, refl, λ shown. shown), y.0, y.1, y.2, y.3, y.4, refl, ((λ found. absurd (differs found)), (λ other. refl))))
        ])
      where
        no_more : loose_link ≤ link_in (with_link count link) → ⊥
        no_more above = let is = link_is count link fits in omega (arith, above, is, plain)
