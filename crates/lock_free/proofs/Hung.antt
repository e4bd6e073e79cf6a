-- The slot that a seat has just retired hangs in the young chain of its kind and class.
use Rattle.std.proofs.Common.{◌≡◌, ◌≢◌, ◌⊎◌, ◌<◌, ◌++◌, inl, inr, ℕ, List, [], ◌∷◌, Contains, Some, sym, ap, subst, ◌∙◌, arith}
use Rattle.std.proofs.lemmas.List.{map-append}
use Rattle.std.proofs.lemmas.List.Elements.{Contains-append_left, Contains-append_right, Contains-append_cases, Contains-push}
use Rattle.lock_free.specs.declared.limbo.Chains.{Chains}
use Rattle.lock_free.specs.declared.limbo.Limbo.{Limbo}
use Rattle.lock_free.specs.declared.reclaiming.Kind.{Kind}
use Rattle.lock_free.specs.declared.rules.Retired.{Retired}
use Rattle.lock_free.specs.declared.rules.View.{View}
use Rattle.lock_free.specs.declared.sizes.Sizes.{Sizes}
use Rattle.lock_free.specs.Epochs.{knowing, AreItsSlots}
use Rattle.lock_free.specs.Linking.{linking}
use Rattle.lock_free.specs.Limbos.{chains_of, having_retired, link_to, names, with_chains, AreHung, IsChain, IsLimbo, IsNewest}
use Rattle.lock_free.specs.Making.{others_than, with_draft}
use Rattle.lock_free.specs.Places.{count_word, IsSlot}
use Rattle.lock_free.specs.Reclaiming.{kind_of}
use Rattle.lock_free.specs.Rules.{Once, none_checked}
use Rattle.lock_free.proofs.CountWords.{count_once}
use Rattle.lock_free.proofs.Drafts.{written_still}
use Rattle.lock_free.proofs.Hanging.{KeepsLinks, hangs_still, word_of}
use Rattle.lock_free.proofs.KindsApart.{all_hung, seen_chains}
use Rattle.lock_free.proofs.Pools.{contains_map, first_or_more, first_there, mapped, more_there, once_rest, one_there}

module _ (limbo : Limbo) (v : View) (what : Kind) (class name : ℕ) (h : IsNewest limbo v what class name) (epoch known : ℕ) (facts : AreItsSlots v epoch) where
  abbrev word : ℕ
  word = count_word v.sizes class name

  abbrev chains : Chains
  chains = chains_of limbo what class

  abbrev next : ℕ
  next = link_to chains.young.first

  abbrev pub hung : View
  hung = record v { epoch = epoch; passed = none_checked; links = with_draft (with_draft v.links word known) word next }

  abbrev chains_then : Chains
  chains_then = record { young = record { first = Some name; stamp = epoch }; aged = chains.aged }

  abbrev pub limbo_then : Limbo
  limbo_then = record (with_chains limbo what class chains_then) { seen = epoch }

  abbrev before : View
  before = having_retired v h.rest

  in_rest : (x : Retired) → Contains h.rest x → Contains v.retired x
  in_rest x c = subst (λ xs. Contains xs x) (sym h.is) (Contains-append_left h.rest (h.item ∷ []) x c)

  item_there : Contains v.retired h.item
  item_there = subst (λ xs. Contains xs h.item) (sym h.is) (Contains-push h.rest h.item)

  pub its_small : class < 3
  its_small = subst (λ n. n < 3) h.its_class (facts.slots h.item item_there).0

  pub its_slot : IsSlot v.sizes class name
  its_slot = subst (λ n. IsSlot v.sizes n name) h.its_class (subst (IsSlot v.sizes h.item.class) h.its_name (facts.slots h.item item_there).1)

  new : (x : Retired) → Contains h.rest x → x.name ≢ name
  new x c same =
      (once_rest (names h.rest) h.item.name (subst Once (ap names h.is ∙ map-append (λ (y : Retired). y.name) h.rest (h.item ∷ [])) facts.once)).1
      (subst (Contains (names h.rest)) (same ∙ sym h.its_name) (contains_map (λ (y : Retired). y.name) h.rest x c))

  keeps : (items : List Retired) → ((x : Retired) → Contains items x → Contains h.rest x) → KeepsLinks v.sizes v.links hung.links items
  keeps items held x c n has =
      let (low, its) = h.hanging.slots x (held x c) in
      let apart : word_of v.sizes x ≢ word = λ e. new x (held x c) (count_once v.sizes x.class x.name class name low its_small its its_slot e).1 in
      written_still (with_draft v.links word known) word next (word_of v.sizes x) n apart (written_still v.links word known (word_of v.sizes x) n apart has)

  old_young : (other : Kind) (b : ℕ) (small : b < 3) → IsChain hung (chains_of limbo other b).young (h.hanging.hung other b small).young
  old_young other b small =
      let o = h.hanging.hung other b small in record {
        hangs = hangs_still v.sizes v.links hung.links (chains_of limbo other b).young.first o.young (keeps o.young (λ x c. (o.held x (Contains-append_left o.young o.aged x c)).0)) o.is_young.hangs;
        stamps = o.is_young.stamps;
      }

  old_aged : (other : Kind) (b : ℕ) (small : b < 3) → IsChain hung (chains_of limbo other b).aged (h.hanging.hung other b small).aged
  old_aged other b small =
      let o = h.hanging.hung other b small in record {
        hangs = hangs_still v.sizes v.links hung.links (chains_of limbo other b).aged.first o.aged (keeps o.aged (λ x c. (o.held x (Contains-append_right o.young o.aged x c)).0)) o.is_aged.hangs;
        stamps = o.is_aged.stamps;
      }

  old_or_new : (x : Retired) → Contains v.retired x → Contains h.rest x ⊎ (x ≡ h.item)
  old_or_new x c = elim (Contains-append_cases h.rest (h.item ∷ []) x (subst (λ xs. Contains xs x) h.is c)) [
    | inl old ↦ inl old
    | inr last ↦ inr (one_there h.item x last)
  ]

  -- ---- those of other kinds and classes

  of_other : (other : Kind) (b : ℕ) → b < 3 → ¬ ((other ≡ what) × (b ≡ class)) → AreHung hung other b (chains_of limbo other b)
  of_other other b small differs =
      let o = h.hanging.hung other b small in record {
        young = o.young;
        aged = o.aged;
        is_young = old_young other b small;
        is_aged = old_aged other b small;
        once = o.once;
        held = λ x c. (in_rest x (o.held x c).0, (o.held x c).1, (o.held x c).2);
        all = λ x c is in_it. elim (old_or_new x c) [
          | inl old ↦ o.all x old is in_it
          | inr same ↦ absurd (differs (sym is ∙ ap (kind_of v.sizes) same ∙ h.its_kind, sym in_it ∙ ap (λ (y : Retired). y.class) same ∙ h.its_class))
        ];
      }

  -- ---- those of its kind and class

  abbrev its : AreHung before what class chains
  its = h.hanging.hung what class its_small

  abbrev others : List Retired
  others = its.young ++ its.aged

  its_link : Contains hung.links (word_of v.sizes h.item, next)
  its_link =
      subst (λ n. Contains hung.links (n, next)) (ap (λ c. count_word v.sizes c name) (sym h.its_class) ∙ ap (count_word v.sizes h.item.class) (sym h.its_name))
      (first_there (word, next) (others_than word (with_draft v.links word known)))

  young_then : IsChain hung chains_then.young (h.item ∷ its.young)
  young_then = record {
    hangs = (ap Some (sym h.its_name), chains.young.first, its_link, (old_young what class its_small).hangs);
    stamps = λ x c. elim (first_or_more h.item its.young x c) [
      | inl same ↦ facts.stamps x (subst (Contains v.retired) (sym same) item_there)
      | inr more ↦ facts.stamps x (in_rest x (its.held x (Contains-append_left its.young its.aged x more)).0)
    ];
  }

  of_its : AreHung hung what class chains_then
  of_its = record {
    young = h.item ∷ its.young;
    aged = its.aged;
    is_young = young_then;
    is_aged = record { hangs = (old_aged what class its_small).hangs; stamps = (old_aged what class its_small).stamps };
    once = (
      (λ c. (let (x, there, same) = mapped (λ (y : Retired). y.name) others h.item.name c in new x (its.held x there).0 (same ∙ h.its_name))),
      its.once,
    );
    held = λ x c. elim (first_or_more h.item others x c) [
      | inl same ↦ (subst (Contains v.retired) (sym same) item_there, ap (kind_of v.sizes) same ∙ h.its_kind, ap (λ (y : Retired). y.class) same ∙ h.its_class)
      | inr more ↦ (in_rest x (its.held x more).0, (its.held x more).1, (its.held x more).2)
    ];
    all = λ x c is in_it. elim (old_or_new x c) [
      | inl old ↦ more_there h.item others x (its.all x old is in_it)
      | inr same ↦ subst (Contains (h.item ∷ others)) (sym same) (first_there h.item others)
    ];
  }

  pub hung_limbo : IsLimbo limbo_then hung
  hung_limbo = record {
    hung = λ other b small. subst (AreHung hung other b) (sym (seen_chains (with_chains limbo what class chains_then) other b epoch))
        (all_hung limbo hung what class chains_then its_small of_its of_other other b small);
    once = facts.once;
    slots = facts.slots;
    seen = omega arith;
  }

  -- by the accesses
  pub hung_by : (sizes : Sizes) → v.sizes ≡ sizes → (a b w : View) → a ≡ knowing v epoch → b ≡ linking a (count_word sizes class name) known → (found : Chains) → found ≡ chains → (link : ℕ) →
      link ≡ link_to found.young.first → w ≡ linking b (count_word sizes class name) link → (after : Limbo) →
      after ≡ with_chains limbo what class (record { young = record { first = Some name; stamp = epoch }; aged = found.aged }) → IsLimbo (record after { seen = epoch }) w
  hung_by sizes same a b w first second found its_chains link is third after after_is =
      let there = count_word sizes class name in
      let limbo_is : after ≡ with_chains limbo what class chains_then =
      after_is ∙ ap (λ (c : Chains). with_chains limbo what class (record { young = record { first = Some name; stamp = epoch }; aged = c.aged })) its_chains in
      subst (λ l. IsLimbo (record l { seen = epoch }) w) (sym limbo_is)
      (subst (IsLimbo limbo_then)
      (sym (third ∙ ap (λ x. linking x there link) (second ∙ ap (λ x. linking x there known) first)
      ∙ ap (linking (linking (knowing v epoch) there known) there) (is ∙ ap (λ (c : Chains). link_to c.young.first) its_chains)
      ∙ ap (λ z. linking (linking (knowing v epoch) (count_word z class name) known) (count_word z class name) next) (sym same)))
      hung_limbo)
