-- A slot hangs that was retired, where the seat may have retired more since.
use Rattle.std.proofs.Common.{◌≡◌, ◌≢◌, ◌++◌, ℕ, List, [], ◌∷◌, Contains, Option, refl, sym, ap, subst, ◌∙◌, append-nil, append_assoc, arith, Some, ◌^◌, ◌<◌, ◌≤◌}
use Rattle.std.proofs.lemmas.List.{map-append}
use Rattle.std.proofs.lemmas.List.Elements.{Contains-append_left, Contains-push}
use Rattle.trie_words.specs.declared.entries.Pair.{Pair}
use Rattle.lock_free.specs.declared.limbo.Chains.{Chains}
use Rattle.lock_free.specs.declared.limbo.Limbo.{Limbo}
use Rattle.lock_free.specs.declared.reclaiming.Kind.{Kind}
use Rattle.lock_free.specs.declared.reclaiming.Kind.TheVariants as kinds
use Rattle.lock_free.specs.declared.rules.Retired.{Retired}
use Rattle.lock_free.specs.declared.rules.View.{View}
use Rattle.lock_free.specs.declared.sizes.Sizes.{Sizes}
use Rattle.lock_free.specs.Cells.{loose_link}
use Rattle.lock_free.specs.Epochs.{knowing, AreItsSlots}
use Rattle.lock_free.specs.Limbos.{chains_of, having_retired, link_to, names, with_chains, AreHung, AreNewest, Hangs, HasHung, IsLimbo, IsNewest, IsNext, IsOfSecond}
use Rattle.lock_free.specs.Linking.{linking, HasRetiredSlot}
use Rattle.lock_free.specs.Places.{count_word, words_of, IsSlot}
use Rattle.lock_free.specs.Reclaiming.{kind_of}
use Rattle.lock_free.specs.Rules.{Once}
use Rattle.lock_free.proofs.Geometry.{slot_end}
use Rattle.lock_free.proofs.Pools.{first_there}
use Rattle.lock_free.proofs.Hung.{hung_by, its_slot, its_small}

once_first : (xs ys : List ℕ) → Once (xs ++ ys) → Once xs
once_first [] ys h = tt
once_first (x ∷ xs) ys h = ((λ c. h.0 (Contains-append_left xs ys x c)), once_first xs ys h.1)

module _ (limbo : Limbo) (v : View) (what : Kind) (class name : ℕ) (h : IsNext limbo v what class name) (epoch known : ℕ) (facts : AreItsSlots v epoch) where
  abbrev at_first : View
  at_first = having_retired v h.now

  there : (x : Retired) → Contains h.now x → Contains v.retired x
  there x c = subst (λ xs. Contains xs x) (sym h.all) (Contains-append_left h.now h.later x c)

  first_facts : AreItsSlots at_first epoch
  first_facts = record {
    stamps = λ x c. facts.stamps x (there x c);
    slots = λ x c. facts.slots x (there x c);
    once = once_first (names h.now) (names h.later) (subst Once (ap names h.all ∙ map-append (λ (y : Retired). y.name) h.now h.later) facts.once);
  }

  pub next_held : HasRetiredSlot v class name
  next_held = (h.newest.item, there h.newest.item (subst (λ xs. Contains xs h.newest.item) (sym h.newest.is) (Contains-push h.newest.rest h.newest.item)), h.newest.its_class, h.newest.its_name)

  pub next_small : class < 3
  next_small = its_small limbo at_first what class name h.newest epoch known first_facts

  pub next_slot : IsSlot v.sizes class name
  next_slot = its_slot limbo at_first what class name h.newest epoch known first_facts

  -- what hangs already is no link that says of a slot that it is loose
  pub next_low : words_of v.sizes ≤ 2 ^ 28 → (first : Option ℕ) → first ≡ (chains_of limbo what class).young.first → link_to first < loose_link
  next_low range first is = subst (λ f. link_to f < loose_link) (sym is) (by hung.young (chains_of limbo what class).young.first hung.is_young.hangs held)
    where
      hung : AreHung (having_retired v h.newest.rest) what class (chains_of limbo what class)
      hung = h.newest.hanging.hung what class next_small

      held : (x : Retired) → Contains hung.young x → (x.class < 3) × IsSlot v.sizes x.class x.name
      held x c = h.newest.hanging.slots x (hung.held x (Contains-append_left hung.young hung.aged x c)).0

      by : (items : List Retired) (found : Option ℕ) → Hangs v.sizes v.links found items → ((x : Retired) → Contains items x → (x.class < 3) × IsSlot v.sizes x.class x.name) →
          link_to found < loose_link
      by [] found none each = subst (λ f. link_to f < loose_link) (sym none) (omega arith)
      by (x ∷ rest) found hangs each =
          let at = each x (first_there x rest) in
          let end = slot_end v.sizes x.class x.name at.0 at.1 in subst (λ f. link_to f < loose_link) (sym hangs.0) (omega (arith, end, range))

  pub hung_next : (sizes : Sizes) → v.sizes ≡ sizes → (a b w : View) → a ≡ knowing v epoch → b ≡ linking a (count_word sizes class name) known → (found : Chains) → found ≡ chains_of limbo what class →
      (link : ℕ) → link ≡ link_to found.young.first → w ≡ linking b (count_word sizes class name) link → (after : Limbo) →
      after ≡ with_chains limbo what class (record { young = record { first = Some name; stamp = epoch }; aged = found.aged }) → IsLimbo (record after { seen = epoch }) (having_retired w h.now)
  hung_next sizes same a b w first second found its_chains link is third after after_is =
      hung_by limbo at_first what class name h.newest epoch known first_facts sizes same (having_retired a h.now) (having_retired b h.now) (having_retired w h.now)
      (ap (λ (x : View). having_retired x h.now) first) (ap (λ (x : View). having_retired x h.now) second) found its_chains link is (ap (λ (x : View). having_retired x h.now) third) after after_is

-- ---- the last one

abbrev pub last_next : (limbo : Limbo) (v : View) (what : Kind) (class name : ℕ) → IsNewest limbo v what class name → IsNext limbo v what class name
last_next limbo v what class name h = record { now = v.retired; later = []; all = sym (append-nil v.retired); newest = h }

retired_still : (v w : View) → HasHung v w → w.retired ≡ v.retired
retired_still v w h = ap (λ (x : View). x.retired) h.is

pub last_hung : (limbo : Limbo) (v w : View) → HasHung v w → IsLimbo limbo (having_retired w v.retired) → IsLimbo limbo w
last_hung limbo v w hung h = subst (λ xs. IsLimbo limbo (having_retired w xs)) (sym (retired_still v w hung)) h

-- ---- roots, one or two of them

module _ (limbo : Limbo) (v : View) (roots : Pair) (h : AreNewest limbo v roots) where
  abbrev pub first_next : IsNext limbo v kinds.Replaced 0 roots.low
  first_next = record {
    now = h.rest ++ h.first ∷ [];
    later = h.second;
    all = h.is ∙ sym (append_assoc h.rest (h.first ∷ []) h.second);
    newest = record { item = h.first; its_class = h.its_first.0; its_name = h.its_first.1; its_kind = h.its_first.2; rest = h.rest; is = refl; hanging = h.hanging };
  }

  module _ (limbo_then : Limbo) (w : View) (hung : HasHung v w) (first_hung : IsLimbo limbo_then (having_retired w (h.rest ++ h.first ∷ []))) where
    retired_is : w.retired ≡ h.rest ++ h.first ∷ h.second
    retired_is = retired_still v w hung ∙ h.is

    -- there is one
    pub one_hung : roots.high ≡ 0 → IsLimbo limbo_then w
    one_hung without = by h.second refl h.its_second
      where
        by : (xs : List Retired) → h.second ≡ xs → IsOfSecond v xs roots.high → IsLimbo limbo_then w
        by [] e is = subst (λ xs. IsLimbo limbo_then (having_retired w xs)) (sym (retired_is ∙ ap (λ xs. h.rest ++ h.first ∷ xs) e)) first_hung
        by (x ∷ []) e is = absurd (is.1 without)
        by (x ∷ y ∷ xs) e is = absurd is

    -- there are two
    pub second_newest : roots.high ≢ 0 → IsNewest limbo_then w kinds.Replaced 0 roots.high
    second_newest others = by h.second refl h.its_second
      where
        sizes_same : w.sizes ≡ v.sizes
        sizes_same = ap (λ (y : View). y.sizes) hung.is

        by : (xs : List Retired) → h.second ≡ xs → IsOfSecond v xs roots.high → IsNewest limbo_then w kinds.Replaced 0 roots.high
        by [] e is = absurd (others is)
        by (x ∷ []) e is = record {
          item = x;
          its_class = is.0.0;
          its_name = is.0.1;
          its_kind = ap (λ z. kind_of z x) sizes_same ∙ is.0.2;
          rest = h.rest ++ h.first ∷ [];
          is = retired_is ∙ ap (λ xs. h.rest ++ h.first ∷ xs) e ∙ sym (append_assoc h.rest (h.first ∷ []) (x ∷ []));
          hanging = first_hung;
        }
        by (x ∷ y ∷ xs) e is = absurd is
