-- The slots of the roots that were made for an operation's own offer, which was taken back, hang.
use Rattle.std.proofs.Common.{◌≡◌, ℕ, Bool, List, [], ◌∷◌, Contains, Option, Some, None, get_or, map, refl, sym, ap, subst, ◌∙◌}
use Rattle.std.proofs.lemmas.List.Elements.{Contains-append_left, Contains-append_right, Contains-push}
use Rattle.trie_words.specs.declared.entries.Pair.{Pair}
use Rattle.machine_model.specs.Beneath.slot_arena.specs.declared.refs.Ref.{Ref}
use Rattle.machine_model.specs.Beneath.slot_arena.specs.Heaps.{refs_of_option}
use Rattle.machine_model.specs.Beneath.slot_arena.specs.Refs.{slot_of}
use Rattle.lock_free.specs.declared.accounts.Account.{Account}
use Rattle.lock_free.specs.declared.accounts.Known.{Known}
use Rattle.lock_free.specs.declared.rules.Retired.{Retired}
use Rattle.lock_free.specs.declared.rules.View.{View}
use Rattle.lock_free.specs.Accounts.{place_of}
use Rattle.lock_free.specs.CopySteps.{as_before, copied_line, HasHungRoots, HasLeftRoots}
use Rattle.lock_free.specs.GoingDown.{HasMoved}
use Rattle.lock_free.specs.Limbos.{having_retired, AreNewest, HasHung, IsLimbo, IsOfSecond}
use Rattle.lock_free.specs.Loading.{seen, IsSound, Runs, Saw}
use Rattle.lock_free.specs.Outcomes.{made_for, root_retired}
use Rattle.lock_free.specs.Passing.{Later}
use Rattle.lock_free.specs.Places.{words_of}
use Rattle.lock_free.specs.RootWords.{HasSeenNews, SaysNews}
use Rattle.lock_free.specs.Stocks.{made_of, own_nodes, IsStock, Stocked}
use Rattle.lock_free.proofs.Comings.{saw_runs}
use Rattle.lock_free.proofs.Laters.{later_both, saw_later}
use Rattle.lock_free.proofs.LastingNodes.{place_stays}
use Rattle.lock_free.proofs.StockStays.{stock_later}

-- what a seat has retired says nothing of what it has seen
aside_sound : (n : ℕ) (v : View) (xs : List Retired) → IsSound n v → IsSound n (having_retired v xs)
aside_sound n v xs s = record { size = s.size; range = s.range; bounds = s.bounds; keys = s.keys; counted = s.counted; inside = s.inside; free = λ b m free. s.free b m free }

aside_saw : (v w : View) (xs : List Retired) → Saw v w → Saw (having_retired v xs) (having_retired w xs)
aside_saw v w xs s = record {
  account = s.account;
  waited = record { waited = s.waited.waited; sound = aside_sound (words_of v.sizes) (seen v s.account) xs s.waited.sound; stays = s.waited.stays };
  after_is = ap (λ (x : View). having_retired x xs) s.after_is;
}

module _ (n : ℕ) (x : View) (sound : IsSound n x) (stock : Stocked) (slot : ℕ) (left : HasLeftRoots stock slot x) (roots : Pair) (y : View) (news : HasSeenNews x slot roots y) where
  abbrev k : Known
  k = left.its.its

  abbrev saw : Saw x y
  saw = news.0

  abbrev later : Account
  later = saw.account

  says : SaysNews x later k roots
  says = news.1 k left.its.here left.its.place

  place_same : (r : Ref) → Contains (made_for k.offer) r → place_of later r ≡ place_of x.account r
  place_same r c =
      ap (λ ns. get_or ns (slot_of r) 0) saw.waited.waited.more_names ∙ place_stays x.account.names saw.waited.waited.names (slot_of r) (left.made r c).0

  abbrev of_root : Ref → Retired
  of_root = root_retired x.account left.epoch

  first_in : Contains (made_for k.offer) k.offer.successor
  first_in = Contains-append_left (k.offer.successor ∷ []) (refs_of_option k.offer.second) k.offer.successor (Contains-push [] k.offer.successor)

  second_in : (r : Ref) → k.offer.second ≡ Some r → Contains (made_for k.offer) r
  second_in r e =
      Contains-append_right (k.offer.successor ∷ []) (refs_of_option k.offer.second) r (subst (λ o. Contains (refs_of_option o) r) (sym e) (Contains-push [] r))

  of_second : IsOfSecond y (map of_root (refs_of_option k.offer.second)) roots.high
  of_second = by k.offer.second refl
    where
      by : (o : Option Ref) → k.offer.second ≡ o → IsOfSecond y (map of_root (refs_of_option o)) roots.high
      by None e = says.alone e
      by (Some r) e =
          let its = second_in r e in
          let place : roots.high ≡ place_of x.account r = sym (says.second r e).1 ∙ place_same r its in
          ((refl, sym place, refl), λ none. (left.made r its).1 (sym place ∙ none))

  stock_then : IsStock stock (having_retired y left.rest)
  stock_then =
      let before = having_retired x left.rest in
      let saw_aside = aside_saw x y left.rest saw in
      let sound_aside = aside_sound n x left.rest sound in
      stock_later n before (having_retired y left.rest) sound_aside left.operation left.runs stock left.holds (saw_later n before sound_aside (having_retired y left.rest) saw_aside) left.operation
      (saw_runs before (having_retired y left.rest) saw_aside left.operation left.runs) refl

  pub are_newest : AreNewest stock.limbo y roots
  are_newest = record {
    rest = left.rest;
    first = of_root k.offer.successor;
    second = map of_root (refs_of_option k.offer.second);
    is = ap (λ (v : View). v.retired) saw.after_is ∙ left.is;
    its_first = (refl, sym (place_same k.offer.successor first_in) ∙ says.successor.1, refl);
    its_second = of_second;
    hanging = stock_then.limbo;
  }

  module _ (next : Stocked) (z : View) (hung : HasHung y z) (same : next ≡ record stock { limbo = next.limbo }) (limbo : IsLimbo next.limbo z) where
    pub stock_hung : IsStock next z
    stock_hung = record {
      sizes = ap (λ (s : Stocked). s.sizes) same ∙ stock_then.sizes ∙ sym (ap (λ (v : View). v.sizes) hung.is);
      pool = ap (λ (s : Stocked). s.pool) same ∙ stock_then.pool ∙ sym (ap (λ (v : View). v.pool) hung.is);
      made = ap (λ (s : Stocked). s.made) same
          ∙ subst (λ (v : View). stock.made ≡ map (made_of v) (own_nodes v)) (sym hung.is) stock_then.made;
      limbo = limbo;
    }

-- ---- a copy whose offer was taken back

module _ (n : ℕ) (before x : View) (sound : IsSound n x) (carried : Bool) (moved : HasMoved (copied_line carried) before (as_before before x)) (z : View) (h : HasHungRoots x z) where
  abbrev at_x : View
  at_x = as_before before x

  abbrev at_y : View
  at_y = as_before before h.at

  sound_x : IsSound n at_x
  sound_x = record { size = sound.size; range = sound.range; bounds = sound.bounds; keys = sound.keys; counted = sound.counted; inside = sound.inside; free = λ b m free. sound.free b m free }

  saw_as : Saw at_x at_y
  saw_as = record {
    account = h.saw.account;
    waited = record {
      waited = h.saw.waited.waited;
      sound =
          (let s = h.saw.waited.sound in
          record { size = s.size; range = s.range; bounds = s.bounds; keys = s.keys; counted = s.counted; inside = s.inside; free = λ b m free. s.free b m free });
      stays = h.saw.waited.stays;
    };
    after_is = ap (as_before before) h.saw.after_is;
  }

  z_is : at_y ≡ as_before before z
  z_is = sym (ap (as_before before) h.hung.is)

  pub moved_hung : HasMoved (copied_line carried) before (as_before before z)
  moved_hung = record {
    later = subst (Later before) z_is (later_both before at_x at_y moved.later (saw_later n at_x sound_x at_y saw_as));
    comes = λ o r. subst (λ (v : View). Runs v (record o { line = copied_line carried o })) z_is (saw_runs at_x at_y saw_as (record o { line = copied_line carried o }) (moved.comes o r));
  }
