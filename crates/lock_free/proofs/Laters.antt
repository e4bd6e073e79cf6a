-- What a seat knows of nodes stays so, whatever it has seen since.
use Rattle.std.proofs.Common.{◌≡◌, ◌<◌, ℕ, Bool, [], ◌∷◌, ◌++◌, Contains, get_or, length, Some, None, refl, sym, ap, subst, ◌∙◌, arith, append_assoc, append-nil}
use Rattle.std.proofs.lemmas.List.Elements.{Contains-append_right}
use Rattle.trie_words.specs.declared.headers.Header.{Header}
use Rattle.trie_words.specs.declared.links.Link.{Link}
use Rattle.trie_words.specs.declared.names.Name.{Name}
use Rattle.machine_model.specs.Beneath.slot_arena.specs.declared.refs.Ref.{Ref}
use Rattle.machine_model.specs.Beneath.slot_arena.specs.declared.nodes.Slot.{Slot}
use Rattle.machine_model.specs.Beneath.slot_arena.specs.Heaps.{generation_at}
use Rattle.machine_model.specs.Beneath.slot_arena.specs.Refs.{slot_of}
use Rattle.machine_model.specs.declared.steps.Step.TheVariants as step
use Rattle.lock_free.specs.declared.accounts.Account.{Account}
use Rattle.lock_free.specs.declared.accounts.Known.{Known}
use Rattle.lock_free.specs.declared.rules.View.{View}
use Rattle.lock_free.specs.Accounts.{bounds_for, place_of, OwnIs, IsOwn, gone_on}
use Rattle.lock_free.specs.Exchanging.{IsNamed, IsPendingOver}
use Rattle.lock_free.specs.Loading.{now, seen, IsUsed, IsSound, Waited, Went, Saw}
use Rattle.lock_free.specs.Passing.{Later, KnowsLink, IsPlaced, KnowsMain, KnowsPending}
use Rattle.machine_model.specs.Machine.{AreBounds}
use Rattle.lock_free.proofs.Asked.{in_use_made, nodes_stay, nodes_go}
use Rattle.lock_free.proofs.LastingNodes.{place_stays, owns_in_front}
use Rattle.lock_free.specs.Becoming.{Follows}
pub use Rattle.lock_free.proofs.Followings.{same_self, same_both, main_kind}
use Rattle.lock_free.proofs.Followings.{follows_later, used_on, placed_on, named_on, generation_on, link_on, main_on, pending_on}

pub later_self : (v : View) → Later v v
later_self v = record {
  is = refl;
  places = λ r slot u. refl;
  owns = λ a b c h. h;
  nodes = λ r slot u. (slot, u, same_self slot.node);
  goes_on = ([], sym (append-nil v.account.steps));
  offers = λ k c. c;
}

pub later_both : (u v w : View) → Later u v → Later v w → Later u w
later_both u v w p q = record {
  is = q.is ∙ ap (λ (x : View). seen x w.account) p.is;
  places = λ r slot used. (let x = p.nodes r slot used in q.places r x.0 x.1 ∙ p.places r slot used);
  owns = λ a b c h. q.owns a b c (p.owns a b c h);
  nodes = λ r slot used. (let x = p.nodes r slot used in let y = q.nodes r x.0 x.1 in (y.0, y.1, same_both slot.node x.0.node y.0.node x.2 y.2));
  goes_on = (p.goes_on.0 ++ q.goes_on.0, q.goes_on.1 ∙ ap (λ xs. xs ++ q.goes_on.0) p.goes_on.1 ∙ append_assoc u.account.steps p.goes_on.0 q.goes_on.0);
  offers = λ k c. q.offers k (p.offers k c);
}

-- ---- by waiting, and by a step

module _ (n : ℕ) (v : View) (sound : IsSound n v) where
  made : (k : ℕ) (slot : Slot) → get_or (now v).heap.slots k None ≡ Some slot → k < length v.account.names
  made k slot is = let low = in_use_made v.sizes v.account sound.bounds k slot is in let counted = sound.counted in omega (arith, low, counted)

  module _ (account : Account) (w : Waited v account) where
    place_then : (r : Ref) (slot : Slot) → IsUsed v r slot → place_of account r ≡ place_of v.account r
    place_then r slot is = ap (λ xs. get_or xs (slot_of r) 0) w.waited.more_names ∙ place_stays v.account.names w.waited.names (slot_of r) (made (slot_of r) slot is)

    owns_then : (a b : Ref) (c : Bool) → IsOwn v.account a b c → IsOwn account a b c
    owns_then a b c h = subst (λ xs. OwnIs xs (slot_of a) (slot_of b) c) (sym w.waited.more_owned) (owns_in_front w.waited.owned v.account.owned (slot_of a) (slot_of b) c h)

    offers_then : (k : Known) → Contains v.account.offered k → Contains account.offered k
    offers_then k c = subst (λ xs. Contains xs k) (sym w.waited.more_offers) (Contains-append_right w.waited.offers v.account.offered k c)

    pub waited_later : Later v (seen v account)
    waited_later = record {
      is = refl;
      places = place_then;
      owns = owns_then;
      nodes = λ r slot is. nodes_stay v.sizes v.actor v.account account w.waited w.sound.bounds (slot_of r) slot is;
      goes_on = (w.waited.steps, w.waited.goes_on);
      offers = offers_then;
    }

  pub saw_later : (after : View) (s : Saw v after) → Later v after
  saw_later after s = subst (λ x. Later v x) (sym s.after_is) (waited_later s.account s.waited)

  pub gone_later : (account : Account) → Waited v account → AreBounds (bounds_for v.sizes (gone_on v.actor account).steps) → Later v (seen v (gone_on v.actor account))
  gone_later account w bounds =
      let first = waited_later account w in
      record {
        is = refl;
        places = first.places;
        owns = first.owns;
        nodes = λ r slot is.
            (let x = first.nodes r slot is in
            let y = nodes_go v.sizes v.actor account bounds (slot_of r) x.0 x.1 in
            (y.0, y.1, same_both slot.node x.0.node y.0.node x.2 y.2));
        goes_on = (
          w.waited.steps ++ step.Go v.actor ∷ [],
          ap (λ xs. xs ++ step.Go v.actor ∷ []) w.waited.goes_on ∙ append_assoc v.account.steps w.waited.steps (step.Go v.actor ∷ []),
        );
        offers = first.offers;
      }

  pub went_later : (m : ℕ) (after : View) → IsSound m after → (w : Went v after) → Later v after
  went_later m after then w =
      subst (λ x. Later v x) (sym w.after_is) (gone_later w.account w.waited (subst (λ (x : View). AreBounds (bounds_for x.sizes x.account.steps)) w.after_is then.bounds))

-- ---- what is known

module _ (v w : View) (l : Later v w) where
  f : Follows v w
  f = follows_later v w l

  pub used_later : (r : Ref) → (slot : Slot) × IsUsed v r slot → (slot : Slot) × IsUsed w r slot
  used_later = used_on v w f

  pub placed_later : (r : Ref) (name : ℕ) → IsPlaced v r name → IsPlaced w r name
  placed_later = placed_on v w f

  pub named_later : (i r : Ref) (name : Name) → (slot : Slot) × IsUsed v r slot → IsNamed v i r name → IsNamed w i r name
  named_later = named_on v w f

  pub generation_later : (i : Ref) → (slot : Slot) × IsUsed v i slot → generation_at (now w).heap i ≡ generation_at (now v).heap i
  generation_later = generation_on v w f

  pub link_later : (i main : Ref) (link : Link) → KnowsLink v i main link → KnowsLink w i main link
  link_later = link_on v w f

  pub main_later : (main : Ref) (header : Header) → KnowsMain v main header → KnowsMain w main header
  main_later = main_on v w f

  pub pending_later : (i main replaced : Ref) (header : Header) → KnowsPending v i main replaced header → KnowsPending w i main replaced header
  pending_later = pending_on v w f

pub pending_over : (v : View) (i main replaced : Ref) (header : Header) → KnowsPending v i main replaced header → IsPendingOver v i main replaced header
pending_over v i main replaced header k = record { name = k.name; says = k.says; names = k.names; slot = k.main_is.slot; stores = k.main_is.used; is_shape = k.main_is.is_shape }
