-- What the outcome of its own offer gives to the seat of a copy: where the main node is over which it has made its roots, and that all of it is let go of.
use Rattle.std.proofs.Common.{◌≡◌, ◌≤◌, ◌++◌, ◌∷◌, [], ℕ, Bool, true, List, Contains, inl, refl, sym, ap, subst, ◌∙◌, arith}
use Rattle.std.proofs.lemmas.List.Concat.{flat_map-append}
use Rattle.std.proofs.lemmas.List.Elements.{Contains-append_left, Contains-get_or}
use Rattle.std.proofs.lemmas.Option.{same_Some}
use Rattle.trie_words.specs.declared.entries.Pair.{Pair}
use Rattle.trie_words.specs.declared.headers.Header.{Header}
use Rattle.trie_words.specs.declared.links.Link.{Link}
use Rattle.machine_model.specs.Beneath.slot_arena.specs.declared.nodes.Node.TheVariants.{Indirection}
use Rattle.machine_model.specs.Beneath.slot_arena.specs.declared.nodes.Slot.{Slot}
use Rattle.machine_model.specs.Beneath.slot_arena.specs.declared.refs.Ref.{Ref}
use Rattle.machine_model.specs.Beneath.slot_arena.specs.Heaps.{node_at}
use Rattle.machine_model.specs.declared.copying.CopyLine.TheVariants as copy
use Rattle.machine_model.specs.declared.lines.Line.TheVariants as line
use Rattle.machine_model.specs.declared.operations.Operation.{Operation}
use Rattle.machine_model.specs.declared.roots.Complete.{Complete}
use Rattle.machine_model.specs.declared.roots.CompleteLine.TheVariants as complete
use Rattle.machine_model.specs.declared.roots.Descriptor.{Descriptor}
use Rattle.machine_model.specs.Operations.{line_action}
use Rattle.machine_model.proofs.Along.{limits_along}
use Rattle.proof_claims.proofs.TakenBack.{its_line}
use Rattle.proof_memory.specs.Laws.{IsInUse}
use Rattle.proof_memory.specs.Wants.{AMain, AllHold, Is, is_indirection, is_main_node, line_wants, offer_wants}
use Rattle.proof_memory.proofs.Claims.Uses.{meets_of, safe_of}
use Rattle.proof_memory.proofs.Safety.AtEachTime.{safe_along}
use Rattle.proof_memory.proofs.Safety.AtTimes.{line_finds_in}
use Rattle.lock_free.specs.declared.accounts.Account.{Account}
use Rattle.lock_free.specs.declared.accounts.Known.{Known}
use Rattle.lock_free.specs.declared.copy_roots.CopyKind.{CopyKind}
use Rattle.lock_free.specs.declared.copy_roots.CopyKind.TheVariants as kind
use Rattle.lock_free.specs.declared.reclaiming.Kind.{Kind}
use Rattle.lock_free.specs.declared.rules.View.{View}
use Rattle.lock_free.specs.Accounts.{bounds_for, place_of}
use Rattle.lock_free.specs.Classes.{shape_class}
use Rattle.lock_free.specs.CopyGifts.{HasBelow, MayLetGo, SawEmpty, SawExpected, main_given}
use Rattle.lock_free.specs.CopySteps.{IsAtCopy}
use Rattle.lock_free.specs.Counting.{IsInSlot}
use Rattle.lock_free.specs.Counts.{how_often, without_one}
use Rattle.lock_free.specs.Live.{line_claims, refs_of_claim, refs_of_claims}
use Rattle.lock_free.specs.Loading.{now, seen, HasHeader, HasSeenIndirection, HasSeenMain, Holds, HoldsSlot, IsSound, IsUsed, Saw, SaysLink, SaysMain, Waited}
use Rattle.lock_free.specs.Making.{refs_of_offer}
use Rattle.lock_free.specs.Nodes.{class_of}
use Rattle.lock_free.specs.OfferWords.{IsAtComplete}
use Rattle.lock_free.specs.Outcomes.{IsConcluding}
use Rattle.lock_free.specs.Passing.{IsPlaced, Later}
use Rattle.lock_free.specs.Raising.{HasKept, HasReleasedAll, OwesOne}
use Rattle.lock_free.specs.RootWords.{HasSeenNews, HasSeenOlds, KnowsOffer, SaysNews}
use Rattle.lock_free.proofs.ClaimsThere.{often_has}
use Rattle.lock_free.proofs.CountsStay.{often_first, often_less}
use Rattle.lock_free.proofs.Comings.{saw_runs}
use Rattle.lock_free.proofs.EntryRaises.{kept_both, kept_owed, one_less_of, one_more_of}
use Rattle.lock_free.proofs.GivenBack.{node_is}
use Rattle.lock_free.proofs.Laters.{saw_later, waited_later}
use Rattle.lock_free.proofs.MainClasses.{header_class}
use Rattle.lock_free.proofs.OffersLater.{settled_later, met_later}
use Rattle.lock_free.proofs.OfferRefs.{refs_at_hand}
use Rattle.lock_free.proofs.OneStep.Found.{slot_at}
use Rattle.lock_free.proofs.OnLines.{line_is}
use Rattle.lock_free.proofs.Waiting.{saw_both}

-- ---- the operation is at the last step of the COMPLETE of its own offer

-- it is so where it has seen more
module _ (n : ℕ) (v : View) (sound : IsSound n v) (slot : ℕ) (expected : Bool) (at : IsAtComplete v slot expected) where
  complete_seen : (account : Account) → Waited v account → IsAtComplete (seen v account) slot expected
  complete_seen account waited =
      let there = waited.stays at.acts.operation at.acts.runs in
      let later = waited_later n v sound account waited in
      record {
        its = at.its;
        main = at.main;
        here = met_later v (seen v account) later at.its at.here;
        place = at.place;
        acts = record { operation = record at.acts.operation { is_marked = there.0 }; runs = there.1; acts = there.2 ∙ at.acts.acts };
        on = at.on;
        test = λ none. at.test (λ m settled. none m (settled_later v (seen v account) later at.its m settled));
      }

  pub complete_saw : (w : View) → Saw v w → IsAtComplete w slot expected
  complete_saw w s = subst (λ x. IsAtComplete x slot expected) (sym s.after_is) (complete_seen s.account s.waited)

module _ (n : ℕ) (v : View) (sound : IsSound n v) (slot : ℕ) (expected : Bool) (g : IsConcluding v slot expected) where
  abbrev pub its : Known
  its = g.at.its

  abbrev pub offer : Descriptor
  offer = g.at.its.offer

  abbrev pub last_line : Complete
  last_line = record { offer = g.at.its.offer; line = complete.Swap g.at.main }

  abbrev o : Operation
  o = g.at.acts.operation

  on_line : o.line ≡ line.Copy (copy.Complete last_line)
  on_line =
      let same = its_line g.completing offer g.at.main (ap (line_action (now v) o) (sym g.own) ∙ g.at.acts.acts) in
      g.own ∙ ap (λ d. line.Copy (copy.Complete (record { offer = d; line = g.completing.line }))) same.0 ∙ ap (λ l. line.Copy (copy.Complete (record { offer = offer; line = l }))) same.1

  pub at_last : IsAtCopy v (copy.Complete last_line)
  at_last = (o, (o.is_marked, g.at.acts.runs), on_line)

  pub one_offer : (c : Complete) → IsAtCopy v (copy.Complete c) → c.offer ≡ offer
  one_offer c at =
      let same : line.Copy (copy.Complete c) ≡ line.Copy (copy.Complete last_line) = sym (line_is v (line.Copy (copy.Complete c)) at o (o.is_marked, g.at.acts.runs)) ∙ on_line in
      let one : c ≡ last_line = cc same in ap (λ (z : Complete). z.offer) one

  -- it has what the offer names at hand
  pub holds : (r : Ref) → Contains (refs_of_offer g.at.its.offer) r → Holds v r
  holds r has = (
    o,
    g.at.acts.runs,
    inl (Contains-append_left (refs_of_claims (line_claims (now v) o)) o.private r
        (subst (λ l. Contains (refs_of_claims (line_wants (now v).limits.hash o.call o.access l)) r) (sym on_line)
        (subst (λ xs. Contains xs r) (sym (flat_map-append refs_of_claim (offer_wants offer) (Is g.at.main AMain ∷ [])))
        (Contains-append_left (refs_of_claims (offer_wants offer)) (refs_of_claims (Is g.at.main AMain ∷ [])) r (subst (λ xs. Contains xs r) (sym (refs_at_hand offer)) has))))),
  )

  finds : AllHold (IsInUse (now v).heap) (now v).heap (offer_wants offer ++ Is g.at.main AMain ∷ [])
  finds =
      let limits = bounds_for v.sizes v.account.steps in
      subst (λ l. AllHold (IsInUse (now v).heap) (now v).heap (line_wants limits.hash o.call o.access l)) on_line
      (line_finds_in (now v) (safe_along limits sound.bounds v.account.steps) limits (limits_along limits v.account.steps) v.actor o g.at.acts.runs)

  pub expected_used : IsInUse (now v).heap g.at.its.offer.expected
  expected_used = safe_of finds.1.0

  pub root_link : is_indirection (node_at (now v).heap g.at.its.offer.root) ≡ true
  root_link = meets_of finds.0

  pub successor_link : IsInUse (now v).heap g.at.its.offer.successor × (is_indirection (node_at (now v).heap g.at.its.offer.successor) ≡ true)
  successor_link = (safe_of finds.1.1.0, meets_of finds.1.1.0)

  pub expected_main : is_main_node (node_at (now v).heap g.at.its.offer.expected) ≡ true
  expected_main = meets_of finds.1.0

  -- and has so where it has seen more
  module _ (w : View) (s : Saw v w) where
    pub concluding_saw : IsConcluding w slot expected
    unfolding complete_seen
    concluding_saw = subst (λ x. IsConcluding x slot expected) (sym s.after_is) (record {
      at = complete_seen n v sound slot expected g.at s.account s.waited;
      completing = g.completing;
      own = g.own;
      its_try = record { its = g.its_try.its; now = g.its_try.now };
    })

-- ---- it looks where the main node is

module _ (n : ℕ) (v : View) (sound : IsSound n v) (slot : ℕ) (known : KnowsOffer v slot) (expected : Bool) (g : IsConcluding v slot expected) (u : View) (sound_u : IsSound n u) (pair : Pair) where
  -- what it knows of the offer it knows still
  module _ (s : Saw v u) where
    at_u : IsConcluding u slot expected
    at_u = concluding_saw n v sound slot expected g u s

    same_offer : offer n v sound slot expected g ≡ offer n u sound_u slot expected at_u
    same_offer =
        let l = last_line n v sound slot expected g in
        let at = at_last n v sound slot expected g in
        one_offer n u sound_u slot expected at_u l (at.0, saw_runs v u s at.0 at.1, at.2)

    pub holds_then : (r : Ref) → Contains (refs_of_offer g.at.its.offer) r → Holds u r
    holds_then r has = holds n u sound_u slot expected at_u r (subst (λ d. Contains (refs_of_offer d) r) same_offer has)

  -- ---- the expected one

  module _ (olds : HasSeenOlds v slot pair u) where
    abbrev old : Ref
    old = g.at.its.offer.expected

    place_u : place_of u.account old ≡ pair.high
    place_u = ap (λ (x : View). place_of x.account old) olds.0.after_is ∙ sym (olds.1 g.at.its g.at.here g.at.place).expected

    pub holds_expected : HoldsSlot u pair.high
    holds_expected = (old, holds_then olds.0 old (Contains-get_or (refs_of_offer g.at.its.offer) 1 old (omega arith)), place_u)

    module _ (w : View) (sound_w : IsSound n w) (header : Header) (seen_it : HasSeenMain u pair.high header w) where
      both : Saw v w
      both = saw_both v u olds.0 w seen_it.0

      at_w : IsConcluding w slot expected
      at_w = concluding_saw n v sound slot expected g w both

      same_w : offer n v sound slot expected g ≡ offer n w sound_w slot expected at_w
      same_w =
          let l = last_line n v sound slot expected g in
          let at = at_last n v sound slot expected g in
          one_offer n w sound_w slot expected at_w l (at.0, saw_runs v w both at.0 at.1, at.2)

      used_w : IsInUse (now w).heap old
      used_w = subst (λ (d : Descriptor). IsInUse (now w).heap d.expected) (sym same_w) (expected_used n w sound_w slot expected at_w)

      main_w : is_main_node (node_at (now w).heap old) ≡ true
      main_w = subst (λ (d : Descriptor). is_main_node (node_at (now w).heap d.expected) ≡ true) (sym same_w) (expected_main n w sound_w slot expected at_w)

      is_used : IsUsed w old used_w.0
      is_used = slot_at (now w).heap old used_w.0 used_w.1

      says : HasHeader w.account (now w) old header
      unfolding holds_expected
      says =
          subst (λ (x : View). SaysMain x.account (now x) old header) (sym seen_it.0.after_is) (seen_it.1 old holds_expected.1 place_u) used_w.0 is_used
          (ap is_main_node (sym (node_is (now w) old used_w.0 is_used)) ∙ main_w)

      later_w : Later u w
      later_w = saw_later n u sound_u w seen_it.0

      place_w : place_of w.account old ≡ pair.high
      place_w =
          let used_u = subst (λ (d : Descriptor). IsInUse (now u).heap d.expected) (sym (same_offer olds.0)) (expected_used n u sound_u slot expected (at_u olds.0)) in
          later_w.places old used_u.0 (slot_at (now u).heap old used_u.0 used_u.1) ∙ place_u

      pub saw_expected : (class : ℕ) → class ≡ shape_class header.shape → SawExpected v (record { class = class; slot = pair.high }) w
      saw_expected class is = record {
        saw = both;
        there = λ c at.
            subst (λ (d : Descriptor). IsInSlot w d.expected class pair.high) (sym (one_offer n v sound slot expected g c at))
            (record {
              slot = used_w.0;
              used = is_used;
              class_is = ap class_of (sym (node_is (now w) old used_w.0 is_used)) ∙ header_class n w sound_w old w.account header says ∙ sym is;
              place = place_w;
            });
        is_main = λ c at. subst (λ (d : Descriptor). is_main_node (node_at (now w).heap d.expected) ≡ true) (sym (one_offer n v sound slot expected g c at)) main_w;
      }

  -- ---- the one over which a clear has made its root

  module _ (news : HasSeenNews v slot pair u) where
    abbrev fresh : Ref
    fresh = g.at.its.offer.successor

    said : SaysNews v news.0.account g.at.its pair
    said = news.1 g.at.its g.at.here g.at.place

    place_fresh : place_of u.account fresh ≡ pair.low
    place_fresh = (subst (λ x. IsPlaced x fresh pair.low) (sym news.0.after_is) said.successor).1

    pub holds_fresh : HoldsSlot u pair.low
    holds_fresh = (fresh, holds_then news.0 fresh (Contains-get_or (refs_of_offer g.at.its.offer) 2 fresh (omega arith)), place_fresh)

    module _ (w : View) (link : Link) (seen_it : HasSeenIndirection u pair.low link w) where
      says_it : SaysLink w.account (now w) fresh link
      unfolding holds_fresh
      says_it = subst (λ (x : View). SaysLink x.account (now x) fresh link) (sym seen_it.0.after_is) (seen_it.1 fresh holds_fresh.1 place_fresh)

      below_it : HasBelow w fresh link.main.slot
      below_it stored generation main used node =
          let h = says_it stored generation main used node in
          let one = same_Some h.slot stored (sym h.stores ∙ used) in
          let mains : Indirection link.generation h.main ≡ Indirection generation main = sym h.is_link ∙ ap (λ (x : Slot). x.node) one ∙ node in
          let same : h.main ≡ main = cc mains in
          subst (λ m. IsPlaced w m link.main.slot) same (h.used, h.place)

      pub saw_empty : SawEmpty v (record { class = 0; slot = link.main.slot }) w
      saw_empty = record {
        saw = saw_both v u news.0 w seen_it.0;
        class = refl;
        below = λ c at. subst (λ (d : Descriptor). HasBelow w d.successor link.main.slot) (sym (one_offer n v sound slot expected g c at)) below_it;
      }

-- ---- it is let go of

module _ (v : View) (k : Ref) (what : Kind) (class name : ℕ) where
  pub owes_first : (given : List Ref) → MayLetGo v k what class name given → 1 ≤ how_often k given → OwesOne v k what class name
  owes_first given m some = ((often_has k v.owed (let all = m.held k in omega (arith, all, some)), m.there, m.shared), m.its_kind)

  pub may_by : (given : CopyKind → Ref → List Ref) (which is : CopyKind) → which ≡ is → MayLetGo v k what class name (given which k) → MayLetGo v k what class name (given is k)
  may_by given which is e m = subst (λ w. MayLetGo v k what class name (given w k)) e m

  pub one_some : 1 ≤ how_often k (k ∷ [])
  one_some = let e = often_first k [] in omega (arith, e)

  pub two_some : 2 ≤ how_often k (k ∷ k ∷ [])
  two_some = let e = often_first k (k ∷ []) in let f = often_first k [] in omega (arith, e, f)

  module _ (has : Contains v.owed k) (w : View) (kept : HasKept v (without_one k v.owed) w) where
    left_is : w.owed ≡ without_one k v.owed
    left_is = kept_owed v (without_one k v.owed) w kept

    pub one_gone : HasReleasedAll v (k ∷ []) w
    one_gone = record { kept = subst (λ o. HasKept v o w) (sym left_is) kept; all = λ j. one_less_of j k v.owed w.owed left_is has }

    -- there is another one
    pub owes_second : MayLetGo v k what class name (k ∷ k ∷ []) → OwesOne w k what class name
    owes_second m =
        subst (λ u. OwesOne u k what class name) (sym kept.is) (
          (
            often_has k (without_one k v.owed) (let all = m.held k in let less = often_less k v.owed has in let two = two_some in omega (arith, all, less, two)),
            record { slot = m.there.slot; used = m.there.used; class_is = m.there.class_is; place = m.there.place },
            m.shared,
          ),
          m.its_kind,
        )

    pub both_gone : Contains w.owed k → (u : View) → HasKept w (without_one k w.owed) u → HasReleasedAll v (k ∷ k ∷ []) u
    both_gone also u more =
        let last = kept_owed w (without_one k w.owed) u more in
        record {
          kept = subst (λ o. HasKept v o u) (sym last) (kept_both v w u (without_one k v.owed) (without_one k w.owed) kept more);
          all = λ j.
              (let first = one_less_of j k v.owed w.owed left_is has in
              let second = one_less_of j k w.owed u.owed last also in
              let all = one_more_of j k (k ∷ []) (k ∷ k ∷ []) refl in omega (arith, first, second, all));
        }

pub main_some : (which : CopyKind) (k : Ref) → 1 ≤ how_often k (main_given which k)
main_some kind.Clear k = let e = often_first k [] in omega (arith, e)
main_some kind.Snapshot k = let e = often_first k (k ∷ []) in omega (arith, e)
main_some kind.Freeze k = let e = often_first k [] in omega (arith, e)
