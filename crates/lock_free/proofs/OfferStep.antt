-- The exchange of a handle's word that is to bring an offer to stand: it finds its root there, another one, or what is no root.
use Rattle.history.specs.declared.calls.Call.{Call}
use Rattle.std.proofs.Common.{◌≤◌, ◌≡◌, ◌≢◌, ◌<◌, ◌^◌, ◌==◌, ℕ, inl, inr, true, false, List, [], ◌∷◌, ◌++◌}
use Rattle.std.proofs.Common.{Contains, set, slice_index, Some, refl, sym, ap, subst, ◌∙◌, arith, eq-eqb, ne_eqb, if◌then◌else◌}
use Rattle.std.proofs.lemmas.Bool.{cases_eq}
use Rattle.std.proofs.lemmas.List.{same_from_push}
use Rattle.std.proofs.lemmas.List.Elements.{Contains-append_left, Contains-get_or, Contains-push}
use Rattle.std.proofs.lemmas.Option.{same_Some}
use mathlib.Core.Option.{some, none}
use lib.ListN.{get_elem?}
use prog.Atomic.{either}
use Rattle.atomic_table.specs.Table.{Me, Allows, step}
use Rattle.atomic_table.specs.Table as Table
use Rattle.trie_words.specs.Codes.{IsRootWord, root_code, root_of}
use Rattle.trie_words.specs.declared.roots.RootWord.{RootWord}
use Rattle.trie_words.specs.declared.roots.RootWord.TheVariants as word
use Rattle.history.specs.declared.calls.Access.TheVariants.{Writable}
use Rattle.machine_model.specs.Beneath.slot_arena.specs.declared.refs.Ref.{Ref}
use Rattle.machine_model.specs.Beneath.slot_arena.specs.declared.nodes.Slot.{Slot}
use Rattle.machine_model.specs.Beneath.slot_arena.specs.Refs.{slot_of}
use Rattle.machine_model.specs.declared.actions.Action.TheVariants as act
use Rattle.machine_model.specs.declared.copying.CopyLine.TheVariants as copy
use Rattle.machine_model.specs.declared.lines.Line.TheVariants as line
use Rattle.machine_model.specs.declared.operations.Operation.{Operation}
use Rattle.machine_model.specs.declared.roots.Descriptor.{Descriptor}
use Rattle.machine_model.specs.declared.roots.RootWord.TheVariants.{Plain}
use Rattle.machine_model.specs.Acting.{operation_after}
use Rattle.machine_model.specs.Calls.{handle_of}
use Rattle.machine_model.specs.Counting.{refs_of_root}
use Rattle.machine_model.specs.Operations.{action_of}
use Rattle.machine_model.specs.States.{State, root_at, word_at, word_of, handle_limit}
use Rattle.machine_model.specs.Swapping.{is_plain}
use Rattle.proof_garbage.specs.Beneath.proof_generations.proofs.Offers.Standing.{offer_line}
use Rattle.proof_memory.specs.Wants.{line_wants, offer_wants}
use Rattle.lock_free.proofs.CountWords.{handle_apart}
use Rattle.lock_free.specs.declared.accounts.Account.{Account}
use Rattle.lock_free.specs.declared.root_offers.Proposed.TheVariants.{Stands, Misses, Meets}
use Rattle.lock_free.specs.declared.rules.View.{View}
use Rattle.lock_free.specs.declared.sizes.Sizes.{Sizes}
use Rattle.lock_free.specs.Accounts.{state_of, place_of, running, HasStood}
use Rattle.lock_free.specs.Live.{refs_of_claims, at_hand, from_root, from_operation, IsLive}
use Rattle.lock_free.specs.HandleWords.{HasSeenRoot}
use Rattle.lock_free.specs.Loading.{now, seen, IsAt, IsSound, Took}
use Rattle.lock_free.specs.Making.{refs_of_offer}
use Rattle.lock_free.specs.Nodes.{class_of}
use Rattle.lock_free.specs.Offering.{DraftsOffer, Offers, offered_by, known_at}
use Rattle.lock_free.specs.Places.{root_word, words_of}
use Rattle.lock_free.specs.RootOffers.{WritesOffer, IsToOffer, HasProposed, proposed_by, has_proposed}
use Rattle.lock_free.specs.Roots.{SaysRoot, SaysPlain, open_with}
use Rattle.lock_free.specs.Shadows.{IsShadowed}
use Rattle.lock_free.specs.Rules.{AreOwed, AreRetired, Stands as StandsIn, IsSeat, IsKept, pool_of}
use Rattle.lock_free.proofs.Asked.{live_in_use, slots_tell}
use Rattle.lock_free.proofs.Exchanged.{words_then, words_hit, words_miss}
use Rattle.lock_free.proofs.Moments.{allowed_giving, seen_kept, waited_so, live_place, held_there, free_inside}
use Rattle.lock_free.proofs.Offered.{all_then}
use Rattle.lock_free.proofs.OfferRefs.{refs_at_hand, root_of_offer, drafts_moved, taken_offered}
use Rattle.lock_free.proofs.OfferHolds.{offer_kept}
use Rattle.lock_free.proofs.OfferMisses.{same_offer, ran, ran_runs, ran_acts, missed, missed_kept, owed_missed, missed_sound, has_missed}
use Rattle.lock_free.proofs.OneStep.Offering as offering
use Rattle.lock_free.proofs.RootCodes.{kind, same_kind, root_back}
use Rattle.lock_free.proofs.SeenRoots.{root_told}
use Rattle.lock_free.proofs.Spending as spending
use Rattle.lock_free.proofs.Framing.{class_small, node_end}
use Rattle.lock_free.proofs.Within.{both_inside, two_words}
use Rattle.proof_claims.specs.Changes.{change_by, change_going}
use Rattle.proof_claims.specs.Changes as claiming
use Rattle.lock_free.specs.Claims.{held_now, owes_after}
use Rattle.lock_free.specs.Counts.{how_often}
use Rattle.lock_free.proofs.OwedStay.{owed_then}
use Rattle.lock_free.proofs.EpochStays.{rest_beside}
use Rattle.lock_free.proofs.OfferHolds.{Takes, owes_so}
use Rattle.lock_free.specs.OwesAt.{owes_on}
use Rattle.lock_free.specs.Parting.{IsMet}
use Rattle.lock_free.proofs.Led.{led_pinned}
use Rattle.lock_free.specs.declared.accounts.Known.{Known}
use Rattle.lock_free.proofs.Pools.{first_there}
use Rattle.lock_free.proofs.PartingStay.{standing_stood}

module _ (v : View) (root slot : ℕ) (offer : Descriptor) (rest : List ℕ) (p : IsAt v (act.Offer offer)) (w : WritesOffer v root slot offer rest) where
  abbrev handle : ℕ
  handle = handle_of p.operation.call

  at_line : p.operation.line ≡ line.Copy (copy.Offer offer)
  at_line = offer_line (now v) p.operation p.operation.line offer p.acts

  held : (r : Ref) → Contains (refs_of_offer offer) r → Contains (at_hand (now v) p.operation) r
  held r c =
      subst (λ l. Contains (refs_of_claims (line_wants (now v).limits.hash p.operation.call p.operation.access l) ++ p.operation.private) r) (sym at_line)
      (Contains-append_left (refs_of_claims (offer_wants offer)) p.operation.private r (subst (λ rs. Contains rs r) (sym (refs_at_hand offer)) c))

  pub offer_lives : (r : Ref) → Contains (refs_of_offer offer) r → IsLive (now v) r
  offer_lives r c = from_operation v.actor p.operation r p.runs tt (held r c)

  module _ (s : Table.State Call View) (kept : IsKept v.sizes s) (id : ℕ) (at : get_elem? s.views id ≡ some v) where
    abbrev found : ℕ
    found = slice_index s.words (root_word handle)

    abbrev old : ℕ
    old = root_code (word.Writable root)

    abbrev new : ℕ
    new = root_code (word.Offered slot)

    abbrev there : Account
    there = kept.account

    abbrev state : State
    state = state_of v.sizes there

    abbrev o : Operation
    o = ran v offer p s kept id at

    runs : running v.sizes there v.actor o
    runs = ran_runs v offer p s kept id at

    acts : action_of state o ≡ act.Offer offer
    acts = ran_acts v offer p s kept id at

    seat : IsSeat v.sizes there kept.stands s.words v
    seat = kept.seats id v at

    pub low : handle < handle_limit
    low = (seat.entered handle (seat.calls o runs)).0

    lives : (r : Ref) → Contains (refs_of_offer offer) r → IsLive (now v) r × IsLive state r
    lives r c = let h = held_there v s kept id at r (p.operation, p.runs, inl (held r c)) in (h.was_live, h.lives)

    same : (r : Ref) → Contains (refs_of_offer offer) r → place_of there r ≡ place_of v.account r
    same r c = live_place v s kept id at r (lives r c).0

    drafted : DraftsOffer there v.drafts slot offer
    drafted = drafts_moved v.account there v.drafts slot offer same w.drafts

    -- ---- the root that is there

    root_place : place_of there offer.root ≡ root
    root_place = same offer.root (root_of_offer offer) ∙ w.place

    stands_so : (r : Ref) → IsLive state r → (x : Slot) × StandsIn kept.stands state (slot_of r) x
    stands_so r live = let used = live_in_use v.sizes there kept.bounds r live in (used.0, (kept.nodes.live r live, used.1))

    same_root : (q : Ref) → root_at state handle ≡ open_with Writable (Plain q) → place_of there q ≡ root → q ≡ offer.root
    same_root q plain place =
        let live : IsLive state q = from_root handle q (subst (λ r. Contains (refs_of_root r) q) (sym plain) (Contains-get_or (q ∷ []) 0 q (omega arith))) in
        let mine = (lives offer.root (root_of_offer offer)).1 in
        let a = stands_so q live in
        let b = stands_so offer.root mine in
        slots_tell v.sizes there kept.bounds q offer.root live mine (kept.nodes.apart (slot_of q) (slot_of offer.root) a.0 b.0 a.1 b.1 (place ∙ sym root_place))

    -- ---- it stands

    abbrev Left : RootWord → View → Type 0
    Left x after =
        IsKept v.sizes (record { words = words_then v s kept id at (root_word handle) old new; homes = s.homes; views = set s.views id after })
        × (IsSound (words_of v.sizes) after × HasProposed v handle slot (proposed_by root x) after) × (rest_beside after ≡ rest_beside v)
        × (AreRetired v.sizes s.words s.views → AreOwed s.views → AreOwed (set s.views id after))

    module _ (plain : root_at state handle ≡ open_with Writable (Plain offer.root)) where
      offers : Offers v.sizes there v.actor slot o offer
      offers = offering.offers v.sizes there kept.bounds v.actor o runs offer acts (standing_stood v.sizes there s.words kept.roots) plain slot

      abbrev offered : View
      offered = offered_by v slot handle rest offer there

      plain_so : is_plain (word_at state handle) offer.root ≡ true
      plain_so = ap (λ r. is_plain (word_of r) offer.root) plain ∙ eq-eqb offer.root offer.root refl

      evidence : Takes v.sizes s kept id v at o runs slot offer offers rest w.last drafted w.names
      evidence = record {
        acts = acts;
        holds =
            taken_offered offer o.private handle v.owed
            (λ k. (let all = kept.held.lines id v at o runs k in let its = ap (λ l. how_often k (owes_on o.private l)) at_line in omega (arith, all, its)));
        owes =
            ap (λ c. owes_after c (held_now v.sizes there).claims v.owed)
            (ap (change_going state (held_now v.sizes there)) runs ∙ ap (change_by state (held_now v.sizes there) o) acts ∙ ap (λ b. claiming.offers b o.private handle offer) plain_so);
      }

      offered_sound : IsSound (words_of v.sizes) offered
      offered_sound =
          let all = all_then v.sizes s kept id v at o runs slot offer offers rest w.last drafted w.names in
          record {
            size = refl;
            range = kept.range.within;
            bounds = all.bounds;
            keys = all.keys;
            counted = all.counted;
            inside = all.nodes.inside;
            free = λ b n f. free_inside v s kept id at b n (spending.was_free v.sizes s kept id v at 1 (omega arith) slot rest w.last b n f.0 f.1).0;
          }

      offered_took : Took v there offered
      offered_took q runs_q = offers.own ∙ ap (λ x. Some (operation_after state x)) (same_Some o q (sym runs ∙ runs_q))

      tells_offered : (other : Descriptor) (q : IsAt v (act.Offer other)) (others : List ℕ) → pool_of v.pool 1 ≡ others ++ slot ∷ [] → offered ≡ offered_by v slot
          (handle_of q.operation.call) others other there
      tells_offered other q others pool =
          ap (λ (x : Operation). offered_by v slot (handle_of x.call) rest offer there) (same_Some p.operation q.operation (sym p.runs ∙ q.runs))
          ∙ ap (λ xs. offered_by v slot (handle_of q.operation.call) xs offer there) (same_from_push rest others slot slot (sym w.last ∙ pool)).0
          ∙ ap (λ d. offered_by v slot (handle_of q.operation.call) others d there) (same_offer v offer other p q)

      tells_plain : (other : Descriptor) (q : IsAt v (act.Offer other)) → is_plain (word_at state (handle_of q.operation.call)) other.root ≡ true
      tells_plain other q =
          subst (λ (d : Descriptor). is_plain (word_at state (handle_of q.operation.call)) d.root ≡ true) (same_offer v offer other p q)
          (subst (λ (x : Operation). is_plain (word_at state (handle_of x.call)) offer.root ≡ true) (same_Some p.operation q.operation (sym p.runs ∙ q.runs)) plain_so)

      -- the seat may rely on it
      met_offered : IsMet offered.account offered.pin (known_at v.actor slot handle offer)
      met_offered = record {
        pinned = (led_pinned v s kept id at o runs).0;
        is = (led_pinned v s kept id at o runs).1;
        here = first_there (known_at v.actor slot handle offer) there.offered;
        unparted = λ x.
            offers.never
            (subst (λ (k : Known). HasStood v.sizes there k.offer) x.2
            (kept.roots.came x.0 (seat.offering.grown (led_pinned v s kept id at o runs).0 (led_pinned v s kept id at o runs).1 x.0 x.1)));
      }

      tells_met : (other : Descriptor) (q : IsAt v (act.Offer other)) → IsMet offered.account offered.pin (known_at v.actor slot (handle_of q.operation.call) other) ×
          (handle_of q.operation.call < handle_limit)
      tells_met other q =
          subst (λ (d : Descriptor). IsMet offered.account offered.pin (known_at v.actor slot (handle_of q.operation.call) d) × (handle_of q.operation.call < handle_limit))
          (same_offer v offer other p q)
          (subst (λ (x : Operation). IsMet offered.account offered.pin (known_at v.actor slot (handle_of x.call) offer) × (handle_of x.call < handle_limit))
          (same_Some p.operation q.operation (sym p.runs ∙ q.runs)) (met_offered, low))

      stands : (other : ℕ) → other ≡ root → found ≡ old → (after : View) × Left (word.Writable other) after
      stands other is e = (
        offered,
        (
          subst (λ ws. IsKept v.sizes (record { words = ws; homes = s.homes; views = set s.views id offered })) (words_hit v s kept id at (root_word handle) old new e (root_word handle) refl)
              (offer_kept v.sizes s kept id v at o runs slot offer offers rest w.last drafted w.names evidence),
          (
            offered_sound,
            subst (λ x. HasProposed v handle slot x offered) (ap (λ b. if b then Stands else Misses) (sym (eq-eqb other root is)))
                (there, (waited_so v s kept id at, offered_took, tells_plain), tells_offered, tells_met),
          ),
          refl,
          λ retired h.
              owed_then s.views id v at offered (λ k c. (owes_so v.sizes s kept id v at o runs slot offer offers rest w.last drafted w.names evidence k c, refl)) (λ y c. c) h,
        ),
      )

    -- ---- another stands there

    misses : (other : ℕ) → other ≢ root → found ≢ old → SaysPlain there Writable other (root_at state handle) → (after : View) × Left (word.Writable other) after
    misses other differs e says =
        let other_root : says.root ≢ offer.root = λ same_ref. differs (says.place ∙ ap (place_of there) same_ref ∙ root_place) in
        let another : is_plain (word_at state handle) offer.root ≡ false = ap (λ r. is_plain (word_of r) offer.root) says.is ∙ ne_eqb says.root offer.root other_root in
        let after = missed v offer p s kept id at another in (
          after,
          (
            subst (λ ws. IsKept v.sizes (record { words = ws; homes = s.homes; views = set s.views id after })) (words_miss v s kept id at (root_word handle) old new e)
                (missed_kept v offer p s kept id at another),
            (
              missed_sound v offer p s kept id at another,
              subst (λ x. HasProposed v handle slot x after) (ap (λ b. if b then Stands else Misses) (sym (ne_eqb other root differs))) (has_missed v offer p s kept id at another),
            ),
            refl,
            owed_missed v offer p s kept id at another,
          ),
        )

    -- ---- what is no root

    meets : (x : RootWord) → IsRootWord x → found ≡ root_code x → found ≢ old → proposed_by root x ≡ Meets x → (after : View) × Left x after
    meets x fits e differs is = (
      seen v there,
      (
        subst (λ ws. IsKept v.sizes (record { words = ws; homes = s.homes; views = set s.views id (seen v there) })) (words_miss v s kept id at (root_word handle) old new differs)
            (seen_kept v s kept id at),
        (
          (waited_so v s kept id at).sound,
          subst (λ y. HasProposed v handle slot y (seen v there)) (sym is) (
            subst (λ y. HasSeenRoot v handle y (seen v there)) (ap root_of e ∙ root_back x fits) (root_told v handle found (seen v there) low
                (record { table = s; kept = kept; id = id; at = at; finds = refl }, refl)),
            led_pinned v s kept id at o runs,
          ),
        ),
        refl,
        λ retired h. owed_then s.views id v at (seen v there) (λ k c. (c, refl)) (λ y c. c) h,
      ),
    )

    -- ---- either

    -- the root's place is in range
    small_root : root < 2 ^ 27
    small_root =
        let mine = (lives offer.root (root_of_offer offer)).1 in
        let used = live_in_use v.sizes there kept.bounds offer.root mine in
        let inside = node_end v.sizes used.0.node (place_of there offer.root) (kept.nodes.inside (slot_of offer.root) used.0 used.1) in
        let some = two_words (class_of used.0.node) (class_small used.0.node) in
        let range = kept.range.within in
        omega (arith, inside, some, range, root_place)

    not_old : (x : RootWord) → IsRootWord x → found ≡ root_code x → kind x ≢ 1 → found ≢ old
    not_old x fits e differs is = differs (same_kind x (word.Writable root) fits small_root (sym e ∙ is))

    by_word : (x : RootWord) → IsRootWord x → found ≡ root_code x → SaysRoot there s.words handle x (root_at state handle) → (after : View) × Left x after
    by_word (word.Writable other) fits e says = elim (cases_eq other root) [
      | inl is ↦
          let mine = same_root says.root says.is (sym says.place ∙ is) in
          stands (says.is ∙ ap (λ q. open_with Writable (Plain q)) mine) other is (e ∙ ap (λ n. root_code (word.Writable n)) is)
      | inr differs ↦ misses other differs (λ is. let sum = sym e ∙ is in differs (omega (arith, sum))) says
    ]
    by_word word.Closed fits e says = meets word.Closed fits e (not_old word.Closed fits e (λ x. omega (arith, x))) refl
    by_word (word.ReadOnly other) fits e says = meets (word.ReadOnly other) fits e (not_old (word.ReadOnly other) fits e (λ x. omega (arith, x))) refl
    by_word (word.Offered other) fits e says = meets (word.Offered other) fits e (not_old (word.Offered other) fits e (λ x. omega (arith, x))) refl
    by_word (word.Opening other) fits e says = meets (word.Opening other) fits e (not_old (word.Opening other) fits e (λ x. omega (arith, x))) refl
    by_word word.Reserved fits e says = meets word.Reserved fits e (not_old word.Reserved fits e (λ x. omega (arith, x))) refl
    by_word (word.ClosingWritable other seat) fits e says =
        meets (word.ClosingWritable other seat) fits e (not_old (word.ClosingWritable other seat) fits e (λ x. omega (arith, x))) refl
    by_word (word.ClosingReadOnly other seat) fits e says =
        meets (word.ClosingReadOnly other seat) fits e (not_old (word.ClosingReadOnly other seat) fits e (λ x. omega (arith, x))) refl

    pub leaves : (after : View) × Left (root_of found) after
    leaves =
        let means = kept.roots.means handle low in
        subst (λ x. (after : View) × Left x after) (sym (ap root_of means.code ∙ root_back means.what means.fits)) (by_word means.what means.fits means.code means.says)

abbrev pub AllowsOffer : Sizes → ℕ → ℕ → Me Call View → ℕ → ℕ → ℕ → Type 0
AllowsOffer sizes size id me word old new = Allows (IsShadowed sizes) size id me word (λ n. either (n == old) new n) (has_proposed (step size word old new none) me)

-- what is asked names but one handle, root and slot
told_so : (v : View) (handle root slot found : ℕ) (after : View) → IsToOffer v handle root slot → HasProposed v handle slot (proposed_by root (root_of found)) after → (h r n : ℕ) → IsToOffer v
    h r n →
    HasProposed v h n (proposed_by r (root_of found)) after
told_so v handle root slot found after (offer, rest, p, w, on) told h r n (other, others, q, x, also) =
    let same_d = same_offer v offer other p q in
    let same_o = same_Some p.operation q.operation (sym p.runs ∙ q.runs) in
    let same_handle : handle ≡ h = sym on ∙ ap (λ (y : Operation). handle_of y.call) same_o ∙ also in
    let same_root : root ≡ r = sym w.place ∙ ap (λ (d : Descriptor). place_of v.account d.root) same_d ∙ x.place in
    let same_slot : slot ≡ n = (same_from_push rest others slot n (sym w.last ∙ x.last)).1 in
    subst (λ y. HasProposed v y n (proposed_by r (root_of found)) after) same_handle
    (subst (λ y. HasProposed v handle n (proposed_by y (root_of found)) after) same_root (subst (λ y. HasProposed v handle y (proposed_by root (root_of found)) after) same_slot told))

pub offer_allowed : (sizes : Sizes) (size id : ℕ) (me : Me Call View) (some_seats : 1 ≤ me.0.sizes.seats) (named root slot : ℕ) → IsToOffer me.0 named root slot →
    AllowsOffer sizes size id me (root_word named) (root_code (word.Writable root)) (root_code (word.Offered slot))
offer_allowed sizes size id me some_seats named root slot (offer, rest, p, w, on) =
    subst (λ h. AllowsOffer sizes size id me (root_word h) (root_code (word.Writable root)) (root_code (word.Offered slot))) on
    (allowed_giving sizes size id me (root_word (handle_of p.operation.call)) (λ n. either (n == root_code (word.Writable root)) (root_code (word.Offered slot)) n)
    (has_proposed (step size (root_word (handle_of p.operation.call)) (root_code (word.Writable root)) (root_code (word.Offered slot)) none) me)
    some_seats (λ s kept at. inl (handle_apart me.0.sizes (handle_of p.operation.call) (low me.0 root slot offer rest p w s kept id at)))
    (λ s kept at. (let x = leaves me.0 root slot offer rest p w s kept id at in (
      x.0,
      x.1.0,
      (
        told_so me.0 (handle_of p.operation.call) root slot (slice_index s.words (root_word (handle_of p.operation.call))) x.0 (offer, rest, p, w, refl) x.1.1.1,
        x.1.1.0,
        refl,
      ),
    )))
    (λ s kept at. (leaves me.0 root slot offer rest p w s kept id at).1.2) (λ s kept at. (leaves me.0 root slot offer rest p w s kept id at).1.3))

-- both slots are in range
pub offer_fits : (words : ℕ) (v : View) (named root slot : ℕ) → IsSound words v → IsToOffer v named root slot → (root < 2 ^ 27) × (slot < 2 ^ 27)
offer_fits words v named root slot sound (offer, rest, p, w, on) =
    let live = offer_lives v root slot offer rest p w offer.root (root_of_offer offer) in
    let inside = (both_inside words v sound offer.root root live w.place).0 in
    let free = sound.free 1 slot (omega arith, subst (λ xs. Contains xs slot) (sym w.last) (Contains-push rest slot)) in
    let size = sound.size in
    let range = sound.range in
    (omega (arith, inside, size, range), omega (arith, free, range))
