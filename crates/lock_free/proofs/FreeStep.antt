-- A slot whose node had no reference any more is free for the seat, which knows what the node named.
use Rattle.history.specs.declared.calls.Call.{Call}
use Rattle.std.proofs.Common.{inr, ◌≡◌, ◌+◌, ◌*◌, ◌%◌, ◌^◌, ◌≤◌, ◌&&◌, ◌==◌, ℕ, zero, suc, Bool, true, false, List, [], ◌∷◌, Contains, cond, filter, map, ne_eqb}
use Rattle.std.proofs.Common.{set, slice_index, refl, sym, ap, subst, ◌∙◌, arith}
use Rattle.std.proofs.lemmas.List.{set-get_or}
use Rattle.std.proofs.lemmas.List.Elements.{Contains-append_left}
use Rattle.std.proofs.lemmas.List.Sums.{sum_by-append, sum_by-cons}
use mathlib.Core.Option.{some, none}
use lib.ListN.{get_elem?}
use Rattle.atomic_table.proofs.Lists.{set_again, set_here}
use Rattle.atomic_table.specs.Table as Table
use Rattle.atomic_table.specs.Table.{Allows, Me, step}
use Rattle.machine_model.specs.Beneath.slot_arena.specs.declared.nodes.Slot.{Slot}
use Rattle.machine_model.specs.Beneath.slot_arena.specs.declared.refs.Ref.{Ref}
use Rattle.machine_model.specs.Beneath.slot_arena.specs.Heaps.{node_at, refs_of_node}
use Rattle.machine_model.specs.States.{State}
use Rattle.machine_model.proofs.Grown.{node_standing}
use Rattle.proof_claims.specs.Claims.{claims_by}
use Rattle.proof_claims.specs.Held.{Claim, is_by_nodes, is_in}
use Rattle.proof_claims.proofs.HeldOnce.{held_once}
use Rattle.proof_claims.proofs.LetGo.{was_let_go}
use Rattle.proof_claims.proofs.NamesHeld.{names_held}
use Rattle.proof_claims.proofs.Outcomes.{each_held}
use Rattle.lock_free.specs.declared.rules.Retired.{Retired}
use Rattle.lock_free.specs.declared.rules.View.{View}
use Rattle.lock_free.specs.declared.sizes.Sizes.{Sizes}
use Rattle.lock_free.specs.Accounts.{bounds_for, place_of, state_of}
use Rattle.lock_free.specs.Calling.{IsRunning}
use Rattle.lock_free.specs.Claims.{held_now, HoldsAll}
use Rattle.lock_free.specs.Counts.{how_often}
use Rattle.lock_free.specs.Freeing.{has_freed, has_seen_draft, held_by, HasFreed, HasLeft, IsRipeDeep}
use Rattle.lock_free.specs.LeftNodes.{IsNamed, LeavesWords, MayBeNamed}
use Rattle.lock_free.specs.Links.{AreLinked, link_in}
use Rattle.lock_free.specs.Loading.{IsSound}
use Rattle.lock_free.specs.Nodes.{class_of}
use Rattle.lock_free.specs.Places.{count_word, words_in, words_of}
use Rattle.lock_free.specs.Reclaiming.{kind_by, kind_of, kind_of_node}
use Rattle.lock_free.specs.Shadows.{IsShadowed}
use Rattle.lock_free.specs.Rules.{AreEpochs, AreOwed, AreRetired, IsKept}
use Rattle.lock_free.proofs.OneGlance.Shadowed.{Stays}
use Rattle.lock_free.proofs.Assembling.{within}
use Rattle.lock_free.proofs.ClaimsThere.{often_has}
use Rattle.lock_free.proofs.Freed.{aside, epochs_then, its_class, its_place, kept_then, known, links_then, new, node, one_slot, owed_then, retired_then, stood, then, unfollowed, unshared}
use Rattle.lock_free.proofs.Freed.{used, word, word_is}
use Rattle.lock_free.proofs.Geometry.{IsWordOf}
use Rattle.lock_free.proofs.Hanging.{one_named}
use Rattle.lock_free.proofs.HeldFreed.{by_claim}
use Rattle.lock_free.proofs.Knowing.{from_has}
use Rattle.lock_free.proofs.LeftWords.{left_names, left_words}
use Rattle.lock_free.proofs.Moments.{allowed, allowed_by, free_inside, waited_so}
use Rattle.lock_free.proofs.NamedHeld.{deep_unlet}
use Rattle.lock_free.proofs.OneStep.Found.{slot_at}
use Rattle.lock_free.proofs.RetiredSlots.{its_slots, kind_still, same_retired_slot, stands_still}
use Rattle.proof_claims.proofs.Lists.{found_in}
use Rattle.std.proofs.lemmas.Bool.{true≢false}

-- ---- how often the node holds each

first_often : (names : List Ref) (k : Ref) (z : Claim) (rest : List Claim) → is_in names k ≡ true → (b c : Bool) → is_in names z.on ≡ c →
    how_often k (map (λ (y : Claim). y.on) (cond (b && c) (z ∷ rest) rest)) ≡ cond (b && (z.on == k)) 1 0 + how_often k (map (λ (y : Claim). y.on) rest)
first_often names k z rest named true true is = sum_by-cons (λ (x : Ref). cond {A = ℕ} (x == k) 1 0) z.on (map (λ (y : Claim). y.on) rest)
first_often names k z rest named true false is =
    let none = ap {B = ℕ} (λ b. cond b 1 0) (ne_eqb z.on k (λ same. true≢false (sym (ap (is_in names) same ∙ named) ∙ is))) in omega (arith, none)
first_often names k z rest named false c is = omega arith

by_often : (names : List Ref) (j k : Ref) → is_in names k ≡ true → (claims : List Claim) → how_often k (held_by names j claims) ≡ claims_by j k claims
by_often names j k named [] = refl
by_often names j k named (z ∷ claims) =
    let all = sum_by-cons (λ (c : Claim). cond {A = ℕ} (is_by_nodes (j ∷ []) c.by && (c.on == k)) 1 0) z claims in
    let first = first_often names k z (filter (λ (c : Claim). is_by_nodes (j ∷ []) c.by && is_in names c.on) claims) named (is_by_nodes (j ∷ []) z.by) (is_in names z.on) refl in
    let rest = by_often names j k named claims in
    omega (arith, all, first, rest)

module _ (v : View) (sound : IsSound (words_of v.sizes) v) (running : IsRunning v) (x : Retired) (c : Contains v.retired x) (late : x.stamp + 3 ≤ v.epoch) (deep : x.deep ≡ true)
    (s : Table.State Call View)
    (kept : IsKept v.sizes s) (epochs : AreEpochs s.words s.views) (old : AreRetired v.sizes s.words s.views) (owed : AreOwed s.views) (linked : AreLinked v.sizes s.words s.views) (id : ℕ)
    (at : get_elem? s.views id ≡ some v) where
  abbrev state : State
  state = state_of v.sizes kept.account

  abbrev j : Ref
  j = node v running x c late deep s kept epochs old owed linked id at

  abbrev slot : Slot
  slot = (used v running x c late deep s kept epochs old owed linked id at).0

  abbrev w : View
  w = then v running x c late deep s kept epochs old owed linked id at

  node_is : node_at state.heap j ≡ slot.node
  node_is = let u = used v running x c late deep s kept epochs old owed linked id at in node_standing state.heap j u.0 u.1

  abbrev names : List Ref
  names = refs_of_node (node_at state.heap j)

  among_names : (k : Ref) → Contains (refs_of_node slot.node) k → is_in names k ≡ true
  among_names k c = found_in names k (subst (λ n. Contains (refs_of_node n) k) (sym node_is) c)

  -- each that it names it holds once
  once : (k : Ref) → Contains (refs_of_node slot.node) k → (how_often k (refs_of_node slot.node) ≡ 1) × (claims_by j k (held_now v.sizes kept.account).claims ≡ 1)
  once k names =
      let limits = bounds_for v.sizes kept.account.steps in
      let steps = kept.account.steps in
      let u = used v running x c late deep s kept epochs old owed linked id at in
      let there = subst (λ n. Contains (refs_of_node n) k) (sym node_is) names in
      subst (λ n. (how_often k (refs_of_node n) ≡ 1) × (claims_by j k (held_now v.sizes kept.account).claims ≡ 1)) node_is
      (held_once limits kept.bounds steps kept.keys j k u there
      (names_held limits kept.bounds steps j k u (unfollowed v running x c late deep s kept epochs old owed linked id at)
      (λ dropped. deep_unlet v.sizes s kept id v at x c deep (was_let_go limits kept.bounds steps j (unfollowed v running x c late deep s kept epochs old owed linked id at) dropped))
      (each_held limits kept.bounds steps) there))

  holds_now : HoldsAll (refs_of_node slot.node) w.owed
  holds_now k = by (how_often k (refs_of_node slot.node)) refl
    where
      by : (n : ℕ) → how_often k (refs_of_node slot.node) ≡ n → how_often k (refs_of_node slot.node) ≤ how_often k w.owed
      by zero e = omega (arith, e)
      by (suc n) e =
          let its = once k (often_has k (refs_of_node slot.node) (omega (arith, e))) in
          let given = by_often names j k (among_names k (often_has k (refs_of_node slot.node) (omega (arith, e)))) (held_now v.sizes kept.account).claims in
          let all = sum_by-append (λ (y : Ref). cond {A = ℕ} (y == k) 1 0) (held_by names j (held_now v.sizes kept.account).claims) v.owed in
          let named = its.0 in
          let held = its.1 in
          omega (arith, named, held, given, all)

  names_now : (k : Ref) → Contains (refs_of_node slot.node) k → IsNamed w slot.node k
  names_now k its =
      let h = left_names v s kept j (used v running x c late deep s kept epochs old owed linked id at) (stood v running x c late deep s kept epochs old owed linked id at) k its in
      let claim = (by_claim names j k (held_now v.sizes kept.account).claims (often_has k (held_by names j (held_now v.sizes kept.account).claims)
      (let given = by_often names j k (among_names k its) (held_now v.sizes kept.account).claims in let one = (once k its).1 in omega (arith, given, one)))).0 in
      record {
        slot = h.0.0;
        used = slot_at state.heap k h.0.0 h.0.1;
        kind = subst (MayBeNamed slot.node) (node_standing state.heap k h.0.0 h.0.1) h.1;
        shared = λ operation runs. unshared v running x c late deep s kept epochs old owed linked id at k claim v.actor operation runs;
      }

  knows : (i : ℕ) → IsWordOf (class_of slot.node) (place_of kept.account j) i → Contains w.drafts (i, slice_index s.words i)
  knows i its =
      let class = its_class v running x c late deep s kept epochs old owed linked id at in
      let place = its_place v running x c late deep s kept epochs old owed linked id at in
      let there = subst (λ n. IsWordOf n x.name i) class (subst (λ n. IsWordOf (class_of slot.node) n i) place its) in
      Contains-append_left (known v running x c late deep s kept epochs old owed linked id at) v.drafts (i, slice_index s.words i) (from_has s.words (2 * x.name)
      (words_in x.class) i there.low there.high)

  left_now : HasLeft w x.name j slot
  left_now =
      let u = used v running x c late deep s kept epochs old owed linked id at in
      let place = its_place v running x c late deep s kept epochs old owed linked id at in record {
        left = record {
          used = slot_at state.heap j u.0 u.1;
          place = place;
          words = subst (λ n. LeavesWords w n slot.node) place (left_words v s kept j u (stood v running x c late deep s kept epochs old owed linked id at) w knows);
          names = names_now;
        };
        holds = holds_now;
      }

  kind_now : (y : Retired) → Contains v.retired y → y.name ≡ x.name → kind_of v.sizes y ≡ kind_of_node slot.node
  kind_now y there same =
      let one = one_named v.retired (its_slots v.sizes s kept id v at old refl).once y x there c same in
      ap (kind_of v.sizes) one ∙ kind_still v.sizes s kept id v at x c ∙ ap (λ b. kind_by b (stands_still v.sizes s kept id v at x c).0.node) deep
      ∙ ap (λ (z : Slot). kind_of_node z.node) (sym (one_slot v running x c late deep s kept epochs old owed linked id at))

  pub freed_now : HasFreed v x.class x.name (link_in (slice_index s.words (count_word v.sizes x.class x.name))) w
  freed_now = record {
    account = kept.account;
    waited = waited_so v s kept id at;
    known = known v running x c late deep s kept epochs old owed linked id at;
    node = j;
    slot = slot;
    is = refl;
    left = left_now;
    in_class = its_class v running x c late deep s kept epochs old owed linked id at;
    kind = λ y there class name. kind_now y there name;
    its_link = λ n knows_it. (linked.linked id v at (count_word v.sizes x.class x.name, n) knows_it).is;
  }

  -- whichever of its slots this word is said to be of, it is that one
  pub frees : (class name : ℕ) → IsRipeDeep v class name → count_word v.sizes x.class x.name ≡ count_word v.sizes class name →
      HasFreed v class name (link_in (slice_index s.words (count_word v.sizes x.class x.name))) w
  frees class name (y, there, y_class, y_name, later, other) e =
      let both = same_retired_slot v.sizes s kept id id v v at at x y c there
      (e ∙ ap (λ b. count_word v.sizes b name) (sym y_class) ∙ ap (count_word v.sizes y.class) (sym y_name)) in
      subst (λ b. HasFreed v b name (link_in (slice_index s.words (count_word v.sizes x.class x.name))) w) (both.0 ∙ y_class)
      (subst (λ n. HasFreed v x.class n (link_in (slice_index s.words (count_word v.sizes x.class x.name))) w) (both.1 ∙ y_name) freed_now)

  pub sound_now : IsSound (words_of v.sizes) w
  sound_now = record {
    size = refl;
    range = kept.range.within;
    bounds = kept.bounds;
    keys = kept.keys;
    counted = kept.counted;
    inside = kept.nodes.inside;
    free = free_inside w
        (record {
          words = set s.words (word v running x c late deep s kept epochs old owed linked id at) (new v running x c late deep s kept epochs old owed linked id at);
          homes = s.homes;
          views
              = set s.views id w;
        })
        (kept_then v running x c late deep s kept epochs old owed linked id at) id (set_here s.views id w (within s.views id v at));
  }

pub free_allowed : (sizes : Sizes) (size id : ℕ) (me : Me Call View) (some_seats : 1 ≤ me.0.sizes.seats) → IsSound (words_of me.0.sizes) me.0 → IsRunning me.0 → (x : Retired) →
    Contains me.0.retired x →
    x.stamp + 3 ≤ me.0.epoch → x.deep ≡ true → (its : ℕ) → count_word me.0.sizes x.class x.name ≡ its →
    Allows (IsShadowed sizes) size id me its (λ n. (n + 2 ^ 32) % 2 ^ 64) (has_freed (step size its (2 ^ 32) 0 none) me)
free_allowed sizes size id me some_seats sound running x c late deep its is =
    subst (λ i. Allows (IsShadowed sizes) size id me i (λ n. (n + 2 ^ 32) % 2 ^ 64) (has_freed (step size i (2 ^ 32) 0 none) me)) is
    (allowed_by sizes size id me there (λ n. (n + 2 ^ 32) % 2 ^ 64) (has_freed (step size there (2 ^ 32) 0 none) me)
    some_seats
    (λ s kept epochs old owed linked at.
    (let v = me.0 in
    let w = then v running x c late deep s kept epochs old owed linked id at in
    subst (λ i. (u : View) × Stays sizes size id me there (λ n. (n + 2 ^ 32) % 2 ^ 64) (has_freed (step size there (2 ^ 32) 0 none) me) s u × IsKept v.sizes (record {
      words = set s.words i
          ((slice_index s.words i + 2 ^ 32) % 2 ^ 64);
      homes = s.homes;
      views = set s.views id u;
    })
    × AreEpochs (set s.words i ((slice_index s.words i + 2 ^ 32) % 2 ^ 64)) (set s.views id u)
    × AreRetired v.sizes (set s.words i ((slice_index s.words i + 2 ^ 32) % 2 ^ 64)) (set s.views id u)
    × AreOwed (set s.views id u) × AreLinked v.sizes (set s.words i ((slice_index s.words i + 2 ^ 32) % 2 ^ 64)) (set s.views id u) × (u.heard ≡ v.heard)
    × has_freed (step size there (2 ^ 32) 0 none) me (slice_index s.words i) (u, me.1)) (word_is v running x c late deep s kept epochs old owed linked id at) (
      w,
      (aside v running x c late deep s kept epochs old owed linked id at, refl, λ shown. shown),
      kept_then v running x c late deep s kept epochs old owed linked id at,
      epochs_then v running x c late deep s kept epochs old owed linked id at,
      retired_then v running x c late deep s kept epochs old owed linked id at,
      owed_then v running x c late deep s kept epochs old owed linked id at,
      links_then v running x c late deep s kept epochs old owed linked id at,
      refl,
      (
        λ class name ripe e. subst (λ i. HasFreed v class name (link_in (slice_index s.words i)) w) (sym (word_is v running x c late deep s kept epochs old owed linked id at))
            (frees v sound running x c late deep s kept epochs old owed linked id at class name ripe e),
        sound_now v sound running x c late deep s kept epochs old owed linked id at,
        refl,
      ),
    ))))
  where
    there : ℕ
    there = count_word me.0.sizes x.class x.name

-- ---- a word of a slot that is free

pub see_draft_allowed : (sizes : Sizes) (size id : ℕ) (me : Me Call View) (word : ℕ) → 1 ≤ me.0.sizes.seats → Allows (IsShadowed sizes) size id me word (λ n. n) (has_seen_draft
    (step size word 0 0 none) me)
see_draft_allowed sizes size id me word some_seats =
    allowed sizes size id me word (λ n. n) (has_seen_draft (step size word 0 0 none) me)
    some_seats (λ s kept at. inr refl)
    (λ s kept at. (
      me.0,
      subst (λ ws. IsKept me.0.sizes (record { words = ws; homes = s.homes; views = set s.views id me.0 })) (sym (set-get_or s.words word 0))
          (subst (λ vs. IsKept me.0.sizes (record { words = s.words; homes = s.homes; views = vs })) (sym (set_again s.views id me.0 at)) kept),
      (λ value known. ((kept.seats id me.0 at).drafts (word, value) known).0, refl),
    ))
    (λ s kept at. refl)
