-- The exchange by which a seat closes a handle.
use Rattle.history.specs.declared.calls.Call.{Call}
use Rattle.history.specs.declared.calls.Call.TheVariants.{Close}
use Rattle.std.proofs.Common.{◌≡◌, ◌≢◌, ◌==◌, ◌<◌, ◌≤◌, ◌⊎◌, inl, inr, ℕ, List, [], ◌∷◌, Contains, get_or, set, slice_index, Option, Some, None, refl, sym, ap, subst, ◌∙◌, eq-eqb, arith}
use Rattle.std.proofs.lemmas.Bool.{cases_eq, ne_eqb, true≢false}
use Rattle.std.proofs.lemmas.List.Elements.{Contains-append_cases}
use mathlib.Core.Option.{some, none}
use lib.ListN.{get_elem?}
use prog.Atomic.{either}
use Rattle.atomic_table.specs.Table.{Me, Allows, step}
use Rattle.atomic_table.specs.Table as Table
use Rattle.trie_words.specs.Codes.{root_code, IsRootWord}
use Rattle.trie_words.specs.declared.roots.RootWord.{RootWord}
use Rattle.trie_words.specs.declared.roots.RootWord.TheVariants as word
use Rattle.history.specs.declared.calls.Access.{Access}
use Rattle.history.specs.declared.calls.Access.TheVariants.{Writable, ReadOnly}
use Rattle.machine_model.specs.Beneath.slot_arena.specs.declared.nodes.Node.TheVariants.{Indirection}
use Rattle.machine_model.specs.Beneath.slot_arena.specs.declared.nodes.Slot.{Slot}
use Rattle.machine_model.specs.Beneath.slot_arena.specs.declared.refs.Ref.{Ref}
use Rattle.machine_model.specs.Beneath.slot_arena.specs.Refs.{slot_of}
use Rattle.machine_model.specs.declared.roots.RootWord.TheVariants.{Plain}
use Rattle.machine_model.specs.Machine.{begin_denial}
use Rattle.machine_model.specs.States.{operation_of, root_at}
use Rattle.proof_waiting.specs.Beneath.proof_slots.proofs.Unswept.Kept.{one_ref}
use Rattle.lock_free.proofs.EpochStays.{rest_beside}
use Rattle.lock_free.proofs.CountWords.{handle_apart}
use Rattle.lock_free.specs.declared.rules.Closing.{Closing}
use Rattle.lock_free.specs.declared.rules.Pinned.{Pinned}
use Rattle.lock_free.specs.declared.rules.Retired.{Retired}
use Rattle.lock_free.specs.declared.rules.View.{View}
use Rattle.lock_free.specs.declared.sizes.Sizes.{Sizes}
use Rattle.lock_free.specs.Accounts.{place_of, state_of}
use Rattle.lock_free.specs.Beginning.{Closes}
use Rattle.lock_free.specs.HandleWords.{once_closed, owes_closed, slot_named, HasClosed, ShutBy, has_closed}
use Rattle.lock_free.specs.Loading.{now, IsSound, IsUsed}
use Rattle.lock_free.specs.Nodes.{class_of}
use Rattle.lock_free.specs.Places.{root_word, words_of}
use Rattle.lock_free.specs.Owing.{owing}
use Rattle.lock_free.specs.Reclaiming.{kind_of_node}
use Rattle.lock_free.specs.Roots.{open_with}
use Rattle.lock_free.specs.Shadows.{IsShadowed}
use Rattle.lock_free.specs.Rules.{AreOwed, SaysClosing, IsSeat, IsKept}
use Rattle.lock_free.specs.SeatWords.{IsIdle, WouldClose, closes}
use Rattle.lock_free.proofs.Allowed.{close_allowed}
use Rattle.lock_free.proofs.Assembling.{closing_at}
use Rattle.lock_free.proofs.Closed as closed
use Rattle.lock_free.proofs.Closers.{seat_kept}
use Rattle.lock_free.proofs.Exchanged.{words_then, words_hit, words_miss}
use Rattle.lock_free.proofs.GivenBack.{node_is}
use Rattle.lock_free.proofs.Moments.{allowed_owing, waited_so, free_inside}
use Rattle.lock_free.proofs.OneStep.Beginning.{close_told, closes_of}
use Rattle.lock_free.proofs.OneStep.Idle.{idle_stays}
use Rattle.lock_free.proofs.OneStep.Retired.{retired_used}
use Rattle.lock_free.proofs.OneStep.Roots.{root_is_link}
use Rattle.lock_free.proofs.OwedStay.{owed_more, owed_same}
use Rattle.lock_free.proofs.Reclaimable.{no_root}
use Rattle.lock_free.proofs.RootCodes.{same_word}
use Rattle.lock_free.proofs.RootFound.{said}

first_or : (k : Ref) (owed : List Ref) (j : Ref) → Contains (k ∷ owed) j → Contains owed j ⊎ (j ≡ k)
first_or k owed j c = elim (Contains-append_cases (k ∷ []) owed j c) [
  | inl first ↦ inr (sym (only j first))
  | inr rest ↦ inl rest
]
  where
    only : (z : Ref) → Contains (k ∷ []) z → k ≡ z
    only z (i, within, at_i) = let zero_is : i ≡ 0 = omega arith in subst (λ n. get_or (k ∷ []) n z ≡ z) zero_is at_i

module _ (v : View) (handle looked : ℕ) (low : handle < 256) (others : List Closing) (would : v.closing ≡ closes handle looked ∷ others)
    (all_looked : v.sizes.seats ≤ looked) (outside : v.entered ≢ Some handle)
    (idle : IsIdle v)
    (w : RootWord) (fits : IsRootWord w) (mine : SaysClosing (root_code w) v.actor) (s : Table.State Call View) (kept : IsKept v.sizes s) (id : ℕ) (at : get_elem? s.views id ≡ some v) where
  abbrev found : ℕ
  found = slice_index s.words (root_word handle)

  abbrev old : ℕ
  old = root_code w

  seat : IsSeat v.sizes kept.account kept.stands s.words v
  seat = kept.seats id v at

  idle_there : operation_of (state_of v.sizes kept.account) v.actor ≡ None
  idle_there = idle_stays v.sizes v.actor v.account kept.account seat.waited kept.bounds idle

  few : v.actor ≤ v.sizes.seats
  few = let top = seat.top in let most = seat.most in omega (arith, top, most)

  abbrev Shut : View → Type 0
  Shut x =
      IsKept v.sizes (record { words = words_then v s kept id at (root_word handle) old 0; homes = s.homes; views = set s.views id x })
      × HasClosed v handle (slot_named w) (found == old) x × (IsSound (words_of v.sizes) v → IsSound (words_of v.sizes) x) × (rest_beside x ≡ rest_beside v)
      × (AreOwed s.views → AreOwed (set s.views id x))

  module _ (e : found ≡ old) where
    says : SaysClosing found v.actor
    says = subst (λ n. SaysClosing n v.actor) (sym e) mine

    -- the root that its word names
    record Named : Type 0 where
      access : Access
      root : Ref
      place : slot_named w ≡ place_of kept.account root
      is : root_at (state_of v.sizes kept.account) handle ≡ open_with access (Plain root)

    named_by : SaysClosing old v.actor → Named
    named_by (inl h) =
        let x = said v.sizes kept.account s.words kept.roots handle low (word.ClosingWritable h.0 v.actor) h.1 (e ∙ h.2) in
        record { access = Writable; root = x.root; place = ap slot_named (same_word w (word.ClosingWritable h.0 v.actor) fits h.1 h.2) ∙ x.place; is = x.is }
    named_by (inr h) =
        let x = said v.sizes kept.account s.words kept.roots handle low (word.ClosingReadOnly h.0 v.actor) h.1 (e ∙ h.2) in
        record { access = ReadOnly; root = x.root; place = ap slot_named (same_word w (word.ClosingReadOnly h.0 v.actor) fits h.1 h.2) ∙ x.place; is = x.is }

    named : Named
    named = named_by mine

    may : begin_denial (state_of v.sizes kept.account) v.actor (Close handle) None ≡ None
    may =
        close_allowed v.sizes s kept id v at idle_there handle (record { access = named.access; word = Plain named.root }) named.is
        (closed.nobody_runs v.sizes s kept id v at handle low looked others would all_looked says outside idle_there)

    abbrev after : View
    after = once_closed v handle named.root kept.account

    closes_it : Closes v.sizes kept.account v.actor handle
    closes_it = closes_of v.sizes kept.account kept.bounds v.actor handle few low idle_there may

    kept_after : IsKept v.sizes (record { words = set s.words (root_word handle) 0; homes = s.homes; views = set s.views id after })
    kept_after = closed.close_kept v.sizes s kept id v at handle low looked others would all_looked says outside idle_there closes_it may named.access named.root named.is

    sound_after : IsSound (words_of v.sizes) after
    sound_after =
        let all = closed.all_then v.sizes s kept id v at handle low looked others would all_looked says outside idle_there closes_it may named.access named.root named.is in
        record { size = refl; range = kept.range.within; bounds = all.bounds; keys = all.keys; counted = all.counted; inside = all.nodes.inside; free = free_inside v s kept id at }

    -- the root is an indirection
    link : (slot : Slot) × (generation : ℕ) × (main : Ref) × (get_or (state_of v.sizes kept.account).heap.slots (slot_of named.root) None ≡ Some slot) × (slot.node ≡ Indirection generation main)
    link = root_is_link v.sizes kept.account kept.bounds handle named.access named.root named.is

    used_then : IsUsed after named.root link.0
    used_then = closes_it.leaves.nodes (slot_of named.root) ∙ link.3

    shut_by : ShutBy v handle (slot_named w) after
    shut_by = record {
      account = kept.account;
      waited = waited_so v s kept id at;
      access = named.access;
      root = named.root;
      was = named.is;
      place = named.place;
      after_is = refl;
      idle = closes_it.operations v.actor ∙ idle_there;
      there = record { slot = link.0; used = used_then; class_is = ap class_of link.4; place = sym named.place };
      its_kind = ap kind_of_node (node_is (now after) named.root link.0 used_then ∙ link.4);
      id = (state_of v.sizes kept.account).begun;
      told = close_told v.sizes kept.account kept.bounds v.actor handle few low idle_there may;
    }

    -- nobody has retired the root
    early : (i : ℕ) (u : View) → get_elem? s.views i ≡ some u → (x : Retired) → Contains u.retired x → x.number ≡ slot_of named.root → ⊥
    early i u at_i x c same =
        let is = (kept.seats i u at_i).retired x c in
        let one = one_ref (state_of v.sizes kept.account).heap is.was.node named.root (retired_used v.sizes kept.account kept.bounds kept.quiet x is.was is.grown)
        (closed.root_used v.sizes s kept id v at handle low looked others would all_looked says outside idle_there closes_it may named.access named.root named.is)
        (is.was.number ∙ same) in
        no_root v.sizes kept.account kept.bounds x is.was is.grown handle named.access (named.is ∙ ap (λ r. open_with named.access (Plain r)) (sym one))

    owed_by : (pin : Option Pinned) → v.pin ≡ pin → AreOwed s.views → AreOwed (set s.views id (owing (record v { account = after.account }) (owes_closed pin named.root v.owed)))
    owed_by None free h = owed_same s.views id v at (record v { account = after.account }) refl refl refl h
    owed_by (Some p) pinned h =
        owed_more s.views id v at (owing (record v { account = after.account }) (named.root ∷ v.owed)) named.root (λ j c. first_or named.root v.owed j c) refl (p, pinned) refl
        (λ i u at_i x c same q is. absurd (early i u at_i x c same)) h

    hits : Shut after
    hits = (
      subst (λ ws. IsKept v.sizes (record { words = ws; homes = s.homes; views = set s.views id after })) (words_hit v s kept id at (root_word handle) old 0 e (root_word handle) refl) kept_after,
      (λ x. shut_by, λ x. absurd (true≢false (sym (eq-eqb found old e) ∙ x))),
      λ x. sound_after,
      refl,
      owed_by v.pin refl,
    )

  misses : found ≢ old → Shut v
  misses differs = (
    subst (λ ws. IsKept v.sizes (record { words = ws; homes = s.homes; views = set s.views id v })) (words_miss v s kept id at (root_word handle) old 0 differs)
        (seat_kept v.sizes s kept id v at v.entered v.closing seat.entered seat.calls
        (λ g who below h. closing_at v.sizes s kept id v at v refl refl g who (λ x. (x, refl)) (λ c x y z. x) (λ c. c) (kept.closings g who below h))),
    (λ x. absurd (true≢false (sym x ∙ ne_eqb found old differs)), λ x. refl),
    λ x. x,
    refl,
    owed_same s.views id v at v refl refl refl,
  )

  pub shuts : (x : View) × Shut x
  shuts = elim (cases_eq found old) [ inl e ↦ (after e, hits e) | inr differs ↦ (v, misses differs) ]

pub close_allows : (sizes : Sizes) (size id : ℕ) (me : Me Call View) (some_seats : 1 ≤ me.0.sizes.seats) (handle looked : ℕ) → handle < 256 →
    WouldClose me.0 handle looked → me.0.sizes.seats ≤ looked →
    me.0.entered ≢ Some handle → IsIdle me.0 → (w : RootWord) → IsRootWord w → SaysClosing (root_code w) me.0.actor →
    Allows (IsShadowed sizes) size id me (root_word handle) (λ n. either (n == root_code w) 0 n) (has_closed (step size (root_word handle) (root_code w) 0 none) me)
close_allows sizes size id me some_seats handle looked low (others, would, cleared) all_looked outside idle w fits mine =
    allowed_owing sizes size id me (root_word handle) (λ n. either (n == root_code w) 0 n) (has_closed (step size (root_word handle) (root_code w) 0 none) me)
    some_seats (λ s kept at. inl (handle_apart me.0.sizes handle low))
    (λ s kept at. (let x = shuts me.0 handle looked low others would all_looked outside idle w fits mine s kept id at in (
      x.0,
      x.1.0,
      (
        λ g n z is fits_z code. subst (λ (r : RootWord). HasClosed me.0 g (slot_named r) (slice_index s.words (root_word handle) == root_code w) x.0) (same_word w z fits fits_z code)
            (subst (λ (c : Closing). HasClosed me.0 c.handle (slot_named w) (slice_index s.words (root_word handle) == root_code w) x.0)
            (ap (λ marks. get_or marks 0 (closes handle looked)) (sym would ∙ is.1)) x.1.1),
        x.1.2,
        refl,
      ),
    )))
    (λ s kept at. (shuts me.0 handle looked low others would all_looked outside idle w fits mine s kept id at).1.3)
    (λ s kept at. (shuts me.0 handle looked low others would all_looked outside idle w fits mine s kept id at).1.4)
