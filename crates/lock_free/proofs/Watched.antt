-- A seat that is alone finds in the words of a node to which handles lead what stands there, and nothing changes.
use Rattle.history.specs.declared.calls.Call.{Call}
use Rattle.std.proofs.Common.{◌≡◌, ◌+◌, ◌*◌, ◌/◌, ◌<◌, ◌≤◌, ◌++◌, inl, inr, ℕ, true, List, [], ◌∷◌, Contains, get_or, length, set, slice_get, Some, None}
use Rattle.std.proofs.Common.{refl, sym, ap, subst, ◌∙◌, arith, append_assoc}
use Rattle.std.proofs.lemmas.List.{set-get_or}
use Rattle.std.proofs.lemmas.List.Elements.{Contains-append_left, Contains-append_right, Contains-get_or}
use Rattle.std.proofs.lemmas.Option.{none-some, same_Some}
use mathlib.Core.Option.{none as nothing_said}
use Rattle.atomic_table.specs.Table.{Allows, Me, keeps, step}
use Rattle.trie_words.specs.Codes.{entry_of, header_of, link_of}
use Rattle.trie_words.specs.declared.entries.Entry.{Entry}
use Rattle.trie_words.specs.declared.headers.Previous.{Previous}
use Rattle.trie_words.specs.declared.headers.Previous.TheVariants as previous
use Rattle.trie_words.specs.declared.headers.Shape.{Shape}
use Rattle.trie_words.specs.declared.headers.Shape.TheVariants as shape
use Rattle.trie_words.proofs.Parts.{entry_back}
use Rattle.trie_words.specs.Codes.{pair_of}
use Rattle.machine_model.specs.Beneath.slot_arena.specs.declared.nodes.Node.{Node}
use Rattle.machine_model.specs.Beneath.slot_arena.specs.declared.nodes.Node.TheVariants.{Indirection, Tomb}
use Rattle.machine_model.specs.Beneath.slot_arena.specs.declared.nodes.Prev.{Prev}
use Rattle.machine_model.specs.Beneath.slot_arena.specs.declared.nodes.Prev.TheVariants as prev
use Rattle.machine_model.specs.Beneath.slot_arena.specs.declared.nodes.Slot.{Slot}
use Rattle.machine_model.specs.Beneath.slot_arena.specs.declared.refs.Ref.{Ref}
use Rattle.machine_model.specs.Beneath.slot_arena.specs.Heaps.{entries_of, node_at, refs_of_node, refs_of_prev, refs_of_slot, stored}
use Rattle.machine_model.specs.Beneath.slot_arena.specs.Refs.{slot_of}
use Rattle.machine_model.specs.Counting.{refs_of_root, refs_of_word}
use Rattle.machine_model.specs.declared.roots.RootWord.{RootWord}
use Rattle.machine_model.specs.declared.roots.RootWord.TheVariants.{Offer, Plain}
use Rattle.machine_model.specs.declared.steps.Step.{Step as Taken}
use Rattle.machine_model.specs.States.{State, root_at, root_of}
use Rattle.proof_memory.specs.Wants.{is_main_node, is_branch_or_list}
use Rattle.proof_claims.specs.Beneath.proof_reuse.specs.Beneath.proof_followed.specs.Followed as followed
use Rattle.proof_claims.specs.Beneath.proof_reuse.specs.Beneath.proof_followed.specs.Followed.{IsFollowedByRoots}
use Rattle.proof_waiting.specs.Beneath.proof_slots.specs.Lasting.{widened}
use Rattle.proof_waiting.specs.Beneath.proof_slots.proofs.Padded.Heaps.{stored_wide}
use Rattle.lock_free.specs.declared.accounts.Account.{Account}
use Rattle.lock_free.specs.declared.rules.View.{View}
use Rattle.lock_free.specs.declared.sizes.Sizes.{Sizes}
use Rattle.lock_free.specs.Accounts.{place_of, state_of}
use Rattle.lock_free.specs.Alone.{IsAlone, LoneMoment, WasLeft}
use Rattle.lock_free.specs.Live.{IsLive, from_root, from_slot}
use Rattle.lock_free.specs.Loading.{now, seen, IsSound, Moment}
use Rattle.lock_free.specs.Nodes.{class_of, half_in, is_single, SaysPrevious, decided, ahead, pending as says_pending, failed as says_failed, SaysShape, of_branch, of_list, of_tomb}
use Rattle.lock_free.specs.Shadows.{IsShadowed}
use Rattle.lock_free.specs.Rules.{IsPlainSo, IsRuled, IsSeat, RunsNothing}
use Rattle.lock_free.specs.SeatWords.{IsIdle}
use Rattle.lock_free.specs.LeftNodes.{NamesShape}
use Rattle.lock_free.specs.Watching.{has_watched, failed, none, pending}
use Rattle.lock_free.specs.LeftNodes.{a_branch, a_list, a_tomb}
use Rattle.lock_free.specs.Watching.{HasWatched, HasWatchedEntry, HasWatchedHeader, HasWatchedLink, IsLed, IsLedIn, IsQuiet, NamesPrevious, SaysNode}
use Rattle.lock_free.proofs.OneGlance.Shadowed.{lifted}
use Rattle.lock_free.proofs.Asked.{live_in_use}
use Rattle.lock_free.proofs.Framing.{class_small}
use Rattle.lock_free.proofs.Looking.{says_link, says_main, says_pair}
use Rattle.lock_free.proofs.Decoding.{place_small}
use Rattle.lock_free.proofs.Keeping.{same_nodes}
use Rattle.lock_free.proofs.Made.{got_in}
use Rattle.lock_free.proofs.LastingNodes.{entry_lives}
use Rattle.lock_free.proofs.Moments.{before, is_there, same_place, IsThere}
use Rattle.lock_free.proofs.OnlySeat.{rests, runs_nothing}
use Rattle.lock_free.proofs.PlainSeen.{ruled_then, sound_then}
use Rattle.lock_free.proofs.Within.{entries_room, two_words, used_inside}
use Rattle.lock_free.proofs.QuietSince.{led_before, same_begun, same_slot, same_state}

-- ---- what handles lead to is live

root_lives : (state : State) (handle : ℕ) (w : RootWord) (access : _) (r : Ref) → root_at state handle ≡ Some (record { access = access; word = w }) → root_of w ≡ r → IsLive state r
root_lives state handle (Plain q) access r is same =
    from_root handle r (subst (λ o. Contains (refs_of_root o) r) (sym is) (subst (Contains (q ∷ [])) same (Contains-get_or (q ∷ []) 0 q (omega arith))))
root_lives state handle (Offer offer) access r is same =
    from_root handle r (subst (λ o. Contains (refs_of_root o) r) (sym is)
    (subst (Contains (refs_of_word (Offer offer))) same (Contains-get_or (refs_of_word (Offer offer)) 0 offer.root (omega arith))))

pub led_lives : (state : State) {r : Ref} → IsFollowedByRoots state r → IsLive state r
led_lives state (followed.from_root handle root r is same) = root_lives state handle root.word root.access r is same
led_lives state (followed.from_operation actor operation r e p c) = absurd p
led_lives state (followed.from_slot q r k c) = from_slot q r (led_lives state k) c

-- it leads there in a state with more free slots too
led_wide : (more m : ℕ) (state : State) {r : Ref} → IsFollowedByRoots state r → IsFollowedByRoots (widened more m state) r
led_wide more m state (followed.from_root handle root r e is) = followed.from_root handle root r e is
led_wide more m state (followed.from_operation actor operation r e p c) = absurd p
led_wide more m state (followed.from_slot q r k c) =
    followed.from_slot q r (led_wide more m state k) (subst (λ o. Contains (refs_of_slot o) r) (sym (stored_wide more state.limits.slots state.heap q)) c)

-- ---- the load

pub watch_allowed : (sizes : Sizes) (size id : ℕ) (me : Me Call View) (word : ℕ) (some_seats : 1 ≤ me.0.sizes.seats) →
    Allows (IsShadowed sizes) size id me word (λ n. n) (has_watched (step size word 0 0 nothing_said) me)
watch_allowed sizes size id me word some_seats =
    lifted sizes size id me word (λ n. n) (has_watched (step size word 0 0 nothing_said) me) some_seats
    (λ s ruled at.
    (let its = (ruled.kept.seats id me.0 at).same some_seats in
    let own = subst (λ z. IsRuled z s) (sym its) ruled in
    let known : (d : ℕ × ℕ) → Contains me.0.plain d → IsPlainSo me.0.sizes own.kept.account s.words d = λ d c. (own.kept.seats id me.0 at).plain d c in
    let after = seen me.0 own.kept.account in (
      after,
      keeps,
      (inr refl, refl, λ shown. shown),
      tt,
      subst (λ ws. IsRuled sizes (record { words = ws; homes = s.homes; views = set s.views id after })) (sym (set-get_or s.words word 0))
          (subst (λ z. IsRuled z (record { words = s.words; homes = s.homes; views = set s.views id after })) its (ruled_then me.0 some_seats s own id at me.0.plain known)),
      ((record { table = s; kept = own.kept; heard = own.heard id me.0 at; id = id; at = at; finds = refl }, refl), sound_then me.0 some_seats s own id at me.0.plain known, refl),
    )))

-- ---- nothing has changed

-- whom a seat has left it has left still
still_left : (v : View) (account : Account) (plain : List (ℕ × ℕ)) (more : List Taken) → account.steps ≡ v.account.steps ++ more → (a : ℕ) → WasLeft v a →
    WasLeft (record v { account = account; plain = plain }) a
still_left v account plain more goes_on a h = record {
  heard = h.heard;
  its = h.its;
  low = h.low;
  top = h.top;
  idle = h.idle;
  since = (h.since.0 ++ more, goes_on ∙ ap (λ xs. xs ++ more) h.since.1 ∙ append_assoc h.heard.account.steps h.since.0 more);
}

module _ (v : View) (word found : ℕ) (m : LoneMoment v word found) (alone : IsAlone v) (idle : IsIdle v) where
  abbrev account : Account
  account = m.kept.account

  abbrev state : State
  state = state_of v.sizes account

  abbrev then : List (ℕ × ℕ) → View
  then plain = record v { account = account; plain = plain }

  abbrev moment : Moment v word found
  moment = record { table = m.table; kept = m.kept; id = m.id; at = m.at; finds = m.finds }

  seat : IsSeat v.sizes account m.kept.stands m.table.words v
  seat = m.kept.seats m.id v m.at

  alone_after : (plain : List (ℕ × ℕ)) → IsAlone (then plain)
  alone_after plain a one most = elim (alone a one most) [
    | inl mine ↦ inl mine
    | inr left ↦ inr (still_left v account plain seat.waited.steps seat.waited.goes_on a left)
  ]

  same : state ≡ widened (length seat.waited.steps) (length (v.account.steps ++ seat.waited.steps) + 1) (now v)
  same = same_state v m.table m.kept m.heard m.id m.at v.account seat.waited alone

  led_then : (r : Ref) → IsFollowedByRoots (now v) r → IsFollowedByRoots state r
  led_then r led = subst (λ z. IsFollowedByRoots z r) (sym same) (led_wide (length seat.waited.steps) (length (v.account.steps ++ seat.waited.steps) + 1) (now v) led)

  pub quiet_with : (plain : List (ℕ × ℕ)) → IsQuiet v (then plain)
  quiet_with plain = record {
    is = refl;
    alone = alone_after plain;
    idle = rests v m.table m.kept m.heard m.id m.at alone idle;
    slots = same_slot v m.table m.kept m.heard m.id m.at v.account seat.waited alone;
    roots = λ handle. ap (λ (z : State). root_at z handle) same;
    begun = same_begun v m.table m.kept m.heard m.id m.at v.account seat.waited alone;
    places = λ r slot used. same_place v m.table m.kept m.id m.at (slot_of r) slot used;
    led = led_then;
    was_led = led_before v m.table m.kept m.heard m.id m.at v.account seat.waited alone;
  }

  pub quiet : IsQuiet v (seen v account)
  quiet = quiet_with v.plain

  nothing : RunsNothing state
  nothing = runs_nothing v m.table m.kept m.heard m.id m.at alone idle

  -- ---- the node

  module _ (r : Ref) (slot : Slot) (name : ℕ) (h : IsLed v r slot name) where
    there : IsThere v m.table m.kept m.id m.at r
    there = is_there v m.table m.kept m.id m.at r (led_lives (now v) h.led) (led_lives state (quiet.led r h.led))

    used_then : get_or state.heap.slots (slot_of r) None ≡ Some slot
    used_then = quiet.slots (slot_of r) ∙ h.used

    -- what stands in it stands where it did
    named_lives : (q : Ref) → Contains (refs_of_slot (Some slot)) q → IsFollowedByRoots (now v) q
    unfolding stored
    named_lives q c = followed.from_slot r q h.led (subst (λ o. Contains (refs_of_slot o) q) (sym h.used) c)

    named_place : (q : Ref) → Contains (refs_of_slot (Some slot)) q → place_of account q ≡ place_of v.account q
    named_place q c =
        let is = live_in_use v.sizes v.account (before v m.table m.kept m.id m.at) q (led_lives (now v) (named_lives q c)) in
        quiet.places q is.0 is.1

    pub link_watched : word ≡ 2 * name → (generation : ℕ) (main : Ref) → slot.node ≡ Indirection generation main → (link_of found).main.slot ≡ place_of v.account main
    link_watched at_word generation main node =
        let link = says_link v word found moment r there (at_word ∙ ap (λ n. 2 * n) (sym h.place)) slot generation main used_then node in
        let same_slot_is = same_Some link.slot slot (sym link.stores ∙ used_then) in
        let mains : Indirection (link_of found).generation link.main ≡ Indirection generation main = sym link.is_link ∙ ap (λ (x : Slot). x.node) same_slot_is ∙ node in
        let same : link.main ≡ main = cc mains in
        let c : Contains (refs_of_slot (Some slot)) main =
        Contains-append_left (refs_of_node slot.node) (refs_of_prev slot.prev) main (subst (λ x. Contains (refs_of_node x) main) (sym node) (Contains-get_or (main ∷ []) 0 main (omega arith))) in
        sym link.place ∙ ap (place_of account) same ∙ named_place main c

    -- the node over which it stands
    prev_named : (p : Prev) (q : Ref) → p ≡ slot.prev → Contains (refs_of_prev p) q → place_of account q ≡ place_of v.account q
    prev_named p q same c = named_place q (Contains-append_right (refs_of_node slot.node) (refs_of_prev slot.prev) q (subst (λ x. Contains (refs_of_prev x) q) same c))

    previous_by : (p : Prev) (says : Previous) → p ≡ slot.prev → SaysPrevious account state (slot_of r) p says → NamesPrevious v p says
    previous_by p says same (decided nobody) = none
    previous_by p says same (ahead i a f own h its owned) = absurd (none-some h.operation (sym (nothing h.actor) ∙ h.runs))
    previous_by p says same (says_pending q own over) =
        subst (λ n. NamesPrevious v (prev.Pending q) (previous.Pending (record { slot = n; own = own })))
        (sym (prev_named (prev.Pending q) q same (Contains-get_or (q ∷ []) 0 q (omega arith)))) (pending q own)
    previous_by p says same (says_failed q own over) =
        subst (λ n. NamesPrevious v (prev.Failed q) (previous.Failed (record { slot = n; own = own })))
        (sym (prev_named (prev.Failed q) q same (Contains-get_or (q ∷ []) 0 q (omega arith)))) (failed q own)

    shape_by : (node : Node) (says : Shape) → node ≡ slot.node → SaysShape account (slot_of r) node says → NamesShape v node says
    shape_by node says same (of_branch bitmap entries) = a_branch bitmap entries
    shape_by node says same (of_tomb single own owned) =
        let c : Contains (refs_of_slot (Some slot)) single =
        Contains-append_left (refs_of_node slot.node) (refs_of_prev slot.prev) single (subst (λ x. Contains (refs_of_node x) single) same (Contains-get_or (single ∷ []) 0 single (omega arith))) in
        subst (λ n. NamesShape v (Tomb single) (shape.Tomb (record { slot = n; own = own; is_single = true }))) (sym (named_place single c)) (a_tomb single own)
    shape_by node says same (of_list singles) = a_list singles

    pub header_watched : word ≡ 2 * name → is_main_node slot.node ≡ true → SaysNode v slot (header_of found)
    header_watched at_word main =
        let header = says_main v word found moment r there (at_word ∙ ap (λ n. 2 * n) (sym h.place)) slot used_then main in
        let one = same_Some header.slot slot (sym header.stores ∙ used_then) in
        record {
          previous = previous_by slot.prev (header_of found).previous refl (subst (λ (x : Slot). SaysPrevious account state (slot_of r) x.prev (header_of found).previous) one header.is_previous);
          shape = shape_by slot.node (header_of found).shape refl (subst (λ (x : Slot). SaysShape account (slot_of r) x.node (header_of found).shape) one header.is_shape);
        }

    pub entry_watched : (position : ℕ) → word ≡ 2 * name + 1 + position / 2 → (e : Ref) → is_branch_or_list slot.node ≡ true → slice_get (entries_of slot.node) position ≡ Some e →
        Contains (entries_of slot.node) e → (entry : Entry) → entry ≡ entry_of (half_in (pair_of found) position) →
        (entry.slot ≡ place_of v.account e) × (entry.is_single ≡ is_single (node_at (now v).heap e))
    entry_watched position at_word e kind at_e c entry is =
        let says = says_pair v word found moment r there position (at_word ∙ ap (λ n. 2 * n + 1 + position / 2) (sym h.place)) slot position e used_then kind refl at_e in
        let lives_then = entry_lives v.sizes account r e slot (led_lives state (quiet.led r h.led)) used_then c in
        let lives = entry_lives v.sizes v.account r e slot (led_lives (now v) h.led) h.used c in
        let used = live_in_use v.sizes v.account (before v m.table m.kept m.id m.at) e lives in
        let said : Entry = record { slot = place_of account e; own = says.own; is_single = is_single (node_at state.heap e) } in
        let so : entry ≡ said = is ∙ ap entry_of says.code ∙ entry_back said (place_small v m.table m.kept e lives_then) in (
          ap (λ (x : Entry). x.slot) so ∙ quiet.places e used.0 used.1,
          ap (λ (x : Entry). x.is_single) so ∙ ap is_single (same_nodes (now v) state quiet.slots e),
        )

-- ---- what the seat is told

pub link_told : (v : View) (name found : ℕ) (after : View) → IsAlone v → IsIdle v → HasWatched v (2 * name) found after → HasWatchedLink v name ((link_of found).main.slot) after
link_told v name found after alone idle (m, is) = (
  subst (IsQuiet v) (sym is) (quiet v (2 * name) found m alone idle),
  λ r slot generation main h node. link_watched v (2 * name) found m alone idle r slot name h refl generation main node,
)

pub header_told : (v : View) (name found : ℕ) (after : View) → IsAlone v → IsIdle v → HasWatched v (2 * name) found after → HasWatchedHeader v name (header_of found) after
header_told v name found after alone idle (m, is) = (
  subst (IsQuiet v) (sym is) (quiet v (2 * name) found m alone idle),
  λ r slot h main. header_watched v (2 * name) found m alone idle r slot name h refl main,
)

pub entry_told : (v : View) (name position found : ℕ) (after : View) → IsAlone v → IsIdle v → HasWatched v (2 * name + 1 + position / 2) found after → (entry : Entry) →
    entry ≡ entry_of (half_in (pair_of found) position) → HasWatchedEntry v name position entry after
entry_told v name position found after alone idle (m, is) entry so = (
  subst (IsQuiet v) (sym is) (quiet v (2 * name + 1 + position / 2) found m alone idle),
  λ r slot e h kind at_e. entry_watched v (2 * name + 1 + position / 2) found m alone idle r slot name h position refl e kind at_e (got_in (entries_of slot.node) position e at_e) entry so,
)

-- ---- their words are the table's

pub watched_inside : (n : ℕ) (v : View) → IsSound n v → (name : ℕ) → IsLedIn v name → 2 * name < n
watched_inside n v sound name (r, slot, h) =
    let inside = used_inside n v sound r slot h.used in
    let two = two_words (class_of slot.node) (class_small slot.node) in
    let place = h.place in
    omega (arith, inside, two, place)

pub watched_pair : (n : ℕ) (v : View) → IsSound n v → (name position : ℕ) →
    ((r : Ref) × (slot : Slot) × IsLed v r slot name × (is_branch_or_list slot.node ≡ true) × (position < length (entries_of slot.node)) × (position < 32)) → 2 * name + 1 + position / 2 < n
watched_pair n v sound name position (r, slot, h, kind, low, small) =
    let inside = used_inside n v sound r slot h.used in
    let fits = entries_room n v sound slot.node position kind low small in
    let place = h.place in
    omega (arith, inside, fits, place)
