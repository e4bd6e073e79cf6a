-- Nodes that an operation holds are one where their slots are.
use Rattle.std.proofs.Common.{◌≡◌, ◌<◌, ◌==◌, ◌+◌, ◌*◌, ◌/◌, ℕ, Bool, true, false, get_or, length, refl, sym, ap, subst, ◌∙◌, eq-eqb, eqb-true, ne_eqb}
use Rattle.std.proofs.lemmas.Bool.{true≢false}
use Rattle.std.proofs.lemmas.List.Elements.{Contains-get_or}
use Rattle.std.proofs.lemmas.Option.{slice_get-get_or}
use Rattle.trie_words.specs.Codes.{entry_of, pair_of}
use Rattle.trie_words.specs.declared.entries.Entry.{Entry}
use Rattle.trie_words.proofs.Parts.{entry_back}
use Rattle.machine_model.specs.Beneath.slot_arena.specs.declared.refs.Ref.{Ref}
use Rattle.machine_model.specs.Beneath.slot_arena.specs.declared.nodes.Slot.{Slot}
use Rattle.machine_model.specs.Beneath.slot_arena.specs.Heaps.{no_ref, node_at, entry_at, entries_of}
use Rattle.machine_model.specs.Beneath.slot_arena.specs.Refs.{slot_of}
use Rattle.machine_model.specs.States.{State}
use Rattle.proof_memory.specs.Wants.{is_main_node, is_branch_or_list}
use Rattle.lock_free.specs.declared.accounts.Account.{Account}
use Rattle.lock_free.specs.declared.rules.View.{View}
use Rattle.lock_free.specs.Accounts.{state_of, place_of}
use Rattle.lock_free.specs.Climbs.{HasCompared}
use Rattle.lock_free.specs.Entries.{HasStayed}
use Rattle.lock_free.specs.Live.{IsLive}
use Rattle.lock_free.specs.Loading.{now, seen, IsUsed, IsSound, Holds, HasSeen}
use Rattle.lock_free.specs.Nodes.{half_in, is_single}
use Rattle.lock_free.specs.Passing.{Later}
use Rattle.lock_free.specs.Places.{words_of}
use Rattle.lock_free.proofs.Asked.{live_in_use, slots_tell}
use Rattle.lock_free.proofs.Comings.{saw_runs}
use Rattle.lock_free.proofs.EntryLooks.{slot_small}
use Rattle.lock_free.proofs.GivenBack.{node_is}
use Rattle.lock_free.proofs.Laters.{main_kind, saw_later, waited_later}
use Rattle.lock_free.proofs.Looking.{saw, seen_pair}
use Rattle.lock_free.proofs.LastingNodes.{entry_lives}
use Rattle.lock_free.proofs.Moments.{IsThere, held_there, its_place}
use Rattle.lock_free.proofs.Verdicts.{main_same}

module _ (n : ℕ) (v : View) (sound : IsSound n v) (name position other found : ℕ) (after : View) (h : HasSeen v (2 * name + 1 + position / 2) found after) where
  abbrev there : Account
  there = h.0.kept.account

  abbrev state : State
  state = state_of v.sizes there

  -- live nodes in one slot are one
  apart : (q r : Ref) → IsLive state q → IsLive state r → place_of there q ≡ place_of there r → q ≡ r
  apart q r lives_q lives_r same =
      let a = live_in_use v.sizes there h.0.kept.bounds q lives_q in
      let b = live_in_use v.sizes there h.0.kept.bounds r lives_r in
      slots_tell v.sizes there h.0.kept.bounds q r lives_q lives_r
      (h.0.kept.nodes.apart (slot_of q) (slot_of r) a.0 b.0 (h.0.kept.nodes.live q lives_q, a.1) (h.0.kept.nodes.live r lives_r, b.1) same)

  is_there : (r : Ref) → Holds v r → IsThere v h.0.table h.0.kept h.0.id h.0.at r
  is_there r holds = held_there v h.0.table h.0.kept h.0.id h.0.at r holds

  by_place : (q r : Ref) → IsLive state q → IsLive state r → (place_of there q == place_of there r) ≡ (q == r)
  by_place q r lives_q lives_r = by_test (place_of there q == place_of there r) refl
    where
      by_test : (b : Bool) → (place_of there q == place_of there r) ≡ b → (place_of there q == place_of there r) ≡ (q == r)
      by_test true e = e ∙ sym (eq-eqb q r (apart q r lives_q lives_r (eqb-true (place_of there q) (place_of there r) e)))
      by_test false e = e ∙ sym (ne_eqb q r (λ same. true≢false (sym (eq-eqb (place_of there q) (place_of there r) (ap (place_of there) same)) ∙ e)))

  later : Later v (seen v there)
  later = waited_later n v sound there (saw v name (2 * name + 1 + position / 2) found after h).waited

  stayed : HasStayed v after
  stayed = record { later = saw_later n v sound after (saw v name (2 * name + 1 + position / 2) found after h); comes = saw_runs v after (saw v name (2 * name + 1 + position / 2) found after h) }

  pub compared : (e : Entry) → e ≡ entry_of (half_in (pair_of found) position) → HasCompared v name position other (e.slot == other) after
  compared e is = (stayed, λ r i slot holds used is_main kind inside placed holds_i placed_i. same r i slot holds used is_main kind inside placed holds_i placed_i)
    where
      same : (r i : Ref) (slot : Slot) → Holds v r → IsUsed v r slot → is_main_node slot.node ≡ true → is_branch_or_list slot.node ≡ true → position < length (entries_of slot.node) →
          place_of v.account r ≡
          name → Holds v i → place_of v.account i ≡ other → (e.slot == other) ≡ (entry_at (now v).heap r position == i)
      same r i slot holds used is_main kind inside placed holds_i placed_i =
          let y = later.nodes r slot used in
          let node_so = main_same slot.node y.0.node y.2 (main_kind slot.node y.0.node y.2 is_main) in
          let q = get_or (entries_of y.0.node) position no_ref in
          let inside_y = subst (λ x. position < length (entries_of x)) (sym node_so) inside in
          let says = seen_pair v name (2 * name + 1 + position / 2) found after h position refl r holds placed y.0 position q y.1 (subst (λ x. is_branch_or_list x ≡ true) (sym node_so) kind) refl
          (slice_get-get_or (entries_of y.0.node) position no_ref inside_y) in
          let lives_q = entry_lives v.sizes there r q y.0 (is_there r holds).lives y.1 (Contains-get_or (entries_of y.0.node) position no_ref inside_y) in
          let used_q = live_in_use v.sizes there h.0.kept.bounds q lives_q in
          let said : Entry = record { slot = place_of there q; own = says.own; is_single = is_single (node_at state.heap q) } in
          let entry_so : e ≡ said =
          is ∙ ap entry_of says.code ∙ entry_back said (slot_small (words_of v.sizes) (seen v there) (saw v name (2 * name + 1 + position / 2) found after h).waited.sound q used_q.0 used_q.1) in
          let place_i : place_of there i ≡ other = its_place v h.0.table h.0.kept h.0.id h.0.at i (is_there i holds_i) ∙ placed_i in
          let entry_is : q ≡ entry_at (now v).heap r position = ap (λ x. get_or (entries_of x) position no_ref) (node_so ∙ sym (node_is (now v) r slot used)) in
          ap (λ (x : Entry). x.slot == other) entry_so ∙ ap (λ p. place_of there q == p) (sym place_i) ∙ by_place q i lives_q (is_there i holds_i).lives ∙ ap (λ x. x == i) entry_is
