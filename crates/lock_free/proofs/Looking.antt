-- What loads of nodes find.
use Rattle.std.proofs.Common.{◌≡◌, ◌+◌, ◌*◌, ◌/◌, ◌^◌, ◌<◌, ℕ, Bool, true, List, [], ◌∷◌, Contains, slice_index, slice_get, Some, refl, sym, ap, subst, ◌∙◌, arith}
use Rattle.std.proofs.lemmas.Bool.{true≢false}
use Rattle.std.proofs.lemmas.List.Elements.{Contains-get_or}
use Rattle.std.proofs.lemmas.Option.{same_Some}
use Rattle.trie_words.specs.Codes.{header_of, link_of, link_code, pair_of}
use Rattle.machine_model.specs.Beneath.slot_arena.specs.declared.refs.Ref.{Ref}
use Rattle.machine_model.specs.Beneath.slot_arena.specs.declared.nodes.Node.{Node}
use Rattle.machine_model.specs.Beneath.slot_arena.specs.declared.nodes.Node.TheVariants.{Indirection, Branch, Single, Tomb, List as Listed}
use Rattle.machine_model.specs.Beneath.slot_arena.specs.declared.nodes.Slot.{Slot}
use Rattle.machine_model.specs.Beneath.slot_arena.specs.Heaps.{no_ref, entries_of}
use Rattle.machine_model.specs.Beneath.slot_arena.specs.Refs.{slot_of}
use Rattle.machine_model.specs.declared.actions.Action.{Action}
use Rattle.machine_model.specs.declared.actions.Action.TheVariants as act
use Rattle.machine_model.specs.Operations.{action_of}
use Rattle.machine_model.specs.States.{State}
use Rattle.proof_memory.specs.Wants.{is_main_node, is_branch_or_list}
use Rattle.lock_free.specs.declared.accounts.Account.{Account}
use Rattle.lock_free.specs.declared.rules.View.{View}
use Rattle.lock_free.specs.Accounts.{state_of, place_of, running, OwnIs}
use Rattle.lock_free.specs.Loading.{Moment, now, IsAt, HasSeen, HasGone, Holds, Stores, HasHeader, HasLink, SaysMain, SaysLink, SaysKey, SaysValue, SaysPair, IsAtSlot, Went, Saw, SameSlots}
use Rattle.lock_free.specs.Nodes.{StandsAs, InTable, SaysHeader, IsEntryOf, half_of}
use Rattle.lock_free.proofs.Asked.{links_of, mains_of, link_stands, main_stands, looked_at_lives}
use Rattle.lock_free.proofs.Definition.{IsReading, reads_of}
use Rattle.lock_free.proofs.Decoding.{header_found, link_found}
use Rattle.lock_free.proofs.Moments.{IsThere, is_there, its_place, held_there, stands_there, waited_so, before}

pub one_named : (r : Ref) → Contains (r ∷ []) r
one_named r = Contains-get_or (r ∷ []) 0 r (omega arith)

-- ---- what a node's words say

module _ (account : Account) (state : State) (words : List ℕ) (name k : ℕ) (slot : Slot) where
  header_in : (node : Node) → is_main_node node ≡ true → StandsAs account state (InTable words) name k slot node → SaysHeader account state k slot (slice_index words (2 * name))
  header_in (Indirection generation main) is h = absurd (true≢false (sym is))
  header_in (Single key value) is h = absurd (true≢false (sym is))
  header_in (Branch bitmap entries) is h = subst (λ w. SaysHeader account state k slot w) (sym h.0.1) h.0.2
  header_in (Tomb single) is h = subst (λ w. SaysHeader account state k slot w) (sym h.1) h.2
  header_in (Listed singles) is h = subst (λ w. SaysHeader account state k slot w) (sym h.0.1) h.0.2

  pair_in : (position : ℕ) (node : Node) → is_branch_or_list node ≡ true → StandsAs account state (InTable words) name k slot node → (n : ℕ) (e : Ref) → n / 2 ≡ position / 2 → slice_get
      (entries_of node) n ≡ Some e →
      IsEntryOf account state.heap e (half_of (slice_index words (2 * name + 1 + position / 2)) n)
  pair_in position (Branch bitmap entries) is h n e same at =
      let x = h.1 n e at in subst (λ w. IsEntryOf account state.heap e (half_of w n)) (sym x.1 ∙ ap (λ m. slice_index words (2 * name + 1 + m)) same) x.2
  pair_in position (Listed singles) is h n e same at =
      let x = h.1 n e at in subst (λ w. IsEntryOf account state.heap e (half_of w n)) (sym x.1 ∙ ap (λ m. slice_index words (2 * name + 1 + m)) same) x.2
  pair_in position (Indirection generation main) is h n e same at = absurd (true≢false (sym is))
  pair_in position (Single key value) is h n e same at = absurd (true≢false (sym is))
  pair_in position (Tomb single) is h n e same at = absurd (true≢false (sym is))

-- ---- at the moment of a load

module _ (v : View) (word found : ℕ) (m : Moment v word found) where
  abbrev pub account : Account
  account = m.kept.account

  abbrev pub state : State
  state = state_of v.sizes account

  abbrev pub There : Ref → Type 0
  There r = IsThere v m.table m.kept m.id m.at r

  module _ (r : Ref) (h : There r) where
    -- its words, where the seat knows them
    stands : StandsAs account state (InTable m.table.words) (place_of v.account r) (slot_of r) h.slot h.slot.node
    stands =
        subst (λ p. StandsAs account state (InTable m.table.words) p (slot_of r) h.slot h.slot.node) (its_place v m.table m.kept m.id m.at r h)
        (stands_there v m.table m.kept m.id m.at r h.slot h.lives h.used)

    stands_so : (slot : Slot) → Stores state r slot → StandsAs account state (InTable m.table.words) (place_of v.account r) (slot_of r) slot slot.node
    stands_so slot is = subst (λ x. StandsAs account state (InTable m.table.words) (place_of v.account r) (slot_of r) x x.node) (same_Some h.slot slot (sym h.used ∙ is)) stands

    is_found : (at : ℕ) → word ≡ at → slice_index m.table.words at ≡ found
    is_found at its = ap (slice_index m.table.words) (sym its) ∙ m.finds

    pub header_at : is_main_node h.slot.node ≡ true → word ≡ 2 * place_of v.account r → SaysHeader account state (slot_of r) h.slot found
    header_at main its =
        subst (λ w. SaysHeader account state (slot_of r) h.slot w) (is_found (2 * place_of v.account r) its)
        (header_in account state m.table.words (place_of v.account r) (slot_of r) h.slot h.slot.node main stands)

    pub link_at : word ≡ 2 * place_of v.account r → (generation : ℕ) (main : Ref) → h.slot.node ≡ Indirection generation main →
        (generation < 2 ^ 36) × ((own : Bool) × OwnIs account.owned (slot_of r) (slot_of main) own ×
        (found ≡ link_code (record { generation = generation; main = record { slot = place_of account main; own = own } })))
    link_at its generation main node =
        let link = subst (λ n. StandsAs account state (InTable m.table.words) (place_of v.account r) (slot_of r) h.slot n) node stands in
        (link.0, (link.1.0, link.1.1, sym (is_found (2 * place_of v.account r) its) ∙ link.1.2))

    pub says_main : word ≡ 2 * place_of v.account r → SaysMain account state r (header_of found)
    says_main its slot is main =
        header_found v m.table m.kept r slot h.lives is found main
        (subst (λ w. SaysHeader account state (slot_of r) slot w) (is_found (2 * place_of v.account r) its)
        (header_in account state m.table.words (place_of v.account r) (slot_of r) slot slot.node main (stands_so slot is)))

    pub says_link : word ≡ 2 * place_of v.account r → SaysLink account state r (link_of found)
    says_link its slot generation main is node =
        let h_link = subst (λ n. StandsAs account state (InTable m.table.words) (place_of v.account r) (slot_of r) slot n) node (stands_so slot is) in
        link_found v m.table m.kept r slot h.lives is found generation main h_link.1.0 node h_link.0 h_link.1.1 (sym (is_found (2 * place_of v.account r) its) ∙ h_link.1.2)

    pub says_key : word ≡ 2 * place_of v.account r → SaysKey state r found
    says_key its slot key value is node =
        let single = subst (λ n. StandsAs account state (InTable m.table.words) (place_of v.account r) (slot_of r) slot n) node (stands_so slot is) in sym (is_found (2 * place_of v.account r) its) ∙
        single.0

    pub says_value : word ≡ 2 * place_of v.account r + 1 → SaysValue state r found
    says_value its slot key value is node =
        let single = subst (λ n. StandsAs account state (InTable m.table.words) (place_of v.account r) (slot_of r) slot n) node (stands_so slot is) in sym
        (is_found (2 * place_of v.account r + 1) its) ∙ single.1

    pub says_pair : (position : ℕ) → word ≡ 2 * place_of v.account r + 1 + position / 2 → SaysPair account state r position (pair_of found)
    says_pair position its slot n e is kind same at =
        subst (λ w. IsEntryOf account state.heap e (half_of w n)) (is_found (2 * place_of v.account r + 1 + position / 2) its)
        (pair_in account state m.table.words (place_of v.account r) (slot_of r) slot position slot.node kind (stands_so slot is) n e same at)

  -- what the operation's action names is there
  module _ (does : Action) (p : IsAt v does) where
    pub o_there : (mark : Bool) × running v.sizes account v.actor (record p.operation { is_marked = mark }) ×
        (action_of state (record p.operation { is_marked = mark }) ≡ action_of (now v) p.operation)
    o_there = (waited_so v m.table m.kept m.id m.at).stays p.operation p.runs

    pub acts_there : action_of state (record p.operation { is_marked = o_there.0 }) ≡ does
    acts_there = o_there.2 ∙ p.acts

  pub look_there : (r : Ref) → IsAt v (act.Look r) → There r
  look_there r p =
      is_there v m.table m.kept m.id m.at r (looked_at_lives v.sizes v.account (before v m.table m.kept m.id m.at) v.actor p.operation p.runs r p.acts)
      (looked_at_lives v.sizes account m.kept.bounds v.actor (record p.operation { is_marked = (o_there (act.Look r) p).0 }) (o_there (act.Look r) p).1 r (acts_there (act.Look r) p))

  -- a main node or an indirection that it names
  pub main_there : (does : Action) (r : Ref) → Contains (mains_of does) r → IsAt v does → (h : There r) × (is_main_node h.slot.node ≡ true)
  main_there does r c p =
      let first = main_stands v.sizes v.account (before v m.table m.kept m.id m.at) v.actor p.operation p.runs r (subst (λ a. Contains (mains_of a) r) (sym p.acts) c) in
      let o = o_there does p in
      let second = main_stands v.sizes account m.kept.bounds v.actor (record p.operation { is_marked = o.0 }) o.1 r (subst (λ a. Contains (mains_of a) r) (sym (acts_there does p)) c) in
      (record { was = first.1.0; was_used = first.1.1; was_live = first.0; lives = second.0; slot = second.1.0; used = second.1.1 }, second.1.2)

  pub link_there : (does : Action) (r : Ref) → Contains (links_of does) r → IsAt v does → (h : There r) × (generation : ℕ) × (main : Ref) × (h.slot.node ≡ Indirection generation main)
  link_there does r c p =
      let first = link_stands v.sizes v.account (before v m.table m.kept m.id m.at) v.actor p.operation p.runs r (subst (λ a. Contains (links_of a) r) (sym p.acts) c) in
      let o = o_there does p in
      let second = link_stands v.sizes account m.kept.bounds v.actor (record p.operation { is_marked = o.0 }) o.1 r (subst (λ a. Contains (links_of a) r) (sym (acts_there does p)) c) in
      (record { was = first.1.0; was_used = first.1.3; was_live = first.0; lives = second.0; slot = second.1.0; used = second.1.3 }, second.1.1, second.1.2, second.1.4)

-- ---- what the seat is told

-- what its action is
pub same_action : (v : View) (a b : Action) → IsAt v a → IsAt v b → a ≡ b
same_action v a b p q = sym p.acts ∙ ap (action_of (now v)) (same_Some p.operation q.operation (sym p.runs ∙ q.runs)) ∙ q.acts

-- the node that a load's action names
abbrev read_by : Action → Ref
read_by (act.ReadMain i) = i
read_by (act.ReadPrev m) = m
read_by (act.Look r) = r
read_by action = no_ref

-- by a step
module _ (before : View) (name word found : ℕ) (after : View) (g : HasGone before word found after) where
  abbrev pub went : Went before after
  went = record { account = g.0.kept.account; waited = waited_so before g.0.table g.0.kept g.0.id g.0.at; after_is = g.1; took = g.2 }

  -- it changed no node
  pub same_slots : (does : Action) → IsReading does → IsAt before does → SameSlots (state_of before.sizes g.0.kept.account) (now after)
  same_slots does reading p =
      let o = o_there before word found g.0 does p in
      let reads = reads_of before.sizes g.0.kept.account g.0.kept.bounds before.actor (record p.operation { is_marked = o.0 }) o.1
      (subst IsReading (sym (acts_there before word found g.0 does p)) reading) in
      subst (λ (x : View). SameSlots (state_of before.sizes g.0.kept.account) (now x)) (sym g.1) reads.nodes

  -- where it was to do that to the node in this slot
  module _ (does : Ref → Action) (names : (r : Ref) → read_by (does r) ≡ r) (is_at : IsAtSlot before does name) (r : Ref) (p : IsAt before (does r)) where
    its_slot : name ≡ place_of before.account r
    its_slot =
        let same : is_at.0 ≡ r = sym (names is_at.0) ∙ ap read_by (same_action before (does is_at.0) (does r) is_at.1 p) ∙ names r in
        sym is_at.2 ∙ ap (place_of before.account) same

  module _ (is_at : IsAtSlot before act.Look name) where
    abbrev looked_at : (Account → State → Ref → Type 0) → Type 0
    looked_at Says = (r : Ref) (p : IsAt before (act.Look r)) → Says g.0.kept.account (state_of before.sizes g.0.kept.account) r × SameSlots (state_of before.sizes g.0.kept.account) (now after)

    slot_is : (r : Ref) → IsAt before (act.Look r) → name ≡ place_of before.account r
    slot_is r p = its_slot act.Look (λ q. refl) is_at r p

    pub looked_main : word ≡ 2 * name → looked_at (λ account state r. SaysMain account state r (header_of found))
    looked_main its r p = (says_main before word found g.0 r (look_there before word found g.0 r p) (its ∙ ap (λ n. 2 * n) (slot_is r p)), same_slots (act.Look r) tt p)

    pub looked_link : word ≡ 2 * name → looked_at (λ account state r. SaysLink account state r (link_of found))
    looked_link its r p = (says_link before word found g.0 r (look_there before word found g.0 r p) (its ∙ ap (λ n. 2 * n) (slot_is r p)), same_slots (act.Look r) tt p)

    pub looked_key : word ≡ 2 * name → looked_at (λ account state r. SaysKey state r found)
    looked_key its r p = (says_key before word found g.0 r (look_there before word found g.0 r p) (its ∙ ap (λ n. 2 * n) (slot_is r p)), same_slots (act.Look r) tt p)

    pub looked_value : word ≡ 2 * name + 1 → looked_at (λ account state r. SaysValue state r found)
    looked_value its r p = (says_value before word found g.0 r (look_there before word found g.0 r p) (its ∙ ap (λ n. 2 * n + 1) (slot_is r p)), same_slots (act.Look r) tt p)

  pub header_read : IsAtSlot before act.ReadPrev name → word ≡ 2 * name → (r : Ref) → IsAt before (act.ReadPrev r) →
      HasHeader g.0.kept.account (state_of before.sizes g.0.kept.account) r (header_of found) × SameSlots (state_of before.sizes g.0.kept.account) (now after)
  header_read is_at its r p =
      let there = main_there before word found g.0 (act.ReadPrev r) r (one_named r) p in
      (says_main before word found g.0 r there.0 (its ∙ ap (λ n. 2 * n) (its_slot act.ReadPrev (λ q. refl) is_at r p)) there.0.slot there.0.used there.1, same_slots (act.ReadPrev r) tt p)

  pub link_read : IsAtSlot before act.ReadMain name → word ≡ 2 * name → (r : Ref) → IsAt before (act.ReadMain r) →
      HasLink g.0.kept.account (state_of before.sizes g.0.kept.account) r (link_of found) × SameSlots (state_of before.sizes g.0.kept.account) (now after)
  link_read is_at its r p =
      let there = link_there before word found g.0 (act.ReadMain r) r (one_named r) p in (
        says_link before word found g.0 r there.0 (its ∙ ap (λ n. 2 * n) (its_slot act.ReadMain (λ q. refl) is_at r p)) there.0.slot there.1 there.2 there.0.used there.3,
        same_slots
            (act.ReadMain r) tt p,
      )

-- by none
module _ (before : View) (name word found : ℕ) (after : View) (h : HasSeen before word found after) where
  abbrev pub saw : Saw before after
  saw = record { account = h.0.kept.account; waited = waited_so before h.0.table h.0.kept h.0.id h.0.at; after_is = h.1 }

  abbrev held_at : (Account → State → Ref → Type 0) → Type 0
  held_at Says = (r : Ref) → Holds before r → place_of before.account r ≡ name → Says h.0.kept.account (state_of before.sizes h.0.kept.account) r

  held : (r : Ref) → Holds before r → There before word found h.0 r
  held r holds = held_there before h.0.table h.0.kept h.0.id h.0.at r holds

  pub seen_main : word ≡ 2 * name → held_at (λ account state r. SaysMain account state r (header_of found))
  seen_main its r holds place = says_main before word found h.0 r (held r holds) (its ∙ ap (λ n. 2 * n) (sym place))

  pub seen_link : word ≡ 2 * name → held_at (λ account state r. SaysLink account state r (link_of found))
  seen_link its r holds place = says_link before word found h.0 r (held r holds) (its ∙ ap (λ n. 2 * n) (sym place))

  pub seen_key : word ≡ 2 * name → held_at (λ account state r. SaysKey state r found)
  seen_key its r holds place = says_key before word found h.0 r (held r holds) (its ∙ ap (λ n. 2 * n) (sym place))

  pub seen_pair : (position : ℕ) → word ≡ 2 * name + 1 + position / 2 → held_at (λ account state r. SaysPair account state r position (pair_of found))
  seen_pair position its r holds place = says_pair before word found h.0 r (held r holds) position (its ∙ ap (λ n. 2 * n + 1 + position / 2) (sym place))
