-- What stands in an indirection's word, and what an exchange of it finds.
use Rattle.history.specs.declared.calls.Call.{Call}
use Rattle.std.proofs.Common.{◌≡◌, ◌≢◌, ◌*◌, ◌^◌, ◌<◌, ℕ, Bool, true, false, [], ◌∷◌, Contains, get_or, Some, None, sym, ap, subst, ◌∙◌, arith}
use Rattle.std.proofs.lemmas.List.Elements.{Contains-get_or, Contains-append_left}
use mathlib.Core.Option.{some}
use lib.ListN.{get_elem?}
use Rattle.atomic_table.specs.Table as Table
use Rattle.trie_words.specs.Codes.{bit, IsLink, link_code}
use Rattle.trie_words.specs.declared.links.Link.{Link}
use Rattle.machine_model.specs.Beneath.slot_arena.specs.declared.refs.Ref.{Ref}
use Rattle.machine_model.specs.Beneath.slot_arena.specs.declared.nodes.Node.{Node}
use Rattle.machine_model.specs.Beneath.slot_arena.specs.declared.nodes.Node.TheVariants.{Indirection, Branch, Single, Tomb, List as Listed}
use Rattle.machine_model.specs.Beneath.slot_arena.specs.declared.nodes.Slot.{Slot}
use Rattle.machine_model.specs.Beneath.slot_arena.specs.Heaps.{node_at, node_of, stored, main_of, main_at, generation_of, generation_at, refs_of_node, refs_of_prev}
use Rattle.machine_model.specs.Beneath.slot_arena.specs.Refs.{slot_of}
use Rattle.machine_model.specs.declared.actions.Action.{Action}
use Rattle.machine_model.specs.States.{State}
use Rattle.proof_memory.specs.Laws.{SameNode}
use Rattle.lock_free.specs.declared.accounts.Account.{Account}
use Rattle.lock_free.specs.declared.rules.View.{View}
use Rattle.lock_free.specs.Accounts.{state_of, place_of, OwnIs}
use Rattle.lock_free.specs.Exchanging.{IsLinkTo}
use Rattle.lock_free.specs.Live.{IsLive}
use Rattle.lock_free.specs.Loading.{Moment, now, IsAt}
use Rattle.lock_free.specs.Rules.{IsKept}
use Rattle.lock_free.proofs.Asked.{links_of, mains_of, nodes_stay, slots_tell, live_in_use}
use Rattle.lock_free.proofs.Decoding.{place_small, node_lives}
use Rattle.lock_free.proofs.Looking.{main_there, link_there, link_at}
use Rattle.lock_free.proofs.Moments.{IsThere, its_place, still_own, seat}

-- ---- its generation stays

pub generations : (before after : Node) → SameNode before after → generation_of after ≡ generation_of before
generations (Indirection generation main) after same = ap generation_of same.1
generations (Branch bitmap entries) after same = ap generation_of same.1
generations (Single key value) after same = ap generation_of same.1
generations (Tomb single) after same = ap generation_of same.1
generations (Listed singles) after same = ap generation_of same.1

pub generation_is : (state : State) (r : Ref) (slot : Slot) → get_or state.heap.slots (slot_of r) None ≡ Some slot → generation_at state.heap r ≡ generation_of slot.node
unfolding node_at stored
generation_is state r slot is = ap (λ x. generation_of (node_of x)) is

pub main_is : (state : State) (r : Ref) (slot : Slot) → get_or state.heap.slots (slot_of r) None ≡ Some slot → main_at state.heap r ≡ main_of slot.node
unfolding node_at stored
main_is state r slot is = ap (λ x. main_of (node_of x)) is

module _ (v : View) (s : Table.State Call View) (kept : IsKept v.sizes s) (id : ℕ) (at : get_elem? s.views id ≡ some v) (i : Ref) (h : IsThere v s kept id at i) where
  pub same_generation : generation_at (state_of v.sizes kept.account).heap i ≡ generation_at (now v).heap i
  same_generation =
      let later = nodes_stay v.sizes v.actor v.account kept.account (seat v s kept id at).waited kept.bounds (slot_of i) h.was h.was_used in
      generation_is (state_of v.sizes kept.account) i later.0 later.1 ∙ generations h.was.node later.0.node later.2 ∙ sym (generation_is (now v) i h.was h.was_used)

bit_small : (b : Bool) → bit b < 2
bit_small true = omega arith
bit_small false = omega arith

-- two links of one generation with one code name one slot
one_slot : (g a b : ℕ) (p q : Bool) → a < 2 ^ 27 → b < 2 ^ 27 →
    link_code (record { generation = g; main = record { slot = a; own = p } }) ≡ link_code (record { generation = g; main = record { slot = b; own = q } }) → a ≡ b
one_slot g a b p q low small e = let x = bit_small p in let y = bit_small q in omega (arith, e, low, small, x, y)

-- ---- what an exchange finds

-- the operation's action names this indirection, and this main node, which stands there or not
module _ (v : View) (word found : ℕ) (m : Moment v word found) (does : Action) (p : IsAt v does) (i main : Ref) (link_in : Contains (links_of does) i) (main_in : Contains (mains_of does) main)
    (its_word : word ≡ 2 * place_of v.account i) (link : Link) (fits : IsLink link) (is : IsLinkTo v i main link) where
  abbrev account : Account
  account = m.kept.account

  abbrev state : State
  state = state_of v.sizes account

  abbrev pub i_there : (h : IsThere v m.table m.kept m.id m.at i) × (generation : ℕ) × (current : Ref) × (h.slot.node ≡ Indirection generation current)
  i_there = link_there v word found m does i link_in p

  abbrev current : Ref
  current = i_there.2

  main_there_is : IsThere v m.table m.kept m.id m.at main
  main_there_is = (main_there v word found m does main main_in p).0

  stands_there_now : main_at state.heap i ≡ current
  stands_there_now = main_is state i i_there.0.slot i_there.0.used ∙ ap main_of i_there.3

  pub generation_now : i_there.1 ≡ link.generation
  generation_now =
      sym (generation_is state i i_there.0.slot i_there.0.used ∙ ap generation_of i_there.3) ∙ same_generation v m.table m.kept m.id m.at i i_there.0 ∙ sym is.generation

  says : (i_there.1 < 2 ^ 36) × ((own : Bool) × OwnIs account.owned (slot_of i) (slot_of current) own ×
      (found ≡ link_code (record { generation = i_there.1; main = record { slot = place_of account current; own = own } })))
  says = link_at v word found m i i_there.0 its_word i_there.1 current i_there.3

  place_now : place_of account main ≡ link.main.slot
  place_now = its_place v m.table m.kept m.id m.at main main_there_is ∙ is.names.place

  pub hit : main_at state.heap i ≡ main → found ≡ link_code link
  hit stands =
      let same : current ≡ main = sym stands_there_now ∙ stands in
      let own = m.kept.nodes.owners.once (slot_of i) (slot_of main) says.1.0 link.main.own (subst (λ r. OwnIs account.owned (slot_of i) (slot_of r) says.1.0) same says.1.1)
      (still_own v m.table m.kept m.id m.at (slot_of i) (slot_of main) link.main.own is.names.is_own) in
      says.1.2 ∙ ap (λ g. link_code (record { generation = g; main = record { slot = place_of account current; own = says.1.0 } })) generation_now
      ∙ ap (λ n. link_code (record { generation = link.generation; main = record { slot = n; own = says.1.0 } })) (ap (place_of account) same ∙ place_now)
      ∙ ap (λ b. link_code (record { generation = link.generation; main = record { slot = link.main.slot; own = b } })) own

  current_lives : IsLive state current
  current_lives =
      node_lives v m.table m.kept i current i_there.0.slot i_there.0.lives i_there.0.used
      (Contains-append_left (refs_of_node i_there.0.slot.node) (refs_of_prev i_there.0.slot.prev) current
      (subst (λ n. Contains (refs_of_node n) current) (sym i_there.3) (Contains-get_or (current ∷ []) 0 current (omega arith))))

  pub miss : main_at state.heap i ≢ main → found ≢ link_code link
  miss other e =
      let places : place_of account current ≡ link.main.slot =
      one_slot link.generation (place_of account current) link.main.slot says.1.0 link.main.own (place_small v m.table m.kept current current_lives) fits.1
      (ap (λ g. link_code (record { generation = g; main = record { slot = place_of account current; own = says.1.0 } })) (sym generation_now) ∙ sym says.1.2 ∙ e) in
      let used = live_in_use v.sizes account m.kept.bounds current current_lives in
      let one = m.kept.nodes.apart (slot_of current) (slot_of main) used.0 main_there_is.slot (m.kept.nodes.live current current_lives, used.1)
      (m.kept.nodes.live main main_there_is.lives, main_there_is.used) (places ∙ sym place_now) in
      other (stands_there_now ∙ slots_tell v.sizes account m.kept.bounds current main current_lives main_there_is.lives one)
