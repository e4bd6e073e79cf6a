-- A node is written in the last free slot of its class, and made there.
use Rattle.std.proofs.Common.{◌≡◌, ◌<◌, ◌≤◌, ◌*◌, ◌+◌, ◌++◌, ◌∷◌, ◌^◌, ℕ, Bool, true, [], Some, refl, sym, ap, subst, ◌∙◌, length, Contains, arith}
use Rattle.std.proofs.lemmas.List.{same_from_push}
use Rattle.std.proofs.lemmas.List.Elements.{Contains-push}
use Rattle.std.proofs.lemmas.Option.{same_Some}
use Rattle.trie_words.specs.Codes.{link_code, IsLink}
use Rattle.trie_words.specs.declared.names.Name.{Name}
use Rattle.machine_model.specs.Beneath.slot_arena.specs.declared.refs.Ref.{Ref}
use Rattle.machine_model.specs.Beneath.slot_arena.specs.declared.nodes.Node.{Node}
use Rattle.machine_model.specs.Beneath.slot_arena.specs.declared.nodes.Node.TheVariants.{Indirection, Single}
use Rattle.machine_model.specs.Beneath.slot_arena.specs.Heaps.{empty_branch, entries_of}
use Rattle.machine_model.specs.declared.actions.Action.{Action}
use Rattle.machine_model.specs.declared.actions.Action.TheVariants as act
use Rattle.machine_model.specs.declared.operations.Operation.{Operation}
use Rattle.machine_model.specs.Operations.{action_of}
use Rattle.lock_free.specs.declared.accounts.Account.{Account}
use Rattle.lock_free.specs.declared.rules.View.{View}
use Rattle.lock_free.specs.Accounts.{place_of, running}
use Rattle.lock_free.specs.Becoming.{HasNew}
use Rattle.lock_free.specs.Loading.{now, IsAt, IsSound, Took}
use Rattle.lock_free.specs.Making.{over_of, Drafted, DraftsNode, made_by}
use Rattle.lock_free.specs.Nodes.{class_of}
use Rattle.lock_free.specs.Passing.{IsPlaced}
use Rattle.lock_free.specs.Places.{words_in}
use Rattle.lock_free.specs.Rules.{IsFree, pool_of}
use Rattle.lock_free.specs.SeenEntries.{HasMadeNext}
use Rattle.lock_free.specs.Reclaiming.{kind_of_node}
use Rattle.lock_free.specs.Stocks.{Stocked, IsStock, NotesLast, HasSlot}
use Rattle.lock_free.specs.Owning.{MayOwn}
use Rattle.lock_free.specs.Storing.{IsOwnWord, drafted, IsAtMake, IsAdded, HasMade}
use Rattle.lock_free.proofs.LimboStays.{limbo_so}
use Rattle.lock_free.proofs.EntryLooks.{slot_small}
use Rattle.lock_free.proofs.NewNodes.{has_new, stock_made}
use Rattle.lock_free.proofs.Pools.{first_there}

-- one operation runs, and does one thing
node_in : Action → Node
node_in (act.Make node) = node
node_in action = empty_branch

pub one_node : (v : View) (a b : Node) → IsAt v (act.Make a) → IsAt v (act.Make b) → a ≡ b
unfolding node_in
one_node v a b p q = ap node_in (sym p.acts ∙ ap (action_of (now v)) (same_Some p.operation q.operation (sym p.runs ∙ q.runs)) ∙ q.acts)

-- the seat has a slot for the node, and has written in it
module _ (before : View) (class name : ℕ) (mid : View) (slot : HasSlot before class name mid) (d : View) (d_is : d ≡ record mid { drafts = d.drafts }) where
  pub moved : d ≡ record before { pool = mid.pool; drafts = d.drafts }
  moved = d_is ∙ ap (λ (x : View). record x { drafts = d.drafts }) slot.is

  pub at_there : (does : Action) → IsAt before does → IsAt d does
  at_there does p = subst (λ x. IsAt x does) (sym moved) (record { operation = p.operation; runs = p.runs; acts = p.acts })

  pub pool_is : pool_of d.pool class ≡ slot.last.0 ++ name ∷ []
  pool_is = ap (λ (x : View). pool_of x.pool class) d_is ∙ slot.last.1

  pub free_there : class < 3 → IsFree d class name
  free_there low = (low, subst (λ xs. Contains xs name) (sym pool_is) (Contains-push slot.last.0 name))

  pub own_word : class < 3 → (word : ℕ) → 2 * name ≤ word → word < 2 * name + words_in class → IsOwnWord d word
  own_word small word low high = (class, name, free_there small, low, high)

  module _ (node : Node) (p : IsAt before (act.Make node)) (its_class : class ≡ class_of node) where
    -- it is ready to be made
    pub ready : (word value : ℕ) (own : Bool) → length (entries_of node) ≤ 32 → 2 * name ≤ word → word < 2 * name + words_in class →
        DraftsNode d.account (now d).heap (over_of p.operation.line) (Drafted d.drafts word value) name own node → MayOwn p.operation.line node own → IsAtMake d word value
    ready word value own small low high drafts owns =
        let q = at_there (act.Make node) p in (
          node,
          slot.last.0,
          name,
          own,
          q,
          record {
            last = ap (pool_of d.pool) (sym its_class) ∙ pool_is;
            small = small;
            low = low;
            high = subst (λ c. word < 2 * name + words_in c) its_class high;
            drafts = subst (λ (o : Operation). DraftsNode d.account (now d).heap (over_of o.line) (Drafted d.drafts word value) name own node) its_operation drafts;
            owns = subst (λ (o : Operation). MayOwn o.line node own) its_operation owns;
          },
        )
      where
        its_operation : p.operation ≡ (at_there (act.Make node) p).operation
        its_operation = same_Some p.operation _ (sym (subst (λ (x : View). running x.sizes x.account x.actor p.operation) (sym moved) p.runs) ∙ (at_there (act.Make node) p).runs)

    -- it was made
    module _ (n : ℕ) (sound : IsSound n d) (word value : ℕ) (after : View) (made : HasMade d word value after) where
      abbrev account : Account
      account = made.0

      -- as it was written
      record IsIt : Type 0 where
        own : Bool
        is : after ≡ made_by d class name slot.last.0 own node account
        added : IsAdded d account node after

      it : IsIt
      it =
          let (node2, rest, name2, own, q, w, is, added) = made.3 in
          let same_node = one_node d node2 node q (at_there (act.Make node) p) in
          let pools = same_from_push rest slot.last.0 name2 name (sym w.last ∙ ap (λ x. pool_of d.pool (class_of x)) same_node ∙ ap (pool_of d.pool) (sym its_class) ∙ pool_is) in
          record {
            own = own;
            is = is ∙ ap (λ x. made_by d (class_of x) name2 rest own x account) same_node ∙ ap (λ c. made_by d c name2 rest own node account) (sym its_class)
                ∙ ap (λ xs. made_by d class name2 xs own node account) pools.0 ∙ ap (λ x. made_by d class x slot.last.0 own node account) pools.1;
            added = subst (λ x. IsAdded d account x after) same_node added;
          }

      abbrev added_there : IsAdded d account node (made_by d class name slot.last.0 it.own node account)
      added_there = subst (IsAdded d account node) it.is it.added

      took_there : Took d account (made_by d class name slot.last.0 it.own node account)
      took_there = subst (Took d account) it.is made.2

      new_at : HasNew d node name after
      new_at =
          subst (HasNew d node name) (sym it.is)
          (has_new n d sound account made.1 class name slot.last.0 it.own node added_there (act.Make node) (at_there (act.Make node) p) refl took_there)

      its_new : HasNew before node name after
      its_new =
          let h = subst (λ x. HasNew x node name after) moved new_at in
          record {
            made = h.made;
            placed = h.placed;
            node_is = h.node_is;
            become = record {
              follows = record {
                is = h.become.follows.is;
                places = h.become.follows.places;
                owns = h.become.follows.owns;
                nodes = h.become.follows.nodes;
                goes_on = h.become.follows.goes_on;
              };
              comes = h.become.comes;
            };
          }

      pub new_there : HasMadeNext before (Some name) after
      new_there other q = subst (λ x. HasNew before x name after) (one_node before node other p q) its_new

      -- and noted
      pub stock_there : (stock next : Stocked) → IsStock stock mid → next.sizes ≡ stock.sizes → NotesLast stock (kind_of_node node) class next →
          next.limbo ≡ stock.limbo → IsStock next after
      stock_there stock next is sizes noted limbo =
          let (pool, made_is) = noted slot.last.0 name (ap (λ x. pool_of x class) is.pool ∙ slot.last.1) in
          subst (IsStock next) (sym it.is)
          (stock_made n d sound account made.1 class name slot.last.0 it.own node added_there (act.Make node) (at_there (act.Make node) p) refl took_there stock next
          (subst (IsStock stock) (sym d_is) (record { sizes = is.sizes; pool = is.pool; made = is.made; limbo = limbo_so stock stock mid _ is refl refl })) sizes pool made_is its_class limbo)

pub drafted_is : (v : View) (word value : ℕ) (d : View) → d ≡ drafted v word value → d ≡ record v { drafts = d.drafts }
drafted_is v word value d is = is ∙ ap (λ (x : View). record v { drafts = x.drafts }) (sym is)

-- ---- a single

module _ (before : View) (name : ℕ) (mid : View) (slot : HasSlot before 0 name mid) (key value : ℕ) (p : IsAt before (act.Make (Single key value))) where
  pub single_word : IsOwnWord mid (2 * name)
  single_word = own_word before 0 name mid slot mid refl (omega arith) (2 * name) (omega arith) (omega arith)

  pub single_ready : (d : View) → d ≡ drafted mid (2 * name) key → IsAtMake d (2 * name + 1) value
  single_ready d is =
      subst (λ x. IsAtMake x (2 * name + 1) value) (sym is)
      (ready before 0 name mid slot (drafted mid (2 * name) key) refl (Single key value) p refl (2 * name + 1) value true (omega arith) (omega arith) (omega arith)
      (((λ e. absurd (omega (arith, e))), (λ e. first_there (2 * name, key) _)), ((λ e. refl), (λ e. absurd (e refl)))) tt)

-- ---- an indirection

module _ (n : ℕ) (before : View) (sound : IsSound n before) (name : ℕ) (mid : View) (slot : HasSlot before 0 name mid) (generation : ℕ) (small : generation < 2 ^ 36) (main : Name) (r : Ref)
    (p : IsAt before (act.Make (Indirection generation r))) (placed : IsPlaced before r main.slot) (owns : MayOwn p.operation.line (Indirection generation r) main.own) where
  pub link_fits : IsLink (record { generation = generation; main = main })
  link_fits = (small, subst (λ k. k < 2 ^ 27) placed.1 (slot_small n before sound r placed.0.0 placed.0.1))

  place : place_of mid.account r ≡ main.slot
  place = ap (λ (x : View). place_of x.account r) slot.is ∙ placed.1

  pub link_ready : (value : ℕ) → value ≡ link_code (record { generation = generation; main = main }) → IsAtMake mid (2 * name) value
  link_ready value is =
      ready before 0 name mid slot mid refl (Indirection generation r) p refl (2 * name) value main.own (omega arith) (omega arith) (omega arith) (
        small,
        (
          λ e. ap (λ k. link_code (record { generation = generation; main = record { slot = k; own = main.own } })) place ∙ sym is,
          λ e. absurd (e refl),
        ),
      ) owns
