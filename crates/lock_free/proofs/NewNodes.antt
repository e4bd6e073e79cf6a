-- What a seat knows once its operation has made a node.
use Rattle.std.proofs.Common.{◌≡◌, ◌≢◌, ◌++◌, ◌∷◌, ℕ, Bool, true, List, [], Some, None, refl, sym, ap, subst, ◌∙◌, get_or, length, map, Contains, arith}
use Rattle.std.proofs.lemmas.Bool.{true≢false}
use Rattle.std.proofs.lemmas.List.{map-append}
use Rattle.std.proofs.lemmas.List.Elements.{Contains-append_right}
use Rattle.std.proofs.lemmas.Option.{same_Some}
use Rattle.machine_model.specs.Beneath.slot_arena.specs.declared.refs.Ref.{Ref}
use Rattle.machine_model.specs.Beneath.slot_arena.specs.declared.nodes.Node.{Node}
use Rattle.machine_model.specs.Beneath.slot_arena.specs.declared.nodes.Node.TheVariants.{Indirection, Branch, Single, Tomb, List as Listed}
use Rattle.machine_model.specs.Beneath.slot_arena.specs.declared.nodes.Slot.{Slot}
use Rattle.machine_model.specs.Beneath.slot_arena.specs.Heaps.{node_at}
use Rattle.machine_model.specs.Beneath.slot_arena.specs.Refs.{slot_of}
use Rattle.machine_model.specs.declared.actions.Action.{Action}
use Rattle.machine_model.specs.declared.operations.Operation.{Operation}
use Rattle.machine_model.specs.declared.steps.Step.TheVariants as step
use Rattle.machine_model.specs.Building.{key_in}
use Rattle.machine_model.specs.Operations.{action_of}
use Rattle.proof_memory.specs.Laws.{SameNode}
use Rattle.proof_memory.specs.Making.{made_node}
use Rattle.proof_memory.specs.Wants.{is_branch, is_main_node}
use Rattle.proof_memory.proofs.Claims.Uses.{safe_of, meets_of}
use Rattle.lock_free.specs.declared.accounts.Account.{Account}
use Rattle.lock_free.specs.declared.rules.View.{View}
use Rattle.lock_free.specs.declared.reclaiming.Kind.{Kind}
use Rattle.lock_free.specs.declared.stock.OwnNode.{OwnNode}
use Rattle.lock_free.specs.Reclaiming.{kind_of_node}
use Rattle.lock_free.specs.Accounts.{running}
use Rattle.lock_free.specs.Becoming.{Follows, made_on, HasNew}
use Rattle.lock_free.specs.Live.{IsLive, from_operation, line_claims, refs_of_claims}
use Rattle.lock_free.specs.Loading.{now, seen, Runs, IsAt, IsSound, IsUsed, Waited, Took}
use Rattle.lock_free.specs.Making.{with_slots, made_by}
use Rattle.lock_free.specs.Nodes.{class_of}
use Rattle.lock_free.specs.Passing.{Later, IsPlaced}
use Rattle.lock_free.specs.Stocks.{Stocked, IsStock, own_of, own_nodes, made_of}
use Rattle.lock_free.specs.Storing.{IsAdded}
use Rattle.lock_free.proofs.LimboStays.{limbo_so}
use Rattle.lock_free.proofs.Asked.{in_use_made, live_in_use, line_stands}
use Rattle.lock_free.proofs.Followings.{follows_later, goes_both, main_node_on}
use Rattle.lock_free.proofs.GivenBack.{node_is}
use Rattle.lock_free.proofs.KeyMoves.{hash_is}
use Rattle.lock_free.proofs.Laters.{waited_later}
use Rattle.lock_free.proofs.Made.{place_else, place_last, own_stays}
use Rattle.lock_free.proofs.Pools.{first_there, more_there}
use Rattle.lock_free.proofs.MadeLines.{Stay, made_step}

-- ---- what stays of nodes

pub branch_is_main : (node : Node) → is_branch node ≡ true → is_main_node node ≡ true
branch_is_main (Branch bitmap entries) is = refl
branch_is_main (Indirection generation main) is = absurd (true≢false (sym is))
branch_is_main (Single key value) is = absurd (true≢false (sym is))
branch_is_main (Tomb single) is = absurd (true≢false (sym is))
branch_is_main (Listed singles) is = absurd (true≢false (sym is))

key_same : (before after : Node) → SameNode before after → key_in after ≡ key_in before
key_same (Indirection generation main) after same = ap key_in same.1
key_same (Branch bitmap entries) after same = ap key_in same.1
key_same (Single key value) after same = ap key_in same.1
key_same (Tomb single) after same = ap key_in same.1
key_same (Listed singles) after same = ap key_in same.1

pub class_same : (before after : Node) → SameNode before after → class_of after ≡ class_of before
class_same (Indirection generation main) after same = ap class_of same.1
class_same (Branch bitmap entries) after same = ap class_of same.1
class_same (Single key value) after same = ap class_of same.1
class_same (Tomb single) after same = ap class_of same.1
class_same (Listed singles) after same = ap class_of same.1

-- ---- what was made stays where it is

kind_same : (before after : Node) → SameNode before after → kind_of_node after ≡ kind_of_node before
kind_same (Indirection generation main) after same = ap kind_of_node same.1
kind_same (Branch bitmap entries) after same = ap kind_of_node same.1
kind_same (Single key value) after same = ap kind_of_node same.1
kind_same (Tomb single) after same = ap kind_of_node same.1
kind_same (Listed singles) after same = ap kind_of_node same.1

module _ (v w : View) (f : Follows v w) where
  kind_on : (r : Ref) → (slot : Slot) × IsUsed v r slot → kind_of_node (node_at (now w).heap r) ≡ kind_of_node (node_at (now v).heap r)
  kind_on r (slot, used) =
      let y = f.nodes r slot used in
      ap kind_of_node (node_is (now w) r y.0 y.1) ∙ kind_same slot.node y.0.node y.2 ∙ sym (ap kind_of_node (node_is (now v) r slot used))

  pub class_on : (r : Ref) → (slot : Slot) × IsUsed v r slot → class_of (node_at (now w).heap r) ≡ class_of (node_at (now v).heap r)
  class_on r (slot, used) =
      let y = f.nodes r slot used in
      ap class_of (node_is (now w) r y.0 y.1) ∙ class_same slot.node y.0.node y.2 ∙ sym (ap class_of (node_is (now v) r slot used))

  pub made_same : (r : Ref) → (slot : Slot) × IsUsed v r slot → made_of w r ≡ made_of v r
  made_same r (slot, used) =
      ap (λ k. one k (class_of (node_at (now w).heap r)) (place w r)) (kind_on r (slot, used))
      ∙ ap (λ c. one (kind_of_node (node_at (now v).heap r)) c (place w r)) (class_on r (slot, used))
      ∙ ap (λ p. one (kind_of_node (node_at (now v).heap r)) (class_of (node_at (now v).heap r)) p) (f.places r slot used)
    where
      one : Kind → ℕ → ℕ → OwnNode
      one k c p = record { kind = k; class = c; slot = p }

      place : View → Ref → ℕ
      place x r = (made_of x r).slot

  pub all_made_same : (rs : List Ref) → ((r : Ref) → Contains rs r → (slot : Slot) × IsUsed v r slot) → map (made_of w) rs ≡ map (made_of v) rs
  all_made_same [] used = refl
  all_made_same (r ∷ rs) used =
      ap (λ x. x ∷ map (made_of w) rs) (made_same r (used r (first_there r rs))) ∙ ap (λ xs. made_of v r ∷ xs) (all_made_same rs (λ q c. used q (more_there r rs q c)))

-- what an operation has made is in use
pub own_used : (n : ℕ) (v : View) → IsSound n v → (o : Operation) → running v.sizes v.account v.actor o → (r : Ref) → Contains o.private r → (slot : Slot) × IsUsed v r slot
own_used n v sound o runs r c =
    live_in_use v.sizes v.account sound.bounds r
    (from_operation v.actor o r runs tt (Contains-append_right (refs_of_claims (line_claims (now v) o)) o.private r c))

-- ---- by the step that makes a node

module _ (n : ℕ) (before : View) (sound : IsSound n before) (account : Account) (waited : Waited before account) (class name : ℕ) (rest : List ℕ) (own : Bool) (node : Node)
    (added : IsAdded before account node (made_by before class name rest own node account)) where
  abbrev after : View
  after = made_by before class name rest own node account

  abbrev middle : View
  middle = seen before account

  first : Later before middle
  first = waited_later n before sound account waited

  apart : (k : ℕ) (slot : Slot) → get_or (now middle).heap.slots k None ≡ Some slot → k ≢ length account.names
  apart k slot is same = let low = in_use_made before.sizes account waited.sound.bounds k slot is in let counted = waited.sound.counted in absurd (omega (arith, low, counted, same))

  pub follows_made : Follows before after
  follows_made = record {
    is = refl;
    places = λ r slot used. (let x = first.nodes r slot used in place_else account.names name (slot_of r) (apart (slot_of r) x.0 x.1) ∙ first.places r slot used);
    owns = λ a b c h. own_stays account.owned (length account.names) own node (slot_of a) (slot_of b) c (first.owns a b c h);
    nodes = λ r slot used.
        (let x = first.nodes r slot used in (x.0, added.others (slot_of r) (λ e. apart (slot_of r) x.0 x.1 (e ∙ added.number)) ∙ x.1, x.2));
    goes_on = goes_both before.account.steps account.steps after.account.steps first.goes_on (step.Go before.actor ∷ [], refl);
  }

  placed : IsPlaced after added.made name
  placed = ((added.slot, added.used), ap (λ k. get_or (account.names ++ name ∷ []) k 0) added.number ∙ place_last account.names name)

  its_node : node_at (now after).heap added.made ≡ node
  its_node = node_is (now after) added.made added.slot added.used ∙ added.node_is

  stay : Stay (now before) (now middle) (IsLive (now before))
  stay = record {
    hash = hash_is before.sizes account ∙ sym (hash_is before.sizes before.account);
    mains = λ r h.
        (let u = live_in_use before.sizes before.account sound.bounds r (safe_of h) in
        main_node_on before middle (follows_later before middle first) r u.0 u.1
        (branch_is_main u.0.node (subst (λ x. is_branch x ≡ true) (node_is (now before) r u.0 u.1) (meets_of h))));
    keys = λ r live.
        (let u = live_in_use before.sizes before.account sound.bounds r live in
        let y = first.nodes r u.0 u.1 in
        ap key_in (node_is (now middle) r y.0 y.1) ∙ key_same u.0.node y.0.node y.2 ∙ sym (ap key_in (node_is (now before) r u.0 u.1)));
  }

  module _ (does : Action) (p : IsAt before does) (makes : made_node (now middle) does ≡ Some node) (took : Took before account after) where
    comes : (o : Operation) → Runs before o → Runs after (made_on (now before) added.made o)
    comes o (mark, runs) =
        let there = waited.stays (record o { is_marked = mark }) runs in
        let same = same_Some p.operation (record o { is_marked = mark }) (sym p.runs ∙ runs) in
        let acts : action_of (now middle) (record o { is_marked = there.0 }) ≡ does = there.2 ∙ sym (ap (action_of (now before)) same) ∙ p.acts in (
          there.0,
          took (record o { is_marked = there.0 }) there.1
              ∙ ap Some (made_step (now before) (now middle) (IsLive (now before)) stay o there.0 added.made added.next node
              (line_stands before.sizes before.account sound.bounds before.actor (record o { is_marked = mark }) runs) (ap (made_node (now middle)) acts ∙ makes)),
        )

    pub has_new : HasNew before node name after
    has_new = record { made = added.made; placed = placed; node_is = its_node; become = record { follows = follows_made; comes = comes } }

    -- and the stock with it
    own_then : own_nodes after ≡ p.operation.private ++ added.made ∷ []
    own_then = ap own_of (comes p.operation (p.operation.is_marked, p.runs)).1

    pub stock_made : (stock next : Stocked) → IsStock stock before → next.sizes ≡ stock.sizes → next.pool ≡ with_slots stock.pool class rest → next.made ≡ stock.made ++
        record { kind = kind_of_node node; class = class; slot = name } ∷ [] → class ≡ class_of node → next.limbo ≡ stock.limbo → IsStock next after
    stock_made stock next is sizes pool made its_class limbo = record {
      sizes = sizes ∙ is.sizes;
      pool = pool ∙ ap (λ x. with_slots x class rest) is.pool;
      made = made ∙ ap (λ xs. xs ++ record { kind = kind_of_node node; class = class; slot = name } ∷ []) olds ∙ ap (λ x. map (made_of after) p.operation.private ++ x ∷ []) (sym new)
          ∙ sym (map-append (made_of after) p.operation.private (added.made ∷ [])) ∙ ap (map (made_of after)) (sym own_then);
      limbo = limbo_so stock next before after is limbo refl;
    }
      where
        olds : stock.made ≡ map (made_of after) p.operation.private
        olds = is.made ∙ ap (λ o. map (made_of before) (own_of o)) p.runs
            ∙ sym (all_made_same before after follows_made p.operation.private (own_used n before sound p.operation p.runs))

        new : made_of after added.made ≡ record { kind = kind_of_node node; class = class; slot = name }
        new =
            ap (λ k. record { kind = k; class = (made_of after added.made).class; slot = (made_of after added.made).slot }) (ap kind_of_node its_node)
            ∙ ap (λ c. record { kind = kind_of_node node; class = c; slot = (made_of after added.made).slot }) (ap class_of its_node ∙ sym its_class)
            ∙ ap (λ s. record { kind = kind_of_node node; class = class; slot = s }) placed.1
