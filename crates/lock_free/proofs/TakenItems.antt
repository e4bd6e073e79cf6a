-- The slots of the roots that an operation made for its offer are retired at the step by which it finds that this was taken back.
use Rattle.std.proofs.Common.{◌≡◌, ◌≤◌, ◌==◌, ◌&&◌, not, inl, inr, ℕ, Bool, true, false, List, [], ◌∷◌, Contains, cond, length, map, refl, sym, ap, subst, ◌∙◌}
use Rattle.std.proofs.Common.{arith, eq-eqb, ne_eqb}
use Rattle.std.proofs.lemmas.Bool.{cases_eq, true≢false}
use Rattle.std.proofs.lemmas.List.Sums.{sum_by-cons}
use Rattle.machine_model.specs.Beneath.slot_arena.specs.declared.nodes.Node.{Node}
use Rattle.machine_model.specs.Beneath.slot_arena.specs.declared.nodes.Node.TheVariants.{Indirection, Branch, Single, Tomb, List as Listed}
use Rattle.machine_model.specs.Beneath.slot_arena.specs.declared.refs.Ref.{Ref}
use Rattle.machine_model.specs.Beneath.slot_arena.specs.Refs.{slot_of}
use Rattle.machine_model.specs.declared.roots.Descriptor.{Descriptor}
use Rattle.machine_model.specs.declared.steps.Step.TheVariants as step
use Rattle.machine_model.specs.Machine.{AreBounds}
use Rattle.machine_model.specs.States.{State}
use Rattle.machine_model.proofs.Grown.{node_standing}
use Rattle.proof_claims.specs.Different.{AreDifferent}
use Rattle.proof_claims.specs.Left.{SeesOutcome, is_done}
use Rattle.proof_commits.specs.Runs.{HasIndirection}
use Rattle.proof_memory.specs.Laws.{IsInUse}
use Rattle.proof_memory.specs.Wants.{is_indirection}
use Rattle.proof_waiting.specs.Beneath.proof_slots.proofs.Unswept.Kept.{one_ref}
use Rattle.proof_waiting.specs.Beneath.proof_slots.specs.Unswept.{HasNoSweeps}
use Rattle.lock_free.specs.declared.accounts.Account.{Account}
use Rattle.lock_free.specs.declared.rules.Retired.{Retired}
use Rattle.lock_free.specs.declared.sizes.Sizes.{Sizes}
use Rattle.lock_free.specs.Accounts.{bounds_for, gone_on, state_of}
use Rattle.lock_free.specs.Counts.{how_often}
use Rattle.lock_free.specs.Holdings.{retired_of}
use Rattle.lock_free.specs.Nodes.{class_of}
use Rattle.lock_free.specs.Outcomes.{made_for, root_retired}
use Rattle.lock_free.specs.Rules.{WasGarbage, by_outcome}
use Rattle.lock_free.proofs.ClaimsThere.{often_has}
use Rattle.lock_free.proofs.OwnNodes.{link_still}
use Rattle.lock_free.proofs.Pools.{first_there, more_there}
use Rattle.lock_free.proofs.Retirable.{item, was_garbage, used_then, ok, quiet_after}
use Rattle.lock_free.proofs.TakenRoots.{root_garbage, root_link}

-- ---- how often

-- what stands in a list in which nothing stands twice
pub once_in : (k : Ref) (rs : List Ref) → AreDifferent rs → how_often k rs ≤ 1
once_in k [] differ = omega arith
once_in k (r ∷ rs) differ =
    let all = sum_by-cons (λ (x : Ref). cond {A = ℕ} (x == k) 1 0) r rs in
    elim (cases_eq r k) [
      | inl same ↦
          (let one = ap {B = ℕ} (λ b. cond b 1 0) (eq-eqb r k same) in
          elim (cases_eq (how_often k rs) 0) [
            | inl without ↦ omega (arith, all, one, without)
            | inr some_more ↦ absurd (differ.0 (subst (Contains rs) (sym same) (often_has k rs (omega (arith, some_more)))))
          ])
      | inr apart ↦ (let none = ap {B = ℕ} (λ b. cond b 1 0) (ne_eqb r k apart) in let rest = once_in k rs differ.1 in omega (arith, all, none, rest))
    ]

-- the slot of a node is among those of roots as often as the node is among these
pub weight_is : (state : State) (k : Ref) → IsInUse state.heap k → (account : Account) (stamp : ℕ) (rs : List Ref) → ((r : Ref) → Contains rs r → IsInUse state.heap r) →
    retired_of (slot_of k) (map (root_retired account stamp) rs) ≤ how_often k rs
weight_is state k used account stamp [] all_used = omega arith
weight_is state k used account stamp (r ∷ rs) all_used =
    let its = sum_by-cons (λ (y : Retired). cond {A = ℕ} ((y.number == slot_of k) && not y.deep) 1 0) (root_retired account stamp r) (map (root_retired account stamp) rs) in
    let all = sum_by-cons (λ (x : Ref). cond {A = ℕ} (x == k) 1 0) r rs in
    let rest = weight_is state k used account stamp rs (λ x c. all_used x (more_there r rs x c)) in
    elim (cases_eq r k) [
      | inl same ↦ (let one = ap {B = ℕ} (λ b. cond b 1 0) (eq-eqb r k same) in let most = at_most ((slot_of r == slot_of k) && true) in omega (arith, its, all, rest, one, most))
      | inr apart ↦
          (let none = ap {B = ℕ} (λ b. cond (b && true) 1 0)
          (ne_eqb (slot_of r) (slot_of k) (λ e. apart (one_ref state.heap r k (all_used r (first_there r rs)) used e))) in
          omega (arith, its, all, rest, none))
    ]
  where
    at_most : (b : Bool) → cond {A = ℕ} b 1 0 ≤ 1
    at_most true = omega arith
    at_most false = omega arith

-- ---- each was garbage

link_class : (n : Node) → is_indirection n ≡ true → class_of n ≡ 0
link_class (Indirection generation main) e = refl
link_class (Branch bitmap entries) e = absurd (true≢false (sym e))
link_class (Single key value) e = absurd (true≢false (sym e))
link_class (Tomb single) e = absurd (true≢false (sym e))
link_class (Listed singles) e = absurd (true≢false (sym e))

module _ (sizes : Sizes) (account : Account) (bounds : AreBounds (bounds_for sizes account.steps)) (quiet : HasNoSweeps account.steps)
    (counted : length account.names ≡ (state_of sizes account).heap.births) (actor : ℕ) (offer : Descriptor) (main : Ref)
    (sees : SeesOutcome (state_of sizes account) actor offer main) (undone : is_done (state_of sizes account) sees ≡ false) (stamp : ℕ) (r : Ref)
    (c : Contains (made_for offer) r) where
  abbrev after : Account
  after = gone_on actor account

  used : IsInUse (state_of sizes account).heap r
  used = (root_link sizes account bounds actor offer main sees undone r c).0

  link_then : HasIndirection (state_of sizes after) r
  link_then =
      link_still sizes after (ok sizes account bounds quiet actor r used) (quiet_after sizes account bounds quiet actor r used) account.steps (step.Go actor ∷ []) refl r
      (root_link sizes account bounds actor offer main sees undone r c)

  class_then : class_of (used_then sizes account bounds quiet actor r used).0.node ≡ 0
  class_then =
      let there = used_then sizes account bounds quiet actor r used in
      link_class there.0.node (ap is_indirection (sym (node_standing (state_of sizes after).heap r there.0 there.1)) ∙ link_then.1)

  pub root_was_garbage : WasGarbage sizes (root_retired (gone_on actor account) stamp r)
  root_was_garbage =
      subst (λ n. WasGarbage sizes (record (item sizes account bounds quiet actor r used stamp) { class = n })) class_then
      (was_garbage sizes account bounds quiet actor r used counted (root_garbage sizes account bounds actor offer main sees undone r c) stamp
      (by_outcome (record { before = account.steps; actor = actor; goes_on = refl; offer = offer; main = main; sees = sees; undone = undone; made = c })))
