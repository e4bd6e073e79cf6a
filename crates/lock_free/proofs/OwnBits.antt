-- What is said to be an indirection's own has come to be so by a step: it stays so, and so is what a step says.
use Rattle.std.proofs.Common.{◌≡◌, ◌+◌, ◌++◌, inl, inr, ℕ, Bool, true, List, [], ◌∷◌, get_or, length, Some, None, refl, sym, ap, subst, ◌∙◌, append_assoc, append-nil, arith}
use Rattle.machine_model.specs.Beneath.slot_arena.specs.declared.nodes.Node.{Node}
use Rattle.machine_model.specs.Beneath.slot_arena.specs.declared.nodes.Node.TheVariants.{Indirection, Branch, Single, Tomb, List as Listed}
use Rattle.machine_model.specs.Beneath.slot_arena.specs.declared.refs.Ref.{Ref}
use Rattle.machine_model.specs.Beneath.slot_arena.specs.Heaps.{main_of}
use Rattle.machine_model.specs.Beneath.slot_arena.specs.Refs.{ref_to, slot_of}
use Rattle.machine_model.specs.Beneath.slot_arena.proofs.Live.{birth_of_ref, slot_of_ref}
use Rattle.machine_model.specs.declared.operations.Operation.{Operation}
use Rattle.machine_model.specs.declared.steps.Step.{Step}
use Rattle.machine_model.specs.declared.steps.Step.TheVariants as step
use Rattle.machine_model.specs.Grown.{standing}
use Rattle.machine_model.proofs.Grown.{node_standing}
use Rattle.proof_memory.specs.Wants.{is_indirection}
use Rattle.lock_free.specs.declared.accounts.Account.{Account}
use Rattle.lock_free.specs.declared.accounts.Owned.{Owned}
use Rattle.lock_free.specs.declared.sizes.Sizes.{Sizes}
use Rattle.lock_free.specs.Accounts.{state_of, OwnIs}
use Rattle.lock_free.specs.Making.{owned_with, made_at, Makes}
use Rattle.lock_free.specs.Owning.{MayOwn, swaps, builds, WasBrought, WasTomb, IsOwnBy, at_first, brought, of_tomb, AreOwn}
use Rattle.lock_free.specs.Publishing.{owned_now, swapped_in, with_main_of, Publishes}
use Rattle.lock_free.proofs.OneStep.LinksWide.{standing_by}
use Rattle.lock_free.proofs.Owners.{it_or_before}

-- ---- after more steps

module _ (sizes : Sizes) (account then : Account) (steps : List Step) (goes_on : then.steps ≡ account.steps ++ steps) where
  pub own_by_longer : (k j : ℕ) → IsOwnBy sizes account k j → IsOwnBy sizes then k j
  own_by_longer k j (at_first a b) = at_first a b
  own_by_longer k j (brought i m a b h) = brought i m a b (record {
    before = h.before;
    actor = h.actor;
    more = h.more ++ steps;
    goes_on = goes_on ∙ ap (λ l. l ++ steps) h.goes_on ∙ append_assoc (h.before ++ step.Go h.actor ∷ []) h.more steps;
    operation = h.operation;
    runs = h.runs;
    how = h.how;
    has = h.has;
    stands = h.stands;
  })
  own_by_longer k j (of_tomb h) = of_tomb (record {
    steps = h.steps;
    more = h.more ++ steps;
    goes_on = goes_on ∙ ap (λ l. l ++ steps) h.goes_on ∙ append_assoc h.steps h.more steps;
    slot = h.slot;
    stored = h.stored;
    single = h.single;
    is = h.is;
  })

  pub own_longer : then.owned ≡ account.owned → AreOwn sizes account → AreOwn sizes then
  own_longer same h k j o = own_by_longer k j (h k j (subst (λ xs. OwnIs xs k j true) same o))

  -- with one more that is said
  own_more : (x : Owned) → then.owned ≡ x ∷ account.owned → (x.is_own ≡ true → IsOwnBy sizes then x.holder x.held) → AreOwn sizes account → AreOwn sizes then
  own_more x same its h k j o = elim (it_or_before x account.owned k j true (subst (λ xs. OwnIs xs k j true) same o)) [
    | inl is ↦ subst (λ n. IsOwnBy sizes then n j) is.0 (subst (λ n. IsOwnBy sizes then x.holder n) is.1 (its is.2))
    | inr was ↦ own_by_longer k j (h k j was)
  ]

-- ---- a main node that is swapped in

module _ (sizes : Sizes) (account : Account) (actor : ℕ) (operation : Operation) (i a f : Ref) (p : Publishes sizes account (swapped_in actor i f account) actor operation i a f) where
  abbrev then : Account
  then = swapped_in actor i f account

  stands : standing (state_of sizes then).heap i ≡ Some (with_main_of p.link p.generation f)
  stands = standing_by (state_of sizes then).heap i (with_main_of p.link p.generation f) p.link_then p.link_birth

  swapped : WasBrought sizes then i f
  swapped = record {
    before = account.steps;
    actor = actor;
    more = [];
    goes_on = sym (append-nil (account.steps ++ step.Go actor ∷ []));
    operation = operation;
    runs = p.runs;
    how = swaps p.on.0 a p.on.1;
    has = ((with_main_of p.link p.generation f, stands), ap is_indirection (node_standing (state_of sizes then).heap i _ stands));
    stands = ap main_of (node_standing (state_of sizes then).heap i _ stands);
  }

  pub own_published : AreOwn sizes account → AreOwn sizes (swapped_in actor i f account)
  own_published = own_more sizes account then (step.Go actor ∷ []) refl (owned_now i f) refl (λ e. brought i f refl refl swapped)

-- ---- a node that is made

module _ (sizes : Sizes) (account : Account) (actor : ℕ) (operation : Operation) (name : ℕ) (own : Bool) (node : Node) (more : ℕ)
    (makes : Makes sizes account (made_at actor name own node account) actor operation node more) (counted : length account.names ≡ (state_of sizes account).heap.births)
    (h : AreOwn sizes account) where
  abbrev after : Account
  after = made_at actor name own node account

  abbrev k : ℕ
  k = length account.names

  abbrev new : Ref
  new = ref_to (k + 1) k

  there : standing (state_of sizes after).heap new ≡ Some makes.made
  there =
      standing_by (state_of sizes after).heap new makes.made (ap (λ n. get_or (state_of sizes after).heap.slots n None) (slot_of_ref (k + 1) k) ∙ makes.stands)
      (makes.birth ∙ sym (birth_of_ref (k + 1) k))

  is_there : (n : Node) → n ≡ node → makes.made.node ≡ n
  is_there n is = makes.node_is ∙ sym is

  made_link : (generation : ℕ) (main : Ref) → Indirection generation main ≡ node → MayOwn operation.line (Indirection generation main) own → own ≡ true → WasBrought sizes after new main
  made_link generation main is owns own_is =
      let node_there = node_standing (state_of sizes after).heap new makes.made there ∙ is_there (Indirection generation main) is in
      record {
        before = account.steps;
        actor = actor;
        more = [];
        goes_on = sym (append-nil (account.steps ++ step.Go actor ∷ []));
        operation = operation;
        runs = makes.runs;
        how = builds (owns.0 own_is) (let birth = birth_of_ref (k + 1) k in omega (arith, birth, counted));
        has = ((makes.made, there), ap is_indirection node_there);
        stands = ap main_of node_there;
      }

  made_tomb : (single : Ref) → Tomb single ≡ node → WasTomb sizes after k
  made_tomb single is = record {
    steps = after.steps;
    more = [];
    goes_on = sym (append-nil after.steps);
    slot = makes.made;
    stored = makes.stands;
    single = single;
    is = is_there (Tomb single) is;
  }

  owned_by : (n : Node) → n ≡ node → MayOwn operation.line n own → AreOwn sizes after
  owned_by (Indirection generation main) is owns =
      own_more sizes account after (step.Go actor ∷ []) refl (record { holder = k; held = slot_of main; is_own = own }) (ap (λ m. owned_with account.owned k own m) (sym is))
      (λ e. brought new main (slot_of_ref (k + 1) k) refl (made_link generation main is owns e)) h
  owned_by (Tomb single) is owns =
      own_more sizes account after (step.Go actor ∷ []) refl (record { holder = k; held = slot_of single; is_own = own }) (ap (λ m. owned_with account.owned k own m) (sym is))
      (λ e. of_tomb (made_tomb single is)) h
  owned_by (Branch bitmap entries) is owns = own_longer sizes account after (step.Go actor ∷ []) refl (ap (λ m. owned_with account.owned k own m) (sym is)) h
  owned_by (Single key value) is owns = own_longer sizes account after (step.Go actor ∷ []) refl (ap (λ m. owned_with account.owned k own m) (sym is)) h
  owned_by (Listed singles) is owns = own_longer sizes account after (step.Go actor ∷ []) refl (ap (λ m. owned_with account.owned k own m) (sym is)) h

  pub own_made : MayOwn operation.line node own → AreOwn sizes (made_at actor name own node account)
  own_made = owned_by node refl
