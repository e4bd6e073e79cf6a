-- Whose own main nodes are stays so, and who is about to be swapped in is nobody's.
use Rattle.std.proofs.Common.{◌≡◌, ◌≢◌, ◌+◌, ◌<◌, ◌⊎◌, ℕ, inl, inr, Bool, List, [], ◌∷◌, Contains, length, refl, sym, ap, subst, ◌∙◌, arith, length-append}
use Rattle.std.proofs.lemmas.List.Elements.{Contains-get_or}
use Rattle.machine_model.specs.Beneath.slot_arena.specs.declared.refs.Ref.{Ref}
use Rattle.machine_model.specs.Beneath.slot_arena.specs.declared.nodes.Node.{Node}
use Rattle.machine_model.specs.Beneath.slot_arena.specs.declared.nodes.Node.TheVariants.{Indirection, Branch, Single, Tomb, List as Listed}
use Rattle.machine_model.specs.Beneath.slot_arena.specs.Refs.{slot_of}
use Rattle.machine_model.specs.Beneath.slot_arena.specs.Heaps.{refs_of_node}
use Rattle.machine_model.specs.declared.operations.Operation.{Operation}
use Rattle.machine_model.specs.States.{State}
use Rattle.lock_free.specs.declared.accounts.Account.{Account}
use Rattle.lock_free.specs.declared.accounts.Owned.{Owned}
use Rattle.lock_free.specs.declared.sizes.Sizes.{Sizes}
use Rattle.lock_free.specs.Accounts.{state_of, OwnIs, first, later}
use Rattle.lock_free.specs.Making.{owned_with, made_at, Makes}
use Rattle.lock_free.specs.Nodes.{IsAhead, AreOwners}
use Rattle.lock_free.specs.Publishing.{owned_now, swapped_in, Publishes}

-- where nobody is about to swap a node in but who was
pub owners_kept : (account then : Account) (before after : State) → then.owned ≡ account.owned → then.names ≡ account.names → ((i a f : Ref) → IsAhead after i a f → IsAhead before i a f) →
    AreOwners account before → AreOwners then after
owners_kept account then before after same_owned same_names aheads h = record {
  made = λ i m b o. subst (λ (names : List ℕ). (i < length names) × (m < length names)) (sym same_names) (h.made i m b (subst (λ xs. OwnIs xs i m b) same_owned o));
  once = λ i m b c o p. h.once i m b c (subst (λ xs. OwnIs xs i m b) same_owned o) (subst (λ xs. OwnIs xs i m c) same_owned p);
  fresh = λ i a f is j b o. h.fresh i a f (aheads i a f is) j b (subst (λ xs. OwnIs xs j (slot_of f) b) same_owned o);
}

-- what is said of owners with one more: it, or what was said before
abbrev pub IsIt : Owned → ℕ → ℕ → Bool → Type 0
IsIt x i m b = (x.holder ≡ i) × (x.held ≡ m) × (x.is_own ≡ b)

pub it_or_before : (x : Owned) (rest : List Owned) (i m : ℕ) (b : Bool) → OwnIs (x ∷ rest) i m b → IsIt x i m b ⊎ OwnIs rest i m b
it_or_before x rest i m b (first y ys) = inl (refl, refl, refl)
it_or_before x rest i m b (later y ys j k c h) = inr h

-- one more, of a made indirection and a made main node, of which nothing was said before
module _ (account after : Account) (before next : State) (h : AreOwners account before) (x : Owned) (same : after.owned ≡ x ∷ account.owned)
    (more : (n : ℕ) → n < length account.names → n < length after.names)
    (link : x.holder < length after.names) (main : x.held < length after.names) (new : (b : Bool) → OwnIs account.owned x.holder x.held b → ⊥)
    (fresh : (i a f : Ref) → IsAhead next i a f → (slot_of f ≢ x.held) × ((j : ℕ) (b : Bool) → OwnIs account.owned j (slot_of f) b → ⊥)) where
  cases : (i m : ℕ) (b : Bool) → OwnIs after.owned i m b → IsIt x i m b ⊎ OwnIs account.owned i m b
  cases i m b o = it_or_before x account.owned i m b (subst (λ xs. OwnIs xs i m b) same o)

  new_is : (i m : ℕ) (b c : Bool) → IsIt x i m b → OwnIs account.owned i m c → ⊥
  new_is i m b c is o = new c (subst (λ n. OwnIs account.owned n x.held c) (sym is.0) (subst (λ n. OwnIs account.owned i n c) (sym is.1) o))

  pub owners_more : AreOwners after next
  owners_more = record {
    made = λ i m b o. elim (cases i m b o) [
      | inl is ↦ (subst (λ n. n < length after.names) is.0 link, subst (λ n. n < length after.names) is.1 main)
      | inr was ↦ (let y = h.made i m b was in (more i y.0, more m y.1))
    ];
    once = λ i m b c o p. elim (cases i m b o) [
      | inl is ↦ elim (cases i m c p) [
        | inl too ↦ sym is.2 ∙ too.2
        | inr was ↦ absurd (new_is i m b c is was)
      ]
      | inr was ↦ elim (cases i m c p) [
        | inl is ↦ absurd (new_is i m c b is was)
        | inr too ↦ h.once i m b c was too
      ]
    ];
    fresh = λ i a f is j b o. (let y = fresh i a f is in elim (cases j (slot_of f) b o) [
      | inl it ↦ y.0 (sym it.1)
      | inr was ↦ y.1 j b was
    ]);
  }

-- the exchange that swaps a fresh main node in says that it is the indirection's own
module _ (sizes : Sizes) (account : Account) (actor : ℕ) (operation : Operation) (i a f : Ref) (publishes : Publishes sizes account (swapped_in actor i f account) actor operation i a f)
    (h : AreOwners account (state_of sizes account)) (link : slot_of i < length account.names) (main : slot_of f < length account.names) where
  pub owners_published : AreOwners (swapped_in actor i f account) (state_of sizes (swapped_in actor i f account))
  owners_published =
      owners_more account (swapped_in actor i f account) (state_of sizes account) (state_of sizes (swapped_in actor i f account)) h (owned_now i f) refl (λ n low. low) link main
      (λ b o. h.fresh i a f publishes.was_ahead (slot_of i) b o)
      (λ j b g is. (let y = publishes.no_more j b g is in (y.1, λ k c o. h.fresh j b g y.0 k c o)))

-- a make
module _ (sizes : Sizes) (account : Account) (actor : ℕ) (operation : Operation) (name : ℕ) (own : Bool) (node : Node) (more : ℕ)
    (makes : Makes sizes account (made_at actor name own node account) actor operation node more)
    (h : AreOwners account (state_of sizes account)) where
  abbrev after : Account
  after = made_at actor name own node account

  abbrev next : State
  next = state_of sizes after

  longer : length after.names ≡ length account.names + 1
  longer = length-append account.names (name ∷ [])

  unsaid : (f : Ref) → slot_of f ≡ length account.names → (j : ℕ) (b : Bool) → OwnIs account.owned j (slot_of f) b → ⊥
  unsaid f new j b o = let low = (h.made j (slot_of f) b o).1 in absurd (omega (arith, low, new))

  -- a node that is about to be swapped in then is the new one, or was so before
  not_said : (i a f : Ref) → IsAhead next i a f → (j : ℕ) (b : Bool) → OwnIs account.owned j (slot_of f) b → ⊥
  not_said i a f is j b o = elim (makes.aheads i a f is) [
    | inl was ↦ h.fresh i a f was j b o
    | inr new ↦ unsaid f new.1 j b o
  ]

  not_named : (r : Ref) → Contains (refs_of_node node) r → (i a f : Ref) → IsAhead next i a f → slot_of f ≢ slot_of r
  not_named r c i a f is = elim (makes.aheads i a f is) [
    | inl was ↦ makes.unmet r c i a f was
    | inr new ↦ (λ same. (let low = makes.refs r c in absurd (omega (arith, low, same, new.1))))
  ]

  nothing_more : (owned_with account.owned (length account.names) own node ≡ account.owned) → AreOwners after next
  nothing_more same = record {
    made = λ i m b o. (let low = h.made i m b (subst (λ xs. OwnIs xs i m b) same o) in (omega (arith, low.0, longer), omega (arith, low.1, longer)));
    once = λ i m b c o p. h.once i m b c (subst (λ xs. OwnIs xs i m b) same o) (subst (λ xs. OwnIs xs i m c) same p);
    fresh = λ i a f is j b o. not_said i a f is j b (subst (λ xs. OwnIs xs j (slot_of f) b) same o);
  }

  -- it says whose own this node is
  with_held : (r : Ref) → Contains (refs_of_node node) r → owned_with account.owned (length account.names) own node ≡ record { holder = length account.names; held = slot_of r; is_own = own } ∷
      account.owned → AreOwners after next
  with_held r there same =
      let low = makes.refs r there in
      owners_more account after (state_of sizes account) next h (record { holder = length account.names; held = slot_of r; is_own = own }) same (λ n below. omega (arith, below, longer))
      (omega (arith, longer))
      (omega (arith, low, longer)) (λ b o. (let made = (h.made (length account.names) (slot_of r) b o).0 in absurd (omega (arith, made))))
      (λ i a f ahead. (not_named r there i a f ahead, not_said i a f ahead))

  owners_by : (n : Node) → n ≡ node → AreOwners after next
  owners_by (Indirection generation main) is =
      with_held main (subst (λ m. Contains (refs_of_node m) main) is (Contains-get_or (main ∷ []) 0 main (omega arith))) (ap (λ m. owned_with account.owned (length account.names) own m) (sym is))
  owners_by (Branch bitmap entries) is = nothing_more (ap (λ m. owned_with account.owned (length account.names) own m) (sym is))
  owners_by (Single key value) is = nothing_more (ap (λ m. owned_with account.owned (length account.names) own m) (sym is))
  owners_by (Tomb single) is =
      with_held single (subst (λ m. Contains (refs_of_node m) single) is (Contains-get_or (single ∷ []) 0 single (omega arith)))
      (ap (λ m. owned_with account.owned (length account.names) own m) (sym is))
  owners_by (Listed singles) is = nothing_more (ap (λ m. owned_with account.owned (length account.names) own m) (sym is))

  pub owners_made : AreOwners after next
  owners_made = owners_by node refl
