-- Who holds references to nodes, by all steps so far, and what a step leaves to a seat.
use Rattle.std.specs.Prelude.{ℕ, ◌≤◌, ◌==◌, ◌&&◌, Bool, true, not, List, [], ◌∷◌, ◌++◌, count_by, filter}
use Rattle.machine_model.specs.Beneath.slot_arena.specs.declared.refs.Ref.{Ref}
use Rattle.machine_model.specs.Beneath.slot_arena.specs.Refs.{slot_of}
use Rattle.proof_claims.specs.Held.{Change, Claim, Held, Holder, OfHandle, OfNode, gives, is_in, takes}
use Rattle.proof_claims.specs.Claims.{held_of, how_often}
use Rattle.lock_free.specs.declared.accounts.Account.{Account}
use Rattle.lock_free.specs.declared.sizes.Sizes.{Sizes}
use Rattle.lock_free.specs.Accounts.{bounds_for}
use Rattle.lock_free.specs.Counts.{without_one}

-- what is held after all steps
abbrev pub held_now : Sizes → Account → Held
held_now sizes account = held_of (bounds_for sizes account.steps) account.steps

-- ---- claims of holders that are there

-- a handle, or a node that stands in the table still
abbrev pub is_there : (ℕ → Bool) → Holder → Bool
is_there stands (OfHandle handle) = true
is_there stands (OfNode j) = stands (slot_of j)

abbrev pub is_claim_on : (ℕ → Bool) → Ref → Claim → Bool
is_claim_on stands k c = (c.on == k) && is_there stands c.by

-- so many of them are on the node
abbrev pub claims_there : (ℕ → Bool) → Ref → List Claim → ℕ
claims_there stands k = count_by (is_claim_on stands k)

-- ---- what a seat holds itself

-- each of these so often
abbrev pub HoldsAll : List Ref → List Ref → Type 0
HoldsAll ks owed = (k : Ref) → how_often k ks ≤ how_often k owed

-- all but these
abbrev pub without_all : List Ref → List Ref → List Ref
without_all [] owed = owed
without_all (k ∷ ks) owed = without_all ks (without_one k owed)

-- all but what is among these nodes
abbrev pub owed_beside : List Ref → List Ref → List Ref
owed_beside private owed = filter (λ (k : Ref). not (is_in private k)) owed

-- what it holds after a step of its own
abbrev pub owes_after : Change → List Claim → List Ref → List Ref
owes_after change claims owed = gives change claims ++ without_all (takes change) owed
