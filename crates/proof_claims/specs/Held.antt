-- Who holds references: each claim is on what one handle or one node names.
use Rattle.std.specs.Prelude.{ℕ, ◌==◌, ◌&&◌, Bool, true, false, List, [], ◌∷◌, ◌++◌, flat_map, map}
use Rattle.std.specs.List.{list_any}
use Rattle.proof_claims.specs.Beneath.slot_arena.specs.declared.refs.Ref.{Ref}
use Rattle.proof_claims.specs.Beneath.slot_arena.specs.Refs.{ref_to}

-- a handle, which holds its root, or a node, which holds what it names
pub data Holder : Type 0 where
  OfHandle : (handle : ℕ) → Holder
  OfNode : (node : Ref) → Holder

pub record Claim : Type 0 where
  pub by : Holder
  pub on : Ref

-- what is held, and each main node with the indirection whose own it is: it was swapped in there, or the indirection was made over it by who had just made it
pub record Held : Type 0 where
  pub claims : List Claim
  pub owned : List (Ref × Ref)

-- at first
abbrev pub first_held : Held
first_held = record {
  claims = record { by = OfHandle 0; on = ref_to 2 1 } ∷ record { by = OfNode (ref_to 2 1); on = ref_to 1 0 } ∷ [];
  owned = (ref_to 2 1, ref_to 1 0) ∷ [];
}

abbrev pub is_in : List Ref → Ref → Bool
is_in refs r = list_any (λ (x : Ref). x == r) refs

abbrev pub is_owned : Held → Ref → Ref → Bool
is_owned held i m = list_any (λ (pair : Ref × Ref). (pair.0 == i) && (pair.1 == m)) held.owned

abbrev pub is_by_handle : ℕ → Holder → Bool
is_by_handle handle (OfHandle h) = h == handle
is_by_handle handle (OfNode j) = false

abbrev pub is_by_some_handle : Holder → Bool
is_by_some_handle (OfHandle h) = true
is_by_some_handle (OfNode j) = false

-- by one of these nodes
abbrev pub is_by_nodes : List Ref → Holder → Bool
is_by_nodes nodes (OfHandle h) = false
is_by_nodes nodes (OfNode j) = is_in nodes j

-- ---- what becomes of claims

-- by a step a claim stays or goes over to another holder, or it is given to who takes the step, or it ends with the node that it is on
pub data Fate : Type 0 where
  Stays : (by : Holder) → Fate
  Given : Fate
  Ends : Fate

-- what a step does: the fate of each claim, the claims that are added, on what its actor held itself; the main nodes that are an indirection's own from then on; and the node that it makes
pub record Change : Type 0 where
  pub fate : Claim → Fate
  pub added : List Claim
  pub owned : List (Ref × Ref)
  pub made : List Ref

abbrev pub is_kept : Fate → Bool
is_kept (Stays by) = true
is_kept Given = false
is_kept Ends = false

abbrev pub kept_by : Fate → Ref → List Claim
kept_by (Stays by) on = record { by = by; on = on } ∷ []
kept_by Given on = []
kept_by Ends on = []

abbrev pub given_by : Fate → Ref → List Ref
given_by (Stays by) on = []
given_by Given on = on ∷ []
given_by Ends on = []

-- the claims that stand after it
abbrev pub claims_after : Change → List Claim → List Claim
claims_after change claims = flat_map (λ (c : Claim). kept_by (change.fate c) c.on) claims ++ change.added

-- what its actor must hold itself before it: it has raised the counts of these, or they were given to it
abbrev pub takes : Change → List Ref
takes change = map (λ (c : Claim). c.on) change.added

-- what its actor holds itself after it, and lowers the counts of or names later: what it made, and what was given to it
abbrev pub gives : Change → List Claim → List Ref
gives change claims = change.made ++ flat_map (λ (c : Claim). given_by (change.fate c) c.on) claims

abbrev pub held_after : Change → Held → Held
held_after change held = record { claims = claims_after change held.claims; owned = held.owned ++ change.owned }
