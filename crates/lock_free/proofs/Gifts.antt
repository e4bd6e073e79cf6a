-- Who gives up what it has made is given what its nodes name of others: it leads there itself.
use Rattle.std.proofs.Common.{◌≡◌, ◌≤◌, not, ℕ, Bool, true, false, List, [], ◌∷◌, Contains, cond, count_by, refl, ap, ◌∙◌, arith}
use Rattle.std.proofs.lemmas.List.Elements.{Contains-append_left, Contains-append_right, Contains-push}
use Rattle.std.proofs.lemmas.List.Sums.{sum_by-cons}
use Rattle.machine_model.specs.Beneath.slot_arena.specs.declared.refs.Ref.{Ref}
use Rattle.machine_model.specs.Beneath.slot_arena.specs.Heaps.{node_at, refs_of_node}
use Rattle.machine_model.specs.declared.operations.Operation.{Operation}
use Rattle.machine_model.specs.Keys.{KeysFit}
use Rattle.machine_model.specs.Machine.{AreBounds}
use Rattle.machine_model.specs.States.{State}
use Rattle.proof_claims.proofs.LeftAtGivingUp.{given_times}
use Rattle.proof_claims.proofs.Lists.{among, both_true}
use Rattle.proof_claims.specs.Changes.{given_up}
use Rattle.proof_claims.specs.Held.{Held, gives, is_in}
use Rattle.proof_claims.specs.Left.{holds_made, names, takes_at, times_made}
use Rattle.lock_free.specs.declared.accounts.Account.{Account}
use Rattle.lock_free.specs.declared.sizes.Sizes.{Sizes}
use Rattle.lock_free.specs.Accounts.{bounds_for, running, state_of}
use Rattle.lock_free.specs.Claims.{held_now}
use Rattle.lock_free.specs.Counts.{how_often}
use Rattle.lock_free.proofs.ClaimsThere.{has_often}

-- where some are counted there is one
one_counted : (P : Ref → Bool) (xs : List Ref) → 1 ≤ count_by P xs → (x : Ref) × Contains xs x × (P x ≡ true)
one_counted P [] some = absurd (omega (arith, some))
one_counted P (x ∷ xs) some = by (P x) refl (one_counted P xs)
  where
    by : (b : Bool) → P x ≡ b → (1 ≤ count_by P xs → (y : Ref) × Contains xs y × (P y ≡ true)) → (y : Ref) × Contains (x ∷ xs) y × (P y ≡ true)
    by true e later = (x, Contains-append_left (x ∷ []) xs x (Contains-push [] x), e)
    by false e later =
        let all = sum_by-cons (λ (y : Ref). cond {A = ℕ} (P y) 1 0) x xs in
        let none = ap {B = ℕ} (λ b. cond b 1 0) e in
        let rest = later (omega (arith, some, all, none)) in (rest.0, Contains-append_right (x ∷ []) xs rest.0 rest.1, rest.2)

-- one of its nodes names this one, and it isn't one of them
pub record GiftOf (sizes : Sizes) (account : Account) (o : Operation) (k : Ref) : Type 0 where
  pub maker : Ref
  pub its : Contains o.private maker
  pub names : Contains (refs_of_node (node_at (state_of sizes account).heap maker)) k
  pub apart : is_in o.private k ≡ false

module _ (sizes : Sizes) (account : Account) (bounds : AreBounds (bounds_for sizes account.steps)) (keys : KeysFit account.steps) (actor : ℕ) (o : Operation)
    (runs : running sizes account actor o) where
  abbrev state : State
  state = state_of sizes account

  abbrev held : Held
  held = held_now sizes account

  abbrev gifts : List Ref
  gifts = gives (given_up o.private) held.claims

  pub times : (k : Ref) → how_often k (gives (given_up o.private) (held_now sizes account).claims) ≡ times_made (is_in o.private k) (state_of sizes account) (held_now sizes account) o k
  times k = given_times (bounds_for sizes account.steps) bounds account.steps keys actor o runs k (is_in o.private k) refl

  pub given_of : (k : Ref) → Contains (gives (given_up o.private) (held_now sizes account).claims) k → GiftOf sizes account o k
  given_of k c = by (is_in o.private k) refl
    where
      by : (b : Bool) → is_in o.private k ≡ b → GiftOf sizes account o k
      by true e = let some = has_often k gifts c in let none = times k ∙ ap (λ b. times_made b state held o k) e in absurd (omega (arith, some, none))
      by false e =
          let some = has_often k gifts c in
          let all = times k ∙ ap (λ b. times_made b state held o k) e in
          let one = one_counted (λ (x : Ref). holds_made state held o x k) o.private (omega (arith, some, all)) in
          record {
            maker = one.0;
            its = one.1;
            names = among (refs_of_node (node_at state.heap one.0)) k (both_true (names state one.0 k) (not (takes_at state held o.line one.0 k)) one.2).0;
            apart = e;
          }
