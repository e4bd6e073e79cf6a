-- A seat that makes a node holds the first reference to it from then on, and nobody has retired it.
use Rattle.history.specs.declared.calls.Call.{Call}
use Rattle.std.proofs.Common.{◌≡◌, ◌+◌, ◌<◌, inl, inr, ℕ, [], ◌∷◌, Contains, Some, get_or, set, length, length-append, sym, ap, subst, ◌∙◌, arith, ◌≢◌, List, ◌≤◌, suc, ◌==◌, zero, refl}
use mathlib.Core.Option.{some}
use lib.ListN.{get_elem?}
use Rattle.atomic_table.specs.Table as Table
use Rattle.machine_model.specs.Beneath.slot_arena.specs.declared.refs.Ref.{Ref}
use Rattle.machine_model.specs.Beneath.slot_arena.specs.Refs.{ref_to}
use Rattle.machine_model.specs.Beneath.slot_arena.proofs.Live.{slot_of_ref}
use Rattle.machine_model.specs.Calls.{handle_of}
use Rattle.machine_model.specs.declared.operations.Operation.{Operation}
use Rattle.proof_claims.specs.Held.{Change, Claim, Stays, takes, gives}
use Rattle.lock_free.specs.declared.rules.Pinned.{Pinned}
use Rattle.lock_free.specs.declared.rules.Retired.{Retired}
use Rattle.lock_free.specs.declared.rules.View.{View}
use Rattle.lock_free.specs.Accounts.{running, state_of}
use Rattle.lock_free.specs.Claims.{HoldsAll, held_now, owes_after, without_all}
use Rattle.lock_free.specs.Rules.{AreOwed, IsKept}
use Rattle.lock_free.proofs.HeldTakes.{owes_made, gives_made}
use Rattle.lock_free.proofs.OwedStay.{owed_more}
use Rattle.lock_free.specs.declared.sizes.Sizes.{Sizes}
use Rattle.lock_free.proofs.LinesStay.{LinesStay}
use Rattle.lock_free.proofs.MadeOwe.{OwesOneMore}
use Rattle.lock_free.specs.OwesAt.{owes_at}
use Rattle.lock_free.specs.Counts.{how_often}
use Rattle.lock_free.proofs.ClaimsThere.{often_without, often_has}
use Rattle.std.proofs.lemmas.List.Sums.{sum_by-append}
use mathlib.Core.Bool.{cond}
use Rattle.std.proofs.lemmas.Option.{same_Some}
use Rattle.machine_model.specs.States.{operation_of}
use Rattle.lock_free.specs.declared.accounts.Account.{Account}

module _ (v : View) (s : Table.State Call View) (kept : IsKept v.sizes s) (id : ℕ) (at : get_elem? s.views id ≡ some v) (o : Operation) (runs : running v.sizes kept.account v.actor o) where
  -- the next node
  abbrev pub next : Ref
  next = ref_to (length kept.account.names + 1) (length kept.account.names)

  pub made_owed : (w : View) (change : Change) → ((c : Claim) → change.fate c ≡ Stays c.by) → change.made ≡ next ∷ [] → HoldsAll (takes change) v.owed →
      w.owed ≡ owes_after change (held_now v.sizes kept.account).claims v.owed →
      w.pin ≡ v.pin →
      w.retired ≡ v.retired → AreOwed s.views → AreOwed (set s.views id w)
  made_owed w change same made holds owes pin retired =
      owed_more s.views id v at w next
      (λ k c. elim (owes_made change same (held_now v.sizes kept.account).claims v.owed holds k (subst (λ ks. Contains ks k) owes c)) [
        | inl old ↦ inl old
        | inr new ↦ inr (sym (only k (subst (λ ks. Contains ks k) made new)))
      ])
      pin its_pin retired
      (λ i u e x c same q is. (let low = retired_low i u e x c in absurd (omega (arith, low, same, slot_of_ref (length kept.account.names + 1) (length kept.account.names)))))
    where
      only : (z : Ref) → Contains (next ∷ []) z → next ≡ z
      only z (i, within, at_i) = let zero_is : i ≡ 0 = omega arith in subst (λ n. get_or (next ∷ []) n z ≡ z) zero_is at_i

      -- whose operation runs is pinned
      its_pin : (q : Pinned) × (v.pin ≡ Some q)
      its_pin = let inside = (kept.seats id v at).entered (handle_of o.call) ((kept.seats id v at).calls o runs) in (inside.2.0, inside.2.1)

      retired_low : (i : ℕ) (u : View) → get_elem? s.views i ≡ some u → (x : Retired) → Contains u.retired x → x.number < length kept.account.names
      retired_low i u e x c =
          let is = (kept.seats i u e).retired x c in
          let low = is.was.made in
          let grown = ap length is.grown.more_names in
          let all = length-append x.account.names is.grown.names in
          omega (arith, low, grown, all)

-- ---- what its operation owes then it holds

pub made_lines : (sizes : Sizes) (s : Table.State Call View) (kept : IsKept sizes s) (id : ℕ) (v : View) (at : get_elem? s.views id ≡ some v) (was : Operation) →
    operation_of (state_of sizes kept.account) v.actor ≡ Some was → (after : Account) (w : View) →
    ((a : ℕ) → a ≢ v.actor → operation_of (state_of sizes after) a ≡ operation_of (state_of sizes kept.account) a) → (then : Operation) → operation_of (state_of sizes after) v.actor ≡ Some then →
    (made : Ref) (change : Change) → ((c : Claim) → change.fate c ≡ Stays c.by) → change.made ≡ made ∷ [] → HoldsAll (takes change) v.owed →
    w.owed ≡ owes_after change (held_now sizes kept.account).claims v.owed → (names : List Ref) → ((k : Ref) → Contains (takes change) k → Contains names k) →
    OwesOneMore names made (owes_at was) (owes_at then) → LinesStay sizes kept.account after v w
made_lines sizes s kept id v at was ran after w others then runs made change same makes holds owes names named more = record {
  others = λ a differs o e. (o, sym (others a differs) ∙ e, λ k. omega arith);
  own = λ o e k.
      (let its = ap (λ (x : Operation). how_often k (owes_at x)) (same_Some o then (sym e ∙ runs)) in let enough = by k (how_often k (takes change)) refl in omega (arith, its, enough));
}
  where
    by : (k : Ref) (n : ℕ) → how_often k (takes change) ≡ n → how_often k (owes_at then) ≤ how_often k w.owed
    by k n is =
        let all = ap (how_often k) owes ∙ sum_by-append (λ (x : Ref). cond {A = ℕ} (x == k) 1 0) (gives change (held_now sizes kept.account).claims) (without_all (takes change) v.owed) in
        let given = ap (how_often k) (gives_made change same (held_now sizes kept.account).claims ∙ makes) in
        let left = often_without k (takes change) v.owed holds in
        let old = kept.held.lines id v at was ran k in
        of_taken n is all given left old
      where
        of_taken : (n : ℕ) → how_often k (takes change) ≡ n → how_often k w.owed ≡ how_often k (gives change (held_now sizes kept.account).claims) + how_often k (without_all (takes change) v.owed) →
            how_often k (gives change (held_now sizes kept.account).claims) ≡ how_often k (made ∷ []) →
            how_often k (without_all (takes change) v.owed) + how_often k (takes change) ≡ how_often k v.owed →
            how_often k (owes_at was) ≤ how_often k v.owed → how_often k (owes_at then) ≤ how_often k w.owed
        of_taken zero is all given left old = let most = (more k).1 in omega (arith, is, all, given, left, old, most)
        of_taken (suc n) is all given left old =
            let most = (more k).0 (named k (often_has k (takes change) (omega (arith, is)))) in omega (arith, all, given, most)
