-- One reference more is counted of what was let go of, where a step lets holders that are there give some to its seat.
use Rattle.history.specs.declared.calls.Call.{Call}
use Rattle.std.proofs.Common.{◌≡◌, ◌+◌, ◌≤◌, ◌&&◌, ◌++◌, inl, inr, ℕ, true, List, [], ◌∷◌, flat_map, get_or, set, refl, ap, ◌∙◌, arith, append-nil, eq-eqb}
use mathlib.Core.Option.{some}
use lib.ListN.{get_elem?}
use Rattle.atomic_table.specs.Table as Table
use Rattle.machine_model.specs.Beneath.slot_arena.specs.declared.refs.Ref.{Ref}
use Rattle.machine_model.specs.Beneath.slot_arena.specs.Heaps.{node_at}
use Rattle.machine_model.specs.Beneath.slot_arena.specs.Refs.{slot_of}
use Rattle.machine_model.specs.declared.steps.Step.{Step}
use Rattle.proof_claims.specs.Changes.{change_of}
use Rattle.proof_claims.specs.Held.{Change, Claim, Given, Held, gives, given_by, held_after, kept_by}
use Rattle.proof_claims.proofs.ChangeKinds.{GivesUp}
use Rattle.lock_free.specs.declared.accounts.Account.{Account}
use Rattle.lock_free.specs.declared.rules.View.{View}
use Rattle.lock_free.specs.declared.sizes.Sizes.{Sizes}
use Rattle.lock_free.specs.Accounts.{place_of, state_of}
use Rattle.lock_free.specs.Claims.{claims_there, held_now, is_there}
use Rattle.lock_free.specs.Counts.{IsCount, how_often, owed_on, references}
use Rattle.lock_free.specs.Holdings.{HasBeenLetGo, IsHere, count_of}
use Rattle.lock_free.specs.Live.{IsLive}
use Rattle.lock_free.specs.Nodes.{class_of}
use Rattle.lock_free.specs.Places.{count_word}
use Rattle.lock_free.specs.Rules.{IsKept}
use Rattle.lock_free.proofs.CountsStay.{owed_set}
use Rattle.lock_free.proofs.GivenCounted.{fewer_given, given_unlet}
use Rattle.lock_free.proofs.HeldGone.{AreAlike, IsLetting}
use Rattle.lock_free.proofs.HeldRetiring.{claims_fewer}
use Rattle.lock_free.proofs.HeldStill.{here_count}
use Rattle.lock_free.proofs.LetGoSince.{EndsOn, LetsGoNow, ends_one, gives_up, let_go_then, lets_go_now}

module _ (sizes : Sizes) (s : Table.State Call View) (kept : IsKept sizes s) (id : ℕ) (v : View) (at : get_elem? s.views id ≡ some v) (taken : Step) (after : Account)
    (steps : after.steps ≡ kept.account.steps ++ taken ∷ []) (names : after.names ≡ kept.account.names) (alike : AreAlike (state_of sizes kept.account) (state_of sizes after))
    (words_then : List ℕ) (same : (c : ℕ) → IsCount sizes c → references words_then c ≡ references s.words c) (gone : View) (owed : gone.owed ≡ v.owed) (retired : gone.retired ≡ v.retired)
    -- it takes nothing and makes nothing, and gives up nothing
    (lets : IsLetting kept.stands kept.stands (IsLive (state_of sizes kept.account)) (change_of (state_of sizes kept.account) (held_now sizes kept.account) taken))
    (made : (change_of (state_of sizes kept.account) (held_now sizes kept.account) taken).made ≡ [])
    (given_there : (c : Claim) → (change_of (state_of sizes kept.account) (held_now sizes kept.account) taken).fate c ≡ Given → is_there kept.stands c.by ≡ true)
    (none : (private : List Ref) → GivesUp (state_of sizes kept.account) taken private → ⊥)
    (held_is : held_now sizes after ≡ held_after (change_of (state_of sizes kept.account) (held_now sizes kept.account) taken) (held_now sizes kept.account)) where
  abbrev held : Held
  held = held_now sizes kept.account

  abbrev change : Change
  change = change_of (state_of sizes kept.account) held taken

  abbrev kept_claims : List Claim
  kept_claims = flat_map (λ (c : Claim). kept_by (change.fate c) c.on) held.claims

  claims_are : (held_now sizes after).claims ≡ kept_claims
  claims_are = ap (λ (h : Held). h.claims) held_is ∙ ap (λ (cs : List Claim). kept_claims ++ cs) lets.added ∙ append-nil kept_claims

  fewer : (k : Ref) → claims_there kept.stands k (held_now sizes after).claims + how_often k (gives change held.claims) ≤ claims_there kept.stands k held.claims
  fewer k =
      let all = fewer_given k kept.stands change lets.added made lets.stays given_there held.claims in
      let is = ap (λ (h : Held). claims_there kept.stands k h.claims) held_is in
      omega (arith, all, is)

  one_fewer : (k : Ref) → EndsOn sizes kept.account kept.stands taken k →
      claims_there kept.stands k (held_now sizes after).claims + how_often k (gives change held.claims) + 1 ≤ claims_there kept.stands k held.claims
  one_fewer k e =
      let all =
      claims_fewer k kept.stands kept.stands change lets.stays given_there (record { by = e.by; on = k }) e.ends (ap (λ b. b && is_there kept.stands e.by) (eq-eqb k k refl) ∙ e.there)
      held.claims e.has in
      let is = ap (claims_there kept.stands k) claims_are in
      let no_node = ap (λ (ns : List Ref). how_often k (ns ++ flat_map (λ (c : Claim). given_by (change.fate c) c.on) held.claims)) made in
      omega (arith, all, is, no_node)

  pub let_go_gives : (k : Ref) → HasBeenLetGo sizes after k → IsHere sizes after kept.stands k →
      claims_there kept.stands k (held_now sizes after).claims + how_often k (gives (change_of (state_of sizes kept.account) (held_now sizes kept.account) taken) (held_now sizes kept.account).claims)
      + owed_on k (set s.views id gone) + 1 ≤ references words_then (count_of sizes after k)
  let_go_gives k was_let_go is = elim (let_go_then sizes s kept taken after steps k was_let_go) [
    | inl was ↦ given_unlet sizes s kept id v at after names alike words_then same gone owed retired (gives change held.claims) fewer k was is
    | inr now ↦ by (lets_go_now sizes s kept taken k now)
  ]
    where
      by : LetsGoNow sizes kept.account kept.stands taken k →
          claims_there kept.stands k (held_now sizes after).claims + how_often k (gives change held.claims) + owed_on k (set s.views id gone) + 1 ≤ references words_then (count_of sizes after k)
      by (gives_up private up c) = absurd (none private up)
      by (ends_one e) =
          let was : IsHere sizes kept.account kept.stands k = (alike.used k is.0, is.1) in
          let old = kept.held.counted k was in
          let less = one_fewer k e in
          let seats = owed_set k s.views id v at gone in
          let its = ap (how_often k) owed in
          let count = ap (references words_then)
          (ap (λ c. count_word sizes c (place_of after k)) (alike.classes k is.0)
          ∙ ap (λ xs. count_word sizes (class_of (node_at (state_of sizes kept.account).heap k)) (get_or xs (slot_of k) 0)) names)
          ∙ same (count_of sizes kept.account k) (here_count sizes s kept k was) in
          omega (arith, old, less, seats, its, count)
