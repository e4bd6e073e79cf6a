-- What a step lets holders give to its seat was counted.
use Rattle.history.specs.declared.calls.Call.{Call}
use Rattle.std.proofs.Common.{◌≡◌, ◌+◌, ◌≤◌, ℕ, Bool, true, List, [], get_or, map, set, ap, ◌∙◌, arith}
use mathlib.Core.Option.{some}
use lib.ListN.{get_elem?}
use Rattle.atomic_table.specs.Table as Table
use Rattle.machine_model.specs.Beneath.slot_arena.specs.declared.refs.Ref.{Ref}
use Rattle.machine_model.specs.Beneath.slot_arena.specs.Heaps.{node_at}
use Rattle.machine_model.specs.Beneath.slot_arena.specs.Refs.{slot_of}
use Rattle.proof_claims.specs.Held.{Change, Claim, Given, Holder, Stays, claims_after, gives}
use Rattle.lock_free.specs.declared.accounts.Account.{Account}
use Rattle.lock_free.specs.declared.rules.Retired.{Retired}
use Rattle.lock_free.specs.declared.rules.View.{View}
use Rattle.lock_free.specs.declared.sizes.Sizes.{Sizes}
use Rattle.lock_free.specs.Accounts.{place_of, state_of}
use Rattle.lock_free.specs.Claims.{claims_there, held_now, is_there}
use Rattle.lock_free.specs.Counts.{IsCount, how_often, owed_on, references}
use Rattle.lock_free.specs.Holdings.{IsHere, count_of, retired_in, retired_on, HasBeenLetGo}
use Rattle.lock_free.specs.Nodes.{class_of}
use Rattle.lock_free.specs.Places.{count_word}
use Rattle.lock_free.specs.Rules.{IsKept}
use Rattle.lock_free.proofs.ClaimsThere.{there_balance}
use Rattle.lock_free.proofs.CountsStay.{owed_set}
use Rattle.lock_free.proofs.HeldGone.{AreAlike}
use Rattle.lock_free.proofs.HeldStill.{here_count, retired_set}

-- A step that takes nothing and makes nothing gives claims of holders alone that were there.
module _ (k : Ref) (stands : ℕ → Bool) (change : Change) (added : change.added ≡ []) (made : change.made ≡ [])
    (stays : (c : Claim) (by : Holder) → change.fate c ≡ Stays by → is_there stands by ≡ true → is_there stands c.by ≡ true)
    (given : (c : Claim) → change.fate c ≡ Given → is_there stands c.by ≡ true) where
  pub fewer_given : (claims : List Claim) → claims_there stands k (claims_after change claims) + how_often k (gives change claims) ≤ claims_there stands k claims
  fewer_given claims =
      let all = there_balance k stands stands change stays given claims in
      let none = ap (λ (cs : List Claim). how_often k (map (λ (c : Claim). c.on) cs)) added in
      let no_node = ap (how_often k) made in
      omega (arith, all, none, no_node)

-- so what is claimed then and what is given are counted, where words of counts and nodes' slots are what they were
module _ (sizes : Sizes) (s : Table.State Call View) (kept : IsKept sizes s) (id : ℕ) (v : View) (at : get_elem? s.views id ≡ some v) (after : Account) (names : after.names ≡ kept.account.names)
    (alike : AreAlike (state_of sizes kept.account) (state_of sizes after)) (words_then : List ℕ) (same : (c : ℕ) → IsCount sizes c → references words_then c ≡ references s.words c)
    (gone : View) (owed : gone.owed ≡ v.owed) (retired : gone.retired ≡ v.retired) (given : List Ref)
    (fewer : (k : Ref) → claims_there kept.stands k (held_now sizes after).claims + how_often k given ≤ claims_there kept.stands k (held_now sizes kept.account).claims) where
  -- one more is of what was let go of before
  pub given_unlet : (k : Ref) → HasBeenLetGo sizes kept.account k → IsHere sizes after kept.stands k →
      claims_there kept.stands k (held_now sizes after).claims + how_often k given + owed_on k (set s.views id gone) + 1 ≤ references words_then (count_of sizes after k)
  given_unlet k let_go is =
      let was : IsHere sizes kept.account kept.stands k = (alike.used k is.0, is.1) in
      let old = kept.held.unlet k let_go was in
      let less = fewer k in
      let seats = owed_set k s.views id v at gone in
      let its = ap (how_often k) owed in
      let count = ap (references words_then)
      (ap (λ c. count_word sizes c (place_of after k)) (alike.classes k is.0)
      ∙ ap (λ xs. count_word sizes (class_of (node_at (state_of sizes kept.account).heap k)) (get_or xs (slot_of k) 0)) names)
      ∙ same (count_of sizes kept.account k) (here_count sizes s kept k was) in
      omega (arith, old, less, seats, its, count)

  pub given_counted : (k : Ref) → IsHere sizes after kept.stands k →
      claims_there kept.stands k (held_now sizes after).claims + how_often k given + owed_on k (set s.views id gone) + retired_on (slot_of k) (set s.views id gone) ≤ references words_then
      (count_of sizes after k)
  given_counted k is =
      let was : IsHere sizes kept.account kept.stands k = (alike.used k is.0, is.1) in
      let old = kept.held.counted k was in
      let less = fewer k in
      let seats = owed_set k s.views id v at gone in
      let its = ap (how_often k) owed in
      let slots = retired_set (slot_of k) s.views id v at gone in
      let own : retired_in (slot_of k) gone ≡ retired_in (slot_of k) v = ap (λ (xs : List Retired). retired_in (slot_of k) (record v { retired = xs })) retired in
      let count = ap (references words_then)
      (ap (λ c. count_word sizes c (place_of after k)) (alike.classes k is.0)
      ∙ ap (λ xs. count_word sizes (class_of (node_at (state_of sizes kept.account).heap k)) (get_or xs (slot_of k) 0)) names)
      ∙ same (count_of sizes kept.account k) (here_count sizes s kept k was) in
      omega (arith, old, less, seats, its, slots, own, count)
