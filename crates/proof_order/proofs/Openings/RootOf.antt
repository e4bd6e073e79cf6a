-- The root of a generation, as the trie of a run has it, is that of the handle whose root has the generation.
use Rattle.std.proofs.Common.{◌≡◌, ℕ, zero, suc, ◌≤◌, ◌==◌, Bool, true, false, cond, ◌⊎◌, inl, inr, List, ◌∷◌, Option, Some, None, get_or, unwrap_or, refl, sym, ap, ◌∙◌, subst}
use Rattle.std.proofs.Common.{arith, eqb-true, eq-eqb, []}
use Rattle.std.proofs.lemmas.Bool.{cases_eq}
use Rattle.std.proofs.lemmas.Option.{none-some, same_Some}
use Rattle.proof_order.specs.Vocabulary.{Ref, Heap, generation_at, generation_of, Root, RootWord, Plain, Offer, Bounds, State, root_of, node_under, IsRun, IsInUse, AllHold, word_wants, or_other}
use Rattle.proof_order.specs.Vocabulary.{root_if, root_among, root_until, root_of_generation}
use Rattle.proof_order.specs.Beneath.proof_memory.proofs.Claims.Uses.{safe_of}
use Rattle.proof_order.specs.Beneath.proof_memory.proofs.Safety.AtEachTime.{safe_at}
use Rattle.proof_order.specs.Beneath.proof_memory.proofs.Safety.AtTimes.{generation_found}
use Rattle.proof_generations.proofs.Counter.Drawn.{generation_stays}
use Rattle.proof_order.specs.Openings.{IsRootOf, RootsAreOne}
use Rattle.proof_order.proofs.Openings.OneRoot.{one_at}
use Rattle.proof_order.specs.Beneath.machine_model.proofs.Grown.{grown_in_use}

-- ---- among the handles of a state

-- a handle over this root of the generation
record IsAmong (heap : Heap) (generation : ℕ) (roots : List (Option Root)) (q : Ref) : Type 0 where
  handle : ℕ
  root : Root
  is_open : get_or roots handle None ≡ Some root
  is : root_of root.word ≡ q
  its : generation_at heap q ≡ generation

in_front : (heap : Heap) (generation : ℕ) (o : Option Root) (roots : List (Option Root)) (q : Ref) → IsAmong heap generation roots q → IsAmong heap generation (o ∷ roots) q
in_front heap generation o roots q a = record { handle = suc a.handle; root = a.root; is_open = a.is_open; is = a.is; its = a.its }

among_found : (heap : Heap) (generation : ℕ) (roots : List (Option Root)) (q : Ref) → root_among heap generation roots ≡ Some q → IsAmong heap generation roots q
among_found heap generation [] q e = absurd (none-some q e)
among_found heap generation (None ∷ roots) q e = in_front heap generation None roots q (among_found heap generation roots q e)
among_found heap generation (Some root ∷ roots) q e = by (among_found heap generation roots q) (generation_at heap (root_of root.word) == generation) refl e
  where
    by : (root_among heap generation roots ≡ Some q → IsAmong heap generation roots q) → (b : Bool) → (generation_at heap (root_of root.word) == generation) ≡ b →
        or_other (cond b (Some (root_of root.word)) None) (root_among heap generation roots) ≡ Some q → IsAmong heap generation (Some root ∷ roots) q
    by rest true same e =
        let is = same_Some (root_of root.word) q e in
        record { handle = zero; root = root; is_open = refl; is = is; its = ap (generation_at heap) (sym is) ∙ eqb-true (generation_at heap (root_of root.word)) generation same }
    by rest false apart e = in_front heap generation (Some root) roots q (rest e)

or_either : (a b : Option Ref) (q : Ref) → b ≡ Some q → (p : Ref) × (or_other a b ≡ Some p)
or_either None b q e = (q, e)
or_either (Some p) b q e = (p, refl)

among_there : (heap : Heap) (generation : ℕ) (roots : List (Option Root)) (handle : ℕ) (root : Root) → get_or roots handle None ≡ Some root → generation_at heap (root_of root.word) ≡ generation →
    (q : Ref) × (root_among heap generation roots ≡ Some q)
among_there heap generation [] handle root e its = absurd (none-some root e)
among_there heap generation (o ∷ roots) (suc handle) root e its =
    let (q, found) = among_there heap generation roots handle root e its in or_either (root_if heap generation o) (root_among heap generation roots) q found
among_there heap generation (o ∷ roots) zero root e its = (
  root_of root.word,
  ap (λ x. or_other (root_if heap generation x) (root_among heap generation roots)) e
      ∙ ap (λ b. or_other (cond b (Some (root_of root.word)) None) (root_among heap generation roots)) (eq-eqb (generation_at heap (root_of root.word)) generation its),
)

-- ---- up to a time

module _ (states : ℕ → State) where
  or_cases : (a b : Option Ref) (q : Ref) → or_other a b ≡ Some q → (a ≡ Some q) ⊎ (b ≡ Some q)
  or_cases None b q e = inr e
  or_cases (Some p) b q e = inl e

  at_time : (t generation : ℕ) (q : Ref) → root_among (states t).heap generation (states t).roots ≡ Some q → (handle : ℕ) × IsRootOf states t handle q generation
  at_time t generation q e =
      let a = among_found (states t).heap generation (states t).roots q e in
      (a.handle, record { root = a.root; is_open = a.is_open; is = a.is; its = a.its })

  until_found : (t generation : ℕ) (q : Ref) → root_until states generation t ≡ Some q → (u handle : ℕ) × (u ≤ t) × IsRootOf states u handle q generation
  unfolding root_until
  until_found zero generation q e = let (handle, is) = at_time zero generation q e in (zero, handle, omega arith, is)
  until_found (suc t) generation q e = elim (or_cases (root_until states generation t) _ q e) [
    | inl before ↦ let (u, handle, le, is) = until_found t generation q before in (u, handle, omega arith, is)
    | inr now ↦ let (handle, is) = at_time (suc t) generation q now in (suc t, handle, omega arith, is)
  ]

  -- it is found from the time on at which it stands
  until_there : (t u handle generation : ℕ) (r : Ref) → u ≤ t → IsRootOf states u handle r generation → (q : Ref) × (root_until states generation t ≡ Some q)
  unfolding root_until
  until_there zero u handle generation r le is =
      let at_u : u ≡ zero = omega arith in
      let now = subst (λ w. IsRootOf states w handle r generation) at_u is in
      among_there (states zero).heap generation (states zero).roots handle now.root now.is_open (ap (generation_at (states zero).heap) now.is ∙ now.its)
  until_there (suc t) u handle generation r le is = elim (cases_eq u (suc t)) [
    | inl same ↦
        let now = subst (λ w. IsRootOf states w handle r generation) same is in
        let (q, found) = among_there (states (suc t)).heap generation (states (suc t)).roots handle now.root now.is_open (ap (generation_at (states (suc t)).heap) now.is ∙ now.its) in
        or_either (root_until states generation t) _ q found
    | inr before ↦ let (q, found) = until_there t u handle generation r (omega arith) is in (q, ap (λ o. or_other o (root_among (states (suc t)).heap generation (states (suc t)).roots)) found)
  ]

-- ---- along a run

module _ {limits : Bounds} {states : ℕ → State} {last : ℕ} (run : IsRun limits states last) where
  -- a handle's root is in use
  pub root_in_use : (t handle : ℕ) (r : Ref) (generation : ℕ) → t ≤ last → IsRootOf states t handle r generation → IsInUse (states t).heap r
  root_in_use t handle r generation within is =
      subst (IsInUse (states t).heap) is.is (by is.root.word ((safe_at run t within).words handle is.root is.is_open))
    where
      by : (word : RootWord) → AllHold (IsInUse (states t).heap) (states t).heap (word_wants word) → IsInUse (states t).heap (root_of word)
      by (Plain q) h = safe_of h.0
      by (Offer offer) h = safe_of h.0

  pub roots_are_one : RootsAreOne states last
  roots_are_one t handle r generation within is = (by (root_until states generation last) refl, keeps)
    where
      by : (o : Option Ref) → root_until states generation last ≡ o → root_of_generation states last generation ≡ r
      by None e = let (q, found) = until_there states last t handle generation r within is in absurd (none-some q (sym e ∙ found))
      by (Some q) e =
          ap (λ o. unwrap_or o 0) e ∙ one_at run last (omega arith) q r generation (until_found states last generation q e) (t, handle, within, is)

      keeps : generation_of (node_under states last r) ≡ generation
      keeps =
          let used = root_in_use t handle r generation within is in
          generation_stays run t last within (omega arith) r used.0 (grown_in_use states t r used.0 used.1)
          ∙ sym (generation_found states t r used) ∙ is.its
