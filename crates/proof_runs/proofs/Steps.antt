-- What a step that is taken does to the run that led to it.
use Rattle.std.specs.Prelude.{◌≡◌, List, [], ◌∷◌, ◌++◌, Ok}
use Rattle.std.proofs.lemmas.List.Elements.{All-push}
use Rattle.std.proofs.Common.{refl, sym, ap, subst}
use Rattle.proof_runs.specs.Vocabulary.{Bounds, Limits, Step, Outcome, State, first_state, bounded, next, run, FitsKey, KeysFit}
use Rattle.proof_runs.specs.Beneath.machine_model.proofs.Along.{run_push}
use Rattle.proof_runs.specs.Machines.{IsTaken, AreTaken}

-- the run with the step leads to the state after it
pub run_with : (limits : Bounds) (steps : List Step) (s : Step) (o : Outcome) (after : State) → next (run limits steps) s ≡ Ok (o, after) →
    after ≡ run limits (steps ++ s ∷ [])
run_with limits steps s o after e = sym (rw (run_push (first_state limits) steps s) (rw e refl))

-- where a list with one element more is cut, either that element stands behind the cut alone, or the list itself is cut there

data Cut {A : Type 0} (xs : List A) (x : A) (before : List A) (at : A) (after : List A) : Type 0 where
  Last : xs ≡ before → x ≡ at → Cut xs x before at after
  Earlier : (rest : List A) → xs ≡ before ++ at ∷ rest → Cut xs x before at after

longer : {A : Type 0} (y : A) (xs : List A) (x : A) (before : List A) (at : A) (after : List A) → Cut xs x before at after → Cut (y ∷ xs) x (y ∷ before) at after
longer y xs x before at after (Last same is) = Last (ap (λ l. y ∷ l) same) is
longer y xs x before at after (Earlier rest same) = Earlier rest (ap (λ l. y ∷ l) same)

cut_push : {A : Type 0} (xs : List A) (x : A) (before : List A) (at : A) (after : List A) → xs ++ x ∷ [] ≡ before ++ at ∷ after → Cut xs x before at after
cut_push [] x [] at after e = Last refl cc
cut_push [] x (b ∷ []) at after e = absurd cc
cut_push [] x (b ∷ c ∷ before) at after e = absurd cc
cut_push (y ∷ xs) x [] at after e = Earlier xs (let same : y ≡ at = cc in rw same refl)
cut_push (y ∷ xs) x (b ∷ before) at after e =
    let same : y ≡ b = cc in
    let rest : xs ++ x ∷ [] ≡ before ++ at ∷ after = cc in
    subst (λ (z : _). Cut (y ∷ xs) x (z ∷ before) at after) same (longer y xs x before at after (cut_push xs x before at after rest))

-- behind steps that the definition takes, one more that it takes
pub taken_push : (limits : Limits) (steps : List Step) (s : Step) → AreTaken limits steps → IsTaken (run (bounded limits) steps) s → AreTaken limits (steps ++ s ∷ [])
taken_push limits steps s all last before after step e = elim (cut_push steps s before step after e) [
  | Last same is ↦ subst (λ (b : List Step). IsTaken (run (bounded limits) b) step) same (subst (λ (x : Step). IsTaken (run (bounded limits) steps) x) is last)
  | Earlier rest same ↦ all before rest step same
]

-- ---- keys

-- one step more whose key fits
pub keys_with : (steps : List Step) (s : Step) → KeysFit steps → FitsKey s → KeysFit (steps ++ s ∷ [])
keys_with steps s all last = All-push FitsKey steps s all last
