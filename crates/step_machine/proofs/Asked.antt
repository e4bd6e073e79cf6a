-- The steps that a machine's program asked for: none of them gives up.
use Rattle.std.proofs.Common.{◌≡◌, ℕ, List, [], ◌∷◌, ◌++◌, Result, Ok, ap, subst, ◌∙◌, inl, inr}
use Rattle.std.proofs.lemmas.List.{map-append}
use Rattle.step_machine.specs.Vocabulary.{Refusal, NoSlots, Outcome, Ended, Step as AnyStep, RefusedForWantAlone, bounded}
use Rattle.machine_core.specs.Asking.{asked, asked_all}
use Rattle.machine_core.specs.declared.asked.Step.{Step}
use Rattle.machine_core.specs.declared.asked.Step.TheVariants as step
use Rattle.machine_model.specs.declared.steps.Step.TheVariants as any
use Rattle.proof_runs.specs.Machines.{Taken, state_of, Applied, FoundNoSlot}

-- one more is one more of the definition's
pub pushed : (items now : List Step) (s : Step) → now ≡ items ++ s ∷ [] → asked_all now ≡ asked_all items ++ asked s ∷ []
pushed items now s is = ap asked_all is ∙ map-append asked items (s ∷ [])

other_asked : (s : Step) (actor : ℕ) → asked s ≡ any.GiveUp actor → ⊥
other_asked (step.Begin who call) actor e = cc e
other_asked (step.Go who) actor e = cc e
other_asked step.Sweep actor e = cc e

none_gives_up : (items : List Step) (before between : List AnyStep) (actor : ℕ) → asked_all items ≡ before ++ any.GiveUp actor ∷ between → ⊥
none_gives_up [] [] between actor e = cc e
none_gives_up [] (b ∷ before) between actor e = cc e
none_gives_up (x ∷ xs) [] between actor e = let head : asked x ≡ any.GiveUp actor = cc e in other_asked x actor head
none_gives_up (x ∷ xs) (b ∷ before) between actor e = let rest : asked_all xs ≡ before ++ any.GiveUp actor ∷ between = cc e in none_gives_up xs before between actor rest

-- so an operation is refused for want of slots only where it found none
pub found_none : RefusedForWantAlone → (items : List Step) (machine after : Taken) (s : Step) (result : Result Outcome Refusal) → asked_all items ≡ machine.steps →
    Applied result machine (asked s) after → (actor id : ℕ) → s ≡ step.Go actor → result ≡ Ok (Ended id NoSlots) → FoundNoSlot machine actor id
found_none law items machine after s result is applied actor id goes told =
    let taken = subst (λ (r : Result Outcome Refusal). Applied r machine (any.Go actor) after) told (subst (λ x. Applied result machine (asked x) after) goes applied) in
    elim (law (bounded machine.limits) machine.steps actor id (state_of after) taken.1) [
      | inl found ↦ found
      | inr (before, between, same, without, runs) ↦ absurd (none_gives_up items before between actor (is ∙ same))
    ]
