-- An operation makes no more nodes than it takes steps.
use Rattle.std.proofs.Common.{◌≡◌, ℕ, zero, suc, ◌+◌, ◌-◌, ◌≤◌, false, List, None, option_map, inl, inr, sym, subst, ap, ◌∙◌, arith}
use Rattle.std.proofs.lemmas.Bool.{cases_lt}
use Rattle.std.proofs.lemmas.Option.{same_Some}
use Rattle.proof_obstruction_free.specs.Vocabulary.{Operation, Bounds, Step, action_of, kind_of, State, operation_of, new_try, Line}
use Rattle.proof_obstruction_free.specs.Laws.{RunsAlone, alone_after, most_steps_of}
use Rattle.proof_obstruction_free.specs.Slots.{CopiesMakeFew, EnoughForCopies, EnoughSlots, MakesAtMost, is_make, makes_next, most_steps_of_copies}
use Rattle.proof_obstruction_free.specs.Beneath.machine_model.proofs.Refusals.{IsRefusal}
use Rattle.proof_obstruction_free.proofs.Ends.Alone.{stays}
use Rattle.proof_obstruction_free.proofs.Ends.Bounds.{copies_end_first}
use Rattle.proof_obstruction_free.proofs.Inherited.EndsAll.{alone_it_ends}
use Rattle.proof_obstruction_free.proofs.Slots.Free.{made, not_for_want, one_made, none_made, refused_there}
use Rattle.proof_obstruction_free.specs.Beneath.slot_arena.proofs.Times.{bit}
use Rattle.proof_obstruction_free.specs.Beneath.epochs.proofs.InUse.{bit_small}

-- one in each step at most
pub made_steps : (limits : Bounds) (steps : List Step) (actor n : ℕ) → made limits steps actor n ≤ n
made_steps limits steps actor zero = omega (arith, none_made limits steps actor)
made_steps limits steps actor (suc n) =
    omega (arith, one_made limits steps actor n, bit_small (makes_next (alone_after limits steps actor n) actor), made_steps limits steps actor n)

-- who runs nothing makes nothing
idle_makes_none : (state : State) (actor : ℕ) → operation_of state actor ≡ None → makes_next state actor ≡ false
idle_makes_none state actor idle = ap (λ o. is_make (option_map (λ x. kind_of (action_of state x)) o)) idle

module _ (limits : Bounds) (steps : List Step) (actor : ℕ) (operation : Operation) (r : RunsAlone limits steps actor operation) where
  abbrev after : ℕ → State
  after n = alone_after limits steps actor n

  -- after its end
  pub made_no_more : (n k : ℕ) → operation_of (after n) actor ≡ None → made limits steps actor (n + k) ≡ made limits steps actor n
  made_no_more n zero idle = let none : n + 0 ≡ n = omega arith in ap (made limits steps actor) none
  made_no_more n (suc k) idle =
      let next : n + suc k ≡ suc (n + k) = omega arith in
      let before = made_no_more n k idle in
      let rest = idle_makes_none (after (n + k)) actor (ap (λ (x : State). operation_of x actor) (stays limits steps actor operation r n k idle) ∙ idle) in
      ap (made limits steps actor) next ∙ one_made limits steps actor (n + k) ∙ omega (arith, before, ap bit rest)

  -- where it has ended after so many steps, and made so many nodes in them
  pub few_at_end : (end most : ℕ) → operation_of (after end) actor ≡ None → ((n : ℕ) → n ≤ end → made limits steps actor n ≤ most) → (n : ℕ) → made limits steps actor n ≤ most
  few_at_end end most idle few n = elim (cases_lt end n) [
    | inl past ↦
        let rest : end + (n - end) ≡ n = omega (arith, past) in
        let same = ap (made limits steps actor) (sym rest) ∙ made_no_more end (n - end) idle in
        let low = few end (omega arith) in
        omega (arith, same, low)
    | inr within ↦ few n within
  ]

pub makes_at_most : MakesAtMost
makes_at_most limits steps actor operation r =
    few_at_end limits steps actor operation r (most_steps_of limits.actors) (most_steps_of limits.actors) ((alone_it_ends limits steps actor operation r).idle)
    (λ n within. let low = made_steps limits steps actor n in omega (arith, low, within))

pub enough_slots : EnoughSlots
enough_slots limits steps actor operation r other room =
    not_for_want limits steps actor (most_steps_of limits.actors) (makes_at_most limits steps actor operation r) room
    (λ found at refused. other (ap (λ (o : Operation). o.line) (same_Some operation found (sym r.runs ∙ at)) ∙ refused_there found.line refused))

-- ---- a snapshot, a freeze or a clear

pub copies_make_few : CopiesMakeFew
copies_make_few limits steps actor operation r copies at =
    few_at_end limits steps actor operation r most_steps_of_copies most_steps_of_copies ((copies_end_first limits steps actor operation r copies at).idle)
    (λ n within. let low = made_steps limits steps actor n in omega (arith, low, within))

-- where a try begins nothing is refused
pub no_refusal : (l : Line) → l ≡ new_try → IsRefusal l → ⊥
no_refusal l at refused = subst IsRefusal at refused

pub enough_for_copies : EnoughForCopies
enough_for_copies limits steps actor operation r copies at room =
    not_for_want limits steps actor most_steps_of_copies (copies_make_few limits steps actor operation r copies at) room
    (λ found there refused. no_refusal found.line (ap (λ (o : Operation). o.line) (sym (same_Some operation found (sym r.runs ∙ there))) ∙ at) refused)
