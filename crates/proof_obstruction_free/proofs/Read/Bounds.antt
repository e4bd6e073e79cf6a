-- A READ of an operation whose actor alone takes steps is over within so many of them.
use Rattle.std.proofs.Common.{◌≡◌, ℕ, suc, ◌+◌, ◌-◌, ◌≤◌, ◌⊎◌, inl, inr, List, Some, refl, sym, ap, ◌∙◌, subst, arith}
use Rattle.std.proofs.lemmas.Option.{none-some, same_Some}
use Rattle.proof_obstruction_free.specs.Vocabulary.{Ref, Operation, Read, Bounds, Step, read_of, State, operation_of, last_of}
use Rattle.proof_obstruction_free.specs.Beneath.machine_model.specs.declared.reading.ReadLine.TheVariants as read
use Rattle.proof_obstruction_free.specs.Alone.{Lone, Stands}
use Rattle.proof_obstruction_free.specs.Laws.{RunsAlone, alone_after}
use Rattle.proof_obstruction_free.specs.ReadLaws.{IsOutOfRead, AloneReadEnds, AloneReadGoesToItsEnd}
use Rattle.proof_obstruction_free.proofs.Ends.Alone.{StillRuns, EndedBefore, goes_or_ended, each, lone}
use Rattle.proof_obstruction_free.proofs.Ends.Lists.{last_all, state_at}
use Rattle.proof_obstruction_free.proofs.Read.Ends.{read_ends, read_goes_to_its_end}
use Rattle.proof_obstruction_free.proofs.Read.Holds.{Holding, holding}
use Rattle.proof_obstruction_free.proofs.Ends.StandsAt.{begins}

module _ (limits : Bounds) (steps : List Step) (actor : ℕ) (operation : Operation) (r : RunsAlone limits steps actor operation) (own : Read) (reads : read_of operation.line ≡ Some own) where
  -- within so many steps it is over
  abbrev Over : ℕ → Type 0
  Over n = (k : ℕ) × (k ≤ n) × IsOutOfRead (alone_after limits steps actor k) actor

  -- an operation that has ended is in none
  over_ended : (n : ℕ) → EndedBefore limits steps actor operation r n → Over n
  over_ended n ended = (suc ended.at, ended.before, λ o x runs e. none-some o (sym ended.idle ∙ runs))

  module _ (n : ℕ) (still : StillRuns limits steps actor operation r n) where
    abbrev a : Lone
    a = lone limits steps actor operation r n still

    last_is : a.last ≡ a.start + n
    last_is = last_all limits steps actor n (each limits steps actor operation r n still)

    held : Holding a operation.line own
    held = holding a operation.line own reads

    -- it stands on the READ's line at the start
    stands : Stands a a.start operation.generation (held.wrap own.line)
    stands = subst (Stands a a.start operation.generation) held.is (begins a (omega (arith, last_is)))

    -- where the READ gave something it is over
    given : (u : ℕ) (m : Ref) → a.start ≤ u → u ≤ a.start + n → Stands a u operation.generation (held.gives m) → Over n
    given u m from to s =
        let k = u - a.start in
        let place : a.start + k ≡ u = omega (arith, from) in
        let low : k ≤ n = omega (arith, from, to) in
        let here : a.states u ≡ alone_after limits steps actor k = ap a.states (sym place) ∙ state_at limits steps actor n (each limits steps actor operation r n still) k low in (
          k,
          low,
          λ o x runs e.
              let one : s.operation ≡ o = same_Some _ _ (sym s.runs ∙ ap (λ (y : State). operation_of y actor) here ∙ runs) in
              none-some x (sym (held.over m) ∙ ap read_of (sym s.line) ∙ ap (λ (y : Operation). read_of y.line) one ∙ e),
        )

  over_left : StillRuns limits steps actor operation r 12 ⊎ EndedBefore limits steps actor operation r 12 → Over 12
  over_left (inr ended) = over_ended 12 ended
  over_left (inl still) =
      let room = last_is 12 still in
      let h = held 12 still in
      let (u, from, soon, m, s) = read_goes_to_its_end (a 12 still) h.wrap h.gives own.indirection h.holds (last_of limits steps) operation.generation own.line
      (stands 12 still) (omega (arith, room)) in
      given 12 still u m from soon s

  over_first : own.line ≡ read.Main → StillRuns limits steps actor operation r 9 ⊎ EndedBefore limits steps actor operation r 9 → Over 9
  over_first first (inr ended) = over_ended 9 ended
  over_first first (inl still) =
      let room = last_is 9 still in
      let h = held 9 still in
      let (u, from, soon, m, s, has) = read_ends (a 9 still) h.wrap h.gives own.indirection h.holds (last_of limits steps) operation.generation
      (subst (λ l. Stands (a 9 still) (last_of limits steps) operation.generation (h.wrap l)) first (stands 9 still)) (omega (arith, room)) in
      given 9 still u m from soon s

pub alone_read_goes_to_its_end : AloneReadGoesToItsEnd
alone_read_goes_to_its_end limits steps actor operation r own reads = over_left limits steps actor operation r own reads (goes_or_ended limits steps actor operation r 12 (omega arith))

pub alone_read_ends : AloneReadEnds
alone_read_ends limits steps actor operation r i reads = over_first limits steps actor operation r _ reads refl (goes_or_ended limits steps actor operation r 9 (omega arith))
