-- What a close comes to.
use Rattle.std.specs.Prelude.{◌≡◌, ℕ, Option, Some, None, option_and_then, Result, Ok, Err, IfOk, IfErr}
use Rattle.std.specs.FinMap as map
use Rattle.std.proofs.Common.{refl, sym, ap, subst}
use Rattle.std.proofs.lemmas.Option.{same_Some}
use Rattle.history.specs.declared.calls.Call.TheVariants as call
use Rattle.ctrie_map.specs.Vocabulary.{Reply, Closed, NoSlots, Opened, HandleMap, HandleState}
use Rattle.ctrie_map.specs.declared.errors.MapError.{MapError}
use Rattle.ctrie_map.specs.declared.errors.MapError.TheVariants as error
use Rattle.ctrie_map.specs.Changes.{Closes, HasLife, LacksSlots, Refuses}
use Rattle.ctrie_map.specs.Maps.{MapState, Becomes, Stays, handles_of}
use Rattle.ctrie_map.specs.Performing.{Answers, IsBegun, Performs}
use Rattle.ctrie_map.specs.Telling.{done_in}
use Rattle.ctrie_map.proofs.Changing.{ComesTo, done_so, refused_so, told_of}

module _ (before : MapState) (h : ℕ) (after : MapState) where
  abbrev CloseDone : Unit {0} → Type 0
  CloseDone done = HasLife before × Closes before h after

  abbrev CloseRefused : MapError → Type 0
  CloseRefused = Refuses before (call.Close h) ⊥ after

  data Way (answer : Reply) : Type 0 where
    wants : LacksSlots before (call.Close h) → Stays before after → answer ≡ NoSlots → Way answer
    does : Closes before h after → answer ≡ Closed → Way answer

  abbrev IsClosed : Reply → HandleMap → Option HandleState → Type 0
  IsClosed answer next shown =
      option_and_then {U = Reply × HandleMap} (λ m. Some (Closed, map.remove (handles_of before) h)) (option_and_then (λ s. Some s.pairs) shown) ≡ Some (answer, next)

  by_shown : (answer : Reply) (next : HandleMap) (shown : Option HandleState) → map.get (handles_of before) h ≡ shown → IsClosed answer next shown → Becomes before next after → Way answer
  by_shown answer next None at e becomes = cc e
  by_shown answer next (Some shown) at e becomes =
      let same = same_Some (Closed, map.remove (handles_of before) h) (answer, next) e in
      does (shown, at, subst (λ w. Becomes before w after) (ap (λ p. p.1) (sym same)) becomes) (ap (λ p. p.0) (sym same))

  -- it opens no handle
  opens_none : (copy : ℕ) (next : HandleMap) (shown : Option HandleState) → IsClosed (Opened copy) next shown → ⊥
  opens_none copy next None e = cc e
  opens_none copy next (Some shown) e =
      let is : Closed ≡ Opened copy = ap (λ (p : Reply × HandleMap). p.0) (same_Some (Closed, map.remove (handles_of before) h) (Opened copy, next) e) in cc is

  way : (answer : Reply) → Answers before (call.Close h) answer after → Way answer
  way NoSlots p = wants p.0 p.1 refl
  way (Opened copy) p = absurd (opens_none copy p.1.0 (map.get (handles_of before) h) p.1.1)
  way answer p = by_shown answer p.1 (map.get (handles_of before) h) refl p.2 p.3

  abbrev Comes : Result (Unit {0}) MapError → Type 0
  Comes = ComesTo CloseDone CloseRefused

  by_way : (answer : Reply) → IsBegun before (call.Close h) → Way answer → Comes (done_in (Ok answer))
  by_way answer begun (wants lacks stays e) = subst (λ a. Comes (done_in (Ok a))) (sym e) (begun.0, begun.1, lacks, stays)
  by_way answer begun (does closes e) = subst (λ a. Comes (done_in (Ok a))) (sym e) (begun.1, closes)

  by_error : (why : MapError) → Performs (Err why) before (call.Close h) after → Comes (Err why)
  by_error error.WornOut p = p
  by_error error.Full p = absurd (told_of before (call.Close h) error.Full p.0)
  by_error error.Crowded p = absurd (told_of before (call.Close h) error.Crowded p.0)
  by_error why p = p

  comes : (result : Result Reply MapError) → Performs result before (call.Close h) after → Comes (done_in result)
  comes (Ok answer) p = by_way answer p.0 (way answer p.1)
  comes (Err why) p = by_error why p

  pub close_done : (result : Result Reply MapError) (told : Result (Unit {0}) MapError) → told ≡ done_in result →
      Performs result before (call.Close h) after → IfOk told CloseDone
  close_done result told is p = done_so CloseDone CloseRefused (done_in result) told is (comes result p)

  pub close_refused : (result : Result Reply MapError) (told : Result (Unit {0}) MapError) → told ≡ done_in result →
      Performs result before (call.Close h) after → IfErr told CloseRefused
  close_refused result told is p = refused_so CloseDone CloseRefused (done_in result) told is (comes result p)
