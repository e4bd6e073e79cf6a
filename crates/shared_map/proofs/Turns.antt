-- What a change of all shards comes to, by what they were asked.
use Rattle.std.proofs.Common.{◌≡◌, zero, suc, Bool, true, false, ◌||◌, List}
use Rattle.std.proofs.Common.{[], ◌∷◌, refl, sym, ap, ◌∙◌}
use Rattle.std.proofs.lemmas.Bool.{true≢false}
use Rattle.std.proofs.lemmas.Option.{same_Some}
use Rattle.shared_map.specs.Vocabulary.{Call}
use Rattle.ctrie_map.specs.Cores.{is_worn_out}
use Rattle.ctrie_map.specs.Maps.{MapState}
use Rattle.ctrie_map.specs.Sharding.{may_lack_slots}
use Rattle.shared_map.specs.Shards.{IsAnyTight, is_any_worn_out}
use Rattle.shared_map.specs.Turning.{AreAllowed, HaveTurned, Turns, call_of}
use Rattle.shared_map.specs.Visits.{VisitedEach}
use Rattle.shared_map.specs.declared.turning.Turn.{Turn}
use Rattle.shared_map.specs.declared.turning.Turning.{Turning}
use Rattle.shared_map.proofs.Counted.{AreDue, is_any_tight, turned_each}

pub tight_is : (call : Call) (ss : List MapState) → is_any_tight call ss ≡ true → IsAnyTight call ss
tight_is call [] e = cc
tight_is call (s ∷ ss) e = by_first (may_lack_slots call s) refl (tight_is call ss)
  where
    by_first : (b : Bool) → may_lack_slots call s ≡ b → (is_any_tight call ss ≡ true → IsAnyTight call ss) → IsAnyTight call (s ∷ ss)
    by_first true is rest = (0, s, refl, is)
    by_first false is rest =
        let (i, t, at, tight) = rest (ap (λ b. b || is_any_tight call ss) (sym is) ∙ e) in (suc i, t, at, tight)

pub or_first : (a b : Bool) → (a || b) ≡ false → a ≡ false
or_first true b e = cc
or_first false b e = refl

pub or_second : (a b : Bool) → (a || b) ≡ false → b ≡ false
or_second true b e = cc
or_second false b e = e

pub none_tight : (call : Call) (ss : List MapState) → is_any_tight call ss ≡ false → ¬ IsAnyTight call ss
none_tight call [] e (i, s, at, tight) = cc
none_tight call (s ∷ ss) e (zero, t, at, tight) =
    let same : s ≡ t = same_Some s t at in
    true≢false (sym tight ∙ ap (may_lack_slots call) (sym same) ∙ or_first (may_lack_slots call s) (is_any_tight call ss) e)
none_tight call (s ∷ ss) e (suc i, t, at, tight) =
    none_tight call ss (or_second (may_lack_slots call s) (is_any_tight call ss) e) (i, t, at, tight)

are_due : (turn : Turn) (ss : List MapState) → is_any_worn_out ss ≡ false → is_any_tight (call_of turn) ss ≡ false → AreAllowed turn ss → AreDue turn ss
are_due turn [] worn tight allowed = tt
are_due turn (s ∷ ss) worn tight allowed = (
  record {
    allowed = allowed.0;
    free = allowed.1;
    life = or_first (is_worn_out s.core) (is_any_worn_out ss) worn;
    room = or_first (may_lack_slots (call_of turn) s) (is_any_tight (call_of turn) ss) tight;
  },
  are_due turn ss (or_second (is_worn_out s.core) (is_any_worn_out ss) worn)
      (or_second (may_lack_slots (call_of turn) s) (is_any_tight (call_of turn) ss) tight) allowed.2,
)

-- none of them stands in the way, so each is turned
pub turns_done : (turn : Turn) (before after : Turning) (ss ts : List MapState) → before.turn ≡ turn → VisitedEach Turns before ss after ts → is_any_worn_out ss ≡ false →
    is_any_tight (call_of turn) ss ≡ false → AreAllowed turn ss → HaveTurned turn ss ts
turns_done turn before after ss ts is each worn tight allowed = turned_each turn before after ss ts is each (are_due turn ss worn tight allowed)
