-- Seats that are made.
use Rattle.std.specs.Prelude.{◌≡◌, ℕ, zero, suc, ◌+◌, ◌≤◌, All, List, [], ◌∷◌, ◌++◌, map, sum_by, None}
use Rattle.std.proofs.Common.{refl, sym, ap, subst, ◌∙◌, arith}
use Rattle.std.proofs.lemmas.List.{map-append}
use Rattle.std.proofs.lemmas.List.Elements.{All-nil, All-cons}
use Rattle.lock_runner.specs.Vocabulary.{Limits, first_state, record_from}
use Rattle.atomic_table.specs.Seated.{TableId}
use Rattle.lock_runner.specs.Beneath.proof_runs.specs.Machines.{Taken, fresh}
use Rattle.gate.specs.Logs.{calls_of}
use Rattle.gate.specs.Opening as gate
use Rattle.lock_runner.specs.declared.accounts.Answer.{Answer}
use Rattle.lock_runner.specs.ActorHistory.{empty_account, account_from}
use Rattle.lock_runner.specs.Asks.{Pass, swept}
use Rattle.lock_runner.specs.Boards.{account_in}
use Rattle.lock_runner.specs.Seats.{Seated, seated, IsSeated}
use Rattle.lock_runner.specs.Opening.{fresh_seat, fresh_seats, IsFreshPass, opened}

-- nothing is told of an actor at first
fresh_account : (actor : ℕ) (limits : Limits) → account_in actor (fresh limits) ≡ empty_account
unfolding first_state record_from account_from
fresh_account actor limits = refl

pub fresh_seated : (limits : Limits) (pass : Pass) (items : List Answer) → IsFreshPass limits pass → items ≡ [] → IsSeated pass items None 0
fresh_seated limits pass items is none =
    let machine = ap (λ seen. seen.object.machine) is.seen in
    subst (λ xs. IsSeated pass xs None 0) (sym none) (record {
      first = ap (λ seen. seen.first.machine) is.seen ∙ ap (λ m. fresh m.limits) (sym machine);
      counted = sym (ap (λ seen. sum_by swept (calls_of pass.number seen.log)) is.seen);
      low = is.low;
      high = omega (arith, is.high, ap (λ m. m.limits.actors) machine);
      told = ap (λ m. account_in pass.number m) machine ∙ fresh_account pass.number limits;
      bounded = omega arith;
    })

-- the gate's seats
abbrev passes : TableId → Limits → ℕ → ℕ → List Pass
passes id limits from n = gate.fresh_seats id (record { machine = fresh limits }) from n

pub are_fresh : (id : TableId) (limits : Limits) (from n : ℕ) → 1 ≤ from → from + n ≤ limits.actors + 1 → All (λ pass. IsFreshPass limits pass) (passes id limits from n)
are_fresh id limits from zero low high = All-nil (λ pass. IsFreshPass limits pass)
are_fresh id limits from (suc n) low high =
    All-cons (λ pass. IsFreshPass limits pass) (gate.fresh_seat id (record { machine = fresh limits }) from) (passes id limits (from + 1) n)
    (record { seen = refl; low = low; high = omega (arith, high) }) (are_fresh id limits (from + 1) n (omega arith) (omega (arith, high)))

-- of a gate whose machine is new
made_passes : (id : TableId) (limits : Limits) (machine : Taken) (n : ℕ) (items : List Pass) → machine ≡ fresh limits → items ≡ gate.fresh_seats id (record { machine = machine }) 1 n →
    items ≡ passes id limits 1 n
made_passes id limits machine n items new is = is ∙ ap (λ m. gate.fresh_seats id (record { machine = m }) 1 n) new

pub passes_fresh : (id : TableId) (limits : Limits) (machine : Taken) (n : ℕ) (items : List Pass) → machine ≡ fresh limits → n ≤ limits.actors →
    items ≡ gate.fresh_seats id (record { machine = machine }) 1 n → All (λ pass. IsFreshPass limits pass) items
passes_fresh id limits machine n items new within is =
    subst (λ xs. All (λ pass. IsFreshPass limits pass) xs) (sym (made_passes id limits machine n items new is)) (are_fresh id limits 1 n (omega arith) (omega (arith, within)))

opened_all : (id : TableId) (limits : Limits) (from n : ℕ) → map opened (passes id limits from n) ≡ fresh_seats id limits from n
opened_all id limits from zero = refl
opened_all id limits from (suc n) = ap (λ xs. fresh_seat id limits from ∷ xs) (opened_all id limits (from + 1) n)

pub seats_fresh : (id : TableId) (limits : Limits) (machine : Taken) (n : ℕ) (items : List Pass) (seats : List Seated) → machine ≡ fresh limits →
    items ≡ gate.fresh_seats id (record { machine = machine }) 1 n → seats ≡ map opened items → seats ≡ fresh_seats id limits 1 n
seats_fresh id limits machine n items seats new is opens =
    opens ∙ ap (λ xs. map opened xs) (made_passes id limits machine n items new is) ∙ opened_all id limits 1 n

pub opened_next : (before : List Pass) (pass : Pass) (seats more : List Seated) (items : List Answer) → seats ≡ map opened before → items ≡ [] →
    more ≡ seats ++ seated pass items None 0 0 ∷ [] → more ≡ map opened (before ++ pass ∷ [])
opened_next before pass seats more items is none pushed =
    pushed ∙ ap (λ xs. seats ++ seated pass xs None 0 0 ∷ []) none ∙ ap (λ xs. xs ++ opened pass ∷ []) is ∙ sym (map-append opened before (pass ∷ []))

pub all_fresh : (id : TableId) (limits : Limits) (from n : ℕ) → All (λ (seat : Seated). seat.runner ≡ id) (fresh_seats id limits from n)
all_fresh id limits from zero = All-nil (λ (seat : Seated). seat.runner ≡ id)
all_fresh id limits from (suc n) = All-cons (λ (seat : Seated). seat.runner ≡ id) (fresh_seat id limits from) (fresh_seats id limits (from + 1) n) refl (all_fresh id limits (from + 1) n)
