-- The workers of a script's threads: the one at the place k is that of actor k + 1.
use Rattle.std.proofs.Common.{◌≡◌, ℕ, zero, suc, ◌+◌, ◌<◌, List, [], ◌∷◌, ◌++◌, map, length, refl, ap, ◌∙◌, arith}
use Rattle.std.specs.Prelude.{Some, slice_get, All, sum_by, option_map}
use Rattle.std.specs.List.{flat_map, AllZip}
use Rattle.std.proofs.lemmas.List.Concat.{flat_map-cons}
use Rattle.std.proofs.lemmas.List.Sums.{sum_by-cons}
use Rattle.std.proofs.lemmas.List.Elements.{All-nil, All-cons, All-same}
use Rattle.std.proofs.lemmas.Option.{none-some, same_Some, slice_get-map, slice_get_within}
use Rattle.std.proofs.lemmas.Slice.Zip.{AllZip-long, AllZip-left}
use Rattle.ctrie_commands.specs.Beneath.machine_model.specs.declared.steps.Limits.{Limits}
use Rattle.atomic_table.specs.Seated.{TableId}
use Rattle.lock_runner.specs.Seats.{Room, Seated, IsIdle}
use Rattle.lock_runner.specs.Opening.{fresh_seat, fresh_seats, IsMade}
use Rattle.ctrie_commands.specs.Beneath.script_text.specs.Threads.Reading.{Reading}
use Rattle.ctrie_commands.specs.declared.working.Worker.{Worker}
use Rattle.script_commands.specs.Reports.{denied_lines}
use Rattle.ctrie_commands.specs.Working.{IsUnused, HasPerformedAll, HasSweptAll, HasEnded, HasWorked, HaveWorked}
use Rattle.ctrie_commands.specs.Threads.{all_denied}

-- the worker of actor k + 1
pub record IsWorkerOf (script : Reading) (id : TableId) (k : ℕ) (worker : Worker) : Type 0 where
  pub runner : worker.seat.runner ≡ id
  pub actor : worker.seat.actor ≡ k + 1
  pub calls : k < script.limits.actors → HasPerformedAll (k + 1) script.lines worker × (worker.seat.sweeps ≡ 0) × HasEnded worker
  pub sweeps : k ≡ script.limits.actors → HasSweptAll script.lines worker × (worker.seat.answers ≡ []) × IsIdle worker.seat

pub record AreRanked (script : Reading) (id : TableId) (workers : List Worker) : Type 0 where
  pub number : length workers ≡ script.limits.actors + 1
  pub each : (k : ℕ) (worker : Worker) → slice_get workers k ≡ Some worker → IsWorkerOf script id k worker

-- ---- fresh seats

fresh_number : (id : TableId) (limits : Limits) (from n : ℕ) → length (fresh_seats id limits from n) ≡ n
fresh_number id limits from zero = refl
fresh_number id limits from (suc n) = ap suc (fresh_number id limits (from + 1) n)

fresh_at : (id : TableId) (limits : Limits) (from n k : ℕ) → k < n → slice_get (fresh_seats id limits from n) k ≡ Some (fresh_seat id limits (k + from))
fresh_at id limits from zero k below = absurd (omega arith)
fresh_at id limits from (suc n) zero below = let e : from ≡ 0 + from = omega arith in ap (λ a. Some (fresh_seat id limits a)) e
fresh_at id limits from (suc n) (suc k) below =
    let e : k + (from + 1) ≡ suc k + from = omega arith in fresh_at id limits (from + 1) n k (omega arith) ∙ ap (λ a. Some (fresh_seat id limits a)) e

unused_from : (id : TableId) (limits : Limits) (from n : ℕ) → All IsUnused (fresh_seats id limits from n)
unused_from id limits from zero = All-nil IsUnused
unused_from id limits from (suc n) =
    All-cons IsUnused (fresh_seat id limits from) (fresh_seats id limits (from + 1) n) (record { answers = refl; sweeps = refl; heard = refl; idle = refl }) (unused_from id limits (from + 1) n)

pub made_unused : (limits : Limits) (number : ℕ) (runner : Room) (seats : List Seated) → IsMade limits number runner seats → All IsUnused seats
made_unused limits number runner seats made = All-same IsUnused seats _ made.fresh (unused_from runner.id limits 1 number)

-- ---- the workers

pub from_map : {A B : Type 0} (f : A → B) (xs : List A) (k : ℕ) (y : B) → slice_get (map f xs) k ≡ Some y → (x : A) × (slice_get xs k ≡ Some x) × (f x ≡ y)
from_map f [] k y e = absurd (none-some y e)
from_map f (x ∷ xs) zero y e = (x, refl, same_Some (f x) y e)
from_map f (x ∷ xs) (suc k) y e = from_map f xs k y e

pub to_map : {A B : Type 0} (f : A → B) (xs : List A) (k : ℕ) (x : A) → slice_get xs k ≡ Some x → slice_get (map f xs) k ≡ Some (f x)
to_map f xs k x e = slice_get-map f xs k ∙ ap (option_map f) e

zip_at : {A B : Type 0} (R : A → B → Type 0) (xs : List A) (ys : List B) (k : ℕ) (x : A) (y : B) → AllZip R xs ys → slice_get xs k ≡ Some x → slice_get ys k ≡ Some y → R x y
zip_at R xs ys k x y all e f = rw f at (rw e at (AllZip-left R xs ys all k))

ranked_one : (script : Reading) (id : TableId) (limits : Limits) (k : ℕ) (worker : Worker) → HasWorked script (fresh_seat id limits (k + 1)) worker → IsWorkerOf script id k worker
ranked_one script id limits k worker worked = record {
  runner = worked.runner;
  actor = worked.actor;
  calls = λ below. worked.calls (omega arith);
  sweeps = λ last. worked.sweeps (omega arith);
}

pub ranked : (script : Reading) (limits : Limits) (runner : Room) (seats : List Seated) (workers : List Worker) → IsMade limits (script.limits.actors + 1) runner seats →
    HaveWorked script seats workers → AreRanked script runner.id workers
ranked script limits runner seats workers made worked =
    let n : ℕ = script.limits.actors + 1 in
    let number : length workers ≡ n = AllZip-long (HasWorked script) seats workers worked ∙ ap (λ ss. length ss) made.fresh ∙ fresh_number runner.id limits 1 n in
    record {
      number = number;
      each = λ k worker at.
          let below : k < n = omega (arith, slice_get_within workers k worker at, number) in
          let seat : slice_get seats k ≡ Some (fresh_seat runner.id limits (k + 1)) = ap (λ ss. slice_get ss k) made.fresh ∙ fresh_at runner.id limits 1 n k below in
          ranked_one script runner.id limits k worker (zip_at (HasWorked script) seats workers k _ worker worked seat at);
    }

-- ---- the lines of their denials, and their steps of the sweep

denied_from : (from : ℕ) (workers : List Worker) → ((k : ℕ) (w : Worker) → slice_get workers k ≡ Some w → w.seat.actor ≡ k + from) →
    flat_map (λ (w : Worker). denied_lines w.seat.actor w.denied.items) workers ≡ all_denied from (map (λ (w : Worker). w.denied.items) workers)
denied_from from [] numbered = refl
denied_from from (w ∷ ws) numbered =
    let first : w.seat.actor ≡ from = numbered zero w refl ∙ omega arith in
    let more : (k : ℕ) (x : Worker) → slice_get ws k ≡ Some x → x.seat.actor ≡ k + (from + 1) = λ k x e. numbered (suc k) x e ∙ omega arith in
    flat_map-cons (λ (x : Worker). denied_lines x.seat.actor x.denied.items) w ws ∙ ap (λ t. denied_lines w.seat.actor w.denied.items ++ t) (denied_from (from + 1) ws more)
    ∙ ap (λ a. denied_lines a w.denied.items ++ all_denied (from + 1) (map (λ (x : Worker). x.denied.items) ws)) first

pub denied_by_rank : (script : Reading) (id : TableId) (workers : List Worker) → AreRanked script id workers →
    flat_map (λ (w : Worker). denied_lines w.seat.actor w.denied.items) workers ≡ all_denied 1 (map (λ (w : Worker). w.denied.items) workers)
denied_by_rank script id workers ranks = denied_from 1 workers (λ k w e. (ranks.each k w e).actor)

pub swept_by_last : (workers : List Worker) (n : ℕ) (last : Worker) → length workers ≡ n + 1 → ((k : ℕ) (w : Worker) → k < n → slice_get workers k ≡ Some w → w.seat.sweeps ≡ 0) →
    slice_get workers n ≡ Some last → sum_by (λ (s : Seated). s.sweeps) (map (λ (w : Worker). w.seat) workers) ≡ last.seat.sweeps
swept_by_last [] n last number none at = absurd (none-some last at)
swept_by_last (w ∷ []) zero last number none at =
    let same = ap (λ (x : Worker). x.seat.sweeps) (same_Some w last at) in omega (arith, sum_by-cons (λ (s : Seated). s.sweeps) w.seat [], same)
swept_by_last (w ∷ v ∷ ws) zero last number none at = absurd (omega (arith, number))
swept_by_last (w ∷ ws) (suc n) last number none at =
    let more = swept_by_last ws n last (omega (arith, number)) (λ k x below e. none (suc k) x (omega arith) e) at in
    omega (arith, sum_by-cons (λ (s : Seated). s.sweeps) w.seat (map (λ (x : Worker). x.seat) ws), none zero w (omega arith) refl, more)
