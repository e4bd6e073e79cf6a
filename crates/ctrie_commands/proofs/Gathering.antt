-- What was gathered of one worker more.
use Rattle.std.proofs.Common.{◌≡◌, ℕ, List, [], ◌∷◌, ◌++◌, sym, ap, ◌∙◌, append_assoc}
use Rattle.std.proofs.lemmas.List.{map-append, flat_map_more}
use Rattle.lock_runner.specs.Seats.{Seated}
use Rattle.script_commands.specs.Reports.{denied_lines}
use Rattle.ctrie_commands.specs.declared.working.Worker.{Worker}
use Rattle.ctrie_commands.specs.Working.{AreGathered}

pub gathered_more : (workers : List Worker) (worker : Worker) (before after : List Seated) (text longer : List ℕ) → AreGathered workers before text →
    after ≡ before ++ worker.seat ∷ [] → longer ≡ text ++ denied_lines worker.seat.actor worker.denied.items → AreGathered (workers ++ worker ∷ []) after longer
gathered_more workers worker before after text longer so_far seats told = record {
  seats_are = seats ∙ ap (λ ss. ss ++ worker.seat ∷ []) so_far.seats_are ∙ sym (map-append (λ (w : Worker). w.seat) workers (worker ∷ []));
  denied_are = told ∙ ap (λ t. t ++ denied_lines worker.seat.actor worker.denied.items) so_far.denied_are
      ∙ flat_map_more (λ (w : Worker). denied_lines w.seat.actor w.denied.items) [] workers worker;
}

pub moved_on : {A : Type 0} (all before rest later : List A) (x : A) → all ≡ before ++ rest → rest ≡ x ∷ later → all ≡ (before ++ x ∷ []) ++ later
moved_on all before rest later x is next = is ∙ ap (λ ys. before ++ ys) next ∙ sym (append_assoc before (x ∷ []) later)
