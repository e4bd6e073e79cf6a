-- What a thread has done once it has carried out one line of the sweep more.
use Rattle.std.proofs.Common.{◌≡◌, ℕ, ◌+◌, ◌<◌, ◌≤◌, inl, inr, List, [], ◌∷◌, ◌++◌, take, get_or, length, cond, refl, sym, ap, subst, ◌∙◌, arith, length-append}
use Rattle.std.specs.Prelude.{All}
use Rattle.std.proofs.lemmas.List.{take_more}
use Rattle.std.proofs.lemmas.List.Sums.{sum_by-append, sum_by-cons}
use Rattle.std.proofs.lemmas.List.Elements.{All-nil, All-push}
use Rattle.ctrie_base.specs.declared.refusals.Refusal.{Refusal}
use Rattle.ctrie_commands.specs.Beneath.proof_runs.specs.Machines.{Taken}
use Rattle.lock_runner.specs.Boards.{GoesOn}
use Rattle.lock_runner.specs.Stepping.{HasGoneOn}
use Rattle.lock_runner.proofs.Boards.{goes_on_same}
use Rattle.ctrie_commands.specs.Beneath.script_text.specs.declared.thread_lines.ThreadLine.{ThreadLine}
use Rattle.ctrie_commands.specs.Beneath.script_text.specs.declared.thread_lines.ThreadLine.TheVariants.{Do, Sweep}
use Rattle.ctrie_commands.specs.declared.working.Worker.{Worker}
use Rattle.ctrie_commands.specs.Working.{times_in, times_of, names_sweep, sweep_lines, OnTheWay, DeniesSweep, Swept, HasSweptLine, HasSweptAll}
use Rattle.ctrie_commands.proofs.Later.{all_later}

pub swept_later : (seen board : Taken) (lines : List ThreadLine) (number : ℕ) (denied : List Refusal) → board.limits ≡ seen.limits → GoesOn seen.steps board.steps →
    Swept seen lines number denied → Swept board lines number denied
swept_later seen board lines number denied limits on so =
    record { all = so.all; most = so.most; fewer = so.fewer; each = all_later DeniesSweep denied seen board limits on so.each }

times_more : (lines : List ThreadLine) (i : ℕ) (d : ThreadLine) → i < length lines → times_of (take (i + 1) lines) ≡ times_of (take i lines) + times_in (get_or lines i d)
times_more lines i d below =
    omega (arith, ap times_of (take_more lines i d below), sum_by-append times_in (take i lines) (get_or lines i d ∷ []), sum_by-cons times_in (get_or lines i d) [])

sweeps_more : (lines : List ThreadLine) (i : ℕ) (d : ThreadLine) → i < length lines →
    sweep_lines (take (i + 1) lines) ≡ sweep_lines (take i lines) + cond (names_sweep (get_or lines i d)) 1 0
sweeps_more lines i d below =
    let counts : ThreadLine → ℕ = λ line. cond (names_sweep line) 1 0 in
    omega (arith, ap sweep_lines (take_more lines i d below), sum_by-append counts (take i lines) (get_or lines i d ∷ []), sum_by-cons counts (get_or lines i d) [])

-- a list with one behind isn't empty
not_empty : (denied : List Refusal) (refusal : Refusal) → denied ++ refusal ∷ [] ≡ [] → ⊥
not_empty denied refusal none = absurd (omega (arith, ap (λ xs. length xs) none, length-append denied (refusal ∷ [])))

module _ (before after : Worker) (gone : HasGoneOn before.seat after.seat) (lines more : List ThreadLine) (so_far : HasSweptAll lines before) where
  each_later : All (λ refusal. OnTheWay (DeniesSweep refusal) after.seat.seen) before.denied.items
  each_later = all_later DeniesSweep before.denied.items before.seat.seen after.seat.seen gone.limits gone.steps so_far.each

  none_denied : (times counted : ℕ) → times_of more ≡ times_of lines + times → sweep_lines more ≡ sweep_lines lines + counted →
      after.seat.sweeps ≡ before.seat.sweeps + times → after.denied.items ≡ before.denied.items → HasSweptAll more after
  none_denied times counted named lists taken same = record {
    all = λ none. omega (arith, named, taken, so_far.all (sym same ∙ none));
    most = omega (arith, named, taken, so_far.most);
    fewer = omega (arith, lists, ap (λ xs. length xs) same, so_far.fewer);
    each = subst (λ xs. All (λ refusal. OnTheWay (DeniesSweep refusal) after.seat.seen) xs) (sym same) each_later;
  }

  one_denied : (times : ℕ) (refusal : Refusal) → times_of more ≡ times_of lines + times → sweep_lines more ≡ sweep_lines lines + 1 →
      after.seat.sweeps ≤ before.seat.sweeps + times → after.denied.items ≡ before.denied.items ++ refusal ∷ [] → DeniesSweep refusal after.seat.seen → HasSweptAll more after
  one_denied times refusal named lists taken last denies =
      let So : Refusal → Type 0 = λ r. OnTheWay (DeniesSweep r) after.seat.seen in
      record {
        all = λ none. absurd (not_empty before.denied.items refusal (sym last ∙ none));
        most = omega (arith, named, taken, so_far.most);
        fewer = omega (arith, lists, ap (λ xs. length xs) last, length-append before.denied.items (refusal ∷ []), so_far.fewer);
        each = subst (All So) (sym last) (All-push So before.denied.items refusal each_later (after.seat.seen, refl, goes_on_same after.seat.seen.steps, denies));
      }

  by_line : (line : ThreadLine) → times_of more ≡ times_of lines + times_in line → sweep_lines more ≡ sweep_lines lines + cond (names_sweep line) 1 0 →
      HasSweptLine line before after → HasSweptAll more after
  by_line (Do owner call) named lists done = none_denied 0 0 named lists (omega (arith, done.0)) done.1
  by_line (Sweep times) named lists (inl (taken, same)) = none_denied times 1 named lists taken same
  by_line (Sweep times) named lists (inr (taken, refusal, last, denies)) = one_denied times refusal named lists taken last denies

pub swept_more : (before after : Worker) (lines : List ThreadLine) (i : ℕ) (d : ThreadLine) → i < length lines → HasGoneOn before.seat after.seat → HasSweptAll (take i lines) before →
    HasSweptLine (get_or lines i d) before after → HasSweptAll (take (i + 1) lines) after
swept_more before after lines i d below gone so_far done =
    by_line before after gone (take i lines) (take (i + 1) lines) so_far (get_or lines i d) (times_more lines i d below) (sweeps_more lines i d below) done

pub swept_none : (worker : Worker) → worker.seat.sweeps ≡ 0 → worker.denied.items ≡ [] → HasSweptAll [] worker
swept_none worker none denied = record {
  all = λ empty. none;
  most = omega (arith, none);
  fewer = omega (arith, ap (λ xs. length xs) denied);
  each = subst (All (λ refusal. OnTheWay (DeniesSweep refusal) worker.seat.seen)) (sym denied) (All-nil (λ refusal. OnTheWay (DeniesSweep refusal) worker.seat.seen));
}
