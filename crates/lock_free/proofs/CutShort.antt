-- An operation is cut short, at a load: it gives up, or is to end anyway.
use Rattle.history.specs.declared.calls.Call.{Call}
use Rattle.history.specs.declared.replies.Reply.{Reply}
use Rattle.std.proofs.Common.{◌≡◌, ◌≤◌, ◌⊎◌, ℕ, inl, inr, Option, Some, None, refl, sym, ap, subst, ◌∙◌}
use Rattle.std.proofs.lemmas.Option.{none-some}
use mathlib.Core.Option.{none}
use Rattle.atomic_table.specs.Table.{Me, Allows, step}
use Rattle.machine_model.specs.declared.lines.Line.{Line}
use Rattle.machine_model.specs.declared.lines.Line.TheVariants as line
use Rattle.machine_model.specs.declared.operations.Operation.{Operation}
use Rattle.machine_model.specs.GivingUp.{gave_up, given_up}
use Rattle.lock_free.specs.declared.rules.View.{View}
use Rattle.lock_free.specs.declared.sizes.Sizes.{Sizes}
use Rattle.lock_free.specs.Calling.{cut_short, has_cut_short, has_given_up, CutBy, GaveUp, HasCutShort, IsRunning}
use Rattle.lock_free.specs.Leaving.{EndsOrMay}
use Rattle.lock_free.specs.Loading.{has_seen, HasSeen, Runs, Saw}
use Rattle.lock_free.specs.Parking.{HasWoundUp}
use Rattle.lock_free.specs.Places.{epoch_word}
use Rattle.lock_free.specs.Shadows.{IsShadowed}
use Rattle.lock_free.proofs.Comings.{runs_one, saw_runs}
use Rattle.lock_free.proofs.GiveUpStep.{give_up_allowed}
use Rattle.lock_free.proofs.Moments.{load_allowed, waited_so}
use Rattle.lock_free.proofs.RunningOn.{runs_on_given_up, runs_on_saw}

-- ---- the access

cut_some : (call : Call) (l : Line) (answer : Reply) → cut_short call l ≡ Some answer → given_up call l ≡ Some answer
cut_some call (line.End other) answer e = absurd (none-some answer e)
cut_some call l answer e = e

seen_so : (v : View) (word found : ℕ) (w : View) → HasSeen v word found w → Saw v w
seen_so v word found w (m, is) = record { account = m.kept.account; waited = waited_so v m.table m.kept m.id m.at; after_is = is }

-- what is allowed is so where less is asked
abbrev lessens : (sizes : Sizes) (size id : ℕ) (me : Me Call View) (word : ℕ) (P Q : ℕ → Me Call View → Type 0) → ((found : ℕ) (after : Me Call View) → P found after → Q found after) →
    Allows (IsShadowed sizes) size id me word (λ n. n) P → Allows (IsShadowed sizes) size id me word (λ n. n) Q
lessens sizes size id me word P Q less h s ruled length_is at low = let x = h s ruled length_is at low in (x.0, x.1, x.2, x.3, less _ _ x.4)

module _ (sizes : Sizes) (size id : ℕ) (me : Me Call View) (some_seats : 1 ≤ me.0.sizes.seats) (o : Operation) (runs : Runs me.0 o) where
  -- it is one operation
  same_cut : (q : Operation) → Runs me.0 q → cut_short q.call q.line ≡ cut_short o.call o.line
  same_cut q r = ap (λ (z : Operation). cut_short z.call z.line) (runs_one me.0 q o r runs)

  by_cut : (cut : Option Reply) → cut_short o.call o.line ≡ cut → Allows (IsShadowed sizes) size id me epoch_word (λ n. n) (has_cut_short (step size epoch_word 0 0 none) me)
  by_cut None e =
      lessens sizes size id me epoch_word (has_seen (step size epoch_word 0 0 none) me) (has_cut_short (step size epoch_word 0 0 none) me)
      (λ found after h. ((λ q r. subst (λ cut. CutBy me.0 q cut after.0) (sym (same_cut q r ∙ e)) (seen_so me.0 epoch_word found after.0 h.0)), h.1, h.2))
      (load_allowed sizes size id me epoch_word some_seats)
  by_cut (Some answer) e =
      lessens sizes size id me epoch_word (has_given_up (step size epoch_word 0 0 none) me) (has_cut_short (step size epoch_word 0 0 none) me)
      (λ found after h. (
        (λ q r. (let is = same_cut q r ∙ e in subst (λ cut. CutBy me.0 q cut after.0) (sym is) (h.0 q answer r (cut_some q.call q.line answer is)))),
        h.1,
        h.2,
      ))
      (give_up_allowed sizes size id me some_seats (o, answer, runs, cut_some o.call o.line answer e))

pub cut_allowed : (sizes : Sizes) (size id : ℕ) (me : Me Call View) (some_seats : 1 ≤ me.0.sizes.seats) → IsRunning me.0 →
    Allows (IsShadowed sizes) size id me epoch_word (λ n. n) (has_cut_short (step size epoch_word 0 0 none) me)
cut_allowed sizes size id me some_seats (o, runs) = by_cut sizes size id me some_seats o runs (cut_short o.call o.line) refl

-- ---- it is to end then

module _ (v w : View) (answer : Reply) (ends : EndsOrMay v answer) (cut : HasCutShort v w) where
  abbrev o : Operation
  o = ends.0

  pub wound_up : HasWoundUp v answer w
  wound_up = by ends.2
    where
      by : (o.line ≡ line.End answer) ⊎ (cut_short o.call o.line ≡ Some answer) → HasWoundUp v answer w
      by (inl is) = let saw : Saw v w = subst (λ l. CutBy v o (cut_short o.call l) w) is (cut o ends.1) in (runs_on_saw v w saw, (o, saw_runs v w saw o ends.1, is))
      by (inr is) =
          let gave : GaveUp v o answer w = subst (λ c. CutBy v o c w) is (cut o ends.1) in
          (runs_on_given_up v w o answer ends.1 gave, (gave_up o answer, gave.runs, refl))

pub ends_run : (v : View) (answer : Reply) → EndsOrMay v answer → IsRunning v
ends_run v answer ends = (ends.0, ends.1)
