-- What holds while a text is written.
use Rattle.std.proofs.Common.{ℕ, ◌+◌, ◌<◌, ◌≤◌, ◌⊎◌, inl, inr, ⊎_elim, List, Option, length, take, drop, sym, subst, arith, length-drop}
use Rattle.std.proofs.Math.Seq.{take-add}
use Rattle.std.specs.Io.KnownBytes.{Appends, Keeps}
use Rattle.std.proofs.KnownBytes.{Appends-trans, Appends-kept}

-- So many bytes of the text were written, with so many calls: each took a byte, or one failed.
pub record HasWritten (before after : Option (List ℕ)) (failed_before failed_after : ℕ) (text : List ℕ) (calls written : ℕ) : Type 0 where
  pub within : written ≤ length text
  pub counts : failed_before ≤ failed_after
  pub turns : (calls ≤ written) ⊎ (failed_before < failed_after)
  pub appended : Appends before after (take written text)

-- A call that took some bytes of the rest wrote more of the text.
pub written_more : (a b c : Option (List ℕ)) (f h : ℕ) (text : List ℕ) (calls written n : ℕ) → HasWritten a b f h text calls written
    → 0 < n → n ≤ length (drop written text) → Appends b c (take n (drop written text)) → HasWritten a c f h text (calls + 1) (written + n)
written_more a b c f h text calls written n so_far some room more = record {
  within = omega (arith, so_far.within, length-drop written text);
  counts = so_far.counts;
  turns = ⊎_elim (λ fewer. inl (omega arith)) (λ grew. inr grew) so_far.turns;
  appended = subst (Appends a c) (sym (take-add written n text)) (Appends-trans a b c _ _ so_far.appended more);
}

-- A call that failed wrote nothing.
pub written_same : (a b c : Option (List ℕ)) (f h k : ℕ) (text : List ℕ) (calls written : ℕ) → HasWritten a b f h text calls written
    → f < k → Keeps b c → HasWritten a c f k text (calls + 1) written
written_same a b c f h k text calls written so_far grew kept = record {
  within = so_far.within;
  counts = omega arith;
  turns = inr grew;
  appended = Appends-kept a b c _ so_far.appended kept;
}
