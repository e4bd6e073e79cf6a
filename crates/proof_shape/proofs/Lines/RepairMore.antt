-- What a line knows of its repair stays, where more is known of what was given.
use Rattle.std.proofs.Common.{◌≡◌, ℕ, Bool, true, false, List, length, slice_index_or, sym}
use Rattle.std.proofs.lemmas.Bool.{true≢false}
use Rattle.arrayvec.specs.ArrayVec.{ArrayVec}
use Rattle.proof_shape.specs.Vocabulary.{Ref, Node, no_ref, Line, CleanLine, RenewLine, IsDone, keeps, renews, cleans, AreDone, AllDone, SomeDone, IsLink, IsOlder, KnowsRenew, KnowsClean}
use Rattle.proof_shape.specs.Vocabulary.{IsRepaired, KnowsRepair}
use Rattle.proof_shape.specs.Beneath.machine_model.specs.declared.lines.Line.TheVariants as line
use Rattle.proof_shape.specs.Beneath.machine_model.specs.declared.lines.Purpose.TheVariants as purpose
use Rattle.proof_shape.specs.Beneath.machine_model.specs.declared.repairs.CleanLine.TheVariants as clean
use Rattle.proof_shape.specs.Beneath.machine_model.specs.declared.repairs.RenewLine.TheVariants as renew

module _ (node : Ref → Node) (first : Ref → Ref) (G H : Ref → Ref → Type 0) (more : (i m : Ref) → G i m → H i m) (start : ℕ) where
  done_more : (entry other : Ref) → IsDone node first G start entry other → IsDone node first H start entry other
  done_more entry other (keeps same) = keeps same
  done_more entry other (renews h word word' child is apart new gave at) = renews h word word' child is apart new (more entry child gave) at
  done_more entry other (cleans h word child is gave tomb) = cleans h word child is (more entry child gave) tomb

  are_more : (main : Ref) (bitmap : ℕ) (entries : ArrayVec Ref) (done : List Ref) → AreDone node first G start main bitmap entries done → AreDone node first H start main bitmap entries done
  are_more main bitmap entries done are = record { is = are.is; each = λ n lt. done_more (slice_index_or entries.items n no_ref) (slice_index_or done n no_ref) (are.each n lt) }

  all_more : (main : Ref) (done : List Ref) → AllDone node first G start main done → AllDone node first H start main done
  all_more main done (bitmap, entries, are, all) = (bitmap, entries, are_more main bitmap entries done are, all)

  some_more : (main : Ref) (done : List Ref) (N M : Ref → Type 0) → ((r : Ref) → N r → M r) → SomeDone node first G start main done N → SomeDone node first H start main done M
  some_more main done N M next (bitmap, entries, are, lt, n) =
      (bitmap, entries, are_more main bitmap entries done are, lt, next (slice_index_or entries.items (length done) no_ref) n)

  repaired_more : (replaced fresh : Ref) → IsRepaired node first G start replaced fresh → IsRepaired node first H start replaced fresh
  repaired_more replaced fresh (done, bitmap, entries, are, all, made) = (done, bitmap, entries, are_more replaced bitmap entries done are, all, made)

  renew_more : (l : RenewLine) → KnowsRenew node first G start l → KnowsRenew node first H start l
  renew_more (renew.Entry path main done) k = some_more main done (λ next. Unit {0}) (λ next. Unit {0}) (λ r n. n) k
  renew_more (renew.Read path main done read) k =
      some_more main done (λ next. (read.indirection ≡ next) × IsOlder node start next) (λ next. (read.indirection ≡ next) × IsOlder node start next) (λ r n. n) k
  renew_more (renew.Link path main done child) k =
      some_more main done (λ next. G next child × IsOlder node start next) (λ next. H next child × IsOlder node start next) (λ r n. (more r child n.0, n.1)) k
  renew_more (renew.Branch path main done) k = all_more main done k

  clean_more : (l : CleanLine) → KnowsClean node first G start l → KnowsClean node first H start l
  clean_more (clean.Read path read) k = tt
  clean_more (clean.Main path main) k = tt
  clean_more (clean.Entry path main done) k = some_more main done (λ next. Unit {0}) (λ next. Unit {0}) (λ r n. n) k
  clean_more (clean.Child path main done read) k = some_more main done (λ next. (read.indirection ≡ next) × IsLink node next) (λ next. (read.indirection ≡ next) × IsLink node next) (λ r n. n) k
  clean_more (clean.Tomb path main done child) k = some_more main done (λ next. G next child × IsLink node next) (λ next. H next child × IsLink node next) (λ r n. (more r child n.0, n.1)) k
  clean_more (clean.Contracted path main done) k = all_more main done k

  pub repair_more : (l : Line) → KnowsRepair node first G start l → KnowsRepair node first H start l
  repair_more (line.Renew l) k = renew_more l k
  repair_more (line.Clean l) k = clean_more l k
  repair_more (line.Swap (purpose.Renew path) s) k = repaired_more s.replaced s.fresh k
  repair_more (line.Swap purpose.Clean s) k = repaired_more s.replaced s.fresh k
  repair_more (line.Swap (purpose.Update path former) s) k = tt
  repair_more (line.Swap (purpose.Climb c) s) k = tt
  repair_more (line.Root l) k = tt
  repair_more (line.Key l) k = tt
  repair_more (line.Build l) k = tt
  repair_more (line.Climb l) k = tt
  repair_more (line.Copy l) k = tt
  repair_more (line.Walk l) k = tt
  repair_more (line.End answer) k = tt
  repair_more line.Impossible k = tt

-- ---- lines that know of no repair

abbrev pub is_unrepairing : Line → Bool
is_unrepairing (line.Renew l) = false
is_unrepairing (line.Clean (clean.Read path r)) = true
is_unrepairing (line.Clean (clean.Main path main)) = true
is_unrepairing (line.Clean l) = false
is_unrepairing (line.Swap (purpose.Renew path) s) = false
is_unrepairing (line.Swap purpose.Clean s) = false
is_unrepairing l = true

pub unrepairing_knows : (node : Ref → Node) (first : Ref → Ref) (G : Ref → Ref → Type 0) (start : ℕ) (l : Line) → is_unrepairing l ≡ true → KnowsRepair node first G start l
unrepairing_knows node first G start (line.Renew l) e = absurd (true≢false (sym e))
unrepairing_knows node first G start (line.Clean (clean.Read path r)) e = tt
unrepairing_knows node first G start (line.Clean (clean.Main path main)) e = tt
unrepairing_knows node first G start (line.Clean (clean.Entry path main done)) e = absurd (true≢false (sym e))
unrepairing_knows node first G start (line.Clean (clean.Child path main done r)) e = absurd (true≢false (sym e))
unrepairing_knows node first G start (line.Clean (clean.Tomb path main done child)) e = absurd (true≢false (sym e))
unrepairing_knows node first G start (line.Clean (clean.Contracted path main done)) e = absurd (true≢false (sym e))
unrepairing_knows node first G start (line.Swap (purpose.Renew path) s) e = absurd (true≢false (sym e))
unrepairing_knows node first G start (line.Swap purpose.Clean s) e = absurd (true≢false (sym e))
unrepairing_knows node first G start (line.Swap (purpose.Update path former) s) e = tt
unrepairing_knows node first G start (line.Swap (purpose.Climb c) s) e = tt
unrepairing_knows node first G start (line.Root l) e = tt
unrepairing_knows node first G start (line.Key l) e = tt
unrepairing_knows node first G start (line.Build l) e = tt
unrepairing_knows node first G start (line.Climb l) e = tt
unrepairing_knows node first G start (line.Copy l) e = tt
unrepairing_knows node first G start (line.Walk l) e = tt
unrepairing_knows node first G start (line.End answer) e = tt
unrepairing_knows node first G start line.Impossible e = tt
