-- What an operation's line knows of the entries that it has done, where it renews or cleans a branch.
use Rattle.std.specs.Prelude.{◌≡◌, ◌≢◌, ℕ, ◌<◌, Bool, List, length, slice_index_or}
use Rattle.arrayvec.specs.ArrayVec.{ArrayVec}
use Rattle.proof_contents.specs.Vocabulary.{Ref, Node, Indirection, Branch, Tomb, no_ref, contracted, RenewLine, CleanLine, Line}
use Rattle.machine_model.specs.declared.repairs.RenewLine.TheVariants as renew
use Rattle.machine_model.specs.declared.repairs.CleanLine.TheVariants as clean
use Rattle.machine_model.specs.declared.lines.Purpose.TheVariants as purpose
use Rattle.machine_model.specs.declared.lines.Line.TheVariants as line

-- In all of them: what nodes there are, with which main node each indirection was made, which main node a READ of an
-- indirection gave, and the generation of the operation's root.

-- the entry is done: it is kept, or renewed over the main node that was given, or gives way to the single of a tomb that was given
pub data IsDone (node : Ref → Node) (first : Ref → Ref) (Gave : Ref → Ref → Type 0) (start : ℕ) (entry other : Ref) : Type 0 where
  keeps : entry ≡ other → IsDone node first Gave start entry other
  renews : (h : ℕ) (word word' child : Ref) → node entry ≡ Indirection h word → h ≢ start → node other ≡ Indirection start word' → Gave entry child → first other ≡ child →
      IsDone node first Gave start entry other
  cleans : (h : ℕ) (word child : Ref) → node entry ≡ Indirection h word → Gave entry child → node child ≡ Tomb other → IsDone node first Gave start entry other

-- the first entries of the branch are done
pub record AreDone (node : Ref → Node) (first : Ref → Ref) (Gave : Ref → Ref → Type 0) (start : ℕ) (main : Ref) (bitmap : ℕ) (entries : ArrayVec Ref) (done : List Ref) : Type 0 where
  pub is : node main ≡ Branch bitmap entries
  pub each : (n : ℕ) → n < length done → IsDone node first Gave start (slice_index_or entries.items n no_ref) (slice_index_or done n no_ref)

-- all of them
abbrev pub AllDone : (Ref → Node) → (Ref → Ref) → (Ref → Ref → Type 0) → ℕ → Ref → List Ref → Type 0
AllDone node first Gave start main done =
    (bitmap : ℕ) × (entries : ArrayVec Ref) × AreDone node first Gave start main bitmap entries done × (length done ≡ length entries.items)

-- some of them, and this is the next one
abbrev pub SomeDone : (Ref → Node) → (Ref → Ref) → (Ref → Ref → Type 0) → ℕ → Ref → List Ref → (Ref → Type 0) → Type 0
SomeDone node first Gave start main done Next =
    (bitmap : ℕ) × (entries : ArrayVec Ref) × AreDone node first Gave start main bitmap entries done × (length done < length entries.items)
    × Next (slice_index_or entries.items (length done) no_ref)

abbrev pub IsLink : (Ref → Node) → Ref → Type 0
IsLink node r = (h : ℕ) × (word : Ref) × (node r ≡ Indirection h word)

abbrev pub IsOlder : (Ref → Node) → ℕ → Ref → Type 0
IsOlder node start r = (h : ℕ) × (word : Ref) × (node r ≡ Indirection h word) × (h ≢ start)

abbrev pub KnowsRenew : (Ref → Node) → (Ref → Ref) → (Ref → Ref → Type 0) → ℕ → RenewLine → Type 0
KnowsRenew node first Gave start (renew.Entry path main done) = SomeDone node first Gave start main done (λ next. Unit {0})
KnowsRenew node first Gave start (renew.Read path main done read) = SomeDone node first Gave start main done (λ next. (read.indirection ≡ next) × IsOlder node start next)
KnowsRenew node first Gave start (renew.Link path main done child) = SomeDone node first Gave start main done (λ next. Gave next child × IsOlder node start next)
KnowsRenew node first Gave start (renew.Branch path main done) = AllDone node first Gave start main done

abbrev pub KnowsClean : (Ref → Node) → (Ref → Ref) → (Ref → Ref → Type 0) → ℕ → CleanLine → Type 0
KnowsClean node first Gave start (clean.Read path read) = Unit {0}
KnowsClean node first Gave start (clean.Main path main) = Unit {0}
KnowsClean node first Gave start (clean.Entry path main done) = SomeDone node first Gave start main done (λ next. Unit {0})
KnowsClean node first Gave start (clean.Child path main done read) = SomeDone node first Gave start main done (λ next. (read.indirection ≡ next) × IsLink node next)
KnowsClean node first Gave start (clean.Tomb path main done child) = SomeDone node first Gave start main done (λ next. Gave next child × IsLink node next)
KnowsClean node first Gave start (clean.Contracted path main done) = AllDone node first Gave start main done

-- the fresh main node was made of such entries, contracted or not
abbrev pub IsRepaired : (Ref → Node) → (Ref → Ref) → (Ref → Ref → Type 0) → ℕ → Ref → Ref → Type 0
IsRepaired node first Gave start replaced fresh =
    (done : List Ref) × (bitmap : ℕ) × (entries : ArrayVec Ref) × AreDone node first Gave start replaced bitmap entries done × (length done ≡ length entries.items)
    × ((may_entomb : Bool) × (node fresh ≡ contracted may_entomb bitmap done))

-- of lines of RENEW, CLEAN and their swaps
abbrev pub KnowsRepair : (Ref → Node) → (Ref → Ref) → (Ref → Ref → Type 0) → ℕ → Line → Type 0
KnowsRepair node first Gave start (line.Renew l) = KnowsRenew node first Gave start l
KnowsRepair node first Gave start (line.Clean l) = KnowsClean node first Gave start l
KnowsRepair node first Gave start (line.Swap (purpose.Renew path) s) = IsRepaired node first Gave start s.replaced s.fresh
KnowsRepair node first Gave start (line.Swap purpose.Clean s) = IsRepaired node first Gave start s.replaced s.fresh
KnowsRepair node first Gave start l = Unit {0}

-- the line is one of a repair that reads below the path's end: RENEW's and CLEAN's
abbrev pub ReadsBelow : Line → Type 0
ReadsBelow (line.Renew (renew.Read path main done r)) = Unit {0}
ReadsBelow (line.Clean (clean.Child path main done r)) = Unit {0}
ReadsBelow l = ⊥
