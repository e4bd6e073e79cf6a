-- A READ asks for the root on a writable handle alone.
use Rattle.std.proofs.Common.{◌≡◌, Bool, true, false, ◌==◌, refl}
use Rattle.proof_commits.specs.Vocabulary.{Access, Writable, ReadOnly, Ref, Prev, Heap, main_at, prev_at, After, Gives, ReadLine, RootWord, Plain, Offer, Verdict, Commits, Fails, Overtaken, verdict}
use Rattle.proof_commits.specs.Vocabulary.{read_after, after_prev, after_ask, after_decide, after_restore}
use Rattle.proof_commits.specs.Beneath.slot_arena.specs.declared.nodes.Prev.TheVariants as over
use Rattle.proof_commits.specs.Beneath.machine_model.specs.declared.reading.After.TheVariants.{Goes}
use Rattle.proof_commits.specs.Beneath.machine_model.specs.declared.reading.ReadLine.TheVariants as read
use Rattle.proof_commits.proofs.Lines.Stages.{ReadRemembers}

-- of what comes after a step
abbrev pub OutRemembers : Type 0 → After ReadLine Ref → Type 0
OutRemembers W (Goes l) = ReadRemembers W l
OutRemembers W (Gives m) = Unit {0}

prev_remembers : (access : Access) (m : Ref) (v : Prev) → OutRemembers (access ≡ Writable) (after_prev access m v)
prev_remembers access m over.None = tt
prev_remembers access m (over.Failed p) = tt
prev_remembers Writable m (over.Pending p) = refl
prev_remembers ReadOnly m (over.Pending p) = tt

ask_remembers : (heap : Heap) (W : Type 0) (m p : Ref) (word : RootWord) → W → OutRemembers W (after_ask heap m p word)
ask_remembers heap W m p (Plain r) is = tt
ask_remembers heap W m p (Offer offer) is = is

decide_remembers : (W : Type 0) (m : Ref) (v : Verdict) → OutRemembers W (after_decide m v)
decide_remembers W m Commits = tt
decide_remembers W m Fails = tt
decide_remembers W m (Overtaken true) = tt
decide_remembers W m (Overtaken false) = tt

restore_remembers : (W : Type 0) (p : Ref) (b : Bool) → OutRemembers W (after_restore p b)
restore_remembers W p true = tt
restore_remembers W p false = tt

pub read_remembers : (heap : Heap) (access : Access) (word : RootWord) (i : Ref) (l : ReadLine) → ReadRemembers (access ≡ Writable) l →
    OutRemembers (access ≡ Writable) (read_after heap access word i l)
read_remembers heap access word i read.Main r = tt
read_remembers heap access word i (read.Prev m) r = prev_remembers access m (prev_at heap m)
read_remembers heap access word i (read.AskRoot m p) r = ask_remembers heap (access ≡ Writable) m p word r
read_remembers heap access word i (read.Abort m p offer) r = r
read_remembers heap access word i (read.Decide m p told) r = decide_remembers (access ≡ Writable) m (verdict heap i m p told)
read_remembers heap access word i (read.Restore m p) r = restore_remembers (access ≡ Writable) p (main_at heap i == m)
