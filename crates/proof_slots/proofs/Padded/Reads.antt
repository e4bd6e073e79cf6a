-- A READ decides alike in a padded heap.
use Rattle.std.proofs.Common.{◌≡◌, ℕ, Option, refl, ap}
use Rattle.proof_slots.specs.Vocabulary.{Ref, Heap, node_at, prev_at, ReadLine, verdict}
use Rattle.proof_slots.specs.Vocabulary.{committed_by, committed_so}
use Rattle.machine_model.specs.declared.reading.ReadLine.TheVariants as read
use Rattle.proof_slots.proofs.Padded.Heaps.{wide, node_wide, prev_wide}

module _ (more slots : ℕ) (heap : Heap) where
  abbrev over : Heap
  over = wide more slots heap

  nodes : (r : Ref) → node_at over r ≡ node_at heap r
  nodes r = node_wide more slots heap r

  prevs : (r : Ref) → prev_at over r ≡ prev_at heap r
  prevs r = prev_wide more slots heap r

  pub verdict_wide : (i main previous : Ref) (told : Option ℕ) → verdict over i main previous told ≡ verdict heap i main previous told
  verdict_wide i main previous told = simp (nodes, prevs)

  pub committed_wide : (i : Ref) (l : ReadLine) → committed_by over i l ≡ committed_by heap i l
  committed_wide i (read.Decide main previous told) = ap (committed_so main) (verdict_wide i main previous told)
  committed_wide i read.Main = refl
  committed_wide i (read.Prev main) = refl
  committed_wide i (read.AskRoot main previous) = refl
  committed_wide i (read.Abort main previous offer) = refl
  committed_wide i (read.Restore main previous) = refl
