-- A fresh node that an operation is yet to swap in is met by nobody.
use native.Mathlib.Decide.{ℕ_discrete}
use Rattle.std.proofs.Common.{◌≡◌, ℕ, List, Some, refl, sym, ap, subst, ◌∙◌, arith}
use Rattle.std.proofs.lemmas.Option.{none-some, same_Some}
use Rattle.proof_commits.specs.Vocabulary.{Ref, Operation, Read, ReadLine, SwapLine, Publish, Deciding, Check, Line, Bounds, Step, State, operation_of, read_of, swapping_read, AreBounds, run}
use Rattle.proof_commits.specs.Vocabulary.{states_of, last_of, prev_at}
use Rattle.proof_commits.specs.Beneath.slot_arena.specs.declared.nodes.Prev.TheVariants as prev
use Rattle.proof_commits.specs.Beneath.machine_model.specs.declared.lines.Line.TheVariants as line
use Rattle.proof_commits.specs.Beneath.machine_model.specs.declared.reading.ReadLine.TheVariants as read
use Rattle.proof_commits.specs.Beneath.machine_model.proofs.Times.{run_ends}
use Rattle.proof_commits.specs.Beneath.machine_model.proofs.Grown.{prev_grown}
use Rattle.proof_memory.specs.Laws.{IsInUse}
use Rattle.proof_commits.specs.Laws.{FreshIsUnmet, IsInSwap, named_in}
use Rattle.proof_commits.specs.Protocol.{Words, Reads}
use Rattle.proof_commits.specs.Stages.{stage_of, stage_of_swap, stage_of_actor}
use Rattle.proof_commits.specs.Words.{words_of}
use Rattle.proof_commits.proofs.Words.Stood.{Stood, Private}
use Rattle.proof_commits.proofs.Words.Along.{protocol}
use Rattle.proof_commits.proofs.Known.Owners.{OnLine, Staged, HasFresh}
use Rattle.proof_commits.proofs.Known.Sounds.{sound_at}
use Rattle.proof_commits.proofs.Known.Given.{Known}
use Rattle.proof_commits.proofs.Course.OfLists.{known_from}
use Rattle.proof_commits.proofs.Lines.Swap.{reads_stage}

-- what is known of a stage on which an operation reads
module _ (w : Words) (t k : ℕ) where
  swap_on_line : (i a f : Ref) (l : SwapLine) (r : Read) → swapping_read i l ≡ Some r → Staged w t k (stage_of_swap i a f l) → OnLine w t r.indirection r.line
  swap_on_line i a f (Deciding x) r is st = subst (λ (q : Read). OnLine w t q.indirection q.line) (same_Some (record { indirection = i; line = x }) r is) st.0
  swap_on_line i a f Publish r is st = absurd (none-some r is)
  swap_on_line i a f Check r is st = absurd (none-some r is)

  by_stage : (l : Line) (r : Read) → stage_of l ≡ Reads r.indirection r.line → Staged w t k (stage_of l) → OnLine w t r.indirection r.line
  by_stage l r e st = subst (λ s. Staged w t k s) e st

  on_line : (l : Line) (r : Read) → read_of l ≡ Some r → Staged w t k (stage_of l) → OnLine w t r.indirection r.line
  on_line (line.Swap why s) r is st = swap_on_line s.indirection s.replaced s.fresh s.line r is st
  on_line l r is st = by_stage l r (reads_stage l r tt is) st

-- the node that a line names stood there
named_stood : (w : Words) (t : ℕ) (i m : Ref) (l : ReadLine) → OnLine w t i l → named_in l ≡ Some m → Stood w t i m
named_stood w t i m read.Main on e = absurd (none-some m e)
named_stood w t i m (read.Prev main) on e = subst (λ x. Stood w t i x) (same_Some main m e) on
named_stood w t i m (read.AskRoot main previous) on e = subst (λ x. Stood w t i x) (same_Some main m e) on
named_stood w t i m (read.Abort main previous offer) on e = subst (λ x. Stood w t i x) (same_Some main m e) on
named_stood w t i m (read.Decide main previous told) on e = subst (λ x. Stood w t i x) (same_Some main m e) on
named_stood w t i m (read.Restore main previous) on e = subst (λ x. Stood w t i x) (same_Some main m e) on.0

fresh_in_swap : (i a f : Ref) (l : SwapLine) → HasFresh (stage_of_swap i a f l) f
fresh_in_swap i a f Publish = refl
fresh_in_swap i a f (Deciding x) = refl
fresh_in_swap i a f Check = refl

-- in a run
module _ (limits : Bounds) (steps : List Step) (ok : AreBounds limits) where
  abbrev states : ℕ → State
  states = states_of limits steps

  abbrev last : ℕ
  last = last_of limits steps

  abbrev known : Known limits states last
  known = known_from limits steps ok

  abbrev w : Words
  w = words_of states known.run.records last known.closing

  stage : (actor : ℕ) (operation : Operation) → operation_of (run limits steps) actor ≡ Some operation → w.stage last actor ≡ stage_of operation.line
  stage actor operation is = ap stage_of_actor (ap (λ (s : State). operation_of s actor) (run_ends limits steps) ∙ is)

  staged : (actor : ℕ) (operation : Operation) → operation_of (run limits steps) actor ≡ Some operation → Staged w last actor (stage_of operation.line)
  staged actor operation is = subst (λ s. Staged w last actor s) (stage actor operation is) ((sound_at (protocol limits states last known) last (omega arith)).staged actor)

  module _ (owner : ℕ) (publishing : Operation) (indirection replaced fresh : Ref) (runs : operation_of (run limits steps) owner ≡ Some publishing)
      (swaps : IsInSwap publishing indirection replaced fresh Publish) where
    hidden : Private w last fresh
    hidden = let own = subst (λ l. Staged w last owner (stage_of l)) swaps.1 (staged owner publishing runs) in own.0

    unread : (actor : ℕ) (operation : Operation) (r : Read) → operation_of (run limits steps) actor ≡ Some operation → read_of operation.line ≡ Some r → named_in r.line ≡ Some fresh → ⊥
    unread actor operation r is reading named =
        hidden.apart r.indirection (named_stood w last r.indirection fresh r.line (on_line w last actor operation.line r reading (staged actor operation is)) named)

    undecided : IsInUse (run limits steps).heap fresh → prev_at (run limits steps).heap fresh ≡ prev.None
    undecided used =
        let there : IsInUse (states last).heap fresh = subst (λ (s : State). IsInUse s.heap fresh) (sym (run_ends limits steps)) used in
        ap (λ (s : State). prev_at s.heap fresh) (sym (run_ends limits steps)) ∙ prev_grown states last fresh there.0 there.1 ∙ hidden.none

    fresh_of : (actor : ℕ) (operation : Operation) (i a : Ref) (l : SwapLine) → operation_of (run limits steps) actor ≡ Some operation → IsInSwap operation i a fresh l →
        HasFresh (w.stage last actor) fresh
    fresh_of actor operation i a l is in_swap =
        subst (λ s. HasFresh s fresh) (sym (stage actor operation is ∙ ap stage_of in_swap.1)) (fresh_in_swap i a fresh l)

    unswapped : (actor : ℕ) (operation : Operation) (i a : Ref) (l : SwapLine) → operation_of (run limits steps) actor ≡ Some operation → IsInSwap operation i a fresh l → actor ≡ owner
    unswapped actor operation i a l is in_swap = elim (ℕ_discrete actor owner) [
      | yes same ↦ same
      | no apart ↦
          absurd ((sound_at (protocol limits states last known) last (omega arith)).apart actor owner fresh apart (fresh_of actor operation i a l is in_swap)
          (fresh_of owner publishing indirection replaced Publish runs swaps))
    ]

pub fresh_is_unmet : FreshIsUnmet
fresh_is_unmet limits steps ok actor operation indirection replaced fresh runs swaps = record {
  unread = unread limits steps ok actor operation indirection replaced fresh runs swaps;
  undecided = undecided limits steps ok actor operation indirection replaced fresh runs swaps;
  unswapped = unswapped limits steps ok actor operation indirection replaced fresh runs swaps;
}
