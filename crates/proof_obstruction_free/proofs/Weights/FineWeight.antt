-- The fine weight: an offer in the root word weighs 2, each actor whose SWAP's fresh node is pending 5, and 1 where that node has failed and still stands
-- in the SWAP's main word. A step that makes no node pending adds nothing to what the actors weigh.
use Rattle.std.proofs.Common.{◌≡◌, ℕ, suc, ◌≤◌, ◌==◌, Bool, true, false, refl, sym, ap, subst, eqb-true, eq-eqb, arith}
use Rattle.proof_obstruction_free.specs.Vocabulary.{Ref, Prev, After, Gives, ReadLine, Words, Stage, Rests, Reads, Builds, Publishes, Decides, Checks, Idles, SwapsNode, DecidesOn, MayHave}
use Rattle.proof_obstruction_free.specs.Vocabulary.{after_read}
use Rattle.proof_obstruction_free.specs.Beneath.slot_arena.specs.declared.nodes.Prev.TheVariants as prev
use Rattle.proof_obstruction_free.specs.Beneath.machine_model.specs.declared.reading.After.TheVariants.{Goes}
use Rattle.proof_obstruction_free.specs.Beneath.proof_commits.specs.Protocol.{Moves, MakesNode}
use Rattle.proof_obstruction_free.specs.Beneath.proof_commits.specs.Protocol.{ReadsOn, IsAtRest, after_deciding}
use Rattle.proof_obstruction_free.specs.Beneath.proof_commits.proofs.Words.Stood.{Stood}
use Rattle.proof_obstruction_free.specs.Beneath.proof_commits.proofs.Words.Effects.{Effect, Becomes, Same, GoesIn, IsCommitted, IsFailed, becomes, link_later}
use Rattle.proof_obstruction_free.specs.Beneath.proof_commits.proofs.Known.Owners.{IsSound, Staged}
use Rattle.proof_obstruction_free.proofs.Weights.FailedOwners.{stood_before}

-- ---- what one actor weighs

abbrev pub node_weight : Prev → Bool → ℕ
node_weight prev.None stands = 0
node_weight (prev.Pending q) stands = 5
node_weight (prev.Failed q) true = 1
node_weight (prev.Failed q) false = 0

abbrev pub stage_weight : Words → ℕ → Stage → ℕ
stage_weight w t (Decides i below fresh l) = node_weight (w.prev t fresh) (w.main t i == fresh)
stage_weight w t s = 0

node_most : (v : Prev) (b : Bool) → node_weight v b ≤ 5
node_most prev.None b = omega arith
node_most (prev.Pending q) b = omega arith
node_most (prev.Failed q) true = omega arith
node_most (prev.Failed q) false = omega arith

pub stage_most : (w : Words) (t : ℕ) (s : Stage) → stage_weight w t s ≤ 5
stage_most w t (Decides i below fresh l) = node_most (w.prev t fresh) (w.main t i == fresh)
stage_most w t Rests = omega arith
stage_most w t (Reads i l) = omega arith
stage_most w t (Builds f) = omega arith
stage_most w t (Publishes i a f) = omega arith
stage_most w t (Checks i a f) = omega arith

-- a decided node weighs nothing, a failed one at most one
pub weighs_none : (v : Prev) (b : Bool) → v ≡ prev.None → node_weight v b ≡ 0
weighs_none v b e = ap (λ x. node_weight x b) e

pub failed_most : (v : Prev) (b : Bool) (q : Ref) → v ≡ prev.Failed q → node_weight v b ≤ 1
failed_most v b q e = subst (λ x. node_weight x b ≤ 1) (sym e) (by b)
  where
    by : (c : Bool) → node_weight (prev.Failed q) c ≤ 1
    by true = omega arith
    by false = omega arith

-- ---- by what an actor is about, it weighs no more after a step

-- a failed node that stands there afterwards stood there before
module _ (w : Words) (t : ℕ) (h : IsSound w t) (e : Effect w t) (i below f : Ref) (stood : Stood w t i f) where
  still_failed : (q : Ref) → w.prev (suc t) f ≡ prev.Failed q → (now : Bool) → (w.main (suc t) i == f) ≡ now → node_weight (prev.Failed q) now ≤ node_weight (prev.Failed q) (w.main t i == f)
  still_failed q failed false is = omega arith
  still_failed q failed true is =
      let before = stood_before w t h.words i f q (link_later w t e i (h.words.link i f stood)) failed (eqb-true _ f is) e in
      subst (λ b. 1 ≤ node_weight (prev.Failed q) b) (sym (eq-eqb _ f before.1)) (omega arith)

  same_by : (v : Prev) → w.prev t f ≡ v → w.prev (suc t) f ≡ v → node_weight v (w.main (suc t) i == f) ≤ node_weight v (w.main t i == f)
  same_by prev.None was now = omega arith
  same_by (prev.Pending q) was now = omega arith
  same_by (prev.Failed q) was now = still_failed q now (w.main (suc t) i == f) refl

  node_by : Becomes w t f → node_weight (w.prev (suc t) f) (w.main (suc t) i == f) ≤ node_weight (w.prev t f) (w.main t i == f)
  node_by (Same keeps) =
      subst (λ v. node_weight v (w.main (suc t) i == f) ≤ node_weight (w.prev t f) (w.main t i == f)) (sym keeps) (same_by (w.prev t f) refl keeps)
  node_by (GoesIn j x l swaps private d) = absurd (private.apart i stood)
  node_by (IsCommitted q x) = let none = weighs_none _ (w.main (suc t) i == f) x.prev.here in omega (arith, none)
  node_by (IsFailed q x) =
      let most = failed_most _ (w.main (suc t) i == f) q x.prev.here in
      let was = ap (λ v. node_weight v (w.main t i == f)) x.was in
      omega (arith, most, was)

pub still_lighter : (w : Words) (t k : ℕ) → IsSound w t → Effect w t → (s : Stage) → Staged w t k s → stage_weight w (suc t) s ≤ stage_weight w t s
still_lighter w t k h e (Decides i below f l) staged = node_by w t h e i below f staged.1 (becomes w t e f)
still_lighter w t k h e Rests staged = omega arith
still_lighter w t k h e (Reads i l) staged = omega arith
still_lighter w t k h e (Builds f) staged = omega arith
still_lighter w t k h e (Publishes i x f) staged = omega arith
still_lighter w t k h e (Checks i x f) staged = omega arith

-- ---- the acting one weighs no more for what it is about next

rest_weight : (w : Words) (t : ℕ) (s : Stage) → IsAtRest s → stage_weight w t s ≡ 0
rest_weight w t (Decides i x f l) rest = absurd rest
rest_weight w t Rests rest = refl
rest_weight w t (Reads i l) rest = refl
rest_weight w t (Builds f) rest = refl
rest_weight w t (Publishes i x f) rest = refl
rest_weight w t (Checks i x f) rest = refl

made_weight : (w : Words) (u t k : ℕ) (n : Ref) (s : Stage) → MayHave w t k n s → stage_weight w u s ≡ 0
made_weight w u t k n (Decides i x f l) have = absurd have
made_weight w u t k n Rests have = refl
made_weight w u t k n (Reads i l) have = refl
made_weight w u t k n (Builds f) have = refl
made_weight w u t k n (Publishes i x f) have = refl
made_weight w u t k n (Checks i x f) have = refl

read_weight : (w : Words) (t : ℕ) (i : Ref) (out : After ReadLine Ref) → stage_weight w t (after_read i out) ≡ 0
read_weight w t i (Goes l) = refl
read_weight w t i (Gives m) = refl

deciding_weight : (w : Words) (t : ℕ) (i x f : Ref) (l : ReadLine) (out : After ReadLine Ref) → stage_weight w t (after_deciding i x f out) ≤ stage_weight w t (Decides i x f l)
deciding_weight w t i x f l (Goes next) = omega arith
deciding_weight w t i x f l (Gives m) = omega arith

pub own_lighter : (w : Words) (t k : ℕ) (s after : Stage) → Staged w t k s → ((f q : Ref) → w.prev t f ≡ prev.None → w.prev (suc t) f ≡ prev.Pending q → ⊥) → Moves w t k s after →
    stage_weight w (suc t) after ≤ stage_weight w (suc t) s
own_lighter w t k s after staged none (Idles e free rest) = let zero' = rest_weight w (suc t) after rest in omega (arith, zero')
own_lighter w t k s after staged none (MakesNode n e free name have) = let zero' = made_weight w (suc t) t k n after have in omega (arith, zero')
own_lighter w t k s after staged none (SwapsNode {i} {a} {f} l e) = absurd (none f a staged.0.none e.prev.here)
own_lighter w t k s after staged none (ReadsOn {i} {l} {out} r) = let zero' = read_weight w (suc t) i out in omega (arith, zero')
own_lighter w t k s after staged none (DecidesOn {i} {a} {f} {l} {out} r) = deciding_weight w (suc t) i a f l out
