-- How a SWAP comes out: its fresh node is pending until it is decided, and a decided one was committed by the time that it is seen so.
use Rattle.std.proofs.Common.{◌≡◌, ℕ, zero, suc, ◌<◌, ◌≤◌, ◌⊎◌, true, false, inl, inr, refl, sym, ◌∙◌, ap, subst, arith}
use Rattle.std.proofs.lemmas.Bool.{cases_eq, true≢false}
use Rattle.proof_commits.specs.Vocabulary.{Ref, After, Gives, ReadLine}
use Rattle.proof_commits.specs.Beneath.slot_arena.specs.declared.nodes.Prev.TheVariants as over
use Rattle.proof_commits.specs.Beneath.machine_model.specs.declared.reading.After.TheVariants.{Goes}
use Rattle.proof_commits.specs.Protocol.{Words, logical_at, Stage, Rests, Reads, Builds, Publishes, Decides, Checks, CommitsNode, IsAtRest, MayHave, IsSame, Moves, Idles, MakesNode}
use Rattle.proof_commits.specs.Protocol.{SwapsNode, ReadsOn, DecidesOn, Turn, Acts, Passes, after_read, after_deciding, Protocol}
use Rattle.proof_commits.proofs.Words.Stood.{none≢pending}
use Rattle.proof_commits.proofs.Words.Effects.{Effect, GoesOn, StaysPending, GetsCommitted, GetsFailed, goes_on, failed_later}
use Rattle.proof_commits.proofs.Known.Owners.{HasFresh, Owner, IsSound}
use Rattle.proof_commits.proofs.Known.Sounds.{sound_at}
use Rattle.proof_commits.proofs.Course.Finals.{from_time, effect, link_stays}
use Rattle.proof_commits.proofs.Course.Mains.{MainStep, MainStays, MainChanges, main_step}

-- the actor's fresh node was committed over the replaced one, at a step at which the actor was deciding it
pub record HasCommitted (w : Words) (t k : ℕ) (i a f : Ref) : Type 0 where
  pub at : ℕ
  pub past : at < t
  pub commits : CommitsNode w at f a
  pub line : ReadLine
  pub stage : w.stage at k ≡ Decides i a f line

pub data Outcome (w : Words) (t k : ℕ) (i a f : Ref) : Type 0 where
  IsPending : w.prev t f ≡ over.Pending a → Outcome w t k i a f
  IsFailed : w.prev t f ≡ over.Failed a → Outcome w t k i a f
  IsCommitted : HasCommitted w t k i a f → Outcome w t k i a f

-- what is known of a SWAP past its first line
abbrev ComesOut : Words → ℕ → ℕ → Stage → Type 0
ComesOut w t k (Decides i a f l) = Outcome w t k i a f
ComesOut w t k (Checks i a f) = Outcome w t k i a f
ComesOut w t k s = Unit {0}

-- of an actor in the SWAP's deciding part, after one more step
outcome_by : (w : Words) (t k : ℕ) (i a f : Ref) (l : ReadLine) → w.stage t k ≡ Decides i a f l → GoesOn w t f a → Outcome w (suc t) k i a f
outcome_by w t k i a f l stage (StaysPending e) = IsPending e
outcome_by w t k i a f l stage (GetsCommitted e) = IsCommitted (record { at = t; past = omega arith; commits = e; line = l; stage = stage })
outcome_by w t k i a f l stage (GetsFailed e) = IsFailed e.prev.here

deciding_later : (w : Words) (t k : ℕ) → Effect w t → (i a f : Ref) (l : ReadLine) → w.stage t k ≡ Decides i a f l → Outcome w t k i a f → Outcome w (suc t) k i a f
deciding_later w t k e i a f l stage (IsPending p) = outcome_by w t k i a f l stage (goes_on w t e f a p)
deciding_later w t k e i a f l stage (IsFailed p) = IsFailed (failed_later w t e f a p)
deciding_later w t k e i a f l stage (IsCommitted c) = IsCommitted (record { at = c.at; past = omega (arith, c.past); commits = c.commits; line = c.line; stage = c.stage })

-- a node that an actor is to check isn't pending: its owner would be another one
pub checked : (w : Words) (t k : ℕ) → IsSound w t → (i a f : Ref) → w.stage t k ≡ Checks i a f → (q : Ref) → w.prev t f ≡ over.Pending q → ⊥
checked w t k h i a f stage q pend = by_actor (cases_eq o.actor k)
  where
    o : Owner w t f q
    o = h.owned f q pend

    not_both : {x : Stage} → x ≡ Decides o.link q f o.line → x ≡ Checks i a f → ⊥
    not_both e c = let wrong = sym e ∙ c in cc

    by_actor : (o.actor ≡ k) ⊎ (o.actor ≡ k → ⊥) → ⊥
    by_actor (inl same) = not_both (ap (w.stage t) (sym same) ∙ o.stage) stage
    by_actor (inr other) = h.apart o.actor k f other (subst (λ s. HasFresh s f) (sym o.stage) refl) (subst (λ s. HasFresh s f) (sym stage) refl)

-- an outcome that is known stays
checking_later : (w : Words) (t k : ℕ) → IsSound w t → Effect w t → (i a f : Ref) → w.stage t k ≡ Checks i a f → Outcome w t k i a f → Outcome w (suc t) k i a f
checking_later w t k h e i a f stage (IsPending p) = absurd (checked w t k h i a f stage a p)
checking_later w t k h e i a f stage (IsFailed p) = IsFailed (failed_later w t e f a p)
checking_later w t k h e i a f stage (IsCommitted c) = IsCommitted (record { at = c.at; past = omega (arith, c.past); commits = c.commits; line = c.line; stage = c.stage })

stage_later : (w : Words) (t k : ℕ) → IsSound w t → Effect w t → (s : Stage) → w.stage t k ≡ s → ComesOut w t k s → ComesOut w (suc t) k s
stage_later w t k h e (Decides i a f l) is c = deciding_later w t k e i a f l is c
stage_later w t k h e (Checks i a f) is c = checking_later w t k h e i a f is c
stage_later w t k h e Rests is c = tt
stage_later w t k h e s is c = tt

rest_comes : (w : Words) (t k : ℕ) (s : Stage) → IsAtRest s → ComesOut w t k s
rest_comes w t k Rests r = tt
rest_comes w t k (Reads i l) r = tt
rest_comes w t k s r = absurd r

have_comes : (w : Words) (t k : ℕ) (n : Ref) (s : Stage) → MayHave w t k n s → ComesOut w (suc t) k s
have_comes w t k n Rests have = tt
have_comes w t k n (Reads i l) have = tt
have_comes w t k n (Builds f) have = tt
have_comes w t k n (Publishes i a f) have = tt
have_comes w t k n (Decides i a f l) have = absurd have
have_comes w t k n (Checks i a f) have = absurd have

read_comes : (w : Words) (t k : ℕ) (i : Ref) (out : After ReadLine Ref) → ComesOut w t k (after_read i out)
read_comes w t k i (Goes l) = tt
read_comes w t k i (Gives m) = tt

deciding_comes : (w : Words) (t k : ℕ) (i a f : Ref) (out : After ReadLine Ref) → Outcome w t k i a f → ComesOut w t k (after_deciding i a f out)
deciding_comes w t k i a f (Goes l) c = c
deciding_comes w t k i a f (Gives m) c = c

moves_come : (w : Words) (t k : ℕ) → Effect w t → (s after : Stage) → Moves w t k s after → w.stage t k ≡ s → ComesOut w t k s → ComesOut w (suc t) k after
moves_come w t k e s after (Idles x free r) is c = rest_comes w (suc t) k after r
moves_come w t k e s after (MakesNode n x free name have) is c = have_comes w t k n after have
moves_come w t k e s after (SwapsNode l x) is c = IsPending x.prev.here
moves_come w t k e s after (ReadsOn {i} {l} {out} r) is c = read_comes w (suc t) k i out
moves_come w t k e s after (DecidesOn {i} {a} {f} {l} {out} r) is c = deciding_comes w (suc t) k i a f out (deciding_later w t k e i a f l is c)

others_come : (w : Words) (t k : ℕ) → IsSound w t → Effect w t → IsSame w t k → ComesOut w t k (w.stage t k) → ComesOut w (suc t) k (w.stage (suc t) k)
others_come w t k h e same c = subst (λ s. ComesOut w (suc t) k s) (sym same.stage) (stage_later w t k h e (w.stage t k) refl c)

turn_comes : (w : Words) (t : ℕ) → IsSound w t → Effect w t → ((k : ℕ) → ComesOut w t k (w.stage t k)) → Turn w t → (k : ℕ) → ComesOut w (suc t) k (w.stage (suc t) k)
turn_comes w t h e so_far (Passes x same) k = others_come w t k h e (same k) (so_far k)
turn_comes w t h e so_far (Acts actor m counts same) k = by_actor (cases_eq k actor)
  where
    by_actor : (k ≡ actor) ⊎ (k ≡ actor → ⊥) → ComesOut w (suc t) k (w.stage (suc t) k)
    by_actor (inl is) = subst (λ q. ComesOut w (suc t) q (w.stage (suc t) q)) (sym is) (moves_come w t actor e (w.stage t actor) (w.stage (suc t) actor) m refl (so_far actor))
    by_actor (inr other) = others_come w t k h e (same k other) (so_far k)

comes_out_at : (p : Protocol) (t : ℕ) → t ≤ p.last → (k : ℕ) → ComesOut p.words t k (p.words.stage t k)
comes_out_at p t h =
    from_time (λ v. (k : ℕ) → ComesOut p.words v k (p.words.stage v k)) zero p.last (λ k. subst (λ s. ComesOut p.words zero k s) (sym (p.first_stage k)) tt)
    (λ v b within so_far. turn_comes p.words v (sound_at p v (omega arith)) (effect p v within) so_far (p.turn v within)) t (omega arith) h

-- a SWAP that is seen to succeed was committed, and while it was being decided
pub succeeded : (p : Protocol) (t : ℕ) → t ≤ p.last → (k : ℕ) (i a f : Ref) → p.words.stage t k ≡ Checks i a f → p.words.prev t f ≡ over.None → HasCommitted p.words t k i a f
succeeded p t h k i a f stage n = by_outcome (subst (λ s. ComesOut p.words t k s) stage (comes_out_at p t h k))
  where
    by_outcome : Outcome p.words t k i a f → HasCommitted p.words t k i a f
    by_outcome (IsPending e) = absurd (none≢pending n e)
    by_outcome (IsFailed e) = let wrong : over.None ≡ over.Failed a = sym n ∙ e in cc
    by_outcome (IsCommitted c) = c

-- ---- what a SWAP replaces is a branch or a list

abbrev Replaces : Words → Stage → Type 0
Replaces w (Publishes i a f) = w.solid a ≡ true
Replaces w (Decides i a f l) = w.solid a ≡ true
Replaces w (Checks i a f) = w.solid a ≡ true
Replaces w s = Unit {0}

rest_replaces : (w : Words) (s : Stage) → IsAtRest s → Replaces w s
rest_replaces w Rests r = tt
rest_replaces w (Reads i l) r = tt
rest_replaces w s r = absurd r

have_replaces : (w : Words) (t k : ℕ) (n : Ref) (s : Stage) → MayHave w t k n s → Replaces w s
have_replaces w t k n Rests have = tt
have_replaces w t k n (Reads i l) have = tt
have_replaces w t k n (Builds f) have = tt
have_replaces w t k n (Publishes i a f) have = have.1.1
have_replaces w t k n (Decides i a f l) have = absurd have
have_replaces w t k n (Checks i a f) have = absurd have

read_replaces : (w : Words) (i : Ref) (out : After ReadLine Ref) → Replaces w (after_read i out)
read_replaces w i (Goes l) = tt
read_replaces w i (Gives m) = tt

deciding_replaces : (w : Words) (i a f : Ref) (out : After ReadLine Ref) → w.solid a ≡ true → Replaces w (after_deciding i a f out)
deciding_replaces w i a f (Goes l) r = r
deciding_replaces w i a f (Gives m) r = r

moves_replace : (w : Words) (t k : ℕ) (s after : Stage) → Moves w t k s after → Replaces w s → Replaces w after
moves_replace w t k s after (Idles x free r) so_far = rest_replaces w after r
moves_replace w t k s after (MakesNode n x free name have) so_far = have_replaces w t k n after have
moves_replace w t k s after (SwapsNode l x) so_far = so_far
moves_replace w t k s after (ReadsOn {i} {l} {out} r) so_far = read_replaces w i out
moves_replace w t k s after (DecidesOn {i} {a} {f} {l} {out} r) so_far = deciding_replaces w i a f out so_far

turn_replaces : (w : Words) (t : ℕ) → ((k : ℕ) → Replaces w (w.stage t k)) → Turn w t → (k : ℕ) → Replaces w (w.stage (suc t) k)
turn_replaces w t so_far (Passes x same) k = subst (λ s. Replaces w s) (sym (same k).stage) (so_far k)
turn_replaces w t so_far (Acts actor m counts same) k = by_actor (cases_eq k actor)
  where
    by_actor : (k ≡ actor) ⊎ (k ≡ actor → ⊥) → Replaces w (w.stage (suc t) k)
    by_actor (inl is) = subst (λ q. Replaces w (w.stage (suc t) q)) (sym is) (moves_replace w t actor (w.stage t actor) (w.stage (suc t) actor) m (so_far actor))
    by_actor (inr other) = subst (λ s. Replaces w s) (sym (same k other).stage) (so_far k)

replaces_at : (p : Protocol) (t : ℕ) → t ≤ p.last → (k : ℕ) → Replaces p.words (p.words.stage t k)
replaces_at p t h =
    from_time (λ v. (k : ℕ) → Replaces p.words (p.words.stage v k)) zero p.last (λ k. subst (λ s. Replaces p.words s) (sym (p.first_stage k)) tt)
    (λ v b within so_far. turn_replaces p.words v so_far (p.turn v within)) t (omega arith) h

-- so what a commit replaces is one
pub commit_replaces : (p : Protocol) (t : ℕ) → t < p.last → (m q : Ref) → CommitsNode p.words t m q → p.words.solid q ≡ true
commit_replaces p t h m q c =
    let o = (sound_at p t (omega arith)).owned m q c.was in
    subst (λ s. Replaces p.words s) o.stage (replaces_at p t (omega arith) o.actor)

-- and a tomb is never replaced
tomb_step : (p : Protocol) (i a : Ref) (t : ℕ) → t < p.last → p.words.solid a ≡ false → logical_at p.words t i ≡ a → MainStep p.words t i → logical_at p.words (suc t) i ≡ a
tomb_step p i a t h tomb is (MainStays e) = e ∙ is
tomb_step p i a t h tomb is (MainChanges c) =
    let same : c.replaced ≡ a = sym c.before ∙ is in
    absurd (true≢false (sym (commit_replaces p t h c.fresh c.replaced c.commits) ∙ ap p.words.solid same ∙ tomb))

pub tomb_stays : (p : Protocol) (i a : Ref) (t u : ℕ) → t ≤ u → u ≤ p.last → p.words.link t i ≡ true → p.words.solid a ≡ false → logical_at p.words t i ≡ a → logical_at p.words u i ≡ a
tomb_stays p i a t u h within l tomb is =
    from_time (λ v. logical_at p.words v i ≡ a) t p.last is
    (λ v b inside so_far. tomb_step p i a v inside tomb so_far (main_step p v inside i (link_stays p i t v b (omega arith) l))) u h within
