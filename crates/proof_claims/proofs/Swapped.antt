-- Who decides a main node, or looks how it was decided, has swapped it in.
use Rattle.std.proofs.Common.{◌≡◌, ◌<◌, ◌≤◌, inl, inr, ℕ, zero, suc, true, refl, sym, subst, ◌∙◌, arith}
use Rattle.std.proofs.lemmas.Bool.{cases_eq}
use Rattle.proof_claims.specs.Beneath.slot_arena.specs.declared.refs.Ref.{Ref}
use Rattle.proof_claims.specs.Beneath.machine_model.specs.declared.reading.After.{After}
use Rattle.proof_claims.specs.Beneath.machine_model.specs.declared.reading.After.TheVariants.{Goes, Gives}
use Rattle.proof_claims.specs.Beneath.machine_model.specs.declared.reading.ReadLine.{ReadLine}
use Rattle.proof_claims.specs.Beneath.proof_commits.specs.Protocol.{Protocol, Words, Stage, Rests, Reads, Builds, Publishes, Decides, Checks, IsAtRest, MayHave, Turn, Acts, Passes}
use Rattle.proof_claims.specs.Beneath.proof_commits.specs.Protocol.{Moves, Idles, MakesNode, SwapsNode, ReadsOn, DecidesOn, after_read, after_deciding}
use Rattle.proof_claims.specs.Beneath.proof_commits.proofs.Course.Finals.{from_time}

-- it has swapped the node in before
pub record HadSwapped (w : Words) (t k : ℕ) (i a f : Ref) : Type 0 where
  pub at : ℕ
  pub before : at < t
  pub stage : w.stage at k ≡ Publishes i a f
  pub link : w.link (suc at) i ≡ true
  pub main : w.main (suc at) i ≡ f

abbrev Seen : Words → ℕ → ℕ → Stage → Type 0
Seen w t k (Decides i a f l) = HadSwapped w t k i a f
Seen w t k (Checks i a f) = HadSwapped w t k i a f
Seen w t k s = Unit {0}

had_later : (w : Words) (t k : ℕ) (i a f : Ref) → HadSwapped w t k i a f → HadSwapped w (suc t) k i a f
had_later w t k i a f h = record { at = h.at; before = omega (arith, h.before); stage = h.stage; link = h.link; main = h.main }

module _ (p : Protocol) where
  abbrev w : Words
  w = p.words

  seen_later : (t k : ℕ) (s : Stage) → Seen w t k s → Seen w (suc t) k s
  seen_later t k (Decides i a f l) seen = had_later w t k i a f seen
  seen_later t k (Checks i a f) seen = had_later w t k i a f seen
  seen_later t k Rests seen = tt
  seen_later t k (Reads i l) seen = tt
  seen_later t k (Builds f) seen = tt
  seen_later t k (Publishes i a f) seen = tt

  rest_seen : (t k : ℕ) (s : Stage) → IsAtRest s → Seen w t k s
  rest_seen t k Rests r = tt
  rest_seen t k (Reads i l) r = tt
  rest_seen t k s r = absurd r

  have_seen : (t u k : ℕ) (n : Ref) (s : Stage) → MayHave w u k n s → Seen w t k s
  have_seen t u k n Rests have = tt
  have_seen t u k n (Reads i l) have = tt
  have_seen t u k n (Builds f) have = tt
  have_seen t u k n (Publishes i a f) have = tt
  have_seen t u k n (Decides i a f l) have = absurd have
  have_seen t u k n (Checks i a f) have = absurd have

  read_seen : (t k : ℕ) (i : Ref) (out : After ReadLine Ref) → Seen w t k (after_read i out)
  read_seen t k i (Goes l) = tt
  read_seen t k i (Gives m) = tt

  deciding_seen : (t k : ℕ) (i a f : Ref) (out : After ReadLine Ref) → HadSwapped w t k i a f → Seen w t k (after_deciding i a f out)
  deciding_seen t k i a f (Goes l) h = h
  deciding_seen t k i a f (Gives m) h = h

  moves_seen : (t k : ℕ) → t < p.last → (s after : Stage) → w.stage t k ≡ s → Moves w t k s after → Seen w t k s → Seen w (suc t) k after
  moves_seen t k h s after is (Idles e free r) seen = rest_seen (suc t) k after r
  moves_seen t k h s after is (MakesNode n e free name have) seen = have_seen (suc t) t k n after have
  moves_seen t k h s after is (SwapsNode {i} {a} {f} l e) seen = record { at = t; before = omega arith; stage = is; link = e.makes.link i ∙ l; main = e.main.here }
  moves_seen t k h s after is (ReadsOn {i} {l} {out} r) seen = read_seen (suc t) k i out
  moves_seen t k h s after is (DecidesOn {i} {a} {f} {l} {out} r) seen = deciding_seen (suc t) k i a f out (had_later w t k i a f seen)

  turn_seen : (t : ℕ) → t < p.last → ((k : ℕ) → Seen w t k (w.stage t k)) → Turn w t → (k : ℕ) → Seen w (suc t) k (w.stage (suc t) k)
  turn_seen t h so_far (Passes e same) k = subst (Seen w (suc t) k) (sym (same k).stage) (seen_later t k (w.stage t k) (so_far k))
  turn_seen t h so_far (Acts actor m counts same) k = elim (cases_eq k actor) [
    | inl is ↦ subst (λ q. Seen w (suc t) q (w.stage (suc t) q)) (sym is) (moves_seen t actor h (w.stage t actor) (w.stage (suc t) actor) refl m (so_far actor))
    | inr other ↦ subst (Seen w (suc t) k) (sym (same k other).stage) (seen_later t k (w.stage t k) (so_far k))
  ]

  pub seen_at : (t : ℕ) → t ≤ p.last → (k : ℕ) → Seen w t k (w.stage t k)
  seen_at t h =
      from_time (λ v. (k : ℕ) → Seen w v k (w.stage v k)) zero p.last (λ k. subst (Seen w zero k) (sym (p.first_stage k)) tt)
      (λ v low within so_far. turn_seen v within so_far (p.turn v within)) t (omega arith) h

  pub had_swapped : (t : ℕ) → t ≤ p.last → (k : ℕ) (i a f : Ref) → w.stage t k ≡ Checks i a f → HadSwapped w t k i a f
  had_swapped t h k i a f is = subst (Seen w t k) is (seen_at t h k)
