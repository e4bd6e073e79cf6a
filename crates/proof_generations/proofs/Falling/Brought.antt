-- What a step brings into a word: the main node of an indirection that it makes, or what an operation swaps in there.
use Rattle.std.proofs.Common.{◌≡◌, ℕ, suc, ◌<◌, ◌⊎◌, true, false, inl, inr, refl, sym, ap, ◌∙◌, subst, arith}
use Rattle.proof_generations.specs.Vocabulary.{Ref, Words, Stage, Publishes, Idles, SwapsNode, DecidesOn, Protocol}
use Rattle.proof_commits.specs.Protocol.{Leaves, Moves, MakesNode, ReadsOn, Turn, Acts, Passes}
use Rattle.proof_commits.proofs.Words.Stood.{Stood}
use Rattle.proof_commits.proofs.Words.Effects.{Nothing, Brings, comes}
use Rattle.proof_commits.proofs.Known.Owners.{Staged, IsSound, effect_of, read_brings}
use Rattle.proof_commits.proofs.Known.Sounds.{sound_at}

pub data Brought (w : Words) (t : ℕ) (i m : Ref) : Type 0 where
  makes : w.link t i ≡ false → w.link (suc t) i ≡ true → w.main (suc t) i ≡ m → Brought w t i m
  swaps : (k : ℕ) (a : Ref) → w.stage t k ≡ Publishes i a m → Brought w t i m

brought_by : (w : Words) (t k : ℕ) (h : IsSound w t) (s after : Stage) → w.stage t k ≡ s → (st : Staged w t k s) (m : Moves w t k s after) (i x : Ref) →
    Brings w t (effect_of w t k h s after st m) i x → Brought w t i x
brought_by w t k h s after is st (Idles e f r) i x b = absurd b
brought_by w t k h s after is st (MakesNode n e f name have) i x b =
    makes (subst (λ q. w.link t q ≡ false) b.0 e.was_no_link) (subst (λ q. w.link (suc t) q ≡ true) b.0 b.1) (ap (w.main (suc t)) (sym b.0) ∙ b.2)
brought_by w t k h s after is st (SwapsNode {i = j} {a} {f} l e) i x b = swaps k a (is ∙ ap (λ q. Publishes q a f) b.0 ∙ ap (λ q. Publishes i a q) b.1)
brought_by w t k h s after is st (ReadsOn {i = j} {l} {out} r) i x b = absurd (read_brings w t h.words j l out st r i x b)
brought_by w t k h s after is st (DecidesOn {i = j} {a} {f} {l} {out} r) i x b = absurd (read_brings w t h.words j l out st.0 r i x b)

or_brought : (w : Words) (t k : ℕ) (h : IsSound w t) (moves : Moves w t k (w.stage t k) (w.stage (suc t) k)) (i m : Ref) →
    Stood w t i m ⊎ Brings w t (effect_of w t k h (w.stage t k) (w.stage (suc t) k) (h.staged k) moves) i m → Stood w t i m ⊎ Brought w t i m
or_brought w t k h moves i m (inl stood) = inl stood
or_brought w t k h moves i m (inr b) = inr (brought_by w t k h (w.stage t k) (w.stage (suc t) k) refl (h.staged k) moves i m b)

none_brought : (w : Words) (t : ℕ) (e : Leaves w t) (i m : Ref) → Stood w t i m ⊎ Brings w t (Nothing e) i m → Stood w t i m ⊎ Brought w t i m
none_brought w t e i m (inl stood) = inl stood
none_brought w t e i m (inr b) = absurd b

by_turn : (w : Words) (t : ℕ) (h : IsSound w t) (turn : Turn w t) (i m : Ref) → Stood w (suc t) i m → Stood w t i m ⊎ Brought w t i m
by_turn w t h (Acts k moves counts same) i m s =
    or_brought w t k h moves i m (comes w t h.words (effect_of w t k h (w.stage t k) (w.stage (suc t) k) (h.staged k) moves) i m s)
by_turn w t h (Passes e same) i m s = none_brought w t e i m (comes w t h.words (Nothing e) i m s)

-- what stood in a word by the next step stood there before, or is brought there
pub comes_in : (p : Protocol) (t : ℕ) → t < p.last → (i m : Ref) → Stood p.words (suc t) i m → Stood p.words t i m ⊎ Brought p.words t i m
comes_in p t lt i m s = by_turn p.words t (sound_at p t (omega arith)) (p.turn t lt) i m s
