-- How a node comes to stand in a word: it was given, or it is one that was made and stood nowhere.
use Rattle.std.proofs.Common.{◌≡◌, ℕ, suc, ◌<◌, ◌⊎◌, true, inl, inr, sym, ◌∙◌, ap, subst, arith}
use Rattle.std.proofs.lemmas.Bool.{cases_eq}
use Rattle.proof_shape.specs.Vocabulary.{Ref, After, ReadLine, Words, Stage, Builds, ReadTurn, Given, MayName, Idles, SwapsNode, DecidesOn, Protocol}
use Rattle.proof_shape.specs.Beneath.proof_commits.specs.Protocol.{Moves, MakesNode, ReadsOn, Turn, Acts, Passes}
use Rattle.proof_shape.specs.Beneath.proof_commits.proofs.Words.Stood.{Stood, Private, AreSound, stood_cases, stands_now}
use Rattle.proof_shape.specs.Beneath.proof_commits.proofs.Words.Effects.{Brings, comes}
use Rattle.proof_shape.specs.Beneath.proof_commits.proofs.Known.Owners.{OnLine, Staged, IsSound, read_effect, read_brings}
use Rattle.proof_shape.specs.Beneath.proof_commits.proofs.Known.Sounds.{sound_at}

-- a node stood before, or it was given, or it stood nowhere
pub data HowStands (w : Words) (t : ℕ) (i n : Ref) : Type 0 where
  stood : Stood w t i n → HowStands w t i n
  given : (k : ℕ) (q : Ref) → Given w t k q n → HowStands w t i n
  private : Private w t n → HowStands w t i n

by_read : (w : Words) (t : ℕ) (h : AreSound w t) (j : Ref) (l : ReadLine) (out : After ReadLine Ref) (s : OnLine w t j l) (r : ReadTurn w t j l out) (i n : Ref) →
    Stood w (suc t) i n → HowStands w t i n
by_read w t h j l out s r i n now = by_cases (comes w t h (read_effect w t h j l out s r) i n now)
  where
    by_cases : Stood w t i n ⊎ Brings w t (read_effect w t h j l out s r) i n → HowStands w t i n
    by_cases (inl before) = stood before
    by_cases (inr brings) = absurd (read_brings w t h j l out s r i n brings)

by_moves : (w : Words) (t k : ℕ) → IsSound w t → (s after : Stage) → Staged w t k s → Moves w t k s after → (i n : Ref) → Stood w (suc t) i n → HowStands w t i n
by_moves w t k h s after st (Idles e free rest) i n now = by_cases (stood_cases w t i n now)
  where
    by_cases : Stood w t i n ⊎ ((w.link (suc t) i ≡ true) × (w.main (suc t) i ≡ n)) → HowStands w t i n
    by_cases (inl before) = stood before
    by_cases (inr (l, m)) = stood (stands_now (sym (e.makes.link i) ∙ l) (sym (e.main i) ∙ m))
by_moves w t k h s after st (MakesNode made e free name have) i n now = by_cases (stood_cases w t i n now)
  where
    by_name : (m : Ref) → m ≡ n → MayName w t k s m → HowStands w t i n
    by_name m same (inl (q, g)) = given k q (subst (λ x. Given w t k q x) same g)
    by_name m same (inr holds) = private (subst (λ x. Staged w t k x) (holds ∙ ap (λ x. Builds x) same) st)

    by_cases : Stood w t i n ⊎ ((w.link (suc t) i ≡ true) × (w.main (suc t) i ≡ n)) → HowStands w t i n
    by_cases (inl before) = stood before
    by_cases (inr (l, m)) = by_ref (cases_eq i made)
      where
        by_ref : (i ≡ made) ⊎ (i ≡ made → ⊥) → HowStands w t i n
        by_ref (inl same) = by_name (w.main (suc t) made) (ap (w.main (suc t)) (sym same) ∙ m) (name (ap (w.link (suc t)) (sym same) ∙ l))
        by_ref (inr apart) = stood (stands_now (sym (e.link i apart) ∙ l) (sym (e.main i apart) ∙ m))
by_moves w t k h s after st (SwapsNode {i = j} {a} {f} link e) i n now = by_cases (stood_cases w t i n now)
  where
    by_cases : Stood w t i n ⊎ ((w.link (suc t) i ≡ true) × (w.main (suc t) i ≡ n)) → HowStands w t i n
    by_cases (inl before) = stood before
    by_cases (inr (l, m)) = by_ref (cases_eq i j)
      where
        by_ref : (i ≡ j) ⊎ (i ≡ j → ⊥) → HowStands w t i n
        by_ref (inl same) = private (subst (λ x. Private w t x) (sym e.main.here ∙ ap (w.main (suc t)) (sym same) ∙ m) st.0)
        by_ref (inr apart) = stood (stands_now (sym (e.makes.link i) ∙ l) (sym (e.main.elsewhere i apart) ∙ m))
by_moves w t k h s after st (ReadsOn {i = j} {l} {out} r) i n now = by_read w t h.words j l out st r i n now
by_moves w t k h s after st (DecidesOn {i = j} {a} {f} {l} {out} r) i n now = by_read w t h.words j l out st.0 r i n now

pub how_stands : (p : Protocol) (t : ℕ) → t < p.last → (i n : Ref) → Stood p.words (suc t) i n → HowStands p.words t i n
how_stands p t h i n now = by_turn (p.turn t h)
  where
    by_turn : Turn p.words t → HowStands p.words t i n
    by_turn (Acts k moves counts same) = by_moves p.words t k (sound_at p t (omega arith)) (p.words.stage t k) (p.words.stage (suc t) k) ((sound_at p t (omega arith)).staged k) moves i n now
    by_turn (Passes e same) = by_cases (stood_cases p.words t i n now)
      where
        by_cases : Stood p.words t i n ⊎ ((p.words.link (suc t) i ≡ true) × (p.words.main (suc t) i ≡ n)) → HowStands p.words t i n
        by_cases (inl before) = stood before
        by_cases (inr (l, m)) = stood (stands_now (sym (e.makes.link i) ∙ l) (sym (e.main i) ∙ m))
