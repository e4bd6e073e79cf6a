-- A READ that is about to decide a node names the one over which that stands, as long as it is pending.
use Rattle.std.proofs.Common.{◌≡◌, ℕ, zero, suc, ◌≤◌, ◌⊎◌, inl, inr, sym, subst, ◌∙◌, arith}
use Rattle.std.proofs.lemmas.Bool.{cases_eq}
use Rattle.proof_garbage.specs.Beneath.slot_arena.specs.declared.refs.Ref.{Ref}
use Rattle.proof_garbage.specs.Beneath.slot_arena.specs.declared.nodes.Prev.TheVariants as prev
use Rattle.proof_garbage.specs.Beneath.machine_model.specs.declared.reading.After.{After}
use Rattle.proof_garbage.specs.Beneath.machine_model.specs.declared.reading.After.TheVariants.{Goes, Gives}
use Rattle.proof_garbage.specs.Beneath.machine_model.specs.declared.reading.ReadLine.{ReadLine}
use Rattle.proof_garbage.specs.Beneath.machine_model.specs.declared.reading.ReadLine.TheVariants as read
use Rattle.proof_garbage.specs.Beneath.proof_commits.specs.Protocol.{Words, Stage, Rests, Reads, Builds, Publishes, Decides, Checks, Leaves, ReadTurn, ReadsMain, FindsDecided, FindsFailed}
use Rattle.proof_garbage.specs.Beneath.proof_commits.specs.Protocol.{FindsPending, DecidesAtOnce, Asks, FindsOffer, Aborts, Commits, Fails, Overtaken}
use Rattle.proof_garbage.specs.Beneath.proof_commits.specs.Protocol.{Restores, FindsAnother, IsAtRest, after_read, after_deciding, MayHave, Moves, Idles, MakesNode, SwapsNode, ReadsOn, DecidesOn}
use Rattle.proof_garbage.specs.Beneath.proof_commits.specs.Protocol.{Turn, Acts, Passes, Protocol}
use Rattle.proof_garbage.specs.Beneath.proof_commits.proofs.Known.Owners.{OnLine, Staged, IsSound}
use Rattle.proof_garbage.specs.Beneath.proof_commits.proofs.Known.Sounds.{sound_at, effect_at}
use Rattle.proof_garbage.specs.Beneath.proof_commits.proofs.Words.Effects.{Effect, Becomes, Same, GoesIn, IsCommitted, IsFailed, becomes}
use Rattle.proof_garbage.specs.Beneath.proof_commits.proofs.Words.Stood.{Stood, none≢pending, pending≢failed, same_pending}

module _ (w : Words) where
  -- while it is pending it is so over this one
  abbrev pub OnlyOver : ℕ → Ref → Ref → Type 0
  OnlyOver t m p = (q : Ref) → w.prev t m ≡ prev.Pending q → q ≡ p

  abbrev pub LineNames : ℕ → ReadLine → Type 0
  LineNames t (read.AskRoot m p) = OnlyOver t m p
  LineNames t (read.Abort m p offer) = OnlyOver t m p
  LineNames t (read.Decide m p told) = OnlyOver t m p
  LineNames t l = Unit {0}

  abbrev pub StageNames : ℕ → Stage → Type 0
  StageNames t (Reads i l) = LineNames t l
  StageNames t (Decides i a f l) = LineNames t l
  StageNames t s = Unit {0}

  -- ---- another actor's turn

  stays_over : (t : ℕ) (e : Effect w t) (i m p : Ref) → Stood w t i m → OnlyOver t m p → OnlyOver (suc t) m p
  stays_over t e i m p stood only q pending = by (becomes w t e m)
    where
      by : Becomes w t m → q ≡ p
      by (Same keeps) = only q (sym keeps ∙ pending)
      by (GoesIn j a l swaps private decided) = absurd (private.apart i stood)
      by (IsCommitted r commits) = absurd (none≢pending commits.prev.here pending)
      by (IsFailed r fails) = absurd (pending≢failed pending fails.prev.here)

  line_stays : (t : ℕ) (e : Effect w t) (i : Ref) (l : ReadLine) → OnLine w t i l → LineNames t l → LineNames (suc t) l
  line_stays t e i (read.AskRoot m p) on h = stays_over t e i m p on h
  line_stays t e i (read.Abort m p offer) on h = stays_over t e i m p on h
  line_stays t e i (read.Decide m p told) on h = stays_over t e i m p on h
  line_stays t e i read.Main on h = tt
  line_stays t e i (read.Prev m) on h = tt
  line_stays t e i (read.Restore m p) on h = tt

  stage_stays : (t k : ℕ) (e : Effect w t) (s : Stage) → Staged w t k s → StageNames t s → StageNames (suc t) s
  stage_stays t k e (Reads i l) st h = line_stays t e i l st h
  stage_stays t k e (Decides i a f l) st h = line_stays t e i l st.0 h
  stage_stays t k e Rests st h = tt
  stage_stays t k e (Builds f) st h = tt
  stage_stays t k e (Publishes i a f) st h = tt
  stage_stays t k e (Checks i a f) st h = tt

  -- ---- its own

  abbrev OutNames : ℕ → After ReadLine Ref → Type 0
  OutNames t (Goes l) = LineNames t l
  OutNames t (Gives m) = Unit {0}

  found_over : (t : ℕ) (m p : Ref) → Leaves w t → w.prev t m ≡ prev.Pending p → OnlyOver (suc t) m p
  found_over t m p leaves pending q later = same_pending later (leaves.prev m ∙ pending)

  kept_over : (t : ℕ) (m p : Ref) → Leaves w t → OnlyOver t m p → OnlyOver (suc t) m p
  kept_over t m p leaves only q later = only q (sym (leaves.prev m) ∙ later)

  overtaken_names : (t : ℕ) (m : Ref) (next : ReadLine) → (next ≡ read.Prev m) ⊎ (next ≡ read.Main) → LineNames (suc t) next
  overtaken_names t m next (inl e) = subst (LineNames (suc t)) (sym e) tt
  overtaken_names t m next (inr e) = subst (LineNames (suc t)) (sym e) tt

  turn_names : (t : ℕ) (i : Ref) (l : ReadLine) (out : After ReadLine Ref) → ReadTurn w t i l out → LineNames t l → OutNames (suc t) out
  turn_names t i l out (ReadsMain e k) h = tt
  turn_names t i l out (FindsDecided e n) h = tt
  turn_names t i l out (FindsFailed e n) h = tt
  turn_names t i l out (FindsPending {m} {p} e n) h = found_over t m p e n
  turn_names t i l out (DecidesAtOnce {m} {p} e n) h = found_over t m p e n
  turn_names t i l out (Asks {m} {p} g e c) h = kept_over t m p e h
  turn_names t i l out (FindsOffer {m} {p} offer e) h = kept_over t m p e h
  turn_names t i l out (Aborts {m} {p} e) h = kept_over t m p e h
  turn_names t i l out (Commits told e) h = tt
  turn_names t i l out (Fails e) h = tt
  turn_names t i l out (Overtaken {m} {p} {told} next e n which) h = overtaken_names t m next which
  turn_names t i l out (Restores e) h = tt
  turn_names t i l out (FindsAnother e) h = tt

  rest_names : (t : ℕ) (s : Stage) → IsAtRest s → StageNames t s
  rest_names t Rests r = tt
  rest_names t (Reads i read.Main) r = tt
  rest_names t (Reads i l) r = absurd r
  rest_names t s r = absurd r

  have_names : (t k : ℕ) (n : Ref) (s : Stage) → MayHave w t k n s → StageNames (suc t) s
  have_names t k n (Builds f) h = tt
  have_names t k n (Publishes i a f) h = tt
  have_names t k n s h = rest_names (suc t) s h

  after_names : (t : ℕ) (i : Ref) (out : After ReadLine Ref) → OutNames t out → StageNames t (after_read i out)
  after_names t i (Goes l) h = h
  after_names t i (Gives m) h = tt

  after_deciding_names : (t : ℕ) (i a f : Ref) (out : After ReadLine Ref) → OutNames t out → StageNames t (after_deciding i a f out)
  after_deciding_names t i a f (Goes l) h = h
  after_deciding_names t i a f (Gives m) h = tt

  own_names : (t k : ℕ) (s after : Stage) → Moves w t k s after → StageNames t s → StageNames (suc t) after
  own_names t k s after (Idles e free rests) h = rest_names (suc t) after rests
  own_names t k s after (MakesNode n e free name have) h = have_names t k n after have
  own_names t k s after (SwapsNode l e) h = tt
  own_names t k s after (ReadsOn {i} {l} {out} r) h = after_names (suc t) i out (turn_names t i l out r h)
  own_names t k s after (DecidesOn {i} {a} {f} {l} {out} r) h = after_deciding_names (suc t) i a f out (turn_names t i l out r h)

  -- ---- each turn

  names_after : (t : ℕ) → IsSound w t → Turn w t → ((k : ℕ) → StageNames t (w.stage t k)) → (k : ℕ) → StageNames (suc t) (w.stage (suc t) k)
  names_after t sound (Passes e same) h k = subst (StageNames (suc t)) (sym (same k).stage) (stage_stays t k (effect_at w t sound (Passes e same)) (w.stage t k) (sound.staged k) (h k))
  names_after t sound (Acts j moves counts same) h k = elim (cases_eq k j) [
    | inl own ↦ subst (λ n. StageNames (suc t) (w.stage (suc t) n)) (sym own) (own_names t j (w.stage t j) (w.stage (suc t) j) moves (h j))
    | inr apart ↦ subst (StageNames (suc t)) (sym (same k apart).stage) (stage_stays t k (effect_at w t sound (Acts j moves counts same)) (w.stage t k) (sound.staged k) (h k))
  ]

pub names_at : (p : Protocol) (t : ℕ) → t ≤ p.last → (k : ℕ) → StageNames p.words t (p.words.stage t k)
names_at p zero h k = subst (StageNames p.words zero) (sym (p.first_stage k)) tt
names_at p (suc t) h k = names_after p.words t (sound_at p t (omega arith)) (p.turn t h) (names_at p t (omega arith)) k
