-- Who commits has a licence; so what commits in a closed generation stood in its word before the closing.
use Rattle.std.proofs.Common.{◌≡◌, ℕ, zero, suc, ◌<◌, ◌≤◌, ◌⊎◌, true, Option, Some, None, inl, inr, refl, sym, ◌∙◌, ap, subst, arith}
use Rattle.std.proofs.lemmas.Bool.{cases_eq}
use Rattle.proof_commits.specs.Vocabulary.{Ref, After, Gives, ReadLine}
use Rattle.proof_commits.specs.Beneath.slot_arena.specs.declared.nodes.Prev.TheVariants as over
use Rattle.proof_commits.specs.Beneath.machine_model.specs.declared.reading.After.TheVariants.{Goes}
use Rattle.proof_commits.specs.Beneath.machine_model.specs.declared.reading.ReadLine.TheVariants as read
use Rattle.proof_commits.specs.Protocol.{Words, Stage, Rests, Reads, Builds, Publishes, Decides, Checks, Leaves, SwapsIn, CommitsNode, ReadTurn, ReadsMain, FindsDecided}
use Rattle.proof_commits.specs.Protocol.{FindsFailed, FindsPending, DecidesAtOnce, Asks, FindsOffer, Aborts, Commits, Fails, Overtaken, Restores, FindsAnother, IsAtRest}
use Rattle.proof_commits.specs.Protocol.{after_read, after_deciding, MayHave, Moves, Idles, MakesNode, SwapsNode, ReadsOn, DecidesOn, Turn, Acts, Passes, Protocol}
use Rattle.proof_commits.proofs.Words.Stood.{Stood, none≢pending}
use Rattle.proof_commits.proofs.Known.Owners.{OnLine, Staged, IsSound}
use Rattle.proof_commits.proofs.Known.Sounds.{sound_at}
use Rattle.proof_commits.proofs.Course.Finals.{from_time, failed_none}

-- ---- what a licence rests on

-- the node stood in the word before any closing of this generation
pub record StoodEarly (w : Words) (t : ℕ) (i m : Ref) (g : ℕ) : Type 0 where
  pub at : ℕ
  pub past : at < t
  pub link : w.link at i ≡ true
  pub is : w.main at i ≡ m
  pub early : (c : ℕ) → w.closing g ≡ Some c → at ≤ c

abbrev ToldSo : Words → ℕ → Ref → Ref → Option ℕ → Type 0
ToldSo w t i m None = Unit {0}
ToldSo w t i m (Some g) = StoodEarly w t i m g

-- what is known where a READ was told the root's generation
abbrev ToldOn : Words → ℕ → Ref → ReadLine → Type 0
ToldOn w t i (read.Decide m p told) = ToldSo w t i m told
ToldOn w t i l = Unit {0}

abbrev ToldIn : Words → ℕ → Stage → Type 0
ToldIn w t (Reads i l) = ToldOn w t i l
ToldIn w t (Decides i a f l) = ToldOn w t i l
ToldIn w t s = Unit {0}

early_later : {w : Words} {t : ℕ} {i m : Ref} {g : ℕ} → StoodEarly w t i m g → StoodEarly w (suc t) i m g
early_later s = record { at = s.at; past = omega (arith, s.past); link = s.link; is = s.is; early = s.early }

told_so_later : (w : Words) (t : ℕ) (i m : Ref) (told : Option ℕ) → ToldSo w t i m told → ToldSo w (suc t) i m told
told_so_later w t i m None s = tt
told_so_later w t i m (Some g) s = early_later s

told_on_later : (w : Words) (t : ℕ) (i : Ref) (l : ReadLine) → ToldOn w t i l → ToldOn w (suc t) i l
told_on_later w t i (read.Decide m p told) s = told_so_later w t i m told s
told_on_later w t i read.Main s = tt
told_on_later w t i l s = tt

told_in_later : (w : Words) (t : ℕ) (s : Stage) → ToldIn w t s → ToldIn w (suc t) s
told_in_later w t (Reads i l) s = told_on_later w t i l s
told_in_later w t (Decides i a f l) s = told_on_later w t i l s
told_in_later w t Rests s = tt
told_in_later w t s st = tt

abbrev ToldAfter : Words → ℕ → Ref → After ReadLine Ref → Type 0
ToldAfter w t i (Goes l) = ToldOn w t i l
ToldAfter w t i (Gives m) = Unit {0}

overtaken_told : (w : Words) (t : ℕ) (i m : Ref) (next : ReadLine) → (next ≡ read.Prev m) ⊎ (next ≡ read.Main) → ToldOn w t i next
overtaken_told w t i m next (inl e) = subst (λ l. ToldOn w t i l) (sym e) tt
overtaken_told w t i m next (inr e) = subst (λ l. ToldOn w t i l) (sym e) tt

-- who asks the root is told its generation before it is closed
asked_early : (w : Words) (t : ℕ) (i m : Ref) (g : ℕ) → Stood w t i m → ((c : ℕ) → w.closing g ≡ Some c → t ≤ c) → StoodEarly w (suc t) i m g
asked_early w t i m g s early = record { at = s.at; past = omega (arith, s.past); link = s.link; is = s.is; early = λ c e. omega (arith, early c e, s.past) }

told_next : (w : Words) (t : ℕ) (i : Ref) (l : ReadLine) (out : After ReadLine Ref) → OnLine w t i l → ReadTurn w t i l out → ToldAfter w (suc t) i out
told_next w t i l out s (ReadsMain e k) = tt
told_next w t i l out s (FindsDecided e n) = tt
told_next w t i l out s (FindsFailed e n) = tt
told_next w t i l out s (FindsPending e n) = tt
told_next w t i l out s (DecidesAtOnce e n) = tt
told_next w t i l out s (Asks {m} {p} g e early) = asked_early w t i m g s early
told_next w t i l out s (FindsOffer offer e) = tt
told_next w t i l out s (Aborts e) = tt
told_next w t i l out s (Commits licence e) = tt
told_next w t i l out s (Fails e) = tt
told_next w t i l out s (Overtaken {m} {p} {told} next e n which) = overtaken_told w (suc t) i m next which
told_next w t i l out s (Restores e) = tt
told_next w t i l out s (FindsAnother e) = tt

rest_told : (w : Words) (t : ℕ) (s : Stage) → IsAtRest s → ToldIn w t s
rest_told w t Rests r = tt
rest_told w t (Reads i read.Main) r = tt
rest_told w t (Reads i l) r = absurd r
rest_told w t s r = absurd r

have_told : (w : Words) (t k : ℕ) (n : Ref) (s : Stage) → MayHave w t k n s → ToldIn w (suc t) s
have_told w t k n (Builds f) have = tt
have_told w t k n (Publishes i a f) have = tt
have_told w t k n Rests have = tt
have_told w t k n (Reads i l) have = rest_told w (suc t) (Reads i l) have
have_told w t k n (Decides i a f l) have = absurd have
have_told w t k n (Checks i a f) have = absurd have

read_told : (w : Words) (t : ℕ) (i : Ref) (out : After ReadLine Ref) → ToldAfter w t i out → ToldIn w t (after_read i out)
read_told w t i (Goes l) s = s
read_told w t i (Gives m) s = tt

deciding_told : (w : Words) (t : ℕ) (i a f : Ref) (out : After ReadLine Ref) → ToldAfter w t i out → ToldIn w t (after_deciding i a f out)
deciding_told w t i a f (Goes l) s = s
deciding_told w t i a f (Gives m) s = tt

told_moves : (w : Words) (t k : ℕ) (s after : Stage) → Staged w t k s → Moves w t k s after → ToldIn w (suc t) after
told_moves w t k s after st (Idles e x r) = rest_told w (suc t) after r
told_moves w t k s after st (MakesNode n e x name have) = have_told w t k n after have
told_moves w t k s after st (SwapsNode l e) = tt
told_moves w t k s after st (ReadsOn {i} {l} {out} r) = read_told w (suc t) i out (told_next w t i l out st r)
told_moves w t k s after st (DecidesOn {i} {a} {f} {l} {out} r) = deciding_told w (suc t) i a f out (told_next w t i l out st.0 r)

told_others : (w : Words) (t k : ℕ) → ((j : ℕ) → ToldIn w t (w.stage t j)) → ((j : ℕ) → (j ≡ k → ⊥) → w.stage (suc t) j ≡ w.stage t j) → ToldIn w (suc t) (w.stage (suc t) k) →
    (j : ℕ) → (j ≡ k) ⊎ (j ≡ k → ⊥) → ToldIn w (suc t) (w.stage (suc t) j)
told_others w t k so_far same own j (inl e) = subst (λ q. ToldIn w (suc t) (w.stage (suc t) q)) (sym e) own
told_others w t k so_far same own j (inr other) = subst (λ s. ToldIn w (suc t) s) (sym (same j other)) (told_in_later w t (w.stage t j) (so_far j))

told_turn : (w : Words) (t : ℕ) → IsSound w t → ((j : ℕ) → ToldIn w t (w.stage t j)) → Turn w t → (j : ℕ) → ToldIn w (suc t) (w.stage (suc t) j)
told_turn w t h so_far (Passes e same) j = subst (λ s. ToldIn w (suc t) s) (sym (same j).stage) (told_in_later w t (w.stage t j) (so_far j))
told_turn w t h so_far (Acts k m counts same) j =
    told_others w t k so_far (λ x other. (same x other).stage) (told_moves w t k (w.stage t k) (w.stage (suc t) k) (h.staged k) m) j (cases_eq j k)

pub told_at : (p : Protocol) (t : ℕ) → t ≤ p.last → (j : ℕ) → ToldIn p.words t (p.words.stage t j)
told_at p t h =
    from_time (λ v. (j : ℕ) → ToldIn p.words v (p.words.stage v j)) zero p.last
    (λ j. subst (λ s. ToldIn p.words zero s) (sym (p.first_stage j)) tt)
    (λ v b within so_far j. told_turn p.words v (sound_at p v (omega arith)) so_far (p.turn v within) j) t (omega arith) h

-- ---- the licence of a commit

-- the READ in which an actor is, its own or a SWAP's
abbrev pub IsIn : Stage → Ref → ReadLine → Type 0
IsIn (Reads i l) j line = (i ≡ j) × (l ≡ line)
IsIn (Decides i a f l) j line = (i ≡ j) × (l ≡ line)
IsIn s j line = ⊥

-- a step that commits the node is that of an actor that was told the indirection's generation
pub record Licence (w : Words) (t : ℕ) (m p : Ref) : Type 0 where
  pub actor : ℕ
  pub link : Ref
  pub reads : IsIn (w.stage t actor) link (read.Decide m p (Some (w.generation link)))
  pub stood : Stood w t link m

record ReadLicence (w : Words) (t : ℕ) (i m p : Ref) (l : ReadLine) : Type 0 where
  is : l ≡ read.Decide m p (Some (w.generation i))
  stood : Stood w t i m

-- a step at which nothing is written commits nothing
left_alone : (w : Words) (t : ℕ) → Leaves w t → (m p : Ref) → CommitsNode w t m p → ⊥
left_alone w t e m p c = none≢pending (sym (e.prev m) ∙ c.prev.here) c.was

read_licensed : (w : Words) (t : ℕ) (i : Ref) (x q : Ref) (told : Option ℕ) → told ≡ Some (w.generation i) → CommitsNode w t x q → Stood w t i x → (m p : Ref) →
    CommitsNode w t m p → (m ≡ x) ⊎ (m ≡ x → ⊥) → ReadLicence w t i m p (read.Decide x q told)
read_licensed w t i x q told licence e s m p c (inl same) =
    let is_over : over.Pending q ≡ over.Pending p = sym e.was ∙ ap (w.prev t) (sym same) ∙ c.was in
    let is_p : q ≡ p = cc in
    record {
      is = ap (λ y. read.Decide y q told) (sym same) ∙ ap (λ y. read.Decide m y told) is_p ∙ ap (read.Decide m p) licence;
      stood = subst (λ y. Stood w t i y) (sym same) s;
    }
read_licensed w t i x q told licence e s m p c (inr apart) = absurd (none≢pending (sym (e.prev.elsewhere m apart) ∙ c.prev.here) c.was)

swap_alone : (w : Words) (t : ℕ) (i a f : Ref) → SwapsIn w t i a f → (m p : Ref) → CommitsNode w t m p → (m ≡ f) ⊎ (m ≡ f → ⊥) → ⊥
swap_alone w t i a f e m p c (inl same) = none≢pending c.prev.here (ap (w.prev (suc t)) same ∙ e.prev.here)
swap_alone w t i a f e m p c (inr apart) = none≢pending (sym (e.prev.elsewhere m apart) ∙ c.prev.here) c.was

licence_of_read : (w : Words) (t : ℕ) (i : Ref) (l : ReadLine) (out : After ReadLine Ref) → OnLine w t i l → ReadTurn w t i l out → (m p : Ref) → CommitsNode w t m p →
    ReadLicence w t i m p l
licence_of_read w t i l out s (ReadsMain e k) m p c = absurd (left_alone w t e m p c)
licence_of_read w t i l out s (FindsDecided e n) m p c = absurd (left_alone w t e m p c)
licence_of_read w t i l out s (FindsFailed e n) m p c = absurd (left_alone w t e m p c)
licence_of_read w t i l out s (FindsPending e n) m p c = absurd (left_alone w t e m p c)
licence_of_read w t i l out s (DecidesAtOnce e n) m p c = absurd (left_alone w t e m p c)
licence_of_read w t i l out s (Asks g e early) m p c = absurd (left_alone w t e m p c)
licence_of_read w t i l out s (FindsOffer offer e) m p c = absurd (left_alone w t e m p c)
licence_of_read w t i l out s (Aborts e) m p c = absurd (left_alone w t e m p c)
licence_of_read w t i l out s (Commits {m = x} {p = q} {told} licence e) m p c = read_licensed w t i x q told licence e s m p c (cases_eq m x)
licence_of_read w t i l out s (Fails {m = x} {p = q} e) m p c = absurd (failed_none w t x q e m p c (cases_eq m x))
licence_of_read w t i l out s (Overtaken next e n which) m p c = absurd (left_alone w t e m p c)
licence_of_read w t i l out s (Restores e) m p c = absurd (none≢pending (sym (e.prev m) ∙ c.prev.here) c.was)
licence_of_read w t i l out s (FindsAnother e) m p c = absurd (left_alone w t e m p c)

record StageLicence (w : Words) (t : ℕ) (s : Stage) (m p : Ref) : Type 0 where
  link : Ref
  reads : IsIn s link (read.Decide m p (Some (w.generation link)))
  stood : Stood w t link m

licence_of_moves : (w : Words) (t k : ℕ) (s after : Stage) → Staged w t k s → Moves w t k s after → (m p : Ref) → CommitsNode w t m p → StageLicence w t s m p
licence_of_moves w t k s after st (Idles e x r) m p c = absurd (left_alone w t e m p c)
licence_of_moves w t k s after st (MakesNode n e x name have) m p c = absurd (none≢pending (sym (e.prev m) ∙ c.prev.here) c.was)
licence_of_moves w t k s after st (SwapsNode {i} {a} {f} l e) m p c = absurd (swap_alone w t i a f e m p c (cases_eq m f))
licence_of_moves w t k s after st (ReadsOn {i} {l} {out} r) m p c =
    let licence = licence_of_read w t i l out st r m p c in
    record { link = i; reads = (refl, licence.is); stood = licence.stood }
licence_of_moves w t k s after st (DecidesOn {i} {a} {f} {l} {out} r) m p c =
    let licence = licence_of_read w t i l out st.0 r m p c in
    record { link = i; reads = (refl, licence.is); stood = licence.stood }

licence_of_turn : (w : Words) (t : ℕ) → IsSound w t → Turn w t → (m p : Ref) → CommitsNode w t m p → Licence w t m p
licence_of_turn w t h (Passes e same) m p c = absurd (left_alone w t e m p c)
licence_of_turn w t h (Acts k moves counts same) m p c =
    let licence = licence_of_moves w t k (w.stage t k) (w.stage (suc t) k) (h.staged k) moves m p c in
    record { actor = k; link = licence.link; reads = licence.reads; stood = licence.stood }

-- who commits has a licence
pub licence : (p : Protocol) (t : ℕ) → t < p.last → (m q : Ref) → CommitsNode p.words t m q → Licence p.words t m q
licence p t h m q c = licence_of_turn p.words t (sound_at p t (omega arith)) (p.turn t h) m q c

-- ---- the closing

told_of_line : (w : Words) (t : ℕ) (i j : Ref) (l : ReadLine) (m p : Ref) (g : ℕ) → i ≡ j → l ≡ read.Decide m p (Some g) → ToldOn w t i l → StoodEarly w t j m g
told_of_line w t i j l m p g same is told = subst (λ x. StoodEarly w t x m g) same (subst (λ x. ToldOn w t i x) is told)

told_of : (w : Words) (t : ℕ) (s : Stage) (j m p : Ref) (g : ℕ) → IsIn s j (read.Decide m p (Some g)) → ToldIn w t s → StoodEarly w t j m g
told_of w t (Reads i l) j m p g is told = told_of_line w t i j l m p g is.0 is.1 told
told_of w t (Decides i a f l) j m p g is told = told_of_line w t i j l m p g is.0 is.1 told
told_of w t Rests j m p g is told = absurd is
told_of w t s j m p g is told = absurd is

-- a node that commits stood in its word before any closing of the indirection's generation
pub commits_early : (p : Protocol) (t : ℕ) → t < p.last → (i m q : Ref) → CommitsNode p.words t m q → Stood p.words t i m →
    StoodEarly p.words t i m (p.words.generation i)
commits_early p t h i m q c s =
    let licensed = licence p t h m q c in
    let same : licensed.link ≡ i = (sound_at p t (omega arith)).words.one_word m licensed.link i (λ none. none≢pending none c.was) licensed.stood s in
    subst (λ j. StoodEarly p.words t j m (p.words.generation j)) same
    (told_of p.words t (p.words.stage t licensed.actor) licensed.link m q (p.words.generation licensed.link) licensed.reads
    (told_at p t (omega arith) licensed.actor))
