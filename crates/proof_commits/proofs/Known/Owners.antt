-- What is known of what actors are about, at each time: together with what is known of words.
use Rattle.std.proofs.Common.{◌≡◌, ℕ, suc, ◌<◌, ◌⊎◌, true, inl, inr, refl, sym, ◌∙◌, ap, subst, arith}
use Rattle.std.proofs.lemmas.Bool.{cases_eq}
use Rattle.proof_commits.specs.Vocabulary.{Ref, After, Gives, ReadLine}
use Rattle.proof_commits.specs.Beneath.slot_arena.specs.declared.nodes.Prev.TheVariants as over
use Rattle.proof_commits.specs.Beneath.machine_model.specs.declared.reading.After.TheVariants.{Goes}
use Rattle.proof_commits.specs.Beneath.machine_model.specs.declared.reading.ReadLine.TheVariants as read
use Rattle.proof_commits.specs.Protocol.{Words, Stage, Rests, Reads, Builds, Publishes, Decides, Checks, Makes, SwapsIn, CommitsNode, FailsNode, ReadTurn, ReadsMain, FindsDecided}
use Rattle.proof_commits.specs.Protocol.{FindsFailed, FindsPending, DecidesAtOnce, Asks, FindsOffer, Aborts, Commits, Fails, Overtaken, Restores, FindsAnother, Given, IsAtRest}
use Rattle.proof_commits.specs.Protocol.{after_read, after_deciding, MayName, MayHave, Moves, Idles, MakesNode, SwapsNode, ReadsOn, DecidesOn}
use Rattle.proof_commits.proofs.Words.Stood.{Stood, Decided, Private, AreSound, stood_later, stands_now, none≢pending, over_failed, not_both}
use Rattle.proof_commits.proofs.Words.Effects.{IsSettled, Effect, Nothing, Made, SwappedIn, PutBack, Committed, Failed, made_later, Brings, comes, stood_below, none_later, failed_later}
use Rattle.proof_commits.specs.Beneath.machine_model.proofs.Basics.{before_or_at}

-- ---- what is known of a stage

-- of a READ's line: it names a node that stood in that word
abbrev pub OnLine : Words → ℕ → Ref → ReadLine → Type 0
OnLine w t i read.Main = Unit {0}
OnLine w t i (read.Prev m) = Stood w t i m
OnLine w t i (read.AskRoot m p) = Stood w t i m
OnLine w t i (read.Abort m p offer) = Stood w t i m
OnLine w t i (read.Decide m p told) = Stood w t i m
OnLine w t i (read.Restore m p) = Stood w t i m × (w.prev t m ≡ over.Failed p)

abbrev pub Staged : Words → ℕ → ℕ → Stage → Type 0
Staged w t k Rests = Unit {0}
Staged w t k (Reads i l) = OnLine w t i l
Staged w t k (Builds f) = Private w t f
Staged w t k (Publishes i a f) = Private w t f × Given w t k i a
Staged w t k (Decides i a f l) = OnLine w t i l × Stood w t i f × Decided w t i a
Staged w t k (Checks i a f) = Stood w t i f × Decided w t i a

-- the fresh node of a stage
abbrev pub HasFresh : Stage → Ref → Type 0
HasFresh Rests q = ⊥
HasFresh (Reads i l) q = ⊥
HasFresh (Builds f) q = f ≡ q
HasFresh (Publishes i a f) q = f ≡ q
HasFresh (Decides i a f l) q = f ≡ q
HasFresh (Checks i a f) q = f ≡ q

-- the line goes on to decide this node
abbrev pub IsDeciding : ReadLine → Ref → Ref → Type 0
IsDeciding read.Main m p = ⊥
IsDeciding (read.Prev x) m p = x ≡ m
IsDeciding (read.AskRoot x q) m p = (x ≡ m) × (q ≡ p)
IsDeciding (read.Abort x q offer) m p = (x ≡ m) × (q ≡ p)
IsDeciding (read.Decide x q told) m p = (x ≡ m) × (q ≡ p)
IsDeciding (read.Restore x q) m p = ⊥

-- the actor that swapped a pending node in, and is about to decide it
pub record Owner (w : Words) (t : ℕ) (m p : Ref) : Type 0 where
  pub actor : ℕ
  pub link : Ref
  pub line : ReadLine
  pub stage : w.stage t actor ≡ Decides link p m line
  pub deciding : IsDeciding line m p
  pub is_link : w.link t link ≡ true
  pub stands : w.main t link ≡ m

pub record IsSound (w : Words) (t : ℕ) : Type 0 where
  pub words : AreSound w t
  pub given : (k : ℕ) (i m : Ref) → Given w t k i m → Decided w t i m
  pub staged : (k : ℕ) → Staged w t k (w.stage t k)
  pub owned : (m p : Ref) → w.prev t m ≡ over.Pending p → Owner w t m p
  pub apart : (j k : ℕ) (f : Ref) → (j ≡ k → ⊥) → HasFresh (w.stage t j) f → HasFresh (w.stage t k) f → ⊥

-- ---- the effect of a turn

abbrev pub read_effect : (w : Words) (t : ℕ) → AreSound w t → (i : Ref) (l : ReadLine) (out : After ReadLine Ref) → OnLine w t i l → ReadTurn w t i l out → Effect w t
read_effect w t h i l out s (ReadsMain e k) = Nothing e
read_effect w t h i l out s (FindsDecided e n) = Nothing e
read_effect w t h i l out s (FindsFailed e n) = Nothing e
read_effect w t h i l out s (FindsPending e n) = Nothing e
read_effect w t h i l out s (DecidesAtOnce e n) = Nothing e
read_effect w t h i l out s (Asks g e c) = Nothing e
read_effect w t h i l out s (FindsOffer offer e) = Nothing e
read_effect w t h i l out s (Aborts e) = Nothing e
read_effect w t h i l out s (Commits {m} {p} licence e) = Committed m p e
read_effect w t h i l out s (Fails {m} {p} e) = Failed m p e
read_effect w t h i l out s (Overtaken next e n which) = Nothing e
read_effect w t h i l out s (Restores {m} {p} e) = PutBack i m p (h.link i m s.0) e s.1 s.0
read_effect w t h i l out s (FindsAnother e) = Nothing e

-- what may be named is settled
pub named_settled : (w : Words) (t k : ℕ) → IsSound w t → (s : Stage) (m : Ref) → Staged w t k s → MayName w t k s m → IsSettled w t m
named_settled w t k h s m st (inl (i, g)) =
    let d = h.given k i m g in
    record { made = h.words.made i m d.stood; none = d.none }
named_settled w t k h s m st (inr e) = let p : Private w t m = subst (λ x. Staged w t k x) e st in record { made = p.made; none = p.none }

abbrev pub effect_of : (w : Words) (t k : ℕ) → IsSound w t → (s after : Stage) → Staged w t k s → Moves w t k s after → Effect w t
effect_of w t k h s after st (Idles e f r) = Nothing e
effect_of w t k h s after st (MakesNode n e f name have) = Made n e (λ l. named_settled w t k h s (w.main (suc t) n) st (name l))
effect_of w t k h s after st (SwapsNode {i} {a} {f} l e) = SwappedIn i a f l e st.0 (h.given k i a st.1)
effect_of w t k h s after st (ReadsOn {i} {l} {out} r) = read_effect w t h.words i l out st r
effect_of w t k h s after st (DecidesOn {i} {a} {f} {l} {out} r) = read_effect w t h.words i l out st.0 r

-- ---- a READ's next line

abbrev OnOutcome : Words → ℕ → Ref → After ReadLine Ref → Type 0
OnOutcome w t i (Goes l) = OnLine w t i l
OnOutcome w t i (Gives m) = Decided w t i m

overtaken_line : (w : Words) (t : ℕ) (i m : Ref) (next : ReadLine) → Stood w (suc t) i m → (next ≡ read.Prev m) ⊎ (next ≡ read.Main) → OnLine w (suc t) i next
overtaken_line w t i m next s (inl e) = subst (λ l. OnLine w (suc t) i l) (sym e) s
overtaken_line w t i m next s (inr e) = subst (λ l. OnLine w (suc t) i l) (sym e) tt

-- what is known of the next line, and of what is given
pub read_on : (w : Words) (t : ℕ) → AreSound w t → (i : Ref) (l : ReadLine) (out : After ReadLine Ref) → OnLine w t i l → ReadTurn w t i l out →
    OnOutcome w (suc t) i out
read_on w t h i l out s (ReadsMain e k) = stood_later (stands_now k refl)
read_on w t h i l out s (FindsDecided {m} e n) = record { stood = stood_later s; none = e.prev m ∙ n }
read_on w t h i l out s (FindsFailed {m} {p} e n) = (stood_later s, e.prev m ∙ n)
read_on w t h i l out s (FindsPending e n) = stood_later s
read_on w t h i l out s (DecidesAtOnce e n) = stood_later s
read_on w t h i l out s (Asks g e c) = stood_later s
read_on w t h i l out s (FindsOffer offer e) = stood_later s
read_on w t h i l out s (Aborts e) = stood_later s
read_on w t h i l out s (Commits licence e) = record { stood = stood_later s; none = e.prev.here }
read_on w t h i l out s (Fails e) = tt
read_on w t h i l out s (Overtaken {m} {p} {told} next e n which) = overtaken_line w t i m next (stood_later s) which
read_on w t h i l out s (Restores {m} {p} e) =
    let below = h.over m p (over_failed s.1) in
    record { stood = stood_later (stood_below w t h i m p s.1 s.0); none = e.prev p ∙ below.none }
read_on w t h i l out s (FindsAnother e) = tt

-- ---- what was given stays decided

pub decided_later : (w : Words) (t : ℕ) → Effect w t → (i m : Ref) → Decided w t i m → Decided w (suc t) i m
decided_later w t e i m d = record { stood = stood_later d.stood; none = none_later w t e i m d.stood d.none }

given_by : (w : Words) (t : ℕ) → IsSound w t → Effect w t → (k : ℕ) (i m : Ref) (g : Given w (suc t) k i m) → (g.at < t) ⊎ (g.at ≡ t) → Decided w (suc t) i m
given_by w t h e k i m g (inl before) = decided_later w t e i m (h.given k i m (record { at = g.at; past = before; line = g.line; stage = g.stage; gives = g.gives }))
given_by w t h e k i m g (inr now) =
    let stage = subst (λ u. w.stage u k ≡ Reads i g.line) now g.stage in
    let turn = subst (λ u. ReadTurn w u i g.line (Gives m)) now g.gives in
    read_on w t h.words i g.line (Gives m) (subst (λ s. Staged w t k s) stage (h.staged k)) turn

pub given_decided : (w : Words) (t : ℕ) → IsSound w t → Effect w t → (k : ℕ) (i m : Ref) → Given w (suc t) k i m → Decided w (suc t) i m
given_decided w t h e k i m g = given_by w t h e k i m g (before_or_at g.at t g.past)

pub given_later : {w : Words} {t k : ℕ} {i m : Ref} → Given w t k i m → Given w (suc t) k i m
given_later g = record { at = g.at; past = omega (arith, g.past); line = g.line; stage = g.stage; gives = g.gives }

-- ---- the fresh nodes of others

-- the effect brings no node into a word but those that stood there
abbrev pub BringsNone : (w : Words) (t : ℕ) → Effect w t → Type 0
BringsNone w t (Made n e s) = ⊥
BringsNone w t (SwappedIn i a f l e p d) = ⊥
BringsNone w t e = Unit {0}

read_brings_none : (w : Words) (t : ℕ) (h : AreSound w t) (i : Ref) (l : ReadLine) (out : After ReadLine Ref) (s : OnLine w t i l) (r : ReadTurn w t i l out) →
    BringsNone w t (read_effect w t h i l out s r)
read_brings_none w t h i l out s (ReadsMain e k) = tt
read_brings_none w t h i l out s (FindsDecided e n) = tt
read_brings_none w t h i l out s (FindsFailed e n) = tt
read_brings_none w t h i l out s (FindsPending e n) = tt
read_brings_none w t h i l out s (DecidesAtOnce e n) = tt
read_brings_none w t h i l out s (Asks g e c) = tt
read_brings_none w t h i l out s (FindsOffer offer e) = tt
read_brings_none w t h i l out s (Aborts e) = tt
read_brings_none w t h i l out s (Commits licence e) = tt
read_brings_none w t h i l out s (Fails e) = tt
read_brings_none w t h i l out s (Overtaken next e n which) = tt
read_brings_none w t h i l out s (Restores e) = tt
read_brings_none w t h i l out s (FindsAnother e) = tt

brings_none : (w : Words) (t : ℕ) (e : Effect w t) → BringsNone w t e → (q f : Ref) → Brings w t e q f → ⊥
brings_none w t (Made n e s) none q f b = none
brings_none w t (SwappedIn i a g l e p d) none q f b = none
brings_none w t e none q f b = b

pub read_brings : (w : Words) (t : ℕ) (h : AreSound w t) (i : Ref) (l : ReadLine) (out : After ReadLine Ref) (s : OnLine w t i l) (r : ReadTurn w t i l out) (q f : Ref) →
    Brings w t (read_effect w t h i l out s r) q f → ⊥
read_brings w t h i l out s r = brings_none w t (read_effect w t h i l out s r) (read_brings_none w t h i l out s r)

-- a private node that may be named is the actor's own
named_own : (w : Words) (t k : ℕ) → IsSound w t → (s : Stage) (f : Ref) → Private w t f → MayName w t k s f → HasFresh s f
named_own w t k h s f p (inl (i, g)) = absurd (p.apart i (h.given k i f g).stood)
named_own w t k h s f p (inr e) = subst (λ x. HasFresh x f) (sym e) refl

-- a step brings a private node into a word only where it is the actor's own
brings_own : (w : Words) (t k : ℕ) (h : IsSound w t) (s after : Stage) (st : Staged w t k s) (m : Moves w t k s after) (q f : Ref) → Private w t f →
    Brings w t (effect_of w t k h s after st m) q f → HasFresh s f
brings_own w t k h s after st (Idles e x r) q f p b = absurd b
brings_own w t k h s after st (MakesNode n e x name have) q f p b = named_own w t k h s f p (subst (λ y. MayName w t k s y) b.2 (name b.1))
brings_own w t k h s after st (SwapsNode l e) q f p b = b.1
brings_own w t k h s after st (ReadsOn {i} {l} {out} r) q f p b = absurd (read_brings w t h.words i l out st r q f b)
brings_own w t k h s after st (DecidesOn {i} {a} {f = g} {l} {out} r) q f p b = absurd (read_brings w t h.words i l out st.0 r q f b)

-- a private node that the step swaps in is the actor's own: any other's prev word stays
stays_none : (w : Words) (t : ℕ) (i a f x : Ref) → SwapsIn w t i a f → (x ≡ f → ⊥) → w.prev t x ≡ over.None → w.prev (suc t) x ≡ over.None
stays_none w t i a f x e apart n = e.prev.elsewhere x apart ∙ n

none_after_commit : (w : Words) (t : ℕ) (m p x : Ref) → CommitsNode w t m p → (x ≡ m) ⊎ (x ≡ m → ⊥) → w.prev t x ≡ over.None → w.prev (suc t) x ≡ over.None
none_after_commit w t m p x e (inl same) n = ap (w.prev (suc t)) same ∙ e.prev.here
none_after_commit w t m p x e (inr apart) n = e.prev.elsewhere x apart ∙ n

none_after_fail : (w : Words) (t : ℕ) (m p x : Ref) → FailsNode w t m p → (x ≡ m) ⊎ (x ≡ m → ⊥) → w.prev t x ≡ over.None → w.prev (suc t) x ≡ over.None
none_after_fail w t m p x e (inl same) n = absurd (none≢pending n (ap (w.prev t) same ∙ e.was))
none_after_fail w t m p x e (inr apart) n = e.prev.elsewhere x apart ∙ n

-- the effect swaps this very node in
abbrev pub SwapsThis : (w : Words) (t : ℕ) → Effect w t → Ref → Type 0
SwapsThis w t (SwappedIn i a f l e p d) x = x ≡ f
SwapsThis w t e x = ⊥

pub none_after : (w : Words) (t : ℕ) (e : Effect w t) (x : Ref) → (SwapsThis w t e x → ⊥) → w.prev t x ≡ over.None → w.prev (suc t) x ≡ over.None
none_after w t (Nothing e) x other n = e.prev x ∙ n
none_after w t (Made q e s) x other n = e.prev x ∙ n
none_after w t (SwappedIn i a f l e p d) x other n = stays_none w t i a f x e other n
none_after w t (PutBack i m p l e failed s) x other n = e.prev x ∙ n
none_after w t (Committed m p e) x other n = none_after_commit w t m p x e (cases_eq x m) n
none_after w t (Failed m p e) x other n = none_after_fail w t m p x e (cases_eq x m) n

swaps_none : (w : Words) (t : ℕ) (e : Effect w t) → BringsNone w t e → (x : Ref) → SwapsThis w t e x → ⊥
swaps_none w t (Made n e s) none x b = none
swaps_none w t (SwappedIn i a g l e p d) none x b = none
swaps_none w t e none x b = b

pub read_swaps : (w : Words) (t : ℕ) (h : AreSound w t) (i : Ref) (l : ReadLine) (out : After ReadLine Ref) (s : OnLine w t i l) (r : ReadTurn w t i l out) (x : Ref) →
    SwapsThis w t (read_effect w t h i l out s r) x → ⊥
read_swaps w t h i l out s r = swaps_none w t (read_effect w t h i l out s r) (read_brings_none w t h i l out s r)

swaps_own : (w : Words) (t k : ℕ) (h : IsSound w t) (s after : Stage) (st : Staged w t k s) (m : Moves w t k s after) (x : Ref) →
    SwapsThis w t (effect_of w t k h s after st m) x → HasFresh s x
swaps_own w t k h s after st (Idles e f r) x b = absurd b
swaps_own w t k h s after st (MakesNode n e f name have) x b = absurd b
swaps_own w t k h s after st (SwapsNode l e) x b = sym b
swaps_own w t k h s after st (ReadsOn {i} {l} {out} r) x b = absurd (read_swaps w t h.words i l out st r x b)
swaps_own w t k h s after st (DecidesOn {i} {a} {f = g} {l} {out} r) x b = absurd (read_swaps w t h.words i l out st.0 r x b)

-- the private node of another actor stays private
pub private_later : (w : Words) (t k : ℕ) (h : IsSound w t) (s after : Stage) (st : Staged w t k s) (m : Moves w t k s after) (f : Ref) → (HasFresh s f → ⊥) →
    Private w t f → Private w (suc t) f
private_later w t k h s after st m f other p =
    let e : Effect w t = effect_of w t k h s after st m in
    record {
      made = made_later w t e f p.made;
      none = none_after w t e f (λ x. other (swaps_own w t k h s after st m f x)) p.none;
      apart = λ i stood. elim (comes w t h.words e i f stood) [ inl before ↦ p.apart i before | inr b ↦ other (brings_own w t k h s after st m i f p b) ];
    }

-- ---- what is known of the stages of others

line_later : (w : Words) (t : ℕ) → Effect w t → (i : Ref) (l : ReadLine) → OnLine w t i l → OnLine w (suc t) i l
line_later w t e i read.Main s = tt
line_later w t e i (read.Prev m) s = stood_later s
line_later w t e i (read.AskRoot m p) s = stood_later s
line_later w t e i (read.Abort m p offer) s = stood_later s
line_later w t e i (read.Decide m p told) s = stood_later s
line_later w t e i (read.Restore m p) s = (stood_later s.0, failed_later w t e m p s.1)

-- where the step keeps an actor's fresh node private
pub staged_later : (w : Words) (t : ℕ) → Effect w t → (j : ℕ) (s : Stage) → ((f : Ref) → HasFresh s f → Private w t f → Private w (suc t) f) → Staged w t j s → Staged w (suc t) j s
staged_later w t e j Rests keeps st = tt
staged_later w t e j (Reads i l) keeps st = line_later w t e i l st
staged_later w t e j (Builds f) keeps st = keeps f refl st
staged_later w t e j (Publishes i a f) keeps st = (keeps f refl st.0, given_later st.1)
staged_later w t e j (Decides i a f l) keeps st = (line_later w t e i l st.0, stood_later st.1, decided_later w t e i a st.2)
staged_later w t e j (Checks i a f) keeps st = (stood_later st.0, decided_later w t e i a st.1)

-- ---- and of the stage of the actor itself

pub rest_staged : (w : Words) (t k : ℕ) (s : Stage) → IsAtRest s → Staged w t k s
rest_staged w t k Rests r = tt
rest_staged w t k (Reads i read.Main) r = tt
rest_staged w t k (Reads i l) r = absurd r
rest_staged w t k s r = absurd r

-- a node that was just made is private
just_made : (w : Words) (t : ℕ) → IsSound w t → (n : Ref) → Makes w t n → (s : w.link (suc t) n ≡ true → IsSettled w t (w.main (suc t) n)) → Private w (suc t) n
just_made w t h n e s = record {
  made = e.is_made;
  none = e.prev n ∙ e.prev_none;
  apart = λ i stood. elim (comes w t h.words (Made n e s) i n stood) [
    | inl before ↦ not_both (h.words.made i n before) e.was_unmade
    | inr b ↦ not_both (subst (λ x. w.made t x ≡ true) b.2 (s b.1).made) e.was_unmade
  ];
}

made_staged : (w : Words) (t k : ℕ) → (n : Ref) → Private w (suc t) n → (after : Stage) → MayHave w t k n after → Staged w (suc t) k after
made_staged w t k n p Rests have = tt
made_staged w t k n p (Reads i l) have = rest_staged w (suc t) k (Reads i l) have
made_staged w t k n p (Builds f) have = subst (λ x. Private w (suc t) x) (sym have) p
made_staged w t k n p (Publishes i a f) have = (subst (λ x. Private w (suc t) x) (sym have.0) p, given_later have.1.0)
made_staged w t k n p (Decides i a f l) have = absurd have
made_staged w t k n p (Checks i a f) have = absurd have

read_staged : (w : Words) (t k : ℕ) (i : Ref) (out : After ReadLine Ref) → OnOutcome w (suc t) i out → Staged w (suc t) k (after_read i out)
read_staged w t k i (Goes l) s = s
read_staged w t k i (Gives m) s = tt

deciding_staged : (w : Words) (t k : ℕ) (i a f : Ref) (out : After ReadLine Ref) → OnOutcome w (suc t) i out → Stood w (suc t) i f → Decided w (suc t) i a →
    Staged w (suc t) k (after_deciding i a f out)
deciding_staged w t k i a f (Goes l) s st d = (s, st, d)
deciding_staged w t k i a f (Gives m) s st d = (st, d)

pub own_staged : (w : Words) (t k : ℕ) (h : IsSound w t) (s after : Stage) (st : Staged w t k s) (m : Moves w t k s after) → Staged w (suc t) k after
own_staged w t k h s after st (Idles e x r) = rest_staged w (suc t) k after r
own_staged w t k h s after st (MakesNode n e x name have) =
    made_staged w t k n (just_made w t h n e (λ l. named_settled w t k h s (w.main (suc t) n) st (name l))) after have
own_staged w t k h s after st (SwapsNode {i} {a} {f} l e) =
    let now : Stood w (suc t) i f = stands_now (e.makes.link i ∙ l) e.main.here in
    let effect : Effect w t = effect_of w t k h (Publishes i a f) (Decides i a f (read.Prev f)) st (SwapsNode l e) in
    (now, now, decided_later w t effect i a (h.given k i a st.1))
own_staged w t k h s after st (ReadsOn {i} {l} {out} r) = read_staged w t k i out (read_on w t h.words i l out st r)
own_staged w t k h s after st (DecidesOn {i} {a} {f} {l} {out} r) =
    let effect : Effect w t = read_effect w t h.words i l out st.0 r in
    deciding_staged w t k i a f out (read_on w t h.words i l out st.0 r) (stood_later st.1) (decided_later w t effect i a st.2)
