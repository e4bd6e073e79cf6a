-- What is final, over whole runs: decided and failed nodes; and what becomes of pending ones.
use Rattle.std.proofs.Common.{◌≡◌, ℕ, zero, suc, ◌<◌, ◌≤◌, ◌⊎◌, true, Option, Some, None, inl, inr, refl, sym, ◌∙◌, ap, subst, arith}
use Rattle.std.proofs.lemmas.Bool.{cases_eq}
use Rattle.std.proofs.lemmas.Option.{none-some, same_Some}
use Rattle.proof_commits.specs.Vocabulary.{Ref, Prev}
use Rattle.proof_commits.specs.Beneath.slot_arena.specs.declared.nodes.Prev.TheVariants as over
use Rattle.proof_commits.specs.Protocol.{Words, Kept, CommitsNode, FailsNode, Protocol}
use Rattle.proof_commits.proofs.Words.Stood.{Stood, stood_still, none≢pending, pending≢failed, same_pending, over_pending}
use Rattle.proof_commits.proofs.Words.Effects.{Effect, Nothing, Made, SwappedIn, PutBack, Committed, Failed, link_later, none_later, failed_later, GoesOn, StaysPending}
use Rattle.proof_commits.proofs.Words.Effects.{GetsCommitted, GetsFailed, goes_on}
use Rattle.proof_commits.proofs.Known.Owners.{IsSound}
use Rattle.proof_commits.proofs.Known.Sounds.{sound_at, effect_at}
use Rattle.proof_commits.specs.Beneath.machine_model.proofs.Basics.{at_or_before, before_or_at, none≢failed}

-- ---- induction over time, from some time on

reached_by : (P : ℕ → Type 0) (t u : ℕ) → P t → (t ≤ u → P (suc u)) → (t ≤ u) ⊎ (t ≡ suc u) → P (suc u)
reached_by P t u first next (inl h) = next h
reached_by P t u first next (inr e) = subst P e first

pub from_time : (P : ℕ → Type 0) (t last : ℕ) → P t → ((v : ℕ) → t ≤ v → v < last → P v → P (suc v)) → (u : ℕ) → t ≤ u → u ≤ last → P u
from_time P t last first next zero h within = subst P (no_earlier t h) first
  where
    no_earlier : (t : ℕ) → t ≤ zero → t ≡ zero
    no_earlier t h = omega arith
from_time P t last first next (suc u) h within =
    reached_by P t u first (λ before. next u before within (from_time P t last first next u before (omega arith))) (at_or_before t u h)

-- the effect of a step of a run
pub effect : (p : Protocol) (t : ℕ) → t < p.last → Effect p.words t
effect p t h = effect_at p.words t (sound_at p t (omega arith)) (p.turn t h)

-- ---- what is final

-- an indirection stays one
pub link_stays : (p : Protocol) (i : Ref) (t u : ℕ) → t ≤ u → u ≤ p.last → p.words.link t i ≡ true → p.words.link u i ≡ true
link_stays p i t u h within l = from_time (λ v. p.words.link v i ≡ true) t p.last l (λ v b w e. link_later p.words v (effect p v w) i e) u h within

-- a decided node that stood in a word stays decided
pub none_final : (p : Protocol) (i m : Ref) (t u : ℕ) → t ≤ u → u ≤ p.last → Stood p.words t i m → p.words.prev t m ≡ over.None → p.words.prev u m ≡ over.None
none_final p i m t u h within s n =
    from_time (λ v. p.words.prev v m ≡ over.None) t p.last n (λ v b w e. none_later p.words v (effect p v w) i m (stood_still b s) e) u h within

-- a failed one stays failed
pub failed_final : (p : Protocol) (m q : Ref) (t u : ℕ) → t ≤ u → u ≤ p.last → p.words.prev t m ≡ over.Failed q → p.words.prev u m ≡ over.Failed q
failed_final p m q t u h within f =
    from_time (λ v. p.words.prev v m ≡ over.Failed q) t p.last f (λ v b w e. failed_later p.words v (effect p v w) m q e) u h within

-- ---- what becomes of a pending node

-- it was committed, at a step from t on and before u
pub record WasCommitted (w : Words) (t u : ℕ) (m q : Ref) : Type 0 where
  pub at : ℕ
  pub from : t ≤ at
  pub before : at < u
  pub commits : CommitsNode w at m q

pub data Fate (w : Words) (t u : ℕ) (m q : Ref) : Type 0 where
  StillPending : w.prev u m ≡ over.Pending q → Fate w t u m q
  HasFailed : w.prev u m ≡ over.Failed q → Fate w t u m q
  HasCommitted : WasCommitted w t u m q → w.prev u m ≡ over.None → Fate w t u m q

fate_by : (w : Words) (t u : ℕ) (m q : Ref) → t ≤ u → GoesOn w u m q → Fate w t (suc u) m q
fate_by w t u m q h (StaysPending e) = StillPending e
fate_by w t u m q h (GetsCommitted e) = HasCommitted (record { at = u; from = h; before = omega arith; commits = e }) e.prev.here
fate_by w t u m q h (GetsFailed e) = HasFailed e.prev.here

fate_later : (p : Protocol) (t u : ℕ) (i m q : Ref) → t ≤ u → u < p.last → Stood p.words t i m → Fate p.words t u m q → Fate p.words t (suc u) m q
fate_later p t u i m q h within s (StillPending e) = fate_by p.words t u m q h (goes_on p.words u (effect p u within) m q e)
fate_later p t u i m q h within s (HasFailed e) = HasFailed (failed_later p.words u (effect p u within) m q e)
fate_later p t u i m q h within s (HasCommitted c e) =
    HasCommitted (record { at = c.at; from = c.from; before = omega (arith, c.before); commits = c.commits })
    (none_later p.words u (effect p u within) i m (stood_still h s) e)

pub fate : (p : Protocol) (i m q : Ref) (t u : ℕ) → t ≤ u → u ≤ p.last → Stood p.words t i m → p.words.prev t m ≡ over.Pending q → Fate p.words t u m q
fate p i m q t u h within s e =
    from_time (λ v. Fate p.words t v m q) t p.last (StillPending e) (λ v b w f. fate_later p t v i m q b w s f) u h within

-- ---- looking back

back_from_pending : (p : Protocol) (i m a q : Ref) (t u : ℕ) → p.words.prev u m ≡ over.Pending a → Fate p.words t u m q → q ≡ a
back_from_pending p i m a q t u pend (StillPending e) = same_pending e pend
back_from_pending p i m a q t u pend (HasFailed e) = absurd (pending≢failed pend e)
back_from_pending p i m a q t u pend (HasCommitted c e) = absurd (none≢pending e pend)

-- by what it was
pending_back_by : (p : Protocol) (i m a : Ref) (t u : ℕ) → t ≤ u → u ≤ p.last → Stood p.words t i m → p.words.prev u m ≡ over.Pending a →
    (v : Prev) → p.words.prev t m ≡ v → v ≡ over.Pending a
pending_back_by p i m a t u h within s pend over.None e = absurd (none≢pending (none_final p i m t u h within s e) pend)
pending_back_by p i m a t u h within s pend (over.Failed q) e = absurd (pending≢failed pend (failed_final p m q t u h within e))
pending_back_by p i m a t u h within s pend (over.Pending q) e =
    ap over.Pending (back_from_pending p i m a q t u pend (fate p i m q t u h within s e))

-- a node that is pending was pending since it stood in a word
pub pending_back : (p : Protocol) (i m a : Ref) (t u : ℕ) → t ≤ u → u ≤ p.last → Stood p.words t i m → p.words.prev u m ≡ over.Pending a →
    p.words.prev t m ≡ over.Pending a
pending_back p i m a t u h within s pend = pending_back_by p i m a t u h within s pend (p.words.prev t m) refl

-- a pending node stands in the word in which it once stood
pub pending_stands : (w : Words) (t : ℕ) → IsSound w t → (i m a : Ref) → Stood w t i m → w.prev t m ≡ over.Pending a → w.main t i ≡ m
pending_stands w t h i m a s pend =
    let o = h.owned m a pend in
    let owners : Stood w t o.link m = record { at = t; past = omega arith; link = o.is_link; is = o.stands } in
    ap (w.main t) (h.words.one_word m i o.link (λ none. none≢pending none pend) s owners) ∙ o.stands

-- ---- the steps of commits

-- the step that is kept is that of a commit
pub record AreCommits (w : Words) (t : ℕ) : Type 0 where
  pub each : (m : Ref) (c : ℕ) → w.commit t m ≡ Some c → (c < t) × (q : Ref) × CommitsNode w c m q
  pub all : (m : Ref) (c : ℕ) (q : Ref) → c < t → CommitsNode w c m q → w.commit t m ≡ None → ⊥

-- what a step does to them
data CommitStep (w : Words) (t : ℕ) : Type 0 where
  NoCommit : Kept (w.commit t) (w.commit (suc t)) → ((m q : Ref) → CommitsNode w t m q → ⊥) → CommitStep w t
  OneCommit : (m q : Ref) → CommitsNode w t m q → CommitStep w t

kept_none : (w : Words) (t : ℕ) → Kept (w.prev t) (w.prev (suc t)) → (m q : Ref) → CommitsNode w t m q → ⊥
kept_none w t keeps m q c = none≢pending (sym (keeps m) ∙ c.prev.here) c.was

swapped_none : (w : Words) (t : ℕ) (f a : Ref) → w.prev (suc t) f ≡ over.Pending a → ((x : Ref) → (x ≡ f → ⊥) → w.prev (suc t) x ≡ w.prev t x) → (m q : Ref) → CommitsNode w t m q →
    (m ≡ f) ⊎ (m ≡ f → ⊥) → ⊥
swapped_none w t f a here elsewhere m q c (inl same) = none≢pending c.prev.here (ap (w.prev (suc t)) same ∙ here)
swapped_none w t f a here elsewhere m q c (inr apart) = none≢pending (sym (elsewhere m apart) ∙ c.prev.here) c.was

pub failed_none : (w : Words) (t : ℕ) (f a : Ref) → FailsNode w t f a → (m q : Ref) → CommitsNode w t m q → (m ≡ f) ⊎ (m ≡ f → ⊥) → ⊥
failed_none w t f a e m q c (inl same) = none≢failed c.prev.here (ap (w.prev (suc t)) same ∙ e.prev.here)
failed_none w t f a e m q c (inr apart) = none≢pending (sym (e.prev.elsewhere m apart) ∙ c.prev.here) c.was

commit_step : (w : Words) (t : ℕ) → Effect w t → CommitStep w t
commit_step w t (Nothing e) = NoCommit e.commit (kept_none w t e.prev)
commit_step w t (Made n e s) = NoCommit e.commit (kept_none w t e.prev)
commit_step w t (SwappedIn i a f l e x d) = NoCommit e.commit (λ m q c. swapped_none w t f a e.prev.here e.prev.elsewhere m q c (cases_eq m f))
commit_step w t (PutBack i x q l e failed s) = NoCommit e.commit (kept_none w t e.prev)
commit_step w t (Committed m q e) = OneCommit m q e
commit_step w t (Failed x q e) = NoCommit e.commit (λ m r c. failed_none w t x q e m r c (cases_eq m x))

-- at a step the commit is the only one
same_commit : (w : Words) (t : ℕ) (m q x r : Ref) → CommitsNode w t m q → CommitsNode w t x r → (x ≡ m) ⊎ (x ≡ m → ⊥) → x ≡ m
same_commit w t m q x r e c (inl same) = same
same_commit w t m q x r e c (inr apart) = absurd (none≢pending (sym (e.prev.elsewhere x apart) ∙ c.prev.here) c.was)

module _ (w : Words) (t : ℕ) (h : AreCommits w t) (m q : Ref) (e : CommitsNode w t m q) (here : w.commit (suc t) m ≡ Some t) where
  each_here : (x : Ref) (c : ℕ) → w.commit (suc t) x ≡ Some c → (x ≡ m) ⊎ (x ≡ m → ⊥) → (c < suc t) × (r : Ref) × CommitsNode w c x r
  each_here x c is (inl same) =
      let now : t ≡ c = same_Some _ _ (sym here ∙ ap (w.commit (suc t)) (sym same) ∙ is) in
      (omega arith, q, subst (λ u. CommitsNode w u x q) now (subst (λ y. CommitsNode w t y q) (sym same) e))
  each_here x c is (inr apart) =
      let was = h.each x c (sym (e.commits_elsewhere x apart) ∙ is) in
      (omega (arith, was.0), was.1, was.2)

  all_here : (x : Ref) (c : ℕ) (r : Ref) → CommitsNode w c x r → (c < t) ⊎ (c ≡ t) → w.commit (suc t) x ≡ None → (x ≡ m) ⊎ (x ≡ m → ⊥) → ⊥
  all_here x c r other when is (inl same) = none-some t (sym is ∙ ap (w.commit (suc t)) same ∙ here)
  all_here x c r other (inl before) is (inr apart) = h.all x c r before other (sym (e.commits_elsewhere x apart) ∙ is)
  all_here x c r other (inr now) is (inr apart) = apart (same_commit w t m q x r e (subst (λ u. CommitsNode w u x r) now other) (cases_eq x m))

all_still : (w : Words) (t : ℕ) → AreCommits w t → Kept (w.commit t) (w.commit (suc t)) → ((m q : Ref) → CommitsNode w t m q → ⊥) → (x : Ref) (c : ℕ) (r : Ref) →
    CommitsNode w c x r → (c < t) ⊎ (c ≡ t) → w.commit (suc t) x ≡ None → ⊥
all_still w t h keeps none x c r other (inl before) is = h.all x c r before other (sym (keeps x) ∙ is)
all_still w t h keeps none x c r other (inr now) is = none x r (subst (λ u. CommitsNode w u x r) now other)

-- what was committed stays decided
pub committed_stays : (p : Protocol) (m q : Ref) (c u : ℕ) → c < u → u ≤ p.last → CommitsNode p.words c m q → p.words.prev u m ≡ over.None
committed_stays p m q c u h within commits =
    let below = (sound_at p c (omega arith)).words.over m q (over_pending commits.was) in
    none_final p below.link m (suc c) u h within (stood_still (omega arith) below.stood) commits.prev.here

-- so a node is committed once
first_commit_by : (p : Protocol) (t : ℕ) → t ≤ p.last → AreCommits p.words t → (m q : Ref) → CommitsNode p.words t m q → (c : Option ℕ) → p.words.commit t m ≡ c → c ≡ None
first_commit_by p t h commits m q e None is = refl
first_commit_by p t h commits m q e (Some c) is =
    let was = commits.each m c is in
    absurd (none≢pending (committed_stays p m was.1 c t was.0 h was.2) e.was)

pub first_commit : (p : Protocol) (t : ℕ) → t ≤ p.last → AreCommits p.words t → (m q : Ref) → CommitsNode p.words t m q → p.words.commit t m ≡ None
first_commit p t h commits m q e = first_commit_by p t h commits m q e (p.words.commit t m) refl

commits_by : (p : Protocol) (t : ℕ) → t ≤ p.last → AreCommits p.words t → CommitStep p.words t → AreCommits p.words (suc t)
commits_by p t within h (NoCommit keeps none) = record {
  each = λ m c is. let was = h.each m c (sym (keeps m) ∙ is) in (omega (arith, was.0), was.1, was.2);
  all = λ m c q before e is. all_still p.words t h keeps none m c q e (before_or_at c t before) is;
}
commits_by p t within h (OneCommit m q e) =
    let here = e.commit (first_commit p t within h m q e) in
    record {
      each = λ x c is. each_here p.words t h m q e here x c is (cases_eq x m);
      all = λ x c r before other is. all_here p.words t h m q e here x c r other (before_or_at c t before) is (cases_eq x m);
    }

pub commits_at : (p : Protocol) (t : ℕ) → t ≤ p.last → AreCommits p.words t
commits_at p t h =
    from_time (AreCommits p.words) zero p.last
    (record { each = λ m c is. absurd (none-some c (sym (p.first_commit m) ∙ is)); all = λ m c q before e is. absurd (omega arith) })
    (λ v b within so_far. commits_by p v (omega arith) so_far (commit_step p.words v (effect p v within))) t (omega arith) h
