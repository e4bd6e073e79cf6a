-- What a READ gives, over whole runs: from when on it was the logical main node, and when that is final.
use Rattle.std.proofs.Common.{◌≡◌, ℕ, zero, suc, ◌<◌, ◌≤◌, max, ◌⊎◌, true, Option, Some, None, inl, inr, refl, sym, ◌∙◌, ap, subst, arith}
use Rattle.std.proofs.lemmas.Bool.{cases_eq}
use Rattle.proof_commits.specs.Vocabulary.{Ref, Prev, After, Gives, ReadLine}
use Rattle.proof_commits.specs.Beneath.slot_arena.specs.declared.nodes.Prev.TheVariants as over
use Rattle.proof_commits.specs.Beneath.machine_model.specs.declared.reading.After.TheVariants.{Goes}
use Rattle.proof_commits.specs.Beneath.machine_model.specs.declared.reading.ReadLine.TheVariants as read
use Rattle.proof_commits.specs.Protocol.{Words, logical_at, Stage, Rests, Reads, Builds, Publishes, Decides, Checks, CommitsNode, ReadTurn, ReadsMain, FindsDecided, FindsFailed}
use Rattle.proof_commits.specs.Protocol.{FindsPending, DecidesAtOnce, Asks, FindsOffer, Aborts, Commits, Fails, Overtaken, Restores, FindsAnother, IsAtRest, after_read}
use Rattle.proof_commits.specs.Protocol.{after_deciding, MayHave, counts_at, Counts, IsSame, Moves, Idles, MakesNode, SwapsNode, ReadsOn, DecidesOn, Turn, Acts, Passes, Protocol}
use Rattle.proof_commits.proofs.Words.Stood.{Stood, AreSound, none≢pending, over_pending}
use Rattle.proof_commits.proofs.Known.Owners.{OnLine, Staged, IsSound}
use Rattle.proof_commits.proofs.Known.Sounds.{sound_at}
use Rattle.proof_commits.proofs.Course.Finals.{from_time, none_final, failed_final, link_stays, pending_back, pending_stands, Fate, StillPending, HasFailed, HasCommitted, fate}
use Rattle.proof_commits.proofs.Course.Finals.{committed_stays, commits_at}
use Rattle.proof_commits.proofs.Course.Mains.{main_when_none, main_when_pending, CommitsMain, MainStep, MainStays, MainChanges, main_step}
use Rattle.proof_commits.proofs.Course.Closings.{commits_early}
use Rattle.proof_commits.specs.Moments.{later_of, IsMoment}

-- ---- whence a READ counts

-- the node stood in the word after step r, which read it there or put it there
pub record StoodAfter (w : Words) (t r : ℕ) (i m : Ref) : Type 0 where
  pub past : r < t
  pub link : w.link (suc r) i ≡ true
  pub is : w.main (suc r) i ≡ m

abbrev FromLine : Words → ℕ → ℕ → Ref → ReadLine → Type 0
FromLine w t r i read.Main = Unit {0}
FromLine w t r i (read.Prev m) = StoodAfter w t r i m
FromLine w t r i (read.AskRoot m p) = StoodAfter w t r i m
FromLine w t r i (read.Abort m p offer) = StoodAfter w t r i m
FromLine w t r i (read.Decide m p told) = StoodAfter w t r i m
FromLine w t r i (read.Restore m p) = StoodAfter w t r i m

abbrev FromIn : Words → ℕ → ℕ → Stage → Type 0
FromIn w t r (Reads i l) = FromLine w t r i l
FromIn w t r s = Unit {0}

stood_after_later : {w : Words} {t r : ℕ} {i m : Ref} → StoodAfter w t r i m → StoodAfter w (suc t) r i m
stood_after_later s = record { past = omega (arith, s.past); link = s.link; is = s.is }

line_from_later : (w : Words) (t r : ℕ) (i : Ref) (l : ReadLine) → FromLine w t r i l → FromLine w (suc t) r i l
line_from_later w t r i read.Main s = tt
line_from_later w t r i (read.Prev m) s = stood_after_later s
line_from_later w t r i (read.AskRoot m p) s = stood_after_later s
line_from_later w t r i (read.Abort m p offer) s = stood_after_later s
line_from_later w t r i (read.Decide m p told) s = stood_after_later s
line_from_later w t r i (read.Restore m p) s = stood_after_later s

from_later : (w : Words) (t r : ℕ) (s : Stage) → FromIn w t r s → FromIn w (suc t) r s
from_later w t r (Reads i l) s = line_from_later w t r i l s
from_later w t r Rests s = tt
from_later w t r s st = tt

abbrev FromAfter : Words → ℕ → ℕ → Ref → After ReadLine Ref → Type 0
FromAfter w t r i (Goes l) = FromLine w t r i l
FromAfter w t r i (Gives m) = StoodAfter w t r i m

overtaken_from : (w : Words) (t r : ℕ) (i m : Ref) (next : ReadLine) → StoodAfter w t r i m → (next ≡ read.Prev m) ⊎ (next ≡ read.Main) → FromLine w t r i next
overtaken_from w t r i m next s (inl e) = subst (λ l. FromLine w t r i l) (sym e) s
overtaken_from w t r i m next s (inr e) = subst (λ l. FromLine w t r i l) (sym e) tt

from_next : (w : Words) (t r : ℕ) → AreSound w t → (i : Ref) (l : ReadLine) (out : After ReadLine Ref) → OnLine w t i l → FromLine w t r i l → ReadTurn w t i l out →
    FromAfter w (suc t) (counts_at l t r) i out
from_next w t r h i l out o s (ReadsMain e k) = record { past = omega arith; link = e.makes.link i ∙ k; is = e.main i }
from_next w t r h i l out o s (FindsDecided e n) = stood_after_later s
from_next w t r h i l out o s (FindsFailed e n) = stood_after_later s
from_next w t r h i l out o s (FindsPending e n) = stood_after_later s
from_next w t r h i l out o s (DecidesAtOnce e n) = stood_after_later s
from_next w t r h i l out o s (Asks g e early) = stood_after_later s
from_next w t r h i l out o s (FindsOffer offer e) = stood_after_later s
from_next w t r h i l out o s (Aborts e) = stood_after_later s
from_next w t r h i l out o s (Commits licence e) = stood_after_later s
from_next w t r h i l out o s (Fails e) = tt
from_next w t r h i l out o s (Overtaken {m} next e n which) = overtaken_from w (suc t) r i m next (stood_after_later s) which
from_next w t r h i l out o s (Restores {m} {p} e) = record { past = omega arith; link = e.makes.link i ∙ h.link i m o.0; is = e.main.here }
from_next w t r h i l out o s (FindsAnother e) = tt

rest_from : (w : Words) (t r : ℕ) (s : Stage) → IsAtRest s → FromIn w t r s
rest_from w t r Rests e = tt
rest_from w t r (Reads i read.Main) e = tt
rest_from w t r (Reads i l) e = absurd e
rest_from w t r s e = absurd e

have_from : (w : Words) (t k : ℕ) (n : Ref) (r : ℕ) (s : Stage) → MayHave w t k n s → FromIn w (suc t) r s
have_from w t k n r (Builds f) have = tt
have_from w t k n r (Publishes i a f) have = tt
have_from w t k n r Rests have = tt
have_from w t k n r (Reads i l) have = rest_from w (suc t) r (Reads i l) have
have_from w t k n r (Decides i a f l) have = absurd have
have_from w t k n r (Checks i a f) have = absurd have

read_from : (w : Words) (t r : ℕ) (i : Ref) (out : After ReadLine Ref) → FromAfter w t r i out → FromIn w t r (after_read i out)
read_from w t r i (Goes l) s = s
read_from w t r i (Gives m) s = tt

deciding_from : (w : Words) (t r : ℕ) (i a f : Ref) (out : After ReadLine Ref) → FromIn w t r (after_deciding i a f out)
deciding_from w t r i a f (Goes l) = tt
deciding_from w t r i a f (Gives m) = tt

from_moves : (w : Words) (t k : ℕ) → IsSound w t → (s after : Stage) → Staged w t k s → Moves w t k s after → Counts w t k s → FromIn w t (w.from t k) s →
    FromIn w (suc t) (w.from (suc t) k) after
from_moves w t k h s after st (Idles e x r) counts so_far = rest_from w (suc t) (w.from (suc t) k) after r
from_moves w t k h s after st (MakesNode n e x name have) counts so_far = have_from w t k n (w.from (suc t) k) after have
from_moves w t k h s after st (SwapsNode l e) counts so_far = tt
from_moves w t k h s after st (ReadsOn {i} {l} {out} r) counts so_far =
    read_from w (suc t) (w.from (suc t) k) i out
    (subst (λ x. FromAfter w (suc t) x i out) (sym counts) (from_next w t (w.from t k) h.words i l out st so_far r))
from_moves w t k h s after st (DecidesOn {i} {a} {f} {l} {out} r) counts so_far = deciding_from w (suc t) (w.from (suc t) k) i a f out

same_from : (w : Words) (t j : ℕ) → IsSame w t j → FromIn w t (w.from t j) (w.stage t j) → FromIn w (suc t) (w.from (suc t) j) (w.stage (suc t) j)
same_from w t j same so_far =
    subst (λ r. FromIn w (suc t) r (w.stage (suc t) j)) (sym same.from)
    (subst (λ s. FromIn w (suc t) (w.from t j) s) (sym same.stage) (from_later w t (w.from t j) (w.stage t j) so_far))

from_others : (w : Words) (t k : ℕ) → ((j : ℕ) → FromIn w t (w.from t j) (w.stage t j)) → ((j : ℕ) → (j ≡ k → ⊥) → IsSame w t j) →
    FromIn w (suc t) (w.from (suc t) k) (w.stage (suc t) k) → (j : ℕ) → (j ≡ k) ⊎ (j ≡ k → ⊥) → FromIn w (suc t) (w.from (suc t) j) (w.stage (suc t) j)
from_others w t k so_far same own j (inl e) = subst (λ q. FromIn w (suc t) (w.from (suc t) q) (w.stage (suc t) q)) (sym e) own
from_others w t k so_far same own j (inr other) = same_from w t j (same j other) (so_far j)

from_turn : (w : Words) (t : ℕ) → IsSound w t → ((j : ℕ) → FromIn w t (w.from t j) (w.stage t j)) → Turn w t → (j : ℕ) → FromIn w (suc t) (w.from (suc t) j) (w.stage (suc t) j)
from_turn w t h so_far (Passes e same) j = same_from w t j (same j) (so_far j)
from_turn w t h so_far (Acts k m counts same) j =
    from_others w t k so_far same (own counts) j (cases_eq j k)
  where
    own : IsAtRest (w.stage (suc t) k) ⊎ Counts w t k (w.stage t k) → FromIn w (suc t) (w.from (suc t) k) (w.stage (suc t) k)
    own (inl rests) = rest_from w (suc t) (w.from (suc t) k) (w.stage (suc t) k) rests
    own (inr told) = from_moves w t k h (w.stage t k) (w.stage (suc t) k) (h.staged k) m told (so_far k)

pub from_at : (p : Protocol) (t : ℕ) → t ≤ p.last → (j : ℕ) → FromIn p.words t (p.words.from t j) (p.words.stage t j)
from_at p t h =
    from_time (λ v. (j : ℕ) → FromIn p.words v (p.words.from v j) (p.words.stage v j)) zero p.last
    (λ j. subst (λ s. FromIn p.words zero (p.words.from zero j) s) (sym (p.first_stage j)) tt)
    (λ v b within so_far j. from_turn p.words v (sound_at p v (omega arith)) so_far (p.turn v within) j) t (omega arith) h

-- ---- from when on what a READ gives is the logical main node

-- by whether and when the node was committed
no_commit_by : (p : Protocol) (i m : Ref) (r t : ℕ) → r ≤ t → t < p.last → Stood p.words (suc r) i m → p.words.prev (suc t) m ≡ over.None → p.words.commit (suc t) m ≡ None →
    (v : Prev) → p.words.prev (suc r) m ≡ v → v ≡ over.None
no_commit_by p i m r t h within s n c over.None e = refl
no_commit_by p i m r t h within s n c (over.Failed q) e = absurd (none≢failed_at n (failed_final p m q (suc r) (suc t) (omega arith) (omega arith) e))
  where
    none≢failed_at : {v : Prev} {p : Ref} → v ≡ over.None → v ≡ over.Failed p → ⊥
    none≢failed_at e h = let wrong = sym e ∙ h in cc
no_commit_by p i m r t h within s n c (over.Pending q) e = by_fate (fate p i m q (suc r) (suc t) (omega arith) (omega arith) s e)
  where
    by_fate : Fate p.words (suc r) (suc t) m q → over.Pending q ≡ over.None
    by_fate (StillPending x) = absurd (none≢pending n x)
    by_fate (HasFailed x) = let wrong : over.None ≡ over.Failed q = sym n ∙ x in cc
    by_fate (HasCommitted x y) = absurd ((commits_at p (suc t) (omega arith)).all m x.at q (x.before) x.commits c)

early_or_late : (c r : ℕ) → (c ≤ r) ⊎ (r < c)
early_or_late c r = grind arith

-- a node that stood in the word after step r, and is decided after step t
module _ (p : Protocol) (i m : Ref) (r t : ℕ) (within : t < p.last) (s : StoodAfter p.words (suc t) r i m) where
  stood_by : (v : ℕ) → r < v → Stood p.words v i m
  stood_by v after = record { at = suc r; past = omega arith; link = s.link; is = s.is }

  -- it was decided when it was read
  decided_then : (mu : ℕ) → mu ≡ r → p.words.prev (suc r) m ≡ over.None → IsMoment p.words i m r mu t
  decided_then mu e n = subst (λ x. IsMoment p.words i m r x t) (sym e) (record {
    from = omega arith;
    past = omega (arith, s.past);
    link = s.link;
    stood = s.is;
    none = n;
    is = main_when_none p.words (suc r) i m s.is n;
    first = λ v after before same. absurd (omega arith);
  })

  -- while it was pending another was the logical main node
  pending_before : (q : Ref) (c v : ℕ) → c ≤ t → CommitsNode p.words c m q → r < v → v ≤ c → logical_at p.words v i ≡ m → ⊥
  pending_before q c v by e after before same =
      let pend = pending_back p i m q v c before (omega arith) (stood_by v after) e.was in
      let stands = pending_stands p.words v (sound_at p v (omega arith)) i m q (stood_by v after) pend in
      let below = (sound_at p v (omega arith)).words.over m q (over_pending pend) in
      let is_below : m ≡ q = sym same ∙ main_when_pending p.words v i m q stands pend in
      none≢pending (ap (p.words.prev v) is_below ∙ below.none) pend

  -- it was committed after it was read
  committed_then : (q : Ref) (c mu : ℕ) → r < c → c ≤ t → mu ≡ c → CommitsNode p.words c m q → IsMoment p.words i m r mu t
  committed_then q c mu h k e commits =
      let stands = pending_stands p.words c (sound_at p c (omega arith)) i m q (stood_by c h) commits.was in
      subst (λ x. IsMoment p.words i m r x t) (sym e) (record {
        from = omega arith;
        past = k;
        link = s.link;
        stood = s.is;
        none = commits.prev.here;
        is = main_when_none p.words (suc c) i m (commits.main i ∙ stands) commits.prev.here;
        first = λ v after before same. pending_before q c v k commits after before same;
      })

  by_order : (q : Ref) (c : ℕ) → c ≤ t → CommitsNode p.words c m q → (c ≤ r) ⊎ (r < c) → IsMoment p.words i m r (max r c) t
  by_order q c k commits (inl early) =
      decided_then (max r c) (omega arith) (committed_stays p m q c (suc r) (omega arith) (omega (arith, s.past)) commits)
  by_order q c k commits (inr late) = committed_then q c (max r c) late k (omega arith) commits

  by_commit : p.words.prev (suc t) m ≡ over.None → (c : Option ℕ) → p.words.commit (suc t) m ≡ c → IsMoment p.words i m r (later_of r c) t
  by_commit n None e = decided_then r refl (no_commit_by p i m r t (omega (arith, s.past)) within (stood_by (suc r) (omega arith)) n e (p.words.prev (suc r) m) refl)
  by_commit n (Some c) e =
      let was = (commits_at p (suc t) within).each m c e in
      by_order was.1 c (omega (arith, was.0)) was.2 (early_or_late c r)

-- what a READ gives: it counts from its last read or swap of the main word
pub gives_moment : (p : Protocol) (t : ℕ) → t < p.last → (k : ℕ) (i m : Ref) (l : ReadLine) → p.words.stage t k ≡ Reads i l → ReadTurn p.words t i l (Gives m) →
    let r = counts_at l t (p.words.from t k) in
    IsMoment p.words i m r (later_of r (p.words.commit (suc t) m)) t
gives_moment p t h k i m l stage turn =
    let sound = sound_at p t (omega arith) in
    let on_line : OnLine p.words t i l = subst (λ s. Staged p.words t k s) stage (sound.staged k) in
    let from_line : FromLine p.words t (p.words.from t k) i l = subst (λ s. FromIn p.words t (p.words.from t k) s) stage (from_at p t (omega arith) k) in
    let stood : StoodAfter p.words (suc t) (counts_at l t (p.words.from t k)) i m = from_next p.words t (p.words.from t k) sound.words i l (Gives m) on_line from_line turn in
    let given = (sound_at p (suc t) h).given k i m (record { at = t; past = omega arith; line = l; stage = stage; gives = turn }) in
    by_commit p i m (counts_at l t (p.words.from t k)) t h stood given.none (p.words.commit (suc t) m) refl

-- ---- finality

-- a READ of an indirection whose generation was closed before
module _ (p : Protocol) (i m : Ref) (r mu t c : ℕ) (moment : IsMoment p.words i m r mu t) (closed : p.words.closing (p.words.generation i) ≡ Some c) (before : c < r) where
  -- what commits there at a later step stood in its word at step r already
  no_change : (u : ℕ) → mu < u → u < p.last → CommitsMain p.words u i → ⊥
  no_change u after within x =
      let sound = sound_at p u (omega arith) in
      let l : p.words.link u i ≡ true = link_stays p i (suc r) u (omega (arith, moment.from)) (omega arith) moment.link in
      let s : Stood p.words u i x.fresh = record { at = u; past = omega arith; link = l; is = x.stands } in
      let early = commits_early p u within i x.fresh x.replaced x.commits s in
      let at_read : Stood p.words (suc r) i x.fresh = record { at = early.at; past = omega (arith, early.early c closed); link = early.link; is = early.is } in
      let pend = pending_back p i x.fresh x.replaced (suc r) u (omega (arith, moment.from)) (omega arith) at_read x.commits.was in
      let is_read : x.fresh ≡ m =
      sym (pending_stands p.words (suc r) (sound_at p (suc r) (omega (arith, moment.from))) i x.fresh x.replaced at_read pend) ∙ moment.stood in
      let stood_then : Stood p.words (suc mu) i m = record { at = suc r; past = omega (arith, moment.from); link = moment.link; is = moment.stood } in
      let still = none_final p i m (suc mu) u after (omega arith) stood_then moment.none in
      none≢pending still (ap (p.words.prev u) (sym is_read) ∙ x.commits.was)

  final_step : (u : ℕ) → mu < u → u < p.last → logical_at p.words u i ≡ m → MainStep p.words u i → logical_at p.words (suc u) i ≡ m
  final_step u after within is (MainStays e) = e ∙ is
  final_step u after within is (MainChanges x) = absurd (no_change u after within x)

  -- what it gives is its logical main node for ever
  pub given_for_good : t < p.last → (u : ℕ) → mu < u → u ≤ p.last → logical_at p.words u i ≡ m
  given_for_good h u after within =
      from_time (λ v. logical_at p.words v i ≡ m) (suc mu) p.last moment.is
      (λ v later inside is. final_step v later inside is (main_step p v inside i (link_stays p i (suc r) v (omega (arith, moment.from)) (omega arith) moment.link))) u after within

-- ---- after a closing

module _ (p : Protocol) (i : Ref) (c : ℕ) (closed : p.words.closing (p.words.generation i) ≡ Some c) where
  -- what commits after the generation was closed stood in the word at each step from the closing on
  late_stood : (n u : ℕ) → c ≤ n → n ≤ u → u < p.last → p.words.link u i ≡ true → (x : CommitsMain p.words u i) → p.words.main n i ≡ x.fresh
  late_stood n u before after within link x =
      let early = commits_early p u within i x.fresh x.replaced x.commits (record { at = u; past = omega arith; link = link; is = x.stands }) in
      let at_n : Stood p.words n i x.fresh = record { at = early.at; past = omega (arith, early.early c closed); link = early.link; is = early.is } in
      pending_stands p.words n (sound_at p n (omega arith)) i x.fresh x.replaced at_n (pending_back p i x.fresh x.replaced n u after (omega arith) at_n x.commits.was)

  -- so there is one such commit at most
  pub closed_once : (n u : ℕ) → c ≤ n → n < u → u < p.last → p.words.link u i ≡ true → CommitsMain p.words n i → CommitsMain p.words u i → ⊥
  closed_once n u before after within link x y =
      let same : y.fresh ≡ x.fresh = sym (late_stood n u before (omega arith) within link y) ∙ x.stands in
      none≢pending (committed_stays p x.fresh x.replaced n u after (omega arith) x.commits) (ap (p.words.prev u) (sym same) ∙ y.commits.was)
