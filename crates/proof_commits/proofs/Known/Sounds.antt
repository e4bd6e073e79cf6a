-- What is known of words and of what actors are about holds at each time of a run.
use Rattle.std.proofs.Common.{◌≡◌, ℕ, zero, suc, ◌≤◌, ◌⊎◌, true, false, inl, inr, refl, sym, ◌∙◌, ap, subst, arith}
use Rattle.std.proofs.lemmas.Bool.{cases_eq}
use Rattle.proof_commits.specs.Vocabulary.{Ref, After, Gives, ReadLine}
use Rattle.proof_commits.specs.Beneath.slot_arena.specs.declared.nodes.Prev.TheVariants as over
use Rattle.proof_commits.specs.Beneath.machine_model.specs.declared.reading.After.TheVariants.{Goes}
use Rattle.proof_commits.specs.Beneath.machine_model.specs.declared.reading.ReadLine.TheVariants as read
use Rattle.proof_commits.specs.Protocol.{Words, Stage, Rests, Reads, Builds, Publishes, Decides, Checks, Leaves, Makes, SwapsIn, PutsBack, ReadTurn, ReadsMain, FindsDecided}
use Rattle.proof_commits.specs.Protocol.{FindsFailed, FindsPending, DecidesAtOnce, Asks, FindsOffer, Aborts, Commits, Fails, Overtaken, Restores, FindsAnother, IsAtRest}
use Rattle.proof_commits.specs.Protocol.{after_read, after_deciding, MayHave, Moves, Idles, MakesNode, SwapsNode, ReadsOn, DecidesOn, Turn, Acts, Passes, Protocol}
use Rattle.proof_commits.proofs.Words.Stood.{Stood, Private, AreSound, none≢pending, pending≢failed, same_pending, over_none, not_both}
use Rattle.proof_commits.proofs.Words.Effects.{Effect, Nothing, Made, SwappedIn, PutBack, Committed, Failed, link_later, Becomes, Same, GoesIn, IsCommitted, IsFailed, becomes, sound_later}
use Rattle.proof_commits.proofs.Known.Owners.{Staged, HasFresh, IsDeciding, Owner, IsSound, read_effect, effect_of, given_decided, none_after, read_swaps, private_later, staged_later, own_staged}

-- ---- no two actors have the same fresh node

rest_fresh : (s : Stage) (f : Ref) → IsAtRest s → HasFresh s f → ⊥
rest_fresh Rests f r h = h
rest_fresh (Reads i l) f r h = h
rest_fresh s f r h = r

have_fresh : (w : Words) (t k : ℕ) (n : Ref) (after : Stage) (f : Ref) → MayHave w t k n after → HasFresh after f → n ≡ f
have_fresh w t k n Rests f have h = absurd h
have_fresh w t k n (Reads i l) f have h = absurd h
have_fresh w t k n (Builds x) f have h = sym have ∙ h
have_fresh w t k n (Publishes i a x) f have h = sym have.0 ∙ h
have_fresh w t k n (Decides i a x l) f have h = absurd have
have_fresh w t k n (Checks i a x) f have h = absurd have

read_fresh : (i : Ref) (out : After ReadLine Ref) (f : Ref) → HasFresh (after_read i out) f → ⊥
read_fresh i (Goes l) f h = h
read_fresh i (Gives m) f h = h

deciding_fresh : (i a x : Ref) (out : After ReadLine Ref) (f : Ref) → HasFresh (after_deciding i a x out) f → x ≡ f
deciding_fresh i a x (Goes l) f h = h
deciding_fresh i a x (Gives m) f h = h

-- an actor's fresh node was its own before, or is just made
fresh_before : (w : Words) (t k : ℕ) (s after : Stage) → Moves w t k s after → (f : Ref) → HasFresh after f → HasFresh s f ⊎ (w.made t f ≡ false)
fresh_before w t k s after (Idles e x r) f h = absurd (rest_fresh after f r h)
fresh_before w t k s after (MakesNode n e x name have) f h = inr (subst (λ y. w.made t y ≡ false) (have_fresh w t k n after f have h) e.was_unmade)
fresh_before w t k s after (SwapsNode l e) f h = inl h
fresh_before w t k s after (ReadsOn {i} {l} {out} r) f h = absurd (read_fresh i out f h)
fresh_before w t k s after (DecidesOn {i} {a} {f = x} {l} {out} r) f h = inl (deciding_fresh i a x out f h)

-- a fresh node was made
fresh_made : (w : Words) (t k : ℕ) → AreSound w t → (s : Stage) → Staged w t k s → (f : Ref) → HasFresh s f → w.made t f ≡ true
fresh_made w t k h Rests st f e = absurd e
fresh_made w t k h (Reads i l) st f e = absurd e
fresh_made w t k h (Builds x) st f e = subst (λ y. w.made t y ≡ true) e st.made
fresh_made w t k h (Publishes i a x) st f e = subst (λ y. w.made t y ≡ true) e st.0.made
fresh_made w t k h (Decides i a x l) st f e = subst (λ y. w.made t y ≡ true) e (h.made i x st.1)
fresh_made w t k h (Checks i a x) st f e = subst (λ y. w.made t y ≡ true) e (h.made i x st.0)

-- the acting one has none of another's
module _ (w : Words) (t k : ℕ) (h : IsSound w t) (m : Moves w t k (w.stage t k) (w.stage (suc t) k)) where
  own_apart : (j : ℕ) → (j ≡ k → ⊥) → (f : Ref) → HasFresh (w.stage t j) f → HasFresh (w.stage (suc t) k) f → ⊥
  own_apart j other f theirs own =
      elim (fresh_before w t k (w.stage t k) (w.stage (suc t) k) m f own) [
        | inl before ↦ h.apart j k f other theirs before
        | inr new ↦ not_both (fresh_made w t j h.words (w.stage t j) (h.staged j) f theirs) new
      ]

  apart_by : ((j : ℕ) → (j ≡ k → ⊥) → w.stage (suc t) j ≡ w.stage t j) → (i j : ℕ) (f : Ref) → (i ≡ j → ⊥) → HasFresh (w.stage (suc t) i) f → HasFresh (w.stage (suc t) j) f →
      (i ≡ k) ⊎ (i ≡ k → ⊥) → (j ≡ k) ⊎ (j ≡ k → ⊥) → ⊥
  apart_by others i j f other x y (inl a) (inl b) = other (a ∙ sym b)
  apart_by others i j f other x y (inl a) (inr b) = own_apart j b f (subst (λ s. HasFresh s f) (others j b) y) (subst (λ q. HasFresh (w.stage (suc t) q) f) a x)
  apart_by others i j f other x y (inr a) (inl b) = own_apart i a f (subst (λ s. HasFresh s f) (others i a) x) (subst (λ q. HasFresh (w.stage (suc t) q) f) b y)
  apart_by others i j f other x y (inr a) (inr b) = h.apart i j f other (subst (λ s. HasFresh s f) (others i a) x) (subst (λ s. HasFresh s f) (others j b) y)

-- ---- a pending node stays in its word

stays_made : (w : Words) (t : ℕ) (n i : Ref) → Makes w t n → w.link t i ≡ true → (i ≡ n) ⊎ (i ≡ n → ⊥) → w.main (suc t) i ≡ w.main t i
stays_made w t n i e l (inl same) = absurd (not_both (subst (λ x. w.link t x ≡ true) same l) e.was_no_link)
stays_made w t n i e l (inr apart) = e.main i apart

module _ (w : Words) (t : ℕ) (i m p : Ref) (is : w.main t i ≡ m) (pend : w.prev t m ≡ over.Pending p) where
  stays_swapped : (j a f : Ref) → SwapsIn w t j a f → w.prev t a ≡ over.None → (i ≡ j) ⊎ (i ≡ j → ⊥) → w.main (suc t) i ≡ w.main t i
  stays_swapped j a f e n (inl same) =
      let is_replaced : m ≡ a = sym is ∙ ap (w.main t) same ∙ e.stood in
      absurd (none≢pending n (ap (w.prev t) (sym is_replaced) ∙ pend))
  stays_swapped j a f e n (inr apart) = e.main.elsewhere i apart

  stays_put_back : (j x q : Ref) → PutsBack w t j x q → w.prev t x ≡ over.Failed q → (i ≡ j) ⊎ (i ≡ j → ⊥) → w.main (suc t) i ≡ w.main t i
  stays_put_back j x q e failed (inl same) =
      let is_failed : m ≡ x = sym is ∙ ap (w.main t) same ∙ e.stood in
      absurd (pending≢failed pend (ap (w.prev t) is_failed ∙ failed))
  stays_put_back j x q e failed (inr apart) = e.main.elsewhere i apart

  word_kept : Effect w t → w.link t i ≡ true → w.main (suc t) i ≡ w.main t i
  word_kept (Nothing e) l = e.main i
  word_kept (Made n e s) l = stays_made w t n i e l (cases_eq i n)
  word_kept (SwappedIn j a f k e x d) l = stays_swapped j a f e d.none (cases_eq i j)
  word_kept (PutBack j x q k e failed s) l = stays_put_back j x q e failed (cases_eq i j)
  word_kept (Committed x q e) l = e.main i
  word_kept (Failed x q e) l = e.main i

pub word_stays : (w : Words) (t : ℕ) → Effect w t → (i m p : Ref) → w.link t i ≡ true → w.main t i ≡ m → w.prev t m ≡ over.Pending p → w.main (suc t) i ≡ m
word_stays w t e i m p l is pend = word_kept w t i m p is pend e l ∙ is

-- ---- each pending node has an owner

-- what the owner's own step leads to
pub record DecidingTurn (w : Words) (t : ℕ) (i a f : Ref) (l : ReadLine) (after : Stage) : Type 0 where
  pub out : After ReadLine Ref
  pub turn : ReadTurn w t i l out
  pub is : after ≡ after_deciding i a f out

pub deciding_turn : (w : Words) (t k : ℕ) (i a f : Ref) (l : ReadLine) (after : Stage) → Moves w t k (Decides i a f l) after → DecidingTurn w t i a f l after
deciding_turn w t k i a f l after (Idles e free r) = absurd free
deciding_turn w t k i a f l after (MakesNode n e free name have) = absurd free
deciding_turn w t k i a f l after (DecidesOn {out = out} r) = record { out = out; turn = r; is = refl }

-- while the node stays pending its owner's READ goes on to decide it
abbrev pub StaysDeciding : After ReadLine Ref → Ref → Ref → Type 0
StaysDeciding (Goes l) m p = IsDeciding l m p
StaysDeciding (Gives x) m p = ⊥

goes_on_deciding : (w : Words) (t : ℕ) (i m p : Ref) (l : ReadLine) (out : After ReadLine Ref) → ReadTurn w t i l out → IsDeciding l m p →
    w.prev t m ≡ over.Pending p → w.prev (suc t) m ≡ over.Pending p → StaysDeciding out m p
goes_on_deciding w t i m p l out (ReadsMain e k) d pend still = absurd d
goes_on_deciding w t i m p l out (FindsDecided e n) d pend still = none≢pending n (ap (w.prev t) d ∙ pend)
goes_on_deciding w t i m p l out (FindsFailed e n) d pend still = absurd (pending≢failed (ap (w.prev t) d ∙ pend) n)
goes_on_deciding w t i m p l out (FindsPending e n) d pend still = (d, same_pending n (ap (w.prev t) d ∙ pend))
goes_on_deciding w t i m p l out (DecidesAtOnce e n) d pend still = (d, same_pending n (ap (w.prev t) d ∙ pend))
goes_on_deciding w t i m p l out (Asks g e c) d pend still = d
goes_on_deciding w t i m p l out (FindsOffer offer e) d pend still = d
goes_on_deciding w t i m p l out (Aborts e) d pend still = d
goes_on_deciding w t i m p l out (Commits licence e) d pend still = none≢pending e.prev.here (ap (w.prev (suc t)) d.0 ∙ still)
goes_on_deciding w t i m p l out (Fails e) d pend still = absurd (pending≢failed (ap (w.prev (suc t)) d.0 ∙ still) e.prev.here)
goes_on_deciding w t i m p l out (Overtaken next e n which) d pend still = absurd (n (ap (w.prev t) d.0 ∙ pend ∙ ap over.Pending (sym d.1)))
goes_on_deciding w t i m p l out (Restores e) d pend still = d
goes_on_deciding w t i m p l out (FindsAnother e) d pend still = absurd d

owner_after : (w : Words) (t : ℕ) (e : Effect w t) (k : ℕ) (m p : Ref) (o : Owner w t m p) → o.actor ≡ k → w.prev t m ≡ over.Pending p →
    (out : After ReadLine Ref) → StaysDeciding out m p → w.stage (suc t) k ≡ after_deciding o.link p m out → Owner w (suc t) m p
owner_after w t e k m p o own pend (Goes l) d is = record {
  actor = k;
  link = o.link;
  line = l;
  stage = is;
  deciding = d;
  is_link = link_later w t e o.link o.is_link;
  stands = word_stays w t e o.link m p o.is_link o.stands pend;
}
owner_after w t e k m p o own pend (Gives x) d is = absurd d

owner_same : (w : Words) (t : ℕ) (e : Effect w t) (m p : Ref) (o : Owner w t m p) → w.stage (suc t) o.actor ≡ w.stage t o.actor → w.prev t m ≡ over.Pending p → Owner w (suc t) m p
owner_same w t e m p o same pend = record {
  actor = o.actor;
  link = o.link;
  line = o.line;
  stage = same ∙ o.stage;
  deciding = o.deciding;
  is_link = link_later w t e o.link o.is_link;
  stands = word_stays w t e o.link m p o.is_link o.stands pend;
}

-- the owner, by whether it acts
owner_stays : (w : Words) (t k : ℕ) → Effect w t → Moves w t k (w.stage t k) (w.stage (suc t) k) → ((j : ℕ) → (j ≡ k → ⊥) → w.stage (suc t) j ≡ w.stage t j) →
    (m p : Ref) (o : Owner w t m p) → w.prev t m ≡ over.Pending p → w.prev (suc t) m ≡ over.Pending p → (o.actor ≡ k) ⊎ (o.actor ≡ k → ⊥) → Owner w (suc t) m p
owner_stays w t k e moves others m p o pend still (inl own) =
    let stage : w.stage t k ≡ Decides o.link p m o.line = ap (w.stage t) (sym own) ∙ o.stage in
    let turn = deciding_turn w t k o.link p m o.line (w.stage (suc t) k) (subst (λ s. Moves w t k s (w.stage (suc t) k)) stage moves) in
    owner_after w t e k m p o own pend turn.out (goes_on_deciding w t o.link m p o.line turn.out turn.turn o.deciding pend still) turn.is
owner_stays w t k e moves others m p o pend still (inr other) = owner_same w t e m p o (others o.actor other) pend

-- the owner of a node that the step swaps in
pub record NewOwner (w : Words) (t : ℕ) (s after : Stage) (m p : Ref) : Type 0 where
  pub link : Ref
  pub before : s ≡ Publishes link p m
  pub stage : after ≡ Decides link p m (read.Prev m)
  pub is_link : w.link (suc t) link ≡ true
  pub stands : w.main (suc t) link ≡ m

swapped_owner : (w : Words) (t : ℕ) (i a f m p : Ref) → w.link t i ≡ true → SwapsIn w t i a f → w.prev t m ≡ over.None → w.prev (suc t) m ≡ over.Pending p →
    (m ≡ f) ⊎ (m ≡ f → ⊥) → NewOwner w t (Publishes i a f) (Decides i a f (read.Prev f)) m p
swapped_owner w t i a f m p l e n still (inl same) =
    let is_replaced : a ≡ p = same_pending e.prev.here (ap (w.prev (suc t)) (sym same) ∙ still) in
    record {
      link = i;
      before = ap (λ x. Publishes i x f) is_replaced ∙ ap (λ x. Publishes i p x) (sym same);
      stage = ap (λ x. Decides i x f (read.Prev f)) is_replaced ∙ ap (λ x. Decides i p x (read.Prev x)) (sym same);
      is_link = e.makes.link i ∙ l;
      stands = e.main.here ∙ sym same;
    }
swapped_owner w t i a f m p l e n still (inr apart) = absurd (none≢pending (e.prev.elsewhere m apart ∙ n) still)

new_owner : (w : Words) (t k : ℕ) (h : IsSound w t) (s after : Stage) → Staged w t k s → Moves w t k s after → (m p : Ref) → w.prev t m ≡ over.None →
    w.prev (suc t) m ≡ over.Pending p → NewOwner w t s after m p
new_owner w t k h s after st (Idles e x r) m p n still = absurd (none≢pending (e.prev m ∙ n) still)
new_owner w t k h s after st (MakesNode q e x name have) m p n still = absurd (none≢pending (e.prev m ∙ n) still)
new_owner w t k h s after st (SwapsNode {i} {a} {f} l e) m p n still = swapped_owner w t i a f m p l e n still (cases_eq m f)
new_owner w t k h s after st (ReadsOn {i} {l} {out} r) m p n still =
    absurd (none≢pending (none_after w t (read_effect w t h.words i l out st r) m (read_swaps w t h.words i l out st r m) n) still)
new_owner w t k h s after st (DecidesOn {i} {a} {f} {l} {out} r) m p n still =
    absurd (none≢pending (none_after w t (read_effect w t h.words i l out st.0 r) m (read_swaps w t h.words i l out st.0 r m) n) still)

owner_of_new : (w : Words) (t k : ℕ) (m p : Ref) → NewOwner w t (w.stage t k) (w.stage (suc t) k) m p → Owner w (suc t) m p
owner_of_new w t k m p o = record { actor = k; link = o.link; line = read.Prev m; stage = o.stage; deciding = refl; is_link = o.is_link; stands = o.stands }

-- who swaps a node in stood on the first line of that SWAP
pub swapper : (w : Words) (t : ℕ) → IsSound w t → Turn w t → (m p : Ref) → w.prev t m ≡ over.None → w.prev (suc t) m ≡ over.Pending p →
    (k : ℕ) × (i : Ref) × (w.stage t k ≡ Publishes i p m)
swapper w t h (Passes e same) m p n still = absurd (none≢pending (e.prev m ∙ n) still)
swapper w t h (Acts k moves counts same) m p n still =
    let o = new_owner w t k h (w.stage t k) (w.stage (suc t) k) (h.staged k) moves m p n still in
    (k, o.link, o.before)

owned_by : (w : Words) (t k : ℕ) (h : IsSound w t) (e : Effect w t) → Moves w t k (w.stage t k) (w.stage (suc t) k) →
    ((j : ℕ) → (j ≡ k → ⊥) → w.stage (suc t) j ≡ w.stage t j) → (m p : Ref) → w.prev (suc t) m ≡ over.Pending p → Becomes w t m → Owner w (suc t) m p
owned_by w t k h e moves others m p still (Same keeps) =
    let pend = sym keeps ∙ still in
    let o = h.owned m p pend in
    owner_stays w t k e moves others m p o pend still (cases_eq o.actor k)
owned_by w t k h e moves others m p still (GoesIn i a l x private d) =
    owner_of_new w t k m p (new_owner w t k h (w.stage t k) (w.stage (suc t) k) (h.staged k) moves m p private.none still)
owned_by w t k h e moves others m p still (IsCommitted q x) = absurd (none≢pending x.prev.here still)
owned_by w t k h e moves others m p still (IsFailed q x) = absurd (pending≢failed still x.prev.here)

-- ---- put together

staged_by : (w : Words) (t k : ℕ) (h : IsSound w t) (m : Moves w t k (w.stage t k) (w.stage (suc t) k)) →
    ((j : ℕ) → (j ≡ k → ⊥) → w.stage (suc t) j ≡ w.stage t j) → (j : ℕ) → (j ≡ k) ⊎ (j ≡ k → ⊥) → Staged w (suc t) j (w.stage (suc t) j)
staged_by w t k h m others j (inl same) =
    subst (λ q. Staged w (suc t) q (w.stage (suc t) q)) (sym same) (own_staged w t k h (w.stage t k) (w.stage (suc t) k) (h.staged k) m)
staged_by w t k h m others j (inr other) =
    let keeps = λ (f : Ref) (fresh : HasFresh (w.stage t j) f) (p : Private w t f).
    private_later w t k h (w.stage t k) (w.stage (suc t) k) (h.staged k) m f (λ own. h.apart j k f other fresh own) p in
    let e : Effect w t = effect_of w t k h (w.stage t k) (w.stage (suc t) k) (h.staged k) m in
    subst (λ s. Staged w (suc t) j s) (sym (others j other)) (staged_later w t e j (w.stage t j) keeps (h.staged j))

-- nothing happens
passed : (w : Words) (t : ℕ) → IsSound w t → Leaves w t → ((j : ℕ) → w.stage (suc t) j ≡ w.stage t j) → IsSound w (suc t)
passed w t h e same = record {
  words = sound_later w t h.words (Nothing e);
  given = λ k i m g. given_decided w t h (Nothing e) k i m g;
  staged = λ j. subst (λ s. Staged w (suc t) j s) (sym (same j)) (staged_later w t (Nothing e) j (w.stage t j) (λ f fresh p. still_private f p) (h.staged j));
  owned = λ m p still. let pend = sym (e.prev m) ∙ still in let o = h.owned m p pend in owner_same w t (Nothing e) m p o (same o.actor) pend;
  apart = λ i j f other x y. h.apart i j f other (subst (λ s. HasFresh s f) (same i) x) (subst (λ s. HasFresh s f) (same j) y);
}
  where
    still_private : (f : Ref) → Private w t f → Private w (suc t) f
    still_private f p = private_later w t 0 h Rests Rests tt (Idles e tt tt) f (λ x. x) p

pub effect_at : (w : Words) (t : ℕ) → IsSound w t → Turn w t → Effect w t
effect_at w t h (Acts k m counts others) = effect_of w t k h (w.stage t k) (w.stage (suc t) k) (h.staged k) m
effect_at w t h (Passes e same) = Nothing e

sound_after : (w : Words) (t : ℕ) → IsSound w t → Turn w t → IsSound w (suc t)
sound_after w t h (Passes e same) = passed w t h e (λ j. (same j).stage)
sound_after w t h (Acts k m counts same) =
    let others = λ (j : ℕ) (other : j ≡ k → ⊥). (same j other).stage in
    let e : Effect w t = effect_of w t k h (w.stage t k) (w.stage (suc t) k) (h.staged k) m in
    record {
      words = sound_later w t h.words e;
      given = λ j i x g. given_decided w t h e j i x g;
      staged = λ j. staged_by w t k h m others j (cases_eq j k);
      owned = λ x p still. owned_by w t k h e m others x p still (becomes w t e x);
      apart = λ i j f other x y. apart_by w t k h m others i j f other x y (cases_eq i k) (cases_eq j k);
    }

-- at first all nodes are decided and all actors rest
first_sound : (p : Protocol) → IsSound p.words zero
first_sound p = record {
  words = record {
    made = λ i m s. made_first i m s;
    link = λ i m s. subst (λ u. p.words.link u i ≡ true) (at_zero s.at s.past) s.link;
    one_word = λ m i j none s r. absurd (none (p.first_decided m));
    over = λ m q o. absurd (over_none _ q (p.first_decided m) o);
  };
  given = λ k i m g. absurd (omega (arith, g.past));
  staged = λ k. subst (λ s. Staged p.words zero k s) (sym (p.first_stage k)) tt;
  owned = λ m q pend. absurd (none≢pending (p.first_decided m) pend);
  apart = λ j k f other x y. absurd (subst (λ s. HasFresh s f) (p.first_stage j) x);
}
  where
    at_zero : (a : ℕ) → a ≤ zero → a ≡ zero
    at_zero a h = omega arith

    made_first : (i m : Ref) → Stood p.words zero i m → p.words.made zero m ≡ true
    made_first i m s =
        let now = at_zero s.at s.past in
        subst (λ x. p.words.made zero x ≡ true) (subst (λ u. p.words.main u i ≡ m) now s.is)
        (p.first_made i (subst (λ u. p.words.link u i ≡ true) now s.link))

pub sound_at : (p : Protocol) (t : ℕ) → t ≤ p.last → IsSound p.words t
sound_at p zero h = first_sound p
sound_at p (suc t) h = sound_after p.words t (sound_at p t (omega arith)) (p.turn t h)
