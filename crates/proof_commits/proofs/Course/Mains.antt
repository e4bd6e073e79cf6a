-- How logical main nodes change, over whole runs: by commits alone, from the replaced node to the fresh one of the owner.
use Rattle.std.proofs.Common.{◌≡◌, ℕ, suc, ◌<◌, ◌≤◌, ◌⊎◌, true, inl, inr, refl, sym, ◌∙◌, ap, subst, arith}
use Rattle.std.proofs.lemmas.Bool.{cases_eq}
use Rattle.proof_commits.specs.Vocabulary.{Ref, Prev, logical}
use Rattle.proof_commits.specs.Beneath.slot_arena.specs.declared.nodes.Prev.TheVariants as over
use Rattle.proof_commits.specs.Protocol.{Words, logical_at, Makes, SwapsIn, PutsBack, CommitsNode, FailsNode, Protocol}
use Rattle.proof_commits.proofs.Words.Stood.{Stood, Decided, AreSound, stands_now, stood_still, none≢pending, over_pending, over_failed, not_both}
use Rattle.proof_commits.proofs.Words.Effects.{Effect, Nothing, Made, SwappedIn, PutBack, Committed, Failed, stood_below}
use Rattle.proof_commits.proofs.Known.Sounds.{sound_at}
use Rattle.proof_commits.proofs.Course.Finals.{effect, none_final, link_stays, from_time}

-- the logical main node, by the prev word of the node that stands there
pub main_when_none : (w : Words) (t : ℕ) (i m : Ref) → w.main t i ≡ m → w.prev t m ≡ over.None → logical_at w t i ≡ m
main_when_none w t i m is n = ap (λ x. logical x (w.prev t x)) is ∙ ap (logical m) n

pub main_when_pending : (w : Words) (t : ℕ) (i m p : Ref) → w.main t i ≡ m → w.prev t m ≡ over.Pending p → logical_at w t i ≡ p
main_when_pending w t i m p is e = ap (λ x. logical x (w.prev t x)) is ∙ ap (logical m) e

pub main_when_failed : (w : Words) (t : ℕ) (i m p : Ref) → w.main t i ≡ m → w.prev t m ≡ over.Failed p → logical_at w t i ≡ p
main_when_failed w t i m p is e = ap (λ x. logical x (w.prev t x)) is ∙ ap (logical m) e

-- it is decided, and once stood in the word
main_decided_by : (w : Words) (t : ℕ) → AreSound w t → (i : Ref) → w.link t i ≡ true → (v : Prev) → w.prev t (w.main t i) ≡ v → Decided w t i (logical_at w t i)
main_decided_by w t h i l over.None e =
    subst (λ x. Decided w t i x) (sym (main_when_none w t i (w.main t i) refl e)) (record { stood = stands_now l refl; none = e })
main_decided_by w t h i l (over.Pending p) e =
    let below = h.over (w.main t i) p (over_pending e) in
    let same = h.one_word (w.main t i) below.link i (λ none. none≢pending none e) below.stood (stands_now l refl) in
    subst (λ x. Decided w t i x) (sym (main_when_pending w t i (w.main t i) p refl e))
    (record { stood = subst (λ j. Stood w t j p) same below.before; none = below.none })
main_decided_by w t h i l (over.Failed p) e =
    let below = h.over (w.main t i) p (over_failed e) in
    subst (λ x. Decided w t i x) (sym (main_when_failed w t i (w.main t i) p refl e))
    (record { stood = stood_below w t h i (w.main t i) p e (stands_now l refl); none = below.none })

pub main_decided : (w : Words) (t : ℕ) → AreSound w t → (i : Ref) → w.link t i ≡ true → Decided w t i (logical_at w t i)
main_decided w t h i l = main_decided_by w t h i l (w.prev t (w.main t i)) refl

-- ---- one step

-- a commit of the node that stands in this word
pub record CommitsMain (w : Words) (t : ℕ) (i : Ref) : Type 0 where
  pub fresh : Ref
  pub replaced : Ref
  pub commits : CommitsNode w t fresh replaced
  pub stands : w.main t i ≡ fresh
  pub before : logical_at w t i ≡ replaced
  pub after : logical_at w (suc t) i ≡ fresh

pub data MainStep (w : Words) (t : ℕ) (i : Ref) : Type 0 where
  MainStays : logical_at w (suc t) i ≡ logical_at w t i → MainStep w t i
  MainChanges : CommitsMain w t i → MainStep w t i

-- where its words stay
same_main : (w : Words) (t : ℕ) (i : Ref) → w.main (suc t) i ≡ w.main t i → w.prev (suc t) (w.main t i) ≡ w.prev t (w.main t i) → MainStep w t i
same_main w t i e p = MainStays (ap (λ x. logical x (w.prev (suc t) x)) e ∙ ap (logical (w.main t i)) p)

made_step : (w : Words) (t : ℕ) (n i : Ref) → Makes w t n → w.link t i ≡ true → (i ≡ n) ⊎ (i ≡ n → ⊥) → MainStep w t i
made_step w t n i e l (inl same) = absurd (not_both (subst (λ x. w.link t x ≡ true) same l) e.was_no_link)
made_step w t n i e l (inr apart) = same_main w t i (e.main i apart) (e.prev (w.main t i))

swapped_step : (w : Words) (t : ℕ) (j a f i : Ref) → w.link t i ≡ true → SwapsIn w t j a f → w.prev t a ≡ over.None → ((q : Ref) → Stood w t q f → ⊥) →
    (i ≡ j) ⊎ (i ≡ j → ⊥) → (w.main t i ≡ f) ⊎ (w.main t i ≡ f → ⊥) → MainStep w t i
swapped_step w t j a f i l e n new (inl same) other =
    let was : w.main t i ≡ a = ap (w.main t) same ∙ e.stood in
    let now : w.main (suc t) i ≡ f = ap (w.main (suc t)) same ∙ e.main.here in
    MainStays (main_when_pending w (suc t) i f a now e.prev.here ∙ sym (main_when_none w t i a was n))
swapped_step w t j a f i l e n new (inr apart) (inl is) = absurd (new i (stands_now l is))
swapped_step w t j a f i l e n new (inr apart) (inr other) = same_main w t i (e.main.elsewhere i apart) (e.prev.elsewhere (w.main t i) other)

put_back_step : (w : Words) (t : ℕ) (j x p i : Ref) → PutsBack w t j x p → w.prev t x ≡ over.Failed p → w.prev t p ≡ over.None → (i ≡ j) ⊎ (i ≡ j → ⊥) → MainStep w t i
put_back_step w t j x p i e failed n (inl same) =
    let was : w.main t i ≡ x = ap (w.main t) same ∙ e.stood in
    let now : w.main (suc t) i ≡ p = ap (w.main (suc t)) same ∙ e.main.here in
    MainStays (main_when_none w (suc t) i p now (e.prev p ∙ n) ∙ sym (main_when_failed w t i x p was failed))
put_back_step w t j x p i e failed n (inr apart) = same_main w t i (e.main.elsewhere i apart) (e.prev (w.main t i))

committed_step : (w : Words) (t : ℕ) (m p i : Ref) → CommitsNode w t m p → (w.main t i ≡ m) ⊎ (w.main t i ≡ m → ⊥) → MainStep w t i
committed_step w t m p i e (inl is) = MainChanges (record {
  fresh = m;
  replaced = p;
  commits = e;
  stands = is;
  before = main_when_pending w t i m p is e.was;
  after = main_when_none w (suc t) i m (e.main i ∙ is) e.prev.here;
})
committed_step w t m p i e (inr other) = same_main w t i (e.main i) (e.prev.elsewhere (w.main t i) other)

failed_step : (w : Words) (t : ℕ) (m p i : Ref) → FailsNode w t m p → (w.main t i ≡ m) ⊎ (w.main t i ≡ m → ⊥) → MainStep w t i
failed_step w t m p i e (inl is) =
    MainStays (main_when_failed w (suc t) i m p (e.main i ∙ is) e.prev.here ∙ sym (main_when_pending w t i m p is e.was))
failed_step w t m p i e (inr other) = same_main w t i (e.main i) (e.prev.elsewhere (w.main t i) other)

main_step_by : (w : Words) (t : ℕ) → AreSound w t → Effect w t → (i : Ref) → w.link t i ≡ true → MainStep w t i
main_step_by w t h (Nothing e) i l = same_main w t i (e.main i) (e.prev (w.main t i))
main_step_by w t h (Made n e s) i l = made_step w t n i e l (cases_eq i n)
main_step_by w t h (SwappedIn j a f k e x d) i l = swapped_step w t j a f i l e d.none x.apart (cases_eq i j) (cases_eq (w.main t i) f)
main_step_by w t h (PutBack j x p k e failed s) i l = put_back_step w t j x p i e failed (h.over x p (over_failed failed)).none (cases_eq i j)
main_step_by w t h (Committed m p e) i l = committed_step w t m p i e (cases_eq (w.main t i) m)
main_step_by w t h (Failed m p e) i l = failed_step w t m p i e (cases_eq (w.main t i) m)

-- the logical main node of an indirection changes only where a step commits the node that stands in its word
pub main_step : (p : Protocol) (t : ℕ) → t < p.last → (i : Ref) → p.words.link t i ≡ true → MainStep p.words t i
main_step p t h i l = main_step_by p.words t (sound_at p t (omega arith)).words (effect p t h) i l

-- ---- a node that was replaced never comes back

-- a decided node that stood in the word and isn't the logical main node isn't one a step later
not_next : (p : Protocol) (i m : Ref) (t : ℕ) → t < p.last → Decided p.words t i m → (logical_at p.words t i ≡ m → ⊥) → MainStep p.words t i → logical_at p.words (suc t) i ≡ m → ⊥
not_next p i m t h d other (MainStays e) is = other (sym e ∙ is)
not_next p i m t h d other (MainChanges c) is =
    let same : m ≡ c.fresh = sym is ∙ c.after in
    none≢pending d.none (ap (p.words.prev t) same ∙ c.commits.was)

decided_at : (p : Protocol) (i m : Ref) (t u : ℕ) → t ≤ u → u ≤ p.last → Decided p.words t i m → Decided p.words u i m
decided_at p i m t u h within d = record { stood = stood_still h d.stood; none = none_final p i m t u h within d.stood d.none }

pub never_back : (p : Protocol) (i m : Ref) (t : ℕ) → Decided p.words t i m → (logical_at p.words t i ≡ m → ⊥) → p.words.link t i ≡ true → (u : ℕ) → t ≤ u → u ≤ p.last →
    logical_at p.words u i ≡ m → ⊥
never_back p i m t d other l =
    from_time (λ v. logical_at p.words v i ≡ m → ⊥) t p.last other
    (λ v before within so_far. not_next p i m v within (decided_at p i m t v before (omega arith) d) so_far
    (main_step p v within i (link_stays p i t v before (omega arith) l)))

-- the same of what was the logical main node
pub replaced_for_good : (p : Protocol) (i m : Ref) (t u v : ℕ) → t ≤ u → u ≤ v → v ≤ p.last → p.words.link t i ≡ true → logical_at p.words t i ≡ m →
    (logical_at p.words u i ≡ m → ⊥) → logical_at p.words v i ≡ m → ⊥
replaced_for_good p i m t u v h k within l was other =
    let d : Decided p.words t i m = subst (λ x. Decided p.words t i x) was (main_decided p.words t (sound_at p t (omega arith)).words i l) in
    never_back p i m u (decided_at p i m t u h (omega arith) d) other (link_stays p i t u h (omega arith) l) v k within
