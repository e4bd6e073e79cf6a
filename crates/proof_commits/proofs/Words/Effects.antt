-- What one step does to words, with what is known of the nodes that it writes; and that what is known of words stays known.
use Rattle.std.proofs.Common.{◌≡◌, ℕ, suc, ◌⊎◌, true, inl, inr, sym, ◌∙◌, ap, subst}
use Rattle.std.proofs.lemmas.Bool.{cases_eq}
use Rattle.proof_commits.specs.Vocabulary.{Ref}
use Rattle.proof_commits.specs.Beneath.slot_arena.specs.declared.nodes.Prev.TheVariants as over
use Rattle.proof_commits.specs.Protocol.{Words, Leaves, Makes, SwapsIn, PutsBack, CommitsNode, FailsNode}
use Rattle.proof_commits.proofs.Words.Stood.{Stood, Decided, Private, IsOver, StandsOver, AreSound, stood_later, stands_now, stood_cases, none≢pending, pending≢failed}
use Rattle.proof_commits.proofs.Words.Stood.{same_pending, over_pending, over_failed, over_none, not_both}
use Rattle.proof_memory.specs.Wants.{is_indirection}
use Rattle.proof_commits.specs.Beneath.machine_model.proofs.Basics.{none≢failed}

-- a node that a new indirection may name
pub record IsSettled (w : Words) (t : ℕ) (m : Ref) : Type 0 where
  pub made : w.made t m ≡ true
  pub none : w.prev t m ≡ over.None

pub data Effect (w : Words) (t : ℕ) : Type 0 where
  Nothing : Leaves w t → Effect w t
  Made : (n : Ref) → Makes w t n → (w.link (suc t) n ≡ true → IsSettled w t (w.main (suc t) n)) → Effect w t
  SwappedIn : (i a f : Ref) → w.link t i ≡ true → SwapsIn w t i a f → Private w t f → Decided w t i a → Effect w t
  PutBack : (i m p : Ref) → w.link t i ≡ true → PutsBack w t i m p → w.prev t m ≡ over.Failed p → Stood w t i m → Effect w t
  Committed : (m p : Ref) → CommitsNode w t m p → Effect w t
  Failed : (m p : Ref) → FailsNode w t m p → Effect w t

-- ---- what was made, and what is an indirection, stays so

-- by where it is
made_beside : (w : Words) (t : ℕ) (n : Ref) → Makes w t n → (q : Ref) → (q ≡ n) ⊎ (q ≡ n → ⊥) → w.made t q ≡ true → w.made (suc t) q ≡ true
made_beside w t n e q (inl same) h = subst (λ x. w.made (suc t) x ≡ true) (sym same) e.is_made
made_beside w t n e q (inr apart) h = e.made q apart ∙ h

pub made_later : (w : Words) (t : ℕ) → Effect w t → (q : Ref) → w.made t q ≡ true → w.made (suc t) q ≡ true
made_later w t (Nothing e) q h = e.makes.made q ∙ h
made_later w t (Made n e s) q h = made_beside w t n e q (cases_eq q n) h
made_later w t (SwappedIn i a f l e p d) q h = e.makes.made q ∙ h
made_later w t (PutBack i m p l e x s) q h = e.makes.made q ∙ h
made_later w t (Committed m p e) q h = e.makes.made q ∙ h
made_later w t (Failed m p e) q h = e.makes.made q ∙ h

link_beside : (w : Words) (t : ℕ) (n : Ref) → Makes w t n → (q : Ref) → (q ≡ n) ⊎ (q ≡ n → ⊥) → w.link t q ≡ true → w.link (suc t) q ≡ true
link_beside w t n e q (inl same) h = absurd (not_both (subst (λ x. w.link t x ≡ true) same h) e.was_no_link)
link_beside w t n e q (inr apart) h = e.link q apart ∙ h

pub link_later : (w : Words) (t : ℕ) → Effect w t → (q : Ref) → w.link t q ≡ true → w.link (suc t) q ≡ true
link_later w t (Nothing e) q h = e.makes.link q ∙ h
link_later w t (Made n e s) q h = link_beside w t n e q (cases_eq q n) h
link_later w t (SwappedIn i a f l e p d) q h = e.makes.link q ∙ h
link_later w t (PutBack i m p l e x s) q h = e.makes.link q ∙ h
link_later w t (Committed m p e) q h = e.makes.link q ∙ h
link_later w t (Failed m p e) q h = e.makes.link q ∙ h

-- ---- what stands in a word afterwards

-- the step brings this node into this word: where it makes an indirection or swaps a node in
abbrev pub Brings : (w : Words) (t : ℕ) → Effect w t → Ref → Ref → Type 0
Brings w t (Made n e s) q m = (n ≡ q) × (w.link (suc t) n ≡ true) × (w.main (suc t) n ≡ m)
Brings w t (SwappedIn i a f l e p d) q m = (i ≡ q) × (f ≡ m)
Brings w t e q m = ⊥

-- what stands now stood before where no word changes
as_before : (w : Words) (t : ℕ) (q m : Ref) → w.main (suc t) q ≡ w.main t q → w.link (suc t) q ≡ w.link t q → w.link (suc t) q ≡ true →
    w.main (suc t) q ≡ m → Stood w t q m
as_before w t q m keeps keeps_link l e = stands_now (sym keeps_link ∙ l) (sym keeps ∙ e)

made_now : (w : Words) (t : ℕ) (n : Ref) (e : Makes w t n) (s : w.link (suc t) n ≡ true → IsSettled w t (w.main (suc t) n)) (q m : Ref) →
    (q ≡ n) ⊎ (q ≡ n → ⊥) → w.link (suc t) q ≡ true → w.main (suc t) q ≡ m → Stood w t q m ⊎ Brings w t (Made n e s) q m
made_now w t n e s q m (inl same) l h = inr (sym same, subst (λ x. w.link (suc t) x ≡ true) same l, ap (w.main (suc t)) (sym same) ∙ h)
made_now w t n e s q m (inr apart) l h = inl (as_before w t q m (e.main q apart) (e.link q apart) l h)

swapped_now : (w : Words) (t : ℕ) (i a f : Ref) → SwapsIn w t i a f → (q m : Ref) → (q ≡ i) ⊎ (q ≡ i → ⊥) → w.link (suc t) q ≡ true →
    w.main (suc t) q ≡ m → Stood w t q m ⊎ ((i ≡ q) × (f ≡ m))
swapped_now w t i a f e q m (inl same) l h = inr (sym same, sym e.main.here ∙ ap (w.main (suc t)) (sym same) ∙ h)
swapped_now w t i a f e q m (inr apart) l h = inl (as_before w t q m (e.main.elsewhere q apart) (e.makes.link q) l h)

put_back_now : (w : Words) (t : ℕ) (i x p : Ref) → PutsBack w t i x p → Stood w t i p → (q m : Ref) → (q ≡ i) ⊎ (q ≡ i → ⊥) →
    w.link (suc t) q ≡ true → w.main (suc t) q ≡ m → Stood w t q m
put_back_now w t i x p e s q m (inl same) l h =
    let is_put : p ≡ m = sym e.main.here ∙ ap (w.main (suc t)) (sym same) ∙ h in
    subst (λ y. Stood w t y m) (sym same) (subst (λ y. Stood w t i y) is_put s)
put_back_now w t i x p e s q m (inr apart) l h = as_before w t q m (e.main.elsewhere q apart) (e.makes.link q) l h

-- what a failed node stands over stood in the very word of that node
pub stood_below : (w : Words) (t : ℕ) → AreSound w t → (i m p : Ref) → w.prev t m ≡ over.Failed p → Stood w t i m → Stood w t i p
stood_below w t h i m p failed s =
    let below = h.over m p (over_failed failed) in
    subst (λ j. Stood w t j p) (h.one_word m below.link i (λ none. none≢failed none failed) below.stood s) below.before

comes_now : (w : Words) (t : ℕ) → AreSound w t → (e : Effect w t) (q m : Ref) → w.link (suc t) q ≡ true → w.main (suc t) q ≡ m →
    Stood w t q m ⊎ Brings w t e q m
comes_now w t h (Nothing e) q m l s = inl (as_before w t q m (e.main q) (e.makes.link q) l s)
comes_now w t h (Made n e settled) q m l s = made_now w t n e settled q m (cases_eq q n) l s
comes_now w t h (SwappedIn i a f is_indirection e p d) q m l s = swapped_now w t i a f e q m (cases_eq q i) l s
comes_now w t h (PutBack i x p is_indirection e failed st) q m l s =
    inl (put_back_now w t i x p e (stood_below w t h i x p failed st) q m (cases_eq q i) l s)
comes_now w t h (Committed x p e) q m l s = inl (as_before w t q m (e.main q) (e.makes.link q) l s)
comes_now w t h (Failed x p e) q m l s = inl (as_before w t q m (e.main q) (e.makes.link q) l s)

comes_by : (w : Words) (t : ℕ) → AreSound w t → (e : Effect w t) (q m : Ref) → Stood w t q m ⊎ ((w.link (suc t) q ≡ true) × (w.main (suc t) q ≡ m)) →
    Stood w t q m ⊎ Brings w t e q m
comes_by w t h e q m (inl s) = inl s
comes_by w t h e q m (inr now) = comes_now w t h e q m now.0 now.1

-- what stood in a word by the next time stood there before, or is brought there
pub comes : (w : Words) (t : ℕ) → AreSound w t → (e : Effect w t) (q m : Ref) → Stood w (suc t) q m → Stood w t q m ⊎ Brings w t e q m
comes w t h e q m s = comes_by w t h e q m (stood_cases w t q m s)

-- ---- prev words afterwards

-- how a prev word came about
pub data Becomes (w : Words) (t : ℕ) (m : Ref) : Type 0 where
  Same : w.prev (suc t) m ≡ w.prev t m → Becomes w t m
  GoesIn : (i a : Ref) → w.link t i ≡ true → SwapsIn w t i a m → Private w t m → Decided w t i a → Becomes w t m
  IsCommitted : (p : Ref) → CommitsNode w t m p → Becomes w t m
  IsFailed : (p : Ref) → FailsNode w t m p → Becomes w t m

becomes_swapped : (w : Words) (t : ℕ) (i a f : Ref) → w.link t i ≡ true → SwapsIn w t i a f → Private w t f → Decided w t i a → (m : Ref) →
    (m ≡ f) ⊎ (m ≡ f → ⊥) → Becomes w t m
becomes_swapped w t i a f l e p d m (inl same) = subst (λ x. Becomes w t x) (sym same) (GoesIn i a l e p d)
becomes_swapped w t i a f l e p d m (inr apart) = Same (e.prev.elsewhere m apart)

becomes_committed : (w : Words) (t : ℕ) (x p : Ref) → CommitsNode w t x p → (m : Ref) → (m ≡ x) ⊎ (m ≡ x → ⊥) → Becomes w t m
becomes_committed w t x p e m (inl same) = subst (λ y. Becomes w t y) (sym same) (IsCommitted p e)
becomes_committed w t x p e m (inr apart) = Same (e.prev.elsewhere m apart)

becomes_failed : (w : Words) (t : ℕ) (x p : Ref) → FailsNode w t x p → (m : Ref) → (m ≡ x) ⊎ (m ≡ x → ⊥) → Becomes w t m
becomes_failed w t x p e m (inl same) = subst (λ y. Becomes w t y) (sym same) (IsFailed p e)
becomes_failed w t x p e m (inr apart) = Same (e.prev.elsewhere m apart)

pub becomes : (w : Words) (t : ℕ) → Effect w t → (m : Ref) → Becomes w t m
becomes w t (Nothing e) m = Same (e.prev m)
becomes w t (Made n e s) m = Same (e.prev m)
becomes w t (SwappedIn i a f l e p d) m = becomes_swapped w t i a f l e p d m (cases_eq m f)
becomes w t (PutBack i x p l e failed s) m = Same (e.prev m)
becomes w t (Committed x p e) m = becomes_committed w t x p e m (cases_eq m x)
becomes w t (Failed x p e) m = becomes_failed w t x p e m (cases_eq m x)

-- ---- then: a decided node that stood in a word stays decided

none_by : (w : Words) (t : ℕ) (i m : Ref) → Stood w t i m → w.prev t m ≡ over.None → Becomes w t m → w.prev (suc t) m ≡ over.None
none_by w t i m s n (Same e) = e ∙ n
none_by w t i m s n (GoesIn j a l e p d) = absurd (p.apart i s)
none_by w t i m s n (IsCommitted p e) = e.prev.here
none_by w t i m s n (IsFailed p e) = absurd (none≢pending n e.was)

pub none_later : (w : Words) (t : ℕ) → Effect w t → (i m : Ref) → Stood w t i m → w.prev t m ≡ over.None → w.prev (suc t) m ≡ over.None
none_later w t e i m s n = none_by w t i m s n (becomes w t e m)

-- a failed one stays failed

failed_by : (w : Words) (t : ℕ) (m p : Ref) → w.prev t m ≡ over.Failed p → Becomes w t m → w.prev (suc t) m ≡ over.Failed p
failed_by w t m p f (Same e) = e ∙ f
failed_by w t m p f (GoesIn j a l e x d) = absurd (none≢failed x.none f)
failed_by w t m p f (IsCommitted q e) = absurd (pending≢failed e.was f)
failed_by w t m p f (IsFailed q e) = absurd (pending≢failed e.was f)

pub failed_later : (w : Words) (t : ℕ) → Effect w t → (m p : Ref) → w.prev t m ≡ over.Failed p → w.prev (suc t) m ≡ over.Failed p
failed_later w t e m p f = failed_by w t m p f (becomes w t e m)

-- and a pending one stays pending, or is decided

pub data GoesOn (w : Words) (t : ℕ) (m p : Ref) : Type 0 where
  StaysPending : w.prev (suc t) m ≡ over.Pending p → GoesOn w t m p
  GetsCommitted : CommitsNode w t m p → GoesOn w t m p
  GetsFailed : FailsNode w t m p → GoesOn w t m p

goes_by : (w : Words) (t : ℕ) (m p : Ref) → w.prev t m ≡ over.Pending p → Becomes w t m → GoesOn w t m p
goes_by w t m p h (Same e) = StaysPending (e ∙ h)
goes_by w t m p h (GoesIn j a l e x d) = absurd (none≢pending x.none h)
goes_by w t m p h (IsCommitted q e) = GetsCommitted (subst (λ x. CommitsNode w t m x) (same_pending e.was h) e)
goes_by w t m p h (IsFailed q e) = GetsFailed (subst (λ x. FailsNode w t m x) (same_pending e.was h) e)

pub goes_on : (w : Words) (t : ℕ) → Effect w t → (m p : Ref) → w.prev t m ≡ over.Pending p → GoesOn w t m p
goes_on w t e m p h = goes_by w t m p h (becomes w t e m)

-- ---- what is known of words stays known

made_by : (w : Words) (t : ℕ) → AreSound w t → (e : Effect w t) (i m : Ref) → Stood w t i m ⊎ Brings w t e i m → w.made (suc t) m ≡ true
made_by w t h e i m (inl s) = made_later w t e m (h.made i m s)
made_by w t h (Made n e s) i m (inr (same, l, is)) = made_later w t (Made n e s) m (subst (λ x. w.made t x ≡ true) is (s l).made)
made_by w t h (SwappedIn j a f l e p d) i m (inr (same, is)) = made_later w t (SwappedIn j a f l e p d) m (subst (λ x. w.made t x ≡ true) is p.made)
made_by w t h e i m (inr wrong) = absurd wrong

link_by : (w : Words) (t : ℕ) → AreSound w t → (e : Effect w t) (i m : Ref) → Stood w t i m ⊎ Brings w t e i m → w.link (suc t) i ≡ true
link_by w t h e i m (inl s) = link_later w t e i (h.link i m s)
link_by w t h (Made n e s) i m (inr (same, l, is)) = subst (λ x. w.link (suc t) x ≡ true) same l
link_by w t h (SwappedIn j a f l e p d) i m (inr (same, is)) = subst (λ x. w.link (suc t) x ≡ true) same (link_later w t (SwappedIn j a f l e p d) j l)
link_by w t h e i m (inr wrong) = absurd wrong

-- what isn't decided afterwards and is brought into a word is the node that is swapped in: it stood nowhere before
brought_fresh : (w : Words) (t : ℕ) (e : Effect w t) (i m : Ref) → (w.prev (suc t) m ≡ over.None → ⊥) → Brings w t e i m → (j : Ref) → Stood w t j m → ⊥
brought_fresh w t (Made n e s) i m none (same, l, is) j st = none (e.prev m ∙ subst (λ x. w.prev t x ≡ over.None) is (s l).none)
brought_fresh w t (SwappedIn q a f l e p d) i m none (same, is) j st = p.apart j (subst (λ x. Stood w t j x) (sym is) st)
brought_fresh w t e i m none wrong j st = wrong

brought_once : (w : Words) (t : ℕ) (e : Effect w t) (i j m : Ref) → (w.prev (suc t) m ≡ over.None → ⊥) → Brings w t e i m → Brings w t e j m → i ≡ j
brought_once w t (Made n e s) i j m none (same, l, is) (same', l', is') = sym same ∙ same'
brought_once w t (SwappedIn q a f l e p d) i j m none (same, is) (same', is') = sym same ∙ same'
brought_once w t e i j m none wrong other = absurd wrong

one_word_by : (w : Words) (t : ℕ) → AreSound w t → (e : Effect w t) (m i j : Ref) → (w.prev (suc t) m ≡ over.None → ⊥) →
    Stood w t i m ⊎ Brings w t e i m → Stood w t j m ⊎ Brings w t e j m → i ≡ j
one_word_by w t h e m i j n (inl s) (inl r) = h.one_word m i j (λ none. n (none_later w t e i m s none)) s r
one_word_by w t h e m i j n (inl s) (inr r) = absurd (brought_fresh w t e j m n r i s)
one_word_by w t h e m i j n (inr s) (inl r) = absurd (brought_fresh w t e i m n s j r)
one_word_by w t h e m i j n (inr s) (inr r) = brought_once w t e i j m n s r

-- the same nodes stand over each other
over_still : (w : Words) (t : ℕ) → Effect w t → (m p : Ref) → StandsOver w t m p → StandsOver w (suc t) m p
over_still w t e m p s = record { none = none_later w t e s.link p s.before s.none; link = s.link; stood = stood_later s.stood; before = stood_later s.before }

-- a node that was swapped in stands over the one that it replaced
over_swapped : (w : Words) (t : ℕ) → Effect w t → (i a m : Ref) → w.link t i ≡ true → SwapsIn w t i a m → Decided w t i a → StandsOver w (suc t) m a
over_swapped w t e i a m l x d =
    record { none = none_later w t e i a d.stood d.none; link = i; stood = stands_now (x.makes.link i ∙ l) x.main.here; before = stood_later d.stood }

over_by : (w : Words) (t : ℕ) → AreSound w t → Effect w t → (m p : Ref) → IsOver (w.prev (suc t) m) p → Becomes w t m → StandsOver w (suc t) m p
over_by w t h e m p o (Same k) = over_still w t e m p (h.over m p (subst (λ v. IsOver v p) k o))
over_by w t h e m p o (GoesIn i a l x f d) =
    subst (λ q. StandsOver w (suc t) m q) (subst (λ v. IsOver v p) x.prev.here o) (over_swapped w t e i a m l x d)
over_by w t h e m p o (IsCommitted q x) = absurd (over_none _ p x.prev.here o)
over_by w t h e m p o (IsFailed q x) =
    over_still w t e m p (h.over m p (subst (λ y. IsOver (w.prev t m) y) (subst (λ v. IsOver v p) x.prev.here o) (over_pending x.was)))

pub sound_later : (w : Words) (t : ℕ) → AreSound w t → Effect w t → AreSound w (suc t)
sound_later w t h e = record {
  made = λ i m s. made_by w t h e i m (comes w t h e i m s);
  link = λ i m s. link_by w t h e i m (comes w t h e i m s);
  one_word = λ m i j n s r. one_word_by w t h e m i j n (comes w t h e i m s) (comes w t h e j m r);
  over = λ m p o. over_by w t h e m p o (becomes w t e m);
}
