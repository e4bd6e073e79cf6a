-- A ROOT comes to its first line where no offer stands, where one actor alone takes steps: it completes the one offer that may stand.
use Rattle.std.proofs.Common.{◌≡◌, ℕ, suc, ◌+◌, ◌*◌, ◌<◌, ◌≤◌, Option, refl, sym, ap, ◌∙◌, subst, arith}
use Rattle.proof_obstruction_free.specs.Vocabulary.{Ref, Line, Operation, CompleteLine, Descriptor, RootLine, RootWord, Plain, Offer, handle_of, State, word_at, root_action, after_root_word}
use Rattle.proof_obstruction_free.specs.Vocabulary.{settles}
use Rattle.proof_obstruction_free.specs.Beneath.machine_model.specs.declared.reading.ReadLine.TheVariants as read
use Rattle.proof_obstruction_free.specs.Beneath.machine_model.specs.declared.roots.CompleteLine.TheVariants as complete
use Rattle.proof_obstruction_free.specs.Beneath.machine_model.specs.declared.roots.RootLine.TheVariants as root
use Rattle.proof_obstruction_free.specs.Alone.{Lone, Stands, Keeps, WordStays, IsPlain, IsQuiet, IsStill, IsStillWeight, Within, word}
use Rattle.proof_obstruction_free.specs.Machines.{IsRead, WasRead, ReadsFirst, ReadsOn}
use Rattle.proof_obstruction_free.specs.Stepping.{Stepping}
use Rattle.proof_obstruction_free.proofs.Root.Lines.{HoldsRoot, led, reading_line, swapping_line, root_reads}
use Rattle.proof_obstruction_free.proofs.Root.Words.{NoOffer, plain_on, settles_on, offer_stood}
use Rattle.proof_obstruction_free.proofs.Ends.StandsAt.{goes_on, stands_as}
use Rattle.proof_obstruction_free.proofs.Step.Within.{here, weaken, map, bind, one_still, keeps_now, keeps_on, stays, stays_on}

module _ (a : Lone) (steps : Stepping a) (weight : ℕ → ℕ) (heavy : IsStillWeight a weight) (c : ℕ) (reads_first : ReadsFirst a weight c) (reads_on : ReadsOn a weight c)
    (wrap : RootLine → Line) (gives : State → Operation → Ref → Line) (holds : HoldsRoot a.own wrap gives) (g : Option ℕ) where
  abbrev W : (ℕ → Type 0) → ℕ → ℕ → Type 0
  W = Within a weight

  -- it is at its first line, and no offer stands
  pub record AtPlain (t u : ℕ) : Type 0 where
    pub at : Ref
    pub plain : IsPlain a u at
    pub stands : Stands a u g (wrap root.Read)
    pub keeps : Keeps a t u
    pub word : WordStays a t u

  -- ---- steps beside the READ

  -- what a step leaves that comes to this line
  record Left (t : ℕ) (l : Line) : Type 0 where
    pub stands : Stands a (suc t) g l
    pub keeps : Keeps a t (suc t)
    pub word : WordStays a t (suc t)

  module _ (t : ℕ) (h : t < a.last) where
    left : (l : RootLine) (s : Stands a t g (wrap l)) → IsQuiet (root_action l) → NoOffer (root_action l) → (next : Line) → Stands a (suc t) g next → Left t next
    left l s quiet free next stands =
        let more = goes_on a t g (wrap l) s h in
        let acts = holds.acts (a.states t) s.operation l in
        record {
          stands = stands;
          keeps = steps.keeps t g (wrap l) s h more (subst IsQuiet (sym acts) quiet);
          word = plain_on a t g (wrap l) s h more (subst NoOffer (sym acts) free);
        }

    finds_offer : Stands a t g (wrap root.Read) → (d : Descriptor) → word a t ≡ Offer d → Left t (reading_line a.own wrap gives holds d read.Main)
    finds_offer s d is =
        let more = goes_on a t g (wrap root.Read) s h in
        left root.Read s tt tt _
        (stands_as a (suc t) _ g _ _ (holds.finds_offer (a.states t) s.operation d (ap (λ x. word_at (a.states t) (handle_of x)) s.call ∙ is) ∙ s.generation)
        (holds.goes (a.states t) s.operation root.Read s.call s.access ∙ ap (λ x. led wrap (gives (a.states t) s.operation) (after_root_word x)) is)
        (steps.next t g (wrap root.Read) s h more))

    completes : (d : Descriptor) (m : Ref) → Stands a t g (swapping_line a.own wrap gives holds d m) → Left t (wrap root.Read)
    completes d m s =
        let l = root.Completing (record { offer = d; line = complete.Swap m }) in
        let more = goes_on a t g (wrap l) s h in
        left l s tt tt _
        (stands_as a (suc t) _ g _ _ (holds.stays (a.states t) s.operation (record { offer = d; line = complete.Swap m }) ∙ s.generation)
        (holds.goes (a.states t) s.operation l s.call s.access) (steps.next t g (wrap l) s h more))

    -- the offer that it completes goes
    settles_it : (d : Descriptor) (m : Ref) → Stands a t g (swapping_line a.own wrap gives holds d m) → word a t ≡ Offer d → (r : Ref) × IsPlain a (suc t) r
    settles_it d m s is =
        let l = root.Completing (record { offer = d; line = complete.Swap m }) in
        settles_on a t g (wrap l) s h (goes_on a t g (wrap l) s h) d (ap settles (holds.acts (a.states t) s.operation l)) is

  quiet_step : (Q : ℕ → Type 0) (n t : ℕ) (l : RootLine) (s : Stands a t g (wrap l)) → IsStill (root_action l) → (t < a.last → W Q n (suc t)) → W Q (n + 1) t
  quiet_step Q n t l s quiet then = one_still a weight heavy Q n t g (wrap l) s (subst IsStill (sym (holds.acts (a.states t) s.operation l)) quiet) then

  -- ---- from each line

  -- the offer's root is read: it stands still, or no offer does
  after_read : (t u : ℕ) (d : Descriptor) (m : Ref) → t ≤ u → a.start ≤ t → word a t ≡ Offer d → Keeps a t u → WordStays a t u →
      Stands a u g (swapping_line a.own wrap gives holds d m) → W (AtPlain t) 1 u
  after_read t u d m le since is keeps still s = quiet_step (AtPlain t) 0 u l s tt (λ h. let (r, plain) = by h (word a u) refl in here a weight (AtPlain t) (suc u) (record {
    at = r;
    plain = plain;
    stands = (completes u h d m s).stands;
    keeps = keeps_on a t u (suc u) keeps (completes u h d m s).keeps;
    word = stays_on a t u (suc u) still (completes u h d m s).word;
  }))
    where
      l : RootLine
      l = root.Completing (record { offer = d; line = complete.Swap m })

      by : u < a.last → (x : RootWord) → word a u ≡ x → (r : Ref) × IsPlain a (suc u) r
      by h (Plain r) e = (r, (completes u h d m s).word r e)
      by h (Offer d') e =
          let stood = offer_stood a t u since le g (wrap l) s (holds.no_own l) d' e in
          let same : d' ≡ d = same_offer (sym stood ∙ is) in
          settles_it u h d m s (e ∙ ap (λ x. Offer x) same)
        where
          same_offer : {x y : Descriptor} → Offer x ≡ Offer y → x ≡ y
          same_offer e = cc e

  -- from its first line
  pub plain_first : (t : ℕ) → Stands a t g (wrap root.Read) → W (AtPlain t) (c + 2) t
  plain_first t s = by (word a t) refl
    where
      by : (x : RootWord) → word a t ≡ x → W (AtPlain t) (c + 2) t
      by (Plain r) e = weaken a weight (AtPlain t) 0 (c + 2) t (omega arith) (here a weight (AtPlain t) t (record { at = r; plain = e; stands = s; keeps = keeps_now a t; word = stays a t }))
      by (Offer d) e = weaken a weight (AtPlain t) ((c + 1) + 1) (c + 2) t (omega arith) (quiet_step (AtPlain t) (c + 1) t root.Read s tt (λ h.
          let x = finds_offer t h s d e in
          bind a weight (IsRead a weight c (suc t) g (swapping_line a.own wrap gives holds d) d.root) (AtPlain t) c 1 (suc t)
          (reads_first (reading_line a.own wrap gives holds d) (swapping_line a.own wrap gives holds d) d.root (root_reads a.own wrap gives holds d) (suc t) g x.stands)
          (λ u after inside q. after_read t u d q.main (omega (arith, after)) s.since e (keeps_on a t (suc t) u x.keeps q.keeps) (stays_on a t (suc t) u x.word q.word) q.stands)))

  -- behind a step
  later : (t u n : ℕ) → Keeps a t u → WordStays a t u → W (AtPlain u) n u → W (AtPlain t) n u
  later t u n keeps still = map a weight (AtPlain u) (AtPlain t) n u (λ v after inside q. record {
    at = q.at;
    plain = q.plain;
    stands = q.stands;
    keeps = keeps_on a t u v keeps q.keeps;
    word = stays_on a t u v still q.word;
  })

  from_swap : (t : ℕ) (d : Descriptor) (m : Ref) → Stands a t g (swapping_line a.own wrap gives holds d m) → W (AtPlain t) (c + 2 + 1) t
  from_swap t d m s = quiet_step (AtPlain t) (c + 2) t (root.Completing (record { offer = d; line = complete.Swap m })) s tt (λ h.
      let x = completes t h d m s in later t (suc t) (c + 2) x.keeps x.word (plain_first (suc t) x.stands))

  -- from any line
  pub plain_on_from : (t : ℕ) (l : RootLine) → Stands a t g (wrap l) → W (AtPlain t) (2 * c + 9) t
  plain_on_from t root.Read s = weaken a weight (AtPlain t) (c + 2) (2 * c + 9) t (omega arith) (plain_first t s)
  plain_on_from t (root.Completing x) s = by x.line s
    where
      d : Descriptor
      d = x.offer

      by : (l : CompleteLine) → Stands a t g (wrap (root.Completing (record { offer = x.offer; line = l }))) → W (AtPlain t) (2 * c + 9) t
      by (complete.Swap m) s = weaken a weight (AtPlain t) (c + 2 + 1) (2 * c + 9) t (omega arith) (from_swap t d m s)
      by (complete.Reading l) s =
          weaken a weight (AtPlain t) ((c + 6) + (c + 2 + 1)) (2 * c + 9) t (omega arith)
          (bind a weight (WasRead a weight c t g (swapping_line a.own wrap gives holds d)) (AtPlain t) (c + 6) (c + 2 + 1) t
          (reads_on (reading_line a.own wrap gives holds d) (swapping_line a.own wrap gives holds d) d.root (root_reads a.own wrap gives holds d) t g l s)
          (λ u after inside q. later t u (c + 2 + 1) q.keeps q.word (from_swap u d q.main q.stands)))
