-- SWAP, where one actor alone takes steps: it comes to its end within few steps, and succeeds where the operation's root is the handle's.
use Rattle.std.proofs.Common.{◌≤◌, ◌≡◌, ℕ, suc, ◌+◌, ◌<◌, Bool, true, false, inl, inr, Option, Some, refl, sym, ap, ◌∙◌, subst, arith}
use Rattle.std.proofs.lemmas.Bool.{cases_eq, eqb-false, true≢false}
use Rattle.std.proofs.lemmas.Option.{same_Some}
use Rattle.proof_obstruction_free.specs.Vocabulary.{Ref, main_at, Purpose, SwapLine, RootWord, Plain, Offer, prev_word, action_at}
use Rattle.proof_obstruction_free.specs.Beneath.slot_arena.specs.declared.nodes.Prev.TheVariants as over
use Rattle.proof_obstruction_free.specs.Beneath.machine_model.specs.declared.reading.ReadLine.TheVariants as read
use Rattle.proof_obstruction_free.specs.Beneath.machine_model.specs.declared.reading.SwapLine.TheVariants as swap
use Rattle.proof_obstruction_free.specs.Alone.{IsStill, Lone, Stands, Has, Keeps, WordStays, IsPlain, IsCurrent, Within, generation, word}
use Rattle.proof_obstruction_free.specs.Machines.{HasSwapped, IsSwapped, WasSwapped, WasRead, SwapsCurrent, SwapsFirst, SwapsOn, ReadsOn}
use Rattle.proof_obstruction_free.specs.Stepping.{Stepping}
use Rattle.proof_obstruction_free.specs.Weighing.{Acts}
use Rattle.proof_obstruction_free.specs.Beneath.proof_commits.proofs.Words.OfRuns.{link_made}
use Rattle.proof_obstruction_free.proofs.Swap.Steps.{keeps_left}
use Rattle.proof_obstruction_free.proofs.Swap.Lines.{swap_line, deciding, checking, swap_reads, is_decided, checks, publishes, Publishes}
use Rattle.proof_obstruction_free.proofs.Swap.Found.{swap_generation, fresh_nowhere}
use Rattle.proof_obstruction_free.proofs.Swap.Course.{FreshStands}
use Rattle.proof_obstruction_free.proofs.Swap.Deciding.{finds_pending, asks_offer, takes_back}
use Rattle.proof_obstruction_free.proofs.Swap.Ends.{Pays, HasFailed, spends, acts_so, quiet_so, succeeds, fails_so, Succeeds}
use Rattle.proof_obstruction_free.proofs.Step.Within.{Comes, at_once, within, weaken, bind, same_stays, stays_on, keeps_but, keeps_on}

module _ (a : Lone) (steps : Stepping a) (weight : ℕ → ℕ) (pending failed : ℕ) (weighing : Pays a weight pending failed) (c : ℕ) where
  module _ (why : Purpose) (i replaced fresh : Ref) (t : ℕ) (g : Option ℕ) where
    abbrev W : (ℕ → Type 0) → ℕ → ℕ → Type 0
    W = Within a weight

    abbrev At : SwapLine → ℕ → Type 0
    At x u = Stands a u g (swap_line a why i replaced fresh x)

    abbrev C : (ℕ → Type 0) → ℕ → ℕ → Type 0
    C = Comes a weight

    comes_as : (P Q : ℕ → Type 0) (n m u : ℕ) → n ≤ m → ((v : ℕ) → P v → Q v) → C P n u → C Q m u
    comes_as P Q n m u le follows comes room = let (v, after, soon, p) = comes (omega (arith, le, room)) in (v, after, omega (arith, soon, le), follows v p)

    step_on : (Q : ℕ → Type 0) (n m u : ℕ) → suc n ≤ m → (u < a.last → C Q n (suc u)) → C Q m u
    step_on Q n m u le then = comes_as Q Q (suc n) m u le (λ v q. q) (spends a steps weight pending failed weighing c why i replaced fresh t g Q n u then)

    quiet_on : (u : ℕ) (x : SwapLine) → At x u → u < a.last → IsStill (action_at i replaced fresh x) → weight (suc u) ≤ weight u
    quiet_on = quiet_so a steps weight pending failed weighing c why i replaced fresh t g

    acts_on : (u : ℕ) (x : SwapLine) → At x u → u < a.last → Acts a u (action_at i replaced fresh x)
    acts_on = acts_so a steps weight pending failed weighing c why i replaced fresh t g

    abbrev Done : Ref → ℕ → Type 0
    Done = Succeeds a steps weight pending failed weighing c why i replaced fresh t g

    -- the fresh node was swapped in
    published : (s : At swap.Publish t) → Publishes a why i replaced fresh steps t g true → FreshStands a i replaced fresh t (suc t) (over.Pending replaced)
    published s p = record {
      made = p.effect.makes.made i ∙ link_made _ p.link;
      main = p.effect.main.here;
      prev = p.effect.prev.here;
      keeps = λ j m other has. record {
        made = p.effect.makes.made j ∙ has.made;
        main = p.effect.main.elsewhere j other ∙ has.main;
        decided = p.effect.prev.elsewhere m (λ same. fresh_nowhere a why i replaced fresh t g s j (subst (λ x. Has a t j x) same has)) ∙ has.decided;
      };
      word = same_stays a t (suc t) p.word;
    }

    -- another node stands there
    stood_other : (s : At swap.Publish t) → Publishes a why i replaced fresh steps t g false → Has a t i replaced → ⊥
    stood_other s p has = eqb-false (main_at (a.states t).heap i) replaced p.test (p.main ∙ has.main)

    abbrev Undecided : ℕ → Type 0
    Undecided u = FreshStands a i replaced fresh t u (over.Pending replaced)

    -- ---- where the root is the handle's

    swaps_now : (r : Ref) → At swap.Publish t → IsCurrent a t r g → Has a t i replaced → W (HasSwapped a weight c t g why i fresh) 5 t
    swaps_now r s current has = within a weight Q 5 t (step_on Q (4 + weight t) (5 + weight t) t (omega arith) (λ h. let (b, p) = publishes a why i replaced fresh steps t g s h in by b h p))
      where
        Q : ℕ → Type 0
        Q = HasSwapped a weight c t g why i fresh

        same : generation a r ≡ generation a i
        same = same_Some _ _ (sym current.own ∙ swap_generation a why i replaced fresh t g swap.Publish s)

        by : (b : Bool) → t < a.last → Publishes a why i replaced fresh steps t g b → C Q (4 + weight t) (suc t)
        by true h p = step_on Q (3 + weight t) (4 + weight t) (suc t) (omega arith) (λ h'.
            let x = finds_pending a steps why i replaced fresh t g (suc t) h' p.stands (published s p) in
            let more = weighing.publish t i replaced fresh (acts_on t swap.Publish s h) in
            let less = quiet_on (suc t) (swap.Deciding (read.Prev fresh)) p.stands h' tt in
            comes_as (Done r) Q (suc (suc (suc (weight t)))) (3 + weight t) (suc (suc t)) (omega arith) (λ v q. q.0)
            (succeeds a steps weight pending failed weighing c why i replaced fresh t g r (weight t) (suc (suc t)) x.stands x.holds (x.holds.word r current.plain) same (omega (arith, more, less))))
        by false h p = absurd (stood_other s p has)

    -- ---- in any case

    abbrev End : ℕ → Type 0
    End = IsSwapped a weight c t g why i replaced fresh

    done_so : At swap.Publish t → (r : Ref) → generation a r ≡ generation a i → (u : ℕ) → Done r u → End u
    done_so s r same u (q, plain) = record {
      done = true;
      stands = q.stands;
      keeps = q.keeps;
      word = q.word;
      so = record {
        if_done = λ e. (q.has, (r, record { plain = plain; own = swap_generation a why i replaced fresh t g swap.Publish s ∙ ap (λ x. Some x) (sym same) }));
        if_not = λ e has. absurd (true≢false e);
      };
    }

    failed_so : (u : ℕ) → HasFailed a t g why i fresh u → End u
    failed_so u q = record {
      done = false;
      stands = q.stands;
      keeps = q.keeps;
      word = q.word;
      so = record { if_done = λ e. absurd (true≢false (sym e)); if_not = λ e has. (q.root, q.plain, q.other) };
    }

    asked : At swap.Publish t → (u : ℕ) → At (swap.Deciding (read.AskRoot fresh replaced)) u → Undecided u → (r : Ref) → IsPlain a u r → weight u ≤ weight t + pending → C End (6 + weight t) u
    asked s u at holds r plain enough = elim (cases_eq (generation a r) (generation a i)) [
      | inl same ↦
          comes_as (Done r) End (suc (suc (suc (weight t)))) (6 + weight t) u (omega arith) (λ v q. done_so s r same v q)
          (succeeds a steps weight pending failed weighing c why i replaced fresh t g r (weight t) u at holds plain same enough)
      | inr other ↦
          comes_as (HasFailed a t g why i fresh) End (suc (suc (suc (suc (suc (suc (weight t))))))) (6 + weight t) u (omega arith) (λ v q. failed_so v q)
          (fails_so a steps weight pending failed weighing c why i replaced fresh t g r (weight t) u at holds plain other enough)
    ]

    by_word : At swap.Publish t → (u : ℕ) → At (swap.Deciding (read.AskRoot fresh replaced)) u → Undecided u → weight u ≤ weight t + pending → (x : RootWord) → word a u ≡ x → C End (8 + weight t) u
    by_word s u at holds enough (Plain r) is = comes_as End End (6 + weight t) (8 + weight t) u (omega arith) (λ v q. q) (asked s u at holds r is enough)
    by_word s u at holds enough (Offer d) is = step_on End (7 + weight t) (8 + weight t) u (omega arith) (λ h.
        let (x, still) = asks_offer a steps why i replaced fresh t g u h at holds d is in
        let less = quiet_on u (swap.Deciding (read.AskRoot fresh replaced)) at h tt in
        step_on End (6 + weight t) (7 + weight t) (suc u) (omega arith) (λ h'.
        let (y, (r, plain)) = takes_back a steps why i replaced fresh t g (suc u) h' d x.stands x.holds still in
        let lesser = weighing.abort (suc u) d (acts_on (suc u) (swap.Deciding (read.Abort fresh replaced d)) x.stands h') still in
        asked s (suc (suc u)) y.stands y.holds r plain (omega (arith, enough, less, lesser))))

    swaps_anyway : At swap.Publish t → W End 10 t
    swaps_anyway s = within a weight End 10 t (step_on End (9 + weight t) (10 + weight t) t (omega arith) (λ h. let (b, p) = publishes a why i replaced fresh steps t g s h in by b h p))
      where
        by : (b : Bool) → t < a.last → Publishes a why i replaced fresh steps t g b → C End (9 + weight t) (suc t)
        by true h p = step_on End (8 + weight t) (9 + weight t) (suc t) (omega arith) (λ h'.
            let x = finds_pending a steps why i replaced fresh t g (suc t) h' p.stands (published s p) in
            let more = weighing.publish t i replaced fresh (acts_on t swap.Publish s h) in
            let less = quiet_on (suc t) (swap.Deciding (read.Prev fresh)) p.stands h' tt in
            by_word s (suc (suc t)) x.stands x.holds (omega (arith, more, less)) (word a (suc (suc t))) refl)
        by false h p =
            let same = weighing.published t i replaced fresh (acts_on t swap.Publish s h) (λ is. eqb-false (main_at (a.states t).heap i) replaced p.test (p.main ∙ is)) in
            at_once a weight End (9 + weight t) (suc t) (omega (arith, same)) (record {
              done = false;
              stands = p.stands;
              keeps = keeps_but a t (suc t) i (keeps_left a t p.effect);
              word = same_stays a t (suc t) p.word;
              so = record { if_done = λ e. absurd (true≢false (sym e)); if_not = λ e has. absurd (stood_other s p has) };
            })

    -- ---- from a line behind the first one

    abbrev Over : ℕ → ℕ → Type 0
    Over v = WasSwapped a weight c v g why fresh

    over_on : (v u : ℕ) → Keeps a v u → WordStays a v u → At swap.Check u → W (Over v) 1 u
    over_on v u keeps stays s = within a weight (Over v) 1 u (step_on (Over v) (weight u) (1 + weight u) u (omega arith) (λ h.
        let x = checks a why i replaced fresh steps u g s h (prev_word a.states u fresh) refl in
        at_once a weight (Over v) (weight u) (suc u) (quiet_on u swap.Check s h tt) (record {
          done = is_decided (prev_word a.states u fresh);
          stands = x.stands;
          keeps = keeps_on a v u (suc u) keeps (keeps_left a u x.leaves);
          word = stays_on a v u (suc u) stays (same_stays a u (suc u) x.word);
        })))

    swaps_on_from : ReadsOn a weight c → (x : SwapLine) → At x t → (x ≡ swap.Publish → ⊥) → W (Over t) (c + 7) t
    swaps_on_from reads_on swap.Publish s behind = absurd (behind refl)
    swaps_on_from reads_on swap.Check s behind = weaken a weight (Over t) 1 (c + 7) t (omega arith) (over_on t t (λ j m has. has) (λ r plain. plain) s)
    swaps_on_from reads_on (swap.Deciding l) s behind =
        weaken a weight (Over t) ((c + 6) + 1) (c + 7) t (omega arith)
        (bind a weight (WasRead a weight c t g (checking a why i replaced fresh)) (Over t) (c + 6) 1 t
        (reads_on (deciding a why i replaced fresh) (checking a why i replaced fresh) i (swap_reads a why i replaced fresh) t g l s)
        (λ u after inside q. over_on t u q.keeps q.word q.stands))

  -- ---- as it is stated

  pub swaps_current : SwapsCurrent a weight c
  swaps_current why i replaced fresh r t g s current has = swaps_now why i replaced fresh t g r s current has

  pub swaps_first : SwapsFirst a weight c
  swaps_first why i replaced fresh t g s = swaps_anyway why i replaced fresh t g s

  pub swaps_on : ReadsOn a weight c → SwapsOn a weight c
  swaps_on reads_on why x t g s behind = swaps_on_from why x.indirection x.replaced x.fresh t g reads_on x.line s behind
