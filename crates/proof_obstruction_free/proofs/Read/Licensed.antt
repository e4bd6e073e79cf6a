-- A READ where the root that stands in the word, with no offer, is of the indirection's generation: whatever is pending is committed.
use Rattle.std.proofs.Common.{◌≡◌, ℕ, suc, ◌+◌, ◌-◌, ◌<◌, ◌≤◌, true, nat_eq, Option, Some, refl, sym, ap, ◌∙◌, subst, eq-eqb, arith}
use Rattle.std.specs.Option.{option_eq}
use Rattle.proof_obstruction_free.specs.Vocabulary.{Writable, Ref, Prev, prev_at, generation_at, Line, ReadLine, verdict_by, is_licensed, is_pending, after_prev, after_ask, after_decide, main_word}
use Rattle.proof_obstruction_free.specs.Vocabulary.{prev_word}
use Rattle.proof_obstruction_free.specs.Beneath.slot_arena.specs.declared.nodes.Prev.TheVariants as prev
use Rattle.proof_obstruction_free.specs.Beneath.machine_model.specs.declared.reading.ReadLine.TheVariants as read
use Rattle.proof_obstruction_free.specs.Beneath.proof_commits.proofs.Known.Given.{Decided}
use Rattle.proof_obstruction_free.specs.Beneath.proof_commits.proofs.Words.OfRuns.{link_made}
use Rattle.proof_obstruction_free.specs.Beneath.proof_generations.proofs.Falling.KnownRoots.{reads_on}
use Rattle.proof_obstruction_free.specs.Alone.{Lone, Stands, IsPlain, generation}
use Rattle.proof_obstruction_free.specs.Machines.{HoldsRead, lead}
use Rattle.proof_obstruction_free.specs.Weighing.{Weighing, Sees}
use Rattle.proof_obstruction_free.proofs.Step.Within.{Comes}
use Rattle.proof_obstruction_free.proofs.Read.Words.{still_sees, sees_written}
use Rattle.proof_obstruction_free.proofs.Read.Lines.{on_line}
use Rattle.proof_obstruction_free.proofs.Read.Step.{acting, on, stays, light}
use Rattle.proof_obstruction_free.proofs.Read.First as First
use Rattle.proof_obstruction_free.proofs.Read.On as On
use Rattle.proof_obstruction_free.proofs.Swap.Found.{generation_for_good, root_generation}
use Rattle.proof_obstruction_free.proofs.Swap.Steps.{read_acts}

-- who was told the indirection's generation has the licence
same_generation : (g h : ℕ) → g ≡ h → option_eq nat_eq (Some g) (Some h) ≡ true
same_generation g h e = eq-eqb g h e

module _ (a : Lone) (weight : ℕ → ℕ) (x f : ℕ) (wt : Weighing a weight x f) (wrap : ReadLine → Line) (gives : Ref → Line) (i : Ref) (h : HoldsRead a.own wrap gives i) (c : ℕ)
    (g : Option ℕ) (two : 2 ≤ c) (three : 3 ≤ c + f) (seven : 7 ≤ c + x) where
  abbrev P : ℕ → ℕ → Type 0
  P = On.P a weight x f wt wrap gives i h c g two three seven

  abbrev C : (ℕ → Type 0) → ℕ → ℕ → Type 0
  C = Comes a weight

  abbrev S : ℕ → ReadLine → Type 0
  S t l = Stands a t g (wrap l)

  -- the generation that is told stays that of the root
  pub told_so : (t : ℕ) (l : ReadLine) → S t l → (r : Ref) → IsPlain a t r → generation_at (a.states t).heap r ≡ generation a r
  told_so t l s r plain = root_generation a t g (wrap l) s (reads_on (wrap l) _ (h.embedded.reads l)) r plain

  -- the indirection's stays too
  pub own_so : (t : ℕ) (m q : Ref) (told : Option ℕ) → S t (read.Decide m q told) → t < a.last → generation_at (a.states t).heap i ≡ generation a i
  own_so t m q told s more =
      let found = read_acts a wrap gives i h t g (read.Decide m q told) s more in
      found.2 ∙ generation_for_good a t (omega arith) i found.0.link

  module _ (r : Ref) (same : generation a r ≡ generation a i) (writable : a.own.access ≡ Writable) where
    decide : (t b : ℕ) (m q : Ref) (told : Option ℕ) → S t (read.Decide m q told) → Sees a t i m (prev.Pending q) → told ≡ Some (generation a i) → 1 + weight t ≤ b + x → C (P t) b t
    decide t b m q told s sees own enough =
        let some = wt.weighs t i m q s.since s.until sees in
        on a wrap gives i h weight P (On.counts a weight x f wt wrap gives i h c g two three seven) b t g (read.Decide m q told) s (omega (arith, enough, some))
        (λ more next.
        let found = read_acts a wrap gives i h t g (read.Decide m q told) s more in
        let pending : is_pending (prev_at (a.states t).heap m) q ≡ true = ap (λ v. is_pending v q) (found.1.prev ∙ sees.prev) ∙ First.still_pending q in
        let licensed : is_licensed (a.states t).heap i told ≡ true =
        ap (λ y. is_licensed (a.states t).heap i y) own ∙ same_generation (generation a i) _ (sym (own_so t m q told s more)) in
        let changed = subst (λ l. Decided a.states t m q (verdict_by l true)) licensed (subst (λ y. Decided a.states t m q (verdict_by (is_licensed (a.states t).heap i told) y)) pending found.3) in
        let now = sees_written a t i m (prev.Pending q) prev.None found.1.made changed sees in
        let off = wt.commit t i m q told (acting a wrap gives i h t g (read.Decide m q told) s more) sees now in
        On.given a weight x f wt wrap gives i h c g two three seven (suc t) (b - 1) m (omega (arith, enough, off))
        (subst (λ l. Stands a (suc t) g (lead wrap gives (after_decide m (verdict_by l true)))) licensed
        (subst (λ y. Stands a (suc t) g (lead wrap gives (after_decide m (verdict_by (is_licensed (a.states t).heap i told) y)))) pending next)))

    ask : (t b : ℕ) (m q : Ref) → S t (read.AskRoot m q) → Sees a t i m (prev.Pending q) → IsPlain a t r → 2 + weight t ≤ b + x → C (P t) b t
    ask t b m q s sees plain enough =
        let some = wt.weighs t i m q s.since s.until sees in
        on a wrap gives i h weight P (On.counts a weight x f wt wrap gives i h c g two three seven) b t g (read.AskRoot m q) s (omega (arith, enough, some))
        (λ more next.
        let less = light a wrap gives i h weight wt.quiet t g (read.AskRoot m q) s more tt in
        decide (suc t) (b - 1) m q (Some (generation_at (a.states t).heap r))
        (subst (λ y. Stands a (suc t) g (lead wrap gives (after_ask (a.states t).heap m q y))) plain next)
        (still_sees a t i m (prev.Pending q) (read_acts a wrap gives i h t g (read.AskRoot m q) s more) sees)
        (ap (λ (n : ℕ). Some n) (told_so t (read.AskRoot m q) s r plain ∙ same)) (omega (arith, enough, some, less)))

    prev_pending : (t b : ℕ) (m q : Ref) → S t (read.Prev m) → Sees a t i m (prev.Pending q) → IsPlain a t r → 3 + weight t ≤ b + x → C (P t) b t
    prev_pending t b m q s sees plain enough =
        let some = wt.weighs t i m q s.since s.until sees in
        on a wrap gives i h weight P (On.counts a weight x f wt wrap gives i h c g two three seven) b t g (read.Prev m) s (omega (arith, enough, some))
        (λ more next.
        let found = read_acts a wrap gives i h t g (read.Prev m) s more in
        let less = light a wrap gives i h weight wt.quiet t g (read.Prev m) s more tt in
        ask (suc t) (b - 1) m q
        (subst (λ y. Stands a (suc t) g (lead wrap gives (after_prev y m (prev.Pending q)))) writable
        (subst (λ v. Stands a (suc t) g (lead wrap gives (after_prev a.own.access m v))) (found.0.prev ∙ sees.prev) next))
        (still_sees a t i m (prev.Pending q) found.1 sees) (stays a wrap gives i h t g (read.Prev m) s more r plain) (omega (arith, enough, some, less)))

    -- from the first line
    prev_by : (t b : ℕ) (m : Ref) → S t (read.Prev m) → IsPlain a t r → 3 + weight t ≤ b → (v : Prev) → Sees a t i m v → C (P t) b t
    prev_by t b m s plain enough prev.None sees =
        On.was_read a weight x f wt wrap gives i h c g two three seven t b (First.prev_decided a weight x f wt wrap gives i h c g t b m s sees (omega (arith, enough)))
    prev_by t b m s plain enough (prev.Failed q) sees =
        On.was_read a weight x f wt wrap gives i h c g two three seven t b (First.prev_failed a weight x f wt wrap gives i h c g t b m q s sees (omega (arith, enough)))
    prev_by t b m s plain enough (prev.Pending q) sees = prev_pending t b m q s sees plain (omega (arith, enough))

    main : (t b : ℕ) → S t read.Main → IsPlain a t r → 4 + weight t ≤ b → C (P t) b t
    main t b s plain enough =
        on a wrap gives i h weight P (On.counts a weight x f wt wrap gives i h c g two three seven) b t g read.Main s (omega (arith, enough))
        (λ more next.
        let found = read_acts a wrap gives i h t g read.Main s more in
        let less = light a wrap gives i h weight wt.quiet t g read.Main s more tt in
        let m : Ref = main_word a.states t i in
        prev_by (suc t) (b - 1) m (subst (λ y. Stands a (suc t) g (wrap (read.Prev y))) found.0.main next) (stays a wrap gives i h t g read.Main s more r plain) (omega (arith, enough, less))
        (prev_word a.states t m) (still_sees a t i m (prev_word a.states t m) found.1 (record { made = link_made _ found.0.link; main = refl; prev = refl })))

    -- a node that another decided
    pub after_another : (t b : ℕ) (m : Ref) → S t (read.Prev m) → IsPlain a t r → 6 + weight t ≤ b → (v : Prev) → prev_word a.states t m ≡ v → C (P t) b t
    after_another t b m s plain enough prev.None e =
        on a wrap gives i h weight P (On.counts a weight x f wt wrap gives i h c g two three seven) b t g (read.Prev m) s (omega (arith, enough))
        (λ more next.
        let found = read_acts a wrap gives i h t g (read.Prev m) s more in
        let less = light a wrap gives i h weight wt.quiet t g (read.Prev m) s more tt in
        On.given a weight x f wt wrap gives i h c g two three seven (suc t) (b - 1) m (omega (arith, enough, less))
        (subst (λ v. Stands a (suc t) g (lead wrap gives (after_prev a.own.access m v))) (found.0.prev ∙ e) next))
    after_another t b m s plain enough (prev.Failed q) e =
        on a wrap gives i h weight P (On.counts a weight x f wt wrap gives i h c g two three seven) b t g (read.Prev m) s (omega (arith, enough))
        (λ more next.
        let found = read_acts a wrap gives i h t g (read.Prev m) s more in
        let less = light a wrap gives i h weight wt.quiet t g (read.Prev m) s more tt in
        let restoring = subst (λ v. Stands a (suc t) g (lead wrap gives (after_prev a.own.access m v))) (found.0.prev ∙ e) next in
        On.restore_or a weight x f wt wrap gives i h c g two three seven (suc t) (b - 1) 4 m q restoring (omega (arith, enough, less))
        (λ soon again room. main (suc (suc t)) (b - 1 - 1) again
        (stays a wrap gives i h (suc t) g (read.Restore m q) restoring soon r (stays a wrap gives i h t g (read.Prev m) s more r plain)) room))
    after_another t b m s plain enough (prev.Pending q) e =
        let sees = On.sees_pending a weight x f wt wrap gives i h c g two three seven t s.until m q (on_line a t g (wrap (read.Prev m)) s _ (h.embedded.reads (read.Prev m))) e in
        prev_pending t b m q s sees plain (omega (arith, enough))
