-- A READ from its first line, where one actor alone takes steps: it gives the main node that stands there, decided, at a cost of 2 or more.
use Rattle.std.proofs.Common.{◌≡◌, ℕ, suc, ◌+◌, ◌-◌, ◌<◌, ◌≤◌, ◌==◌, Bool, true, false, Option, Some, None, is_some, refl, ap, ◌∙◌, subst, eq-eqb, arith}
use Rattle.proof_obstruction_free.specs.Vocabulary.{Access, Writable, ReadOnly, Ref, Prev, main_at, prev_at, generation_at, main_changed, Line, ReadLine, Descriptor, RootWord, Plain, Offer}
use Rattle.proof_obstruction_free.specs.Vocabulary.{verdict_by, is_licensed, is_pending, after_prev, after_ask, after_decide, after_restore, grown, main_word, prev_word}
use Rattle.proof_obstruction_free.specs.Beneath.slot_arena.specs.declared.nodes.Prev.TheVariants as prev
use Rattle.proof_obstruction_free.specs.Beneath.machine_model.specs.declared.reading.ReadLine.TheVariants as read
use Rattle.proof_obstruction_free.specs.Beneath.proof_commits.proofs.Known.Given.{GrownStays, GrownChanges, Either, Decided}
use Rattle.proof_obstruction_free.specs.Beneath.proof_commits.proofs.Words.OfRuns.{link_made}
use Rattle.proof_obstruction_free.specs.Alone.{Lone, Stands, Within, IsPlain, word}
use Rattle.proof_obstruction_free.specs.Machines.{HoldsRead, IsRead, ReadsFirst, lead}
use Rattle.proof_obstruction_free.specs.Weighing.{Weighing, Sees}
use Rattle.proof_obstruction_free.proofs.Step.Within.{Comes, at_once, within, keeps_now, keeps_on, stays, stays_on}
use Rattle.proof_obstruction_free.proofs.Read.Words.{still_sees, sees_has, sees_written, put_back}
use Rattle.proof_obstruction_free.proofs.Read.Step.{Counts, acting, off, same_word_at, light, on}
use Rattle.proof_obstruction_free.proofs.Swap.Steps.{read_acts}

-- what stands over this node is pending over it
pub still_pending : (q : Ref) → is_pending (prev.Pending q) q ≡ true
still_pending q = eq-eqb q q refl

module _ (a : Lone) (weight : ℕ → ℕ) (x f : ℕ) (wt : Weighing a weight x f) (wrap : ReadLine → Line) (gives : Ref → Line) (i : Ref) (h : HoldsRead a.own wrap gives i) (c : ℕ)
    (g : Option ℕ) where
  abbrev P : ℕ → ℕ → Type 0
  P t u = IsRead a weight c t g gives i u

  -- within a budget
  abbrev C : (ℕ → Type 0) → ℕ → ℕ → Type 0
  C = Comes a weight

  abbrev S : ℕ → ReadLine → Type 0
  S t l = Stands a t g (wrap l)

  counts : Counts a wrap gives i h P
  counts = record {
    earlier = λ t v u le keeps word found. record {
      main = found.main;
      stands = found.stands;
      has = found.has;
      keeps = keeps_on a t v u keeps found.keeps;
      word = stays_on a t v u word found.word;
    };
  }

  given : (t b : ℕ) (m : Ref) → weight t ≤ b → Stands a t g (gives m) → Sees a t i m prev.None → C (P t) b t
  given t b m enough s sees = at_once a weight (P t) b t enough (record { main = m; stands = s; has = sees_has a t i m sees; keeps = keeps_now a t; word = stays a t })

  -- ---- the node before is put back

  restore : (t b : ℕ) (m q : Ref) → S t (read.Restore m q) → Sees a t i m (prev.Failed q) → 1 + weight t ≤ b + f → C (P t) b t
  restore t b m q s sees enough =
      let some = wt.weighs_failed t i m q s.since s.until sees in
      on a wrap gives i h weight P counts b t g (read.Restore m q) s (omega (arith, enough, some))
      (λ more next.
      let found = read_acts a wrap gives i h t g (read.Restore m q) s more in
      let same : (main_at (a.states t).heap i == m) ≡ true = eq-eqb _ _ (found.0.main ∙ sees.main) in
      let changed = subst (λ b. Either b (GrownChanges a.states t (main_changed q) i) (GrownStays a.states t)) same found.1 in
      let now = put_back a t (omega arith) i m q found.0.link changed sees in
      let off = wt.restore t i m q (acting a wrap gives i h t g (read.Restore m q) s more) sees now in
      given (suc t) (b - 1) q (omega (arith, enough, off)) (subst (λ b. Stands a (suc t) g (lead wrap gives (after_restore q b))) same next) now)

  -- ---- a settled node

  pub prev_decided : (t b : ℕ) (m : Ref) → S t (read.Prev m) → Sees a t i m prev.None → 1 + weight t ≤ b → C (P t) b t
  prev_decided t b m s sees enough =
      on a wrap gives i h weight P counts b t g (read.Prev m) s (omega (arith, enough))
      (λ more next.
      let found = read_acts a wrap gives i h t g (read.Prev m) s more in
      let less = light a wrap gives i h weight wt.quiet t g (read.Prev m) s more tt in
      given (suc t) (b - 1) m (omega (arith, enough, less)) (subst (λ v. Stands a (suc t) g (lead wrap gives (after_prev a.own.access m v))) (found.0.prev ∙ sees.prev) next)
      (still_sees a t i m prev.None found.1 sees))

  pub prev_failed : (t b : ℕ) (m q : Ref) → S t (read.Prev m) → Sees a t i m (prev.Failed q) → 2 + weight t ≤ b + f → C (P t) b t
  prev_failed t b m q s sees enough =
      let some = wt.weighs_failed t i m q s.since s.until sees in
      on a wrap gives i h weight P counts b t g (read.Prev m) s (omega (arith, enough, some))
      (λ more next.
      let found = read_acts a wrap gives i h t g (read.Prev m) s more in
      let less = light a wrap gives i h weight wt.quiet t g (read.Prev m) s more tt in
      restore (suc t) (b - 1) m q (subst (λ v. Stands a (suc t) g (lead wrap gives (after_prev a.own.access m v))) (found.0.prev ∙ sees.prev) next)
      (still_sees a t i m (prev.Failed q) found.1 sees) (omega (arith, enough, some, less)))

  main_failed : (t b : ℕ) (m q : Ref) → S t read.Main → Sees a t i m (prev.Failed q) → 3 + weight t ≤ b + f → C (P t) b t
  main_failed t b m q s sees enough =
      let some = wt.weighs_failed t i m q s.since s.until sees in
      on a wrap gives i h weight P counts b t g read.Main s (omega (arith, enough, some))
      (λ more next.
      let found = read_acts a wrap gives i h t g read.Main s more in
      let less = light a wrap gives i h weight wt.quiet t g read.Main s more tt in
      prev_failed (suc t) (b - 1) m q (subst (λ x. Stands a (suc t) g (wrap (read.Prev x))) (found.0.main ∙ sees.main) next)
      (still_sees a t i m (prev.Failed q) found.1 sees) (omega (arith, enough, some, less)))

  -- ---- it is decided

  decided : (t b : ℕ) (m q : Ref) (told : Option ℕ) → S t (read.Decide m q told) → Sees a t i m (prev.Pending q) → 4 + weight t ≤ b + x → t < a.last →
      is_some (grown a.states t m) ≡ true → (licensed : Bool) → Decided a.states t m q (verdict_by licensed true) →
      Stands a (suc t) g (lead wrap gives (after_decide m (verdict_by licensed true))) → C (P (suc t)) (b - 1) (suc t)
  decided t b m q told s sees enough more made true changed next =
      let now = sees_written a t i m (prev.Pending q) prev.None made changed sees in
      let off = wt.commit t i m q told (acting a wrap gives i h t g (read.Decide m q told) s more) sees now in
      given (suc t) (b - 1) m (omega (arith, enough, off)) next now
  decided t b m q told s sees enough more made false changed next =
      let now = sees_written a t i m (prev.Pending q) (prev.Failed q) made changed sees in
      let off = wt.fail t i m q told (acting a wrap gives i h t g (read.Decide m q told) s more) sees now in
      let some = wt.weighs t i m q s.since s.until sees in
      main_failed (suc t) (b - 1) m q next now (omega (arith, enough, off, some))

  pub decide : (t b : ℕ) (m q : Ref) (told : Option ℕ) → S t (read.Decide m q told) → Sees a t i m (prev.Pending q) → 4 + weight t ≤ b + x → C (P t) b t
  decide t b m q told s sees enough =
      let some = wt.weighs t i m q s.since s.until sees in
      on a wrap gives i h weight P counts b t g (read.Decide m q told) s (omega (arith, enough, some))
      (λ more next.
      let found = read_acts a wrap gives i h t g (read.Decide m q told) s more in
      let pending : is_pending (prev_at (a.states t).heap m) q ≡ true = ap (λ v. is_pending v q) (found.1.prev ∙ sees.prev) ∙ still_pending q in
      let licensed = is_licensed (a.states t).heap i told in
      decided t b m q told s sees enough more found.1.made licensed
      (subst (λ b. Decided a.states t m q (verdict_by licensed b)) pending found.3)
      (subst (λ b. Stands a (suc t) g (lead wrap gives (after_decide m (verdict_by licensed b)))) pending next))

  -- ---- the root is asked for

  ask_plain : (t b : ℕ) (m q r : Ref) → S t (read.AskRoot m q) → Sees a t i m (prev.Pending q) → IsPlain a t r → 5 + weight t ≤ b + x → C (P t) b t
  ask_plain t b m q r s sees plain enough =
      let some = wt.weighs t i m q s.since s.until sees in
      on a wrap gives i h weight P counts b t g (read.AskRoot m q) s (omega (arith, enough, some))
      (λ more next.
      let less = light a wrap gives i h weight wt.quiet t g (read.AskRoot m q) s more tt in
      decide (suc t) (b - 1) m q (Some (generation_at (a.states t).heap r))
      (subst (λ y. Stands a (suc t) g (lead wrap gives (after_ask (a.states t).heap m q y))) plain next)
      (still_sees a t i m (prev.Pending q) (read_acts a wrap gives i h t g (read.AskRoot m q) s more) sees) (omega (arith, enough, some, less)))

  abort : (t b : ℕ) (m q : Ref) (offer : Descriptor) → S t (read.Abort m q offer) → Sees a t i m (prev.Pending q) → word a t ≡ Offer offer → 4 + weight t ≤ b + x → C (P t) b t
  abort t b m q offer s sees there enough =
      let some = wt.weighs t i m q s.since s.until sees in
      on a wrap gives i h weight P counts b t g (read.Abort m q offer) s (omega (arith, enough, some))
      (λ more next.
      let gone = off a wrap gives i h t g m q offer s more there in
      let two = wt.abort t offer (acting a wrap gives i h t g (read.Abort m q offer) s more) there in
      ask_plain (suc t) (b - 1) m q gone.0 next (still_sees a t i m (prev.Pending q) (read_acts a wrap gives i h t g (read.Abort m q offer) s more) sees) gone.1
      (omega (arith, enough, some, two)))

  ask : (t b : ℕ) (m q : Ref) → S t (read.AskRoot m q) → Sees a t i m (prev.Pending q) → 5 + weight t ≤ b + x → (y : RootWord) → word a t ≡ y → C (P t) b t
  ask t b m q s sees enough (Plain r) e = ask_plain t b m q r s sees e enough
  ask t b m q s sees enough (Offer offer) e =
      let some = wt.weighs t i m q s.since s.until sees in
      on a wrap gives i h weight P counts b t g (read.AskRoot m q) s (omega (arith, enough, some))
      (λ more next.
      let less = light a wrap gives i h weight wt.quiet t g (read.AskRoot m q) s more tt in
      abort (suc t) (b - 1) m q offer
      (subst (λ y. Stands a (suc t) g (lead wrap gives (after_ask (a.states t).heap m q y))) e next)
      (still_sees a t i m (prev.Pending q) (read_acts a wrap gives i h t g (read.AskRoot m q) s more) sees)
      (same_word_at a wrap gives i h t g m q s more ∙ e) (omega (arith, enough, some, less)))

  -- on a read-only handle it is decided at once
  pending_by : (t b : ℕ) (m q : Ref) (access : Access) → Stands a t g (lead wrap gives (after_prev access m (prev.Pending q))) → Sees a t i m (prev.Pending q) → 5 + weight t ≤ b + x →
      C (P t) b t
  pending_by t b m q Writable next now enough = ask t b m q next now enough (word a t) refl
  pending_by t b m q ReadOnly next now enough = decide t b m q None next now (omega (arith, enough))

  pub prev_pending : (t b : ℕ) (m q : Ref) → S t (read.Prev m) → Sees a t i m (prev.Pending q) → 6 + weight t ≤ b + x → C (P t) b t
  prev_pending t b m q s sees enough =
      let some = wt.weighs t i m q s.since s.until sees in
      on a wrap gives i h weight P counts b t g (read.Prev m) s (omega (arith, enough, some))
      (λ more next.
      let found = read_acts a wrap gives i h t g (read.Prev m) s more in
      let less = light a wrap gives i h weight wt.quiet t g (read.Prev m) s more tt in
      pending_by (suc t) (b - 1) m q a.own.access (subst (λ v. Stands a (suc t) g (lead wrap gives (after_prev a.own.access m v))) (found.0.prev ∙ sees.prev) next)
      (still_sees a t i m (prev.Pending q) found.1 sees) (omega (arith, enough, some, less)))

  -- ---- from the first line

  prev_by : (t b : ℕ) (m : Ref) → S t (read.Prev m) → (v : Prev) → Sees a t i m v → 1 + weight t ≤ b → 2 + weight t ≤ b + f → 6 + weight t ≤ b + x → C (P t) b t
  prev_by t b m s prev.None sees decided failed pending = prev_decided t b m s sees decided
  prev_by t b m s (prev.Failed q) sees decided failed pending = prev_failed t b m q s sees failed
  prev_by t b m s (prev.Pending q) sees decided failed pending = prev_pending t b m q s sees pending

  pub main : (t b : ℕ) → S t read.Main → 2 + weight t ≤ b → 3 + weight t ≤ b + f → 7 + weight t ≤ b + x → C (P t) b t
  main t b s decided failed pending =
      on a wrap gives i h weight P counts b t g read.Main s (omega (arith, decided))
      (λ more next.
      let found = read_acts a wrap gives i h t g read.Main s more in
      let less = light a wrap gives i h weight wt.quiet t g read.Main s more tt in
      let m : Ref = main_word a.states t i in
      prev_by (suc t) (b - 1) m (subst (λ x. Stands a (suc t) g (wrap (read.Prev x))) found.0.main next) (prev_word a.states t m)
      (still_sees a t i m (prev_word a.states t m) found.1 (record { made = link_made _ found.0.link; main = refl; prev = refl }))
      (omega (arith, decided, less)) (omega (arith, decided, failed, less)) (omega (arith, decided, pending, less)))

  pub first : (t : ℕ) → S t read.Main → 2 ≤ c → 3 ≤ c + f → 7 ≤ c + x → Within a weight (P t) c t
  first t s decided failed pending = within a weight (P t) c t (main t (c + weight t) s (omega (arith, decided)) (omega (arith, failed)) (omega (arith, pending)))

-- a READ from its first line
pub reads_first : (a : Lone) (weight : ℕ → ℕ) (pending failed c : ℕ) → Weighing a weight pending failed → 2 ≤ c → 3 ≤ c + failed → 7 ≤ c + pending → ReadsFirst a weight c
reads_first a weight pending failed c wt two three seven wrap gives i h t g s = first a weight pending failed wt wrap gives i h c g t s two three seven
