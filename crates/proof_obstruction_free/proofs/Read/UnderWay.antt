-- A READ from any of its lines, where one actor alone takes steps and a READ costs 6 or more: whoever asks for the root while alone is told the truth.
use Rattle.std.proofs.Common.{◌≡◌, ℕ, suc, ◌+◌, ◌-◌, ◌<◌, ◌≤◌, Bool, true, false, nat_eq, Option, Some, refl, sym, ◌∙◌, subst, eqb-true, arith}
use Rattle.std.specs.Option.{option_eq}
use Rattle.proof_obstruction_free.specs.Vocabulary.{Ref, prev_at, Writable, Line, ReadLine, verdict_by, is_licensed, is_pending, after_ask, after_decide, prev_word}
use Rattle.proof_obstruction_free.specs.Beneath.machine_model.specs.declared.reading.ReadLine.TheVariants as read
use Rattle.proof_obstruction_free.specs.Beneath.proof_commits.proofs.Lines.Read.{pending_so, not_pending_so}
use Rattle.proof_obstruction_free.specs.Alone.{Lone, Stands, IsPlain, generation}
use Rattle.proof_obstruction_free.specs.Machines.{HoldsRead, lead}
use Rattle.proof_obstruction_free.specs.Weighing.{Weighing}
use Rattle.proof_obstruction_free.proofs.Step.Within.{Comes}
use Rattle.proof_obstruction_free.proofs.Read.Lines.{on_line, asks_writable}
use Rattle.proof_obstruction_free.proofs.Read.Step.{acting, stays, on, light}
use Rattle.proof_obstruction_free.proofs.Read.First as First
use Rattle.proof_obstruction_free.proofs.Read.On as On
use Rattle.proof_obstruction_free.proofs.Read.Licensed as Licensed
use Rattle.proof_obstruction_free.proofs.Swap.Steps.{read_acts}

-- who has the licence was told that generation
told_same : (g h : ℕ) → option_eq nat_eq (Some g) (Some h) ≡ true → g ≡ h
told_same g h e = eqb-true g h e

module _ (a : Lone) (weight : ℕ → ℕ) (x f : ℕ) (wt : Weighing a weight x f) (wrap : ReadLine → Line) (gives : Ref → Line) (i : Ref) (h : HoldsRead a.own wrap gives i) (c : ℕ)
    (g : Option ℕ) (six : 6 ≤ c) (three : 3 ≤ c + f) (seven : 7 ≤ c + x) where
  pub two : 2 ≤ c
  two = omega (arith, six)

  abbrev P : ℕ → ℕ → Type 0
  P = On.P a weight x f wt wrap gives i h c g two three seven

  abbrev S : ℕ → ReadLine → Type 0
  S t l = Stands a t g (wrap l)

  -- ---- the generation of the root that stands there was told

  -- another decided the node
  overtaken : (t b : ℕ) (m r : Ref) (licensed : Bool) → Stands a t g (lead wrap gives (after_decide m (verdict_by licensed false))) → IsPlain a t r → a.own.access ≡ Writable →
      (licensed ≡ true → generation a r ≡ generation a i) → c + weight t ≤ b → Comes a weight (P t) b t
  overtaken t b m r true next plain writable same enough =
      Licensed.after_another a weight x f wt wrap gives i h c g two three seven r (same refl) writable t b m next plain (omega (arith, enough, six)) (prev_word a.states t m) refl
  overtaken t b m r false next plain writable same enough = On.from_main a weight x f wt wrap gives i h c g two three seven t b next enough

  decide_by : (t b : ℕ) (m q r : Ref) → S t (read.Decide m q (Some (generation a r))) → IsPlain a t r → a.own.access ≡ Writable → c + 1 + weight t ≤ b → t < a.last → (pending : Bool) →
      is_pending (prev_at (a.states t).heap m) q ≡ pending → Comes a weight (P t) b t
  decide_by t b m q r s plain writable enough more true e =
      let found = read_acts a wrap gives i h t g (read.Decide m q (Some (generation a r))) s more in
      let stood = on_line a t g (wrap (read.Decide m q (Some (generation a r)))) s _ (h.embedded.reads (read.Decide m q (Some (generation a r)))) in
      let sees = On.sees_pending a weight x f wt wrap gives i h c g two three seven t s.until m q stood (sym found.1.prev ∙ pending_so _ q e) in
      On.was_read a weight x f wt wrap gives i h c g two three seven t b (First.decide a weight x f wt wrap gives i h c g t b m q (Some (generation a r)) s sees (omega (arith, enough, seven)))
  decide_by t b m q r s plain writable enough more false e =
      let told = Some (generation a r) in
      on a wrap gives i h weight P (On.counts a weight x f wt wrap gives i h c g two three seven) b t g (read.Decide m q told) s (omega (arith, enough))
      (λ soon next.
      let found = read_acts a wrap gives i h t g (read.Decide m q told) s soon in
      let less = wt.decided t i m q told (acting a wrap gives i h t g (read.Decide m q told) s soon) (λ is. not_pending_so _ q e (found.1.prev ∙ is)) in
      overtaken (suc t) (b - 1) m r (is_licensed (a.states t).heap i told)
      (subst (λ y. Stands a (suc t) g (lead wrap gives (after_decide m (verdict_by (is_licensed (a.states t).heap i told) y)))) e next)
      (stays a wrap gives i h t g (read.Decide m q told) s soon r plain) writable
      (λ licensed. told_same _ _ licensed ∙ Licensed.own_so a weight x f wt wrap gives i h c g two three seven t m q told s soon) (omega (arith, enough, less)))

  decide_told : (t b : ℕ) (m q r : Ref) → S t (read.Decide m q (Some (generation a r))) → IsPlain a t r → a.own.access ≡ Writable → c + 1 + weight t ≤ b → Comes a weight (P t) b t
  decide_told t b m q r s plain writable enough room =
      decide_by t b m q r s plain writable enough (omega (arith, enough, room)) (is_pending (prev_at (a.states t).heap m) q) refl room

  -- ---- the root is asked for

  ask_plain : (t b : ℕ) (m q r : Ref) → S t (read.AskRoot m q) → IsPlain a t r → c + 2 + weight t ≤ b → Comes a weight (P t) b t
  ask_plain t b m q r s plain enough =
      on a wrap gives i h weight P (On.counts a weight x f wt wrap gives i h c g two three seven) b t g (read.AskRoot m q) s (omega (arith, enough))
      (λ more next.
      let less = light a wrap gives i h weight wt.quiet t g (read.AskRoot m q) s more tt in
      let told = Licensed.told_so a weight x f wt wrap gives i h c g two three seven t (read.AskRoot m q) s r plain in
      decide_told (suc t) (b - 1) m q r
      (subst (λ n. S (suc t) (read.Decide m q (Some n))) told (subst (λ y. Stands a (suc t) g (lead wrap gives (after_ask (a.states t).heap m q y))) plain next))
      (stays a wrap gives i h t g (read.AskRoot m q) s more r plain) (asks_writable a t g (wrap (read.AskRoot m q)) s i m q (h.embedded.reads (read.AskRoot m q))) (omega (arith, enough, less)))

  -- ---- from any line

  pub soon : (t b : ℕ) (l : ReadLine) → S t l → c + 3 + weight t ≤ b → Comes a weight (P t) b t
  soon t b read.Main s enough = On.from_main a weight x f wt wrap gives i h c g two three seven t b s (omega (arith, enough))
  soon t b (read.Prev m) s enough = On.prev_any a weight x f wt wrap gives i h c g two three seven t b m s (omega (arith, enough))
  soon t b (read.AskRoot m q) s enough = On.ask a weight x f wt wrap gives i h c g two three seven 1 ask_plain t b m q s (omega (arith, enough))
  soon t b (read.Abort m q offer) s enough = On.abort a weight x f wt wrap gives i h c g two three seven 1 ask_plain t b m q offer s enough
  soon t b (read.Decide m q told) s enough = On.decide_any a weight x f wt wrap gives i h c g two three seven t b m q told s enough
  soon t b (read.Restore m q) s enough = On.restore a weight x f wt wrap gives i h c g two three seven t b m q s (omega (arith, enough))
