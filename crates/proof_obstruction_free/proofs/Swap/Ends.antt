-- A SWAP from its first line on, where one actor alone takes steps: what it comes to, and within how many steps.
use Rattle.std.proofs.Common.{ap, subst, ◌≡◌, ℕ, suc, ◌+◌, ◌<◌, ◌≤◌, false, Option, Some, sym, ◌∙◌, arith}
use Rattle.std.proofs.lemmas.Option.{same_Some}
use Rattle.proof_obstruction_free.specs.Vocabulary.{Ref, Prev, Purpose, SwapLine, swapped, main_word, Descriptor, Offer, line_action, action_at}
use Rattle.proof_obstruction_free.specs.Beneath.slot_arena.specs.declared.nodes.Prev.TheVariants as over
use Rattle.proof_obstruction_free.specs.Beneath.machine_model.specs.declared.reading.ReadLine.TheVariants as read
use Rattle.proof_obstruction_free.specs.Beneath.machine_model.specs.declared.reading.SwapLine.TheVariants as swap
use Rattle.proof_obstruction_free.specs.Alone.{IsStill, IsStillWeight, Lone, Stands, KeepsBut, WordStays, IsPlain, node, generation, word}
use Rattle.proof_obstruction_free.specs.Machines.{HasSwapped}
use Rattle.proof_obstruction_free.specs.Stepping.{Stepping}
use Rattle.proof_obstruction_free.specs.Beneath.machine_model.specs.declared.actions.Action.TheVariants as act
use Rattle.proof_obstruction_free.specs.Weighing.{Weighing, Acts, Sees}
use Rattle.proof_obstruction_free.proofs.Swap.Steps.{keeps_left}
use Rattle.proof_obstruction_free.proofs.Swap.Lines.{swap_line, checks}
use Rattle.proof_obstruction_free.proofs.Swap.Found.{swap_generation}
use Rattle.proof_obstruction_free.proofs.Swap.Course.{FreshStands, Restored}
use Rattle.proof_obstruction_free.proofs.Swap.Deciding.{finds_failed, asks_plain, commits, fails, reads_main, puts_back}
use Rattle.proof_obstruction_free.proofs.Step.Within.{Comes, at_once, same_stays, stays_on}

-- What is asked of a weight: what an own fresh node weighs while it is pending or failed is added by the SWAP's first step, and taken off by a later one.
pub record Pays (a : Lone) (weight : ℕ → ℕ) (pending failed : ℕ) : Type 0 where
  pub quiet : IsStillWeight a weight
  pub abort : (t : ℕ) (offer : Descriptor) → Acts a t (act.Abort offer) → word a t ≡ Offer offer → weight (suc t) ≤ weight t
  pub commit : (t : ℕ) (i m q : Ref) (told : Option ℕ) → Acts a t (act.Decide i m q told) → Sees a t i m (over.Pending q) → Sees a (suc t) i m over.None →
      weight (suc t) + pending ≤ weight t
  pub fail : (t : ℕ) (i m q : Ref) (told : Option ℕ) → Acts a t (act.Decide i m q told) → Sees a t i m (over.Pending q) → Sees a (suc t) i m (over.Failed q) →
      weight (suc t) + pending ≤ weight t + failed
  pub restore : (t : ℕ) (i m q : Ref) → Acts a t (act.Restore i m q) → Sees a t i m (over.Failed q) → Sees a (suc t) i q over.None → weight (suc t) + failed ≤ weight t
  pub publish : (t : ℕ) (i m fresh : Ref) → Acts a t (act.Publish i m fresh) → weight (suc t) ≤ weight t + pending
  pub published : (t : ℕ) (i m fresh : Ref) → Acts a t (act.Publish i m fresh) → (main_word a.states t i ≡ m → ⊥) → weight (suc t) ≤ weight t

pub pays_of : (a : Lone) (weight : ℕ → ℕ) (pending failed : ℕ) → Weighing a weight pending failed → Pays a weight pending failed
pays_of a weight pending failed w = record {
  quiet = w.quiet;
  abort = λ t offer acts stands. let less = w.abort t offer acts stands in omega (arith, less);
  commit = w.commit;
  fail = w.fail;
  restore = w.restore;
  publish = w.publish;
  published = w.published;
}

-- nothing weighs anything
pub pays_nothing : (a : Lone) → Pays a (λ t. 0) 0 0
pays_nothing a = record {
  quiet = λ t since more operation runs quiet. omega arith;
  abort = λ t offer acts stands. omega arith;
  commit = λ t i m q told acts before after. omega arith;
  fail = λ t i m q told acts before after. omega arith;
  restore = λ t i m q acts before after. omega arith;
  publish = λ t i m fresh acts. omega arith;
  published = λ t i m fresh acts other. omega arith;
}

-- the SWAP has failed, by a root of another generation
pub record HasFailed (a : Lone) (t : ℕ) (g : Option ℕ) (why : Purpose) (i fresh : Ref) (u : ℕ) : Type 0 where
  pub stands : Stands a u g (swapped a.own (node a fresh) why false)
  pub keeps : KeepsBut a t u i
  pub word : WordStays a t u
  pub root : Ref
  pub plain : IsPlain a u root
  pub other : g ≡ Some (generation a root) → ⊥

module _ (a : Lone) (steps : Stepping a) (weight : ℕ → ℕ) (pending failed : ℕ) (weighing : Pays a weight pending failed) (c : ℕ) (why : Purpose) (i replaced fresh : Ref) (t : ℕ)
    (g : Option ℕ) where
  abbrev C : (ℕ → Type 0) → ℕ → ℕ → Type 0
  C = Comes a weight

  abbrev At : SwapLine → ℕ → Type 0
  At x u = Stands a u g (swap_line a why i replaced fresh x)

  abbrev Held : ℕ → Prev → Type 0
  Held u v = FreshStands a i replaced fresh t u v

  -- ---- what a step costs

  -- one step of the budget
  pub spends : (Q : ℕ → Type 0) (n u : ℕ) → (u < a.last → C Q n (suc u)) → C Q (suc n) u
  spends Q n u then room = let (v, after, soon, q) = then (omega (arith, room)) (omega (arith, room)) in (v, omega (arith, after), omega (arith, soon), q)

  pub acts_so : (u : ℕ) (x : SwapLine) (s : At x u) → u < a.last → Acts a u (action_at i replaced fresh x)
  acts_so u x s h = record { since = s.since; more = h; operation = s.operation; runs = s.runs; is = ap (line_action (a.states u) s.operation) s.line }

  pub quiet_so : (u : ℕ) (x : SwapLine) (s : At x u) → u < a.last → IsStill (action_at i replaced fresh x) → weight (suc u) ≤ weight u
  quiet_so u x s h quiet = weighing.quiet u s.since h s.operation s.runs (subst IsStill (sym (ap (line_action (a.states u) s.operation) s.line)) quiet)

  sees : (u : ℕ) (v : Prev) → Held u v → Sees a u i fresh v
  sees u v holds = record { made = holds.made; main = holds.main; prev = holds.prev }

  -- ---- by a root that gives the licence, and by another one

  abbrev pub Succeeds : Ref → ℕ → Type 0
  Succeeds r u = HasSwapped a weight c t g why i fresh u × IsPlain a u r

  abbrev pub Fails : ℕ → Type 0
  Fails u = HasFailed a t g why i fresh u

  module _ (r : Ref) (B : ℕ) where
    sees_success : (u : ℕ) → At swap.Check u → Held u over.None → IsPlain a u r → weight u ≤ B → C (Succeeds r) (suc B) u
    sees_success u s holds plain enough = spends (Succeeds r) B u (λ h.
        let x = checks a why i replaced fresh steps u g s h over.None holds.prev in
        let less = quiet_so u swap.Check s h tt in
        at_once a weight (Succeeds r) B (suc u) (omega (arith, enough, less)) (
          record {
            stands = x.stands;
            has = keeps_left a u x.leaves i fresh (record { made = holds.made; main = holds.main; decided = holds.prev });
            keeps = λ j m other has. keeps_left a u x.leaves j m (holds.keeps j m other has);
            word = stays_on a t u (suc u) holds.word (same_stays a u (suc u) x.word);
          },
          same_stays a u (suc u) x.word r plain,
        ))

    commits_so : (u : ℕ) → At (swap.Deciding (read.Decide fresh replaced (Some (generation a r)))) u → Held u (over.Pending replaced) → IsPlain a u r → generation a r ≡ generation a i →
        weight u ≤ B + pending → C (Succeeds r) (suc (suc B)) u
    commits_so u s holds plain same enough = spends (Succeeds r) (suc B) u (λ h.
        let y = commits a steps why i replaced fresh t g u h r s holds same in
        let less = weighing.commit u i fresh replaced (Some (generation a r)) (acts_so u _ s h) (sees u (over.Pending replaced) holds) (sees (suc u) over.None y.holds) in
        sees_success (suc u) y.stands y.holds (y.word r plain) (omega (arith, enough, less)))

    pub succeeds : (u : ℕ) → At (swap.Deciding (read.AskRoot fresh replaced)) u → Held u (over.Pending replaced) → IsPlain a u r → generation a r ≡ generation a i → weight u ≤ B + pending →
        C (Succeeds r) (suc (suc (suc B))) u
    succeeds u s holds plain same enough = spends (Succeeds r) (suc (suc B)) u (λ h.
        let (x, still) = asks_plain a steps why i replaced fresh t g u h s holds r plain in
        let less = quiet_so u _ s h tt in
        commits_so (suc u) x.stands x.holds still same (omega (arith, enough, less)))

    -- ---- it fails

    module _ (other : g ≡ Some (generation a r) → ⊥) where
      sees_failure : (u : ℕ) → At swap.Check u → Restored a i replaced fresh t u → IsPlain a u r → weight u ≤ B → C Fails (suc B) u
      sees_failure u s back plain enough = spends Fails B u (λ h.
          let x = checks a why i replaced fresh steps u g s h (over.Failed replaced) back.prev in
          let less = quiet_so u swap.Check s h tt in
          at_once a weight Fails B (suc u) (omega (arith, enough, less)) (record {
            stands = x.stands;
            keeps = λ j m apart has. keeps_left a u x.leaves j m (back.keeps j m apart has);
            word = stays_on a t u (suc u) back.word (same_stays a u (suc u) x.word);
            root = r;
            plain = same_stays a u (suc u) x.word r plain;
            other = other;
          }))

      restores_so : (u : ℕ) → At (swap.Deciding (read.Restore fresh replaced)) u → Held u (over.Failed replaced) → IsPlain a u r → weight u ≤ B + failed → C Fails (suc (suc B)) u
      restores_so u s holds plain enough = spends Fails (suc B) u (λ h.
          let p = puts_back a steps why i replaced fresh t g u h s holds in
          let less = weighing.restore u i fresh replaced (acts_so u _ s h) (sees u (over.Failed replaced) holds) p.3 in
          sees_failure (suc u) p.0 p.1 (p.2 r plain) (omega (arith, enough, less)))

      reads_failed : (u : ℕ) → At (swap.Deciding (read.Prev fresh)) u → Held u (over.Failed replaced) → IsPlain a u r → weight u ≤ B + failed → C Fails (suc (suc (suc B))) u
      reads_failed u s holds plain enough = spends Fails (suc (suc B)) u (λ h.
          let q = finds_failed a steps why i replaced fresh t g u h s holds in
          let less = quiet_so u _ s h tt in
          restores_so (suc u) q.stands q.holds (q.word r plain) (omega (arith, enough, less)))

      reads_again : (u : ℕ) → At (swap.Deciding read.Main) u → Held u (over.Failed replaced) → IsPlain a u r → weight u ≤ B + failed → C Fails (suc (suc (suc (suc B)))) u
      reads_again u s holds plain enough = spends Fails (suc (suc (suc B))) u (λ h.
          let z = reads_main a steps why i replaced fresh t g u h s holds in
          let less = quiet_so u _ s h tt in
          reads_failed (suc u) z.stands z.holds (z.word r plain) (omega (arith, enough, less)))

      fails_now : (u : ℕ) → At (swap.Deciding (read.Decide fresh replaced (Some (generation a r)))) u → Held u (over.Pending replaced) → IsPlain a u r →
          (generation a r ≡ generation a i → ⊥) → weight u ≤ B + pending → C Fails (suc (suc (suc (suc (suc B))))) u
      fails_now u s holds plain apart enough = spends Fails (suc (suc (suc (suc B)))) u (λ h.
          let y = fails a steps why i replaced fresh t g u h r s holds apart in
          let less = weighing.fail u i fresh replaced (Some (generation a r)) (acts_so u _ s h) (sees u (over.Pending replaced) holds) (sees (suc u) (over.Failed replaced) y.holds) in
          reads_again (suc u) y.stands y.holds (y.word r plain) (omega (arith, enough, less)))

    pub fails_so : (u : ℕ) → At (swap.Deciding (read.AskRoot fresh replaced)) u → Held u (over.Pending replaced) → IsPlain a u r → (generation a r ≡ generation a i → ⊥) → weight u ≤ B + pending →
        C Fails (suc (suc (suc (suc (suc (suc B)))))) u
    fails_so u s holds plain apart enough =
        let other : g ≡ Some (generation a r) → ⊥ = λ e. apart (same_Some _ _ (sym e ∙ swap_generation a why i replaced fresh u g _ s)) in
        spends Fails (suc (suc (suc (suc (suc B))))) u (λ h.
        let (x, still) = asks_plain a steps why i replaced fresh t g u h s holds r plain in
        let less = quiet_so u _ s h tt in
        fails_now other (suc u) x.stands x.holds still apart (omega (arith, enough, less)))
