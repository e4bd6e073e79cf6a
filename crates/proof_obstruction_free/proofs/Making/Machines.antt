-- READ, SWAP and ROOT make no node, where one actor alone takes steps.
use Rattle.std.proofs.Common.{◌≡◌, ℕ, suc, ◌+◌, ◌-◌, ◌*◌, ◌<◌, ◌≤◌, ◌⊎◌, inl, inr, Option, Some, refl, arith}
use Rattle.std.proofs.lemmas.Bool.{cases_lt}
use Rattle.proof_obstruction_free.specs.Vocabulary.{Ref, Action, Line, Purpose, ReadLine, Climb, action_of, Operation, operation_of, swapping}
use Rattle.proof_obstruction_free.specs.Beneath.machine_model.specs.declared.lines.Line.TheVariants as line
use Rattle.proof_obstruction_free.specs.Beneath.machine_model.specs.declared.reading.ReadLine.TheVariants as read
use Rattle.proof_obstruction_free.specs.Beneath.machine_model.specs.declared.repairs.ClimbLine.TheVariants as climb
use Rattle.proof_obstruction_free.specs.Beneath.machine_model.specs.declared.roots.RootLine.TheVariants as root
use Rattle.proof_obstruction_free.specs.Alone.{Lone, Stands, Has, IsPlain, IsCurrent, IsStill, Within, word}
use Rattle.proof_obstruction_free.specs.Machines.{HoldsRead, HasSwapped, IsRead, IsRooted, IsRootedSo, IsSwapped, Machines}
use Rattle.proof_obstruction_free.specs.Weighing.{Acts, Weighing}
use Rattle.proof_obstruction_free.proofs.Making.Few.{Few, MakesNone, acts_none, made, made_after, map, over, still_none}
use Rattle.proof_obstruction_free.proofs.Root.Machines.{machines}
use Rattle.proof_obstruction_free.proofs.Weights.Flat.{flat_weighing}
use Rattle.proof_obstruction_free.proofs.Weights.Offers.{flat, weighs_at_most}

module _ (a : Lone) where
  -- A weight for what begins at step s: what is made from there on weighs so much that there is no room for it.
  abbrev heavy : ℕ → ℕ → ℕ
  heavy s t = flat a t + 64 * (made a t - made a s)

  no_heavier : (s t : ℕ) → made a (suc t) ≡ made a t → flat a (suc t) ≤ flat a t → heavy s (suc t) ≤ heavy s t
  no_heavier s t same less = omega (arith, same, less)

  makes_none : (t : ℕ) (action : Action) → Acts a t action → MakesNone action → made a (suc t) ≡ made a t
  makes_none = acts_none a

  weighing : (s : ℕ) → Weighing a (heavy s) 0 0
  weighing s =
      let w = flat_weighing a in
      record {
        quiet = λ t since more operation runs still. no_heavier s t
            (still_made t since more operation runs still) (w.quiet t since more operation runs still);
        weighs = λ t i m q since until sees. omega arith;
        weighs_failed = λ t i m q since until sees. omega arith;
        abort = λ t offer acts there. let less = w.abort t offer acts there in let same = makes_none t _ acts tt in omega (arith, less, same);
        commit = λ t i m q told acts sees now. let less = w.commit t i m q told acts sees now in let more = no_heavier s t (makes_none t _ acts tt) (omega (arith, less)) in omega (arith, more);
        fail = λ t i m q told acts sees now. let less = w.fail t i m q told acts sees now in let more = no_heavier s t (makes_none t _ acts tt) (omega (arith, less)) in omega (arith, more);
        decided = λ t i m q told acts other. no_heavier s t (makes_none t _ acts tt) (w.decided t i m q told acts other);
        restore = λ t i m q acts sees now. let less = w.restore t i m q acts sees now in let more = no_heavier s t (makes_none t _ acts tt) (omega (arith, less)) in omega (arith, more);
        restored = λ t i m q acts other. no_heavier s t (makes_none t _ acts tt) (w.restored t i m q acts other);
        publish = λ t i m fresh acts. let less = w.publish t i m fresh acts in let more = no_heavier s t (makes_none t _ acts tt) (omega (arith, less)) in omega (arith, more);
        published = λ t i m fresh acts other. no_heavier s t (makes_none t _ acts tt) (w.published t i m fresh acts other);
      }
    where
      still_made : (t : ℕ) → a.start ≤ t → t < a.last → (operation : Operation) → operation_of (a.states t) a.actor ≡ Some operation → IsStill (action_of (a.states t) operation) →
          made a (suc t) ≡ made a t
      still_made t since more operation runs still =
          makes_none t (action_of (a.states t) operation) (record { since = since; more = more; operation = operation; runs = runs; is = refl }) (still_none (action_of (a.states t) operation) still)

  small : (s : ℕ) → Machines a (heavy s) 7
  small s = machines a (heavy s) 0 0 7 (weighing s) (omega arith) (omega arith) (omega arith)

  -- what comes within ten steps by this weight comes with no node made
  soon : (P : ℕ → Type 0) (n t : ℕ) → t ≤ a.last → n ≤ 10 → Within a (heavy t) P n t → Few a P 0 t
  soon P n t within short w = by (cases_lt a.last (t + 12))
    where
      by : (a.last < t + 12) ⊎ (t + 12 ≤ a.last) → Few a P 0 t
      by (inl near) = over a P 0 t within (omega (arith, near))
      by (inr room) =
          let light = weighs_at_most (word a t) in
          let (u, after, in_time, p) = w (omega (arith, light, room, short)) in
          let no_less = made_after a t u after in
          record { at = u; from = after; until = omega (arith, in_time, light, room, short); few = omega (arith, in_time, light, short, no_less); so = inl p }

  -- ---- READ

  pub reads : (wrap : ReadLine → Line) (gives : Ref → Line) (i : Ref) → HoldsRead a.own wrap gives i → (t : ℕ) (g : Option ℕ) → Stands a t g (wrap read.Main) →
      Few a (IsRead a (flat a) 7 t g gives i) 0 t
  reads wrap gives i h t g s =
      map a (IsRead a (heavy t) 7 t g gives i) (IsRead a (flat a) 7 t g gives i) 0 t (λ u after within x. record { main = x.main; stands = x.stands; has = x.has; keeps = x.keeps; word = x.word })
      (soon (IsRead a (heavy t) 7 t g gives i) 7 t s.until (omega arith) ((small t).reads_first wrap gives i h t g s))

  -- ---- SWAP

  pub swaps_current : (why : Purpose) (i replaced fresh r : Ref) (t : ℕ) (g : Option ℕ) → Stands a t g (line.Swap why (swapping i replaced fresh)) → IsCurrent a t r g → Has a t i replaced →
      Few a (HasSwapped a (flat a) 7 t g why i fresh) 0 t
  swaps_current why i replaced fresh r t g s current has =
      map a (HasSwapped a (heavy t) 7 t g why i fresh) (HasSwapped a (flat a) 7 t g why i fresh) 0 t (λ u after within x. record { stands = x.stands; has = x.has; keeps = x.keeps; word = x.word })
      (soon (HasSwapped a (heavy t) 7 t g why i fresh) 5 t s.until (omega arith) ((small t).swaps_current why i replaced fresh r t g s current has))

  pub swaps : (why : Purpose) (i replaced fresh : Ref) (t : ℕ) (g : Option ℕ) → Stands a t g (line.Swap why (swapping i replaced fresh)) → Few a (IsSwapped a (flat a) 7 t g why i replaced fresh) 0 t
  swaps why i replaced fresh t g s =
      map a (IsSwapped a (heavy t) 7 t g why i replaced fresh) (IsSwapped a (flat a) 7 t g why i replaced fresh) 0 t
      (λ u after within x. record { done = x.done; stands = x.stands; keeps = x.keeps; word = x.word; so = record { if_done = x.so.if_done; if_not = x.so.if_not } })
      (soon (IsSwapped a (heavy t) 7 t g why i replaced fresh) 10 t s.until (omega arith) ((small t).swaps_first why i replaced fresh t g s))

  -- ---- ROOT

  rooted : (t u : ℕ) → IsRooted a (heavy t) 7 t u → IsRooted a (flat a) 7 t u
  rooted t u x = record { root = x.root; plain = x.plain; stands = x.stands; keeps = x.keeps; word = x.word }

  pub roots : (t : ℕ) (g : Option ℕ) → Stands a t g (line.Root root.Read) → Few a (IsRooted a (flat a) 7 t) 0 t
  roots t g s =
      map a (IsRooted a (heavy t) 7 t) (IsRooted a (flat a) 7 t) 0 t (λ u after within x. rooted t u x) (soon (IsRooted a (heavy t) 7 t) 10 t s.until (omega arith) ((small t).roots_first t g s))

  pub roots_plain : (t : ℕ) (g : Option ℕ) (r : Ref) → Stands a t g (line.Root root.Read) → IsPlain a t r → Few a (λ u. IsRooted a (flat a) 7 t u × IsPlain a u r) 0 t
  roots_plain t g r s plain =
      map a (λ u. IsRooted a (heavy t) 7 t u × IsPlain a u r) (λ u. IsRooted a (flat a) 7 t u × IsPlain a u r) 0 t (λ u after within x. (rooted t u x.0, x.1))
      (soon (λ u. IsRooted a (heavy t) 7 t u × IsPlain a u r) 1 t s.until (omega arith) ((small t).roots_plain t g r s plain))

  pub climb_roots_plain : (x : Climb) (t : ℕ) (g : Option ℕ) (r : Ref) → Stands a t g (line.Climb (climb.Root x root.Read)) → IsPlain a t r →
      Few a (λ u. IsRootedSo a (flat a) 7 t g x u × IsPlain a u r) 0 t
  climb_roots_plain x t g r s plain =
      map a (λ u. IsRootedSo a (heavy t) 7 t g x u × IsPlain a u r) (λ u. IsRootedSo a (flat a) 7 t g x u × IsPlain a u r) 0 t
      (λ u after within y. (record { root = y.0.root; plain = y.0.plain; stands = y.0.stands; keeps = y.0.keeps; word = y.0.word }, y.1))
      (soon (λ u. IsRootedSo a (heavy t) 7 t g x u × IsPlain a u r) 1 t s.until (omega arith) ((small t).climb_roots_plain x t g r s plain))
