-- A snapshot, a freeze or a clear whose actor alone takes steps ends.
use Rattle.std.proofs.Common.{ap, ◌≡◌, ℕ, suc, ◌+◌, ◌≤◌, ◌||◌, Bool, true, false, cond, Option, refl, sym, ◌∙◌, subst, arith}
use Rattle.proof_obstruction_free.specs.Vocabulary.{Call, Clear, Snapshot, Freeze, Ref, CopyLine, Line, ReadLine, CompleteLine, Descriptor, Access, Writable, ReadOnly, handle_of, needs_writable}
use Rattle.proof_obstruction_free.specs.Vocabulary.{after_given, after_offer, copied_reply, new_try, reading, word_at, is_plain, is_carried_out}
use Rattle.proof_obstruction_free.specs.Beneath.machine_model.specs.declared.copying.CopyLine.TheVariants as copy
use Rattle.proof_obstruction_free.specs.Beneath.machine_model.specs.declared.lines.Line.TheVariants as line
use Rattle.proof_obstruction_free.specs.Beneath.machine_model.specs.declared.reading.ReadLine.TheVariants as read
use Rattle.proof_obstruction_free.specs.Beneath.machine_model.specs.declared.roots.CompleteLine.TheVariants as complete
use Rattle.std.proofs.lemmas.Bool.{true≢false}
use Rattle.proof_obstruction_free.specs.Beneath.proof_memory.proofs.Safety.AtEachTime.{safe_at}
use Rattle.proof_obstruction_free.specs.Beneath.proof_generations.proofs.Handles.Running.{place_of_actor}
use Rattle.proof_obstruction_free.specs.Beneath.machine_model.specs.Operations.{from_root}
use Rattle.proof_obstruction_free.specs.Alone.{word, Lone, Stands, Has, IsPlain, IsWeight, Within}
use Rattle.proof_obstruction_free.specs.Copies.{IsCopying}
use Rattle.proof_obstruction_free.specs.Machines.{Machines, IsRead, WasRead, IsRooted}
use Rattle.proof_obstruction_free.specs.Stepping.{Stepping}
use Rattle.proof_obstruction_free.proofs.Copy.Calls.{OfCopy, copy_lines}
use Rattle.proof_obstruction_free.proofs.Copy.Fresh.{offers}
use Rattle.proof_obstruction_free.proofs.Copy.Lines.{copying, given, copy_reads, completing_line, swapping_line, complete_reads}
use Rattle.proof_obstruction_free.proofs.Copy.Made as Made
use Rattle.proof_obstruction_free.proofs.Copy.Reads.{reads_root}
use Rattle.proof_obstruction_free.proofs.Root.Machines.{flat_machines}
use Rattle.proof_obstruction_free.proofs.Ends.StandsAt.{begins, stands_as}
use Rattle.proof_obstruction_free.proofs.Step.Step.{stepping}
use Rattle.proof_obstruction_free.proofs.Weights.Offers.{flat, is_weight, weighs_at_most}
use Rattle.proof_obstruction_free.proofs.Step.Within.{weaken, bind, one, pays, ended}

module _ (a : Lone) (copies : IsCopying a.own.call) where
  abbrev Never : ℕ → ℕ → Type 0
  Never = Within a (flat a) (λ u. ⊥)

  steps : Stepping a
  steps = stepping a

  machines : Machines a (flat a) 7
  machines = flat_machines a

  no_weight : IsWeight a (λ t. 0)
  no_weight t since more operation runs quiet = omega arith

  from_root_reads : (call : Call) → IsCopying call → (r : Ref) → from_root call r ≡ line.Copy (copy.Read r (reading r))
  from_root_reads (Clear h) is r = refl
  from_root_reads (Snapshot h) is r = refl
  from_root_reads (Freeze h) is r = refl
  from_root_reads call is r = absurd is

  -- ---- a fresh try

  -- its handle is writable
  writes : (call : Call) → IsCopying call → needs_writable call ≡ true
  writes (Clear h) is = refl
  writes (Snapshot h) is = refl
  writes (Freeze h) is = refl
  writes call is = absurd is

  writable : (t : ℕ) (g : Option ℕ) (l : Line) → Stands a t g l → a.own.access ≡ Writable
  writable t g l s = by a.own.access refl
    where
      by : (x : Access) → a.own.access ≡ x → a.own.access ≡ Writable
      by Writable e = e
      by ReadOnly e =
          let (k, place, at_k) = place_of_actor (a.states t) a.actor s.operation s.runs in
          let fits = (safe_at a.run t s.until).fits k s.operation at_k (s.access ∙ e) in
          absurd (true≢false (sym (writes a.own.call copies) ∙ ap needs_writable (sym s.call) ∙ fits))

  -- the root was read, and stands in the handle's word
  from_root_on : (t : ℕ) (g : Option ℕ) (r : Ref) → Stands a t g (copying a.own r r read.Main) → IsPlain a t r → t + 11 ≤ a.last → ⊥
  from_root_on t g r s plain room =
      let x = reads_root a steps (writable t g (copying a.own r r read.Main) s) (copying a.own r r) (given a.own r r) r (copy_reads a.own r r) g t (omega (arith, room)) s plain in
      let sooner = x.soon in
      (Made.given a steps (λ v. 0) no_weight r x.main g 5 x.at a.own.call x.stands (omega arith)
      (λ v later y left. absurd (offers a steps y.offer g v y.stands (subst (λ q. IsPlain a v q) (sym y.root_is) (y.word ∙ x.word r plain))
      (subst (λ q. Has a v q y.offer.expected) (sym y.root_is) (subst (λ q. Has a v r q) (sym y.main_is) (y.keeps r x.main x.has))) (omega (arith, left)))) (omega (arith, room, sooner))).3

  -- from where the root is given
  from_rooted : (t u : ℕ) → IsRooted a (flat a) 7 t u → Never 11 u
  from_rooted t u q room = absurd (from_root_on u _ q.root (stands_as a u _ _ _ _ refl (from_root_reads a.own.call copies q.root) q.stands) q.plain (omega (arith, room)))

  pub from_try : (t : ℕ) (g : Option ℕ) → Stands a t g new_try → Never 21 t
  from_try t g s = bind a (flat a) (IsRooted a (flat a) 7 t) (λ u. ⊥) 10 11 t (machines.roots_first t g s) (λ u after inside q. from_rooted t u q)

  -- ---- from each line

  -- whether its own offer was carried out or not
  from_swap : (t : ℕ) (g : Option ℕ) (d : Descriptor) (m : Ref) → Stands a t g (swapping_line a.own d m) → Never 22 t
  from_swap t g d m s = one a (flat a) (is_weight a) (λ u. ⊥) 21 t g (swapping_line a.own d m) s tt (λ h.
      by (is_carried_out (word_at (a.states t) (handle_of s.operation.call)) d m || s.operation.is_marked)
      (stands_as a (suc t) _ g _ _ s.generation refl (steps.next t g (swapping_line a.own d m) s h tt)))
    where
      by : (b : Bool) → Stands a (suc t) g (cond b (line.End (copied_reply s.operation.call s.operation.opens)) new_try) → Never 21 (suc t)
      by true at = weaken a (flat a) (λ u. ⊥) 1 21 (suc t) (omega arith) (ended a (flat a) steps (λ u. ⊥) (suc t) g (copied_reply s.operation.call s.operation.opens) at)
      by false at = from_try (suc t) g at

  from_complete : (t : ℕ) (g : Option ℕ) (d : Descriptor) (l : ReadLine) → Stands a t g (completing_line a.own d l) → Never 35 t
  from_complete t g d l s =
      bind a (flat a) (WasRead a (flat a) 7 t g (swapping_line a.own d)) (λ u. ⊥) 13 22 t
      (machines.reads_on (completing_line a.own d) (swapping_line a.own d) d.root (complete_reads a.own d) t g l s) (λ u after inside q. from_swap u g d q.main q.stands)

  -- from its first line
  complete_first : (t : ℕ) (g : Option ℕ) (d : Descriptor) → Stands a t g (completing_line a.own d read.Main) → Never 29 t
  complete_first t g d s =
      bind a (flat a) (IsRead a (flat a) 7 t g (swapping_line a.own d) d.root) (λ u. ⊥) 7 22 t
      (machines.reads_first (completing_line a.own d) (swapping_line a.own d) d.root (complete_reads a.own d) t g s) (λ u after inside q. from_swap u g d q.main q.stands)

  -- the offer's own step may add what an offer weighs
  from_offer : (t : ℕ) (g : Option ℕ) (d : Descriptor) → Stands a t g (line.Copy (copy.Offer d)) → Never 32 t
  from_offer t g d s =
      pays a (flat a) (λ u. ⊥) 29 32 t (let most = weighs_at_most (word a (suc t)) in omega (arith, most)) (λ h.
      by (is_plain (word_at (a.states t) (handle_of s.operation.call)) d.root) (stands_as a (suc t) _ g _ _ s.generation refl (steps.next t g (line.Copy (copy.Offer d)) s h tt)))
    where
      by : (b : Bool) → Stands a (suc t) g (after_offer d b) → Never 29 (suc t)
      by true at = complete_first (suc t) g d at
      by false at = weaken a (flat a) (λ u. ⊥) 21 29 (suc t) (omega arith) (from_try (suc t) g at)

  follows : (t : ℕ) (g : Option ℕ) (r m : Ref) → Made.Follows a steps (flat a) (is_weight a) r m g 32 t
  follows t g r m u after x = from_offer u g x.offer x.stands

  from_given : (t : ℕ) (g : Option ℕ) (r m : Ref) → Stands a t g (after_given a.own.call r m) → Never 34 t
  from_given t g r m s = Made.given a steps (flat a) (is_weight a) r m g 32 t a.own.call s (omega arith) (follows t g r m)

  from_copy : (t : ℕ) (g : Option ℕ) (l : CopyLine) → Stands a t g (line.Copy l) → Never 47 t
  from_copy t g (copy.Read r x) s =
      bind a (flat a) (WasRead a (flat a) 7 t g (given a.own r x.indirection)) (λ u. ⊥) 13 34 t
      (machines.reads_on (copying a.own r x.indirection) (given a.own r x.indirection) x.indirection (copy_reads a.own r x.indirection) t g x.line s)
      (λ u after inside q. from_given u g r q.main q.stands)
  from_copy t g (copy.Successor r m) s =
      weaken a (flat a) (λ u. ⊥) 34 47 t (omega arith) (Made.successor a steps (flat a) (is_weight a) r m g 32 t s (omega arith) (follows t g r m))
  from_copy t g (copy.Empty r m) s =
      weaken a (flat a) (λ u. ⊥) 34 47 t (omega arith) (Made.empty a steps (flat a) (is_weight a) r m g 32 t s (omega arith) (follows t g r m))
  from_copy t g (copy.Second r m q) s =
      weaken a (flat a) (λ u. ⊥) 33 47 t (omega arith) (Made.second a steps (flat a) (is_weight a) r m g 32 t q s (omega arith) (follows t g r m))
  from_copy t g (copy.Cleared r m q) s =
      weaken a (flat a) (λ u. ⊥) 33 47 t (omega arith) (Made.cleared a steps (flat a) (is_weight a) r m g 32 t q s (omega arith) (follows t g r m))
  from_copy t g (copy.Offer d) s = weaken a (flat a) (λ u. ⊥) 32 47 t (omega arith) (from_offer t g d s)
  from_copy t g (copy.Complete c) s = by c.line s
    where
      by : (l : CompleteLine) → Stands a t g (line.Copy (copy.Complete (record { offer = c.offer; line = l }))) → Never 47 t
      by (complete.Reading l) at = weaken a (flat a) (λ u. ⊥) 35 47 t (omega arith) (from_complete t g c.offer l at)
      by (complete.Swap m) at = weaken a (flat a) (λ u. ⊥) 22 47 t (omega arith) (from_swap t g c.offer m at)

  from_line : (t : ℕ) (g : Option ℕ) (l : Line) → OfCopy l → Stands a t g l → Never 47 t
  from_line t g (line.Copy l) o s = from_copy t g l s
  from_line t g (line.End answer) o s = weaken a (flat a) (λ u. ⊥) 1 47 t (omega arith) (ended a (flat a) steps (λ u. ⊥) t g answer s)
  from_line t g (line.Root l) o s =
      weaken a (flat a) (λ u. ⊥) 35 47 t (omega arith)
      (bind a (flat a) (IsRooted a (flat a) 7 t) (λ u. ⊥) 24 11 t (machines.roots_on t g l s) (λ u after inside q. from_rooted t u q))
  from_line t g l o s = absurd o

  -- no run is so long
  none_longer : (n : ℕ) → a.start + n + 2 ≤ a.last → Never n a.start → ⊥
  none_longer n room never = let most = weighs_at_most (word a a.start) in (never (omega (arith, room, most))).3

pub no_long_copy_first : (a : Lone) → IsCopying a.own.call → a.own.line ≡ new_try → a.start + 23 ≤ a.last → ⊥
no_long_copy_first a copies at room =
    let s = begins a (omega (arith, room)) in
    none_longer a copies 21 (omega (arith, room)) (from_try a copies a.start a.own.generation (subst (λ l. Stands a a.start a.own.generation l) at s))

pub no_long_copy : (a : Lone) → IsCopying a.own.call → a.start + 49 ≤ a.last → ⊥
no_long_copy a copies room =
    let s = begins a (omega (arith, room)) in
    none_longer a copies 47 (omega (arith, room)) (from_line a copies a.start a.own.generation a.own.line (copy_lines a copies (omega (arith, room))) s)
