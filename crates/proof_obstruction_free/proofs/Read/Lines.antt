-- What a line in a READ remembers, by the laws of deciding: the node that it names stood in that indirection's word; a failed one that is to be replaced has failed.
use Rattle.std.proofs.Common.{◌≡◌, ℕ, ◌≤◌, Option, Some, sym, ap, ◌∙◌, subst}
use Rattle.std.proofs.lemmas.Option.{none-some, same_Some}
use Rattle.proof_obstruction_free.specs.Vocabulary.{Writable, Ref, Line, Read, SwapLine, CompleteLine, Descriptor, RootLine, read_of, rooting_read, completing_read, swapping_read, main_word}
use Rattle.proof_obstruction_free.specs.Vocabulary.{prev_word, Words, stage_of, stage_of_root, stage_of_complete, stage_of_swap, stage_of_actor}
use Rattle.proof_obstruction_free.specs.Beneath.slot_arena.specs.declared.nodes.Prev.TheVariants as prev
use Rattle.proof_obstruction_free.specs.Beneath.machine_model.specs.declared.copying.CopyLine.TheVariants as copy
use Rattle.proof_obstruction_free.specs.Beneath.machine_model.specs.declared.finding.KeyLine.TheVariants as key
use Rattle.proof_obstruction_free.specs.Beneath.machine_model.specs.declared.lines.Line.TheVariants as line
use Rattle.proof_obstruction_free.specs.Beneath.machine_model.specs.declared.reading.ReadLine.TheVariants as read
use Rattle.proof_obstruction_free.specs.Beneath.machine_model.specs.declared.reading.SwapLine.TheVariants as swap
use Rattle.proof_obstruction_free.specs.Beneath.machine_model.specs.declared.repairs.CleanLine.TheVariants as clean
use Rattle.proof_obstruction_free.specs.Beneath.machine_model.specs.declared.repairs.ClimbLine.TheVariants as climb
use Rattle.proof_obstruction_free.specs.Beneath.machine_model.specs.declared.repairs.RenewLine.TheVariants as renew
use Rattle.proof_obstruction_free.specs.Beneath.machine_model.specs.declared.roots.CompleteLine.TheVariants as complete
use Rattle.proof_obstruction_free.specs.Beneath.machine_model.specs.declared.roots.RootLine.TheVariants as root
use Rattle.proof_obstruction_free.specs.Beneath.machine_model.specs.declared.walking.WalkLine.TheVariants as walk
use Rattle.proof_obstruction_free.specs.Beneath.proof_commits.proofs.Words.Stood.{Stood}
use Rattle.proof_obstruction_free.specs.Beneath.proof_commits.proofs.Course.Finals.{pending_stands}
use Rattle.proof_obstruction_free.specs.Beneath.proof_commits.proofs.Known.Owners.{OnLine, Staged}
use Rattle.proof_obstruction_free.specs.Beneath.proof_commits.proofs.Words.Along.{remembers_at}
use Rattle.proof_obstruction_free.specs.Beneath.proof_commits.proofs.Lines.Stages.{Remembers, ReadRemembers, CompleteRemembers, RootRemembers, SwapRemembers}
use Rattle.proof_obstruction_free.specs.Alone.{Lone, Stands}
use Rattle.proof_obstruction_free.proofs.Read.Words.{w, sound}
use Rattle.proof_obstruction_free.specs.Beneath.proof_commits.proofs.Known.Acts.{known_run}
use Rattle.proof_obstruction_free.proofs.Step.Next.{own_run}

-- ---- the line's stage is its READ

module _ (v : Words) (t k : ℕ) where
  abbrev Knows : Read → Type 0
  Knows r = OnLine v t r.indirection r.line

  abbrev Tells : Option Read → Type 0
  Tells o = (r : Read) → o ≡ Some r → Knows r

  tells_some : (own : Read) → Knows own → Tells (Some own)
  tells_some own known r e = subst Knows (same_Some own r e) known

  completing_tells : (offer : Descriptor) (l : CompleteLine) → Staged v t k (stage_of_complete offer l) → Tells (completing_read offer l)
  completing_tells offer (complete.Reading l) known = tells_some (record { indirection = offer.root; line = l }) known
  completing_tells offer (complete.Swap main) known = λ r e. absurd (none-some r e)

  rooting_tells : (l : RootLine) → Staged v t k (stage_of_root l) → Tells (rooting_read l)
  rooting_tells root.Read known = λ r e. absurd (none-some r e)
  rooting_tells (root.Completing c) known = completing_tells c.offer c.line known

  swapping_tells : (i replaced fresh : Ref) (l : SwapLine) → Staged v t k (stage_of_swap i replaced fresh l) → Tells (swapping_read i l)
  swapping_tells i replaced fresh swap.Publish known = λ r e. absurd (none-some r e)
  swapping_tells i replaced fresh (swap.Deciding l) known = tells_some (record { indirection = i; line = l }) known.0
  swapping_tells i replaced fresh swap.Check known = λ r e. absurd (none-some r e)

  tells : (l : Line) → Staged v t k (stage_of l) → Tells (read_of l)
  tells (line.Root l) known = rooting_tells l known
  tells (line.Key (key.Read path own)) known = tells_some own known
  tells (line.Swap why s) known = swapping_tells s.indirection s.replaced s.fresh s.line known
  tells (line.Renew (renew.Read path main done own)) known = tells_some own known
  tells (line.Clean (clean.Read path own)) known = tells_some own known
  tells (line.Clean (clean.Child path main done own)) known = tells_some own known
  tells (line.Climb (climb.Read c own)) known = tells_some own known
  tells (line.Climb (climb.Root c l)) known = rooting_tells l known
  tells (line.Copy (copy.Read r own)) known = tells_some own known
  tells (line.Copy (copy.Complete c)) known = completing_tells c.offer c.line known
  tells (line.Walk (walk.Read own todo taken)) known = tells_some own known
  tells l known = λ r e. absurd (none-some r e)

-- ---- who asks for the root is on a writable handle

module _ (G : Ref → Ref → Type 0) (W : Type 0) where
  abbrev Asks : Option Read → Type 0
  Asks o = (r : Read) → o ≡ Some r → ReadRemembers W r.line

  asks_some : (own : Read) → ReadRemembers W own.line → Asks (Some own)
  asks_some own known r e = subst (λ x. ReadRemembers W x.line) (same_Some own r e) known

  completing_asks : (offer : Descriptor) (l : CompleteLine) → CompleteRemembers G W offer l → Asks (completing_read offer l)
  completing_asks offer (complete.Reading l) known = asks_some (record { indirection = offer.root; line = l }) known
  completing_asks offer (complete.Swap main) known = λ r e. absurd (none-some r e)

  rooting_asks : (l : RootLine) → RootRemembers G W l → Asks (rooting_read l)
  rooting_asks root.Read known = λ r e. absurd (none-some r e)
  rooting_asks (root.Completing c) known = completing_asks c.offer c.line known

  swapping_asks : (i : Ref) (l : SwapLine) → SwapRemembers W l → Asks (swapping_read i l)
  swapping_asks i swap.Publish known = λ r e. absurd (none-some r e)
  swapping_asks i (swap.Deciding l) known = asks_some (record { indirection = i; line = l }) known
  swapping_asks i swap.Check known = λ r e. absurd (none-some r e)

  asks : (l : Line) → Remembers G W l → Asks (read_of l)
  asks (line.Root l) known = rooting_asks l known
  asks (line.Key (key.Read path own)) known = asks_some own known.0
  asks (line.Swap why s) known = swapping_asks s.indirection s.line known.0
  asks (line.Renew (renew.Read path main done own)) known = asks_some own known.0
  asks (line.Clean (clean.Read path own)) known = asks_some own known.0
  asks (line.Clean (clean.Child path main done own)) known = asks_some own known.0
  asks (line.Climb (climb.Read c own)) known = asks_some own known.0
  asks (line.Climb (climb.Root c l)) known = rooting_asks l known
  asks (line.Copy (copy.Read r own)) known = asks_some own known.0
  asks (line.Copy (copy.Complete c)) known = completing_asks c.offer c.line known
  asks (line.Walk (walk.Read own todo taken)) known = asks_some own known
  asks l known = λ r e. absurd (none-some r e)

-- ---- where one actor alone takes steps

module _ (a : Lone) where
  pub on_line : (t : ℕ) (g : Option ℕ) (l : Line) → Stands a t g l → (r : Read) → read_of l ≡ Some r → OnLine (w a) t r.indirection r.line
  on_line t g l s r e =
      let staged = (sound a t s.until).staged a.actor in
      tells (w a) t a.actor l
      (subst (λ x. Staged (w a) t a.actor (stage_of x)) s.line (subst (λ o. Staged (w a) t a.actor (stage_of_actor o)) s.runs staged)) r e

  -- a node that stood there and is pending stands there
  pub pending_there : (t : ℕ) → t ≤ a.last → (i m q : Ref) → Stood (w a) t i m → prev_word a.states t m ≡ prev.Pending q → main_word a.states t i ≡ m
  pending_there t within i m q stood pending = pending_stands (w a) t (sound a t within) i m q stood pending

  pub asks_writable : (t : ℕ) (g : Option ℕ) (l : Line) → Stands a t g l → (i m q : Ref) → read_of l ≡ Some (record { indirection = i; line = read.AskRoot m q }) → a.own.access ≡ Writable
  asks_writable t g l s i m q e =
      let known = remembers_at a.limits a.states a.last (known_run (own_run a)) t s.until a.actor s.operation s.runs in
      sym s.access ∙ asks _ (s.operation.access ≡ Writable) s.operation.line known _ (ap read_of s.line ∙ e)
