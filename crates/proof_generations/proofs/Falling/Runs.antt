-- What is known at each time of a run: of the main nodes that stood in a word, of the lines of operations, and of roots that are still to be offered or carried out.
use Rattle.std.proofs.Common.{◌≡◌, ℕ, suc, ◌<◌, ◌≤◌, Bool, true, false, Some, inl, inr, sym, ◌∙◌, subst, arith}
use Rattle.std.specs.List.{All}
use Rattle.std.proofs.lemmas.List.Elements.{All-weaker}
use Rattle.proof_generations.specs.Vocabulary.{Writable, ReadOnly, Ref, node_at, generation_of, entries_of, Operation, Read, Bounds, State, IsRun, node_under, Record, moment_at, Moment, ASingle}
use Rattle.proof_generations.specs.Vocabulary.{meets, IsInUse}
use Rattle.proof_generations.specs.Beneath.machine_model.proofs.Actors.{mark_one, mark_only}
use Rattle.proof_commits.proofs.Words.Stood.{Stood}
use Rattle.proof_generations.specs.Running.{Runs}
use Rattle.proof_generations.proofs.Roots.Kept.{fresh_in}
use Rattle.proof_generations.specs.Falling.{WasOpened, WasClosed, MayStandBelow, IsIndirectionOf, IsLate}
use Rattle.proof_generations.proofs.Falling.KnownRoots.{words}
use Rattle.proof_generations.proofs.Falling.Nodes.{used_entries, used_single, told_generation}
use Rattle.proof_generations.proofs.Falling.Opened.{closed_next, was_closed_next, below_next}
use Rattle.proof_generations.proofs.Lines.Knows.{Knows, IsInner, knows_still}
use Rattle.proof_generations.proofs.Lines.Reader.{KnowsReader, reader_still}

module _ (states : ℕ → State) (last : ℕ) where
  -- the generation of an indirection
  abbrev pub gen_of : Ref → ℕ
  gen_of r = generation_of (node_under states last r)

  abbrev pub IsOwn : ℕ → Ref → Type 0
  IsOwn g r = gen_of r ≡ g

  abbrev pub IsLink : Ref → Type 0
  IsLink r = (h : ℕ) × IsIndirectionOf states last h r

  -- it has no greater one
  abbrev pub NotNewer : ℕ → Ref → Type 0
  NotNewer g r = (h : ℕ) → IsIndirectionOf states last h r → h ≤ g

module _ (states : ℕ → State) (records : ℕ → Record) (last : ℕ) where
  -- where the entry is an indirection it may stand below that generation
  abbrev pub FitsBelow : ℕ → ℕ → Ref → Type 0
  FitsBelow t g r = (h : ℕ) → IsIndirectionOf states last h r → MayStandBelow records t g h

  -- the same of all entries of a main node
  abbrev pub FallsBelow : ℕ → ℕ → Ref → Type 0
  FallsBelow t g m = All (FitsBelow t g) (entries_of (node_under states last m))

  -- a READ of such an entry: where it is of another generation, that was closed before
  abbrev pub LateBelow : ℕ → Moment → ℕ → Read → Type 0
  LateBelow t x g r =
      IsLink states last r.indirection × FitsBelow t g r.indirection × ((gen_of states last r.indirection ≡ g → ⊥) → IsLate records t x r (gen_of states last r.indirection))

  -- where the entry is an indirection it is closed
  abbrev pub Ends : ℕ → Ref → Type 0
  Ends t r = (h : ℕ) → IsIndirectionOf states last h r → WasClosed records t h

  abbrev pub Shut : ℕ → Ref → Type 0
  Shut t m = All (Ends t) (entries_of (node_under states last m))

  abbrev pub LateEnd : ℕ → Moment → Read → Type 0
  LateEnd t x r = IsLink states last r.indirection × IsLate records t x r (gen_of states last r.indirection)

  -- ---- what is known

  -- below an indirection no generation is greater; and where its own was opened all fall
  pub record MainsFall (t : ℕ) : Type 0 where
    pub older : (i m : Ref) → Stood (words states records last) t i m → All (NotNewer states last (gen_of states last i)) (entries_of (node_under states last m))
    pub falls : (i m : Ref) → Stood (words states records last) t i m → WasOpened states t (gen_of states last i) → FallsBelow t (gen_of states last i) m

  abbrev pub KnowsWritable : ℕ → Moment → Operation → Type 0
  KnowsWritable t x operation =
      IsInner operation.line → (g : ℕ) × (operation.generation ≡ Some g) × Knows (IsOwn states last g) (FitsBelow t g) (FallsBelow t g) (LateBelow t x g) operation.line

  abbrev pub KnowsReadOnly : ℕ → Moment → Operation → Type 0
  KnowsReadOnly t x operation = KnowsReader (Ends t) (Shut t) (LateEnd t x) operation.line

  abbrev pub KnowsGenerations : ℕ → Moment → Operation → Type 0
  KnowsGenerations t x operation = (operation.access ≡ Writable → KnowsWritable t x operation) × (operation.access ≡ ReadOnly → KnowsReadOnly t x operation)

  abbrev pub AllKnow : ℕ → Type 0
  AllKnow t = (k : ℕ) (operation : Operation) → Runs (states t) k operation → KnowsGenerations t (moment_at (records t) (suc k)) operation

  -- a fresh root is the only indirection of its generation; below it stands what stands below the operation's root
  pub record FreshFalls (t : ℕ) (operation : Operation) (r : Ref) : Type 0 where
    pub only : (i : Ref) → (words states records last).link t i ≡ true → gen_of states last i ≡ gen_of states last r → i ≡ r
    pub falls : (m : Ref) (g : ℕ) → Stood (words states records last) t r m → operation.generation ≡ Some g → FallsBelow t g m
    pub newer : (g : ℕ) → operation.generation ≡ Some g → g < gen_of states last r

  abbrev pub FreshFall : ℕ → Type 0
  FreshFall t = (k : ℕ) (operation : Operation) (x : Bool) (r : Ref) → Runs (states t) k operation → operation.is_marked ≡ false → fresh_in x operation.line ≡ Some r → FreshFalls t operation r

  -- ---- of one time

  pub own_fits : (t g : ℕ) (r : Ref) → IsOwn states last g r → FitsBelow t g r
  own_fits t g r own h is = inl (sym (told_generation states last h r is) ∙ own)

  -- what may stand below what may stand below
  pub below_below : (t g h k : ℕ) → MayStandBelow records t g h → MayStandBelow records t h k → MayStandBelow records t g k
  below_below t g h k (inl same) under = subst (λ x. MayStandBelow records t x k) same under
  below_below t g h k (inr (less, closed)) (inl same) = inr (omega arith, subst (λ x. WasClosed records t x) (sym same) closed)
  below_below t g h k (inr (less, closed)) (inr (less', closed')) = inr (omega arith, closed')

  pub falls_below : (t g h : ℕ) (m : Ref) → MayStandBelow records t g h → FallsBelow t h m → FallsBelow t g m
  falls_below t g h m under = All-weaker (FitsBelow t h) (FitsBelow t g) (λ r fits k is. below_below t g h k under (fits k is)) (entries_of (node_under states last m))

  -- below a closed one all is closed
  pub falls_shut : (t h : ℕ) (m : Ref) → WasClosed records t h → FallsBelow t h m → Shut t m
  falls_shut t h m closed = All-weaker (FitsBelow t h) (Ends t) (λ r fits k is. by k (fits k is)) (entries_of (node_under states last m))
    where
      by : (k : ℕ) → MayStandBelow records t h k → WasClosed records t k
      by k (inl same) = subst (λ x. WasClosed records t x) (sym same) closed
      by k (inr (less, other)) = other

  pub falls_older : (t g : ℕ) (m : Ref) → FallsBelow t g m → All (NotNewer states last g) (entries_of (node_under states last m))
  falls_older t g m = All-weaker (FitsBelow t g) (NotNewer states last g) (λ r fits k is. by k (fits k is)) (entries_of (node_under states last m))
    where
      by : (k : ℕ) → MayStandBelow records t g k → k ≤ g
      by k (inl same) = omega arith
      by k (inr (less, other)) = omega (arith, less)

-- ---- later

module _ {limits : Bounds} {states : ℕ → State} {last : ℕ} (run : IsRun limits states last) (t : ℕ) (lt : t < last) where
  pub fits_next : (g : ℕ) (r : Ref) → FitsBelow states run.records last t g r → FitsBelow states run.records last (suc t) g r
  fits_next g r fits h is = below_next run t lt g h (fits h is)

  pub falls_next : (g : ℕ) (m : Ref) → FallsBelow states run.records last t g m → FallsBelow states run.records last (suc t) g m
  falls_next g m = All-weaker (FitsBelow states run.records last t g) (FitsBelow states run.records last (suc t) g) (fits_next g) (entries_of (node_under states last m))

  pub ends_next : (r : Ref) → Ends states run.records last t r → Ends states run.records last (suc t) r
  ends_next r ends h is = was_closed_next run t lt h (ends h is)

  pub shut_next : (m : Ref) → Shut states run.records last t m → Shut states run.records last (suc t) m
  shut_next m = All-weaker (Ends states run.records last t) (Ends states run.records last (suc t)) ends_next (entries_of (node_under states last m))

  late_next : (x : Moment) (r : Read) (h : ℕ) → IsLate run.records t x r h → IsLate run.records (suc t) x r h
  late_next x r h (c, before, closed, since) = (c, omega (arith, before), closed_next run t lt h c closed, since)

  below_late_next : (x : Moment) (g : ℕ) (r : Read) → LateBelow states run.records last t x g r → LateBelow states run.records last (suc t) x g r
  below_late_next x g r (link, fits, late) = (link, fits_next g r.indirection fits, λ other. late_next x r _ (late other))

  end_late_next : (x : Moment) (r : Read) → LateEnd states run.records last t x r → LateEnd states run.records last (suc t) x r
  end_late_next x r (link, late) = (link, late_next x r _ late)

  -- an operation that rests knows the same
  pub knows_next : (x : Moment) (operation : Operation) → KnowsGenerations states run.records last t x operation → KnowsGenerations states run.records last (suc t) x operation
  knows_next x operation (writable, read_only) = (
    λ w inner. let (g, is, k) = writable w inner in (
      g,
      is,
      knows_still (IsOwn states last g) (FitsBelow states run.records last t g) (FallsBelow states run.records last t g) (LateBelow states run.records last t x g)
          (FitsBelow states run.records last (suc t) g) (FallsBelow states run.records last (suc t) g)
          (LateBelow states run.records last (suc t) x g) (fits_next g) (falls_next g) (below_late_next x g) operation.line k,
    ),
    λ r. reader_still (Ends states run.records last t) (Shut states run.records last t) (LateEnd states run.records last t x) (Ends states run.records last (suc t))
        (Shut states run.records last (suc t))
        (LateEnd states run.records last (suc t) x) ends_next shut_next
        (end_late_next x) operation.line (read_only r),
  )

  -- with what is in use now
  pub entries_fit : (u g : ℕ) (m : Ref) → IsInUse (states t).heap m → FallsBelow states run.records last u g m → All (FitsBelow states run.records last u g) (entries_of (node_at (states t).heap m))
  entries_fit u g m used falls = subst (All (FitsBelow states run.records last u g)) (used_entries run t (omega arith) m used) falls

  pub entries_end : (u : ℕ) (m : Ref) → IsInUse (states t).heap m → Shut states run.records last u m → All (Ends states run.records last u) (entries_of (node_at (states t).heap m))
  entries_end u m used shut = subst (All (Ends states run.records last u)) (used_entries run t (omega arith) m used) shut

  pub single_fits : (u g : ℕ) (r : Ref) → IsInUse (states t).heap r → meets ASingle (node_at (states t).heap r) ≡ true → FitsBelow states run.records last u g r
  single_fits u g r used e h is = absurd (used_single run t (omega arith) r used e h is)

-- a mark changes nothing
pub marked_knows : (states : ℕ → State) (records : ℕ → Record) (last t : ℕ) (x : Moment) (m : _) (operation : Operation) → KnowsGenerations states records last t x operation →
    KnowsGenerations states records last t x (mark_one m operation)
marked_knows states records last t x m operation h = rw (mark_only m operation) h
