-- The small machines, where one actor alone takes steps: how many steps each takes, and what it leaves.
use Rattle.std.specs.Prelude.{◌≡◌, ℕ, ◌+◌, ◌*◌, Bool, true, false, Option, Some, nat_eq, if◌then◌else◌}
use Rattle.std.specs.Option.{option_eq}
use Rattle.proof_obstruction_free.specs.Vocabulary.{Ref, Line, Purpose, Operation, After, Gives, ReadLine, Swap, Climb, RootLine, handle_of, climbing, climbed, line_after, generation_from, swapped}
use Rattle.proof_obstruction_free.specs.Vocabulary.{EmbedsRead, read_after, State, word_at, swapping}
use Rattle.proof_obstruction_free.specs.Beneath.machine_model.specs.declared.lines.Line.TheVariants as line
use Rattle.proof_obstruction_free.specs.Beneath.machine_model.specs.declared.reading.After.TheVariants.{Goes}
use Rattle.proof_obstruction_free.specs.Beneath.machine_model.specs.declared.reading.ReadLine.TheVariants as read
use Rattle.proof_obstruction_free.specs.Beneath.machine_model.specs.declared.reading.SwapLine.TheVariants as swap
use Rattle.proof_obstruction_free.specs.Beneath.machine_model.specs.declared.repairs.ClimbLine.TheVariants as climb
use Rattle.proof_obstruction_free.specs.Beneath.machine_model.specs.declared.roots.RootLine.TheVariants as root
use Rattle.proof_obstruction_free.specs.Beneath.machine_model.specs.Operations.{from_root}
use Rattle.proof_obstruction_free.specs.Alone.{Lone, Stands, Has, Keeps, KeepsBut, WordStays, IsPlain, IsCurrent, Within, node, generation}

-- ---- lines that hold a READ

abbrev pub lead : (ReadLine → Line) → (Ref → Line) → After ReadLine Ref → Line
lead wrap gives (Goes l) = wrap l
lead wrap gives (Gives m) = gives m

-- The lines of a READ of this indirection within a program, and the line that comes after it where it gives a main node.
pub record HoldsRead (own : Operation) (wrap : ReadLine → Line) (gives : Ref → Line) (i : Ref) : Type 0 where
  pub embedded : EmbedsRead wrap i
  pub goes : (state : State) (operation : Operation) (l : ReadLine) → operation.call ≡ own.call → operation.access ≡ own.access →
      line_after state operation (wrap l) ≡ lead wrap gives (read_after state.heap own.access (word_at state (handle_of own.call)) i l)
  pub stays : (state : State) (operation : Operation) (l : ReadLine) → generation_from state operation (wrap l) ≡ operation.generation

module _ (a : Lone) (weight : ℕ → ℕ) (c : ℕ) where
  abbrev W : (ℕ → Type 0) → ℕ → ℕ → Type 0
  W = Within a weight

  -- ---- READ

  -- a READ from its first line gives the main node that stands there, decided
  pub record IsRead (t : ℕ) (g : Option ℕ) (gives : Ref → Line) (i : Ref) (u : ℕ) : Type 0 where
    pub main : Ref
    pub stands : Stands a u g (gives main)
    pub has : Has a u i main
    pub keeps : Keeps a t u
    pub word : WordStays a t u

  abbrev pub ReadsFirst : Type 0
  ReadsFirst =
      (wrap : ReadLine → Line) (gives : Ref → Line) (i : Ref) → HoldsRead a.own wrap gives i → (t : ℕ) (g : Option ℕ) → Stands a t g (wrap read.Main) →
      W (IsRead t g gives i) c t

  -- from any other line a READ ends too; what it gives was decided some time
  pub record WasRead (t : ℕ) (g : Option ℕ) (gives : Ref → Line) (u : ℕ) : Type 0 where
    pub main : Ref
    pub stands : Stands a u g (gives main)
    pub keeps : Keeps a t u
    pub word : WordStays a t u

  abbrev pub ReadsOn : Type 0
  ReadsOn =
      (wrap : ReadLine → Line) (gives : Ref → Line) (i : Ref) → HoldsRead a.own wrap gives i → (t : ℕ) (g : Option ℕ) (l : ReadLine) → Stands a t g (wrap l) →
      W (WasRead t g gives) (c + 6) t

  -- ---- SWAP

  -- where the replaced node stands there, decided, and the operation's root is the handle's, a SWAP from its first line succeeds
  pub record HasSwapped (t : ℕ) (g : Option ℕ) (why : Purpose) (i fresh : Ref) (u : ℕ) : Type 0 where
    pub stands : Stands a u g (swapped a.own (node a fresh) why true)
    pub has : Has a u i fresh
    pub keeps : KeepsBut a t u i
    pub word : WordStays a t u

  abbrev pub SwapsCurrent : Type 0
  SwapsCurrent =
      (why : Purpose) (i replaced fresh r : Ref) (t : ℕ) (g : Option ℕ) → Stands a t g (line.Swap why (swapping i replaced fresh)) → IsCurrent a t r g → Has a t i replaced →
      W (HasSwapped t g why i fresh) 5 t

  -- From its first line it ends in any case. It succeeds where the operation's root is the handle's. It fails where another node stands there, or that root
  -- is another.
  pub record SwapsSo (t : ℕ) (g : Option ℕ) (i replaced fresh : Ref) (u : ℕ) (done : Bool) : Type 0 where
    pub if_done : done ≡ true → Has a u i fresh × ((r : Ref) × IsCurrent a u r g)
    pub if_not : done ≡ false → Has a t i replaced → (r : Ref) × IsPlain a u r × (g ≡ Some (generation a r) → ⊥)

  pub record IsSwapped (t : ℕ) (g : Option ℕ) (why : Purpose) (i replaced fresh : Ref) (u : ℕ) : Type 0 where
    pub done : Bool
    pub stands : Stands a u g (swapped a.own (node a fresh) why done)
    pub keeps : KeepsBut a t u i
    pub word : WordStays a t u
    pub so : SwapsSo t g i replaced fresh u done

  abbrev pub SwapsFirst : Type 0
  SwapsFirst =
      (why : Purpose) (i replaced fresh : Ref) (t : ℕ) (g : Option ℕ) → Stands a t g (line.Swap why (swapping i replaced fresh)) →
      W (IsSwapped t g why i replaced fresh) 10 t

  -- from any line behind the first one too
  pub record WasSwapped (t : ℕ) (g : Option ℕ) (why : Purpose) (fresh : Ref) (u : ℕ) : Type 0 where
    pub done : Bool
    pub stands : Stands a u g (swapped a.own (node a fresh) why done)
    pub keeps : Keeps a t u
    pub word : WordStays a t u

  abbrev pub SwapsOn : Type 0
  SwapsOn =
      (why : Purpose) (s : Swap) (t : ℕ) (g : Option ℕ) → Stands a t g (line.Swap why s) → (s.line ≡ swap.Publish → ⊥) → W (WasSwapped t g why s.fresh) (c + 7) t

  -- ---- ROOT

  -- ROOT gives the root that stands there with no offer, and the operation takes its generation
  pub record IsRooted (t u : ℕ) : Type 0 where
    pub root : Ref
    pub plain : IsPlain a u root
    pub stands : Stands a u (Some (generation a root)) (from_root a.own.call root)
    pub keeps : Keeps a t u
    pub word : WordStays a t u

  abbrev pub RootsPlain : Type 0
  RootsPlain = (t : ℕ) (g : Option ℕ) (r : Ref) → Stands a t g (line.Root root.Read) → IsPlain a t r → W (λ u. IsRooted t u × IsPlain a u r) 1 t

  abbrev pub RootsFirst : Type 0
  RootsFirst = (t : ℕ) (g : Option ℕ) → Stands a t g (line.Root root.Read) → W (IsRooted t) (c + 3) t

  abbrev pub RootsOn : Type 0
  RootsOn = (t : ℕ) (g : Option ℕ) (l : RootLine) → Stands a t g (line.Root l) → W (IsRooted t) (2 * c + 10) t

  -- in CLIMB, which goes on where the operation's root is still the handle's
  abbrev pub climbed_or_on : Option ℕ → Climb → ℕ → Line
  climbed_or_on g c root = if option_eq nat_eq g (Some root) then climbing a.own c else climbed a.own c.former

  pub record IsRootedSo (t : ℕ) (g : Option ℕ) (climb : Climb) (u : ℕ) : Type 0 where
    pub root : Ref
    pub plain : IsPlain a u root
    pub stands : Stands a u g (climbed_or_on g climb (generation a root))
    pub keeps : Keeps a t u
    pub word : WordStays a t u

  abbrev pub ClimbRootsPlain : Type 0
  ClimbRootsPlain =
      (x : Climb) (t : ℕ) (g : Option ℕ) (r : Ref) → Stands a t g (line.Climb (climb.Root x root.Read)) → IsPlain a t r → W (λ u. IsRootedSo t g x u × IsPlain a u r) 1 t

  abbrev pub ClimbRootsOn : Type 0
  ClimbRootsOn = (x : Climb) (t : ℕ) (g : Option ℕ) (l : RootLine) → Stands a t g (line.Climb (climb.Root x l)) → W (IsRootedSo t g x) (2 * c + 10) t

-- what the small machines do, for this weight and this many steps of a READ
pub record Machines (a : Lone) (weight : ℕ → ℕ) (c : ℕ) : Type 0 where
  pub reads_first : ReadsFirst a weight c
  pub reads_on : ReadsOn a weight c
  pub swaps_current : SwapsCurrent a weight c
  pub swaps_first : SwapsFirst a weight c
  pub swaps_on : SwapsOn a weight c
  pub roots_plain : RootsPlain a weight c
  pub roots_first : RootsFirst a weight c
  pub roots_on : RootsOn a weight c
  pub climb_roots_plain : ClimbRootsPlain a weight c
  pub climb_roots_on : ClimbRootsOn a weight c
