-- What an operation's next step does depends on contents alone.
use Rattle.std.proofs.Common.{◌≡◌, ℕ, ◌-◌, ◌&&◌, false, List, [], ◌∷◌, length, slice_index_or}
use Rattle.std.proofs.Common.{refl, sym, ap, ◌∙◌}
use Rattle.std.proofs.lemmas.Bool.{true≢false}
use Rattle.machine_model.specs.Beneath.slot_arena.specs.declared.refs.Ref.{Ref}
use Rattle.machine_model.specs.Beneath.slot_arena.specs.declared.nodes.Node.{Node}
use Rattle.machine_model.specs.Beneath.slot_arena.specs.declared.nodes.Node.TheVariants.{Indirection, Branch, Single, Tomb, List as Listed}
use Rattle.machine_model.specs.Beneath.slot_arena.specs.Arenas.{is_indirection}
use Rattle.machine_model.specs.Beneath.slot_arena.specs.Heaps.{bitmap_of, entries_of, entry_at, generation_of, no_ref, node_at}
use Rattle.nodes.specs.Builders.{contracted, renewed}
use Rattle.machine_model.specs.declared.actions.Action.TheVariants as act
use Rattle.machine_model.specs.declared.building.BuildLine.{BuildLine}
use Rattle.machine_model.specs.declared.building.BuildLine.TheVariants as build
use Rattle.machine_model.specs.declared.building.Change.{Change}
use Rattle.machine_model.specs.declared.finding.KeyLine.{KeyLine}
use Rattle.machine_model.specs.declared.finding.KeyLine.TheVariants as key
use Rattle.machine_model.specs.declared.repairs.RenewLine.{RenewLine}
use Rattle.machine_model.specs.declared.repairs.RenewLine.TheVariants as renew
use Rattle.machine_model.specs.declared.repairs.CleanLine.{CleanLine}
use Rattle.machine_model.specs.declared.repairs.CleanLine.TheVariants as clean
use Rattle.machine_model.specs.declared.repairs.Climb.{Climb}
use Rattle.machine_model.specs.declared.repairs.ClimbLine.{ClimbLine}
use Rattle.machine_model.specs.declared.repairs.ClimbLine.TheVariants as climb
use Rattle.machine_model.specs.declared.lines.Line.{Line}
use Rattle.machine_model.specs.declared.lines.Line.TheVariants as line
use Rattle.machine_model.specs.declared.operations.Operation.{Operation}
use Rattle.machine_model.specs.Paths.{flag_in, hash_in, is_below_root}
use Rattle.machine_model.specs.States.{State}
use Rattle.machine_model.specs.Finding.{key_action}
use Rattle.machine_model.specs.Building.{build_action, changed, key_in}
use Rattle.machine_model.specs.Renewing.{renew_action}
use Rattle.machine_model.specs.Cleaning.{clean_action}
use Rattle.machine_model.specs.Cleaning.{is_single, leaves_single}
use Rattle.machine_model.specs.Climbing.{climb_action}
use Rattle.machine_model.specs.Operations.{action_of, line_action}
use Rattle.machine_model.specs.Words.{content_of, HoldsMain, SameContents}
use Rattle.machine_model.proofs.Looks.{bitmaps, by_content, entries, generations, keys, singles}

-- a node that is no indirection is its content
plain : (node : Node) → is_indirection node ≡ false → content_of node ≡ node
plain (Indirection g m) h = absurd (true≢false h)
plain (Branch bitmap es) h = refl
plain (Single k v) h = refl
plain (Tomb single) h = refl
plain (Listed singles) h = refl

changed_so : (flag : ℕ) (c : Change) (a b : Node) → content_of a ≡ content_of b → is_indirection a ≡ false → is_indirection b ≡ false → changed flag a c ≡ changed flag b c
changed_so flag c a b e h k = ap (λ n. changed flag n c) (sym (plain a h) ∙ e ∙ plain b k)

module _ (one other : State) (same : SameContents one other) (operation : Operation) where
  pub entries_in : (r : Ref) → entries_of (node_at one.heap r) ≡ entries_of (node_at other.heap r)
  entries_in = entries one other same

  pub generation_in : (r : Ref) → generation_of (node_at one.heap r) ≡ generation_of (node_at other.heap r)
  generation_in = generations one other same

  pub bitmap_in : (r : Ref) → bitmap_of (node_at one.heap r) ≡ bitmap_of (node_at other.heap r)
  bitmap_in = bitmaps one other same

  pub key_of_single : (r : Ref) → key_in (node_at one.heap r) ≡ key_in (node_at other.heap r)
  key_of_single = keys one other same

  single_in : (r : Ref) → is_single (node_at one.heap r) ≡ is_single (node_at other.heap r)
  single_in = singles one other same

  pub hash : one.limits.hash ≡ other.limits.hash
  hash = same.hash

  pub entry_same : (main : Ref) (position : ℕ) → entry_at one.heap main position ≡ entry_at other.heap main position
  entry_same main position = ap (λ es. slice_index_or es position no_ref) (entries_in main)

  hash_same : hash_in one operation ≡ hash_in other operation
  hash_same = simp hash

  flag_same : (path : List Ref) → flag_in one operation path ≡ flag_in other operation path
  flag_same path = simp hash

  -- ---- what the step does

  -- a line that makes a changed main node makes the same of both
  abbrev pub MakesAlike : Line → Type 0
  MakesAlike (line.Build (build.Main path main c former)) = (flag : ℕ) → changed flag (node_at one.heap main) c ≡ changed flag (node_at other.heap main) c
  MakesAlike l = Unit {0}

  changed_same : (flag : ℕ) (c : Change) (main : Ref) → is_indirection (node_at one.heap main) ≡ false → changed flag (node_at one.heap main) c ≡ changed flag (node_at other.heap main) c
  changed_same flag c main holds =
      changed_so flag c (node_at one.heap main) (node_at other.heap main) (same.contents main) holds (sym (by_content one other same is_indirection (λ g m n. refl) main) ∙ holds)

  build_acts : (l : BuildLine) → MakesAlike (line.Build l) → build_action one operation l ≡ build_action other operation l
  build_acts (build.Single path main s former) holds = refl
  build_acts (build.Pair path main position single depth) holds = simp (hash, entry_same, key_of_single)
  build_acts (build.Link path main position below depth) holds = refl
  build_acts (build.Rung path main position below depth) holds = simp hash_same
  build_acts (build.Main path main c former) holds =
      ap (λ f. act.Make (changed f (node_at one.heap main) c)) (flag_same path) ∙ ap act.Make (holds (flag_in other operation path))

  key_acts : (l : KeyLine) → key_action one l ≡ key_action other l
  key_acts (key.Read path r) = refl
  key_acts (key.Main path main) = refl
  key_acts (key.Entry path main position) = ap act.Look (entry_same main position)
  key_acts (key.Listed path main position) = ap act.Look (entry_same main position)
  key_acts (key.Sibling path main position former) = ap act.Look (entry_same main (1 - position))

  renew_acts : (l : RenewLine) → renew_action one operation l ≡ renew_action other operation l
  renew_acts (renew.Entry path main done) = ap act.Look (entry_same main (length done))
  renew_acts (renew.Read path main done r) = refl
  renew_acts (renew.Link path main done child) = refl
  renew_acts (renew.Branch path main done) = ap (λ b. act.Make (renewed b done)) (bitmap_in main)

  leaves_same : (es : List Ref) → leaves_single one es ≡ leaves_single other es
  leaves_same [] = refl
  leaves_same (entry ∷ []) = single_in entry
  leaves_same (entry ∷ next ∷ es) = refl

  clean_acts : (l : CleanLine) → clean_action one l ≡ clean_action other l
  clean_acts (clean.Read path r) = refl
  clean_acts (clean.Main path main) = refl
  clean_acts (clean.Entry path main done) = ap act.Look (entry_same main (length done))
  clean_acts (clean.Child path main done r) = refl
  clean_acts (clean.Tomb path main done child) = refl
  clean_acts (clean.Contracted path main done) =
      ap (λ b. act.Make (contracted (is_below_root path && b) (bitmap_of (node_at one.heap main)) done)) (leaves_same done)
      ∙ ap (λ b. act.Make (contracted (is_below_root path && leaves_single other done) b done)) (bitmap_in main)

  climb_acts : (l : ClimbLine) → climb_action one operation l ≡ climb_action other operation l
  climb_acts (climb.Read c r) = refl
  climb_acts (climb.Main c main) = refl
  climb_acts (climb.Contracted c main) = simp (hash, bitmap_in, entries_in)
  climb_acts (climb.Root c r) = refl

  pub line_acts : (l : Line) → MakesAlike l → line_action one operation l ≡ line_action other operation l
  line_acts (line.Root l) holds = refl
  line_acts (line.Key l) holds = key_acts l
  line_acts (line.Build l) holds = build_acts l holds
  line_acts (line.Swap why s) holds = refl
  line_acts (line.Renew l) holds = renew_acts l
  line_acts (line.Clean l) holds = clean_acts l
  line_acts (line.Climb l) holds = climb_acts l
  line_acts (line.Copy l) holds = refl
  line_acts (line.Walk l) holds = refl
  line_acts (line.End answer) holds = refl
  line_acts line.Impossible holds = refl

  -- it does where it holds a main node
  makes_alike : (l : Line) → HoldsMain one.heap l → MakesAlike l
  makes_alike (line.Build (build.Main path main c former)) holds = λ flag. changed_same flag c main holds
  makes_alike (line.Build (build.Single path main s former)) holds = tt
  makes_alike (line.Build (build.Pair path main position single depth)) holds = tt
  makes_alike (line.Build (build.Link path main position below depth)) holds = tt
  makes_alike (line.Build (build.Rung path main position below depth)) holds = tt
  makes_alike (line.Root l) holds = tt
  makes_alike (line.Key l) holds = tt
  makes_alike (line.Swap why s) holds = tt
  makes_alike (line.Renew l) holds = tt
  makes_alike (line.Clean l) holds = tt
  makes_alike (line.Climb l) holds = tt
  makes_alike (line.Copy l) holds = tt
  makes_alike (line.Walk l) holds = tt
  makes_alike (line.End answer) holds = tt
  makes_alike line.Impossible holds = tt

  pub action_same : HoldsMain one.heap operation.line → action_of one operation ≡ action_of other operation
  action_same holds = line_acts operation.line (makes_alike operation.line holds)
