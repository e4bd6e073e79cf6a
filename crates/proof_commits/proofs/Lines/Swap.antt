-- From what an actor is about back to its line.
use Rattle.std.proofs.Common.{◌≡◌, Option, Some, None, refl, sym, ◌∙◌, ap, subst, arith, ◌⊎◌, inl, inr}
use Rattle.std.proofs.lemmas.Option.{none-some}
use Rattle.proof_commits.specs.Vocabulary.{Ref, Operation, Read, ReadLine, Swap, SwapLine, Purpose, Line, read_of}
use Rattle.proof_commits.specs.Beneath.machine_model.specs.declared.reading.SwapLine.TheVariants as swap
use Rattle.proof_commits.specs.Beneath.machine_model.specs.declared.lines.Line.TheVariants as line
use Rattle.proof_commits.specs.Protocol.{Stage, Reads, Publishes, Decides, Checks}
use Rattle.proof_commits.proofs.Known.Owners.{HasFresh}
use Rattle.proof_commits.specs.Stages.{stage_of, stage_of_swap, stage_of_actor}
use Rattle.proof_commits.specs.Laws.{IsInSwap, IsNoSwap}

-- in no SWAP
abbrev IsOutside : Stage → Type 0
IsOutside (Publishes i a f) = ⊥
IsOutside (Decides i a f l) = ⊥
IsOutside (Checks i a f) = ⊥
IsOutside s = Unit {0}

-- a line of a SWAP, by its stage
abbrev swap_of : Ref → Ref → Ref → SwapLine → Swap
swap_of i r f x = record { indirection = i; replaced = r; fresh = f; line = x }

same_swap : (i r f : Ref) (x : SwapLine) (j a g : Ref) (y : SwapLine) → i ≡ j → r ≡ a → f ≡ g → x ≡ y → swap_of i r f x ≡ swap_of j a g y
same_swap i r f x j a g y e1 e2 e3 e4 = ap (λ z. swap_of z r f x) e1 ∙ ap (λ z. swap_of j z f x) e2 ∙ ap (λ z. swap_of j a z x) e3 ∙ ap (λ z. swap_of j a g z) e4

decides_swap : (i r f : Ref) (x : SwapLine) (j a g : Ref) (l : ReadLine) → stage_of_swap i r f x ≡ Decides j a g l → swap_of i r f x ≡ swap_of j a g (swap.Deciding l)
decides_swap i r f (swap.Deciding y) j a g l e =
    let e1 : i ≡ j = cc in
    let e2 : r ≡ a = cc in
    let e3 : f ≡ g = cc in
    let e4 : y ≡ l = cc in
    same_swap i r f (swap.Deciding y) j a g (swap.Deciding l) e1 e2 e3 (ap (λ z. swap.Deciding z) e4)
decides_swap i r f swap.Publish j a g l e = let wrong : ⊥ = cc in absurd wrong
decides_swap i r f swap.Check j a g l e = let wrong : ⊥ = cc in absurd wrong

publishes_swap : (i r f : Ref) (x : SwapLine) (j a g : Ref) → stage_of_swap i r f x ≡ Publishes j a g → swap_of i r f x ≡ swap_of j a g swap.Publish
publishes_swap i r f swap.Publish j a g e =
    let e1 : i ≡ j = cc in
    let e2 : r ≡ a = cc in
    let e3 : f ≡ g = cc in
    same_swap i r f swap.Publish j a g swap.Publish e1 e2 e3 refl
publishes_swap i r f (swap.Deciding y) j a g e = let wrong : ⊥ = cc in absurd wrong
publishes_swap i r f swap.Check j a g e = let wrong : ⊥ = cc in absurd wrong

-- a line on the stage of a SWAP is one of it
abbrev LineOf : Line → Ref → Ref → Ref → SwapLine → Type 0
LineOf l i a f x = (why : Purpose) × (l ≡ line.Swap why (swap_of i a f x))

-- a line is one of a SWAP, or on another stage
swap_or_outside : (l : Line) → ((why : Purpose) × (s : Swap) × (l ≡ line.Swap why s)) ⊎ IsOutside (stage_of l)
swap_or_outside (line.Swap why s) = inl (why, s, refl)
swap_or_outside (line.Root l) = inr (grind arith)
swap_or_outside (line.Key l) = inr (grind arith)
swap_or_outside (line.Build l) = inr (grind arith)
swap_or_outside (line.Renew l) = inr (grind arith)
swap_or_outside (line.Clean l) = inr (grind arith)
swap_or_outside (line.Climb l) = inr (grind arith)
swap_or_outside (line.Copy l) = inr (grind arith)
swap_or_outside (line.Walk l) = inr (grind arith)
swap_or_outside (line.End answer) = inr tt
swap_or_outside line.Impossible = inr tt

pub line_decides : (l : Line) (i a f : Ref) (x : ReadLine) → stage_of l ≡ Decides i a f x → LineOf l i a f (swap.Deciding x)
line_decides l i a f x e = elim (swap_or_outside l) [
  | inl (why, s, is) ↦ (why, is ∙ ap (line.Swap why) (decides_swap s.indirection s.replaced s.fresh s.line i a f x (ap stage_of (sym is) ∙ e)))
  | inr other ↦ absurd (subst IsOutside e other)
]

pub line_publishes : (l : Line) (i a f : Ref) → stage_of l ≡ Publishes i a f → LineOf l i a f swap.Publish
line_publishes l i a f e = elim (swap_or_outside l) [
  | inl (why, s, is) ↦ (why, is ∙ ap (line.Swap why) (publishes_swap s.indirection s.replaced s.fresh s.line i a f (ap stage_of (sym is) ∙ e)))
  | inr other ↦ absurd (subst IsOutside e other)
]

-- ---- of an actor

-- an actor that is about a SWAP runs an operation in it
pub record RunsSwap (x : Option Operation) (i a f : Ref) (l : SwapLine) : Type 0 where
  pub operation : Operation
  pub is : x ≡ Some operation
  pub swaps : IsInSwap operation i a f l

pub runs_deciding : (x : Option Operation) (i a f : Ref) (l : ReadLine) → stage_of_actor x ≡ Decides i a f l → RunsSwap x i a f (swap.Deciding l)
runs_deciding (Some operation) i a f l e = record { operation = operation; is = refl; swaps = line_decides operation.line i a f l e }
runs_deciding None i a f l e = absurd (subst IsOutside e tt)

pub runs_publishing : (x : Option Operation) (i a f : Ref) → stage_of_actor x ≡ Publishes i a f → RunsSwap x i a f swap.Publish
runs_publishing (Some operation) i a f e = record { operation = operation; is = refl; swaps = line_publishes operation.line i a f e }
runs_publishing None i a f e = absurd (subst IsOutside e tt)

-- who is in a SWAP has its fresh node
swap_fresh : (i a f : Ref) (l : SwapLine) → HasFresh (stage_of_swap i a f l) f
swap_fresh i a f swap.Publish = refl
swap_fresh i a f (swap.Deciding l) = refl
swap_fresh i a f swap.Check = refl

pub in_swap_fresh : (operation : Operation) (i a f : Ref) (l : SwapLine) → IsInSwap operation i a f l → HasFresh (stage_of operation.line) f
in_swap_fresh operation i a f l is = subst (λ x. HasFresh (stage_of x) f) (sym is.1) (swap_fresh i a f l)

-- ---- an operation's READ

pub reads_stage : (l : Line) (r : Read) → IsNoSwap l → read_of l ≡ Some r → stage_of l ≡ Reads r.indirection r.line
reads_stage (line.Root l) r n e = grind arith
reads_stage (line.Key l) r n e = grind arith
reads_stage (line.Build l) r n e = absurd (none-some r e)
reads_stage (line.Swap why s) r n e = absurd n
reads_stage (line.Renew l) r n e = grind arith
reads_stage (line.Clean l) r n e = grind arith
reads_stage (line.Climb l) r n e = grind arith
reads_stage (line.Copy l) r n e = grind arith
reads_stage (line.Walk l) r n e = grind arith
reads_stage (line.End answer) r n e = absurd (none-some r e)
reads_stage line.Impossible r n e = absurd (none-some r e)
