-- A READ comes from line to line, whichever program it belongs to.
use Rattle.std.proofs.Common.{◌≡◌, Bool, false, Some, refl, sym, ap, subst, ◌∙◌, arith}
use Rattle.std.proofs.lemmas.Option.{none-some, same_Some}
use Rattle.machine_model.specs.Beneath.slot_arena.specs.declared.refs.Ref.{Ref}
use Rattle.machine_model.specs.declared.reading.After.{After}
use Rattle.machine_model.specs.declared.reading.After.TheVariants.{Goes, Gives}
use Rattle.machine_model.specs.declared.reading.Read.{Read}
use Rattle.machine_model.specs.declared.reading.ReadLine.{ReadLine}
use Rattle.machine_model.specs.declared.reading.SwapLine.{SwapLine}
use Rattle.machine_model.specs.declared.reading.SwapLine.TheVariants as swap
use Rattle.machine_model.specs.declared.roots.CompleteLine.{CompleteLine}
use Rattle.machine_model.specs.declared.roots.CompleteLine.TheVariants as complete
use Rattle.machine_model.specs.declared.roots.Descriptor.{Descriptor}
use Rattle.machine_model.specs.declared.roots.RootLine.TheVariants as root
use Rattle.machine_model.specs.declared.finding.KeyLine.TheVariants as key
use Rattle.machine_model.specs.declared.repairs.RenewLine.TheVariants as renew
use Rattle.machine_model.specs.declared.repairs.CleanLine.TheVariants as clean
use Rattle.machine_model.specs.declared.repairs.ClimbLine.TheVariants as climb
use Rattle.machine_model.specs.declared.copying.CopyLine.TheVariants as copy
use Rattle.machine_model.specs.declared.walking.WalkLine.TheVariants as walk
use Rattle.machine_model.specs.declared.lines.Line.{Line}
use Rattle.machine_model.specs.declared.lines.Line.TheVariants as line
use Rattle.machine_model.specs.declared.operations.Operation.{Operation}
use Rattle.machine_model.specs.Calls.{handle_of}
use Rattle.machine_model.specs.Operations.{read_of, completing_read, swapping_read}
use Rattle.machine_model.specs.Reading.{read_action, read_after}
use Rattle.machine_model.specs.States.{State, word_at}
use Rattle.lock_free.specs.declared.reading.Way.{Way}
use Rattle.lock_free.specs.declared.rules.View.{View}
use Rattle.lock_free.specs.Accounts.{running}
use Rattle.lock_free.specs.Loading.{now, seen, Runs, IsAt, Went, Saw}
use Rattle.lock_free.specs.OfReads.{at_line, on_read, read_to}
use Rattle.lock_free.specs.Passing.{Later, HasCome, IsReading, IsOnWay}
use Rattle.lock_free.proofs.Laters.{later_self, later_both}
use Rattle.lock_free.proofs.ReadAgain.{read_again, read_on}
use Rattle.lock_free.proofs.ReadSteps.{read_acts, read_leads}

-- ---- one operation runs, but for its mark

abbrev unmarked : Operation → Operation
unmarked o = record o { is_marked = false }

pub runs_one : (v : View) (p q : Operation) → Runs v p → Runs v q → unmarked p ≡ unmarked q
runs_one v p q (a, x) (b, y) = ap unmarked (same_Some (record p { is_marked = a }) (record q { is_marked = b }) (sym x ∙ y))

-- it is in one READ, on one line
pub reading_one : (v : View) (i j : Ref) (x y : ReadLine) → IsReading v i x → IsReading v j y → (i ≡ j) × (x ≡ y)
reading_one v i j x y (p, r, is) (q, s, e) =
    let same : (record { indirection = i; line = x }) ≡ (record { indirection = j; line = y }) =
    same_Some (record { indirection = i; line = x }) (record { indirection = j; line = y }) (sym is ∙ ap (λ (o : Operation). read_of o.line) (runs_one v p q r s) ∙ e) in
    (ap (λ (z : Read). z.indirection) same, ap (λ (z : Read). z.line) same)

-- each operation that runs is in it
pub all_read : (v : View) (i : Ref) (x : ReadLine) → IsReading v i x → (o : Operation) → Runs v o → read_of o.line ≡ Some (record { indirection = i; line = x })
all_read v i x (p, r, is) o s = ap (λ (q : Operation). read_of q.line) (runs_one v o p s r) ∙ is

-- what its next step does is what the READ's does
pub at_read : (v : View) (i : Ref) (x : ReadLine) → IsReading v i x → IsAt v (read_action i x)
at_read v i x (p, (mark, runs), is) =
    let o : Operation = record p { is_marked = mark } in
    record { operation = o; runs = runs; acts = read_acts (now v) o (record { indirection = i; line = x }) is }

-- ---- it comes on

-- the operation with a mark
marked_read : (out : After ReadLine Ref) (o : Operation) (mark : Bool) → read_to out (record o { is_marked = mark }) ≡ record (read_to out o) { is_marked = mark }
marked_read (Goes x) o mark = refl
marked_read (Gives m) o mark = refl

-- by its step
module _ (v w : View) (i : Ref) (x : ReadLine) (reading : IsReading v i x) (later : Later v w) (went : Went v w) (out : After ReadLine Ref) where
  abbrev state : State
  state = now (seen v went.account)

  abbrev its_read : Read
  its_read = record { indirection = i; line = x }

  pub came : ((o : Operation) → Runs v o → read_after state.heap o.access (word_at state (handle_of o.call)) i x ≡ out) → HasCome out v w
  came is = record { later = later; comes = goes }
    where
      goes : (o : Operation) → Runs v o → Runs w (read_to out o)
      goes o (mark, runs) =
          let there = went.waited.stays (record o { is_marked = mark }) runs in
          let o_there : Operation = record o { is_marked = there.0 } in
          let leads = read_leads state o_there its_read (all_read v i x reading o (mark, runs)) in (
            there.0,
            went.took o_there there.1 ∙ ap Some (leads ∙ ap (λ z. read_to z o_there) (is o (mark, runs)) ∙ marked_read out o there.0),
          )

pub come_on : (u v w : View) (y : ReadLine) (out : After ReadLine Ref) → HasCome (Goes y) u v → HasCome out v w → HasCome out u w
come_on u v w y out p q = record { later = later_both u v w p.later q.later; comes = λ o r. subst (λ z. Runs w z) (read_again y o out) (q.comes (read_to (Goes y) o) (p.comes o r)) }

-- then it is on that line
pub reading_then : (v w : View) (i : Ref) (x y : ReadLine) → IsReading v i x → HasCome (Goes y) v w → IsReading w i y
reading_then v w i x y (o, r, is) c = (read_to (Goes y) o, c.comes o r, read_on o.line (record { indirection = i; line = x }) y is)

-- on the same way
pub way_then : (v w : View) (i : Ref) (x : ReadLine) (out : After ReadLine Ref) (way : Way) → IsReading v i x → HasCome out v w → IsOnWay v way → IsOnWay w way
way_then v w i x out way (o, r, is) c on q s =
    let same = runs_one w q (read_to out o) s (c.comes o r) in
    let it = on o r in
    (ap (λ (z : Operation). z.access) same ∙ it.0, ap (λ (z : Operation). handle_of z.call) same ∙ it.1)

-- ---- it stays where it is

completing_still : (offer : Descriptor) (l : CompleteLine) (r : Read) → completing_read offer l ≡ Some r → complete.Reading r.line ≡ l
completing_still offer (complete.Reading x) r is = ap (λ (q : Read). complete.Reading q.line) (sym (same_Some (record { indirection = offer.root; line = x }) r is))
completing_still offer (complete.Swap main) r is = absurd (none-some r is)

swapping_still : (i : Ref) (l : SwapLine) (r : Read) → swapping_read i l ≡ Some r → swap.Deciding r.line ≡ l
swapping_still i (swap.Deciding x) r is = ap (λ (q : Read). swap.Deciding q.line) (sym (same_Some (record { indirection = i; line = x }) r is))
swapping_still i swap.Publish r is = absurd (none-some r is)
swapping_still i swap.Check r is = absurd (none-some r is)

same_read : (q r : Read) → Some q ≡ Some r → at_line q r.line ≡ q
same_read q r is = ap (λ (z : Read). at_line q z.line) (sym (same_Some q r is))

line_still : (l : Line) (r : Read) → read_of l ≡ Some r → on_read l r.line ≡ l
line_still (line.Root root.Read) r is = absurd (none-some r is)
line_still (line.Root (root.Completing c)) r is = ap (λ z. line.Root (root.Completing (record { offer = c.offer; line = z }))) (completing_still c.offer c.line r is)
line_still (line.Key (key.Read path q)) r is = ap (λ z. line.Key (key.Read path z)) (same_read q r is)
line_still (line.Key l) r is = absurd (grind arith)
line_still (line.Build l) r is = absurd (none-some r is)
line_still (line.Swap why s) r is = ap (λ z. line.Swap why (record s { line = z })) (swapping_still s.indirection s.line r is)
line_still (line.Renew (renew.Read path main done q)) r is = ap (λ z. line.Renew (renew.Read path main done z)) (same_read q r is)
line_still (line.Renew l) r is = absurd (grind arith)
line_still (line.Clean (clean.Read path q)) r is = ap (λ z. line.Clean (clean.Read path z)) (same_read q r is)
line_still (line.Clean (clean.Child path main done q)) r is = ap (λ z. line.Clean (clean.Child path main done z)) (same_read q r is)
line_still (line.Clean l) r is = absurd (grind arith)
line_still (line.Climb (climb.Read c q)) r is = ap (λ z. line.Climb (climb.Read c z)) (same_read q r is)
line_still (line.Climb (climb.Root c root.Read)) r is = absurd (none-some r is)
line_still (line.Climb (climb.Root c (root.Completing p))) r is = ap (λ z. line.Climb (climb.Root c (root.Completing (record { offer = p.offer; line = z })))) (completing_still p.offer p.line r is)
line_still (line.Climb l) r is = absurd (grind arith)
line_still (line.Copy (copy.Read at q)) r is = ap (λ z. line.Copy (copy.Read at z)) (same_read q r is)
line_still (line.Copy (copy.Complete c)) r is = ap (λ z. line.Copy (copy.Complete (record { offer = c.offer; line = z }))) (completing_still c.offer c.line r is)
line_still (line.Copy l) r is = absurd (grind arith)
line_still (line.Walk (walk.Read q todo pairs)) r is = ap (λ z. line.Walk (walk.Read z todo pairs)) (same_read q r is)
line_still (line.Walk l) r is = absurd (grind arith)
line_still (line.End answer) r is = absurd (none-some r is)
line_still line.Impossible r is = absurd (none-some r is)

pub stays_there : (v : View) (i : Ref) (x : ReadLine) → IsReading v i x → HasCome (Goes x) v v
stays_there v i x reading = record {
  later = later_self v;
  comes = λ o r. subst (λ z. Runs v z) (sym (ap (λ l. record o { line = l }) (line_still o.line (record { indirection = i; line = x }) (all_read v i x reading o r)))) r;
}

-- while the seat sees something and takes no step
pub saw_runs : (v w : View) (s : Saw v w) (o : Operation) → Runs v o → Runs w o
saw_runs v w s o (mark, runs) =
    let there = s.waited.stays (record o { is_marked = mark }) runs in (there.0, subst (λ (x : View). running x.sizes x.account x.actor (record o { is_marked = there.0 })) (sym s.after_is) there.1)

pub saw_come : (v w : View) (i : Ref) (x : ReadLine) → IsReading v i x → Later v w → (s : Saw v w) → HasCome (Goes x) v w
saw_come v w i x reading later s = record {
  later = later;
  comes = λ o r. subst (λ z. Runs w z) (sym (ap (λ l. record o { line = l }) (line_still o.line (record { indirection = i; line = x }) (all_read v i x reading o r)))) (saw_runs v w s o r);
}
