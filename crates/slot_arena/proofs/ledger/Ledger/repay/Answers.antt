use Rattle.std.proofs.Common.{◌≡◌, ◌+◌, ◌<◌, ℕ, suc, List, ◌++◌, take, drop, length, slice_index, All, sym, ap, ◌∙◌, subst, arith}
use Rattle.slot_arena.specs.Refs.{slot_of}
use Rattle.slot_arena.specs.declared.refs.Ref.{Ref}
use Rattle.slot_arena.specs.Tallies.{Tally, naming}
use Rattle.slot_arena.specs.Loans.{Ledger, owed}
use Rattle.slot_arena.proofs.Namings.{naming-append}
use Rattle.slot_arena.proofs.Lendings.{all_behind, over_lent, owed_is, within_size}
use Rattle.slot_arena.proofs.ledger.Ledger.repay.Goals as goal

pub restore_all-requires-then-is_out-clause-within : goal.restore_all-requires-then-is_out-clause-within
restore_all-requires-then-is_out-clause-within c =
    let one : c.self.inside.loan.kept + 1 ≡ suc c.self.inside.loan.kept = omega arith in
    let size = length c.self.inside.tally.counts in
    let all = all_behind (λ r. slot_of r < size) (take c.self.inside.loan.kept c.self.inside.loan.refs) (drop (suc c.self.inside.loan.kept) c.self.inside.loan.refs) c.self.invariant.within in
    subst (λ rs. All (λ r. slot_of r < length c.restore_all.new.self.counts) rs) (sym (c.parts.ensures.back ∙ ap (λ k. drop k c.self.inside.loan.refs) one))
    (within_size _ _ _ (sym c.restore_all.ensures.size) all)

-- what stands there in the end is what was counted
repaid : (a b d : Tally) (front back : List Ref) → All (λ r. slot_of r < length a.counts) (front ++ back) → length b.counts ≡ length a.counts → length d.counts ≡ length b.counts →
    ((k : ℕ) → slice_index b.counts k ≡ slice_index a.counts k + naming k front) → ((k : ℕ) → slice_index d.counts k ≡ slice_index b.counts k + naming k back) → owed a.counts (front ++ back) ≡
    d.counts
repaid a b d front back within size more first second =
    owed_is a.counts (front ++ back) d.counts within (more ∙ size) (λ k. omega (arith, first k, second k, naming-append k front back))

pub returns-then-is_out-clause-tally : goal.returns-then-is_out-clause-tally
returns-then-is_out-clause-tally c =
    let one : c.self.inside.loan.kept + 1 ≡ suc c.self.inside.loan.kept = omega arith in
    let a : Tally = c.self.inside.tally in
    let b : Tally = c.restore_all.new.self in
    let d : Tally = c.restore_all-then-is_out.new.self in
    let front = take c.self.inside.loan.kept c.self.inside.loan.refs in
    let back = drop (suc c.self.inside.loan.kept) c.self.inside.loan.refs in
    let counts : owed a.counts (front ++ back) ≡ d.counts = repaid a b d front back c.self.invariant.within c.restore_all.ensures.size c.restore_all-then-is_out.ensures.size
    (λ k. c.restore_all.ensures.counts k ∙ ap (λ rs. slice_index a.counts k + naming k rs) c.parts.ensures.front)
    (λ k. c.restore_all-then-is_out.ensures.counts k ∙ ap (λ rs. slice_index b.counts k + naming k rs) (c.parts.ensures.back ∙ ap (λ k. drop k c.self.inside.loan.refs) one)) in
    let noted = c.restore_all-then-is_out.ensures.noted ∙ c.restore_all.ensures.noted in
    let ticks = c.restore_all-then-is_out.ensures.ticks ∙ c.restore_all.ensures.ticks in
    ap (λ rs. record { counts = owed d.counts rs; noted = d.noted; ticks = d.ticks }) (over_lent c.end.new.self c.end.ensures)
    ∙ ap (λ (cs : List ℕ). record { counts = cs; noted = d.noted; ticks = d.ticks }) (sym counts)
    ∙ ap (λ (ns : List ℕ). record { counts = owed a.counts (front ++ back); noted = ns; ticks = d.ticks }) noted
    ∙ ap (λ (t : ℕ). record { counts = owed a.counts (front ++ back); noted = a.noted; ticks = t }) ticks ∙ ap (λ (l : Ledger). l.tally) c.self.view_is
