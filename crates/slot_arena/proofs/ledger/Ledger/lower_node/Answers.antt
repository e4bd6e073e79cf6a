use Rattle.std.proofs.Common.{◌≡◌, ◌+◌, ◌-◌, ◌<◌, ◌≤◌, ◌⊎◌, ℕ, List, length, remove, get_or, slice_index, sym, ap, ◌∙◌, subst, inl, inr, arith, rules, tests}
use Rattle.std.proofs.lemmas.List.{length-set}
use Rattle.slot_arena.specs.Refs.{slot_of}
use Rattle.slot_arena.specs.declared.refs.Ref.{Ref}
use Rattle.slot_arena.specs.Tallies.{Tally, naming, NotesZeros}
use Rattle.slot_arena.specs.Loans.{Loan, Ledger, IsBacked, IsOver, lent, owed}
use Rattle.slot_arena.proofs.Marks.{zeros_same, zeros_trans}
use Rattle.slot_arena.proofs.Times.{once, once_same}
use Rattle.slot_arena.proofs.Namings.{lowered_at}
use Rattle.slot_arena.proofs.Lendings.{backed_none, count_seen, length-owed, lent_besides, lent_whole, over_lent, shown, size_seen, zeros_seen}
use Rattle.slot_arena.proofs.ledger.Ledger.lower_node.Goals as goal

module _ (a : Tally) (loan ended : Loan) (now : Ledger) (seen : shown a loan ≡ now) (backed : IsBacked a.counts (lent loan)) (over : IsOver ended) where
  -- what stands there is what is counted once the loan is over
  ended_at : (k : ℕ) → slice_index (owed a.counts (lent ended)) k ≡ slice_index a.counts k
  ended_at k = ap (λ rs. slice_index (owed a.counts rs) k) (over_lent ended over)

  ended_size : length (owed a.counts (lent ended)) ≡ length now.tally.counts
  ended_size = length-owed a.counts (lent ended) ∙ sym (size_seen a loan now seen)

  ended_zeros : NotesZeros now.tally (record { counts = owed a.counts (lent ended); noted = a.noted; ticks = a.ticks })
  ended_zeros = zeros_seen a loan now seen a ended a.ticks backed (subst (λ rs. IsBacked a.counts rs) (sym (over_lent ended over)) (backed_none a.counts (λ k. omega (arith, backed.room k))))
      (zeros_same a)

  -- and the lender's references are what was lent, and the one that wasn't
  ended_besides : (refs : List Ref) (kept : ℕ) (r : Ref) → loan.refs ≡ refs → kept ≡ loan.kept → kept < length refs → r ≡ get_or refs kept r → (k : ℕ) →
      slice_index (owed a.counts (lent ended)) k + naming k refs ≡ slice_index now.tally.counts k + once k (slot_of r)
  ended_besides refs kept r are at within is k =
      let lent_is : naming k (lent loan) ≡ naming k (remove refs kept) = ap (λ rs. naming k (remove rs loan.kept)) are ∙ ap (λ i. naming k (remove refs i)) (sym at) in
      omega (arith, ended_at k, count_seen a loan now seen backed k, lent_is, lent_besides refs kept r k within is)

  ended_whole : (refs : List Ref) (kept : ℕ) → loan.refs ≡ refs → kept ≡ loan.kept → length refs ≤ kept → (k : ℕ) →
      slice_index (owed a.counts (lent ended)) k + naming k refs ≡ slice_index now.tally.counts k
  ended_whole refs kept are at past k =
      let lent_is : naming k (lent loan) ≡ naming k (remove refs kept) = ap (λ rs. naming k (remove rs loan.kept)) are ∙ ap (λ i. naming k (remove refs i)) (sym at) in
      omega (arith, ended_at k, count_seen a loan now seen backed k, lent_is, ap (naming k) (lent_whole refs kept past))

-- the references that are lent are those of the node that goes
lent_here : (first loan : Loan) (now : Ledger) (at : Ref) (refs : List Ref) → first ≡ now.loan → loan ≡ now.loan → (IsOver first → ⊥) → now.loan.lender ≡ at →
    IsOver now.loan ⊎ (now.loan.lender ≡ at → now.loan.refs ≡ refs) → loan.refs ≡ refs
lent_here first loan now at refs start same out is (inl over) = absurd (out (ap (λ (l : Loan). l.refs) start ∙ over))
lent_here first loan now at refs start same out is (inr stand) = ap (λ (l : Loan). l.refs) same ∙ stand is

pub lower-requires-clause-within : goal.lower-requires-clause-within
lower-requires-clause-within c =
    let bound : slot_of (get_or c.args.refs.now c.kept-kept.result c.index-refs-kept.result) < length c.args.self.now.tally.counts =
    c.requires.within c.kept-kept.result c.index-refs-kept.result c.if-kept-refs.true in
    let size = ended_size c.self-2.inside.tally c.self-2.inside.loan c.end.new.self c.args.self.now c.self-2.view_is c.self-2.invariant c.end.ensures in
    omega (arith, bound, size, ap slot_of c.index-refs-kept.is, c.slot.ensures)

-- the references of the node that goes are lent
lends : (c : goal.After-slot) → c.self-2.inside.loan.refs ≡ c.args.refs.now
lends c =
    let same : c.lender.result ≡ c.args.at = search (rules, tests) in
    lent_here c.self.inside.loan c.self-2.inside.loan c.args.self.now c.args.at c.args.refs.now (ap (λ (l : Ledger). l.loan) c.self.view_is) (ap (λ (l : Ledger). l.loan) c.self-2.view_is)
    (c.is_out.ensures.out c.if-not-is_out.false) (sym (ap (λ (l : Ledger). l.loan.lender) c.self.view_is) ∙ sym c.lender.ensures ∙ same) c.requires.lent

lends_then : (c : goal.After-lower) → c.self-2.inside.loan.refs ≡ c.args.refs.now
lends_then c =
    let same : c.lender.result ≡ c.args.at = search (rules, tests) in
    lent_here c.self.inside.loan c.self-2.inside.loan c.args.self.now c.args.at c.args.refs.now (ap (λ (l : Ledger). l.loan) c.self.view_is) (ap (λ (l : Ledger). l.loan) c.self-2.view_is)
    (c.is_out.ensures.out c.if-not-is_out.false) (sym (ap (λ (l : Ledger). l.loan.lender) c.self.view_is) ∙ sym c.lender.ensures ∙ same) c.requires.lent

lends_else : (c : goal.Else-kept-refs) → c.self-2.inside.loan.refs ≡ c.args.refs.now
lends_else c =
    let same : c.lender.result ≡ c.args.at = search (rules, tests) in
    lent_here c.self.inside.loan c.self-2.inside.loan c.args.self.now c.args.at c.args.refs.now (ap (λ (l : Ledger). l.loan) c.self.view_is) (ap (λ (l : Ledger). l.loan) c.self-2.view_is)
    (c.is_out.ensures.out c.if-not-is_out.false) (sym (ap (λ (l : Ledger). l.loan.lender) c.self.view_is) ∙ sym c.lender.ensures ∙ same) c.requires.lent

pub lower-requires-clause-some : goal.lower-requires-clause-some
lower-requires-clause-some c =
    let at : ℕ = c.slot.result in
    let besides = ended_besides c.self-2.inside.tally c.self-2.inside.loan c.end.new.self c.args.self.now c.self-2.view_is c.self-2.invariant c.end.ensures c.args.refs.now c.kept-kept.result
    c.index-refs-kept.result
    (lends c) c.kept-kept.ensures.kept c.if-kept-refs.true c.index-refs-kept.is at in
    omega (arith, besides, c.requires.some at, ap (once at) c.slot.ensures, once_same at)

pub returns-then-kept-refs-clause-size : goal.returns-then-kept-refs-clause-size
returns-then-kept-refs-clause-size c =
    ap length c.lower.ensures.counts
    ∙ length-set (owed c.self-2.inside.tally.counts (lent c.end.new.self)) c.slot.result (slice_index (owed c.self-2.inside.tally.counts (lent c.end.new.self)) c.slot.result - 1)
    ∙ ended_size c.self-2.inside.tally c.self-2.inside.loan c.end.new.self c.args.self.now c.self-2.view_is c.self-2.invariant c.end.ensures

pub returns-then-kept-refs-clause-counts : goal.returns-then-kept-refs-clause-counts
returns-then-kept-refs-clause-counts c slot =
    let at : ℕ = c.slot.result in
    let counts : List ℕ = owed c.self-2.inside.tally.counts (lent c.end.new.self) in
    let size = ended_size c.self-2.inside.tally c.self-2.inside.loan c.end.new.self c.args.self.now c.self-2.view_is c.self-2.invariant c.end.ensures in
    let besides = λ (k : ℕ). ended_besides c.self-2.inside.tally c.self-2.inside.loan c.end.new.self c.args.self.now c.self-2.view_is c.self-2.invariant c.end.ensures c.args.refs.now
    c.kept-kept.result
    c.index-refs-kept.result (lends_then c) c.kept-kept.ensures.kept c.if-kept-refs.true c.index-refs-kept.is k in
    let bound : slot_of (get_or c.args.refs.now c.kept-kept.result c.index-refs-kept.result) < length c.args.self.now.tally.counts =
    c.requires.within c.kept-kept.result c.index-refs-kept.result c.if-kept-refs.true in
    let within : at < length counts = omega (arith, bound, size, ap slot_of c.index-refs-kept.is, c.slot.ensures) in
    let some : 0 < slice_index counts at = omega (arith, besides at, c.requires.some at, ap (once at) c.slot.ensures, once_same at) in
    omega (arith, ap (λ cs. slice_index cs slot) c.lower.ensures.counts, lowered_at counts at slot within some, besides slot, ap (once slot) c.slot.ensures)

pub returns-then-kept-refs-clause-noted : goal.returns-then-kept-refs-clause-noted
returns-then-kept-refs-clause-noted c =
    zeros_trans c.args.self.now.tally (record { counts = owed c.self-2.inside.tally.counts (lent c.end.new.self); noted = c.self-2.inside.tally.noted; ticks = c.self-2.inside.tally.ticks })
    c.lower.new.self.tally
    (ended_zeros c.self-2.inside.tally c.self-2.inside.loan c.end.new.self c.args.self.now c.self-2.view_is c.self-2.invariant c.end.ensures) c.lower.ensures.noted

pub returns-else-kept-refs-clause-size : goal.returns-else-kept-refs-clause-size
returns-else-kept-refs-clause-size c = ended_size c.self-2.inside.tally c.self-2.inside.loan c.end.new.self c.args.self.now c.self-2.view_is c.self-2.invariant c.end.ensures

pub returns-else-kept-refs-clause-counts : goal.returns-else-kept-refs-clause-counts
returns-else-kept-refs-clause-counts c slot =
    ended_whole c.self-2.inside.tally c.self-2.inside.loan c.end.new.self c.args.self.now c.self-2.view_is c.self-2.invariant c.end.ensures c.args.refs.now c.kept-kept.result (lends_else c)
    c.kept-kept.ensures.kept c.if-kept-refs.false slot

pub returns-else-kept-refs-clause-noted : goal.returns-else-kept-refs-clause-noted
returns-else-kept-refs-clause-noted c = ended_zeros c.self-2.inside.tally c.self-2.inside.loan c.end.new.self c.args.self.now c.self-2.view_is c.self-2.invariant c.end.ensures
