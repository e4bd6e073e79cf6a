use Rattle.std.proofs.Common.{◌≡◌, ◌<◌, ◌∷◌, ◌++◌, ℕ, List, [], length, ap, sym, ◌∙◌, arith}
use Rattle.std.specs.Prelude.{Option, Some, None, MatchOption}
use Rattle.slot_arena.specs.Times.{times}
use Rattle.slot_arena.specs.Loans.{Ledger, lent, owed}
use Rattle.slot_arena.proofs.Lendings.{length-owed}
use Rattle.slot_arena.proofs.ledger.Ledger.take_noted.Goals as goal

-- what is taken, where more is counted
taken : (o : Option ℕ) (was seen now : List ℕ) (n m : ℕ) → was ≡ seen → n ≡ m →
    MatchOption o ((was ≡ []) × (now ≡ [])) (λ slot. (was ≡ now ++ slot ∷ []) × (times slot now ≡ 0) × (slot < n)) →
    MatchOption o ((seen ≡ []) × (now ≡ [])) (λ slot. (seen ≡ now ++ slot ∷ []) × (times slot now ≡ 0) × (slot < m))
taken None was seen now n m same size (none, empty) = (sym same ∙ none, empty)
taken (Some slot) was seen now n m same size (is, once, within) = (sym same ∙ is, once, omega (arith, size, within))

pub returns-clause-noted : goal.returns-clause-noted
returns-clause-noted c =
    taken c.take_noted.result c.self.inside.tally.noted c.args.self.now.tally.noted c.take_noted.new.self.noted (length c.take_noted.new.self.counts)
    (length (owed c.take_noted.new.self.counts (lent c.self.inside.loan))) (ap (λ (l : Ledger). l.tally.noted) c.self.view_is)
    (sym (length-owed c.take_noted.new.self.counts (lent c.self.inside.loan))) c.take_noted.ensures.noted
