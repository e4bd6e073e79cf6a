use Rattle.std.proofs.Common.{◌≡◌, ℕ, ◌<◌, true, false, subst}
use Rattle.handle_table.specs.Numbers.{Numbers, IsLeastFree, is_set}
use Rattle.handle_table.proofs.Bits.{least_is}
use Rattle.handle_table.proofs.numbers.Handles.least_free.Goals as goal

pub returns : goal.returns
returns c =
    subst (λ (n : Numbers). IsLeastFree n c.first_unset.result) c.self.view_is
    (least_is c.self.inside.words.items c.self.inside.running.items c.first_unset.result c.self.invariant.0
    (subst (λ ws. (number : ℕ) → number < c.first_unset.result → is_set ws number ≡ true) c.as_slice.ensures.value c.first_unset.ensures.below)
    (subst (λ ws. is_set ws c.first_unset.result ≡ false) c.as_slice.ensures.value c.first_unset.ensures.unset))
