use Rattle.std.proofs.Common.{◌≡◌, ℕ, ap, subst}
use Rattle.std.specs.FinMap as map
use Rattle.ctrie_map.specs.Changes.{Changes}
use Rattle.ctrie_map.proofs.Pops.{popped}
use Rattle.ctrie_map.proofs.map.Map.pop.Goals as goal

pub returns-clause-done : goal.returns-clause-done
returns-clause-done c =
    let before = c.args.self.now in
    let after = c.remove.new.self in
    let told = c.in_ok-remove.field-0 in
    let key = ap (λ (p : ℕ × ℕ). p.0) c.unwrap_or-key.ensures in (
      c.in_ok-remove.ensures.done.0,
      popped before after c.args.handle c.in_ok-first.first _ told c.in_ok-first.ensures
          (subst (λ key. Changes before c.args.handle (λ m. told ≡ map.get m key) (λ m. map.remove m key) after) key c.in_ok-remove.ensures.done.1),
    )
