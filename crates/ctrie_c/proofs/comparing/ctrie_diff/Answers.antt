use Rattle.std.proofs.Common.{rules, ◌≡◌, ℕ, map, length, sym, subst}
use Rattle.shared_map.specs.Beneath.ctrie_map.specs.Reading.{Compares}
use Rattle.ctrie_c.specs.Buffers.{Fills}
use Rattle.ctrie_c.specs.Comparing.{Differs, difference_told}
use Rattle.ctrie_c.proofs.Carried.{carried}
use Rattle.ctrie_c.proofs.comparing.ctrie_diff.Goals as goal

pub returns-in-Ok-clause-does : goal.returns-in-Ok-clause-does
returns-in-Ok-clause-does c =
    let many : c.len.result ≡ length c.in-Ok.found.items = search rules in
    carried (λ h. Differs c.args.differences.now c.write.new.differences h c.args.newer)
    c.new.ensures c.deref.ensures c.in-Some.ensures.some c.give.ensures c.tell_count.ensures.bound c.tell_count.ensures.told (
      sym c.deref.ensures,
      (
        c.in-Ok.found.items,
        subst (λ (n : ℕ). Compares c.deref.result.now c.new.result n c.in-Ok.found.items) c.new-in-Some.ensures c.in-Ok.ensures.differences,
        many,
        subst (λ fs. Fills (map difference_told fs) c.args.differences.now c.write.new.differences) c.as_slice.ensures.value c.write.ensures,
      ),
      tt,
    )
