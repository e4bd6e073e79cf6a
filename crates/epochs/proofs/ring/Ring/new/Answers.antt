use Rattle.std.proofs.Common.{◌≡◌, ℕ, ◌+◌, false, List, [], sym, ap, subst, replicate}
use Rattle.slot_arena.specs.Chains.{Flagged}
use Rattle.epochs.specs.Rings.{IsRing}
use Rattle.epochs.proofs.Turns.{new_ring}
use Rattle.epochs.proofs.ring.Ring.new.Goals as goal

pub invariant_of-result : goal.invariant_of-result
invariant_of-result c =
    let n : ℕ = c.args.size in
    let marks : c.in_ok-new.field-0.marks ≡ replicate n false = ap (λ (f : Flagged). f.marks) c.in_ok-new.ensures in
    let next : List ℕ = c.in_ok-beginnings.field-0.words in
    let back : List ℕ = c.in_ok-beginnings-2.field-0.words in
    subst (λ ms. IsRing next back ms n n (n + 1) (n + 2) 0 c.new-2.result.items c.new-3.result.items c.new-4.result.items) (sym marks)
    (subst (λ rs. IsRing next back (replicate n false) n n (n + 1) (n + 2) 0 rs c.new-3.result.items c.new-4.result.items) (sym c.new-2.ensures)
    (subst (λ rs. IsRing next back (replicate n false) n n (n + 1) (n + 2) 0 [] rs c.new-4.result.items) (sym c.new-3.ensures)
    (subst (λ rs. IsRing next back (replicate n false) n n (n + 1) (n + 2) 0 [] [] rs) (sym c.new-4.ensures)
    (new_ring next back n c.requires c.in_ok-beginnings.ensures.links c.in_ok-beginnings-2.ensures.links))))
