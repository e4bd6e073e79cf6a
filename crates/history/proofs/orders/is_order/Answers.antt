use Rattle.std.proofs.Common.{◌≡◌, Bool, true, false, not, refl, sym, ap, ◌∙◌}
use Rattle.std.proofs.lemmas.Bool.{true≢false}
use Rattle.history.proofs.orders.is_order.Goals as goal

-- a test that finds nothing
nothing : (some none : Bool) → some ≡ not none → some ≡ false → none ≡ true
nothing some true is found = refl
nothing some false is found = absurd (true≢false (sym is ∙ found))

pub returns-clause-exact : goal.returns-clause-exact
returns-clause-exact c =
    let exact = c.in_ok-first_fault.ensures.exact in
    (λ legal. exact.0 (c.is_none.ensures ∙ ap not legal), λ legal. nothing _ _ c.is_none.ensures (exact.1 legal))
