-- All three parts are the same.
use Rattle.std.proofs.Common.{sym, ◌∙◌, subst, eqb-true}
use Rattle.order_search.specs.States.{AreSameMaps}
use Rattle.order_search.proofs.failures.is_same.Goals as goal

pub returns : goal.returns
returns c = λ is. record {
  low = eqb-true c.args.a.now.low c.args.b.now.low is;
  ahead = sym c.as_slice.ensures.value ∙ c.are_same_ids.ensures c.if-not-are_same_ids.false ∙ c.as_slice-2.ensures.value;
  maps = subst (λ xs. AreSameMaps xs c.args.b.now.maps.items) c.as_slice-3.ensures.value
      (subst (λ ys. AreSameMaps c.as_slice-3.result.now ys) c.as_slice-4.ensures.value (c.are_same_maps.ensures c.if-not-are_same_maps.false));
}
