-- One handle more, in a world that stays.
use Rattle.std.proofs.Common.{◌≡◌, ◌+◌, ◌∷◌, [], ◌++◌, Some, get_or, slice_get, sym, ap, ◌∙◌, subst, arith}
use Rattle.std.specs.Global.{Vec}
use Rattle.std.proofs.lemmas.Option.{slice_get-get_or}
use Rattle.order_search.specs.Vocabulary.{HandleMap}
use Rattle.order_search.specs.declared.failures.Named.{Named}
use Rattle.order_search.specs.Cells.{access_at}
use Rattle.order_search.specs.States.{AreValues}
use Rattle.order_search.proofs.Alike.{NamedSoFar, named_on, named_past, named_all}
use Rattle.order_search.proofs.failures.maps_of.Goals.{in-Some+in_ok-values_of+in_ok-push, in_default}
use Rattle.order_search.proofs.failures.maps_of.Goals as goal

pub loop-handle-preserved : goal.loop-handle-preserved
loop-handle-preserved c =
    let handles = c.args.handles.now in
    let keys = c.args.keys.now in
    let world = c.args.world.now in
    let n = c.loop-handle.handle-index in
    let h = get_or handles n 0 in
    let before = c.loop-handle.maps.items in
    let now = c.match-access.maps.items in
    let at : slice_get handles n ≡ Some h = slice_get-get_or handles n 0 (omega arith) in
    let access : c.access.result ≡ access_at world h = c.access.ensures ∙ ap (λ (w : HandleMap). access_at w h) c.loop-handle.invariant.0 in
    elim c.match-access.branch [
      | in-Some+in_ok-values_of+in_ok-push w ↦
          let named : Named = record { handle = h; access = w.in-Some.access; values = w.in_ok-values_of.field-0 } in
          let values : AreValues keys world h named.values.items = subst (λ v. AreValues keys v h named.values.items) c.loop-handle.invariant.0 w.in_ok-values_of.ensures.values in
          let items : now ≡ before ++ named ∷ [] = ap (λ (v : Vec Named). v.items) w.maps-is ∙ w.in_ok-push.ensures.items in (
            w.world-is ∙ w.in_ok-values_of.ensures.same ∙ c.loop-handle.invariant.0,
            subst (λ xs. NamedSoFar handles keys world (n + 1) xs) (sym items) (named_on handles keys world n before named c.loop-handle.invariant.1 at (sym access ∙ w.in-Some.is, values)),
          )
      | in_default w ↦
          let items : now ≡ before = ap (λ (v : Vec Named). v.items) w.maps-is in (
            w.world-is ∙ c.loop-handle.invariant.0,
            subst (λ xs. NamedSoFar handles keys world (n + 1) xs) (sym items) (named_past handles keys world n h before c.loop-handle.invariant.1 at (sym access ∙ w.in_default.is)),
          )
    ]

pub returns-clause-named : goal.returns-clause-named
returns-clause-named c = named_all c.args.handles.now c.args.keys.now c.args.world.now c.loop-handle.handle-index c.loop-handle.maps.items c.loop-handle.invariant.1 (omega arith)
