-- One row more: its handle is listed.
use Rattle.std.proofs.Common.{◌≡◌, ℕ, ◌∷◌, [], ◌++◌, Option, Some, IfSome, slice_get, sym, ap, ◌∙◌, subst, arith}
use Rattle.std.specs.Global.{Vec}
use Rattle.std.proofs.lemmas.Option.{slice_get-get_or}
use Rattle.order_search.specs.Vocabulary.{Row}
use Rattle.order_search.specs.States.{IsListed}
use Rattle.order_search.proofs.Alike.{Opens, listed_on, listed_all, some_keeps, pushed_keeps, pushed_has}
use Rattle.order_search.proofs.failures.handles_of.Goals.{in-Some+then-not-is_handle+in_ok-push-2, in-Some+else-not-is_handle, in_default}
use Rattle.order_search.proofs.failures.handles_of.Goals as goal

pub loop-id-preserved : goal.loop-id-preserved
loop-id-preserved c =
    let rows = c.args.table.now.rows.items in
    let row = c.index.result.now in
    let before = c.loop-id.handles.items in
    let now = c.match-index.handles.items in
    let at : slice_get rows c.loop-id.id ≡ Some row = slice_get-get_or rows c.loop-id.id row (omega arith) ∙ ap (λ (r : Row). Some r) (sym c.index.ensures) in
    let keeps : (x : ℕ) → IsListed before x → IsListed now x = elim c.match-index.branch [
      | in-Some+then-not-is_handle+in_ok-push-2 w ↦ λ x listed.
          let items : now ≡ before ++ w.in-Some.handle ∷ [] = ap (λ (v : Vec ℕ). v.items) w.handles-is ∙ w.in_ok-push-2.ensures.items in
          subst (λ xs. IsListed xs x) (sym items) (pushed_keeps before w.in-Some.handle x listed)
      | in-Some+else-not-is_handle w ↦ λ x listed. subst (λ xs. IsListed xs x) (sym (ap (λ (v : Vec ℕ). v.items) w.handles-is)) listed
      | in_default w ↦ λ x listed. subst (λ xs. IsListed xs x) (sym (ap (λ (v : Vec ℕ). v.items) w.handles-is)) listed
    ] in
    let has : Opens now row = elim c.match-index.branch [
      | in-Some+then-not-is_handle+in_ok-push-2 w ↦
          let items : now ≡ before ++ w.in-Some.handle ∷ [] = ap (λ (v : Vec ℕ). v.items) w.handles-is ∙ w.in_ok-push-2.ensures.items in
          subst (λ (o : Option ℕ). IfSome o (λ h. IsListed now h)) (sym w.in-Some.is) (subst (λ xs. IsListed xs w.in-Some.handle) (sym items) (pushed_has before w.in-Some.handle))
      | in-Some+else-not-is_handle w ↦
          let listed = subst (λ xs. IsListed xs w.in-Some.handle) w.as_slice.ensures.value (w.is_handle.ensures w.if-not-is_handle.false) in
          subst (λ (o : Option ℕ). IfSome o (λ h. IsListed now h)) (sym w.in-Some.is) (keeps w.in-Some.handle listed)
      | in_default w ↦ subst (λ (o : Option ℕ). IfSome o (λ h. IsListed now h)) (sym w.in_default.is) tt
    ] in
    (keeps 0 c.loop-id.invariant.0, listed_on Opens rows c.loop-id.id before now row c.loop-id.invariant.1 at (λ other. some_keeps other.opens _ _ keeps) has)

pub returns-clause-opened : goal.returns-clause-opened
returns-clause-opened c = listed_all Opens c.args.table.now.rows.items c.loop-id.id c.loop-id.handles.items c.loop-id.invariant.1 (omega arith)
