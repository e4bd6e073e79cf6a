-- One row more: its call's key is listed.
use Rattle.std.proofs.Common.{◌≡◌, ℕ, ◌∷◌, [], ◌++◌, Option, Some, IfSome, slice_get, sym, ap, ◌∙◌, subst, arith}
use Rattle.std.specs.Global.{Vec}
use Rattle.std.proofs.lemmas.Option.{slice_get-get_or}
use Rattle.order_search.specs.Vocabulary.{Row}
use Rattle.order_search.specs.declared.cells.Cell.{Cell}
use Rattle.order_search.specs.Cells.{cell_of}
use Rattle.order_search.specs.States.{IsListed}
use Rattle.order_search.proofs.Alike.{IsOn, listed_on, listed_all, some_keeps, pushed_keeps, pushed_has}
use Rattle.order_search.proofs.failures.keys_of.Goals.{in-Some+then-not-is_key+in_ok-push, in-Some+else-not-is_key, in_default}
use Rattle.order_search.proofs.failures.keys_of.Goals as goal

pub loop-id-preserved : goal.loop-id-preserved
loop-id-preserved c =
    let rows = c.args.table.now.rows.items in
    let row = c.index.result.now in
    let before = c.loop-id.keys.items in
    let now = c.match-cell_of.keys.items in
    let at : slice_get rows c.loop-id.id ≡ Some row = slice_get-get_or rows c.loop-id.id row (omega arith) ∙ ap (λ (r : Row). Some r) (sym c.index.ensures) in
    let keeps : (x : ℕ) → IsListed before x → IsListed now x = elim c.match-cell_of.branch [
      | in-Some+then-not-is_key+in_ok-push w ↦ λ x listed.
          let items : now ≡ before ++ w.in-Some.cell.key ∷ [] = ap (λ (v : Vec ℕ). v.items) w.keys-is ∙ w.in_ok-push.ensures.items in
          subst (λ xs. IsListed xs x) (sym items) (pushed_keeps before w.in-Some.cell.key x listed)
      | in-Some+else-not-is_key w ↦ λ x listed. subst (λ xs. IsListed xs x) (sym (ap (λ (v : Vec ℕ). v.items) w.keys-is)) listed
      | in_default w ↦ λ x listed. subst (λ xs. IsListed xs x) (sym (ap (λ (v : Vec ℕ). v.items) w.keys-is)) listed
    ] in
    let on : (o : Option Cell) → c.cell_of.result ≡ o → IfSome o (λ cell. IsListed now cell.key) → IsOn now row =
    λ o is listed. subst (λ (p : Option Cell). IfSome p (λ cell. IsListed now cell.key)) (sym is ∙ c.cell_of.ensures) listed in
    let has : IsOn now row = elim c.match-cell_of.branch [
      | in-Some+then-not-is_key+in_ok-push w ↦
          let items : now ≡ before ++ w.in-Some.cell.key ∷ [] = ap (λ (v : Vec ℕ). v.items) w.keys-is ∙ w.in_ok-push.ensures.items in
          on _ w.in-Some.is (subst (λ xs. IsListed xs w.in-Some.cell.key) (sym items) (pushed_has before w.in-Some.cell.key))
      | in-Some+else-not-is_key w ↦
          let listed = subst (λ xs. IsListed xs w.in-Some.cell.key) w.as_slice.ensures.value (w.is_key.ensures w.if-not-is_key.false) in
          on _ w.in-Some.is (keeps w.in-Some.cell.key listed)
      | in_default w ↦ on _ w.in_default.is tt
    ] in
    listed_on IsOn rows c.loop-id.id before now row c.loop-id.invariant at (λ other. some_keeps (cell_of other.call) _ _ (λ cell. keeps cell.key)) has

pub returns-clause-keys : goal.returns-clause-keys
returns-clause-keys c = listed_all IsOn c.args.table.now.rows.items c.loop-id.id c.loop-id.keys.items c.loop-id.invariant (omega arith)
