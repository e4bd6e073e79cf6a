-- The operation is placed, or passed.
use Rattle.std.proofs.Common.{◌≡◌, ◌<◌, ℕ, Bool, true, false, Option, Some, IfSome, slice_get, sym, ◌∙◌, subst, arith}
use Rattle.std.specs.Option.{option_copied}
use Rattle.order_search.specs.Vocabulary.{hash_of, Reply, LeadsTo}
use Rattle.order_search.specs.Cells.{cell_of, value_in}
use Rattle.order_search.specs.Marks.{HasMark}
use Rattle.order_search.specs.Walks.{IsWay, Carries}
use Rattle.order_search.proofs.Placing.{placed, missed, low_kept}
use Rattle.order_search.proofs.walking.Way.place.Goals as goal

pub returns-then-branch-clause-places : goal.returns-then-branch-clause-places
returns-then-branch-clause-places c =
    let hash = hash_of c.args.hash in
    let history = c.args.events.now in
    let old = c.args.self.now in
    let id = c.args.id in
    let row = c.in-Some.row in
    let at : slice_get c.args.table.now.rows.items id ≡ Some row = sym c.row.ensures ∙ c.in-Some.is in
    let world = c.value_before.new.world in
    let same : world ≡ old.world = c.value_before.ensures.same in
    let may = c.requires.may in
    let way : IsWay hash history old.ids.items old.befores.items old.taken.items old.low old.next world =
    subst (λ w. IsWay hash history old.ids.items old.befores.items old.taken.items old.low old.next w) (sym same) may.0.0 in
    let value = subst (λ w. IfSome (cell_of row.call) (λ cell. value_in w cell ≡ c.in_ok-before.before)) (sym same) c.in_ok-before.ensures.value in
    let told = c.reply_at-told.ensures in
    let P : Bool → Type 0 = λ fits. Carries fits hash row (option_copied c.reply_at-told.result) world c.carry_out.new.world in
    let carries = subst (λ (o : Option Reply). Carries true hash row o world c.carry_out.new.world) told (subst P c.if-branch.true c.in_ok-carry_out.ensures.carries) in
    let pushes = c.in_ok-push.ensures.pushes in
    let marked = pushes.low (subst (λ xs. (x : ℕ) → x < old.low → HasMark xs x) (sym pushes.taken)
    (low_kept hash history old.ids.items old.befores.items old.taken.items old.low old.next id world way may.1.0)) in
    let low = subst (λ xs. (x : ℕ) → x < c.push.new.self.low → HasMark xs x) pushes.taken marked in
    rw (pushes.ids, pushes.befores, pushes.taken, pushes.next, pushes.world)
    (placed hash history c.args.table.now old.ids.items old.befores.items old.taken.items old.low old.next c.push.new.self.low id c.in_ok-before.before world c.carry_out.new.world row
    c.requires.known way may.0.1 may.1 at value carries low)

pub returns-clause-places : goal.returns-clause-places
returns-clause-places c =
    let hash = hash_of c.args.hash in
    let history = c.args.events.now in
    let old = c.args.self.now in
    let id = c.args.id in
    let row = c.in-Some.row in
    let at : slice_get c.args.table.now.rows.items id ≡ Some row = sym c.row.ensures ∙ c.in-Some.is in
    let world = c.value_before.new.world in
    let same : world ≡ old.world = c.value_before.ensures.same in
    let may = c.requires.may in
    let way : IsWay hash history old.ids.items old.befores.items old.taken.items old.low old.next world =
    subst (λ w. IsWay hash history old.ids.items old.befores.items old.taken.items old.low old.next w) (sym same) may.0.0 in
    let value = subst (λ w. IfSome (cell_of row.call) (λ cell. value_in w cell ≡ c.in_ok-before.before)) (sym same) c.in_ok-before.ensures.value in
    let told = c.reply_at-told.ensures in
    let P : Bool → Type 0 = λ fits. Carries fits hash row (option_copied c.reply_at-told.result) world c.carry_out.new.world in
    let carries = subst (λ (o : Option Reply). Carries false hash row o world c.carry_out.new.world) told (subst P c.if-branch.false c.in_ok-carry_out.ensures.carries) in
    let answered = c.in_ok-carry_out.ensures.answered in
    missed hash history c.args.table.now old.ids.items old.befores.items old.taken.items old.low old.next c.saturating_add-self.result id c.in_ok-before.before world c.carry_out.new.world
    c.take_back.new.world row answered.0 c.requires.known way may.0.1 may.1 at value carries answered.1
    (λ last r leads at_r differ. c.in_ok-take_back.ensures.back history last r c.requires.known (subst (λ xs. LeadsTo hash history xs last) (sym c.as_slice.ensures.value) leads) at_r differ)
    (omega (arith, c.saturating_add-self.ensures))
