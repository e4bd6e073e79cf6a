-- The handle isn't there, is of the wrong kind, or the one that is to be opened is there.
use Rattle.std.proofs.Common.{◌≡◌, None, IsSome, refl, sym, ◌∙◌, ap, subst}
use Rattle.std.proofs.lemmas.Option.{same_Some}
use Rattle.std.specs.FinMap as map
use Rattle.history.specs.Faults.{needed_access, IsOfKind}
use Rattle.history.specs.Handles.{handle_of}
use Rattle.history.specs.Obstacles.{mismatch}
use Rattle.history.proofs.Hindering.{named, kind_hinders, all_else, IsTaken}
use Rattle.history.proofs.obstacles.obstacle_to.Goals as goal

pub returns-in-Some-mismatch : goal.returns-in-Some-mismatch
returns-in-Some-mismatch c =
    let world = c.args.world.now in
    let call = c.args.call.now in
    let h = c.handle-handle.result in
    let access = c.in-Some.access in
    kind_hinders world call c.args.opens h access (needed_access call) c.in-Some-mismatch.obstacle refl c.handle-handle.ensures
    (named world h access (sym c.access.ensures ∙ c.in-Some.is))
    (ap (λ needed. mismatch needed access h) (sym c.needed_access.ensures) ∙ sym c.mismatch.ensures ∙ c.in-Some-mismatch.is)

pub returns : goal.returns
returns c =
    let world = c.args.world.now in
    let call = c.args.call.now in
    let access = c.in-Some.access in
    let here = c.handle-handle.ensures in
    let names : IsOfKind world (handle_of call) access = subst (λ h. IsOfKind world h access) here (named world c.handle-handle.result access (sym c.access.ensures ∙ c.in-Some.is)) in
    let fits : mismatch (needed_access call) access (handle_of call) ≡ None =
    ap (λ h. mismatch (needed_access call) access h) (sym here) ∙ ap (λ needed. mismatch needed access c.handle-handle.result) (sym c.needed_access.ensures) ∙ sym c.mismatch.ensures
    ∙ c.in_default-mismatch.is in
    let taken : IsTaken world call c.args.opens = all_else c.requires.no_effect.0 world call c.args.opens access c.requires.opens_rightly names fits c.requires.no_effect.1 in
    let number : taken.0 ≡ c.in-Some-opens.handle = same_Some taken.0 c.in-Some-opens.handle (sym taken.1 ∙ c.in-Some-opens.is) in
    (c.in-Some-opens.is, taken.2, subst (λ n. IsSome (map.get world n)) number taken.3)
