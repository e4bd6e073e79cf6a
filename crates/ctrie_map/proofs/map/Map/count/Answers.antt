use Rattle.std.proofs.Common.{sym, ap, ◌∙◌}
use Rattle.std.proofs.lemmas.Result.{err_from_is_err_and}
use Rattle.std.specs.FinMap as map
use Rattle.ctrie_map.specs.Maps.{MapState}
use Rattle.ctrie_map.specs.Reading.{core_reading}
use Rattle.ctrie_map.proofs.NamedReading.{read_none, read_so}
use Rattle.ctrie_map.proofs.map.Map.count.Goals as goal

pub returns-in_err-name-clause-exact : goal.returns-in_err-name-clause-exact
returns-in_err-name-clause-exact c =
    let p = err_from_is_err_and c.from_residual.result c.from_residual.ensures.1 in
    rw (p.1, p.2) (sym (read_none c.args.self.now c.args.handle (λ m. map.len m) c.in_err-name.field-0.0 c.in_err-name.ensures.open))

pub returns-clause-exact : goal.returns-clause-exact
returns-clause-exact c =
    c.count_in.ensures.exact ∙ ap (λ (s : MapState). core_reading s.core c.in_ok-name.name.core (λ m. map.len m)) c.self.view_is
    ∙ sym (read_so c.args.self.now c.args.handle (λ m. map.len m) c.in_ok-name.name c.in_ok-name.ensures.named)
