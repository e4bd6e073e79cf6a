use Rattle.std.proofs.Common.{ap, inl}
use Rattle.std.proofs.lemmas.Result.{err_from_is_err_and}
use Rattle.std.specs.FinMap as map
use Rattle.ctrie_map.specs.Beneath.proof_core.specs.Scanning.{scanned}
use Rattle.ctrie_map.specs.Maps.{MapState}
use Rattle.ctrie_map.specs.Reading.{core_reading}
use Rattle.ctrie_map.proofs.NamedReading.{read_none, read_so}
use Rattle.ctrie_map.proofs.map.Map.scan.Goals as goal

pub returns-in_err-name-clause-refused : goal.returns-in_err-name-clause-refused
returns-in_err-name-clause-refused c =
    let p = err_from_is_err_and c.from_residual.result c.from_residual.ensures.1 in
    rw (p.1, p.2) (inl (read_none c.args.self.now c.args.handle (λ m. scanned c.args.self.now.core.limits.hash c.args.after c.args.room (map.entries m))
    c.in_err-name.field-0.0 c.in_err-name.ensures.open))

pub returns-clause-entries : goal.returns-clause-entries
returns-clause-entries c =
    rw (
      read_so c.args.self.now c.args.handle (λ m. scanned c.args.self.now.core.limits.hash c.args.after c.args.room (map.entries m)) c.in_ok-name.name c.in_ok-name.ensures.named,
      ← ap (λ (s : MapState). core_reading s.core c.in_ok-name.name.core (λ m. scanned s.core.limits.hash c.args.after c.args.room (map.entries m))) c.self.view_is,
    ) c.scanned_behind.ensures.entries

pub returns-clause-refused : goal.returns-clause-refused
returns-clause-refused c =
    rw (
      read_so c.args.self.now c.args.handle (λ m. scanned c.args.self.now.core.limits.hash c.args.after c.args.room (map.entries m)) c.in_ok-name.name c.in_ok-name.ensures.named,
      ← ap (λ (s : MapState). core_reading s.core c.in_ok-name.name.core (λ m. scanned s.core.limits.hash c.args.after c.args.room (map.entries m))) c.self.view_is,
    ) c.scanned_behind.ensures.refused
