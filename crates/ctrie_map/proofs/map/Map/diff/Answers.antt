use Rattle.std.proofs.Common.{refl, sym, ap, subst, inl, inr, IfErr}
use Rattle.std.proofs.lemmas.Result.{err_from_is_err_and}
use Rattle.ctrie_map.specs.declared.errors.MapError.TheVariants.{NoHandle}
use Rattle.ctrie_map.specs.Maps.{MapState}
use Rattle.ctrie_map.specs.Reading.{RefusesComparingOf, core_reading, reading}
use Rattle.ctrie_map.proofs.NamedReading.{read_none, read_so}
use Rattle.ctrie_map.proofs.map.Map.diff.Goals as goal

pub returns-in_err-older-clause-refused : goal.returns-in_err-older-clause-refused
returns-in_err-older-clause-refused c =
    let p = err_from_is_err_and c.from_residual.result c.from_residual.ensures.1 in
    let closed = c.in_err-older.ensures.open in
    rw (p.1, p.2) (inl (closed.1, inl (read_none c.args.self.now c.args.older (λ shown. shown) NoHandle (closed.0, refl))))

pub returns-in_err-newer-clause-refused : goal.returns-in_err-newer-clause-refused
returns-in_err-newer-clause-refused c =
    let p = err_from_is_err_and c.from_residual-in_err-newer.result c.from_residual-in_err-newer.ensures.1 in
    let closed = c.in_err-newer.ensures.open in
    rw (p.1, p.2) (inl (closed.1, inr (read_none c.args.self.now c.args.newer (λ shown. shown) NoHandle (closed.0, refl))))

pub returns-clause-differences : goal.returns-clause-differences
returns-clause-differences c =
    rw (
      read_so c.args.self.now c.args.older (λ shown. shown) c.in_ok-older.older c.in_ok-older.ensures.named,
      read_so c.args.self.now c.args.newer (λ shown. shown) c.in_ok-newer.newer c.in_ok-newer.ensures.named,
      ← ap (λ (s : MapState). s.core) c.self.view_is,
    ) c.differences_in.ensures.differences

pub returns-clause-refused : goal.returns-clause-refused
returns-clause-refused c =
    let now = c.args.self.now in
    let told = c.differences_in.result in
    let older = c.in_ok-older.older in
    let newer = c.in_ok-newer.newer in
    subst (λ shown. IfErr told (RefusesComparingOf shown (reading now c.args.newer (λ shown. shown)))) (sym (read_so now c.args.older (λ shown. shown) older c.in_ok-older.ensures.named))
    (subst (λ shown. IfErr told (RefusesComparingOf (core_reading now.core older.core (λ shown. shown)) shown))
    (sym (read_so now c.args.newer (λ shown. shown) newer c.in_ok-newer.ensures.named))
    (subst (λ (s : MapState). IfErr told (RefusesComparingOf (core_reading s.core older.core (λ shown. shown)) (core_reading s.core newer.core (λ shown. shown)))) c.self.view_is
    c.differences_in.ensures.refused))
