-- `changed` makes a value of no bytes that clauses see as the items after the change.
use mathlib.Core.Path.{refl}
use mathlib.Core.List.{[], ◌∷◌}
use mir.Syntax.{a_type, dcons, dnil, named}
use mir.Val.{Val, vptr, vstruct, vcons, vnil}
use mir.MapTy.{inst_fn}
use base.Fml.{Fml}
use prog.Wp.{WpFn, Tables}
use sound.WpLaws.{WpFn-mono}
use contract.Running.{tables, tables_of}
use types.Kit.{‵, raw, ◌⊛◌, ◌$◌, ◌∵◌, !, qed, move, keep, split, join, fjoin, use0, suffices, done}
use types.Part.{agg}
use types.Run.{enter, returns, and_then, no_more}
use types.ByLocal.{alloc_all, pass_all, free_all, look_at, get, sets}
use denote.Exit.{yes}
use denote.RattleType.{owns}
use denote.Ref.{shr_vals, shr_Tells}
use denote.Builtin.{RefOf}
use denote.Param.{param, bounded}
use denote.Shadow.{makes_shadow}
use denote.Signature.{types_at, type_at, plain}
use denote.Steps.{nothing}
use denote.Triple.Clauses.{closing}
use denote.Triple.Entry.{alive, Res}
use denote.Triple.Spec.{triple_of}
use denote.Triple.Table.{entered}
use denote.Triple.Walked.{says, Stays, stay_dropped, walk_of, walked, ends_at, Goes-dropped, walk_Meets}
use Rattle.ctrie_base.specs.contracts.traces.Trace as Trace
use Rattle.ctrie_base.specs.contracts.traces.Trace.changed.{ended, clauses}
use Rattle.ctrie_base.specs.contracts.traces.Trace.changed.Key.{name as key}
use Rattle.ctrie_base.proofs.traces.Trace.changed.Statement.{statement}
use Rattle.ctrie_base.proofs.traces.Trace.changed.Code as code

pub changed_spec : {M : Type 1} → statement M
unfolding tables_of
changed_spec 𝓤 𝓛 𝓜 𝓡 wired T X C LT LX LC g d _ =
    let 𝓣 : Tables 𝓤 𝓛.H = tables_of 𝓤 𝓛.H 𝓜 (tables 𝓤 𝓛.H 𝓜 𝓡 𝓡.env) in
    let E = ended T X C g d in
    let c = clauses T X C g d 𝓛 𝓜.mem 𝓡.returns in
    let inst = bounded (a_type ∷ a_type ∷ a_type ∷ []) (T, (X, (C, tt))) (dcons d dnil) in
    let fn = inst_fn inst code.function in
    let before = RefOf (0 ∷ []) tt (plain (λ _. Trace.the_row (param 0 T))) (λ _. tt) in
    let by = RefOf (1 ∷ []) tt (plain (λ _. param 1 X)) (λ _. tt) in
    let hs : Stays E.signature.params E.kept = (stay_dropped before yes, (stay_dropped by yes, tt)) in
    entered 𝓤 𝓛.H (triple_of 𝓛 E.signature (closing 𝓛 E c)) 𝓣.C 𝓣.Λ (key inst) fn (code.unfolded 𝓤 𝓛.H 𝓜 𝓡 wired (T, (X, (C, tt))) d)
    (walk_Meets 𝓛 E hs (Goes-dropped 𝓛 5 before yes (λ κs x f. refl), (Goes-dropped 𝓛 5 by yes (λ κs x f. refl), tt)) c
    (WpFn 𝓤 𝓛.H 𝓣.C 𝓣.Λ fn) (WpFn-mono 𝓤 𝓛.H 𝓛.laws 𝓣 fn)
    (walked 𝓛 E hs c (WpFn 𝓤 𝓛.H 𝓣.C 𝓣.Λ fn) (λ κs. (shr_vals, (shr_vals, tt)))
    (λ κs. (shr_Tells (named 0) κs.0 (Trace.the_row (param 0 T)), (shr_Tells (named 1) κs.1.0 (param 1 X), tt)))
    (λ κs qs bounds a gh are.
    let p : Val = vptr a.0.ref_ptr.0 a.0.ref_ptr.1 in
    let q : Val = vptr a.1.0.ref_ptr.0 a.1.0.ref_ptr.1 in
    let y : (walk_of 𝓛 E hs c).Ghost = ((κs, qs, bounds, a, (p ∷ [], (q ∷ [], tt))), gh) in
    let v : Val = vstruct (vcons (vstruct vnil) vnil) in
    let r : Res E.signature κs = record { of = record {}; items = g.after a.0.now.items a.1.0.now } in
    let O : Fml = (type_at E.signature.result κs).own_val r (v ∷ []) in
    qed 𝓛 ((raw (alive 𝓛 E.signature κs qs) ⊛ ‵ (owns (types_at E.signature.params κs) a y.0.4)) ∷ raw ((c κs a).requires gh) ∷ []) ∵ split ! $ keep ! (0 ∷ []) $
    enter ! 𝓣.C 𝓣.Λ fn (p ∷ q ∷ []) _ $ alloc_all ! (λ l. pass_all ! refl ((tt, tt), ((tt, tt), tt)) $
    sets ! (agg ! (no_more !)) refl (tt, tt) $ sets ! (agg ! (and_then ! (get ! refl) (no_more !))) refl (tt, (tt, tt)) $
    returns ! (look_at ! 0 refl) $ free_all ! refl $
    use0 𝓛 (‵ O) (makes_shadow 𝓛 O ((λ vss. (tt, ((λ uss. (tt, tt)), tt))), tt) (((vstruct vnil ∷ [], tt), (refl, ((tt, (refl, tt)), tt))), tt)) $
    suffices ! _ (ends_at 𝓛 E hs c y v r (tt, (tt, tt)) (tt, (tt, tt))) $ says ! refl $
    nothing ! $ nothing ! $ fjoin ! $ nothing ! $ fjoin ! $ join ! $ move ! (1 ∷ 0 ∷ []) $ join ! $ done !))))
