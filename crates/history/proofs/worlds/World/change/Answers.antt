use Rattle.std.proofs.Common.{◌≡◌, ◌∙◌, ℕ, BTreeMap, is_some, None, sym, ap}
use Rattle.std.specs.FinMap as map
use Rattle.std.proofs.lemmas.Result.{IfOk-weaker, on_err_weaker}
use Rattle.ctrie_base.specs.Hashes.{hash_of}
use Rattle.history.specs.Worlds.{HandleMap, HandleState}
use Rattle.history.proofs.EntryMaps.{get_seen, put_seen, put_again}
use Rattle.history.proofs.WorldSteps.{changed_world-there, changed_world-absent, changed_world-none}
use Rattle.history.proofs.worlds.World.change.Goals as goal

pub returns-in_default-clause-answer : goal.returns-in_default-clause-answer
returns-in_default-clause-answer c =
    let w = c.args.self.now in
    let none = get_seen c.self.inside.handles.entries w c.args.handle _ c.self.view_is c.in_default.ensures.value in
    let same : map.from_entries c.get_mut.follows.lender-at-none.entries ≡ w = ap (λ (m : BTreeMap ℕ HandleState). map.from_entries m.entries) c.get_mut.follows.holds-at-none ∙ c.self.view_is in
    ap (λ (m : HandleMap). (None, m)) same ∙ changed_world-absent (hash_of c.args.hash) c.args.call.now w c.args.handle (sym none)

pub returns-clause-answer : goal.returns-clause-answer
returns-clause-answer c =
    let w = c.args.self.now in
    let there = get_seen c.self.inside.handles.entries w c.args.handle _ c.self.view_is c.in-Some.ensures.value in
    let written = (c.get_mut.follows.holds c.change.new.self).3 (ap is_some (sym c.in-Some.ensures.value)) in
    let put = put_seen c.self.inside.handles.entries (c.get_mut.follows.lender c.change.new.self).entries w c.args.handle c.change.new.self c.self.view_is written.0 in
    IfOk-weaker c.change.result _ _ (λ reply same. changed_world-there (hash_of c.args.hash) c.args.call.now w _ c.args.handle c.in-Some.state.now c.change.new.self reply (sym there) put
    same) c.change.ensures.answer

pub returns-clause-none : goal.returns-clause-none
returns-clause-none c = λ none.
    let w = c.args.self.now in
    let there = get_seen c.self.inside.handles.entries w c.args.handle _ c.self.view_is c.in-Some.ensures.value in
    c.change.ensures.none (changed_world-none (hash_of c.args.hash) c.args.call.now w c.args.handle c.in-Some.state.now (sym there) none)

pub returns-clause-err : goal.returns-clause-err
returns-clause-err c =
    let w = c.args.self.now in
    let there = get_seen c.self.inside.handles.entries w c.args.handle _ c.self.view_is c.in-Some.ensures.value in
    let written = (c.get_mut.follows.holds c.change.new.self).3 (ap is_some (sym c.in-Some.ensures.value)) in
    let put = put_seen c.self.inside.handles.entries (c.get_mut.follows.lender c.change.new.self).entries w c.args.handle c.change.new.self c.self.view_is written.0 in
    on_err_weaker c.change.result (λ same. put ∙ ap (λ (s : HandleState). map.insert w c.args.handle s) same ∙ put_again w c.args.handle c.in-Some.state.now (sym there)) c.change.ensures.err
