use Rattle.std.proofs.Common.{arith, ◌≡◌, [], refl, ap, sym, ◌∙◌, ◌+◌, None}
use Rattle.history.specs.declared.calls.Call.TheVariants as call
use Rattle.history.specs.declared.replies.Reply.TheVariants as reply
use Rattle.machine_core.specs.Vocabulary.{with_root, closed, first_draft, Table, with_root_in}
use Rattle.machine_core.specs.declared.parts.Parts.{Parts}
use Rattle.machine_core.specs.Seen.{seen}
use Rattle.proof_core.proofs.Bounded.{bounded}
use Rattle.machine_core.proofs.Carried.{first_drafted}
use Rattle.machine_core.proofs.Copied.{close_comes, close_done, handle_small, holds_made}
use Rattle.machine_core.proofs.Rooted.{course_counted}
use Rattle.machine_core.proofs.copying.close.Goals as goal

pub take_away-requires : goal.take_away-requires
take_away-requires c =
    let holds = holds_made c.args.parts.now c.args.parts.now.heap [] c.requires.core (λ r. omega arith) (omega arith) in
    record { holds = record { held = holds.held; room = λ r. omega (arith, holds.room r) } }

pub count_call-requires-clause-begun : goal.count_call-requires-clause-begun
count_call-requires-clause-begun c = let bounds = bounded (seen c.args.parts.now) c.requires.core.run in omega (arith, bounds.begins, bounds.steps)

pub count_call-requires-clause-steps : goal.count_call-requires-clause-steps
count_call-requires-clause-steps c = let bounds = bounded (seen c.args.parts.now) c.requires.core.run in omega (arith, bounds.steps)

pub returns : goal.returns
returns c actor allowed =
    let before = c.args.parts.now in
    let state = seen before in
    let handle = c.args.handle in
    let taken = c.take_away.ensures in
    let middle : Parts = record before { heap = c.take_away.new.heap; table = c.take_away.new.table; handles = c.give_back.new.self } in
    let table : c.count_call.new.parts.table ≡ with_root_in before.table handle None = ap (λ (p : Parts). p.table) c.count_call.ensures ∙ taken.table in
    close_done before c.count_call.new.parts actor (call.Close handle) handle (closed state handle).draft reply.Closed c.requires.core c.requires.rest (omega arith)
    (handle_small state actor (call.Close handle) c.requires.core.run allowed)
    (course_counted (record { base = with_root state handle None; draft = (closed state handle).draft }) middle c.count_call.new.parts (before.begun + 1) (before.steps + 2) c.count_call.ensures
    (record {
      draft = taken.drafts state (first_draft state) (first_drafted before c.requires.core) refl refl;
      roots = ap (λ (t : Table). t.roots) (sym taken.table);
      generations = refl;
    }))
    refl (record {
      limits = ap (λ (p : Parts). p.limits) c.count_call.ensures;
      actors = ap (λ (p : Parts). p.actors.items) c.count_call.ensures;
      table = table ∙ ap (λ rs. record before.table { roots = rs }) (ap (λ (t : Table). t.roots) (sym table));
      handles_are = ap (λ (p : Parts). p.handles) c.count_call.ensures ∙ c.give_back.ensures;
      begun = ap (λ (p : Parts). p.begun) c.count_call.ensures;
      steps = ap (λ (p : Parts). p.steps) c.count_call.ensures;
    }) (ap (λ (p : Parts). p.heap.cursor) c.count_call.ensures ∙ taken.records.0, ap (λ (p : Parts). p.heap.pins) c.count_call.ensures ∙ taken.records.1)
    (close_comes state actor handle c.requires.core.run c.requires.rest allowed c.requires.left)
