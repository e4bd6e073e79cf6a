use Rattle.std.proofs.Common.{ap, ◌∙◌}
use Rattle.std.proofs.lemmas.List.Elements.{All-nil, All-same}
use Rattle.ctrie_commands.specs.Beneath.script_text.specs.Views.{read}
use Rattle.ctrie_commands.specs.Working.{IsGroup}
use Rattle.ctrie_commands.proofs.Gathering.{moved_on}
use Rattle.ctrie_commands.proofs.Grouping.{joins_group, ends_group, HasNone, has_none, none_more, is_group, is_idle_group, groups_more}
use Rattle.ctrie_commands.proofs.groups.grouped.Goals.{then-not-is_empty+in_ok-push-3, else-not-is_empty}
use Rattle.ctrie_commands.proofs.groups.grouped.Goals as goal

pub loop-seat-preserved-then-is_last : goal.loop-seat-preserved-then-is_last
loop-seat-preserved-then-is_last c =
    let script = read c.args.script.now in
    let so_far = c.loop-seat.invariant in
    let longer = c.in_ok-push.ensures.items in
    let new = c.new-group-then-is_last.ensures.items in
    record {
      so_far = ends_group _ _ _ _ _ _ c.in-Some.seat so_far.so_far longer c.in_ok-push-2.ensures.items new;
      apart = groups_more script _ _ _ so_far.apart (is_group script _ _ c.in-Some.seat so_far.idle longer) c.in_ok-push-2.ensures.items;
      idle = All-same (HasNone script) _ _ new (All-nil (HasNone script));
      left = moved_on _ _ _ _ _ so_far.left c.in-Some.ensures.steps.0;
    }

pub loop-seat-preserved : goal.loop-seat-preserved
loop-seat-preserved c =
    let script = read c.args.script.now in
    let so_far = c.loop-seat.invariant in
    let longer = c.in_ok-push.ensures.items in
    record {
      so_far = joins_group c.loop-seat.groups.items _ _ _ c.in-Some.seat so_far.so_far longer;
      apart = so_far.apart;
      idle = none_more script _ _ c.in-Some.seat so_far.idle (has_none script c.in-Some.seat _ _ c.actor.ensures.number c.if-is_last.false c.has_work-is_last.ensures) longer;
      left = moved_on _ _ _ _ _ so_far.left c.in-Some.ensures.steps.0;
    }

pub returns-clause-apart : goal.returns-clause-apart
returns-clause-apart c =
    let script = read c.args.script.now in
    let so_far = c.loop-seat.invariant in
    elim c.if-not-is_empty.branch [
      | then-not-is_empty+in_ok-push-3 w ↦
          groups_more script _ c.if-not-is_empty.groups.items _ so_far.apart (is_idle_group script _ so_far.idle) (ap (λ v. v.items) w.groups-is ∙ w.in_ok-push-3.ensures.items)
      | else-not-is_empty w ↦ All-same (λ g. IsGroup script g.items) c.if-not-is_empty.groups.items _ (ap (λ v. v.items) w.groups-is) so_far.apart
    ]
