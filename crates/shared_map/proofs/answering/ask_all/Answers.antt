use Rattle.std.proofs.Common.{Ok, length, refl, sym, ap, subst, ◌∙◌}
use Rattle.history.specs.declared.replies.Reply.TheVariants as reply
use Rattle.shared_map.specs.Answering.{MapAnswers}
use Rattle.shared_map.specs.declared.asks.Answer.TheVariants as answer
use Rattle.shared_map.specs.Asks.{handle_asked, key_in, place_asked, place_of}
use Rattle.shared_map.specs.declared.asks.Ask.TheVariants.{From, First, IsWritable, Restore}
use Rattle.shared_map.proofs.Asked.{writable_told}
use Rattle.shared_map.proofs.Answered.{if_asked, if_called, if_free, if_handles, if_room, no_key, scan_of_one}
use Rattle.shared_map.proofs.answering.ask_all.Goals as goal

pub returns-in-Handles-clause-answered : goal.returns-in-Handles-clause-answered
returns-in-Handles-clause-answered g c =
    subst (λ n. MapAnswers 0 (g.S.Shards.items c.args.shards.now) c.args.request (Ok (answer.Reply (reply.Count n))) (g.S.Shards.items c.args.shards.now)) (sym c.from.ensures)
    (if_handles c.args.first.now (g.S.Shards.items c.args.shards.now) c.args.request c.requires.known c.requires.hash (g.S.Shards.items c.args.shards.now) c.in-Handles.is refl)

pub returns-in-Free-clause-answered : goal.returns-in-Free-clause-answered
returns-in-Free-clause-answered g c =
    if_free c.args.first.now (g.S.Shards.items c.args.shards.now) c.args.request c.requires.known c.requires.hash (g.S.Shards.items c.free_in_all.new.shards)
    c.free_in_all.result c.in-Free.is c.free_in_all.ensures.sum c.free_in_all.ensures.same

pub returns-in-Do-clause-answered : goal.returns-in-Do-clause-answered
returns-in-Do-clause-answered g c =
    subst (λ t. MapAnswers 0 (g.S.Shards.items c.args.shards.now) c.args.request t (g.S.Shards.items c.call_all.new.shards)) (sym c.told_reply.ensures)
    (if_called c.args.first.now (g.S.Shards.items c.args.shards.now) c.args.request c.requires.known c.requires.hash (g.S.Shards.items c.call_all.new.shards) c.in-Do.call
    c.call_all.result c.in-Do.is c.requires.about (c.requires.handle ∙ ap handle_asked c.in-Do.is) c.call_all.ensures.answered)

pub returns-in-From-clause-answered : goal.returns-in-From-clause-answered
returns-in-From-clause-answered g c =
    if_asked c.args.first.now (g.S.Shards.items c.args.shards.now) c.args.request c.requires.known c.requires.hash (g.S.Shards.items c.part_of_all.new.shards)
    (From c.in-From.handle c.in-From.after c.in-From.room) c.part_of_all.result c.in-From.is (c.requires.handle ∙ ap handle_asked c.in-From.is) c.part_of_all.ensures.answered

pub returns-in-First-clause-answered : goal.returns-in-First-clause-answered
returns-in-First-clause-answered g c =
    if_asked c.args.first.now (g.S.Shards.items c.args.shards.now) c.args.request c.requires.known c.requires.hash (g.S.Shards.items c.one_of_all.new.shards)
    (First c.in-First.handle) c.one_of_all.result c.in-First.is (c.requires.handle ∙ ap handle_asked c.in-First.is) c.one_of_all.ensures.answered

pub returns-in-IsWritable-clause-answered : goal.returns-in-IsWritable-clause-answered
returns-in-IsWritable-clause-answered g c =
    subst (λ t. MapAnswers 0 (g.S.Shards.items c.args.shards.now) c.args.request t (g.S.Shards.items c.args.shards.now)) (sym c.told_writable.ensures)
    (if_asked c.args.first.now (g.S.Shards.items c.args.shards.now) c.args.request c.requires.known c.requires.hash (g.S.Shards.items c.args.shards.now)
    (IsWritable c.in-IsWritable.handle) _ c.in-IsWritable.is (c.requires.handle ∙ ap handle_asked c.in-IsWritable.is)
    (writable_told c.args.first.now (g.S.Shards.items c.args.shards.now) c.in-IsWritable.handle))

pub returns-in-Restore-clause-answered : goal.returns-in-Restore-clause-answered
returns-in-Restore-clause-answered g c =
    if_asked c.args.first.now (g.S.Shards.items c.args.shards.now) c.args.request c.requires.known c.requires.hash (g.S.Shards.items c.restore_all.new.shards)
    (Restore c.in-Restore.handle c.in-Restore.copy) c.restore_all.result c.in-Restore.is (c.requires.handle ∙ ap handle_asked c.in-Restore.is) c.restore_all.ensures.answered

pub returns-in-HasRoom-clause-answered : goal.returns-in-HasRoom-clause-answered
returns-in-HasRoom-clause-answered g c =
    if_room c.args.first.now (g.S.Shards.items c.args.shards.now) c.args.request c.requires.known c.requires.hash (g.S.Shards.items c.have_room.new.shards)
    c.in-HasRoom.is c.have_room.result c.have_room.ensures.room c.have_room.ensures.same

pub call_all-requires-clause-about : goal.call_all-requires-clause-about
call_all-requires-clause-about g c =
    let shards = length (g.S.Shards.items c.args.shards.now) in
    no_key (place_of c.args.request.hash shards) (key_in c.in-Do.call) (ap (place_asked c.args.request.hash shards) (sym c.in-Do.is) ∙ c.requires.about)

pub unreachable-requires : goal.unreachable-requires
unreachable-requires g c = scan_of_one c.args.request.hash (length (g.S.Shards.items c.args.shards.now)) _ _ _ _ c.args.request.ask c.in-Scan.is c.requires.about
