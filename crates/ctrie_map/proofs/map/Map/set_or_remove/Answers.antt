use Rattle.ctrie_map.proofs.Updated.{put_given, remove_given}
use Rattle.ctrie_map.proofs.map.Map.set_or_remove.Goals as goal

pub returns-in_ok-put-in-Some-clause-done : goal.returns-in_ok-put-in-Some-clause-done
returns-in_ok-put-in-Some-clause-done c =
    put_given c.args.self.now c.args.handle c.args.key c.in-Some.value c.args.value c.in-Some.is c.put.new.self c.in_ok-put-in-Some.field-0 c.in_ok-put-in-Some.ensures.done

pub returns-in_ok-remove-in-None-clause-done : goal.returns-in_ok-remove-in-None-clause-done
returns-in_ok-remove-in-None-clause-done c =
    remove_given c.args.self.now c.args.handle c.args.key c.args.value c.in-None.is c.remove.new.self c.in_ok-remove-in-None.field-0 c.in_ok-remove-in-None.ensures.done
