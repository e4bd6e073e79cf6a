use Rattle.std.proofs.Common.{◌++◌, None, Ok, sym, subst, ◌∙◌}
use Rattle.lock_free.specs.Scans.{HasAdded}
use Rattle.lock_free.specs.SeatCalls.{WasRefused}
use Rattle.history.specs.declared.calls.Call.TheVariants.{Entries}
use Rattle.lock_free.proofs.CallsUnderWay.{few_then}
use Rattle.lock_free.proofs.Scannings.{all_answered, all_told_ending, all_told_left, all_told_same, all_told_stock, listing_at, listing_same, listing_stock, listing_then}
use Rattle.lock_free.proofs.Scannings.{lost_answered, lost_ended, lost_left, lost_may, lost_same, lost_stock, scanning_then}
use Rattle.lock_free.proofs.scans.go_on_within.Goals as goal

pub end-requires-clause-stock : goal.end-requires-clause-stock
end-requires-clause-stock c =
    let n = c.args.words.now.table_id.words in
    let v = c.args.actor.now.me.0 in
    let w = c.add_pairs_within.new.actor.me.0 in
    let l = c.requires.listing in
    let a =
    subst (λ r. HasAdded v c.args.walker.now c.args.pairs.now.items c.args.most (Ok r) w c.add_pairs_within.new.walker c.add_pairs_within.new.pairs.items) c.in-Ok-All.field-0-is
    (c.in-Ok-All.ensures {u = tt}).added in
    all_told_stock n v c.requires.sound c.args.way c.args.walker.now l w (l.told ++ a.part) (a.next l.told l.walking) c.args.stock.now c.requires.stock

pub end-requires-clause-its : goal.end-requires-clause-its
end-requires-clause-its c =
    let n = c.args.words.now.table_id.words in
    let v = c.args.actor.now.me.0 in
    let w = c.add_pairs_within.new.actor.me.0 in
    let l = c.requires.listing in
    let a =
    subst (λ r. HasAdded v c.args.walker.now c.args.pairs.now.items c.args.most (Ok r) w c.add_pairs_within.new.walker c.add_pairs_within.new.pairs.items) c.in-Ok-All.field-0-is
    (c.in-Ok-All.ensures {u = tt}).added in
    let same = all_told_same n v c.requires.sound c.args.way c.args.walker.now l w (l.told ++ a.part) (a.next l.told l.walking) in
    same.actor ∙ c.requires.its

pub end-requires-clause-few : goal.end-requires-clause-few
end-requires-clause-few c =
    let n = c.args.words.now.table_id.words in
    let v = c.args.actor.now.me.0 in
    let w = c.add_pairs_within.new.actor.me.0 in
    let l = c.requires.listing in
    let a =
    subst (λ r. HasAdded v c.args.walker.now c.args.pairs.now.items c.args.most (Ok r) w c.add_pairs_within.new.walker c.add_pairs_within.new.pairs.items) c.in-Ok-All.field-0-is
    (c.in-Ok-All.ensures {u = tt}).added in
    few_then v w (all_told_same n v c.requires.sound c.args.way c.args.walker.now l w (l.told ++ a.part) (a.next l.told l.walking)) c.requires.few

pub end-requires-clause-ending : goal.end-requires-clause-ending
end-requires-clause-ending c =
    let n = c.args.words.now.table_id.words in
    let v = c.args.actor.now.me.0 in
    let w = c.add_pairs_within.new.actor.me.0 in
    let l = c.requires.listing in
    let a =
    subst (λ r. HasAdded v c.args.walker.now c.args.pairs.now.items c.args.most (Ok r) w c.add_pairs_within.new.walker c.add_pairs_within.new.pairs.items) c.in-Ok-All.field-0-is
    (c.in-Ok-All.ensures {u = tt}).added in
    all_told_ending n v c.requires.sound c.args.way c.args.walker.now l w (l.told ++ a.part) (a.next l.told l.walking)

pub refuse-requires-clause-stock : goal.refuse-requires-clause-stock
refuse-requires-clause-stock c =
    let n = c.args.words.now.table_id.words in
    let v = c.args.actor.now.me.0 in
    let w = c.add_pairs_within.new.actor.me.0 in
    let l = c.requires.listing in
    let a = (c.in-Err.ensures {u = tt}).added in
    lost_stock n v c.requires.sound c.args.way c.args.walker.now l w (a.next l.told l.walking) c.args.stock.now c.requires.stock

pub refuse-requires-clause-its : goal.refuse-requires-clause-its
refuse-requires-clause-its c =
    let n = c.args.words.now.table_id.words in
    let v = c.args.actor.now.me.0 in
    let w = c.add_pairs_within.new.actor.me.0 in
    let l = c.requires.listing in
    let a = (c.in-Err.ensures {u = tt}).added in
    let same = lost_same n v c.requires.sound c.args.way c.args.walker.now l w (a.next l.told l.walking) in
    same.actor ∙ c.requires.its

pub refuse-requires-clause-few : goal.refuse-requires-clause-few
refuse-requires-clause-few c =
    let n = c.args.words.now.table_id.words in
    let v = c.args.actor.now.me.0 in
    let w = c.add_pairs_within.new.actor.me.0 in
    let l = c.requires.listing in
    let a = (c.in-Err.ensures {u = tt}).added in
    few_then v w (lost_same n v c.requires.sound c.args.way c.args.walker.now l w (a.next l.told l.walking)) c.requires.few

pub refuse-requires-clause-may : goal.refuse-requires-clause-may
refuse-requires-clause-may c =
    let n = c.args.words.now.table_id.words in
    let v = c.args.actor.now.me.0 in
    let w = c.add_pairs_within.new.actor.me.0 in
    let l = c.requires.listing in
    let a = (c.in-Err.ensures {u = tt}).added in
    lost_may n v c.requires.sound c.args.way c.args.walker.now l w (a.next l.told l.walking)

pub returns-in-Ok-Most-clause-stock : goal.returns-in-Ok-Most-clause-stock
returns-in-Ok-Most-clause-stock c =
    let n = c.args.words.now.table_id.words in
    let v = c.args.actor.now.me.0 in
    let w = c.add_pairs_within.new.actor.me.0 in
    let l = c.requires.listing in
    let a =
    subst (λ r. HasAdded v c.args.walker.now c.args.pairs.now.items c.args.most (Ok r) w c.add_pairs_within.new.walker c.add_pairs_within.new.pairs.items) c.in-Ok-Most.field-0-is
    (c.in-Ok-Most.ensures {u = tt}).added in
    listing_stock n v c.requires.sound c.args.way c.args.walker.now l (l.told ++ a.part) w c.add_pairs_within.new.walker (a.next l.told l.walking) c.args.stock.now c.requires.stock

pub returns-in-Ok-Most-clause-left : goal.returns-in-Ok-Most-clause-left
returns-in-Ok-Most-clause-left c =
    let n = c.args.words.now.table_id.words in
    let v = c.args.actor.now.me.0 in
    let w = c.add_pairs_within.new.actor.me.0 in
    let l = c.requires.listing in
    let a =
    subst (λ r. HasAdded v c.args.walker.now c.args.pairs.now.items c.args.most (Ok r) w c.add_pairs_within.new.walker c.add_pairs_within.new.pairs.items) c.in-Ok-Most.field-0-is
    (c.in-Ok-Most.ensures {u = tt}).added in (
      listing_same n v c.requires.sound c.args.way c.args.walker.now l (l.told ++ a.part) w c.add_pairs_within.new.walker (a.next l.told l.walking),
      listing_then n v c.requires.sound c.args.way c.args.walker.now l (l.told ++ a.part) w c.add_pairs_within.new.walker (a.next l.told l.walking),
    )

pub returns-in-Ok-Most-clause-scanned : goal.returns-in-Ok-Most-clause-scanned
returns-in-Ok-Most-clause-scanned c =
    let n = c.args.words.now.table_id.words in
    let v = c.args.actor.now.me.0 in
    let w = c.add_pairs_within.new.actor.me.0 in
    let a =
    subst (λ r. HasAdded v c.args.walker.now c.args.pairs.now.items c.args.most (Ok r) w c.add_pairs_within.new.walker c.add_pairs_within.new.pairs.items) c.in-Ok-Most.field-0-is
    (c.in-Ok-Most.ensures {u = tt}).added in
    record {
      part = a.part;
      is = a.is;
      few = a.few;
      full = a.full;
      then = λ before handle told s.
          scanning_then before handle told v s (told ++ a.part) w c.add_pairs_within.new.walker
          (a.next told (listing_at n v c.requires.sound c.args.way c.args.walker.now c.requires.listing before handle told s));
    }

pub returns-in-Ok-All-clause-left : goal.returns-in-Ok-All-clause-left
returns-in-Ok-All-clause-left c =
    let n = c.args.words.now.table_id.words in
    let v = c.args.actor.now.me.0 in
    let w = c.add_pairs_within.new.actor.me.0 in
    let l = c.requires.listing in
    let a =
    subst (λ r. HasAdded v c.args.walker.now c.args.pairs.now.items c.args.most (Ok r) w c.add_pairs_within.new.walker c.add_pairs_within.new.pairs.items) c.in-Ok-All.field-0-is
    (c.in-Ok-All.ensures {u = tt}).added in
    all_told_left n v c.requires.sound c.args.way c.args.walker.now l w (l.told ++ a.part) (a.next l.told l.walking) c.end.new.actor.me.0 c.end.ensures.ended

pub returns-in-Ok-All-clause-scanned : goal.returns-in-Ok-All-clause-scanned
returns-in-Ok-All-clause-scanned c =
    let n = c.args.words.now.table_id.words in
    let v = c.args.actor.now.me.0 in
    let w = c.add_pairs_within.new.actor.me.0 in
    let a =
    subst (λ r. HasAdded v c.args.walker.now c.args.pairs.now.items c.args.most (Ok r) w c.add_pairs_within.new.walker c.add_pairs_within.new.pairs.items) c.in-Ok-All.field-0-is
    (c.in-Ok-All.ensures {u = tt}).added in
    record {
      part = a.part;
      is = a.is;
      few = a.few;
      full = a.full;
      then = λ before handle told s.
          all_answered before handle told v s (told ++ a.part) w c.end.new.actor.me.0
          (a.next told (listing_at n v c.requires.sound c.args.way c.args.walker.now c.requires.listing before handle told s)) c.end.ensures.ended;
    }

pub returns-in-Err-clause-left : goal.returns-in-Err-clause-left
returns-in-Err-clause-left c =
    let n = c.args.words.now.table_id.words in
    let v = c.args.actor.now.me.0 in
    let w = c.add_pairs_within.new.actor.me.0 in
    let l = c.requires.listing in
    let a = (c.in-Err.ensures {u = tt}).added in
    lost_left n v c.requires.sound c.args.way c.args.walker.now l w (a.next l.told l.walking) c.refuse.new.actor.me.0 c.refuse.ensures.refused

pub returns-in-Err-clause-scanned : goal.returns-in-Err-clause-scanned
returns-in-Err-clause-scanned c =
    let n = c.args.words.now.table_id.words in
    let v = c.args.actor.now.me.0 in
    let w = c.add_pairs_within.new.actor.me.0 in
    let x = c.refuse.new.actor.me.0 in
    let l = c.requires.listing in
    let a = (c.in-Err.ensures {u = tt}).added in
    record {
      part = a.part;
      is = a.is;
      few = a.few;
      full = a.full;
      then = λ before handle told s.
          subst (λ e. WasRefused before (Entries handle) None e x) (sym c.from.ensures)
          (lost_answered before handle told v s c.in-Err.why x
          (lost_ended n v c.requires.sound c.args.way c.args.walker.now l w (a.next told (listing_at n v c.requires.sound c.args.way c.args.walker.now l before handle told s)) x
          c.refuse.ensures.refused));
    }
