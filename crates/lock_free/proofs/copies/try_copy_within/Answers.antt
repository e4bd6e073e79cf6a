use Rattle.std.proofs.Common.{subst, ◌∙◌}
use Rattle.lock_free.specs.CopySteps.{HasPreparedOrNone, HasTried, OriginalOrNot}
use Rattle.lock_free.specs.RootOffers.{HasOfferedOrMissed, HasOfferedWithin}
use Rattle.lock_free.proofs.CopyTries.{left_copy, spent_stock, spent_stopped, unoffered, unoffered_stock}
use Rattle.lock_free.proofs.CopyTries.{copied_tried, copying_then, kind_then, missed_stock, missed_tried, missed_may}
use Rattle.lock_free.proofs.FreesOn.{let_go_stock}
use Rattle.lock_free.proofs.CopyTries.{copied_copy, copied_runs, parted_tried, ready_then, stock_read, stock_then, stopped_read, to_complete, way_then}
use Rattle.lock_free.proofs.copies.try_copy_within.Goals as goal

pub prepare-requires-clause-stock : goal.prepare-requires-clause-stock
prepare-requires-clause-stock c = stock_read c.args.words.now.table_id.words c.args.actor.now.me.0 c.requires.sound c.args.which c.args.way.handle c.args.opens c.requires.copying c.args.root
    c.requires.at c.in-Some.given
    c.read_original_within.new.actor.me.0 (c.in-Some.ensures {u = tt}).original c.args.stock.now c.requires.stock

pub prepare-requires-clause-copying : goal.prepare-requires-clause-copying
prepare-requires-clause-copying c = copying_then c.args.words.now.table_id.words c.args.actor.now.me.0 c.requires.sound c.args.which c.args.way.handle c.args.opens c.requires.copying
    c.args.root c.requires.at c.in-Some.given
    c.read_original_within.new.actor.me.0 (c.in-Some.ensures {u = tt}).original

pub prepare-requires-clause-ready : goal.prepare-requires-clause-ready
prepare-requires-clause-ready c = ready_then c.args.words.now.table_id.words c.args.actor.now.me.0 c.requires.sound c.args.which c.args.way.handle c.args.opens c.requires.copying c.args.root
    c.requires.at c.in-Some.given
    c.read_original_within.new.actor.me.0 (c.in-Some.ensures {u = tt}).original c.read_original_within.ensures.sound c.class_of-class.result c.class_of-class.ensures

pub returns-in_default-prepare-clause-tried : goal.returns-in_default-prepare-clause-tried
returns-in_default-prepare-clause-tried c =
    stopped_read c.args.words.now.table_id.words c.args.actor.now.me.0 c.requires.sound c.args.which c.args.way.handle c.args.opens c.requires.copying c.args.root c.requires.at
    c.in-Some.given
    c.read_original_within.new.actor.me.0 (c.in-Some.ensures {u = tt}).original c.prepare.new.actor.me.0
    (subst (λ x. HasPreparedOrNone c.read_original_within.new.actor.me.0 c.args.which c.args.opens c.args.way.handle c.args.root x c.prepare.new.actor.me.0) c.in_default-prepare.is
    c.prepare.ensures.prepared)

pub let_made_go-requires-clause-sizes : goal.let_made_go-requires-clause-sizes
let_made_go-requires-clause-sizes c =
    (missed_stock c.args.words.now.table_id.words c.args.actor.now.me.0 c.requires.sound c.args.which c.args.way.handle c.args.opens c.requires.copying c.args.root c.requires.at
    c.in-Some.given
    c.read_original_within.new.actor.me.0 (c.in-Some.ensures {u = tt}).original c.in-Some-prepare.slot c.prepare.new.actor.me.0 (c.in-Some-prepare.ensures {u = tt}).prepared c.prepare.ensures.sound
    c.offer_within.new.actor.me.0
    (subst (λ b. HasOfferedOrMissed c.prepare.new.actor.me.0 c.in-Some-prepare.slot b c.offer_within.new.actor.me.0) c.if-not-stands.true (c.in-Some-offer_within.ensures {u = tt}).offered)
    c.prepare.new.stock c.give_back-made.new.self
    c.prepare.ensures.stock c.give_back-made.ensures.sizes c.give_back-made.ensures.pool c.give_back-made.ensures.made c.give_back-made.ensures.limbo).sizes

pub let_made_go-requires-clause-limbo : goal.let_made_go-requires-clause-limbo
let_made_go-requires-clause-limbo c =
    (missed_stock c.args.words.now.table_id.words c.args.actor.now.me.0 c.requires.sound c.args.which c.args.way.handle c.args.opens c.requires.copying c.args.root c.requires.at
    c.in-Some.given
    c.read_original_within.new.actor.me.0 (c.in-Some.ensures {u = tt}).original c.in-Some-prepare.slot c.prepare.new.actor.me.0 (c.in-Some-prepare.ensures {u = tt}).prepared c.prepare.ensures.sound
    c.offer_within.new.actor.me.0
    (subst (λ b. HasOfferedOrMissed c.prepare.new.actor.me.0 c.in-Some-prepare.slot b c.offer_within.new.actor.me.0) c.if-not-stands.true (c.in-Some-offer_within.ensures {u = tt}).offered)
    c.prepare.new.stock c.give_back-made.new.self
    c.prepare.ensures.stock c.give_back-made.ensures.sizes c.give_back-made.ensures.pool c.give_back-made.ensures.made c.give_back-made.ensures.limbo).limbo

pub let_made_go-requires-clause-may : goal.let_made_go-requires-clause-may
let_made_go-requires-clause-may c =
    missed_may c.args.words.now.table_id.words c.args.actor.now.me.0 c.requires.sound c.args.which c.args.way.handle c.args.opens c.requires.copying c.args.root c.requires.at
    c.in-Some.given
    c.read_original_within.new.actor.me.0 (c.in-Some.ensures {u = tt}).original c.in-Some-prepare.slot c.prepare.new.actor.me.0 (c.in-Some-prepare.ensures {u = tt}).prepared c.prepare.ensures.sound
    c.offer_within.new.actor.me.0
    (subst (λ b. HasOfferedOrMissed c.prepare.new.actor.me.0 c.in-Some-prepare.slot b c.offer_within.new.actor.me.0) c.if-not-stands.true (c.in-Some-offer_within.ensures {u = tt}).offered)
    c.prepare.new.stock c.prepare.ensures.stock c.give_back-made.result.items c.give_back-made.ensures.was

pub returns-then-not-stands-clause-stock : goal.returns-then-not-stands-clause-stock
returns-then-not-stands-clause-stock c =
    let_go_stock c.offer_within.new.actor.me.0 c.let_made_go.new.actor.me.0 c.give_back-made.new.self c.let_made_go.new.stock
    (missed_stock c.args.words.now.table_id.words c.args.actor.now.me.0 c.requires.sound c.args.which c.args.way.handle c.args.opens c.requires.copying c.args.root c.requires.at
    c.in-Some.given
    c.read_original_within.new.actor.me.0 (c.in-Some.ensures {u = tt}).original c.in-Some-prepare.slot c.prepare.new.actor.me.0 (c.in-Some-prepare.ensures {u = tt}).prepared c.prepare.ensures.sound
    c.offer_within.new.actor.me.0
    (subst (λ b. HasOfferedOrMissed c.prepare.new.actor.me.0 c.in-Some-prepare.slot b c.offer_within.new.actor.me.0) c.if-not-stands.true (c.in-Some-offer_within.ensures {u = tt}).offered)
    c.prepare.new.stock c.give_back-made.new.self
    c.prepare.ensures.stock c.give_back-made.ensures.sizes c.give_back-made.ensures.pool c.give_back-made.ensures.made c.give_back-made.ensures.limbo)
    c.let_made_go.ensures.let_go c.let_made_go.ensures.same c.let_made_go.ensures.limbo

pub returns-then-not-stands-clause-tried : goal.returns-then-not-stands-clause-tried
returns-then-not-stands-clause-tried c =
    missed_tried c.args.words.now.table_id.words c.args.actor.now.me.0 c.requires.sound c.args.which c.args.way.handle c.args.opens c.requires.copying c.args.root c.requires.at
    c.in-Some.given
    c.read_original_within.new.actor.me.0 (c.in-Some.ensures {u = tt}).original c.in-Some-prepare.slot c.prepare.new.actor.me.0 (c.in-Some-prepare.ensures {u = tt}).prepared c.prepare.ensures.sound
    c.offer_within.new.actor.me.0
    (subst (λ b. HasOfferedOrMissed c.prepare.new.actor.me.0 c.in-Some-prepare.slot b c.offer_within.new.actor.me.0) c.if-not-stands.true (c.in-Some-offer_within.ensures {u = tt}).offered)
    c.let_made_go.new.actor.me.0 c.let_made_go.ensures.let_go

pub complete_own_within-requires-clause-way : goal.complete_own_within-requires-clause-way
complete_own_within-requires-clause-way c =
    way_then c.args.words.now.table_id.words c.args.actor.now.me.0 c.requires.sound c.args.which c.args.way.handle c.args.opens c.requires.copying c.args.root c.requires.at
    c.in-Some.given
    c.read_original_within.new.actor.me.0 (c.in-Some.ensures {u = tt}).original c.in-Some-prepare.slot c.prepare.new.actor.me.0 (c.in-Some-prepare.ensures {u = tt}).prepared c.prepare.ensures.sound
    c.offer_within.new.actor.me.0
    (subst (λ b. HasOfferedOrMissed c.prepare.new.actor.me.0 c.in-Some-prepare.slot b c.offer_within.new.actor.me.0) c.if-not-stands.false (c.in-Some-offer_within.ensures {u = tt}).offered)
    c.args.way c.requires.way

pub complete_own_within-requires-clause-stock : goal.complete_own_within-requires-clause-stock
complete_own_within-requires-clause-stock c =
    stock_then c.args.words.now.table_id.words c.args.actor.now.me.0 c.requires.sound c.args.which c.args.way.handle c.args.opens c.requires.copying c.args.root c.requires.at
    c.in-Some.given
    c.read_original_within.new.actor.me.0 (c.in-Some.ensures {u = tt}).original c.in-Some-prepare.slot c.prepare.new.actor.me.0 (c.in-Some-prepare.ensures {u = tt}).prepared c.prepare.ensures.sound
    c.offer_within.new.actor.me.0
    (subst (λ b. HasOfferedOrMissed c.prepare.new.actor.me.0 c.in-Some-prepare.slot b c.offer_within.new.actor.me.0) c.if-not-stands.false (c.in-Some-offer_within.ensures {u = tt}).offered)
    c.prepare.new.stock c.note.new.self c.hand_over.new.self c.prepare.ensures.stock
    c.note.ensures.sizes c.note.ensures.noted c.hand_over.ensures.sizes c.hand_over.ensures.pool c.hand_over.ensures.made
    (c.hand_over.ensures.limbo ∙ c.note.ensures.limbo)

pub complete_own_within-requires-clause-standing : goal.complete_own_within-requires-clause-standing
complete_own_within-requires-clause-standing c =
    to_complete c.args.words.now.table_id.words c.args.actor.now.me.0 c.requires.sound c.args.which c.args.way.handle c.args.opens c.requires.copying c.args.root c.requires.at
    c.in-Some.given
    c.read_original_within.new.actor.me.0 (c.in-Some.ensures {u = tt}).original c.in-Some-prepare.slot c.prepare.new.actor.me.0 (c.in-Some-prepare.ensures {u = tt}).prepared c.prepare.ensures.sound
    c.offer_within.new.actor.me.0
    (subst (λ b. HasOfferedOrMissed c.prepare.new.actor.me.0 c.in-Some-prepare.slot b c.offer_within.new.actor.me.0) c.if-not-stands.false (c.in-Some-offer_within.ensures {u = tt}).offered)

pub complete_own_within-requires-clause-which : goal.complete_own_within-requires-clause-which
complete_own_within-requires-clause-which c =
    kind_then c.args.words.now.table_id.words c.args.actor.now.me.0 c.requires.sound c.args.which c.args.way.handle c.args.opens c.requires.copying c.args.root c.requires.at
    c.in-Some.given
    c.read_original_within.new.actor.me.0 (c.in-Some.ensures {u = tt}).original c.in-Some-prepare.slot c.prepare.new.actor.me.0 (c.in-Some-prepare.ensures {u = tt}).prepared c.prepare.ensures.sound
    c.offer_within.new.actor.me.0
    (subst (λ b. HasOfferedOrMissed c.prepare.new.actor.me.0 c.in-Some-prepare.slot b c.offer_within.new.actor.me.0) c.if-not-stands.false (c.in-Some-offer_within.ensures {u = tt}).offered)

pub part_copy-requires-clause-own : goal.part_copy-requires-clause-own
part_copy-requires-clause-own c =
    copied_copy c.args.words.now.table_id.words c.args.actor.now.me.0 c.requires.sound c.args.which c.args.way.handle c.args.opens c.requires.copying c.args.root c.requires.at
    c.in-Some.given c.read_original_within.new.actor.me.0 (c.in-Some.ensures {u = tt}).original c.in-Some-prepare.slot c.prepare.new.actor.me.0 (c.in-Some-prepare.ensures {u = tt}).prepared
    c.prepare.ensures.sound c.offer_within.new.actor.me.0
    (subst (λ b. HasOfferedOrMissed c.prepare.new.actor.me.0 c.in-Some-prepare.slot b c.offer_within.new.actor.me.0) c.if-not-stands.false (c.in-Some-offer_within.ensures {u = tt}).offered)
    c.offer_within.ensures.sound c.in-Ok.carried c.complete_own_within.new.actor.me.0 (c.in-Ok.ensures {u = tt}).copied

pub part_copy-requires-clause-runs : goal.part_copy-requires-clause-runs
part_copy-requires-clause-runs c =
    copied_runs c.args.words.now.table_id.words c.args.actor.now.me.0 c.requires.sound c.args.which c.args.way.handle c.args.opens c.requires.copying c.args.root c.requires.at
    c.in-Some.given c.read_original_within.new.actor.me.0 (c.in-Some.ensures {u = tt}).original c.in-Some-prepare.slot c.prepare.new.actor.me.0 (c.in-Some-prepare.ensures {u = tt}).prepared
    c.prepare.ensures.sound c.offer_within.new.actor.me.0
    (subst (λ b. HasOfferedOrMissed c.prepare.new.actor.me.0 c.in-Some-prepare.slot b c.offer_within.new.actor.me.0) c.if-not-stands.false (c.in-Some-offer_within.ensures {u = tt}).offered)
    c.offer_within.ensures.sound c.in-Ok.carried c.complete_own_within.new.actor.me.0 (c.in-Ok.ensures {u = tt}).copied

pub returns-then-carried-clause-tried : goal.returns-then-carried-clause-tried
returns-then-carried-clause-tried c =
    let tried = copied_tried c.args.words.now.table_id.words c.args.actor.now.me.0 c.requires.sound c.args.which c.args.way.handle c.args.opens c.requires.copying c.args.root c.requires.at
    c.in-Some.given c.read_original_within.new.actor.me.0 (c.in-Some.ensures {u = tt}).original c.in-Some-prepare.slot c.prepare.new.actor.me.0 (c.in-Some-prepare.ensures {u = tt}).prepared
    c.prepare.ensures.sound c.offer_within.new.actor.me.0
    (subst (λ b. HasOfferedOrMissed c.prepare.new.actor.me.0 c.in-Some-prepare.slot b c.offer_within.new.actor.me.0) c.if-not-stands.false (c.in-Some-offer_within.ensures {u = tt}).offered)
    c.offer_within.ensures.sound c.in-Ok.carried c.complete_own_within.new.actor.me.0 (c.in-Ok.ensures {u = tt}).copied in
    subst (λ b. HasTried c.args.actor.now.me.0 b c.part_copy.new.actor.me.0) c.if-carried.true
    (parted_tried c.args.words.now.table_id.words c.args.actor.now.me.0 c.requires.sound c.args.which c.args.way.handle c.args.opens c.requires.copying c.args.root c.requires.at
    c.in-Some.given c.read_original_within.new.actor.me.0 (c.in-Some.ensures {u = tt}).original c.in-Some-prepare.slot c.prepare.new.actor.me.0 (c.in-Some-prepare.ensures {u = tt}).prepared
    c.prepare.ensures.sound c.offer_within.new.actor.me.0
    (subst (λ b. HasOfferedOrMissed c.prepare.new.actor.me.0 c.in-Some-prepare.slot b c.offer_within.new.actor.me.0) c.if-not-stands.false (c.in-Some-offer_within.ensures {u = tt}).offered)
    c.offer_within.ensures.sound c.in-Ok.carried c.complete_own_within.new.actor.me.0 (c.in-Ok.ensures {u = tt}).copied
    c.part_copy.new.actor.me.0 c.part_copy.ensures.moved tried)

pub returns-else-carried-clause-tried : goal.returns-else-carried-clause-tried
returns-else-carried-clause-tried c =
    let tried = copied_tried c.args.words.now.table_id.words c.args.actor.now.me.0 c.requires.sound c.args.which c.args.way.handle c.args.opens c.requires.copying c.args.root c.requires.at
    c.in-Some.given c.read_original_within.new.actor.me.0 (c.in-Some.ensures {u = tt}).original c.in-Some-prepare.slot c.prepare.new.actor.me.0 (c.in-Some-prepare.ensures {u = tt}).prepared
    c.prepare.ensures.sound c.offer_within.new.actor.me.0
    (subst (λ b. HasOfferedOrMissed c.prepare.new.actor.me.0 c.in-Some-prepare.slot b c.offer_within.new.actor.me.0) c.if-not-stands.false (c.in-Some-offer_within.ensures {u = tt}).offered)
    c.offer_within.ensures.sound c.in-Ok.carried c.complete_own_within.new.actor.me.0 (c.in-Ok.ensures {u = tt}).copied in
    subst (λ b. HasTried c.args.actor.now.me.0 b c.part_copy.new.actor.me.0) c.if-carried.false
    (parted_tried c.args.words.now.table_id.words c.args.actor.now.me.0 c.requires.sound c.args.which c.args.way.handle c.args.opens c.requires.copying c.args.root c.requires.at
    c.in-Some.given c.read_original_within.new.actor.me.0 (c.in-Some.ensures {u = tt}).original c.in-Some-prepare.slot c.prepare.new.actor.me.0 (c.in-Some-prepare.ensures {u = tt}).prepared
    c.prepare.ensures.sound c.offer_within.new.actor.me.0
    (subst (λ b. HasOfferedOrMissed c.prepare.new.actor.me.0 c.in-Some-prepare.slot b c.offer_within.new.actor.me.0) c.if-not-stands.false (c.in-Some-offer_within.ensures {u = tt}).offered)
    c.offer_within.ensures.sound c.in-Ok.carried c.complete_own_within.new.actor.me.0 (c.in-Ok.ensures {u = tt}).copied
    c.part_copy.new.actor.me.0 c.part_copy.ensures.moved tried)

pub returns-in_default-clause-stock : goal.returns-in_default-clause-stock
returns-in_default-clause-stock c =
    spent_stock c.args.words.now.table_id.words c.args.actor.now.me.0 c.requires.sound c.args.root c.requires.at c.read_original_within.new.actor.me.0
    (subst (λ r. OriginalOrNot c.args.actor.now.me.0 r c.read_original_within.new.actor.me.0) c.in_default.is c.read_original_within.ensures.original) c.args.stock.now c.requires.stock

pub returns-in_default-clause-tried : goal.returns-in_default-clause-tried
returns-in_default-clause-tried c =
    spent_stopped c.args.words.now.table_id.words c.args.actor.now.me.0 c.requires.sound c.args.root c.requires.at c.read_original_within.new.actor.me.0
    (subst (λ r. OriginalOrNot c.args.actor.now.me.0 r c.read_original_within.new.actor.me.0) c.in_default.is c.read_original_within.ensures.original)

pub returns-in_default-offer_within-clause-stock : goal.returns-in_default-offer_within-clause-stock
returns-in_default-offer_within-clause-stock c =
    unoffered_stock c.args.words.now.table_id.words c.args.actor.now.me.0 c.requires.sound c.args.which c.args.way.handle c.args.opens c.requires.copying c.args.root c.requires.at
    c.in-Some.given c.read_original_within.new.actor.me.0 (c.in-Some.ensures {u = tt}).original c.in-Some-prepare.slot c.prepare.new.actor.me.0 (c.in-Some-prepare.ensures {u = tt}).prepared
    c.prepare.ensures.sound c.offer_within.new.actor.me.0
    (subst (λ r. HasOfferedWithin c.prepare.new.actor.me.0 c.in-Some-prepare.slot r c.offer_within.new.actor.me.0) c.in_default-offer_within.is c.offer_within.ensures.offered) c.prepare.new.stock
    c.prepare.ensures.stock

pub returns-in_default-offer_within-clause-tried : goal.returns-in_default-offer_within-clause-tried
returns-in_default-offer_within-clause-tried c =
    unoffered c.args.words.now.table_id.words c.args.actor.now.me.0 c.requires.sound c.args.which c.args.way.handle c.args.opens c.requires.copying c.args.root c.requires.at
    c.in-Some.given c.read_original_within.new.actor.me.0 (c.in-Some.ensures {u = tt}).original c.in-Some-prepare.slot c.prepare.new.actor.me.0 (c.in-Some-prepare.ensures {u = tt}).prepared
    c.prepare.ensures.sound c.offer_within.new.actor.me.0
    (subst (λ r. HasOfferedWithin c.prepare.new.actor.me.0 c.in-Some-prepare.slot r c.offer_within.new.actor.me.0) c.in_default-offer_within.is c.offer_within.ensures.offered)

pub returns-in-Err-clause-left : goal.returns-in-Err-clause-left
returns-in-Err-clause-left c =
    left_copy c.args.words.now.table_id.words c.args.actor.now.me.0 c.requires.sound c.args.which c.args.way.handle c.args.opens c.requires.copying c.args.root c.requires.at
    c.in-Some.given c.read_original_within.new.actor.me.0 (c.in-Some.ensures {u = tt}).original c.in-Some-prepare.slot c.prepare.new.actor.me.0 (c.in-Some-prepare.ensures {u = tt}).prepared
    c.prepare.ensures.sound c.offer_within.new.actor.me.0
    (subst (λ b. HasOfferedOrMissed c.prepare.new.actor.me.0 c.in-Some-prepare.slot b c.offer_within.new.actor.me.0) c.if-not-stands.false (c.in-Some-offer_within.ensures {u = tt}).offered)
    c.offer_within.ensures.sound c.in-Err.next c.complete_own_within.new.actor.me.0 (c.in-Err.ensures {u = tt}).on
