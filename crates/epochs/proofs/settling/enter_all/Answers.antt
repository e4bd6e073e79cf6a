use Rattle.std.proofs.Common.{◌≡◌, ℕ, ◌+◌, ◌<◌, ◌++◌, List, length, take, get_or, ap, ◌∙◌, arith}
use Rattle.slot_arena.specs.declared.refs.Ref.{Ref}
use Rattle.slot_arena.specs.Refs.{slot_of}
use Rattle.slot_arena.specs.Tallies.{naming}
use Rattle.slot_arena.proofs.Times.{once_same}
use Rattle.slot_arena.proofs.Namings.{naming-append, naming_more, naming_part-le}
use Rattle.epochs.specs.Rings.{Bags, all_of}
use Rattle.epochs.proofs.settling.enter_all.Goals as goal

pub enter-requires-clause-within : goal.enter-requires-clause-within
enter-requires-clause-within c =
    let all : List Ref = c.args.fresh.now.refs in
    let i : ℕ = c.loop-index.index in
    let at : Ref = c.get-at.result in
    let within : i < length all = omega (arith, c.len-index-end.ensures, c.loop-index-test.true) in
    let is : at ≡ get_or all i at = c.get-at.ensures.value ∙ ap (λ rs. get_or rs i at) c.loop-index.invariant.refs in
    let bound : slot_of (get_or all i at) < c.args.bags.now.bags.size = c.requires.within i at within in
    omega (arith, ap slot_of is, ap (λ (b : Bags). b.size) c.loop-index.invariant.bags)

pub enter-requires-clause-apart : goal.enter-requires-clause-apart
enter-requires-clause-apart c =
    let all : List Ref = c.args.fresh.now.refs in
    let i : ℕ = c.loop-index.index in
    let at : Ref = c.get-at.result in
    let s : ℕ = slot_of at in
    let within : i < length all = omega (arith, c.len-index-end.ensures, c.loop-index-test.true) in
    let is : at ≡ get_or all i at = c.get-at.ensures.value ∙ ap (λ rs. get_or rs i at) c.loop-index.invariant.refs in
    let was : Bags = c.args.bags.now.bags in
    omega (
      arith,
      ap (λ (b : Bags). naming s (all_of b)) c.loop-index.invariant.bags,
      naming-append s (was.oldest ++ was.middle) (was.present ++ take i all),
      naming-append s (was.oldest ++ was.middle) was.present,
      naming-append s was.present (take i all),
      naming_more s all i at within is,
      once_same s,
      naming_part-le s all (i + 1),
      c.requires.single s,
    )
