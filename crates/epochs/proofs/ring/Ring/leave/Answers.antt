use Rattle.std.proofs.Common.{◌≡◌, ◌-◌, ◌<◌, false, ◌++◌, length, set, slice_index, refl, sym, ap, ◌∙◌, subst, arith}
use Rattle.slot_arena.specs.Times.{other_slots}
use Rattle.slot_arena.specs.Tallies.{naming}
use Rattle.epochs.specs.Rings.{Ringed, IsRing, all_of}
use Rattle.epochs.proofs.Turns.{below, before_linked, behind_linked, left_ring}
use Rattle.epochs.proofs.ring.Ring.leave.Goals as goal

pub read-before-requires : goal.read-before-requires
read-before-requires c =
    let some : 0 < naming c.args.slot (c.self.inside.oldest.items ++ c.self.inside.middle.items ++ c.self.inside.present.items) =
    subst (λ (b : Ringed). 0 < naming c.args.slot (all_of b.bags)) (sym c.self.view_is) c.requires in
    let is = c.self.invariant.back_size in
    omega (
      arith,
      below c.self.inside.next.words c.self.inside.back.words c.self.inside.is_in.marks c.self.inside.size c.self.inside.first c.self.inside.second c.self.inside.third
          c.self.inside.len c.self.inside.oldest.items c.self.inside.middle.items c.self.inside.present.items c.self.invariant c.args.slot (slice_index c.self.inside.back.words c.args.slot)
          (slice_index c.self.inside.next.words c.args.slot) some refl refl,
    )

pub read-behind-requires : goal.read-behind-requires
read-behind-requires c =
    let some : 0 < naming c.args.slot (c.self.inside.oldest.items ++ c.self.inside.middle.items ++ c.self.inside.present.items) =
    subst (λ (b : Ringed). 0 < naming c.args.slot (all_of b.bags)) (sym c.self.view_is) c.requires in
    let is = c.self.invariant.next_size in
    omega (
      arith,
      below c.self.inside.next.words c.self.inside.back.words c.self.inside.is_in.marks c.self.inside.size c.self.inside.first c.self.inside.second c.self.inside.third
          c.self.inside.len c.self.inside.oldest.items c.self.inside.middle.items c.self.inside.present.items c.self.invariant c.args.slot (slice_index c.self.inside.back.words c.args.slot)
          (slice_index c.self.inside.next.words c.args.slot) some refl refl,
    )

pub write-requires : goal.write-requires
write-requires c =
    let some : 0 < naming c.args.slot (c.self.inside.oldest.items ++ c.self.inside.middle.items ++ c.self.inside.present.items) =
    subst (λ (b : Ringed). 0 < naming c.args.slot (all_of b.bags)) (sym c.self.view_is) c.requires in
    let is = c.self.invariant.next_size in
    omega (
      arith,
      before_linked c.self.inside.next.words c.self.inside.back.words c.self.inside.is_in.marks c.self.inside.size c.self.inside.first c.self.inside.second c.self.inside.third
          c.self.inside.len c.self.inside.oldest.items c.self.inside.middle.items c.self.inside.present.items c.self.invariant c.args.slot c.read-before.result c.read-behind.result some
          c.read-before.ensures.link c.read-behind.ensures.link,
      ap length c.read-behind.ensures.words,
    )

pub write-requires-2 : goal.write-requires-2
write-requires-2 c =
    let some : 0 < naming c.args.slot (c.self.inside.oldest.items ++ c.self.inside.middle.items ++ c.self.inside.present.items) =
    subst (λ (b : Ringed). 0 < naming c.args.slot (all_of b.bags)) (sym c.self.view_is) c.requires in
    let is = c.self.invariant.back_size in
    omega (
      arith,
      behind_linked c.self.inside.next.words c.self.inside.back.words c.self.inside.is_in.marks c.self.inside.size c.self.inside.first c.self.inside.second c.self.inside.third
          c.self.inside.len c.self.inside.oldest.items c.self.inside.middle.items c.self.inside.present.items c.self.invariant c.args.slot c.read-before.result c.read-behind.result some
          c.read-before.ensures.link c.read-behind.ensures.link,
      ap length c.read-before.ensures.words,
    )

pub write-requires-3 : goal.write-requires-3
write-requires-3 c =
    let some : 0 < naming c.args.slot (c.self.inside.oldest.items ++ c.self.inside.middle.items ++ c.self.inside.present.items) =
    subst (λ (b : Ringed). 0 < naming c.args.slot (all_of b.bags)) (sym c.self.view_is) c.requires in
    let is = c.self.invariant.marks_size in
    omega (
      arith,
      below c.self.inside.next.words c.self.inside.back.words c.self.inside.is_in.marks c.self.inside.size c.self.inside.first c.self.inside.second c.self.inside.third
          c.self.inside.len c.self.inside.oldest.items c.self.inside.middle.items c.self.inside.present.items c.self.invariant c.args.slot c.read-before.result c.read-behind.result some
          c.read-before.ensures.link c.read-behind.ensures.link,
    )

pub invariant_of-self : goal.invariant_of-self
invariant_of-self c =
    let some : 0 < naming c.args.slot (c.self.inside.oldest.items ++ c.self.inside.middle.items ++ c.self.inside.present.items) =
    subst (λ (b : Ringed). 0 < naming c.args.slot (all_of b.bags)) (sym c.self.view_is) c.requires in
    let made = left_ring c.self.inside.next.words c.self.inside.back.words c.self.inside.is_in.marks c.self.inside.size c.self.inside.first c.self.inside.second c.self.inside.third
    c.self.inside.len c.self.inside.oldest.items c.self.inside.middle.items c.self.inside.present.items c.self.invariant c.args.slot c.read-before.result c.read-behind.result some
    c.read-before.ensures.link c.read-behind.ensures.link in
    let next_is : c.write.new.self.words ≡ set c.self.inside.next.words c.read-before.result c.read-behind.result = c.write.ensures.words
    ∙ ap (λ ls. set ls c.read-before.result c.read-behind.result) c.read-behind.ensures.words in
    let back_is : c.write-2.new.self.words ≡ set c.self.inside.back.words c.read-behind.result c.read-before.result = c.write-2.ensures.words
    ∙ ap (λ ls. set ls c.read-behind.result c.read-before.result) c.read-before.ensures.words in
    subst (λ ls. IsRing ls c.write-2.new.self.words c.write-3.new.self.marks c.self.inside.size c.self.inside.first c.self.inside.second c.self.inside.third (c.self.inside.len - 1)
    c.changed-self-inside.result.items c.changed-self-inside-2.result.items c.changed-self-inside-3.result.items) (sym next_is)
    (subst (λ ls. IsRing (set c.self.inside.next.words c.read-before.result c.read-behind.result) ls c.write-3.new.self.marks c.self.inside.size c.self.inside.first c.self.inside.second
    c.self.inside.third (c.self.inside.len - 1) c.changed-self-inside.result.items c.changed-self-inside-2.result.items c.changed-self-inside-3.result.items) (sym back_is)
    (subst (λ ms. IsRing (set c.self.inside.next.words c.read-before.result c.read-behind.result) (set c.self.inside.back.words c.read-behind.result c.read-before.result) ms
    c.self.inside.size c.self.inside.first c.self.inside.second c.self.inside.third (c.self.inside.len - 1) c.changed-self-inside.result.items c.changed-self-inside-2.result.items
    c.changed-self-inside-3.result.items) (sym c.write-3.ensures.marks)
    (subst (λ rs. IsRing (set c.self.inside.next.words c.read-before.result c.read-behind.result) (set c.self.inside.back.words c.read-behind.result c.read-before.result)
    (set c.self.inside.is_in.marks c.args.slot false) c.self.inside.size c.self.inside.first c.self.inside.second c.self.inside.third (c.self.inside.len - 1) rs
    c.changed-self-inside-2.result.items c.changed-self-inside-3.result.items) (sym c.changed-self-inside.ensures)
    (subst (λ rs. IsRing (set c.self.inside.next.words c.read-before.result c.read-behind.result) (set c.self.inside.back.words c.read-behind.result c.read-before.result)
    (set c.self.inside.is_in.marks c.args.slot false) c.self.inside.size c.self.inside.first c.self.inside.second c.self.inside.third (c.self.inside.len - 1)
    (other_slots c.args.slot c.self.inside.oldest.items) rs c.changed-self-inside-3.result.items) (sym c.changed-self-inside-2.ensures)
    (subst (λ rs. IsRing (set c.self.inside.next.words c.read-before.result c.read-behind.result) (set c.self.inside.back.words c.read-behind.result c.read-before.result)
    (set c.self.inside.is_in.marks c.args.slot false) c.self.inside.size c.self.inside.first c.self.inside.second c.self.inside.third (c.self.inside.len - 1)
    (other_slots c.args.slot c.self.inside.oldest.items) (other_slots c.args.slot c.self.inside.middle.items) rs) (sym c.changed-self-inside-3.ensures) made)))))
