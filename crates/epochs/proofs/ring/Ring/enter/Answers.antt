use Rattle.std.proofs.Common.{◌≡◌, ℕ, ◌+◌, true, ◌++◌, length, set, sym, ap, ◌∙◌, subst, arith}
use Rattle.slot_arena.specs.Refs.{slot_of}
use Rattle.slot_arena.specs.Tallies.{naming}
use Rattle.epochs.specs.Rings.{Ringed, IsRing, all_of}
use Rattle.epochs.proofs.Turns.{last_linked, entered_ring}
use Rattle.epochs.proofs.ring.Ring.enter.Goals as goal

pub write-requires : goal.write-requires
write-requires c = let is = c.self.invariant.next_size in
    omega (
      arith,
      last_linked c.self.inside.next.words c.self.inside.back.words c.self.inside.is_in.marks c.self.inside.size c.self.inside.first c.self.inside.second c.self.inside.third
          c.self.inside.len c.self.inside.oldest.items c.self.inside.middle.items c.self.inside.present.items c.self.invariant c.read-last.result c.read-last.ensures.link,
    )

pub invariant_of-self : goal.invariant_of-self
invariant_of-self c =
    let slot_is : c.slot-slot.result ≡ slot_of c.args.at = c.slot-slot.ensures in
    let size = ap (λ (b : Ringed). b.bags.size) c.self.view_is in
    let none : naming (slot_of c.args.at) (c.self.inside.oldest.items ++ c.self.inside.middle.items ++ c.self.inside.present.items) ≡ 0 =
    ap (λ (b : Ringed). naming (slot_of c.args.at) (all_of b.bags)) c.self.view_is ∙ c.requires.apart in
    let last : ℕ = c.read-last.result in
    let made = entered_ring c.self.inside.next.words c.self.inside.back.words c.self.inside.is_in.marks c.self.inside.size c.self.inside.first c.self.inside.second c.self.inside.third
    c.self.inside.len c.self.inside.oldest.items c.self.inside.middle.items c.self.inside.present.items c.self.invariant c.args.at last (omega arith) none c.read-last.ensures.link in
    let next_is : c.write-2.new.self.words ≡ set (set c.self.inside.next.words last (slot_of c.args.at)) (slot_of c.args.at) c.self.inside.first =
    c.write-2.ensures.words ∙ ap (λ ls. set ls c.slot-slot.result c.self.inside.first) c.write.ensures.words ∙ ap (λ s. set (set c.self.inside.next.words last s) s c.self.inside.first) slot_is in
    let back_is : c.write-4.new.self.words ≡ set (set c.self.inside.back.words (slot_of c.args.at) last) c.self.inside.first (slot_of c.args.at) =
    c.write-4.ensures.words ∙ ap (λ ls. set ls c.self.inside.first c.slot-slot.result) (c.write-3.ensures.words ∙ ap (λ ls. set ls c.slot-slot.result last) c.read-last.ensures.words)
    ∙ ap (λ s. set (set c.self.inside.back.words s last) c.self.inside.first s) slot_is in
    let marks_are : c.write-5.new.self.marks ≡ set c.self.inside.is_in.marks (slot_of c.args.at) true = c.write-5.ensures.marks ∙ ap (λ s. set c.self.inside.is_in.marks s true) slot_is in
    subst (λ ls. IsRing ls c.write-4.new.self.words c.write-5.new.self.marks c.self.inside.size c.self.inside.first c.self.inside.second c.self.inside.third (c.self.inside.len + 1)
    c.self.inside.oldest.items c.self.inside.middle.items c.with_last-self-inside.result.items) (sym next_is)
    (subst (λ ls. IsRing (set (set c.self.inside.next.words last (slot_of c.args.at)) (slot_of c.args.at) c.self.inside.first) ls c.write-5.new.self.marks c.self.inside.size
    c.self.inside.first c.self.inside.second c.self.inside.third (c.self.inside.len + 1) c.self.inside.oldest.items c.self.inside.middle.items c.with_last-self-inside.result.items) (sym back_is)
    (subst (λ ms. IsRing (set (set c.self.inside.next.words last (slot_of c.args.at)) (slot_of c.args.at) c.self.inside.first)
    (set (set c.self.inside.back.words (slot_of c.args.at) last) c.self.inside.first (slot_of c.args.at)) ms c.self.inside.size c.self.inside.first c.self.inside.second
    c.self.inside.third (c.self.inside.len + 1) c.self.inside.oldest.items c.self.inside.middle.items c.with_last-self-inside.result.items) (sym marks_are)
    (subst (λ rs. IsRing (set (set c.self.inside.next.words last (slot_of c.args.at)) (slot_of c.args.at) c.self.inside.first)
    (set (set c.self.inside.back.words (slot_of c.args.at) last) c.self.inside.first (slot_of c.args.at)) (set c.self.inside.is_in.marks (slot_of c.args.at) true) c.self.inside.size
    c.self.inside.first c.self.inside.second c.self.inside.third (c.self.inside.len + 1) c.self.inside.oldest.items c.self.inside.middle.items rs) (sym c.with_last-self-inside.ensures) made)))

pub write-requires-3 : goal.write-requires-3
write-requires-3 c = let is = c.self.invariant.back_size in let first_is = c.self.invariant.first_behind in let size = ap (λ (b : Ringed). b.bags.size) c.self.view_is in
    omega (arith, ap length c.read-last.ensures.words, c.slot-slot.ensures)
