use Rattle.std.proofs.Common.{ℕ, sym, ap, ◌∙◌, subst}
use Rattle.epochs.specs.Beneath.ctrie_base.specs.declared.traces.Trace.{Trace}
use Rattle.epochs.specs.Rings.{Ringed, IsRing}
use Rattle.epochs.proofs.Turns.{turned_ring}
use Rattle.epochs.proofs.ring.Ring.turn.Goals as goal

pub invariant_of-self : goal.invariant_of-self
invariant_of-self c =
    let made = turned_ring c.self.inside.next.words c.self.inside.back.words c.self.inside.is_in.marks c.self.inside.size c.self.inside.first c.self.inside.second c.self.inside.third
    c.self.inside.len c.self.inside.oldest.items c.self.inside.middle.items c.self.inside.present.items c.self.invariant (ap (λ (b : Ringed). b.bags.oldest) c.self.view_is ∙ c.requires) in
    subst (λ rs. IsRing c.self.inside.next.words c.self.inside.back.words c.self.inside.is_in.marks c.self.inside.size c.self.inside.second c.self.inside.third c.self.inside.first
    c.self.inside.len rs c.replace-self-inside.new.dest.items c.replace-present.new.dest.items) (sym (ap (λ (t : Trace ℕ). t.items) c.replace-self-inside.ensures.value))
    (subst (λ rs. IsRing c.self.inside.next.words c.self.inside.back.words c.self.inside.is_in.marks c.self.inside.size c.self.inside.second c.self.inside.third c.self.inside.first
    c.self.inside.len c.self.inside.middle.items rs c.replace-present.new.dest.items) (sym (ap (λ (t : Trace ℕ). t.items) (c.replace-self-inside.ensures.after ∙ c.replace-present.ensures.value)))
    (subst (λ rs. IsRing c.self.inside.next.words c.self.inside.back.words c.self.inside.is_in.marks c.self.inside.size c.self.inside.second c.self.inside.third c.self.inside.first
    c.self.inside.len c.self.inside.middle.items c.self.inside.present.items rs) (sym (ap (λ (t : Trace ℕ). t.items) c.replace-present.ensures.after ∙ c.new.ensures)) made))
