use Rattle.std.proofs.Common.{◌≡◌, ℕ, ◌+◌, ◌++◌, ◌∷◌, [], List, length, IfSome, refl, sym, ap, ◌∙◌, subst, arith}
use Rattle.std.proofs.lemmas.List.{nil_from_length, length_push}
use Rattle.slot_arena.specs.Refs.{slot_of}
use Rattle.slot_arena.specs.Tallies.{naming}
use Rattle.slot_arena.specs.Heaps.{Heap}
use Rattle.slot_arena.specs.Arenas.{Contents, IsLive, waiting}
use Rattle.epochs.specs.Rings.{Bags, Ringed, all_of}
use Rattle.epochs.specs.Settling.{Listed, bags_after, fresh_after}
use Rattle.epochs.proofs.Sifting.{Sifting, sifting_begun, sifting_ended, sifted_one, naming_now, waiting_same, length-fresh_after}
use Rattle.epochs.proofs.settling.sift.Goals as goal
use Rattle.epochs.proofs.settling.sift.Goals.{in-Some, in_default}

pub loop-init : goal.loop-init
loop-init c = record {
  heap = refl;
  outside = refl;
  left_to_do = omega arith;
  sifting = subst (λ fs. Sifting c.args.arena.now c.args.bags.now.bags c.args.arena.now.noted c.args.bags.now.bags fs) (sym c.requires.empty)
      (sifting_begun c.args.arena.now c.args.bags.now.bags c.requires.lists);
  listed = omega (arith, ap length c.requires.empty);
  room = refl;
  ticks = omega (arith, ap length c.requires.empty);
}

pub sift_one-requires-clause-single : goal.sift_one-requires-clause-single
sift_one-requires-clause-single c =
    let k : ℕ = c.in-Some.slot in
    let rest : List ℕ = c.take_noted.new.self.noted in
    let s : Sifting c.args.arena.now c.args.bags.now.bags (rest ++ k ∷ []) c.loop.bags.bags c.loop.fresh.refs =
    subst (λ ns. Sifting c.args.arena.now c.args.bags.now.bags ns c.loop.bags.bags c.loop.fresh.refs) c.in-Some.ensures.noted.0 c.loop.invariant.sifting in
    omega (arith, naming_now c.args.arena.now c.args.bags.now.bags c.requires.lists rest k c.loop.bags.bags c.loop.fresh.refs s c.in-Some.ensures.noted.1, c.requires.lists.single k)

pub loop-preserved : goal.loop-preserved
loop-preserved c = elim c.match-take_noted.branch [
  | in-Some w ↦
      let a : Contents = c.args.arena.now in
      let b : Bags = c.args.bags.now.bags in
      let k : ℕ = w.in-Some.slot in
      let mid : Contents = c.take_noted.new.self in
      let rest : List ℕ = mid.noted in
      let noted_is = w.in-Some.ensures.noted in
      let s : Sifting a b (rest ++ k ∷ []) c.loop.bags.bags c.loop.fresh.refs = subst (λ ns. Sifting a b ns c.loop.bags.bags c.loop.fresh.refs) noted_is.0 c.loop.invariant.sifting in
      let heap : mid.heap ≡ a.heap = c.take_noted.ensures.heap ∙ c.loop.invariant.heap in
      let outside : mid.outside ≡ a.outside = c.take_noted.ensures.outside ∙ c.loop.invariant.outside in
      let waits : waiting mid k ≡ waiting a k = waiting_same mid a k heap outside in
      let found : IfSome (waiting a k) (λ r. (slot_of r ≡ k) × IsLive a.heap r) =
      subst (λ v. IfSome v (λ r. (slot_of r ≡ k) × IsLive a.heap r)) waits (subst (λ (h : Heap). IfSome (waiting mid k) (λ r. (slot_of r ≡ k) × IsLive h r)) heap w.sift_one.ensures.waits) in
      let next = sifted_one a b c.requires.lists rest k c.loop.bags.bags c.loop.fresh.refs s noted_is.1 (waiting a k) refl found in
      let arena_is : c.match-take_noted.arena ≡ record mid { ticks = mid.ticks + 1 } = w.arena-is ∙ w.sift_one.ensures.arena in
      let bags_are : c.match-take_noted.bags.bags ≡ bags_after (waiting a k) k c.loop.bags.bags =
      ap (λ (r : Ringed). r.bags) w.bags-is ∙ w.sift_one.ensures.bags ∙ ap (λ v. bags_after v k c.loop.bags.bags) waits in
      let fresh_is : c.match-take_noted.fresh.refs ≡ fresh_after (waiting a k) (naming k (all_of c.loop.bags.bags)) c.loop.fresh.refs =
      ap (λ (l : Listed). l.refs) w.fresh-is ∙ w.sift_one.ensures.fresh ∙ ap (λ v. fresh_after v (naming k (all_of c.loop.bags.bags)) c.loop.fresh.refs) waits in
      let notes : c.match-take_noted.arena.noted ≡ rest = ap (λ (x : Contents). x.noted) arena_is in
      record {
        heap = ap (λ (x : Contents). x.heap) arena_is ∙ heap;
        outside = ap (λ (x : Contents). x.outside) arena_is ∙ outside;
        left_to_do = omega (arith, ap length noted_is.0, ap length notes, length_push rest k, c.loop.invariant.left_to_do);
        sifting = subst (λ ns. Sifting a b ns c.match-take_noted.bags.bags c.match-take_noted.fresh.refs) (sym notes)
            (subst (λ bs. Sifting a b rest bs c.match-take_noted.fresh.refs) (sym bags_are) (subst (λ fs. Sifting a b rest (bags_after (waiting a k) k c.loop.bags.bags) fs) (sym fresh_is) next));
        listed = omega (arith, ap length fresh_is, length-fresh_after (waiting a k) (naming k (all_of c.loop.bags.bags)) c.loop.fresh.refs, c.loop.invariant.listed);
        room = ap (λ (l : Listed). l.room) w.fresh-is ∙ w.sift_one.ensures.room ∙ c.loop.invariant.room;
        ticks = omega (
          arith,
          w.sift_one.ensures.ticks,
          c.take_noted.ensures.ticks,
          c.loop.invariant.ticks,
          ap (λ (x : Contents). x.ticks) arena_is,
          ap (λ (r : Ringed). r.ticks) w.bags-is,
          ap (λ (r : Ringed). length (all_of r.bags)) w.bags-is,
          ap (λ (l : Listed). l.ticks) w.fresh-is,
          ap (λ (l : Listed). length l.refs) w.fresh-is,
        );
      }
  | in_default w ↦ absurd (omega (arith, ap length w.in_default.ensures.noted.0, c.loop.invariant.left_to_do, c.loop-test.true, c.noted_len-end.ensures.noted))
]

pub returns-clause-sifted : goal.returns-clause-sifted
returns-clause-sifted c =
    let none : c.loop.arena.noted ≡ [] = nil_from_length c.loop.arena.noted (omega (arith, c.loop.invariant.left_to_do)) in
    sifting_ended c.args.arena.now c.args.bags.now.bags c.requires.lists c.loop.bags.bags c.loop.fresh.refs
    (subst (λ ns. Sifting c.args.arena.now c.args.bags.now.bags ns c.loop.bags.bags c.loop.fresh.refs) none c.loop.invariant.sifting)
