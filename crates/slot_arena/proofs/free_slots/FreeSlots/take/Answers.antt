use Rattle.std.proofs.Common.{◌≡◌, ℕ, List, length, set, drop, slice_index, sym, ap, ◌∙◌, subst, arith}
use Rattle.std.proofs.lemmas.List.{length-set}
use Rattle.slot_arena.specs.Chains.{Chain, LeadsTo}
use Rattle.slot_arena.proofs.Chains.{chain_empty, chain_first, chain_taken}
use Rattle.slot_arena.proofs.free_slots.FreeSlots.take.Goals as goal

pub returns-then-first-self-clause-slots : goal.returns-then-first-self-clause-slots
returns-then-first-self-clause-slots c =
    let none = chain_empty c.self.inside.links.words c.self.inside.end c.read-first.result c.self.inside.slots.items c.self.invariant.0 c.read-first.ensures.link c.if-first-self.true in
    (sym (ap (λ (t : Chain). t.slots) c.self.view_is) ∙ none, none)

pub read-next-requires : goal.read-next-requires
read-next-requires c =
    let found = chain_first c.self.inside.links.words c.self.inside.end c.read-first.result c.self.inside.slots.items c.self.invariant.0 c.read-first.ensures.link c.if-first-self.false in
    let below = found.1 in
    let size = c.self.invariant.1 in
    omega (arith, ap length c.read-first.ensures.words)

pub invariant_of-self-2 : goal.invariant_of-self-2
invariant_of-self-2 c =
    let links : List ℕ = c.self.inside.links.words in
    let end : ℕ = c.self.inside.end in
    let first : ℕ = c.read-first.result in
    let rest : List ℕ = drop 1 c.self.inside.slots.items in
    let found = chain_first links end first c.self.inside.slots.items c.self.invariant.0 c.read-first.ensures.link c.if-first-self.false in
    let size = c.self.invariant.1 in
    let few = c.self.invariant.2 in
    let next_is : c.read-next.result ≡ slice_index links first = c.read-next.ensures.link ∙ ap (λ ls. slice_index ls first) c.read-first.ensures.words in
    let links_are : c.write.new.self.words ≡ set links end c.read-next.result =
    c.write.ensures.words ∙ ap (λ ls. set ls end c.read-next.result) (c.read-next.ensures.words ∙ c.read-first.ensures.words) in
    let made : LeadsTo (set links end c.read-next.result) end end rest =
    subst (λ n. LeadsTo (set links end n) end end rest) (sym next_is)
    (chain_taken links end first rest (subst (LeadsTo links end end) found.0 c.self.invariant.0) (omega arith)) in (
      subst (λ ls. LeadsTo ls end end c.rest-self-inside.result.items) (sym links_are) (subst (LeadsTo (set links end c.read-next.result) end end) (sym c.rest-self-inside.ensures) made),
      omega (arith, ap length links_are, length-set links end c.read-next.result),
      few,
    )
