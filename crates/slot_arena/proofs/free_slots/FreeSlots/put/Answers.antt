use Rattle.std.proofs.Common.{◌≡◌, ℕ, List, ◌∷◌, length, set, sym, ap, ◌∙◌, subst, arith}
use Rattle.std.proofs.lemmas.List.{length-set}
use Rattle.slot_arena.specs.Times.{times}
use Rattle.slot_arena.specs.Chains.{Chain, LeadsTo}
use Rattle.slot_arena.proofs.Chains.{chain_put}
use Rattle.slot_arena.proofs.free_slots.FreeSlots.put.Goals as goal

pub invariant_of-self : goal.invariant_of-self
invariant_of-self c =
    let links : List ℕ = c.self.inside.links.words in
    let end : ℕ = c.self.inside.end in
    let slot : ℕ = c.args.slot in
    let slots : List ℕ = c.self.inside.slots.items in
    let size_is : end ≡ c.args.self.now.size = ap (λ (t : Chain). t.size) c.self.view_is in
    let slots_are : slots ≡ c.args.self.now.slots = ap (λ (t : Chain). t.slots) c.self.view_is in
    let first : ℕ = c.read-first.result in
    let made : LeadsTo (set (set links slot first) end slot) end end (slot ∷ slots) =
    subst (λ f. LeadsTo (set (set links slot f) end slot) end end (slot ∷ slots)) (sym c.read-first.ensures.link)
    (chain_put links end slot slots c.self.invariant.0 (omega arith) (omega arith) (ap (times slot) slots_are ∙ c.requires.apart)) in
    let links_are : c.write-2.new.self.words ≡ set (set links slot first) end slot =
    c.write-2.ensures.words ∙ ap (λ ls. set ls end slot) (c.write.ensures.words ∙ ap (λ ls. set ls slot first) c.read-first.ensures.words) in (
      subst (λ ls. LeadsTo ls end end c.with_first-self-inside.result.items) (sym links_are)
          (subst (LeadsTo (set (set links slot first) end slot) end end) (sym c.with_first-self-inside.ensures) made),
      omega (arith, ap length links_are, length-set (set links slot first) end slot, length-set links slot first),
      omega arith,
    )
