use Rattle.std.proofs.Common.{Contains, get_or, sym, ap, subst, ◌∙◌, arith}
use Rattle.std.proofs.lemmas.List.Elements.{Contains-get_or}
use Rattle.trie_words.specs.Codes.{entry_of}
use Rattle.trie_words.specs.declared.entries.Entry.{Entry}
use Rattle.proof_claims.proofs.Lists.{found_in}
use Rattle.lock_free.specs.SeenNames.{slots_of}
use Rattle.lock_free.proofs.Elsewhere.{none_leads}
use Rattle.lock_free.proofs.Pools.{contains_map}
use Rattle.lock_free.proofs.letting_go.leads_to.Goals as goal

pub returns-then-of_half-slot : goal.returns-then-of_half-slot
returns-then-of_half-slot c =
    let hs = c.args.halves.now in
    sym (found_in (slots_of hs) c.args.slot
    (subst (Contains (slots_of hs)) (ap (λ (e : Entry). e.slot) (sym c.of_half.ensures) ∙ c.if-of_half-slot.true)
    (contains_map (λ h. (entry_of h).slot) hs (get_or hs c.loop-n.n 0) (Contains-get_or hs c.loop-n.n 0 c.loop-n-test.true))))

pub returns : goal.returns
returns c =
    let hs = c.args.halves.now in
    let before = c.loop-n.invariant in
    let all = c.loop-n-test.false in
    sym (none_leads hs c.args.slot (λ n low is. before n (omega (arith, low, all)) is))
