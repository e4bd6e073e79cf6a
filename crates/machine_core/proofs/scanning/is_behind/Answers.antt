use Rattle.std.proofs.Common.{◌≡◌, ◌-◌, nat_lt, arith, sym, ap, ap₂, ◌∙◌}
use Rattle.machine_core.specs.Vocabulary.{hash_of, index_in, list_depth, parting, is_behind}
use Rattle.proof_core.proofs.Scanned.{alike_below, apart_below}
use Rattle.machine_core.proofs.scanning.is_behind.Goals as goal

pub returns-then-depth-list_depth : goal.returns-then-depth-list_depth
returns-then-depth-list_depth c =
    let kind = c.args.hashes in
    let last = c.in-Some.last in
    let all : c.list_depth.result - 0 ≡ list_depth kind = omega (arith, c.list_depth.ensures.depth) in
    let there : parting (list_depth kind) (hash_of kind last) (hash_of kind c.args.key) 0 ≡ c.parting-depth.result =
    sym (c.parting-depth.ensures ∙ ap (λ n. parting n c.hash-passed.result c.hash-hash.result 0) all
    ∙ ap₂ (λ a b. parting (list_depth kind) a b 0) c.hash-passed.ensures c.hash-hash.ensures) in
    sym (ap (λ after. is_behind kind after c.args.key) c.in-Some.is
    ∙ alike_below (hash_of kind last) (hash_of kind c.args.key) (nat_lt last c.args.key) (list_depth kind) 0
    (there ∙ c.if-depth-list_depth.true ∙ c.list_depth-2.ensures.depth ∙ omega arith))

pub returns-else-depth-list_depth : goal.returns-else-depth-list_depth
returns-else-depth-list_depth c =
    let kind = c.args.hashes in
    let last = c.in-Some.last in
    let all : c.list_depth.result - 0 ≡ list_depth kind = omega (arith, c.list_depth.ensures.depth) in
    let there : parting (list_depth kind) (hash_of kind last) (hash_of kind c.args.key) 0 ≡ c.parting-depth.result =
    sym (c.parting-depth.ensures ∙ ap (λ n. parting n c.hash-passed.result c.hash-hash.result 0) all
    ∙ ap₂ (λ a b. parting (list_depth kind) a b 0) c.hash-passed.ensures c.hash-hash.ensures) in
    ap₂ nat_lt (c.index_in.ensures.index ∙ ap (λ h. index_in h c.parting-depth.result) c.hash-passed.ensures)
    (c.index_in-else-depth-list_depth.ensures.index ∙ ap (λ h. index_in h c.parting-depth.result) c.hash-hash.ensures)
    ∙ sym (ap (λ after. is_behind kind after c.args.key) c.in-Some.is
    ∙ apart_below (hash_of kind last) (hash_of kind c.args.key) (nat_lt last c.args.key) (list_depth kind) 0 c.parting-depth.result there
    (λ same. c.if-depth-list_depth.false (same ∙ omega (arith, c.list_depth-2.ensures.depth))))
