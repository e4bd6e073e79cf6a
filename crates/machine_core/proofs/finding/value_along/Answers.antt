use Rattle.std.proofs.Common.{sym, ◌∙◌, arith}
use Rattle.machine_core.specs.Vocabulary.{hash_of, node_at, logical_main, most_levels, Absent, Has, Below}
use Rattle.proof_core.proofs.Levels.{decides, nothing_left}
use Rattle.machine_core.proofs.finding.value_along.Goals as goal

pub returns-in-Absent : goal.returns-in-Absent
returns-in-Absent c =
    let heap = c.args.parts.now.heap.heap in
    sym (decides (node_at heap) (logical_main heap) (hash_of c.args.parts.now.limits.hash) c.args.key most_levels c.loop-depth.depth c.loop-depth.at
    c.key_hash-hash.result c.flag_of.result c.logical_main-main.result Absent (omega (arith, c.loop-depth-test.true)) c.key_hash-hash.ensures c.flag_of.ensures.flag c.logical_main-main.ensures
    c.in-Absent.ensures)
    ∙ c.loop-depth.invariant

pub returns-in-Has : goal.returns-in-Has
returns-in-Has c =
    let heap = c.args.parts.now.heap.heap in
    sym (decides (node_at heap) (logical_main heap) (hash_of c.args.parts.now.limits.hash) c.args.key most_levels c.loop-depth.depth c.loop-depth.at
    c.key_hash-hash.result c.flag_of.result c.logical_main-main.result (Has c.in-Has.value) (omega (arith, c.loop-depth-test.true)) c.key_hash-hash.ensures c.flag_of.ensures.flag
    c.logical_main-main.ensures c.in-Has.ensures)
    ∙ c.loop-depth.invariant

pub loop-depth-preserved : goal.loop-depth-preserved
loop-depth-preserved c =
    let heap = c.args.parts.now.heap.heap in
    sym (decides (node_at heap) (logical_main heap) (hash_of c.args.parts.now.limits.hash) c.args.key most_levels c.loop-depth.depth c.loop-depth.at
    c.key_hash-hash.result c.flag_of.result c.logical_main-main.result (Below c.in-Below.below) (omega (arith, c.loop-depth-test.true)) c.key_hash-hash.ensures c.flag_of.ensures.flag
    c.logical_main-main.ensures c.in-Below.ensures)
    ∙ c.loop-depth.invariant

pub returns : goal.returns
returns c =
    let heap = c.args.parts.now.heap.heap in
    sym (nothing_left (node_at heap) (logical_main heap) (hash_of c.args.parts.now.limits.hash) c.args.key most_levels c.loop-depth.depth c.loop-depth.at
    (omega (arith, c.loop-depth-test.false)))
    ∙ c.loop-depth.invariant
