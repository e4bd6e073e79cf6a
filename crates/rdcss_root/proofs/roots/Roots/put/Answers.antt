use Rattle.std.proofs.Common.{arith, ap, ◌∙◌, ◌<◌, length, slice_set}
use Rattle.rdcss_root.specs.Tables.{Table}
use Rattle.rdcss_root.proofs.Rewriting.{found_held, moved}
use Rattle.rdcss_root.proofs.roots.Roots.put.Goals as goal

pub release_root-requires : goal.release_root-requires
release_root-requires c =
    let within : c.args.handle < length c.args.self.now.roots = omega (arith, c.if-index-len.false, c.len.ensures, ap (λ (t : Table). length t.roots) c.self.view_is) in
    rw c.root-found.ensures (found_held c.args.self.now.roots c.args.handle c.args.root within c.requires.ready c.hold_root.ensures)

pub returns-clause-moves : goal.returns-clause-moves
returns-clause-moves c =
    let within : c.args.handle < length c.args.self.now.roots = omega (arith, c.if-index-len.false, c.len.ensures, ap (λ (t : Table). length t.roots) c.self.view_is) in
    moved
    c.args.self.now.roots
    _
    c.args.handle
    c.args.root
    within
    (c.set_root.ensures ∙ ap (λ (t : Table). slice_set t.roots c.args.handle c.args.root) c.self.view_is)
    c.hold_root.ensures
    (rw c.root-found.ensures at c.release_root.ensures)
