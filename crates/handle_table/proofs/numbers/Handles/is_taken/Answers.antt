use Rattle.std.proofs.Common.{ap, sym, ◌∙◌, false}
use Rattle.std.specs.Prelude.{slice_index_or}
use Rattle.handle_table.specs.Numbers.{Numbers}
use Rattle.handle_table.proofs.Bits.{not_less, taken_past}
use Rattle.handle_table.proofs.numbers.Handles.is_taken.Goals as goal

pub returns-else-handle-lt-HANDLE_LIMIT : goal.returns-else-handle-lt-HANDLE_LIMIT
returns-else-handle-lt-HANDLE_LIMIT c =
    not_less c.args.handle c.if-handle-lt-HANDLE_LIMIT.false
    ∙ sym (ap (λ (n : Numbers). slice_index_or n.taken c.args.handle false) (sym c.self.view_is) ∙ taken_past c.self.inside.words.items c.args.handle c.if-handle-lt-HANDLE_LIMIT.false)
