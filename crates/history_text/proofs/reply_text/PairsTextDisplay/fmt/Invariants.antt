use Rattle.std.proofs.Common.{take}
use Rattle.std.specs.Prelude.{map}
use Rattle.std.specs.Fmt.{HasWritten, IsPlainFormatter}
use Rattle.history_text.specs.Texts.{pair_text, behind_spaces}
use Rattle.history_text.proofs.reply_text.PairsTextDisplay.fmt.Given as goal

abbrev pub invariant-loop-pair : goal.invariant-loop-pair
invariant-loop-pair g l =
    IsPlainFormatter l.initial.f → HasWritten g.W.Write.write_str_gives l.initial.f (behind_spaces (map pair_text (take l.pair-index l.pair-items))) l.f
