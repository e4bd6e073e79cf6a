use Rattle.scene_svg.proofs.Harmless.{all_harmless}
use Rattle.scene_svg.proofs.laws.is_harmless.Goals as goal

pub returns : goal.returns
returns c = λ text. all_harmless text
