use Rattle.machine_model.proofs.Embedding.{each_embeds}
use Rattle.machine_model.proofs.laws.each_embeds.Goals as goal

pub returns : goal.returns
returns c = each_embeds
