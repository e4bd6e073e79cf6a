use Rattle.concurrent_map.proofs.Exports.{exports_are_of_the_freeze}
use Rattle.concurrent_map.proofs.laws.exports_are_of_the_freeze.Goals as goal

pub returns : goal.returns
returns c = exports_are_of_the_freeze
