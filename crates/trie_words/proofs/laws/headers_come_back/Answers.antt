use Rattle.trie_words.proofs.Parts.{header_back}
use Rattle.trie_words.proofs.laws.headers_come_back.Goals as goal

pub returns : goal.returns
returns c = header_back
