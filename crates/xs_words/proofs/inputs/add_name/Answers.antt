use Rattle.xs_words.proofs.InputLemmas.{name_added}
use Rattle.xs_words.proofs.inputs.add_name.Goals as goal

pub returns : goal.returns
returns c = name_added c.in_ok-added.added c.args.name c.args.names.now.keys c.insert.new.self.keys c.in_ok-added.ensures.added c.in_ok-added.ensures.keys
