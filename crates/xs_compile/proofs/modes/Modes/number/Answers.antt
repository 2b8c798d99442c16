use Rattle.std.proofs.Common.{◌≡◌, ◌+◌, Some}
use Rattle.std.proofs.lemmas.Result.{IfOk-weaker}
use Rattle.xs_compile.proofs.ModeLemmas.{mode_numbered, mode_there}
use Rattle.xs_compile.specs.Labels.{IsMode}
use Rattle.xs_compile.specs.Modes.{modes_in}
use Rattle.xs_elements.specs.Nodes.{is_same_name, name_data}
use Rattle.xs_compile.proofs.modes.Modes.number.Goals as goal

pub unreachable-requires : goal.unreachable-requires
unreachable-requires c =
    mode_there name_data (is_same_name (name_data c.args.name)) c.args.self.now.names.keys c.requires c.in-None.ensures.index

pub returns : goal.returns
returns c =
    IfOk-weaker c.number_of.result (λ n. n ≡ c.in-Some.place + 1) (IsMode (modes_in c.args.self.now) (Some (name_data c.args.name)))
    (λ n h. mode_numbered name_data (is_same_name (name_data c.args.name)) c.args.self.now.names.keys c.in-Some.place n c.in-Some.ensures.index h)
    c.number_of.ensures
