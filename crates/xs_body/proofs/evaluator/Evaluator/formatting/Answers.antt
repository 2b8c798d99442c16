use Rattle.std.proofs.Common.{ℕ, List, Option, ap, refl, sym, ◌∙◌}
use Rattle.std.proofs.lemmas.Result.{err_from_is_err_and}
use Rattle.xs_eval_spec.proofs.StepLemmas.{exits, gives, goes_on}
use Rattle.xs_trace.specs.Play.{Goes}
use Rattle.xs_trace.specs.Run.{Run, give, ◌>>=◌}
use Rattle.xs_body_spec.specs.Numbers.{Formatting, format_run, group_in, optional_run}
use Rattle.xs_body.specs.declared.numbers.Formatting as code_formatting
use Rattle.xs_body.specs.steps.Frames.{last}
use Rattle.xs_body.specs.steps.Numbers.{formatting_of}
use Rattle.xs_body.proofs.evaluator.Evaluator.formatting.Goals as goal

-- a formatting by its parts
abbrev by_parts : List ℕ → Option (List ℕ × ℕ) → Formatting
by_parts format group = record { format = format; group = group }

pub returns-in_err-format-clause-reported : goal.returns-in_err-format-clause-reported
returns-in_err-format-clause-reported g c =
    let p = err_from_is_err_and c.from_residual.result c.from_residual.ensures.1 in
    let w = c.args.self.now.world in
    let d = c.args.decl.now in
    let f = c.args.scope.focus in
    let vs = last c.args.scope.seen c.args.self.now.slots in
    let last_part : List ℕ → Option (List ℕ) → Option (List ℕ) → Run Formatting = λ x y z. give (by_parts x (group_in y z)) in
    let next : List ℕ → Option (List ℕ) → Run Formatting = λ x y. optional_run w d.grouping_size f vs >>= last_part x y in
    exits (λ (t : List ℕ). t) (λ (z : code_formatting.Formatting). formatting_of z) c.args.site (format_run w d.format f vs)
    (λ x. optional_run w d.grouping_separator f vs >>= next x) _ (g.T.Tally.state c.args.tally.now) (g.T.Tally.state c.format.new.tally)
    c.from_residual.result _ _ refl p.1 p.2 c.in_err-format.ensures.reported

pub returns-in_err-separator-clause-reported : goal.returns-in_err-separator-clause-reported
returns-in_err-separator-clause-reported g c =
    let p = err_from_is_err_and c.from_residual-in_err-separator.result c.from_residual-in_err-separator.ensures.1 in
    let w = c.args.self.now.world in
    let d = c.args.decl.now in
    let f = c.args.scope.focus in
    let vs = last c.args.scope.seen c.args.self.now.slots in
    let format = c.in_ok-format.format in
    let last_part : List ℕ → Option (List ℕ) → Option (List ℕ) → Run Formatting = λ x y z. give (by_parts x (group_in y z)) in
    let next : List ℕ → Option (List ℕ) → Run Formatting = λ x y. optional_run w d.grouping_size f vs >>= last_part x y in
    exits (λ (t : Option (List ℕ)). t) (λ (z : code_formatting.Formatting). formatting_of z) c.args.site
    (optional_run w d.grouping_separator f vs) (next format) _ (g.T.Tally.state c.format.new.tally) (g.T.Tally.state c.optional.new.tally)
    c.from_residual-in_err-separator.result _ _
    (goes_on c.args.site (format_run w d.format f vs) (λ x. optional_run w d.grouping_separator f vs >>= next x) format
    (g.T.Tally.state c.args.tally.now) (g.T.Tally.state c.format.new.tally) c.in_ok-format.ensures.reported) p.1 p.2 c.in_err-separator.ensures.reported

pub returns-in_err-size-clause-reported : goal.returns-in_err-size-clause-reported
returns-in_err-size-clause-reported g c =
    let p = err_from_is_err_and c.from_residual-in_err-size.result c.from_residual-in_err-size.ensures.1 in
    let w = c.args.self.now.world in
    let d = c.args.decl.now in
    let f = c.args.scope.focus in
    let vs = last c.args.scope.seen c.args.self.now.slots in
    let format = c.in_ok-format.format in
    let separator = c.in_ok-separator.separator in
    let last_part : List ℕ → Option (List ℕ) → Option (List ℕ) → Run Formatting = λ x y z. give (by_parts x (group_in y z)) in
    let next : List ℕ → Option (List ℕ) → Run Formatting = λ x y. optional_run w d.grouping_size f vs >>= last_part x y in
    exits (λ (t : Option (List ℕ)). t) (λ (z : code_formatting.Formatting). formatting_of z) c.args.site (optional_run w d.grouping_size f vs)
    (last_part format separator) _ (g.T.Tally.state c.optional.new.tally) (g.T.Tally.state c.optional-2.new.tally)
    c.from_residual-in_err-size.result _ _
    (goes_on c.args.site (format_run w d.format f vs) (λ x. optional_run w d.grouping_separator f vs >>= next x) format
    (g.T.Tally.state c.args.tally.now) (g.T.Tally.state c.format.new.tally) c.in_ok-format.ensures.reported
    ∙ goes_on c.args.site (optional_run w d.grouping_separator f vs) (next format) separator
    (g.T.Tally.state c.format.new.tally) (g.T.Tally.state c.optional.new.tally) c.in_ok-separator.ensures.reported) p.1 p.2 c.in_err-size.ensures.reported

pub returns-clause-reported : goal.returns-clause-reported
returns-clause-reported g c =
    let w = c.args.self.now.world in
    let d = c.args.decl.now in
    let f = c.args.scope.focus in
    let vs = last c.args.scope.seen c.args.self.now.slots in
    let format = c.in_ok-format.format in
    let separator = c.in_ok-separator.separator in
    let size = c.in_ok-size.size in
    let m = g.T.Tally.state c.optional-2.new.tally in
    let last_part : List ℕ → Option (List ℕ) → Option (List ℕ) → Run Formatting = λ x y z. give (by_parts x (group_in y z)) in
    let next : List ℕ → Option (List ℕ) → Run Formatting = λ x y. optional_run w d.grouping_size f vs >>= last_part x y in
    goes_on c.args.site (format_run w d.format f vs) (λ x. optional_run w d.grouping_separator f vs >>= next x) format
    (g.T.Tally.state c.args.tally.now) (g.T.Tally.state c.format.new.tally) c.in_ok-format.ensures.reported
    ∙ goes_on c.args.site (optional_run w d.grouping_separator f vs) (next format) separator
    (g.T.Tally.state c.format.new.tally) (g.T.Tally.state c.optional.new.tally) c.in_ok-separator.ensures.reported
    ∙ goes_on c.args.site (optional_run w d.grouping_size f vs) (last_part format separator) size
    (g.T.Tally.state c.optional.new.tally) m c.in_ok-size.ensures.reported
    ∙ gives c.args.site (by_parts format (group_in separator size)) m
    ∙ ap (λ (o : Option (List ℕ × ℕ)). Goes (by_parts format o) m) (sym c.group_in-group.ensures)
