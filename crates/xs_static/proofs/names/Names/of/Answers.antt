use Rattle.std.proofs.Common.{◌≡◌, ◌∷◌, rules}
use Rattle.std.proofs.lemmas.Grind.{common_steps}
use Rattle.xs_modules.specs.Results.{modules_data}
use Rattle.xs_static.proofs.DeclaredLemmas.{ends_with, first-inside, goes_on, starts}
use Rattle.xs_static.proofs.names.Names.of.Goals as goal

pub loop-place-init : goal.loop-place-init
loop-place-init c =
    starts (modules_data c.args.modules.now) c.args.declared.now c.args.least.now.fault c.new-names.result c.new-names.ensures.globals
    c.new-names.ensures.ranked_globals
    c.new-names.ensures.templates c.new-names.ensures.ranked_templates c.requires.inside

pub declare-requires-clause-inside : goal.declare-requires-clause-inside
declare-requires-clause-inside c =
    let ms = modules_data c.args.modules.now in
    let next : c.loop-place.rest.now ≡ c.in-Some.place.now ∷ c.in-Some.behind.now = first_of (cc, search rules, grind common_steps) in
    first-inside ms c.loop-place.rest.now c.in-Some.behind.now c.in-Some.place.now next c.loop-place.invariant.inside

pub loop-place-preserved : goal.loop-place-preserved
loop-place-preserved c =
    let ms = modules_data c.args.modules.now in
    let next : c.loop-place.rest.now ≡ c.in-Some.place.now ∷ c.in-Some.behind.now = first_of (cc, search rules, grind common_steps) in
    let s = c.loop-place.invariant in
    goes_on ms c.args.declared.now c.args.least.now.fault c.loop-place.least.fault c.declare.new.least.fault c.loop-place.names c.declare.new.self
    c.loop-place.rest.now
    c.in-Some.behind.now c.in-Some.place.now next s (c.in_ok-declare.ensures.names s.done s.declared) (c.in_ok-declare.ensures.faults s.done s.declared)

pub returns-clause-names : goal.returns-clause-names
returns-clause-names c =
    (ends_with (modules_data c.args.modules.now) c.args.declared.now c.args.least.now.fault c.loop-place.least.fault c.loop-place.names c.loop-place.rest.now
    c.in_default.ensures.cases
    c.loop-place.invariant).0

pub returns-clause-faults : goal.returns-clause-faults
returns-clause-faults c =
    (ends_with (modules_data c.args.modules.now) c.args.declared.now c.args.least.now.fault c.loop-place.least.fault c.loop-place.names c.loop-place.rest.now
    c.in_default.ensures.cases
    c.loop-place.invariant).1
