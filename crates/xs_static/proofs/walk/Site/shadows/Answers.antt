use Rattle.std.proofs.Common.{◌∙◌, ap, sym, arith, ℕ, List, Option, Bor}
use Rattle.std.specs.Prelude.{option_map}
use Rattle.xs_elements.specs.Nodes.{name_data}
use Rattle.xs_static.proofs.FoundLemmas.{shadows-some}
use Rattle.xs_static.proofs.LocalsLemmas.{in_force-is}
use Rattle.xs_structure.specs.InForce.{in_force_at}
use Rattle.xs_static.specs.steps.Locals.{open_in}
use Rattle.xs_static.proofs.walk.Site.shadows.Goals as goal

pub returns-in-Some : goal.returns-in-Some
returns-in-Some c =
    let rs = c.args.self.now.tree.now in
    let n = c.args.n in
    let l = c.args.locals.now in
    let uri = c.in-Some.uri.now in
    let local = c.in-Some.local.now in
    let visible = in_force-is rs n (open_in l) uri local (in_force_at l.in_force uri local n) c.requires.inside c.requires.passed c.requires.locals.nested
    (c.requires.locals.bound uri local n (omega arith) c.requires.inside) in
    shadows-some rs n (uri, local) c.has.result (ap (λ (o : Option (Bor (List ℕ) × Bor (List ℕ))). option_map name_data o) (sym c.in-Some.is) ∙ c.requires.name)
    (c.has.ensures ∙ ap (λ (k : ℕ). in_force_at l.in_force uri local k) c.place.ensures ∙ visible)
