use Rattle.std.proofs.Common.{◌∙◌, ap, sym, arith, ℕ, List, Option, Bor}
use Rattle.std.specs.Prelude.{option_map}
use Rattle.xs_elements.specs.Nodes.{name_data}
use Rattle.xs_static.proofs.LocalsLemmas.{later-count, no-binding}
use Rattle.xs_static.specs.steps.Locals.{bound_at, open_in}
use Rattle.xs_static.proofs.locals.Locals.note.Goals as goal

pub returns-in-None : goal.returns-in-None
returns-in-None c =
    let rs = c.args.tree.now in
    let n = c.args.n in
    let l = c.args.self.now in
    let none = ap (λ (o : Option (Bor (List ℕ) × Bor (List ℕ))). option_map name_data o) (sym c.in-None.is) ∙ c.requires.name in
    record {
      bound = λ uri local k from inside.
          no-binding rs n k uri local (bound_at l uri local k) none (c.requires.locals.bound uri local k (omega (arith, from)) inside);
      nested = later-count rs (open_in l) n c.requires.locals.nested;
    }
