use Rattle.std.proofs.Common.{◌∙◌, ap, sym, ℕ, Option, Some}
use Rattle.std.specs.Prelude.{◌&&◌, if◌then◌else◌}
use Rattle.std.specs.Str.{bytes_eq}
use Rattle.xs_compile.proofs.EntryLemmas.{place_entered, place_kept}
use Rattle.xs_compile.specs.Tables.{place_in}
use Rattle.xs_modules.specs.Results.{modules_data}
use Rattle.xs_structure.specs.Modules.{Place}
use Rattle.xs_compile.proofs.counted.Counted.declare.Goals as goal

pub returns-in_ok-insert : goal.returns-in_ok-insert
returns-in_ok-insert c = λ uri local.
    let u = c.args.name.0.now in
    let l = c.args.name.1.now in
    let entry : ℕ → Option Place = λ k. Some (c.args.number, k) in
    place_entered u l uri local (modules_data c.args.modules.now) (place_in c.args.self.now) (c.args.number, c.args.n) _
    (sym c.has_higher.ensures ∙ c.if-not-has_higher.true)
    (c.in_ok-insert.ensures.updates.0 (record { ref_ptr = (0, 0); now = uri }, record { ref_ptr = (0, 0); now = local })
    ∙ ap (λ (k : ℕ). if bytes_eq u uri && bytes_eq l local then entry k else place_in c.args.self.now uri local) c.place.ensures)

pub returns-else-not-has_higher : goal.returns-else-not-has_higher
returns-else-not-has_higher c = λ uri local.
    place_kept c.args.name.0.now c.args.name.1.now uri local (modules_data c.args.modules.now) (place_in c.args.self.now)
    (c.args.number, c.args.n) (sym c.has_higher.ensures ∙ c.if-not-has_higher.false)
