use Rattle.std.proofs.Common.{◌∙◌, ◌==◌, ap, Bool, Option, ℕ}
use Rattle.std.specs.Option.{unwrap_or}
use Rattle.std.specs.Prelude.{◌&&◌, if◌then◌else◌}
use Rattle.std.specs.Str.{bytes_eq}
use Rattle.xs_number_tables.specs.steps.Alike.{likeness_in, seen_by}
use Rattle.xs_number_tables.proofs.AlikeLemmas.{and-assoc, set-is}
use Rattle.xs_number_tables.proofs.alike.Seen.set.Goals as goal

pub returns : goal.returns
returns c = λ other l.
    let own = likeness_in c.args.likeness in
    ap (λ (o : Option ℕ). unwrap_or o 0)
    (c.in_ok-insert.ensures.updates.0 (other, (l.0, (record { ref_ptr = (0, 0); now = l.1.0 }, record { ref_ptr = (0, 0); now = l.1.1 }))))
    ∙ set-is ((c.args.group == other) && ((own.0 == l.0) && (bytes_eq own.1.0 l.1.0 && bytes_eq own.1.1 l.1.1))) c.args.count _
    ∙ ap (λ (b : Bool). if (c.args.group == other) && b then c.args.count else seen_by c.args.self.now other l)
    (and-assoc (own.0 == l.0) (bytes_eq own.1.0 l.1.0) (bytes_eq own.1.1 l.1.1))
