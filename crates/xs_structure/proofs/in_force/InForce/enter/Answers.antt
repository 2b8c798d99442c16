use Rattle.std.proofs.Common.{◌≡◌, ◌∙◌, ap, ℕ, Some}
use Rattle.std.specs.Prelude.{◌&&◌, if◌then◌else◌}
use Rattle.std.specs.Str.{bytes_eq}
use Rattle.xs_structure.proofs.InForceLemmas.{entered}
use Rattle.xs_structure.specs.InForce.{end_of}
use Rattle.xs_structure.proofs.in_force.InForce.enter.Goals as goal

pub returns : goal.returns
returns c = λ uri local place.
    let a = c.args.name.0.now in
    let b = c.args.name.1.now in
    let now = c.in_ok-insert.ensures.updates.0 (record { ref_ptr = (0, 0); now = uri }, record { ref_ptr = (0, 0); now = local }) in
    let later = ap (λ (x : ℕ). if bytes_eq a uri && bytes_eq b local then Some x else end_of c.args.self.now uri local) c.later-end.ensures in
    entered (end_of c.args.self.now) a b uri local c.args.end place _ (now ∙ later)
