use Rattle.std.proofs.Common.{[], Option, ap, ℕ, ◌∙◌}
use Rattle.std.specs.Global.{Vec}
use Rattle.std.specs.Option.{option_map_or}
use Rattle.xs_rules.proofs.places.take_named.Goals as goal

pub returns-in-Some-clause-others : goal.returns-in-Some-clause-others
returns-in-Some-clause-others c = λ q other.
    ap (λ (o : Option (Vec ℕ)). option_map_or (λ (x : Vec ℕ). x.items) o [])
    (c.in-Some.ensures.updates.2 (q.mode, q.kind, record { ref_ptr = (0, 0); now = q.uri }, record { ref_ptr = (0, 0); now = q.local }) other)

pub returns-in-None-clause-others : goal.returns-in-None-clause-others
returns-in-None-clause-others c = λ q other.
    ap (λ (o : Option (Vec ℕ)). option_map_or (λ (x : Vec ℕ). x.items) o [])
    (c.in-None.ensures.updates.2 (q.mode, q.kind, record { ref_ptr = (0, 0); now = q.uri }, record { ref_ptr = (0, 0); now = q.local }) other)

pub returns-in-Some-clause-taken : goal.returns-in-Some-clause-taken
returns-in-Some-clause-taken c = ap (λ (o : Option (Vec ℕ)). option_map_or (λ (x : Vec ℕ). x.items) o []) c.in-Some.ensures.value

pub returns-in-None-clause-taken : goal.returns-in-None-clause-taken
returns-in-None-clause-taken c =
    c.new.ensures.items ∙ ap (λ (o : Option (Vec ℕ)). option_map_or (λ (x : Vec ℕ). x.items) o []) c.in-None.ensures.value
