use Rattle.std.proofs.Common.{◌≡◌, ◌∙◌, ◌&&◌, ℕ, Bool, List, Option, Some, ap, sym}
use Rattle.std.proofs.lemmas.Bool.{and_parts}
use Rattle.std.specs.Prelude.{if◌then◌else◌}
use Rattle.std.specs.Borrow.{Bor}
use Rattle.std.specs.HashMap.{get_by}
use Rattle.std.specs.Option.{option_copied}
use Rattle.std.specs.Str.{bytes_eq}
use Rattle.xs_sheet.specs.declared.declarations.StripRule.{StripRule}
use Rattle.xs_rules.specs.Ranks.{or_above}
use Rattle.xs_rules.specs.WhiteSpace.{rank_of}
use Rattle.xs_rules.specs.steps.Strips.{of_name}
use Rattle.xs_rules.proofs.StripIndexLemmas.{bytes-swap, put-found, same-bytes}
use Rattle.xs_rules.proofs.strip_index.add_name.Goals as goal

pub returns : goal.returns
returns c = λ u l.
    let uri : List ℕ = c.args.uri.now in
    let local : List ℕ = c.args.local.now in
    let old : Option (Bor StripRule) = get_by (λ (k : Bor (List ℕ) × Bor (List ℕ)). bytes_eq u k.0.now && bytes_eq l k.1.now) c.args.names.now in
    let new : Option (Bor StripRule) = get_by (λ (k : Bor (List ℕ) × Bor (List ℕ)). bytes_eq u k.0.now && bytes_eq l k.1.now) c.insert.new.self in
    let e : new ≡ (if bytes_eq uri u && bytes_eq local l then Some c.above-best.result else old) =
    c.in_ok-insert.ensures.updates.0 (record { ref_ptr = (0, 0); now = u }, record { ref_ptr = (0, 0); now = l }) in
    let swap : (bytes_eq uri u && bytes_eq local l) ≡ (bytes_eq u uri && bytes_eq l local) =
    ap (λ (b : Bool). b && bytes_eq local l) (bytes-swap uri u) ∙ ap (λ (b : Bool). bytes_eq u uri && b) (bytes-swap local l) in
    ap option_copied e
    ∙ put-found (bytes_eq uri u && bytes_eq local l) (bytes_eq u uri && bytes_eq l local) c.args.rule.now c.above-best.result old
    (of_name c.args.names.now uri local) swap
    (c.above-best.ensures ∙ ap (or_above rank_of c.args.rule.now) c.rule_of_name.ensures)
    (λ same. let p = and_parts (bytes_eq u uri) (bytes_eq l local) same in
    ap (λ (x : List ℕ). of_name c.args.names.now x local) (sym (same-bytes u uri p.0))
    ∙ ap (of_name c.args.names.now u) (sym (same-bytes l local p.1)))
