use Rattle.std.proofs.Common.{◌≡◌, ℕ, List, ◌∷◌, Option, Some, Bor, ◌∙◌, ap, rules}
use Rattle.std.specs.HashMap.{get_by}
use Rattle.std.specs.Prelude.{◌&&◌, if◌then◌else◌}
use Rattle.std.specs.Str.{bytes_eq}
use Rattle.std.proofs.lemmas.Grind.{common_steps}
use Rattle.xs_xpath.proofs.BindLemmas.{slot-more}
use Rattle.xs_xpath.specs.declared.name.Slot.{Slot}
use Rattle.xs_xpath.proofs.bind.Slots.of.Goals as goal

pub loop-name-preserved : goal.loop-name-preserved
loop-name-preserved c = λ uri local.
    let entry = c.in-Some.field-0-0.now in
    let old : Option Slot = get_by {K = Bor (List ℕ) × Bor (List ℕ)} (λ k. bytes_eq uri k.0.now && bytes_eq local k.1.now) c.loop-name.slots in
    let new : Option Slot = get_by {K = Bor (List ℕ) × Bor (List ℕ)} (λ k. bytes_eq uri k.0.now && bytes_eq local k.1.now) c.insert.new.self in
    let e : new ≡ (if bytes_eq c.uri.result.now uri && bytes_eq c.local.result.now local then Some entry.1 else old) =
    c.in_ok-insert.ensures.updates.0 (record { ref_ptr = (0, 0); now = uri }, record { ref_ptr = (0, 0); now = local }) in
    let u : c.uri.result.now ≡ entry.0.uri = cc (c.uri.ensures.text) in
    let v : c.local.result.now ≡ entry.0.local = cc (c.local.ensures.text) in
    let f : new ≡ (if bytes_eq entry.0.uri uri && bytes_eq entry.0.local local then Some entry.1 else old) =
    e ∙ ap (λ x. if bytes_eq x uri && bytes_eq c.local.result.now local then Some entry.1 else old) u
    ∙ ap (λ x. if bytes_eq entry.0.uri uri && bytes_eq x local then Some entry.1 else old) v in
    let r : c.loop-name.rest.now ≡ entry ∷ c.in-Some.behind.now = first_of (cc, search rules, grind common_steps) in
    slot-more _ c.loop-name.rest.now c.in-Some.behind.now entry uri local old new (c.loop-name.invariant uri local) r f
