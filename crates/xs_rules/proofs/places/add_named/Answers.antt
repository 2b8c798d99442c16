use Rattle.std.proofs.Common.{◌≡◌, ◌∙◌, ℕ, [], Option, Some, ap, cond}
use Rattle.std.specs.Global.{Vec}
use Rattle.std.specs.Option.{option_map_or}
use Rattle.indexmap.specs.IndexMap.{get_by}
use Rattle.xs_rules.specs.steps.Index.{is_key, key_data}
use Rattle.xs_rules.specs.steps.Lists.{is_key_of, named_in}
use Rattle.xs_rules.proofs.KeyLemmas.{key-same}
use Rattle.xs_rules.proofs.ListLemmas.{named-more}
use Rattle.xs_rules.proofs.places.add_named.Goals as goal

pub returns : goal.returns
returns c = λ q.
    let k = key_data c.args.key in
    let mid : Option (Vec ℕ) = get_by (is_key_of q) c.take_named-places.new.named in
    let e : get_by (is_key_of q) c.insert.new.self ≡ cond (is_key k q) (Some c.push.new.self) mid =
    c.in_ok-insert.ensures.updates.0 (q.mode, q.kind, record { ref_ptr = (0, 0); now = q.uri }, record { ref_ptr = (0, 0); now = q.local }) in
    ap (λ (o : Option (Vec ℕ)). option_map_or (λ (x : Vec ℕ). x.items) o []) e
    ∙ named-more (is_key k q) c.push.new.self mid c.args.place c.take_named-places.result.items (named_in c.args.named.now q) c.in_ok-push.ensures.items
    (λ same. c.take_named-places.ensures.taken ∙ ap (named_in c.args.named.now) (key-same k q same))
    (λ other. c.take_named-places.ensures.others q other)
