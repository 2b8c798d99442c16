use Rattle.std.proofs.Common.{◌≡◌, ◌∙◌, ◌==◌, ◌&&◌, ℕ, None, Option, Some, ap, is_none, length, option_map, sym}
use Rattle.std.proofs.lemmas.Result.{on_ok_weaker}
use Rattle.xs_xpath.specs.Exprs.{tree_from}
use Rattle.xs_rules.specs.steps.Index.{Key, has_key, key_data, key_of, may_match, with_place}
use Rattle.xs_rules.specs.steps.Kinds.{allows_kind}
use Rattle.xs_rules.specs.steps.Lists.{named_in, unnamed_in}
use Rattle.xs_rules.proofs.lists.Lists.add.Goals as goal

pub returns-in-Some-clause-named : goal.returns-in-Some-clause-named
returns-in-Some-clause-named c =
    let e = tree_from c.args.alternative.now in
    let own : Some (key_data c.in-Some.key) ≡ key_of c.args.mode e = ap (option_map key_data) (sym c.in-Some.is) ∙ c.key_of.ensures in
    let long : c.len-place.result ≡ length c.args.self.now.entries.items = c.len-place.ensures ∙ c.args.self.now.entries.ok.0 in
    on_ok_weaker c.add_named.result
    (λ f q. f q
    ∙ ap (λ (o : Option Key). with_place (has_key q o) c.len-place.result (named_in c.args.self.now.named q)) own
    ∙ ap (λ (n : ℕ). with_place (has_key q (key_of c.args.mode e)) n (named_in c.args.self.now.named q)) long) c.add_named.ensures

pub returns-in-Some-clause-unnamed : goal.returns-in-Some-clause-unnamed
returns-in-Some-clause-unnamed c =
    let e = tree_from c.args.alternative.now in
    let own : Some (key_data c.in-Some.key) ≡ key_of c.args.mode e = ap (option_map key_data) (sym c.in-Some.is) ∙ c.key_of.ensures in
    on_ok_weaker c.add_named.result
    (λ f m kind. ap (λ (o : Option Key). with_place (is_none o && c.args.mode == m && allows_kind e kind) (length c.args.self.now.entries.items)
    (unnamed_in c.args.self.now.unnamed m kind)) own) c.add_named.ensures

pub returns-in-None-clause-named : goal.returns-in-None-clause-named
returns-in-None-clause-named c =
    let e = tree_from c.args.alternative.now in
    let own : None ≡ key_of c.args.mode e = ap (option_map key_data) (sym c.in-None.is) ∙ c.key_of.ensures in
    on_ok_weaker c.add_unnamed.result
    (λ f q. ap (λ (o : Option Key). with_place (has_key q o) (length c.args.self.now.entries.items) (named_in c.args.self.now.named q)) own)
    c.add_unnamed.ensures

pub returns-in-None-clause-unnamed : goal.returns-in-None-clause-unnamed
returns-in-None-clause-unnamed c =
    let e = tree_from c.args.alternative.now in
    let own : None ≡ key_of c.args.mode e = ap (option_map key_data) (sym c.in-None.is) ∙ c.key_of.ensures in
    let long : c.len-place.result ≡ length c.args.self.now.entries.items = c.len-place.ensures ∙ c.args.self.now.entries.ok.0 in
    on_ok_weaker c.add_unnamed.result
    (λ f m kind. f m kind
    ∙ ap (λ (o : Option Key). with_place (is_none o && c.args.mode == m && allows_kind e kind) c.len-place.result
    (unnamed_in c.args.self.now.unnamed m kind)) own
    ∙ ap (λ (n : ℕ). with_place (may_match m kind c.args.mode e) n (unnamed_in c.args.self.now.unnamed m kind)) long) c.add_unnamed.ensures
