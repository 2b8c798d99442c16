use Rattle.std.proofs.Common.{◌≡◌, ◌&&◌, ◌++◌, ◌∷◌, [], ◌∙◌, List, ℕ, ap, cond, filter, map, sym}
use Rattle.std.proofs.lemmas.List.{map-append}
use Rattle.std.proofs.lemmas.Result.{on_ok_weaker}
use Rattle.std.specs.Borrow.{Bor}
use Rattle.std.specs.Str.{bytes_eq}
use Rattle.xs_sheet.specs.declared.declarations.AttrSet.{AttrSet}
use Rattle.xs_trace.specs.Label.{Label}
use Rattle.xs_attribute_sets.specs.Declarations.{has_name}
use Rattle.xs_attribute_sets.specs.Indexed.{grouped, is_of}
use Rattle.xs_attribute_sets.proofs.OrderLemmas.{added}
use Rattle.xs_attribute_sets.proofs.lists.add.Goals as goal

pub returns : goal.returns
returns c =
    let set : AttrSet = c.args.set.now in
    let now : List (Bor AttrSet) → List AttrSet = λ ss. map (λ s. s.now) ss in
    let key : Bor (List ℕ) × Bor (List ℕ) = (c.uri.result, c.local.result) in
    let old : Label → List AttrSet = λ name. grouped c.args.lists.now name in
    let others : Label → List AttrSet = λ name. grouped c.take_list-list.new.lists name in
    let new : Label → List AttrSet = λ name. grouped c.put_list.new.lists name in
    let taken : List (Bor AttrSet) = c.take_list-list.result.items in
    let same : (name : Label) → has_name name set ≡ is_of name key = λ name.
    ap (λ (uri : List ℕ). bytes_eq name.uri uri && bytes_eq name.local set.name.local) (sym c.uri.ensures.text)
    ∙ ap (λ (local : List ℕ). bytes_eq name.uri c.uri.result.now && bytes_eq name.local local) (sym c.local.ensures.text) in
    let put : ((name : Label) → new name ≡ cond (is_of name key) (now c.push.new.self.items) (others name)) → (name : Label) →
    new name ≡ old name ++ filter (has_name name) (set ∷ []) = λ h name.
    added name set (old name) (others name) (now taken) (new name) (is_of name key) (same name) (c.take_list-list.ensures.taken name)
    (c.take_list-list.ensures.others name)
    (h name ∙ ap (λ xs. cond (is_of name key) xs (others name)) (ap now c.in_ok-push.ensures.items ∙ map-append (λ s. s.now) taken (c.args.set ∷ []))) in
    on_ok_weaker c.put_list.result put c.put_list.ensures
