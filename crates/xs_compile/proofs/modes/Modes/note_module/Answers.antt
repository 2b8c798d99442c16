use Rattle.std.proofs.Common.{◌≡◌, ◌∙◌, ap, sym, subst, arith, true, ℕ, List, Option, inl, inr}
use Rattle.xs_compile.proofs.ModeLemmas.{with_modes_more}
use Rattle.xs_compile.specs.Modes.{has_mode, modes_in, tree_mode, with_mode}
use Rattle.xs_elements.specs.Nodes.{Name, name_data}
use Rattle.std.specs.Prelude.{option_map}
use Rattle.xs_tree.proofs.WalkLemmas.{le_or_gt}
use Rattle.xs_compile.proofs.modes.Modes.note_module.Goals as goal

-- the mode of the next node is noted, and those before it are kept
pub loop-place-preserved : goal.loop-place-preserved
loop-place-preserved c =
    let tree = c.args.tree.now in
    let place = c.loop-place.place in
    let named : option_map name_data c.noted_at.result ≡ tree_mode tree place = c.noted_at.ensures ∙ ap (tree_mode tree) c.at.ensures in
    let here : has_mode c.note.new.self (tree_mode tree place) ≡ true =
    ap (λ (n : ℕ). has_mode c.note.new.self (tree_mode tree n)) (sym c.at.ensures)
    ∙ ap (λ (o : Option Name). has_mode c.note.new.self o) (sym c.noted_at.ensures) ∙ c.in_ok-note.ensures.noted in
    record {
      order = c.in_ok-note.ensures.order ∙ ap (with_mode (modes_in c.loop-place.self)) named
          ∙ ap (λ (names : List Name). with_mode names (tree_mode tree place)) c.loop-place.invariant.order
          ∙ sym (with_modes_more (modes_in c.args.self.now) (tree_mode tree) place);
      modes = λ n lt. elim (le_or_gt place n) [
        | inl past ↦ (let same : place ≡ n = omega (arith, past, lt) in subst (λ (k : ℕ). has_mode c.note.new.self (tree_mode tree k) ≡ true) same here)
        | inr before ↦ c.in_ok-note.ensures.kept (tree_mode tree n) (c.loop-place.invariant.modes n before)
      ];
      kept = λ rs count all n lt. c.in_ok-note.ensures.kept (tree_mode rs n) (c.loop-place.invariant.kept rs count all n lt);
    }
