-- The slots of the bindings of a sound stylesheet are few enough.
use Rattle.std.proofs.Common.{◌≡◌, ◌∙◌, ℕ, ◌+◌, ◌<◌, ◌^◌, ◌&&◌, Bool, true, false, length, sym, ap, subst, arith}
use Rattle.std.proofs.lemmas.Bool.{ltb-true}
use Rattle.std.proofs.lemmas.List.Elements.{All-weaker}
use Rattle.std.proofs.lemmas.List.Sums.{AllPass-from_list_all}
use Rattle.xs_sheet.specs.declared.body.Body.{Body, Body', Row_of-Instr, end_of-Instr, more_of-Instr, items-the_row-Instr, items_shown-the_row-Instr-0, outs-Body'}
use Rattle.xs_sheet.specs.declared.declarations.Template.{Template}
use Rattle.xs_sheet.specs.Laws.{TemplatesHaveSlots}
use Rattle.xs_sheet.specs.Slots.{slot_count, slots_in, slots_taken}
use Rattle.xs_sheet.specs.Sound.{counts_of, params_stand, template_is_sound}
use Rattle.xs_sheet.specs.Standing.{Counts, body_stands, instrs_stand, kind_stands, pattern_is_free_if, site_stands}

third : (a b c : Bool) → (a && b && c) ≡ true → c ≡ true
third true true c e = e
third true false c e = absurd (cc)
third false b c e = absurd (cc)

fourth : (a b c d : Bool) → (a && b && c && d) ≡ true → d ≡ true
fourth true true true d e = e
fourth true true false d e = absurd (cc)
fourth true false c d e = absurd (cc)
fourth false b c d e = absurd (cc)

-- where the instructions stand, their variables have slots below the bound
row_few : (counts : Counts) (locals : ℕ) {m : _} (row : Row_of-Instr m) → instrs_stand counts locals row ≡ true
    → locals + slots_in (items-the_row-Instr m row) < counts.bound
row_few counts locals end_of-Instr e = let l = ltb-true locals counts.bound e in omega arith
row_few counts locals (more_of-Instr site kind rest) e =
    let l = row_few counts (locals + slots_taken kind) rest
    (third (site_stands counts site) (kind_stands counts locals kind) (instrs_stand counts (locals + slots_taken kind) rest) e) in
    omega arith

pub body_few : (counts : Counts) (locals : ℕ) (body : Body) → body_stands counts locals body ≡ true → locals + slot_count body < counts.bound
body_few counts locals (Body' n row) e =
    subst (λ k. locals + k < counts.bound)
    (sym (ap (λ b. slots_in b.instrs) (outs-Body' n row) ∙ ap slots_in (items_shown-the_row-Instr-0 n row)))
    (row_few counts locals row e)

pub templates_have_slots : TemplatesHaveSlots
templates_have_slots s sound =
    All-weaker (λ (t : Template). template_is_sound (counts_of s) t ≡ true) (λ (t : Template). length t.params + slot_count t.body < 2 ^ 32)
    (λ t e. body_few (counts_of s) (length t.params) t.body
    (fourth (site_stands (counts_of s) t.site) (pattern_is_free_if t.pattern) (params_stand (counts_of s) 0 t.params)
    (body_stands (counts_of s) (length t.params) t.body) e))
    s.templates (AllPass-from_list_all (template_is_sound (counts_of s)) s.templates sound.templates)
