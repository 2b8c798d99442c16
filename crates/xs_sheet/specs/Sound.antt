-- Which compiled stylesheets are sound.
use Rattle.std.specs.Prelude.{◌≡◌, ℕ, ◌+◌, ◌<◌, ◌^◌, ◌&&◌, not, Bool, true, List, [], ◌∷◌, length}
use Rattle.std.specs.List.{list_all}
use Rattle.xs_sheet.specs.declared.body.Binding.{Binding}
use Rattle.xs_sheet.specs.declared.body.Instr.{Instr}
use Rattle.xs_sheet.specs.declared.declarations.AttrSet.{AttrSet}
use Rattle.xs_sheet.specs.declared.declarations.Global.{Global}
use Rattle.xs_sheet.specs.declared.declarations.KeyDecl.{KeyDecl}
use Rattle.xs_sheet.specs.declared.declarations.Template.{Template}
use Rattle.xs_sheet.specs.declared.sheet.Sheet.{Sheet}
use Rattle.xs_sheet.specs.Sets.{is_apart}
use Rattle.xs_sheet.specs.Standing.{Counts, body_stands, content_stands, kind_stands, pattern_is_free, pattern_is_free_if, site_stands}
use Rattle.xs_xpath.specs.Tree.{Tree}
use Rattle.xs_xpath.specs.Uses.{uses_key, uses_variables}

abbrev pub counts_of : Sheet → Counts
counts_of s = record {
  globals = length s.globals;
  templates = length s.templates;
  modules = length s.modules;
  bound = 2 ^ 32;
}

-- the params of a template, each of which sees those before it, and then its body (XSLT 1.0, 5.3 and 11.5)
abbrev pub params_stand : Counts → (locals : ℕ) → List Binding → Bool
params_stand counts locals [] = true
params_stand counts locals (b ∷ bs) =
    site_stands counts b.site && content_stands counts locals b.content && params_stand counts (locals + 1) bs

abbrev pub template_is_sound : Counts → Template → Bool
template_is_sound counts t =
    site_stands counts t.site && pattern_is_free_if t.pattern && params_stand counts 0 t.params
    && body_stands counts (length t.params) t.body

-- a global's content begins with no local binding
abbrev pub global_is_sound : Counts → Global → Bool
global_is_sound counts g = site_stands counts g.binding.site && content_stands counts 0 g.binding.content

-- neither a key's pattern nor its expression holds a variable (XSLT 1.0, 12.2) or calls `key` (this project's own)
abbrev pub holds_no_key : Tree → Bool
holds_no_key e = not (uses_key e)

abbrev pub key_is_sound : Counts → KeyDecl → Bool
key_is_sound counts k =
    site_stands counts k.site && pattern_is_free k.pattern && list_all holds_no_key k.pattern.pattern
    && not (uses_variables k.value.expr) && holds_no_key k.value.expr

-- neither do the attributes of a set begin with a local binding, and no set uses itself (XSLT 1.0, 7.1.4)
abbrev pub attribute_stands : Counts → Instr → Bool
attribute_stands counts i = site_stands counts i.site && kind_stands counts 0 i.kind

abbrev pub set_is_sound : Counts → List AttrSet → AttrSet → Bool
set_is_sound counts all s = site_stands counts s.site && list_all (attribute_stands counts) s.attributes && is_apart all s

-- a compiled stylesheet whose parts refer to what is there
pub record IsSound (s : Sheet) : Type 0 where
  pub templates : list_all (template_is_sound (counts_of s)) s.templates ≡ true
  pub globals : list_all (global_is_sound (counts_of s)) s.globals ≡ true
  pub keys : list_all (key_is_sound (counts_of s)) s.keys ≡ true
  pub sets : list_all (set_is_sound (counts_of s) s.sets) s.sets ≡ true
  pub few_templates : length s.templates < 2 ^ 32
  pub few_globals : length s.globals < 2 ^ 32
  pub few_keys : length s.keys < 2 ^ 32
  pub few_modules : length s.modules < 2 ^ 32
