-- A finder may be shared between threads, since all may that it refers to: a lemma for each type, lowest first.
use denote.Param.Send.{IsSync, sendable}
use denote.Ref.{NamedLft}
use Rattle.std.proofs.Crossing.{crosses}
use Rattle.std.proofs.MapsCrossing.{crosses as maps}
use Rattle.xs_number_tables.specs.contracts.counters.Counters as of_counters
use Rattle.xs_lookup.specs.contracts.finder.SheetFinder as of_finder
use Rattle.xs_keys.specs.contracts.keys.KeyCells as of_keys
use Rattle.xs_rules.specs.contracts.index.RuleIndex as of_rules
use Rattle.xs_sheet.proofs.body.Content.TheLaws.TheKnot.{sync-Binding, sync-Body, sync-Instr}
use Rattle.xs_sheet.specs.contracts.body.Binding as of_binding
use Rattle.xs_sheet.specs.contracts.body.Body as of_body
use Rattle.xs_sheet.specs.contracts.body.Instr as of_instr
use Rattle.xs_sheet.specs.contracts.body.LiteralStart as of_start
use Rattle.xs_sheet.specs.contracts.body.NumberDecl as of_number
use Rattle.xs_sheet.specs.contracts.declarations.Alias as of_alias
use Rattle.xs_sheet.specs.contracts.declarations.AttrSet as of_set
use Rattle.xs_sheet.specs.contracts.declarations.Global as of_global
use Rattle.xs_sheet.specs.contracts.declarations.KeyDecl as of_key
use Rattle.xs_sheet.specs.contracts.declarations.Method as of_method
use Rattle.xs_sheet.specs.contracts.declarations.StripRule as of_strip
use Rattle.xs_sheet.specs.contracts.declarations.Template as of_template
use Rattle.xs_sheet.specs.contracts.scoped.ParsedExpr as of_parsed
use Rattle.xs_sheet.specs.contracts.scoped.ScopedExpr as of_scoped
use Rattle.xs_sheet.specs.contracts.scoped.ScopedPattern as of_pattern
use Rattle.xs_sheet.specs.contracts.scoped.ValueTemplate as of_value
use Rattle.xs_sheet.specs.contracts.sheet.Sheet as of_sheet
use Rattle.xs_trace.specs.contracts.event.Label as of_label
use Rattle.xs_text.proofs.SyncLemmas.{text_sync}
use Rattle.xs_tree.specs.contracts.trees.Tree as of_tree
use Rattle.xs_xpath.proofs.expr.Expr.TheLaws.TheKnot.{sync-Expr}
use Rattle.xs_xpath.specs.contracts.expr.Expr as of_expr

-- the tree, texts and names
pub tree_sync : IsSync of_tree.the_row
tree_sync = search (sendable, crosses, maps) depth 40 fits 20000

pub label_sync : IsSync (of_label.the_field).row
label_sync = search (sendable, crosses, maps) depth 40 fits 20000

-- expressions and patterns
expr_sync : IsSync (of_expr.the_field).row
expr_sync =
    sync-Expr
    (search (sendable, crosses, maps) depth 40 fits 20000)
    (search (sendable, crosses, maps) depth 40 fits 20000)
    (search (sendable, crosses, maps) depth 40 fits 20000)
    (search (sendable, crosses, maps) depth 40 fits 20000)
    (search (sendable, crosses, maps) depth 40 fits 20000)
    (search (sendable, crosses, maps) depth 40 fits 20000)
    (search (sendable, crosses, maps) depth 40 fits 20000)
    (search (sendable, crosses, maps) depth 40 fits 20000)
    (search (sendable, crosses, maps) depth 40 fits 20000)
    (search (sendable, crosses, maps) depth 40 fits 20000)

parsed_sync : IsSync (of_parsed.the_field).row
parsed_sync = search (expr_sync, sendable, crosses, maps) depth 40 fits 20000

scoped_sync : IsSync (of_scoped.the_field).row
scoped_sync = search (parsed_sync, sendable, crosses, maps) depth 40 fits 20000

pattern_sync : IsSync (of_pattern.the_field).row
pattern_sync = search (expr_sync, sendable, crosses, maps) depth 40 fits 20000

value_sync : IsSync (of_value.the_field).row
value_sync = search (expr_sync, sendable, crosses, maps) depth 40 fits 20000

-- instructions
number_sync : IsSync (of_number.the_field).row
number_sync = search (scoped_sync, pattern_sync, value_sync, sendable, crosses, maps) depth 40 fits 20000

start_sync : IsSync (of_start.the_field).row
start_sync = search (label_sync, text_sync, value_sync, sendable, crosses, maps) depth 40 fits 20000

pub body_sync : IsSync (of_body.the_field).row
body_sync =
    sync-Body
    (search (scoped_sync, sendable, crosses, maps) depth 40 fits 20000)
    (search (scoped_sync, value_sync, sendable, crosses, maps) depth 40 fits 20000)
    (search (sendable, crosses, maps) depth 40 fits 20000)
    (search (scoped_sync, value_sync, sendable, crosses, maps) depth 40 fits 20000)
    (search (label_sync, sendable, crosses, maps) depth 40 fits 20000)
    (search (number_sync, sendable, crosses, maps) depth 40 fits 20000)
    (search (text_sync, sendable, crosses, maps) depth 40 fits 20000)
    (search (value_sync, text_sync, sendable, crosses, maps) depth 40 fits 20000)
    (search (value_sync, sendable, crosses, maps) depth 40 fits 20000)
    (search (sendable, crosses, maps) depth 40 fits 20000)
    (search (start_sync, sendable, crosses, maps) depth 40 fits 20000)
    (search (sendable, crosses, maps) depth 40 fits 20000)
    (search (label_sync, sendable, crosses, maps) depth 40 fits 20000)
    (search (sendable, crosses, maps) depth 40 fits 20000)

pub binding_sync : IsSync (of_binding.the_field).row
binding_sync =
    sync-Binding
    (search (scoped_sync, sendable, crosses, maps) depth 40 fits 20000)
    (search (scoped_sync, value_sync, sendable, crosses, maps) depth 40 fits 20000)
    (search (sendable, crosses, maps) depth 40 fits 20000)
    (search (scoped_sync, value_sync, sendable, crosses, maps) depth 40 fits 20000)
    (search (label_sync, sendable, crosses, maps) depth 40 fits 20000)
    (search (number_sync, sendable, crosses, maps) depth 40 fits 20000)
    (search (text_sync, sendable, crosses, maps) depth 40 fits 20000)
    (search (value_sync, text_sync, sendable, crosses, maps) depth 40 fits 20000)
    (search (value_sync, sendable, crosses, maps) depth 40 fits 20000)
    (search (sendable, crosses, maps) depth 40 fits 20000)
    (search (start_sync, sendable, crosses, maps) depth 40 fits 20000)
    (search (sendable, crosses, maps) depth 40 fits 20000)
    (search (label_sync, sendable, crosses, maps) depth 40 fits 20000)
    (search (sendable, crosses, maps) depth 40 fits 20000)

pub instr_sync : IsSync (of_instr.the_field).row
instr_sync =
    sync-Instr
    (search (scoped_sync, sendable, crosses, maps) depth 40 fits 20000)
    (search (scoped_sync, value_sync, sendable, crosses, maps) depth 40 fits 20000)
    (search (sendable, crosses, maps) depth 40 fits 20000)
    (search (scoped_sync, value_sync, sendable, crosses, maps) depth 40 fits 20000)
    (search (label_sync, sendable, crosses, maps) depth 40 fits 20000)
    (search (number_sync, sendable, crosses, maps) depth 40 fits 20000)
    (search (text_sync, sendable, crosses, maps) depth 40 fits 20000)
    (search (value_sync, text_sync, sendable, crosses, maps) depth 40 fits 20000)
    (search (value_sync, sendable, crosses, maps) depth 40 fits 20000)
    (search (sendable, crosses, maps) depth 40 fits 20000)
    (search (start_sync, sendable, crosses, maps) depth 40 fits 20000)
    (search (sendable, crosses, maps) depth 40 fits 20000)
    (search (label_sync, sendable, crosses, maps) depth 40 fits 20000)
    (search (sendable, crosses, maps) depth 40 fits 20000)

-- declarations, and the stylesheet
template_field : IsSync (of_template.the_field).row
template_field = search (body_sync, binding_sync, pattern_sync, sendable, crosses, maps) depth 40 fits 20000

template_sync : IsSync of_template.the_row
template_sync = search (body_sync, binding_sync, pattern_sync, sendable, crosses, maps) depth 40 fits 20000

global_sync : IsSync (of_global.the_field).row
global_sync = search (binding_sync, sendable, crosses, maps) depth 40 fits 20000

key_sync : IsSync (of_key.the_field).row
key_sync = search (label_sync, scoped_sync, pattern_sync, sendable, crosses, maps) depth 40 fits 20000

set_sync : IsSync (of_set.the_field).row
set_sync = search (label_sync, instr_sync, sendable, crosses, maps) depth 40 fits 20000

strip_sync : IsSync (of_strip.the_field).row
strip_sync = search (label_sync, text_sync, sendable, crosses, maps) depth 40 fits 20000

alias_sync : IsSync (of_alias.the_field).row
alias_sync = search (text_sync, sendable, crosses, maps) depth 40 fits 20000

method_sync : IsSync (of_method.the_field).row
method_sync = search (sendable, crosses, maps) depth 40 fits 20000

pub sheet_sync : IsSync of_sheet.the_row
sheet_sync =
    search (template_field, global_sync, key_sync, set_sync, strip_sync, alias_sync, method_sync, text_sync, sendable, crosses, maps) depth 40 fits 20000

number_row : IsSync of_number.the_row
number_row = search (scoped_sync, pattern_sync, value_sync, sendable, crosses, maps) depth 40 fits 20000

-- what a finder finds by
keys_sync : IsSync of_keys.the_row
keys_sync = search (sendable, crosses, maps) depth 40 fits 20000

rules_field : (κ : NamedLft) → IsSync (of_rules.the_field κ).row
rules_field κ = search (template_sync, sendable, crosses, maps) depth 40 fits 20000

counters_field : (κ : NamedLft) → IsSync (of_counters.the_field κ).row
counters_field κ = search (number_row, sendable, crosses, maps) depth 40 fits 20000

pub finder_sync : (κ : NamedLft) → IsSync (of_finder.the_row κ)
finder_sync κ = search (tree_sync, sheet_sync, keys_sync, rules_field, counters_field, sendable) depth 40 fits 20000
