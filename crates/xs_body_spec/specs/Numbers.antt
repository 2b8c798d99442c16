-- The text that `xsl:number` puts (XSLT 1.0, 7.7).
use Rattle.std.specs.Prelude.{ℕ, zero, suc, List, codes, Option, Some, None, option_map, pos, negsuc, Result, Ok, Err}
use Rattle.xs_pattern_spec.specs.Counted.{number_list}
use Rattle.xs_num.specs.Text.{number_in}
use Rattle.xs_num.specs.declared.number.Number.{Number}
use Rattle.xs_num.specs.declared.number.Number.TheVariants.{Whole, NaN}
use Rattle.xs_num.specs.declared.number.NumFault.{NumFault}
use Rattle.xs_numbering.specs.Numbers.{list_text, value_text}
use Rattle.xs_sheet.specs.declared.body.NumberDecl.{NumberDecl}
use Rattle.xs_sheet.specs.declared.scoped.ScopedExpr.{ScopedExpr}
use Rattle.xs_sheet.specs.declared.scoped.ValueTemplate.{ValueTemplate}
use Rattle.xs_trace.specs.Run.{Run, give, ◌>>=◌}
use Rattle.xs_value.specs.declared.value.Value.{Value}
use Rattle.xs_body_spec.specs.declared.focus.Focus.{Focus}
use Rattle.xs_body_spec.specs.World.{World, numeric_run, template_run}

-- the numbers: the one that `value` gives, or else those that are counted for the current node
pub data Numbered : Type 0 where
  given_number : Number → Numbered
  counted : List ℕ → Numbered

abbrev pub numbered_by : World → Option ScopedExpr → NumberDecl → Focus → List Value → Run Numbered
numbered_by w None d f vs = give (counted (number_list w.keys w.tree d f.node))
numbered_by w (Some e) d f vs = do
  number ← numeric_run w e f vs
  give (given_number number)

-- ---- how they are written (7.7.1)
-- the text of a value template, where it is there
abbrev pub optional_run : World → Option ValueTemplate → Focus → List Value → Run (Option (List ℕ))
optional_run w None f vs = give None
optional_run w (Some t) f vs = do
  text ← template_run w t f vs
  give (Some text)

-- the format; where it is absent, `1`
abbrev pub format_run : World → Option ValueTemplate → Focus → List Value → Run (List ℕ)
format_run w None f vs = give (codes "1")
format_run w (Some t) f vs = template_run w t f vs

-- the size of groups: a whole number of at least 1; by any other text no groups are made (this project's own)
abbrev pub size_from : Result Number NumFault → Option ℕ
size_from (Ok (Whole (pos zero))) = None
size_from (Ok (Whole (pos (suc n)))) = Some (suc n)
size_from (Ok (Whole (negsuc n))) = None
size_from (Ok NaN) = None
size_from (Err f) = None

-- the separator and the size of groups; one of them alone has no effect
abbrev pub group_in : (separator size : Option (List ℕ)) → Option (List ℕ × ℕ)
group_in None size = None
group_in (Some separator) None = None
group_in (Some separator) (Some size) = option_map (λ n. (separator, n)) (size_from (number_in size))

pub record Formatting : Type 0 where
  pub format : List ℕ
  pub group : Option (List ℕ × ℕ)

abbrev pub formatting_run : World → NumberDecl → Focus → List Value → Run Formatting
formatting_run w d f vs = do
  format ← format_run w d.format f vs
  separator ← optional_run w d.grouping_separator f vs
  size ← optional_run w d.grouping_size f vs
  give (record { format = format; group = group_in separator size })

abbrev pub written : Numbered → Formatting → List ℕ
written (given_number number) by = value_text by.group by.format number
written (counted list) by = list_text by.group by.format list

-- ---- the text
abbrev pub number_run : World → NumberDecl → Focus → List Value → Run (List ℕ)
number_run w d f vs = do
  numbered ← numbered_by w d.value d f vs
  formatting ← formatting_run w d f vs
  give (written numbered formatting)
