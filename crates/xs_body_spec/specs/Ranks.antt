-- The tree of tasks ends: a rank that falls from a task to those that it leaves.
use Rattle.std.specs.Prelude.{ℕ, zero, suc, ◌+◌, List, [], ◌∷◌}
use Rattle.xs_sheet.specs.declared.body.Body.{Body, Body', Row_of-Instr, end_of-Instr, more_of-Instr}
use Rattle.xs_sheet.specs.declared.body.Choice.{Choice, Choice', Row_of-When, end_of-When, more_of-When}
use Rattle.xs_sheet.specs.declared.body.Fallbacks.{Fallbacks, Fallbacks', Row_of-Body, end_of-Body, more_of-Body}
use Rattle.xs_sheet.specs.declared.body.Instr.{Instr}
use Rattle.xs_sheet.specs.declared.body.InstrKind.{InstrKind, Variable'}
use Rattle.xs_sheet.specs.declared.body.InstrKind.TheVariants.{ApplyTemplates, CallTemplate, ApplyImports, ForEach, ValueOf, CopyOf, Copy, Number, Choose, If}
use Rattle.xs_sheet.specs.declared.body.InstrKind.TheVariants.{Text, Element, Attribute, Comment, Pi, Message, Literal, Extension}
use Rattle.xs_sheet.specs.declared.body.When.{When'}
use Rattle.xs_sheet.specs.declared.declarations.AttrSet.{AttrSet}
use Rattle.xs_sheet.specs.declared.declarations.Template.{Template}
use Rattle.xs_sheet.specs.declared.sheet.Sheet.{Sheet}
use Rattle.xs_trace.specs.Mark.{Tick, Put, Say, Stop, Need, Hole, Trace}
use Rattle.xs_body_spec.specs.World.{World, all_set_levels}
use Rattle.xs_body_spec.specs.Tasks.{Job, body_job, rules_job, Task}

-- how many instructions in a body may leave tasks; captured content leaves none
abbrev mutual
  pub body_size : Body → ℕ
  body_size (Body' n row) = row_size row

  pub row_size : {m : _} → Row_of-Instr m → ℕ
  row_size end_of-Instr = 0
  row_size (more_of-Instr p kind rest) = kind_size kind + row_size rest

  pub kind_size : InstrKind → ℕ
  kind_size (ApplyTemplates nodes passed) = 1
  kind_size (CallTemplate template passed) = 0
  kind_size ApplyImports = 0
  kind_size (ForEach select sorts body) = suc (body_size body)
  kind_size (ValueOf select) = 0
  kind_size (CopyOf select) = 0
  kind_size (Copy sets body) = body_size body
  kind_size (Number decl) = 0
  kind_size (Choose choice) = choice_size choice
  kind_size (If test body) = body_size body
  kind_size (Text text) = 0
  kind_size (Element name sets body) = body_size body
  kind_size (Attribute name body) = 0
  kind_size (Comment body) = 0
  kind_size (Pi name body) = 0
  kind_size (Message terminate body) = 0
  kind_size (Variable' site name content) = 0
  kind_size (Literal start body) = body_size body
  kind_size (Extension fallbacks) = fallbacks_size fallbacks

  pub choice_size : Choice → ℕ
  choice_size (Choice' n row otherwise) = whens_size row + body_size otherwise

  pub whens_size : {m : _} → Row_of-When m → ℕ
  whens_size end_of-When = 0
  whens_size (more_of-When (When' test body) rest) = body_size body + whens_size rest

  pub fallbacks_size : Fallbacks → ℕ
  fallbacks_size (Fallbacks' n row) = bodies_size row

  pub bodies_size : {m : _} → Row_of-Body m → ℕ
  bodies_size end_of-Body = 0
  bodies_size (more_of-Body body rest) = body_size body + bodies_size rest

-- those in all templates and attribute sets
abbrev pub instrs_size : List Instr → ℕ
instrs_size [] = 0
instrs_size (i ∷ is) = kind_size i.kind + instrs_size is

abbrev pub templates_size : List Template → ℕ
templates_size [] = 0
templates_size (t ∷ ts) = body_size t.body + templates_size ts

abbrev pub sets_size : List AttrSet → ℕ
sets_size [] = 0
sets_size (s ∷ ss) = instrs_size s.attributes + sets_size ss

abbrev pub sheet_size : Sheet → ℕ
sheet_size s = templates_size s.templates + sets_size s.sets

-- What is below all that may be left where so many levels of templates, and so many of sets, may be begun: a level is above all bodies
-- that are entered from it.
abbrev pub level_rank : (size levels : ℕ) → (depth set_levels : ℕ) → ℕ
level_rank size levels zero zero = 0
level_rank size levels (suc depth) zero = level_rank size levels depth levels + suc size
level_rank size levels zero (suc n) = level_rank size levels zero n + suc size
level_rank size levels (suc depth) (suc n) = level_rank size levels (suc depth) n + suc size

abbrev pub rank_at : World → (depth set_levels : ℕ) → ℕ
rank_at w depth set_levels = level_rank (sheet_size w.sheet) (all_set_levels w) depth set_levels

abbrev pub job_size : Job → ℕ
job_size (body_job body vs) = body_size body
job_size (rules_job mode ps) = 0

abbrev pub rank_of : World → Task → ℕ
rank_of w t = rank_at w t.focus.depth t.focus.set_levels + job_size t.job

-- ---- what is left to tasks
abbrev pub HasNodes : List ℕ → Type 0
HasNodes [] = ⊥
HasNodes (n ∷ ns) = Unit {0}

abbrev pub BeginsWithTick : Trace Task → Type 0
BeginsWithTick [] = ⊥
BeginsWithTick (Tick p ∷ x) = Unit {0}
BeginsWithTick (Put e ∷ x) = ⊥
BeginsWithTick (Say t ∷ x) = ⊥
BeginsWithTick (Stop f p ∷ x) = ⊥
BeginsWithTick (Need g p ∷ x) = ⊥
BeginsWithTick (Hole t ∷ x) = ⊥
