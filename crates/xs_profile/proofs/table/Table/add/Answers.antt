use Rattle.std.proofs.Common.{◌≡◌, ◌<◌, ◌+◌, ◌∙◌, ℕ, List, ap, arith, cond, length, subst, sym}
use Rattle.std.specs.Global.{Vec}
use Rattle.std.specs.Vec.{vec_len}
use Rattle.std.proofs.lemmas.Result.{on_ok_weaker}
use Rattle.xs_trace.specs.declared.item.Site.{Site}
use Rattle.xs_profile.specs.Counts.{is_site}
use Rattle.xs_profile.specs.declared.table.Table.{Table}
use Rattle.xs_profile.specs.steps.Table.{table_ticks}
use Rattle.xs_profile.proofs.LineLemmas.{table-more}
use Rattle.xs_profile.proofs.table.Table.add.Goals as goal
use Rattle.xs_profile.proofs.table.Table.add.Goals.{then-len-module+in_ok-reach, else-len-module}

pub returns : goal.returns
returns c =
    let table : Table = c.if-len-module.self in
    let ms : List (Vec ℕ) = table.modules.items in
    let kept : (s : Site) → table_ticks ms s ≡ table_ticks c.args.self.now.modules.items s =
    elim c.if-len-module.branch [
      | then-len-module+in_ok-reach w ↦ (λ s. ap (λ (t : Table). table_ticks t.modules.items s) w.self-is ∙ w.in_ok-reach.ensures.kept s)
      | else-len-module w ↦ (λ s. ap (λ (t : Table). table_ticks t.modules.items s) w.self-is)
    ] in
    let wide : c.args.site.«module» < vec_len table.modules =
    elim c.if-len-module.branch [
      | then-len-module+in_ok-reach w ↦ subst (λ (t : Table). c.args.site.«module» < vec_len t.modules) (sym w.self-is) w.in_ok-reach.ensures.there
      | else-len-module w ↦ subst (λ (t : Table). c.args.site.«module» < vec_len t.modules) (sym w.self-is)
          (omega (arith, w.if-len-module.false, c.len.ensures))
    ] in
    let within : c.args.site.«module» < length ms = omega (arith, wide, table.modules.ok.0) in
    on_ok_weaker c.add_at.result
    (λ each s.
    table-more ms c.args.site s c.args.ticks c.index_mut.result.now c.add_at.new.lines within c.index_mut.ensures.value each
    ∙ ap (λ (n : ℕ). n + cond (is_site s c.args.site) c.args.ticks 0) (kept s))
    c.add_at.ensures
