use Rattle.std.proofs.Common.{◌≡◌, ◌<◌, ◌+◌, ◌==◌, ◌∙◌, ℕ, List, ap, arith, cond, get_or, length, nat_lt, sym}
use Rattle.std.specs.Global.{Vec}
use Rattle.xs_profile.specs.steps.Table.{table_ticks, ticks_of}
use Rattle.xs_profile.proofs.LineLemmas.{all-modules, module-more}
use Rattle.xs_profile.proofs.table.Table.counts.Goals as goal

pub loop-lines-preserved : goal.loop-lines-preserved
loop-lines-preserved c =
    let ms : List (Vec ℕ) = c.args.self.now.modules.items in
    let n : ℕ = c.loop-lines.number in
    let counted : n ≡ c.loop-lines.lines-index = c.loop-lines.invariant.number in
    let all : length c.as_slice-lines-items.result.now ≡ length ms = ap length c.as_slice-lines-items.ensures.value in
    let within : n < length ms = omega (arith, counted, all, c.loop-lines-test.true) in
    let next : c.in_ok-number.number ≡ n + 1 = c.in_ok-number.ensures in
    let is : c.lines-item.result ≡ get_or ms n c.lines-item.result =
    c.lines-item.is ∙ ap (λ (xs : List (Vec ℕ)). get_or xs c.loop-lines.lines-index c.lines-item.result) c.as_slice-lines-items.ensures.value
    ∙ ap (λ (k : ℕ). get_or ms k c.lines-item.result) (sym counted) in
    record {
      number = omega (arith, next, counted);
      in_order = c.in_ok-add_counts.ensures.in_order;
      before = c.in_ok-add_counts.ensures.before c.in_ok-number.number (omega (arith, next));
      each = λ s.
          module-more ms s (ticks_of c.loop-lines.counts.items s) (ticks_of c.add_counts.new.counts.items s) n c.lines-item.result within is
          (c.loop-lines.invariant.each s)
          (c.in_ok-add_counts.ensures.each s
          ∙ ap (λ (ls : List ℕ). ticks_of c.loop-lines.counts.items s + cond (s.«module» == n) (get_or ls s.line 0) 0) c.as_slice.ensures.value)
          ∙ ap (λ (k : ℕ). cond (nat_lt s.«module» k) (table_ticks ms s) 0) (sym next);
    }

pub returns : goal.returns
returns c =
    let ms : List (Vec ℕ) = c.args.self.now.modules.items in
    let counted : c.loop-lines.number ≡ c.loop-lines.lines-index = c.loop-lines.invariant.number in
    let all : length c.as_slice-lines-items.result.now ≡ length ms = ap length c.as_slice-lines-items.ensures.value in
    let end : c.loop-lines.number ≡ length ms = omega (arith, counted, all, c.loop-lines-test.false, c.loop-lines.auto.lines-index-end) in
    record {
      in_order = c.loop-lines.invariant.in_order;
      each = λ s. all-modules ms s (ticks_of c.loop-lines.counts.items s) c.loop-lines.number end (c.loop-lines.invariant.each s);
    }
