use Rattle.std.proofs.Common.{◌≡◌, ◌≤◌, ◌-◌, ℕ, suc, List, length, get_or, not, arith, rules}
use Rattle.std.proofs.lemmas.List.{get_or_default}
use Rattle.std.proofs.lemmas.List.Sorted.{IsPartitionPoint-from_clause}
use Rattle.xs_profile.specs.Counts.{is_before}
use Rattle.xs_profile.specs.declared.count.Count.{Count}
use Rattle.xs_profile.proofs.StartLemmas.{in-no-part, in-part, no-start, parted}
use Rattle.xs_profile.proofs.parts.part_of.Goals as goal

pub returns-then-count-eq0 : goal.returns-then-count-eq0
returns-then-count-eq0 c =
    let xs : List Count = c.args.starts.now in
    no-start xs c.args.site c.partition_point-count.result
    (IsPartitionPoint-from_clause (λ (y : Count). not (is_before c.args.site y.site)) xs c.partition_point-count.result
    c.partition_point-count.ensures.partitioned (parted xs c.args.site c.requires.starts) (λ a r q k. search rules))
    c.if-count-eq0.true

pub returns-then-start-site : goal.returns-then-start-site
returns-then-start-site c =
    let xs : List Count = c.args.starts.now in
    let i : ℕ = c.partition_point-count.result in
    let none : Count = record { site = record { «module» = 0; line = 0 }; ticks = 0 } in
    let start : Count = get_or xs (i - 1) none in
    let within : i ≤ length xs = c.partition_point-count.ensures.bound in
    let some : i ≡ suc (i - 1) = omega (arith, c.if-count-eq0.false) in
    in-part xs c.args.site i (i - 1) start c.requires.starts
    (IsPartitionPoint-from_clause (λ (y : Count). not (is_before c.args.site y.site)) xs i
    c.partition_point-count.ensures.partitioned (parted xs c.args.site c.requires.starts) (λ a r q k. search rules))
    within some (get_or_default xs (i - 1) none start (omega (arith, within, some))) c.if-start-site.true

pub returns : goal.returns
returns c =
    let xs : List Count = c.args.starts.now in
    let i : ℕ = c.partition_point-count.result in
    let none : Count = record { site = record { «module» = 0; line = 0 }; ticks = 0 } in
    let start : Count = get_or xs (i - 1) none in
    let within : i ≤ length xs = c.partition_point-count.ensures.bound in
    let some : i ≡ suc (i - 1) = omega (arith, c.if-count-eq0.false) in
    in-no-part xs c.args.site i (i - 1) start c.requires.starts
    (IsPartitionPoint-from_clause (λ (y : Count). not (is_before c.args.site y.site)) xs i
    c.partition_point-count.ensures.partitioned (parted xs c.args.site c.requires.starts) (λ a r q k. search rules))
    within some (get_or_default xs (i - 1) none start (omega (arith, within, some))) c.if-start-site.false
