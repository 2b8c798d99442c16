use Rattle.std.proofs.Common.{◌≡◌, ◌∙◌, ap, sym, refl, ℕ, Bool, Bor, Option, None, Some, true}
use Rattle.std.proofs.lemmas.Bool.{true≢false}
use Rattle.std.specs.Option.{option_copied}
use Rattle.std.specs.Prelude.{is_some, not}
use Rattle.xs_compile.proofs.EntryLemmas.{number_entered}
use Rattle.xs_compile.specs.Tables.{number_in}
use Rattle.xs_compile.proofs.counted.Numbers.enter.Goals as goal

missing : (o : Option (Bor ℕ)) (b : Bool) → is_some o ≡ not b → b ≡ true → option_copied o ≡ None
missing None b e h = refl
missing (Some x) b e h = absurd (true≢false (e ∙ ap not h))

pub returns-in_ok-insert : goal.returns-in_ok-insert
returns-in_ok-insert c = λ uri local.
    let u = c.args.name.0.now in
    let l = c.args.name.1.now in
    let none : number_in c.args.self.now u l ≡ None =
    sym c.get.ensures.value ∙ missing c.get.result c.is_none.result c.is_none.ensures c.if-is_none.true in
    number_entered u l uri local (number_in c.args.self.now) c.args.number _ none
    (c.in_ok-insert.ensures.updates.0 (record { ref_ptr = (0, 0); now = uri }, record { ref_ptr = (0, 0); now = local }))
