use Rattle.std.proofs.Common.{refl}
use Rattle.std.proofs.lemmas.List.{nil_from_length}
use Rattle.xs_result.proofs.PlaceLemmas.{kept_in_few, kept_in_others}
use Rattle.xs_result.proofs.start_tag.keep.Goals as goal

pub returns-then-len-lt-FEW-clause-kept : goal.returns-then-len-lt-FEW-clause-kept
returns-then-len-lt-FEW-clause-kept c = λ uri local.
    kept_in_few c.args.few.now.items c.push.new.self.items c.args.others.now.entries c.args.others.now.entries c.args.name c.args.place uri local
    (nil_from_length c.args.others.now.entries (c.is_empty.ensures.0 c.if-is_empty.true)) refl c.in_ok-push.ensures.items c.requires.new

pub returns-clause-kept : goal.returns-clause-kept
returns-clause-kept c = λ uri local.
    kept_in_others c.args.few.now.items c.args.few.now.items c.args.others.now.entries c.insert.new.self.entries c.args.name c.args.place uri local refl
    (c.in_ok-insert.ensures.updates.0 (record { ref_ptr = (0, 0); now = local }, record { ref_ptr = (0, 0); now = uri })) c.requires.new
