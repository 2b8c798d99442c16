use Rattle.std.proofs.Common.{reverse, rules}
use Rattle.xs_record.proofs.BriefLemmas.{plain_pushed}
use Rattle.xs_record.proofs.plain.Plain.push.Goals as goal

pub returns : goal.returns
returns g c =
    record {
      reported = plain_pushed c.self.inside.items.items _ (reverse c.self.inside.captures.items) c.self.inside.at c.args.item c.args.self.now c.self.view_is
          c.in_ok-push.ensures.items;
      refused = search rules;
    }
