use Rattle.std.proofs.Common.{ap, sym}
use Rattle.xs_result.specs.Places.{is_attribute_of}
use Rattle.xs_result_lines.specs.steps.Pending.{lent}
use Rattle.xs_result_lines.proofs.PendingLemmas.{unnamed_clear}
use Rattle.xs_result_lines.proofs.lent.is_clear.Goals as goal

pub returns-in-Start : goal.returns-in-Start
returns-in-Start c = sym (unnamed_clear c.args.event.now (lent c.args.behind.now) (λ n. ap (λ e. is_attribute_of n.uri n.local e) c.in-Start.is))

pub returns-in-Space : goal.returns-in-Space
returns-in-Space c = sym (unnamed_clear c.args.event.now (lent c.args.behind.now) (λ n. ap (λ e. is_attribute_of n.uri n.local e) c.in-Space.is))

pub returns-in-Chars : goal.returns-in-Chars
returns-in-Chars c = sym (unnamed_clear c.args.event.now (lent c.args.behind.now) (λ n. ap (λ e. is_attribute_of n.uri n.local e) c.in-Chars.is))

pub returns-in-End : goal.returns-in-End
returns-in-End c = sym (unnamed_clear c.args.event.now (lent c.args.behind.now) (λ n. ap (λ e. is_attribute_of n.uri n.local e) c.in-End.is))

pub returns-in-Comment : goal.returns-in-Comment
returns-in-Comment c = sym (unnamed_clear c.args.event.now (lent c.args.behind.now) (λ n. ap (λ e. is_attribute_of n.uri n.local e) c.in-Comment.is))

pub returns-in-Pi : goal.returns-in-Pi
returns-in-Pi c = sym (unnamed_clear c.args.event.now (lent c.args.behind.now) (λ n. ap (λ e. is_attribute_of n.uri n.local e) c.in-Pi.is))
