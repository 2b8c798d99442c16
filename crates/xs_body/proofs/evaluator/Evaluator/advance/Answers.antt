use Rattle.std.proofs.Common.{refl, subst, rules}
use Rattle.xs_body.specs.Inside.{IsInside}
use Rattle.xs_body.specs.declared.frames.Frame.{Frame}
use Rattle.xs_body.proofs.evaluator.Evaluator.advance.Goals as goal

pub go_on-requires-sync-K : goal.go_on-requires-sync-K
go_on-requires-sync-K g c κs within =
    let first = subst (λ (f : Frame). IsInside c.args.self.now.world.tree f) c.in-Rest.is c.requires.first in
    (search rules, ((refl, tt), (c.requires.holes, first)))

pub do_next-requires-sync-K : goal.do_next-requires-sync-K
do_next-requires-sync-K g c κs within =
    let first = subst (λ (f : Frame). IsInside c.args.self.now.world.tree f) c.in-Each.is c.requires.first in
    (search rules, ((refl, tt), (c.requires.holes, first)))

pub apply_next-requires-sync-K : goal.apply_next-requires-sync-K
apply_next-requires-sync-K g c κs within =
    let first = subst (λ (f : Frame). IsInside c.args.self.now.world.tree f) c.in-Apply.is c.requires.first in
    (search rules, ((refl, tt), (c.requires.holes, first)))

pub pass_next-requires-sync-K : goal.pass_next-requires-sync-K
pass_next-requires-sync-K g c κs within =
    let first = subst (λ (f : Frame). IsInside c.args.self.now.world.tree f) c.in-Pass.is c.requires.first in
    (search rules, ((refl, tt), (c.requires.holes, first)))

pub take_value-requires-sync-K : goal.take_value-requires-sync-K
take_value-requires-sync-K g c κs within =
    let first = subst (λ (f : Frame). IsInside c.args.self.now.world.tree f) c.in-Take.is c.requires.first in
    (search rules, ((refl, tt), (c.requires.holes, first)))

pub next_param-requires-sync-K : goal.next_param-requires-sync-K
next_param-requires-sync-K g c κs within =
    let first = subst (λ (f : Frame). IsInside c.args.self.now.world.tree f) c.in-Params.is c.requires.first in
    (search rules, ((refl, tt), first))

pub put_attributes-requires-sync-K : goal.put_attributes-requires-sync-K
put_attributes-requires-sync-K g c κs within =
    let first = subst (λ (f : Frame). IsInside c.args.self.now.world.tree f) c.in-Attributes.is c.requires.first in
    (search rules, ((refl, tt), first))
