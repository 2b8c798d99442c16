use Rattle.std.proofs.Common.{◌≡◌, ◌∙◌, IfOk, lit<, rules, string_bytes, subst}
use Rattle.xs_making.specs.Texts.{ends_or_hyphen, comment_text}
use Rattle.xs_making.proofs.SpacingLemmas.{spaced-end, spaced-shorter, spaced-step}
use Rattle.xs_making.proofs.texts.comment_text.Goals as goal

pub loop-before-preserved : goal.loop-before-preserved
loop-before-preserved c =
    let cut = c.in-Some.ensures.byte (lit< tt) (λ w o h. h) in
    record {
      text = search rules;
      made =
          spaced-step 45 ends_or_hyphen c.ends_or_hyphen.result (comment_text c.args.text.now) (string_bytes c.loop-before.out)
          (string_bytes c.push_part.new.out)
          c.loop-before.rest.now c.in-Some.before.now c.in-Some.after.now cut.0 cut.1 cut.2
          c.ends_or_hyphen.ensures c.in_ok-push_part.ensures c.loop-before.invariant.made;
    }

pub loop-before-smaller : goal.loop-before-smaller
loop-before-smaller c =
    let cut = c.in-Some.ensures.byte (lit< tt) (λ w o h. h) in
    spaced-shorter 45 c.loop-before.rest.now c.in-Some.before.now c.in-Some.after.now cut.0 cut.1 cut.2

pub returns : goal.returns
returns c =
    let past = c.in_default.ensures.byte (lit< tt) (λ w o h. h) in
    record {
      text =
          subst (λ xs. IfOk c.from_string.result (λ made. made ≡ xs))
          (c.in_ok-push_str.ensures.bytes
          ∙ spaced-end 45 ends_or_hyphen (comment_text c.args.text.now) (string_bytes c.loop-before.out) c.loop-before.rest.now past
          c.loop-before.invariant.made)
          c.from_string.ensures.text;
    }
