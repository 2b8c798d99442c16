use Rattle.std.proofs.Common.{rules, arith, length, ◌∙◌, ap, sym, refl}
use Rattle.xs_parser.specs.Lexing.{is_space, found}
use Rattle.xs_parser.proofs.LexLemmas.{space-in, token-in, shorter, stop-in, end-in, not-empty, is-empty, dropped-within, found-some, found-none}
use Rattle.xs_parser.proofs.lexer.lexemes.Goals as goal

pub tokens-preserved-then-is_space : goal.tokens-preserved-then-is_space
tokens-preserved-then-is_space c =
    let l = c.tokens in record {
      same =
          space-in (length c.args.text.now) _ l.out.items l.before l.rest.now c.skip_one-rest.result.now l.invariant.same l.invariant.within
          (not-empty _ c.tokens-test.ensures)
          (ap is_space (sym c.first.ensures.first) ∙ sym c.is_space.ensures.space ∙ c.if-is_space.true) c.skip_one-rest.ensures.rest;
      within = dropped-within _ l.rest.now c.skip_one-rest.result.now c.skip_one-rest.ensures.rest l.invariant.within;
      text = search rules;
    }

pub returns-in-Ok-None : goal.returns-in-Ok-None
returns-in-Ok-None c =
    let l = c.tokens in record {
      tokens =
          stop-in (length c.args.text.now) _ l.out.items l.before l.rest.now l.invariant.same (not-empty _ c.tokens-test.ensures)
          (ap is_space (sym c.first.ensures.first) ∙ sym c.is_space.ensures.space ∙ c.if-is_space.false)
          (found-none c.in-Ok-None.field-0 (λ f. found f.0 f.1.now f.2) _ c.in-Ok-None.field-0-is c.in-Ok-None.ensures.found);
    }

pub tokens-smaller : goal.tokens-smaller
tokens-smaller c =
    shorter c.tokens.before c.tokens.rest.now (found c.in-Ok-Some.lexeme c.in-Ok-Some.behind.now c.in-Ok-Some.after)
    (found-some c.in-Ok-Some.field-0 (c.in-Ok-Some.lexeme, c.in-Ok-Some.behind, c.in-Ok-Some.after) (λ f. found f.0 f.1.now f.2) _
    (cc) c.in-Ok-Some.ensures.found)

pub tokens-preserved : goal.tokens-preserved
tokens-preserved c =
    let l = c.tokens in
    let f = found c.in-Ok-Some.lexeme c.in-Ok-Some.behind.now c.in-Ok-Some.after in
    let is = found-some c.in-Ok-Some.field-0 (c.in-Ok-Some.lexeme, c.in-Ok-Some.behind, c.in-Ok-Some.after) (λ f. found f.0 f.1.now f.2) _
    (cc) c.in-Ok-Some.ensures.found in record {
      same =
          token-in (length c.args.text.now) _ _ l.out.items c.push.new.self.items l.before l.rest.now f l.invariant.same l.invariant.within
          (not-empty _ c.tokens-test.ensures)
          (ap is_space (sym c.first.ensures.first) ∙ sym c.is_space.ensures.space ∙ c.if-is_space.false) is refl c.in_ok-push-in-Ok-Some.ensures.items;
      within = omega (arith, shorter l.before l.rest.now f is, l.invariant.within);
      text = search rules;
    }

pub returns : goal.returns
returns c =
    let l = c.tokens in record {
      tokens = end-in (length c.args.text.now) _ l.out.items l.before l.rest.now l.invariant.same (is-empty _ c.tokens-test.ensures);
    }
