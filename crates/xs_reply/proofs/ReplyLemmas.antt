-- What a reply is an answer of.
use Rattle.std.proofs.Common.{◌≡◌, ◌<◌, ℕ, [], Result, Ok, Err, None, IfOk, arith, refl, subst, sym, ap}
use Rattle.std.proofs.lemmas.List.Elements.{All-nil}
use Rattle.xs_core.specs.declared.place.Claim.{Claim}
use Rattle.xs_reply.specs.declared.reply.Reply.{Reply}
use Rattle.xs_reply.specs.declared.status.TheConstants.{OK}
use Rattle.xs_reply.specs.Answer.{Answer, no_pieces}
use Rattle.xs_reply.specs.Headline.{AreRun, none}
use Rattle.xs_reply.specs.Reply.{IsPlain, Plain, Replies, answer_of}

-- nothing was run
none-run : (is_whole : Type 0) (count n m : ℕ) → n ≡ 0 → m ≡ 0 → AreRun no_pieces is_whole count [] n m
none-run is_whole count n m e f = record {
  claimed = none;
  workers = All-nil (λ (c : Claim). c.worker < count);
  first = All-nil (λ (c : Claim). c.place ≡ [] → c.worker ≡ 0);
  whole = λ w. (refl, e, f);
  taken = omega arith;
  again = λ l. absurd (omega (arith, e, l));
  reached = λ p c n. absurd (omega (arith, c.1));
  bound = omega (arith, f);
  idle = λ p. (e, f);
}

pub plain-run : (count : ℕ) (a : Answer) (reply : Reply) → IsPlain a reply
    → AreRun no_pieces (reply.status ≡ OK) count reply.pieces.claims.items reply.pieces.inline reply.pieces.worked
plain-run count a reply is =
    subst (λ cs. AreRun no_pieces (reply.status ≡ OK) count cs reply.pieces.inline reply.pieces.worked) (sym (ap (λ (p : Plain). p.claims) is))
    (none-run (reply.status ≡ OK) count reply.pieces.inline reply.pieces.worked (ap (λ (p : Plain). p.inline) is) (ap (λ (p : Plain). p.worked) is))

-- one without lines of a document and without pieces, whose answer is this
plain-so : (count : ℕ) (N : Type 0) (P : Answer → Type 0) (a : Answer) → P a → (reply : Reply) → IsPlain a reply → Replies count N P reply
plain-so count N P a p reply is =
    record {
      document = None;
      pieces = no_pieces;
      answers = subst P (sym (ap (λ (q : Plain). q.answer) is)) p;
      run = plain-run count a reply is;
      reads = λ _. tt;
    }

pub reply_is : {E : Type 0} (count : ℕ) (r : Result Reply E) (N : Type 0) (P : Answer → Type 0) (a : Answer)
    → P a → IfOk r (IsPlain a) → IfOk r (Replies count N P)
reply_is count (Err e) N P a p is = tt
reply_is count (Ok reply) N P a p is = plain-so count N P a p reply is

-- or of which this is known
pub plain_reply : {E : Type 0} (count : ℕ) (r : Result Reply E) (N : Type 0) (Q : Reply → Type 0) (P : Answer → Type 0)
    (of : (reply : Reply) → Q reply → Answer)
    → ((reply : Reply) (q : Q reply) → P (of reply q)) → ((reply : Reply) (q : Q reply) → IsPlain (of reply q) reply) → IfOk r Q → IfOk r (Replies count N P)
plain_reply count (Err e) N Q P of h plain is = tt
plain_reply count (Ok reply) N Q P of h plain is = plain-so count N P (of reply is) (h reply is) reply (plain reply is)

-- what follows of an answer
pub replies_so : {E : Type 0} (count : ℕ) (r : Result Reply E) (N M : Type 0) (P Q : Answer → Type 0) → (M → N) → ((a : Answer) → P a → Q a)
    → IfOk r (Replies count N P) → IfOk r (Replies count M Q)
replies_so count (Err e) N M P Q m h is = tt
replies_so count (Ok reply) N M P Q m h is = record {
  document = is.document;
  pieces = is.pieces;
  answers = h (answer_of reply is.document is.pieces) is.answers;
  run = is.run;
  reads = λ holds. is.reads (m holds);
}
