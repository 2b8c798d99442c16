-- What the report and the sinks of a run gain.
use Rattle.std.proofs.Common.{◌≡◌, ◌≢◌, ℕ, ◌⊎◌, Bool, List, [], length, Option, Some, None, refl, sym, ap, ◌∙◌, subst, inl, inr, append-nil, arith}
use Rattle.xs_outside.specs.Edge.{Files}
use Rattle.xs_reply.specs.declared.reply.Reply.{Reply}
use Rattle.xs_reply.specs.declared.status.TheConstants.{NO_MEMORY, OK, WRITE_FAULT}
use Rattle.xs_reply.specs.Answer.{Answer, Pieces}
use Rattle.xs_reply.specs.Job.{Request}
use Rattle.xs_reply.specs.Headline.{Account, AreClaimed, AreRun, AtOnce, Gained, Gives, IsCutShort, IsWritten, OneFault, OnlyExpected, Writes}
use Rattle.xs_reply.specs.Expected.{IsExpected}
use Rattle.xs_reply.specs.ReadBack.{ReadsAs}
use Rattle.xs_reply.specs.Reply.{RunsPieces, answer_of, reply_of}
use Rattle.xs_reply.proofs.ExpectedLemmas.{each_expected, only_expected}
use Rattle.xs_trace.specs.declared.event.Event.{Event}

-- a sink that was not written to holds what it held, and nothing more
pub stays : (held : Option (List ℕ)) (P : List ℕ → Type 0) → P [] → Gained held held P
stays None P h = tt
stays (Some b) P h = ([], ap Some (sym (append-nil b)), h)

-- the report has how the pieces of a reply were run
pub claimed : (reply : Reply) (count : ℕ) (document : Option (List Event)) (pieces : Pieces) (account : Account) → RunsPieces count pieces reply
    → account.pieces ≡ length reply.pieces.claims.items → account.claims ≡ reply.pieces.claims.items → account.inline ≡ reply.pieces.inline
    → account.worked ≡ reply.pieces.worked → AreClaimed count (answer_of reply document pieces) account
claimed reply count document pieces account run n c i w = record {
  number = n ∙ ap length (sym c);
  run =
      subst (λ cs. AreRun pieces (reply.status ≡ OK) count cs account.inline account.worked) (sym c)
      (subst (λ m. AreRun pieces (reply.status ≡ OK) count reply.pieces.claims.items m account.worked) (sym i)
      (subst (λ m. AreRun pieces (reply.status ≡ OK) count reply.pieces.claims.items reply.pieces.inline m) (sym w) run));
}

module _ (streamed : Bool) (count : ℕ) (account : Account) (out out' err err' : Option (List ℕ)) where
  -- what was written of a reply, with this account
  pub gives : (reply : Reply) (document : Option (List Event)) (pieces : Pieces) (ended : ℕ) → account.status ≡ ended → account.ticks ≡ reply.ticks
      → account.fault ≡ reply.fault → AreClaimed count (answer_of reply document pieces) account
      → Writes (reply_of reply) ended out out' err err' → ReadsAs document reply.result.items
      → Gives streamed count (answer_of reply document pieces) account out out' err err'
  gives reply document pieces ended e t f c w reads = record {
    status = subst (λ s. (s ≡ reply.status) ⊎ IsCutShort s) (sym e) w.status;
    result = subst (λ s. Gained out out' (IsWritten reply.result.items s)) (sym e) w.result;
    lines = subst (λ s. Gained err err' (IsWritten reply.lines.items s)) (sym e) w.lines;
    lines_first = λ _. w.lines_first;
    ticks = λ _. t;
    fault = λ _. f;
    pieces = λ _. c;
    document = λ _. reads;
  }

-- out of memory nothing is written
nothing_given : (streamed : Bool) (count : ℕ) (answer : Answer) (account : Account) (out err : Option (List ℕ)) → account.status ≡ NO_MEMORY
    → Gives streamed count answer account out out err err
nothing_given streamed count answer account out err e = record {
  status = inr (inr e);
  result = stays out (IsWritten answer.result account.status) ((answer.result, refl), inl (inr e));
  lines = stays err (IsWritten answer.lines account.status) ((answer.lines, refl), inl (inr e));
  lines_first = λ _. stays out (λ taken. _) (inl refl);
  ticks = λ other. absurd (other e);
  fault = λ other. absurd (other e);
  pieces = λ other. absurd (other e);
  document = λ other. absurd (other e);
}

-- and so it is whatever is expected
pub gives_nothing : (files : Option Files) (request : Option Request) (failed failed' : List (List ℕ)) (streamed : Bool) (count : ℕ)
    (account : Account) (out err : Option (List ℕ)) → account.status ≡ NO_MEMORY
    → OnlyExpected files request failed failed' (λ expected. Gives streamed count expected account out out err err)
gives_nothing files request failed failed' streamed count account out err e =
    each_expected files request failed failed' (λ expected. Gives streamed count expected account out out err err)
    (λ expected. nothing_given streamed count expected account out err e)

-- what was given is all that is expected
pub gives_only : (files : Option Files) (request : Option Request) (failed failed' : List (List ℕ)) (a : Answer) (streamed : Bool) (count : ℕ)
    (account : Account) (out out' err err' : Option (List ℕ)) → IsExpected files request failed failed' a → Gives streamed count a account out out' err err'
    → OnlyExpected files request failed failed' (λ expected. Gives streamed count expected account out out' err err')
gives_only files request failed failed' a streamed count account out out' err err' expected given =
    only_expected files request failed failed' a (λ expected. Gives streamed count expected account out out' err err') expected given

-- what holds of a result that is written at once
pub at_once : (ended ended' : ℕ) (out out' : Option (List ℕ)) (f f' g g' : ℕ) → ended' ≡ ended → (ended ≢ OK → ended ≢ WRITE_FAULT → out' ≡ out)
    → (ended ≡ WRITE_FAULT → OneFault f f' g g') → (ended ≢ WRITE_FAULT → (f' ≡ f) × (g' ≡ g)) → AtOnce ended' out out' f f' g g'
at_once ended ended' out out' f f' g g' e u w n =
    subst (λ s. AtOnce s out out' f f' g g') (sym e) (record { untouched = u; write_fault = w; no_fault = n })

other_status : (ended : ℕ) → ended ≡ NO_MEMORY → ended ≡ WRITE_FAULT → ⊥
other_status ended e w = omega (arith, e, w)

pub nothing_at_once : (ended : ℕ) (out : Option (List ℕ)) (f g : ℕ) → ended ≡ NO_MEMORY → AtOnce ended out out f f g g
nothing_at_once ended out f g e = record {
  untouched = λ ok failed. refl;
  write_fault = λ w. absurd (other_status ended e w);
  no_fault = λ w. (refl, refl);
}
