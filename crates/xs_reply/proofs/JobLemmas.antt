-- What arguments ask for, by what was read of them.
use Rattle.std.proofs.Common.{◌≡◌, ◌≤◌, ◌^◌, ◌∙◌, Bool, true, false, List, Option, Some, None, refl, sym, ap, subst}
use Rattle.xs_words.specs.Choice.{Choice, Text, Job as Work, files, check, load}
use Rattle.xs_words.specs.Options.{AreWithin, options_of}
use Rattle.xs_words.specs.Steps.{given, where_it_holds}
use Rattle.xs_reply.specs.Job.{Request, supported_request, is_supported, is_streamed, request_of, work_request}
use Rattle.xs_reply.specs.Reply.{IsWithin, request_data}
use Rattle.xs_reply.specs.declared.job.Request.{Request as CodeRequest}

-- no result is streamed
by_work : (choice : Choice) (w : Work) → is_streamed (Some (work_request choice w)) ≡ false
by_work choice (files sheet source texts) = refl
by_work choice (check sheet) = refl
by_work choice (load rows) = refl

by_test : (choice : Choice) (b : Bool) → is_streamed (where_it_holds b (Some (work_request choice choice.job))) ≡ false
by_test choice true = by_work choice choice.job
by_test choice false = refl

by_choice : (o : Option Choice) → is_streamed (given o supported_request) ≡ false
by_choice None = refl
by_choice (Some choice) = by_test choice (is_supported choice)

pub never_streamed : (words : List Text) → is_streamed (request_of words) ≡ false
never_streamed words = by_choice (options_of words)

-- ---- the numbers of a job are within their limits

budget-of : (choice : Choice) (work : Work) → (work_request choice work).job.budget ≡ choice.budget
budget-of choice (files sheet source pairs) = refl
budget-of choice (check sheet) = refl
budget-of choice (load rows) = refl

grain-of : (choice : Choice) (work : Work) → (work_request choice work).job.grain ≡ choice.grain
grain-of choice (files sheet source pairs) = refl
grain-of choice (check sheet) = refl
grain-of choice (load rows) = refl

workers-of : (choice : Choice) (work : Work) → (work_request choice work).workers ≡ choice.workers
workers-of choice (files sheet source pairs) = refl
workers-of choice (check sheet) = refl
workers-of choice (load rows) = refl

-- so are those of what arguments ask for
pub request_within : (choice : Choice) (work : Work) (request : CodeRequest) → AreWithin choice → request_data request ≡ work_request choice work
    → IsWithin request.job
request_within choice work request within is =
    let budget : request.job.budget ≡ choice.budget = ap (λ (r : Request). r.job.budget) is ∙ budget-of choice work in
    let grain : request.job.grain ≡ choice.grain = ap (λ (r : Request). r.job.grain) is ∙ grain-of choice work in
    let workers : request.job.workers ≡ choice.workers = ap (λ (r : Request). r.workers) is ∙ workers-of choice work in
    record {
      budget = subst (λ n. n ≤ 2 ^ 40) (sym budget) within.budget.1;
      grain = subst (λ n. 1 ≤ n) (sym grain) within.grain.0;
      workers = subst (λ n. (1 ≤ n) × (n ≤ 64)) (sym workers) within.workers;
    }
