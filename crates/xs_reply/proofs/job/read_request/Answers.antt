use Rattle.xs_words.specs.Results.{job_reported, reported}
use Rattle.xs_reply.proofs.JobLemmas.{request_within}
use Rattle.xs_reply.proofs.job.read_request.Goals as goal

pub returns-in-Ok-work_request-clause-within : goal.returns-in-Ok-work_request-clause-within
returns-in-Ok-work_request-clause-within c =
    request_within (reported c.in-Ok.options) (job_reported c.in-Ok.options.job) c.in-Ok-work_request.request
    c.in-Ok.ensures.within c.in-Ok-work_request.ensures
