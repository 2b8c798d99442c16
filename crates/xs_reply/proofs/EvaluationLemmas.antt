-- What is expected of an evaluation, by what was settled and run.
use Rattle.std.proofs.Common.{◌≡◌, ◌∙◌, ◌+◌, ◌-◌, ◌++◌, ℕ, suc, arith, [], ◌∷◌, List, length, Result, Ok, Err, Option, Some, None, IfOk}
use Rattle.std.proofs.Common.{ap, refl, sym, subst, append-nil}
use Rattle.xs_assemble.specs.Assembled.{EndsIn}
use Rattle.xs_assemble.specs.declared.assembled.Executed.{Executed}
use Rattle.xs_record.specs.Segment.{items_of}
use Rattle.xs_body_spec.specs.Globals.{SettlesAll, Table, ended, settled}
use Rattle.xs_body_spec.specs.Tasks.{Task}
use Rattle.xs_body_spec.specs.World.{World, ground}
use Rattle.xs_reply.proofs.EndLemmas.{stopped_answers, whole_answers, whole_end}
use Rattle.xs_reply.proofs.ReplyLemmas.{replies_so, reply_is}
use Rattle.xs_reply.specs.Answer.{Answer, Pieces, document_of, message_lines, no_pieces, result_of, stats_lines, stopped_answer, whole_answer}
use Rattle.xs_keys.specs.KeyTables.{tables_of}
use Rattle.xs_value.specs.Tables.{Table as KeyTable}
use Rattle.xs_reply.specs.Evaluation.{IsCutAnswer, IsEvaluated, IsEvaluatedFrom, IsEvaluatedOn, IsEvaluatedOver, in_globals, in_root, root_cut, root_pieces}
use Rattle.xs_reply.specs.Headline.{AreRun, claimed_places}
use Rattle.xs_reply.specs.Inputs.{joined, joined_later, named_document}
use Rattle.xs_reply.specs.Items.{events_in}
use Rattle.xs_reply.specs.Job.{Job}
use Rattle.xs_reply.specs.Ran.{IsRan}
use Rattle.xs_reply.specs.ReadBack.{ReadsAs}
use Rattle.xs_reply.specs.Reply.{IsPlain, Plain, Replies, RunsPieces, answer_of, reply_of}
use Rattle.xs_reply.specs.declared.reply.Pieces.{Pieces as CodePieces}
use Rattle.xs_reply.specs.declared.reply.Reply.{Reply}
use Rattle.xs_reply.specs.declared.status.TheConstants.{OK, RUN_FAULT}
use Rattle.xs_result_laws.specs.Events.{IsResult}
use Rattle.xs_rules.specs.WhiteSpace.{stripped}
use Rattle.xs_attribute_sets.specs.declared.index.SetIndex.{SetIndex}
use Rattle.xs_sheet.specs.declared.declarations.Method.{Method}
use Rattle.xs_sheet.specs.declared.declarations.StripRule.{StripRule}
use Rattle.xs_sheet.specs.declared.sheet.Sheet.{Sheet}
use Rattle.xs_trace.specs.Cut.{Cut}
use Rattle.xs_trace.specs.Mark.{events_of, messages_of, tick_count}
use Rattle.xs_trace.specs.declared.event.Event.{Event}
use Rattle.xs_trace.specs.declared.item.Spot.{Spot}
use Rattle.xs_core.specs.declared.place.Claim.{Claim}
use Rattle.xs_tree.specs.Record.{Record}
use Rattle.xs_tree.specs.Stripping.{without}
use Rattle.xs_result_laws.specs.PutLaws.{RunsPutResults}
use Rattle.xs_result_laws.specs.Named.{IsNamedWorld}

-- an answer with these pieces, of which the result is these lines
abbrev in_full : Option (List Event) → Pieces → Answer → Answer
in_full document pieces a = record a { pieces = pieces; document = document }

-- with these lines for the user
abbrev with_lines : List ℕ → Answer → Answer
with_lines lines a = record a { lines = lines }

-- there are as many places as claims
claims-counted : (cs : List Claim) → length (claimed_places cs) ≡ length cs
claims-counted [] = refl
claims-counted (c ∷ cs) = ap suc (claims-counted cs)

-- a whole answer of which its pieces and its document are not yet said
abbrev plain_whole : Method → List (List ℕ) → List Event → ℕ → Answer
plain_whole method says events ticks = record {
  status = OK;
  result = result_of method events;
  lines = message_lines says;
  fault = None;
  ticks = ticks;
  pieces = no_pieces;
  document = None;
}

-- the source alone is all documents
pub one_document : (source : List Record) → joined (named_document [] source ∷ []) ≡ source
unfolding joined joined_later
one_document source = append-nil source

-- a source that is stripped, by the rules of the stylesheet
pub from_stripped : {E : Type 0} (count : ℕ) (r : Result Reply E) (N M : Type 0) (job : Job) (sheet : Sheet) (rules : List StripRule)
    (source tree : List Record) → (M → N) → rules ≡ sheet.strips → tree ≡ without (stripped rules source) source
    → IfOk r (Replies count N (IsEvaluatedOn job sheet tree))
    → IfOk r (Replies count M (IsEvaluatedOver job sheet (named_document [] source ∷ [])))
from_stripped count r N M job sheet rules source tree m same is over =
    let stripped_all : tree ≡ without (stripped sheet.strips source) source = is ∙ ap (λ rs. without (stripped rs source) source) same in
    replies_so count r N M (IsEvaluatedOn job sheet tree) (IsEvaluatedOver job sheet (named_document [] source ∷ [])) m
    (λ a on. subst (λ rs. IsEvaluatedFrom job sheet rs a) (sym (one_document source)) (subst (λ t. IsEvaluatedOn job sheet t a) stripped_all on)) over

-- over some index
pub over_index : {E : Type 0} (count : ℕ) (r : Result Reply E) (N : Type 0) (job : Job) (sheet : Sheet) (index : SetIndex)
    (tree : List Record) (keys : List KeyTable) → keys ≡ tables_of tree sheet.keys → IfOk r (Replies count N (IsEvaluated job (ground sheet index tree keys)))
    → IfOk r (Replies count N (IsEvaluatedOn job sheet tree))
over_index count r N job sheet index tree keys same is =
    replies_so count r N N (IsEvaluated job (ground sheet index tree keys)) (IsEvaluatedOn job sheet tree) (λ n. n)
    (λ a by. (index, subst (λ (ts : List KeyTable). IsEvaluated job (ground sheet index tree ts) a) same by)) is

module _ (job : Job) (w : World) (t : Table) where
  -- the run ended in a global
  pub ended_in_globals : {E : Type 0} (count : ℕ) (r : Result Reply E) (N : Type 0) (s : Spot) → SettlesAll w job.given job.budget (ended t s)
      → IfOk r (IsPlain (stopped_answer w.sheet.modules s (t.says ++ []) t.ticks no_pieces))
      → IfOk r (Replies count N (IsEvaluated job w))
  ended_in_globals count r N s settles same =
      reply_is count r N (IsEvaluated job w) (stopped_answer w.sheet.modules s (t.says ++ []) t.ticks no_pieces)
      (in_globals {t = t} {s = s} settles (ap (λ says. stopped_answer w.sheet.modules s says t.ticks no_pieces) (append-nil t.says))) same

  -- or the globals are settled, with these messages and ticks
  module _ (sheet : Sheet) (of : sheet ≡ w.sheet) (reported : List (List ℕ)) (said : t.says ≡ reported) (before_root : ℕ) (took : t.ticks ≡ before_root)
      (all_settled : SettlesAll w job.given job.budget (settled t)) (e : Executed) (count : ℕ) (ran : IsRan job count w t e) where
    abbrev events : List Event
    events = events_in (items_of e.assembled.items)

    abbrev says : List (List ℕ)
    says = reported ++ e.assembled.says.items

    abbrev ticks : ℕ
    ticks = before_root + e.assembled.ticks

    abbrev expected : Pieces
    expected = root_pieces job w t

    abbrev d : Cut Task
    d = root_cut job w t

    says_are : t.says ++ messages_of d.passed ≡ says
    says_are = ap (λ ms. ms ++ messages_of d.passed) said ∙ ap (λ ms. reported ++ ms) (sym ran.messages)

    ticks_are : t.ticks + tick_count d.passed ≡ ticks
    ticks_are = ap (λ n. n + tick_count d.passed) took ∙ ap (λ n. before_root + n) (sym ran.ticks)

    -- what a whole run put can be written
    put_result : RunsPutResults → IsNamedWorld w → e.assembled.end ≡ None → IsResult events
    put_result law named is =
        subst IsResult (sym ran.events)
        (law w job.given job.budget t (job.budget - t.ticks) job.most_events named all_settled
        (whole_end d.end (subst (EndsIn d.end) is ran.end)))

    whole_expected : e.assembled.end ≡ None → IsEvaluated job w (whole_answer sheet.method job.stats says events ticks expected)
    whole_expected is =
        let a : IsCutAnswer job.stats w.sheet t expected d
        (whole_answer w.sheet.method job.stats (t.says ++ messages_of d.passed) (events_of d.passed) (t.ticks + tick_count d.passed) expected) =
        whole_answers job.stats w.sheet d.passed (t.says ++ messages_of d.passed) (t.ticks + tick_count d.passed) expected d.end
        (subst (EndsIn d.end) is ran.end) in
        let same : whole_answer w.sheet.method job.stats (t.says ++ messages_of d.passed) (events_of d.passed) (t.ticks + tick_count d.passed) expected
        ≡ whole_answer sheet.method job.stats says events ticks expected =
        ap (λ (q : Sheet). whole_answer q.method job.stats (t.says ++ messages_of d.passed) (events_of d.passed) (t.ticks + tick_count d.passed) expected)
        (sym of)
        ∙ ap (λ ms. whole_answer sheet.method job.stats ms (events_of d.passed) (t.ticks + tick_count d.passed) expected) says_are
        ∙ ap (λ es. whole_answer sheet.method job.stats says es (t.ticks + tick_count d.passed) expected) (sym ran.events)
        ∙ ap (λ n. whole_answer sheet.method job.stats says events n expected) ticks_are in
        in_root {t = t} all_settled (subst (IsCutAnswer job.stats w.sheet t expected d) same a)

    stopped_expected : (s : Spot) → e.assembled.end ≡ Some s → IsEvaluated job w (stopped_answer sheet.modules s says ticks expected)
    stopped_expected s is =
        let a : IsCutAnswer job.stats w.sheet t expected d
        (stopped_answer w.sheet.modules s (t.says ++ messages_of d.passed) (t.ticks + tick_count d.passed) expected) =
        stopped_answers job.stats w.sheet d.passed (t.says ++ messages_of d.passed) (t.ticks + tick_count d.passed) expected d.end s
        (subst (EndsIn d.end) is ran.end) in
        let same : stopped_answer w.sheet.modules s (t.says ++ messages_of d.passed) (t.ticks + tick_count d.passed) expected
        ≡ stopped_answer sheet.modules s says ticks expected =
        ap (λ (q : Sheet). stopped_answer q.modules s (t.says ++ messages_of d.passed) (t.ticks + tick_count d.passed) expected) (sym of)
        ∙ ap (λ ms. stopped_answer sheet.modules s ms (t.ticks + tick_count d.passed) expected) says_are
        ∙ ap (λ n. stopped_answer sheet.modules s says n expected) ticks_are in
        in_root {t = t} all_settled (subst (IsCutAnswer job.stats w.sheet t expected d) same a)

    -- the reply has its pieces
    runs : (reply : Reply) (pieces : CodePieces) → reply.pieces ≡ pieces → pieces.claims.items ≡ e.claims.items → pieces.inline ≡ e.assembled.inline
        → pieces.worked ≡ e.worked → (reply.status ≡ OK → e.assembled.end ≡ None) → RunsPieces count expected reply
    runs reply pieces has c i k ok =
        let all = ran.run in
        let q : AreRun expected (reply.status ≡ OK) count e.claims.items e.assembled.inline e.worked = record {
          claimed = all.claimed;
          workers = all.workers;
          first = all.first;
          whole = λ s. all.whole (ok s);
          taken = all.taken;
          again = all.again;
          reached = all.reached;
          bound = all.bound;
          idle = all.idle;
        } in
        subst (λ (p : CodePieces). AreRun expected (reply.status ≡ OK) count p.claims.items p.inline p.worked) (sym has)
        (subst (λ cs. AreRun expected (reply.status ≡ OK) count cs pieces.inline pieces.worked) (sym c)
        (subst (λ n. AreRun expected (reply.status ≡ OK) count e.claims.items n pieces.worked) (sym i)
        (subst (λ n. AreRun expected (reply.status ≡ OK) count e.claims.items e.assembled.inline n) (sym k) q)))

    -- the root came to its end
    whole_so : RunsPutResults → (before all : Reply) (pieces : CodePieces) → e.assembled.end ≡ None → pieces.claims.items ≡ e.claims.items
        → pieces.inline ≡ e.assembled.inline → pieces.worked ≡ e.worked
        → reply_of before ≡ plain_whole sheet.method says events ticks
        → (IsResult events → ReadsAs (document_of sheet.method events) before.result.items)
        → reply_of all ≡ with_lines (before.lines.items ++ stats_lines job.stats before.ticks (length pieces.claims.items)) (reply_of before)
        → all.pieces ≡ pieces → Replies count (IsNamedWorld w) (IsEvaluated job w) all
    whole_so law before all pieces is c i k plain reads with has =
        let claimed = ran.run.whole is in
        let counted : length pieces.claims.items ≡ length expected.places =
        ap length c ∙ sym (claims-counted e.claims.items) ∙ ap length claimed.0 in
        let lines : before.lines.items ≡ message_lines says = ap (λ (a : Answer). a.lines) plain in
        let took_all : before.ticks ≡ ticks = ap (λ (a : Answer). a.ticks) plain in
        let result : before.result.items ≡ all.result.items = sym (ap (λ (a : Answer). a.result) with) in
        let same : answer_of all (document_of sheet.method events) expected ≡ whole_answer sheet.method job.stats says events ticks expected =
        ap (in_full (document_of sheet.method events) expected) with
        ∙ ap (λ a. in_full (document_of sheet.method events) expected
        (with_lines (before.lines.items ++ stats_lines job.stats before.ticks (length pieces.claims.items)) a)) plain
        ∙ ap (λ ls. in_full (document_of sheet.method events) expected
        (with_lines (ls ++ stats_lines job.stats before.ticks (length pieces.claims.items)) (plain_whole sheet.method says events ticks))) lines
        ∙ ap (λ n. in_full (document_of sheet.method events) expected
        (with_lines (message_lines says ++ stats_lines job.stats n (length pieces.claims.items)) (plain_whole sheet.method says events ticks))) took_all
        ∙ ap (λ n. in_full (document_of sheet.method events) expected
        (with_lines (message_lines says ++ stats_lines job.stats ticks n) (plain_whole sheet.method says events ticks))) counted in
        record {
          document = document_of sheet.method events;
          pieces = expected;
          answers = subst (IsEvaluated job w) (sym same) (whole_expected is);
          run = runs all pieces has c i k (λ s. is);
          reads = λ named. subst (ReadsAs (document_of sheet.method events)) result (reads (put_result law named is));
        }

    pub whole_in_root : {E : Type 0} → RunsPutResults → (r : Result Reply E) (before : Reply) (pieces : CodePieces) → e.assembled.end ≡ None
        → pieces.claims.items ≡ e.claims.items → pieces.inline ≡ e.assembled.inline → pieces.worked ≡ e.worked
        → reply_of before ≡ plain_whole sheet.method says events ticks
        → (IsResult events → ReadsAs (document_of sheet.method events) before.result.items)
        → IfOk r (λ all. reply_of all
        ≡ with_lines (before.lines.items ++ stats_lines job.stats before.ticks (length pieces.claims.items)) (reply_of before))
        → IfOk r (λ all. all.pieces ≡ pieces) → IfOk r (Replies count (IsNamedWorld w) (IsEvaluated job w))
    whole_in_root law (Err x) before pieces is c i k plain reads with has = tt
    whole_in_root law (Ok all) before pieces is c i k plain reads with has = whole_so law before all pieces is c i k plain reads with has

    -- or it ended in a fault, or at a limit
    pub stopped_in_root : (N : Type 0) (before all : Reply) (pieces : CodePieces) (s : Spot) → e.assembled.end ≡ Some s → pieces.claims.items ≡ e.claims.items
        → pieces.inline ≡ e.assembled.inline → pieces.worked ≡ e.worked
        → IsPlain (stopped_answer sheet.modules s says ticks no_pieces) before → reply_of all ≡ reply_of before → all.pieces ≡ pieces
        → Replies count N (IsEvaluated job w) all
    stopped_in_root N before all pieces s is c i k plain with has =
        let a : reply_of all ≡ stopped_answer sheet.modules s says ticks no_pieces = with ∙ ap (λ (p : Plain). p.answer) plain in
        record {
          document = None;
          pieces = expected;
          answers = subst (IsEvaluated job w) (sym (ap (in_full None expected) a)) (stopped_expected s is);
          run = runs all pieces has c i k (λ ok. let f : all.status ≡ RUN_FAULT = ap (λ (x : Answer). x.status) a in absurd (omega (arith, ok, f)));
          reads = λ named. tt;
        }
