use Rattle.std.proofs.Common.{Some, None, true, false}
use Rattle.xs_pyx.proofs.RowLemmas.{row-nowhere}
use Rattle.xs_pyx.proofs.TextRowLemmas.{cut_behind_feed, found_in, text_row_found, taken_found, taken_nowhere, row_plain, row_escaped}
use Rattle.xs_pyx.proofs.rows.split_text.Goals as goal

pub returns-in-Some-clause-first : goal.returns-in-Some-clause-first
returns-in-Some-clause-first c =
    text_row_found c.range.result.now c.args.text.now c.in-Some.end c.range.ensures.value
    (found_in c.as_bytes.result.now c.args.text.now c.find_end-end.result.0 (Some c.in-Some.end)
    c.as_bytes.ensures.value c.in-Some.is c.find_end-end.ensures.end)

pub returns-in-Some-clause-plain : goal.returns-in-Some-clause-plain
returns-in-Some-clause-plain c =
    row_plain c.range.result.now c.as_bytes.result.now c.args.text.now true c.find_end-end.result.1
    (text_row_found c.range.result.now c.args.text.now c.in-Some.end c.range.ensures.value
    (found_in c.as_bytes.result.now c.args.text.now c.find_end-end.result.0 (Some c.in-Some.end)
    c.as_bytes.ensures.value c.in-Some.is c.find_end-end.ensures.end))
    c.as_bytes.ensures.value c.find_end-end.ensures.plain

pub returns-in-Some-clause-taken : goal.returns-in-Some-clause-taken
returns-in-Some-clause-taken c =
    taken_found c.args.text.now c.in-Some.end
    (found_in c.as_bytes.result.now c.args.text.now c.find_end-end.result.0 (Some c.in-Some.end)
    c.as_bytes.ensures.value c.in-Some.is c.find_end-end.ensures.end)

pub returns-in-Some-clause-cut : goal.returns-in-Some-clause-cut
returns-in-Some-clause-cut c =
    cut_behind_feed c.args.text.now c.in-Some.end c.utf8.text
    (found_in c.as_bytes.result.now c.args.text.now c.find_end-end.result.0 (Some c.in-Some.end)
    c.as_bytes.ensures.value c.in-Some.is c.find_end-end.ensures.end)

pub returns-in-None-clause-first : goal.returns-in-None-clause-first
returns-in-None-clause-first c =
    row-nowhere c.args.text.now
    (found_in c.as_bytes.result.now c.args.text.now c.find_end-end.result.0 None c.as_bytes.ensures.value c.in-None.is c.find_end-end.ensures.end)

pub returns-in-None-clause-plain : goal.returns-in-None-clause-plain
returns-in-None-clause-plain c =
    row_plain c.args.text.now c.as_bytes.result.now c.args.text.now false c.find_end-end.result.1
    (row-nowhere c.args.text.now
    (found_in c.as_bytes.result.now c.args.text.now c.find_end-end.result.0 None c.as_bytes.ensures.value c.in-None.is c.find_end-end.ensures.end))
    c.as_bytes.ensures.value c.find_end-end.ensures.plain

pub returns-in-None-clause-taken : goal.returns-in-None-clause-taken
returns-in-None-clause-taken c =
    taken_nowhere c.args.text.now
    (found_in c.as_bytes.result.now c.args.text.now c.find_end-end.result.0 None c.as_bytes.ensures.value c.in-None.is c.find_end-end.ensures.end)

pub returns-in-Some-clause-escaped : goal.returns-in-Some-clause-escaped
returns-in-Some-clause-escaped c =
    row_escaped c.range.result.now c.as_bytes.result.now c.args.text.now true c.find_end-end.result.1
    (text_row_found c.range.result.now c.args.text.now c.in-Some.end c.range.ensures.value
    (found_in c.as_bytes.result.now c.args.text.now c.find_end-end.result.0 (Some c.in-Some.end)
    c.as_bytes.ensures.value c.in-Some.is c.find_end-end.ensures.end))
    c.as_bytes.ensures.value c.find_end-end.ensures.escaped

pub returns-in-None-clause-escaped : goal.returns-in-None-clause-escaped
returns-in-None-clause-escaped c =
    row_escaped c.args.text.now c.as_bytes.result.now c.args.text.now false c.find_end-end.result.1
    (row-nowhere c.args.text.now
    (found_in c.as_bytes.result.now c.args.text.now c.find_end-end.result.0 None c.as_bytes.ensures.value c.in-None.is c.find_end-end.ensures.end))
    c.as_bytes.ensures.value c.find_end-end.ensures.escaped
