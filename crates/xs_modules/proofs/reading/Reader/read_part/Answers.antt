use Rattle.std.proofs.Common.{refl}
use Rattle.std.proofs.lemmas.Result.{err_from_is_err_and}
use Rattle.xs_modules.specs.steps.Reader.{number_of}
use Rattle.xs_modules.specs.steps.Views.{mention_data}
use Rattle.xs_modules.proofs.FetchLemmas.{fetch_bad, fetch_failed, fetch_out, out_after_fetch, part_kept}
use Rattle.xs_modules.proofs.reading.Reader.read_part.Goals as goal

pub returns-in-Err-Failed-clause-reads : goal.returns-in-Err-Failed-clause-reads
returns-in-Err-Failed-clause-reads g c =
    fetch_failed (g.L.Library.files c.args.library.now) c.args.self.now.path.items (number_of c.args.self.now) (mention_data c.args.mention)
    c.as_str.result.now _ _ _ _ c.requires.asked c.as_str.ensures.text c.in-Err-Failed.field-0 c.in-Err-Failed.field-0-is c.in-Err-Failed.ensures.fetches

pub returns-in-Err-Bad-clause-reads : goal.returns-in-Err-Bad-clause-reads
returns-in-Err-Bad-clause-reads g c =
    rw c.in-Err-Bad.field-0-is (fetch_bad (g.L.Library.files c.args.library.now) c.args.self.now.path.items (number_of c.args.self.now)
    (mention_data c.args.mention) c.as_str.result.now _ _ _ _ c.requires.asked c.as_str.ensures.text c.in-Err-Bad.field-0 _ _ c.in-Err-Bad.field-0-is
    c.in-Err-Bad.ensures.fetches)

pub returns-in-Err-NoMemory-clause-reads : goal.returns-in-Err-NoMemory-clause-reads
returns-in-Err-NoMemory-clause-reads g c =
    fetch_out (g.L.Library.files c.args.library.now) c.args.self.now.path.items (number_of c.args.self.now) (mention_data c.args.mention)
    c.as_str.result.now _ _ _ _ c.requires.asked c.as_str.ensures.text c.in-Err-NoMemory.field-0 c.in-Err-NoMemory.field-0-is
    c.in-Err-NoMemory.ensures.fetches

pub returns-in_err-elements-clause-reads : goal.returns-in_err-elements-clause-reads
returns-in_err-elements-clause-reads g c =
    let p = err_from_is_err_and c.from_residual.result c.from_residual.ensures.1 in
    rw (p.1, p.2) (out_after_fetch (g.L.Library.files c.args.library.now) c.args.self.now.path.items (number_of c.args.self.now)
    (mention_data c.args.mention) c.as_str.result.now _ _ _ _ c.requires.asked c.as_str.ensures.text c.in-Ok.built c.in-Ok.ensures.fetches)

pub returns-in_err-copy-clause-reads : goal.returns-in_err-copy-clause-reads
returns-in_err-copy-clause-reads g c =
    let p = err_from_is_err_and c.from_residual-in_err-copy.result c.from_residual-in_err-copy.ensures.1 in
    rw (p.1, p.2) (out_after_fetch (g.L.Library.files c.args.library.now) c.args.self.now.path.items (number_of c.args.self.now)
    (mention_data c.args.mention) c.as_str.result.now _ _ _ _ c.requires.asked c.as_str.ensures.text c.in-Ok.built c.in-Ok.ensures.fetches)

pub returns-in_err-push-clause-reads : goal.returns-in_err-push-clause-reads
returns-in_err-push-clause-reads g c =
    let p = err_from_is_err_and c.from_residual-in_err-push.result c.from_residual-in_err-push.ensures.1 in
    rw (p.1, p.2) (out_after_fetch (g.L.Library.files c.args.library.now) c.args.self.now.path.items (number_of c.args.self.now)
    (mention_data c.args.mention) c.as_str.result.now _ _ _ _ c.requires.asked c.as_str.ensures.text c.in-Ok.built c.in-Ok.ensures.fetches)

pub returns-in_err-push-2-clause-reads : goal.returns-in_err-push-2-clause-reads
returns-in_err-push-2-clause-reads g c =
    let p = err_from_is_err_and c.from_residual-in_err-push-2.result c.from_residual-in_err-push-2.ensures.1 in
    rw (p.1, p.2) (out_after_fetch (g.L.Library.files c.args.library.now) c.args.self.now.path.items (number_of c.args.self.now)
    (mention_data c.args.mention) c.as_str.result.now _ _ _ _ c.requires.asked c.as_str.ensures.text c.in-Ok.built c.in-Ok.ensures.fetches)

pub returns-clause-reads : goal.returns-clause-reads
returns-clause-reads g c =
    part_kept (g.L.Library.files c.args.library.now) c.args.self.now (record { parts = c.push-2.new.self; path = c.push.new.self })
    (mention_data c.args.mention) c.args.sheet c.in_ok-elements.elements.items c.as_str.result.now _ _ _ _ _ c.in-Ok.built _ c.requires.asked
    c.as_str.ensures.text c.in-Ok.ensures.fetches c.in-Ok.ensures.lines c.in_ok-elements.ensures.elements c.in_ok-elements.ensures.inside refl
    c.in_ok-push-2.ensures.items c.in_ok-push.ensures.items c.in_ok-copy.ensures.text
