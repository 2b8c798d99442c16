-- The table of URIs grows, and nothing else.
use Rattle.std.proofs.Common.{refl}
use Rattle.std.proofs.lemmas.Str.{IsUtf8-string_bytes}
use Rattle.xs_tree.proofs.StoreLemmas.{Keeps-same, Grows-same, as_it_was}
use Rattle.xs_tree.proofs.store.Store.keep_uri.Goals as goal

pub returns-in_err-uri-clause-grown : goal.returns-in_err-uri-clause-grown
returns-in_err-uri-clause-grown c = Grows-same c.args.self.now

pub returns-in_err-number-clause-grown : goal.returns-in_err-number-clause-grown
returns-in_err-number-clause-grown c =
    record { names = Keeps-same c.args.self.now.names; uris = c.intern.ensures.kept; text = as_it_was _ _ (IsUtf8-string_bytes c.args.self.now.text) refl }

pub returns-clause-grown : goal.returns-clause-grown
returns-clause-grown c =
    record { names = Keeps-same c.args.self.now.names; uris = c.intern.ensures.kept; text = as_it_was _ _ (IsUtf8-string_bytes c.args.self.now.text) refl }
