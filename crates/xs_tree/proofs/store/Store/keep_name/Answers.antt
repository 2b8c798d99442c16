-- The table of names grows, and nothing else.
use Rattle.std.proofs.Common.{refl}
use Rattle.std.proofs.lemmas.Str.{IsUtf8-string_bytes}
use Rattle.xs_tree.proofs.StoreLemmas.{Keeps-same, as_it_was}
use Rattle.xs_tree.proofs.store.Store.keep_name.Goals as goal

pub returns-clause-grown : goal.returns-clause-grown
returns-clause-grown c =
    record { names = c.intern_any.ensures.kept; uris = Keeps-same c.args.self.now.uris; text = as_it_was _ _ (IsUtf8-string_bytes c.args.self.now.text) refl }
