-- The buffer grows by the text, or stays.
use Rattle.std.proofs.Common.{arith, string_bytes, ◌≡◌, ◌+◌, length}
use Rattle.std.proofs.lemmas.Str.{IsUtf8-string_bytes}
use Rattle.xs_tree.proofs.StoreLemmas.{Keeps-same, Grows-same, IsRange-added, IsRange-nothing, as_it_was, lengthened}
use Rattle.xs_tree.proofs.store.Store.push_text.Goals as goal

pub returns-then-is_empty-clause-within : goal.returns-then-is_empty-clause-within
returns-then-is_empty-clause-within c = IsRange-nothing _ (IsUtf8-string_bytes c.args.self.now.text)

pub returns-then-is_empty-clause-grown : goal.returns-then-is_empty-clause-grown
returns-then-is_empty-clause-grown c = Grows-same c.args.self.now

pub returns-in_err-start-clause-grown : goal.returns-in_err-start-clause-grown
returns-in_err-start-clause-grown c = Grows-same c.args.self.now

pub returns-in_err-end-clause-grown : goal.returns-in_err-end-clause-grown
returns-in_err-end-clause-grown c = Grows-same c.args.self.now

pub returns-in_err-push_str-clause-grown : goal.returns-in_err-push_str-clause-grown
returns-in_err-push_str-clause-grown c =
    record {
      names = Keeps-same c.args.self.now.names;
      uris = Keeps-same c.args.self.now.uris;
      text =
          as_it_was _ _ (IsUtf8-string_bytes c.args.self.now.text) c.in_err-push_str.ensures.bytes;
    }

pub returns-clause-within : goal.returns-clause-within
returns-clause-within c =
    let start_is : c.in_ok-start.start ≡ length (string_bytes c.args.self.now.text) =
    omega (arith, c.in_ok-start.ensures.same, c.len.ensures, c.args.self.now.text.bytes.ok.0) in
    let end_is : c.in_ok-end.end ≡ length (string_bytes c.args.self.now.text) + length c.args.text.now =
    omega (arith, c.in_ok-end.ensures.same, c.len-2.ensures, c.saturating_add.ensures, c.args.self.now.text.bytes.ok.0) in
    IsRange-added (string_bytes c.args.self.now.text) c.args.text.now
    (string_bytes c.push_str.new.self) c.in_ok-start.start c.in_ok-end.end c.in_ok-push_str.ensures.bytes c.utf8.text start_is end_is

pub returns-clause-grown : goal.returns-clause-grown
returns-clause-grown c =
    record {
      names = Keeps-same c.args.self.now.names;
      uris = Keeps-same c.args.self.now.uris;
      text =
          lengthened _ _ c.args.text.now (IsUtf8-string_bytes c.args.self.now.text) c.utf8.text c.in_ok-push_str.ensures.bytes;
    }
