use Rattle.std.proofs.Common.{ℕ, zero, suc, ◌<◌, [], ◌∷◌, get_or, lit<, subst, sym}
use Rattle.std.specs.Str.{IsUtf8}
use Rattle.std.proofs.lemmas.Str.{IsUtf8-append, IsUtf8-from_ascii}
use Rattle.xs_result_lines.proofs.name_lines.append_byte.Goals as goal

ascii_one : (b : ℕ) → b < 128 → (i : ℕ) → get_or (b ∷ []) i 0 < 128
ascii_one b small zero = small
ascii_one b small (suc i) = lit< tt

pub returns-clause-utf8 : goal.returns-clause-utf8
returns-clause-utf8 c =
    λ h. subst IsUtf8 (sym c.in_ok-push.ensures.items)
    (IsUtf8-append c.args.out.now.items (c.args.byte ∷ []) h (IsUtf8-from_ascii (c.args.byte ∷ []) (ascii_one c.args.byte c.requires)))
