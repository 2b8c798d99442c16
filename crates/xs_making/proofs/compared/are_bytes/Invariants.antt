use Rattle.std.proofs.Common.{◌≡◌, drop}
use Rattle.xs_making.proofs.compared.are_bytes.Given as goal

-- if those that are left of both are the same, then all are
abbrev pub invariant-loop-byte : goal.invariant-loop-byte
invariant-loop-byte l = drop l.byte-index l.bytes ≡ l.rest → l.bytes ≡ l.others
