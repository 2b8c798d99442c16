-- Nodes that stand one after another among others.
use Rattle.std.proofs.Common.{◌≡◌, ℕ, ◌+◌, List, [], ◌∷◌, ◌++◌, sym, ◌∙◌, ap, length, append_assoc, append-nil, length-append, arith}
use Rattle.std.proofs.Math.Seq.{get_or-append_seam}
use Rattle.xs_tree.specs.Record.{Record, root_record, at}
use Rattle.xs_build.specs.steps.Invariant.{StandFrom}

-- they stay where they are when more follow
pub stand_append : (rs xs : List Record) (place : ℕ) (nodes : List Record) → StandFrom rs place nodes → StandFrom (rs ++ xs) place nodes
stand_append rs xs place nodes s = record {
  before = s.before;
  behind = s.behind ++ xs;
  from = s.from;
  among = ap (λ t. t ++ xs) s.among ∙ append_assoc s.before (nodes ++ s.behind) xs ∙ ap (λ t. s.before ++ t) (append_assoc nodes s.behind xs);
}

-- what was added at the end
pub stand_last : (rs : List Record) (place : ℕ) (nodes : List Record) → length rs ≡ place → StandFrom (rs ++ nodes) place nodes
stand_last rs place nodes is = record {
  before = rs;
  behind = [];
  from = is;
  among = ap (λ t. rs ++ t) (sym (append-nil nodes));
}

pub stand_none : (rs : List Record) (place : ℕ) → length rs ≡ place → StandFrom rs place []
stand_none rs place is = record { before = rs; behind = []; from = is; among = sym (append-nil rs) }

-- the first of them, and the others
pub stand_at : (rs : List Record) (place : ℕ) (r : Record) (nodes : List Record) → StandFrom rs place (r ∷ nodes) → at rs place ≡ r
stand_at rs place r nodes s =
    ap (λ t. at t place) s.among ∙ ap (λ k. at (s.before ++ r ∷ (nodes ++ s.behind)) k) (sym s.from)
    ∙ get_or-append_seam s.before r (nodes ++ s.behind) root_record

pub stand_rest : (rs : List Record) (place : ℕ) (r : Record) (nodes : List Record) → StandFrom rs place (r ∷ nodes) → StandFrom rs (place + 1) nodes
stand_rest rs place r nodes s = record {
  before = s.before ++ r ∷ [];
  behind = s.behind;
  from = omega (arith, s.from, length-append s.before (r ∷ []));
  among = s.among ∙ sym (append_assoc s.before (r ∷ []) (nodes ++ s.behind));
}
