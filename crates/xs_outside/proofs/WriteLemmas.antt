-- What a row of writes leaves of a piece, and of what the sink holds.
use Rattle.std.proofs.Common.{◌≡◌, ℕ, ◌-◌, List, ◌++◌, Option, Some, None, IfSome, length, take, drop, subst, append_assoc, arith, take-append-drop, take_all, length-drop}

-- what is held grew by `part`, where it is reported
abbrev pub HoldsMore : Option (List ℕ) → Option (List ℕ) → List ℕ → Type 0
HoldsMore old new part = IfSome old (λ b. new ≡ Some (b ++ part))

pub holds-more : (old mid new : Option (List ℕ)) (done part : List ℕ) → HoldsMore old mid done → HoldsMore mid new part → HoldsMore old new (done ++ part)
holds-more None mid new done part first second = tt
holds-more (Some b) mid new done part first second =
    let e : new ≡ Some ((b ++ done) ++ part) = (let P : Option (List ℕ) → Type 0 = λ m. HoldsMore m new part in subst P first second) in
    rw append_assoc at e

-- after n of the bytes that were left, the piece is what was done, these, and the others
pub left-over : (bytes done rest : List ℕ) (n : ℕ) → bytes ≡ done ++ rest → bytes ≡ (done ++ take n rest) ++ take (length rest - n) (drop n rest)
left-over bytes done rest n e =
    let all : take (length rest - n) (drop n rest) ≡ drop n rest = take_all _ _ (omega (arith, length-drop n rest)) in
    rw (all, append_assoc, take-append-drop) e
