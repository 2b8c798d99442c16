-- What comes of some mentions and then of others.
use Rattle.std.proofs.Common.{◌≡◌, ℕ, ◌+◌, List, ◌∷◌, ◌++◌, Option, sym, subst, arith, append_assoc}
use Rattle.xs_outside.specs.Edge.{Files}
use Rattle.xs_tree.specs.Record.{Record}
use Rattle.xs_modules.specs.Mentions.{Mention}
use Rattle.xs_modules.specs.Mentioned.{Mentioned, no_module, one, count}
use Rattle.xs_modules.specs.Reading.{End, whole, out_of_memory, IsTrouble, Reads, none, circular, too_many, failed, bad, inside, behind, all, out_before, out_after}
use Rattle.xs_modules.specs.steps.Joining.{join}

-- the number behind no module
pub behind_none : (n : ℕ) → n + count no_module ≡ n
unfolding count
behind_none n = omega arith

-- and behind one with those that it mentions, and the next ones
pub behind_one : (n : ℕ) (m : Mention) (rs : List Record) (lines : List ℕ) (within next : Mentioned)
    → n + count (one m rs lines within next) ≡ n + (1 + count within) + count next
unfolding count
behind_one n m rs lines within next = omega arith

-- all of both were read
pub all_of_both : {files : Option Files} {above : List (List ℕ)} {n : ℕ} {ms : List Mention} {names : List (List ℕ)} {done : Mentioned}
    → Reads files above n ms names (whole done) → (ms' : List Mention) (names' : List (List ℕ)) (more : Mentioned)
    → Reads files above (n + count done) ms' names' (whole more) → Reads files above n (ms ++ ms') (names ++ names') (whole (join done more))
unfolding join
all_of_both {files = files} {above = above} {n = n} none ms' names' more r = subst (λ k. Reads files above k ms' names' (whole more)) (behind_none n) r
all_of_both {files = files} {above = above} {n = n}
    (all {m = m} {ms = ms} {rs = rs} {lines = lines} {names = inner} {later = later} {within = within} {next = next} read below rest) ms' names' more r =
    subst (λ ns. Reads files above n (m ∷ ms ++ ms') (m.name ∷ ns) (whole (one m rs lines within (join next more)))) (sym (append_assoc inner later names'))
    (all read below (all_of_both rest ms' names' more (subst (λ k. Reads files above k ms' names' (whole more)) (behind_one n m rs lines within next) r)))
all_of_both (inside read below trouble) ms' names' more r = absurd trouble
all_of_both (behind read below rest trouble) ms' names' more r = absurd trouble

-- or there is trouble in the second ones
pub trouble_behind : {files : Option Files} {above : List (List ℕ)} {n : ℕ} {ms : List Mention} {names : List (List ℕ)} {done : Mentioned}
    → Reads files above n ms names (whole done) → (ms' : List Mention) (names' : List (List ℕ)) (end : End)
    → Reads files above (n + count done) ms' names' end → IsTrouble end → Reads files above n (ms ++ ms') (names ++ names') end
trouble_behind {files = files} {above = above} {n = n} none ms' names' end r trouble = subst (λ k. Reads files above k ms' names' end) (behind_none n) r
trouble_behind {files = files} {above = above} {n = n}
    (all {m = m} {ms = ms} {rs = rs} {lines = lines} {names = inner} {later = later} {within = within} {next = next} read below rest) ms' names' end r trouble =
    subst (λ ns. Reads files above n (m ∷ ms ++ ms') (m.name ∷ ns) end) (sym (append_assoc inner later names'))
    (behind read below
    (trouble_behind rest ms' names' end (subst (λ k. Reads files above k ms' names' end) (behind_one n m rs lines within next) r) trouble) trouble)
trouble_behind (inside read below t) ms' names' end r trouble = absurd t
trouble_behind (behind read below rest t) ms' names' end r trouble = absurd t

-- or in the first ones, whatever comes behind them
pub trouble_before : {files : Option Files} {above : List (List ℕ)} {n : ℕ} {ms : List Mention} {names : List (List ℕ)} {end : End}
    → Reads files above n ms names end → IsTrouble end → (ms' : List Mention) → Reads files above n (ms ++ ms') names end
trouble_before none trouble ms' = absurd trouble
trouble_before (circular is) trouble ms' = circular is
trouble_before (too_many apart full) trouble ms' = too_many apart full
trouble_before (failed asked) trouble ms' = failed asked
trouble_before (bad is) trouble ms' = bad is
trouble_before (inside read below t) trouble ms' = inside read below t
trouble_before (behind read below rest t) trouble ms' = behind read below (trouble_before rest t ms') t
trouble_before (all read below rest) trouble ms' = absurd trouble
trouble_before out_before trouble ms' = out_before
trouble_before (out_after asked) trouble ms' = out_after asked

-- memory runs out after all was read
pub out_at_end : {files : Option Files} {above : List (List ℕ)} {n : ℕ} {ms : List Mention} {names : List (List ℕ)} {done : Mentioned}
    → Reads files above n ms names (whole done) → Reads files above n ms names out_of_memory
out_at_end none = out_before
out_at_end (all read below rest) = behind read below (out_at_end rest) tt
out_at_end (inside read below t) = absurd t
out_at_end (behind read below rest t) = absurd t
