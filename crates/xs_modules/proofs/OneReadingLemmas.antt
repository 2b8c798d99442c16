-- Files give one reading alone: each reading to an end of its own is that of one function.
use Rattle.std.proofs.Common.{◌≡◌, ◌∙◌, ℕ, zero, suc, ◌+◌, ◌<◌, ◌==◌, true, false, cond, List, [], ◌∷◌, ◌++◌, Option, Some, None, Result, Ok, Err, refl, sym, ap, arith}
use Rattle.std.proofs.lemmas.Bool.{eq-eqb, ne_eqb}
use Rattle.xs_outside.specs.Edge.{Files}
use Rattle.xs_tree.specs.Record.{Record}
use Rattle.xs_build.specs.Document.{Outcome, document, tree, refused as refused_document}
use Rattle.xs_modules.specs.declared.modules.Modules.{Modules}
use Rattle.xs_modules.specs.declared.modules.ModulesEnd.{ModulesEnd}
use Rattle.xs_modules.specs.declared.modules.ModulesEnd.TheVariants.{Failed, Refused, NoMemory}
use Rattle.xs_modules.specs.Mentions.{Mention, mentions, named_by_words}
use Rattle.xs_modules.specs.Mentioned.{Mentioned, no_module, one, count}
use Rattle.xs_modules.specs.Reading.{End, whole, unread, refused, out_of_memory, IsTrouble, IsAsked, Reads, is_above, most_modules, module_limit, circular_module, too_many_modules}
use Rattle.xs_modules.specs.Reading.{none, circular, too_many, failed, bad, inside, behind, all, out_before, out_after}
use Rattle.xs_modules.specs.ReadingLaws.{IsOwn, OneReading, ReportsOnly}
use Rattle.xs_modules.specs.Results.{AreModules, Comes}

-- the names that are asked for, and the end
pub record Got : Type 0 where
  pub names : List (List ℕ)
  pub end : End

abbrev got : List (List ℕ) → End → Got
got names end = record { names = names; end = end }

-- a module that was read whole, and what comes behind it
abbrev behind_it : Mention → List Record → List ℕ → Mentioned → List (List ℕ) → End → Got
behind_it m rs lines within names (whole next) = got names (whole (one m rs lines within next))
behind_it m rs lines within names (unread name) = got names (unread name)
behind_it m rs lines within names (refused number name line) = got names (refused number name line)
behind_it m rs lines within names out_of_memory = got names out_of_memory

abbrev goes_on : Mention → List Record → List ℕ → List (List ℕ) → End → (Mentioned → Got) → Got
goes_on m rs lines names (whole within) rest = behind_it m rs lines within (m.name ∷ names ++ (rest within).names) (rest within).end
goes_on m rs lines names (unread name) rest = got (m.name ∷ names) (unread name)
goes_on m rs lines names (refused number name line) rest = got (m.name ∷ names) (refused number name line)
goes_on m rs lines names out_of_memory rest = got (m.name ∷ names) out_of_memory

abbrev document_read : Mention → Outcome → (List Record → List ℕ → Got) → Got
document_read m (tree rs lines) next = next rs lines
document_read m (refused_document fault line) next = got (m.name ∷ []) (refused fault m.name line)

abbrev file_read : Mention → Option (List ℕ) → (List Record → List ℕ → Got) → Got
file_read m None next = got (m.name ∷ []) (unread m.name)
file_read m (Some bytes) next = document_read m (document module_limit bytes) next

-- where one level below is read by `inner`
unfoldable over : (List (List ℕ) → ℕ → List Mention → Got) → Files → List (List ℕ) → ℕ → List Mention → Got
over inner files above n [] = got [] (whole no_module)
over inner files above n (m ∷ ms) =
    cond (is_above above m.name) (got [] (refused circular_module m.from m.line)) (
    cond (n == most_modules) (got [] (refused too_many_modules m.from m.line)) (
    file_read m (files m.name) (λ rs lines.
    let within = inner (above ++ m.name ∷ []) (n + 1) (mentions n m.name rs lines) in
    goes_on m rs lines within.names within.end (λ read. over inner files above (n + (1 + count read)) ms))))

unfoldable levels : ℕ → Files → List (List ℕ) → ℕ → List Mention → Got
levels zero files above n ms = got [] out_of_memory
levels (suc depth) files above n ms = over (levels depth files) files above n ms

module _ (files : Files) where
  asked_step : (inner : List (List ℕ) → ℕ → List Mention → Got) (above : List (List ℕ)) (n : ℕ) (m : Mention) (ms : List Mention) (bytes : List ℕ) (o : Outcome)
      → IsAsked above n m → files m.name ≡ Some bytes → document module_limit bytes ≡ o
      → over inner files above n (m ∷ ms) ≡ document_read m o (λ rs lines.
      let within = inner (above ++ m.name ∷ []) (n + 1) (mentions n m.name rs lines) in
      goes_on m rs lines within.names within.end (λ read. over inner files above (n + (1 + count read)) ms))
  unfolding over
  asked_step inner above n m ms bytes o asked e f =
      let room : (n == most_modules) ≡ false = ne_eqb n most_modules (λ is. absurd (omega (arith, asked.room, is))) in
      rw (asked.apart, room, e, f) refl

  inside_step : (m : Mention) (rs : List Record) (lines : List ℕ) (names : List (List ℕ)) (end : End) (rest : Mentioned → Got) → IsTrouble end
      → goes_on m rs lines names end rest ≡ got (m.name ∷ names) end
  inside_step m rs lines names (whole within) rest t = absurd t
  inside_step m rs lines names (unread name) rest t = refl
  inside_step m rs lines names (refused number name line) rest t = refl
  inside_step m rs lines names out_of_memory rest t = refl

  behind_step : (m : Mention) (rs : List Record) (lines : List ℕ) (within : Mentioned) (names : List (List ℕ)) (end : End) → IsTrouble end
      → behind_it m rs lines within names end ≡ got names end
  behind_step m rs lines within names (whole next) t = absurd t
  behind_step m rs lines within names (unread name) t = refl
  behind_step m rs lines within names (refused number name line) t = refl
  behind_step m rs lines within names out_of_memory t = refl

  -- a reading to an end of its own is the function's
  is_reading : (depth : ℕ) {above : List (List ℕ)} {n : ℕ} {ms : List Mention} {names : List (List ℕ)} {end : End}
      → Reads (Some files) above n ms names end → IsOwn end → most_modules < depth + n → over (levels depth files) files above n ms ≡ got names end
  unfolding over levels
  is_reading depth none own deep = refl
  is_reading depth (circular is) own deep = rw is refl
  is_reading depth (too_many {number = n} apart full) own deep = let room : (n == most_modules) ≡ true = eq-eqb n most_modules full in rw (apart, room) refl
  is_reading depth (failed asked) own deep = absurd own
  is_reading depth (bad {above = above} {number = n} {m = m} {ms = ms} {fault = fault} {line = line} r) own deep =
      asked_step (levels depth files) above n m ms r.bytes (refused_document fault line) r.asked r.holds r.document
  is_reading zero (inside r below t) own deep = absurd (omega (arith, r.asked.room, deep))
  is_reading (suc depth) (inside {above = above} {number = n} {m = m} {ms = ms} {rs = rs} {lines = lines} {names = names} {end = end} r below t) own deep =
      asked_step (levels (suc depth) files) above n m ms r.bytes (tree rs lines) r.asked r.holds r.document
      ∙ ap (λ (x : Got). goes_on m rs lines x.names x.end (λ read. over (levels (suc depth) files) files above (n + (1 + count read)) ms))
      (is_reading depth below own (omega (arith, deep)))
      ∙ inside_step m rs lines names end (λ read. over (levels (suc depth) files) files above (n + (1 + count read)) ms) t
  is_reading zero (behind r below rest t) own deep = absurd (omega (arith, r.asked.room, deep))
  is_reading (suc depth) (behind {above = above} {number = n} {m = m} {ms = ms} {rs = rs} {lines = lines} {names = names} {later = later} {within = within}
      {end = end} r below rest t) own deep =
      asked_step (levels (suc depth) files) above n m ms r.bytes (tree rs lines) r.asked r.holds r.document
      ∙ ap (λ (x : Got). goes_on m rs lines x.names x.end (λ read. over (levels (suc depth) files) files above (n + (1 + count read)) ms))
      (is_reading depth below tt (omega (arith, deep)))
      ∙ ap (λ (x : Got). behind_it m rs lines within (m.name ∷ names ++ x.names) x.end) (is_reading (suc depth) rest own (omega (arith, deep)))
      ∙ behind_step m rs lines within (m.name ∷ names ++ later) end t
  is_reading zero (all r below rest) own deep = absurd (omega (arith, r.asked.room, deep))
  is_reading (suc depth) (all {above = above} {number = n} {m = m} {ms = ms} {rs = rs} {lines = lines} {names = names} {later = later} {within = within}
      {next = next} r below rest) own deep =
      asked_step (levels (suc depth) files) above n m ms r.bytes (tree rs lines) r.asked r.holds r.document
      ∙ ap (λ (x : Got). goes_on m rs lines x.names x.end (λ read. over (levels (suc depth) files) files above (n + (1 + count read)) ms))
      (is_reading depth below tt (omega (arith, deep)))
      ∙ ap (λ (x : Got). behind_it m rs lines within (m.name ∷ names ++ x.names) x.end) (is_reading (suc depth) rest tt (omega (arith, deep)))
  is_reading depth out_before own deep = absurd own
  is_reading depth (out_after asked) own deep = absurd own

pub one_reading : OneReading
one_reading files above n ms names names' end end' r r' own own' =
    let e = sym (is_reading files (suc most_modules) r own (deep n)) ∙ is_reading files (suc most_modules) r' own' (deep n) in
    (ap (λ (x : Got). x.names) e, ap (λ (x : Got). x.end) e)
  where
    deep : (n : ℕ) → most_modules < suc most_modules + n
    deep n = omega arith

-- an answer that came of the files reports their one end
pub reports_only : (result : Result Modules ModulesEnd) (files : Option Files) (name : List ℕ) (a b f g : List (List ℕ))
    → Comes AreModules result files [] 0 (named_by_words name ∷ []) a b f g → ReportsOnly result files name
reports_only result None name a b f g comes = tt
reports_only (Ok modules) (Some files) name a b f g comes = λ names end r own.
    (comes.0, sym (one_reading files [] 0 (named_by_words name ∷ []) comes.1.names names (whole comes.0) end comes.1.reads r tt own).1, comes.2)
reports_only (Err (Failed n)) (Some files) name a b f g comes = λ names end r own. tt
reports_only (Err (Refused number n line)) (Some files) name a b f g comes = λ names end r own.
    sym (one_reading files [] 0 (named_by_words name ∷ []) comes.names names (refused number n line) end comes.reads r tt own).1
reports_only (Err NoMemory) (Some files) name a b f g comes = λ names end r own. tt
