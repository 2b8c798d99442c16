-- What holds after a run, whatever its arguments, files, sinks, workers and schedule.
use Rattle.std.specs.List.{All, Contains}
use Rattle.std.specs.Prelude.{◌≡◌, ◌≢◌, ◌<◌, ◌≤◌, ◌+◌, ◌*◌, ℕ, ◌⊎◌, Bool, false, List, [], ◌∷◌, ◌++◌, map, length, Option, Some, None, IfSome}
use Rattle.xs_core.specs.Good.{total}
use Rattle.xs_outside.specs.Edge.{Files, IsBeginning, raised}
use Rattle.xs_reply.specs.declared.reply.ReportedFault.{ReportedFault}
use Rattle.xs_reply.specs.declared.status.TheConstants.{OK, RUN_FAULT, WRITE_FAULT, NO_MEMORY}
use Rattle.xs_reply.specs.Answer.{Answer, Pieces, Place}
use Rattle.xs_reply.specs.Expected.{IsExpected}
use Rattle.xs_reply.specs.Job.{Request}
use Rattle.xs_reply.specs.Made.{files_of}
use Rattle.xs_reply.specs.ReadBack.{ReadsBack}
use Rattle.xs_core.specs.declared.place.Claim.{Claim}

-- P of an answer that is expected. Where the library records its files there is one alone (`OnlyExpected`); where it records none, these are some
-- files of which it is expected.
abbrev pub OfExpected : Option Files → Option Request → (failed failed_after : List (List ℕ)) → (Answer → Type 0) → Type 0
OfExpected files request failed failed_after P = (answer : Answer) × IsExpected files request failed failed_after answer × P answer

-- the files of a run, where they are known: those that it makes, or those that its library records
abbrev pub files_for : Option Request → Option Files → Option Files
files_for None files = files
files_for (Some request) files = files_of request.made files

-- where files are known, P of each answer for which D holds
abbrev pub WhereKnown : Option Files → (D P : Answer → Type 0) → Type 0
WhereKnown None D P = Unit {0}
WhereKnown (Some files) D P = (answer : Answer) → D answer → P answer

-- where the files of a run are known, P of whatever answer is expected
abbrev pub OnlyExpected : Option Files → Option Request → (failed failed_after : List (List ℕ)) → (Answer → Type 0) → Type 0
OnlyExpected files request failed failed_after P = WhereKnown (files_for request files) (IsExpected files request failed failed_after) P

-- A sink that records its bytes holds what it held and then this many more.
abbrev pub Gained : Option (List ℕ) → Option (List ℕ) → (List ℕ → Type 0) → Type 0
Gained before after P = IfSome before (λ held. (taken : List ℕ) × (after ≡ Some (held ++ taken)) × P taken)

-- the run was cut short: a write failed, or memory ran out
abbrev pub IsCutShort : ℕ → Type 0
IsCutShort status = (status ≡ WRITE_FAULT) ⊎ (status ≡ NO_MEMORY)

-- a beginning of these bytes; all of them, unless the run was cut short
abbrev pub IsWritten : List ℕ → ℕ → List ℕ → Type 0
IsWritten bytes status taken = IsBeginning taken bytes × (IsCutShort status ⊎ (taken ≡ bytes))

-- no byte of a result comes before all lines
abbrev pub LinesFirst : List ℕ → (out out_after err err_after : Option (List ℕ)) → Type 0
LinesFirst lines out out_after err err_after =
    Gained out out_after (λ taken. (taken ≡ []) ⊎ Gained err err_after (λ reported. reported ≡ lines))

-- An answer was written: the run ended with this status, and the sinks hold these bytes before it and after.
pub record Writes (expected : Answer) (ended : ℕ) (out out_after err err_after : Option (List ℕ)) : Type 0 where
  pub status : (ended ≡ expected.status) ⊎ IsCutShort ended
  pub result : Gained out out_after (IsWritten expected.result ended)
  pub lines : Gained err err_after (IsWritten expected.lines ended)
  pub lines_first : LinesFirst expected.lines out out_after err err_after

-- What a report says besides what was written: the status, the ticks, the fault, the number of pieces, how many of them were evaluated
-- again in their place, the claims, and how many ticks all pieces took.
pub record Account : Type 0 where
  pub status : ℕ
  pub ticks : ℕ
  pub fault : Option ReportedFault
  pub pieces : ℕ
  pub inline : ℕ
  pub claims : List Claim
  pub worked : ℕ

-- some of these, in their order
pub data AreSome {A : Type 0} : List A → List A → Type 0 where
  none : AreSome [] []
  skipped : {x : A} {xs ys : List A} → AreSome ys xs → AreSome ys (x ∷ xs)
  taken : {x : A} {xs ys : List A} → AreSome ys xs → AreSome (x ∷ ys) (x ∷ xs)

abbrev pub claimed_places : List Claim → List Place
claimed_places claims = map (λ claim. claim.place) claims

-- the ticks that the claimed pieces take themselves
abbrev pub claimed_ticks : Pieces → List Claim → ℕ
claimed_ticks expected claims = total expected.taken (claimed_places claims)

-- How the pieces that are expected were run by so many workers: by the claims in the order of places, how many pieces were evaluated again
-- in their place, and how many ticks all took.
pub record AreRun (expected : Pieces) (is_whole : Type 0) (count : ℕ) (claims : List Claim) (inline worked : ℕ) : Type 0 where
  -- each was claimed at most once, and no other place was; the root by the first worker
  pub claimed : AreSome (claimed_places claims) expected.places
  pub workers : All (λ claim. claim.worker < count) claims
  pub first : All (λ claim. claim.place ≡ [] → claim.worker ≡ 0) claims
  -- where the run came to its end, each was, none was evaluated again, and they took the ticks that are expected and no more
  pub whole : is_whole → (claimed_places claims ≡ expected.places) × (inline ≡ 0) × (worked ≡ expected.ticks)
  -- they took the ticks that are expected, and maybe more; one is evaluated again only where that, and the ticks of the claimed ones, are
  -- above their limit; and there is a bound
  pub taken : expected.ticks ≤ worked
  pub again : 0 < inline → (expected.limit < worked) × (expected.limit < claimed_ticks expected claims)
  -- and so it is with a piece that was reached and not claimed
  pub reached : (p : Place) → Contains expected.reached p → (Contains (claimed_places claims) p → ⊥) → expected.limit < claimed_ticks expected claims
  pub bound : worked ≤ 2 * expected.limit + 1024 * count
  -- where there are none, nothing was done
  pub idle : expected.places ≡ [] → (inline ≡ 0) × (worked ≡ 0)

-- The pieces of a run by so many workers: as many as claims, which are of those that are expected.
pub record AreClaimed (count : ℕ) (expected : Answer) (account : Account) : Type 0 where
  pub number : account.pieces ≡ length account.claims
  pub run : AreRun expected.pieces (expected.status ≡ OK) count account.claims account.inline account.worked

-- A run by so many workers gave what is expected: the report has this account, and the sinks hold these bytes before the run and after.
pub record Gives (streamed : Bool) (count : ℕ) (expected : Answer) (account : Account) (out out_after err err_after : Option (List ℕ)) : Type 0 where
  -- the status is the one that is expected, unless the run was cut short
  pub status : (account.status ≡ expected.status) ⊎ IsCutShort account.status
  -- `out` holds what it held, and then a beginning of the result; all of it, unless the run was cut short
  pub result : Gained out out_after (IsWritten expected.result account.status)
  -- the same of `err` and the lines
  pub lines : Gained err err_after (IsWritten expected.lines account.status)
  -- no byte of the result comes before all lines, where it is not streamed
  pub lines_first : streamed ≡ false → LinesFirst expected.lines out out_after err err_after
  -- the ticks are those that are expected, also where a write failed
  pub ticks : account.status ≢ NO_MEMORY → account.ticks ≡ expected.ticks
  -- and so is the fault
  pub fault : account.status ≢ NO_MEMORY → account.fault ≡ expected.fault
  -- and the claims are of the pieces that are expected
  pub pieces : account.status ≢ NO_MEMORY → AreClaimed count expected account
  -- and the lines of its result read back as the document that this very run put
  pub document : account.status ≢ NO_MEMORY → ReadsBack expected

-- only these statuses come with ticks
abbrev pub HasTicks : ℕ → Type 0
HasTicks status = (status ≡ OK) ⊎ ((status ≡ RUN_FAULT) ⊎ (status ≡ WRITE_FAULT))

-- one write of one of two sinks failed: its count of faults is one higher, and the other's is what it was
abbrev pub OneFault : (out out_after err err_after : ℕ) → Type 0
OneFault out out_after err err_after =
    ((out_after ≡ raised out) × (err_after ≡ err)) ⊎ ((out_after ≡ out) × (err_after ≡ raised err))

-- What holds of a run whose result is written once the evaluation has ended: by its status, what `out` holds before it and after, and
-- the counts of faults of both sinks.
pub record AtOnce (ended : ℕ) (out out_after : Option (List ℕ)) (faults faults_after err_faults err_faults_after : ℕ) : Type 0 where
  -- `out` gains nothing with most statuses
  pub untouched : ended ≢ OK → ended ≢ WRITE_FAULT → out_after ≡ out
  -- one write failed, or none
  pub write_fault : ended ≡ WRITE_FAULT → OneFault faults faults_after err_faults err_faults_after
  pub no_fault : ended ≢ WRITE_FAULT → (faults_after ≡ faults) × (err_faults_after ≡ err_faults)
