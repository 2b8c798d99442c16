-- What a run is asked to do.
use Rattle.std.specs.Prelude.{ℕ, List, Option, Bool}

abbrev pub Text : Type 0
Text = List ℕ

-- a name, and the text or the path that it is given
abbrev pub Pair : Type 0
Pair = Text × Text

-- A stylesheet and a source, with the texts of global parameters; a stylesheet alone, which is only checked; or the made input
-- of so many rows.
pub data Job : Type 0 where
  files : Text → Text → List Pair → Job
  check : Text → Job
  load : ℕ → Job

pub record Choice : Type 0 where
  -- the greatest number of ticks
  pub budget : ℕ
  -- the greatest number of events, where there is one
  pub max_events : Option ℕ
  pub workers : ℕ
  -- how many nodes of a loop make a piece
  pub grain : ℕ
  -- whether the ticks and the pieces are reported, and the ticks of each place
  pub stats : Bool
  pub profile : Bool
  -- the tick whose place is reported
  pub at : Option ℕ
  -- whether the result is written while the run goes on
  pub stream : Bool
  pub job : Job
  -- the names and paths of further documents
  pub documents : List Pair
