-- A library and a sink that live in memory, as contracts see them, and what one call makes of each.
use Rattle.std.specs.Prelude.{ℕ, ◌-◌, List, ◌++◌, ◌==◌, Bool, ◌||◌, ◌&&◌, not, min, length, find, Result, Ok, Err, is_none, ⊤, Vec, String, string_bytes}
use Rattle.std.specs.declared.alloc.Global.{Global}
use Rattle.std.specs.Option.{option_map}
use Rattle.std.specs.List.{list_any}
use Rattle.std.specs.Str.{bytes_eq}
use Rattle.xs_outside.specs.Edge.{Files, raised}
use Rattle.xs_outside.specs.Fetches.{fetches_after}
use Rattle.xs_outside.specs.declared.fetches.Fetch.{Fetch}
use Rattle.xs_outside.specs.declared.edge.FetchEnd.{FetchEnd}
use Rattle.xs_outside.specs.declared.edge.FetchEnd.TheVariants.{Failed, NoMemory}

-- the calls that are to fail, by their numbers from 1
abbrev pub is_listed : ℕ → List ℕ → Bool
is_listed number failing = list_any (λ n. n == number) failing

-- a file: its name and its bytes
abbrev pub File : Type 0
File = List ℕ × List ℕ

abbrev pub file_parts : String Global × Vec ℕ Global → File
file_parts f = (string_bytes f.0, f.1.items)

-- the bytes of a name, by the first file of that name
abbrev pub file_of : List File → Files
file_of files name = option_map (λ f. f.1) (find (λ f. bytes_eq f.0 name) files)

pub record MemFiles : Type 0 where
  pub files : List File
  -- the numbers, from 1, of the calls that fail
  pub failing : List ℕ
  -- the calls so far
  pub calls : ℕ
  -- the fetches that it answered, oldest first
  pub fetches : List Fetch

-- whether the next fetch fails: its number is listed, or the name has no file
abbrev pub fetch_fails : MemFiles → List ℕ → Bool
fetch_fails m name = is_listed (raised m.calls) m.failing || is_none (file_of m.files name)

-- P, if the answer is Failed
abbrev pub IfFailed : {A : Type 0} → Result A FetchEnd → Type 0 → Type 0
IfFailed (Ok bytes) P = ⊤
IfFailed (Err Failed) P = P
IfFailed (Err NoMemory) P = ⊤

-- the next state of a library in memory, after an answer
abbrev pub fetched : {A : Type 0} → Result A FetchEnd → List ℕ → MemFiles → MemFiles
fetched answer name m =
    record { files = m.files; failing = m.failing; calls = raised m.calls; fetches = fetches_after answer name m.fetches }

pub record MemBytes : Type 0 where
  pub held : List ℕ
  -- how many bytes more it takes without more memory
  pub room : ℕ
  -- the most bytes that one write takes
  pub most : ℕ
  -- the numbers, from 1, of the writes that fail
  pub failing : List ℕ
  -- the writes so far
  pub calls : ℕ
  pub faults : ℕ

-- whether the next write fails: its number is listed, or there are bytes and no room
abbrev pub write_fails : MemBytes → List ℕ → Bool
write_fails m bytes = is_listed (raised m.calls) m.failing || (not (length bytes == 0) && (m.room == 0))

-- how many bytes the next write takes, if it does not fail
abbrev pub taken_of : MemBytes → List ℕ → ℕ
taken_of m bytes = min (min (length bytes) m.most) m.room

-- the next state of a sink in memory, after a write that took these bytes
abbrev pub after_taking : List ℕ → MemBytes → MemBytes
after_taking part m = record {
  held = m.held ++ part;
  room = m.room - length part;
  most = m.most;
  failing = m.failing;
  calls = raised m.calls;
  faults = m.faults;
}

-- and after one that failed
abbrev pub after_fault : MemBytes → MemBytes
after_fault m =
    record { held = m.held; room = m.room; most = m.most; failing = m.failing; calls = raised m.calls; faults = raised m.faults }
