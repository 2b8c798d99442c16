-- What is seen of a trace under limits.
use Rattle.std.specs.Prelude.{◌≡◌, ℕ, zero, suc, ◌-◌, ◌≤◌, [], ◌∷◌, ◌++◌, length, Option, Some, None}
use Rattle.xs_trace.specs.Mark.{Mark, Tick, Put, Say, Stop, Need, Hole, Trace, GoesOn, tick_count, events_of, last_site}
use Rattle.xs_trace.specs.declared.fault.Fault.{Fault as RunFault}
use Rattle.xs_trace.specs.declared.item.Site.{Site}

-- how a cut trace ends
pub data End : Type 0 where
  Whole : End
  Fault : (fault : RunFault) (site : Site) → End
  Needs : (global : ℕ) (site : Site) → End
  -- a tick was too many; its place
  Spent : (site : Site) → End
  -- an event was too many; the place of the last tick before it
  Full : (site : Site) → End

-- The marks that pass, and the end. What is put and said, and how many ticks pass, are those of the marks.
pub record Cut (H : Type 0) : Type 0 where
  pub passed : Trace H
  pub end : End

abbrev pub ended : {H : Type 0} → End → Cut H
ended e = record { passed = []; end = e }

abbrev pub after_mark : {H : Type 0} → Mark H → Cut H → Cut H
after_mark x c = record { passed = x ∷ c.passed; end = c.end }

-- A trace cut before the first tick past b, or the first put past m, where m is a number; `at` is the place of the last
-- tick before it.
abbrev pub cut_from : {H : Type 0} → Trace H → Site → ℕ → Option ℕ → Cut H
cut_from [] at b m = ended Whole
cut_from (Tick p ∷ x) at zero m = ended (Spent p)
cut_from (Tick p ∷ x) at (suc b) m = after_mark (Tick p) (cut_from x p b m)
cut_from (Put e ∷ x) at b None = after_mark (Put e) (cut_from x at b None)
cut_from (Put e ∷ x) at b (Some zero) = ended (Full at)
cut_from (Put e ∷ x) at b (Some (suc m)) = after_mark (Put e) (cut_from x at b (Some m))
cut_from (Say t ∷ x) at b m = after_mark (Say t) (cut_from x at b m)
cut_from (Stop f p ∷ x) at b m = ended (Fault f p)
cut_from (Need g p ∷ x) at b m = ended (Needs g p)
cut_from (Hole k ∷ x) at b m = after_mark (Hole k) (cut_from x at b m)

-- no instruction
abbrev pub nowhere : Site
nowhere = record { «module» = 0; line = 0 }

-- a whole trace, cut at b ticks and at m puts
abbrev pub cut : {H : Type 0} → Trace H → ℕ → Option ℕ → Cut H
cut x b m = cut_from x nowhere b m

-- what is left of a limit
abbrev pub less : Option ℕ → ℕ → Option ℕ
less None n = None
less (Some m) n = Some (m - n)

-- a limit that is no higher
abbrev pub Within : Option ℕ → Option ℕ → Type 0
Within s None = Unit {0}
Within None (Some m) = ⊥
Within (Some s) (Some m) = s ≤ m

-- n is within a limit
abbrev pub Allows : Option ℕ → ℕ → Type 0
Allows None n = Unit {0}
Allows (Some m) n = n ≤ m

-- d after marks that end so, where that is no end
abbrev pub follow : {H : Type 0} → End → Trace H → Cut H → Cut H
follow Whole x d = record { passed = x ++ d.passed; end = d.end }
follow (Fault f p) x d = record { passed = x; end = Fault f p }
follow (Needs g p) x d = record { passed = x; end = Needs g p }
follow (Spent p) x d = record { passed = x; end = Spent p }
follow (Full p) x d = record { passed = x; end = Full p }

abbrev pub followed : {H : Type 0} → Cut H → Cut H → Cut H
followed c d = follow c.end c.passed d

-- one end, or the other where it is none
abbrev pub or_end : End → End → End
or_end Whole e = e
or_end (Fault f p) e = Fault f p
or_end (Needs g p) e = Needs g p
or_end (Spent p) e = Spent p
or_end (Full p) e = Full p

-- the marks that passed a cut, cut again; where all of them pass, the end is what it was
abbrev pub cut_again : {H : Type 0} → Cut H → Site → ℕ → Option ℕ → Cut H
cut_again c at b m = record { passed = (cut_from c.passed at b m).passed; end = or_end (cut_from c.passed at b m).end c.end }

-- The end that the next mark makes, where the limit on ticks is reached exactly if spent holds, that on events if full does.
abbrev pub IsEnd : {H : Type 0} → Site → Type 0 → Type 0 → Trace H → End → Type 0
IsEnd last spent full [] e = e ≡ Whole
IsEnd last spent full (Tick p ∷ x) e = (e ≡ Spent p) × spent
IsEnd last spent full (Put v ∷ x) e = (e ≡ Full last) × full
IsEnd last spent full (Say t ∷ x) e = ⊥
IsEnd last spent full (Stop f p ∷ x) e = e ≡ Fault f p
IsEnd last spent full (Need g p ∷ x) e = e ≡ Needs g p
IsEnd last spent full (Hole k ∷ x) e = ⊥

-- The marks that pass are the longest beginning within both limits, up to a stop or a need; the next mark decides the end.
pub record IsLongest {H : Type 0} (x : Trace H) (at : Site) (b : ℕ) (m : Option ℕ) (c : Cut H) : Type 0 where
  pub rest : Trace H
  pub whole : x ≡ c.passed ++ rest
  pub goes_on : GoesOn c.passed
  pub within : tick_count c.passed ≤ b
  pub allowed : Allows m (length (events_of c.passed))
  pub next : IsEnd (last_site at c.passed) (tick_count c.passed ≡ b) (m ≡ Some (length (events_of c.passed))) rest c.end
