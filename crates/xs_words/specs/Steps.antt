-- What follows where a part is there.
use Rattle.std.specs.Prelude.{Option, Some, None, Bool, true, false}

-- what follows where there is a value
abbrev pub given : {X Y : Type 0} → Option X → (X → Option Y) → Option Y
given None next = None
given (Some x) next = next x

-- what follows where the test holds
abbrev pub where_it_holds : {Y : Type 0} → Bool → Option Y → Option Y
where_it_holds true next = next
where_it_holds false next = None
