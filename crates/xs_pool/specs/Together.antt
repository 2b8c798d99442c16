-- Lists of many, one after another.
use Rattle.std.specs.Prelude.{List, [], ◌∷◌, ◌++◌}

-- what each item has
abbrev pub all_of : {X Y : Type 0} → (X → List Y) → List X → List Y
all_of f [] = []
all_of f (x ∷ xs) = f x ++ all_of f xs
