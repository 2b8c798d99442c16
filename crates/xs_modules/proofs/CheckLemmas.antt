-- A mention that may not be asked for.
use Rattle.std.proofs.Common.{◌≡◌, ◌∙◌, ℕ, true, false, List, [], ◌∷◌, Option, Result, Ok, Err, refl, sym, ap, subst}
use Rattle.xs_outside.specs.Edge.{Files}
use Rattle.xs_modules.specs.declared.modules.ModulesEnd.{ModulesEnd}
use Rattle.xs_modules.specs.declared.modules.ModulesEnd.TheVariants.{Failed, Refused, NoMemory}
use Rattle.xs_modules.specs.Mentions.{Mention}
use Rattle.xs_modules.specs.Reading.{End, refused, Reads, circular, too_many, out_before, is_above, circular_module, too_many_modules, most_modules}
use Rattle.xs_modules.specs.steps.Reader.{Checks, IsRefusal}

module _ (above : List (List ℕ)) (n : ℕ) (m : Mention) where
  same_end : (fault number line : ℕ) (name : List ℕ) → number ≡ fault → name ≡ m.from → line ≡ m.line
      → refused number name line ≡ refused fault m.from m.line
  same_end fault number line name e f g =
      ap (λ x. refused x name line) e ∙ ap (λ x. refused fault x line) f ∙ ap (λ x. refused fault m.from x) g

  refuses : (fault : ℕ) (r : Result (Unit {0}) ModulesEnd) → IsRefusal r fault m
      → ((files : Option Files) → Reads files above n (m ∷ []) [] (refused fault m.from m.line)) → Checks r above n m
  refuses fault (Ok x) h reads = absurd h
  refuses fault (Err (Failed name)) h reads = absurd h
  refuses fault (Err (Refused number name line)) h reads =
      (λ files. subst (λ (e : End). Reads files above n (m ∷ []) [] e) (sym (same_end fault number line name h.0 h.1 h.2)) (reads files), refl)
  refuses fault (Err NoMemory) h reads = (λ files. out_before, refl)

  pub circular_refused : (r : Result (Unit {0}) ModulesEnd) → IsRefusal r circular_module m → is_above above m.name ≡ true → Checks r above n m
  circular_refused r h is = refuses circular_module r h (λ files. circular is)

  pub too_many_refused : (r : Result (Unit {0}) ModulesEnd) → IsRefusal r too_many_modules m → is_above above m.name ≡ false → n ≡ most_modules
      → Checks r above n m
  too_many_refused r h apart full = refuses too_many_modules r h (λ files. too_many apart full)
