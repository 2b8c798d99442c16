-- What comes of some mentions, beside the two lists of the library that grow, and of others behind them.
use Rattle.std.proofs.Common.{◌≡◌, ◌∙◌, ℕ, ◌+◌, List, [], ◌∷◌, ◌++◌, Option, sym, ap, append_assoc}
use Rattle.std.proofs.lemmas.List.{append-nil}
use Rattle.xs_outside.specs.Edge.{Files}
use Rattle.xs_tree.specs.Record.{Record}
use Rattle.xs_modules.specs.declared.modules.ModulesEnd.{ModulesEnd}
use Rattle.xs_modules.specs.declared.modules.ModulesEnd.TheVariants.{Failed, Refused, NoMemory}
use Rattle.xs_modules.specs.Mentions.{Mention, mentions}
use Rattle.xs_modules.specs.Mentioned.{Mentioned, no_module, one, count}
use Rattle.xs_modules.specs.Reading.{whole, out_of_memory, IsTrouble, IsAsked, IsRead, failed_names}
use Rattle.xs_modules.specs.Reading.{none, inside, behind, all, out_before, out_after}
use Rattle.xs_modules.specs.Results.{ComesTo, end_of}
use Rattle.xs_modules.specs.steps.Joining.{join}
use Rattle.xs_modules.proofs.ReadingLemmas.{all_of_both, trouble_behind, trouble_before, out_at_end}

-- an answer that is no list of modules reports trouble
pub trouble_of : (e : ModulesEnd) → IsTrouble (end_of e)
trouble_of (Failed name) = tt
trouble_of (Refused number name line) = tt
trouble_of NoMemory = tt

grown : (a b c x y : List (List ℕ)) → b ≡ a ++ x → c ≡ b ++ y → c ≡ a ++ (x ++ y)
grown a b c x y e f = f ∙ ap (λ xs. xs ++ y) e ∙ append_assoc a x y

same : (a b : List (List ℕ)) → b ≡ a ++ [] → b ≡ a
same a b e = e ∙ append-nil a

-- nothing was asked for
pub none_come : (files : Option Files) (above : List (List ℕ)) (n : ℕ) (asked failed : List (List ℕ))
    → ComesTo (whole no_module) files above n [] asked asked failed failed
none_come files above n asked failed = record { names = []; reads = none; asks = sym (append-nil asked); fails = sym (append-nil failed) }

-- memory runs out before anything is asked for
pub out_here : (files : Option Files) (above : List (List ℕ)) (n : ℕ) (ms : List Mention) (asked failed : List (List ℕ))
    → ComesTo out_of_memory files above n ms asked asked failed failed
out_here files above n ms asked failed = record { names = []; reads = out_before; asks = sym (append-nil asked); fails = sym (append-nil failed) }

-- or after one name
pub out_once : (files : Option Files) (above : List (List ℕ)) (n : ℕ) (m : Mention) (a b f g : List (List ℕ)) → IsAsked above n m
    → b ≡ a ++ m.name ∷ [] → g ≡ f → ComesTo out_of_memory files above n (m ∷ []) a b f g
out_once files above n m a b f g asked e h = record { names = m.name ∷ []; reads = out_after asked; asks = e; fails = h ∙ sym (append-nil f) }

-- or after all was read
pub out_last : (files : Option Files) (above : List (List ℕ)) (n : ℕ) (ms : List Mention) (done : Mentioned) (a b f g : List (List ℕ))
    → ComesTo (whole done) files above n ms a b f g → ComesTo out_of_memory files above n ms a b f g
out_last files above n ms done a b f g r = record { names = r.names; reads = out_at_end r.reads; asks = r.asks; fails = r.fails }

-- all of some mentions, and then all of others
pub both_come : (files : Option Files) (above : List (List ℕ)) (n : ℕ) (ms ms' : List Mention) (done more : Mentioned) (a b c f g h : List (List ℕ))
    → ComesTo (whole done) files above n ms a b f g → ComesTo (whole more) files above (n + count done) ms' b c g h
    → ComesTo (whole (join done more)) files above n (ms ++ ms') a c f h
both_come files above n ms ms' done more a b c f g h d r = record {
  names = d.names ++ r.names;
  reads = all_of_both d.reads ms' r.names more r.reads;
  asks = grown a b c d.names r.names d.asks r.asks;
  fails = r.fails ∙ append-nil g ∙ d.fails;
}

-- all of some mentions, and then trouble, whatever stands behind
pub trouble_comes : (files : Option Files) (above : List (List ℕ)) (n : ℕ) (ms ms' later : List Mention) (done : Mentioned) (e : ModulesEnd)
    (a b c f g h : List (List ℕ)) → ComesTo (whole done) files above n ms a b f g → ComesTo (end_of e) files above (n + count done) ms' b c g h
    → ComesTo (end_of e) files above n (ms ++ (ms' ++ later)) a c f h
trouble_comes files above n ms ms' later done e a b c f g h d r = record {
  names = d.names ++ r.names;
  reads = trouble_behind d.reads (ms' ++ later) r.names (end_of e) (trouble_before r.reads (trouble_of e) later) (trouble_of e);
  asks = grown a b c d.names r.names d.asks r.asks;
  fails = r.fails ∙ ap (λ xs. xs ++ failed_names (end_of e)) (same f g d.fails);
}

module _ (files : Option Files) (above : List (List ℕ)) (n : ℕ) (m : Mention) (rs : List Record) (lines : List ℕ) (a b c f g h : List (List ℕ))
    (read : IsRead files above n m rs lines) (asked : b ≡ a ++ m.name ∷ []) (failed : g ≡ f) where
  -- a module is read, and there is trouble in what it mentions
  pub trouble_inside : (e : ModulesEnd) → ComesTo (end_of e) files (above ++ m.name ∷ []) (n + 1) (mentions n m.name rs lines) b c g h
      → ComesTo (end_of e) files above n (m ∷ []) a c f h
  trouble_inside e r = record {
    names = m.name ∷ r.names;
    reads = inside read r.reads (trouble_of e);
    asks = grown a b c (m.name ∷ []) r.names asked r.asks;
    fails = r.fails ∙ ap (λ xs. xs ++ failed_names (end_of e)) failed;
  }

  whole_names : (r : List (List ℕ)) → c ≡ b ++ r → c ≡ a ++ (m.name ∷ r ++ [])
  whole_names r e = grown a b c (m.name ∷ []) r asked e ∙ ap (λ xs. a ++ m.name ∷ xs) (sym (append-nil r))

  -- or none
  pub one_comes : (within : Mentioned) → ComesTo (whole within) files (above ++ m.name ∷ []) (n + 1) (mentions n m.name rs lines) b c g h
      → ComesTo (whole (one m rs lines within no_module)) files above n (m ∷ []) a c f h
  one_comes within r = record {
    names = m.name ∷ r.names ++ [];
    reads = all read r.reads none;
    asks = whole_names r.names r.asks;
    fails = r.fails ∙ ap (λ xs. xs ++ []) failed;
  }

  -- or memory runs out after that
  pub out_behind : (within : Mentioned) → ComesTo (whole within) files (above ++ m.name ∷ []) (n + 1) (mentions n m.name rs lines) b c g h
      → ComesTo out_of_memory files above n (m ∷ []) a c f h
  out_behind within r = record {
    names = m.name ∷ r.names ++ [];
    reads = behind read r.reads out_before tt;
    asks = whole_names r.names r.asks;
    fails = r.fails ∙ ap (λ xs. xs ++ []) failed;
  }
