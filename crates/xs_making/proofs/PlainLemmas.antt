-- Names of attributes without a prefix, whatever is in scope.
use Rattle.std.proofs.Common.{◌≡◌, ◌∙◌, ℕ, ap, sym, true, List, None, Ok, Err}
use Rattle.std.specs.Prelude.{if◌then◌else◌}
use Rattle.xs_trace.specs.Label.{Label}
use Rattle.xs_trace.specs.declared.fault.Fault.TheVariants.{BadResultName}
use Rattle.xs_making.specs.Names.{is_forbidden, named_as, result_name}
use Rattle.xs_making.specs.steps.Plain.{IsPlainName, IsPlainText, IsUnprefixed}

-- the name is the same in any scope
same_in : (s t : List (List ℕ × List ℕ)) (text : List ℕ) → IsUnprefixed text → result_name s true None text ≡ result_name t true None text
same_in s t text e =
    ap (λ q. if is_forbidden true None text then Err BadResultName else named_as s true None q) e
    ∙ sym (ap (λ q. if is_forbidden true None text then Err BadResultName else named_as t true None q) e)

pub plain_is : (scope : List (List ℕ × List ℕ)) (text : List ℕ) (name : Label) → result_name scope true None text ≡ Ok name → IsPlainText name text
    → IsPlainName name
plain_is scope text name made plain = λ s. ap (result_name s true None) plain.0 ∙ same_in s scope text plain.1 ∙ made
