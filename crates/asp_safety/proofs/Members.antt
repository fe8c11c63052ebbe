-- Variables of lists: tests and members.
use Rattle.std.proofs.Common.{◌≡◌, refl, sym, subst, Bool, true, false, List}
use Rattle.std.specs.Cmp.Lexicographic.{bytes_decides}
use Rattle.std.proofs.lemmas.Bool.{eq-eqb}
use Rattle.asp_defs.specs.declared.syntax.Term.{Term}
use Rattle.asp_defs.specs.Lists.{IsIn}
use Rattle.asp_defs.specs.Instances.{same_variable}
use Rattle.asp_defs.specs.Safety.{is_variable_of}
use Rattle.asp_defs.proofs.Lists.{any_at, any_from}
use Rattle.asp_defs.proofs.SafetyLaws.{equal}
use Rattle.asp_safety.specs.declared.variable.Variable.{Variable}
use Rattle.asp_safety.specs.declared.variable.Variable.TheVariants as variants
use Rattle.asp_safety.specs.Variables.{term_of}
use Rattle.asp_safety.specs.Closure.{Within}

-- variables that are the same are equal, and a variable is the same as itself
pub itself : (v : Variable) → same_variable (term_of v) (term_of v) ≡ true
itself (variants.Named n) = (bytes_decides n.now n.now).1 refl
itself (variants.Anon k) = eq-eqb k k refl

-- a member by the test, and a test by membership
pub member_at : (vs : List Term) (v : Term) → is_variable_of vs v ≡ true → IsIn v vs
member_at vs v h =
    let found = any_at (same_variable v) vs h in subst (λ w. IsIn w vs) (sym (equal v found.0 found.2)) found.1

pub member_from : (vs : List Term) (v : Term) → same_variable v v ≡ true → IsIn v vs → is_variable_of vs v ≡ true
member_from vs v same i = any_from (same_variable v) vs v i same

-- the test is true of no variable but members
pub test_more : (us vs : List Term) → Within us vs → (v : Term) → is_variable_of us v ≡ true → is_variable_of vs v ≡ true
test_more us vs more v h =
    let found = any_at (same_variable v) us h in any_from (same_variable v) vs found.0 (more found.0 found.1) found.2

-- tests of lists with the same members are the same
pub same_truth : (a b : Bool) → (a ≡ true → b ≡ true) → (b ≡ true → a ≡ true) → a ≡ b
same_truth true b f g = sym (f refl)
same_truth false true f g = g refl
same_truth false false f g = refl

pub same_test : (us vs : List Term) → Within us vs → Within vs us → (v : Term) → is_variable_of us v ≡ is_variable_of vs v
same_test us vs more less v =
    same_truth (is_variable_of us v) (is_variable_of vs v) (test_more us vs more v) (test_more vs us less v)
