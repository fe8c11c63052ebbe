-- The checker's variables as terms.
use Rattle.std.specs.Prelude.{List, map}
use Rattle.asp_safety.specs.declared.variable.Variable.{Variable}
use Rattle.asp_safety.specs.declared.variable.Variable.TheVariants as variants
use Rattle.asp_defs.specs.declared.syntax.Term.{Term}
use Rattle.asp_defs.specs.declared.syntax.Term.TheVariants.{Var, Anon}

-- a variable without where its name lies in memory
abbrev pub term_of : Variable → Term
term_of (variants.Named name) = Var name.now
term_of (variants.Anon number) = Anon number

abbrev pub terms_of : List Variable → List Term
terms_of = map term_of
