-- What literals bind by themselves, and what their equations link.
use Rattle.std.specs.Prelude.{List, [], ◌∷◌, ◌++◌, map}
use Rattle.asp_defs.specs.declared.syntax.Op.TheVariants.{Eq, Ne, Lt, Le, Gt, Ge}
use Rattle.asp_defs.specs.declared.syntax.Term.{Term}
use Rattle.asp_defs.specs.declared.syntax.Literal.{Literal}
use Rattle.asp_defs.specs.declared.syntax.Literal.TheVariants.{Pos, Neg, Cmp}
use Rattle.asp_defs.specs.Instances.{term_variables}
use Rattle.asp_defs.specs.Safety.{bound_by_atom, bound_by_equation}
use Rattle.asp_safety.specs.declared.bindings.Link.{Link}
use Rattle.asp_safety.specs.Variables.{term_of}

-- the variables that a literal binds, whatever else is safe
abbrev pub bound_alone : Literal → List Term
bound_alone l = bound_by_atom l ++ bound_by_equation [] l

-- each variable of the first list with each of the second
abbrev pub pairs : List Term → List Term → List (Term × Term)
pairs [] vs = []
pairs (u ∷ us) vs = map (λ v. (u, v)) vs ++ pairs us vs

-- pairs of variables of which the second is safe where the first is
abbrev pub literal_links : Literal → List (Term × Term)
literal_links (Pos a) = []
literal_links (Neg a) = []
literal_links (Cmp x Eq y) =
    pairs (term_variables x) (term_variables y) ++ pairs (term_variables y) (term_variables x)
literal_links (Cmp x Ne y) = []
literal_links (Cmp x Lt y) = []
literal_links (Cmp x Le y) = []
literal_links (Cmp x Gt y) = []
literal_links (Cmp x Ge y) = []

abbrev pub link_of : Link → Term × Term
link_of l = (term_of l.from, term_of l.to)

abbrev pub links_of : List Link → List (Term × Term)
links_of = map link_of
