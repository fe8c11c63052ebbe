-- Constants that borrow their names.
use Rattle.asp_defs.specs.declared.ground.Const.{Const}
use Rattle.asp_defs.specs.declared.ground.Const.TheVariants as const
use Rattle.asp_atoms.specs.declared.const_refs.ConstRef.{ConstRef}
use Rattle.asp_atoms.specs.declared.const_refs.ConstRef.TheVariants.{Int, Sym}

-- the constant without where its name lies in memory
abbrev pub const_of : ConstRef → Const
const_of (Int x) = const.Int x
const_of (Sym name) = const.Sym name.now
