use Rattle.std.proofs.Common.{◌≡◌, ◌++◌, map, take}
use Rattle.asp_defs.specs.declared.ground.Const.TheVariants as const
use Rattle.asp_atoms.proofs.constants.add_symbols.Given as goal

abbrev pub invariant-loop-symbol : goal.invariant-loop-symbol
invariant-loop-symbol l = l.out.items ≡ l.fn.out.items ++ map const.Sym (map (λ s. s.now) (take l.symbol-index l.symbols))
