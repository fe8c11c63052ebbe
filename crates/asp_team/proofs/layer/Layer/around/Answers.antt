use Rattle.std.proofs.Common.{◌≡◌, ℕ, length, None, arith}
use Rattle.asp_team.proofs.Wrapping.{wrapped, wrapped-invariant}
use Rattle.asp_team.proofs.layer.Layer.around.Goals as goal

pub invariant_of-result : goal.invariant_of-result
invariant_of-result g c = wrapped-invariant c.args.levels.now.items c.pop.new.self.items c.pop.result (g.C.Child.state c.args.child) c.requires c.pop.ensures.items

pub returns : goal.returns
returns g c =
    wrapped c.args.levels.now.items c.pop.new.self.items c.pop.result (g.C.Child.state c.args.child) c.requires c.pop.ensures.items
    (λ none. let z = rw none at c.pop.ensures.cases in omega (arith, z.0, c.args.levels.now.ok))
