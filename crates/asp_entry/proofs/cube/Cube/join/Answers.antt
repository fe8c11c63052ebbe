use Rattle.std.proofs.Common.{◌∙◌}
use Rattle.asp_entry.proofs.Merging.{carried, ascending, members, held}
use Rattle.asp_entry.proofs.cube.Cube.join.Goals as goal

pub invariant_of-self : goal.invariant_of-self
invariant_of-self c =
    ascending c.self.inside.lits.items c.other.inside.lits.items _
    (carried _ _ _ _ _ c.in_ok-joined.ensures.items c.as_slice.ensures c.as_slice-2.ensures)
    c.self.invariant c.other.invariant

pub returns-clause-members : goal.returns-clause-members
returns-clause-members c =
    members c.args.self.now c.args.other.now _
    (carried _ _ _ _ _ c.in_ok-joined.ensures.items (c.as_slice.ensures ∙ c.self.view_is) (c.as_slice-2.ensures ∙ c.other.view_is))
    c.requires

pub returns-clause-ascending : goal.returns-clause-ascending
returns-clause-ascending c =
    ascending c.self.inside.lits.items c.other.inside.lits.items _
    (carried _ _ _ _ _ c.in_ok-joined.ensures.items c.as_slice.ensures c.as_slice-2.ensures)
    c.self.invariant c.other.invariant

pub returns-clause-held : goal.returns-clause-held
returns-clause-held c =
    held c.args.self.now c.args.other.now _
    (members c.args.self.now c.args.other.now _
    (carried _ _ _ _ _ c.in_ok-joined.ensures.items (c.as_slice.ensures ∙ c.self.view_is) (c.as_slice-2.ensures ∙ c.other.view_is))
    c.requires)
