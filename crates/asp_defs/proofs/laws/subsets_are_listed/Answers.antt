use Rattle.asp_defs.proofs.SubsetLaws as laws
use Rattle.asp_defs.proofs.laws.subsets_are_listed.Goals as goal

pub returns : goal.returns
returns c = record { members = laws.subsets_are_listed; order = laws.subsets_are_in_order; once = laws.not_after_itself }
