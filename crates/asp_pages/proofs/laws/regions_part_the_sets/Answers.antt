use Rattle.asp_pages.proofs.Parts.{regions_part, regions_are_counted, regions_are_on_base}
use Rattle.asp_pages.proofs.laws.regions_part_the_sets.Goals as goal

pub returns-clause-parts : goal.returns-clause-parts
returns-clause-parts c = regions_part

pub returns-clause-counted : goal.returns-clause-counted
returns-clause-counted c = regions_are_counted

pub returns-clause-on_base : goal.returns-clause-on_base
returns-clause-on_base c = regions_are_on_base
