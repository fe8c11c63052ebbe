use Rattle.std.proofs.Common.{ap}
use Rattle.asp_bits.specs.Places.{true_places}
use Rattle.cube_tests.proofs.MoveLaws.{all-founded}
use Rattle.cube_tests.proofs.answering.are_founded.Goals as goal

pub returns-in-Ok-found_atoms : goal.returns-in-Ok-found_atoms
returns-in-Ok-found_atoms c =
    λ h. all-founded c.args.rules.now (true_places c.args.outer.now) (true_places c.args.set.now) c.in-Ok.marks c.in-Ok-copy.founded c.found_atoms.new.marks
    c.found_atoms.new.founded (ap true_places c.in-Ok-copy.ensures) c.in-Ok-found_atoms.ensures (c.is_within.ensures h)
