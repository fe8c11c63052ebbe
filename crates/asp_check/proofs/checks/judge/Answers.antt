use Rattle.std.proofs.Common.{◌≡◌, None, Some, rules}
use Rattle.asp_defs.specs.Safety.{unsafe_in}
use Rattle.asp_defs.specs.ConstraintPart.{headed_in}
use Rattle.asp_defs.specs.Limits.{too_large_in}
use Rattle.asp_check.proofs.Rules.{refused_for_form, refused_for_size, refused_for_nothing}
use Rattle.asp_check.proofs.checks.judge.Goals as goal

pub returns-in-Some-headed_in-clause-refused : goal.returns-in-Some-headed_in-clause-refused
returns-in-Some-headed_in-clause-refused c =
    let safe : unsafe_in c.args.program.now ≡ None = search rules in
    let form : headed_in c.args.program.now ≡ Some c.in-Some-headed_in.number = search rules in
    refused_for_form c.args.program.now c.in-Some-headed_in.number safe form

pub returns-in-Some-2-clause-refused : goal.returns-in-Some-2-clause-refused
returns-in-Some-2-clause-refused c =
    let safe : unsafe_in c.args.program.now ≡ None = search rules in
    let form : headed_in c.args.program.now ≡ None = search rules in
    let large : too_large_in c.args.program.now ≡ Some (c.in-Some-2.which, c.in-Some-2.count) = search rules in
    refused_for_size c.args.program.now c.in-Some-2.which c.in-Some-2.count safe form large

pub returns-clause-passes : goal.returns-clause-passes
returns-clause-passes c =
    let safe : unsafe_in c.args.program.now ≡ None = search rules in
    let form : headed_in c.args.program.now ≡ None = search rules in
    let large : too_large_in c.args.program.now ≡ None = search rules in
    refused_for_nothing c.args.program.now safe form large
