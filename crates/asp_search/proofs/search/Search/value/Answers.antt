use Rattle.std.proofs.Common.{◌+◌, ◌*◌, ap, ◌∙◌}
use Rattle.asp_search.specs.Analysis.{is_member}
use Rattle.asp_search.specs.State.{SearchState}
use Rattle.asp_search.proofs.Finding.{test_is_member}
use Rattle.asp_search.proofs.search.Search.value.Goals as goal

pub returns : goal.returns
returns c =
    test_is_member c.self.inside.solver.trail.steps (2 * c.args.atom + 1) c.is_true.result c.is_true.ensures
    ∙ ap (λ (s : SearchState). is_member s.trail (2 * c.args.atom + 1)) c.self.view_is
