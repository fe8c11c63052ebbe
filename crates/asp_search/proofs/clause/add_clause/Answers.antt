use Rattle.std.proofs.Common.{◌∙◌}
use Rattle.asp_search.proofs.Adding.{IsReady-book}
use Rattle.asp_search.proofs.clause.add_clause.Goals as goal

pub returns-clause-keeps : goal.returns-clause-keeps
returns-clause-keeps c =
    let k = c.insert_clause-added.ensures.keeps in
    record {
      ready = IsReady-book c.args.solver.now _ c.requires.ready (record { goes = k.goes; ranges = k.ranges; learned = k.learned; looked = k.looked; ground_loose = k.ground_loose; ground = k.ground; trail = k.trail; assumed = k.assumed; cursor = k.cursor; held = k.held; front = k.front; in_order = k.in_order; codes = c.clear.ensures.codes ∙ k.codes; heap = k.heap; decided = k.decided; activity = k.activity }) c.clear.ensures.none;
      trail = k.trail;
      assumed = k.assumed;
      in_order = k.in_order;
      decided = k.decided;
      activity = k.activity;
    }
