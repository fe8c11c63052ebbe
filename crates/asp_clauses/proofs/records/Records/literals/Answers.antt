use Rattle.std.proofs.Common.{◌∙◌, arith}
use Rattle.asp_clauses.specs.Records.{tops_of}
use Rattle.asp_clauses.proofs.RecordLemmas.{parts, literals_is, size_is}
use Rattle.asp_clauses.proofs.records.Records.literals.Goals as goal

pub literals-requires-clause-size : goal.literals-requires-clause-size
literals-requires-clause-size c =
    let i = c.self.inside in
    let p = parts (tops_of i.nodes.items) i.rows c.args.self.now c.args.clause c.self.invariant.topped c.self.view_is c.requires.clause in
    let s = size_is (tops_of i.nodes.items) i.rows c.args.self.now c.args.clause p in let n = p.size in let r = c.requires.size in
    omega (arith, s, n, r)

pub literals-requires-clause-clause : goal.literals-requires-clause-clause
literals-requires-clause-clause c =
    let i = c.self.inside in
    (parts (tops_of i.nodes.items) i.rows c.args.self.now c.args.clause c.self.invariant.topped c.self.view_is c.requires.clause).in_rows

pub returns : goal.returns
returns c =
    let i = c.self.inside in
    let p = parts (tops_of i.nodes.items) i.rows c.args.self.now c.args.clause c.self.invariant.topped c.self.view_is c.requires.clause in
    c.literals.ensures ∙ literals_is (tops_of i.nodes.items) i.rows c.args.self.now c.args.clause p
