use Rattle.std.proofs.Common.{◌+◌, ◌-◌, ◌*◌, arith}
use Rattle.std.proofs.lemmas.List.{get_or_read}
use Rattle.asp_clauses.specs.Records.{no_node, tops_of}
use Rattle.asp_clauses.proofs.RecordLemmas.{parts}
use Rattle.asp_clauses.proofs.NodeLemmas.{node_within, exchanged_nodes}
use Rattle.asp_clauses.proofs.records.Records.exchange.Goals as goal

pub cell-literal-requires-clause-clause : goal.cell-literal-requires-clause-clause
cell-literal-requires-clause-clause c =
    let p = parts (tops_of c.self.inside.nodes.items) c.self.inside.rows c.args.self.now c.args.clause c.self.invariant.topped c.self.view_is c.requires.clause in
    p.in_rows

pub cell-literal-requires-clause-index : goal.cell-literal-requires-clause-index
cell-literal-requires-clause-index c =
    let p = parts (tops_of c.self.inside.nodes.items) c.self.inside.rows c.args.self.now c.args.clause c.self.invariant.topped c.self.view_is c.requires.clause in
    let s = p.size in omega (arith, s, c.requires.index)

pub swap-requires-clause-clause : goal.swap-requires-clause-clause
swap-requires-clause-clause c =
    let p = parts (tops_of c.self.inside.nodes.items) c.self.inside.rows c.args.self.now c.args.clause c.self.invariant.topped c.self.view_is c.requires.clause in
    p.in_rows

pub swap-requires-clause-first : goal.swap-requires-clause-first
swap-requires-clause-first c =
    let p = parts (tops_of c.self.inside.nodes.items) c.self.inside.rows c.args.self.now c.args.clause c.self.invariant.topped c.self.view_is c.requires.clause in
    let s = p.size in omega (arith, s, c.requires.index, c.requires.side, c.requires.unwatched)

pub swap-requires-clause-second : goal.swap-requires-clause-second
swap-requires-clause-second c =
    let p = parts (tops_of c.self.inside.nodes.items) c.self.inside.rows c.args.self.now c.args.clause c.self.invariant.topped c.self.view_is c.requires.clause in
    let s = p.size in omega (arith, s, c.requires.index)

pub index-node-requires : goal.index-node-requires
index-node-requires c =
    let i = c.self.inside in
    let w = node_within i.nodes.items i.rows c.args.self.now c.args.clause (1 - c.args.side) c.self.invariant c.self.view_is c.requires.clause (omega arith) in
    omega (arith, w, i.nodes.ok)

pub index_mut-requires : goal.index_mut-requires
index_mut-requires c =
    let i = c.self.inside in
    let w = node_within i.nodes.items i.rows c.args.self.now c.args.clause (1 - c.args.side) c.self.invariant c.self.view_is c.requires.clause (omega arith) in
    omega (arith, w, i.nodes.ok)

pub invariant_of-self : goal.invariant_of-self
invariant_of-self c =
    let i = c.self.inside in
    let w = node_within i.nodes.items i.rows c.args.self.now c.args.clause (1 - c.args.side) c.self.invariant c.self.view_is c.requires.clause (omega arith) in
    (exchanged_nodes i.nodes.items i.rows c.swap.new.self c.args.self.now c.args.clause c.args.side c.args.index c.cell-literal.result c.index-node.result.now c.self.invariant c.self.view_is c.requires.clause c.requires.side c.requires.unwatched c.requires.index
    c.cell-literal.ensures c.swap.ensures (get_or_read i.nodes.items (2 * c.args.clause + (1 - c.args.side)) c.index-node.result.now w c.index-node.ensures no_node)).0

pub returns : goal.returns
returns c =
    let i = c.self.inside in
    let w = node_within i.nodes.items i.rows c.args.self.now c.args.clause (1 - c.args.side) c.self.invariant c.self.view_is c.requires.clause (omega arith) in
    (exchanged_nodes i.nodes.items i.rows c.swap.new.self c.args.self.now c.args.clause c.args.side c.args.index c.cell-literal.result c.index-node.result.now c.self.invariant c.self.view_is c.requires.clause c.requires.side c.requires.unwatched c.requires.index
    c.cell-literal.ensures c.swap.ensures (get_or_read i.nodes.items (2 * c.args.clause + (1 - c.args.side)) c.index-node.result.now w c.index-node.ensures no_node)).1
