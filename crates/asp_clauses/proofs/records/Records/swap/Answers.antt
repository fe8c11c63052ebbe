use Rattle.std.proofs.Common.{◌+◌, ◌*◌, arith}
use Rattle.std.proofs.lemmas.List.{get_or_read}
use Rattle.asp_clauses.specs.Records.{no_node, tops_of}
use Rattle.asp_clauses.proofs.RecordLemmas.{parts, swapped_row}
use Rattle.asp_clauses.proofs.NodeLemmas.{node_within, swapped_nodes}
use Rattle.asp_clauses.proofs.records.Records.swap.Goals as goal

pub swap-requires-clause-clause : goal.swap-requires-clause-clause
swap-requires-clause-clause c = (parts (tops_of c.self.inside.nodes.items) c.self.inside.rows c.args.self.now c.args.clause c.self.invariant.topped c.self.view_is c.requires.clause).in_rows

pub swap-requires-clause-first : goal.swap-requires-clause-first
swap-requires-clause-first c =
    let p = parts (tops_of c.self.inside.nodes.items) c.self.inside.rows c.args.self.now c.args.clause c.self.invariant.topped c.self.view_is c.requires.clause in
    let s = p.size in omega (arith, s, c.requires.first, c.requires.literals.0)

pub swap-requires-clause-second : goal.swap-requires-clause-second
swap-requires-clause-second c =
    let p = parts (tops_of c.self.inside.nodes.items) c.self.inside.rows c.args.self.now c.args.clause c.self.invariant.topped c.self.view_is c.requires.clause in
    let s = p.size in omega (arith, s, c.requires.second, c.requires.literals.1)

pub cell-first-requires-clause-clause : goal.cell-first-requires-clause-clause
cell-first-requires-clause-clause c = (swapped_row (tops_of c.self.inside.nodes.items) c.self.inside.rows c.swap.new.self c.args.self.now c.args.clause c.args.i c.args.j c.self.invariant.topped c.self.view_is c.requires.clause c.swap.ensures).0

pub cell-first-requires-clause-index : goal.cell-first-requires-clause-index
cell-first-requires-clause-index c = let l = (swapped_row (tops_of c.self.inside.nodes.items) c.self.inside.rows c.swap.new.self c.args.self.now c.args.clause c.args.i c.args.j c.self.invariant.topped c.self.view_is c.requires.clause c.swap.ensures).1 in omega (arith, l)

pub cell-second-requires-clause-clause : goal.cell-second-requires-clause-clause
cell-second-requires-clause-clause c = (swapped_row (tops_of c.self.inside.nodes.items) c.self.inside.rows c.swap.new.self c.args.self.now c.args.clause c.args.i c.args.j c.self.invariant.topped c.self.view_is c.requires.clause c.swap.ensures).0

pub cell-second-requires-clause-index : goal.cell-second-requires-clause-index
cell-second-requires-clause-index c = let l = (swapped_row (tops_of c.self.inside.nodes.items) c.self.inside.rows c.swap.new.self c.args.self.now c.args.clause c.args.i c.args.j c.self.invariant.topped c.self.view_is c.requires.clause c.swap.ensures).1 in omega (arith, l)

pub index-first_node-requires : goal.index-first_node-requires
index-first_node-requires c =
    let i = c.self.inside in
    let w = node_within i.nodes.items i.rows c.args.self.now c.args.clause 0 c.self.invariant c.self.view_is c.requires.clause (omega arith) in
    omega (arith, w, i.nodes.ok)

pub index-second_node-requires : goal.index-second_node-requires
index-second_node-requires c =
    let i = c.self.inside in
    let w = node_within i.nodes.items i.rows c.args.self.now c.args.clause 1 c.self.invariant c.self.view_is c.requires.clause (omega arith) in
    omega (arith, w, i.nodes.ok)

pub index_mut-requires : goal.index_mut-requires
index_mut-requires c =
    let i = c.self.inside in
    let w = node_within i.nodes.items i.rows c.args.self.now c.args.clause 0 c.self.invariant c.self.view_is c.requires.clause (omega arith) in
    omega (arith, w, i.nodes.ok)

pub index_mut-requires-2 : goal.index_mut-requires-2
index_mut-requires-2 c =
    let i = c.self.inside in
    let w = node_within i.nodes.items i.rows c.args.self.now c.args.clause 1 c.self.invariant c.self.view_is c.requires.clause (omega arith) in
    omega (arith, w, i.nodes.ok)

pub invariant_of-self : goal.invariant_of-self
invariant_of-self c =
    let i = c.self.inside in
    let w0 = node_within i.nodes.items i.rows c.args.self.now c.args.clause 0 c.self.invariant c.self.view_is c.requires.clause (omega arith) in
    let w1 = node_within i.nodes.items i.rows c.args.self.now c.args.clause 1 c.self.invariant c.self.view_is c.requires.clause (omega arith) in
    (swapped_nodes i.nodes.items i.rows c.swap.new.self c.args.self.now c.args.clause c.args.i c.args.j c.cell-first.result c.cell-second.result c.index-first_node.result.now c.index-second_node.result.now c.self.invariant c.self.view_is c.requires.clause c.requires.literals.0 c.requires.literals.1 c.requires.first c.requires.second
    c.swap.ensures c.cell-first.ensures c.cell-second.ensures (get_or_read i.nodes.items (2 * c.args.clause) c.index-first_node.result.now (omega (arith, w0)) c.index-first_node.ensures no_node) (get_or_read i.nodes.items (2 * c.args.clause + 1) c.index-second_node.result.now w1 c.index-second_node.ensures no_node)).0

pub returns : goal.returns
returns c =
    let i = c.self.inside in
    let w0 = node_within i.nodes.items i.rows c.args.self.now c.args.clause 0 c.self.invariant c.self.view_is c.requires.clause (omega arith) in
    let w1 = node_within i.nodes.items i.rows c.args.self.now c.args.clause 1 c.self.invariant c.self.view_is c.requires.clause (omega arith) in
    (swapped_nodes i.nodes.items i.rows c.swap.new.self c.args.self.now c.args.clause c.args.i c.args.j c.cell-first.result c.cell-second.result c.index-first_node.result.now c.index-second_node.result.now c.self.invariant c.self.view_is c.requires.clause c.requires.literals.0 c.requires.literals.1 c.requires.first c.requires.second
    c.swap.ensures c.cell-first.ensures c.cell-second.ensures (get_or_read i.nodes.items (2 * c.args.clause) c.index-first_node.result.now (omega (arith, w0)) c.index-first_node.ensures no_node) (get_or_read i.nodes.items (2 * c.args.clause + 1) c.index-second_node.result.now w1 c.index-second_node.ensures no_node)).1
