use Rattle.std.proofs.Common.{◌+◌, ◌*◌, arith}
use Rattle.std.proofs.lemmas.List.{get_or_read}
use Rattle.asp_clauses.specs.Records.{no_node}
use Rattle.asp_clauses.proofs.NodeLemmas.{node_within, link_read}
use Rattle.asp_clauses.proofs.records.Records.link.Goals as goal

pub index-node-requires : goal.index-node-requires
index-node-requires c =
    let i = c.self.inside in
    let w = node_within i.nodes.items i.rows c.args.self.now c.args.clause c.args.side c.self.invariant c.self.view_is c.requires.clause c.requires.side in
    omega (arith, w, i.nodes.ok)

pub returns : goal.returns
returns c =
    let i = c.self.inside in
    let w = node_within i.nodes.items i.rows c.args.self.now c.args.clause c.args.side c.self.invariant c.self.view_is c.requires.clause c.requires.side in
    link_read i.nodes.items i.rows c.args.self.now c.args.clause c.args.side c.index-node.result.now c.self.invariant c.self.view_is c.requires.clause c.requires.side (get_or_read i.nodes.items (2 * c.args.clause + c.args.side) c.index-node.result.now w c.index-node.ensures no_node)
