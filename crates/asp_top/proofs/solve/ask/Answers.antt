use Rattle.std.proofs.Common.{◌≡◌, ◌<◌, Bool, length, ap, sym, subst}
use Rattle.std.specs.Prelude.{Some}
use Rattle.std.specs.List.{slice_get}
use Rattle.asp_bits.specs.Places.{true_places}
use Rattle.asp_defs.specs.Entries.{Entry}
use Rattle.asp_defs.specs.Games.{base}
use Rattle.asp_store.specs.Histories.{StoreState}
use Rattle.asp_top.specs.Solved.{HasVerdict}
use Rattle.asp_top.proofs.Deciding.{nothing_inside, verdict_decided, open_decided}
use Rattle.asp_top.proofs.solve.ask.Goals as goal

pub node_single-requires-clause-outer : goal.node_single-requires-clause-outer
node_single-requires-clause-outer c =
    nothing_inside (length c.args.team.game.bases.atoms) c.args.outer.now (base c.args.team.game 0) c.requires.outer

pub entry-requires : goal.entry-requires
entry-requires c =
    subst (λ (s : StoreState). c.in-Ok.at < length s.history) (sym c.store.ensures)
    (c.node_single.ensures.held c.in-Ok.at c.in-Ok.is).inside

pub returns-in-Ok : goal.returns-in-Ok
returns-in-Ok c =
    subst (λ (v : Bool). HasVerdict c.args.team.game c.args.team.budget c.args.team.allowed v c.node_single.new.team)
    (sym (ap (λ (e : Entry). e.verdict) c.behind-store.view_is))
    (verdict_decided c.args.team c.node_single.new.team (true_places c.args.outer.now) c.in-Ok.at c.entry.result.now c.requires.valid
    c.node_single.ensures.goes_on (c.node_single.ensures.held c.in-Ok.at c.in-Ok.is)
    (subst (λ (s : StoreState). slice_get s.history c.in-Ok.at ≡ Some c.entry.result.now) c.store.ensures c.entry.ensures.entry))

pub returns-in-Err-Spent : goal.returns-in-Err-Spent
returns-in-Err-Spent c =
    open_decided c.args.team c.node_single.new.team c.in-Err-Spent.unknown c.requires.new c.node_single.ensures.goes_on
    (c.node_single.ensures.spent c.in-Err-Spent.unknown (let a = c.in-Err-Spent.is in let b = c.in-Err-Spent.field-0-is in cc))
