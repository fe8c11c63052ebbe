use Rattle.std.proofs.Common.{ℕ, ◌+◌, set, ap, ◌∙◌, refl, subst}
use Rattle.std.specs.List.{swap}
use Rattle.asp_clauses.specs.declared.watches.Watches.{Watches}
use Rattle.asp_clauses.specs.Records.{row_at}
use Rattle.asp_clauses.specs.Visits.{Links}
use Rattle.asp_clauses.proofs.UnlinkLemmas.{MoveFrom, MoveSteps, IsStore-exchanged, IsStore-moved}
use Rattle.asp_clauses.proofs.MovedLemmas.{moved_clauses, IsListed-moved}
use Rattle.asp_clauses.proofs.watches.Watches.move_watch.Goals as goal

pub link-requires-clause-store : goal.link-requires-clause-store
link-requires-clause-store c =
    let old = c.args.self.now in let one = c.unlink.new.self in
    let two : Watches = record one { records = c.exchange.new.self } in
    let f : MoveFrom old c.args.previous c.args.clause c.args.falsified c.args.index = record { store = c.requires.watches.store; watching = c.requires.clause; code = c.requires.code; before = c.requires.previous; unwatched = c.requires.unwatched; within = c.requires.index } in
    IsStore-exchanged old one two c.args.previous c.args.clause c.args.falsified c.args.index f c.unlink.ensures refl refl refl
    (c.exchange.ensures ∙ ap (λ (n : ℕ). set one.records c.args.clause (swap (row_at one.records c.args.clause) (3 + n) (3 + c.args.index))) c.side-side.ensures)

pub returns-clause-store : goal.returns-clause-store
returns-clause-store c =
    let old = c.args.self.now in let one = c.unlink.new.self in
    let two : Watches = record one { records = c.exchange.new.self } in
    let f : MoveFrom old c.args.previous c.args.clause c.args.falsified c.args.index = record { store = c.requires.watches.store; watching = c.requires.clause; code = c.requires.code; before = c.requires.previous; unwatched = c.requires.unwatched; within = c.requires.index } in
    let m : MoveSteps old one two c.link.new.self c.args.previous c.args.clause c.args.falsified c.args.index = record {
      unlinked = c.unlink.ensures;
      atoms = refl;
      watched = refl;
      heads = refl;
      swapped = c.exchange.ensures ∙ ap (λ (n : ℕ). set one.records c.args.clause (swap (row_at one.records c.args.clause) (3 + n) (3 + c.args.index))) c.side-side.ensures;
      linked = subst (λ (n : ℕ). Links two c.link.new.self c.args.clause n) c.side-side.ensures c.link.ensures;
    } in
    IsStore-moved old one two c.link.new.self c.args.previous c.args.clause c.args.falsified c.args.index f m

pub returns-clause-clause : goal.returns-clause-clause
returns-clause-clause c =
    let old = c.args.self.now in let one = c.unlink.new.self in
    let two : Watches = record one { records = c.exchange.new.self } in
    let f : MoveFrom old c.args.previous c.args.clause c.args.falsified c.args.index = record { store = c.requires.watches.store; watching = c.requires.clause; code = c.requires.code; before = c.requires.previous; unwatched = c.requires.unwatched; within = c.requires.index } in
    let m : MoveSteps old one two c.link.new.self c.args.previous c.args.clause c.args.falsified c.args.index = record {
      unlinked = c.unlink.ensures;
      atoms = refl;
      watched = refl;
      heads = refl;
      swapped = c.exchange.ensures ∙ ap (λ (n : ℕ). set one.records c.args.clause (swap (row_at one.records c.args.clause) (3 + n) (3 + c.args.index))) c.side-side.ensures;
      linked = subst (λ (n : ℕ). Links two c.link.new.self c.args.clause n) c.side-side.ensures c.link.ensures;
    } in
    moved_clauses old one two c.link.new.self c.args.previous c.args.clause c.args.falsified c.args.index f m

pub returns-clause-listed : goal.returns-clause-listed
returns-clause-listed c = λ lists k l at.
    let old = c.args.self.now in let one = c.unlink.new.self in
    let two : Watches = record one { records = c.exchange.new.self } in
    let f : MoveFrom old c.args.previous c.args.clause c.args.falsified c.args.index = record { store = c.requires.watches.store; watching = c.requires.clause; code = c.requires.code; before = c.requires.previous; unwatched = c.requires.unwatched; within = c.requires.index } in
    let m : MoveSteps old one two c.link.new.self c.args.previous c.args.clause c.args.falsified c.args.index = record {
      unlinked = c.unlink.ensures;
      atoms = refl;
      watched = refl;
      heads = refl;
      swapped = c.exchange.ensures ∙ ap (λ (n : ℕ). set one.records c.args.clause (swap (row_at one.records c.args.clause) (3 + n) (3 + c.args.index))) c.side-side.ensures;
      linked = subst (λ (n : ℕ). Links two c.link.new.self c.args.clause n) c.side-side.ensures c.link.ensures;
    } in
    IsListed-moved old one two c.link.new.self lists k c.args.previous c.args.clause c.args.falsified c.args.index f m l at
