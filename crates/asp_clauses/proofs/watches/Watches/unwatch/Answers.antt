use Rattle.std.proofs.Common.{◌-◌, refl, sym, arith, inl, inr}
use Rattle.asp_clauses.specs.Records.{row_at}
use Rattle.asp_clauses.proofs.WatchLemmas.{watch_code}
use Rattle.asp_clauses.proofs.UnlinkLemmas.{length_unlinked, IsStore-unlinked}
use Rattle.asp_clauses.proofs.UnwatchLemmas.{Unwatches, AreWatches-unwatched, unwatched_one}
use Rattle.asp_clauses.proofs.watches.Watches.unwatch.Goals as goal

pub before-before_first-requires-clause-code : goal.before-before_first-requires-clause-code
before-before_first-requires-clause-code c =
    let old = c.args.self.now in let clause = old.watched - 1 in let s = c.requires.watches.store in let most = s.watched in
    let code = watch_code old.atoms (row_at old.records clause) 0 (s.records clause (omega (arith, most, c.requires.some))) (omega arith) in
    omega (arith, code, c.cell-first.ensures)

pub before-before_first-requires-clause-clause : goal.before-before_first-requires-clause-clause
before-before_first-requires-clause-clause c = (omega (arith, c.requires.some), inl (sym c.cell-first.ensures))

pub before-before_second-requires-clause-code : goal.before-before_second-requires-clause-code
before-before_second-requires-clause-code c =
    let old = c.args.self.now in let clause = old.watched - 1 in let s = c.requires.watches.store in let most = s.watched in
    let code = watch_code old.atoms (row_at old.records clause) 1 (s.records clause (omega (arith, most, c.requires.some))) (omega arith) in
    omega (arith, code, c.cell-second.ensures)

pub before-before_second-requires-clause-clause : goal.before-before_second-requires-clause-clause
before-before_second-requires-clause-clause c = (omega (arith, c.requires.some), inr (sym c.cell-second.ensures))

pub unlink-requires-clause-code : goal.unlink-requires-clause-code
unlink-requires-clause-code c =
    let old = c.args.self.now in let clause = old.watched - 1 in let s = c.requires.watches.store in let most = s.watched in
    let code = watch_code old.atoms (row_at old.records clause) 0 (s.records clause (omega (arith, most, c.requires.some))) (omega arith) in
    omega (arith, code, c.cell-first.ensures)

pub unlink-requires-2-clause-store : goal.unlink-requires-2-clause-store
unlink-requires-2-clause-store c =
    let old = c.args.self.now in
    IsStore-unlinked old c.unlink.new.self c.before-before_first.result (old.watched - 1) c.cell-first.result c.requires.watches.store c.unlink.ensures c.before-before_first.ensures.within

pub unlink-requires-2-clause-clause : goal.unlink-requires-2-clause-clause
unlink-requires-2-clause-clause c =
    let old = c.args.self.now in let most = c.requires.watches.store.watched in
    let l = length_unlinked old c.unlink.new.self c.before-before_first.result (old.watched - 1) c.cell-first.result c.unlink.ensures in
    omega (arith, l, most, c.requires.some)

pub unlink-requires-2-clause-previous : goal.unlink-requires-2-clause-previous
unlink-requires-2-clause-previous c =
    let old = c.args.self.now in
    let l = length_unlinked old c.unlink.new.self c.before-before_first.result (old.watched - 1) c.cell-first.result c.unlink.ensures in
    elim c.before-before_second.ensures.within [ inl lt ↦ inl (omega (arith, lt, l)) | inr e ↦ inr e ]

pub unlink-requires-2-clause-code : goal.unlink-requires-2-clause-code
unlink-requires-2-clause-code c =
    let old = c.args.self.now in let clause = old.watched - 1 in let s = c.requires.watches.store in let most = s.watched in
    let code = watch_code old.atoms (row_at old.records clause) 1 (s.records clause (omega (arith, most, c.requires.some))) (omega arith) in
    let atoms = c.unlink.ensures.atoms in
    omega (arith, code, c.cell-second.ensures, atoms)

pub returns-clause-watches : goal.returns-clause-watches
returns-clause-watches c =
    let old = c.args.self.now in let one = c.unlink.new.self in let two = c.unlink-2.new.self in let clause = old.watched - 1 in
    let u : Unwatches old one two (record two { watched = clause }) clause c.cell-first.result c.cell-second.result c.before-before_first.result c.before-before_second.result = record {
      last = omega (arith, c.requires.some);
      first_is = c.cell-first.ensures;
      second_is = c.cell-second.ensures;
      unlinked = c.unlink.ensures;
      unlinked_too = c.unlink-2.ensures;
      p_within = c.before-before_first.ensures.within;
      q_within = c.before-before_second.ensures.within;
      p_before = c.before-before_first.ensures.before;
      q_before = c.before-before_second.ensures.before;
      new_is = refl;
    } in
    AreWatches-unwatched old one two (record two { watched = clause }) clause c.cell-first.result c.cell-second.result c.before-before_first.result c.before-before_second.result c.requires.watches u

pub returns-clause-one_less : goal.returns-clause-one_less
returns-clause-one_less c =
    let old = c.args.self.now in let one = c.unlink.new.self in let two = c.unlink-2.new.self in let clause = old.watched - 1 in
    let u : Unwatches old one two (record two { watched = clause }) clause c.cell-first.result c.cell-second.result c.before-before_first.result c.before-before_second.result = record {
      last = omega (arith, c.requires.some);
      first_is = c.cell-first.ensures;
      second_is = c.cell-second.ensures;
      unlinked = c.unlink.ensures;
      unlinked_too = c.unlink-2.ensures;
      p_within = c.before-before_first.ensures.within;
      q_within = c.before-before_second.ensures.within;
      p_before = c.before-before_first.ensures.before;
      q_before = c.before-before_second.ensures.before;
      new_is = refl;
    } in
    unwatched_one old one two (record two { watched = clause }) clause c.cell-first.result c.cell-second.result c.before-before_first.result c.before-before_second.result u
