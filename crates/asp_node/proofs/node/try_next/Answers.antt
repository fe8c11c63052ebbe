use Rattle.std.proofs.Common.{◌≡◌, ℕ, Bool, true, false, List, refl, sym, ap, ◌∙◌, subst}
use Rattle.std.specs.Bool.{beq}
use Rattle.std.specs.Prelude.{Ok}
use Rattle.asp_bits.specs.Places.{true_places}
use Rattle.asp_defs.specs.declared.ground.Lit.{Lit}
use Rattle.asp_defs.specs.Entries.{Entry, cube_holds}
use Rattle.asp_defs.specs.History.{is_legal}
use Rattle.asp_game.specs.Answers.{is_on_base}
use Rattle.asp_node.specs.Ends.{winning_at, IsExhausted, RefutingEntry}
use Rattle.asp_node.proofs.Steps.{Answer, answer, moves-on, found-move, fewer_left, decided-same, exhausted-same}
use Rattle.asp_node.proofs.Exhausting.{exhausted}
use Rattle.asp_node.proofs.Advancing.{advances-asked, advances-copied, advances-decided, advances-kept, advances-refused, answer-stays, answer-wins, answer-refutes, answer-base, verdict-wins, found-inside}
use Rattle.asp_node.proofs.node.try_next.Goals as goal

pub returns-in-Core-clause-exhausted : goal.returns-in-Core-clause-exhausted
returns-in-Core-clause-exhausted g c cube same =
    let here = c.args.place.now.game.now in
    let i = c.args.place.now.level in
    let s = g.S.Shelf.state c.args.shelf.now in
    let M = true_places c.args.place.now.outer.now in
    let region = c.args.place.now.region.now in
    subst (λ (lits : List Lit). IsExhausted here i M region s.seen lits)
    (sym (sym (exhausted-same _ cube same) ∙ c.in_ok-cube-in-Core.ensures.lits ∙ c.as_slice.ensures))
    (exhausted here i M region (g.M.Moves.state c.args.moves.now) s.seen c.in-Core.core c.requires.place.first c.requires.fit.legal c.requires.fit.moves c.requires.fit.level
    c.requires.fit.kept c.requires.asked (c.in_ok-core.ensures.core c.in-Core.core (cc)))

pub ask-requires-clause-set : goal.ask-requires-clause-set
ask-requires-clause-set g c =
    found-inside c.args.place.now.game.now c.args.place.now.level (true_places c.args.place.now.outer.now) c.args.place.now.region.now (g.S.Shelf.state c.args.shelf.now)
    (g.M.Moves.state c.args.moves.now) (g.C.Child.state c.args.child.now) c.in-Found.set c.requires.place.valid c.requires.fit c.requires.asked
    (c.in_ok-core.ensures.found c.in-Found.set (cc))

pub returns-in_err-at-clause-advances : goal.returns-in_err-at-clause-advances
returns-in_err-at-clause-advances g c =
    advances-asked c.args.place.now.game.now c.args.place.now.level (g.S.Shelf.state c.args.shelf.now) (g.S.Shelf.state c.ask.new.shelf) (g.M.Moves.state c.args.moves.now)
    (g.M.Moves.state c.next.new.self) (g.C.Child.state c.args.child.now) (g.C.Child.state c.ask.new.child) c.requires.fit c.next.ensures.goes_on c.ask.ensures.shelf
    c.ask.ensures.goes_on c.ask.ensures.rests

pub copy-requires : goal.copy-requires
copy-requires g c = (c.in_ok-at.ensures.held c.in_ok-at.at refl).inside

pub returns-in_err-answer-clause-advances : goal.returns-in_err-answer-clause-advances
returns-in_err-answer-clause-advances g c =
    advances-copied c.args.place.now.game.now c.args.place.now.level (g.S.Shelf.state c.args.shelf.now) (g.S.Shelf.state c.ask.new.shelf) (g.S.Shelf.state c.copy.new.self)
    (g.M.Moves.state c.args.moves.now) (g.M.Moves.state c.next.new.self) (g.C.Child.state c.args.child.now) (g.C.Child.state c.ask.new.child) c.requires.fit c.next.ensures.goes_on
    c.ask.ensures.shelf c.ask.ensures.goes_on c.ask.ensures.rests c.copy.ensures.goes_on

pub decide-requires-clause-set : goal.decide-requires-clause-set
decide-requires-clause-set g c =
    found-move c.args.place.now.game.now c.args.place.now.level (true_places c.args.place.now.outer.now) c.args.place.now.region.now (g.M.Moves.state c.args.moves.now) c.in-Found.set
    c.requires.fit.moves c.requires.fit.level c.requires.asked (c.in_ok-core.ensures.found c.in-Found.set (cc))

pub decide-requires-clause-won : goal.decide-requires-clause-won
decide-requires-clause-won g c =
    let here = c.args.place.now.game.now in
    let i = c.args.place.now.level in
    let t = g.S.Shelf.state c.ask.new.shelf in
    let v = g.S.Shelf.state c.copy.new.self in
    let N = true_places c.in-Found.set in
    let e : Entry = c.in_ok-answer.answer in
    answer-wins here i v.seen N e
    (answer-stays t v i N e c.copy.ensures.goes_on (answer t.seen i c.in_ok-at.at N e (c.in_ok-at.ensures.held c.in_ok-at.at refl) c.in_ok-answer.ensures.entry))
    (verdict-wins (record { level = c.answer.inside.level; cube = c.answer.inside.cube; verdict = c.answer.inside.verdict; seed = c.answer.inside.seed }) e
    c.winning_verdict.result (winning_at here i) c.answer.view_is c.if-answer-winning_verdict.true c.winning_verdict.ensures)

pub returns-in_err-at-2-clause-advances : goal.returns-in_err-at-2-clause-advances
returns-in_err-at-2-clause-advances g c =
    advances-decided c.args.place.now.game.now c.args.place.now.level (g.S.Shelf.state c.args.shelf.now) (g.S.Shelf.state c.ask.new.shelf) (g.S.Shelf.state c.copy.new.self)
    (g.S.Shelf.state c.decide.new.shelf) (g.M.Moves.state c.args.moves.now) (g.M.Moves.state c.next.new.self) (g.C.Child.state c.args.child.now) (g.C.Child.state c.ask.new.child)
    c.requires.fit c.next.ensures.goes_on c.ask.ensures.shelf c.ask.ensures.goes_on c.ask.ensures.rests c.copy.ensures.goes_on c.decide.ensures.goes_on

pub returns-then-answer-winning_verdict-clause-advances : goal.returns-then-answer-winning_verdict-clause-advances
returns-then-answer-winning_verdict-clause-advances g c =
    advances-decided c.args.place.now.game.now c.args.place.now.level (g.S.Shelf.state c.args.shelf.now) (g.S.Shelf.state c.ask.new.shelf) (g.S.Shelf.state c.copy.new.self)
    (g.S.Shelf.state c.decide.new.shelf) (g.M.Moves.state c.args.moves.now) (g.M.Moves.state c.next.new.self) (g.C.Child.state c.args.child.now) (g.C.Child.state c.ask.new.child)
    c.requires.fit c.next.ensures.goes_on c.ask.ensures.shelf c.ask.ensures.goes_on c.ask.ensures.rests c.copy.ensures.goes_on c.decide.ensures.goes_on

pub returns-then-answer-winning_verdict-clause-decided : goal.returns-then-answer-winning_verdict-clause-decided
returns-then-answer-winning_verdict-clause-decided g c at same = c.in_ok-at-2.ensures.held at (ap (λ (k : ℕ). Ok k) (decided-same c.in_ok-at-2.at at same))

pub keep-requires : goal.keep-requires
keep-requires g c =
    let here = c.args.place.now.game.now in
    let i = c.args.place.now.level in
    let t = g.S.Shelf.state c.ask.new.shelf in
    let m = g.M.Moves.state c.args.moves.now in
    let n = g.M.Moves.state c.next.new.self in
    let N = true_places c.in-Found.set in
    let e : Entry = c.in_ok-answer.answer in
    let goes = moves-on m n c.next.ensures.goes_on in
    subst (λ (lits : List Lit). is_on_base n lits ≡ true) (sym (c.lits.ensures.lits ∙ ap (λ (x : Entry). x.cube) c.answer.view_is))
    (answer-base here i t.seen N e n (subst (λ h. is_legal h t.seen ≡ true) (c.ask.ensures.shelf.game ∙ c.requires.fit.shelf) c.ask.ensures.shelf.legal)
    (goes.game ∙ c.requires.fit.moves) (goes.level ∙ c.requires.fit.level)
    (answer t.seen i c.in_ok-at.at N e (c.in_ok-at.ensures.held c.in_ok-at.at refl) c.in_ok-answer.ensures.entry))

pub returns-in_err-keep-clause-advances : goal.returns-in_err-keep-clause-advances
returns-in_err-keep-clause-advances g c =
    let here = c.args.place.now.game.now in
    let i = c.args.place.now.level in
    let s = g.S.Shelf.state c.args.shelf.now in
    let v = g.S.Shelf.state c.copy.new.self in
    let m = g.M.Moves.state c.args.moves.now in
    let n = g.M.Moves.state c.next.new.self in
    let a = g.C.Child.state c.args.child.now in
    let b = g.C.Child.state c.ask.new.child in
    advances-refused here i s v m n (g.M.Moves.state c.keep.new.self) a b
    (advances-copied here i s (g.S.Shelf.state c.ask.new.shelf) v m n a b c.requires.fit c.next.ensures.goes_on
    c.ask.ensures.shelf c.ask.ensures.goes_on c.ask.ensures.rests c.copy.ensures.goes_on)
    c.in_err-keep.ensures.no_memory

pub returns-clause-advances : goal.returns-clause-advances
returns-clause-advances g c =
    let here = c.args.place.now.game.now in
    let i = c.args.place.now.level in
    let s = g.S.Shelf.state c.args.shelf.now in
    let t = g.S.Shelf.state c.ask.new.shelf in
    let v = g.S.Shelf.state c.copy.new.self in
    let m = g.M.Moves.state c.args.moves.now in
    let n = g.M.Moves.state c.next.new.self in
    let a = g.C.Child.state c.args.child.now in
    let b = g.C.Child.state c.ask.new.child in
    let N = true_places c.in-Found.set in
    let e : Entry = c.in_ok-answer.answer in
    let loses : beq e.verdict (winning_at here i) ≡ false =
    subst (λ (w : Bool). beq e.verdict w ≡ false) c.winning_verdict.ensures
    (subst (λ (x : Entry). beq x.verdict c.winning_verdict.result ≡ false) c.answer.view_is c.if-answer-winning_verdict.false) in
    advances-kept here i s v m n (g.M.Moves.state c.keep.new.self) a b c.lits.result.now
    (advances-copied here i s t v m n a b c.requires.fit c.next.ensures.goes_on
    c.ask.ensures.shelf c.ask.ensures.goes_on c.ask.ensures.rests c.copy.ensures.goes_on)
    (subst (λ (lits : List Lit). RefutingEntry here i v.seen lits) (sym (c.lits.ensures.lits ∙ ap (λ (x : Entry). x.cube) c.answer.view_is))
    (answer-refutes here i v.seen N e
    (answer-stays t v i N e c.copy.ensures.goes_on (answer t.seen i c.in_ok-at.at N e (c.in_ok-at.ensures.held c.in_ok-at.at refl) c.in_ok-answer.ensures.entry)) loses))
    c.in_ok-keep.ensures.kept

pub returns-clause-fewer : goal.returns-clause-fewer
returns-clause-fewer g c _ =
    let t = g.S.Shelf.state c.ask.new.shelf in
    let N = true_places c.in-Found.set in
    let e : Entry = c.in_ok-answer.answer in
    let a : Answer t.seen c.args.place.now.level N e =
    answer t.seen c.args.place.now.level c.in_ok-at.at N e (c.in_ok-at.ensures.held c.in_ok-at.at refl) c.in_ok-answer.ensures.entry in
    fewer_left (g.M.Moves.state c.args.moves.now) (g.M.Moves.state c.next.new.self) (g.M.Moves.state c.keep.new.self) (true_places c.args.place.now.outer.now)
    c.args.place.now.region.now c.in-Found.set c.lits.result.now c.next.ensures.goes_on c.requires.asked (c.in_ok-core.ensures.found c.in-Found.set (cc))
    (subst (λ (lits : List Lit). cube_holds lits N ≡ true) (sym (c.lits.ensures.lits ∙ ap (λ (x : Entry). x.cube) c.answer.view_is)) a.holds)
    c.in_ok-keep.ensures.kept
