use Rattle.std.proofs.Common.{◌≡◌, ℕ, ◌+◌, ◌-◌, ◌<◌, set, get_or, List, ap, ◌∙◌, refl, arith}
use Rattle.std.proofs.lemmas.List.{get_or_read}
use Rattle.asp_clauses.specs.Records.{row_at}
use Rattle.asp_clauses.proofs.WatchLemmas.{watch_code}
use Rattle.asp_clauses.proofs.watches.Watches.link.Goals as goal

-- the other watch of the other side
this_side : (row : List ℕ) (side x : ℕ) → side < 2 → x ≡ get_or row (4 - (1 - side)) 0 → x ≡ get_or row (3 + side) 0
this_side row side x h e = let n : 4 - (1 - side) ≡ 3 + side = omega (arith, h) in e ∙ ap (λ (k : ℕ). get_or row k 0) n

pub index-requires : goal.index-requires
index-requires c =
    let w = c.args.self.now in let s = c.requires.store in
    let code = watch_code w.atoms (row_at w.records c.args.clause) c.args.side (s.records c.args.clause c.requires.clause) c.requires.side in
    omega (arith, code, (this_side _ _ _ c.requires.side c.other-literal.ensures), s.heads, w.heads.ok)

pub index_mut-requires : goal.index_mut-requires
index_mut-requires c =
    let w = c.args.self.now in let s = c.requires.store in
    let code = watch_code w.atoms (row_at w.records c.args.clause) c.args.side (s.records c.args.clause c.requires.clause) c.requires.side in
    omega (arith, code, (this_side _ _ _ c.requires.side c.other-literal.ensures), s.heads, w.heads.ok)

pub returns : goal.returns
returns c =
    let w = c.args.self.now in let s = c.requires.store in
    let row = row_at w.records c.args.clause in
    let code = watch_code w.atoms row c.args.side (s.records c.args.clause c.requires.clause) c.requires.side in
    let read = get_or_read w.heads.items c.other-literal.result c.index.result.now (omega (arith, code, (this_side _ _ _ c.requires.side c.other-literal.ensures), s.heads)) c.index.ensures 0 in
    record {
      atoms = refl;
      watched = refl;
      heads = ap (λ (n : ℕ). set w.heads.items n c.args.clause) (this_side _ _ _ c.requires.side c.other-literal.ensures);
      records = c.set_link.ensures ∙ ap (λ (n : ℕ). set w.records c.args.clause (set row (1 + c.args.side) n)) (read ∙ ap (λ (n : ℕ). get_or w.heads.items n 0) (this_side _ _ _ c.requires.side c.other-literal.ensures));
    }
