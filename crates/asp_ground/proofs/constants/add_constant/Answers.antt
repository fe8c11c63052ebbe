use Rattle.std.proofs.Common.{◌<◌, sym, subst, List, map, length, arith}
use Rattle.std.proofs.lemmas.Bool.{eqb-false}
use Rattle.asp_atoms.specs.declared.const_refs.ConstRef.{ConstRef}
use Rattle.asp_atoms.specs.ConstRefs.{const_of}
use Rattle.asp_ground.specs.Gaps.{Gap, IsAt}
use Rattle.asp_ground.proofs.Gathered.{inserted, there_already}
use Rattle.asp_ground.proofs.constants.add_constant.Goals as goal

pub returns-then-not-is_full : goal.returns-then-not-is_full
returns-then-not-is_full c =
    let apart = eqb-false (length c.args.found.now.items) 4097 (sym c.if-not-is_full.ensures.value) in
    let fits = c.is_full.ensures.fits in
    let room : length c.args.found.now.items < 4097 = omega (arith, apart, fits) in
    inserted c.args.found.now.items c.insert.new.self.items c.args.constant c.in-Err.place c.requires
    (subst (λ (refs : List ConstRef). Gap (map const_of refs) (const_of c.args.constant) c.in-Err.place) c.as_slice.ensures.value c.in-Err.ensures)
    room c.insert.ensures.items

pub returns-in-Ok : goal.returns-in-Ok
returns-in-Ok c =
    there_already (map const_of c.args.found.now.items) (const_of c.args.constant) c.in-Ok.field-0 c.requires
    (subst (λ (refs : List ConstRef). IsAt (map const_of refs) (const_of c.args.constant) c.in-Ok.field-0) c.as_slice.ensures.value c.in-Ok.ensures)
