use Rattle.std.proofs.Common.{◌≡◌, rules}
use Rattle.std.specs.List.{flat_map}
use Rattle.std.proofs.lemmas.Result.{IfOk-weaker}
use Rattle.asp_defs.specs.Safety.{safe_variables}
use Rattle.asp_safety.specs.Variables.{terms_of}
use Rattle.asp_safety.specs.Bindings.{bound_alone, literal_links, links_of}
use Rattle.asp_safety.specs.Closure.{IsLeast}
use Rattle.asp_safety.specs.Safe.{Agree}
use Rattle.asp_safety.proofs.Safe.{safe_by_body}
use Rattle.asp_safety.proofs.safety.safe_of_body.Goals as goal

pub returns : goal.returns
returns c =
    let bound : terms_of c.as_slice.result.now ≡ flat_map bound_alone c.args.body.now = search rules in
    let links : links_of c.as_slice-2.result.now ≡ flat_map literal_links c.args.body.now = search rules in
    IfOk-weaker c.close.result (λ set. IsLeast (terms_of c.as_slice.result.now) (links_of c.as_slice-2.result.now) (terms_of set.keys))
    (λ set. Agree (terms_of set.keys) (safe_variables c.args.body.now))
    (λ set. safe_by_body (terms_of c.as_slice.result.now) (links_of c.as_slice-2.result.now) c.args.body.now bound links (terms_of set.keys))
    c.close.ensures
