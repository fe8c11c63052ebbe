use Rattle.std.proofs.Common.{ℕ, ◌≡◌, ◌<◌, ◌+◌, ◌∙◌, sym, ap, List, [], ◌∷◌, ◌++◌, take, drop, length, get_or, arith}
use Rattle.std.specs.Prelude.{slice_set}
use Rattle.std.specs.List.{flat_map}
use Rattle.std.proofs.lemmas.List.{take_all, take-take, take-set, take_more_set, drop_more}
use Rattle.asp_defs.specs.declared.ground.Counted.{Counted}
use Rattle.asp_defs.specs.Bases.{product}
use Rattle.asp_ground.specs.declared.bound_template.ElementTemplate.{ElementTemplate}
use Rattle.asp_template.specs.Domains.{domains_of}
use Rattle.asp_ground.specs.BoundTemplates.{term_at}
use Rattle.asp_template.proofs.Steps.{grows, odometer}
use Rattle.asp_ground.proofs.bounds.+add_terms.Goals as goal

-- the terms behind given ranks
abbrev behind : ℕ → ElementTemplate → List (List ℕ) → List ℕ → List Counted
behind size element rest front = flat_map (λ tuple. term_at size element (front ++ tuple)) (product rest)

-- what is given stays where more is
shorter_front : (i rank : ℕ) (xs ys : List ℕ) → take (i + 1) xs ≡ take (i + 1) (slice_set ys i rank) → take i xs ≡ take i ys
shorter_front i rank xs ys e =
    sym (take-take i (i + 1) xs (omega arith)) ∙ (ap (take i) e ∙ (take-take i (i + 1) (slice_set ys i rank) (omega arith) ∙ take-set ys i rank))

pub loop-rank-preserved : goal.loop-rank-preserved
loop-rank-preserved t c =
    let inside : c.args.given < length c.loop-rank.ranks = omega arith in
    let rank : ℕ = get_or c.domain_at-domain.result.now c.loop-rank.rank-index 0 in
    let front : take (c.args.given + 1) (slice_set c.loop-rank.ranks c.args.given rank) ≡ take c.args.given c.args.ranks.now ++ rank ∷ [] =
    take_more_set c.loop-rank.ranks c.args.given rank inside ∙ ap (λ (ys : List ℕ). ys ++ rank ∷ []) c.loop-rank.invariant.1 in (
      grows (λ (r : ℕ). behind c.args.size c.args.element.now (drop (c.args.given + 1) (domains_of c.args.domains)) (take c.args.given c.args.ranks.now ++ r ∷ []))
          c.args.out.now c.loop-rank.out c.add_terms.new.out c.domain_at-domain.result.now c.loop-rank.rank-index 0 (omega arith) c.loop-rank.invariant.0
          (c.in_ok-add_terms.ensures.added
          ∙ ap (λ (ys : List ℕ). c.loop-rank.out ++ behind c.args.size c.args.element.now (drop (c.args.given + 1) (domains_of c.args.domains)) ys) front),
      shorter_front c.args.given rank c.add_terms.new.ranks c.loop-rank.ranks c.in_ok-add_terms.ensures.kept ∙ c.loop-rank.invariant.1,
    )

pub returns-clause-added : goal.returns-clause-added
returns-clause-added t c =
    let inside : c.args.given < length (domains_of c.args.domains) = omega arith in
    let first : drop c.args.given (domains_of c.args.domains) ≡ c.domain_at-domain.result.now ∷ drop (c.args.given + 1) (domains_of c.args.domains) =
    drop_more (domains_of c.args.domains) c.args.given [] inside
    ∙ ap (λ (d : List ℕ). d ∷ drop (c.args.given + 1) (domains_of c.args.domains)) (sym c.domain_at-domain.ensures) in
    c.loop-rank.invariant.0
    ∙ (ap (λ (xs : List ℕ). c.args.out.now ++ flat_map (λ (r : ℕ). behind c.args.size c.args.element.now (drop (c.args.given + 1) (domains_of c.args.domains)) (take c.args.given c.args.ranks.now ++ r ∷ [])) xs)
    (take_all c.loop-rank.rank-index c.domain_at-domain.result.now (omega arith))
    ∙ (ap (λ (rs : List Counted). c.args.out.now ++ rs) (odometer (term_at c.args.size c.args.element.now) (take c.args.given c.args.ranks.now) c.domain_at-domain.result.now (drop (c.args.given + 1) (domains_of c.args.domains)))
    ∙ ap (λ (ds : List (List ℕ)). c.args.out.now ++ behind c.args.size c.args.element.now ds (take c.args.given c.args.ranks.now)) (sym first)))
