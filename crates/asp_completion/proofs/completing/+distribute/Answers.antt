use Rattle.std.proofs.Common.{◌≡◌, ◌∙◌, ◌+◌, ◌<◌, ◌≤◌, ◌++◌, ◌∷◌, [], List, true, not, length, take, sym, ap, subst, arith}
use Rattle.std.proofs.lemmas.List.{take_all}
use Rattle.std.proofs.lemmas.Result.{on_ok_weaker}
use Rattle.asp_defs.specs.declared.ground.GroundRule.{GroundRule}
use Rattle.asp_defs.specs.declared.ground.Lit.{Lit}
use Rattle.asp_search.specs.State.{SearchState}
use Rattle.asp_completion.specs.declared.heads.Chain.{Chain}
use Rattle.asp_completion.specs.Codes.{literal}
use Rattle.asp_completion.specs.Levels.{game_at}
use Rattle.asp_completion.specs.Supporters.{body_literals, no_literal, shares, stands}
use Rattle.asp_completion.specs.Chains.{IsChain, rules_along}
use Rattle.asp_completion.specs.Completions.{Completes, OneIsTrue, IsSoundChoice}
use Rattle.asp_completion.proofs.Chaining.{some_from, along-none, along-parts, rest-less, chain-rest}
use Rattle.asp_completion.proofs.Headed.{completes-both, completes-as, has-rules}
use Rattle.asp_completion.proofs.Distributing.{EachIsTrue, shared-sound, each-forth, each-back, each-skip, each-less, distributed-none, distributed-shared, distributed-whole, longer-given, body-length, literal-in, popped}
use Rattle.asp_completion.proofs.completing.+distribute.Goals as goal
use Rattle.asp_completion.proofs.completing.+distribute.Goals.{then-not-contains+in_ok-push+in_ok-distribute, else-not-contains}

pub returns-then-chain-eq0-clause-added : goal.returns-then-chain-eq0-clause-added
returns-then-chain-eq0-clause-added t c =
    let l = c.args.level.now in
    on_ok_weaker c.add_clause.result
    (distributed-none l c.args.clause.now.items c.as_slice.result.now (rules_along l c.args.heads.now c.args.chain) c.args.search.now c.add_clause.new.search
    (along-none l c.args.heads.now c.args.chain c.if-chain-eq0.true) c.as_slice.ensures.value c.requires.rules c.requires.sound)
    c.add_clause.ensures.added

pub distribute-requires : goal.distribute-requires
distribute-requires t c =
    let l = c.args.level.now in
    let heads = c.args.heads.now in
    let chain = c.args.chain in
    let lits = c.args.clause.now.items in
    let r = c.first-rule.result.now in
    let some : 0 < chain.count = some_from chain.count c.if-chain-eq0.false in
    let parts = along-parts l heads chain r c.rest-others.result some c.first-rule.ensures c.rest-others.ensures in
    let does : shares lits r ≡ true =
    ap (λ (xs : List Lit). shares xs r) (sym c.as_slice-2.ensures.value) ∙ (sym c.shares.ensures ∙ c.if-shares.true) in
    let less = rest-less heads chain c.rest-others.result some c.rest-others.ensures in
    let start = c.decreases in (
      omega arith,
      (
        c.requires.ready,
        (
          c.requires.rules,
          (
            subst (λ (k : Chain). IsChain l heads k) (sym c.rest-others.ensures) (chain-rest l heads chain c.requires.chain some),
            shared-sound lits r (rules_along l heads c.rest-others.result) does (game_at l) l.number
                (subst (λ (rs : List GroundRule). IsSoundChoice (game_at l) l.number lits rs) parts c.requires.sound),
          ),
        ),
      ),
    )

pub returns-then-shares-clause-added : goal.returns-then-shares-clause-added
returns-then-shares-clause-added t c =
    let l = c.args.level.now in
    let heads = c.args.heads.now in
    let chain = c.args.chain in
    let lits = c.args.clause.now.items in
    let r = c.first-rule.result.now in
    let some : 0 < chain.count = some_from chain.count c.if-chain-eq0.false in
    let parts = along-parts l heads chain r c.rest-others.result some c.first-rule.ensures c.rest-others.ensures in
    let does : shares lits r ≡ true =
    ap (λ (xs : List Lit). shares xs r) (sym c.as_slice-2.ensures.value) ∙ (sym c.shares.ensures ∙ c.if-shares.true) in
    on_ok_weaker c.distribute.result
    (distributed-shared l lits r (rules_along l heads c.rest-others.result) (rules_along l heads chain) c.args.search.now c.distribute.new.search parts does)
    c.distribute.ensures.added

pub distribute-requires-then-not-contains : goal.distribute-requires-then-not-contains
distribute-requires-then-not-contains t c =
    let l = c.args.level.now in
    let heads = c.args.heads.now in
    let chain = c.args.chain in
    let lits = c.args.clause.now.items in
    let r = c.first-rule.result.now in
    let k = c.loop-place.place in
    let b = c.body_literal-literal.result in
    let rules = rules_along l heads c.rest-others.result in
    let some : 0 < chain.count = some_from chain.count c.if-chain-eq0.false in
    let parts = along-parts l heads chain r c.rest-others.result some c.first-rule.ensures c.rest-others.ensures in
    let test = c.loop-place-test.true in
    let end = c.body_size-place-end.ensures in
    let less = rest-less heads chain c.rest-others.result some c.rest-others.ensures in
    let start = c.decreases in (
      omega arith,
      (
        c.requires.ready,
        (
          has-rules l (EachIsTrue lits (take k (body_literals r)) rules) c.args.search.now c.loop-place.search c.requires.rules c.loop-place.invariant.added,
          (
            subst (λ (x : Chain). IsChain l heads x) (sym c.rest-others.ensures) (chain-rest l heads chain c.requires.chain some),
            longer-given l c.requires.ready lits c.loop-place.clause.items c.push.new.self.items r rules (rules_along l heads chain) b parts
                (literal-in r k b (omega (arith, test, end)) c.body_literal-literal.ensures) c.loop-place.invariant.clause
                c.in_ok-push.ensures.items c.requires.sound,
          ),
        ),
      ),
    )

pub loop-place-preserved : goal.loop-place-preserved
loop-place-preserved t c =
    let l = c.args.level.now in
    let heads = c.args.heads.now in
    let lits = c.args.clause.now.items in
    let r = c.first-rule.result.now in
    let k = c.loop-place.place in
    let b = c.body_literal-literal.result in
    let bodies = body_literals r in
    let rules = rules_along l heads c.rest-others.result in
    let test = c.loop-place-test.true in
    let end = c.body_size-place-end.ensures in
    let size = body-length r in
    let h : k < length bodies = omega (arith, test, end, size) in
    let is = c.body_literal-literal.ensures in
    elim c.if-not-contains.branch [
      | then-not-contains+in_ok-push+in_ok-distribute w ↦
          let more = w.push.new.self.items in
          let e : more ≡ lits ++ b ∷ [] = w.in_ok-push.ensures.items ∙ ap (λ (xs : List Lit). xs ++ b ∷ []) c.loop-place.invariant.clause in
          let kept = w.distribute-then-not-contains.new.clause in
          let ok = kept.ok in
          let long : kept.len ≡ length kept.items = omega (arith, ok) in
          let longer : kept.items ≡ c.loop-place.clause.items ++ b ∷ [] = w.in_ok-distribute.ensures.clause ∙ w.in_ok-push.ensures.items in
          let back : w.pop.new.self.items ≡ lits =
          w.pop.ensures.rest ∙ popped lits c.loop-place.clause.items kept.items b kept.len c.loop-place.invariant.clause longer long in
          let now : c.if-not-contains.clause.items ≡ w.pop.new.self.items = ap (λ v. v.items) w.clause-is in
          record {
            added = subst (λ (s : SearchState). Completes l (EachIsTrue lits (take (k + 1) bodies) rules) c.args.search.now s) (sym w.search-is)
                (completes-both l (EachIsTrue lits (take k bodies) rules) (OneIsTrue (lits ++ b ∷ []) rules) (EachIsTrue lits (take (k + 1) bodies) rules)
                c.args.search.now c.loop-place.search w.distribute-then-not-contains.new.search
                (λ N. each-forth lits bodies rules k no_literal b h is N) (λ N. each-back lits bodies rules k no_literal b h is N)
                c.loop-place.invariant.added
                (subst (λ (xs : List Lit). Completes l (OneIsTrue xs rules) c.loop-place.search w.distribute-then-not-contains.new.search) e
                w.in_ok-distribute.ensures.added));
            clause = now ∙ back;
          }
      | else-not-contains w ↦
          let read : c.as_slice-in-loop-place.result.now ≡ lits = c.as_slice-in-loop-place.ensures.value ∙ c.loop-place.invariant.clause in
          let found : stands c.as_slice-in-loop-place.result.now (literal (not b.positive) b.atom) ≡ true =
          sym c.contains.ensures ∙ w.if-not-contains.false in
          let there : stands lits (literal (not b.positive) b.atom) ≡ true =
          subst (λ (xs : List Lit). stands xs (literal (not b.positive) b.atom) ≡ true) read found in
          let now : c.if-not-contains.clause.items ≡ c.loop-place.clause.items = ap (λ v. v.items) w.clause-is in
          record {
            added = subst (λ (s : SearchState). Completes l (EachIsTrue lits (take (k + 1) bodies) rules) c.args.search.now s) (sym w.search-is)
                (completes-as l (EachIsTrue lits (take k bodies) rules) (EachIsTrue lits (take (k + 1) bodies) rules) c.args.search.now c.loop-place.search
                (λ N. each-skip lits bodies rules k no_literal b h is N there) (λ N. each-less lits bodies rules k no_literal b h is N)
                c.loop-place.invariant.added);
            clause = now ∙ c.loop-place.invariant.clause;
          }
    ]

pub returns-clause-added : goal.returns-clause-added
returns-clause-added t c =
    let l = c.args.level.now in
    let heads = c.args.heads.now in
    let chain = c.args.chain in
    let r = c.first-rule.result.now in
    let k = c.loop-place.place in
    let some : 0 < chain.count = some_from chain.count c.if-chain-eq0.false in
    let stop = c.loop-place-test.false in
    let end = c.body_size-place-end.ensures in
    let size = body-length r in
    let past : length (body_literals r) ≤ k = omega (arith, stop, end, size) in
    distributed-whole l c.args.clause.now.items (take k (body_literals r)) r (rules_along l heads c.rest-others.result) (rules_along l heads chain)
    c.args.search.now c.loop-place.search
    (along-parts l heads chain r c.rest-others.result some c.first-rule.ensures c.rest-others.ensures) (take_all k (body_literals r) past)
    c.loop-place.invariant.added
