use Rattle.std.proofs.Common.{◌≡◌, ℕ, Option, sym, subst, length}
use Rattle.std.proofs.lemmas.List.{length-map}
use Rattle.asp_safety.specs.Variables.{term_of, terms_of}
use Rattle.asp_safety.specs.Bindings.{link_of, links_of}
use Rattle.asp_safety.specs.Index.{IsLast, last_of}
use Rattle.asp_safety.proofs.Places.{following_start, following_more, following_end, before_at}
use Rattle.asp_safety.proofs.closure.follow.Goals as goal

pub loop-at-init : goal.loop-at-init
loop-at-init c =
    let all : length c.args.links.now ≡ length (links_of c.args.links.now) = sym (length-map c.args.links.now link_of) in
    following_start (links_of c.args.links.now) (term_of c.args.from) (terms_of c.args.safe.now.keys) (terms_of c.args.queue.now.items) c.last_from-at.result
    (subst (λ (o : Option ℕ). IsLast (links_of c.args.links.now) (length (links_of c.args.links.now)) (term_of c.args.from) o) (sym c.last_from-at.ensures)
    (subst (λ (n : ℕ). IsLast (links_of c.args.links.now) n (term_of c.args.from) (last_of c.args.index.now.last.entries (term_of c.args.from))) all (c.requires.last c.args.from)))

pub loop-at-preserved : goal.loop-at-preserved
loop-at-preserved c =
    following_more c.args.links.now (term_of c.args.from) c.in-Some.place _ c.loop-at.at c.index-at.result.now
    (terms_of c.args.safe.now.keys) (terms_of c.loop-at.safe.keys) (terms_of c.settle.new.safe.keys)
    (terms_of c.args.queue.now.items) (terms_of c.loop-at.queue.items) (terms_of c.settle.new.queue.items) c.in-Some.is c.loop-at.invariant
    (before_at c.args.links.now (term_of c.args.from) c.in-Some.place c.loop-at.at c.index-at.result.now (terms_of c.args.safe.now.keys) (terms_of c.loop-at.safe.keys)
    (terms_of c.args.queue.now.items) (terms_of c.loop-at.queue.items) c.args.index.now.last.entries c.args.index.now.previous.items c.in-Some.is c.loop-at.invariant c.requires c.index-at.ensures)
    c.in_ok-settle.ensures

pub returns : goal.returns
returns c =
    following_end (links_of c.args.links.now) (term_of c.args.from) c.loop-at.at (terms_of c.args.safe.now.keys) (terms_of c.loop-at.safe.keys)
    (terms_of c.args.queue.now.items) (terms_of c.loop-at.queue.items) c.in_default.is c.loop-at.invariant
