use Rattle.std.proofs.Common.{◌≡◌, ℕ, ◌+◌, ◌<◌, get_or, ap, sym, ◌∙◌, refl, subst, arith}
use Rattle.asp_clauses.specs.declared.watches.Watches.{Watches}
use Rattle.asp_clauses.specs.Records.{row_at}
use Rattle.asp_clauses.specs.Visits.{consed}
use Rattle.asp_clauses.proofs.MoveLemmas.{TwoLinks, IsListed-watched, IsStore-linked, IsStore-watched, clauses_linked, length_linked, both_rows_sizes}
use Rattle.asp_clauses.proofs.watches.Watches.watch.Goals as goal

pub link-requires-2-clause-store : goal.link-requires-2-clause-store
link-requires-2-clause-store c = IsStore-linked c.args.self.now c.link.new.self c.args.self.now.watched 0 c.requires.watches.store c.link.ensures c.requires.left (omega arith)

pub returns-clause-watches : goal.returns-clause-watches
returns-clause-watches c =
    let old = c.args.self.now in let one = c.link.new.self in let two = c.link-2.new.self in
    let s = c.requires.watches.store in
    let b : TwoLinks old one two = record { first = c.link.ensures; second = c.link-2.ensures } in
    let s1 = IsStore-linked old one old.watched 0 s c.link.ensures c.requires.left (omega arith) in
    let len1 = length_linked old one old.watched 0 c.link.ensures in
    let len2 = length_linked one two old.watched 1 c.link-2.ensures in
    let s2 = IsStore-linked one two old.watched 1 s1 c.link-2.ensures (omega (arith, len1, c.requires.left)) (omega arith) in
    let new : Watches = record two { watched = two.watched + 1 } in
    let watched : two.watched ≡ old.watched = c.link-2.ensures.watched ∙ c.link.ensures.watched in
    let more : two.watched + 1 ≡ old.watched + 1 = ap (λ (n : ℕ). n + 1) watched in
    let size = both_rows_sizes old one two b c.requires.left in
    record {
      store = IsStore-watched two new s2 refl refl refl refl (omega (arith, watched, len1, len2, c.requires.left)) (subst (λ (n : ℕ). 0 < get_or (row_at two.records n) 0 0) (sym watched) (subst (λ (n : ℕ). 0 < n) (sym size) c.requires.size));
      listed = (
        consed (consed c.requires.watches.listed.0 (get_or (row_at old.records old.watched) 3 0) old.watched) (get_or (row_at old.records old.watched) 4 0) old.watched,
        IsListed-watched old one two new c.requires.watches.listed.0 s s1 b c.requires.left c.requires.size c.requires.watches.listed.1 refl refl refl more,
      );
    }

pub returns-clause-one_more : goal.returns-clause-one_more
returns-clause-one_more c =
    let old = c.args.self.now in let one = c.link.new.self in let two = c.link-2.new.self in
    let len1 = length_linked old one old.watched 0 c.link.ensures in
    let len2 = length_linked one two old.watched 1 c.link-2.ensures in
    record {
      atoms = c.link-2.ensures.atoms ∙ c.link.ensures.atoms;
      watched = ap (λ (n : ℕ). n + 1) (c.link-2.ensures.watched ∙ c.link.ensures.watched);
      clauses = clauses_linked one two old.watched 1 c.link-2.ensures (omega (arith, len1, c.requires.left)) (omega arith) ∙ clauses_linked old one old.watched 0 c.link.ensures c.requires.left (omega arith);
      as_many = len2 ∙ len1;
    }
