use Rattle.std.proofs.Common.{ap, sym, option_copied}
use Rattle.asp_print.specs.Members.{member_text}
use Rattle.asp_print.proofs.Members.{some_leads}
use Rattle.asp_print.proofs.Writing.{as_text, nothing, answered}
use Rattle.asp_print.proofs.sets.print_member.Goals as goal

pub returns-in-None-clause-text : goal.returns-in-None-clause-text
returns-in-None-clause-text g c =
    as_text (ap (λ o. member_text c.args.is_led (option_copied o)) (sym c.in-None.is)) (answered c.args.is_led (nothing _ _ _))

pub returns-in-Some-clause-text : goal.returns-in-Some-clause-text
returns-in-Some-clause-text g c =
    as_text (ap (λ o. member_text c.args.is_led (option_copied o)) (sym c.in-Some.is)) c.print_behind_lead.ensures.text

pub returns-in-Some-clause-next : goal.returns-in-Some-clause-next
returns-in-Some-clause-next g c =
    some_leads c.print_behind_lead.result c.args.is_led (option_copied c.args.atom) _ (ap option_copied c.in-Some.is) c.print_behind_lead.ensures.next
