use Rattle.std.proofs.Common.{◌+◌, ◌-◌, length, take, drop, map, string_bytes, ap, sym, ◌∙◌, subst, refl}
use Rattle.std.specs.Prelude.{None}
use Rattle.asp_defs.specs.Words.{form_of, next_value}
use Rattle.asp_top.specs.declared.options.Options.{Options}
use Rattle.asp_top.specs.Commands.{served_options}
use Rattle.asp_top.specs.Options.{option_of}
use Rattle.asp_top.proofs.OptionSteps.{Reads, begins, reads_again_with, reads_again, reads_setting, reads_open, reads_number}
use Rattle.asp_top.proofs.options.+reading.Goals as goal

pub read_options-returns-then-has : goal.read_options-returns-then-has
read_options-returns-then-has m c =
    reads_again_with c.args.number c.args.options (map string_bytes c.args.words.now) _ (string_bytes c.word-item.result)
    (begins string_bytes c.args.words.now c.word-item.result c.in-len1-up.len_at_least c.word-item.is) c.form_of.result
    (c.form_of.ensures.form ∙ ap (form_of served_options) c.as_str.ensures.value)
    c.in-Read.option c.in-Read.value c.in-Read.is (sym c.has.ensures ∙ c.if-has.true)

pub read_options-returns-then-has-2 : goal.read_options-returns-then-has-2
read_options-returns-then-has-2 m c =
    reads_again c.args.number c.args.options (map string_bytes c.args.words.now) _ (string_bytes c.word-item.result)
    (begins string_bytes c.args.words.now c.word-item.result c.in-len1-up.len_at_least c.word-item.is) c.form_of.result
    (c.form_of.ensures.form ∙ ap (form_of served_options) c.as_str.ensures.value)
    c.in-Open.option c.in-Open.is (sym c.has-in-Open.ensures ∙ c.if-has-2.true)

pub read_options-returns-else-has : goal.read_options-returns-else-has
read_options-returns-else-has m c =
    reads_setting c.args.number c.args.options (map string_bytes c.args.words.now) _ (string_bytes c.word-item.result)
    (begins string_bytes c.args.words.now c.word-item.result c.in-len1-up.len_at_least c.word-item.is) c.form_of.result
    (c.form_of.ensures.form ∙ ap (form_of served_options) c.as_str.ensures.value)
    c.in-Read.option c.in-Read.value c.read_options.result c.in-Read.is c.in-Read.ensures.fits (sym c.has.ensures ∙ c.if-has.false)
    (subst (λ (o : Options). Reads (c.args.number + 1) o (map string_bytes (take (length c.args.words.now - 1) (drop 1 c.args.words.now))) None c.read_options.result)
    c.with.ensures c.read_options.ensures)

pub read_options-returns-else-has-2 : goal.read_options-returns-else-has-2
read_options-returns-else-has-2 m c =
    reads_open c.args.number c.args.options (map string_bytes c.args.words.now) _ (string_bytes c.word-item.result)
    (begins string_bytes c.args.words.now c.word-item.result c.in-len1-up.len_at_least c.word-item.is) c.form_of.result
    (c.form_of.ensures.form ∙ ap (form_of served_options) c.as_str.ensures.value)
    c.in-Open.option c.read_value.result c.in-Open.is (sym c.has-in-Open.ensures ∙ c.if-has-2.false) c.read_value.ensures

pub read_value-returns-in-Some : goal.read_value-returns-in-Some
read_value-returns-in-Some m c =
    reads_number c.args.number c.args.options (map string_bytes c.args.words.now) _ (string_bytes c.word-item.result)
    (begins string_bytes c.args.words.now c.word-item.result c.in-len1-up.len_at_least c.word-item.is)
    c.args.option c.next_value.result (c.next_value.ensures.value ∙ ap (next_value (option_of c.args.option)) c.as_bytes.ensures.value)
    c.in-Some.value c.read_options.result c.in-Some.is (c.in-Some.ensures.within c.in-Some.value refl) c.requires.fresh
    (subst (λ (o : Options). Reads (c.args.number + 1) o (map string_bytes (take (length c.args.words.now - 1) (drop 1 c.args.words.now))) None c.read_options.result)
    c.with.ensures c.read_options.ensures)
