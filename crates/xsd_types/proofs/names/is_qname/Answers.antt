use Rattle.std.proofs.Common.{◌&&◌, ap, ap₂, ◌∙◌, sym, arith, None, Some}
use Rattle.std.specs.Str.{chars}
use Rattle.std.proofs.lemmas.Str.Pattern.{split_once_first}
use Rattle.std.proofs.lemmas.Bool.{and_left}
use Rattle.rng_model.specs.names.Names.{is_ncname}
use Rattle.xsd_types.proofs.NameParts.{qname-one, qname-two}
use Rattle.xsd_types.proofs.names.is_qname.Goals as goal

pub returns-in-None : goal.returns-in-None
returns-in-None c = c.is_ncname-in-None.ensures
    ∙ sym (qname-one c.args.text.now (split_once_first 58 c.args.text.now None c.in-None.ensures.cases (omega arith)))

pub returns-then-is_ncname : goal.returns-then-is_ncname
returns-then-is_ncname c =
    let parts = split_once_first 58 c.args.text.now (Some (c.in-Some.prefix, c.in-Some.local)) c.in-Some.ensures.cases (omega arith) in
    c.is_ncname-then-is_ncname.ensures ∙ ap (λ b. b && is_ncname (chars c.in-Some.local.now)) (sym (sym c.is_ncname.ensures ∙ c.if-is_ncname.true))
    ∙ ap₂ (λ p n. is_ncname (chars p) && is_ncname (chars n)) parts.1 parts.2 ∙ sym (qname-two c.args.text.now parts.0 c.utf8.text)

pub returns-else-is_ncname : goal.returns-else-is_ncname
returns-else-is_ncname c =
    let parts = split_once_first 58 c.args.text.now (Some (c.in-Some.prefix, c.in-Some.local)) c.in-Some.ensures.cases (omega arith) in
    c.if-is_ncname.false ∙ sym (and_left (is_ncname (chars c.in-Some.prefix.now)) (is_ncname (chars c.in-Some.local.now)) (sym c.is_ncname.ensures
    ∙ c.if-is_ncname.false))
    ∙ ap₂ (λ p n. is_ncname (chars p) && is_ncname (chars n)) parts.1 parts.2 ∙ sym (qname-two c.args.text.now parts.0 c.utf8.text)
