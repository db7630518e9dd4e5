use Rattle.std.proofs.Common.{◌∙◌, ap, length, map, option_map, sym}
use Rattle.rnc_grammar.specs.views.Resolved.{scope_view}
use Rattle.rnc_model.specs.declarations.Declarations.{nothing_declared}
use Rattle.rnc_places.specs.plain.BrokenDatatypes.{applied}
use Rattle.rnc_places.specs.views.DatatypeUses.{use_of}
use Rattle.rnc_syntax.specs.plain.Reading.{lexemes_in}
use Rattle.rnc_syntax.specs.views.SyntaxView.{declaration_of, file_of}
use Rattle.rnc_places.proofs.DatatypeSteps.{told_number}
use Rattle.rnc_places.proofs.datatypes.number_in.Goals as goal

pub returns-in-Some-2 : goal.returns-in-Some-2
returns-in-Some-2 c =
    let n = length c.args.tokens.now in
    told_number c.args.types (file_of c.args.file.now) n c.args.tokens.now c.in-Some.rest.now (scope_view c.in-Some.scope) (map use_of c.deref-2.result.now)
    c.in-Some-2.count c.name_number.result
    (ap (λ ds. applied nothing_declared (map declaration_of ds) (lexemes_in n c.args.tokens.now)) (sym c.deref.ensures.value)
    ∙ sym (c.in_ok-scope.ensures.is n) ∙ ap (option_map (λ x. (scope_view x.0, lexemes_in n x.1.now))) c.in-Some.is)
    (ap (map use_of) c.deref-2.ensures.value ∙ c.in_ok-uses.ensures) (sym c.in_ok-count.ensures ∙ c.in-Some-2.is) (c.name_number.ensures.number n)
