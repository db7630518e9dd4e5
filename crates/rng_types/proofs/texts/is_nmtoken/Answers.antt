use Rattle.std.proofs.Common.{ap, not, ◌≡◌, ◌==◌, length, false, true, sym, ◌∙◌, rules, tests}
use Rattle.std.proofs.lemmas.Iterator.{YieldsList-from_chars}
use Rattle.std.proofs.lemmas.Iterator.Search.{all_from_yields_List}
use Rattle.rng_model.specs.names.Names.{is_name_char}
use Rattle.rng_types.proofs.TextValues.{nmtoken-some, nmtoken-none}
use Rattle.rng_types.proofs.texts.is_nmtoken.Goals as goal

pub returns-then-not-is_empty : goal.returns-then-not-is_empty
returns-then-not-is_empty c =
    let some : (length c.args.text.now == 0) ≡ false = search rules in
    all_from_yields_List is_name_char _ _ c.all.result c.all.ensures.ran (YieldsList-from_chars c.args.text.now c.utf8.text c.chars.ensures.rest)
    (λ x b q k. search (rules, tests))
    ∙ sym (nmtoken-some c.args.text.now c.utf8.text some)

pub returns-else-not-is_empty : goal.returns-else-not-is_empty
returns-else-not-is_empty c =
    let none : (length c.args.text.now == 0) ≡ true = search rules in
    ap not c.if-not-is_empty.false ∙ sym (nmtoken-none c.args.text.now none)
