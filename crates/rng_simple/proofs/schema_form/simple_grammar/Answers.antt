use Rattle.rng_model.specs.simple.Table.{grammar_of}
use Rattle.rng_simple.specs.views.GrammarTables.{table_of}
use Rattle.rng_simple.proofs.Grammars.GrammarOf.{made_is_grammar, made_is_only_grammar}
use Rattle.rng_simple.proofs.Grammars.KnownDatatypes.{grammar_known}
use Rattle.rng_simple.proofs.Tables.KnownPatterns.{patterns_known}
use Rattle.rng_simple.proofs.schema_form.simple_grammar.Goals as goal

pub with_types-requires : goal.with_types-requires
with_types-requires c =
    let types = c.args.types in
    let t = table_of types c.in_ok-tables.tables in
    let made = c.in_ok-tables.ensures.made types in
    let s = c.requires.datatypes.0 in
    let form = made_is_grammar s c.args.graph c.requires.datatypes.1 c.args.order.items c.requires.order (grammar_of t) made.made in
    let known = grammar_known types s c.requires.datatypes.2 (grammar_of t) form in
    c.in_ok-tables.ensures.table types (patterns_known t c.in_ok-tables.ensures.falls made.used known)

pub returns-clause-simple_form : goal.returns-clause-simple_form
returns-clause-simple_form c = λ s is. rw c.with_types.ensures
    (made_is_grammar s c.args.graph is c.args.order.items c.requires.order _ (c.in_ok-tables.ensures.made c.args.types).made)

pub returns-clause-only : goal.returns-clause-only
returns-clause-only c = λ s is. rw c.with_types.ensures
    (made_is_only_grammar s c.args.graph is c.args.order.items c.requires.order _ (c.in_ok-tables.ensures.made c.args.types).made)

pub returns-clause-used : goal.returns-clause-used
returns-clause-used c = rw c.with_types.ensures (c.in_ok-tables.ensures.made c.args.types).used

pub returns-clause-apart : goal.returns-clause-apart
returns-clause-apart c = rw c.with_types.ensures (c.in_ok-tables.ensures.made c.args.types).apart
