use Rattle.rng_model.specs.restrictions.Restrictions.{BreaksAttributeNames, BreaksElementNames, ClassIn}
use Rattle.rng_model.specs.simple.Table.{grammar_of}
use Rattle.rng_rules.specs.plain.Broken.{IsIntactBelow}
use Rattle.rng_rules.proofs.BrokenClauses as clauses
use Rattle.rng_rules.proofs.restrictions.first_broken.Goals as goal

pub returns-then-branch : goal.returns-then-branch
returns-then-branch c =
    let g = grammar_of c.args.grammar.now in
    let attribute_names = clauses.found g BreaksAttributeNames _ c.in_ok-attribute_names_meet.ensures.only c.in_ok-attribute_names_meet.ensures.all in
    let is = c.in_ok-broken.ensures in
    let intact_24 : IsIntactBelow g 24 = c.in_default.ensures g is in
    clauses.least_24 g _ intact_24 attribute_names c.if-branch.true

pub returns-then-broken : goal.returns-then-broken
returns-then-broken c =
    let g = grammar_of c.args.grammar.now in
    let attribute_names = clauses.found g BreaksAttributeNames _ c.in_ok-attribute_names_meet.ensures.only c.in_ok-attribute_names_meet.ensures.all in
    let b = c.in_ok-broken.broken in
    let is = c.in_ok-broken.ensures in
    let intact_24 : IsIntactBelow g 24 = c.in_default.ensures g is in
    let intact_25 = clauses.intact_25 g _ intact_24 attribute_names c.if-branch.false in
    clauses.least_25 g b is intact_25 c.if-broken.true

pub returns-then-branch-2 : goal.returns-then-branch-2
returns-then-branch-2 c =
    let g = grammar_of c.args.grammar.now in
    let element_names = clauses.found g (BreaksElementNames (ClassIn g)) _ c.in_ok-element_names_meet.ensures.only c.in_ok-element_names_meet.ensures.all in
    let attribute_names = clauses.found g BreaksAttributeNames _ c.in_ok-attribute_names_meet.ensures.only c.in_ok-attribute_names_meet.ensures.all in
    let b = c.in_ok-broken.broken in
    let is = c.in_ok-broken.ensures in
    let intact_24 : IsIntactBelow g 24 = c.in_default.ensures g is in
    let intact_25 = clauses.intact_25 g _ intact_24 attribute_names c.if-branch.false in
    let intact_26 = clauses.intact_26 g b is intact_25 c.if-broken.false in
    clauses.least_26 g _ intact_26 element_names c.if-branch-2.true

pub returns-then-broken-2 : goal.returns-then-broken-2
returns-then-broken-2 c =
    let g = grammar_of c.args.grammar.now in
    let element_names = clauses.found g (BreaksElementNames (ClassIn g)) _ c.in_ok-element_names_meet.ensures.only c.in_ok-element_names_meet.ensures.all in
    let attribute_names = clauses.found g BreaksAttributeNames _ c.in_ok-attribute_names_meet.ensures.only c.in_ok-attribute_names_meet.ensures.all in
    let b = c.in_ok-broken.broken in
    let is = c.in_ok-broken.ensures in
    let intact_24 : IsIntactBelow g 24 = c.in_default.ensures g is in
    let intact_25 = clauses.intact_25 g _ intact_24 attribute_names c.if-branch.false in
    let intact_26 = clauses.intact_26 g b is intact_25 c.if-broken.false in
    let intact_27 = clauses.intact_27 g _ intact_26 element_names c.if-branch-2.false in
    clauses.least_27 g b is intact_27 c.if-broken-2.true

pub returns : goal.returns
returns c =
    let g = grammar_of c.args.grammar.now in
    let element_names = clauses.found g (BreaksElementNames (ClassIn g)) _ c.in_ok-element_names_meet.ensures.only c.in_ok-element_names_meet.ensures.all in
    let attribute_names = clauses.found g BreaksAttributeNames _ c.in_ok-attribute_names_meet.ensures.only c.in_ok-attribute_names_meet.ensures.all in
    let b = c.in_ok-broken.broken in
    let is = c.in_ok-broken.ensures in
    let intact_24 : IsIntactBelow g 24 = c.in_default.ensures g is in
    let intact_25 = clauses.intact_25 g _ intact_24 attribute_names c.if-branch.false in
    let intact_26 = clauses.intact_26 g b is intact_25 c.if-broken.false in
    let intact_27 = clauses.intact_27 g _ intact_26 element_names c.if-branch-2.false in
    clauses.none_broken g (clauses.intact_28 g b is intact_27 c.if-broken-2.false)
