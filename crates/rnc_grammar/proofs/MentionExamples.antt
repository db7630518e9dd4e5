-- Worked examples of the files that a schema file mentions (RELAX NG Specification, sections 4.6 and 4.7).
use Rattle.std.proofs.Common.{◌≡◌, refl, ℕ, List, [], ◌∷◌, codes}
use Rattle.rng_model.specs.simple.Tree.{group}
use Rattle.rng_model.specs.declared.method.Method.TheVariants as methods
use Rattle.rnc_model.specs.grammar.Syntax.{applied, Mention, inherited, any_name, element, external, grammar, ref, text, members, ComponentAt, start, define}
use Rattle.rnc_model.specs.grammar.Syntax.{div, include, components_of}
use Rattle.rnc_model.specs.declarations.FileTree.{pattern_file, grammar_file}
use Rattle.rnc_model.specs.loading.Mentions.{external_file, included_file, mentions_of}

-- a mention of the file of this name, by the word with this number
abbrev mention : List ℕ → ℕ → Mention applied
mention name number = record { href = name; inherit = inherited; token = number }

-- `element * { external "x" }`
pub in_an_element : mentions_of (pattern_file (element any_name (external (mention (codes "x") 4)))) ≡ external_file (mention (codes "x") 4) ∷ []
in_an_element = refl

-- `include "g" { start = external "x" }`: the file of the include, and then the external in its braces
abbrev in_braces : List (ComponentAt applied)
in_braces = start methods.Plain (external (mention (codes "x") 6)) ∷ []

pub in_the_braces : mentions_of (grammar_file (components_of (include (mention (codes "g") 1) (components_of in_braces) ∷ []))) ≡
    included_file (mention (codes "g") 1) (components_of in_braces) ∷ external_file (mention (codes "x") 6) ∷ []
in_the_braces = refl

-- `start = a, external "x"`, `div { include "g" }` and `a = grammar { include "g" }`: a file that is mentioned twice,
-- in a `div` and in a nested grammar
pub in_order : mentions_of (grammar_file (components_of (start methods.Plain (members group (ref (codes "a") ∷ external (mention (codes "x") 5) ∷ []))
    ∷ div (components_of (include (mention (codes "g") 9) (components_of []) ∷ []))
    ∷ define (codes "a") methods.Plain (grammar (components_of (include (mention (codes "g") 16) (components_of []) ∷ []))) ∷ []))) ≡
    external_file (mention (codes "x") 5) ∷ included_file (mention (codes "g") 9) (components_of [])
    ∷ included_file (mention (codes "g") 16) (components_of []) ∷ []
in_order = refl

-- `element * { text }`
pub none_mentioned : mentions_of (pattern_file (element any_name text)) ≡ []
none_mentioned = refl
